use Rattle.std.proofs.Common.{◌≡◌, ◌<◌, ◌&&◌, true, false, sym, ap, ◌∙◌, arith, length, get_or, rules}
use Rattle.std.proofs.lemmas.List.{get_or_read}
use Rattle.gl_logic.specs.Assignments.{value_at}
use Rattle.bfr_store.specs.Edges.{node_of}
use Rattle.aig_store.specs.declared.node.AigNode.{AigNode}
use Rattle.aig_store.specs.declared.node.AigNode.TheVariants.{Constant, Var, And}
use Rattle.aig_store.specs.Nodes.{node_at, truth_of}
use Rattle.aig_store.proofs.Nodes.{value-says, gate-at, marked-says}
use Rattle.aig_store.proofs.walk.next_step.Goals as goal

pub returns-in-Constant : goal.returns-in-Constant
returns-in-Constant c = sym (value-says c.args.nodes.now _ c.requires.ordered c.args.number Constant c.requires.within c.in-Constant.is (value_at c.args.a.now))

pub returns-in-Var : goal.returns-in-Var
returns-in-Var c = c.get.ensures ∙ sym (value-says c.args.nodes.now _ c.requires.ordered c.args.number (Var c.in-Var.k) c.requires.within c.in-Var.is (value_at c.args.a.now))

pub returns-in-Some : goal.returns-in-Some
returns-in-Some c =
    let nodes = c.args.nodes.now in let a = value_at c.args.a.now in
    let x = c.in-And.x in let y = c.in-And.y in
    let gate = gate-at nodes _ c.requires.ordered c.args.number x y c.requires.within c.in-And.is in
    let first : truth_of nodes x a ≡ true = marked-says nodes a c.args.call c.args.marks.now x c.in-Some-true.field-0 c.requires.one_each c.requires.right (omega (arith, gate.apart, gate.below, c.requires.within)) c.in-Some-true.ensures.some.0 c.in-Some-true.ensures.some.1 ∙ c.in-Some-true.field-0-test in
    let second : truth_of nodes y a ≡ c.in-Some.value = marked-says nodes a c.args.call c.args.marks.now y c.in-Some.value c.requires.one_each c.requires.right (omega (arith, gate.below, c.requires.within)) c.in-Some.ensures.some.0 c.in-Some.ensures.some.1 in
    sym (value-says nodes _ c.requires.ordered c.args.number (And x y) c.requires.within c.in-And.is a ∙ (λ j. first j && second j))

pub returns-in-Some-false : goal.returns-in-Some-false
returns-in-Some-false c =
    let nodes = c.args.nodes.now in let a = value_at c.args.a.now in
    let x = c.in-And.x in let y = c.in-And.y in
    let gate = gate-at nodes _ c.requires.ordered c.args.number x y c.requires.within c.in-And.is in
    let first : truth_of nodes x a ≡ false = marked-says nodes a c.args.call c.args.marks.now x c.in-Some-false.field-0 c.requires.one_each c.requires.right (omega (arith, gate.apart, gate.below, c.requires.within)) c.in-Some-false.ensures.some.0 c.in-Some-false.ensures.some.1 ∙ c.in-Some-false.field-0-test in
    sym (value-says nodes _ c.requires.ordered c.args.number (And x y) c.requires.within c.in-And.is a ∙ (λ j. first j && truth_of nodes y a))
