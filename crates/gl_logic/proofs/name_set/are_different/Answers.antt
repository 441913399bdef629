use Rattle.std.proofs.Common.{◌≡◌, eqb, arith, true, false, ◌++◌, ◌∷◌, []}
use Rattle.std.specs.Prelude.{not}
use Rattle.std.specs.List.{list_any}
use Rattle.gl_logic.proofs.NameSets.{differ_less, differ_more}
use Rattle.gl_logic.proofs.name_set.are_different.Goals as goal

pub returns-then-not-branch : goal.returns-then-not-branch
returns-then-not-branch c =
    let v = c.at.result.now.number in
    let told : false ≡ not (list_any (eqb v) c.loop-left.seen) = rw c.if-not-branch.true at c.in_ok-insert.ensures.new in
    differ_less c.args.names.now c.loop-left.left v c.loop-left.seen (omega (arith, c.loop-left-test.true)) c.at.ensures c.loop-left.invariant.has told

pub loop-left-preserved : goal.loop-left-preserved
loop-left-preserved c =
    let v = c.at.result.now.number in
    let told : true ≡ not (list_any (eqb v) c.loop-left.seen) = rw c.if-not-branch.false at c.in_ok-insert.ensures.new in
    let grown : c.insert.new.self ≡ c.loop-left.seen ++ v ∷ [] = rw c.if-not-branch.false at c.in_ok-insert.ensures.ok in
    let more = differ_more c.args.names.now c.loop-left.left v c.loop-left.seen (omega (arith, c.loop-left-test.true)) c.at.ensures c.loop-left.invariant.has c.insert.new.self c.loop-left.invariant.different told grown in
    record { within = omega (arith, c.loop-left.invariant.within); different = more.0; has = more.1 }
