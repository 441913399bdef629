use Rattle.std.proofs.Common.{rules, ◌≡◌, ◌≤◌, ◌<◌, ◌+◌, ◌++◌, ◌∷◌, [], ℕ, Bool, map, length, take, IsTrue, ◌-◌, sym, ◌∙◌, ap, arith, length-take}
use Rattle.bfr_store.specs.declared.edge.Edge.{Edge}
use Rattle.gl_logic.specs.TwosComplement.{integer_of}
use Rattle.sym_bits.specs.Columns.{onto, sign_value}
use Rattle.sym_bits.proofs.Columns.{with_sign}
use Rattle.sym_bits.proofs.Edges.{written}
use Rattle.sym_bits.proofs.digits.Digits.finish.Goals as goal

pub returns-clause-value : goal.returns-clause-value
returns-clause-value c truth =
    let inside = c.self.inside in
    let n = c.highest-len.result in
    let is : c.of.result ≡ take c.highest-len.result c.args.self ++ c.args.sign ∷ [] =
    c.of.ensures ∙ (written inside.edges n inside.len c.args.sign (omega (arith, c.highest-len.ensures.most, ap length c.self.view_is, length-take inside.len inside.edges)) (omega (arith, c.self.invariant.0, c.self.invariant.1))
    ∙ ap (λ es. take n es ++ c.args.sign ∷ []) c.self.view_is) in
    ap (λ es. integer_of (map truth es)) is ∙ (with_sign truth (take c.highest-len.result c.args.self) c.args.sign ∙ c.highest-len.ensures.value truth)
