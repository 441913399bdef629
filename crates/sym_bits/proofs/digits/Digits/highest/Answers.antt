use Rattle.std.proofs.Common.{rules, ◌≡◌, ◌≤◌, ◌<◌, ◌+◌, ◌-◌, ℕ, length, map, take, get_or, sym, ◌∙◌, ap, arith, length-take}
use Rattle.bfr_store.specs.declared.edge.Edge.{Edge}
use Rattle.sym_bits.specs.Columns.{onto, sign_value}
use Rattle.sym_bits.proofs.Columns.{onto_less}
use Rattle.sym_bits.proofs.Edges.{edge_same, element_of}
use Rattle.sym_bits.proofs.digits.Digits.highest.Goals as goal

pub loop-len-preserved : goal.loop-len-preserved
loop-len-preserved c =
    let es = c.args.self.now in
    let n = c.loop-len.len - 1 in
    let zero_edge : Edge = record { number = 0 } in
    let l : n < length es = omega (arith, c.loop-len.invariant.most, c.loop-len-test.true) in
    let up : n + 1 ≡ c.loop-len.len = omega (arith, c.loop-len-test.true) in
    let inside = c.self.inside in
    let is : get_or es n zero_edge ≡ c.args.sign =
    ap (λ xs. get_or xs n zero_edge) (sym c.self.view_is)
    ∙ (element_of inside.edges n inside.len zero_edge zero_edge (omega (arith, l, ap length c.self.view_is, length-take inside.len inside.edges)) (omega (arith, c.self.invariant.0, c.self.invariant.1))
    ∙ edge_same (get_or inside.edges n zero_edge) c.args.sign (sym c.if-eq.true ∙ c.eq.ensures)) in
    record {
      most = omega arith;
      value = λ truth. sym (onto_less truth es n c.args.sign zero_edge l is) ∙ (ap (λ k. onto (map truth (take k es)) (sign_value (truth c.args.sign))) up ∙ c.loop-len.invariant.value truth);
    }
