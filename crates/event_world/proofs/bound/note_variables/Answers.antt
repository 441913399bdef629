use Rattle.std.proofs.Common.{◌≡◌, ◌∙◌, ap, sym, refl, ◌+◌, suc, Bool, true, false, ◌||◌, [], take, eqb, arith}
use Rattle.std.specs.List.{list_any}
use Rattle.shape_spec.specs.Indices.{variables_of}
use Rattle.gl_logic.proofs.NameSets.{bound_more}
use Rattle.event_world.proofs.bound.note_variables.Goals as goal

or_false : (a : Bool) → (a || false) ≡ a
or_false true = refl
or_false false = refl

pub loop-i-preserved : goal.loop-i-preserved
loop-i-preserved c =
    let vs = variables_of c.args.bindings.now in
    let i = c.loop-i.i in
    let k : suc i ≡ i + 1 = omega arith in
    λ u. bound_more vs [] c.loop-i.names c.insert.new.self i c.variable.result.number c.in_ok-insert.field-0 c.variable.ensures c.in_ok-insert.ensures.new c.in_ok-insert.ensures.ok (λ v. c.loop-i.invariant v ∙ sym (or_false (list_any (eqb v) (take i vs)))) u
    ∙ (or_false (list_any (eqb u) (take (suc i) vs)) ∙ ap (λ n. list_any (eqb u) (take n vs)) k)
