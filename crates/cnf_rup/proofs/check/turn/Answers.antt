use Rattle.std.proofs.Common.{◌≡◌, ◌≢◌, ◌∙◌, ap, sym, arith, pos, neg_ℤ, ℤ, get_or, true, false, refl, rules, to_z-of_z, of_z, FitsSigned, w32, Some}
use Rattle.cnf_rup.specs.Shown.{is_among}
use Rattle.cnf_rup.proofs.Turns.{rest_turn, turn-true, turn-second, turn-done, unit-free}
use Rattle.cnf_rup.proofs.check.turn.Goals as goal

pub returns-then-is_true-clause-turn : goal.returns-then-is_true-clause-turn
returns-then-is_true-clause-turn c =
    let known = c.args.trail.now.literals in
    let i = c.loop-literal.literal-index in
    let l : ℤ = get_or c.args.clause.now i (pos 0) in
    let fits : FitsSigned w32 (get_or c.args.clause.now i (pos 0)) = search rules in
    let not_false : is_among known (neg_ℤ (get_or c.args.clause.now i (pos 0))) ≡ false = simp to_z-of_z at (sym c.if-is_false.ensures) in
    let known_it : is_among known (get_or c.args.clause.now i (pos 0)) ≡ true = simp to_z-of_z at (sym c.if-is_true.ensures.value) in
    sym (turn-true known c.args.clause.now i (get_or c.args.clause.now i (pos 0)) (pos 0) (omega arith) refl c.loop-literal.free c.loop-literal.invariant.free not_false known_it) ∙ c.loop-literal.invariant.rest

pub returns-in-Some-clause-turn : goal.returns-in-Some-clause-turn
returns-in-Some-clause-turn c =
    let known = c.args.trail.now.literals in
    let i = c.loop-literal.literal-index in
    let fits : FitsSigned w32 (get_or c.args.clause.now i (pos 0)) = search rules in
    let not_false : is_among known (neg_ℤ (get_or c.args.clause.now i (pos 0))) ≡ false = simp to_z-of_z at (sym c.if-is_false.ensures) in
    let other : c.in-Some.other ≢ get_or c.args.clause.now i (pos 0) = λ e. c.if-other-literal.true (ap (of_z w32) e) in
    sym (turn-second known c.args.clause.now i (get_or c.args.clause.now i (pos 0)) (pos 0) (omega arith) refl c.in-Some.other not_false other)
    ∙ ap (λ o. rest_turn known c.args.clause.now o i) (sym c.in-Some.is) ∙ c.loop-literal.invariant.rest

pub returns-in-Some-free-clause-unit : goal.returns-in-Some-free-clause-unit
returns-in-Some-free-clause-unit c l e =
    let known = c.args.trail.now.literals in
    let fits : FitsSigned w32 c.in-Some-free.literal = search rules in
    unit-free c.args.trail.now.room known c.args.clause.now l c.requires.within
    (sym c.loop-literal.invariant.rest ∙ ap (λ o. rest_turn known c.args.clause.now o c.loop-literal.literal-index) c.in-Some-free.is
    ∙ turn-done known c.args.clause.now (Some c.in-Some-free.literal) c.loop-literal.literal-index (omega arith) ∙ (simp to_z-of_z at e))
