use Rattle.std.proofs.Common.{◌≡◌, ◌≢◌, ◌∙◌, sym, ℕ, ◌+◌, ◌-◌, ◌/◌, ◌<◌, ◌≤◌, length, get_or, arith}
use Rattle.std.proofs.Math.Nat.{div-mul-le_self}
use Rattle.lrat_tool.specs.Held.{id_place}
use Rattle.lrat_tool.proofs.Ids.{is_missing, place_found, place_none, rises_at, rises_between}
use Rattle.lrat_tool.proofs.places.place_of_id.Goals.{else-low-ids-via-then-low-ids+else-from-id-2, else-low-ids-via-else-low-ids}
use Rattle.lrat_tool.proofs.places.place_of_id.Goals as goal

middle_less : (a b : ℕ) → a < b → a + (b - a) / 2 < b
middle_less a b h = omega (arith, h, div-mul-le_self (b - a) 2)

pub loop-low-preserved-then-from-id : goal.loop-low-preserved-then-from-id
loop-low-preserved-then-from-id c =
    let ids = c.args.ids.now in
    let low = c.loop-low.low in
    let high = c.loop-low.high in
    let less : low + (high - low) / 2 < high = middle_less low high c.loop-low-test.true in
    let within = c.loop-low.invariant.within in
    record {
      order = omega (arith, less);
      within = within;
      below = λ k l. omega (arith, rises_between c.args.first ids k (low + (high - low) / 2) c.requires.rises (omega (arith, l)) (omega (arith, less, within)), c.from.ensures, c.if-from-id.true, l);
      above = c.loop-low.invariant.above;
    }

pub loop-low-preserved : goal.loop-low-preserved
loop-low-preserved c =
    let ids = c.args.ids.now in
    let low = c.loop-low.low in
    let high = c.loop-low.high in
    let less : low + (high - low) / 2 < high = middle_less low high c.loop-low-test.true in
    let within = c.loop-low.invariant.within in
    record {
      order = omega arith;
      within = omega (arith, less, within);
      below = c.loop-low.invariant.below;
      above = λ k m l. omega (arith, rises_between c.args.first ids (low + (high - low) / 2) k c.requires.rises m l, c.from.ensures, c.if-from-id.false, m);
    }

pub overflow_cast-result : goal.overflow_cast-result
overflow_cast-result c = record { fits = omega (arith, rises_at c.args.first c.args.ids.now c.loop-low.low c.requires.rises (omega arith), (c.type_inv.ids c.loop-low.low).fits) }

pub overflow_add-result-then-from-id-2 : goal.overflow_add-result-then-from-id-2
overflow_add-result-then-from-id-2 c = record { fits = omega (arith, rises_at c.args.first c.args.ids.now c.loop-low.low c.requires.rises (omega arith), (c.type_inv.ids c.loop-low.low).fits) }

pub returns-then-from-id-2 : goal.returns-then-from-id-2
returns-then-from-id-2 c =
    let ids = c.args.ids.now in
    let is : get_or ids c.loop-low.low 0 ≡ c.args.id = omega (arith, c.from-then-low-ids.ensures, c.if-from-id-2.true) in
    sym (place_found (c.args.first + 1) ids c.loop-low.low c.args.id (omega arith) is c.loop-low.invariant.below)

pub returns-else-low-ids : goal.returns-else-low-ids
returns-else-low-ids c =
    let ids = c.args.ids.now in
    let low = c.loop-low.low in
    let above : (j : ℕ) → low ≤ j → j < length ids → c.args.id ≤ get_or ids j 0 = λ j m l. c.loop-low.invariant.above j (omega (arith, m, c.loop-low-test.false)) l in
    let missing : (low < length ids → get_or ids low 0 ≢ c.args.id) → 0 ≡ id_place (c.args.first + 1) ids c.args.id =
    λ other. sym (place_none (c.args.first + 1) ids c.args.id (is_missing c.args.first ids c.args.id low c.requires.rises c.loop-low.invariant.below above other)) in
    elim c.else-low-ids.branch [
      | else-low-ids-via-then-low-ids+else-from-id-2 w ↦ missing (λ l e. w.if-from-id-2.false (w.from-then-low-ids.ensures ∙ e))
      | else-low-ids-via-else-low-ids w ↦ missing (λ l e. absurd (omega (arith, l, w.if-low-ids.false)))
    ]
