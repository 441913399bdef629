use Rattle.std.proofs.Common.{◌∙◌, ap, sym, subst, ℕ, List, arith, set}
use Rattle.bfr_store.specs.declared.edge.Edge.{Edge}
use Rattle.bfr_store.proofs.Keeping.{keeps_then}
use Rattle.bdd_store.specs.contracts.bits.BddMeaning.TheImpl as diagrams
use Rattle.bdd_param.specs.Images.{IsParametrised}
use Rattle.bdd_param.specs.Kept.{Adds, IsKept}
use Rattle.bdd_param.proofs.Keeping.{adds_one, adds_then, at_first, at_same, depends_below, kept_later, kept_one, with_one}
use Rattle.bdd_param.proofs.Steps.{high_below, low_below}
use Rattle.bdd_param.proofs.Walks.{high_made, low_made, test_for, true_edge}
use Rattle.bdd_param.proofs.walk.+walk.Goals as goal

pub walk-returns-in_default-clause-at : goal.walk-returns-in_default-clause-at
walk-returns-in_default-clause-at t c =
    let k = c.in_default.ensures in
    at_first c.args.store.now c.args.kept.now c.args.e c.requires.live (λ a. k.always a ∙ true_edge c.args.e k.constant c.requires.open) c.requires.kept

pub walk-returns-clause-kept : goal.walk-returns-clause-kept
walk-returns-clause-kept t c =
    let v = c.in_ok-vector.ensures in
    let m = c.walk_test.new.kept in
    let s = c.walk_test.new.store in
    subst (IsKept s) (sym c.in_ok-keep.ensures.kept)
    (kept_one s m c.args.e c.in_ok-vector.vector v.kept (v.keeps.stays c.args.e c.requires.live) (omega (arith, v.adds.places, c.requires.place)) (subst (λ (w : ℕ). IsParametrised s c.args.e w c.in_ok-vector.vector) (sym v.adds.width) v.vector))

pub walk-returns-clause-adds : goal.walk-returns-clause-adds
walk-returns-clause-adds t c =
    let v = c.in_ok-vector.ensures in
    let m = c.walk_test.new.kept in
    subst (Adds c.args.kept.now) (sym c.in_ok-keep.ensures.kept) (adds_then c.args.kept.now m (with_one m c.args.e c.in_ok-vector.vector) v.adds (adds_one m c.args.e c.in_ok-vector.vector))

pub walk_high-walk-requires : goal.walk_high-walk-requires
walk_high-walk-requires t c =
    let s = c.args.store.now in
    let e = c.requires.test in
    (omega (arith, e.high_below), (e.high, ((λ h. e.differ (h ∙ sym c.requires.zero)), (high_below s c.args.e c.args.test.high c.args.test.low c.args.test.variable c.args.kept.now.width e.says e.high_past e.low_past c.requires.depends, (omega (arith, e.high_below, c.requires.place), c.requires.kept)))))

pub walk_low-walk-requires : goal.walk_low-walk-requires
walk_low-walk-requires t c =
    let s = c.args.store.now in
    let e = c.requires.test in
    (omega (arith, e.low_below), (e.low, (c.requires.open, (low_below s c.args.e c.args.test.high c.args.test.low c.args.test.variable c.args.kept.now.width e.says e.high_past e.low_past c.requires.depends, (omega (arith, e.low_below, c.requires.place), c.requires.kept)))))

pub walk_both-walk-requires : goal.walk_both-walk-requires
walk_both-walk-requires t c =
    let s = c.args.store.now in
    let e = c.requires.test in
    (omega (arith, e.high_below), (e.high, (c.requires.high, (high_below s c.args.e c.args.test.high c.args.test.low c.args.test.variable c.args.kept.now.width e.says e.high_past e.low_past c.requires.depends, (omega (arith, e.high_below, c.requires.place), c.requires.kept)))))

pub walk_both-walk-requires-2 : goal.walk_both-walk-requires-2
walk_both-walk-requires-2 t c =
    let s = c.args.store.now in
    let e = c.requires.test in
    let h = c.in_ok-high.ensures in
    let w = c.walk.new.kept.width in
    let below = low_below s c.args.e c.args.test.high c.args.test.low c.args.test.variable c.args.kept.now.width e.says e.high_past e.low_past c.requires.depends in
    (omega (arith, e.low_below), (h.keeps.stays c.args.test.low e.low, (c.requires.low, (depends_below s c.walk.new.store h.keeps c.args.test.low w e.low (λ a b same. below a b (λ k inside. same k (omega (arith, inside, h.adds.width)))), (omega (arith, e.low_below, c.requires.place, h.adds.places), h.kept)))))

pub walk_high-returns-clause-vector : goal.walk_high-returns-clause-vector
walk_high-returns-clause-vector t c =
    let h = c.in_ok-high.ensures in
    let m = c.walk.new.kept in
    high_made c.args.store.now c.walk.new.store h.keeps c.args.e c.args.test c.requires.live c.requires.test c.args.kept.now.width c.requires.depends m h.adds.width c.in_ok-high.high c.requires.never c.constant-one.result c.constant-one.ensures.live c.constant-one.ensures.truth h.at
    c.in_ok-vector.vector (c.in_ok-vector.ensures ∙ ap (λ (es : List Edge). set es c.args.test.variable c.constant-one.result) c.vector.ensures)

pub walk_low-returns-clause-vector : goal.walk_low-returns-clause-vector
walk_low-returns-clause-vector t c =
    let h = c.in_ok-low.ensures in
    let m = c.walk.new.kept in
    low_made c.args.store.now c.walk.new.store h.keeps c.args.e c.args.test c.requires.live c.requires.test c.args.kept.now.width c.requires.depends m h.adds.width c.in_ok-low.low c.requires.never c.constant-zero.result c.constant-zero.ensures.live c.constant-zero.ensures.truth h.at
    c.in_ok-vector.vector (c.in_ok-vector.ensures ∙ ap (λ (es : List Edge). set es c.args.test.variable c.constant-zero.result) c.vector.ensures)

pub walk_both-chosen-requires-clause-high : goal.walk_both-chosen-requires-clause-high
walk_both-chosen-requires-clause-high t c =
    let l = c.in_ok-low.ensures in
    at_same c.walk.new.store c.walk-2.new.store l.keeps c.walk.new.kept c.walk-2.new.kept c.args.test.high c.in_ok-high.high l.adds c.in_ok-high.ensures.at

pub walk_both-returns-clause-kept : goal.walk_both-returns-clause-kept
walk_both-returns-clause-kept t c = kept_later c.walk-2.new.store c.chosen.new.store c.in_ok-vector.ensures.keeps c.walk-2.new.kept c.in_ok-low.ensures.kept

pub walk_both-returns-clause-adds : goal.walk_both-returns-clause-adds
walk_both-returns-clause-adds t c = adds_then c.args.kept.now c.walk.new.kept c.walk-2.new.kept c.in_ok-high.ensures.adds c.in_ok-low.ensures.adds

pub walk_both-returns-clause-vector : goal.walk_both-returns-clause-vector
walk_both-returns-clause-vector t c =
    let h = c.in_ok-high.ensures in
    let l = c.in_ok-low.ensures in
    let v = c.in_ok-vector.ensures in
    let s = c.args.store.now in
    let end = c.chosen.new.store in
    let both = keeps_then diagrams.ghosts s c.walk-2.new.store end (keeps_then diagrams.ghosts s c.walk.new.store c.walk-2.new.store h.keeps l.keeps) v.keeps in
    subst (λ (w : ℕ). IsParametrised end c.args.e w c.in_ok-vector.vector) (l.adds.width ∙ h.adds.width) (v.vector c.args.e (test_for s end both c.args.e c.args.test c.requires.live c.requires.test))
