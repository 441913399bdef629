use Rattle.std.proofs.Common.{◌≡◌, ◌∙◌, ap, sym, subst, ℕ, ◌+◌, ◌-◌, ◌<◌, [], ◌∷◌, ◌++◌, List, true, length, refl, arith}
use Rattle.std.specs.List.{list_all}
use Rattle.std.proofs.lemmas.Result.{err_from_is_err_and}
use Rattle.shape_spec.specs.ShapeSeen.{ShapeSeen}
use Rattle.shape_spec.specs.ShapeOf.{shape_of}
use Rattle.shape_spec.specs.Indices.{variables_of, width_of, IsBindings}
use Rattle.gl_logic.specs.Wording.{is_legal}
use Rattle.shape_spec.specs.BindingsMeant.{entry_meant, checked}
use Rattle.shape_spec.specs.Gives.{fits, entry_within, entry_left}
use Rattle.shape_spec.proofs.InReverse.{started, read_more, read_all, left_of}
use Rattle.shape_spec.proofs.Fits.{gives_err, refuses_none}
use Rattle.shape_spec.proofs.Bound.{bindings_none}
use Rattle.shape_spec.proofs.BindingSteps.{bindings_good, good_to, legal_push, checked_at, entry_bad, entry_none, entry_some, added_bad}
use Rattle.shape_spec.proofs.binding_form.add_entries.Goals as goal

pub loop-place-init : goal.loop-place-init
loop-place-init c =
    let names = c.args.setting.now.texts.now in
    let f = entry_meant names c.args.setting.now.quasi in
    let none = c.requires.none in
    record {
      within = omega arith;
      so_far = started f c.args.entries.now (length c.args.entries.now) refl ∙ ap (λ (d : List (ℕ × ShapeSeen)). left_of f c.args.entries.now d (length c.args.entries.now)) (sym none);
      proper = subst IsBindings (sym none) bindings_none;
      left = ap (λ (d : List (ℕ × ShapeSeen)). 1024 + width_of d) none;
      legal = ap (λ (d : List (ℕ × ShapeSeen)). list_all (is_legal names) (variables_of d)) none;
      seen = c.requires.none_seen ∙ ap variables_of (sym none);
    }

pub returns-in_err-variable : goal.returns-in_err-variable
returns-in_err-variable c =
    let names = c.args.setting.now.texts.now in
    let f = entry_meant names c.args.setting.now.quasi in
    let entries = c.args.entries.now in
    let place = c.loop-place.place - 1 in
    let x = c.index-entries-place.result in
    let inside : place < length entries = omega (arith, c.loop-place-test.true, c.loop-place.invariant.within) in
    let next : c.loop-place.place ≡ place + 1 = omega (arith, c.loop-place-test.true) in
    gives_err _ c.from_residual.result c.in_err-variable.field-0.0 _ (err_from_is_err_and c.from_residual.result c.from_residual.ensures.1)
    (refuses_none c.in_err-variable.field-0.0 (entry_within c.loop-place.left (f x)) _
    (λ e. ap (checked names) c.loop-place.invariant.so_far ∙ entry_none names f entries c.loop-place.all place c.loop-place.place x inside next c.index-entries-place.is c.loop-place.left c.loop-place.invariant.left e) c.in_err-variable.ensures)

pub add-requires-clause-fits : goal.add-requires-clause-fits
add-requires-clause-fits c =
    let f = entry_meant c.args.setting.now.texts.now c.args.setting.now.quasi in
    let entry = entry_some c.loop-place.left (f c.index-entries-place.result) (entry_left (c.in_ok-variable.variable, c.in_ok-variable.shape)) c.in_ok-variable.ensures in
    let same : c.loop-place.left ≡ 1024 - width_of c.loop-place.all = omega (arith, c.loop-place.invariant.left) in
    subst (λ (k : ℕ). fits k (shape_of c.in_ok-variable.shape) ≡ true) same entry.fit

pub returns-in_err-add : goal.returns-in_err-add
returns-in_err-add c =
    let names = c.args.setting.now.texts.now in
    let f = entry_meant names c.args.setting.now.quasi in
    let entries = c.args.entries.now in
    let place = c.loop-place.place - 1 in
    let x = c.index-entries-place.result in
    let p : ℕ × ShapeSeen = entry_left (c.in_ok-variable.variable, c.in_ok-variable.shape) in
    let inside : place < length entries = omega (arith, c.loop-place-test.true, c.loop-place.invariant.within) in
    let next : c.loop-place.place ≡ place + 1 = omega (arith, c.loop-place-test.true) in
    let one = entry_some c.loop-place.left (f x) p c.in_ok-variable.ensures in
    gives_err _ c.from_residual-in_err-add.result c.in_err-add.field-0.0 _ (err_from_is_err_and c.from_residual-in_err-add.result c.from_residual-in_err-add.ensures.1)
    (added_bad names c.loop-place.all p c.add.new.all c.in_err-add.field-0.0 _
    (λ e. ap (checked names) c.loop-place.invariant.so_far ∙ entry_bad names f entries c.loop-place.all place c.loop-place.place x inside next c.index-entries-place.is p one.is e) c.in_err-add.ensures.adds)

pub loop-place-preserved : goal.loop-place-preserved
loop-place-preserved c =
    let names = c.args.setting.now.texts.now in
    let f = entry_meant names c.args.setting.now.quasi in
    let entries = c.args.entries.now in
    let place = c.loop-place.place - 1 in
    let x = c.index-entries-place.result in
    let p : ℕ × ShapeSeen = entry_left (c.in_ok-variable.variable, c.in_ok-variable.shape) in
    let inside : place < length entries = omega (arith, c.loop-place-test.true, c.loop-place.invariant.within) in
    let next : c.loop-place.place ≡ place + 1 = omega (arith, c.loop-place-test.true) in
    let one = entry_some c.loop-place.left (f x) p c.in_ok-variable.ensures in
    let added : c.add.new.all ≡ c.loop-place.all ++ p ∷ [] = c.in_ok-add.ensures.adds.0 in
    record {
      within = omega (arith, c.loop-place.invariant.within);
      so_far = c.loop-place.invariant.so_far ∙ (read_more f entries c.loop-place.all place c.loop-place.place x p inside next c.index-entries-place.is one.is
          ∙ ap (λ (d : List (ℕ × ShapeSeen)). left_of f entries d place) (sym added));
      proper = c.bit_count-left.ensures.proper;
      left = omega (arith, c.bit_count-left.ensures.count, c.bit_count-left.ensures.proper.few);
      legal = ap (λ (d : List (ℕ × ShapeSeen)). list_all (is_legal names) (variables_of d)) added ∙ legal_push names c.loop-place.all p c.loop-place.invariant.legal c.in_ok-add.ensures.adds.1;
      seen = c.in_ok-add.ensures.seen;
    }

pub returns : goal.returns
returns c =
    let names = c.args.setting.now.texts.now in
    let f = entry_meant names c.args.setting.now.quasi in
    let none : c.loop-place.place ≡ 0 = omega (arith, c.loop-place-test.false) in
    ap (checked names) (c.loop-place.invariant.so_far ∙ read_all f c.args.entries.now c.loop-place.all c.loop-place.place none)
    ∙ checked_at names c.loop-place.all (good_to names c.loop-place.all (bindings_good names c.loop-place.all c.loop-place.invariant.proper c.loop-place.invariant.legal))
