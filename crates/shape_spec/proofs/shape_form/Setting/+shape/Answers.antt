use Rattle.std.proofs.Common.{◌≡◌, ◌∙◌, ap, sym, subst, ℕ, ◌+◌, ◌-◌, ◌<◌, ◌≤◌, List, [], ◌∷◌, map, take, drop, get_or, length, Option, Some, Bool, true, false, refl, arith}
use Rattle.std.specs.List.{list_all}
use Rattle.std.specs.Option.{option_and_then}
use Rattle.std.proofs.lemmas.List.{take_rest, length-append, drop_more, drop_all, map-append, length-take-le, get_or-take, get_or_default}
use Rattle.std.proofs.lemmas.Result.{err_from_is_err_and}
use denote.Param.Weighed.{most}
use Rattle.gl_logic.specs.Object.{Object, nil}
use Rattle.gl_logic.specs.Lists.{conses, size_of, IsAtom}
use Rattle.gl_logic.proofs.Parts.{conses-whole, tail_is_atom}
use Rattle.shape_spec.specs.ShapeSeen.{ShapeSeen, Pair, Choice}
use Rattle.shape_spec.specs.ShapeOf.{shape_of, pairs}
use Rattle.shape_spec.specs.Indices.{indices_in}
use Rattle.gl_logic.specs.Wording.{has_mark}
use Rattle.shape_spec.specs.Heads.{head_of, is_plain}
use Rattle.shape_spec.specs.declared.shape.Shape.{Shape}
use Rattle.shape_spec.specs.declared.words.Head.{Head}
use Rattle.shape_spec.specs.declared.words.Head.TheVariants as head
use Rattle.shape_spec.specs.ShapeMeant.{shape_meant, choice_meant, headed, test_meant, choice_of}
use Rattle.shape_spec.specs.Gives.{fits, taken, small, shape_left, before_meant}
use Rattle.gl_logic.proofs.ProperLists.{conses-last, conses-cut, front_size, back_size, most_at}
use Rattle.shape_spec.proofs.Conses.{pairs_push}
use Rattle.shape_spec.proofs.Fits.{gives_at, gives_err, constant_taken, true_false, refuses_none, IsFit, fit_to, fit_from, taken_some, taken_is, pair_fit, choice_no_test, choice_no_index, choice_no_second, choice_no_first, choice_taken}
use Rattle.shape_spec.proofs.ShapeSteps.{headed_at, choice_parts, plain_meant, none_before, before_more, before_none, choice_at, no_choice}
use Rattle.shape_spec.proofs.shape_form.Setting.+shape.Goals as goal

abbrev some_shape : ℕ → ShapeSeen → Option (ShapeSeen × ℕ)
some_shape left s = Some (s, left)

drop_at_item : (xs : List Object) (k : ℕ) (x : Object) → k < length xs → x ≡ get_or xs k x → drop k xs ≡ x ∷ drop (k + 1) xs
drop_at_item xs k x h e = drop_more xs k x h ∙ ap (λ (y : Object). y ∷ drop (k + 1) xs) (sym e)

-- a list cut where its plain elements begin
cut_meant : (names : List (List ℕ)) (quasi : Bool) (es : List Object) (t : Object) (p : ℕ) → list_all (λ x. is_plain (head_of names x)) (drop p es) ≡ true
    → shape_meant names quasi (conses es t) ≡ option_and_then (before_meant names quasi (drop p es)) (shape_meant names quasi (conses (take p es) t))
cut_meant names quasi es t p h = ap (shape_meant names quasi) (conses-cut es t p) ∙ plain_meant names quasi (drop p es) (conses (take p es) t) h

-- the parts of a choice are smaller than the rest that they stand in
choice_smaller : (es : List Object) (t x test : Object) → 2 ≤ length es → test ≡ get_or es (length es - 1) test → x ≡ get_or es (length es - 2) x
    → (size_of (conses (take (length es - 2) es) t) + 2 ≤ size_of (conses es t)) × (size_of x + 2 ≤ size_of (conses es t))
choice_smaller es t x test some at at2 =
    let whole = ap size_of (choice_parts es t x test some at at2) in
    (omega (arith, whole), omega (arith, whole))

-- ---- base
-- a list whose head is not plain
module _ (left : ℕ) (names : List (List ℕ)) (quasi : Bool) (es : List Object) (t x : Object) (h : Head) (some : 1 ≤ length es) (at : x ≡ get_or es (length es - 1) x) (is : head_of names x ≡ h) where
  abbrev rest : Object
  rest = conses (take (length es - 1) es) t

  begins : is_plain h ≡ false → taken left (headed names quasi h rest (choice_meant names quasi rest)) ≡ taken left (shape_meant names quasi (conses es t))
  begins p = sym (ap (taken left) (headed_at names quasi es t x (omega (arith, some)) at (ap is_plain is ∙ p) ∙ ap (λ (g : Head). headed names quasi g rest (choice_meant names quasi rest)) is))

  smaller : size_of rest < size_of (conses es t)
  smaller = omega (arith, ap size_of (conses-last es t x (omega (arith, some)) at))

pub base-choice-requires : goal.base-choice-requires
base-choice-requires t c =
    let s = smaller c.args.left c.args.self.now.texts.now c.args.self.now.quasi c.args.elements.now c.args.tail.now c.head-item.result head.Choice c.in-len1-up.len_at_least c.head-item.is (sym c.head_of.ensures ∙ c.in-Choice.is) in
    (omega (arith, s, c.decreases), c.requires.tail)

pub base-returns-in_err-concrete-in-Concrete : goal.base-returns-in_err-concrete-in-Concrete
base-returns-in_err-concrete-in-Concrete t c =
    let whole = begins c.args.left c.args.self.now.texts.now c.args.self.now.quasi c.args.elements.now c.args.tail.now c.head-item.result head.Concrete c.in-len1-up.len_at_least c.head-item.is (sym c.head_of.ensures ∙ c.in-Concrete.is) refl in
    gives_err shape_left c.from_residual-in_err-concrete-in-Concrete.result c.in_err-concrete-in-Concrete.field-0.0 _ (err_from_is_err_and c.from_residual-in_err-concrete-in-Concrete.result c.from_residual-in_err-concrete-in-Concrete.ensures.1)
    (refuses_none c.in_err-concrete-in-Concrete.field-0.0 _ _ (λ e. sym whole ∙ ap (taken c.args.left) e) c.in_err-concrete-in-Concrete.ensures)

pub base-returns-in-Boolean : goal.base-returns-in-Boolean
base-returns-in-Boolean t c =
    gives_at shape_left c.boolean_form.result (begins c.args.left c.args.self.now.texts.now c.args.self.now.quasi c.args.elements.now c.args.tail.now c.head-item.result head.Boolean c.in-len1-up.len_at_least c.head-item.is (sym c.head_of.ensures ∙ c.in-Boolean.is) refl) c.boolean_form.ensures

pub base-returns-in-Integer : goal.base-returns-in-Integer
base-returns-in-Integer t c =
    gives_at shape_left c.integer_form.result (begins c.args.left c.args.self.now.texts.now c.args.self.now.quasi c.args.elements.now c.args.tail.now c.head-item.result head.Integer c.in-len1-up.len_at_least c.head-item.is (sym c.head_of.ensures ∙ c.in-Integer.is) refl) c.integer_form.ensures

pub base-returns-in-Choice : goal.base-returns-in-Choice
base-returns-in-Choice t c =
    gives_at shape_left c.choice.result (begins c.args.left c.args.self.now.texts.now c.args.self.now.quasi c.args.elements.now c.args.tail.now c.head-item.result head.Choice c.in-len1-up.len_at_least c.head-item.is (sym c.head_of.ensures ∙ c.in-Choice.is) refl) c.choice.ensures

pub base-returns-in_ok-concrete-in-Concrete : goal.base-returns-in_ok-concrete-in-Concrete
base-returns-in_ok-concrete-in-Concrete t c =
    let rest = conses (take (length c.args.elements.now - 1) c.args.elements.now) c.args.tail.now in
    sym (begins c.args.left c.args.self.now.texts.now c.args.self.now.quasi c.args.elements.now c.args.tail.now c.head-item.result head.Concrete c.in-len1-up.len_at_least c.head-item.is (sym c.head_of.ensures ∙ c.in-Concrete.is) refl)
    ∙ constant_taken c.args.left (has_mark rest) rest (shape_of c.in_ok-concrete-in-Concrete.field-0) c.in_ok-concrete-in-Concrete.ensures

pub base-returns-in-Comma : goal.base-returns-in-Comma
base-returns-in-Comma t c =
    gives_at shape_left c.comma.result (begins c.args.left c.args.self.now.texts.now c.args.self.now.quasi c.args.elements.now c.args.tail.now c.head-item.result head.Comma c.in-len1-up.len_at_least c.head-item.is (sym c.head_of.ensures ∙ c.in-Comma.is) refl) c.comma.ensures

pub base-returns-in-Reserved : goal.base-returns-in-Reserved
base-returns-in-Reserved t c = sym (begins c.args.left c.args.self.now.texts.now c.args.self.now.quasi c.args.elements.now c.args.tail.now c.head-item.result head.Reserved c.in-len1-up.len_at_least c.head-item.is (sym c.head_of.ensures ∙ c.in-Reserved.is) refl)

pub base-returns-in-Backquote : goal.base-returns-in-Backquote
base-returns-in-Backquote t c = sym (begins c.args.left c.args.self.now.texts.now c.args.self.now.quasi c.args.elements.now c.args.tail.now c.head-item.result head.Backquote c.in-len1-up.len_at_least c.head-item.is (sym c.head_of.ensures ∙ c.in-Backquote.is) refl)

pub base-returns-in-Plain : goal.base-returns-in-Plain
base-returns-in-Plain t c =
    let es = c.args.elements.now in
    let names = c.args.self.now.texts.now in
    let some : 0 < length es = omega (arith, c.in-len1-up.len_at_least) in
    let same : get_or es (length es - 1) nil ≡ c.head-item.result = get_or_default es (length es - 1) nil c.head-item.result (omega (arith, c.in-len1-up.len_at_least)) ∙ sym c.head-item.is in
    let plain : is_plain (head_of names c.head-item.result) ≡ true = ap is_plain (sym c.head_of.ensures ∙ c.in-Plain.is) in
    true_false (is_plain (head_of names c.head-item.result)) plain (sym (ap (λ (x : Object). is_plain (head_of names x)) same) ∙ c.requires.headed some)

-- ---- choice
-- the rest of a choice, by its parts
module _ (left : ℕ) (names : List (List ℕ)) (quasi : Bool) (es : List Object) (t x test : Object) (some : 2 ≤ length es) (at : test ≡ get_or es (length es - 1) test) (at2 : x ≡ get_or es (length es - 2) x) where
  parted : taken left (choice_meant names quasi (conses es t)) ≡ taken left (choice_of (test_meant names test) (shape_meant names quasi x) (shape_meant names quasi (conses (take (length es - 2) es) t)))
  parted = ap (taken left) (choice_at names quasi es t x test some at at2)

pub choice-returns-in_default : goal.choice-returns-in_default
choice-returns-in_default t c = ap (taken c.args.left) (no_choice c.args.self.now.texts.now c.args.self.now.quasi c.args.rest.now c.args.tail.now (omega (arith, c.in_default.len_below)) c.requires)

pub choice-returns-in_err-index : goal.choice-returns-in_err-index
choice-returns-in_err-index t c =
    let es = c.args.rest.now in
    let names = c.args.self.now.texts.now in
    let quasi = c.args.self.now.quasi in
    let others = conses (take (length es - 2) es) c.args.tail.now in
    let whole = parted c.args.left names quasi es c.args.tail.now c.first-item.result c.test-item.result c.in-len2-up.len_at_least c.test-item.is c.first-item.is in
    gives_err shape_left c.from_residual.result c.in_err-index.field-0.0 _ (err_from_is_err_and c.from_residual.result c.from_residual.ensures.1)
    (refuses_none c.in_err-index.field-0.0 (small (test_meant names c.test-item.result)) _
    (λ e. whole ∙ choice_no_test c.args.left (test_meant names c.test-item.result) (shape_meant names quasi c.first-item.result) (shape_meant names quasi others) e) c.in_err-index.ensures)

pub choice-returns-then-left-eq0 : goal.choice-returns-then-left-eq0
choice-returns-then-left-eq0 t c =
    let es = c.args.rest.now in
    let names = c.args.self.now.texts.now in
    let quasi = c.args.self.now.quasi in
    let others = conses (take (length es - 2) es) c.args.tail.now in
    parted c.args.left names quasi es c.args.tail.now c.first-item.result c.test-item.result c.in-len2-up.len_at_least c.test-item.is c.first-item.is
    ∙ choice_no_index c.args.left (test_meant names c.test-item.result) (shape_meant names quasi c.first-item.result) (shape_meant names quasi others) c.if-left-eq0.true

pub choice-listed-requires : goal.choice-listed-requires
choice-listed-requires t c =
    let s = front_size c.args.rest.now c.args.tail.now (length c.args.rest.now - 2) in
    let smaller = choice_smaller c.args.rest.now c.args.tail.now c.first-item.result c.test-item.result c.in-len2-up.len_at_least c.test-item.is c.first-item.is in
    (omega (arith, smaller.0, c.decreases), c.requires)

pub choice-shape-requires : goal.choice-shape-requires
choice-shape-requires t c =
    let smaller = choice_smaller c.args.rest.now c.args.tail.now c.first-item.result c.test-item.result c.in-len2-up.len_at_least c.test-item.is c.first-item.is in
    (omega (arith, smaller.1, c.decreases), tt)

pub choice-returns-in_err-second : goal.choice-returns-in_err-second
choice-returns-in_err-second t c =
    let es = c.args.rest.now in
    let names = c.args.self.now.texts.now in
    let quasi = c.args.self.now.quasi in
    let others = conses (take (length es - 2) es) c.args.tail.now in
    let whole = parted c.args.left names quasi es c.args.tail.now c.first-item.result c.test-item.result c.in-len2-up.len_at_least c.test-item.is c.first-item.is in
    gives_err shape_left c.from_residual-in_err-second.result c.in_err-second.field-0.0 _ (err_from_is_err_and c.from_residual-in_err-second.result c.from_residual-in_err-second.ensures.1)
    (refuses_none c.in_err-second.field-0.0 (taken (c.args.left - 1) (shape_meant names quasi others)) _
    (λ e. whole ∙ choice_no_second c.args.left (test_meant names c.test-item.result) (shape_meant names quasi c.first-item.result) (shape_meant names quasi others) e) c.in_err-second.ensures)

pub choice-returns-in_err-first : goal.choice-returns-in_err-first
choice-returns-in_err-first t c =
    let es = c.args.rest.now in
    let names = c.args.self.now.texts.now in
    let quasi = c.args.self.now.quasi in
    let others = conses (take (length es - 2) es) c.args.tail.now in
    let whole = parted c.args.left names quasi es c.args.tail.now c.first-item.result c.test-item.result c.in-len2-up.len_at_least c.test-item.is c.first-item.is in
    gives_err shape_left c.from_residual-in_err-first.result c.in_err-first.field-0.0 _ (err_from_is_err_and c.from_residual-in_err-first.result c.from_residual-in_err-first.ensures.1)
    (refuses_none c.in_err-first.field-0.0 (taken c.in_ok-second.left (shape_meant names quasi c.first-item.result)) _
    (λ e. whole ∙ choice_no_first c.args.left (test_meant names c.test-item.result) (shape_meant names quasi c.first-item.result) (shape_meant names quasi others) (shape_of c.in_ok-second.second) c.in_ok-second.left c.in_ok-second.ensures e) c.in_err-first.ensures)

pub choice-returns : goal.choice-returns
choice-returns t c =
    let es = c.args.rest.now in
    let names = c.args.self.now.texts.now in
    let quasi = c.args.self.now.quasi in
    let others = conses (take (length es - 2) es) c.args.tail.now in
    let some : 0 < c.args.left = omega (arith, c.if-left-eq0.false) in
    parted c.args.left names quasi es c.args.tail.now c.first-item.result c.test-item.result c.in-len2-up.len_at_least c.test-item.is c.first-item.is
    ∙ (choice_taken c.args.left (test_meant names c.test-item.result) (shape_meant names quasi c.first-item.result) (shape_meant names quasi others) (shape_of c.in_ok-second.second) c.in_ok-second.left c.in_ok-second.ensures
    c.in_ok-index.index (shape_of c.in_ok-first.first) c.in_ok-first.left c.in_ok-index.ensures some c.in_ok-first.ensures
    ∙ ap (some_shape c.in_ok-first.left) (sym (c.in_ok-choice.ensures ∙ ap (λ (s : Shape). Choice c.in_ok-index.index (shape_of c.in_ok-first.first) (shape_of s)) c.in_ok-boxed.ensures.ok)))

-- ---- listed
pub listed-base-requires : goal.listed-base-requires
listed-base-requires t c =
    let es = c.args.elements.now in
    let names = c.args.self.now.texts.now in
    let p = c.plain_from-place.result in
    let long : length (take p es) ≡ p = length-take-le p es c.plain_from-place.ensures.within in
    let s = front_size es c.args.tail.now p in (
      omega (arith, s, c.decreases),
      (
        c.requires,
        λ h.
            ap (λ (x : Object). is_plain (head_of names x)) (ap (λ (k : ℕ). get_or (take p es) (k - 1) nil) long ∙ get_or-take p es (p - 1) nil (omega (arith, h, long))) ∙ c.plain_from-place.ensures.headed (omega (arith, h, long)),
      ),
    )

pub listed-returns-in_err-base : goal.listed-returns-in_err-base
listed-returns-in_err-base t c =
    let es = c.args.elements.now in
    let names = c.args.self.now.texts.now in
    let quasi = c.args.self.now.quasi in
    let p = c.plain_from-place.result in
    let whole = cut_meant names quasi es c.args.tail.now p c.plain_from-place.ensures.plain in
    gives_err shape_left c.from_residual.result c.in_err-base.field-0.0 _ (err_from_is_err_and c.from_residual.result c.from_residual.ensures.1)
    (refuses_none c.in_err-base.field-0.0 (taken c.args.left (shape_meant names quasi (conses (take p es) c.args.tail.now))) _
    (λ e. ap (taken c.args.left) whole ∙ none_before names quasi c.args.left (drop p es) (shape_meant names quasi (conses (take p es) c.args.tail.now)) e) c.in_err-base.ensures)

pub listed-before-requires : goal.listed-before-requires
listed-before-requires t c =
    let es = c.args.elements.now in
    let p = c.plain_from-place.result in
    let s = back_size es c.args.tail.now p in
    let base = taken_some c.args.left (shape_meant c.args.self.now.texts.now c.args.self.now.quasi (conses (take p es) c.args.tail.now)) (shape_of c.in_ok-base.base) c.in_ok-base.left c.in_ok-base.ensures in
    let same = ap (most (λ y. size_of y + 1)) (take_rest es p) in
    let fit = fit_to (c.in_ok-base.left + length (indices_in (shape_of c.in_ok-base.base))) (shape_of c.in_ok-base.base) (subst (λ (k : ℕ). IsFit k (shape_of c.in_ok-base.base)) (sym base.behind) base.fit) in
    (omega (arith, s, same, c.decreases), subst (λ (u : Shape). fits (c.in_ok-base.left + length (indices_in (shape_of u))) (shape_of u) ≡ true) (sym c.in_ok-boxed.ensures.ok) fit)

pub listed-returns : goal.listed-returns
listed-returns t c =
    let es = c.args.elements.now in
    let names = c.args.self.now.texts.now in
    let quasi = c.args.self.now.quasi in
    let p = c.plain_from-place.result in
    let whole = cut_meant names quasi es c.args.tail.now p c.plain_from-place.ensures.plain in
    let base = taken_some c.args.left (shape_meant names quasi (conses (take p es) c.args.tail.now)) (shape_of c.in_ok-base.base) c.in_ok-base.left c.in_ok-base.ensures in
    gives_at shape_left c.before-2.result
    (ap (λ (u : Shape). taken (c.in_ok-base.left + length (indices_in (shape_of u))) (before_meant names quasi (take (length es - p) (drop p es)) (shape_of u))) c.in_ok-boxed.ensures.ok
    ∙ ((λ k. taken (base.behind k) (before_meant names quasi (take_rest es p k) (shape_of c.in_ok-base.base)))
    ∙ ap (taken c.args.left) (sym (whole ∙ ap (option_and_then (before_meant names quasi (drop p es))) base.is))))
    c.before-2.ensures

-- ---- shape
pub shape-listed-requires : goal.shape-listed-requires
shape-listed-requires t c =
    let whole = (λ k. conses (c.elements.ensures k) (c.tail.ensures k)) ∙ conses-whole c.args.form.now in
    let same = ap size_of whole in
    (omega (arith, same, c.decreases), subst IsAtom (sym c.tail.ensures) (tail_is_atom c.args.form.now))

pub shape-returns : goal.shape-returns
shape-returns t c =
    let whole = (λ k. conses (c.elements.ensures k) (c.tail.ensures k)) ∙ conses-whole c.args.form.now in
    gives_at shape_left c.listed.result (ap (λ (x : Object). taken c.args.left (shape_meant c.args.self.now.texts.now c.args.self.now.quasi x)) whole) c.listed.ensures

-- ---- before
pub before-loop-element-init : goal.before-loop-element-init
before-loop-element-init t c =
    let none : pairs (map shape_of c.new-shapes.result.items) (shape_of c.args.base.value) ≡ shape_of c.args.base.value = ap (λ (ss : List Shape). pairs (map shape_of ss) (shape_of c.args.base.value)) c.new-shapes.ensures.items in
    let whole = c.args.left + length (indices_in (shape_of c.args.base.value)) in
    record {
      same = ap (λ (u : ShapeSeen). taken whole (before_meant c.args.self.now.texts.now c.args.self.now.quasi c.args.elements.now u)) none;
      fit = subst (IsFit whole) (sym none) (fit_from whole (shape_of c.args.base.value) c.requires);
      kept = refl;
      behind = ap (λ (u : ShapeSeen). c.args.left + length (indices_in u)) none;
    }

pub before-returns-in_err-shape : goal.before-returns-in_err-shape
before-returns-in_err-shape t c =
    let names = c.args.self.now.texts.now in
    let quasi = c.args.self.now.quasi in
    let es = c.args.elements.now in
    let k = c.loop-element.element-index in
    let x = c.element-item.result in
    let acc = pairs (map shape_of c.loop-element.shapes.items) (shape_of c.args.base.value) in
    let whole = c.args.left + length (indices_in (shape_of c.args.base.value)) in
    let next = drop_at_item es k x c.loop-element-test.true c.element-item.is in
    gives_err shape_left c.from_residual.result c.in_err-shape.field-0.0 _ (err_from_is_err_and c.from_residual.result c.from_residual.ensures.1)
    (refuses_none c.in_err-shape.field-0.0 (taken c.loop-element.left (shape_meant names quasi x)) _
    (λ e. sym c.loop-element.invariant.same ∙ (ap (λ (ys : List Object). taken whole (before_meant names quasi ys acc)) next
    ∙ before_none names quasi whole c.loop-element.left x (drop (k + 1) es) acc c.loop-element.invariant.behind e)) c.in_err-shape.ensures)

pub before-shape-requires : goal.before-shape-requires
before-shape-requires t c =
    let s = most_at c.args.elements.now c.loop-element.element-index c.element-item.result c.loop-element-test.true c.element-item.is in
    (omega (arith, s, c.decreases), tt)

pub before-loop-element-preserved : goal.before-loop-element-preserved
before-loop-element-preserved t c =
    let names = c.args.self.now.texts.now in
    let quasi = c.args.self.now.quasi in
    let es = c.args.elements.now in
    let k = c.loop-element.element-index in
    let x = c.element-item.result in
    let s = shape_of c.in_ok-shape.shape in
    let acc = pairs (map shape_of c.loop-element.shapes.items) (shape_of c.args.base.value) in
    let whole = c.args.left + length (indices_in (shape_of c.args.base.value)) in
    let next = drop_at_item es k x c.loop-element-test.true c.element-item.is in
    let one = taken_some c.loop-element.left (shape_meant names quasi x) s c.in_ok-shape.less c.in_ok-shape.ensures in
    let pushed : pairs (map shape_of c.push.new.self.items) (shape_of c.args.base.value) ≡ Pair s acc =
    ap (λ (ss : List Shape). pairs (map shape_of ss) (shape_of c.args.base.value)) c.in_ok-push.ensures.items
    ∙ (ap (λ (ss : List ShapeSeen). pairs ss (shape_of c.args.base.value)) (map-append shape_of c.loop-element.shapes.items (c.in_ok-shape.shape ∷ [])) ∙ pairs_push (map shape_of c.loop-element.shapes.items) s (shape_of c.args.base.value)) in
    record {
      same = ap (λ (u : ShapeSeen). taken whole (before_meant names quasi (drop (k + 1) es) u)) pushed
          ∙ (ap (taken whole) (sym (before_more names quasi x (drop (k + 1) es) s acc one.is))
          ∙ (ap (λ (ys : List Object). taken whole (before_meant names quasi ys acc)) (sym next) ∙ c.loop-element.invariant.same));
      fit = subst (IsFit whole) (sym pushed) (pair_fit whole c.loop-element.left s acc c.loop-element.invariant.fit c.loop-element.invariant.behind one.fit);
      kept = c.loop-element.invariant.kept;
      behind = omega (arith, one.behind, c.loop-element.invariant.behind, ap (λ (u : ShapeSeen). length (indices_in u)) pushed, length-append (indices_in s) (indices_in acc));
    }

pub before-returns : goal.before-returns
before-returns t c =
    let names = c.args.self.now.texts.now in
    let quasi = c.args.self.now.quasi in
    let es = c.args.elements.now in
    let acc = pairs (map shape_of c.loop-element.shapes.items) (shape_of c.args.base.value) in
    let whole = c.args.left + length (indices_in (shape_of c.args.base.value)) in
    let none : drop c.loop-element.element-index es ≡ [] = drop_all c.loop-element.element-index es c.loop-element-test.false in
    sym c.loop-element.invariant.same
    ∙ (ap (λ (ys : List Object). taken whole (before_meant names quasi ys acc)) none
    ∙ (taken_is whole c.loop-element.left (Some acc) acc refl c.loop-element.invariant.fit c.loop-element.invariant.behind
    ∙ ap (some_shape c.loop-element.left) (ap (pairs (map shape_of c.loop-element.shapes.items)) (sym c.loop-element.invariant.kept) ∙ sym c.list.ensures)))
