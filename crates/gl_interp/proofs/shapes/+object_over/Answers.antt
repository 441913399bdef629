use Rattle.std.proofs.Common.{◌≡◌, ◌∙◌, ap, sym, subst, refl, ℕ, ◌+◌, ◌<◌, Bool, true, false, map, List, [], get_or, drop, length, arith}
use Rattle.std.specs.Prelude.{slice_set}
use Rattle.std.proofs.lemmas.List.{drop_all}
use Rattle.std.proofs.lemmas.Result.{err_from_is_err_and}
use Rattle.gl_logic.specs.Lists.{conses}
use Rattle.gl_logic.specs.Object.{Object, Cons}
use Rattle.shape_spec.specs.Indices.{AreApart, IsShape, indices_in, indices_of}
use Rattle.shape_spec.specs.InputMeant.{object_meant}
use Rattle.shape_spec.specs.ShapeOf.{pairs, shape_of}
use Rattle.shape_spec.specs.ShapeSeen.{ShapeSeen, Choice}
use Rattle.shape_spec.specs.declared.shape.Shape.{Shape}
use Rattle.shape_spec.proofs.Conses.{conses_drop, element_shape, pairs_object, shape_tail}
use Rattle.shape_spec.proofs.Pairs.{list_shape}
use Rattle.shape_spec.proofs.Weights.{choice_shape, element_lighter, first_lighter, second_lighter, tail_lighter, weight}
use Rattle.sym_objects.specs.Seen.{stands_for}
use Rattle.sym_objects.proofs.Keeping.{keeps_then}
use Rattle.gl_interp.specs.Shapes.{holds_over}
use Rattle.gl_interp.proofs.InputParts.{edges_stay}
use Rattle.gl_interp.proofs.Machines.{rests_then}
use Rattle.gl_interp.proofs.ShapeObjects.{object_choice, object_kept, object_later}
use Rattle.gl_interp.proofs.ShapeParts.{among_then, element_cause, element_inside, element_is_apart, first_apart, first_cause, first_inside, index_inside, length_kept, rank_below, second_apart, second_cause, second_inside, sets_more, sets_one, sets_then, tail_apart, tail_cause, tail_inside}
use Rattle.gl_interp.proofs.shapes.+object_over.Goals as goal

pub set-requires : goal.set-requires
set-requires g t c =
    let e : shape_of c.args.shape.now ≡ Choice c.in-Choice.index (shape_of c.in-Choice.first.value) (shape_of c.in-Choice.second.value) = ap shape_of c.in-Choice.is ∙ choice_shape c.in-Choice.index c.in-Choice.first c.in-Choice.second in
    let below = rank_below (indices_of c.args.b.now) c.in-Choice.index (c.requires.among c.in-Choice.index (index_inside (shape_of c.args.shape.now) c.in-Choice.index (shape_of c.in-Choice.first.value) (shape_of c.in-Choice.second.value) e)) in
    omega (arith, below, c.rank-test.ensures, c.requires.found)

pub object_over-requires : goal.object_over-requires
object_over-requires g t c κs within =
    let x = shape_of c.deref.result.now in
    let y = shape_of c.in-Choice.second.value in
    let i = c.in-Choice.index in
    let s = shape_of c.args.shape.now in
    let all = indices_of c.args.b.now in
    let e : s ≡ Choice i x y = ap shape_of c.in-Choice.is ∙ (choice_shape i c.in-Choice.first c.in-Choice.second ∙ ap (λ (u : Shape). Choice i (shape_of u) y) (sym c.deref.ensures)) in
    let lighter = subst (λ (u : Shape). weight u < weight c.args.shape.now) (sym c.deref.ensures) (first_lighter c.args.shape.now i c.in-Choice.first c.in-Choice.second c.in-Choice.is) in
    let whole = subst IsShape e c.requires.shape in
    (omega (arith, lighter, c.decreases), (within, (c.requires.whole, (c.requires.edges, (c.requires.count, (length_kept c.args.found.now c.set.new.self c.rank-test.result true c.set.ensures ∙ c.requires.found, (whole.0, (among_then (indices_in x) (indices_in s) all (first_inside s i x y e) c.requires.among, first_apart s i x y e c.requires.apart))))))))

pub returns-in_err-x-in-Choice-clause-others : goal.returns-in_err-x-in-Choice-clause-others
returns-in_err-x-in-Choice-clause-others g t c =
    let x = shape_of c.deref.result.now in
    let y = shape_of c.in-Choice.second.value in
    let i = c.in-Choice.index in
    let s = shape_of c.args.shape.now in
    let all = indices_of c.args.b.now in
    let e : s ≡ Choice i x y = ap shape_of c.in-Choice.is ∙ (choice_shape i c.in-Choice.first c.in-Choice.second ∙ ap (λ (u : Shape). Choice i (shape_of u) y) (sym c.deref.ensures)) in
    sets_then all (indices_in s) c.args.found.now c.set.new.self _ (sets_one all (indices_in s) i c.args.found.now c.set.new.self true (index_inside s i x y e) (c.set.ensures ∙ ap (λ (k : ℕ). slice_set c.args.found.now k true) c.rank-test.ensures)) (sets_more all (indices_in x) (indices_in s) c.set.new.self _ (first_inside s i x y e) c.in_err-x-in-Choice.ensures.others)

pub returns-in_err-x-in-Choice-clause-cause : goal.returns-in_err-x-in-Choice-clause-cause
returns-in_err-x-in-Choice-clause-cause g t c =
    let x = shape_of c.deref.result.now in
    let y = shape_of c.in-Choice.second.value in
    let i = c.in-Choice.index in
    let s = shape_of c.args.shape.now in
    let all = indices_of c.args.b.now in
    let e : s ≡ Choice i x y = ap shape_of c.in-Choice.is ∙ (choice_shape i c.in-Choice.first c.in-Choice.second ∙ ap (λ (u : Shape). Choice i (shape_of u) y) (sym c.deref.ensures)) in
    let p = err_from_is_err_and c.from_residual-in_err-x-in-Choice.result c.from_residual-in_err-x-in-Choice.ensures.1 in
    rw (p.1, p.2) (first_cause g.B.Meaning c.object_over.new.objs c.args.machine.now c.args.machine.now c.args.b.now refl s x y i c.args.found.now c.set.new.self c.object_over.new.found c.rank-test.result _ e c.requires.among c.requires.apart c.rank-test.ensures c.requires.found c.set.ensures c.in_err-x-in-Choice.ensures.others c.in_err-x-in-Choice.ensures.cause)

pub set-requires-in-Choice : goal.set-requires-in-Choice
set-requires-in-Choice g t c =
    let e : shape_of c.args.shape.now ≡ Choice c.in-Choice.index (shape_of c.in-Choice.first.value) (shape_of c.in-Choice.second.value) = ap shape_of c.in-Choice.is ∙ choice_shape c.in-Choice.index c.in-Choice.first c.in-Choice.second in
    let below = rank_below (indices_of c.args.b.now) c.in-Choice.index (c.requires.among c.in-Choice.index (index_inside (shape_of c.args.shape.now) c.in-Choice.index (shape_of c.in-Choice.first.value) (shape_of c.in-Choice.second.value) e)) in
    let one = length_kept c.args.found.now c.set.new.self c.rank-test.result true c.set.ensures in
    omega (arith, below, c.rank-test.ensures, c.requires.found, one, c.in_ok-x-in-Choice.ensures.found)

pub object_over-requires-in-Choice : goal.object_over-requires-in-Choice
object_over-requires-in-Choice g t c κs within =
    let x = shape_of c.deref.result.now in
    let y = shape_of c.deref-in-Choice.result.now in
    let i = c.in-Choice.index in
    let s = shape_of c.args.shape.now in
    let all = indices_of c.args.b.now in
    let e : s ≡ Choice i x y = ap shape_of c.in-Choice.is ∙ (choice_shape i c.in-Choice.first c.in-Choice.second ∙ (ap (λ (u : Shape). Choice i (shape_of u) (shape_of c.in-Choice.second.value)) (sym c.deref.ensures) ∙ ap (λ (u : Shape). Choice i x (shape_of u)) (sym c.deref-in-Choice.ensures))) in
    let o = c.in_ok-x-in-Choice.ensures in
    let lighter = subst (λ (u : Shape). weight u < weight c.args.shape.now) (sym c.deref-in-Choice.ensures) (second_lighter c.args.shape.now i c.in-Choice.first c.in-Choice.second c.in-Choice.is) in
    let whole = subst IsShape e c.requires.shape in
    (omega (arith, lighter, c.decreases), (within, (o.keeps.whole, (edges_stay g.B.Meaning c.args.objs.now c.args.b.now c.args.edges.now c.object_over.new.objs o.keeps c.requires.edges, (c.requires.count, (length_kept c.object_over.new.found c.set-in-Choice.new.self c.rank-test.result false c.set-in-Choice.ensures ∙ (o.found ∙ (length_kept c.args.found.now c.set.new.self c.rank-test.result true c.set.ensures ∙ c.requires.found)), (whole.1, (among_then (indices_in y) (indices_in s) all (second_inside s i x y e) c.requires.among, second_apart s i x y e c.requires.apart))))))))

pub returns-in_err-y-in-Choice-clause-others : goal.returns-in_err-y-in-Choice-clause-others
returns-in_err-y-in-Choice-clause-others g t c =
    let x = shape_of c.deref.result.now in
    let y = shape_of c.deref-in-Choice.result.now in
    let i = c.in-Choice.index in
    let s = shape_of c.args.shape.now in
    let all = indices_of c.args.b.now in
    let e : s ≡ Choice i x y = ap shape_of c.in-Choice.is ∙ (choice_shape i c.in-Choice.first c.in-Choice.second ∙ (ap (λ (u : Shape). Choice i (shape_of u) (shape_of c.in-Choice.second.value)) (sym c.deref.ensures) ∙ ap (λ (u : Shape). Choice i x (shape_of u)) (sym c.deref-in-Choice.ensures))) in
    sets_then all (indices_in s) c.args.found.now c.object_over.new.found _
    (sets_then all (indices_in s) c.args.found.now c.set.new.self _ (sets_one all (indices_in s) i c.args.found.now c.set.new.self true (index_inside s i x y e) (c.set.ensures ∙ ap (λ (k : ℕ). slice_set c.args.found.now k true) c.rank-test.ensures)) (sets_more all (indices_in x) (indices_in s) c.set.new.self _ (first_inside s i x y e) c.in_ok-x-in-Choice.ensures.others))
    (sets_then all (indices_in s) c.object_over.new.found c.set-in-Choice.new.self _ (sets_one all (indices_in s) i c.object_over.new.found c.set-in-Choice.new.self false (index_inside s i x y e) (c.set-in-Choice.ensures ∙ ap (λ (k : ℕ). slice_set c.object_over.new.found k false) c.rank-test.ensures)) (sets_more all (indices_in y) (indices_in s) c.set-in-Choice.new.self _ (second_inside s i x y e) c.in_err-y-in-Choice.ensures.others))

pub returns-in_err-y-in-Choice-clause-cause : goal.returns-in_err-y-in-Choice-clause-cause
returns-in_err-y-in-Choice-clause-cause g t c =
    let x = shape_of c.deref.result.now in
    let y = shape_of c.deref-in-Choice.result.now in
    let i = c.in-Choice.index in
    let s = shape_of c.args.shape.now in
    let all = indices_of c.args.b.now in
    let e : s ≡ Choice i x y = ap shape_of c.in-Choice.is ∙ (choice_shape i c.in-Choice.first c.in-Choice.second ∙ (ap (λ (u : Shape). Choice i (shape_of u) (shape_of c.in-Choice.second.value)) (sym c.deref.ensures) ∙ ap (λ (u : Shape). Choice i x (shape_of u)) (sym c.deref-in-Choice.ensures))) in
    let p = err_from_is_err_and c.from_residual-in_err-y-in-Choice.result c.from_residual-in_err-y-in-Choice.ensures.1 in
    rw (p.1, p.2) (second_cause g.B.Meaning c.object_over-in-Choice.new.objs c.args.machine.now c.object_over.new.machine c.args.b.now c.in_ok-x-in-Choice.ensures.rests.arena s x y i c.object_over.new.found c.set-in-Choice.new.self c.object_over-in-Choice.new.found c.rank-test.result _ e c.requires.among c.requires.apart c.rank-test.ensures (c.in_ok-x-in-Choice.ensures.found ∙ (length_kept c.args.found.now c.set.new.self c.rank-test.result true c.set.ensures ∙ c.requires.found)) c.set-in-Choice.ensures c.in_err-y-in-Choice.ensures.others c.in_err-y-in-Choice.ensures.cause)

pub returns-in_err-y-in-Choice-clause-rests : goal.returns-in_err-y-in-Choice-clause-rests
returns-in_err-y-in-Choice-clause-rests g t c = rests_then c.args.machine.now c.object_over.new.machine c.object_over-in-Choice.new.machine c.in_ok-x-in-Choice.ensures.rests c.in_err-y-in-Choice.ensures.rests

pub returns-in_err-choice_over-in-Choice-clause-others : goal.returns-in_err-choice_over-in-Choice-clause-others
returns-in_err-choice_over-in-Choice-clause-others g t c =
    let x = shape_of c.deref.result.now in
    let y = shape_of c.deref-in-Choice.result.now in
    let i = c.in-Choice.index in
    let s = shape_of c.args.shape.now in
    let all = indices_of c.args.b.now in
    let e : s ≡ Choice i x y = ap shape_of c.in-Choice.is ∙ (choice_shape i c.in-Choice.first c.in-Choice.second ∙ (ap (λ (u : Shape). Choice i (shape_of u) (shape_of c.in-Choice.second.value)) (sym c.deref.ensures) ∙ ap (λ (u : Shape). Choice i x (shape_of u)) (sym c.deref-in-Choice.ensures))) in
    sets_then all (indices_in s) c.args.found.now c.object_over.new.found _
    (sets_then all (indices_in s) c.args.found.now c.set.new.self _ (sets_one all (indices_in s) i c.args.found.now c.set.new.self true (index_inside s i x y e) (c.set.ensures ∙ ap (λ (k : ℕ). slice_set c.args.found.now k true) c.rank-test.ensures)) (sets_more all (indices_in x) (indices_in s) c.set.new.self _ (first_inside s i x y e) c.in_ok-x-in-Choice.ensures.others))
    (sets_then all (indices_in s) c.object_over.new.found c.set-in-Choice.new.self _ (sets_one all (indices_in s) i c.object_over.new.found c.set-in-Choice.new.self false (index_inside s i x y e) (c.set-in-Choice.ensures ∙ ap (λ (k : ℕ). slice_set c.object_over.new.found k false) c.rank-test.ensures)) (sets_more all (indices_in y) (indices_in s) c.set-in-Choice.new.self _ (second_inside s i x y e) c.in_ok-y-in-Choice.ensures.others))

pub returns-in_err-choice_over-in-Choice-clause-rests : goal.returns-in_err-choice_over-in-Choice-clause-rests
returns-in_err-choice_over-in-Choice-clause-rests g t c = rests_then c.args.machine.now c.object_over.new.machine c.object_over-in-Choice.new.machine c.in_ok-x-in-Choice.ensures.rests c.in_ok-y-in-Choice.ensures.rests

pub object_over-requires-in-List : goal.object_over-requires-in-List
object_over-requires-in-List g t c κs within =
    let items = c.in-List.elements.items in
    let t = shape_of c.deref-in-List.result.now in
    let s = shape_of c.args.shape.now in
    let all = indices_of c.args.b.now in
    let e : s ≡ pairs (map shape_of items) t = ap shape_of c.in-List.is ∙ (list_shape c.in-List.elements c.in-List.tail ∙ ap (λ (u : Shape). pairs (map shape_of items) (shape_of u)) (sym c.deref-in-List.ensures)) in
    let lighter = subst (λ (u : Shape). weight u < weight c.args.shape.now) (sym c.deref-in-List.ensures) (tail_lighter c.args.shape.now c.in-List.elements c.in-List.tail c.in-List.is) in
    (omega (arith, lighter, c.decreases), (within, (c.requires.whole, (c.requires.edges, (c.requires.count, (c.requires.found, (shape_tail (map shape_of items) t (subst IsShape e c.requires.shape), (among_then (indices_in t) (indices_in s) all (tail_inside s (map shape_of items) t e) c.requires.among, tail_apart (map shape_of items) t (subst (λ (u : ShapeSeen). AreApart (indices_in u)) e c.requires.apart)))))))))

pub returns-in_err-all-in-List-clause-others : goal.returns-in_err-all-in-List-clause-others
returns-in_err-all-in-List-clause-others g t c =
    let items = c.in-List.elements.items in
    let tail = shape_of c.deref-in-List.result.now in
    let s = shape_of c.args.shape.now in
    let all = indices_of c.args.b.now in
    let e : s ≡ pairs (map shape_of items) tail = ap shape_of c.in-List.is ∙ (list_shape c.in-List.elements c.in-List.tail ∙ ap (λ (u : Shape). pairs (map shape_of items) (shape_of u)) (sym c.deref-in-List.ensures)) in
    sets_more all (indices_in tail) (indices_in s) c.args.found.now _ (tail_inside s (map shape_of items) tail e) c.in_err-all-in-List.ensures.others

pub returns-in_err-all-in-List-clause-cause : goal.returns-in_err-all-in-List-clause-cause
returns-in_err-all-in-List-clause-cause g t c =
    let items = c.in-List.elements.items in
    let t = shape_of c.deref-in-List.result.now in
    let s = shape_of c.args.shape.now in
    let all = indices_of c.args.b.now in
    let e : s ≡ pairs (map shape_of items) t = ap shape_of c.in-List.is ∙ (list_shape c.in-List.elements c.in-List.tail ∙ ap (λ (u : Shape). pairs (map shape_of items) (shape_of u)) (sym c.deref-in-List.ensures)) in
    let p = err_from_is_err_and c.from_residual-in_err-all-in-List.result c.from_residual-in_err-all-in-List.ensures.1 in
    rw (p.1, p.2) (tail_cause g.B.Meaning _ c.args.machine.now c.args.machine.now c.args.b.now refl s (map shape_of items) t _ _ e c.in_err-all-in-List.ensures.cause)

pub loop-element-init : goal.loop-element-init
loop-element-init g t c =
    let items = c.in-List.elements.items in
    let t = shape_of c.deref-in-List.result.now in
    let s = shape_of c.args.shape.now in
    let all = indices_of c.args.b.now in
    let e : s ≡ pairs (map shape_of items) t = ap shape_of c.in-List.is ∙ (list_shape c.in-List.elements c.in-List.tail ∙ ap (λ (u : Shape). pairs (map shape_of items) (shape_of u)) (sym c.deref-in-List.ensures)) in
    let o = c.in_ok-all-in-List.ensures in
    record {
      keeps = o.keeps;
      live = o.object.live;
      means = λ a. refl;
      found = o.found;
      others = sets_more all (indices_in t) (indices_in s) c.args.found.now _ (tail_inside s (map shape_of items) t e) o.others;
      rests = o.rests;
    }

pub object_over-requires-in-loop-element : goal.object_over-requires-in-loop-element
object_over-requires-in-loop-element g t c κs within =
    let items = c.in-List.elements.items in
    let t = shape_of c.deref-in-List.result.now in
    let s = shape_of c.args.shape.now in
    let all = indices_of c.args.b.now in
    let k = c.loop-element.element-index in
    let u = c.element-item.result in
    let inv = c.loop-element.invariant in
    let less : k < length items = subst (λ (ss : List Shape). k < length ss) c.deref-element-items.ensures.value c.loop-element-test.true in
    let at : u ≡ get_or items k u = subst (λ (ss : List Shape). u ≡ get_or ss k u) c.deref-element-items.ensures.value c.element-item.is in
    let e : s ≡ pairs (map shape_of items) t = ap shape_of c.in-List.is ∙ (list_shape c.in-List.elements c.in-List.tail ∙ ap (λ (v : Shape). pairs (map shape_of items) (shape_of v)) (sym c.deref-in-List.ensures)) in
    let lighter = element_lighter c.args.shape.now c.in-List.elements c.in-List.tail k u c.in-List.is less at in
    (omega (arith, lighter, c.decreases), (within, (inv.keeps.whole, (edges_stay g.B.Meaning c.args.objs.now c.args.b.now c.args.edges.now c.loop-element.objs inv.keeps c.requires.edges, (c.requires.count, (inv.found ∙ c.requires.found, (element_shape items k u t less at (subst IsShape e c.requires.shape), (among_then (indices_in (shape_of u)) (indices_in s) all (element_inside s items t k u e less at) c.requires.among, element_is_apart s items t k u e less at c.requires.apart))))))))

pub returns-in_err-first-in-List-clause-others : goal.returns-in_err-first-in-List-clause-others
returns-in_err-first-in-List-clause-others g t c =
    let items = c.in-List.elements.items in
    let t = shape_of c.deref-in-List.result.now in
    let s = shape_of c.args.shape.now in
    let all = indices_of c.args.b.now in
    let k = c.loop-element.element-index in
    let u = c.element-item.result in
    let inv = c.loop-element.invariant in
    let less : k < length items = subst (λ (ss : List Shape). k < length ss) c.deref-element-items.ensures.value c.loop-element-test.true in
    let at : u ≡ get_or items k u = subst (λ (ss : List Shape). u ≡ get_or ss k u) c.deref-element-items.ensures.value c.element-item.is in
    let e : s ≡ pairs (map shape_of items) t = ap shape_of c.in-List.is ∙ (list_shape c.in-List.elements c.in-List.tail ∙ ap (λ (v : Shape). pairs (map shape_of items) (shape_of v)) (sym c.deref-in-List.ensures)) in
    sets_then all (indices_in s) c.args.found.now c.loop-element.found _ inv.others (sets_more all (indices_in (shape_of u)) (indices_in s) c.loop-element.found _ (element_inside s items t k u e less at) c.in_err-first-in-List.ensures.others)

pub returns-in_err-first-in-List-clause-cause : goal.returns-in_err-first-in-List-clause-cause
returns-in_err-first-in-List-clause-cause g t c =
    let items = c.in-List.elements.items in
    let t = shape_of c.deref-in-List.result.now in
    let s = shape_of c.args.shape.now in
    let all = indices_of c.args.b.now in
    let k = c.loop-element.element-index in
    let u = c.element-item.result in
    let inv = c.loop-element.invariant in
    let less : k < length items = subst (λ (ss : List Shape). k < length ss) c.deref-element-items.ensures.value c.loop-element-test.true in
    let at : u ≡ get_or items k u = subst (λ (ss : List Shape). u ≡ get_or ss k u) c.deref-element-items.ensures.value c.element-item.is in
    let e : s ≡ pairs (map shape_of items) t = ap shape_of c.in-List.is ∙ (list_shape c.in-List.elements c.in-List.tail ∙ ap (λ (v : Shape). pairs (map shape_of items) (shape_of v)) (sym c.deref-in-List.ensures)) in
    let p = err_from_is_err_and c.from_residual-in_err-first-in-List.result c.from_residual-in_err-first-in-List.ensures.1 in
    rw (p.1, p.2) (element_cause g.B.Meaning _ c.args.machine.now c.loop-element.machine c.args.b.now inv.rests.arena s items t k u _ _ e less at c.in_err-first-in-List.ensures.cause)

pub returns-in_err-first-in-List-clause-rests : goal.returns-in_err-first-in-List-clause-rests
returns-in_err-first-in-List-clause-rests g t c = rests_then c.args.machine.now c.loop-element.machine _ c.loop-element.invariant.rests c.in_err-first-in-List.ensures.rests

pub returns-in_err-all-in-List-2-clause-others : goal.returns-in_err-all-in-List-2-clause-others
returns-in_err-all-in-List-2-clause-others g t c =
    let items = c.in-List.elements.items in
    let t = shape_of c.deref-in-List.result.now in
    let s = shape_of c.args.shape.now in
    let all = indices_of c.args.b.now in
    let k = c.loop-element.element-index in
    let u = c.element-item.result in
    let inv = c.loop-element.invariant in
    let less : k < length items = subst (λ (ss : List Shape). k < length ss) c.deref-element-items.ensures.value c.loop-element-test.true in
    let at : u ≡ get_or items k u = subst (λ (ss : List Shape). u ≡ get_or ss k u) c.deref-element-items.ensures.value c.element-item.is in
    let e : s ≡ pairs (map shape_of items) t = ap shape_of c.in-List.is ∙ (list_shape c.in-List.elements c.in-List.tail ∙ ap (λ (v : Shape). pairs (map shape_of items) (shape_of v)) (sym c.deref-in-List.ensures)) in
    sets_then all (indices_in s) c.args.found.now c.loop-element.found _ inv.others (sets_more all (indices_in (shape_of u)) (indices_in s) c.loop-element.found _ (element_inside s items t k u e less at) c.in_ok-first-in-List.ensures.others)

pub returns-in_err-all-in-List-2-clause-rests : goal.returns-in_err-all-in-List-2-clause-rests
returns-in_err-all-in-List-2-clause-rests g t c = rests_then c.args.machine.now c.loop-element.machine _ c.loop-element.invariant.rests c.in_ok-first-in-List.ensures.rests

pub loop-element-preserved : goal.loop-element-preserved
loop-element-preserved g t c =
    let items = c.in-List.elements.items in
    let t = shape_of c.deref-in-List.result.now in
    let s = shape_of c.args.shape.now in
    let all = indices_of c.args.b.now in
    let k = c.loop-element.element-index in
    let u = c.element-item.result in
    let inv = c.loop-element.invariant in
    let less : k < length items = subst (λ (ss : List Shape). k < length ss) c.deref-element-items.ensures.value c.loop-element-test.true in
    let at : u ≡ get_or items k u = subst (λ (ss : List Shape). u ≡ get_or ss k u) c.deref-element-items.ensures.value c.element-item.is in
    let e : s ≡ pairs (map shape_of items) t = ap shape_of c.in-List.is ∙ (list_shape c.in-List.elements c.in-List.tail ∙ ap (λ (v : Shape). pairs (map shape_of items) (shape_of v)) (sym c.deref-in-List.ensures)) in
    let m = g.B.Meaning in
    let old = c.args.objs.now in
    let first = c.in_ok-first-in-List.ensures in
    let made = c.in_ok-all-in-List-2.ensures.makes in
    record {
      keeps = keeps_then m old c.loop-element.objs _ inv.keeps (keeps_then m c.loop-element.objs _ _ first.keeps made.keeps);
      live = made.live;
      means = λ a.
          let obj : ShapeSeen → Object = object_meant (holds_over m old.store c.args.b.now c.args.edges.now a) in
          let x = (object_later m old c.args.b.now c.args.edges.now c.requires.count c.requires.edges c.loop-element.objs _ (shape_of u) _ inv.keeps first.object).means a in
          let rest = first.keeps.same c.loop-element.all a inv.live in
          ap (conses (map obj (map shape_of (drop (k + 1) c.deref-element-items.result.now)))) (made.means a ∙ (λ j. Cons (x j) (rest j)))
          ∙ (sym (conses_drop obj c.deref-element-items.result.now k u (stands_for m c.loop-element.objs c.loop-element.all a) c.loop-element-test.true c.element-item.is) ∙ inv.means a);
      found = first.found ∙ inv.found;
      others = sets_then all (indices_in s) c.args.found.now c.loop-element.found _ inv.others (sets_more all (indices_in (shape_of u)) (indices_in s) c.loop-element.found _ (element_inside s items t k u e less at) first.others);
      rests = rests_then c.args.machine.now c.loop-element.machine _ inv.rests first.rests;
    }

pub returns-in_ok-choice_over-in-Choice-clause-object : goal.returns-in_ok-choice_over-in-Choice-clause-object
returns-in_ok-choice_over-in-Choice-clause-object g t c =
    let x = shape_of c.deref.result.now in
    let y = shape_of c.deref-in-Choice.result.now in
    let i = c.in-Choice.index in
    let s = shape_of c.args.shape.now in
    let all = indices_of c.args.b.now in
    let e : s ≡ Choice i x y = ap shape_of c.in-Choice.is ∙ (choice_shape i c.in-Choice.first c.in-Choice.second ∙ (ap (λ (u : Shape). Choice i (shape_of u) (shape_of c.in-Choice.second.value)) (sym c.deref.ensures) ∙ ap (λ (u : Shape). Choice i x (shape_of u)) (sym c.deref-in-Choice.ensures))) in
    let m = g.B.Meaning in
    let old = c.args.objs.now in
    let b = c.args.b.now in
    let es = c.args.edges.now in
    let o = c.in_ok-x-in-Choice.ensures in
    let p = c.in_ok-y-in-Choice.ensures in
    let mid = c.object_over-in-Choice.new.objs in
    let k = keeps_then m old c.object_over.new.objs mid o.keeps p.keeps in
    let made = c.in_ok-choice_over-in-Choice.ensures.makes in
    object_choice m old b es c.requires.count c.requires.edges mid _ i s x y c.in_ok-x-in-Choice.x c.in_ok-y-in-Choice.y _ k e
    (object_kept m old b es c.requires.count c.requires.edges c.object_over.new.objs mid x c.in_ok-x-in-Choice.x p.keeps o.object)
    (object_later m old b es c.requires.count c.requires.edges c.object_over.new.objs mid y c.in_ok-y-in-Choice.y o.keeps p.object) made.live made.means

pub returns-in_ok-choice_over-in-Choice-clause-others : goal.returns-in_ok-choice_over-in-Choice-clause-others
returns-in_ok-choice_over-in-Choice-clause-others g t c =
    let x = shape_of c.deref.result.now in
    let y = shape_of c.deref-in-Choice.result.now in
    let i = c.in-Choice.index in
    let s = shape_of c.args.shape.now in
    let all = indices_of c.args.b.now in
    let e : s ≡ Choice i x y = ap shape_of c.in-Choice.is ∙ (choice_shape i c.in-Choice.first c.in-Choice.second ∙ (ap (λ (u : Shape). Choice i (shape_of u) (shape_of c.in-Choice.second.value)) (sym c.deref.ensures) ∙ ap (λ (u : Shape). Choice i x (shape_of u)) (sym c.deref-in-Choice.ensures))) in
    sets_then all (indices_in s) c.args.found.now c.object_over.new.found _
    (sets_then all (indices_in s) c.args.found.now c.set.new.self _ (sets_one all (indices_in s) i c.args.found.now c.set.new.self true (index_inside s i x y e) (c.set.ensures ∙ ap (λ (k : ℕ). slice_set c.args.found.now k true) c.rank-test.ensures)) (sets_more all (indices_in x) (indices_in s) c.set.new.self _ (first_inside s i x y e) c.in_ok-x-in-Choice.ensures.others))
    (sets_then all (indices_in s) c.object_over.new.found c.set-in-Choice.new.self _ (sets_one all (indices_in s) i c.object_over.new.found c.set-in-Choice.new.self false (index_inside s i x y e) (c.set-in-Choice.ensures ∙ ap (λ (k : ℕ). slice_set c.object_over.new.found k false) c.rank-test.ensures)) (sets_more all (indices_in y) (indices_in s) c.set-in-Choice.new.self _ (second_inside s i x y e) c.in_ok-y-in-Choice.ensures.others))

pub returns-in_ok-choice_over-in-Choice-clause-rests : goal.returns-in_ok-choice_over-in-Choice-clause-rests
returns-in_ok-choice_over-in-Choice-clause-rests g t c = rests_then c.args.machine.now c.object_over.new.machine c.object_over-in-Choice.new.machine c.in_ok-x-in-Choice.ensures.rests c.in_ok-y-in-Choice.ensures.rests

pub returns-after-loop-element-clause-object : goal.returns-after-loop-element-clause-object
returns-after-loop-element-clause-object g t c =
    let m = g.B.Meaning in
    let k = c.loop-element.element-index in
    let inv = c.loop-element.invariant in
    let items = c.deref-element-items.result.now in
    let o = c.in_ok-all-in-List.ensures in
    let none : drop k items ≡ [] = drop_all k items c.loop-element-test.false in
    record {
      live = inv.live;
      means = λ a.
          let f : ℕ → Bool = holds_over m c.args.objs.now.store c.args.b.now c.args.edges.now a in
          let obj : ShapeSeen → Object = object_meant f in
          let tail = o.object.means a ∙ ap (λ (s : Shape). obj (shape_of s)) c.deref-in-List.ensures in
          ap (λ (ss : List Shape). conses (map obj (map shape_of ss)) (stands_for m c.loop-element.objs c.loop-element.all a)) (sym none)
          ∙ (inv.means a
          ∙ (ap (conses (map obj (map shape_of items))) tail
          ∙ (ap (λ (ss : List Shape). conses (map obj (map shape_of ss)) (obj (shape_of c.in-List.tail.value))) c.deref-element-items.ensures.value
          ∙ (sym (pairs_object f (map shape_of c.in-List.elements.items) (shape_of c.in-List.tail.value))
          ∙ ap obj (sym (ap shape_of c.in-List.is ∙ list_shape c.in-List.elements c.in-List.tail))))));
    }
