-- How many cells objects, terms and worlds have.
use Rattle.std.proofs.Common.{◌≡◌, ◌∙◌, ap, sym, ℕ, zero, suc, ◌+◌, ◌<◌, ◌≤◌, arith, List, [], ◌∷◌, ◌++◌, length, get_or, take, append_assoc, append-nil, Some, slice_get}
use Rattle.std.specs.Prelude.{map}
use Rattle.std.specs.List.{flat_map, filter}
use Rattle.std.proofs.lemmas.List.{length-append, map-append}
use Rattle.std.proofs.lemmas.List.Elements.{filter-append}
use Rattle.std.proofs.lemmas.Grind.{flat_map-append}
use Rattle.gl_logic.specs.CellCounts.{constants_of, constants_of_all, constant_cells}
use Rattle.gl_logic.specs.Definition.{Definition}
use Rattle.gl_logic.specs.Extents.{world_cut}
use Rattle.gl_logic.specs.Object.{Object, Cons}
use Rattle.gl_logic.specs.Parts.{parts, is_cell, cells_in}
use Rattle.gl_logic.specs.TermOf.{term_of, terms_of}
use Rattle.gl_logic.specs.WorldSeen.{WorldSeen, with_clique, with_constant}
use Rattle.gl_logic.specs.declared.term.Term.{Term}
use Rattle.gl_logic.specs.declared.world.Extent.{Extent}
use Rattle.gl_logic.proofs.Optional.{none_some, some_same}

-- ---- lists
pub at_index : {A : Type 0} (ys : List A) (i : ℕ) (e : A) → i < length ys → e ≡ get_or ys i e → slice_get ys i ≡ Some e
at_index [] i e l is = absurd (omega (arith, l))
at_index (y ∷ ys) zero e l is = ap (λ z. Some z) (sym is)
at_index (y ∷ ys) (suc i) e l is = at_index ys i e (omega (arith, l)) is

take_at_suc : {A : Type 0} (ys : List A) (i : ℕ) (e : A) → slice_get ys i ≡ Some e → take (suc i) ys ≡ take i ys ++ e ∷ []
take_at_suc [] i e h = none_some e h
take_at_suc (y ∷ ys) zero e h = ap (λ z. z ∷ []) (some_same y e h)
take_at_suc (y ∷ ys) (suc i) e h = ap (λ zs. y ∷ zs) (take_at_suc ys i e h)

pub take_next : {A : Type 0} (ys : List A) (i : ℕ) (e : A) → slice_get ys i ≡ Some e → take (i + 1) ys ≡ take i ys ++ e ∷ []
take_next ys i e h = let same : i + 1 ≡ suc i = omega arith in ap (λ k. take k ys) same ∙ take_at_suc ys i e h

flat-push : {A B : Type 0} (f : A → List B) (ys : List A) (e : A) → flat_map f (ys ++ e ∷ []) ≡ flat_map f ys ++ f e
flat-push f [] e = append-nil (f e)
flat-push f (y ∷ ys) e = ap (λ zs. f y ++ zs) (flat-push f ys e) ∙ sym (append_assoc (f y) (flat_map f ys) (f e))

pub flat_next : {A B : Type 0} (f : A → List B) (ys : List A) (i : ℕ) (e : A) → slice_get ys i ≡ Some e → flat_map f (take (i + 1) ys) ≡ flat_map f (take i ys) ++ f e
flat_next f ys i e h = ap (flat_map f) (take_next ys i e h) ∙ flat-push f (take i ys) e

constants-push : (ts : List Term) (t : Term) → constants_of_all (terms_of (ts ++ t ∷ [])) ≡ constants_of_all (terms_of ts) ++ constants_of (term_of t)
constants-push [] t = append-nil (constants_of (term_of t))
constants-push (u ∷ ts) t = ap (λ zs. constants_of (term_of u) ++ zs) (constants-push ts t) ∙ sym (append_assoc (constants_of (term_of u)) (constants_of_all (terms_of ts)) (constants_of (term_of t)))

pub constants_next : (ts : List Term) (i : ℕ) (t : Term) → i < length ts → t ≡ get_or ts i t → constants_of_all (terms_of (take (i + 1) ts)) ≡ constants_of_all (terms_of (take i ts)) ++ constants_of (term_of t)
constants_next ts i t l is = ap (λ us. constants_of_all (terms_of us)) (take_next ts i t (at_index ts i t l is)) ∙ constants-push (take i ts) t

-- ---- how many cells
pub cells_of_cons : (a d : Object) → length (cells_in (Cons a d)) ≡ 1 + (length (cells_in a) + length (cells_in d))
cells_of_cons a d =
    let both : length (filter is_cell (parts a ++ parts d)) ≡ length (cells_in a ++ cells_in d) = ap length (filter-append is_cell (parts a) (parts d)) in
    let each : length (cells_in a ++ cells_in d) ≡ length (cells_in a) + length (cells_in d) = length-append (cells_in a) (cells_in d) in
    omega (arith, both, each)

pub cells_of_one : (x : Object) → length (flat_map cells_in (x ∷ [])) ≡ length (cells_in x)
cells_of_one x = ap length (append-nil (cells_in x))

pub cells_of_both : (xs ys : List Object) → length (flat_map cells_in (xs ++ ys)) ≡ length (flat_map cells_in xs) + length (flat_map cells_in ys)
cells_of_both xs ys =
    let both : length (flat_map cells_in (xs ++ ys)) ≡ length (flat_map cells_in xs ++ flat_map cells_in ys) = ap length (flat_map-append cells_in xs ys) in
    both ∙ length-append (flat_map cells_in xs) (flat_map cells_in ys)

pub cells_of_three : (xs ys zs : List Object) → length (flat_map cells_in (xs ++ (ys ++ zs))) ≡ length (flat_map cells_in xs) + (length (flat_map cells_in ys) + length (flat_map cells_in zs))
cells_of_three xs ys zs = omega (arith, cells_of_both xs (ys ++ zs), cells_of_both ys zs)

-- ---- of the constants of a world
abbrev pub in_bodies : List Definition → List Object
in_bodies ds = flat_map (λ d. constants_of d.body) ds

abbrev values : List (ℕ × Object) → List Object
values cs = map (λ c. c.1) cs

pub bodies_next : (ds : List Definition) (i : ℕ) (d : Definition) → slice_get ds i ≡ Some d → length (flat_map cells_in (in_bodies (take (i + 1) ds))) ≡ length (flat_map cells_in (in_bodies (take i ds))) + length (flat_map cells_in (constants_of d.body))
bodies_next ds i d h = ap (λ xs. length (flat_map cells_in xs)) (flat_next (λ (e : Definition). constants_of e.body) ds i d h) ∙ cells_of_both (in_bodies (take i ds)) (constants_of d.body)

-- what else a world has does not count
cells_of_parts : (v w : WorldSeen) → v.definitions ≡ w.definitions → v.constants ≡ w.constants → length (constant_cells v) ≡ length (constant_cells w)
cells_of_parts v w ds cs = λ i. length (flat_map cells_in (values (cs i) ++ in_bodies (ds i)))

cells_with_constant : (w : WorldSeen) (name : ℕ) (x : Object) → length (constant_cells (with_constant w name x)) ≡ length (constant_cells w) + length (cells_in x)
cells_with_constant w name x =
    let old = cells_of_both (values w.constants) (in_bodies w.definitions) in
    let new = cells_of_both (values (w.constants ++ (name, x) ∷ [])) (in_bodies w.definitions) in
    let more : length (flat_map cells_in (values (w.constants ++ (name, x) ∷ []))) ≡ length (flat_map cells_in (values w.constants)) + length (flat_map cells_in (x ∷ [])) =
    ap (λ xs. length (flat_map cells_in xs)) (map-append (λ (c : ℕ × Object). c.1) w.constants ((name, x) ∷ [])) ∙ cells_of_both (values w.constants) (x ∷ []) in
    omega (arith, old, new, more, cells_of_one x)

cells_with_clique : (w : WorldSeen) (ds : List Definition) → length (constant_cells (with_clique w ds)) ≡ length (constant_cells w) + length (flat_map cells_in (in_bodies ds))
cells_with_clique w ds =
    let old = cells_of_both (values w.constants) (in_bodies w.definitions) in
    let new = cells_of_both (values w.constants) (in_bodies (w.definitions ++ ds)) in
    let more : length (flat_map cells_in (in_bodies (w.definitions ++ ds))) ≡ length (flat_map cells_in (in_bodies w.definitions)) + length (flat_map cells_in (in_bodies ds)) =
    ap (λ xs. length (flat_map cells_in xs)) (flat_map-append (λ (d : Definition). constants_of d.body) w.definitions ds) ∙ cells_of_both (in_bodies w.definitions) (in_bodies ds) in
    omega (arith, old, new, more)

pub more_constants : (old new : WorldSeen) (name : ℕ) (x : Object) → new.definitions ≡ old.definitions → new.constants ≡ old.constants ++ (name, x) ∷ [] → length (constant_cells new) ≡ length (constant_cells old) + length (cells_in x)
more_constants old new name x ds cs = cells_of_parts new (with_constant old name x) ds cs ∙ cells_with_constant old name x

pub more_definitions : (old new : WorldSeen) (ds : List Definition) → new.definitions ≡ old.definitions ++ ds → new.constants ≡ old.constants → length (constant_cells new) ≡ length (constant_cells old) + length (flat_map cells_in (in_bodies ds))
more_definitions old new ds es cs = cells_of_parts new (with_clique old ds) es cs ∙ cells_with_clique old ds

pub one_definition : (old new : WorldSeen) (d : Definition) → new.definitions ≡ old.definitions ++ d ∷ [] → new.constants ≡ old.constants → length (constant_cells new) ≡ length (constant_cells old) + length (flat_map cells_in (constants_of d.body))
one_definition old new d es cs = more_definitions old new (d ∷ []) es cs ∙ ap (λ xs. length (constant_cells old) + length (flat_map cells_in xs)) (append-nil (constants_of d.body))

-- ---- a world that is cut has no more
values_fewer : (n : ℕ) (cs : List (ℕ × Object)) → length (flat_map cells_in (values (take n cs))) ≤ length (flat_map cells_in (values cs))
values_fewer zero cs = omega arith
values_fewer (suc n) [] = omega arith
values_fewer (suc n) (c ∷ cs) = omega (arith, values_fewer n cs, length-append (cells_in c.1) (flat_map cells_in (values (take n cs))), length-append (cells_in c.1) (flat_map cells_in (values cs)))

bodies_fewer : (n : ℕ) (ds : List Definition) → length (flat_map cells_in (in_bodies (take n ds))) ≤ length (flat_map cells_in (in_bodies ds))
bodies_fewer zero ds = omega arith
bodies_fewer (suc n) [] = omega arith
bodies_fewer (suc n) (d ∷ ds) = omega (arith, bodies_fewer n ds, cells_of_both (constants_of d.body) (in_bodies (take n ds)), cells_of_both (constants_of d.body) (in_bodies ds))

cells_of_cut : (e : Extent) (w : WorldSeen) → length (constant_cells (world_cut e w)) ≤ length (constant_cells w)
cells_of_cut e w =
    let old = cells_of_both (values w.constants) (in_bodies w.definitions) in
    let new = cells_of_both (values (take e.constants w.constants)) (in_bodies (take e.definitions w.definitions)) in
    omega (arith, old, new, values_fewer e.constants w.constants, bodies_fewer e.definitions w.definitions)

pub fewer_cells : (e : Extent) (old now new : WorldSeen) → old ≡ now → new.definitions ≡ take e.definitions now.definitions → new.constants ≡ take e.constants now.constants → length (constant_cells new) ≤ length (constant_cells old)
fewer_cells e old now new is ds cs =
    let before : length (constant_cells old) ≡ length (constant_cells now) = ap (λ w. length (constant_cells w)) is in
    omega (arith, before, cells_of_parts new (world_cut e now) ds cs, cells_of_cut e now)
