-- Places of names, as a list grows.
use Rattle.std.proofs.Common.{◌≡◌, ◌≢◌, ◌∙◌, ap, sym, refl, ℕ, zero, suc, ◌<◌, List, [], ◌∷◌, ◌++◌, map, Bool, true, false, cond, eqb, Option, Some, None, length, arith, ◌⊎◌, inl, inr, slice_get, get_or, subst}
use Rattle.std.specs.List.{find}
use Rattle.std.specs.Option.{option_map}
use Rattle.std.proofs.lemmas.Option.{slice_get_read, slice_get-map}
use Rattle.std.proofs.lemmas.List.Quantifiers.{position-Some}
use Rattle.std.proofs.lemmas.Bool.{cases_eq}
use Rattle.gl_logic.specs.Named.{place_of, place_in, IsIndex, IsFree, names_of, object_named}
use Rattle.gl_logic.specs.Object.{Object}

pub place-cons : (n : ℕ) (ns : List ℕ) (name : ℕ) → place_of (n ∷ ns) name ≡ cond (eqb name n) (Some 0) (option_map suc (place_of ns name))
place-cons n ns name = grind arith

some_same : {A : Type 0} (x y : A) → Some x ≡ Some y → x ≡ y
some_same x y e = cc

pub place-push : (ns : List ℕ) (n name : ℕ) → IsFree ns n → place_of (ns ++ n ∷ []) name ≡ cond (eqb n name) (Some (length ns)) (place_of ns name)
place-push [] n name h = grind arith
place-push (m ∷ ns) n name h = grind (arith, place-cons m (ns ++ n ∷ []) name, place-cons m ns name, place-cons m ns n, place-push ns n name)

at_place : {A : Type 0} (xs : List A) (p q : ℕ) → Some p ≡ Some q → slice_get xs q ≡ slice_get xs p
at_place xs p q h = ap (slice_get xs) (sym (some_same p q h))

found_at : (es : List (ℕ × Object)) (d : ℕ × Object) (name : ℕ) (r : Option ℕ) (b : Bool) (place : ℕ) (x : Object)
    → ((p : ℕ) → r ≡ Some p → slice_get (map (λ e. e.1) es) p ≡ Some x → object_named es name ≡ Some x)
    → cond b (Some 0) (option_map suc r) ≡ Some place → slice_get (d.1 ∷ map (λ e. e.1) es) place ≡ Some x
    → option_map (λ e. e.1) (cond b (Some d) (find (λ e. eqb name e.0) es)) ≡ Some x
found_at es d name r true place x k h e = sym (at_place (d.1 ∷ map (λ e. e.1) es) 0 place h) ∙ e
found_at es d name None false place x k h e = absurd cc
found_at es d name (Some p) false place x k h e = k p refl (sym (at_place (d.1 ∷ map (λ e. e.1) es) (suc p) place h) ∙ e)

pub found : (es : List (ℕ × Object)) (name place : ℕ) (x : Object) → place_of (names_of es) name ≡ Some place → slice_get (map (λ e. e.1) es) place ≡ Some x → object_named es name ≡ Some x
found [] name place x h e = absurd cc
found (d ∷ es) name place x h e =
    found_at es d name (place_of (names_of es) name) (eqb name d.0) place x (λ p g k. found es name p x g k) (sym (place-cons d.0 (names_of es) name) ∙ h) e

not_found_at : (es : List (ℕ × Object)) (d : ℕ × Object) (name : ℕ) (r : Option ℕ) (b : Bool)
    → (r ≡ None → object_named es name ≡ None)
    → cond b (Some 0) (option_map suc r) ≡ None
    → option_map (λ e. e.1) (cond b (Some d) (find (λ e. eqb name e.0) es)) ≡ None
not_found_at es d name r true k h = absurd cc
not_found_at es d name None false k h = k refl
not_found_at es d name (Some p) false k h = absurd cc

pub not_found : (es : List (ℕ × Object)) (name : ℕ) → place_of (names_of es) name ≡ None → object_named es name ≡ None
not_found [] name h = refl
not_found (d ∷ es) name h =
    not_found_at es d name (place_of (names_of es) name) (eqb name d.0) (not_found es name) (sym (place-cons d.0 (names_of es) name) ∙ h)

-- an element seen through a map
pub read_map : {A B : Type 0} (f : A → B) (xs : List A) (i : ℕ) (x : A) → i < length xs → x ≡ get_or xs i x → slice_get (map f xs) i ≡ Some (f x)
read_map f xs i x h e = slice_get-map f xs i ∙ ap (option_map f) (slice_get_read xs (length xs) i x refl h e)

-- the index of the list with one name more
pub index_push : (old mid new : List ℕ) (names after : List ℕ) (n k : ℕ) → IsIndex old names → IsFree names n → k ≡ length names → after ≡ names ++ n ∷ []
    → ((other : ℕ) → place_in mid other ≡ place_in old other)
    → ((other : ℕ) → place_in new other ≡ cond (eqb n other) (Some k) (place_in mid other)) → IsIndex new after
index_push old mid new names after n k h free e is same put name =
    put name ∙ ((λ i. cond (eqb n name) (Some (e i)) ((same name ∙ h name) i)) ∙ (sym (place-push names n name free) ∙ ap (λ ns. place_of ns name) (sym is)))

pub slice_push : {A : Type 0} (xs : List A) (y : A) (i : ℕ) (x : A) → slice_get (xs ++ y ∷ []) i ≡ Some x → ((i < length xs) × (slice_get xs i ≡ Some x)) ⊎ ((i ≡ length xs) × (y ≡ x))
slice_push [] y zero x e = inr (refl, cc)
slice_push [] y (suc i) x e = absurd cc
slice_push (z ∷ xs) y zero x e = inl (omega arith, e)
slice_push (z ∷ xs) y (suc i) x e = elim (slice_push xs y i x e) [ inl h ↦ inl (omega (arith, h.0), h.1) | inr h ↦ inr (omega (arith, h.0), h.1) ]

-- ---- a list with one name less
abbrev or_last : Option ℕ → Bool → ℕ → Option ℕ
or_last (Some i) b k = Some i
or_last None b k = cond b (Some k) None

or_last-suc : (o : Option ℕ) (b : Bool) (k : ℕ) → option_map suc (or_last o b k) ≡ or_last (option_map suc o) b (suc k)
or_last-suc (Some i) b k = refl
or_last-suc None true k = refl
or_last-suc None false k = refl

or_last-cond : (c b : Bool) (o : Option ℕ) (k : ℕ) → cond c (Some 0) (or_last o b k) ≡ or_last (cond c (Some 0) o) b k
or_last-cond true b o k = refl
or_last-cond false b o k = refl

place-last : (ns : List ℕ) (n name : ℕ) → place_of (ns ++ n ∷ []) name ≡ or_last (place_of ns name) (eqb name n) (length ns)
place-last [] n name = place-cons n [] name
place-last (m ∷ ns) n name =
    place-cons m (ns ++ n ∷ []) name
    ∙ ap (λ o. cond (eqb name m) (Some 0) (option_map suc o)) (place-last ns n name)
    ∙ ap (cond (eqb name m) (Some 0)) (or_last-suc (place_of ns name) (eqb name n) (length ns))
    ∙ or_last-cond (eqb name m) (eqb name n) (option_map suc (place_of ns name)) (suc (length ns))
    ∙ ap (λ o. or_last o (eqb name n) (suc (length ns))) (sym (place-cons m ns name))

or_last-no : (o : Option ℕ) (b : Bool) (k : ℕ) → b ≡ false → or_last o b k ≡ o
or_last-no (Some i) b k h = refl
or_last-no None true k h = absurd cc
or_last-no None false k h = refl

-- the index without the last name
popped_here : (names : List ℕ) (n k : ℕ) (o old new : Option ℕ) → k ≡ length names → place_of names n ≡ o → old ≡ or_last o true (length names)
    → (old ≡ Some k → new ≡ None) → ((old ≡ Some k → ⊥) → new ≡ old) → new ≡ o
popped_here names n k None old new h p e gone same = gone (e ∙ ap (λ (i : ℕ). Some i) (sym h))
popped_here names n k (Some i) old new h p e gone same =
    let w = position-Some (eqb n) names i 0 p in
    same (λ q. absurd (omega (arith, some_same i k (sym e ∙ q), h, w.0))) ∙ e

other_number : (name n : ℕ) → name ≢ n → eqb name n ≡ false
other_number name n h = grind (arith, h)

same_number : (n : ℕ) → eqb n n ≡ true
same_number n = grind arith

pub index_pop : (old new : List ℕ) (names : List ℕ) (n k : ℕ) → k ≡ length names → IsIndex old (names ++ n ∷ [])
    → (place_in old n ≡ Some k → place_in new n ≡ None) → ((place_in old n ≡ Some k → ⊥) → place_in new n ≡ place_in old n)
    → ((other : ℕ) → (other ≡ n → ⊥) → place_in new other ≡ place_in old other) → IsIndex new names
index_pop old new names n k h is gone same others name = elim (cases_eq name n) [
  | inl at ↦
      subst (λ (m : ℕ). place_in new m ≡ place_of names m) (sym at)
      (popped_here names n k (place_of names n) (place_in old n) (place_in new n) h refl (is n ∙ place-last names n n ∙ ap (λ b. or_last (place_of names n) b (length names)) (same_number n)) gone same)
  | inr e ↦ others name e ∙ is name ∙ place-last names n name ∙ or_last-no (place_of names name) (eqb name n) (length names) (other_number name n e)
]
