-- Names of definitions that get their places one after the other.
use Rattle.std.proofs.Common.{◌≡◌, ◌∙◌, ap, sym, refl, subst, inl, inr, ℕ, zero, suc, ◌+◌, ◌-◌, ◌<◌, ◌≤◌, List, [], ◌∷◌, ◌++◌, map, false, cond, eqb, Some, take, length, arith, slice_get}
use Rattle.std.proofs.lemmas.Bool.{cases_Bool, eqb-true}
use Rattle.std.proofs.lemmas.List.{length-map, map-append, length-take-le}
use Rattle.std.proofs.lemmas.Option.{slice_get_within}
use Rattle.gl_logic.specs.Every.{Every}
use Rattle.gl_logic.specs.Named.{IsFree, AreFreeNames, AreDifferentNames, IsIndex, place_in}
use Rattle.gl_logic.specs.NewNames.{numbers_of, HasRoom, AreFreeFrom}
use Rattle.gl_logic.specs.Definition.{Definition}
use Rattle.gl_logic.specs.DefinitionOf.{definition_of}
use Rattle.gl_logic.specs.WorldSeen.{definition_names}
use Rattle.gl_logic.specs.declared.def.Def.{Def}
use Rattle.gl_logic.proofs.Indexes.{place-cons, index_push}
use Rattle.gl_logic.proofs.Optional.{none_some, some_same}
use Rattle.gl_logic.proofs.Worlds.{place_behind}

pub names_are : (defs : List Def) → definition_names (map definition_of defs) ≡ numbers_of defs
names_are [] = refl
names_are (d ∷ defs) = ap (λ (ns : List ℕ). d.name.number ∷ ns) (names_are defs)

-- ---- the front of a list, and one element more of it
take_front : {A : Type 0} (xs ys : List A) → take (length xs) (xs ++ ys) ≡ xs
take_front [] ys = refl
take_front (x ∷ xs) ys = ap (λ zs. x ∷ zs) (take_front xs ys)

take_past : {A : Type 0} (xs ys : List A) (i : ℕ) → length xs ≤ i → take i (xs ++ ys) ≡ xs ++ take (i - length xs) ys
take_past [] ys i h = let z : i ≡ i - 0 = omega arith in ap (λ k. take k ys) z
take_past (x ∷ xs) ys zero h = absurd (omega (arith, h))
take_past (x ∷ xs) ys (suc i) h = let z : i - length xs ≡ suc i - suc (length xs) = omega arith in ap (λ zs. x ∷ zs) (take_past xs ys i (omega (arith, h)) ∙ ap (λ k. xs ++ take k ys) z)

take_one : {A : Type 0} (xs : List A) (i : ℕ) (x : A) → slice_get xs i ≡ Some x → take (suc i) xs ≡ take i xs ++ x ∷ []
take_one [] i x e = none_some x e
take_one (y ∷ xs) zero x e = ap (λ z. z ∷ []) (some_same y x e)
take_one (y ∷ xs) (suc i) x e = ap (λ zs. y ∷ zs) (take_one xs i x e)

-- ---- names that are free
free_cons : (n : ℕ) (ns : List ℕ) (name : ℕ) → eqb name n ≡ false → IsFree ns name → IsFree (n ∷ ns) name
free_cons n ns name h g = grind (arith, place-cons n ns name, h, g)

first_differs : (n : ℕ) (ns : List ℕ) (name : ℕ) → IsFree (n ∷ ns) name → (eqb name n ≡ false) × IsFree ns name
first_differs n ns name h = (grind (arith, place-cons n ns name, h), grind (arith, place-cons n ns name, h))

free_append : (front behind : List ℕ) (name : ℕ) → IsFree front name → IsFree behind name → IsFree (front ++ behind) name
free_append [] behind name h g = g
free_append (a ∷ front) behind name h g = let k = first_differs a front name h in free_cons a (front ++ behind) name k.0 (free_append front behind name k.1 g)

different_tail : (b : ℕ) (behind : List ℕ) → AreDifferentNames (b ∷ behind) → AreDifferentNames behind
different_tail b behind h i j name e g = let q = h (suc i) (suc j) name e g in omega (arith, q)

free_before : (behind : List ℕ) (j name : ℕ) → AreDifferentNames behind → slice_get behind j ≡ Some name → IsFree (take j behind) name
free_before [] j name h e = none_some name e
free_before (b ∷ behind) zero name h e = refl
free_before (b ∷ behind) (suc j) name h e = elim (cases_Bool (eqb name b)) [
  | inl q ↦ let z = h 0 (suc j) name (ap Some (sym (eqb-true name b q))) e in absurd (omega (arith, z))
  | inr q ↦ free_cons b (take j behind) name q (free_before behind j name (different_tail b behind h) e)
]

every_at : {A : Type 0} (P : A → Type 0) (xs : List A) (i : ℕ) (x : A) → Every P xs → slice_get xs i ≡ Some x → P x
every_at P [] i x h e = none_some x e
every_at P (y ∷ xs) zero x h e = subst P (some_same y x e) h.0
every_at P (y ∷ xs) (suc i) x h e = every_at P xs i x h.1 e

free_names : (front behind : List ℕ) → AreFreeNames front behind → AreDifferentNames behind → AreFreeFrom (length front) (front ++ behind)
free_names front behind free different i name h e =
    let e' = sym (place_behind front behind i h) ∙ e in
    subst (λ (ns : List ℕ). IsFree ns name) (sym (take_past front behind i h)) (free_append front (take (i - length front) behind) name (every_at (IsFree front) behind (i - length front) name free e') (free_before behind (i - length front) name different e'))

-- ---- definitions behind others
module _ (old members all : List Def) (k : ℕ) (is : all ≡ old ++ members) (count : k ≡ length old) where
  abbrev front : List ℕ
  front = definition_names (map definition_of old)

  abbrev behind : List ℕ
  behind = definition_names (map definition_of members)

  numbers : numbers_of all ≡ front ++ behind
  numbers = ap numbers_of is ∙ (map-append (λ (d : Def). d.name.number) old members ∙ (λ i. sym (names_are old) i ++ sym (names_are members) i))

  counted : k ≡ length front
  counted = let p = length-map old definition_of in let q = length-map (map definition_of old) (λ (d : Definition). d.name) in omega (arith, p, q, count)

  pub front_names : front ≡ take k (numbers_of all)
  front_names = sym (take_front front behind) ∙ (λ i. take (sym counted i) (sym numbers i))

  pub free_behind : AreFreeNames front behind → AreDifferentNames behind → AreFreeFrom k (numbers_of all)
  free_behind free different = subst (λ (ns : List ℕ). AreFreeFrom k ns) (sym numbers) (subst (λ (n : ℕ). AreFreeFrom n (front ++ behind)) (sym counted) (free_names front behind free different))

  pub room_behind : (room : ℕ) → HasRoom room members 0 (length members) → HasRoom room all k (length all)
  room_behind room h i d l m e =
      let there : slice_get (old ++ members) i ≡ Some d = ap (λ (ds : List Def). slice_get ds i) (sym is) ∙ e in
      let le : length old ≤ i = omega (arith, l, count) in
      let e' = sym (place_behind old members i le) ∙ there in
      h (i - length old) d (omega arith) (slice_get_within members (i - length old) d e') e'

-- ---- one place more
pub index_more : (old new : List ℕ) (defs : List Def) (i : ℕ) (d : Def) → IsIndex old (take i (numbers_of defs)) → i < length defs → slice_get (numbers_of defs) i ≡ Some d.name.number → IsFree (take i (numbers_of defs)) d.name.number
    → ((other : ℕ) → place_in new other ≡ cond (eqb d.name.number other) (Some i) (place_in old other)) → IsIndex new (take (i + 1) (numbers_of defs))
index_more old new defs i d h l e free put =
    let ns = numbers_of defs in
    let z : i + 1 ≡ suc i = omega arith in
    let m = length-map defs (λ (d : Def). d.name.number) in
    index_push old old new (take i ns) (take (i + 1) ns) d.name.number i h free (sym (length-take-le i ns (omega (arith, l, m)))) (ap (λ k. take k ns) z ∙ take_one ns i d.name.number e) (λ other. refl) put
