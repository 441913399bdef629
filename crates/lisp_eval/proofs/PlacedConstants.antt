-- The constants of a world, listed and placed.
use Rattle.std.proofs.Common.{◌≡◌, ◌∙◌, ap, sym, refl, subst, Bool, true, false, cond, ℕ, suc, ◌+◌, ◌<◌, ◌≤◌, arith, List, [], ◌∷◌, ◌++◌, length, get_or, take, append_assoc, Some, slice_get, inl, inr, Ok}
use Rattle.std.specs.Prelude.{map}
use Rattle.std.specs.Io.Iter.{u64_saturate}
use Rattle.std.specs.List.{All, Contains, flat_map, list_any}
use Rattle.std.proofs.lemmas.Bool.{cases_lt}
use Rattle.std.proofs.lemmas.List.{take_all}
use Rattle.std.proofs.lemmas.List.Elements.{All-contains_itself, Contains-append_left}
use Rattle.gl_logic.specs.Different.{different}
use Rattle.gl_logic.specs.Object.{Object}
use Rattle.gl_logic.specs.ObjectEq.{object_eq}
use Rattle.gl_logic.specs.Parts.{cells_in}
use Rattle.gl_logic.proofs.DifferentObjects.{different_once, contains_different}
use Rattle.gl_logic.proofs.Optional.{some_same}
use Rattle.hons_arena.specs.declared.id.Id.{Id}
use Rattle.hons_arena.specs.Held.{Held, AddsCellsOf, IsWhole, LacksCell, Places}
use Rattle.hons_arena.specs.Parts.{IsCellOf, AreHeld}
use Rattle.hons_arena.proofs.Counting.{each_once_few}
use Rattle.lisp_eval.specs.MachineCalls.{different_cells}
use Rattle.lisp_eval.specs.Machines.{ArePlaced}
use Rattle.lisp_eval.specs.Within.{AreWithin, CoverCells}
use Rattle.lisp_eval.proofs.Going.{in_cells}
use Rattle.lisp_eval.proofs.Places.{place_of, below_at}
use Rattle.lisp_eval.proofs.Within.{split, stays, full}

-- ---- lists
-- some were there, more come behind them, and then these
pub behind_more : (start old new some more rest : List Object) → old ≡ start ++ some → new ≡ old ++ more → rest ≡ some ++ more → new ≡ start ++ rest
behind_more start old new some more rest e f g = f ∙ (ap (λ zs. zs ++ more) e ∙ (append_assoc start some more ∙ ap (λ zs. start ++ zs) (sym g)))

pub map-push : {A B : Type 0} (f : A → B) (ys : List A) (e : A) → map f (ys ++ e ∷ []) ≡ map f ys ++ f e ∷ []
map-push f [] e = refl
map-push f (y ∷ ys) e = ap (λ zs. f y ∷ zs) (map-push f ys e)

pub all_taken : {A : Type 0} (n : ℕ) (ys : List A) → length ys ≤ n → take n ys ≡ ys
all_taken n ys l = take_all n ys l

-- ---- placing
short_added : (b : Bool) (x : Object) (ys : List Object) (n : ℕ) → length ys ≤ n → length (cond b ys (x ∷ ys)) ≤ suc n
short_added true x ys n l = omega (arith, l)
short_added false x ys n l = omega (arith, l)

different_short : (ys : List Object) → length (different object_eq ys) ≤ length ys
different_short [] = omega arith
different_short (y ∷ ys) = short_added (list_any (object_eq y) (different object_eq ys)) y (different object_eq ys) (length ys) (different_short ys)

pub none_all : (P : Object → Type 0) (xs : List Object) → xs ≡ [] → All P xs
none_all P xs e k d l = let z : length xs ≡ 0 = ap length e in absurd (omega (arith, z, l))

-- a count of all cells that is within the limit tells that the different ones are
pub fit_by_count : (xs : List Object) (bound limit : ℕ) → u64_saturate (length (flat_map cells_in xs)) ≤ bound → bound ≤ limit → limit ≤ 4294967295 → limit < length (different_cells xs) → ⊥
fit_by_count xs bound limit counted within small many = omega (arith, different_short (flat_map cells_in xs), counted, within, small, many)

flat_from : (xs : List Object) (y : Object) → Contains (flat_map cells_in xs) y → (x : Object) × (Contains xs x × IsCellOf y x)
flat_from [] y c = absurd (omega (arith, c.1))
flat_from (x ∷ xs) y c = elim (split (cells_in x) (flat_map cells_in xs) y c) [
  | inl h ↦ (x, ((0, omega arith, refl), h))
  | inr h ↦ let k = flat_from xs y h in (k.0, ((suc k.1.0.0, omega (arith, k.1.0.1), k.1.0.2), k.1.1))
]

module _ (xs : List Object) where
  abbrev pub Before : ℕ → List Object → Type 0
  Before i objects = (k : ℕ) (x : Object) → k < i → slice_get xs k ≡ Some x → AreHeld objects x

  pub none_before : (objects : List Object) → Before 0 objects
  none_before objects k x l e = absurd (omega (arith, l))

  pub none_within : (objects : List Object) → objects ≡ [] → AreWithin [] xs objects
  none_within objects e y c = let z : length objects ≡ 0 = ap length e in absurd (omega (arith, z, c.1))

  module _ (i : ℕ) (x : Object) (at : slice_get xs i ≡ Some x) (old new : Held) where
    held_still : (y : Object) → AddsCellsOf x old.objects new.objects → AreHeld old.objects y → AreHeld new.objects y
    held_still y a h z c = subst (λ (zs : List Object). Contains zs z) (sym a.is) (Contains-append_left old.objects a.made z (h z c))

    pub one_more : (id : Id) → Places old new x (Ok id) → IsWhole new → Before i old.objects → Before (i + 1) new.objects
    one_more id p w b k y l e = elim (cases_lt k i) [
      | inl m ↦ held_still y p.objects (b k y m e)
      | inr m ↦
          let same : k ≡ i = omega (arith, l, m) in
          let is : x ≡ y = some_same x y (sym at ∙ (ap (slice_get xs) (sym same) ∙ e)) in
          subst (AreHeld new.objects) (p.id.1 ∙ is) (w.parts id p.id.0)
    ]

    pub within_more : AddsCellsOf x old.objects new.objects → AreWithin [] xs old.objects → AreWithin [] xs new.objects
    within_more a h = stays [] xs old.objects new.objects x (i, at) a h

    covers : CoverCells [] xs (flat_map cells_in xs)
    covers = record { first = λ y c. absurd (omega (arith, c.1)); later = λ y s. in_cells xs s.value y s.seen_value.0 s.seen_value.1 s.cell }

    pub lacks_one : LacksCell new x → IsWhole new → AddsCellsOf x old.objects new.objects → AreWithin [] xs old.objects → new.limit < length (different_cells xs)
    lacks_one lacks w a h = full [] xs (flat_map cells_in xs) new x (i, at) lacks w.different (within_more a h) covers

  pub all_placed : (n : ℕ) (objects : List Object) → length xs ≤ n → Before n objects → ArePlaced objects xs
  all_placed n objects l b x c = let k = place_of xs x c in let m = below_at xs k.0 x k.1 in b k.0 x (omega (arith, l, m)) k.1

  pub all_cells : (objects : List Object) → AreWithin [] xs objects → All (Contains (flat_map cells_in xs)) objects
  all_cells objects h k d l = elim (h (get_or objects k d) (All-contains_itself objects k d l)) [
    | inl c ↦ absurd (omega (arith, c.1))
    | inr s ↦ in_cells xs s.value (get_or objects k d) s.seen_value.0 s.seen_value.1 s.cell
  ]

  pub not_many : (objects : List Object) (limit : ℕ) → ArePlaced objects xs → length objects ≤ limit → limit < length (different_cells xs) → ⊥
  not_many objects limit placed few many =
      let once = different_once (flat_map cells_in xs) in
      let each : All (Contains objects) (different_cells xs) = λ k d l.
      let c = flat_from xs (get_or (different_cells xs) k d) (contains_different (flat_map cells_in xs) (get_or (different_cells xs) k d) (All-contains_itself (different_cells xs) k d l)) in placed c.0 c.1.0 (get_or (different_cells xs) k d) c.1.1 in
      omega (arith, each_once_few (different_cells xs) objects once each, different_short objects, few, many)
