-- Lists in one list.
use Rattle.std.proofs.Common.{◌≡◌, ◌∙◌, ap, sym, refl, subst, ℕ, zero, suc, ◌+◌, ◌-◌, ◌<◌, ◌≤◌, List, [], ◌∷◌, ◌++◌, length, get_or, take, drop, arith}
use Rattle.std.proofs.lemmas.List.{take-append-le, drop-append-le, length-drop, take_all, drop_all}
use Rattle.lrat_tool.specs.Flat.{ArePlaces, cut, last_of, flat_seen}

pub first_within : (a : ℕ) (bs : List ℕ) (most : ℕ) → ArePlaces (a ∷ bs) most → a ≤ most
first_within a [] most h = h
first_within a (b ∷ bs) most h = omega (arith, h.0, first_within b bs most h.1)

pub last_within : (places : List ℕ) (most : ℕ) → ArePlaces places most → last_of places ≤ most
last_within [] most h = absurd h
last_within (a ∷ []) most h = h
last_within (a ∷ b ∷ bs) most h = last_within (b ∷ bs) most h.1

pub places_more : (places : List ℕ) (most more : ℕ) → most ≤ more → ArePlaces places most → ArePlaces places more
places_more [] most more le h = h
places_more (a ∷ []) most more le h = omega (arith, le, h)
places_more (a ∷ b ∷ bs) most more le h = (h.0, places_more (b ∷ bs) most more le h.1)

pub places_push : (places : List ℕ) (most : ℕ) → ArePlaces places most → ArePlaces (places ++ most ∷ []) most
places_push [] most h = absurd h
places_push (a ∷ []) most h = (h, omega arith)
places_push (a ∷ b ∷ bs) most h = (h.0, places_push (b ∷ bs) most h.1)

pub last_push : (places : List ℕ) (n : ℕ) → last_of (places ++ n ∷ []) ≡ n
last_push [] n = refl
last_push (a ∷ []) n = refl
last_push (a ∷ b ∷ bs) n = last_push (b ∷ bs) n

pub places_at : (places : List ℕ) (most k : ℕ) → ArePlaces places most → suc k < length places → (get_or places k 0 ≤ get_or places (suc k) 0) × (get_or places (suc k) 0 ≤ most)
places_at [] most k h l = absurd h
places_at (a ∷ []) most k h l = absurd (omega (arith, l))
places_at (a ∷ b ∷ bs) most zero h l = (h.0, first_within b bs most h.1)
places_at (a ∷ b ∷ bs) most (suc k) h l = places_at (b ∷ bs) most k h.1 (omega (arith, l))

module _ {X : Type 0} where
  -- what stands behind the whole changes no list
  pub cut_more : (places : List ℕ) (xs ys : List X) → ArePlaces places (length xs) → cut places (xs ++ ys) ≡ cut places xs
  cut_more [] xs ys h = refl
  cut_more (a ∷ []) xs ys h = refl
  cut_more (a ∷ b ∷ bs) xs ys h =
      let inside = first_within b bs (length xs) h.1 in
      let same : take (b - a) (drop a (xs ++ ys)) ≡ take (b - a) (drop a xs) =
      ap (take (b - a)) (drop-append-le a xs ys (omega (arith, h.0, inside))) ∙ take-append-le (b - a) (drop a xs) ys (omega (arith, inside, h.0, length-drop a xs)) in
      (λ i. same i ∷ cut_more (b ∷ bs) xs ys h.1 i)

  -- one list more
  pub cut_end : (places : List ℕ) (xs : List X) → ArePlaces places (length xs) → cut (places ++ length xs ∷ []) xs ≡ cut places xs ++ drop (last_of places) xs ∷ []
  cut_end [] xs h = absurd h
  cut_end (a ∷ []) xs h = ap (λ (l : List X). l ∷ []) (take_all (length xs - a) (drop a xs) (omega (arith, length-drop a xs, h)))
  cut_end (a ∷ b ∷ bs) xs h = ap (λ (ls : List (List X)). take (b - a) (drop a xs) ∷ ls) (cut_end (b ∷ bs) xs h.1)

  pub cut_length : (places : List ℕ) (xs : List X) → length (cut places xs) ≡ length places - 1
  cut_length [] xs = refl
  cut_length (a ∷ []) xs = refl
  cut_length (a ∷ b ∷ bs) xs = omega (arith, cut_length (b ∷ bs) xs)

  pub cut_at : (places : List ℕ) (xs : List X) (k : ℕ) → suc k < length places → get_or (cut places xs) k [] ≡ take (get_or places (suc k) 0 - get_or places k 0) (drop (get_or places k 0) xs)
  cut_at [] xs k h = absurd (omega (arith, h))
  cut_at (a ∷ []) xs k h = absurd (omega (arith, h))
  cut_at (a ∷ b ∷ bs) xs zero h = refl
  cut_at (a ∷ b ∷ bs) xs (suc k) h = cut_at (b ∷ bs) xs k (omega (arith, h))

-- a list, by its places
module _ {X : Type 0} (places : List ℕ) (xs : List X) (h : ArePlaces places (length xs)) (k : ℕ) (l : k + 1 < length places) where
  next : suc k ≡ k + 1
  next = omega arith

  pub part_ends : (get_or places k 0 ≤ get_or places (k + 1) 0) × (get_or places (k + 1) 0 ≤ length xs)
  part_ends = subst (λ (j : ℕ). (get_or places k 0 ≤ get_or places j 0) × (get_or places j 0 ≤ length xs)) next (places_at places (length xs) k h (omega (arith, l)))

  pub part_is : take (get_or places (k + 1) 0 - get_or places k 0) (drop (get_or places k 0) xs) ≡ get_or (cut places xs) k []
  part_is = ap (λ (j : ℕ). take (get_or places j 0 - get_or places k 0) (drop (get_or places k 0) xs)) (sym next) ∙ sym (cut_at places xs k (omega (arith, l)))

-- what contracts see after a push, and after an end
pub seen_push : {X : Type 0} (places : List ℕ) (xs ys : List X) → ArePlaces places (length xs) → flat_seen places (xs ++ ys) ≡ record { lists = cut places xs; rest = drop (last_of places) xs ++ ys }
seen_push places xs ys h = λ i. record { lists = cut_more places xs ys h i; rest = drop-append-le (last_of places) xs ys (last_within places (length xs) h) i }

pub seen_end : {X : Type 0} (places : List ℕ) (xs : List X) (n : ℕ) → n ≡ length xs → ArePlaces places (length xs) → flat_seen (places ++ n ∷ []) xs ≡ record { lists = cut places xs ++ drop (last_of places) xs ∷ []; rest = [] }
seen_end places xs n is h = rw is (λ i. record { lists = cut_end places xs h i; rest = (ap (λ (j : ℕ). drop j xs) (last_push places (length xs)) ∙ drop_all (length xs) xs (omega arith)) i })
