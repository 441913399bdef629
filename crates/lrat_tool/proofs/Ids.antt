-- Ascending numbers, and where one stands among them.
use Rattle.std.proofs.Common.{◌≡◌, ◌≢◌, ◌∙◌, ap, sym, refl, ℕ, zero, suc, ℤ, pos, negsuc, ◌+◌, ◌-◌, ◌<◌, ◌≤◌, true, false, cond, List, [], ◌∷◌, ◌++◌, map, length, get_or, take, min, arith, inl, inr}
use Rattle.std.specs.Prelude.{◌==◌, nat_le, nat_lt}
use Rattle.std.proofs.lemmas.Bool.{cases_lt, eq-eqb}
use Rattle.std.proofs.lemmas.Bool.Decides.{nat_tests}
use Rattle.lrat_tool.specs.Held.{Rises, id_place, last_id, place_by}
use Rattle.lrat_tool.specs.HintWords.{held_of, hint_of, is_below}
use Rattle.lrat_tool.specs.Judgements.{is_below_zero, place_from, place_named}
use Rattle.lrat_tool.specs.Logs.{LogEntry}

pub rises_at : (last : ℕ) (ids : List ℕ) (k : ℕ) → Rises last ids → k < length ids → last + 1 + k ≤ get_or ids k 0
rises_at last [] k r l = absurd (omega (arith, l))
rises_at last (id ∷ ids) zero r l = omega (arith, r.0)
rises_at last (id ∷ ids) (suc k) r l = omega (arith, r.0, rises_at id ids k r.1 (omega (arith, l)))

pub rises_between : (last : ℕ) (ids : List ℕ) (j k : ℕ) → Rises last ids → j ≤ k → k < length ids → get_or ids j 0 + (k - j) ≤ get_or ids k 0
rises_between last [] j k r le l = absurd (omega (arith, l))
rises_between last (id ∷ ids) zero zero r le l = omega arith
rises_between last (id ∷ ids) zero (suc k) r le l = omega (arith, rises_at id ids k r.1 (omega (arith, l)))
rises_between last (id ∷ ids) (suc j) zero r le l = absurd (omega (arith, le))
rises_between last (id ∷ ids) (suc j) (suc k) r le l = omega (arith, rises_between id ids j k r.1 (omega (arith, le)) (omega (arith, l)))

pub rises_push : (last : ℕ) (ids : List ℕ) (id : ℕ) → Rises last ids → last_id last ids < id → Rises last (ids ++ id ∷ [])
rises_push last [] id r l = (l, tt)
rises_push last (i ∷ ids) id r l = (r.0, rises_push i ids id r.1 l)

pub last_push : (last : ℕ) (ids : List ℕ) (id : ℕ) → last_id last (ids ++ id ∷ []) ≡ id
last_push last [] id = refl
last_push last (i ∷ ids) id = last_push i ids id

pub rises_take : (last : ℕ) (ids : List ℕ) (k : ℕ) → Rises last ids → Rises last (take k ids)
rises_take last [] zero r = tt
rises_take last [] (suc k) r = tt
rises_take last (id ∷ ids) zero r = tt
rises_take last (id ∷ ids) (suc k) r = (r.0, rises_take id ids k r.1)

last_at : (last i : ℕ) (ids : List ℕ) → get_or (i ∷ ids) (length ids) 0 ≡ last_id last (i ∷ ids)
last_at last i [] = refl
last_at last i (j ∷ ids) = last_at i j ids

pub last_is : (last : ℕ) (ids : List ℕ) → 1 ≤ length ids → get_or ids (length ids - 1) 0 ≡ last_id last ids
last_is last [] l = absurd (omega (arith, l))
last_is last (i ∷ ids) l = ap (λ n. get_or (i ∷ ids) n 0) (less (length ids)) ∙ last_at last i ids
  where
    less : (n : ℕ) → suc n - 1 ≡ n
    less n = omega arith

-- ---- the place of a number
apart : (a b : ℕ) → a ≢ b → (a == b) ≡ false
apart a b h = grind (arith, nat_tests)

pub place_found : (place : ℕ) (ids : List ℕ) (k h : ℕ) → k < length ids → get_or ids k 0 ≡ h → ((j : ℕ) → j < k → get_or ids j 0 < h) → id_place place ids h ≡ place + k
place_found place [] k h l e below = absurd (omega (arith, l))
place_found place (id ∷ ids) zero h l e below = ap (λ b. cond b place (id_place (place + 1) ids h)) (eq-eqb id h e) ∙ omega arith
place_found place (id ∷ ids) (suc k) h l e below =
    let first : id < h = below 0 (omega arith) in
    ap (λ b. cond b place (id_place (place + 1) ids h)) (apart id h (λ q. absurd (omega (arith, first, q))))
    ∙ place_found (place + 1) ids k h (omega (arith, l)) e (λ j m. below (suc j) (omega (arith, m))) ∙ omega arith

pub place_none : (place : ℕ) (ids : List ℕ) (h : ℕ) → ((j : ℕ) → j < length ids → get_or ids j 0 ≢ h) → id_place place ids h ≡ 0
place_none place [] h other = refl
place_none place (id ∷ ids) h other =
    ap (λ b. cond b place (id_place (place + 1) ids h)) (apart id h (other 0 (omega arith)))
    ∙ place_none (place + 1) ids h (λ j m. other (suc j) (omega (arith, m)))

-- numbers before a place are less, and those from there on not
module _ (last : ℕ) (ids : List ℕ) (h k : ℕ) (r : Rises last ids) (below : (j : ℕ) → j < k → get_or ids j 0 < h) where
  from_there : ((j : ℕ) → k ≤ j → j < length ids → h ≤ get_or ids j 0) → (k < length ids → get_or ids k 0 ≢ h) → (j : ℕ) → k ≤ j → j < length ids → get_or ids j 0 ≢ h
  from_there above other j le l e = elim (cases_lt k j) [
    | inl m ↦ omega (arith, rises_between last ids k j r le l, above k (omega arith) (omega (arith, m, l)), e, m)
    | inr m ↦ other (omega (arith, m, l, le)) (ap (λ n. get_or ids n 0) (same k j le m) ∙ e)
  ]
    where
      same : (a b : ℕ) → a ≤ b → b ≤ a → a ≡ b
      same a b x y = omega (arith, x, y)

  pub is_missing : ((j : ℕ) → k ≤ j → j < length ids → h ≤ get_or ids j 0) → (k < length ids → get_or ids k 0 ≢ h) → (j : ℕ) → j < length ids → get_or ids j 0 ≢ h
  is_missing above other j l e = elim (cases_lt j k) [
    | inl m ↦ omega (arith, below j m, e)
    | inr m ↦ from_there above other j m l e
  ]

-- ---- numbers that are greater than each id
pub beyond : (place : ℕ) (ids : List ℕ) (h : ℕ) → ((j : ℕ) → j < length ids → get_or ids j 0 < 4294967296) → 4294967296 ≤ h → id_place place ids h ≡ 0
beyond place ids h small le = place_none place ids h (λ j l e. absurd (omega (arith, small j l, e, le)))

pub below_is : (z : ℤ) → is_below (hint_of z) ≡ is_below_zero z
below_is (pos n) = refl
below_is (negsuc n) = refl

-- the place that a hint names
abbrev pub place_in : ℕ → List ℕ → ℤ → ℕ
place_in first ids (pos n) = place_by first ids n
place_in first ids (negsuc n) = 0

module _ (first : ℕ) (ids : List ℕ) (small : (j : ℕ) → j < length ids → get_or ids j 0 < 4294967296) (few : first < 4294967296) where
  past : (n : ℕ) → 4294967296 ≤ n → nat_le n first ≡ false
  past n le = grind (arith, nat_tests)

  big : (n : ℕ) → 4294967296 ≤ n → cond (nat_le n first) n (id_place (first + 1) ids n) ≡ 0
  big n le = ap (λ b. cond b n (id_place (first + 1) ids n)) (past n le) ∙ beyond (first + 1) ids n small le

  least : (n : ℕ) → n < 4294967296 → min n 4294967296 ≡ n
  least n l = omega (arith, l)

  most : (n : ℕ) → 4294967296 ≤ n → min n 4294967296 ≡ 4294967296
  most n le = omega (arith, le)

  below : (n : ℕ) → n < 4294967296 → nat_lt n 4294967296 ≡ true
  below n l = grind (arith, nat_tests)

  -- a number that is held, and one that is too great for an id
  held_number : (n : ℕ) → n < 4294967296 → held_of (pos n) ≡ n
  held_number n l = ap (λ m. cond (nat_lt m 4294967296) m 0) (least n l) ∙ ap (λ b. cond b n 0) (below n l)

  held_none : (n : ℕ) → 4294967296 ≤ n → held_of (pos n) ≡ 0
  held_none n le = ap (λ m. cond (nat_lt m 4294967296) m 0) (most n le)

  none : place_by first ids 0 ≡ 0
  none = ap (λ b. cond b 0 (id_place (first + 1) ids 0)) (not_past first)
    where
      not_past : (f : ℕ) → nat_le 0 f ≡ true
      not_past f = grind (arith, nat_tests)

  -- the place of what is held of a hint is the hint's
  pub held_place : (z : ℤ) → place_by first ids (held_of z) ≡ place_in first ids z
  held_place (pos n) = elim (cases_lt n 4294967296) [
    | inl l ↦ ap (place_by first ids) (held_number n l)
    | inr l ↦ ap (place_by first ids) (held_none n l) ∙ none ∙ sym (big n l)
  ]
  held_place (negsuc n) = none

-- ---- places by entries
pub place_by_ids : (place : ℕ) (es : List LogEntry) (n : ℕ) → place_from place es n ≡ id_place place (map (λ e. e.id) es) n
place_by_ids place [] n = refl
place_by_ids place (e ∷ es) n = ap (λ p. cond (e.id == n) place p) (place_by_ids (place + 1) es n)

pub named_by_ids : (formula : List (List ℤ)) (es : List LogEntry) (z : ℤ) → place_named formula es z ≡ place_in (length formula) (map (λ e. e.id) es) z
named_by_ids formula es (pos n) = ap (λ p. cond (nat_le n (length formula)) n p) (place_by_ids (length formula + 1) es n)
named_by_ids formula es (negsuc n) = refl
