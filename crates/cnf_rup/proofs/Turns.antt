-- What a clause is, by its literals one after another.
use Rattle.std.proofs.Common.{◌≡◌, ◌≢◌, ℕ, zero, suc, ℤ, ◌+◌, ◌-◌, ◌<◌, ◌≤◌, true, false, not, cond, ◌&&◌, List, [], ◌∷◌, drop, length, get_or, Option, Some, None, slice_get, refl, ap, ◌∙◌, sym, subst, arith, int_eq, neg_ℤ}
use Rattle.std.specs.List.{list_all}
use Rattle.std.proofs.lemmas.List.{drop_more, drop_all}
use Rattle.std.proofs.lemmas.List.Elements.{All-head, All-tail}
use Rattle.std.proofs.lemmas.Bool.{both_ways}
use Rattle.cnf_rup.specs.declared.clause_status.ClauseStatus.{ClauseStatus}
use Rattle.cnf_rup.specs.declared.clause_status.ClauseStatus.TheVariants as turn
use Rattle.std.proofs.lemmas.Option.{slice_get-map}
use Rattle.std.specs.Option.{option_map}
use Rattle.cnf_rup.specs.declared.clause.Entry.{Entry}
use Rattle.cnf_rup.specs.Books.{clauses_of}
use Rattle.cnf_rup.specs.Shown.{is_among, left_of, turn_of_left, turn_of, turn_of_named, turn_at}
use Rattle.cnf_rup.specs.Marked.{AreWithin, IsWithin, IsOpenUnit}
use Rattle.cnf_rup.proofs.Among.{literal-same, literal-other}
use Rattle.cnf_rup.proofs.Sound.{unit-left}

-- what the clause is, where this literal is free and these are left
abbrev pub ended : List ℤ → Option ℤ → List ℤ → ClauseStatus
ended known None left = turn_of_left known left
ended known (Some l) left = cond (list_all (int_eq l) left) (turn.Unit l) turn.Neither

-- the rest of the clause from this place on
abbrev pub rest_turn : List ℤ → List ℤ → Option ℤ → ℕ → ClauseStatus
rest_turn known c free i = ended known free (left_of known (drop i c))

abbrev pub IsOpen : List ℤ → Option ℤ → Type 0
IsOpen known free = (l : ℤ) → free ≡ Some l → is_among known l ≡ false

module _ (known c : List ℤ) (i : ℕ) (l d : ℤ) (within : i < length c) (is : l ≡ get_or c i d) where
  rest_is : drop i c ≡ l ∷ drop (i + 1) c
  rest_is = drop_more c i d within ∙ ap (λ (x : ℤ). x ∷ drop (i + 1) c) (sym is)

  left-out : is_among known (neg_ℤ l) ≡ true → left_of known (drop i c) ≡ left_of known (drop (i + 1) c)
  left-out h = ap (left_of known) rest_is ∙ ap (λ b. cond (not b) (l ∷ left_of known (drop (i + 1) c)) (left_of known (drop (i + 1) c))) h

  left-in : is_among known (neg_ℤ l) ≡ false → left_of known (drop i c) ≡ l ∷ left_of known (drop (i + 1) c)
  left-in h = ap (left_of known) rest_is ∙ ap (λ b. cond (not b) (l ∷ left_of known (drop (i + 1) c)) (left_of known (drop (i + 1) c))) h

  -- the literal is false
  pub turn-skip : (free : Option ℤ) → is_among known (neg_ℤ l) ≡ true → rest_turn known c free i ≡ rest_turn known c free (i + 1)
  turn-skip free h = ap (ended known free) (left-out h)

  -- the literal is true
  pub turn-true : (free : Option ℤ) → IsOpen known free → is_among known (neg_ℤ l) ≡ false → is_among known l ≡ true → rest_turn known c free i ≡ turn.Neither
  turn-true None are h known_it = ap (turn_of_left known) (left-in h) ∙ ap (λ b. cond (not b && list_all (int_eq l) (left_of known (drop (i + 1) c))) (turn.Unit l) turn.Neither) known_it
  turn-true (Some m) are h known_it =
      ap (ended known (Some m)) (left-in h)
      ∙ ap (λ b. cond (b && list_all (int_eq m) (left_of known (drop (i + 1) c))) (turn.Unit m) turn.Neither)
      (literal-other m l (λ e. both_ways (is_among known l) (ap (is_among known) (sym e) ∙ are m refl) known_it))

  -- another one is free
  pub turn-second : (m : ℤ) → is_among known (neg_ℤ l) ≡ false → m ≢ l → rest_turn known c (Some m) i ≡ turn.Neither
  turn-second m h other = ap (ended known (Some m)) (left-in h) ∙ ap (λ b. cond (b && list_all (int_eq m) (left_of known (drop (i + 1) c))) (turn.Unit m) turn.Neither) (literal-other m l other)

  -- it is free already
  pub turn-again : (m : ℤ) → is_among known (neg_ℤ l) ≡ false → m ≡ l → rest_turn known c (Some m) i ≡ rest_turn known c (Some l) (i + 1)
  turn-again m h same =
      ap (ended known (Some m)) (left-in h)
      ∙ ap (λ b. cond (b && list_all (int_eq m) (left_of known (drop (i + 1) c))) (turn.Unit m) turn.Neither) (literal-same m l same)
      ∙ ap (λ (x : ℤ). rest_turn known c (Some x) (i + 1)) same

  -- it is the first that is free
  pub turn-first : is_among known (neg_ℤ l) ≡ false → is_among known l ≡ false → rest_turn known c None i ≡ rest_turn known c (Some l) (i + 1)
  turn-first h new_one = ap (turn_of_left known) (left-in h) ∙ ap (λ b. cond (not b && list_all (int_eq l) (left_of known (drop (i + 1) c))) (turn.Unit l) turn.Neither) new_one

pub turn-done : (known c : List ℤ) (free : Option ℤ) (i : ℕ) → length c ≤ i → rest_turn known c free i ≡ ended known free []
turn-done known c free i past = ap (λ (rest : List ℤ). ended known free (left_of known rest)) (drop_all i c past)

-- ---- the literal of a unit clause
left-within : (room : ℕ) (known c : List ℤ) → AreWithin room c → AreWithin room (left_of known c)
left-within room known c h = Rattle.std.proofs.lemmas.List.Elements.All-filter (λ l. not (is_among known (neg_ℤ l))) (IsWithin room) c h

pub unit-free : (room : ℕ) (known c : List ℤ) (l : ℤ) → AreWithin room c → turn_of known c ≡ turn.Unit l → IsOpenUnit room known l
unit-free room known c l within e =
    let u = unit-left known (left_of known c) l e in
    record {
      within = All-head (IsWithin room) l u.rest (subst (AreWithin room) u.is (left-within room known c within));
      free = u.free;
    }

-- the clause that a hint names
pub named-clause : (entries : List Entry) (known : List ℤ) (h : ℕ) (e : Entry) → 0 < h → slice_get entries (h - 1) ≡ Some e → turn_at (clauses_of entries) known h ≡ turn_of known e.clause
named-clause entries known zero e some at = absurd (omega (arith, some))
named-clause entries known (suc k) e some at =
    let place : suc k - 1 ≡ k = omega arith in
    ap (turn_of_named known) (slice_get-map (λ (x : Entry). x.clause) entries k ∙ ap (option_map (λ (x : Entry). x.clause)) (ap (slice_get entries) (sym place) ∙ at))
