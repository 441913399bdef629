-- Unit propagation in the order of hints is sound.
use Rattle.std.proofs.Common.{◌≡◌, ◌≢◌, ℕ, zero, suc, ℤ, ◌+◌, ◌<◌, ◌≤◌, Bool, true, false, not, cond, ◌||◌, ◌&&◌, List, [], ◌∷◌, ◌++◌, map, filter, Option, Some, None, slice_get, length, get_or, refl, ap, ◌∙◌, sym, subst, inl, inr, arith, int_eq, neg_ℤ}
use Rattle.std.specs.List.{list_any, list_all, All}
use Rattle.std.proofs.lemmas.Bool.{cases_Bool, or_cases, and_parts, not-true, not-false, both_ways}
use Rattle.std.proofs.lemmas.List.Elements.{All-head, All-tail}
use Rattle.std.proofs.lemmas.Option.{get_or_from_slice_get, slice_get_within}
use Rattle.cnf_rup.specs.declared.clause_status.ClauseStatus.{ClauseStatus}
use Rattle.cnf_rup.specs.declared.clause_status.ClauseStatus.TheVariants as turn
use Rattle.cnf_rup.specs.Literals.{holds, Satisfies, SatisfiesAll, Follows, IsLiteral, IsClause}
use Rattle.cnf_rup.specs.Shown.{is_among, negated, is_tautology, left_of, turn_of_left, turn_of, turn_of_named, turn_at, by_turn, stop, IsShown}
use Rattle.cnf_rup.proofs.Among.{same-literal, among-push, any-among, any-weaker, none-at, clause-at, holds-complement, among-negated}

-- all of these literals are true
abbrev AreTrue : (ℕ → Bool) → List ℤ → Type 0
AreTrue a known = (l : ℤ) → is_among known l ≡ true → holds a l ≡ true

-- ---- the literals that are left
kept : (p : ℤ → Bool) (l : ℤ) (xs : List ℤ) (b : Bool) → (b ≡ false → p l ≡ false) → (p l || list_any p xs) ≡ true → list_any p (cond b (l ∷ xs) xs) ≡ true
kept p l xs true f h = h
kept p l xs false f h = elim (or_cases (p l) (list_any p xs) h) [
  | inl here ↦ absurd (both_ways (p l) (f refl) here)
  | inr there ↦ there
]

or-later : (b c d : Bool) → (c ≡ true → d ≡ true) → (b || c) ≡ true → (b || d) ≡ true
or-later true c d f h = refl
or-later false c d f h = f h

pub left-holds : (a : ℕ → Bool) (known : List ℤ) → AreTrue a known → (c : List ℤ) → IsClause c → list_any (holds a) c ≡ true → list_any (holds a) (left_of known c) ≡ true
left-holds a known are [] proper h = h
left-holds a known are (l ∷ ls) proper h =
    kept (holds a) l (left_of known ls) (not (is_among known (neg_ℤ l)))
    (λ out. let false_one : holds a (neg_ℤ l) ≡ true = are (neg_ℤ l) (not-false (is_among known (neg_ℤ l)) out) in
    not-true (holds a l) (sym (holds-complement a l (All-head IsLiteral l ls proper).0) ∙ false_one))
    (or-later (holds a l) (list_any (holds a) ls) (list_any (holds a) (left_of known ls)) (left-holds a known are ls (All-tail IsLiteral l ls proper)) h)

-- ---- what a turn says
pub record IsUnit (known left : List ℤ) (l : ℤ) : Type 0 where
  pub rest : List ℤ
  pub is : left ≡ l ∷ rest
  pub free : is_among known l ≡ false
  pub same : list_all (int_eq l) rest ≡ true

not_conflict : (b : Bool) (l : ℤ) → cond b (turn.Unit l) turn.Neither ≡ turn.Conflict → ⊥
not_conflict true l e = absurd cc
not_conflict false l e = absurd cc

pub conflict-left : (known left : List ℤ) → turn_of_left known left ≡ turn.Conflict → left ≡ []
conflict-left known [] e = refl
conflict-left known (l ∷ ls) e = absurd (not_conflict (not (is_among known l) && list_all (int_eq l) ls) l e)

unit_when : (b : Bool) (l m : ℤ) → cond b (turn.Unit l) turn.Neither ≡ turn.Unit m → (b ≡ true) × (l ≡ m)
unit_when true l m e = (refl, cc)
unit_when false l m e = absurd cc

pub unit-left : (known left : List ℤ) (m : ℤ) → turn_of_left known left ≡ turn.Unit m → IsUnit known left m
unit-left known [] m e = absurd cc
unit-left known (l ∷ ls) m e =
    let w = unit_when (not (is_among known l) && list_all (int_eq l) ls) l m e in
    let both = and_parts (not (is_among known l)) (list_all (int_eq l) ls) w.0 in
    subst (IsUnit known (l ∷ ls)) w.1 (record { rest = ls; is = refl; free = not-true (is_among known l) both.0; same = both.1 })

any-same : (p : ℤ → Bool) (l : ℤ) (ls : List ℤ) → list_all (int_eq l) ls ≡ true → list_any p (l ∷ ls) ≡ true → p l ≡ true
any-same p l [] h s = elim (or_cases (p l) false s) [ inl here ↦ here | inr there ↦ absurd cc ]
any-same p l (x ∷ xs) h s =
    let both = and_parts (int_eq l x) (list_all (int_eq l) xs) h in
    elim (or_cases (p l) (list_any p (x ∷ xs)) s) [
      | inl here ↦ here
      | inr there ↦ any-same p l xs both.1 (subst (λ (y : ℤ). list_any p (y ∷ xs) ≡ true) (sym (same-literal l x both.0)) there)
    ]

module _ (a : ℕ → Bool) (known : List ℤ) (are : AreTrue a known) (c : List ℤ) (proper : IsClause c) (true_one : Satisfies a c) where
  no-conflict : turn_of known c ≡ turn.Conflict → ⊥
  no-conflict e = let none = conflict-left known (left_of known c) e in
      both_ways (list_any (holds a) (left_of known c)) (ap (list_any (holds a)) none) (left-holds a known are c proper true_one)

  unit-holds : (l : ℤ) → turn_of known c ≡ turn.Unit l → holds a l ≡ true
  unit-holds l e = let u = unit-left known (left_of known c) l e in
      any-same (holds a) l u.rest u.same (ap (list_any (holds a)) (sym u.is) ∙ left-holds a known are c proper true_one)

-- ---- hints
pub data Named (clauses : List (List ℤ)) (known : List ℤ) (t : ClauseStatus) : Type 0 where
  none : t ≡ turn.Neither → Named clauses known t
  some : (k : ℕ) (c : List ℤ) → slice_get clauses k ≡ Some c → t ≡ turn_of known c → Named clauses known t

named-at : (clauses : List (List ℤ)) (known : List ℤ) (k : ℕ) (o : Option (List ℤ)) → slice_get clauses k ≡ o → Named clauses known (turn_of_named known o)
named-at clauses known k None e = none refl
named-at clauses known k (Some c) e = some k c e refl

pub turn-named : (clauses : List (List ℤ)) (known : List ℤ) (h : ℕ) → Named clauses known (turn_at clauses known h)
turn-named clauses known zero = none refl
turn-named clauses known (suc k) = named-at clauses known k (slice_get clauses k) refl

by-turn : (t : ClauseStatus) (place : ℕ) (more : ℤ → Option ℕ) → by_turn t (Some place) more ≡ None → (t ≡ turn.Conflict → ⊥) → ((l : ℤ) → t ≡ turn.Unit l → more l ≡ None → ⊥) → ⊥
by-turn turn.Conflict place more e f g = f refl
by-turn (turn.Unit l) place more e f g = g l refl e
by-turn turn.Neither place more e f g = absurd cc

pub All-at : {X : Type 0} (P : X → Type 0) (xs : List X) (k : ℕ) (x : X) → All P xs → slice_get xs k ≡ Some x → P x
All-at P xs k x h e = subst P (get_or_from_slice_get xs k x x e) (h k x (slice_get_within xs k x e))

module _ (clauses : List (List ℤ)) (a : ℕ → Bool) (sat : SatisfiesAll a clauses) (proper : All IsClause clauses) where
  more-true : (known : List ℤ) (l : ℤ) → AreTrue a known → holds a l ≡ true → AreTrue a (known ++ l ∷ [])
  more-true known l are h m e = elim (or_cases (is_among known m) (int_eq m l) (sym (among-push known l m) ∙ e)) [
    | inl before ↦ are m before
    | inr last ↦ ap (holds a) (same-literal m l last) ∙ h
  ]

  named-conflict : (known : List ℤ) → AreTrue a known → (t : ClauseStatus) → Named clauses known t → t ≡ turn.Conflict → ⊥
  named-conflict known are t (none n) e = absurd cc
  named-conflict known are t (some k c at is) e = no-conflict a known are c (All-at IsClause clauses k c proper at) (All-at (Satisfies a) clauses k c sat at) (sym is ∙ e)

  named-unit : (known : List ℤ) → AreTrue a known → (t : ClauseStatus) → Named clauses known t → (l : ℤ) → t ≡ turn.Unit l → holds a l ≡ true
  named-unit known are t (none n) l e = absurd cc
  named-unit known are t (some k c at is) l e = unit-holds a known are c (All-at IsClause clauses k c proper at) (All-at (Satisfies a) clauses k c sat at) l (sym is ∙ e)

  stop-sound : (hints : List ℕ) (known : List ℤ) (place : ℕ) → AreTrue a known → stop clauses known place hints ≡ None → ⊥
  stop-sound [] known place are e = absurd cc
  stop-sound (h ∷ hs) known place are e =
      let n = turn-named clauses known h in
      by-turn (turn_at clauses known h) place (λ l. stop clauses (known ++ l ∷ []) (suc place) hs) e
      (named-conflict known are (turn_at clauses known h) n)
      (λ l is rest. stop-sound hs (known ++ l ∷ []) (suc place) (more-true known l are (named-unit known are (turn_at clauses known h) n l is)) rest)

  -- the complements of a clause that is not satisfied are true
  negated-true : (c : List ℤ) → IsClause c → list_any (holds a) c ≡ false → AreTrue a (negated c)
  negated-true c is nothing l m =
      let other = among-negated c l m in
      let false_one = none-at (holds a) c (neg_ℤ l) nothing other in
      let literal = clause-at c (neg_ℤ l) is other in
      not-false (holds a l) (sym (holds-complement a l (positive l literal.0)) ∙ false_one)
    where
      positive : (l : ℤ) → 0 < Rattle.std.proofs.Common.unsigned_abs (neg_ℤ l) → 0 < Rattle.std.proofs.Common.unsigned_abs l
      positive l h = subst (λ n. 0 < n) (Rattle.cnf_rup.proofs.Among.size-complement l) h

  shown-cases : (b : Bool) (o : Option ℕ) → cond b None o ≡ None → (b ≡ true → ⊥) → (o ≡ None → ⊥) → ⊥
  shown-cases true o e f g = f refl
  shown-cases false o e f g = g e

  shown-sound : (c : List ℤ) (hints : List ℕ) → IsClause c → IsShown clauses c hints → Satisfies a c
  shown-sound c hints is shown = elim (cases_Bool (list_any (holds a) c)) [
    | inl sat_it ↦ sat_it
    | inr not_it ↦
        let are = negated-true c is not_it in
        absurd (shown-cases (is_tautology c) (stop clauses (negated c) 0 hints) shown
        (λ t. both_ways (list_any (holds a) c) not_it (any-weaker (is_among (negated c)) (holds a) c (λ l m k. are l k) t))
        (stop-sound hints (negated c) 0 are))
  ]

pub shown_follows : (clauses : List (List ℤ)) (c : List ℤ) (hints : List ℕ) → All IsClause clauses → IsClause c → IsShown clauses c hints → Follows clauses c
shown_follows clauses c hints proper is shown = λ a sat. shown-sound clauses a sat proper c hints is shown
