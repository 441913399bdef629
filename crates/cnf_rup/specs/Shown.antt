-- When a list of hints shows a clause: the rule of RUP proofs with LRAT's hints. The clause's literals are taken as false.
-- Each hint in turn names a clause that then has no literal left that is not false, which is a conflict and shows the
-- clause, or all but one, which has no value yet and is taken as true.
use Rattle.std.specs.Prelude.{ℕ, zero, suc, ℤ, Bool, not, ◌&&◌, cond, ◌≡◌, List, [], ◌∷◌, ◌++◌, map, filter, Option, Some, None, slice_get}
use Rattle.std.specs.Prelude.{neg_ℤ}
use Rattle.std.specs.Ordering.{int_eq}
use Rattle.std.specs.List.{list_any, list_all}
use Rattle.cnf_rup.specs.declared.clause_status.ClauseStatus.{ClauseStatus}
use Rattle.cnf_rup.specs.declared.clause_status.ClauseStatus.TheVariants as turn

-- whether the literal is one of these
abbrev pub is_among : List ℤ → ℤ → Bool
is_among known l = list_any (int_eq l) known

-- the complements of a clause's literals
abbrev pub negated : List ℤ → List ℤ
negated c = map neg_ℤ c

-- whether the clause holds a literal and its complement
abbrev pub is_tautology : List ℤ → Bool
is_tautology c = list_any (is_among (negated c)) c

-- the literals of a clause that are not false, where these are true
abbrev pub left_of : List ℤ → List ℤ → List ℤ
left_of known c = filter (λ l. not (is_among known (neg_ℤ l))) c

-- none is left, or one that has no value yet, however often it is written
abbrev pub turn_of_left : List ℤ → List ℤ → ClauseStatus
turn_of_left known [] = turn.Conflict
turn_of_left known (l ∷ ls) = cond (not (is_among known l) && list_all (int_eq l) ls) (turn.Unit l) turn.Neither

-- what a clause is, where these literals are true
abbrev pub turn_of : List ℤ → List ℤ → ClauseStatus
turn_of known c = turn_of_left known (left_of known c)

-- clauses are numbered from 1
abbrev pub clause_at : List (List ℤ) → ℕ → Option (List ℤ)
clause_at clauses zero = None
clause_at clauses (suc k) = slice_get clauses k

abbrev pub turn_of_named : List ℤ → Option (List ℤ) → ClauseStatus
turn_of_named known None = turn.Neither
turn_of_named known (Some c) = turn_of known c

-- what the clause that a hint names is; `Neither` where it names none
abbrev pub turn_at : List (List ℤ) → List ℤ → ℕ → ClauseStatus
turn_at clauses known h = turn_of_named known (clause_at clauses h)

abbrev pub by_turn : ClauseStatus → Option ℕ → (ℤ → Option ℕ) → Option ℕ
by_turn turn.Conflict place more = None
by_turn (turn.Unit l) place more = more l
by_turn turn.Neither place more = place

-- where the hints from this place on come to a conflict, none; else the place of the first hint that names no clause or
-- is not unit at its turn, or the count of hints
abbrev pub stop : List (List ℤ) → List ℤ → ℕ → List ℕ → Option ℕ
stop clauses known place [] = Some place
stop clauses known place (h ∷ hs) = by_turn (turn_at clauses known h) (Some place) (λ l. stop clauses (known ++ l ∷ []) (suc place) hs)

-- none where the hints show the clause. A tautology is true under every assignment, and every list of hints shows it.
-- Else the place, from 0, of the first hint that names no clause or is not unit at its turn, or their count
abbrev pub first_unshown : List (List ℤ) → List ℤ → List ℕ → Option ℕ
first_unshown clauses c hints = cond (is_tautology c) None (stop clauses (negated c) 0 hints)

-- the hints show the clause
abbrev pub IsShown : List (List ℤ) → List ℤ → List ℕ → Type 0
IsShown clauses c hints = first_unshown clauses c hints ≡ None
