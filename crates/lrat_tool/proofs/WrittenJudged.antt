-- The judgement on entries whose numbers are their places.
use Rattle.std.proofs.Common.{◌≡◌, ◌∙◌, ap, sym, refl, subst, ℕ, zero, suc, ℤ, pos, ◌+◌, ◌<◌, ◌≤◌, Bool, true, false, cond, List, [], ◌∷◌, ◌++◌, length, length-append, map, Option, Some, None, inl, inr, arith}
use Rattle.std.specs.Prelude.{◌==◌, ◌⊎◌, ◌||◌, nat_le}
use Rattle.std.specs.List.{list_any}
use Rattle.std.proofs.lemmas.Bool.{cases_eq, cases_lt, cond-false, cond-true, eq-eqb, le-leb, lt-leb, ne_eqb}
use Rattle.std.proofs.lemmas.List.{append-nil, append_assoc, map-append, length-map}
use Rattle.std.proofs.lemmas.Option.{slice_get_past}
use Rattle.cnf_rup.specs.declared.clause.Entry.{Entry}
use Rattle.cnf_rup.specs.declared.clause_status.ClauseStatus.{ClauseStatus}
use Rattle.cnf_rup.specs.declared.clause_status.ClauseStatus.TheVariants as turn
use Rattle.cnf_rup.specs.Books.{IsLogOk, clauses_of, holds_empty, is_empty}
use Rattle.cnf_rup.specs.Shown.{IsShown, by_turn, clause_at, first_unshown, is_tautology, negated, stop, turn_at, turn_of_named}
use Rattle.lrat_tool.specs.Logs.{LogEntry}
use Rattle.lrat_tool.specs.Judgements.{by_shown, by_wrong, clauses_said, first_wrong, is_below_zero, judged, or_else, place_from, place_named, up_to_empty, wrong_with}
use Rattle.lrat_tool.specs.declared.judgement.Judgement.TheVariants.{Rat, Verified}
use Rattle.lrat_tool.proofs.WrittenLog.{entries_said, entry_said}

-- ---- hints that name the same clauses
abbrev SameNamed : List (List ℤ) → List ℕ → List ℕ → Type 0
SameNamed clauses [] [] = Unit {0}
SameNamed clauses (g ∷ gs) (h ∷ hs) = (clause_at clauses g ≡ clause_at clauses h) × SameNamed clauses gs hs
SameNamed clauses _ _ = ⊥

same_turn : (t : ClauseStatus) (p : Option ℕ) (m n : ℤ → Option ℕ) → ((l : ℤ) → m l ≡ n l) → by_turn t p m ≡ by_turn t p n
same_turn turn.Conflict p m n h = refl
same_turn (turn.Unit l) p m n h = h l
same_turn turn.Neither p m n h = refl

same_stop : (clauses : List (List ℤ)) (known : List ℤ) (place : ℕ) (gs hs : List ℕ) → SameNamed clauses gs hs → stop clauses known place gs ≡ stop clauses known place hs
same_stop clauses known place [] [] s = refl
same_stop clauses known place [] (h ∷ hs) s = absurd s
same_stop clauses known place (g ∷ gs) [] s = absurd s
same_stop clauses known place (g ∷ gs) (h ∷ hs) s =
    ap (λ c. by_turn (turn_of_named known c) (Some place) (λ l. stop clauses (known ++ l ∷ []) (suc place) gs)) s.0
    ∙ same_turn (turn_at clauses known h) (Some place) (λ l. stop clauses (known ++ l ∷ []) (suc place) gs) (λ l. stop clauses (known ++ l ∷ []) (suc place) hs) (λ l. same_stop clauses (known ++ l ∷ []) (suc place) gs hs s.1)

-- ---- the place of a number
place_there : (line p : ℕ) (es : List Entry) (h : ℕ) → p ≤ h → h < p + length es → place_from p (entries_said line p es) h ≡ h
place_there line p [] h le lt = absurd (omega (arith, le, lt))
place_there line p (e ∷ es) h le lt = elim (cases_eq p h) [
  | inl same ↦ cond-true (p == h) p (place_from (p + 1) (entries_said (line + 1) (p + 1) es) h) (eq-eqb p h same) ∙ same
  | inr other ↦ cond-false (p == h) p (place_from (p + 1) (entries_said (line + 1) (p + 1) es) h) (ne_eqb p h other) ∙ place_there (line + 1) (p + 1) es h (omega (arith, le, other)) (omega (arith, lt))
]

place_past : (line p : ℕ) (es : List Entry) (h : ℕ) → p + length es ≤ h → place_from p (entries_said line p es) h ≡ 0
place_past line p [] h le = refl
place_past line p (e ∷ es) h le =
    cond-false (p == h) p (place_from (p + 1) (entries_said (line + 1) (p + 1) es) h) (ne_eqb p h (λ s. absurd (omega (arith, s, le)))) ∙ place_past (line + 1) (p + 1) es h (omega (arith, le))

said_clauses : (line id : ℕ) (es : List Entry) → map (λ e. e.clause) (entries_said line id es) ≡ clauses_of es
said_clauses line id [] = refl
said_clauses line id (e ∷ es) = ap (λ cs. e.clause ∷ cs) (said_clauses (line + 1) (id + 1) es)

said_push : (line id : ℕ) (es : List Entry) (e : Entry) → entries_said line id (es ++ e ∷ []) ≡ entries_said line id es ++ entry_said (line + length es) (id + length es) e ∷ []
said_push line id [] e = ap (λ n. entry_said n id e ∷ []) (omega arith) ∙ ap (λ n. entry_said (line + 0) n e ∷ []) (omega arith)
said_push line id (x ∷ es) e =
    ap (λ xs. entry_said line id x ∷ xs)
    (said_push (line + 1) (id + 1) es e
    ∙ ap (λ n. entries_said (line + 1) (id + 1) es ++ entry_said n (id + 1 + length es) e ∷ []) (omega arith)
    ∙ ap (λ n. entries_said (line + 1) (id + 1) es ++ entry_said (line + length (x ∷ es)) n e ∷ []) (omega arith))

not_below : (hs : List ℕ) → list_any is_below_zero (map pos hs) ≡ false
not_below [] = refl
not_below (h ∷ hs) = not_below hs

module _ (formula : List (List ℤ)) where
  abbrev said : List Entry → List LogEntry
  said es = entries_said 1 (length formula + 1) es

  abbrev known : List Entry → List (List ℤ)
  known es = formula ++ clauses_of es

  known_length : (es : List Entry) → length (known es) ≡ length formula + length es
  known_length es = length-append formula (clauses_of es) ∙ ap (λ n. length formula + n) (length-map es (λ (e : Entry). e.clause))

  past_all : (es : List Entry) (h : ℕ) → length formula + 1 + length es ≤ h → clause_at (known es) h ≡ None
  past_all es zero le = absurd (omega (arith, le))
  past_all es (suc k) le = slice_get_past (known es) k (omega (arith, le, known_length es))

  same_place : (es : List Entry) (h : ℕ) → clause_at (known es) (place_named formula (said es) (pos h)) ≡ clause_at (known es) h
  same_place es h = elim (cases_lt (length formula) h) [
    | inr first ↦ ap (clause_at (known es)) (cond-true (nat_le h (length formula)) h (place_from (length formula + 1) (said es) h) (le-leb h (length formula) first))
    | inl behind ↦ ap (clause_at (known es)) (cond-false (nat_le h (length formula)) h (place_from (length formula + 1) (said es) h) (lt-leb h (length formula) behind)) ∙ behind_place behind (cases_lt h (length formula + 1 + length es))
  ]
    where
      behind_place : length formula < h → (h < length formula + 1 + length es) ⊎ (length formula + 1 + length es ≤ h) → clause_at (known es) (place_from (length formula + 1) (said es) h) ≡ clause_at (known es) h
      behind_place l (inl there) = ap (clause_at (known es)) (place_there 1 (length formula + 1) es h (omega (arith, l)) there)
      behind_place l (inr past) = ap (clause_at (known es)) (place_past 1 (length formula + 1) es h past) ∙ sym (past_all es h past)

  same_hints : (es : List Entry) (hs : List ℕ) → SameNamed (known es) (map (place_named formula (said es)) (map pos hs)) hs
  same_hints es [] = tt
  same_hints es (h ∷ hs) = (same_place es h, same_hints es hs)

  same_shown : (es : List Entry) (c : List ℤ) (hs : List ℕ) → first_unshown (known es) c (map (place_named formula (said es)) (map pos hs)) ≡ first_unshown (known es) c hs
  same_shown es c hs = ap (cond (is_tautology c) None) (same_stop (known es) (negated c) 0 (map (place_named formula (said es)) (map pos hs)) hs (same_hints es hs))

  -- an entry that is shown has no fault
  none_wrong_with : (es : List Entry) (line id : ℕ) (e : Entry) → IsShown (known es) e.clause e.hints → wrong_with formula (said es) (entry_said line id e) ≡ None
  none_wrong_with es line id e shown =
      ap (λ b. cond b (Some (Rat line)) (by_shown line (first_unshown (clauses_said formula (said es)) e.clause (map (place_named formula (said es)) (map pos e.hints))))) (not_below e.hints)
      ∙ ap (λ cs. by_shown line (first_unshown (formula ++ cs) e.clause (map (place_named formula (said es)) (map pos e.hints)))) (said_clauses 1 (length formula + 1) es)
      ∙ ap (by_shown line) (same_shown es e.clause e.hints ∙ shown)

  -- whether an entry is the last one that is looked at, or not
  by_last : (b : Bool) (before : List LogEntry) (x : LogEntry) (xs : List LogEntry) → wrong_with formula before x ≡ None → first_wrong formula (before ++ x ∷ []) xs ≡ None → first_wrong formula before (cond b (x ∷ []) (x ∷ xs)) ≡ None
  by_last true before x xs one more = ap (λ w. or_else w None) one
  by_last false before x xs one more = ap (λ w. or_else w (first_wrong formula (before ++ x ∷ []) xs)) one ∙ more

  none_wrong : (done es : List Entry) → IsLogOk (known done) es → first_wrong formula (said done) (up_to_empty (entries_said (1 + length done) (length formula + 1 + length done) es)) ≡ None
  none_wrong done [] ok = refl
  none_wrong done (e ∷ es) ok =
      by_last (is_empty e.clause) (said done) (entry_said (1 + length done) (length formula + 1 + length done) e) (up_to_empty (entries_said (1 + length done + 1) (length formula + 1 + length done + 1) es))
      (none_wrong_with done (1 + length done) (length formula + 1 + length done) e ok.0)
      (ap (λ xs. first_wrong formula xs (up_to_empty (entries_said (1 + length done + 1) (length formula + 1 + length done + 1) es))) (sym (said_push 1 (length formula + 1) done e))
      ∙ ap (λ n. first_wrong formula (said (done ++ e ∷ [])) (up_to_empty (entries_said n (length formula + 1 + length done + 1) es))) (omega (arith, pushed))
      ∙ ap (λ n. first_wrong formula (said (done ++ e ∷ [])) (up_to_empty (entries_said (1 + length (done ++ e ∷ [])) n es))) (omega (arith, pushed))
      ∙ none_wrong (done ++ e ∷ []) es (subst (λ (cs : List (List ℤ)). IsLogOk cs es) known_push ok.1))
    where
      pushed : length (done ++ e ∷ []) ≡ length done + 1
      pushed = length-append done (e ∷ [])

      known_push : known done ++ e.clause ∷ [] ≡ known (done ++ e ∷ [])
      known_push = append_assoc formula (clauses_of done) (e.clause ∷ []) ∙ ap (λ cs. formula ++ cs) (sym (map-append (λ (y : Entry). y.clause) done (e ∷ [])))

  said_empty : (line id : ℕ) (es : List Entry) → list_any (λ e. is_empty e.clause) (entries_said line id es) ≡ holds_empty es
  said_empty line id [] = refl
  said_empty line id (e ∷ es) = ap (λ b. is_empty e.clause || b) (said_empty (line + 1) (id + 1) es)

  -- entries that are shown, with an empty one, are a refutation
  pub judged_verified : (es : List Entry) → IsLogOk formula es → holds_empty es ≡ true → judged formula (said es) ≡ Verified
  judged_verified es ok empty =
      ap (λ w. by_wrong w (list_any (λ e. is_empty e.clause) (said es))) wrong ∙ ap (by_wrong None) (said_empty 1 (length formula + 1) es ∙ empty)
    where
      wrong : first_wrong formula [] (up_to_empty (said es)) ≡ None
      wrong =
          ap (λ n. first_wrong formula [] (up_to_empty (entries_said 1 n es))) (omega arith)
          ∙ none_wrong [] es (subst (λ (cs : List (List ℤ)). IsLogOk cs es) (sym (append-nil formula)) ok)
