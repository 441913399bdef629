-- What is verified has no model.
use Rattle.std.proofs.Common.{◌≡◌, ◌∙◌, ap, sym, refl, subst, ℕ, zero, suc, ℤ, pos, negsuc, ◌+◌, ◌≤◌, Bool, true, false, cond, List, [], ◌∷◌, ◌++◌, map, length, arith, Option, Some, None, Result, Ok, Err, IfOk}
use Rattle.std.specs.Prelude.{◌||◌, ◌&&◌, ◌==◌, All, nat_le, is_some, bytes_eq, codes, option_and_then, option_map}
use Rattle.std.specs.Str.Parse.{digits_value}
use Rattle.std.specs.List.{list_any}
use Rattle.std.specs.Int.RustNames.{unsigned_abs}
use Rattle.std.proofs.lemmas.Bool.{false≢true, leb-true}
use Rattle.std.proofs.lemmas.List.{map-append}
use Rattle.std.proofs.lemmas.List.Elements.{All-append, All-cons, All-head, All-nil, All-tail}
use Rattle.gl_logic.proofs.Optional.{none_some}
use Rattle.cnf_rup.specs.Books.{is_empty}
use Rattle.cnf_rup.specs.Literals.{IsClause, IsLiteral, Satisfies, SatisfiesAll}
use Rattle.cnf_rup.specs.Shown.{first_unshown}
use Rattle.cnf_rup.proofs.Sound.{shown_follows}
use Rattle.lrat_tool.specs.Judgements.{by_shown, by_wrong, clauses_said, first_wrong, is_below_zero, judged_formula, judged_log, judgement, or_else, place_named, up_to_empty, wrong_with}
use Rattle.lrat_tool.specs.Words.{lines_of, with_first, words_in}
use Rattle.lrat_tool.specs.Numbers.{at_most, integer_said, integer_within, is_numeral, is_zero, natural_within, negative}
use Rattle.lrat_tool.specs.Formulas.{Token, by_misplaced, clauses_behind, first_misplaced, formula_meant, integer_or_zero, is_whole, last_line, literal_said, most_variables, split_clauses, tokens_of}
use Rattle.lrat_tool.specs.Logs.{LineMeant, Nothing, Clause, Bad, LogEntry, after, are_ids, by_line, entries_from, entry_behind, entry_meant, is_zero_word, log_meant, most_id, most_literal, or_bad, with_entry, words_meant}
use Rattle.lrat_tool.specs.Held.{said_to_zero}
use Rattle.lrat_tool.specs.Models.{HasNoModel}
use Rattle.lrat_tool.proofs.Entries.{by_hints, by_literals, entry_is}
use Rattle.lrat_tool.proofs.Numbers.{zero_word}
use Rattle.lrat_tool.specs.declared.judgement.Judgement.{Judgement}
use Rattle.lrat_tool.specs.declared.judgement.Judgement.TheVariants.{BadCnf, BadLog, Rat, NotShown, NoRefutation, Verified}

-- nothing is wrong with either
none_of_both : (a b : Option Judgement) → or_else a b ≡ None → (a ≡ None) × (b ≡ None)
none_of_both None b h = (refl, h)
none_of_both (Some j) b h = none_some _ (sym h)

shown_by : (b : Bool) (o : Option ℕ) (line : ℕ) → cond b (Some (Rat line)) (by_shown line o) ≡ None → o ≡ None
shown_by true o line h = none_some _ (sym h)
shown_by false None line h = refl
shown_by false (Some i) line h = none_some _ (sym h)

abbrev HasClauses : List LogEntry → Type 0
HasClauses es = All (λ e. IsClause e.clause) es

module _ (f : List (List ℤ)) (fine : All IsClause f) (a : ℕ → Bool) (model : SatisfiesAll a f) where
  clauses_fine : (es : List LogEntry) → HasClauses es → All IsClause (map (λ e. e.clause) es)
  clauses_fine [] h = All-nil IsClause
  clauses_fine (e ∷ es) h = All-cons IsClause e.clause (map (λ d. d.clause) es) (All-head (λ (d : LogEntry). IsClause d.clause) e es h) (clauses_fine es (All-tail (λ (d : LogEntry). IsClause d.clause) e es h))

  -- an entry with which nothing is wrong is satisfied too
  entry_holds : (before : List LogEntry) (e : LogEntry) → HasClauses before → IsClause e.clause → SatisfiesAll a (map (λ d. d.clause) before) → wrong_with f before e ≡ None → Satisfies a e.clause
  entry_holds before e fine_before fine_e holds right =
      shown_follows (clauses_said f before) e.clause (map (place_named f before) e.hints) (All-append IsClause f (map (λ d. d.clause) before) fine (clauses_fine before fine_before)) fine_e
      (shown_by (list_any is_below_zero e.hints) (first_unshown (clauses_said f before) e.clause (map (place_named f before) e.hints)) e.line right)
      a (All-append (Satisfies a) f (map (λ d. d.clause) before) model holds)

  with_one : (before : List LogEntry) (e : LogEntry) → SatisfiesAll a (map (λ d. d.clause) before) → Satisfies a e.clause → SatisfiesAll a (map (λ d. d.clause) (before ++ e ∷ []))
  with_one before e holds one = subst (SatisfiesAll a) (sym (map-append (λ (d : LogEntry). d.clause) before (e ∷ []))) (All-append (Satisfies a) (map (λ d. d.clause) before) (e.clause ∷ []) holds (All-cons (Satisfies a) e.clause [] one (All-nil (Satisfies a))))

  empty_fails : (c : List ℤ) → is_empty c ≡ true → Satisfies a c → ⊥
  empty_fails [] h s = false≢true s
  empty_fails (l ∷ ls) h s = false≢true h

  by_empty : (before : List LogEntry) (e : LogEntry) (es : List LogEntry) → HasClauses before → IsClause e.clause → SatisfiesAll a (map (λ d. d.clause) before)
      → (HasClauses (before ++ e ∷ []) → SatisfiesAll a (map (λ d. d.clause) (before ++ e ∷ [])) → first_wrong f (before ++ e ∷ []) (up_to_empty es) ≡ None → list_any (λ d. is_empty d.clause) es ≡ true → ⊥)
      → (b : Bool) → is_empty e.clause ≡ b → first_wrong f before (cond b (e ∷ []) (e ∷ up_to_empty es)) ≡ None → (b || list_any (λ d. is_empty d.clause) es) ≡ true → ⊥
  by_empty before e es fine_before here holds more true is w s = empty_fails e.clause is (entry_holds before e fine_before here holds (none_of_both (wrong_with f before e) None w).0)
  by_empty before e es fine_before here holds more false is w s =
      let both = none_of_both (wrong_with f before e) (first_wrong f (before ++ e ∷ []) (up_to_empty es)) w in
      more (All-append (λ (d : LogEntry). IsClause d.clause) before (e ∷ []) fine_before (All-cons (λ (d : LogEntry). IsClause d.clause) e [] here (All-nil (λ (d : LogEntry). IsClause d.clause))))
      (with_one before e holds (entry_holds before e fine_before here holds both.0)) both.1 s

  no_model : (before es : List LogEntry) → HasClauses before → HasClauses es → SatisfiesAll a (map (λ d. d.clause) before) → first_wrong f before (up_to_empty es) ≡ None → list_any (λ e. is_empty e.clause) es ≡ true → ⊥
  no_model before [] fine_before fine_es holds right some = false≢true some
  no_model before (e ∷ es) fine_before fine_es holds right some =
      by_empty before e es fine_before (All-head (λ (d : LogEntry). IsClause d.clause) e es fine_es) holds
      (λ fine_more holds_more w s. no_model (before ++ e ∷ []) es fine_more (All-tail (λ (d : LogEntry). IsClause d.clause) e es fine_es) holds_more w s) (is_empty e.clause) refl right some

abbrev number_or : ℕ → Option ℕ → ℕ
number_or n None = n
number_or n (Some m) = m

-- ---- literals are whole numbers other than 0, and not too great
natural_bounded : (m : ℕ) (w : List ℕ) (n : ℕ) → natural_within m w ≡ Some n → n ≤ m
natural_bounded m w n = by_numeral (is_numeral w) (digits_value 10 w)
  where
    by_most : (b : Bool) (v : ℕ) → (b ≡ true → v ≤ m) → cond b (Some v) None ≡ Some n → n ≤ m
    by_most true v le h = omega (arith, le refl, ap (number_or n) h)
    by_most false v le h = none_some _ h

    by_numeral : (b : Bool) (v : ℕ) → cond b (at_most m v) None ≡ Some n → n ≤ m
    by_numeral true v h = by_most (nat_le v m) v (leb-true v m) h
    by_numeral false v h = none_some _ h

abbrev size_or_zero : Option ℤ → ℕ
size_or_zero None = 0
size_or_zero (Some z) = unsigned_abs z

negative_bounded : (m : ℕ) (o : Option ℕ) (z : ℤ) → ((n : ℕ) → o ≡ Some n → n ≤ m) → option_and_then negative o ≡ Some z → unsigned_abs z ≤ m
negative_bounded m None z le h = none_some _ h
negative_bounded m (Some zero) z le h = none_some _ h
negative_bounded m (Some (suc n)) z le h = omega (arith, le (suc n) refl, ap size_or_zero h)

plain_bounded : (m : ℕ) (o : Option ℕ) (z : ℤ) → ((n : ℕ) → o ≡ Some n → n ≤ m) → option_map pos o ≡ Some z → unsigned_abs z ≤ m
plain_bounded m None z le h = none_some _ h
plain_bounded m (Some n) z le h = omega (arith, le n refl, ap size_or_zero h)

pub integer_bounded : (m : ℕ) (w : List ℕ) (z : ℤ) → integer_within m w ≡ Some z → unsigned_abs z ≤ m
integer_bounded m [] z h = none_some _ h
integer_bounded m (b ∷ bs) z h = by_sign (b == 45) h
  where
    by_sign : (s : Bool) → cond s (option_and_then negative (natural_within m bs)) (option_map pos (natural_within m (b ∷ bs))) ≡ Some z → unsigned_abs z ≤ m
    by_sign true k = negative_bounded m (natural_within m bs) z (natural_bounded m bs) k
    by_sign false k = plain_bounded m (natural_within m (b ∷ bs)) z (natural_bounded m (b ∷ bs)) k

abbrev IsSmall : ℤ → Type 0
IsSmall z = unsigned_abs z ≤ 2147483647

literal_is : (z : ℤ) → is_zero z ≡ false → IsSmall z → IsLiteral z
literal_is (pos zero) h s = absurd (false≢true (sym h))
literal_is (pos (suc n)) h s = (omega arith, s)
literal_is (negsuc n) h s = (omega arith, s)

-- ---- those of a formula
with_first_fine : (z : ℤ) (cs : List (List ℤ)) → IsLiteral z → All IsClause cs → All IsClause (with_first z cs)
with_first_fine z [] l h = All-cons IsClause (z ∷ []) [] (All-cons IsLiteral z [] l (All-nil IsLiteral)) (All-nil IsClause)
with_first_fine z (c ∷ cs) l h = All-cons IsClause (z ∷ c) cs (All-cons IsLiteral z c l (All-head IsClause c cs h)) (All-tail IsClause c cs h)

split_by : (z : ℤ) (zs : List ℤ) → IsSmall z → All IsClause (split_clauses zs) → (b : Bool) → is_zero z ≡ b → All IsClause (cond b ([] ∷ split_clauses zs) (with_first z (split_clauses zs)))
split_by z zs s rest true e = All-cons IsClause [] (split_clauses zs) (All-nil IsLiteral) rest
split_by z zs s rest false e = with_first_fine z (split_clauses zs) (literal_is z e s) rest

split_fine : (zs : List ℤ) → All IsSmall zs → All IsClause (split_clauses zs)
split_fine [] h = All-nil IsClause
split_fine (z ∷ zs) h = split_by z zs (All-head IsSmall z zs h) (split_fine zs (All-tail IsSmall z zs h)) (is_zero z) refl

or_zero_small : (o : Option ℤ) → ((z : ℤ) → o ≡ Some z → unsigned_abs z ≤ most_variables) → IsSmall (integer_or_zero o)
or_zero_small None h = omega arith
or_zero_small (Some z) h = omega (arith, h z refl)

said_small : (ts : List Token) → All IsSmall (map literal_said ts)
said_small [] = All-nil IsSmall
said_small (t ∷ ts) = All-cons IsSmall (literal_said t) (map literal_said ts) (or_zero_small (integer_within most_variables t.word) (integer_bounded most_variables t.word)) (said_small ts)

behind_fine : (ts : List Token) → All IsClause (clauses_behind ts)
behind_fine [] = All-nil IsClause
behind_fine (p ∷ []) = All-nil IsClause
behind_fine (p ∷ f ∷ []) = All-nil IsClause
behind_fine (p ∷ f ∷ v ∷ []) = All-nil IsClause
behind_fine (p ∷ f ∷ v ∷ c ∷ rest) = split_fine (map literal_said rest) (said_small rest)

pub formula_fine : (text : List ℕ) → IfOk (formula_meant text) (λ f. All IsClause f)
formula_fine text = by_misplaced_fine (first_misplaced [] (tokens_of text)) (is_whole (tokens_of text))
  where
    by_misplaced_fine : (m : Option ℕ) (b : Bool) → IfOk (by_misplaced m (cond b (Ok (clauses_behind (tokens_of text))) (Err (last_line text)))) (λ f. All IsClause f)
    by_misplaced_fine (Some n) b = tt
    by_misplaced_fine None true = behind_fine (tokens_of text)
    by_misplaced_fine None false = tt

-- ---- those of a log
abbrev SaidFine : Option (List ℤ × List (List ℕ)) → Type 0
SaidFine None = Unit {0}
SaidFine (Some p) = IsClause p.0

abbrev front : ℤ → List ℤ × List (List ℕ) → List ℤ × List (List ℕ)
front z p = (z ∷ p.0, p.1)

front_fine : (z : ℤ) (o : Option (List ℤ × List (List ℕ))) → IsLiteral z → SaidFine o → SaidFine (option_map (front z) o)
front_fine z None l h = tt
front_fine z (Some p) l h = All-cons IsLiteral z p.0 l h

then_fine : (x : Option ℤ) (o : Option (List ℤ × List (List ℕ))) → ((z : ℤ) → x ≡ Some z → IsLiteral z) → SaidFine o → SaidFine (option_and_then (λ z. option_map (front z) o) x)
then_fine None o l h = tt
then_fine (Some z) o l h = front_fine z o (l z refl) h

said_by_zero : (w : List ℕ) (ws : List (List ℕ)) → SaidFine (said_to_zero (integer_within most_literal) ws) → (b : Bool) → is_zero_word w ≡ b
    → SaidFine (cond b (Some ([], ws)) (option_and_then (λ z. option_map (front z) (said_to_zero (integer_within most_literal) ws)) (integer_within most_literal w)))
said_by_zero w ws rest true e = All-nil IsLiteral
said_by_zero w ws rest false e = then_fine (integer_within most_literal w) (said_to_zero (integer_within most_literal) ws) (λ z h. literal_is z (zero_word most_literal w z h ∙ e) (integer_bounded most_literal w z h)) rest

said_fine : (ws : List (List ℕ)) → SaidFine (said_to_zero (integer_within most_literal) ws)
said_fine [] = tt
said_fine (w ∷ ws) = said_by_zero w ws (said_fine ws) (is_zero_word w) refl

abbrev EntryFine : Option LogEntry → Type 0
EntryFine None = Unit {0}
EntryFine (Some e) = IsClause e.clause

module _ (line : ℕ) where
  hints_fine : (id : ℕ) (c : List ℤ) (o : Option (List ℤ × List (List ℕ))) → IsClause c → EntryFine (by_hints line id c o)
  hints_fine id c None h = tt
  hints_fine id c (Some (hs, [])) h = h
  hints_fine id c (Some (hs, w ∷ ws)) h = tt

  literals_fine : (id : ℕ) (o : Option (List ℤ × List (List ℕ))) → SaidFine o → EntryFine (by_literals line id o)
  literals_fine id None h = tt
  literals_fine id (Some (c, ws)) h = hints_fine id c (said_to_zero integer_said ws) h

  entry_fine : (id : ℕ) (ws : List (List ℕ)) → EntryFine (entry_behind line id ws)
  entry_fine id ws = subst EntryFine (sym (entry_is line id ws)) (literals_fine id (said_to_zero (integer_within most_literal) ws) (said_fine ws))

  id_fine : (o : Option ℕ) (ws : List (List ℕ)) → EntryFine (option_and_then (λ id. entry_behind line id ws) o)
  id_fine None ws = tt
  id_fine (Some id) ws = entry_fine id ws

  abbrev LineFine : LineMeant → Type 0
  LineFine Nothing = Unit {0}
  LineFine (Clause e) = IsClause e.clause
  LineFine Bad = Unit {0}

  or_bad_fine : (o : Option LogEntry) → EntryFine o → LineFine (or_bad o)
  or_bad_fine None h = tt
  or_bad_fine (Some e) h = h

  deletion_fine : (b : Bool) → LineFine (cond b Nothing Bad)
  deletion_fine true = tt
  deletion_fine false = tt

  line_fine : (last : ℕ) (ws : List (List ℕ)) → LineFine (words_meant last line ws)
  line_fine last [] = tt
  line_fine last (w ∷ []) = tt
  line_fine last (w ∷ v ∷ ws) = by_word (bytes_eq v (codes "d"))
    where
      by_word : (b : Bool) → LineFine (cond b (cond (is_some (natural_within most_id w) && are_ids ws) Nothing Bad) (or_bad (entry_meant last line w (v ∷ ws))))
      by_word true = deletion_fine (is_some (natural_within most_id w) && are_ids ws)
      by_word false = or_bad_fine (entry_meant last line w (v ∷ ws)) (id_fine (option_and_then (after last) (natural_within most_id w)) (v ∷ ws))

abbrev ResultFine : Result (List LogEntry) ℕ → Type 0
ResultFine r = IfOk r HasClauses

with_entry_fine : (e : LogEntry) (r : Result (List LogEntry) ℕ) → IsClause e.clause → ResultFine r → ResultFine (with_entry e r)
with_entry_fine e (Ok es) l h = All-cons (λ (d : LogEntry). IsClause d.clause) e es l h
with_entry_fine e (Err n) l h = tt

by_line_fine : (line : ℕ) (m : LineMeant) (rest : ℕ → Result (List LogEntry) ℕ) (last : ℕ) → LineFine line m → ((k : ℕ) → ResultFine (rest k)) → ResultFine (by_line m line rest last)
by_line_fine line Nothing rest last l h = h last
by_line_fine line (Clause e) rest last l h = with_entry_fine e (rest e.id) l (h e.id)
by_line_fine line Bad rest last l h = tt

entries_fine : (line : ℕ) (ls : List (List ℕ)) (last : ℕ) → ResultFine (entries_from line ls last)
entries_fine line [] last = All-nil (λ (d : LogEntry). IsClause d.clause)
entries_fine line (l ∷ ls) last = by_line_fine line (words_meant last line (words_in l)) (entries_from (line + 1) ls) last (line_fine line last (words_in l)) (entries_fine (line + 1) ls)

-- ---- by the judgement
abbrev is_fault : Judgement → Bool
is_fault (BadCnf n) = false
is_fault (BadLog n) = false
is_fault (Rat n) = true
is_fault (NotShown n) = true
is_fault NoRefutation = false
is_fault Verified = false

abbrev is_verified : Judgement → Bool
is_verified (BadCnf n) = false
is_verified (BadLog n) = false
is_verified (Rat n) = false
is_verified (NotShown n) = false
is_verified NoRefutation = false
is_verified Verified = true

abbrev IsFaulty : Option Judgement → Type 0
IsFaulty None = Unit {0}
IsFaulty (Some j) = is_fault j ≡ true

wrong_faulty : (b : Bool) (o : Option ℕ) (line : ℕ) → IsFaulty (cond b (Some (Rat line)) (by_shown line o))
wrong_faulty true o line = refl
wrong_faulty false None line = tt
wrong_faulty false (Some i) line = refl

else_faulty : (a b : Option Judgement) → IsFaulty a → IsFaulty b → IsFaulty (or_else a b)
else_faulty None b h k = k
else_faulty (Some j) b h k = h

first_faulty : (f : List (List ℤ)) (before es : List LogEntry) → IsFaulty (first_wrong f before es)
first_faulty f before [] = tt
first_faulty f before (e ∷ es) =
    else_faulty (wrong_with f before e) (first_wrong f (before ++ e ∷ []) es)
    (wrong_faulty (list_any is_below_zero e.hints) (first_unshown (clauses_said f before) e.clause (map (place_named f before) e.hints)) e.line) (first_faulty f (before ++ e ∷ []) es)

verified_by : (w : Option Judgement) (b : Bool) → IsFaulty w → by_wrong w b ≡ Verified → (w ≡ None) × (b ≡ true)
verified_by None true f h = (refl, refl)
verified_by None false f h = absurd (false≢true (ap is_verified h))
verified_by (Some j) b f h = absurd (false≢true (ap is_fault (sym h) ∙ f))

log_refutes : (f : List (List ℤ)) (r : Result (List LogEntry) ℕ) → All IsClause f → ResultFine r → judged_log f r ≡ Verified → HasNoModel f
log_refutes f (Err n) fine h v a model = false≢true (ap is_verified v)
log_refutes f (Ok es) fine h v a model =
    let w = verified_by (first_wrong f [] (up_to_empty es)) (list_any (λ e. is_empty e.clause) es) (first_faulty f [] (up_to_empty es)) v in
    no_model f fine a model [] es (All-nil (λ (d : LogEntry). IsClause d.clause)) h (All-nil (Satisfies a)) w.0 w.1

formula_refutes : (log : List ℕ) (r : Result (List (List ℤ)) ℕ) → IfOk r (λ f. All IsClause f) → judged_formula log r ≡ Verified → IfOk r HasNoModel
formula_refutes log (Err n) h v = tt
formula_refutes log (Ok f) h v = log_refutes f (log_meant (length f) log) h (entries_fine 1 (lines_of log) (length f)) v

pub verified_refutes : (cnf log : List ℕ) → judgement cnf log ≡ Verified → IfOk (formula_meant cnf) HasNoModel
verified_refutes cnf log v = formula_refutes log (formula_meant cnf) (formula_fine cnf) v

pub sound_of : {E : Type 0} (cnf log : List ℕ) (r : Result Judgement E) → IfOk r (λ j. j ≡ judgement cnf log) → r ≡ Ok Verified → IfOk (formula_meant cnf) HasNoModel
sound_of {E} cnf log r h e = verified_refutes cnf log (sym (subst (λ (x : Result Judgement E). IfOk x (λ j. j ≡ judgement cnf log)) e h))
