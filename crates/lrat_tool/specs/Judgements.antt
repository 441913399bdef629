-- The judgement on a formula and a log, by their texts.
use Rattle.std.specs.Prelude.{ℕ, ℤ, pos, negsuc, nat_le, Bool, true, false, ◌+◌, ◌==◌, if◌then◌else◌, List, [], ◌∷◌, ◌++◌, length, map, Option, Some, None, Result, Ok, Err}
use Rattle.std.specs.List.{list_any}
use Rattle.cnf_rup.specs.Books.{is_empty}
use Rattle.cnf_rup.specs.Shown.{first_unshown}
use Rattle.lrat_tool.specs.Formulas.{formula_meant}
use Rattle.lrat_tool.specs.Logs.{LogEntry, log_meant}
use Rattle.lrat_tool.specs.declared.judgement.Judgement.{Judgement}
use Rattle.lrat_tool.specs.declared.judgement.Judgement.TheVariants.{BadCnf, BadLog, Rat, NotShown, NoRefutation, Verified}

-- the place from this one on, of the entry of a number; 0 where there is none
abbrev pub place_from : ℕ → List LogEntry → ℕ → ℕ
place_from place [] h = 0
place_from place (e ∷ es) h = if e.id == h then place else place_from (place + 1) es h

-- the place that a hint names: that of a first clause is its number, and the entries stand behind them. 0 where it names none
abbrev pub place_named : List (List ℤ) → List LogEntry → ℤ → ℕ
place_named formula before (pos n) = if nat_le n (length formula) then n else place_from (length formula + 1) before n
place_named formula before (negsuc n) = 0

abbrev pub is_below_zero : ℤ → Bool
is_below_zero (pos n) = false
is_below_zero (negsuc n) = true

abbrev pub clauses_said : List (List ℤ) → List LogEntry → List (List ℤ)
clauses_said formula before = formula ++ map (λ e. e.clause) before

-- what is wrong with an entry behind others
abbrev pub by_shown : ℕ → Option ℕ → Option Judgement
by_shown line None = None
by_shown line (Some i) = Some (NotShown line)

abbrev pub wrong_with : List (List ℤ) → List LogEntry → LogEntry → Option Judgement
wrong_with formula before e =
    if list_any is_below_zero e.hints then Some (Rat e.line)
    else by_shown e.line (first_unshown (clauses_said formula before) e.clause (map (place_named formula before) e.hints))

abbrev pub or_else : Option Judgement → Option Judgement → Option Judgement
or_else None j = j
or_else (Some j) _ = Some j

-- what is wrong with the first entry of these that is wrong, each behind those before it
abbrev pub first_wrong : List (List ℤ) → List LogEntry → List LogEntry → Option Judgement
first_wrong formula before [] = None
first_wrong formula before (e ∷ es) = or_else (wrong_with formula before e) (first_wrong formula (before ++ e ∷ []) es)

-- the entries up to the first empty clause, that one included
abbrev pub up_to_empty : List LogEntry → List LogEntry
up_to_empty [] = []
up_to_empty (e ∷ es) = if is_empty e.clause then e ∷ [] else e ∷ up_to_empty es

abbrev pub by_wrong : Option Judgement → Bool → Judgement
by_wrong (Some j) refuted = j
by_wrong None true = Verified
by_wrong None false = NoRefutation

abbrev pub judged : List (List ℤ) → List LogEntry → Judgement
judged formula entries = by_wrong (first_wrong formula [] (up_to_empty entries)) (list_any (λ e. is_empty e.clause) entries)

abbrev pub judged_log : List (List ℤ) → Result (List LogEntry) ℕ → Judgement
judged_log formula (Ok entries) = judged formula entries
judged_log formula (Err n) = BadLog n

abbrev pub judged_formula : List ℕ → Result (List (List ℤ)) ℕ → Judgement
judged_formula log (Ok formula) = judged_log formula (log_meant (length formula) log)
judged_formula log (Err n) = BadCnf n

-- the judgement on a text of a formula and a text of a log
abbrev pub judgement : List ℕ → List ℕ → Judgement
judgement cnf log = judged_formula log (formula_meant cnf)
