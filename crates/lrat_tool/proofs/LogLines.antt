-- The lines of a log, one after another.
use Rattle.std.proofs.Common.{◌≡◌, ◌∙◌, ap, sym, refl, ℕ, ◌+◌, ◌≤◌, ◌<◌, true, false, cond, List, [], ◌∷◌, ◌++◌, length, drop, map, Result, Ok, Err, arith}
use Rattle.std.specs.Prelude.{nat_le, nat_lt}
use Rattle.std.proofs.lemmas.Bool.{false≢true}
use Rattle.std.proofs.lemmas.Bool.Decides.{nat_tests}
use Rattle.std.proofs.lemmas.List.{append-nil, append_assoc, map-append}
use Rattle.lrat_tool.specs.Words.{lines_behind, lines_of, words_in, words_left}
use Rattle.lrat_tool.specs.Held.{IsHeld, LineRead, last_id}
use Rattle.lrat_tool.specs.declared.lines.Line.{Line}
use Rattle.lrat_tool.specs.declared.log.Log.{Log}
use Rattle.lrat_tool.proofs.Ids.{last_push}
use Rattle.lrat_tool.specs.Logs.{LineMeant, Nothing, Clause, Bad, LogEntry, by_line, entries_from, with_entry, words_meant}

-- entries before those of a result
abbrev pub behind : List LogEntry → Result (List LogEntry) ℕ → Result (List LogEntry) ℕ
behind es (Ok ds) = Ok (es ++ ds)
behind es (Err n) = Err n

-- the lines from a place on, which is a line's begin or behind the text
abbrev pub lines_from : List ℕ → ℕ → List (List ℕ)
lines_from text at = cond (nat_le at (length text)) (lines_of (drop at text)) []

module _ (text : List ℕ) where
  within : (at : ℕ) → at ≤ length text → nat_le at (length text) ≡ true
  within at h = grind (arith, nat_tests)

  beyond : (at : ℕ) → length text < at → nat_le at (length text) ≡ false
  beyond at h = grind (arith, nat_tests)

  next_test : (end : ℕ) → nat_lt end (length text) ≡ nat_le (end + 1) (length text)
  next_test end = grind (arith, nat_tests)

  pub first_lines : lines_from text 0 ≡ lines_of text
  first_lines = ap (λ b. cond b (lines_of text) []) (within 0 (omega arith))

  pub line_there : (at : ℕ) → at ≤ length text → lines_from text at ≡ lines_of (drop at text)
  line_there at h = ap (λ b. cond b (lines_of (drop at text)) []) (within at h)

  pub none_there : (at : ℕ) → length text < at → lines_from text at ≡ []
  none_there at h = ap (λ b. cond b (lines_of (drop at text)) []) (beyond at h)

  pub behind_is : (end : ℕ) → lines_behind text end ≡ lines_from text (end + 1)
  behind_is end = ap (λ b. cond b (lines_of (drop (end + 1) text)) []) (next_test end)

pub behind_none : (es : List LogEntry) (number last : ℕ) (ls : List (List ℕ)) → ls ≡ [] → behind es (entries_from number ls last) ≡ Ok es
behind_none es number last ls none = ap (λ (l : List (List ℕ)). behind es (entries_from number l last)) none ∙ ap (λ (ds : List LogEntry). Ok ds) (append-nil es)

-- a line with an entry
pub behind_one : (es : List LogEntry) (e : LogEntry) (r : Result (List LogEntry) ℕ) → behind es (with_entry e r) ≡ behind (es ++ e ∷ []) r
behind_one es e (Ok ds) = ap (λ (xs : List LogEntry). Ok xs) (sym (append_assoc es (e ∷ []) ds))
behind_one es e (Err n) = refl

-- ---- what a line leaves
module _ (first number last : ℕ) (es : List LogEntry) (new : Log) (ls : List (List ℕ)) where
  abbrev rest : ℕ → Result (List LogEntry) ℕ
  rest n = entries_from (number + 1) ls n

  pub line_done : (m : LineMeant) → last ≡ last_id first (map (λ e. e.id) es) → LineRead first es new m true
      → (ds : List LogEntry) × IsHeld first ds new × (behind es (by_line m number rest last) ≡ behind ds (rest (last_id first new.ids.items)))
  line_done Nothing is h = (es, h.1, ap (λ n. behind es (rest n)) (is ∙ sym (ap (last_id first) h.1.ids)))
  line_done (Clause e) is h = (
    es ++ e ∷ [],
    h.1,
    behind_one es e (rest e.id)
        ∙ ap (λ n. behind (es ++ e ∷ []) (rest n)) (sym (ap (last_id first) (h.1.ids ∙ map-append (λ (d : LogEntry). d.id) es (e ∷ [])) ∙ last_push first (map (λ d. d.id) es) e.id)),
  )
  line_done Bad is h = absurd (false≢true (sym h))

  pub line_bad : (m : LineMeant) → LineRead first es new m false → behind es (by_line m number rest last) ≡ Err number
  line_bad Nothing h = absurd (false≢true h.0)
  line_bad (Clause e) h = absurd (false≢true h.0)
  line_bad Bad h = refl

pub behind_nil : (r : Result (List LogEntry) ℕ) → behind [] r ≡ r
behind_nil (Ok ds) = refl
behind_nil (Err n) = refl

-- the line at a place
module _ (text : List ℕ) (number last at : ℕ) (es : List LogEntry) (line : Line) (l : List ℕ) (inside : at ≤ length text) (lines : lines_of (drop at text) ≡ l ∷ lines_behind text line.end)
    (words : words_in l ≡ words_left text line.begin line.end) (is : line.number ≡ number) where
  abbrev pub meant_here : LineMeant
  meant_here = words_meant last line.number (words_left text line.begin line.end)

  pub line_reached : behind es (entries_from number (lines_from text at) last) ≡ behind es (by_line meant_here number (entries_from (number + 1) (lines_behind text line.end)) last)
  line_reached =
      ap (λ (ls : List (List ℕ)). behind es (entries_from number ls last)) (line_there text at inside ∙ lines)
      ∙ (λ i. behind es (by_line (words_meant last (sym is i) (words i)) number (entries_from (number + 1) (lines_behind text line.end)) last))
