-- Tokens, one after another.
use Rattle.std.proofs.Common.{◌≡◌, ◌∙◌, ap, sym, refl, ℕ, ◌+◌, ◌<◌, Bool, true, false, cond, List, [], ◌∷◌, ◌++◌, map, length, drop, arith, Result, Ok, Err}
use Rattle.std.specs.Prelude.{ℤ, nat_lt, if◌then◌else◌, Option, Some, None}
use Rattle.lrat_tool.specs.Words.{lines_behind, lines_of, words_in, words_left}
use Rattle.lrat_tool.specs.Formulas.{Token, by_misplaced, clauses_behind, first_misplaced, is_whole, may_follow, tokens_from, tokens_of}
use Rattle.lrat_tool.specs.Reading.{StopsAt, formula_by, tokens_left}
use Rattle.lrat_tool.specs.declared.lines.Line.{Line}

module _ (text : List ℕ) where
  abbrev tokens_with : ℕ → ℕ → List (List ℕ) → List Token
  tokens_with number end words = map (λ w. record { line = number; word = w }) words ++ tokens_from (number + 1) (lines_behind text end)

  -- a word of the line is read
  pub token_next : (old new : Line) (w : List ℕ) → words_left text old.begin old.end ≡ w ∷ words_left text new.begin new.end → new.end ≡ old.end → new.number ≡ old.number
      → tokens_left text old ≡ record { line = new.number; word = w } ∷ tokens_left text new
  token_next old new w word end number =
      ap (tokens_with old.number old.end) word
      ∙ (λ i. record { line = sym number i; word = w } ∷ tokens_with (sym number i) (sym end i) (words_left text new.begin new.end))

  is_within : (n : ℕ) → n < length text → nat_lt n (length text) ≡ true
  is_within n h = grind (arith, Rattle.std.proofs.lemmas.Bool.Decides.nat_tests)

  -- a line without words is left behind
  pub line_next : (old new : Line) (l : List ℕ) → words_left text old.begin old.end ≡ [] → old.end < length text → lines_of (drop (old.end + 1) text) ≡ l ∷ lines_behind text new.end
      → words_in l ≡ words_left text new.begin new.end → new.number ≡ old.number + 1 → tokens_left text old ≡ tokens_left text new
  line_next old new l none more lines words number =
      ap (tokens_with old.number old.end) none
      ∙ ap (λ b. tokens_from (old.number + 1) (cond b (lines_of (drop (old.end + 1) text)) [])) (is_within old.end more)
      ∙ ap (tokens_from (old.number + 1)) lines
      ∙ (λ i. tokens_with (sym number i) new.end (words i))

  -- the first line
  pub first_tokens : (new : Line) (l : List ℕ) → lines_of text ≡ l ∷ lines_behind text new.end → words_in l ≡ words_left text new.begin new.end → new.number ≡ 1 → tokens_of text ≡ tokens_left text new
  first_tokens new l lines words number = ap (tokens_from 1) lines ∙ (λ i. tokens_with (sym number i) new.end (words i))

  -- nothing is left
  pub none_left : (l : Line) → words_left text l.begin l.end ≡ [] → l.end ≡ length text → tokens_left text l ≡ []
  none_left l none last =
      ap (tokens_with l.number l.end) none ∙ ap (λ b. tokens_from (l.number + 1) (cond b (lines_of (drop (l.end + 1) text)) [])) (past l.end last)
    where
      past : (n : ℕ) → n ≡ length text → nat_lt n (length text) ≡ false
      past n h = grind (arith, Rattle.std.proofs.lemmas.Bool.Decides.nat_tests)

-- a token that may stand there
pub passed : (before : List Token) (t : Token) (ts : List Token) → may_follow before t ≡ true → first_misplaced before (t ∷ ts) ≡ first_misplaced (before ++ t ∷ []) ts
passed before t ts is = ap (λ b. cond b (first_misplaced (before ++ t ∷ []) ts) (Some t.line)) is

-- the tokens stop behind these
module _ (last : ℕ) (all before : List Token) where
  abbrev formula_as : Option ℕ → Bool → Result (List (List ℤ)) ℕ
  formula_as misplaced whole = by_misplaced misplaced (if whole then Ok (clauses_behind all) else Err last)

  pub stopped : (rest : List Token) (n : ℕ) → first_misplaced [] all ≡ first_misplaced before rest → StopsAt last rest (may_follow before) n → (rest ≡ [] → is_whole all ≡ false) → formula_by last all ≡ Err n
  stopped [] n reached stop short =
      ap (λ m. formula_as m (is_whole all)) reached ∙ ap (formula_as None) (short refl) ∙ ap (λ m. Err m) (sym stop)
  stopped (t ∷ ts) n reached stop short =
      ap (λ m. formula_as m (is_whole all)) (reached ∙ ap (λ b. cond b (first_misplaced (before ++ t ∷ []) ts) (Some t.line)) stop.0)
      ∙ ap (λ m. Err m) (sym stop.1)
