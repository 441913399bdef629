-- A formula as it is written, read again.
use Rattle.std.proofs.Common.{◌≡◌, ◌∙◌, ap, sym, refl, subst, ℕ, ℤ, pos, ◌+◌, ◌^◌, ◌<◌, ◌≤◌, true, false, ◌&&◌, cond, List, [], ◌∷◌, ◌++◌, length, map, Some, None, Ok, Err, Result, arith}
use Rattle.std.specs.Prelude.{◌==◌, nat_lt, codes, bytes_eq, is_some, not, option_map}
use Rattle.std.specs.Fmt.{decimal, signed_decimal}
use Rattle.std.specs.Int.RustNames.{unsigned_abs}
use Rattle.std.specs.List.{All, list_all, count_by, flat_map, join_with_byte}
use Rattle.std.proofs.lemmas.Bool.{and_from, and_parts, not-true, eq-eqb, le-leb, lt-ltb, ne_eqb}
use Rattle.std.proofs.lemmas.List.{append_assoc}
use Rattle.std.proofs.lemmas.List.Elements.{All-nil, All-cons, All-head, All-tail}
use Rattle.std.proofs.lemmas.List.Sums.{sum_by-append, sum_by-cons}
use Rattle.cnf_rup.specs.Literals.{IsClause, IsLiteral, IsUpTo}
use Rattle.lrat_tool.specs.Formulas.{Token, by_misplaced, clauses_behind, clauses_said, first_misplaced, formula_meant, is_whole, last_line, literal_said, integer_or_zero, may_follow, most_clauses, most_variables, or_zero, split_clauses, tokens_from, tokens_of, variables_said, zeros}
use Rattle.lrat_tool.specs.Numbers.{integer_within, is_zero, natural_within}
use Rattle.lrat_tool.specs.Words.{is_blank, is_comment, with_first}
use Rattle.lrat_tool.specs.Written.{clause_words, greatest_variable, header_words, text_of}
use Rattle.lrat_tool.proofs.WrittenGreatest.{up_to_variable, variable_within}
use Rattle.lrat_tool.proofs.WrittenLines.{IsLine, IsWord, line_read, lines_read}
use Rattle.lrat_tool.proofs.WrittenNumbers.{decimal_word, integer_read, natural_read_within, no_zero, signed_counts, signed_is_zero, signed_word, zero_word}

-- ---- the tokens of lines
abbrev token : ℕ → List ℕ → Token
token n w = record { line = n; word = w }

abbrev tokens_by : ℕ → List (List (List ℕ)) → List Token
tokens_by n [] = []
tokens_by n (words ∷ lines) = map (token n) words ++ tokens_by (n + 1) lines

tokens_lines : (n : ℕ) (lines : List (List (List ℕ))) → All IsLine lines → tokens_from n (map (join_with_byte 32) lines ++ [] ∷ []) ≡ tokens_by n lines
tokens_lines n [] are = refl
tokens_lines n (words ∷ lines) are =
    ap (λ ws. map (token n) ws ++ tokens_from (n + 1) (map (join_with_byte 32) lines ++ [] ∷ [])) (line_read words (All-head IsLine words lines are))
    ∙ ap (λ ts. map (token n) words ++ ts) (tokens_lines (n + 1) lines (All-tail IsLine words lines are))

tokens_read : (lines : List (List (List ℕ))) → All IsLine lines → tokens_of (text_of lines) ≡ tokens_by 1 lines
tokens_read lines are = ap (tokens_from 1) (lines_read lines are) ∙ tokens_lines 1 lines are

-- ---- tokens that spell literals of these variables, and zeros, behind the first line
record Spells (most : ℕ) (t : Token) (z : ℤ) : Type 0 where
  within : integer_within most t.word ≡ Some z
  said : integer_within most_variables t.word ≡ Some z
  ends : bytes_eq t.word (codes "0") ≡ is_zero z
  later : (t.line == 1) ≡ false

abbrev Spell : ℕ → List Token → List ℤ → Type 0
Spell most [] [] = Unit {0}
Spell most (t ∷ ts) (z ∷ zs) = Spells most t z × Spell most ts zs
Spell most _ _ = ⊥

spell_append : (most : ℕ) (ts us : List Token) (zs ys : List ℤ) → Spell most ts zs → Spell most us ys → Spell most (ts ++ us) (zs ++ ys)
spell_append most [] us [] ys s r = r
spell_append most [] us (z ∷ zs) ys s r = absurd s
spell_append most (t ∷ ts) us [] ys s r = absurd s
spell_append most (t ∷ ts) us (z ∷ zs) ys s r = (s.0, spell_append most ts us zs ys s.1 r)

zeros_spelled : (most : ℕ) (ts : List Token) (zs : List ℤ) → Spell most ts zs → zeros ts ≡ count_by is_zero zs
zeros_spelled most [] [] s = refl
zeros_spelled most [] (z ∷ zs) s = absurd s
zeros_spelled most (t ∷ ts) [] s = absurd s
zeros_spelled most (t ∷ ts) (z ∷ zs) s =
    sum_by-cons (λ (t : Token). cond (bytes_eq t.word (codes "0")) 1 0) t ts
    ∙ ap (λ b. cond b 1 0 + zeros ts) s.0.ends
    ∙ ap (λ n. cond (is_zero z) 1 0 + n) (zeros_spelled most ts zs s.1)
    ∙ sym (sum_by-cons (λ (x : ℤ). cond (is_zero x) 1 0) z zs)

literals_spelled : (most : ℕ) (ts : List Token) (zs : List ℤ) → Spell most ts zs → map literal_said ts ≡ zs
literals_spelled most [] [] s = refl
literals_spelled most [] (z ∷ zs) s = absurd s
literals_spelled most (t ∷ ts) [] s = absurd s
literals_spelled most (t ∷ ts) (z ∷ zs) s =
    ap (λ o. integer_or_zero o ∷ map literal_said ts) s.0.said ∙ ap (λ ls. z ∷ ls) (literals_spelled most ts zs s.1)

-- ---- literals with a 0 at their end
abbrev EndsZero : List ℤ → Type 0
EndsZero [] = Unit {0}
EndsZero (z ∷ []) = is_zero z ≡ true
EndsZero (z ∷ y ∷ zs) = EndsZero (y ∷ zs)

ends_tail : (z : ℤ) (zs : List ℤ) → EndsZero (z ∷ zs) → EndsZero zs
ends_tail z [] e = tt
ends_tail z (y ∷ zs) e = e

some_zero : (z : ℤ) (zs : List ℤ) → EndsZero (z ∷ zs) → 0 < count_by is_zero (z ∷ zs)
some_zero z [] e = omega (arith, sum_by-cons (λ (x : ℤ). cond (is_zero x) 1 0) z [], ap {B = ℕ} (λ b. cond b 1 0) e)
some_zero z (y ∷ zs) e = omega (arith, sum_by-cons (λ (x : ℤ). cond (is_zero x) 1 0) z (y ∷ zs), some_zero y zs e)

-- ---- none of these tokens is misplaced
module _ (most : ℕ) (p f v c : Token) (first : p.line ≡ 1) (bound : variables_said v ≡ most) where
  followed : (before : List Token) (t : Token) (z : ℤ) → Spells most t z → zeros before < clauses_said c → may_follow (p ∷ f ∷ v ∷ c ∷ before) t ≡ true
  followed before t z s room =
      and_from (not (t.line == p.line)) (nat_lt (zeros before) (clauses_said c) && is_some (integer_within (variables_said v) t.word))
      (ap (λ n. not (t.line == n)) first ∙ ap not s.later)
      (and_from (nat_lt (zeros before) (clauses_said c)) (is_some (integer_within (variables_said v) t.word))
      (lt-ltb (zeros before) (clauses_said c) room)
      (ap (λ n. is_some (integer_within n t.word)) bound ∙ ap is_some s.within))

  none_misplaced : (before ts : List Token) (zs : List ℤ) → Spell most ts zs → EndsZero zs → zeros before + count_by is_zero zs ≡ clauses_said c → first_misplaced (p ∷ f ∷ v ∷ c ∷ before) ts ≡ None
  none_misplaced before [] [] s e n = refl
  none_misplaced before [] (z ∷ zs) s e n = absurd s
  none_misplaced before (t ∷ ts) [] s e n = absurd s
  none_misplaced before (t ∷ ts) (z ∷ zs) s e n =
      ap (λ b. cond b (first_misplaced (p ∷ f ∷ v ∷ c ∷ (before ++ t ∷ [])) ts) (Some t.line)) (followed before t z s.0 (omega (arith, n, some_zero z zs e)))
      ∙ none_misplaced (before ++ t ∷ []) ts zs s.1 (ends_tail z zs e) (moved ∙ n)
    where
      moved : zeros (before ++ t ∷ []) + count_by is_zero zs ≡ zeros before + count_by is_zero (z ∷ zs)
      moved = omega (
        arith,
        sum_by-append (λ (t : Token). cond (bytes_eq t.word (codes "0")) 1 0) before (t ∷ []),
        sum_by-cons (λ (t : Token). cond (bytes_eq t.word (codes "0")) 1 0) t [],
        ap {B = ℕ} (λ b. cond b 1 0) s.0.ends,
        sum_by-cons (λ (x : ℤ). cond (is_zero x) 1 0) z zs,
      )

-- ---- the clauses as literals and zeros
abbrev spelled : List (List ℤ) → List ℤ
spelled clauses = flat_map (λ c. c ++ pos 0 ∷ []) clauses

count_clause : (c : List ℤ) (zs : List ℤ) → IsClause c → count_by is_zero (c ++ pos 0 ∷ zs) ≡ 1 + count_by is_zero zs
count_clause [] zs is = sum_by-cons (λ (x : ℤ). cond (is_zero x) 1 0) (pos 0) zs
count_clause (l ∷ c) zs is =
    sum_by-cons (λ (x : ℤ). cond (is_zero x) 1 0) l (c ++ pos 0 ∷ zs)
    ∙ ap (λ b. cond b 1 0 + count_by is_zero (c ++ pos 0 ∷ zs)) (no_zero l ((All-head IsLiteral l c is).0))
    ∙ omega (arith, count_clause c zs (All-tail IsLiteral l c is))

count_clauses : (clauses : List (List ℤ)) → All IsClause clauses → count_by is_zero (spelled clauses) ≡ length clauses
count_clauses [] are = refl
count_clauses (c ∷ clauses) are =
    ap (count_by is_zero) (append_assoc c (pos 0 ∷ []) (spelled clauses))
    ∙ count_clause c (spelled clauses) (All-head IsClause c clauses are)
    ∙ omega (arith, count_clauses clauses (All-tail IsClause c clauses are))

split_clause : (c : List ℤ) (zs : List ℤ) → IsClause c → split_clauses (c ++ pos 0 ∷ zs) ≡ c ∷ split_clauses zs
split_clause [] zs is = refl
split_clause (l ∷ c) zs is =
    ap (λ b. cond b ([] ∷ split_clauses (c ++ pos 0 ∷ zs)) (with_first l (split_clauses (c ++ pos 0 ∷ zs)))) (no_zero l ((All-head IsLiteral l c is).0))
    ∙ ap (with_first l) (split_clause c zs (All-tail IsLiteral l c is))

split_spelled : (clauses : List (List ℤ)) → All IsClause clauses → split_clauses (spelled clauses) ≡ clauses
split_spelled [] are = refl
split_spelled (c ∷ clauses) are =
    ap split_clauses (append_assoc c (pos 0 ∷ []) (spelled clauses))
    ∙ split_clause c (spelled clauses) (All-head IsClause c clauses are)
    ∙ ap (λ cs. c ∷ cs) (split_spelled clauses (All-tail IsClause c clauses are))

ends_clause : (c : List ℤ) (zs : List ℤ) → EndsZero zs → EndsZero (c ++ pos 0 ∷ zs)
ends_clause [] [] e = refl
ends_clause [] (z ∷ zs) e = e
ends_clause (l ∷ []) zs e = ends_clause [] zs e
ends_clause (l ∷ k ∷ c) zs e = ends_clause (k ∷ c) zs e

ends_spelled : (clauses : List (List ℤ)) → EndsZero (spelled clauses)
ends_spelled [] = tt
ends_spelled (c ∷ clauses) = subst EndsZero (sym (append_assoc c (pos 0 ∷ []) (spelled clauses))) (ends_clause c (spelled clauses) (ends_spelled clauses))

module _ (most : ℕ) (bound : most ≤ 10000000) where
  spell_clause : (n : ℕ) → (n == 1) ≡ false → (c : List ℤ) → IsUpTo most c → Spell most (map (token n) (clause_words c)) (c ++ pos 0 ∷ [])
  spell_clause n later [] are = (
    record {
      within = ap (λ b. option_map pos (cond b (Some 0) None)) (le-leb 0 most (omega arith));
      said = refl;
      ends = refl;
      later = later;
    },
    tt,
  )
  spell_clause n later (l ∷ c) are =
      let le : unsigned_abs l ≤ most = All-head (λ (x : ℤ). unsigned_abs x ≤ most) l c are in (
        record {
          within = integer_read most l (omega (arith, le, bound)) le;
          said = integer_read most_variables l (omega (arith, le, bound)) (omega (arith, le, bound));
          ends = signed_is_zero l (omega (arith, le, bound));
          later = later;
        },
        spell_clause n later c (All-tail (λ (x : ℤ). unsigned_abs x ≤ most) l c are),
      )

  spell_clauses : (n : ℕ) → 1 < n → (clauses : List (List ℤ)) → All (IsUpTo most) clauses → Spell most (tokens_by n (map clause_words clauses)) (spelled clauses)
  spell_clauses n later [] are = tt
  spell_clauses n later (c ∷ clauses) are =
      spell_append most (map (token n) (clause_words c)) (tokens_by (n + 1) (map clause_words clauses)) (c ++ pos 0 ∷ []) (spelled clauses)
      (spell_clause n (ne_eqb n 1 (λ e. absurd (omega (arith, e, later)))) c (All-head (IsUpTo most) c clauses are))
      (spell_clauses (n + 1) (omega arith) clauses (All-tail (IsUpTo most) c clauses are))

-- ---- the lines
clause_line : (c : List ℤ) → IsUpTo 10000000 c → IsLine (clause_words c)
clause_line c are = record { words = words_of_clause c are; counts = counts c are }
  where
    words_of_clause : (c : List ℤ) → IsUpTo 10000000 c → All IsWord (clause_words c)
    words_of_clause [] are = All-cons IsWord (codes "0") [] zero_word (All-nil IsWord)
    words_of_clause (l ∷ c) are =
        All-cons IsWord (signed_decimal l) (clause_words c) (signed_word l (omega (arith, All-head (λ (x : ℤ). unsigned_abs x ≤ 10000000) l c are))) (words_of_clause c (All-tail (λ (x : ℤ). unsigned_abs x ≤ 10000000) l c are))

    counts : (c : List ℤ) → IsUpTo 10000000 c → is_comment (join_with_byte 32 (clause_words c)) ≡ false
    counts [] are = refl
    counts (l ∷ []) are = signed_counts l (32 ∷ codes "0") (omega (arith, All-head (λ (x : ℤ). unsigned_abs x ≤ 10000000) l [] are))
    counts (l ∷ k ∷ c) are = signed_counts l (32 ∷ join_with_byte 32 (clause_words (k ∷ c))) (omega (arith, All-head (λ (x : ℤ). unsigned_abs x ≤ 10000000) l (k ∷ c) are))

clause_lines : (clauses : List (List ℤ)) → All (IsUpTo 10000000) clauses → All IsLine (map clause_words clauses)
clause_lines [] are = All-nil IsLine
clause_lines (c ∷ clauses) are = All-cons IsLine (clause_words c) (map clause_words clauses) (clause_line c (All-head (IsUpTo 10000000) c clauses are)) (clause_lines clauses (All-tail (IsUpTo 10000000) c clauses are))

header_line : (clauses : List (List ℤ)) → greatest_variable clauses < 2 ^ 64 → length clauses < 2 ^ 64 → IsLine (header_words (greatest_variable clauses) (length clauses))
header_line clauses few short = record {
  words =
      All-cons IsWord (codes "p") (codes "cnf" ∷ decimal (greatest_variable clauses) ∷ decimal (length clauses) ∷ []) (record { some = omega arith; solid = list_all_solid (codes "p") refl })
      (All-cons IsWord (codes "cnf") (decimal (greatest_variable clauses) ∷ decimal (length clauses) ∷ []) (record { some = omega arith; solid = list_all_solid (codes "cnf") refl })
      (All-cons IsWord (decimal (greatest_variable clauses)) (decimal (length clauses) ∷ []) (decimal_word (greatest_variable clauses) few)
      (All-cons IsWord (decimal (length clauses)) [] (decimal_word (length clauses) short) (All-nil IsWord))));
  counts = refl;
}
  where
    list_all_solid : (w : List ℕ) → list_all (λ b. not (is_blank b)) w ≡ true → All (λ b. is_blank b ≡ false) w
    list_all_solid [] h = All-nil (λ (b : ℕ). is_blank b ≡ false)
    list_all_solid (b ∷ bs) h =
        let both = and_parts (not (is_blank b)) (list_all (λ b. not (is_blank b)) bs) h in
        All-cons (λ (b : ℕ). is_blank b ≡ false) b bs (not-true (is_blank b) both.0) (list_all_solid bs both.1)

-- ---- the formula
abbrev meant_by : List ℕ → List Token → Result (List (List ℤ)) ℕ
meant_by text ts = by_misplaced (first_misplaced [] ts) (cond (is_whole ts) (Ok (clauses_behind ts)) (Err (last_line text)))

module _ (clauses : List (List ℤ)) (are : All IsClause clauses) (variables : All (IsUpTo 10000000) clauses) (few : length clauses ≤ 100000000) where
  abbrev p : Token
  p = token 1 (codes "p")

  abbrev f : Token
  f = token 1 (codes "cnf")

  abbrev v : Token
  v = token 1 (decimal (greatest_variable clauses))

  abbrev c : Token
  c = token 1 (decimal (length clauses))

  abbrev rest : List Token
  rest = tokens_by 2 (map clause_words clauses)

  most_small : greatest_variable clauses ≤ 10000000
  most_small = variable_within 10000000 clauses variables

  variables_read : natural_within most_variables (decimal (greatest_variable clauses)) ≡ Some (greatest_variable clauses)
  variables_read = natural_read_within most_variables (greatest_variable clauses) (omega (arith, most_small)) most_small

  clauses_read : natural_within most_clauses (decimal (length clauses)) ≡ Some (length clauses)
  clauses_read = natural_read_within most_clauses (length clauses) (omega (arith, few)) few

  spell : Spell (greatest_variable clauses) rest (spelled clauses)
  spell = spell_clauses (greatest_variable clauses) most_small 2 (omega arith) clauses (up_to_variable clauses)

  as_many : count_by is_zero (spelled clauses) ≡ clauses_said c
  as_many = count_clauses clauses are ∙ sym (ap or_zero clauses_read)

  header_placed : first_misplaced [] (p ∷ f ∷ v ∷ c ∷ rest) ≡ first_misplaced (p ∷ f ∷ v ∷ c ∷ []) rest
  header_placed =
      ap (λ b. cond b (first_misplaced (p ∷ f ∷ v ∷ []) (c ∷ rest)) (Some 1)) (ap is_some variables_read)
      ∙ ap (λ b. cond b (first_misplaced (p ∷ f ∷ v ∷ c ∷ []) rest) (Some 1)) (ap is_some clauses_read)

  placed : first_misplaced [] (p ∷ f ∷ v ∷ c ∷ rest) ≡ None
  placed = header_placed ∙ none_misplaced (greatest_variable clauses) p f v c refl (ap or_zero variables_read) [] rest (spelled clauses) spell (ends_spelled clauses) (omega (arith, as_many))

  whole : is_whole (p ∷ f ∷ v ∷ c ∷ rest) ≡ true
  whole = eq-eqb (zeros rest) (clauses_said c) (zeros_spelled (greatest_variable clauses) rest (spelled clauses) spell ∙ as_many)

  behind : clauses_behind (p ∷ f ∷ v ∷ c ∷ rest) ≡ clauses
  behind = ap split_clauses (literals_spelled (greatest_variable clauses) rest (spelled clauses) spell) ∙ split_spelled clauses are

  all_lines : All IsLine (header_words (greatest_variable clauses) (length clauses) ∷ map clause_words clauses)
  all_lines = All-cons IsLine (header_words (greatest_variable clauses) (length clauses)) (map clause_words clauses) (header_line clauses (omega (arith, most_small)) (omega (arith, few))) (clause_lines clauses variables)

  -- the text of clauses says these clauses
  pub formula_read : formula_meant (text_of (header_words (greatest_variable clauses) (length clauses) ∷ map clause_words clauses)) ≡ Ok clauses
  formula_read =
      let text = text_of (header_words (greatest_variable clauses) (length clauses) ∷ map clause_words clauses) in
      ap (meant_by text) (tokens_read (header_words (greatest_variable clauses) (length clauses) ∷ map clause_words clauses) all_lines)
      ∙ ap (λ o. by_misplaced o (cond (is_whole (p ∷ f ∷ v ∷ c ∷ rest)) (Ok (clauses_behind (p ∷ f ∷ v ∷ c ∷ rest))) (Err (last_line text)))) placed
      ∙ ap (λ b. cond b (Ok (clauses_behind (p ∷ f ∷ v ∷ c ∷ rest))) (Err (last_line text))) whole
      ∙ ap Ok behind
