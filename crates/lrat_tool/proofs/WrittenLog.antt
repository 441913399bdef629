-- A log as it is written, read again.
use Rattle.std.proofs.Common.{◌≡◌, ◌∙◌, ap, refl, ℕ, ℤ, pos, ◌+◌, ◌^◌, ◌<◌, ◌≤◌, false, cond, List, [], ◌∷◌, ◌++◌, length, get_or, map, Option, Some, None, Ok, arith}
use Rattle.std.specs.Prelude.{◌&&◌, is_some, codes, option_map, option_and_then}
use Rattle.std.specs.Fmt.{decimal, signed_decimal}
use Rattle.std.specs.Int.RustNames.{unsigned_abs}
use Rattle.std.specs.List.{All, join_with_byte}
use Rattle.std.proofs.lemmas.Bool.{lt-ltb}
use Rattle.std.proofs.lemmas.List.{append_assoc}
use Rattle.std.proofs.lemmas.List.Elements.{All-nil, All-cons, All-head, All-tail, All-append, All-map, All-weaker}
use Rattle.cnf_rup.specs.declared.clause.Entry.{Entry}
use Rattle.cnf_rup.specs.Literals.{IsClause, IsLiteral}
use Rattle.lrat_tool.specs.Logs.{LogEntry, Clause, Nothing, Bad, are_ids, after, all_said, by_line, ended_by_zero, entries_from, entry_behind, entry_meant, entry_with, is_zero_word, log_meant, most_id, most_literal, or_bad, split_at_zero, with_entry, with_none_behind, words_meant}
use Rattle.lrat_tool.specs.Numbers.{integer_said, integer_within, natural_within}
use Rattle.lrat_tool.specs.Words.{is_comment}
use Rattle.lrat_tool.specs.Written.{clause_words, entries_words, entry_words, hint_words, text_of}
use Rattle.lrat_tool.proofs.WrittenLines.{IsLine, IsWord, line_read, lines_read}
use Rattle.lrat_tool.proofs.WrittenNumbers.{decimal_counts, decimal_word, hint_read, integer_read, natural_read_within, no_zero, signed_is_zero, signed_no_deletion, signed_word, zero_word}

-- a clause and hints that can be written
pub record IsWritable (e : Entry) : Type 0 where
  pub clause : IsClause e.clause
  pub named : All (λ h. 0 < h) e.hints
  pub small : All (λ h. h < 2 ^ 32) e.hints

-- ---- what an entry's line says
abbrev pub entry_said : ℕ → ℕ → Entry → LogEntry
entry_said line id e = record { line = line; id = id; clause = e.clause; hints = map pos e.hints }

abbrev pub entries_said : ℕ → ℕ → List Entry → List LogEntry
entries_said line id [] = []
entries_said line id (e ∷ es) = entry_said line id e ∷ entries_said (line + 1) (id + 1) es

split_read : (ws rest : List (List ℕ)) → All (λ w. is_zero_word w ≡ false) ws → split_at_zero (ws ++ codes "0" ∷ rest) ≡ Some (ws, rest)
split_read [] rest are = refl
split_read (w ∷ ws) rest are =
    ap (λ b. cond b (Some ([], ws ++ codes "0" ∷ rest)) (option_map (λ p. (w ∷ p.0, p.1)) (split_at_zero (ws ++ codes "0" ∷ rest)))) (All-head (λ (x : List ℕ). is_zero_word x ≡ false) w ws are)
    ∙ ap (option_map (λ p. (w ∷ p.0, p.1))) (split_read ws rest (All-tail (λ (x : List ℕ). is_zero_word x ≡ false) w ws are))

all_read : {X : Type 0} (said : List ℕ → Option ℤ) (f : X → List ℕ) (g : X → ℤ) (xs : List X) → All (λ x. said (f x) ≡ Some (g x)) xs → all_said said (map f xs) ≡ Some (map g xs)
all_read said f g [] are = refl
all_read {X} said f g (x ∷ xs) are =
    ap (option_and_then (λ z. option_map (λ zs. z ∷ zs) (all_said said (map f xs)))) (All-head (λ (y : X). said (f y) ≡ Some (g y)) x xs are)
    ∙ ap (option_map (λ zs. g x ∷ zs)) (all_read said f g xs (All-tail (λ (y : X). said (f y) ≡ Some (g y)) x xs are))

same_map : (zs : List ℤ) → map (λ z. z) zs ≡ zs
same_map [] = refl
same_map (z ∷ zs) = ap (λ ys. z ∷ ys) (same_map zs)

module _ (e : Entry) (is : IsWritable e) where
  literals_read : all_said (integer_within most_literal) (map signed_decimal e.clause) ≡ Some e.clause
  literals_read =
      all_read (integer_within most_literal) signed_decimal (λ z. z) e.clause
      (All-weaker IsLiteral (λ (z : ℤ). integer_within most_literal (signed_decimal z) ≡ Some z) (λ z h. integer_read most_literal z (omega (arith, h.1)) h.1) e.clause is.clause)
      ∙ ap Some (same_map e.clause)

  hints_read : all_said integer_said (map decimal e.hints) ≡ Some (map pos e.hints)
  hints_read =
      all_read integer_said decimal pos e.hints
      (All-weaker (λ (h : ℕ). h < 2 ^ 32) (λ (h : ℕ). integer_said (decimal h) ≡ Some (pos h)) (λ h l. hint_read h (omega (arith, l))) e.hints is.small)

  literals_no_zero : All (λ w. is_zero_word w ≡ false) (map signed_decimal e.clause)
  literals_no_zero =
      All-map (λ (w : List ℕ). is_zero_word w ≡ false) signed_decimal e.clause
      (All-weaker IsLiteral (λ (z : ℤ). is_zero_word (signed_decimal z) ≡ false) (λ z h. signed_is_zero z (omega (arith, h.1)) ∙ no_zero z h.0) e.clause is.clause)

  hints_no_zero : All (λ w. is_zero_word w ≡ false) (map decimal e.hints)
  hints_no_zero =
      All-map (λ (w : List ℕ). is_zero_word w ≡ false) decimal e.hints
      (λ k d within. signed_is_zero (pos (get_or e.hints k d)) (omega (arith, is.small k d within)) ∙ no_zero (pos (get_or e.hints k d)) (is.named k d within))

  behind_read : (line id : ℕ) → entry_behind line id (clause_words e.clause ++ hint_words e.hints) ≡ Some (entry_said line id e)
  behind_read line id =
      ap (λ ws. entry_behind line id ws) (append_assoc (map signed_decimal e.clause) (codes "0" ∷ []) (hint_words e.hints))
      ∙ ap (option_and_then (λ p. option_and_then (entry_with line id p.0) (ended_by_zero p.1))) (split_read (map signed_decimal e.clause) (hint_words e.hints) literals_no_zero)
      ∙ ap (λ o. option_and_then (entry_with line id (map signed_decimal e.clause)) (option_and_then with_none_behind o)) (split_read (map decimal e.hints) [] hints_no_zero)
      ∙ ap (option_and_then (λ c. option_map (λ hs. record { line = line; id = id; clause = c; hints = hs }) (all_said integer_said (map decimal e.hints)))) literals_read
      ∙ ap (option_map (λ hs. record { line = line; id = id; clause = e.clause; hints = hs })) hints_read

  entry_read : (last line id : ℕ) → last < id → id < 2 ^ 32 → entry_meant last line (decimal id) (clause_words e.clause ++ hint_words e.hints) ≡ Some (entry_said line id e)
  entry_read last line id later small =
      ap (λ o. option_and_then (λ n. entry_behind line n (clause_words e.clause ++ hint_words e.hints)) (option_and_then (after last) o)) (natural_read_within most_id id (omega (arith, small)) (omega (arith, small)))
      ∙ ap (λ b. option_and_then (λ n. entry_behind line n (clause_words e.clause ++ hint_words e.hints)) (cond b (Some id) None)) (lt-ltb last id later)
      ∙ behind_read line id

words_by : (last line id : ℕ) (c : List ℤ) (rest : List (List ℕ)) (x : LogEntry) → IsClause c → entry_meant last line (decimal id) (clause_words c ++ rest) ≡ Some x → words_meant last line (decimal id ∷ (clause_words c ++ rest)) ≡ Clause x
words_by last line id [] rest x is h = ap or_bad h
words_by last line id (l ∷ c) rest x is h =
    let literal : unsigned_abs l ≤ 2147483647 = (All-head IsLiteral l c is).1 in
    ap (λ b. cond b (cond (is_some (natural_within most_id (decimal id)) && are_ids (clause_words c ++ rest)) Nothing Bad) (or_bad (entry_meant last line (decimal id) (clause_words (l ∷ c) ++ rest)))) (signed_no_deletion l (omega (arith, literal)))
    ∙ ap or_bad h

line_meant : (last line id : ℕ) (e : Entry) → IsWritable e → last < id → id < 2 ^ 32 → words_meant last line (entry_words id e) ≡ Clause (entry_said line id e)
line_meant last line id e is later small = words_by last line id e.clause (hint_words e.hints) (entry_said line id e) is.clause (entry_read e is last line id later small)

-- ---- the lines
words_of_clause : (c : List ℤ) → IsClause c → All IsWord (clause_words c)
words_of_clause c is =
    All-append IsWord (map signed_decimal c) (codes "0" ∷ [])
    (All-map IsWord signed_decimal c (All-weaker IsLiteral (λ (z : ℤ). IsWord (signed_decimal z)) (λ z h. signed_word z (omega (arith, h.1))) c is))
    (All-cons IsWord (codes "0") [] zero_word (All-nil IsWord))

words_of_hints : (hints : List ℕ) → All (λ h. h < 2 ^ 32) hints → All IsWord (hint_words hints)
words_of_hints hints small =
    All-append IsWord (map decimal hints) (codes "0" ∷ [])
    (All-map IsWord decimal hints (All-weaker (λ (h : ℕ). h < 2 ^ 32) (λ (h : ℕ). IsWord (decimal h)) (λ h l. decimal_word h (omega (arith, l))) hints small))
    (All-cons IsWord (codes "0") [] zero_word (All-nil IsWord))

begins : (id : ℕ) (c : List ℤ) (rest : List (List ℕ)) → id < 2 ^ 32 → is_comment (join_with_byte 32 (decimal id ∷ (clause_words c ++ rest))) ≡ false
begins id [] rest small = decimal_counts id (32 ∷ join_with_byte 32 (codes "0" ∷ rest)) (omega (arith, small))
begins id (l ∷ c) rest small = decimal_counts id (32 ∷ join_with_byte 32 (clause_words (l ∷ c) ++ rest)) (omega (arith, small))

entry_line : (id : ℕ) (e : Entry) → IsWritable e → id < 2 ^ 32 → IsLine (entry_words id e)
entry_line id e is small = record {
  words = All-cons IsWord (decimal id) (clause_words e.clause ++ hint_words e.hints) (decimal_word id (omega (arith, small))) (All-append IsWord (clause_words e.clause) (hint_words e.hints) (words_of_clause e.clause is.clause) (words_of_hints e.hints is.small));
  counts = begins id e.clause (hint_words e.hints) small;
}

entry_lines : (id : ℕ) (es : List Entry) → All IsWritable es → id + length es ≤ 2 ^ 32 → All IsLine (entries_words id es)
entry_lines id [] are small = All-nil IsLine
entry_lines id (e ∷ es) are small =
    All-cons IsLine (entry_words id e) (entries_words (id + 1) es) (entry_line id e (All-head IsWritable e es are) (omega (arith, small)))
    (entry_lines (id + 1) es (All-tail IsWritable e es are) (omega (arith, small)))

entries_read : (line id last : ℕ) (es : List Entry) → All IsWritable es → last < id → id + length es ≤ 2 ^ 32 → entries_from line (map (join_with_byte 32) (entries_words id es) ++ [] ∷ []) last ≡ Ok (entries_said line id es)
entries_read line id last [] are later small = refl
entries_read line id last (e ∷ es) are later small =
    let one = All-head IsWritable e es are in
    let rest = map (join_with_byte 32) (entries_words (id + 1) es) ++ [] ∷ [] in
    ap (λ ws. by_line (words_meant last line ws) line (entries_from (line + 1) rest) last) (line_read (entry_words id e) (entry_line id e one (omega (arith, small))))
    ∙ ap (λ m. by_line m line (entries_from (line + 1) rest) last) (line_meant last line id e one later (omega (arith, small)))
    ∙ ap (with_entry (entry_said line id e)) (entries_read (line + 1) (id + 1) id es (All-tail IsWritable e es are) (omega arith) (omega (arith, small)))

-- the text of entries says these entries, numbered behind the first clauses
pub log_read : (first : ℕ) (es : List Entry) → All IsWritable es → first + 1 + length es ≤ 2 ^ 32 → log_meant first (text_of (entries_words (first + 1) es)) ≡ Ok (entries_said 1 (first + 1) es)
log_read first es are small =
    ap (λ ls. entries_from 1 ls first) (lines_read (entries_words (first + 1) es) (entry_lines (first + 1) es are small))
    ∙ entries_read 1 (first + 1) first es are (omega arith) small
