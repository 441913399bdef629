-- Texts that are cut where lines end.
use Rattle.std.proofs.Common.{◌≡◌, ◌∙◌, ap, sym, refl, ℕ, suc, ◌+◌, ◌-◌, ◌<◌, ◌≤◌, Bool, true, false, cond, List, [], ◌∷◌, ◌++◌, map, length, get_or, take, drop, arith}
use Rattle.std.specs.Prelude.{◌==◌}
use Rattle.std.specs.List.{All}
use Rattle.std.proofs.lemmas.List.{append-nil, append_assoc, drop_more, map-append, take-append-drop}
use Rattle.std.proofs.lemmas.List.Recursion.{is_count_by}
use Rattle.std.proofs.lemmas.List.Elements.{All-append, All-cons, All-nil}
use Rattle.lrat_tool.specs.Formulas.{last_line}
use Rattle.lrat_tool.specs.Parts.{lines_in, lines_joined}
use Rattle.lrat_tool.specs.Words.{lines_of, with_first}
use Rattle.lrat_tool.specs.declared.piece.Piece.{Piece}
use Rattle.lrat_tool.proofs.Texts.{part_of_taken, take_of_taken}

-- ---- how many lines there are
first_many : (b : ℕ) (ls : List (List ℕ)) → 1 ≤ length ls → length (with_first b ls) ≡ length ls
first_many b [] h = absurd (omega (arith, h))
first_many b (l ∷ ls) h = refl

some_by : (t : Bool) (b : ℕ) (ls : List (List ℕ)) → 1 ≤ length ls → 1 ≤ length (cond t ([] ∷ ls) (with_first b ls))
some_by true b ls h = omega arith
some_by false b ls h = omega (arith, h, first_many b ls h)

pub lines_some : (text : List ℕ) → 1 ≤ length (lines_of text)
lines_some [] = omega arith
lines_some (b ∷ bs) = some_by (b == 10) b (lines_of bs) (lines_some bs)

many_by : (t : Bool) (b : ℕ) (ls : List (List ℕ)) → 1 ≤ length ls → length (cond t ([] ∷ ls) (with_first b ls)) - 1 ≡ cond t (1 + (length ls - 1)) (length ls - 1)
many_by true b ls h = omega (arith, h)
many_by false b ls h = omega (arith, first_many b ls h)

pub many_lines : (text : List ℕ) → last_line text ≡ length (lines_of text)
many_lines text =
    let one_less = is_count_by (λ t. length (lines_of t) - 1) (λ b. b == 10) refl (λ b bs. many_by (b == 10) b (lines_of bs) (lines_some bs)) text in
    omega (arith, one_less, lines_some text)

-- ---- lines behind a line's end
first_behind : (b : ℕ) (ls ms : List (List ℕ)) → 1 ≤ length ls → with_first b (ls ++ ms) ≡ with_first b ls ++ ms
first_behind b [] ms h = absurd (omega (arith, h))
first_behind b (l ∷ ls) ms h = refl

behind_by : (t : Bool) (b : ℕ) (all ls ms : List (List ℕ)) → 1 ≤ length ls → all ≡ ls ++ ms → cond t ([] ∷ all) (with_first b all) ≡ cond t ([] ∷ ls) (with_first b ls) ++ ms
behind_by true b all ls ms h e = ap (λ (l : List (List ℕ)). [] ∷ l) e
behind_by false b all ls ms h e = ap (with_first b) e ∙ first_behind b ls ms h

pub lines_behind_end : (front back : List ℕ) → lines_of (front ++ 10 ∷ back) ≡ lines_of front ++ lines_of back
lines_behind_end [] back = refl
lines_behind_end (b ∷ front) back = behind_by (b == 10) b (lines_of (front ++ 10 ∷ back)) (lines_of front) (lines_of back) (lines_some front) (lines_behind_end front back)

-- ---- a text up to an end, cut where a line ends
module _ (text : List ℕ) (at end : ℕ) (lt : at < end) (within : end ≤ length text) (is : get_or text at 0 ≡ 10) where
  more : end - at ≡ suc (end - (at + 1))
  more = omega (arith, lt)

  back : take (end - at) (drop at text) ≡ 10 ∷ take (end - (at + 1)) (drop (at + 1) text)
  back =
      ap (take (end - at)) (drop_more text at 0 (omega (arith, lt, within)))
      ∙ ap (λ n. take n (get_or text at 0 ∷ drop (at + 1) text)) more
      ∙ ap (λ (b : ℕ). b ∷ take (end - (at + 1)) (drop (at + 1) text)) is

  split : take end text ≡ take at text ++ 10 ∷ take (end - (at + 1)) (drop (at + 1) text)
  split =
      sym (take-append-drop at (take end text))
      ∙ (λ i. take_of_taken at end text (omega (arith, lt)) i ++ (part_of_taken text at end (omega (arith, lt)) ∙ back) i)

  pub lines_cut : lines_of (take end text) ≡ lines_of (take at text) ++ lines_of (take (end - (at + 1)) (drop (at + 1) text))
  lines_cut = ap lines_of split ∙ lines_behind_end (take at text) (take (end - (at + 1)) (drop (at + 1) text))

-- ---- parts that stand from the last to the first
pub joined_push : (before : List (List (List ℕ))) (ls : List (List ℕ)) → lines_joined (before ++ ls ∷ []) ≡ ls ++ lines_joined before
joined_push [] ls = sym (append-nil ls)
joined_push (ms ∷ before) ls = ap (λ (l : List (List ℕ)). l ++ ms) (joined_push before ls) ∙ append_assoc ls (lines_joined before) ms

abbrev EndsWithin : List ℕ → Piece → Type 0
EndsWithin text p = p.end ≤ length text

module _ (text : List ℕ) (parts : List Piece) (p : Piece) (end : ℕ) (is_end : p.end ≡ end) (within : end ≤ length text) (all : All (λ q. q.end ≤ length text) parts) where
  pub all_more : All (λ q. q.end ≤ length text) (parts ++ p ∷ [])
  all_more = All-append (EndsWithin text) parts (p ∷ []) all (All-cons (EndsWithin text) p [] (omega (arith, is_end, within)) (All-nil (EndsWithin text)))

  joined_by : (ls : List (List ℕ)) → lines_in text p ≡ ls → lines_joined (map (lines_in text) (parts ++ p ∷ [])) ≡ ls ++ lines_joined (map (lines_in text) parts)
  joined_by ls is =
      ap lines_joined (map-append (lines_in text) parts (p ∷ []))
      ∙ joined_push (map (lines_in text) parts) (lines_in text p)
      ∙ ap (λ (l : List (List ℕ)). l ++ lines_joined (map (lines_in text) parts)) is

  -- a part more, which begins behind a line's end
  pub parts_more : (at : ℕ) → at < end → get_or text at 0 ≡ 10 → p.first ≡ at + 1 → lines_of (take end text) ++ lines_joined (map (lines_in text) parts) ≡ lines_of text
      → lines_of (take at text) ++ lines_joined (map (lines_in text) (parts ++ p ∷ [])) ≡ lines_of text
  parts_more at lt is first so =
      let here : lines_in text p ≡ lines_of (take (end - (at + 1)) (drop (at + 1) text)) = λ i. lines_of (take (is_end i - first i) (drop (first i) text)) in
      ap (λ (l : List (List ℕ)). lines_of (take at text) ++ l) (joined_by (lines_of (take (end - (at + 1)) (drop (at + 1) text))) here)
      ∙ sym (append_assoc (lines_of (take at text)) (lines_of (take (end - (at + 1)) (drop (at + 1) text))) (lines_joined (map (lines_in text) parts)))
      ∙ ap (λ (l : List (List ℕ)). l ++ lines_joined (map (lines_in text) parts)) (sym (lines_cut text at end lt within is))
      ∙ so

  -- the part at the text's begin
  pub parts_all : p.first ≡ 0 → lines_of (take end text) ++ lines_joined (map (lines_in text) parts) ≡ lines_of text → lines_joined (map (lines_in text) (parts ++ p ∷ [])) ≡ lines_of text
  parts_all first so =
      let whole : end - 0 ≡ end = omega arith in
      let here : lines_in text p ≡ lines_of (take end text) = (λ i. lines_of (take (is_end i - first i) (drop (first i) text))) ∙ ap (λ n. lines_of (take n text)) whole in
      joined_by (lines_of (take end text)) here ∙ so
