-- Lines and words, one after another.
use Rattle.std.proofs.Common.{◌≡◌, ◌≢◌, ◌∙◌, ap, sym, refl, subst, ℕ, zero, suc, ◌+◌, ◌-◌, ◌<◌, ◌≤◌, true, false, cond, List, [], ◌∷◌, ◌++◌, length, get_or, take, drop, arith, inl, inr}
use Rattle.std.specs.Prelude.{◌==◌, nat_lt, ◌⊎◌}
use Rattle.std.proofs.lemmas.Bool.{cases_lt}
use Rattle.std.specs.List.{All}
use Rattle.std.proofs.lemmas.List.{drop_more, drop_all, drop-take, take-append-drop, take_all, length-take, length-drop, get_or-take, get_or-drop, get_or_default, drop-drop}
use Rattle.std.proofs.lemmas.List.Elements.{All-head, All-tail}
use Rattle.lrat_tool.specs.Words.{begins_blank, is_blank, is_comment, lines_behind, lines_of, with_first, words_in, words_left, words_of}

-- a blank parts nothing from what follows
pub words_skip : (line : List ℕ) (at : ℕ) → at < length line → is_blank (get_or line at 0) ≡ true → words_of (drop (at + 1) line) ≡ words_of (drop at line)
words_skip line at within blank =
    sym (ap words_of (drop_more line at 0 within) ∙ ap (λ b. cond b (words_of (drop (at + 1) line)) (cond (begins_blank (drop (at + 1) line)) ((get_or line at 0 ∷ []) ∷ words_of (drop (at + 1) line)) (with_first (get_or line at 0) (words_of (drop (at + 1) line))))) blank)

-- a word with bytes that are no blanks, and what follows
pub words_word : (w rest : List ℕ) → 0 < length w → All (λ b. is_blank b ≡ false) w → begins_blank rest ≡ true → words_of (w ++ rest) ≡ w ∷ words_of rest
words_word [] rest some solid blank = absurd (omega (arith, some))
words_word (b ∷ []) rest some solid blank =
    ap (λ x. cond x (words_of rest) (cond (begins_blank rest) ((b ∷ []) ∷ words_of rest) (with_first b (words_of rest)))) (All-head (λ (y : ℕ). is_blank y ≡ false) b [] solid)
    ∙ ap (λ x. cond x ((b ∷ []) ∷ words_of rest) (with_first b (words_of rest))) blank
words_word (b ∷ c ∷ w) rest some solid blank =
    let tail = All-tail (λ (y : ℕ). is_blank y ≡ false) b (c ∷ w) solid in
    ap (λ x. cond x (words_of (c ∷ w ++ rest)) (cond (is_blank c) ((b ∷ []) ∷ words_of (c ∷ w ++ rest)) (with_first b (words_of (c ∷ w ++ rest))))) (All-head (λ (y : ℕ). is_blank y ≡ false) b (c ∷ w) solid)
    ∙ ap (λ x. cond x ((b ∷ []) ∷ words_of (c ∷ w ++ rest)) (with_first b (words_of (c ∷ w ++ rest)))) (All-head (λ (y : ℕ). is_blank y ≡ false) c w tail)
    ∙ ap (with_first b) (words_word (c ∷ w) rest (omega arith) tail blank)

-- a line, and what follows its end
pub lines_line : (l rest : List ℕ) → All (λ b. b ≢ 10) l → lines_of (l ++ 10 ∷ rest) ≡ l ∷ lines_of rest
lines_line [] rest solid = refl
lines_line (b ∷ l) rest solid =
    ap (λ x. cond x ([] ∷ lines_of (l ++ 10 ∷ rest)) (with_first b (lines_of (l ++ 10 ∷ rest)))) (other b (All-head (λ (y : ℕ). y ≢ 10) b l solid))
    ∙ ap (with_first b) (lines_line l rest (All-tail (λ (y : ℕ). y ≢ 10) b l solid))
  where
    other : (b : ℕ) → b ≢ 10 → (b == 10) ≡ false
    other b h = grind (arith, Rattle.std.proofs.lemmas.Bool.Decides.nat_tests)

pub lines_last : (l : List ℕ) → All (λ b. b ≢ 10) l → lines_of l ≡ l ∷ []
lines_last [] solid = refl
lines_last (b ∷ l) solid =
    ap (λ x. cond x ([] ∷ lines_of l) (with_first b (lines_of l))) (other b (All-head (λ (y : ℕ). y ≢ 10) b l solid))
    ∙ ap (with_first b) (lines_last l (All-tail (λ (y : ℕ). y ≢ 10) b l solid))
  where
    other : (b : ℕ) → b ≢ 10 → (b == 10) ≡ false
    other b h = grind (arith, Rattle.std.proofs.lemmas.Bool.Decides.nat_tests)

-- from a place on
all_from : (P : ℕ → Type 0) (text : List ℕ) (from end : ℕ) → from ≤ end → end ≤ length text → ((k : ℕ) → from ≤ k → k < end → P (get_or text k 0)) → All P (take (end - from) (drop from text))
all_from P text from end le within h k d below =
    let inside : k < end - from = omega (arith, below, length-take (end - from) (drop from text), length-drop from text) in
    subst P (sym (get_or-take (end - from) (drop from text) k d inside ∙ get_or-drop from text k d ∙ get_or_default text (from + k) d 0 (omega (arith, inside, within)))) (h (from + k) (omega arith) (omega (arith, inside)))

pub lines_at : (text : List ℕ) (from end : ℕ) → from ≤ end → end ≤ length text → ((k : ℕ) → from ≤ k → k < end → get_or text k 0 ≢ 10) → (end < length text → get_or text end 0 ≡ 10) → lines_of (drop from text) ≡ take (end - from) (drop from text) ∷ lines_behind text end
lines_at text from end le within inner ends = elim (cases_lt end (length text)) [
  | inl more ↦
      let split : drop from text ≡ take (end - from) (drop from text) ++ 10 ∷ drop (end + 1) text =
      sym (take-append-drop (end - from) (drop from text)) ∙ ap (λ (xs : List ℕ). take (end - from) (drop from text) ++ xs) (drop-drop-to from end text le ∙ drop_more text end 0 more ∙ ap (λ (b : ℕ). b ∷ drop (end + 1) text) (ends more)) in
      ap lines_of split ∙ lines_line (take (end - from) (drop from text)) (drop (end + 1) text) (all_from (λ b. b ≢ 10) text from end le within inner)
      ∙ ap (λ b. take (end - from) (drop from text) ∷ cond b (lines_of (drop (end + 1) text)) []) (sym (lt-true end (length text) more))
  | inr last ↦
      let whole : take (end - from) (drop from text) ≡ drop from text = take_all (end - from) (drop from text) (omega (arith, length-drop from text, last)) in
      ap lines_of (sym whole) ∙ lines_last (take (end - from) (drop from text)) (all_from (λ b. b ≢ 10) text from end le within inner)
      ∙ ap (λ b. take (end - from) (drop from text) ∷ cond b (lines_of (drop (end + 1) text)) []) (sym (lt-false end (length text) last))
]
  where
    drop-drop-to : (from end : ℕ) (text : List ℕ) → from ≤ end → drop (end - from) (drop from text) ≡ drop end text
    drop-drop-to from end text le = drop-drop (end - from) from text ∙ ap (λ n. drop n text) (omega arith)

    lt-true : (a b : ℕ) → a < b → nat_lt a b ≡ true
    lt-true a b h = grind (arith, Rattle.std.proofs.lemmas.Bool.Decides.nat_tests)

    lt-false : (a b : ℕ) → b ≤ a → nat_lt a b ≡ false
    lt-false a b h = grind (arith, Rattle.std.proofs.lemmas.Bool.Decides.nat_tests)

pub word_at : (line : List ℕ) (from end : ℕ) → from < end → end ≤ length line → ((k : ℕ) → from ≤ k → k < end → is_blank (get_or line k 0) ≡ false) → (end < length line → is_blank (get_or line end 0) ≡ true) → words_of (drop from line) ≡ take (end - from) (drop from line) ∷ words_of (drop end line)
word_at line from end lt within solid ends =
    let split : drop from line ≡ take (end - from) (drop from line) ++ drop end line =
    sym (take-append-drop (end - from) (drop from line)) ∙ ap (λ (xs : List ℕ). take (end - from) (drop from line) ++ xs) (drop-drop (end - from) from line ∙ ap (λ n. drop n line) (omega arith)) in
    ap words_of split ∙ words_word (take (end - from) (drop from line)) (drop end line) (omega (arith, length-take (end - from) (drop from line), length-drop from line)) (all_from (λ b. is_blank b ≡ false) line from end (omega arith) within solid) (blank_behind (cases_lt end (length line)))
  where
    blank_behind : (end < length line) ⊎ (length line ≤ end) → begins_blank (drop end line) ≡ true
    blank_behind (inl more) = ap begins_blank (drop_more line end 0 more) ∙ ends more
    blank_behind (inr past) = ap begins_blank (drop_all end line past)

-- a part, cut behind first
pub part_of_taken : (text : List ℕ) (from end : ℕ) → from ≤ end → drop from (take end text) ≡ take (end - from) (drop from text)
part_of_taken text from end le = ap (λ n. drop from (take n text)) (is_sum from end le) ∙ drop-take from (end - from) text
  where
    is_sum : (a b : ℕ) → a ≤ b → b ≡ a + (b - a)
    is_sum a b h = omega (arith, h)

pub take_of_taken : {X : Type 0} (n m : ℕ) (l : List X) → n ≤ m → take n (take m l) ≡ take n l
take_of_taken zero m l le = refl
take_of_taken (suc n) zero l le = absurd (omega (arith, le))
take_of_taken (suc n) (suc m) [] le = refl
take_of_taken {X} (suc n) (suc m) (x ∷ l) le = ap (λ (xs : List X). x ∷ xs) (take_of_taken n m l (omega (arith, le)))

pub word_of_taken : (text : List ℕ) (begin end most : ℕ) → begin ≤ end → end ≤ most → take (end - begin) (drop begin (take most text)) ≡ take (end - begin) (drop begin text)
word_of_taken text begin end most le within = ap (take (end - begin)) (part_of_taken text begin most (omega arith)) ∙ take_of_taken (end - begin) (most - begin) (drop begin text) (omega (arith, within))

module _ (text : List ℕ) (from end : ℕ) where
  comment_at : from < end → is_comment (take (end - from) (drop from text)) ≡ is_comment (take 1 (drop from text))
  comment_at lt = rw is_more (first_of_some (end - from - 1) (drop from text))
    where
      is_more : end - from ≡ suc (end - from - 1)
      is_more = omega arith

      first_of_some : (n : ℕ) (l : List ℕ) → is_comment (take (suc n) l) ≡ is_comment (take 1 l)
      first_of_some n [] = refl
      first_of_some n (b ∷ l) = refl

  first_byte : from < length text → is_comment (take 1 (drop from text)) ≡ (get_or text from 0 == 99)
  first_byte lt = rw (drop_more text from 0 lt) refl

  -- a comment has no words
  pub words_of_comment : from < end → end ≤ length text → get_or text from 0 ≡ 99 → words_in (take (end - from) (drop from text)) ≡ words_left text end end
  words_of_comment lt within is =
      ap (λ b. cond b [] (words_of (take (end - from) (drop from text)))) (comment_at lt ∙ first_byte (omega (arith, lt, within)) ∙ ap (λ n. n == 99) is)
      ∙ sym (ap words_of (drop_all end (take end text) (omega (arith, length-take end text))))

  -- each other line has its own
  pub words_of_other : from ≤ end → is_comment (take (end - from) (drop from text)) ≡ false → words_in (take (end - from) (drop from text)) ≡ words_left text from end
  words_of_other le is = ap (λ b. cond b [] (words_of (take (end - from) (drop from text)))) is ∙ sym (ap words_of (part_of_taken text from end le))

  pub no_comment : from < end → end ≤ length text → get_or text from 0 ≢ 99 → is_comment (take (end - from) (drop from text)) ≡ false
  no_comment lt within other = comment_at lt ∙ first_byte (omega (arith, lt, within)) ∙ apart (get_or text from 0) other
    where
      apart : (b : ℕ) → b ≢ 99 → (b == 99) ≡ false
      apart b h = grind (arith, Rattle.std.proofs.lemmas.Bool.Decides.nat_tests)

  pub no_comment_of_none : from ≡ end → is_comment (take (end - from) (drop from text)) ≡ false
  no_comment_of_none e = ap (λ n. is_comment (take n (drop from text))) none
    where
      none : end - from ≡ 0
      none = omega (arith, e)
