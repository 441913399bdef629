-- Nested block comments, from one byte or two to the rest.
use Rattle.std.proofs.Common.{◌≡◌, ◌∙◌, sym, refl, ap, ℕ, zero, suc, ◌+◌, ◌-◌, ◌<◌, ◌≤◌, arith, Bool, true, false, cond, List, [], ◌∷◌, length, get_or, drop, Option, Some, None}
use Rattle.std.specs.Prelude.{◌==◌, ◌&&◌, option_map}
use Rattle.std.proofs.lemmas.List.{drop_more, length-drop}
use Rattle.sexp_reader.specs.Comments.{comment_rest}

-- the bytes that are read, and what the rest takes
abbrev pub further : ℕ → Option ℕ → Option ℕ
further more = option_map (λ k. more + k)

pub further_more : (a b : ℕ) (o : Option ℕ) → further a (further b o) ≡ further (a + b) o
further_more a b None = refl
further_more a b (Some k) = let e : a + (b + k) ≡ a + b + k = omega arith in ap (λ n. Some n) e

two_at : (xs : List ℕ) (i : ℕ) → i + 2 ≤ length xs → drop i xs ≡ get_or xs i 0 ∷ get_or xs (i + 1) 0 ∷ drop (i + 2) xs
two_at xs i h =
    let e : i + 1 + 1 ≡ i + 2 = omega arith in
    drop_more xs i 0 (omega arith) ∙ ap (λ l. get_or xs i 0 ∷ l) (drop_more xs (i + 1) 0 (omega arith) ∙ ap (λ k. get_or xs (i + 1) 0 ∷ drop k xs) e)

one_before : (n : ℕ) → suc n - 1 ≡ n
one_before n = omega arith

one_more : (n : ℕ) → n + 1 ≡ suc n
one_more n = omega arith

abbrev stand : List ℕ → ℕ → ℕ → ℕ → Bool
stand xs i first second = (get_or xs i 0 == first) && (get_or xs (i + 1) 0 == second)

module _ (xs : List ℕ) (i : ℕ) (whole : Option ℕ) where
  -- what the rest takes, less what is read
  abbrev left : ℕ → Option ℕ
  left n = further i (comment_rest (drop i xs) n)

  -- fewer than two bytes close nothing
  pub too_few : (n : ℕ) → 0 < n → length xs - i < 2 → left n ≡ whole → None ≡ whole
  too_few zero h k e = absurd (omega arith)
  too_few (suc n) h k e = sym (ap (further i) (by_few (drop i xs) (omega (arith, length-drop i xs)))) ∙ e where
    by_few : (ys : List ℕ) → length ys < 2 → comment_rest ys (suc n) ≡ None
    by_few [] l = refl
    by_few (b ∷ []) l = refl
    by_few (b ∷ c ∷ bs) l = absurd (omega arith)

  -- the next two bytes close a comment, or open one more, or neither
  abbrev chosen : Bool → Bool → ℕ → Option ℕ
  chosen close other n =
      cond close (further 2 (comment_rest (drop (i + 2) xs) n)) (cond other (further 2 (comment_rest (drop (i + 2) xs) (suc (suc n)))) (further 1 (comment_rest (get_or xs (i + 1) 0 ∷ drop (i + 2) xs) (suc n))))

  by_two : (n : ℕ) → i + 2 ≤ length xs → left (suc n) ≡ further i (chosen (stand xs i 124 35) (stand xs i 35 124) n)
  by_two n h = ap (λ l. further i (comment_rest l (suc n))) (two_at xs i h)

  pub closed : (n : ℕ) → 0 < n → i + 2 ≤ length xs → stand xs i 124 35 ≡ true → left n ≡ whole → further (i + 2) (comment_rest (drop (i + 2) xs) (n - 1)) ≡ whole
  closed zero h k e g = absurd (omega arith)
  closed (suc n) h k e g =
      ap (λ m. further (i + 2) (comment_rest (drop (i + 2) xs) m)) (one_before n)
      ∙ (sym (further_more i 2 (comment_rest (drop (i + 2) xs) n))
      ∙ (sym (ap (λ t. further i (chosen t (stand xs i 35 124) n)) e) ∙ (sym (by_two n k) ∙ g)))

  pub opened : (n : ℕ) → 0 < n → i + 2 ≤ length xs → stand xs i 124 35 ≡ false → stand xs i 35 124 ≡ true → left n ≡ whole → further (i + 2) (comment_rest (drop (i + 2) xs) (n + 1)) ≡ whole
  opened zero h k e f g = absurd (omega arith)
  opened (suc n) h k e f g =
      ap (λ m. further (i + 2) (comment_rest (drop (i + 2) xs) m)) (one_more (suc n))
      ∙ (sym (further_more i 2 (comment_rest (drop (i + 2) xs) (suc (suc n))))
      ∙ (sym (λ j. further i (chosen (e j) (f j) n)) ∙ (sym (by_two n k) ∙ g)))

  next_at : i + 2 ≤ length xs → drop (i + 1) xs ≡ get_or xs (i + 1) 0 ∷ drop (i + 2) xs
  next_at k = let e : i + 1 + 1 ≡ i + 2 = omega arith in drop_more xs (i + 1) 0 (omega arith) ∙ ap (λ m. get_or xs (i + 1) 0 ∷ drop m xs) e

  pub passed : (n : ℕ) → 0 < n → i + 2 ≤ length xs → stand xs i 124 35 ≡ false → stand xs i 35 124 ≡ false → left n ≡ whole → further (i + 1) (comment_rest (drop (i + 1) xs) n) ≡ whole
  passed zero h k e f g = absurd (omega arith)
  passed (suc n) h k e f g =
      sym (further_more i 1 (comment_rest (drop (i + 1) xs) (suc n)))
      ∙ (ap (λ l. further i (further 1 (comment_rest l (suc n)))) (next_at k)
      ∙ (sym (λ j. further i (chosen (e j) (f j) n)) ∙ (sym (by_two n k) ∙ g)))
