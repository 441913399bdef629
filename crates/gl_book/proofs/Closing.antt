-- The entries that end a book, their lines and the status.
use Rattle.std.proofs.Common.{◌≡◌, ◌∙◌, ap, sym, refl, ℕ, ◌+◌, List, [], ◌∷◌, ◌++◌, true, false, Bool, cond, Option, Some, None, append-nil, arith}
use Rattle.std.specs.Prelude.{count_by, ◌||◌}
use Rattle.std.specs.List.{flat_map, list_any}
use Rattle.std.proofs.lemmas.List.Sums.{sum_by-append, sum_by-cons}
use Rattle.std.proofs.lemmas.List.Folds.{list_any-append}
use Rattle.gl_base.specs.declared.status.Status.TheVariants as status
use Rattle.book_shelf.specs.declared.item.Mark.{Mark}
use Rattle.event_world.specs.EventSeen.{EventSeen}
use Rattle.gl_book.specs.Entry.{Entry, Answered, Marked, Refused}
use Rattle.gl_book.specs.Lines.{entry_lines, done_line, is_answer, is_proved, is_vacuous, is_refuted, is_undecided, is_failed, counts_of, is_refusal, status_by, status_of}
use Rattle.gl_book.specs.Stops.{one_more, counts_with, closing, closing_lines, closing_status}
use Rattle.gl_book.specs.declared.answer.Answer.{Answer}
use Rattle.gl_book.specs.declared.refusal.Refusal.{Refusal}

-- ---- counts
one_last : (b : Bool) (n m : ℕ) → m ≡ cond b 1 0 + 0 → n + m ≡ one_more b n
one_last true n m e = omega (arith, e)
one_last false n m e = omega (arith, e)

count_more : (p : Entry → Bool) (xs : List Entry) (y : Entry) → count_by p (xs ++ y ∷ []) ≡ one_more (p y) (count_by p xs)
count_more p xs y =
    let f : Entry → ℕ = λ x. cond (p x) 1 0 in
    sum_by-append f xs (y ∷ []) ∙ one_last (p y) (count_by p xs) (count_by p (y ∷ [])) (sum_by-cons f y [])

module _ (done : List Entry) where
  pub counts_more : (e : EventSeen) (a : Answer) → counts_with (counts_of done) a ≡ counts_of (done ++ Answered e a ∷ [])
  counts_more e a = rw (count_more (is_answer is_proved) done (Answered e a), count_more (is_answer is_vacuous) done (Answered e a), count_more (is_answer is_refuted) done (Answered e a), count_more (is_answer is_undecided) done (Answered e a), count_more (is_answer is_failed) done (Answered e a)) refl

  pub counts_marked : (m : Mark) → counts_of (done ++ Marked m ∷ []) ≡ counts_of done
  counts_marked m = rw (count_more (is_answer is_proved) done (Marked m), count_more (is_answer is_vacuous) done (Marked m), count_more (is_answer is_refuted) done (Marked m), count_more (is_answer is_undecided) done (Marked m), count_more (is_answer is_failed) done (Marked m)) refl

  pub counts_refused : (r : Refusal) → counts_of (done ++ Refused r ∷ []) ≡ counts_of done
  counts_refused r = rw (count_more (is_answer is_proved) done (Refused r), count_more (is_answer is_vacuous) done (Refused r), count_more (is_answer is_refuted) done (Refused r), count_more (is_answer is_undecided) done (Refused r), count_more (is_answer is_failed) done (Refused r)) refl

-- ---- the end
module _ (names : List (List ℕ)) (done : List Entry) where
  pub lines_that_close : (r : Option Refusal) → flat_map (entry_lines names) (closing r) ++ done_line (counts_of (done ++ closing r)) ∷ [] ≡ closing_lines (counts_of done) r
  lines_that_close None = ap (λ xs. done_line (counts_of xs) ∷ []) (append-nil done)
  lines_that_close (Some r) = ap (λ c. flat_map (entry_lines names) (Refused r ∷ []) ++ done_line c ∷ []) (counts_refused done r)

  pub status_that_closes : list_any is_refusal done ≡ false → (r : Option Refusal) → closing_status (counts_of done) r ≡ status_of (done ++ closing r)
  status_that_closes none None =
      ap (λ b. cond b status.BookRefused (status_by (counts_of done))) (sym none) ∙ ap status_of (sym (append-nil done))
  status_that_closes none (Some r) =
      let some : list_any is_refusal (done ++ Refused r ∷ []) ≡ true = list_any-append is_refusal done (Refused r ∷ []) ∙ ap (λ b. b || true) none in
      ap (λ b. cond b status.BookRefused (status_by (counts_of (done ++ Refused r ∷ [])))) (sym some)

pub still_answered : (done : List Entry) (e : EventSeen) (a : Answer) → list_any is_refusal done ≡ false → list_any is_refusal (done ++ Answered e a ∷ []) ≡ false
still_answered done e a none = list_any-append is_refusal done (Answered e a ∷ []) ∙ ap (λ b. b || false) none

pub still_unrefused : (done : List Entry) (m : Mark) → list_any is_refusal done ≡ false → list_any is_refusal (done ++ Marked m ∷ []) ≡ false
still_unrefused done m none = list_any-append is_refusal done (Marked m ∷ []) ∙ ap (λ b. b || false) none
