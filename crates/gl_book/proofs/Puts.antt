-- The lines, stalls and counts of the answers of a phase, one answer after the other.
use Rattle.std.proofs.Common.{◌≡◌, ◌∙◌, ap, sym, ℕ, zero, suc, ◌+◌, ◌<◌, ◌≤◌, List, [], ◌∷◌, ◌++◌, length, take, drop, append_assoc, append-nil, Bool, true, false, Option, Some, slice_get, Result, Ok, Err, arith}
use Rattle.std.specs.Prelude.{OnErr, OnOk}
use Rattle.std.specs.List.{flat_map}
use Rattle.std.proofs.Math.Seq.{take-append_seam}
use Rattle.std.proofs.lemmas.List.{take-append-drop}
use Rattle.std.proofs.lemmas.List.Concat.{flat_map-append}
use Rattle.gl_base.specs.Outside.{Grows}
use Rattle.gl_base.proofs.Growth.{grows-then}
use Rattle.gl_decide.specs.Stalls.{StallSeen}
use Rattle.gl_book.specs.Courses.{HasRoomFor, job_lines, phase_lines, counts_after}
use Rattle.gl_book.specs.Entry.{stalls_of}
use Rattle.gl_book.specs.Lines.{is_failed, is_proved, is_refuted, is_undecided, is_vacuous}
use Rattle.gl_book.specs.Phases.{JobSeen}
use Rattle.gl_book.specs.Stops.{HasRoom, KeepsFront, counts_with, one_more, told_before}
use Rattle.gl_book.specs.declared.answer.Answer.{Answer}
use Rattle.gl_book.specs.declared.counts.Counts.{Counts}
use Rattle.gl_book.proofs.Phases.{take_next}
use Rattle.gl_book.proofs.Told.{front_of, front_then, grows_is, told_before_split}

-- ---- two pieces
module _ (a b c : Option (List ℕ)) (xs ys : List ℕ) where
  -- a front of the first, and nothing of the second
  pub front_first : (n : ℕ) × Grows a b (take n xs) → (n : ℕ) × Grows a b (take n (xs ++ ys))
  front_first h =
      let is : xs ++ ys ≡ take h.0 xs ++ (drop h.0 xs ++ ys) = ap (λ zs. zs ++ ys) (sym (take-append-drop h.0 xs)) ∙ append_assoc (take h.0 xs) (drop h.0 xs) ys in
      front_of a b (xs ++ ys) (take h.0 xs) (drop h.0 xs ++ ys) is h.1

  -- the first, and a front of the second
  pub front_second : Grows a b xs → (n : ℕ) × Grows b c (take n ys) → (n : ℕ) × Grows a c (take n (xs ++ ys))
  front_second g h = front_then a b c (xs ++ ys) xs ys [] (ap (λ zs. xs ++ zs) (sym (append-nil ys))) g h

-- ---- one answer more
module _ (names : List (List ℕ)) where
  pub lines_more : (js : List JobSeen) (given : List Answer) (i : ℕ) (j : JobSeen) (a : Answer) → slice_get js i ≡ Some j → slice_get given i ≡ Some a
      → phase_lines names (take (i + 1) js) (take (i + 1) given) ≡ phase_lines names (take i js) (take i given) ++ job_lines names j a
  lines_more [] given i j a e f = absurd cc
  lines_more (k ∷ js) [] i j a e f = absurd cc
  lines_more (k ∷ js) (b ∷ given) zero j a e f =
      let s : k ≡ j = cc in
      let t : b ≡ a = cc in
      (λ i. job_lines names (s i) (t i) ++ []) ∙ append-nil (job_lines names j a)
  lines_more (k ∷ js) (b ∷ given) (suc i) j a e f =
      let n : suc i + 1 ≡ suc (i + 1) = omega arith in
      ap (λ m. phase_lines names (take m (k ∷ js)) (take m (b ∷ given))) n ∙ (ap (λ ls. job_lines names k b ++ ls) (lines_more js given i j a e f) ∙ sym (append_assoc (job_lines names k b) (phase_lines names (take i js) (take i given)) (job_lines names j a)))

  pub lines_apart : (js : List JobSeen) (given : List Answer) (i : ℕ) (j : JobSeen) (a : Answer) → slice_get js i ≡ Some j → slice_get given i ≡ Some a
      → phase_lines names js given ≡ phase_lines names (take i js) (take i given) ++ (job_lines names j a ++ phase_lines names (drop (suc i) js) (drop (suc i) given))
  lines_apart [] given i j a e f = absurd cc
  lines_apart (k ∷ js) [] i j a e f = absurd cc
  lines_apart (k ∷ js) (b ∷ given) zero j a e f =
      let s : k ≡ j = cc in
      let t : b ≡ a = cc in
      λ i. job_lines names (s i) (t i) ++ phase_lines names js given
  lines_apart (k ∷ js) (b ∷ given) (suc i) j a e f =
      ap (λ ls. job_lines names k b ++ ls) (lines_apart js given i j a e f) ∙ sym (append_assoc (job_lines names k b) (phase_lines names (take i js) (take i given)) (job_lines names j a ++ phase_lines names (drop (suc i) js) (drop (suc i) given)))

  -- what is written of so many answers, and then the lines of the next
  module _ (last : Bool) (js : List JobSeen) (given : List Answer) (i : ℕ) (j : JobSeen) (a : Answer) (at : slice_get js i ≡ Some j) (answered : slice_get given i ≡ Some a) where
    abbrev before : List ℕ
    before = told_before last (phase_lines names (take i js) (take i given))

    abbrev here : List ℕ
    here = told_before last (job_lines names j a)

    pub writes_more : (old mid new : Option (List ℕ)) → Grows old mid before → Grows mid new here → Grows old new (told_before last (phase_lines names (take (i + 1) js) (take (i + 1) given)))
    writes_more old mid new g h =
        grows_is old new _ _ (grows-then old mid new before here g h)
        (sym (told_before_split last (phase_lines names (take i js) (take i given)) (job_lines names j a)) ∙ ap (told_before last) (sym (lines_more js given i j a at answered)))

    pub writes_front : (old mid new : Option (List ℕ)) → Grows old mid before → (n : ℕ) × Grows mid new (take n here) → (n : ℕ) × Grows old new (take n (told_before last (phase_lines names js given)))
    writes_front old mid new g h =
        let rest = phase_lines names (drop (suc i) js) (drop (suc i) given) in
        let whole : told_before last (phase_lines names js given) ≡ before ++ (here ++ told_before last rest) =
        ap (told_before last) (lines_apart js given i j a at answered)
        ∙ (told_before_split last (phase_lines names (take i js) (take i given)) (job_lines names j a ++ rest)
        ∙ ap (λ bs. before ++ bs) (told_before_split last (job_lines names j a) rest)) in
        front_then old mid new (told_before last (phase_lines names js given)) before here (told_before last rest) whole g h

pub counts_next : (counts : Counts) (given : List Answer) (i : ℕ) (a : Answer) → slice_get given i ≡ Some a → counts_after counts (take (i + 1) given) ≡ counts_with (counts_after counts (take i given)) a
counts_next counts [] i a e = absurd cc
counts_next counts (b ∷ given) zero a e = let s : b ≡ a = cc in ap (counts_with counts) s
counts_next counts (b ∷ given) (suc i) a e = let n : suc i + 1 ≡ suc (i + 1) = omega arith in ap (λ m. counts_after counts (take m (b ∷ given))) n ∙ counts_next (counts_with counts b) given i a e

pub stalls_next : (given : List Answer) (i : ℕ) (a : Answer) → slice_get given i ≡ Some a → flat_map stalls_of (take (i + 1) given) ≡ flat_map stalls_of (take i given) ++ stalls_of a
stalls_next given i a e = ap (flat_map stalls_of) (take_next given i a e) ∙ (flat_map-append stalls_of (take i given) (a ∷ []) ∙ ap (λ ss. flat_map stalls_of (take i given) ++ ss) (append-nil (stalls_of a)))

-- the stalls of so many answers, and a front of the next one's, are a front of all
pub stalls_front : (given : List Answer) (i : ℕ) (a : Answer) (before mid now : List StallSeen) → slice_get given i ≡ Some a → mid ≡ before ++ flat_map stalls_of (take i given) → KeepsFront (stalls_of a) mid now → KeepsFront (flat_map stalls_of given) before now
stalls_front given i a before mid now at e k =
    let xs = flat_map stalls_of (take i given) in
    let ys = stalls_of a in
    let zs = flat_map stalls_of (drop (i + 1) given) in
    let front = xs ++ take k.0 ys in
    let whole : flat_map stalls_of given ≡ (xs ++ ys) ++ zs =
    ap (flat_map stalls_of) (sym (take-append-drop (i + 1) given)) ∙ (flat_map-append stalls_of (take (i + 1) given) (drop (i + 1) given) ∙ ap (λ ss. ss ++ zs) (stalls_next given i a at)) in
    let apart : flat_map stalls_of given ≡ front ++ (drop k.0 ys ++ zs) =
    whole ∙ (append_assoc xs ys zs ∙ (ap (λ ss. xs ++ (ss ++ zs)) (sym (take-append-drop k.0 ys)) ∙ (ap (λ ss. xs ++ ss) (append_assoc (take k.0 ys) (drop k.0 ys) zs) ∙ sym (append_assoc xs (take k.0 ys) (drop k.0 ys ++ zs))))) in
    (length front, k.1 ∙ (ap (λ ss. ss ++ take k.0 ys) e ∙ (append_assoc before xs (take k.0 ys) ∙ ap (λ ss. before ++ ss) (sym (ap (take (length front)) apart ∙ take-append_seam front (drop k.0 ys ++ zs))))))

pub stalls_more : (given : List Answer) (i : ℕ) (a : Answer) (before mid now : List StallSeen) → slice_get given i ≡ Some a → mid ≡ before ++ flat_map stalls_of (take i given) → now ≡ mid ++ stalls_of a → now ≡ before ++ flat_map stalls_of (take (i + 1) given)
stalls_more given i a before mid now at e k =
    k ∙ (ap (λ ss. ss ++ stalls_of a) e ∙ (append_assoc before (flat_map stalls_of (take i given)) (stalls_of a) ∙ ap (λ ss. before ++ ss) (sym (stalls_next given i a at))))

-- ---- what is left of a list
pub get_of_drop : {A : Type 0} (xs : List A) (i : ℕ) (x : A) (ys : List A) → drop i xs ≡ x ∷ ys → slice_get xs i ≡ Some x
get_of_drop [] zero x ys e = absurd cc
get_of_drop [] (suc i) x ys e = absurd cc
get_of_drop (z ∷ xs) zero x ys e = let s : z ≡ x = cc in ap Some s
get_of_drop (z ∷ xs) (suc i) x ys e = get_of_drop xs i x ys e

pub rest_of_drop : {A : Type 0} (xs : List A) (i : ℕ) (x : A) (ys : List A) → drop i xs ≡ x ∷ ys → ys ≡ drop (i + 1) xs
rest_of_drop [] zero x ys e = absurd cc
rest_of_drop [] (suc i) x ys e = absurd cc
rest_of_drop (z ∷ xs) zero x ys e = let s : xs ≡ ys = cc in sym s
rest_of_drop (z ∷ xs) (suc i) x ys e = let n : suc i + 1 ≡ suc (i + 1) = omega arith in rest_of_drop xs i x ys e ∙ sym (ap (λ m. drop m (z ∷ xs)) n)

-- ---- results
pub ok_then : {T E P Q : Type 0} (r : Result T E) → OnOk r P → (P → Q) → OnOk r Q
ok_then (Ok x) p f = f p
ok_then (Err e) p f = tt

pub err_then : {T E P Q : Type 0} (r : Result T E) → OnErr r P → (P → Q) → OnErr r Q
err_then (Ok x) p f = tt
err_then (Err e) p f = f p

-- ---- room
one_more_most : (b : Bool) (n m : ℕ) → n ≤ m → one_more b n ≤ m + 1
one_more_most true n m h = omega (arith, h)
one_more_most false n m h = omega (arith, h)

pub room_for_next : (n : ℕ) (counts : Counts) (a : Answer) → HasRoomFor (suc n) counts → HasRoomFor n (counts_with counts a)
room_for_next n counts a h = record {
  proved = let k = h.proved in let m = one_more_most (is_proved a) counts.proved counts.proved (omega arith) in omega (arith, k, m);
  vacuous = let k = h.vacuous in let m = one_more_most (is_vacuous a) counts.vacuous counts.vacuous (omega arith) in omega (arith, k, m);
  refuted = let k = h.refuted in let m = one_more_most (is_refuted a) counts.refuted counts.refuted (omega arith) in omega (arith, k, m);
  undecided = let k = h.undecided in let m = one_more_most (is_undecided a) counts.undecided counts.undecided (omega arith) in omega (arith, k, m);
  failed = let k = h.failed in let m = one_more_most (is_failed a) counts.failed counts.failed (omega arith) in omega (arith, k, m);
}

pub room_after : (n i : ℕ) (counts : Counts) (given : List Answer) → i < n → length given ≡ n → HasRoomFor n counts → HasRoom (counts_after counts (take i given))
room_after zero i counts given l e h = absurd (omega (arith, l))
room_after (suc n) zero counts given l e h = record_room (suc n) counts (omega arith) h
  where
    record_room : (n : ℕ) (counts : Counts) → 0 < n → HasRoomFor n counts → HasRoom counts
    record_room n counts l h = (
      (let k = h.proved in omega (arith, k, l)),
      (let k = h.vacuous in omega (arith, k, l)),
      (let k = h.refuted in omega (arith, k, l)),
      (let k = h.undecided in omega (arith, k, l)),
      let k = h.failed in omega (arith, k, l),
    )
room_after (suc n) (suc i) counts [] l e h = absurd (omega (arith, e))
room_after (suc n) (suc i) counts (a ∷ given) l e h = room_after n i (counts_with counts a) given (omega (arith, l)) (omega (arith, e)) (room_for_next n counts a h)
