-- What a run that tells of a proof has written, by how it ended.
use Rattle.std.proofs.Common.{◌≡◌, ◌∙◌, sym, ap, subst, refl, inl, inr, arith, ℕ, List, [], ◌∷◌, ◌++◌, append-nil, length, take, Option}
use Rattle.std.specs.List.{concat}
use Rattle.std.proofs.lemmas.List.{take_all}
use Rattle.gl_base.specs.Outside.{Grows}
use Rattle.gl_base.specs.declared.status.Status.{Status}
use Rattle.gl_base.specs.declared.status.Status.TheVariants as status
use Rattle.sexp_reader.specs.Book.{IsBeyond}
use Rattle.book_shelf.specs.Flat.{most_bytes}
use Rattle.gl_decide.specs.Bounds.{Bounds}
use Rattle.gl_decide.specs.Stalls.{StallSeen}
use Rattle.gl_decide.specs.declared.verdict.Verdict.{Verdict}
use Rattle.gl_decide.specs.declared.verdict.Verdict.TheVariants as verdict
use Rattle.gl_book.specs.Entry.{Refused}
use Rattle.gl_book.specs.Transcript.{long, long_refusal}
use Rattle.gl.specs.Proving.{EndsProof, IsNotDue, TellsProof, WritesProof, none_due, shown, left_open, open_status}
use Rattle.gl_words.specs.declared.proof_part.ProofPart.{ProofPart}
use Rattle.gl.proofs.TextsTold.{some_text, told_so}

-- ---- statuses
-- one that is told
abbrev IsTold : Status → Type 0
IsTold status.Good = Unit {0}
IsTold status.Refuted = Unit {0}
IsTold status.Undecided = Unit {0}
IsTold status.NoMemory = Unit {0}
IsTold _ = ⊥

open_told : (v : Verdict) → IsTold (open_status v)
open_told verdict.Proved = tt
open_told verdict.Vacuous = tt
open_told (verdict.Refuted env) = tt
open_told (verdict.Uncovered v) = tt
open_told (verdict.Clock part env) = tt
open_told (verdict.Width part env) = tt
open_told (verdict.Steps part env) = tt
open_told (verdict.Cells part env) = tt
open_told (verdict.Nodes s) = tt
open_told (verdict.Clauses s) = tt
open_told verdict.Memory = tt

is_told : (bounds : Bounds) (part : ProofPart) (bytes : List ℕ) (lines : List (List ℕ)) (stalls : List StallSeen) (s : Status) → TellsProof bounds part bytes lines stalls s → IsTold s
is_told bounds part bytes _ _ _ (none_due h) = tt
is_told bounds part bytes _ _ _ (shown names w thm b due c) = tt
is_told bounds part bytes _ _ _ (left_open names w thm v due p o) = open_told v

-- ---- what is written
module _ (bounds : Bounds) (part : ProofPart) (bytes : List ℕ) (old new : Option (List ℕ)) (before after : List StallSeen) where
  ends_by : (lines : List (List ℕ)) (stalls : List StallSeen) (s : Status) → IsTold s → TellsProof bounds part bytes lines stalls s → Grows old new (concat lines) → after ≡ before ++ stalls
      → EndsProof bounds part bytes old new before after s
  ends_by lines stalls status.Good i t h e = (lines, stalls, t, h, e)
  ends_by lines stalls status.Refuted i t h e = (lines, stalls, t, h, e)
  ends_by lines stalls status.BookRefused i t h e = absurd i
  ends_by lines stalls status.Undecided i t h e = (lines, stalls, t, h, e)
  ends_by lines stalls status.ReadFault i t h e = absurd i
  ends_by lines stalls status.WriteFault i t h e = absurd i
  ends_by lines stalls status.NoMemory i t h e =
      let whole : take (length (concat lines)) (concat lines) ≡ concat lines = take_all (length (concat lines)) (concat lines) (omega arith) in
      let all : take (length stalls) stalls ≡ stalls = take_all (length stalls) stalls (omega arith) in
      inr (lines, stalls, status.NoMemory, length (concat lines), length stalls, t, subst (Grows old new) (sym whole) h, e ∙ ap (λ ss. before ++ ss) (sym all))
  ends_by lines stalls status.Usage i t h e = absurd i

  -- all was written
  pub all_written : (lines : List (List ℕ)) (stalls : List StallSeen) (s : Status) → TellsProof bounds part bytes lines stalls s → Grows old new (concat lines) → after ≡ before ++ stalls
      → EndsProof bounds part bytes old new before after s
  all_written lines stalls s t h e = ends_by lines stalls s (is_told bounds part bytes lines stalls s t) t h e

  -- a front was written
  pub front_written : (lines : List (List ℕ)) (stalls : List StallSeen) (s : Status) → TellsProof bounds part bytes lines stalls s → (n : ℕ) × Grows old new (take n (concat lines)) → after ≡ before ++ stalls
      → EndsProof bounds part bytes old new before after status.WriteFault
  front_written lines stalls s t h e =
      let all : take (length stalls) stalls ≡ stalls = take_all (length stalls) stalls (omega arith) in
      (lines, stalls, s, h.0, length stalls, t, h.1, e ∙ ap (λ ss. before ++ ss) (sym all))

-- so of lines that were made before
module _ (bounds : Bounds) (part : ProofPart) (bytes : List ℕ) (old new : Option (List ℕ)) (before after : List StallSeen) (lines : List (List ℕ)) (stalls : List StallSeen) (s : Status) where
  pub all_told : TellsProof bounds part bytes lines stalls s → {made : List (List ℕ)} → made ≡ lines → Grows old new (concat made) → after ≡ before ++ stalls → {t : Status} → t ≡ s
      → EndsProof bounds part bytes old new before after t
  all_told tells e g k is =
      subst (EndsProof bounds part bytes old new before after) (sym is) (all_written bounds part bytes old new before after lines stalls s tells (subst (λ (ls : List (List ℕ)). Grows old new (concat ls)) e g) k)

  pub front_told : TellsProof bounds part bytes lines stalls s → {made : List (List ℕ)} → made ≡ lines → (n : ℕ) × Grows old new (take n (concat made)) → after ≡ before ++ stalls
      → EndsProof bounds part bytes old new before after status.WriteFault
  front_told tells e g k =
      front_written bounds part bytes old new before after lines stalls s tells (g.0, subst (λ (ls : List (List ℕ)). Grows old new (take g.0 (concat ls))) e g.1) k

-- nothing was written for want of memory
pub nothing_written : (bounds : Bounds) (part : ProofPart) (bytes : List ℕ) (old new : Option (List ℕ)) (before after : List StallSeen) → new ≡ old → after ≡ before → EndsProof bounds part bytes old new before after status.NoMemory
nothing_written bounds part bytes old new before after e f = inl (e, f)

-- one text, without stalls
module _ (bounds : Bounds) (part : ProofPart) (bytes : List ℕ) (old new : Option (List ℕ)) (stalls : List StallSeen) (text : List ℕ) (s : Status) (t : TellsProof bounds part bytes (text ∷ []) [] s) where
  pub text_written : Grows old new text → EndsProof bounds part bytes old new stalls stalls s
  text_written h = all_written bounds part bytes old new stalls stalls (text ∷ []) [] s t (subst (Grows old new) (sym (append-nil text)) h) (sym (append-nil stalls))

  pub text_front_written : (n : ℕ) × Grows old new (take n text) → EndsProof bounds part bytes old new stalls stalls status.WriteFault
  text_front_written h =
      front_written bounds part bytes old new stalls stalls (text ∷ []) [] s t (h.0, subst (λ (bs : List ℕ). Grows old new (take h.0 bs)) (sym (append-nil text)) h.1) (sym (append-nil stalls))

-- ---- books
-- a text that is too long has no last theorem, by a table of any names
pub long_not_due : (bounds : Bounds) (bytes : List ℕ) (line column : ℕ) → IsBeyond most_bytes bytes line column → IsNotDue bounds bytes
long_not_due bounds bytes line column h = inl ([], record { entries = Refused (long_refusal line column) ∷ []; comes = long line column h; none = inl refl })

-- nothing was written of a book, for want of memory
pub unwritten : (bounds : Bounds) (part : ProofPart) (holds : List ℕ → Option (List ℕ)) (name : List ℕ) (old : Option (List ℕ)) (stalls : List StallSeen) → WritesProof bounds part holds name old old stalls stalls status.NoMemory
unwritten bounds part holds name old stalls =
    record { bytes = some_text (holds name); told = told_so (holds name); written = nothing_written bounds part (some_text (holds name)) old old stalls stalls refl refl }
