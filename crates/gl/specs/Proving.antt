-- What is told of a proof of the last theorem of a book, and what a run that tells it has written.
use Rattle.std.specs.Prelude.{◌≡◌, ◌⊎◌, ◌<◌, ℕ, List, [], ◌∷◌, ◌++◌, codes, Option, IfSome}
use Rattle.gl_base.specs.declared.status.Status.{Status}
use Rattle.gl_base.specs.declared.status.Status.TheVariants as status
use Rattle.gl_logic.specs.WorldSeen.{WorldSeen}
use Rattle.shape_spec.specs.Indices.{width_of}
use Rattle.shape_spec.specs.declared.theorem.Mode.TheVariants as mode
use Rattle.event_world.specs.EventSeen.{TheoremSeen}
use Rattle.cnf_rup.specs.Books.{BookSeen}
use Rattle.lrat_tool.specs.Written.{cnf_lines, log_lines}
use Rattle.gl_decide.specs.Bounds.{Bounds}
use Rattle.gl_decide.specs.Stalls.{StallSeen}
use Rattle.gl_decide.specs.Verdicts.{IsProperVerdict}
use Rattle.gl_decide.specs.Certificates.{IsCertificate, IsOpen, unscanned}
use Rattle.gl_decide.specs.declared.verdict.Verdict.{Verdict}
use Rattle.gl_decide.specs.declared.verdict.Verdict.TheVariants as verdict
use Rattle.gl_book.specs.Entry.{verdict_stalls}
use Rattle.gl_book.specs.Lines.{verdict_lines}
use Rattle.gl_book.specs.Lasts.{HasNone, IsLastOf}
use Rattle.gl_book.specs.Transcript.{EndsOrNothing}
use Rattle.gl_words.specs.declared.proof_part.ProofPart.{ProofPart}
use Rattle.gl_words.specs.declared.proof_part.ProofPart.TheVariants.{Cnf, Log}

-- ---- which theorems have a proof to be written
-- one that is decided by a search, over one index at least
abbrev pub IsSearched : TheoremSeen → Type 0
IsSearched thm = (thm.mode ≡ mode.Sat) × (0 < width_of thm.bindings)

-- by one walk over a text: its last theorem, which is decided so, with its world and the table that numbers the names of both
abbrev pub IsDue : List (List ℕ) → Bounds → List ℕ → WorldSeen → TheoremSeen → Type 0
IsDue names bounds bytes w thm = IsLastOf names bounds bytes w thm × IsSearched thm

-- by one walk over a text: it is too long or refused, or has no theorem, or its last one is not decided so
abbrev pub IsNotDue : Bounds → List ℕ → Type 0
IsNotDue bounds bytes =
    ((names : List (List ℕ)) × HasNone names bounds bytes) ⊎ ((names : List (List ℕ)) × (w : WorldSeen) × (thm : TheoremSeen) × IsLastOf names bounds bytes w thm × (IsSearched thm → ⊥))

-- ---- what is told
abbrev pub no_proof_line : List ℕ
no_proof_line = codes "NOPROOF" ++ 10 ∷ []

-- the text of a part
abbrev pub part_text : ProofPart → BookSeen → List ℕ
part_text Cnf b = cnf_lines b
part_text Log b = log_lines b

-- the status of a verdict that is neither proved nor vacuous
abbrev pub open_status : Verdict → Status
open_status (verdict.Refuted env) = status.Refuted
open_status verdict.Memory = status.NoMemory
open_status _ = status.Undecided

-- which lines, stalls and status belong together, of a part of a proof of a text's last theorem
pub data TellsProof (bounds : Bounds) (part : ProofPart) (bytes : List ℕ) : List (List ℕ) → List StallSeen → Status → Type 0 where
  -- none is due
  none_due : IsNotDue bounds bytes → TellsProof bounds part bytes (no_proof_line ∷ []) [] status.Undecided
  -- the text of that part, of a book that shows the theorem
  shown : (names : List (List ℕ)) (w : WorldSeen) (thm : TheoremSeen) (b : BookSeen) → IsDue names bounds bytes w thm → IsCertificate w thm b
      → TellsProof bounds part bytes (part_text part b ∷ []) [] status.Good
  -- or what the theorem comes to where no inputs are tried, neither proved nor vacuous
  left_open : (names : List (List ℕ)) (w : WorldSeen) (thm : TheoremSeen) (v : Verdict) → IsDue names bounds bytes w thm
      → IsProperVerdict w (unscanned bounds) thm v → IsOpen v → TellsProof bounds part bytes (verdict_lines names thm.name v) (verdict_stalls v) (open_status v)

-- ---- what is written
-- all that is told, with its stalls and its status; fronts of it where a write failed, and a front or nothing where memory was refused. No text is refused
abbrev pub EndsProof : Bounds → ProofPart → List ℕ → Option (List ℕ) → Option (List ℕ) → List StallSeen → List StallSeen → Status → Type 0
EndsProof bounds part bytes old new before after status.BookRefused = ⊥
EndsProof bounds part bytes old new before after s = EndsOrNothing (TellsProof bounds part bytes) old new before after s

-- of the book of this name on a shelf: what is written of some bytes, which are the shelf's where it tells them
pub record WritesProof (bounds : Bounds) (part : ProofPart) (holds : List ℕ → Option (List ℕ)) (name : List ℕ) (old new : Option (List ℕ)) (before after : List StallSeen) (s : Status) : Type 0 where
  pub bytes : List ℕ
  pub told : IfSome (holds name) (λ held. bytes ≡ held)
  pub written : EndsProof bounds part bytes old new before after s
