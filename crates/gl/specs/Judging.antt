-- What is said of a formula and a log on a shelf, and what a run that judges them has written.
use Rattle.std.specs.Prelude.{◌≡◌, ℕ, nat_lt, if◌then◌else◌, List, [], ◌∷◌, ◌++◌, length, take, codes, Option, IfSome}
use Rattle.std.specs.Fmt.{decimal}
use Rattle.gl_base.specs.Outside.{Grows}
use Rattle.gl_base.specs.declared.status.Status.{Status}
use Rattle.gl_base.specs.declared.status.Status.TheVariants as status
use Rattle.lrat_tool.specs.Formulas.{last_line}
use Rattle.lrat_tool.specs.Judgements.{judgement}
use Rattle.lrat_tool.specs.declared.judgement.Judgement.{Judgement}
use Rattle.lrat_tool.specs.declared.judgement.Judgement.TheVariants.{BadCnf, BadLog, Rat, NotShown, NoRefutation, Verified}

-- ---- what is said of two texts
-- the bytes that a text may have
abbrev pub most_text : ℕ
most_text = 67108864

-- the line of the byte behind those
abbrev pub line_behind : List ℕ → ℕ
line_behind text = last_line (take most_text text)

-- the first text that is too long is not of its form where the byte behind the limit stands; else the judgement
abbrev pub said_of : List ℕ → List ℕ → Judgement
said_of cnf log = if nat_lt most_text (length cnf) then BadCnf (line_behind cnf) else (if nat_lt most_text (length log) then BadLog (line_behind log) else judgement cnf log)

-- what is said of the texts of two names: the shelf's where it tells them
pub record IsSaid (holds : List ℕ → Option (List ℕ)) (cnf_name log_name : List ℕ) (said : Judgement) : Type 0 where
  pub cnf : List ℕ
  pub log : List ℕ
  pub cnf_told : IfSome (holds cnf_name) (λ bytes. cnf ≡ bytes)
  pub log_told : IfSome (holds log_name) (λ bytes. log ≡ bytes)
  pub is : said ≡ said_of cnf log

-- ---- the line, and the status
abbrev pub numbered_line : List ℕ → ℕ → List ℕ
numbered_line words n = words ++ (decimal n ++ 10 ∷ [])

abbrev pub judged_line : Judgement → List ℕ
judged_line (BadCnf n) = numbered_line (codes "BAD cnf ") n
judged_line (BadLog n) = numbered_line (codes "BAD log ") n
judged_line (Rat n) = numbered_line (codes "RAT ") n
judged_line (NotShown n) = numbered_line (codes "NOT SHOWN ") n
judged_line NoRefutation = codes "NO REFUTATION" ++ 10 ∷ []
judged_line Verified = codes "VERIFIED" ++ 10 ∷ []

abbrev pub line_status : Judgement → Status
line_status (BadCnf n) = status.BookRefused
line_status (BadLog n) = status.BookRefused
line_status (Rat n) = status.Undecided
line_status (NotShown n) = status.Refuted
line_status NoRefutation = status.Refuted
line_status Verified = status.Good

-- ---- what is written
-- the line of what is said, with its status; a front of it where a write failed, and nothing where memory was refused
abbrev pub WritesLine : (List ℕ → Option (List ℕ)) → List ℕ → List ℕ → Option (List ℕ) → Option (List ℕ) → Status → Type 0
WritesLine holds cnf log old new status.ReadFault = ⊥
WritesLine holds cnf log old new status.Usage = ⊥
WritesLine holds cnf log old new status.NoMemory = new ≡ old
WritesLine holds cnf log old new status.WriteFault = (said : Judgement) × (n : ℕ) × IsSaid holds cnf log said × Grows old new (take n (judged_line said))
WritesLine holds cnf log old new s = (said : Judgement) × IsSaid holds cnf log said × Grows old new (judged_line said) × (s ≡ line_status said)
