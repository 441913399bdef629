-- Pieces of numbers that follow one another.
use Rattle.std.specs.Prelude.{◌≡◌, ℕ, Bool, ◌||◌, List, [], ◌∷◌}
use Rattle.gl_logic.specs.WorldSeen.{WorldSeen}
use Rattle.shape_spec.specs.TheoremSeen.{TheoremSeen}
use Rattle.gl_decide.specs.Scans.{IsProperAmong}
use Rattle.gl_decide.specs.declared.piece.Piece.{Piece}
use Rattle.gl_decide.specs.declared.scanned.Scan.{Scan}
use Rattle.gl_decide.specs.declared.scanned.Scan.TheVariants as scan

-- each begins where the one before it ended
abbrev pub Follow : ℕ → List Piece → ℕ → Type 0
Follow first [] end = first ≡ end
Follow first (p ∷ ps) end = (p.first ≡ first) × Follow p.end ps end

-- what is found of a piece's numbers
abbrev pub IsProperOf : WorldSeen → ℕ → ℕ → TheoremSeen → Piece → Scan → Type 0
IsProperOf w steps cells thm p s = IsProperAmong w steps cells thm p.first p.end s

abbrev pub AreProper : WorldSeen → ℕ → ℕ → TheoremSeen → List Piece → List Scan → Type 0
AreProper w steps cells thm [] [] = Unit {0}
AreProper w steps cells thm (p ∷ ps) (s ∷ ss) = IsProperOf w steps cells thm p s × AreProper w steps cells thm ps ss
AreProper w steps cells thm _ _ = ⊥

-- the first answer that is not clean; where there is none, whether some input of some piece meets the hypothesis
abbrev pub joined_with : Bool → List Scan → Scan
joined_with met [] = scan.Clean met
joined_with met (scan.Clean m ∷ ss) = joined_with (met || m) ss
joined_with met (s ∷ ss) = s
