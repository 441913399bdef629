-- What is decided before a book is run: where it is refused, and which terms get their values.
use Rattle.std.specs.Prelude.{◌≡◌, ℕ, suc, ◌<◌, List, [], ◌∷◌, Option, Some, None}
use Rattle.gl_logic.specs.Exp.{Exp}
use Rattle.gl_logic.specs.WorldSeen.{WorldSeen}
use Rattle.gl_decide.specs.Bounds.{Bounds}
use Rattle.gl_decide.specs.Causes.{IsOutOfWidth, IsOutOfSteps, IsOutOfCells}
use Rattle.gl_book.specs.Entry.{Entry, Answered, Marked, Refused}
use Rattle.gl_book.specs.declared.answer.Answer.{Answer}
use Rattle.gl_book.specs.declared.answer.Answer.TheVariants as answer
use Rattle.gl_book.specs.declared.answer.Cause.TheVariants as cause
use Rattle.gl_book.specs.declared.refusal.Refusal.{Refusal}
use Rattle.gl_book.specs.declared.refusal.RefusalCode.{RefusalCode}
use Rattle.gl_book.specs.declared.refusal.RefusalCode.TheVariants as code

-- ---- refusals
-- the refusal that ends a book, where one does
abbrev pub refusal_in : List Entry → Option Refusal
refusal_in [] = None
refusal_in (Answered event answer ∷ entries) = refusal_in entries
refusal_in (Marked mark ∷ entries) = refusal_in entries
refusal_in (Refused refusal ∷ entries) = Some refusal

abbrev pub IsConstantCode : RefusalCode → Type 0
IsConstantCode (code.Constant why) = Unit {0}
IsConstantCode _ = ⊥

-- a constant without a value, which a limit may decide
abbrev pub IsOfConstant : Option Refusal → Type 0
IsOfConstant (Some refusal) = IsConstantCode refusal.code
IsOfConstant None = ⊥

-- how many forms and marks come before the refusal, or before the end
abbrev pub accepted : List Entry → ℕ
accepted [] = 0
accepted (Answered event answer ∷ entries) = suc (accepted entries)
accepted (Marked mark ∷ entries) = suc (accepted entries)
accepted (Refused refusal ∷ entries) = 0

-- what comes of one book twice, each time by limits of its own, is refused alike up to the first constant without a value
pub record AreRefusedAlike (xs ys : List Entry) : Type 0 where
  -- where neither ends with a constant without a value, both are refused at one place with one code, or neither is
  pub same : ¬ IsOfConstant (refusal_in xs) → ¬ IsOfConstant (refusal_in ys) → refusal_in xs ≡ refusal_in ys
  -- where one alone does, the other accepts that form and all before it
  pub left : IsOfConstant (refusal_in xs) → ¬ IsOfConstant (refusal_in ys) → accepted xs < accepted ys
  pub right : IsOfConstant (refusal_in ys) → ¬ IsOfConstant (refusal_in xs) → accepted ys < accepted xs

-- ---- values
-- a term without variables stays within 128 bits, the steps and the cells
pub record StaysWithin (w : WorldSeen) (bounds : Bounds) (memoized : List ℕ) (t : Exp) : Type 0 where
  pub width : ¬ IsOutOfWidth w [] t
  pub steps : ¬ IsOutOfSteps w memoized bounds.steps [] t
  pub cells : ¬ IsOutOfCells w bounds.cells [] t

-- a value or a truth is there, or memory was refused
abbrev pub IsFound : Answer → Type 0
IsFound (answer.Value x) = Unit {0}
IsFound (answer.Truth b) = Unit {0}
IsFound (answer.Undecided cause.Memory) = Unit {0}
IsFound _ = ⊥
