-- What leaves an event undecided, in words, each behind a blank.
use Rattle.std.specs.Prelude.{ℕ, List, [], ◌++◌, codes}
use Rattle.std.specs.Fmt.{decimal}
use Rattle.gl_book.specs.declared.cases.CasesVerdict.{CasesVerdict}
use Rattle.gl_book.specs.declared.cases.CasesVerdict.TheVariants as whole
use Rattle.gl_book.specs.declared.answer.Answer.{Answer}
use Rattle.gl_book.specs.declared.answer.Answer.TheVariants as answer
use Rattle.gl_book.specs.Lines.{open_words, cause_word}

-- of a theorem by cases: which part of it, and why
abbrev pub cases_words : List (List ℕ) → CasesVerdict → List ℕ
cases_words names (whole.Uncased env) = codes " uncased"
cases_words names (whole.Cover v) = codes " cover" ++ open_words names v
cases_words names (whole.Case i v) = codes " case " ++ (decimal i ++ open_words names v)
cases_words names _ = []

abbrev pub undecided_words : List (List ℕ) → Answer → List ℕ
undecided_words names (answer.Decided v) = open_words names v
undecided_words names (answer.ByCases v) = cases_words names v
undecided_words names (answer.Undecided c) = codes " " ++ cause_word c
undecided_words names _ = []
