-- Where lines and words stand in a text.
use Rattle.std.specs.Prelude.{ℕ, ◌≤◌, ◌+◌, ◌-◌, List, take, drop}
use Rattle.lrat_tool.specs.Words.{words_left}
use Rattle.lrat_tool.specs.declared.lines.Line.{Line}
use Rattle.lrat_tool.specs.declared.lines.Span.{Span}

-- the line of a text of so many bytes; each line before it has a byte at least
abbrev pub IsLineIn : Line → ℕ → Type 0
IsLineIn l most = (l.begin ≤ l.end) × (l.end ≤ most) × (l.number ≤ l.end + 1)

abbrev pub IsSpanIn : Span → ℕ → Type 0
IsSpanIn s most = (s.begin ≤ s.end) × (s.end ≤ most)

abbrev pub word_of : List ℕ → Span → List ℕ
word_of text s = take (s.end - s.begin) (drop s.begin text)

-- the words of a line that are not read yet
abbrev pub rest_of : List ℕ → Line → List (List ℕ)
rest_of text l = words_left text l.begin l.end
