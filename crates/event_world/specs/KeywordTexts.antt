-- The keywords that there are.
use Rattle.std.specs.Prelude.{ℕ, List, [], ◌∷◌, codes}
use Rattle.event_world.specs.declared.keyword_table.KeywordTable.{KeywordTable}
use Rattle.event_world.specs.declared.keyword_table.KeywordTable.TheVariants as table

-- of `xargs`
abbrev pub xargs_texts : List (List ℕ)
xargs_texts = codes ":MEASURE" ∷ codes ":GUARD" ∷ codes ":VERIFY-GUARDS" ∷ codes ":GUARD-HINTS" ∷ codes ":HINTS" ∷ codes ":NORMALIZE" ∷ []

-- of `def-gl-thm`; the last four are read and ignored
abbrev pub ignored_texts : List (List ℕ)
ignored_texts = codes ":RULE-CLASSES" ∷ codes ":COV-HINTS" ∷ codes ":COV-THEORY-ADD" ∷ codes ":DO-NOT-EXPAND" ∷ []

abbrev pub option_texts : List (List ℕ)
option_texts = codes ":HYP" ∷ codes ":CONCL" ∷ codes ":G-BINDINGS" ∷ codes ":HYP-CLK" ∷ codes ":CONCL-CLK" ∷ ignored_texts

-- of `def-gl-param-thm`
abbrev pub case_texts : List (List ℕ)
case_texts = codes ":HYP" ∷ codes ":CONCL" ∷ codes ":PARAM-HYP" ∷ codes ":PARAM-BINDINGS" ∷ codes ":COV-BINDINGS" ∷ codes ":HYP-CLK" ∷ codes ":CONCL-CLK" ∷ []

abbrev pub texts_of : KeywordTable → List (List ℕ)
texts_of table.Xargs = xargs_texts
texts_of table.Theorem = option_texts
texts_of table.ParamTheorem = case_texts
