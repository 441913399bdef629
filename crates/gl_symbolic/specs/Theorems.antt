-- A theorem's parts, and its inputs by assignments.
use Rattle.std.specs.Prelude.{◌≡◌, ℕ, Bool, List, length}
use Rattle.gl_logic.specs.Assignments.{value_at}
use Rattle.gl_logic.specs.Object.{Object}
use Rattle.gl_logic.specs.Exp.{Exp}
use Rattle.gl_logic.specs.TermOf.{term_of}
use Rattle.gl_logic.specs.WorldSeen.{WorldSeen}
use Rattle.shape_spec.specs.Indices.{width_of}
use Rattle.shape_spec.specs.InputMeant.{input_meant}
use Rattle.shape_spec.specs.Theorems.{IsMet}
use Rattle.shape_spec.specs.declared.theorem.Part.{Part}
use Rattle.shape_spec.specs.declared.theorem.Part.TheVariants.{Hyp, Concl}
use Rattle.shape_spec.specs.declared.theorem.Thm.{Thm}

-- the term of a part, and how many definitions may be opened inside one another in it
abbrev pub term_at : Thm → Part → Exp
term_at thm Hyp = term_of thm.hyp
term_at thm Concl = term_of thm.concl

abbrev pub clock_at : Thm → Part → ℕ
clock_at thm Hyp = thm.hyp_clk
clock_at thm Concl = thm.concl_clk

-- the input of an assignment
abbrev pub input_under : Thm → (ℕ → Bool) → List (ℕ × Object)
input_under thm a = input_meant thm.bindings a

-- the part has a value on the input of the assignment, and it is not NIL
abbrev pub Meets : WorldSeen → Thm → Part → (ℕ → Bool) → Type 0
Meets w thm part a = IsMet w.definitions (term_at thm part) (input_under thm a)

-- the assignment has a truth value for each index, and its input is one for the part: for the conclusion it meets the hypothesis
abbrev pub IsOfPart : WorldSeen → Thm → Part → List Bool → Type 0
IsOfPart w thm Hyp a = length a ≡ width_of thm.bindings
IsOfPart w thm Concl a = (length a ≡ width_of thm.bindings) × Meets w thm Hyp (value_at a)
