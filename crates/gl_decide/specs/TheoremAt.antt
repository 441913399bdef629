-- The parts of a theorem, and its inputs by the numbers of their assignments.
use Rattle.std.specs.Prelude.{ℕ, List}
use Rattle.gl_logic.specs.Object.{Object}
use Rattle.gl_logic.specs.Exp.{Exp}
use Rattle.shape_spec.specs.TheoremSeen.{TheoremSeen}
use Rattle.shape_spec.specs.InputMeant.{input_meant, assignment_numbered}
use Rattle.shape_spec.specs.declared.theorem.Part.{Part}
use Rattle.shape_spec.specs.declared.theorem.Part.TheVariants.{Hyp, Concl}

abbrev pub term_at : TheoremSeen → Part → Exp
term_at thm Hyp = thm.hyp
term_at thm Concl = thm.concl

abbrev pub clock_at : TheoremSeen → Part → ℕ
clock_at thm Hyp = thm.hyp_clk
clock_at thm Concl = thm.concl_clk

-- the input of the assignment of a number
abbrev pub input_at : TheoremSeen → ℕ → List (ℕ × Object)
input_at thm n = input_meant thm.bindings (assignment_numbered n)
