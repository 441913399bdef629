-- A caller's measure at a place in its body.
use Rattle.std.specs.Prelude.{ℕ, Bool, false, ◌&&◌, ◌||◌, List, Option, Some, None}
use Rattle.gl_logic.specs.Exp.{Exp, Exps}
use Rattle.gl_logic.specs.RecursiveCalls.{Fact}
use Rattle.gl_logic.specs.Definition.{MeasureParts, One, Two, measure_parts}
use Rattle.gl_logic.specs.declared.def.Measure.{Measure}
use Rattle.admission.specs.declared.caller.Caller.{Caller}
use Rattle.admission.specs.declared.caller.Caller.TheVariants as caller
use Rattle.admission.specs.Parts.{part_of, part_noted, part_below, part_steps, part_stays}

abbrev pub caller_by : MeasureParts → List ℕ → List Fact → Caller
caller_by (One m) bound fs = caller.One (part_of m bound fs)
caller_by (Two m k) bound fs = caller.Two (part_of m bound fs) (part_of k bound fs)

-- what the program keeps of it, below lets that bind these names and under these facts
abbrev pub caller_of : Option Measure → List ℕ → List Fact → Caller
caller_of None bound fs = caller.Unmeasured
caller_of (Some m) bound fs = caller_by (measure_parts m) bound fs

abbrev pub caller_noted : Exp → Bool → Caller → Caller
caller_noted t v caller.Unmeasured = caller.Unmeasured
caller_noted t v (caller.One p) = caller.One (part_noted t v p)
caller_noted t v (caller.Two p q) = caller.Two (part_noted t v p) (part_noted t v q)

abbrev pub caller_below : List ℕ → Caller → Caller
caller_below names caller.Unmeasured = caller.Unmeasured
caller_below names (caller.One p) = caller.One (part_below names p)
caller_below names (caller.Two p q) = caller.Two (part_below names p) (part_below names q)

-- a step to the callee's measure, whose formals these are
abbrev pub steps_by : Caller → MeasureParts → List ℕ → Exps → Bool
steps_by (caller.One p) (One k) formals actuals = part_steps p k formals actuals
steps_by (caller.Two p q) (Two k l) formals actuals = part_steps p k formals actuals || (part_stays p k formals actuals && part_steps q l formals actuals)
steps_by _ _ formals actuals = false

abbrev pub caller_steps : Caller → Option Measure → List ℕ → Exps → Bool
caller_steps c None formals actuals = false
caller_steps c (Some m) formals actuals = steps_by c (measure_parts m) formals actuals
