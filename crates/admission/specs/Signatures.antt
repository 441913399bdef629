-- What a caller sees of a clique's members.
use Rattle.std.specs.Prelude.{ℕ, ◌-◌, ltb, if◌then◌else◌, List, Option, None, slice_get}
use Rattle.gl_logic.specs.Definition.{Definition}
use Rattle.gl_logic.specs.declared.def.Measure.{Measure}
use Rattle.admission.specs.declared.member.Member.{Member}

-- the formals and the measure
abbrev pub Signature : Type 0
Signature = List ℕ × Option Measure

abbrev pub signature_of : Member → Signature
signature_of m = (m.formals.now, m.measure)

abbrev pub signature : Definition → Signature
signature d = (d.formals, d.measure)

-- of definition f, where it is one of the members, which are numbered from `first`
abbrev pub signature_at : ℕ → List Signature → ℕ → Option Signature
signature_at first signatures f = if ltb f first then None else slice_get signatures (f - first)
