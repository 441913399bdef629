use Rattle.std.proofs.Common.{◌≡◌, drop}
use Rattle.gl_logic.specs.TermOf.{term_of}
use Rattle.admission.specs.Admitted.{first_formal, number_for_first, refused_alone}
use Rattle.admission.proofs.single_definition.default_measure.Given as goal

abbrev pub invariant-loop-i : goal.invariant-loop-i
invariant-loop-i l =
    let refused = refused_alone l.f.number l.formals (term_of l.body) in
    let number = number_for_first refused l.formals in
    first_formal refused number (drop l.i l.formals) ≡ first_formal refused number l.formals
