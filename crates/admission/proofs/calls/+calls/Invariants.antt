use Rattle.std.proofs.Common.{◌≡◌, drop, map}
use Rattle.gl_logic.specs.TermOf.{terms_of}
use Rattle.admission.specs.Signatures.{signature_of, signature_at}
use Rattle.admission.specs.Numbers.{behind_all}
use Rattle.admission.proofs.calls.+calls.Given as goal

abbrev pub invariant-calls_in_all-loop-term : goal.invariant-calls_in_all-loop-term
invariant-calls_in_all-loop-term l =
    behind_all (signature_at l.first (map signature_of l.members)) (terms_of (drop l.term-index l.terms)) l.caller l.reached
    ≡ behind_all (signature_at l.first (map signature_of l.members)) (terms_of l.terms) l.caller l.next
