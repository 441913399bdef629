use Rattle.std.proofs.Common.{◌≡◌, drop}
use Rattle.gl_logic.specs.TermOf.{terms_of}
use Rattle.gl_translate.specs.Translation.{are_in}
use Rattle.event_world.specs.TheoremMeant.{have_only}
use Rattle.event_world.proofs.bound.+only.Given as goal

abbrev pub invariant-have_only-loop-term : goal.invariant-have_only-loop-term
invariant-have_only-loop-term l = record {
  same : l.bound ≡ l.initial.bound;
  told : have_only (are_in l.initial.bound) (terms_of (drop l.term-index l.terms)) ≡ have_only (are_in l.initial.bound) (terms_of l.terms);
}
