use Rattle.std.proofs.Common.{◌∙◌, ap}
use Rattle.gl_book.specs.Cases.{outcomes_of}
use Rattle.gl_book.proofs.PartsDecided.{refuted_within, open_within}
use Rattle.gl_book.proofs.cases.whole_of.Goals as goal

pub case_at-requires-clause-some : goal.case_at-requires-clause-some
case_at-requires-clause-some c = (refuted_within c.outcome.result c.in-Ok.outcomes c.args.cases.items (c.in-Ok.ensures ∙ ap outcomes_of c.deref.ensures.value) c.in-Refuted.number c.in-Refuted.ensures.settled).0

pub case_at-requires-clause-within : goal.case_at-requires-clause-within
case_at-requires-clause-within c = (refuted_within c.outcome.result c.in-Ok.outcomes c.args.cases.items (c.in-Ok.ensures ∙ ap outcomes_of c.deref.ensures.value) c.in-Refuted.number c.in-Refuted.ensures.settled).1

pub case_at-requires-in-Case-clause-some : goal.case_at-requires-in-Case-clause-some
case_at-requires-in-Case-clause-some c = (open_within c.outcome.result c.in-Ok.outcomes c.args.cases.items (c.in-Ok.ensures ∙ ap outcomes_of c.deref.ensures.value) c.in-Case.number c.in-Case.ensures.settled).0

pub case_at-requires-in-Case-clause-within : goal.case_at-requires-in-Case-clause-within
case_at-requires-in-Case-clause-within c = (open_within c.outcome.result c.in-Ok.outcomes c.args.cases.items (c.in-Ok.ensures ∙ ap outcomes_of c.deref.ensures.value) c.in-Case.number c.in-Case.ensures.settled).1
