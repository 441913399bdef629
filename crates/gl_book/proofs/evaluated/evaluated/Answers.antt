use Rattle.std.proofs.Common.{sym, subst, List, []}
use Rattle.gl_logic.specs.TermOf.{term_of}
use Rattle.lisp_eval.specs.Answers.{IsLicensed}
use Rattle.lisp_eval.specs.States.{env_of}
use Rattle.lisp_eval.specs.declared.frame.Binding.{Binding}
use Rattle.gl_decide.specs.Bounds.{bounds_of}
use Rattle.gl_book.specs.Answers.{LacksValue}
use Rattle.gl_book.specs.declared.answer.Cause.{Cause}
use Rattle.gl_book.proofs.Refusals.{not_evaluated}
use Rattle.gl_book.proofs.evaluated.evaluated.Goals as goal

pub returns-clause-cause : goal.returns-clause-cause
returns-clause-cause c =
    let bounds = bounds_of c.args.limits.now in
    let w = c.args.world.now in
    let ms = c.args.memoized.now in
    let t = term_of c.args.term.now in
    let m = c.in_ok-machine.machine in
    let licensed : IsLicensed w m.functions [] t m.steps m.arena c.eval-2.result = subst (λ (e : List Binding). IsLicensed w m.functions (env_of m.arena.objects e) t m.steps m.arena c.eval-2.result) c.new.ensures c.eval-2.ensures.fault in
    subst (λ (k : Cause). LacksValue bounds w ms t k) (sym c.cause_of.ensures) (not_evaluated bounds w ms t m c.in_ok-machine.ensures.machine c.in-Err.fault c.eval-2.result c.in-Err.is licensed)
