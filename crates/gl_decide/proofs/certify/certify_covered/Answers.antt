use Rattle.std.proofs.Common.{subst}
use Rattle.std.proofs.lemmas.Result.{IfOk-weaker}
use Rattle.gl_decide.specs.Bounds.{bounds_of}
use Rattle.gl_decide.specs.Certificates.{IsCertificate, unscanned}
use Rattle.cnf_rup.specs.Refutations.{IsRefutation}
use Rattle.shape_spec.specs.TheoremSeen.{theorem_seen}
use Rattle.gl_decide.specs.Verdicts.{IsProperVerdict}
use Rattle.gl_decide.proofs.Certified.{proved_holds, vacuous_holds}
use Rattle.gl_decide.proofs.certify.certify_covered.Goals as goal

pub returns-in-Proved-clause-book : goal.returns-in-Proved-clause-book
returns-in-Proved-clause-book c =
    let w = c.args.world.now in
    let thm = theorem_seen c.args.thm.now in
    let bounds = unscanned (bounds_of c.args.limits.now) in
    let proper = subst (IsProperVerdict w bounds thm) c.in-Proved.is c.decide_unscanned-verdict.ensures.proper in
    IfOk-weaker c.shown.result IsRefutation (IsCertificate w thm) (λ b r. record { covered = c.requires.covered; refutation = r; holds = proved_holds w bounds thm proper }) c.shown.ensures.book

pub returns-in-Vacuous-clause-book : goal.returns-in-Vacuous-clause-book
returns-in-Vacuous-clause-book c =
    let w = c.args.world.now in
    let thm = theorem_seen c.args.thm.now in
    let bounds = unscanned (bounds_of c.args.limits.now) in
    let proper = subst (IsProperVerdict w bounds thm) c.in-Vacuous.is c.decide_unscanned-verdict.ensures.proper in
    IfOk-weaker c.shown-in-Vacuous.result IsRefutation (IsCertificate w thm) (λ b r. record { covered = c.requires.covered; refutation = r; holds = vacuous_holds w bounds thm proper }) c.shown-in-Vacuous.ensures.book
