use Rattle.std.proofs.Common.{◌≡◌, ℕ, Bool, true}
use Rattle.std.proofs.lemmas.Result.{err_from_is_err_and}
use Rattle.sym_prims.proofs.Leaving.{cause_wider}
use Rattle.sym_prims.proofs.store_calls.avoid.Goals as goal

pub returns-in_err-reaches-clause-cause : goal.returns-in_err-reaches-clause-cause
returns-in_err-reaches-clause-cause g c =
    let p = err_from_is_err_and c.from_residual-in_err-reaches.result c.from_residual-in_err-reaches.ensures.1 in
    rw (p.1, p.2) (cause_wider g.B.Meaning c.reaches.new.objs c.args.path c.args.path (λ a. ⊥) (λ a. g.B.Meaning.truth_of c.args.objs.now.store c.args.over a ≡ true) _ (λ a t. t) (λ a t v. absurd v) (c.in_err-reaches.ensures.cause c.args.path))
