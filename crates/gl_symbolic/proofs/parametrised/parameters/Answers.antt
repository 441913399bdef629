use Rattle.std.proofs.Common.{◌≡◌, ◌∙◌, ap, sym, subst, ℕ, arith}
use Rattle.std.proofs.lemmas.Result.{IfOk-weaker}
use Rattle.bdd_store.specs.Nodes.{Diagrams}
use Rattle.bdd_store.specs.contracts.bits.BddMeaning.TheImpl as diagrams
use Rattle.bdd_param.specs.Images.{IsParametrised}
use Rattle.sym_prims.proofs.Leaving.{leaves_lent}
use Rattle.gl_symbolic.specs.Parameters.{Parametrises}
use Rattle.gl_symbolic.proofs.parametrised.parameters.Goals as goal

pub returns-clause-leaves : goal.returns-clause-leaves
returns-clause-leaves c = leaves_lent diagrams.ghosts c.args.objs.now c.store-store.result.now c.parametrise.new.store c.store-store.ensures.now c.requires.whole c.parametrise.ensures.grows (c.parametrise.ensures.width (omega (arith, c.width-width.ensures.width)))

pub returns-clause-vector : goal.returns-clause-vector
returns-clause-vector c = IfOk-weaker c.parametrise.result _ _ (λ v p. record {
  count = p.count ∙ c.width-width.ensures.width ∙ ap (λ (s : Diagrams). s.width) c.store-store.ensures.now;
  live = p.live;
  inside = p.inside;
  fixed = λ a t k within. p.fixed a t k (omega (arith, within, c.width-width.ensures.width, ap (λ (s : Diagrams). s.width) c.store-store.ensures.now));
}) c.parametrise.ensures.vector
