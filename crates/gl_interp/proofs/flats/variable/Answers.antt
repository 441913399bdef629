use Rattle.std.proofs.Common.{sym, ◌∙◌, get_or, []}
use Rattle.sym_objects.specs.Seen.{stands_for}
use Rattle.gl_interp.specs.Environments.{env_under}
use Rattle.gl_interp.proofs.FlatTurns.{plain_var}
use Rattle.gl_interp.proofs.VisitTurns.{look_below, look_none, look_some}
use Rattle.gl_interp.proofs.flats.variable.Goals as goal

pub returns-in-Some-clause-live : goal.returns-in-Some-clause-live
returns-in-Some-clause-live g c = look_below _ _ _ _ (c.requires.look.below c.args.env.number) (sym c.in-Some.ensures)

pub returns-in-Some-clause-value : goal.returns-in-Some-clause-value
returns-in-Some-clause-value g c a =
    plain_var (env_under g.B.Meaning c.args.objs.now (get_or c.args.envs.now c.args.env.number []) a) c.args.name.number _
    (look_some (λ z. stands_for g.B.Meaning c.args.objs.now z a) (get_or c.args.envs.now c.args.env.number []) c.args.name.number c.in-Some.x (sym c.in-Some.ensures))

pub returns-in_ok-nil-in-None-clause-value : goal.returns-in_ok-nil-in-None-clause-value
returns-in_ok-nil-in-None-clause-value g c a =
    plain_var (env_under g.B.Meaning c.args.objs.now (get_or c.args.envs.now c.args.env.number []) a) c.args.name.number _
    (look_none (λ z. stands_for g.B.Meaning c.args.objs.now z a) (get_or c.args.envs.now c.args.env.number []) c.args.name.number (sym c.in-None.ensures) ∙ sym (c.in_ok-nil-in-None.ensures.means a))
