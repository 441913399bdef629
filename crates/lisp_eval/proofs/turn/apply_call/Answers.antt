use Rattle.std.proofs.Common.{subst, List}
use Rattle.hons_arena.specs.declared.id.Id.{Id}
use Rattle.lisp_eval.specs.Kept.{IsKnown}
use Rattle.lisp_eval.specs.declared.calls.Known.{Known}
use Rattle.lisp_eval.specs.declared.calls.Known.TheVariants as known
use Rattle.lisp_eval.proofs.Turning.{opens_tell}
use Rattle.lisp_eval.proofs.turn.apply_call.Goals as goal

pub returns : goal.returns
returns c =
    let fs = c.args.setting.now.functions.now in
    let entries = c.args.memos.now in
    let f = c.args.f.number in
    let at = subst (λ (k : Known). IsKnown fs entries (record { function = f; arguments = c.as_slice.result.now }) k) c.in-Opens.is c.in_ok-known.ensures in
    let call = subst (λ (xs : List Id). IsKnown fs entries (record { function = f; arguments = xs }) (known.Opens c.in-Opens.keep)) c.as_slice.ensures at in
    opens_tell c.args.setting.now.world.now.definitions fs f c.args.values.items entries c.in-Opens.keep c.args.frames.now.items c.open.new.frames.items c.open.result call c.open.ensures.next
