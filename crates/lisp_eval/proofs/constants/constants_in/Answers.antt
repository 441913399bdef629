use Rattle.std.proofs.Common.{◌∙◌, ap, sym, ℕ, [], ◌∷◌, ◌++◌, map, Bor}
use Rattle.gl_logic.specs.Object.{Object}
use Rattle.gl_logic.proofs.CellCounts.{take_next}
use Rattle.lisp_eval.proofs.PlacedConstants.{map-push}
use Rattle.lisp_eval.proofs.constants.constants_in.Goals as goal

pub loop-i-preserved : goal.loop-i-preserved
loop-i-preserved c =
    ap (map (λ (x : Bor Object). x.now)) c.in_ok-push.ensures.items ∙ (map-push (λ (x : Bor Object). x.now) c.loop-i.all.items c.constant_at.result ∙ (ap (λ zs. zs ++ c.constant_at.result.now ∷ []) c.loop-i.invariant ∙ sym (take_next (map (λ (e : ℕ × Object). e.1) c.args.world.now.constants) c.loop-i.i c.constant_at.result.now c.constant_at.ensures)))
