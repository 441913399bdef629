use Rattle.std.proofs.Common.{ap, List, ℕ, arith, vec_len}
use Rattle.gl_base.specs.Memory.{Keeping}
use Rattle.gl_base.proofs.Growth.{kept_front}
use Rattle.gl_base.proofs.sure_sink.SureSinkSink.write.Goals as goal

pub returns-clause-after : goal.returns-clause-after
returns-clause-after c =
    rw (c.push_all.ensures.items, c.min-front.ensures, c.len.ensures, ← c.self.view_is)
    (ap (λ (ks : List ℕ). let k : Keeping = record { kept = ks; room = c.self.inside.room } in k) (kept_front c.self.inside.kept.items c.args.piece.now c.self.inside.room (vec_len c.self.inside.kept) (omega arith) c.self.invariant.0))
