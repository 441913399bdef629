use Rattle.std.proofs.Common.{rules, eqb, sym}
use Rattle.book_state.proofs.Kept.{any_at, any_more}
use Rattle.book_state.proofs.functions.contains.Goals as goal

pub returns-then-f-at : goal.returns-then-f-at
returns-then-f-at c = sym (any_at (eqb c.args.f.number) c.args.functions.now c.loop-i.i c.at.result.now.number c.at.ensures (search rules))

pub loop-i-preserved : goal.loop-i-preserved
loop-i-preserved c = any_more (eqb c.args.f.number) c.args.functions.now c.loop-i.i c.at.result.now.number c.at.ensures (search rules) c.loop-i.invariant
