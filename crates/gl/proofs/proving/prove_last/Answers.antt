use Rattle.std.proofs.Common.{inr}
use Rattle.event_world.specs.Seen.{theorem_seen}
use Rattle.gl_decide.specs.Bounds.{bounds_of}
use Rattle.gl.specs.Proving.{shown, left_open}
use Rattle.gl.proofs.proving.prove_last.Goals as goal

pub returns-else-is_searched-clause-written : goal.returns-else-is_searched-clause-written
returns-else-is_searched-clause-written g c text last =
    c.put_no_proof.ensures.written (bounds_of c.args.proof.now.limits) c.args.proof.now.part text c.args.out.now.stalls
    (inr (c.args.texts.now, c.args.world.now, theorem_seen c.args.thm.now, last, c.is_searched.ensures.no c.if-is_searched.false))

pub returns-in-Ok-clause-written : goal.returns-in-Ok-clause-written
returns-in-Ok-clause-written g c text last =
    c.put_part.ensures.written (bounds_of c.args.proof.now.limits) text c.args.out.now.stalls
    (shown c.args.texts.now c.args.world.now (theorem_seen c.args.thm.now) c.in-Ok.book (last, c.is_searched.ensures.yes c.if-is_searched.true) c.in-Ok.ensures.book)

pub returns-in-Err-clause-written : goal.returns-in-Err-clause-written
returns-in-Err-clause-written g c text last =
    c.put_verdict.ensures.written (bounds_of c.args.proof.now.limits) c.args.proof.now.part text
    (left_open c.args.texts.now c.args.world.now (theorem_seen c.args.thm.now) c.in-Err.verdict (last, c.is_searched.ensures.yes c.if-is_searched.true) c.in-Err.ensures.proper c.in-Err.ensures.not_shown)
