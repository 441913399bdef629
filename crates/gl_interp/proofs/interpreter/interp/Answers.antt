use Rattle.std.proofs.Common.{◌∙◌, ap, refl, sym, subst, length, Ok}
use Rattle.gl_logic.specs.TermOf.{term_of}
use Rattle.sym_prims.proofs.Leaving.{leaves_none, leaves_then}
use Rattle.gl_interp.specs.Causes.{Task}
use Rattle.gl_interp.specs.Whole.{Running}
use Rattle.gl_interp.specs.declared.frame.Focus.TheVariants as focus
use Rattle.gl_interp.proofs.Causes.{run_cause, visit_cause}
use Rattle.gl_interp.proofs.Falling.{falls_given, falls_turn}
use Rattle.gl_interp.proofs.Machines.{rests_none, rests_then}
use Rattle.gl_interp.proofs.Onward.{is_work, ok_holds, ok_match_none, ok_match_some, ok_some, running_asked, running_given}
use Rattle.gl_interp.proofs.Whole.{interprets_err, interprets_ok, running_begin, running_plain, running_turn}
use Rattle.gl_interp.proofs.interpreter.interp.Goals as goal

pub loop-focus-init : goal.loop-focus-init
loop-focus-init g c =
    let first = c.in_ok-first.ensures in
    let onward = c.in_ok-onward.ensures in
    let task : Task = record { world = c.args.world.now; machine = c.args.machine.now; clock = c.args.clock; term = term_of c.args.term.now; env = c.args.env.now; path = c.args.path } in
    subst (λ fs. Running g.B.Meaning c.args.objs.now task c.path_of.new.objs c.args.machine.now c.bind_pairs.new.self c.in_ok-onward.onward fs (focus.Visit c.args.term c.in_ok-first.first c.args.clock)) (sym c.new-frames.ensures)
    (running_begin g.B.Meaning c.args.objs.now task c.args.objs.now c.path_of.new.objs c.new-envs.result c.bind_pairs.new.self c.in_ok-onward.onward c.in_ok-first.first c.args.term refl onward.leaves c.count-total.ensures.total c.requires.term c.requires.path c.requires.env
    c.new-envs.ensures first.live first.bound first.below onward.edge onward.witnessed refl)

pub returns-in-None-clause-interprets : goal.returns-in-None-clause-interprets
returns-in-None-clause-interprets g c =
    interprets_ok g.B.Meaning c.args.objs.now (record { world = c.args.world.now; machine = c.args.machine.now; clock = c.args.clock; term = term_of c.args.term.now; env = c.args.env.now; path = c.args.path }) c.loop-focus.objs c.loop-focus.machine c.loop-focus.envs c.loop-focus.onward c.loop-focus.frames c.loop-focus.focus c.in-Give.object c.loop-focus.invariant c.in-None.ensures.0 c.in-Give.is

pub returns-in-Err-clause-interprets : goal.returns-in-Err-clause-interprets
returns-in-Err-clause-interprets g c =
    let task : Task = record { world = c.args.world.now; machine = c.args.machine.now; clock = c.args.clock; term = term_of c.args.term.now; env = c.args.env.now; path = c.args.path } in
    let inv = c.loop-focus.invariant in
    let e = c.in-Err.ensures in
    interprets_err g.B.Meaning c.args.objs.now task c.visit.new.objs c.in-Err.fault (leaves_then g.B.Meaning c.args.objs.now c.loop-focus.objs c.visit.new.objs inv.leaves e.leaves)
    (visit_cause g.B.Meaning c.args.objs.now task c.loop-focus.objs c.visit.new.objs c.loop-focus.machine c.loop-focus.envs c.loop-focus.onward c.loop-focus.frames c.loop-focus.focus inv e.leaves c.in-Visit.t c.in-Visit.e c.in-Visit.n c.in-Visit.is c.in-Err.fault (e.cause c.args.world.now))

pub returns-in-Err-clause-rests : goal.returns-in-Err-clause-rests
returns-in-Err-clause-rests g c = rests_then c.args.machine.now c.loop-focus.machine c.visit.new.machine c.loop-focus.invariant.rests c.in-Err.ensures.rests

pub dropped-requires-clause-work : goal.dropped-requires-clause-work
dropped-requires-clause-work g c =
    let task : Task = record { world = c.args.world.now; machine = c.args.machine.now; clock = c.args.clock; term = term_of c.args.term.now; env = c.args.env.now; path = c.args.path } in
    let l = c.loop-focus in
    (length c.in-Run.args.items, is_work g.B.Meaning c.args.objs.now task l.objs l.machine l.envs l.onward l.frames l.focus c.in-Run.work c.in-Run.args c.in-Run.e c.in-Run.n l.invariant c.in-Run.is)

pub loop-focus-preserved-in-Some-dropped-2 : goal.loop-focus-preserved-in-Some-dropped-2
loop-focus-preserved-in-Some-dropped-2 g c =
    let task : Task = record { world = c.args.world.now; machine = c.args.machine.now; clock = c.args.clock; term = term_of c.args.term.now; env = c.args.env.now; path = c.args.path } in
    let l = c.loop-focus in
    let e = c.dropped.ensures in
    let is = c.in-Ok-Some.is ∙ ap Ok c.in-Ok-Some.field-0-is in
    running_given g.B.Meaning c.args.objs.now task l.objs l.machine l.envs l.onward l.frames l.focus c.in-Run.work c.in-Run.args c.in-Run.e c.in-Run.n l.invariant c.in-Run.is c.dropped.new.objs c.dropped.new.path
    e.leaves (ok_holds _ _ _ is e.again) c.in-Ok-Some.more (ok_some _ _ _ is e.never) (ok_match_some _ _ _ _ is e.asked)

pub loop-focus-smaller-in-Some-dropped-2 : goal.loop-focus-smaller-in-Some-dropped-2
loop-focus-smaller-in-Some-dropped-2 g c =
    let ds = c.args.world.now.definitions in
    let l = c.loop-focus in
    falls_turn ds l.frames l.frames _ l.focus _ _ refl c.in-Run.is (falls_given ds l.frames c.dropped.new.objs c.in-Run.work c.in-Run.args c.in-Run.e c.in-Run.n c.in-Ok-Some.more (ok_match_some _ _ _ _ (c.in-Ok-Some.is ∙ ap Ok c.in-Ok-Some.field-0-is) c.dropped.ensures.asked))

pub run-requires-clause-ready : goal.run-requires-clause-ready
run-requires-clause-ready g c =
    let task : Task = record { world = c.args.world.now; machine = c.args.machine.now; clock = c.args.clock; term = term_of c.args.term.now; env = c.args.env.now; path = c.args.path } in
    let l = c.loop-focus in
    let r = running_asked g.B.Meaning c.args.objs.now task l.objs l.machine l.envs l.onward l.frames l.focus c.in-Run.work c.in-Run.args c.in-Run.e c.in-Run.n l.invariant c.in-Run.is c.dropped.new.objs c.dropped.new.path c.dropped.ensures.leaves (ok_holds _ _ _ c.in-Ok-None.is c.dropped.ensures.again) in
    r.ready

pub run-requires-clause-terms : goal.run-requires-clause-terms
run-requires-clause-terms g c =
    let task : Task = record { world = c.args.world.now; machine = c.args.machine.now; clock = c.args.clock; term = term_of c.args.term.now; env = c.args.env.now; path = c.args.path } in
    let l = c.loop-focus in
    let r = running_asked g.B.Meaning c.args.objs.now task l.objs l.machine l.envs l.onward l.frames l.focus c.in-Run.work c.in-Run.args c.in-Run.e c.in-Run.n l.invariant c.in-Run.is c.dropped.new.objs c.dropped.new.path c.dropped.ensures.leaves (ok_holds _ _ _ c.in-Ok-None.is c.dropped.ensures.again) in
    r.terms

pub run-requires-clause-fits : goal.run-requires-clause-fits
run-requires-clause-fits g c = c.loop-focus.invariant.rests.fits c.args.world.now c.requires.fits

pub run-requires-clause-asked : goal.run-requires-clause-asked
run-requires-clause-asked g c = ok_match_none _ _ _ (c.in-Ok-None.is ∙ ap Ok c.in-Ok-None.field-0-is) c.dropped.ensures.asked

pub returns-in-Err-run-clause-interprets : goal.returns-in-Err-run-clause-interprets
returns-in-Err-run-clause-interprets g c =
    let task : Task = record { world = c.args.world.now; machine = c.args.machine.now; clock = c.args.clock; term = term_of c.args.term.now; env = c.args.env.now; path = c.args.path } in
    let l = c.loop-focus in
    let inv = running_asked g.B.Meaning c.args.objs.now task l.objs l.machine l.envs l.onward l.frames l.focus c.in-Run.work c.in-Run.args c.in-Run.e c.in-Run.n l.invariant c.in-Run.is c.dropped.new.objs c.dropped.new.path c.dropped.ensures.leaves (ok_holds _ _ _ c.in-Ok-None.is c.dropped.ensures.again) in
    let e = c.in-Err-run.ensures in
    interprets_err g.B.Meaning c.args.objs.now task c.run.new.objs c.in-Err-run.fault (leaves_then g.B.Meaning c.args.objs.now c.dropped.new.objs c.run.new.objs inv.leaves e.leaves)
    (run_cause g.B.Meaning c.args.objs.now task c.dropped.new.objs c.run.new.objs l.machine l.envs c.dropped.new.path l.frames (focus.Run c.in-Run.work c.in-Run.args c.in-Run.e c.in-Run.n) inv e.leaves c.in-Run.work c.in-Run.args c.in-Run.e c.in-Run.n refl c.in-Err-run.fault e.cause)

pub returns-in-Err-run-clause-rests : goal.returns-in-Err-run-clause-rests
returns-in-Err-run-clause-rests g c = rests_then c.args.machine.now c.loop-focus.machine c.run.new.machine c.loop-focus.invariant.rests c.in-Err-run.ensures.rests

pub loop-focus-preserved-in-Ok : goal.loop-focus-preserved-in-Ok
loop-focus-preserved-in-Ok g c =
    let ds = c.args.world.now.definitions in
    let task : Task = record { world = c.args.world.now; machine = c.args.machine.now; clock = c.args.clock; term = term_of c.args.term.now; env = c.args.env.now; path = c.args.path } in
    let l = c.loop-focus in
    running_plain g.B.Meaning c.args.objs.now task l.objs _ l.machine _ l.envs _ l.onward _ l.frames l.frames _ l.focus _ _ l.invariant refl c.in-Visit.is c.in-Ok.ensures.leaves c.in-Ok.ensures.rests (c.in-Ok.ensures.turn ds) (c.in-Ok.ensures.terms ds)

pub loop-focus-smaller-in-Ok : goal.loop-focus-smaller-in-Ok
loop-focus-smaller-in-Ok g c = falls_turn c.args.world.now.definitions c.loop-focus.frames c.loop-focus.frames _ c.loop-focus.focus _ _ refl c.in-Visit.is (c.in-Ok.ensures.falls c.args.world.now.definitions)

pub loop-focus-preserved-in-Next : goal.loop-focus-preserved-in-Next
loop-focus-preserved-in-Next g c =
    let ds = c.args.world.now.definitions in
    let task : Task = record { world = c.args.world.now; machine = c.args.machine.now; clock = c.args.clock; term = term_of c.args.term.now; env = c.args.env.now; path = c.args.path } in
    let l = c.loop-focus in
    running_plain g.B.Meaning c.args.objs.now task l.objs _ l.machine _ l.envs _ l.onward _ l.frames l.frames _ l.focus _ _ l.invariant refl c.in-Next.is (leaves_none g.B.Meaning l.objs l.invariant.ready.whole) (rests_none l.machine) (c.in_ok-focus-in-Next.ensures.turn ds) (c.in_ok-focus-in-Next.ensures.terms ds)

pub loop-focus-smaller-in-Next : goal.loop-focus-smaller-in-Next
loop-focus-smaller-in-Next g c = falls_turn c.args.world.now.definitions c.loop-focus.frames c.loop-focus.frames _ c.loop-focus.focus _ _ refl c.in-Next.is (c.in_ok-focus-in-Next.ensures.falls c.args.world.now.definitions)

pub loop-focus-preserved-in-Ok-run : goal.loop-focus-preserved-in-Ok-run
loop-focus-preserved-in-Ok-run g c =
    let task : Task = record { world = c.args.world.now; machine = c.args.machine.now; clock = c.args.clock; term = term_of c.args.term.now; env = c.args.env.now; path = c.args.path } in
    let l = c.loop-focus in
    running_turn g.B.Meaning c.args.objs.now task c.dropped.new.objs _ l.machine _ l.envs _ c.dropped.new.path _ l.frames l.frames _ (focus.Run c.in-Run.work c.in-Run.args c.in-Run.e c.in-Run.n) _ _ (running_asked g.B.Meaning c.args.objs.now task l.objs l.machine l.envs l.onward l.frames l.focus c.in-Run.work c.in-Run.args c.in-Run.e c.in-Run.n l.invariant c.in-Run.is c.dropped.new.objs c.dropped.new.path c.dropped.ensures.leaves (ok_holds _ _ _ c.in-Ok-None.is c.dropped.ensures.again)) refl refl c.in-Ok-run.ensures.leaves c.in-Ok-run.ensures.rests c.in-Ok-run.ensures.turn c.in-Ok-run.ensures.terms

pub loop-focus-smaller-in-Ok-run : goal.loop-focus-smaller-in-Ok-run
loop-focus-smaller-in-Ok-run g c = falls_turn c.args.world.now.definitions c.loop-focus.frames c.loop-focus.frames _ c.loop-focus.focus _ _ refl c.in-Run.is c.in-Ok-run.ensures.falls

pub loop-focus-preserved : goal.loop-focus-preserved
loop-focus-preserved g c =
    let ds = c.args.world.now.definitions in
    let task : Task = record { world = c.args.world.now; machine = c.args.machine.now; clock = c.args.clock; term = term_of c.args.term.now; env = c.args.env.now; path = c.args.path } in
    let l = c.loop-focus in
    running_plain g.B.Meaning c.args.objs.now task l.objs _ l.machine _ l.envs _ l.onward _ l.frames _ _ l.focus _ _ l.invariant c.in-Some.ensures c.in-Give.is c.in-Ok-give.ensures.leaves c.in-Ok-give.ensures.rests (c.in-Ok-give.ensures.turn ds) (c.in-Ok-give.ensures.terms ds)

pub loop-focus-smaller : goal.loop-focus-smaller
loop-focus-smaller g c = falls_turn c.args.world.now.definitions c.loop-focus.frames _ _ c.loop-focus.focus _ _ c.in-Some.ensures c.in-Give.is (c.in-Ok-give.ensures.falls c.args.world.now.definitions)
