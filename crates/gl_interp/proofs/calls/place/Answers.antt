use Rattle.std.proofs.Common.{arith, refl, false}
use Rattle.std.proofs.lemmas.List.{length-map}
use Rattle.sym_objects.specs.Seen.{stands_for}
use Rattle.gl_interp.specs.Calls.{values_under}
use Rattle.gl_interp.proofs.Calling.{grows_more, placing_done, placing_fault, placing_next, value_place}
use Rattle.gl_interp.proofs.calls.place.Goals as goal

pub returns-in_default-clause-grows : goal.returns-in_default-clause-grows
returns-in_default-clause-grows g c = grows_more _ c.args.machine.now c.loop-i.machine c.place_one.new.machine _ c.loop-i.invariant.grows (c.place_one.ensures.places (λ k. false))

pub returns-in_default-clause-fits : goal.returns-in_default-clause-fits
returns-in_default-clause-fits g c w f = (c.place_one.ensures.places (λ k. false)).fits w (c.loop-i.invariant.fits w f)

pub returns-in-Err-clause-cause : goal.returns-in-Err-clause-cause
returns-in-Err-clause-cause g c a =
    placing_fault (values_under g.B.Meaning c.args.objs.now c.args.args.now a) c.args.machine.now c.loop-i.machine c.place_one.new.machine c.loop-i.env c.loop-i.i _ c.in-Err.fault
    (value_place (λ x. stands_for g.B.Meaning c.args.objs.now x a) c.args.args.now c.loop-i.i _ c.loop-i-test.true) (c.loop-i.invariant.placing a) c.loop-i.invariant.grows (c.in-Err.ensures.places a)

pub returns-in-Err-clause-grows : goal.returns-in-Err-clause-grows
returns-in-Err-clause-grows g c = grows_more _ c.args.machine.now c.loop-i.machine c.place_one.new.machine _ c.loop-i.invariant.grows (c.place_one.ensures.places (λ k. false))

pub returns-in-Err-clause-fits : goal.returns-in-Err-clause-fits
returns-in-Err-clause-fits g c w f = (c.place_one.ensures.places (λ k. false)).fits w (c.loop-i.invariant.fits w f)

pub loop-i-preserved : goal.loop-i-preserved
loop-i-preserved g c = record {
  placing = λ a. placing_next (values_under g.B.Meaning c.args.objs.now c.args.args.now a) c.args.machine.now c.loop-i.machine c.place_one.new.machine c.loop-i.env c.push.new.self c.loop-i.i _ _ (record { name = record { number = c.loop-i.i }; value = c.in-Ok.id }) c.in-Ok.id
      (value_place (λ x. stands_for g.B.Meaning c.args.objs.now x a) c.args.args.now c.loop-i.i _ c.loop-i-test.true) (c.loop-i.invariant.placing a) (c.in-Ok.ensures.places a) c.in-Ok-push.ensures.ok refl refl (omega arith);
  grows = grows_more _ c.args.machine.now c.loop-i.machine c.place_one.new.machine _ c.loop-i.invariant.grows (c.place_one.ensures.places (λ k. false));
  fits = λ w f. (c.place_one.ensures.places (λ k. false)).fits w (c.loop-i.invariant.fits w f);
}

pub returns-clause-placed : goal.returns-clause-placed
returns-clause-placed g c a =
    placing_done (values_under g.B.Meaning c.args.objs.now c.args.args.now a) c.args.machine.now c.loop-i.machine c.loop-i.env c.loop-i.i
    (omega (arith, c.loop-i-test.false, c.loop-i.auto.i-end, length-map c.args.args.now (λ x. stands_for g.B.Meaning c.args.objs.now x a))) (c.loop-i.invariant.placing a)
