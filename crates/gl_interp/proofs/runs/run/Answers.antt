use Rattle.std.proofs.Common.{◌≡◌, ◌∙◌, ◌-◌, suc, ap, sym, subst, refl, arith, map, length, get_or, [], ◌++◌}
use Rattle.gl_logic.specs.ConstantCall.{constant_call}
use Rattle.gl_logic.specs.DefinitionOf.{definition_of}
use Rattle.gl_logic.specs.Evaluate.{HasValue}
use Rattle.gl_interp.specs.Calls.{values_under}
use Rattle.gl_logic.specs.PrimValue.{prim_value}
use Rattle.sym_objects.specs.Seen.{stands_for}
use Rattle.sym_prims.proofs.Leaving.{leaves_none}
use Rattle.gl_interp.specs.declared.frame.Work.{Work}
use Rattle.gl_interp.specs.Envs.{AllBelow, sobs_bound}
use Rattle.gl_interp.specs.Running.{IsWorkOf}
use Rattle.gl_interp.proofs.AllTaken.{all_below}
use Rattle.gl_interp.proofs.RunCauses.{machine_cause, prim_cause}
use Rattle.gl_interp.proofs.RunTurns.{turn_call, turn_evaluated, turn_let, turn_prim}
use Rattle.gl_interp.proofs.TermsLeft.{arity_below, arity_is, terms_body}
use Rattle.gl_interp.proofs.Turns.{turns_of}
use Rattle.gl_interp.proofs.Falling.{falls_call, falls_evaluated, falls_let, falls_prim}
use Rattle.gl_interp.proofs.runs.run.Goals as goal

pub returns-in-Ok-clause-turn : goal.returns-in-Ok-clause-turn
returns-in-Ok-clause-turn g c =
    let ds = c.args.world.now.definitions in
    let old = c.args.objs.now in
    let es = c.args.envs.now in
    let made = c.in-Ok.ensures.applies in
    turns_of g.B.Meaning ds c.args.start old c.apply.new.objs es es c.args.path.now c.args.frames.now c.args.frames.now _ _
    (turn_prim g.B.Meaning ds c.args.start c.args.path.now old c.apply.new.objs es made.leaves c.args.frames.now c.in-Prim.prim c.args.work c.args.args c.args.env c.args.clock c.in-Ok.x
    c.in-Prim.is c.requires.ready made.live (λ a h. made.value a h ∙ ap (λ xs. prim_value c.in-Prim.prim (map (λ x. stands_for g.B.Meaning old x a) xs)) c.as_slice.ensures.value))

pub returns-in-Prim-clause-cause : goal.returns-in-Prim-clause-cause
returns-in-Prim-clause-cause g c =
    prim_cause g.B.Meaning c.args.objs.now c.apply.new.objs c.args.world.now c.args.machine.now c.args.path.now c.args.args c.args.env c.args.clock c.args.work c.in-Prim.prim c.as_slice.result.now c.in-Err.fault c.of.result
    c.in-Prim.is c.as_slice.ensures.value c.of.ensures c.in-Err.ensures.applies.cause

pub returns-in-Let-clause-turn : goal.returns-in-Let-clause-turn
returns-in-Let-clause-turn g c =
    let ds = c.args.world.now.definitions in
    let old = c.args.objs.now in
    let es = c.args.envs.now in
    let all = c.in_ok-inner-in-Let.ensures in
    let work = subst (λ (k : Work). IsWorkOf ds (length c.args.args.items) k) c.in-Let.is c.requires.terms.focus in
    turns_of g.B.Meaning ds c.args.start old old es c.bind_all.new.self c.args.path.now c.args.frames.now c.args.frames.now _ _
    (turn_let g.B.Meaning ds c.args.start c.args.path.now old old es (leaves_none g.B.Meaning old c.requires.ready.whole) c.args.frames.now c.bind_all.new.self c.args.work c.in-Let.names c.args.args c.args.env c.in_ok-inner-in-Let.inner c.args.clock c.in-Let.body
    c.in-Let.is all.kept (all.below (length old.nodes) c.requires.ready.envs (subst (λ xs. AllBelow (length old.nodes) xs) (sym c.as_slice-in-Let.ensures.value) c.requires.ready.focus.0)) c.requires.ready all.live
    (all.bound ∙ ap (λ xs. sobs_bound c.in-Let.names.now xs ++ get_or es c.args.env.number []) c.as_slice-in-Let.ensures.value) work.0)

pub returns-in-Let-clause-terms : goal.returns-in-Let-clause-terms
returns-in-Let-clause-terms g c =
    let ds = c.args.world.now.definitions in
    let work = subst (λ (k : Work). IsWorkOf ds (length c.args.args.items) k) c.in-Let.is c.requires.terms.focus in
    terms_body ds c.args.frames.now _ c.in-Let.body c.in_ok-inner-in-Let.inner c.args.clock work.1 c.requires.terms

pub are_constant-requires : goal.are_constant-requires
are_constant-requires g c = all_below (length c.args.objs.now.nodes) c.as_slice-xs.result.now (subst (λ xs. AllBelow (length c.args.objs.now.nodes) xs) (sym c.as_slice-xs.ensures.value) c.requires.ready.focus.0)

pub evaluate-requires-clause-args : goal.evaluate-requires-clause-args
evaluate-requires-clause-args g c = all_below (length c.args.objs.now.nodes) c.as_slice-xs.result.now (subst (λ xs. AllBelow (length c.args.objs.now.nodes) xs) (sym c.as_slice-xs.ensures.value) c.requires.ready.focus.0)

pub def-definition-requires : goal.def-definition-requires
def-definition-requires g c =
    let ds = c.args.world.now.definitions in
    arity_below ds c.in-Call.f.number (length c.args.args.items) (subst (λ (k : Work). IsWorkOf ds (length c.args.args.items) k) c.in-Call.is c.requires.terms.focus)

pub returns-in-Ok-evaluate-clause-turn : goal.returns-in-Ok-evaluate-clause-turn
returns-in-Ok-evaluate-clause-turn g c =
    let made = c.in-Ok-evaluate.ensures in
    turn_evaluated g.B.Meaning c.args.world.now.definitions c.args.start c.args.path.now c.args.objs.now c.evaluate.new.objs c.args.envs.now made.leaves c.args.frames.now c.in-Call.f c.args.work c.args.args c.args.env c.args.clock c.in-Ok-evaluate.x
    c.in-Call.is c.requires.ready made.live
    (λ a. subst (λ xs. HasValue c.args.world.now.definitions [] (constant_call c.in-Call.f.number (values_under g.B.Meaning c.args.objs.now xs a)) (stands_for g.B.Meaning c.evaluate.new.objs c.in-Ok-evaluate.x a)) c.as_slice-xs.ensures.value (made.value a))

pub returns-in-Err-evaluate-clause-cause : goal.returns-in-Err-evaluate-clause-cause
returns-in-Err-evaluate-clause-cause g c =
    machine_cause g.B.Meaning c.args.objs.now c.evaluate.new.objs c.args.world.now c.args.machine.now c.args.path.now c.args.args c.args.env c.args.clock c.args.work c.in-Call.f c.as_slice-xs.result.now c.in-Err-evaluate.fault
    c.in-Call.is c.as_slice-xs.ensures.value c.in-Err-evaluate.ensures.cause

pub returns-clause-turn : goal.returns-clause-turn
returns-clause-turn g c =
    let ds = c.args.world.now.definitions in
    let old = c.args.objs.now in
    let es = c.args.envs.now in
    let all = c.in_ok-inner-in-Call.ensures in
    let d = definition_of c.def-definition.result.now in
    let m = c.args.clock - 1 in
    let high : c.args.clock ≡ suc m = omega arith in
    let work = subst (λ (k : Work). IsWorkOf ds (length c.args.args.items) k) c.in-Call.is c.requires.terms.focus in
    turns_of g.B.Meaning ds c.args.start old old es c.bind_all-in-Call.new.self c.args.path.now c.args.frames.now c.args.frames.now _ _
    (turn_call g.B.Meaning ds c.args.start c.args.path.now old old es (leaves_none g.B.Meaning old c.requires.ready.whole) c.args.frames.now c.bind_all-in-Call.new.self c.args.work c.in-Call.f d c.args.args c.args.env c.in_ok-inner-in-Call.inner c.empty-outer.result c.args.clock m _
    c.in-Call.is high c.def-definition.ensures.found refl all.kept (all.below (length old.nodes) c.requires.ready.envs (subst (λ xs. AllBelow (length old.nodes) xs) (sym c.as_slice-xs.ensures.value) c.requires.ready.focus.0)) c.requires.ready all.live c.empty-outer.ensures.live c.empty-outer.ensures.empty
    (all.bound ∙ ap (λ xs. sobs_bound d.formals xs ++ get_or es c.empty-outer.result.number []) c.as_slice-xs.ensures.value) (arity_is ds c.in-Call.f.number (length c.args.args.items) d work c.def-definition.ensures.found))

pub returns-clause-terms : goal.returns-clause-terms
returns-clause-terms g c = terms_body c.args.world.now.definitions c.args.frames.now _ _ c.in_ok-inner-in-Call.inner _ c.def-definition.ensures.proper.body c.requires.terms

pub returns-in-Ok-clause-falls : goal.returns-in-Ok-clause-falls
returns-in-Ok-clause-falls g c = falls_prim c.args.world.now.definitions c.args.frames.now c.in-Prim.prim c.args.work c.args.args c.args.env c.args.clock c.in-Prim.is

pub returns-in-Let-clause-falls : goal.returns-in-Let-clause-falls
returns-in-Let-clause-falls g c = falls_let c.args.world.now.definitions c.args.frames.now c.in-Let.names c.in-Let.body c.args.work c.args.args c.args.env c.in_ok-inner-in-Let.inner c.args.clock c.in-Let.is

pub returns-in-Ok-evaluate-clause-falls : goal.returns-in-Ok-evaluate-clause-falls
returns-in-Ok-evaluate-clause-falls g c = falls_evaluated c.args.world.now.definitions c.args.frames.now c.in-Call.f c.args.work c.args.args c.args.env c.args.clock c.in-Call.is

pub returns-clause-falls : goal.returns-clause-falls
returns-clause-falls g c =
    let m = c.args.clock - 1 in
    let high : c.args.clock ≡ suc m = omega arith in
    falls_call c.args.world.now.definitions c.args.frames.now c.in-Call.f c.args.work (definition_of c.def-definition.result.now) c.args.args c.args.env c.args.clock m c.in-Call.is high c.def-definition.ensures.found
