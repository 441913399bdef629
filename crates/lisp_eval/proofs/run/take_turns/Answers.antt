use Rattle.std.proofs.Common.{rules, ◌≡◌, ◌∙◌, ap, sym, refl, true, false, [], Err, None}
use Rattle.gl_logic.proofs.Worlds.{world_ground}
use Rattle.gl_logic.specs.Counts.{is_among}
use Rattle.gl_logic.specs.TermOf.{term_of}
use Rattle.hons_arena.specs.Ids.{object_at}
use Rattle.lisp_eval.specs.Frames.{Visit}
use Rattle.lisp_eval.specs.States.{env_of}
use Rattle.lisp_eval.specs.Tables.{answered_in}
use Rattle.lisp_eval.specs.Turns.{halt_of_primitive, halt_of_table}
use Rattle.lisp_eval.specs.declared.frame.Focus.TheVariants as focus
use Rattle.lisp_eval.specs.declared.halt.Halt.{Halt}
use Rattle.lisp_eval.proofs.Environments.{append_none}
use Rattle.lisp_eval.proofs.StateGives.{state_start}
use Rattle.lisp_eval.proofs.StateTurns.{stands_same, smaller_same, given_smaller, no_visits, env_live, visited, visit_halted, value_live, primitive_given, primitive_halted, function_there, table_given, table_halted, call_goes, call_smaller, let_goes, given_live, turns_end, handed_on}
use Rattle.lisp_eval.proofs.Turns.{opens_smaller, hand_smaller}
use Rattle.lisp_eval.proofs.run.take_turns.Goals.{in-Prim+in_ok-apply_primitive-in-Prim, in-Call, then-is_answered+in_ok-answer-in-Call, else-is_answered+in_ok-focus-in-Call, in-Let+in_ok-focus-in-Let}
use Rattle.lisp_eval.proofs.run.take_turns.Goals as goal

pub loop-focus-init : goal.loop-focus-init
loop-focus-init c =
    let w = c.args.setting.now.world.now in
    let st = c.args.arena.now.objects in
    let env = env_of st c.args.env.value.items in
    let t = term_of c.args.term.now in
    let has = c.count-count.ensures.total env t c.requires.term in
    record {
      state = state_start w c.args.setting.now.functions.now env t c.args.limit st (world_ground w.definitions w.cliques c.count-count.ensures.world) (focus.Visit c.args.term c.args.env) c.new-frames.result.items c.args.memos.now c.requires.memos c.new-frames.ensures.items has.1.0 has.0 has.1.1 (λ more. ap (Visit t) (c.requires.env more));
      grown = ([], sym (append_none st));
      whole = c.requires.whole;
      agree = c.requires.alists;
      room = refl;
    }

pub returns-then-left-eq0 : goal.returns-then-left-eq0
returns-then-left-eq0 c =
    let l = c.loop-focus in
    no_visits _ _ _ _ _ c.args.arena.now l.left l.focus c.in-Visit.t c.in-Visit.inner c.in-Visit.is l.frames.items l.arena l.alists l.memos l.invariant c.if-left-eq0.true

pub visit_term-requires-clause-env : goal.visit_term-requires-clause-env
visit_term-requires-clause-env c =
    let l = c.loop-focus in
    env_live c.args.setting.now.world.now c.args.setting.now.functions.now c.args.env.value.items (term_of c.args.term.now) c.args.limit c.args.arena.now l.left l.focus c.in-Visit.t c.in-Visit.inner c.in-Visit.is l.frames.items l.arena l.alists l.memos l.invariant

pub returns-in_err-focus-in-Visit : goal.returns-in_err-focus-in-Visit
returns-in_err-focus-in-Visit c =
    let l = c.loop-focus in
    let v = c.visit_term.new in
    let h : Halt = c.in_err-focus-in-Visit.field-0.0 in
    let is : c.from_residual.result ≡ Err h = search rules in
    visit_halted c.args.setting.now.world.now c.args.setting.now.functions.now c.args.env.value.items (term_of c.args.term.now) c.args.limit c.args.arena.now l.left l.focus c.in-Visit.t c.in-Visit.inner c.in-Visit.is l.frames.items l.arena l.alists l.memos l.invariant
    v.left v.frames.items v.arena v.alists c.in_err-focus-in-Visit.ensures.agree c.from_residual.result h is c.in_err-focus-in-Visit.ensures.tells

pub loop-focus-preserved-in_ok-focus-in-Visit : goal.loop-focus-preserved-in_ok-focus-in-Visit
loop-focus-preserved-in_ok-focus-in-Visit c =
    let l = c.loop-focus in
    let v = c.visit_term.new in
    visited c.args.setting.now.world.now c.args.setting.now.functions.now c.args.env.value.items (term_of c.args.term.now) c.args.limit c.args.arena.now l.left l.focus c.in-Visit.t c.in-Visit.inner c.in-Visit.is l.frames.items l.arena l.alists l.memos l.invariant
    v.left v.frames.items v.arena v.alists c.in_ok-focus-in-Visit.ensures.agree c.if-left-eq0.false c.in_ok-focus-in-Visit.focus c.in_ok-focus-in-Visit.ensures.tells

pub apply_primitive-requires-clause-x : goal.apply_primitive-requires-clause-x
apply_primitive-requires-clause-x c =
    let l = c.loop-focus in
    value_live c.args.setting.now.world.now c.args.setting.now.functions.now c.args.env.value.items (term_of c.args.term.now) c.args.limit c.args.arena.now l.left l.focus c.in-Apply.work c.in-Apply.values c.in-Apply.outer c.in-Apply.is l.frames.items l.arena l.alists l.memos l.invariant c.as_slice.result.now c.as_slice.ensures 0

pub apply_primitive-requires-clause-y : goal.apply_primitive-requires-clause-y
apply_primitive-requires-clause-y c =
    let l = c.loop-focus in
    value_live c.args.setting.now.world.now c.args.setting.now.functions.now c.args.env.value.items (term_of c.args.term.now) c.args.limit c.args.arena.now l.left l.focus c.in-Apply.work c.in-Apply.values c.in-Apply.outer c.in-Apply.is l.frames.items l.arena l.alists l.memos l.invariant c.as_slice.result.now c.as_slice.ensures 1

pub returns-in_err-apply_primitive-in-Prim : goal.returns-in_err-apply_primitive-in-Prim
returns-in_err-apply_primitive-in-Prim c =
    let l = c.loop-focus in
    let e = c.in_err-apply_primitive-in-Prim.field-0.0 in
    let answer = c.from_residual-in_err-apply_primitive-in-Prim.result in
    let is : answer ≡ Err (halt_of_primitive e) = search rules in
    primitive_halted c.args.setting.now.world.now c.args.setting.now.functions.now c.args.env.value.items (term_of c.args.term.now) c.args.limit c.args.arena.now l.left l.focus c.in-Apply.work c.in-Apply.values c.in-Apply.outer c.in-Apply.is l.frames.items l.arena l.alists l.memos l.invariant
    c.in-Prim.p c.in-Prim.is c.as_slice.result.now c.as_slice.ensures c.apply_primitive.new.arena answer e is c.in_err-apply_primitive-in-Prim.ensures

pub answer-requires-clause-x : goal.answer-requires-clause-x
answer-requires-clause-x c =
    let l = c.loop-focus in
    value_live c.args.setting.now.world.now c.args.setting.now.functions.now c.args.env.value.items (term_of c.args.term.now) c.args.limit c.args.arena.now l.left l.focus c.in-Apply.work c.in-Apply.values c.in-Apply.outer c.in-Apply.is l.frames.items l.arena l.alists l.memos l.invariant c.as_slice-then-is_answered.result.now c.as_slice-then-is_answered.ensures 0

pub answer-requires-clause-y : goal.answer-requires-clause-y
answer-requires-clause-y c =
    let l = c.loop-focus in
    value_live c.args.setting.now.world.now c.args.setting.now.functions.now c.args.env.value.items (term_of c.args.term.now) c.args.limit c.args.arena.now l.left l.focus c.in-Apply.work c.in-Apply.values c.in-Apply.outer c.in-Apply.is l.frames.items l.arena l.alists l.memos l.invariant c.as_slice-then-is_answered.result.now c.as_slice-then-is_answered.ensures 1

pub answer-requires-clause-z : goal.answer-requires-clause-z
answer-requires-clause-z c =
    let l = c.loop-focus in
    value_live c.args.setting.now.world.now c.args.setting.now.functions.now c.args.env.value.items (term_of c.args.term.now) c.args.limit c.args.arena.now l.left l.focus c.in-Apply.work c.in-Apply.values c.in-Apply.outer c.in-Apply.is l.frames.items l.arena l.alists l.memos l.invariant c.as_slice-then-is_answered.result.now c.as_slice-then-is_answered.ensures 2

pub returns-in_err-answer-in-Call : goal.returns-in_err-answer-in-Call
returns-in_err-answer-in-Call c =
    let l = c.loop-focus in
    let w = c.args.setting.now.world.now in
    let e = c.in_err-answer-in-Call.field-0.0 in
    let answer = c.from_residual-in_err-answer-in-Call.result in
    let is : answer ≡ Err (halt_of_table e) = search rules in
    let table : is_among (answered_in w.definitions) c.in-Call.f.number ≡ true = sym c.is_answered.ensures ∙ c.if-is_answered.true in
    table_halted w c.args.setting.now.functions.now c.args.env.value.items (term_of c.args.term.now) c.args.limit c.args.arena.now l.left l.focus c.in-Apply.work c.in-Apply.values c.in-Apply.outer c.in-Apply.is l.frames.items l.arena l.alists l.memos l.invariant
    c.in-Call.f c.in-Call.is table c.as_slice-then-is_answered.result.now c.as_slice-then-is_answered.ensures c.answer.new.arena c.answer.new.alists answer e is c.in_err-answer-in-Call.ensures.makes

pub apply_call-requires : goal.apply_call-requires
apply_call-requires c =
    let l = c.loop-focus in
    function_there c.args.setting.now.world.now c.args.setting.now.functions.now c.args.env.value.items (term_of c.args.term.now) c.args.limit c.args.arena.now l.left l.focus c.in-Apply.work c.in-Apply.values c.in-Apply.outer c.in-Apply.is l.frames.items l.arena l.alists l.memos l.invariant c.in-Call.f c.in-Call.is

pub returns-in-None : goal.returns-in-None
returns-in-None c =
    let l = c.loop-focus in
    let none : l.frames.items ≡ [] = search rules in
    turns_end c.args.setting.now.world.now c.args.setting.now.functions.now c.args.env.value.items (term_of c.args.term.now) c.args.limit c.args.arena.now l.left l.focus c.in-Give.value c.in-Give.is l.frames.items l.arena l.alists l.memos l.invariant none

pub hand-requires : goal.hand-requires
hand-requires c =
    let l = c.loop-focus in
    record { live = given_live c.args.setting.now.world.now c.args.setting.now.functions.now c.args.env.value.items (term_of c.args.term.now) c.args.limit c.args.arena.now l.left l.focus c.in-Give.value c.in-Give.is l.frames.items l.arena l.alists l.memos l.invariant }

pub loop-focus-preserved : goal.loop-focus-preserved
loop-focus-preserved c =
    let l = c.loop-focus in
    handed_on c.args.setting.now.world.now c.args.setting.now.functions.now c.args.env.value.items (term_of c.args.term.now) c.args.limit c.args.arena.now l.left l.focus c.in-Give.value c.in-Give.is l.frames.items l.arena l.alists l.memos l.invariant
    c.pop.new.self.items c.in-Some.frame c.in-Some.ensures.items c.hand.new.memos c.in_ok-focus-in-Some.ensures.keeps c.in_ok-focus-in-Some.focus c.hand.new.frames.items c.in_ok-focus-in-Some.ensures.next

pub loop-focus-smaller : goal.loop-focus-smaller
loop-focus-smaller c =
    let l = c.loop-focus in
    hand_smaller l.left l.arena.objects c.in-Give.value l.focus c.in-Give.is l.frames.items c.pop.new.self.items c.in-Some.frame c.in-Some.ensures.items c.in_ok-focus-in-Some.focus c.hand.new.frames.items (object_at l.arena.objects c.in-Give.value) (c.in_ok-focus-in-Some.ensures.next [])

pub loop-focus-preserved-after-work : goal.loop-focus-preserved-after-work
loop-focus-preserved-after-work c =
    let l = c.loop-focus in
    let w = c.args.setting.now.world.now in
    let fs = c.args.setting.now.functions.now in
    let env = c.args.env.value.items in
    let t = term_of c.args.term.now in
    let a = c.args.arena.now in
    let m = c.match-work in
    let u = c.in-Apply in
    elim m.branch [
      | in-Prim+in_ok-apply_primitive-in-Prim k ↦
          let id = k.in_ok-apply_primitive-in-Prim.field-0 in
          let new = k.apply_primitive.new.arena in
          stands_same w fs env t c.args.limit a l.left (focus.Give id) m.focus l.frames.items m.frames.items new m.arena l.alists m.alists l.memos k.focus-is (ap (λ v. v.items) k.frames-is) k.arena-is k.alists-is
          (primitive_given w fs env t c.args.limit a l.left l.focus u.work u.values u.outer u.is l.frames.items l.arena l.alists l.memos l.invariant k.in-Prim.p k.in-Prim.is k.as_slice.result.now k.as_slice.ensures new id k.in_ok-apply_primitive-in-Prim.ensures)
      | in-Call k ↦ elim k.if-is_answered.branch [
        | then-is_answered+in_ok-answer-in-Call j ↦
            let id = j.in_ok-answer-in-Call.field-0 in
            let new = j.answer.new in
            let table : is_among (answered_in w.definitions) k.in-Call.f.number ≡ true = sym k.is_answered.ensures ∙ j.if-is_answered.true in
            let made = j.in_ok-answer-in-Call.ensures in
            stands_same w fs env t c.args.limit a l.left (focus.Give id) m.focus l.frames.items m.frames.items new.arena m.arena new.alists m.alists l.memos (k.focus-is ∙ j.focus-is) (ap (λ v. v.items) (k.frames-is ∙ j.frames-is)) (k.arena-is ∙ j.arena-is) (k.alists-is ∙ j.alists-is)
            (table_given w fs env t c.args.limit a l.left l.focus u.work u.values u.outer u.is l.frames.items l.arena l.alists l.memos l.invariant k.in-Call.f k.in-Call.is table j.as_slice-then-is_answered.result.now j.as_slice-then-is_answered.ensures new.arena new.alists made.whole made.agree id made.makes)
        | else-is_answered+in_ok-focus-in-Call j ↦
            let o = j.in_ok-focus-in-Call.focus in
            let stack = j.apply_call.new.frames.items in
            let other : is_among (answered_in w.definitions) k.in-Call.f.number ≡ false = sym k.is_answered.ensures ∙ j.if-is_answered.false in
            stands_same w fs env t c.args.limit a l.left o m.focus stack m.frames.items l.arena m.arena l.alists m.alists l.memos (k.focus-is ∙ j.focus-is) (ap (λ v. v.items) (k.frames-is ∙ j.frames-is)) (k.arena-is ∙ j.arena-is) (k.alists-is ∙ j.alists-is)
            (call_goes w fs env t c.args.limit a l.left l.focus u.work u.values u.outer u.is l.frames.items l.arena l.alists l.memos l.invariant k.in-Call.f k.in-Call.is other o stack j.in_ok-focus-in-Call.ensures)
      ]
      | in-Let+in_ok-focus-in-Let k ↦
          stands_same w fs env t c.args.limit a l.left k.in_ok-focus-in-Let.focus m.focus l.frames.items m.frames.items l.arena m.arena l.alists m.alists l.memos k.focus-is (ap (λ v. v.items) k.frames-is) k.arena-is k.alists-is
          (let_goes w fs env t c.args.limit a l.left l.focus u.work u.values u.outer u.is l.frames.items l.arena l.alists l.memos l.invariant k.in-Let.names k.in-Let.body k.in-Let.is k.in_ok-focus-in-Let.focus k.in_ok-focus-in-Let.ensures.next)
    ]

pub loop-focus-smaller-after-work : goal.loop-focus-smaller-after-work
loop-focus-smaller-after-work c =
    let l = c.loop-focus in
    let w = c.args.setting.now.world.now in
    let fs = c.args.setting.now.functions.now in
    let m = c.match-work in
    let u = c.in-Apply in
    elim m.branch [
      | in-Prim+in_ok-apply_primitive-in-Prim k ↦ given_smaller l.left u.work u.values u.outer l.focus u.is l.frames.items m.frames.items (ap (λ v. v.items) k.frames-is) m.focus k.in_ok-apply_primitive-in-Prim.field-0 k.focus-is
      | in-Call k ↦ elim k.if-is_answered.branch [
        | then-is_answered+in_ok-answer-in-Call j ↦ given_smaller l.left u.work u.values u.outer l.focus u.is l.frames.items m.frames.items (ap (λ v. v.items) (k.frames-is ∙ j.frames-is)) m.focus j.in_ok-answer-in-Call.field-0 (k.focus-is ∙ j.focus-is)
        | else-is_answered+in_ok-focus-in-Call j ↦
            let o = j.in_ok-focus-in-Call.focus in
            let stack = j.apply_call.new.frames.items in
            let other : is_among (answered_in w.definitions) k.in-Call.f.number ≡ false = sym k.is_answered.ensures ∙ j.if-is_answered.false in
            smaller_same l.left l.focus l.frames.items o m.focus stack m.frames.items (k.focus-is ∙ j.focus-is) (ap (λ v. v.items) (k.frames-is ∙ j.frames-is))
            (call_smaller w fs c.args.env.value.items (term_of c.args.term.now) c.args.limit c.args.arena.now l.left l.focus u.work u.values u.outer u.is l.frames.items l.arena l.alists l.memos l.invariant k.in-Call.f k.in-Call.is other o stack j.in_ok-focus-in-Call.ensures)
      ]
      | in-Let+in_ok-focus-in-Let k ↦
          let o = k.in_ok-focus-in-Let.focus in
          smaller_same l.left l.focus l.frames.items o m.focus l.frames.items m.frames.items k.focus-is (ap (λ v. v.items) k.frames-is)
          (opens_smaller l.left u.work u.values u.outer l.focus u.is None l.frames.items o l.frames.items (term_of k.in-Let.body.now) _ (k.in_ok-focus-in-Let.ensures.next [] l.frames.items))
    ]
