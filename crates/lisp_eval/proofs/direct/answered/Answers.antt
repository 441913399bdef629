use Rattle.std.proofs.Common.{◌≡◌, ◌∙◌, subst}
use Rattle.gl_logic.specs.Object.{Object}
use Rattle.hons_arena.specs.Held.{AddsCellsOf}
use Rattle.hons_arena.specs.Ids.{object_at, IsIdOf}
use Rattle.lisp_eval.specs.Attempts.{given_answer}
use Rattle.lisp_eval.specs.Tables.{table_value}
use Rattle.lisp_eval.specs.declared.attempt.Stop.TheVariants as stop
use Rattle.lisp_eval.proofs.Entering.{tables_on, entered_answer, tables_found, tables_refused}
use Rattle.lisp_eval.proofs.direct.answered.Goals as goal

pub answer-requires-clause-agree : goal.answer-requires-clause-agree
answer-requires-clause-agree c = tables_on c.args.arena.now.objects c.ids_of.new.arena.objects c.ids_of.ensures.adds.grown c.args.alists.now c.requires.agree

pub returns-in-Err : goal.returns-in-Err
returns-in-Err c =
    let old = c.args.arena.now in
    let late = c.ids_of.new.arena in
    record {
      adds = entered_answer c.args.f.number c.args.given old late c.ids_of.ensures.adds;
      agree = tables_on old.objects late.objects c.ids_of.ensures.adds.grown c.args.alists.now c.requires.agree;
      found = tt;
      cells = λ e. absurd cc;
    }

pub returns-in-Err-Full : goal.returns-in-Err-Full
returns-in-Err-Full c =
    let late = c.ids_of.new.arena in
    let new = c.answer.new.arena in
    let f = c.args.f.number in
    let ids = c.in-Ok.ensures.ids in
    let made : AddsCellsOf (given_answer c.args.arena.now.objects f c.args.given) late.objects new.objects = subst (λ (x : Object). AddsCellsOf x late.objects new.objects) (λ i. table_value f (ids.0.1 i) (ids.1.0.1 i) (ids.1.1.1 i)) c.answer.ensures.makes.objects in
    tables_refused f c.args.given c.args.arena.now late c.ids_of.ensures.adds new c.answer.new.alists made c.answer.ensures.makes.limit c.answer.ensures.whole c.answer.ensures.agree stop.Beyond (λ e. absurd cc)

pub returns-in-Err-Memory : goal.returns-in-Err-Memory
returns-in-Err-Memory c =
    let late = c.ids_of.new.arena in
    let new = c.answer.new.arena in
    let f = c.args.f.number in
    let ids = c.in-Ok.ensures.ids in
    let made : AddsCellsOf (given_answer c.args.arena.now.objects f c.args.given) late.objects new.objects = subst (λ (x : Object). AddsCellsOf x late.objects new.objects) (λ i. table_value f (ids.0.1 i) (ids.1.0.1 i) (ids.1.1.1 i)) c.answer.ensures.makes.objects in
    tables_refused f c.args.given c.args.arena.now late c.ids_of.ensures.adds new c.answer.new.alists made c.answer.ensures.makes.limit c.answer.ensures.whole c.answer.ensures.agree stop.Memory (λ e. absurd cc)

pub returns-in-Ok-answer : goal.returns-in-Ok-answer
returns-in-Ok-answer c =
    let late = c.ids_of.new.arena in
    let new = c.answer.new.arena in
    let f = c.args.f.number in
    let ids = c.in-Ok.ensures.ids in
    let same : table_value f (object_at late.objects c.in-Ok.ids.first) (object_at late.objects c.in-Ok.ids.second) (object_at late.objects c.in-Ok.ids.third) ≡ given_answer c.args.arena.now.objects f c.args.given = λ i. table_value f (ids.0.1 i) (ids.1.0.1 i) (ids.1.1.1 i) in
    let made = subst (λ (x : Object). AddsCellsOf x late.objects new.objects) same c.answer.ensures.makes.objects in
    let is = subst (λ (x : Object). IsIdOf new.objects x c.in-Ok-answer.id) same c.in-Ok-answer.ensures.makes.id in
    tables_found f c.args.given c.args.arena.now late c.ids_of.ensures.adds new c.answer.new.alists made c.answer.ensures.makes.limit c.answer.ensures.whole c.answer.ensures.agree c.of.result (c.of.ensures.live new.objects is.0) (c.of.ensures.value new.objects ∙ is.1)
