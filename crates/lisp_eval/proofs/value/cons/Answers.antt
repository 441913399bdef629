use Rattle.std.proofs.Common.{rules, ◌≡◌, ◌∙◌, subst, IsErr}
use Rattle.gl_logic.specs.Object.{Object, Cons}
use Rattle.hons_arena.specs.Held.{AddsCellsOf, Interns, Places}
use Rattle.hons_arena.specs.Ids.{object_at}
use Rattle.lisp_eval.specs.Outside.{value_object}
use Rattle.lisp_eval.proofs.Entering.{id_grown, value_grown, grown_by, first_refused, rest_refused, cons_placed}
use Rattle.lisp_eval.proofs.value.cons.Goals as goal

pub returns-in_err-a-clause-places : goal.returns-in_err-a-clause-places
returns-in_err-a-clause-places c =
    let old = c.args.arena.now in
    let a = value_object old.objects c.args.first in
    let d = value_object old.objects c.args.rest in
    let refused : IsErr c.enter.result = search rules in
    let answer : IsErr c.from_residual.result = search rules in
    first_refused old a d c.enter.new.arena c.enter.result c.from_residual.result refused answer c.enter.ensures.places

pub returns-in_err-d-clause-places : goal.returns-in_err-d-clause-places
returns-in_err-d-clause-places c =
    let old = c.args.arena.now in
    let mid = c.enter.new.arena in
    let a = value_object old.objects c.args.first in
    let d = value_object old.objects c.args.rest in
    let first = c.in_ok-a.ensures.places in
    let same = (value_grown old.objects mid.objects (grown_by a old.objects mid.objects first.objects) c.args.rest c.requires.rest).1 in
    let refused : IsErr c.enter-2.result = search rules in
    let answer : IsErr c.from_residual-in_err-d.result = search rules in
    rest_refused old a d mid first.objects first.limit c.enter-2.new.arena c.enter-2.result c.from_residual-in_err-d.result refused answer (subst (λ (x : Object). Places mid c.enter-2.new.arena x c.enter-2.result) same c.enter-2.ensures.places)

pub returns-clause-places : goal.returns-clause-places
returns-clause-places c =
    let old = c.args.arena.now in
    let mid = c.enter.new.arena in
    let late = c.enter-2.new.arena in
    let a = value_object old.objects c.args.first in
    let d = value_object old.objects c.args.rest in
    let first = c.in_ok-a.ensures.places in
    let rest = c.in_ok-d.ensures.places in
    let same = (value_grown old.objects mid.objects (grown_by a old.objects mid.objects first.objects) c.args.rest c.requires.rest).1 in
    let made : AddsCellsOf d mid.objects late.objects = subst (λ (x : Object). AddsCellsOf x mid.objects late.objects) same rest.objects in
    let is_first : object_at late.objects c.in_ok-a.a ≡ a = (id_grown mid.objects late.objects (grown_by d mid.objects late.objects made) c.in_ok-a.a first.id.0).1 ∙ first.id.1 in
    let is_rest : object_at late.objects c.in_ok-d.d ≡ d = rest.id.1 ∙ same in
    cons_placed old a d mid first.objects first.limit late c.cons.new.self made rest.limit c.cons.result (subst (λ (x : Object). Interns late c.cons.new.self x c.cons.result) (λ i. Cons (is_first i) (is_rest i)) c.cons.ensures.interns)
