use Rattle.std.proofs.Common.{rules, ◌∙◌, IsErr}
use Rattle.lisp_eval.proofs.Entering.{id_grown, value_grown, grown_by, three_refused, first_adds, second_adds, third_adds}
use Rattle.lisp_eval.proofs.direct.ids_of.Goals as goal

pub returns-in_err-first : goal.returns-in_err-first
returns-in_err-first c =
    let p = c.enter.ensures.places in
    let refused : IsErr c.from_residual.result = search rules in
    three_refused c.args.given c.args.arena.now c.enter.new.arena c.from_residual.result refused (first_adds c.args.given c.args.arena.now c.enter.new.arena p.objects p.limit c.enter.ensures.whole)

pub returns-in_err-second : goal.returns-in_err-second
returns-in_err-second c =
    let old = c.args.arena.now in
    let mid = c.enter.new.arena in
    let p = c.enter.ensures.places in
    let q = c.enter-2.ensures.places in
    let refused : IsErr c.from_residual-in_err-second.result = search rules in
    let first = first_adds c.args.given old mid p.objects p.limit c.enter.ensures.whole in
    three_refused c.args.given old c.enter-2.new.arena c.from_residual-in_err-second.result refused (second_adds c.args.given old mid c.enter-2.new.arena first c.requires.second q.objects q.limit c.enter-2.ensures.whole)

pub returns-in_err-third : goal.returns-in_err-third
returns-in_err-third c =
    let old = c.args.arena.now in
    let mid = c.enter.new.arena in
    let late = c.enter-2.new.arena in
    let p = c.enter.ensures.places in
    let q = c.enter-2.ensures.places in
    let r = c.enter-3.ensures.places in
    let refused : IsErr c.from_residual-in_err-third.result = search rules in
    let first = first_adds c.args.given old mid p.objects p.limit c.enter.ensures.whole in
    let second = second_adds c.args.given old mid late first c.requires.second q.objects q.limit c.enter-2.ensures.whole in
    three_refused c.args.given old c.enter-3.new.arena c.from_residual-in_err-third.result refused (third_adds c.args.given old late c.enter-3.new.arena second c.requires.third r.objects r.limit c.enter-3.ensures.whole)

pub returns : goal.returns
returns c =
    let old = c.args.arena.now in
    let mid = c.enter.new.arena in
    let late = c.enter-2.new.arena in
    let new = c.enter-3.new.arena in
    let p = c.in_ok-first.ensures.places in
    let q = c.in_ok-second.ensures.places in
    let r = c.in_ok-third.ensures.places in
    let first = first_adds c.args.given old mid p.objects p.limit c.enter.ensures.whole in
    let second = second_adds c.args.given old mid late first c.requires.second q.objects q.limit c.enter-2.ensures.whole in
    let third = third_adds c.args.given old late new second c.requires.third r.objects r.limit c.enter-3.ensures.whole in
    let later = grown_by _ mid.objects late.objects q.objects in
    let last = grown_by _ late.objects new.objects r.objects in
    let a = id_grown mid.objects late.objects later c.in_ok-first.first p.id.0 in
    let b = id_grown late.objects new.objects last c.in_ok-first.first a.0 in
    let d = id_grown late.objects new.objects last c.in_ok-second.second q.id.0 in
    record {
      adds = third;
      ids = ((b.0, b.1 ∙ (a.1 ∙ p.id.1)), ((d.0, d.1 ∙ (q.id.1 ∙ (value_grown old.objects mid.objects first.grown c.args.given.second c.requires.second).1)), (r.id.0, r.id.1 ∙ (value_grown old.objects late.objects second.grown c.args.given.third c.requires.third).1)));
    }
