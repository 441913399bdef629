use Rattle.std.proofs.Common.{rules, arith, ◌≡◌, ◌-◌, Err, drop, take, length}
use Rattle.lisp_eval.proofs.Advancing.{first_of, first_of_apart, later_length, first_there, one_stops, later_live, later_entered}
use Rattle.lisp_eval.proofs.frameless.+enter_all.Goals as goal

pub returns-in_err-enter-in-len1-up : goal.returns-in_err-enter-in-len1-up
returns-in_err-enter-in-len1-up t c =
    let later = take (length c.args.locals.now - 1) (drop 1 c.args.locals.now) in
    let same = first_of_apart c.args.locals.now (omega (arith, c.in-len1-up.len_at_least)) in
    let e = c.in_err-enter-in-len1-up.field-0.0 in
    let is : c.from_residual.result ≡ Err e = search rules in
    one_stops c.args.locals.now (first_of c.args.locals.now) later same c.args.arena.now c.enter.new.arena c.args.env.now.items c.enter.new.env.items e c.from_residual.result is c.in_err-enter-in-len1-up.ensures

pub enter_all-requires : goal.enter_all-requires
enter_all-requires t c =
    let n = later_length c.args.locals.now (omega (arith, c.in-len1-up.len_at_least)) in
    let later = take (length c.args.locals.now - 1) (drop 1 c.args.locals.now) in
    let l = first_of c.args.locals.now in
    let same = first_of_apart c.args.locals.now (omega (arith, c.in-len1-up.len_at_least)) in
    let live = first_there c.args.arena.now.objects c.args.locals.now l later same c.requires.live in
    (omega (arith, n, c.decreases), (c.enter.ensures.adds.whole, later_live c.args.locals.now l later same c.args.arena.now c.enter.new.arena c.args.env.now.items c.enter.new.env.items live.1 c.in_ok-enter-in-len1-up.ensures))

pub enter-requires-clause-live : goal.enter-requires-clause-live
enter-requires-clause-live t c =
    let later = take (length c.args.locals.now - 1) (drop 1 c.args.locals.now) in
    let l = first_of c.args.locals.now in
    (first_there c.args.arena.now.objects c.args.locals.now l later (first_of_apart c.args.locals.now (omega (arith, c.in-len1-up.len_at_least))) c.requires.live).0

pub returns-in_ok-enter-in-len1-up : goal.returns-in_ok-enter-in-len1-up
returns-in_ok-enter-in-len1-up t c =
    let later = take (length c.args.locals.now - 1) (drop 1 c.args.locals.now) in
    let l = first_of c.args.locals.now in
    let same = first_of_apart c.args.locals.now (omega (arith, c.in-len1-up.len_at_least)) in
    let live = first_there c.args.arena.now.objects c.args.locals.now l later same c.requires.live in
    later_entered c.args.locals.now l later same c.args.arena.now c.enter.new.arena c.args.env.now.items c.enter.new.env.items live.1 c.in_ok-enter-in-len1-up.ensures c.enter_all.new.arena c.enter_all.new.env.items c.enter_all.result c.enter_all.ensures
