use Rattle.std.proofs.Common.{◌≡◌, refl, rules, get_or, length, ◌<◌, ◌≤◌, arith}
use Rattle.gl_interp.proofs.GiveTurns.{turn_argument_at, turn_all}
use Rattle.gl_interp.proofs.TermsLeft.{terms_argument, terms_all}
use Rattle.gl_interp.proofs.Falling.{falls_all, falls_argument}
use Rattle.gl_interp.proofs.results.next.Goals as goal

pub returns-in_ok-push-clause-turn : goal.returns-in_ok-push-clause-turn
returns-in_ok-push-clause-turn g c ds =
    let u = c.index-terms-len.result in
    let less : length c.args.done.items < length c.args.terms.now = search rules in
    let is : get_or c.args.terms.now (length c.args.done.items) u ≡ u = search rules in
    turn_argument_at g.B.Meaning ds c.args.start c.args.path.now c.args.objs.now c.args.envs.now c.args.frames.now _ c.args.work c.args.done c.args.terms _ u c.args.env c.args.clock c.in_ok-push.ensures.ok c.requires.ready less refl is

pub returns-else-len-terms-clause-turn : goal.returns-else-len-terms-clause-turn
returns-else-len-terms-clause-turn g c ds =
    let all : length c.args.terms.now ≤ length c.args.done.items = search rules in
    turn_all g.B.Meaning ds c.args.start c.args.path.now c.args.objs.now c.args.envs.now c.args.frames.now c.args.work c.args.done c.args.terms c.args.env c.args.clock c.requires.ready all

pub returns-in_ok-push-clause-terms : goal.returns-in_ok-push-clause-terms
returns-in_ok-push-clause-terms g c ds =
    let u = c.index-terms-len.result in
    let less : length c.args.done.items < length c.args.terms.now = search rules in
    let is : get_or c.args.terms.now (length c.args.done.items) u ≡ u = search rules in
    terms_argument ds c.args.frames.now _ c.args.work c.args.done c.args.terms _ u c.args.env c.args.clock c.in_ok-push.ensures.ok less refl is

pub returns-else-len-terms-clause-terms : goal.returns-else-len-terms-clause-terms
returns-else-len-terms-clause-terms g c ds =
    let all : length c.args.terms.now ≤ length c.args.done.items = search rules in
    terms_all ds c.args.frames.now c.args.work c.args.done c.args.terms c.args.env c.args.clock (omega (arith, all, c.requires.ready.focus.2))

pub returns-in_ok-push-clause-falls : goal.returns-in_ok-push-clause-falls
returns-in_ok-push-clause-falls g c ds =
    let u = c.index-terms-len.result in
    let less : length c.args.done.items < length c.args.terms.now = search rules in
    let is : get_or c.args.terms.now (length c.args.done.items) u ≡ u = search rules in
    falls_argument ds c.args.frames.now _ c.args.work c.args.done c.args.terms u c.args.env c.args.clock c.in_ok-push.ensures.ok less is

pub returns-else-len-terms-clause-falls : goal.returns-else-len-terms-clause-falls
returns-else-len-terms-clause-falls g c ds = falls_all ds c.args.frames.now c.args.work c.args.done c.args.terms c.args.env c.args.clock
