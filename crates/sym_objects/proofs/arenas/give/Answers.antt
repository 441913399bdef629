use Rattle.std.proofs.Common.{sym, subst, false}
use Rattle.sym_objects.specs.declared.sob.Sob.{Sob}
use Rattle.sym_objects.specs.Arenas.{IsConsOf, IsConstantNode, IsIdOfNode}
use Rattle.sym_objects.specs.Seen.{stands_for}
use Rattle.sym_objects.specs.Truths.{number_of, sob_of}
use Rattle.sym_objects.proofs.Memoed.{right_kept, right_put}
use Rattle.sym_objects.proofs.ToArena.{extends_none, extends_by, id_stays, node_id}
use Rattle.sym_objects.proofs.Walking.{turn_last}
use Rattle.sym_objects.proofs.arenas.give.Goals as goal

pub returns-in_ok-push-in-None-clause-extends : goal.returns-in_ok-push-in-None-clause-extends
returns-in_ok-push-in-None-clause-extends g c v = extends_none c.args.arena.now (stands_for g.B.Meaning c.args.objs.now c.args.frame.whole v) c.requires.held

pub returns-in_err-push-in-None-clause-extends : goal.returns-in_err-push-in-None-clause-extends
returns-in_err-push-in-None-clause-extends g c v = extends_none c.args.arena.now (stands_for g.B.Meaning c.args.objs.now c.args.frame.whole v) c.requires.held

pub returns-in_ok-keep-in-Some-clause-extends : goal.returns-in_ok-keep-in-Some-clause-extends
returns-in_ok-keep-in-Some-clause-extends g c v =
    extends_by c.args.arena.now c.place_cons.new.arena (stands_for g.B.Meaning c.args.objs.now c.args.frame.whole v) c.place_cons.result (c.place_cons.ensures.places v) c.place_cons.ensures.whole

pub returns-in_err-keep-in-Some-clause-extends : goal.returns-in_err-keep-in-Some-clause-extends
returns-in_err-keep-in-Some-clause-extends g c v =
    extends_by c.args.arena.now c.place_cons.new.arena (stands_for g.B.Meaning c.args.objs.now c.args.frame.whole v) c.place_cons.result (c.place_cons.ensures.places v) c.place_cons.ensures.whole

pub returns-in_err-made-in-Some-clause-extends : goal.returns-in_err-made-in-Some-clause-extends
returns-in_err-made-in-Some-clause-extends g c v =
    extends_by c.args.arena.now c.place_cons.new.arena (stands_for g.B.Meaning c.args.objs.now c.args.frame.whole v) c.place_cons.result (c.place_cons.ensures.places v) c.place_cons.ensures.whole

pub returns-in_err-made-in-Some-clause-lacks : goal.returns-in_err-made-in-Some-clause-lacks
returns-in_err-made-in-Some-clause-lacks g c e v = (c.in_err-made-in-Some.ensures.places v).lacks

pub returns-in_ok-keep-in-Some-clause-turn : goal.returns-in_ok-keep-in-Some-clause-turn
returns-in_ok-keep-in-Some-clause-turn g c =
    let s = c.args.objs.now in
    let h = c.args.arena.now in
    let new = c.place_cons.new.arena in
    let f = c.args.frame in
    let made = c.in_ok-made-in-Some.made in
    turn_last (IsIdOfNode g.B.Meaning s h) (IsIdOfNode g.B.Meaning s new) (IsConsOf g.B.Meaning s) (IsConsOf g.B.Meaning s) (IsConstantNode g.B.Meaning s) number_of
    (id_stays g.B.Meaning s h new (stands_for g.B.Meaning s f.whole (λ n. false)) (c.place_cons.ensures.places (λ n. false)).objects) (λ a b k m. m)
    c.args.frames.now f.whole f.first f.second c.args.x f.found c.in-Some.first c.args.id made c.in-Some.is
    (node_id g.B.Meaning s h new f.whole made c.requires.cons.whole c.in_ok-made-in-Some.ensures.places)

pub returns-in_ok-keep-in-Some-clause-memo : goal.returns-in_ok-keep-in-Some-clause-memo
returns-in_ok-keep-in-Some-clause-memo g c =
    let s = c.args.objs.now in
    let h = c.args.arena.now in
    let new = c.place_cons.new.arena in
    let f = c.args.frame in
    let made = c.in_ok-made-in-Some.made in
    right_put sob_of (IsIdOfNode g.B.Meaning s new) c.args.memo.now c.keep.new.self c.key_of.result made c.in_ok-keep-in-Some.ensures
    (right_kept sob_of (IsIdOfNode g.B.Meaning s h) (IsIdOfNode g.B.Meaning s new) (id_stays g.B.Meaning s h new (stands_for g.B.Meaning s f.whole (λ n. false)) (c.place_cons.ensures.places (λ n. false)).objects) c.args.memo.now c.requires.memo)
    (subst (λ (x : Sob). IsIdOfNode g.B.Meaning s new x made) (sym c.key_of.ensures) (node_id g.B.Meaning s h new f.whole made c.requires.cons.whole c.in_ok-made-in-Some.ensures.places))
