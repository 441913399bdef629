use Rattle.std.proofs.Common.{◌∙◌, sym, subst, false}
use Rattle.sym_objects.specs.declared.sob.Sob.{Sob}
use Rattle.sym_objects.specs.Arenas.{IsConsOf, IsConstantNode, IsIdOfNode}
use Rattle.sym_objects.specs.Seen.{stands_for}
use Rattle.sym_objects.specs.Truths.{number_of, sob_of}
use Rattle.sym_objects.proofs.Memoed.{right_kept}
use Rattle.sym_objects.proofs.ToArena.{extends_none, extends_by, id_stays, node_id, pair_of}
use Rattle.sym_objects.proofs.Walking.{turn_give, turn_two}
use Rattle.sym_objects.proofs.arenas.visit.Goals as goal

pub returns-in-Some-clause-turn : goal.returns-in-Some-clause-turn
returns-in-Some-clause-turn g c =
    let s = c.args.objs.now in
    let h = c.args.arena.now in
    turn_give (IsIdOfNode g.B.Meaning s h) (IsIdOfNode g.B.Meaning s h) (IsConsOf g.B.Meaning s) (IsConsOf g.B.Meaning s) (IsConstantNode g.B.Meaning s) number_of (λ k v r. r) (λ a b k m. m) c.args.frames.now c.args.x c.in-Some.known
    (subst (λ (x : Sob). IsIdOfNode g.B.Meaning s h x c.in-Some.known) c.key_of.ensures (c.requires.memo c.key_of.result c.in-Some.known c.in-Some.ensures))

pub returns-in-Some-clause-extends : goal.returns-in-Some-clause-extends
returns-in-Some-clause-extends g c v = extends_none c.args.arena.now (stands_for g.B.Meaning c.args.objs.now c.args.x v) c.requires.held

pub returns-in_ok-push-in-Pair-clause-turn : goal.returns-in_ok-push-in-Pair-clause-turn
returns-in_ok-push-in-Pair-clause-turn g c =
    let s = c.args.objs.now in
    let h = c.args.arena.now in
    let t = c.in-Pair in
    let m : IsConsOf g.B.Meaning s t.first t.second c.args.x = pair_of g.B.Meaning s t.first t.second c.args.x c.requires.node t.ensures.proper t.ensures.constant t.ensures.means in
    turn_two (IsIdOfNode g.B.Meaning s h) (IsIdOfNode g.B.Meaning s h) (IsConsOf g.B.Meaning s) (IsConsOf g.B.Meaning s) (IsConstantNode g.B.Meaning s) number_of (λ k v r. r) (λ a b k n. n) c.args.frames.now c.push.new.self c.args.x t.first t.second
    c.in_ok-push-in-Pair.ensures.ok m m.first m.first_below m.second_below

pub returns-in_ok-push-in-Pair-clause-extends : goal.returns-in_ok-push-in-Pair-clause-extends
returns-in_ok-push-in-Pair-clause-extends g c v = extends_none c.args.arena.now (stands_for g.B.Meaning c.args.objs.now c.args.x v) c.requires.held

pub returns-in_err-push-in-Pair-clause-extends : goal.returns-in_err-push-in-Pair-clause-extends
returns-in_err-push-in-Pair-clause-extends g c v = extends_none c.args.arena.now (stands_for g.B.Meaning c.args.objs.now c.args.x v) c.requires.held

pub place_atom-requires-clause-atom : goal.place_atom-requires-clause-atom
place_atom-requires-clause-atom g c a d e = c.in_default.not-Pair a d (sym c.inner.ensures.node ∙ e)

pub returns-in_ok-place_atom-in_default-clause-turn : goal.returns-in_ok-place_atom-in_default-clause-turn
returns-in_ok-place_atom-in_default-clause-turn g c =
    let s = c.args.objs.now in
    let h = c.args.arena.now in
    let new = c.place_atom.new.arena in
    let id = c.in_ok-place_atom-in_default.field-0 in
    turn_give (IsIdOfNode g.B.Meaning s h) (IsIdOfNode g.B.Meaning s new) (IsConsOf g.B.Meaning s) (IsConsOf g.B.Meaning s) (IsConstantNode g.B.Meaning s) number_of
    (id_stays g.B.Meaning s h new (stands_for g.B.Meaning s c.args.x (λ n. false)) (c.place_atom.ensures.places (λ n. false)).objects) (λ a b k m. m) c.args.frames.now c.args.x id
    (node_id g.B.Meaning s h new c.args.x id c.requires.node c.in_ok-place_atom-in_default.ensures.places)

pub returns-in_ok-place_atom-in_default-clause-extends : goal.returns-in_ok-place_atom-in_default-clause-extends
returns-in_ok-place_atom-in_default-clause-extends g c v =
    extends_by c.args.arena.now c.place_atom.new.arena (stands_for g.B.Meaning c.args.objs.now c.args.x v) c.place_atom.result (c.place_atom.ensures.places v) c.place_atom.ensures.whole

pub returns-in_ok-place_atom-in_default-clause-memo : goal.returns-in_ok-place_atom-in_default-clause-memo
returns-in_ok-place_atom-in_default-clause-memo g c =
    let s = c.args.objs.now in
    let h = c.args.arena.now in
    let new = c.place_atom.new.arena in
    right_kept sob_of (IsIdOfNode g.B.Meaning s h) (IsIdOfNode g.B.Meaning s new) (id_stays g.B.Meaning s h new (stands_for g.B.Meaning s c.args.x (λ n. false)) (c.place_atom.ensures.places (λ n. false)).objects) c.args.memo.now c.requires.memo

pub returns-in_err-place_atom-in_default-clause-extends : goal.returns-in_err-place_atom-in_default-clause-extends
returns-in_err-place_atom-in_default-clause-extends g c v =
    extends_by c.args.arena.now c.place_atom.new.arena (stands_for g.B.Meaning c.args.objs.now c.args.x v) c.place_atom.result (c.place_atom.ensures.places v) c.place_atom.ensures.whole

pub returns-in_err-place_atom-in_default-clause-lacks : goal.returns-in_err-place_atom-in_default-clause-lacks
returns-in_err-place_atom-in_default-clause-lacks g c e v = (c.in_err-place_atom-in_default.ensures.places v).lacks
