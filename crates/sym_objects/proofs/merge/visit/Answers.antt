use Rattle.std.proofs.Common.{rules, ◌≡◌, sym, subst}
use Rattle.sym_objects.specs.declared.merge.Both.{Both}
use Rattle.sym_objects.specs.Merging.{AreHalvesOf, AreLive, IsMergeOf, both_of, size_of_both}
use Rattle.sym_objects.proofs.Memoed.{right_kept, right_put}
use Rattle.sym_objects.proofs.Merging.{halves_kept, merge_equal, merge_kept}
use Rattle.sym_objects.proofs.Walking.{turn_give, turn_two}
use Rattle.sym_objects.proofs.merge.visit.Goals as goal

pub returns-then-eq-clause-turn : goal.returns-then-eq-clause-turn
returns-then-eq-clause-turn g c =
    let s = c.args.objs.now in
    let t = c.args.test in
    let same : c.args.key.first ≡ c.args.key.second = search rules in
    turn_give (IsMergeOf g.B.Meaning t s) (IsMergeOf g.B.Meaning t s) (AreHalvesOf s) (AreHalvesOf s) (AreLive s) size_of_both (λ k v r. r) (λ a b k m. m) c.args.frames.now c.args.key c.args.key.first
    (merge_equal g.B.Meaning t s c.args.key c.requires.live same)

pub returns-in-Some-clause-turn : goal.returns-in-Some-clause-turn
returns-in-Some-clause-turn g c =
    let s = c.args.objs.now in
    let t = c.args.test in
    turn_give (IsMergeOf g.B.Meaning t s) (IsMergeOf g.B.Meaning t s) (AreHalvesOf s) (AreHalvesOf s) (AreLive s) size_of_both (λ k v r. r) (λ a b k m. m) c.args.frames.now c.args.key c.in-Some.known
    (subst (λ (x : Both). IsMergeOf g.B.Meaning t s x c.in-Some.known) c.key_of.ensures (c.requires.memo c.key_of.result c.in-Some.known c.in-Some.ensures))

pub returns-in-Some-parts-clause-turn : goal.returns-in-Some-parts-clause-turn
returns-in-Some-parts-clause-turn g c =
    let s = c.args.objs.now in
    let t = c.args.test in
    let p = c.in-Some-parts.ensures in
    turn_two (IsMergeOf g.B.Meaning t s) (IsMergeOf g.B.Meaning t s) (AreHalvesOf s) (AreHalvesOf s) (AreLive s) size_of_both (λ k v r. r) (λ a b k m. m) c.args.frames.now c.push.new.self c.args.key c.in-Some-parts.halves.0 c.in-Some-parts.halves.1
    c.in_ok-push.ensures.ok p p.first p.first_falls p.second_falls

pub returns-clause-turn : goal.returns-clause-turn
returns-clause-turn g c =
    let s = c.args.objs.now in
    let new = c.leaf.new.objs in
    let t = c.args.test in
    turn_give (IsMergeOf g.B.Meaning t s) (IsMergeOf g.B.Meaning t new) (AreHalvesOf s) (AreHalvesOf new) (AreLive new) size_of_both
    (merge_kept g.B.Meaning t s new c.leaf.ensures.keeps c.requires.test) (halves_kept g.B.Meaning s new c.leaf.ensures.keeps) c.args.frames.now c.args.key c.in_ok-made.made c.in_ok-made.ensures.merge

pub returns-clause-memo : goal.returns-clause-memo
returns-clause-memo g c =
    let s = c.args.objs.now in
    let new = c.leaf.new.objs in
    let t = c.args.test in
    right_put both_of (IsMergeOf g.B.Meaning t new) c.args.memo.now c.keep.new.self c.key_of-2.result c.in_ok-made.made c.in_ok-keep.ensures
    (right_kept both_of (IsMergeOf g.B.Meaning t s) (IsMergeOf g.B.Meaning t new) (merge_kept g.B.Meaning t s new c.leaf.ensures.keeps c.requires.test) c.args.memo.now c.requires.memo)
    (subst (λ (x : Both). IsMergeOf g.B.Meaning t new x c.in_ok-made.made) (sym c.key_of-2.ensures) c.in_ok-made.ensures.merge)
