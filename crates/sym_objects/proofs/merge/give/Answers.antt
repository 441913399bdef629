use Rattle.std.proofs.Common.{sym, subst}
use Rattle.sym_objects.specs.declared.merge.Both.{Both}
use Rattle.sym_objects.specs.Merging.{AreHalvesOf, AreLive, IsMergeOf, both_of, size_of_both}
use Rattle.sym_objects.proofs.Memoed.{right_kept, right_put}
use Rattle.sym_objects.proofs.Merging.{first_is, halves_kept, merge_kept, second_is}
use Rattle.sym_objects.proofs.Walking.{turn_last}
use Rattle.sym_objects.proofs.merge.give.Goals as goal

pub joined-requires-clause-first : goal.joined-requires-clause-first
joined-requires-clause-first g c = first_is g.B.Meaning c.args.test c.args.objs.now c.args.frame.first c.args.frame.second c.args.key c.args.frame.found c.in-Some.first c.requires.next c.in-Some.is

pub joined-requires-clause-second : goal.joined-requires-clause-second
joined-requires-clause-second g c = second_is g.B.Meaning c.args.test c.args.objs.now c.args.frame.first c.args.frame.second c.args.key c.args.frame.found c.in-Some.first c.args.value c.requires.next c.in-Some.is c.requires.value

pub returns-in_ok-keep-in-Some-clause-turn : goal.returns-in_ok-keep-in-Some-clause-turn
returns-in_ok-keep-in-Some-clause-turn g c =
    let old = c.args.objs.now in
    let new = c.joined.new.objs in
    let kept = c.joined.ensures.keeps in
    turn_last (IsMergeOf g.B.Meaning c.args.test old) (IsMergeOf g.B.Meaning c.args.test new) (AreHalvesOf old) (AreHalvesOf new) (AreLive new) size_of_both
    (merge_kept g.B.Meaning c.args.test old new kept c.requires.test) (halves_kept g.B.Meaning old new kept)
    c.args.frames.now c.args.frame.whole c.args.frame.first c.args.frame.second c.args.key c.args.frame.found c.in-Some.first c.args.value c.in_ok-made-in-Some.made c.in-Some.is c.in_ok-made-in-Some.ensures.merge

pub returns-in_ok-keep-in-Some-clause-memo : goal.returns-in_ok-keep-in-Some-clause-memo
returns-in_ok-keep-in-Some-clause-memo g c =
    let old = c.args.objs.now in
    let new = c.joined.new.objs in
    right_put both_of (IsMergeOf g.B.Meaning c.args.test new) c.args.memo.now c.keep.new.self c.key_of.result c.in_ok-made-in-Some.made c.in_ok-keep-in-Some.ensures
    (right_kept both_of (IsMergeOf g.B.Meaning c.args.test old) (IsMergeOf g.B.Meaning c.args.test new) (merge_kept g.B.Meaning c.args.test old new c.joined.ensures.keeps c.requires.test) c.args.memo.now c.requires.memo)
    (subst (λ (x : Both). IsMergeOf g.B.Meaning c.args.test new x c.in_ok-made-in-Some.made) (sym c.key_of.ensures) c.in_ok-made-in-Some.ensures.merge)
