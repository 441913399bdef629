use Rattle.std.proofs.Common.{sym, subst, List}
use Rattle.sym_objects.specs.declared.node.Node.{Node}
use Rattle.sym_objects.specs.declared.sob.Sob.{Sob}
use Rattle.sym_objects.specs.Seen.{IsLive}
use Rattle.sym_objects.specs.Truths.{IsChoiceOf, IsTruthOf, number_of, sob_of}
use Rattle.sym_objects.proofs.Memoed.{right_kept, right_put}
use Rattle.sym_objects.proofs.Truths.{truth_kept}
use Rattle.sym_objects.proofs.Walking.{turn_last}
use Rattle.sym_objects.proofs.truth.give.Goals as goal

pub returns-in_ok-keep-in-Some-clause-turn : goal.returns-in_ok-keep-in-Some-clause-turn
returns-in_ok-keep-in-Some-clause-turn g c =
    let old = c.args.objs.now in
    let new = c.choose.new.objs in
    turn_last (IsTruthOf g.B.Meaning old) (IsTruthOf g.B.Meaning new) (IsChoiceOf old.nodes) (IsChoiceOf new.nodes) (IsLive new) number_of
    (truth_kept g.B.Meaning old new c.choose.ensures.keeps) (λ a b k m. subst (λ (ns : List Node). IsChoiceOf ns a b k) (sym c.choose.ensures.nodes) m)
    c.args.frames.now c.args.frame.whole c.args.frame.first c.args.frame.second c.args.x c.args.frame.found c.in-Some.first c.args.e c.in_ok-made-in-Some.made c.in-Some.is c.in_ok-made-in-Some.ensures.truth

pub returns-in_ok-keep-in-Some-clause-memo : goal.returns-in_ok-keep-in-Some-clause-memo
returns-in_ok-keep-in-Some-clause-memo g c =
    let old = c.args.objs.now in
    let new = c.choose.new.objs in
    right_put sob_of (IsTruthOf g.B.Meaning new) c.args.memo.now c.keep.new.self c.key_of.result c.in_ok-made-in-Some.made c.in_ok-keep-in-Some.ensures
    (right_kept sob_of (IsTruthOf g.B.Meaning old) (IsTruthOf g.B.Meaning new) (truth_kept g.B.Meaning old new c.choose.ensures.keeps) c.args.memo.now c.requires.memo)
    (subst (λ (x : Sob). IsTruthOf g.B.Meaning new x c.in_ok-made-in-Some.made) (sym c.key_of.ensures) c.in_ok-made-in-Some.ensures.truth)
