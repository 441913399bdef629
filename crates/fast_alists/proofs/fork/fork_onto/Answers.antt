use Rattle.std.proofs.Common.{rules, ◌∙◌, IsErr, IsErrOf}
use Rattle.hons_arena.specs.Ids.{object_at, ArePartsOf}
use Rattle.fast_alists.specs.declared.fault.AlistFault.TheVariants as fault
use Rattle.fast_alists.proofs.Making.{turn_adds, turn_err, turn_live, turn_same}
use Rattle.fast_alists.proofs.fork.fork_onto.Goals as goal

pub returns-in_err-forked-clause-makes : goal.returns-in_err-forked-clause-makes
returns-in_err-forked-clause-makes c =
    let l = c.loop-element in
    let objects = l.arena.objects in
    let parts : ArePartsOf objects (object_at objects l.list) c.in-Some.element c.in-Some.rest = search rules in
    let err : IsErr c.from_residual.result = search rules in
    let same : IsErrOf c.from_residual.result fault.Full → IsErrOf c.put_in_front.result fault.Full = λ e. search rules in
    turn_err c.args.arena.now l.arena c.put_in_front.new.arena c.args.alist c.args.ans l.list l.forked c.in-Some.element c.in-Some.rest parts c.put_in_front.result l.invariant.same c.put_in_front.ensures.makes l.invariant.adds l.invariant.limit c.from_residual.result err same

pub loop-element-preserved : goal.loop-element-preserved
loop-element-preserved c =
    let l = c.loop-element in
    let objects = l.arena.objects in
    let parts : ArePartsOf objects (object_at objects l.list) c.in-Some.element c.in-Some.rest = search rules in
    let g = c.in_ok-forked.ensures.makes in record {
      live = turn_live c.args.arena.now l.arena c.put_in_front.new.arena c.args.alist c.args.ans l.list l.forked c.in-Some.element c.in-Some.rest parts _ l.invariant.same g;
      same = turn_same c.args.arena.now l.arena c.put_in_front.new.arena c.args.alist c.args.ans l.list l.forked c.in-Some.element c.in-Some.rest parts _ l.invariant.same g c.in_ok-forked.forked g.id.1;
      adds = turn_adds c.args.arena.now l.arena c.put_in_front.new.arena c.args.alist c.args.ans l.list l.forked c.in-Some.element c.in-Some.rest parts _ l.invariant.same g l.invariant.adds;
      limit = g.limit ∙ l.invariant.limit;
      table = c.in_ok-forked.ensures.table;
    }

pub loop-element-smaller : goal.loop-element-smaller
loop-element-smaller c =
    let l = c.loop-element in
    let objects = l.arena.objects in
    let parts : ArePartsOf objects (object_at objects l.list) c.in-Some.element c.in-Some.rest = search rules in
    Rattle.fast_alists.proofs.Making.turn_smaller c.args.arena.now l.arena c.put_in_front.new.arena c.args.alist c.args.ans l.list l.forked c.in-Some.element c.in-Some.rest parts _ l.invariant.same c.in_ok-forked.ensures.makes
