use Rattle.std.proofs.Common.{rules, refl, IsErr}
use Rattle.fast_alists.proofs.Making.{alist_lives, extends_err, extends_second, extends_ok}
use Rattle.fast_alists.proofs.extend.extend.Goals as goal

pub returns-in_err-pair : goal.returns-in_err-pair
returns-in_err-pair c =
    let err : IsErr c.from_residual.result = search rules in
    extends_err c.args.arena.now c.cons.new.self c.cons.new.self c.args.key c.args.value c.args.alist c.args.key c.requires.key c.requires.value c.requires.alist _ c.from_residual.result refl err c.in_err-pair.ensures.interns

pub cons-requires-2 : goal.cons-requires-2
cons-requires-2 c = record {
  first = c.in_ok-pair.ensures.interns.id.0;
  rest = alist_lives c.args.arena.now c.cons.new.self c.cons.new.self c.args.key c.args.value c.args.alist c.in_ok-pair.pair c.requires.key c.requires.value c.requires.alist c.in_ok-pair.ensures.interns;
}

pub returns-in_err-list : goal.returns-in_err-list
returns-in_err-list c =
    let err : IsErr c.from_residual-in_err-list.result = search rules in
    extends_second c.args.arena.now c.cons.new.self c.cons-2.new.self c.args.key c.args.value c.args.alist c.in_ok-pair.pair c.requires.key c.requires.value c.requires.alist c.in_ok-pair.ensures.interns _ c.in_err-list.ensures.interns c.from_residual-in_err-list.result refl err

pub returns : goal.returns
returns c =
    extends_ok c.args.arena.now c.cons.new.self c.cons-2.new.self c.args.key c.args.value c.args.alist c.in_ok-pair.pair c.requires.key c.requires.value c.requires.alist c.in_ok-pair.ensures.interns c.in_ok-list.list c.in_ok-list.ensures.interns
