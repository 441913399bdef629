use Rattle.std.proofs.Common.{rules, arith, ◌-◌, FitsSigned, to_z, of_z, to_z-of_z}
use Rattle.std.specs.Int.{w64}
use Rattle.gl_logic.specs.TermOf.{term_of}
use Rattle.lisp_eval.proofs.IntegerGives.{unary_maybe, binary_maybe}
use Rattle.lisp_eval.proofs.integers.+integer_at_once.Goals as goal

pub unary-returns : goal.unary-returns
unary-returns t c =
    let a = c.in_ok-a.a in
    let fits : FitsSigned w64 a = search rules in
    unary_maybe c.args.locals.now c.args.prim (term_of c.args.term.now) c.args.left.now (c.args.left.now - 1) c.integer_at_once.new.left a (to_z w64 (of_z w64 a)) (to_z-of_z {w = w64} {z = a} fits)
    (omega (arith, c.if-left-eq0.false)) c.in_ok-a.ensures c.small_opposite.result c.small_opposite.ensures.value c.small_opposite.ensures.narrow

pub binary-returns : goal.binary-returns
binary-returns t c =
    let a = c.in_ok-a.a in
    let b = c.in_ok-b.b in
    let fits : FitsSigned w64 a = search rules in
    let other : FitsSigned w64 b = search rules in
    binary_maybe c.args.locals.now c.args.prim (term_of c.args.first.now) (term_of c.args.second.now) c.args.left.now (c.args.left.now - 1) c.integer_at_once.new.left c.integer_at_once-2.new.left
    a b (to_z w64 (of_z w64 a)) (to_z w64 (of_z w64 b)) (to_z-of_z {w = w64} {z = a} fits) (to_z-of_z {w = w64} {z = b} other)
    (omega (arith, c.if-left-eq0.false)) c.in_ok-a.ensures c.in_ok-b.ensures c.small_integer.result c.small_integer.ensures.value c.small_integer.ensures.narrow
