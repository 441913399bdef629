use Rattle.std.proofs.Common.{rules, ◌≡◌, refl, sym, subst, true, to_z-of_z, FitsSigned}
use Rattle.std.specs.Int.{w128}
use Rattle.gl_logic.specs.Object.{Object, Int}
use Rattle.gl_logic.specs.PrimValue.{prim_of, prim_value}
use Rattle.hons_arena.proofs.Placing.{adds_none}
use Rattle.int_prims.specs.Integers.{is_operation, integers_for}
use Rattle.lisp_eval.specs.Attempts.{Applies}
use Rattle.lisp_eval.specs.Outside.{value_object}
use Rattle.lisp_eval.proofs.PrimValues.{value_of_integers}
use Rattle.lisp_eval.proofs.applied.apply.Goals as goal

pub returns-in-Some : goal.returns-in-Some
returns-in-Some c =
    let objects = c.args.arena.now.objects in
    record {
      value = (c.in-Some.ensures.live objects, c.in-Some.ensures.value objects);
      objects = adds_none (prim_of c.args.prim (value_object objects c.args.x) (value_object objects c.args.y)) objects;
      limit = refl;
      whole = c.requires.whole;
      lacks = λ e. absurd cc;
    }

pub returns-in-Ok : goal.returns-in-Ok
returns-in-Ok c =
    let objects = c.args.arena.now.objects in
    let p = c.args.prim in
    let x = value_object objects c.args.x in
    let y = value_object objects c.args.y in
    let a = c.integer.result in
    let b = c.integer-then-is_operation.result in
    let operation : is_operation p ≡ true = search rules in
    let given : prim_value p (integers_for p a b) ≡ Int c.in-Ok.i = search rules in
    let is : prim_of p x y ≡ Int c.in-Ok.i = value_of_integers p x y a b c.in-Ok.i operation c.integer.ensures c.integer-then-is_operation.ensures given in
    let narrow : FitsSigned w128 c.in-Ok.i = search rules in
    let made : Applies (Int c.in-Ok.i) c.args.arena.now c.integer_value.new.arena c.integer_value.result = simp (to_z-of_z {w = w128} {z = c.in-Ok.i} narrow) at c.integer_value.ensures in
    subst (λ (z : Object). Applies z c.args.arena.now c.integer_value.new.arena c.integer_value.result) (sym is) made
