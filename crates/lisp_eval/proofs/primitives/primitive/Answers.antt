use Rattle.std.proofs.Common.{rules, refl, ◌≡◌, ap, subst, true, Result, Ok, Err, IsErr}
use Rattle.gl_logic.specs.Object.{Int, Cons}
use Rattle.gl_logic.specs.PrimValue.{prim_of, prim_value}
use Rattle.hons_arena.specs.declared.id.Full.{Full}
use Rattle.hons_arena.specs.declared.id.Id.{Id}
use Rattle.hons_arena.specs.Held.{Interns}
use Rattle.hons_arena.specs.Ids.{object_at}
use Rattle.int_prims.specs.Integers.{is_operation, integers_for, IsTooWide}
use Rattle.lisp_eval.specs.declared.primitives.PrimFault.TheVariants as fault
use Rattle.lisp_eval.proofs.PrimValues.{value_of_integers, gives_ok, gives_err, gives_wide}
use Rattle.lisp_eval.proofs.primitives.primitive.Goals as goal

pub returns-in_err-int-in-Ok : goal.returns-in_err-int-in-Ok
returns-in_err-int-in-Ok c =
    let x = object_at c.args.arena.now.objects c.args.x in
    let y = object_at c.args.arena.now.objects c.args.y in
    let operation : is_operation c.args.prim ≡ true = search rules in
    let given : prim_value c.args.prim (integers_for c.args.prim c.integer_at-a.result c.integer_at-b.result) ≡ Int c.in-Ok.i = search rules in
    let value : prim_of c.args.prim x y ≡ Int c.in-Ok.i = value_of_integers c.args.prim x y c.integer_at-a.result c.integer_at-b.result c.in-Ok.i operation c.integer_at-a.ensures c.integer_at-b.ensures given in
    let full : c.from_residual.result ≡ Err fault.Full = search rules in
    let interns : Interns c.args.arena.now c.int.new.self (Int c.in-Ok.i) c.int.result = search rules in
    let err : IsErr c.int.result = search rules in
    gives_err c.args.arena.now c.int.new.self (prim_of c.args.prim x y) (Int c.in-Ok.i) refl c.int.result c.from_residual.result value err full interns

pub returns-in_ok-int-in-Ok : goal.returns-in_ok-int-in-Ok
returns-in_ok-int-in-Ok c =
    let x = object_at c.args.arena.now.objects c.args.x in
    let y = object_at c.args.arena.now.objects c.args.y in
    let operation : is_operation c.args.prim ≡ true = search rules in
    let given : prim_value c.args.prim (integers_for c.args.prim c.integer_at-a.result c.integer_at-b.result) ≡ Int c.in-Ok.i = search rules in
    let value : prim_of c.args.prim x y ≡ Int c.in-Ok.i = value_of_integers c.args.prim x y c.integer_at-a.result c.integer_at-b.result c.in-Ok.i operation c.integer_at-a.ensures c.integer_at-b.ensures given in
    let given_back : Interns c.args.arena.now c.int.new.self (Int c.in-Ok.i) c.int.result = search rules in
    let ok : c.int.result ≡ Ok c.in_ok-int-in-Ok.field-0 = search rules in
    let interns : Interns c.args.arena.now c.int.new.self (Int c.in-Ok.i) (Ok c.in_ok-int-in-Ok.field-0) = subst (λ (r : Result Id Full). Interns c.args.arena.now c.int.new.self (Int c.in-Ok.i) r) ok given_back in
    gives_ok c.args.arena.now c.int.new.self (prim_of c.args.prim x y) (Int c.in-Ok.i) c.in_ok-int-in-Ok.field-0 value refl interns

pub returns-in_ok-cons-in-Cons : goal.returns-in_ok-cons-in-Cons
returns-in_ok-cons-in-Cons c =
    let x = object_at c.args.arena.now.objects c.args.x in
    let y = object_at c.args.arena.now.objects c.args.y in
    gives_ok c.args.arena.now c.cons.new.self (prim_of c.args.prim x y) (Cons x y) c.in_ok-cons-in-Cons.field-0 (ap (λ p. prim_of p x y) c.in-Cons.is) refl c.in_ok-cons-in-Cons.ensures.interns

pub returns-in-Err : goal.returns-in-Err
returns-in-Err c =
    let x = object_at c.args.arena.now.objects c.args.x in
    let y = object_at c.args.arena.now.objects c.args.y in
    let operation : is_operation c.args.prim ≡ true = search rules in
    let wide : IsTooWide (prim_value c.args.prim (integers_for c.args.prim c.integer_at-a.result c.integer_at-b.result)) = search rules in
    gives_wide c.args.arena.now c.args.prim x y c.integer_at-a.result c.integer_at-b.result operation c.integer_at-a.ensures c.integer_at-b.ensures wide
