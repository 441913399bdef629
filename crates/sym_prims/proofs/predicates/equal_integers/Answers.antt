use Rattle.std.proofs.Common.{◌≡◌, ℕ, Bool, refl, sym}
use Rattle.std.specs.Ordering.{int_eq}
use Rattle.gl_logic.specs.ObjectEq.{object_eq}
use Rattle.sym_bits.specs.Integers.{integer_under}
use Rattle.sym_objects.specs.Seen.{stands_for}
use Rattle.sym_prims.proofs.Leaving.{tells_lent}
use Rattle.sym_prims.proofs.predicates.equal_integers.Goals as goal

pub returns : goal.returns
returns g c =
    let m = g.B.Meaning in
    let old = c.args.objs.now in
    let bs = c.bits_of-first.result in
    let cs = c.bits_of-second.result in
    let same : (a : ℕ → Bool) → int_eq (integer_under m old.store bs a) (integer_under m old.store cs a) ≡ object_eq (stands_for m old c.args.x a) (stands_for m old c.args.y a) =
    λ a. (λ i. object_eq (sym (c.bits_of-first.ensures.bits.value a) i) (sym (c.bits_of-second.ensures.bits.value a) i)) in
    record {
      tells = tells_lent m old old c.store.result.now c.same.new.store c.same.result (λ s a. int_eq (integer_under m s bs a) (integer_under m s cs a)) (λ a. object_eq (stands_for m old c.args.x a) (stands_for m old c.args.y a)) refl c.store.ensures.now c.requires.whole c.same.ensures.makes same;
    }
