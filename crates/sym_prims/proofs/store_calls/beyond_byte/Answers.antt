use Rattle.std.proofs.Common.{◌≡◌, ℕ, Bool, not, pos, refl, sym, ◌∙◌, ap}
use Rattle.std.specs.Ordering.{int_eq}
use Rattle.sym_bits.specs.Columns.{shifted}
use Rattle.sym_bits.specs.Integers.{bits_under, integer_under}
use Rattle.sym_prims.proofs.Leaving.{tells_lent}
use Rattle.sym_prims.proofs.store_calls.beyond_byte.Goals as goal

pub returns : goal.returns
returns g c =
    let m = g.B.Meaning in
    let old = c.args.objs.now in
    let lent = c.store.result.now in
    record {
      tells = tells_lent m old old c.store-2.result.now c.is_nonzero.new.store c.is_nonzero.result (λ s a. not (int_eq (integer_under m s c.above-rest.result a) (pos 0)))
          (λ a. not (int_eq (shifted (bits_under m old.store c.args.bits.now a) 8) (pos 0))) refl (c.store-2.ensures.now ∙ c.store.ensures.now) c.requires.whole c.is_nonzero.ensures.makes
          (λ a. ap (λ z. not (int_eq z (pos 0)))
          (ap (λ s. integer_under m s c.above-rest.result a) (sym c.store.ensures.now) ∙ (c.above-rest.ensures.value a ∙ ap (λ s. shifted (bits_under m s c.args.bits.now a) 8) c.store.ensures.now)));
    }
