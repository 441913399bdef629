use Rattle.std.proofs.Common.{◌≡◌, ℕ, ◌+◌, ◌^◌, ◌∷◌, ◌++◌, [], Bool, length, length-append, pos, ℤ, ◌+ℤ◌, ◌*ℤ◌, arith, ap, ◌∙◌, sym}
use Rattle.std.proofs.lemmas.List.Elements.{All-nil, All-push}
use Rattle.gl_logic.specs.TwosComplement.{digit}
use Rattle.sym_bits.specs.Columns.{onto, shifted}
use Rattle.sym_bits.specs.Integers.{AllLive, bits_under, integer_under}
use Rattle.sym_bits.proofs.Columns.{onto_push, shifted_none}
use Rattle.sym_bits.proofs.Landing.{times_none, one_zero}
use Rattle.sym_bits.proofs.lists.moved.Goals as goal

pub loop-init : goal.loop-init
loop-init g c =
    let s = c.args.store.now in
    record {
      live = rw c.new-zeros.ensures (All-nil (g.B.Meaning.live s));
      width = ap length c.new-zeros.ensures;
      value = λ x z. ap (λ es. onto (bits_under g.B.Meaning s es x) z) c.new-zeros.ensures ∙ times_none z;
    }

pub loop-preserved : goal.loop-preserved
loop-preserved g c =
    let s = c.args.store.now in
    let inv = c.loop.invariant in
    let ds = c.loop.zeros in
    let e = c.constant.result in
    record {
      live = rw c.push.ensures (All-push (g.B.Meaning.live s) ds e inv.live c.constant.ensures.live);
      width = ap length c.push.ensures ∙ omega (arith, length-append ds (e ∷ []), inv.width);
      value = λ x z.
          ap (λ es. onto (bits_under g.B.Meaning s es x) z) c.push.ensures
          ∙ (onto_push (λ d. g.B.Meaning.truth_of s d x) ds e z
          ∙ (ap (λ b. onto (bits_under g.B.Meaning s ds x) (digit b +ℤ (z +ℤ z))) (c.constant.ensures.truth x)
          ∙ (inv.value x (pos 0 +ℤ (z +ℤ z)) ∙ one_zero z c.loop.counter)));
    }

pub returns-clause-value : goal.returns-clause-value
returns-clause-value g c x =
    let s = c.args.store.now in
    let xs = bits_under g.B.Meaning s c.args.a.now x in
    let ended : c.loop.counter ≡ c.args.count = omega arith in
    c.append.ensures.value x ∙ (c.loop.invariant.value x (shifted xs 0) ∙ (λ i. shifted_none xs i *ℤ pos (2 ^ ended i)))
