use Rattle.std.proofs.Common.{◌≡◌, ℕ, ◌+◌, ◌-◌, ◌++◌, ◌∷◌, [], ◌<◌, ◌≤◌, max, Bool, length, length-append, map, arith, ap, ◌∙◌, sym}
use Rattle.std.proofs.lemmas.List.Elements.{All-push}
use Rattle.sym_bits.specs.Columns.{onto, sign_value}
use Rattle.sym_bits.specs.Integers.{AllLive, bits_under}
use Rattle.sym_bits.proofs.Calls.{append_more, bits_length}
use Rattle.sym_bits.proofs.Columns.{shifted_past}
use Rattle.sym_bits.proofs.lists.append.Goals as goal

pub loop-k-preserved : goal.loop-k-preserved
loop-k-preserved g c =
    let inv = c.loop-k.invariant in
    let s = c.args.store.now in
    let ds = c.loop-k.digits in
    let d = c.bit.result in
    record {
      live = rw c.push.ensures (All-push (g.B.Meaning.live s) ds d inv.live c.bit.ensures.live);
      count = omega (arith, ap length c.push.ensures, length-append ds (d ∷ []), inv.count);
      most = omega (arith, c.loop-k-test.true);
      value = λ x. append_more g.B.Meaning s ds _ d x (bits_under g.B.Meaning s c.args.a.now x) c.loop-k.k _ c.push.ensures (c.bit.ensures.truth x) (inv.value x);
    }

pub returns-clause-value : goal.returns-clause-value
returns-clause-value g c x =
    let s = c.args.store.now in
    let xs = bits_under g.B.Meaning s c.args.a.now x in
    let n = bits_length g.B.Meaning s c.args.a.now x in
    c.finish.ensures.value (λ e. g.B.Meaning.truth_of s e x)
    ∙ (ap (onto (bits_under g.B.Meaning s c.loop-k.digits x)) (ap sign_value (c.bit-2.ensures.truth x) ∙ sym (shifted_past xs c.loop-k.k (c.len-last.result - 1) (omega (arith, n)) (omega (arith, n)) (omega (arith, n))))
    ∙ c.loop-k.invariant.value x)
