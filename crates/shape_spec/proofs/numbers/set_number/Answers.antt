use Rattle.std.proofs.Common.{◌∙◌, ap, ◌<◌, ◌/◌, ◌%◌, eqb, arith, length, below_more, false, get_or, get_or-set_other, get_or-set_same}
use Rattle.std.proofs.lemmas.List.{length-set}
use Rattle.shape_spec.proofs.Digits.{halved}
use Rattle.shape_spec.proofs.numbers.set_number.Goals as goal

pub loop-k-preserved : goal.loop-k-preserved
loop-k-preserved c =
    let a = c.loop-k.a in
    let k = c.loop-k.k in
    let within : k < length a = omega (arith, c.loop-k.invariant.width) in
    record {
      width = ap length c.set.ensures ∙ (length-set a k _ ∙ c.loop-k.invariant.width);
      rest = ap (λ n. n / 2) c.loop-k.invariant.rest ∙ halved c.args.number k;
      done = below_more _ _
          (λ j l. ap (λ bs. get_or bs j false) c.set.ensures ∙ (get_or-set_other a k j _ false (λ f. absurd (omega (arith, l, f))) ∙ c.loop-k.invariant.done j l))
          (ap (λ bs. get_or bs k false) c.set.ensures ∙ (get_or-set_same a k _ false within ∙ ap (λ n. eqb (n % 2) 1) c.loop-k.invariant.rest));
    }
