use Rattle.std.proofs.Common.{◌≡◌, ℕ, Bool, not, pos, ap, ◌∙◌}
use Rattle.std.specs.Ordering.{int_eq}
use Rattle.bfr_store.proofs.Keeping.{keeps_then}
use Rattle.sym_bits.specs.Integers.{integer_under}
use Rattle.sym_bits.proofs.Comparing.{xor_zero}
use Rattle.sym_bits.proofs.comparisons.same.Goals as goal

pub returns : goal.returns
returns g c =
    let start = c.args.store.now in
    let first = c.in_ok-difference.ensures.makes in
    let second = c.in_ok-is_different.ensures.makes in
    record {
      makes = record {
        keeps = keeps_then g.B.Meaning start _ _ first.keeps second.keeps;
        live = c.not.ensures.live;
        truth = λ x. c.not.ensures.truth x ∙ (ap not (second.truth x ∙ ap (λ i. not (int_eq i (pos 0))) (first.value x))
            ∙ xor_zero (integer_under g.B.Meaning start c.args.a.now x) (integer_under g.B.Meaning start c.args.b.now x));
        full = tt;
      };
    }
