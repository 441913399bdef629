use Rattle.std.proofs.Common.{◌≡◌, ℕ, Bool, int_lt, ap, ◌∙◌}
use Rattle.bfr_store.proofs.Keeping.{keeps_then}
use Rattle.sym_bits.specs.Integers.{integer_under}
use Rattle.sym_bits.proofs.Calls.{makes_then, integer_kept}
use Rattle.sym_prims.proofs.Integers.{signed_by_length}
use Rattle.sym_prims.proofs.tests_of_integers.signed_byte.Goals as goal

pub returns : goal.returns
returns g c =
    let m = g.B.Meaning in
    let start = c.args.store.now in
    let made = c.in_ok-length.ensures.makes in
    record {
      makes = makes_then m start _ _ _ _ _ made.keeps c.less.ensures.makes (λ x.
          (λ i. int_lt (made.value x i) (integer_kept m start c.int_length.new.store made.keeps c.args.width.now x c.requires.width i))
          ∙ signed_by_length (integer_under m start c.args.width.now x) (integer_under m start c.args.a.now x));
    }
