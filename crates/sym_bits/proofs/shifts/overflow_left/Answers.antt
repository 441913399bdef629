use Rattle.std.proofs.Common.{◌≡◌, ℕ, Bool, cond, not, pos, ℤ, ap, ◌∙◌, sym}
use Rattle.std.specs.Ordering.{int_eq}
use Rattle.bfr_store.proofs.Keeping.{keeps_then}
use Rattle.sym_bits.specs.Integers.{integer_under}
use Rattle.sym_bits.proofs.Calls.{integer_kept, makes_then}
use Rattle.sym_bits.proofs.shifts.overflow_left.Goals as goal

pub returns : goal.returns
returns g c =
    let m = g.B.Meaning in
    let start = c.args.store.now in
    let first = c.fits.new.store in
    let second = c.is_nonzero.new.store in
    let within = c.in_ok-within.ensures.makes in
    let moves = c.in_ok-is_moved.ensures.makes in
    let kept = keeps_then m start first second within.keeps moves.keeps in
    record {
      makes = makes_then m start second _ _ _ _ kept c.choose.ensures.makes (λ x. λ i. cond
          (kept.same c.args.near x c.requires.near i)
          ((moves.keeps.same c.not-leaves.result x c.not-leaves.ensures.live ∙ (c.not-leaves.ensures.truth x ∙ ap not (within.truth x))) i)
          ((moves.truth x ∙ ap (λ z. not (int_eq z (pos 0))) (integer_kept m start first within.keeps c.args.a.now x c.requires.a)) i));
    }
