use Rattle.std.proofs.Common.{◌≡◌, ℕ, ◌+◌, ◌-◌, ◌<◌, Bool, length, arith}
use Rattle.gl_logic.specs.TwosComplement.{bit_of}
use Rattle.sym_bits.specs.Integers.{AllLive, bits_under}
use Rattle.sym_bits.proofs.Reading.{bit_below, bit_above}
use Rattle.sym_bits.proofs.lists.bit.Goals as goal

pub returns-then-k-last-clause-truth : goal.returns-then-k-last-clause-truth
returns-then-k-last-clause-truth g c x = bit_below (λ e. g.B.Meaning.truth_of c.args.store.now e x) c.args.a.now c.args.k _ (omega arith) c.at.ensures

pub returns-else-k-last-clause-truth : goal.returns-else-k-last-clause-truth
returns-else-k-last-clause-truth g c x = bit_above (λ e. g.B.Meaning.truth_of c.args.store.now e x) c.args.a.now c.args.k (c.len-last.result - 1) _ (omega arith) (omega arith) c.at-else-k-last.ensures
