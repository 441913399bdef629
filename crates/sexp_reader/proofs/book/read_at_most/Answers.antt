use Rattle.std.proofs.Common.{rules, ◌∙◌}
use Rattle.sexp_reader.proofs.Told.{takes_then, takes_all}
use Rattle.sexp_reader.proofs.book.read_at_most.Goals as goal

pub returns-then-count-eq0-clause-whole : goal.returns-then-count-eq0-clause-whole
returns-then-count-eq0-clause-whole g c = takes_all _ _ _ _ c.loop-buffer.invariant.told c.in-Ok-read.ensures.end c.if-count-eq0.true

pub loop-buffer-preserved : goal.loop-buffer-preserved
loop-buffer-preserved g c = record {
  told = rw c.in-Ok-extend_from_slice.ensures.items (takes_then _ _ _ _ _ c.loop-buffer.invariant.told c.in-Ok-read.ensures.bytes);
  opened = c.in-Ok-read.ensures.open;
  stayed = c.in-Ok-read.ensures.cause.stayed ∙ c.loop-buffer.invariant.stayed;
  kept = λ other. c.in-Ok-read.ensures.kept other ∙ c.loop-buffer.invariant.kept other;
  sized = search rules;
}
