use Rattle.std.proofs.Common.{rules, ◌≡◌, ◌<◌, ◌∙◌, ap, ℕ, List, length, take}
use Rattle.lrat_tool.specs.Formulas.{last_line}
use Rattle.lrat_tool.proofs.LongTexts.{too_long}
use Rattle.sexp_reader.proofs.Told.{takes_then, takes_all}
use Rattle.lrat_tool.proofs.read.read_text.Goals as goal

pub returns-then-count-eq0-clause-text : goal.returns-then-count-eq0-clause-text
returns-then-count-eq0-clause-text g c = takes_all _ _ _ _ c.loop-buffer.invariant.told c.in-Ok-read.ensures.end c.if-count-eq0.true

pub loop-buffer-preserved : goal.loop-buffer-preserved
loop-buffer-preserved g c = record {
  told = rw c.in-Ok-extend_from_slice.ensures.items (takes_then _ _ _ _ _ c.loop-buffer.invariant.told c.in-Ok-read.ensures.bytes);
  opened = c.in-Ok-read.ensures.open;
  stayed = c.in-Ok-read.ensures.cause.stayed ∙ c.loop-buffer.invariant.stayed;
  kept = λ other. c.in-Ok-read.ensures.kept other ∙ c.loop-buffer.invariant.kept other;
  sized = search rules;
}

pub returns-clause-long : goal.returns-clause-long
returns-clause-long g c =
    let bytes = c.loop-buffer.bytes.items in
    let long : 67108864 < length bytes = search rules in
    let is : c.line_behind.result ≡ last_line (take 67108864 bytes) = c.line_behind.ensures ∙ ap (λ (l : List ℕ). last_line (take 67108864 l)) c.deref.ensures.value in
    too_long 67108864 c.line_behind.result (g.S.Shelf.holds c.args.shelf.now c.args.name.now) (g.S.Shelf.rest c.loop-buffer.shelf) bytes c.loop-buffer.invariant.told long is
