use Rattle.std.proofs.Common.{◌≤◌, ◌∙◌, ◌++◌, length, map, take, sym, subst, refl, arith}
use Rattle.std.specs.List.{All}
use Rattle.lrat_tool.specs.Parts.{AreParts, lines_in, lines_joined}
use Rattle.lrat_tool.specs.Words.{lines_of}
use Rattle.lrat_tool.specs.declared.piece.Piece.{Piece}
use Rattle.lrat_tool.proofs.Cuts.{all_more, parts_all, parts_more}
use Rattle.lrat_tool.proofs.parts.parts_of.Goals.{then-cut-end+in_ok-push, else-cut-end}
use Rattle.lrat_tool.proofs.parts.parts_of.Goals as goal

pub loop-done-preserved : goal.loop-done-preserved
loop-done-preserved c =
    let text = c.args.text.now in
    let was = c.loop-done.invariant in
    elim c.if-cut-end.branch [
      | then-cut-end+in_ok-push w ↦
          let items = (λ i. (w.parts-is i).items) ∙ w.in_ok-push.ensures.items in
          record {
            end = omega (arith, w.end-is, c.cut_behind-cut.ensures.within, was.end);
            within = subst (All (λ (q : Piece). q.end ≤ length text)) (sym items) (all_more text c.loop-done.parts.items _ c.loop-done.end refl was.end was.within);
            lines = (λ i. lines_of (take (w.end-is i) text) ++ lines_joined (map (lines_in text) (items i)))
                ∙ parts_more text c.loop-done.parts.items _ c.loop-done.end refl was.end was.within c.cut_behind-cut.result w.if-cut-end.true (c.cut_behind-cut.ensures.line w.if-cut-end.true) refl was.lines;
          }
      | else-cut-end w ↦
          record {
            end = omega (arith, w.end-is, was.end);
            within = subst (All (λ (q : Piece). q.end ≤ length text)) (λ i. (sym w.parts-is i).items) was.within;
            lines = (λ i. lines_of (take (w.end-is i) text) ++ lines_joined (map (lines_in text) (w.parts-is i).items)) ∙ was.lines;
          }
    ]

pub returns : goal.returns
returns c =
    let text = c.args.text.now in
    let was = c.loop-done.invariant in
    subst (AreParts text) (sym c.in_ok-push-2.ensures.items)
    (all_more text c.loop-done.parts.items _ c.loop-done.end refl was.end was.within, parts_all text c.loop-done.parts.items _ c.loop-done.end refl was.end was.within refl was.lines)
