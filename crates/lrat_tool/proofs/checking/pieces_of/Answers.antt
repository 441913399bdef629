use Rattle.std.proofs.Common.{List, sym, subst, refl}
use Rattle.lrat_tool.specs.Pieces.{Follow}
use Rattle.lrat_tool.specs.declared.piece.Piece.{Piece}
use Rattle.lrat_tool.proofs.Ranges.{follow_push}
use Rattle.lrat_tool.proofs.checking.pieces_of.Goals as goal

pub loop-done-preserved : goal.loop-done-preserved
loop-done-preserved c = record {
  order = c.behind_hints-next.ensures.end;
  follow = subst (λ (ps : List Piece). Follow 0 ps c.behind_hints-next.result) (sym c.in_ok-push.ensures.items) (follow_push 0 c.loop-done.first c.loop-done.pieces.items _ c.loop-done.invariant.follow refl);
}

pub returns : goal.returns
returns c = subst (λ (ps : List Piece). Follow 0 ps c.args.end) (sym c.in_ok-push-2.ensures.items) (follow_push 0 c.loop-done.first c.loop-done.pieces.items _ c.loop-done.invariant.follow refl)
