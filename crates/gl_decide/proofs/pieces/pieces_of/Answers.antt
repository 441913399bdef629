use Rattle.std.proofs.Common.{◌≡◌, ◌∙◌, ap, sym, refl, subst, arith, ◌*◌, ◌/◌, ◌+◌, ◌<◌, List}
use Rattle.gl_decide.specs.Pieces.{Follow}
use Rattle.gl_decide.specs.declared.piece.Piece.{Piece}
use Rattle.gl_decide.proofs.Ranges.{follow_push, all_parts}
use Rattle.gl_decide.proofs.pieces.pieces_of.Goals as goal

pub loop-k-preserved : goal.loop-k-preserved
loop-k-preserved c =
    let parts = c.min-parts.result in
    subst (λ (ps : List Piece). Follow 0 ps ((c.loop-k.k + 1) * c.args.count / parts)) (sym c.in_ok-push.ensures.items) (follow_push 0 (c.loop-k.k * c.args.count / parts) c.loop-k.pieces.items _ c.loop-k.invariant refl)

pub returns : goal.returns
returns c =
    let parts = c.min-parts.result in
    let some : 0 < parts = omega (arith, c.min-parts.ensures, c.requires.some, c.requires.one) in
    let all : c.loop-k.k ≡ parts = omega (arith, c.loop-k-test.false, c.loop-k.auto.k-end) in
    subst (Follow 0 c.loop-k.pieces.items) (ap (λ n. n * c.args.count / parts) all ∙ all_parts c.args.count parts some) c.loop-k.invariant
