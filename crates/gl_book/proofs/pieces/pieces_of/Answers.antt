use Rattle.std.proofs.Common.{◌≡◌, ◌<◌, ◌+◌, sym, subst, arith}
use Rattle.gl_book.proofs.Shares.{Dealing, one_dealt, all_follow}
use Rattle.gl_book.proofs.pieces.pieces_of.Goals as goal

pub loop-k-preserved : goal.loop-k-preserved
loop-k-preserved c =
    let count = c.args.count in
    let parts = c.min-parts.result in
    subst (Dealing count parts (c.loop-k.k + 1)) (sym c.in_ok-push.ensures.items) (one_dealt count parts c.loop-k.k c.loop-k.pieces.items _ c.loop-k.invariant (record { first = c.share.ensures; end = c.share-in-loop-k.ensures }))

pub returns-clause-follow : goal.returns-clause-follow
returns-clause-follow c =
    let parts = c.min-parts.result in
    let some : 0 < parts = omega (arith, c.min-parts.ensures, c.requires.some, c.requires.one) in
    let all : c.loop-k.k ≡ parts = omega (arith, c.loop-k-test.false, c.loop-k.auto.k-end) in
    all_follow c.args.count parts c.loop-k.k c.loop-k.pieces.items some all c.loop-k.invariant
