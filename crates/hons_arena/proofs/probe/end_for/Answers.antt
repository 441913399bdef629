use Rattle.std.proofs.Common.{arith, ◌≡◌, ◌∙◌, ap, length, ℕ}
use Rattle.hons_arena.specs.Hash.{home_of, home_at}
use Rattle.hons_arena.proofs.Marks.{first_empty, somewhere_free}
use Rattle.hons_arena.proofs.Newest.{newest_absent, newest_free}
use Rattle.hons_arena.proofs.probe.end_for.Goals as goal

pub first_free-requires-clause-somewhere : goal.first_free-requires-clause-somewhere
first_free-requires-clause-somewhere c = somewhere_free c.args.cells.now c.args.slots.now c.args.fingerprints.now c.requires.marked c.home.result c.requires.table c.requires.room c.home.ensures.within

pub returns-then-has_newest_part : goal.returns-then-has_newest_part
returns-then-has_newest_part c =
    let cells = c.args.cells.now in
    let slots = c.args.slots.now in
    let h : ℕ = c.home.result in
    let home : h ≡ home_of (length slots) c.args.cell = c.home.ensures.home ∙ ap (home_at (length slots)) c.requires.hash in
    (newest_absent cells c.args.cell c.requires.interned (c.has_newest_part.ensures c.if-has_newest_part.true), omega (arith, c.first_free.ensures.within, c.requires.marked.size), newest_free cells slots c.args.cell h c.first_free.result c.requires.table home (first_empty cells slots c.args.fingerprints.now c.requires.marked h c.first_free.result c.home.ensures.within c.first_free.ensures.first))
