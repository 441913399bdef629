use Rattle.std.proofs.Common.{sym, ◌∙◌, inr, refl, arith}
use Rattle.sat_core.proofs.Books.{refuted, decided-sometimes, none_charged}
use Rattle.sat_core.proofs.decide.decide_by.Goals as goal

pub returns-then-is_refuted-clause-never : goal.returns-then-is_refuted-clause-never
returns-then-is_refuted-clause-never c _ = refuted c.args.aig.now.nodes c.args.e c.args.book.now c.requires.book.extends c.if-is_refuted.ensures.follow (sym c.if-is_refuted.ensures.empty)

pub returns-then-known-clause-decided : goal.returns-then-known-clause-decided
returns-then-known-clause-decided c = decided-sometimes c.args.aig.now.nodes c.args.e c.args.left.now c.args.book.now 0 c.args.left.now c.requires.book (none_charged c.args.aig.now.nodes c.args.e c.args.left.now c.args.book.now c.requires.book).counted (inr refl) (sym c.if-is_refuted.ensures.empty)
