use Rattle.std.proofs.Common.{rules, ◌≡◌, length, ◌∙◌}
use Rattle.hons_arena.proofs.Entering.{count_is, whole_from}
use Rattle.hons_arena.proofs.arena.HonsArena.count.Goals as goal

pub returns-clause-count : goal.returns-clause-count
returns-clause-count c =
    let many : c.len.result ≡ length c.self.inside.cells.items = search rules in
    many ∙ count_is c.self.inside.limit c.self.inside.cells.items c.args.self.now c.self.invariant.interned c.self.view_is

pub returns-clause-whole : goal.returns-clause-whole
returns-clause-whole c = whole_from c.self.inside.limit c.self.inside.cells.items c.args.self.now c.self.invariant.interned c.self.invariant.few c.self.view_is
