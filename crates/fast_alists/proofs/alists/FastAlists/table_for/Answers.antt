use Rattle.std.proofs.Common.{rules, None}
use Rattle.fast_alists.specs.Tables.{SetsTable}
use Rattle.fast_alists.proofs.Agreeing.{agree_taken}
use Rattle.fast_alists.proofs.alists.FastAlists.table_for.Goals as goal

pub returns-clause-agree : goal.returns-clause-agree
returns-clause-agree c =
    let sets : SetsTable c.args.self.now c.take.new.self c.args.alist None = search rules in
    agree_taken c.args.arena.now.objects c.args.self.now c.take.new.self c.args.alist sets c.requires.agree
