use Rattle.std.proofs.Common.{rules, ◌≡◌, IsSome, None}
use Rattle.fast_alists.specs.Tables.{SetsTable, table_in}
use Rattle.fast_alists.proofs.Agreeing.{agree_taken, no_table, has_some}
use Rattle.fast_alists.proofs.alists.FastAlists.table_to_extend.Goals as goal
use Rattle.fast_alists.proofs.alists.FastAlists.table_to_extend.Goals.{in-Some, in-None+in-Some-parts, in-None+in-None-parts}

pub returns-clause-agree : goal.returns-clause-agree
returns-clause-agree c =
    let sets : SetsTable c.args.self.now c.take.new.self c.args.alist None = search rules in
    agree_taken c.args.arena.now.objects c.args.self.now c.take.new.self c.args.alist sets c.requires.agree

pub returns-clause-left : goal.returns-clause-left
returns-clause-left c =
    let sets : SetsTable c.args.self.now c.take.new.self c.args.alist None = search rules in
    no_table c.args.self.now c.take.new.self c.args.alist sets

pub returns-clause-taken : goal.returns-clause-taken
returns-clause-taken c h =
    let held : c.take.result ≡ table_in c.args.self.now c.args.alist = search rules in
    let some : IsSome c.take.result = has_some c.args.self.now c.args.alist c.take.result held h in
    elim c.match-take.branch [
      | in-Some w ↦ search rules
      | in-None+in-Some-parts w ↦ search rules
      | in-None+in-None-parts w ↦ search rules
    ]
