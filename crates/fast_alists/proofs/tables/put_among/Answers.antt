use Rattle.std.proofs.Common.{rules, ◌≡◌, Some}
use Rattle.fast_alists.specs.Tables.{SetsTable}
use Rattle.fast_alists.proofs.Keeping.{same_put}
use Rattle.fast_alists.proofs.tables.put_among.Goals as goal

pub returns-in_ok-insert-clause-ok : goal.returns-in_ok-insert-clause-ok
returns-in_ok-insert-clause-ok c =
    let before = c.in-Some.before in
    let is : c.args.latest ≡ Some before = search rules in
    let sets : SetsTable c.args.others.now.entries c.insert.new.self.entries before.list (Some before.table) = search rules in
    rw is (same_put before c.args.others.now.entries c.insert.new.self.entries sets)
