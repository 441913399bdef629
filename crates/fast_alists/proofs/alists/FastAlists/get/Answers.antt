use Rattle.std.proofs.Common.{rules, ◌≡◌, Some}
use Rattle.fast_alists.specs.Tables.{table_in}
use Rattle.fast_alists.proofs.Agreeing.{get_from}
use Rattle.fast_alists.proofs.alists.FastAlists.get.Goals as goal

pub returns-in-Some-clause-pair : goal.returns-in-Some-clause-pair
returns-in-Some-clause-pair c =
    let objects = c.args.arena.now.objects in
    let held : table_in c.args.self.now c.args.alist ≡ Some c.in-Some.table.now = search rules in
    (get_from objects c.is_live-key_is_live.ensures.whole.ids c.args.alist c.args.key c.in-Some.table.now (c.requires.agree c.args.alist c.in-Some.table.now held) c.requires.key c.pair.result c.pair.ensures).0
