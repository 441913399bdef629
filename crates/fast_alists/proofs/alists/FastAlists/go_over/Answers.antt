use Rattle.std.proofs.Common.{rules, ◌≡◌, sym, subst, Some}
use Rattle.fast_alists.specs.Latest.{HandsOn}
use Rattle.fast_alists.specs.Tables.{Agree, SetsTable}
use Rattle.fast_alists.proofs.Agreeing.{agree_handed, handed_over, table_of_longer, taken_over}
use Rattle.fast_alists.proofs.alists.FastAlists.go_over.Goals as goal

pub returns-in_err-hand_on-clause-agree : goal.returns-in_err-hand_on-clause-agree
returns-in_err-hand_on-clause-agree c =
    let still : c.hand_on.new.self ≡ c.self.inside.tables = search rules in
    let now : c.self.inside.tables ≡ c.args.self.now = search rules in
    rw (still, now) c.requires.agree

pub returns-then-branch-clause-agree : goal.returns-then-branch-clause-agree
returns-then-branch-clause-agree c =
    let hands : HandsOn c.self.inside.tables c.hand_on.new.self c.args.alist c.args.longer.list c.args.key c.args.longer.pair = search rules in
    let agree : Agree c.args.arena.now.objects c.self.inside.tables = rw c.self.view_is c.requires.agree in
    agree_handed c.args.arena.now.objects c.args.key c.args.alist c.args.longer c.requires.longer c.self.inside.tables c.hand_on.new.self hands c.requires.whole.ids agree

pub returns-then-branch-clause-table : goal.returns-then-branch-clause-table
returns-then-branch-clause-table c =
    let hands : HandsOn c.args.self.now c.hand_on.new.self c.args.alist c.args.longer.list c.args.key c.args.longer.pair = search rules in
    handed_over c.args.arena.now.objects c.args.key c.args.alist c.args.longer c.requires.longer c.args.self.now c.hand_on.new.self hands

pub table_to_extend-requires-clause-agree : goal.table_to_extend-requires-clause-agree
table_to_extend-requires-clause-agree c =
    let still : c.hand_on.new.self ≡ c.args.self.now = search rules in
    rw still c.requires.agree

pub returns-in_err-keep-in-Some-clause-agree : goal.returns-in_err-keep-in-Some-clause-agree
returns-in_err-keep-in-Some-clause-agree c =
    let agree = subst (Agree c.args.arena.now.objects) (sym c.self-2.view_is) c.in-Some.ensures.agree in
    let table = table_of_longer c.args.arena.now.objects c.args.key c.args.alist c.args.longer c.requires.longer c.requires.whole.ids c.in-Some.table c.put.new.self c.in_ok-put-in-Some.ensures.ok c.in-Some.ensures.table in
    c.keep.ensures.agree c.args.arena.now.objects table agree

pub returns-in_ok-keep-in-Some-clause-agree : goal.returns-in_ok-keep-in-Some-clause-agree
returns-in_ok-keep-in-Some-clause-agree c =
    let agree = subst (Agree c.args.arena.now.objects) (sym c.self-2.view_is) c.in-Some.ensures.agree in
    let table = table_of_longer c.args.arena.now.objects c.args.key c.args.alist c.args.longer c.requires.longer c.requires.whole.ids c.in-Some.table c.put.new.self c.in_ok-put-in-Some.ensures.ok c.in-Some.ensures.table in
    c.keep.ensures.agree c.args.arena.now.objects table agree

pub returns-in_ok-keep-in-Some-clause-table : goal.returns-in_ok-keep-in-Some-clause-table
returns-in_ok-keep-in-Some-clause-table c =
    let sets : SetsTable c.table_to_extend.new.self c.keep.new.self c.args.longer.list (Some c.put.new.self) = search rules in
    taken_over c.args.self.now c.table_to_extend.new.self c.keep.new.self c.args.arena.now.objects c.args.alist c.args.longer.list _ c.put.new.self c.requires.longer.list c.table_to_extend.ensures.left sets
