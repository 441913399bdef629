use Rattle.std.proofs.Common.{subst}
use Rattle.lrat_tool.specs.Parts.{ArePut}
use Rattle.lrat_tool.proofs.Joined.{log_behind}
use Rattle.lrat_tool.proofs.joining.append.Goals as goal

pub returns : goal.returns
returns c =
    let old = c.args.whole.now in
    let new = c.put_entries.new.log in
    log_behind c.args.first old c.args.next.now _
    (λ es ds h g. subst (ArePut c.args.first es ds old.lines new) c.if-not-branch.false (c.in_ok-put_entries.ensures es ds h g))
    c.in-Some.ensures.1
