use Rattle.std.proofs.Common.{rules, ◌≡◌, ◌∙◌, ap, sym, subst, true, Some}
use Rattle.hons_arena.specs.HashedIds.{id_eq}
use Rattle.fast_alists.specs.Latest.{in_front, OthersLack}
use Rattle.fast_alists.specs.Tables.{PutsPair}
use Rattle.fast_alists.proofs.Keeping.{hands_on}
use Rattle.fast_alists.proofs.tables.Tables.hand_on.Goals as goal

pub returns-clause-handed : goal.returns-clause-handed
returns-clause-handed c _ =
    let others = c.self.inside.others.entries in
    let is : c.self.inside.latest ≡ Some c.in-Some.latest = search rules in
    let same : id_eq c.args.list c.in-Some.latest.list ≡ true = search rules in
    let alone = subst (λ l. OthersLack l others) is c.self.invariant in
    let now = sym (ap (λ l. in_front l others) is) ∙ c.self.view_is in
    let put : PutsPair c.in-Some.latest.table c.put.new.self c.args.key c.args.pair = search rules in
    rw (← now) (hands_on c.in-Some.latest others c.drop_among.new.others.entries c.args.list c.args.longer c.args.key c.args.pair c.put.new.self same alone put c.drop_among.ensures)
