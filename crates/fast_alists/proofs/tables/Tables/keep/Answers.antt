use Rattle.std.proofs.Common.{rules, ◌≡◌, sym, subst, ◌∷◌, None}
use Rattle.fast_alists.specs.Latest.{SameTables}
use Rattle.fast_alists.specs.Tables.{Agree}
use Rattle.fast_alists.proofs.Agreeing.{agree_taken, agree_kept}
use Rattle.fast_alists.proofs.Keeping.{agree_others, others_lack, sets_latest}
use Rattle.fast_alists.proofs.tables.Tables.keep.Goals as goal

pub returns-in_err-put_among-clause-agree : goal.returns-in_err-put_among-clause-agree
returns-in_err-put_among-clause-agree c objects table agree =
    let before = agree_taken objects c.args.self.now c.take.new.self c.args.list c.take.ensures.sets agree in
    let all = subst (Agree objects) (sym c.self.view_is) before in
    let none : c.take-before.new.self ≡ None = search rules in
    let kept : c.put_among.new.others.entries ≡ c.self.inside.others.entries = search rules in
    rw (none, kept) (agree_others objects c.self.inside.latest c.self.inside.others.entries c.self.invariant all)

pub invariant_of-self-2 : goal.invariant_of-self-2
invariant_of-self-2 c =
    let same : SameTables c.take.new.self c.put_among.new.others.entries = search rules in
    others_lack c.args.self.now c.take.new.self c.put_among.new.others.entries c.args.list c.take.ensures.sets same

pub returns-clause-sets : goal.returns-clause-sets
returns-clause-sets c =
    let same : SameTables c.take.new.self c.put_among.new.others.entries = search rules in
    sets_latest c.args.self.now c.take.new.self c.put_among.new.others.entries c.args.list c.args.table c.take.ensures.sets same

pub returns-clause-agree : goal.returns-clause-agree
returns-clause-agree c objects table agree =
    let same : SameTables c.take.new.self c.put_among.new.others.entries = search rules in
    let sets = sets_latest c.args.self.now c.take.new.self c.put_among.new.others.entries c.args.list c.args.table c.take.ensures.sets same in
    agree_kept objects c.args.self.now ((c.args.list, c.args.table) ∷ c.put_among.new.others.entries) c.args.list c.args.table sets table agree
