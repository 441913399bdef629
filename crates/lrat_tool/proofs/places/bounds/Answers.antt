use Rattle.std.proofs.Common.{◌-◌, length, arith}
use Rattle.lrat_tool.proofs.Ids.{rises_at, rises_between}
use Rattle.lrat_tool.proofs.places.bounds.Goals.{then-behind-len, else-behind-len}
use Rattle.lrat_tool.proofs.places.bounds.Goals as goal

pub returns-then-last-id-clause-below : goal.returns-then-last-id-clause-below
returns-then-last-id-clause-below c =
    let ids = c.args.ids.now in
    λ k l. omega (arith, rises_between c.args.first ids k (length ids - 1) c.requires.rises (omega (arith, l)) (omega (arith, l)), c.from-last.ensures, c.if-last-id.true, l)

pub returns-then-ahead-len-clause-order : goal.returns-then-ahead-len-clause-order
returns-then-ahead-len-clause-order c =
    let ids = c.args.ids.now in
    elim c.if-behind-len.branch [
      | then-behind-len w ↦ omega (arith, rises_at c.args.first ids (length ids - 1) c.requires.rises (omega arith), c.from-last.ensures, c.if-last-id.false, c.from.ensures, w.low-is)
      | else-behind-len w ↦ omega (arith, w.low-is)
    ]

pub returns-then-ahead-len-clause-below : goal.returns-then-ahead-len-clause-below
returns-then-ahead-len-clause-below c =
    let ids = c.args.ids.now in
    elim c.if-behind-len.branch [
      | then-behind-len w ↦ (λ k l. omega (arith, rises_between c.args.first ids k (length ids - 1) c.requires.rises (omega (arith, l, w.low-is)) (omega arith), c.from-last.ensures, c.if-last-id.false, w.low-is, l))
      | else-behind-len w ↦ (λ k l. absurd (omega (arith, w.low-is, l)))
    ]

pub returns-then-ahead-len-clause-above : goal.returns-then-ahead-len-clause-above
returns-then-ahead-len-clause-above c = λ k m l. omega (arith, rises_at c.args.first c.args.ids.now k c.requires.rises l, c.from.ensures, m)

pub returns-else-ahead-len-clause-below : goal.returns-else-ahead-len-clause-below
returns-else-ahead-len-clause-below c =
    let ids = c.args.ids.now in
    elim c.if-behind-len.branch [
      | then-behind-len w ↦ (λ k l. omega (arith, rises_between c.args.first ids k (length ids - 1) c.requires.rises (omega (arith, l, w.low-is)) (omega arith), c.from-last.ensures, c.if-last-id.false, w.low-is, l))
      | else-behind-len w ↦ (λ k l. absurd (omega (arith, w.low-is, l)))
    ]
