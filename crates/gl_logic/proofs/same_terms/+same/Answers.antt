use Rattle.std.proofs.Common.{◌<◌, rules, length}
use Rattle.gl_logic.proofs.TermLists.{lengths_same, terms_at}
use Rattle.gl_logic.proofs.same_terms.+same.Goals as goal

pub all_same-returns-then-xs-ys : goal.all_same-returns-then-xs-ys
all_same-returns-then-xs-ys t c = (λ b. absurd cc, λ h. absurd (c.if-xs-ys.true (lengths_same c.args.xs.now c.args.ys.now h)))

pub all_same-returns-then-not-same : goal.all_same-returns-then-not-same
all_same-returns-then-not-same t c =
    let xs = c.args.xs.now in
    let ys = c.args.ys.now in
    let l : c.loop-i.i < length xs = search rules in
    let m : c.loop-i.i < length ys = search rules in (
      λ b. absurd cc,
      λ h. let e = c.same.ensures.1 (terms_at xs ys c.loop-i.i c.index-xs-i.result c.index-ys-i.result h l m c.index-xs-i.is c.index-ys-i.is) in search (rules, e),
    )
