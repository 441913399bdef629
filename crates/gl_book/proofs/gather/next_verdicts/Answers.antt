use Rattle.std.proofs.Common.{◌+◌, ◌∷◌, [], ap, sym, subst, length, length-append, List, arith}
use Rattle.gl_decide.specs.declared.verdict.Verdict.{Verdict}
use Rattle.gl_book.proofs.Gathered.{Taking, taking_next}
use Rattle.gl_book.proofs.gather.next_verdicts.Goals as goal

pub loop-preserved : goal.loop-preserved
loop-preserved c =
    let n = c.args.count in
    let given = c.args.given.now.items in
    let i = c.loop.counter in
    let left = c.next_verdict.new.given.items in
    record {
      taking = subst (λ (vs : List Verdict). Taking n given (i + 1) vs left) (sym c.in_ok-push.ensures.items) (taking_next n given i c.loop.verdicts.items c.loop.given.items c.next_verdict.result left c.loop-test.true c.loop.invariant.taking c.next_verdict.ensures);
      many = let m = c.loop.invariant.many in let l = ap length c.in_ok-push.ensures.items in omega (arith, m, l, length-append c.loop.verdicts.items (c.next_verdict.result ∷ []));
    }
