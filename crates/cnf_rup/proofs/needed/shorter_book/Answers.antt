use Rattle.std.proofs.Common.{◌≡◌, ◌≤◌, ◌+◌, ◌-◌, true, length, slice_get, Some, sym, subst, rules, arith}
use Rattle.cnf_rup.specs.declared.clause.Entry.{Entry}
use Rattle.cnf_rup.specs.Literals.{IsClause}
use Rattle.cnf_rup.specs.Trimmed.{IsAlong}
use Rattle.cnf_rup.proofs.Sound.{All-at}
use Rattle.cnf_rup.proofs.Trims.{along_begin, along_push, along_skip}
use Rattle.cnf_rup.proofs.needed.shorter_book.Goals as goal

pub loop-place-init : goal.loop-place-init
loop-place-init c =
    let within : c.args.book.now.first ≤ length c.args.book.now.entries = omega (arith, c.first_count-place.ensures.first, c.first_count-place.ensures.within) in
    subst (IsAlong c.args.book.now c.in_ok-shorter.shorter) (sym c.first_count-place.ensures.first)
    (along_begin c.args.book.now c.in_ok-shorter.shorter within c.in_ok-shorter.ensures)

pub loop-place-preserved-then-not-needed-place : goal.loop-place-preserved-then-not-needed-place
loop-place-preserved-then-not-needed-place c =
    along_skip c.args.book.now c.loop-place.shorter c.loop-place.place c.entry-entry.result.now c.loop-place.invariant
    (subst (λ i. slice_get c.args.book.now.entries i ≡ Some c.entry-entry.result.now) (omega arith) c.entry-entry.ensures)

pub learn_again-requires-clause-clause : goal.learn_again-requires-clause-clause
learn_again-requires-clause-clause c = All-at (λ (e : Entry). IsClause e.clause) c.args.book.now.entries (c.loop-place.place + 1 - 1) c.entry-entry.result.now c.count-place-end.ensures.book.clauses c.entry-entry.ensures

pub loop-place-preserved : goal.loop-place-preserved
loop-place-preserved c =
    let taken : c.in_ok-learn_again.field-0 ≡ true = search rules in
    along_push c.args.book.now c.loop-place.shorter c.learn_again.new.shorter c.loop-place.place c.entry-entry.result.now c.loop-place.invariant
    (subst (λ i. slice_get c.args.book.now.entries i ≡ Some c.entry-entry.result.now) (omega arith) c.entry-entry.ensures) (c.in_ok-learn_again.ensures taken)
