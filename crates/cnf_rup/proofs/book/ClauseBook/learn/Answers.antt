use Rattle.std.proofs.Common.{◌<◌, ◌^◌, ◌∙◌, ◌||◌, All, ap, sym, subst, arith, rules, length}
use Rattle.cnf_rup.specs.Books.{BookSeen, clauses_of}
use Rattle.cnf_rup.specs.Shown.{IsShown}
use Rattle.cnf_rup.specs.Marked.{AreWithin}
use Rattle.cnf_rup.proofs.Logs.{book-push, empty-push, within-push}
use Rattle.cnf_rup.proofs.book.ClauseBook.learn.Goals as goal

pub invariant_of-self-2 : goal.invariant_of-self-2
invariant_of-self-2 c =
    let old = c.self.inside.entries.items in
    let new = c.push_copy.new.entries.items in
    let pushed = c.in_ok-push_copy.ensures.ok in
    let room : length c.self.inside.entries.items < 4294967295 = subst (λ (b : BookSeen). length b.entries < 4294967295) (sym c.self.view_is) c.requires.room in
    let small : All (λ h. h < 2 ^ 32) c.args.hints.now = search rules in
    let shown : IsShown (clauses_of c.self.inside.entries.items) c.args.clause.now c.args.hints.now = search rules in
    let marks : AreWithin c.check.new.trail.room c.args.clause.now = search rules in (
      book-push old new c.self.inside.first (record { clause = c.args.clause.now; hints = c.args.hints.now }) pushed c.self.invariant.0 room c.requires.clause c.requires.hints small shown,
      empty-push old new c.self.inside.first (record { clause = c.args.clause.now; hints = c.args.hints.now }) pushed c.empty_with-self-inside.result (c.empty_with-self-inside.ensures ∙ ap (λ b. b || Rattle.cnf_rup.specs.Books.is_empty c.args.clause.now) c.self.invariant.1),
      within-push old new c.self.inside.first (record { clause = c.args.clause.now; hints = c.args.hints.now }) pushed c.self.inside.trail.room c.check.new.trail.room (omega arith) c.self.invariant.2 marks,
    )
