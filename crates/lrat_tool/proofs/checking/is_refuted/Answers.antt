use Rattle.std.proofs.Common.{◌≡◌, ◌∙◌, ap, sym, ℕ, ℤ, List, [], ◌-◌, suc, length, get_or, arith}
use Rattle.std.specs.Prelude.{◌==◌, nat_lt}
use Rattle.lrat_tool.specs.Ends.{to_empty}
use Rattle.lrat_tool.proofs.Judging.{empty_test, last_empty, no_clauses, to_empty_within}
use Rattle.lrat_tool.proofs.checking.is_refuted.Goals as goal

pub at-requires : goal.at-requires
at-requires c = omega (arith, c.requires, to_empty_within c.args.clauses.now.lists, c.if-end-gt0.true)

pub returns-then-end-gt0 : goal.returns-then-end-gt0
returns-then-end-gt0 c =
    let lists = c.args.clauses.now.lists in
    let some : to_empty lists ≡ suc (c.args.end - 1) = omega (arith, c.requires, c.if-end-gt0.true) in
    c.is_empty.ensures ∙ ap (λ (l : List ℤ). length l == 0) c.at.ensures ∙ empty_test (get_or lists (c.args.end - 1) []) ∙ last_empty lists (c.args.end - 1) some

pub returns-else-end-gt0 : goal.returns-else-end-gt0
returns-else-end-gt0 c =
    let none : c.args.end ≡ 0 = omega (arith, c.if-end-gt0.false) in
    ap (λ (n : ℕ). nat_lt 0 n) none ∙ sym (no_clauses c.args.clauses.now.lists (sym c.requires ∙ none))
