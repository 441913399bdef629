use Rattle.std.proofs.Common.{◌≡◌, ℕ, ℤ, List, [], ◌∷◌, ◌++◌, get_or, pos, rules, FitsSigned, w32, to_z-of_z}
use Rattle.std.proofs.lemmas.Option.{slice_get-get_or}
use Rattle.sexp_print.specs.Printed.{BeginsWith}
use Rattle.sexp_print.proofs.Begins.{begins_trans}
use Rattle.lrat_tool.specs.Ranks.{ranked}
use Rattle.lrat_tool.proofs.Ranked.{ranked_more}
use Rattle.lrat_tool.proofs.ranks.Ranks.literals.Goals as goal

pub loop-literal-preserved : goal.loop-literal-preserved
loop-literal-preserved c =
    let items = c.args.literals.now in
    let i = c.loop-literal.literal-index in
    let literal : ℤ = get_or items i (pos 0) in
    let old = c.loop-literal.self in
    let new = c.literal.new.self in
    let fits : FitsSigned w32 literal = search rules in
    let one : (all : List ℕ) → BeginsWith new all → c.in_ok-literal.field-0 ≡ ranked all literal = simp to_z-of_z at c.in_ok-literal.ensures.ranked in
    let value = c.in_ok-literal.field-0 in
    let small : FitsSigned w32 value = search rules in
    let pushed : c.push.new.self.items ≡ c.loop-literal.ranked.items ++ value ∷ [] = simp to_z-of_z at c.in_ok-push.ensures.items in
    record {
      ranked = ranked_more old new items i literal c.in_ok-literal.field-0 c.loop-literal.ranked.items c.push.new.self.items c.literal.ensures.grows
          (slice_get-get_or items i (pos 0) c.loop-literal-test.true) c.loop-literal.invariant.ranked one pushed;
      grows = begins_trans c.args.self.now old new c.loop-literal.invariant.grows c.literal.ensures.grows;
    }
