use Rattle.std.proofs.Common.{◌≡◌, ◌∙◌, ap, subst, refl, rules, [], ◌∷◌, ◌++◌, Ok, Result}
use Rattle.lrat_tool.specs.Parts.{IsJoined}
use Rattle.lrat_tool.specs.declared.bad_text.BadText.{BadText}
use Rattle.lrat_tool.specs.declared.part_log.PartLog.{PartLog}
use Rattle.lrat_tool.proofs.Joined.{joined_all, joined_next, joined_none, last_read}
use Rattle.lrat_tool.proofs.joining.joined.Goals as goal

pub loop-read-init : goal.loop-read-init
loop-read-init c = λ parts many each. joined_none c.args.first parts c.args.reads.items _ many each (([], refl, c.in-Ok.ensures c.args.first), refl)

pub loop-read-preserved : goal.loop-read-preserved
loop-read-preserved c =
    let first = c.args.first in
    let part = c.in-Ok-read.part in
    let new = c.append.new.whole in
    let popped : c.loop-read.reads.items ≡ c.pop.new.self.items ++ Ok part ∷ [] = c.in-Some.ensures.items ∙ ap (λ (r : Result PartLog BadText). c.pop.new.self.items ++ r ∷ []) c.in-Ok-read.is in
    λ parts many each. joined_next first parts c.loop-read.reads.items c.pop.new.self.items part c.loop-read.whole new popped (c.loop-read.invariant parts many each)
    (λ ls ms h g. subst (IsJoined first (ls ++ ms) new) c.in-Ok-true.field-0-test (c.in-Ok-true.ensures ls ms h g))

pub append-requires : goal.append-requires
append-requires c =
    let given = c.requires in
    let part = c.in-Ok-read.part in
    let popped : c.loop-read.reads.items ≡ c.pop.new.self.items ++ Ok part ∷ [] = c.in-Some.ensures.items ∙ ap (λ (r : Result PartLog BadText). c.pop.new.self.items ++ r ∷ []) c.in-Ok-read.is in
    last_read c.args.first given.0 c.loop-read.reads.items c.pop.new.self.items part c.loop-read.whole popped (c.loop-read.invariant given.0 given.1 given.2)

pub returns : goal.returns
returns c = λ parts many each. joined_all c.args.first parts c.loop-read.reads.items c.loop-read.whole (search rules) (c.loop-read.invariant parts many each)
