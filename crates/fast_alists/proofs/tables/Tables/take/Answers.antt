use Rattle.std.proofs.Common.{rules, length, ◌≡◌, ◌∙◌, ap, sym, subst, true, false, None, Some, IfSome}
use Rattle.std.proofs.lemmas.List.{nil_from_length}
use Rattle.hons_arena.specs.HashedIds.{id_eq}
use Rattle.fast_alists.specs.Latest.{in_front, OthersLack}
use Rattle.fast_alists.specs.Tables.{SetsTable, table_in}
use Rattle.fast_alists.proofs.Keeping.{sets_none, sets_first, sets_other}
use Rattle.fast_alists.proofs.tables.Tables.take.Goals as goal
use Rattle.fast_alists.proofs.tables.Tables.take.Goals.{in_default-via-in-Some+else-eq, in_default-via-in_default}

pub returns-in-Some-clause-sets : goal.returns-in-Some-clause-sets
returns-in-Some-clause-sets c =
    let others = c.self.inside.others.entries in
    let is : c.self.inside.latest ≡ Some c.in-Some.latest = search rules in
    let same : id_eq c.args.list c.in-Some.latest.list ≡ true = search rules in
    let none : c.take.new.self ≡ None = search rules in
    let alone = subst (λ l. OthersLack l others) is c.self.invariant in
    let now = sym (ap (λ l. in_front l others) is) ∙ c.self.view_is in
    rw (none, ← now) (sets_first c.in-Some.latest others c.args.list same alone)

pub returns-in_default-clause-sets : goal.returns-in_default-clause-sets
returns-in_default-clause-sets c =
    let latest = c.in_default.self-inside.latest in
    let others = c.in_default.self-inside.others.entries in
    let other : IfSome latest (λ l. id_eq c.args.list l.list ≡ false) = elim c.in_default.branch [
      | in_default-via-in-Some+else-eq w ↦ search rules
      | in_default-via-in_default w ↦ search rules
    ] in
    let now : in_front latest others ≡ c.args.self.now = search rules in
    let length_zero : length others ≡ 0 = search rules in
    let none : table_in others c.args.list ≡ None = ap (λ ts. table_in ts c.args.list) (nil_from_length others length_zero) in
    rw (← now) (sets_other latest others others c.args.list other (sets_none others c.args.list none))

pub returns-in_default-2-clause-sets : goal.returns-in_default-2-clause-sets
returns-in_default-2-clause-sets c =
    let latest = c.in_default.self-inside.latest in
    let others = c.in_default.self-inside.others.entries in
    let other : IfSome latest (λ l. id_eq c.args.list l.list ≡ false) = elim c.in_default.branch [
      | in_default-via-in-Some+else-eq w ↦ search rules
      | in_default-via-in_default w ↦ search rules
    ] in
    let now : in_front latest others ≡ c.args.self.now = search rules in
    let sets : SetsTable others c.swap_remove.new.self.entries c.args.list None = search rules in
    rw (← now) (sets_other latest others c.swap_remove.new.self.entries c.args.list other sets)
