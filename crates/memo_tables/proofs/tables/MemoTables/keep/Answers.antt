use Rattle.std.proofs.Common.{rules, ◌≡◌, sym, ◌∙◌, ap, subst, List, ◌++◌, [], ◌∷◌}
use Rattle.hons_arena.specs.declared.id.Id.{Id}
use Rattle.indexmap.specs.IndexMap.{insert_entry}
use Rattle.memo_tables.specs.Calls.{Call, IsKept, IsEachOnce}
use Rattle.memo_tables.specs.Keys.{call_eq}
use Rattle.memo_tables.proofs.tables.MemoTables.keep.Goals as goal
use Rattle.memo_tables.proofs.Kept.{put_last, once_more}

not_kept : (c : goal.In_ok-insert) → IsKept c.self.inside.kept.entries c.args.call → ⊥
not_kept c = subst (λ (es : List (Call × Id)). IsKept es c.args.call → ⊥) (sym c.self.view_is) c.requires

entries_are : (c : goal.In_ok-insert) → c.insert.new.self.entries ≡ insert_entry call_eq c.self.inside.kept.entries c.args.call c.args.value
entries_are c = search rules

pub invariant_of-self-2 : goal.invariant_of-self-2
invariant_of-self-2 c =
    subst IsEachOnce (sym (entries_are c ∙ put_last c.self.inside.kept.entries c.args.call c.args.value (not_kept c)))
    (once_more c.self.inside.kept.entries c.args.call c.args.value c.self.invariant (not_kept c))

pub returns-clause-kept : goal.returns-clause-kept
returns-clause-kept c =
    entries_are c ∙ (put_last c.self.inside.kept.entries c.args.call c.args.value (not_kept c) ∙ ap (λ (es : List (Call × Id)). es ++ (c.args.call, c.args.value) ∷ []) c.self.view_is)
