use Rattle.std.proofs.Common.{◌∙◌, ap, List}
use Rattle.hons_arena.specs.declared.id.Id.{Id}
use Rattle.std.specs.Map.{lookup}
use Rattle.memo_tables.specs.Calls.{Call}
use Rattle.memo_tables.specs.Keys.{call_eq}
use Rattle.memo_tables.proofs.tables.MemoTables.look.Goals as goal
use Rattle.memo_tables.proofs.Kept.{kept_exactly, none_exactly}

pub returns-clause-kept : goal.returns-clause-kept
returns-clause-kept c =
    kept_exactly c.args.self.now c.args.call.now c.copied.result (c.copied.ensures ∙ (c.get.ensures.value ∙ ap (λ (es : List (Call × Id)). lookup (call_eq c.args.call.now) es) c.self.view_is))

pub returns-clause-none : goal.returns-clause-none
returns-clause-none c =
    none_exactly c.args.self.now c.args.call.now c.copied.result (c.copied.ensures ∙ (c.get.ensures.value ∙ ap (λ (es : List (Call × Id)). lookup (call_eq c.args.call.now) es) c.self.view_is))
