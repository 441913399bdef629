use Rattle.std.proofs.Common.{◌∙◌, ap, List}
use Rattle.std.specs.Map.{lookup}
use Rattle.sym_objects.specs.declared.sob.Sob.{Sob}
use Rattle.sym_prims.specs.declared.memo.Key.{Key}
use Rattle.sym_prims.specs.Keys.{key_eq}
use Rattle.sym_prims.proofs.Memoed.{found}
use Rattle.sym_prims.proofs.memo.Memo.look.Goals as goal

pub returns : goal.returns
returns c =
    found c.args.self.now c.args.key c.copied.result (c.copied.ensures ∙ (c.get.ensures.value ∙ ap (λ (es : List (Key × Sob)). lookup (key_eq c.args.key) es) c.self.view_is))
