use Rattle.std.proofs.Common.{◌∙◌, ap, List}
use Rattle.std.specs.Map.{lookup}
use Rattle.sym_objects.specs.declared.memo.Key.{Key}
use Rattle.sym_objects.specs.Keys.{key_eq}
use Rattle.sym_objects.proofs.Memoed.{found}
use Rattle.sym_objects.proofs.memo.Memo.look.Goals as goal

pub returns : goal.returns
returns g c =
    found c.args.self.now c.args.key c.copied.result (c.copied.ensures ∙ (c.get.ensures.value ∙ ap (λ (es : List (Key × g.row.V.Denot)). lookup (key_eq c.args.key) es) c.self.view_is))
