use Rattle.std.proofs.Common.{◌∙◌, ap, sym, ◌||◌}
use Rattle.std.specs.Prelude.{bytes_eq, codes}
use Rattle.std.specs.Option.{is_some}
use Rattle.gl_translate.specs.Heads.{macro_named}
use Rattle.gl_translate.proofs.Tables.{is_special}
use Rattle.gl_translate.proofs.words.is_special.Goals as goal

pub returns-else-same-2 : goal.returns-else-same-2
returns-else-same-2 c =
    let w = c.args.word.now in
    c.is_some.ensures
    ∙ (ap is_some c.macro_named.ensures
    ∙ sym (is_special w
    ∙ (ap (λ b. b || (bytes_eq w (codes "QUOTE") || is_some (macro_named w))) (sym c.same.ensures ∙ c.if-same.false)
    ∙ ap (λ b. b || is_some (macro_named w)) (sym c.same-else-same.ensures ∙ c.if-same-2.false))))
