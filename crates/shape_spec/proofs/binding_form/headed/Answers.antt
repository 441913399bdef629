use Rattle.std.proofs.Common.{◌∙◌, sym, arith}
use Rattle.shape_spec.proofs.Fits.{gives_at}
use Rattle.shape_spec.proofs.BindingSteps.{backquoted, plainly_quoted, automatically, otherwise, form_nil}
use Rattle.shape_spec.proofs.binding_form.headed.Goals as goal

pub returns-then-is_backquote : goal.returns-then-is_backquote
returns-then-is_backquote c = gives_at (λ b. b) c.quoted.result (backquoted c.args.texts.now c.args.parts.now c.word-item.result c.in-len1-up.len_at_least c.word-item.is (sym c.is_backquote.ensures ∙ c.if-is_backquote.true)) c.quoted.ensures

pub returns-then-spells : goal.returns-then-spells
returns-then-spells c =
    gives_at (λ b. b) c.quoted-then-spells.result (plainly_quoted c.args.texts.now c.args.parts.now c.word-item.result c.in-len1-up.len_at_least c.word-item.is (sym c.is_backquote.ensures ∙ c.if-is_backquote.false) (sym c.spells.ensures ∙ c.if-spells.true)) c.quoted-then-spells.ensures

pub returns-then-spells-2 : goal.returns-then-spells-2
returns-then-spells-2 c =
    gives_at (λ b. b) c.automatic.result (automatically c.args.texts.now c.args.parts.now c.word-item.result c.in-len1-up.len_at_least c.word-item.is (sym c.is_backquote.ensures ∙ c.if-is_backquote.false) (sym c.spells.ensures ∙ c.if-spells.false) (sym c.spells-else-spells.ensures ∙ c.if-spells-2.true)) c.automatic.ensures

pub returns-else-spells-2 : goal.returns-else-spells-2
returns-else-spells-2 c = otherwise c.args.texts.now c.args.parts.now c.word-item.result c.in-len1-up.len_at_least c.word-item.is (sym c.is_backquote.ensures ∙ c.if-is_backquote.false) (sym c.spells.ensures ∙ c.if-spells.false) (sym c.spells-else-spells.ensures ∙ c.if-spells-2.false)

pub returns-in_default : goal.returns-in_default
returns-in_default c = form_nil c.args.texts.now c.args.parts.now (omega (arith, c.in_default.len_below))
