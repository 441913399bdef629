use Rattle.std.proofs.Common.{◌∙◌, ap, sym, Some, rules, List, reverse}
use Rattle.gl_logic.specs.Object.{Object}
use Rattle.gl_logic.proofs.ProperLists.{elements_proper, elements_improper}
use Rattle.event_world.proofs.parts.Parts.of.Goals as goal

pub returns-then-is_nil : goal.returns-then-is_nil
returns-then-is_nil c = sym (elements_proper c.args.form.now (sym c.tail.ensures ∙ search (rules, c.is_nil.ensures.nil.0, c.if-is_nil.true)) ∙ ap (λ (es : List Object). Some (reverse es)) (sym c.elements.ensures))

pub returns-else-is_nil : goal.returns-else-is_nil
returns-else-is_nil c = sym (elements_improper c.args.form.now (λ h. absurd (let q = c.is_nil.ensures.nil.1 (c.tail.ensures ∙ h) in search (rules, q, c.if-is_nil.false))))
