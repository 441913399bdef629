use Rattle.std.proofs.Common.{◌∙◌, ap, sym, Some, rules, List, reverse}
use Rattle.gl_logic.specs.Object.{Object}
use Rattle.gl_logic.proofs.ProperLists.{proper, elements_proper, elements_improper}
use Rattle.gl_logic.proofs.wording.parts_of.Goals as goal

pub returns-then-is_nil-clause-proper : goal.returns-then-is_nil-clause-proper
returns-then-is_nil-clause-proper c = proper c.args.form.now c.elements.result.now (sym c.tail.ensures ∙ search (rules, c.is_nil.ensures.nil.0, c.if-is_nil.true)) c.elements.ensures

pub returns-then-is_nil-clause-elements : goal.returns-then-is_nil-clause-elements
returns-then-is_nil-clause-elements c = elements_proper c.args.form.now (sym c.tail.ensures ∙ search (rules, c.is_nil.ensures.nil.0, c.if-is_nil.true)) ∙ ap (λ (es : List Object). Some (reverse es)) (sym c.elements.ensures)

pub returns-else-is_nil-clause-elements : goal.returns-else-is_nil-clause-elements
returns-else-is_nil-clause-elements c = elements_improper c.args.form.now (λ h. absurd (let q = c.is_nil.ensures.nil.1 (c.tail.ensures ∙ h) in search (rules, q, c.if-is_nil.false)))
