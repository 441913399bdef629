use Rattle.std.proofs.Common.{◌≡◌, ◌∙◌, ap, sym, Some, ◌++◌, rules, List, reverse}
use Rattle.gl_logic.specs.Object.{Object, nil}
use Rattle.gl_logic.specs.Lists.{conses, elements_of, tail_of}
use Rattle.gl_logic.proofs.Parts.{conses-whole}
use Rattle.gl_translate.specs.Steps.{means_of, bindings_of}
use Rattle.gl_translate.proofs.Forward.{elements_proper, elements_improper, meanings_proper, meanings_improper, bindings_proper, bindings_improper}
use Rattle.gl_translate.proofs.steps.parts_of.Goals as goal

proper : (x : Object) (es : List Object) → tail_of x ≡ nil → es ≡ elements_of x → x ≡ conses es nil
proper x es e is = sym (conses-whole x) ∙ (ap (conses (elements_of x)) e ∙ ap (λ (ys : List Object). conses ys nil) (sym is))

pub returns-then-is_nil-clause-proper : goal.returns-then-is_nil-clause-proper
returns-then-is_nil-clause-proper c = proper c.args.form.now c.elements.result.now (sym c.tail.ensures ∙ search (rules, c.is_nil.ensures.nil.0, c.if-is_nil.true)) c.elements.ensures

pub returns-then-is_nil-clause-meanings : goal.returns-then-is_nil-clause-meanings
returns-then-is_nil-clause-meanings c s = meanings_proper s c.args.form.now (sym c.tail.ensures ∙ search (rules, c.is_nil.ensures.nil.0, c.if-is_nil.true)) ∙ ap (λ es. Some (means_of s es)) (sym c.elements.ensures)

pub returns-then-is_nil-clause-bindings : goal.returns-then-is_nil-clause-bindings
returns-then-is_nil-clause-bindings c s = bindings_proper s c.args.form.now (sym c.tail.ensures ∙ search (rules, c.is_nil.ensures.nil.0, c.if-is_nil.true)) ∙ ap (λ es. Some (bindings_of s es)) (sym c.elements.ensures)

pub returns-else-is_nil-clause-meanings : goal.returns-else-is_nil-clause-meanings
returns-else-is_nil-clause-meanings c s = meanings_improper s c.args.form.now (λ h. absurd (let q = c.is_nil.ensures.nil.1 (c.tail.ensures ∙ h) in search (rules, q, c.if-is_nil.false)))

pub returns-else-is_nil-clause-bindings : goal.returns-else-is_nil-clause-bindings
returns-else-is_nil-clause-bindings c s = bindings_improper s c.args.form.now (λ h. absurd (let q = c.is_nil.ensures.nil.1 (c.tail.ensures ∙ h) in search (rules, q, c.if-is_nil.false)))

pub returns-then-is_nil-clause-elements : goal.returns-then-is_nil-clause-elements
returns-then-is_nil-clause-elements c = elements_proper c.args.form.now (sym c.tail.ensures ∙ search (rules, c.is_nil.ensures.nil.0, c.if-is_nil.true)) ∙ ap (λ (es : List Object). Some (reverse es)) (sym c.elements.ensures)

pub returns-else-is_nil-clause-elements : goal.returns-else-is_nil-clause-elements
returns-else-is_nil-clause-elements c = elements_improper c.args.form.now (λ h. absurd (let q = c.is_nil.ensures.nil.1 (c.tail.ensures ∙ h) in search (rules, q, c.if-is_nil.false)))
