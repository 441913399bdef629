use Rattle.std.proofs.Common.{◌≡◌, ◌∙◌, ap, sym, length, cond, Bool, true, ℕ, get_or, List, Option, None, rules}
use Rattle.std.specs.Option.{option_and_then}
use Rattle.gl_logic.specs.Object.{Object, nil}
use Rattle.gl_logic.specs.Lists.{conses}
use Rattle.gl_logic.specs.Wording.{elements}
use Rattle.shape_spec.specs.ShapeMeant.{comma_of, call_of}
use Rattle.shape_spec.specs.Gives.{taken, shape_left}
use Rattle.shape_spec.proofs.Fits.{gives_at}
use Rattle.gl_logic.proofs.ProperLists.{elements_conses, improper_atom}
use Rattle.shape_spec.proofs.ShapeSteps.{no_comma, comma_at}
use Rattle.shape_spec.proofs.shape_form.Setting.comma.Goals as goal

pub returns-then-not-self : goal.returns-then-not-self
returns-then-not-self c = ap (λ (b : Bool). taken c.args.left (cond b (comma_of c.args.self.now.texts.now (elements (conses c.args.rest.now c.args.tail.now))) None)) c.if-not-self.true

pub returns-then-not-is_nil : goal.returns-then-not-is_nil
returns-then-not-is_nil c =
    ap (λ (b : Bool). taken c.args.left (cond b (comma_of c.args.self.now.texts.now (elements (conses c.args.rest.now c.args.tail.now))) None)) c.if-not-self.false
    ∙ ap (λ (o : Option (List Object)). taken c.args.left (comma_of c.args.self.now.texts.now o))
    (improper_atom c.args.rest.now c.args.tail.now c.requires (λ e. absurd (let q = c.is_nil.ensures.nil.1 e in search (rules, q, c.if-not-is_nil.true))))

pub returns-then-rest-ne1 : goal.returns-then-rest-ne1
returns-then-rest-ne1 c =
    ap (λ (b : Bool). taken c.args.left (cond b (comma_of c.args.self.now.texts.now (elements (conses c.args.rest.now c.args.tail.now))) None)) c.if-not-self.false
    ∙ (ap (λ (o : Option (List Object)). taken c.args.left (comma_of c.args.self.now.texts.now o)) (elements_conses c.args.rest.now c.args.tail.now (search (rules, c.is_nil.ensures.nil.0, c.if-not-is_nil.false)))
    ∙ ap (taken c.args.left) (no_comma c.args.self.now.texts.now c.args.rest.now c.if-rest-ne1.true))

-- behind a comma stands one call
call : (left : ℕ) (names : List (List ℕ)) (quasi : Bool) (es : List Object) (t x : Object) → quasi ≡ true → t ≡ nil → length es ≡ 1 → x ≡ get_or es 0 x
    → taken left (cond quasi (comma_of names (elements (conses es t))) None) ≡ taken left (option_and_then (call_of names) (elements x))
call left names quasi es t x q e h a = ap (λ (b : Bool). taken left (cond b (comma_of names (elements (conses es t))) None)) q ∙ ap (taken left) (comma_at names es t x e h a)

pub returns-in-Some : goal.returns-in-Some
returns-in-Some c =
    gives_at shape_left c.call.result
    (ap (λ (o : Option (List Object)). taken c.args.left (option_and_then (call_of c.args.self.now.texts.now) o)) (sym c.in-Some.ensures.elements)
    ∙ sym (call c.args.left c.args.self.now.texts.now c.args.self.now.quasi c.args.rest.now c.args.tail.now c.index-rest-0.result c.if-not-self.false (search (rules, c.is_nil.ensures.nil.0, c.if-not-is_nil.false)) c.if-rest-ne1.false c.index-rest-0.is))
    c.call.ensures

pub returns-in-None : goal.returns-in-None
returns-in-None c =
    call c.args.left c.args.self.now.texts.now c.args.self.now.quasi c.args.rest.now c.args.tail.now c.index-rest-0.result c.if-not-self.false (search (rules, c.is_nil.ensures.nil.0, c.if-not-is_nil.false)) c.if-rest-ne1.false c.index-rest-0.is
    ∙ ap (λ (o : Option (List Object)). taken c.args.left (option_and_then (call_of c.args.self.now.texts.now) o)) c.in-None.ensures.elements
