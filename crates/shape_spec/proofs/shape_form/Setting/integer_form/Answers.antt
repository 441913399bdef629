use Rattle.std.proofs.Common.{◌≡◌, ◌∙◌, ap, sym, List, ℕ, None, Option, reverse, rules}
use Rattle.std.specs.Option.{option_map, option_and_then}
use Rattle.std.proofs.lemmas.Result.{err_from_is_err_and}
use Rattle.gl_logic.specs.Object.{Object, nil}
use Rattle.gl_logic.specs.Lists.{conses}
use Rattle.shape_spec.specs.ShapeSeen.{Integer}
use Rattle.gl_logic.specs.Wording.{all_meant}
use Rattle.shape_spec.specs.ShapeMeant.{index_meant, indices_meant}
use Rattle.shape_spec.specs.Gives.{taken, small_index, shape_left}
use Rattle.gl_logic.proofs.ProperLists.{elements_conses, improper_atom}
use Rattle.shape_spec.proofs.Fits.{gives_at, gives_err, refuses_none, small_all, integer_small}
use Rattle.shape_spec.proofs.shape_form.Setting.integer_form.Goals as goal

-- what is read is what the list means
same : (left : ℕ) (es : List Object) (t : Object) → t ≡ nil → taken left (option_map Integer (all_meant small_index (reverse es))) ≡ taken left (option_map Integer (indices_meant (conses es t)))
same left es t e =
    ap (λ (o : Option (List ℕ)). taken left (option_map Integer o)) (small_all (reverse es))
    ∙ (integer_small left (all_meant index_meant (reverse es))
    ∙ ap (λ (o : Option (List Object)). taken left (option_map Integer (option_and_then (all_meant index_meant) o))) (sym (elements_conses es t e)))

pub returns-then-not-is_nil : goal.returns-then-not-is_nil
returns-then-not-is_nil c =
    ap (λ (o : Option (List Object)). taken c.args.left (option_map Integer (option_and_then (all_meant index_meant) o)))
    (improper_atom c.args.rest.now c.args.tail.now c.requires (λ e. absurd (let q = c.is_nil.ensures.nil.1 e in search (rules, q, c.if-not-is_nil.true))))

pub returns-in_err-indices_of : goal.returns-in_err-indices_of
returns-in_err-indices_of c =
    let none = λ (e : all_meant small_index (reverse c.args.rest.now) ≡ None). sym (same c.args.left c.args.rest.now c.args.tail.now (search (rules, c.is_nil.ensures.nil.0, c.if-not-is_nil.false))) ∙ ap (λ (o : Option (List ℕ)). taken c.args.left (option_map Integer o)) e in
    gives_err shape_left c.from_residual.result c.in_err-indices_of.field-0.0 _ (err_from_is_err_and c.from_residual.result c.from_residual.ensures.1)
    (refuses_none c.in_err-indices_of.field-0.0 (all_meant small_index (reverse c.args.rest.now)) _ none c.in_err-indices_of.ensures)

pub returns : goal.returns
returns c =
    gives_at shape_left c.integer.result
    (ap (λ (o : Option (List ℕ)). taken c.args.left (option_map Integer o)) (sym c.in_ok-indices_of.ensures)
    ∙ same c.args.left c.args.rest.now c.args.tail.now (search (rules, c.is_nil.ensures.nil.0, c.if-not-is_nil.false)))
    c.integer.ensures
