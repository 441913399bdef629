use Rattle.std.proofs.Common.{◌∙◌, ap, sym, get_or, [], ◌∷◌, Some, arith}
use Rattle.std.proofs.lemmas.List.{get_or_default}
use Rattle.std.proofs.lemmas.Result.{err_from_is_err_and}
use Rattle.gl_logic.specs.Object.{Object}
use Rattle.shape_spec.specs.ShapeOf.{shape_of}
use Rattle.shape_spec.specs.ShapeMeant.{shape_meant}
use Rattle.shape_spec.specs.BindingsMeant.{entry_of}
use Rattle.shape_spec.specs.Gives.{taken, entry_within, entry_left}
use Rattle.shape_spec.proofs.Fits.{gives_err, refuses_none}
use Rattle.shape_spec.proofs.BindingSteps.{no_entry, two_entry, shape_entry, no_shape_entry, kind_symbol, other_variable}
use Rattle.shape_spec.proofs.binding_form.listed_entry.Goals as goal

pub returns-then-parts-ne2 : goal.returns-then-parts-ne2
returns-then-parts-ne2 c = ap (entry_within c.args.left) (no_entry c.args.setting.now.texts.now c.args.setting.now.quasi c.args.parts.now c.if-parts-ne2.true)

pub returns-in_default : goal.returns-in_default
returns-in_default c =
    let names = c.args.setting.now.texts.now in
    let quasi = c.args.setting.now.quasi in
    let v = c.index-parts-1.result in
    let x = get_or c.args.parts.now 0 v in
    ap (entry_within c.args.left) (two_entry names quasi c.args.parts.now v x c.if-parts-ne2.false c.index-parts-1.is (get_or_default c.args.parts.now 0 v x (omega (arith, c.if-parts-ne2.false))) ∙ other_variable names quasi v x (λ t e. c.in_default.not-Symbol t (c.kind.ensures ∙ e)))

pub returns-in_err-shape : goal.returns-in_err-shape
returns-in_err-shape c =
    let names = c.args.setting.now.texts.now in
    let quasi = c.args.setting.now.quasi in
    let x = c.index-parts-0.result in
    let named = kind_symbol c.index-parts-1.result c.in-Symbol.name (sym c.kind.ensures ∙ c.in-Symbol.is) in
    let whole = two_entry names quasi c.args.parts.now c.index-parts-1.result x c.if-parts-ne2.false c.index-parts-1.is c.index-parts-0.is ∙ ap (λ (v : Object). entry_of names quasi (Some (v ∷ x ∷ []))) named in
    gives_err entry_left c.from_residual.result c.in_err-shape.field-0.0 _ (err_from_is_err_and c.from_residual.result c.from_residual.ensures.1)
    (refuses_none c.in_err-shape.field-0.0 (taken c.args.left (shape_meant names quasi x)) _
    (λ e. ap (entry_within c.args.left) whole ∙ no_shape_entry c.args.left c.in-Symbol.name.number (shape_meant names quasi x) e) c.in_err-shape.ensures)

pub returns : goal.returns
returns c =
    let names = c.args.setting.now.texts.now in
    let quasi = c.args.setting.now.quasi in
    let x = c.index-parts-0.result in
    let named = kind_symbol c.index-parts-1.result c.in-Symbol.name (sym c.kind.ensures ∙ c.in-Symbol.is) in
    let whole = two_entry names quasi c.args.parts.now c.index-parts-1.result x c.if-parts-ne2.false c.index-parts-1.is c.index-parts-0.is ∙ ap (λ (v : Object). entry_of names quasi (Some (v ∷ x ∷ []))) named in
    ap (entry_within c.args.left) whole ∙ shape_entry c.args.left c.in-Symbol.name.number (shape_meant names quasi x) (shape_of c.in_ok-shape.shape) c.in_ok-shape.field-0-1 c.in_ok-shape.ensures
