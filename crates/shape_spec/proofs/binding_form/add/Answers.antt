use Rattle.std.proofs.Common.{◌≡◌, ◌∙◌, ap, sym, subst, refl, ℕ, ◌-◌, ◌&&◌, ◌++◌, ◌∷◌, [], cond, not, true, false, eqb, Bool, List, Option, Some, None, arith}
use Rattle.std.specs.List.{list_any}
use Rattle.std.specs.Prelude.{Err}
use Rattle.std.proofs.lemmas.List.{map-append}
use Rattle.shape_spec.specs.ShapeSeen.{ShapeSeen}
use Rattle.shape_spec.specs.ShapeOf.{shape_of}
use Rattle.shape_spec.specs.Indices.{variables_of, indices_in, width_of}
use Rattle.gl_logic.specs.Wording.{is_legal}
use Rattle.shape_spec.specs.BindingOf.{Pushes}
use Rattle.shape_spec.specs.BindingsMeant.{are_bindings}
use Rattle.shape_spec.specs.Gives.{Adds, Refuses}
use Rattle.shape_spec.specs.declared.fault.BindFault.{BindFault}
use Rattle.shape_spec.specs.declared.fault.BindFault.TheVariants as fault
use Rattle.shape_spec.proofs.Fits.{fit_from}
use Rattle.shape_spec.proofs.Apart.{not_any, shape_from, below_from}
use Rattle.shape_spec.proofs.BindingSteps.{illegal, bound_twice, index_twice}
use Rattle.shape_spec.proofs.binding_form.add.Goals as goal

abbrev names_after : Bool → List ℕ → Option (List ℕ)
names_after b seen = cond b (Some seen) None

-- a variable that was noted is legal and new
record IsNoted (legal bound : Bool) (seen new : List ℕ) : Type 0 where
  pub may : legal ≡ true
  pub free : bound ≡ false
  pub names : new ≡ seen

noted : (legal bound : Bool) (seen new : List ℕ) → names_after (legal && not bound) seen ≡ Some new → IsNoted legal bound seen new
noted true false seen new h = record { may = refl; free = refl; names = cc }
noted true true seen new h = absurd cc
noted false bound seen new h = absurd cc

module _ (names : List (List ℕ)) (old : List (ℕ × ShapeSeen)) (p : ℕ × ShapeSeen) (seen : List ℕ) (same : seen ≡ variables_of old) where
  not_noted : (legal bound : Bool) → is_legal names p.0 ≡ legal → list_any (eqb p.0) seen ≡ bound → names_after (legal && not bound) (seen ++ p.0 ∷ []) ≡ None → are_bindings names (old ++ p ∷ []) ≡ false
  not_noted true true l b h = bound_twice names old p (ap (list_any (eqb p.0)) (sym same) ∙ b)
  not_noted true false l b h = absurd cc
  not_noted false bound l b h = illegal names old p l

  refused : (e : BindFault) → Refuses e (names_after (is_legal names p.0 && not (list_any (eqb p.0) seen)) (seen ++ p.0 ∷ [])) → Adds names old p old (Err e)
  refused fault.Bad h = not_noted (is_legal names p.0) (list_any (eqb p.0) seen) refl refl h
  refused fault.Memory h = tt

pub returns-in-Err-clause-adds : goal.returns-in-Err-clause-adds
returns-in-Err-clause-adds c = refused c.args.texts.now c.args.all.now (c.args.variable.number, shape_of c.args.shape) c.args.seen.now c.requires.seen c.in-Err.fault c.in-Err.ensures

pub try_push-requires-clause-variable : goal.try_push-requires-clause-variable
try_push-requires-clause-variable c =
    let v = c.args.variable.number in
    let one = noted (is_legal c.args.texts.now v) (list_any (eqb v) c.args.seen.now) (c.args.seen.now ++ v ∷ []) c.note.new.seen c.in-Ok.ensures in
    not_any v (variables_of c.args.all.now) (ap (list_any (eqb v)) (sym c.requires.seen) ∙ one.free)

pub try_push-requires-clause-shape : goal.try_push-requires-clause-shape
try_push-requires-clause-shape c = shape_from (shape_of c.args.shape) (fit_from (1024 - width_of c.args.all.now) (shape_of c.args.shape) c.requires.fits).shape

pub try_push-requires-clause-below : goal.try_push-requires-clause-below
try_push-requires-clause-below c = below_from (indices_in (shape_of c.args.shape)) (fit_from (1024 - width_of c.args.all.now) (shape_of c.args.shape) c.requires.fits).below

pub try_push-requires-clause-few : goal.try_push-requires-clause-few
try_push-requires-clause-few c =
    let fit = fit_from (1024 - width_of c.args.all.now) (shape_of c.args.shape) c.requires.fits in
    omega (arith, fit.few, c.requires.proper.few)

pub returns-then-not-branch-clause-adds : goal.returns-then-not-branch-clause-adds
returns-then-not-branch-clause-adds c =
    let p : ℕ × ShapeSeen = (c.args.variable.number, shape_of c.args.shape) in
    index_twice c.args.texts.now c.args.all.now p (subst (λ (b : Bool). Pushes b c.args.all.now p c.try_push.new.self) c.if-not-branch.true c.in_ok-try_push.ensures.ok)

pub returns-clause-adds : goal.returns-clause-adds
returns-clause-adds c =
    let v = c.args.variable.number in
    let one = noted (is_legal c.args.texts.now v) (list_any (eqb v) c.args.seen.now) (c.args.seen.now ++ v ∷ []) c.note.new.seen c.in-Ok.ensures in
    (subst (λ (b : Bool). Pushes b c.args.all.now (v, shape_of c.args.shape) c.try_push.new.self) c.if-not-branch.false c.in_ok-try_push.ensures.ok, one.may)

pub returns-clause-seen : goal.returns-clause-seen
returns-clause-seen c =
    let v = c.args.variable.number in
    let old = c.args.all.now in
    let p : ℕ × ShapeSeen = (v, shape_of c.args.shape) in
    let one = noted (is_legal c.args.texts.now v) (list_any (eqb v) c.args.seen.now) (c.args.seen.now ++ v ∷ []) c.note.new.seen c.in-Ok.ensures in
    let pushed : c.try_push.new.self ≡ old ++ p ∷ [] = subst (λ (b : Bool). Pushes b old p c.try_push.new.self) c.if-not-branch.false c.in_ok-try_push.ensures.ok in
    one.names
    ∙ (ap (λ (xs : List ℕ). xs ++ v ∷ []) c.requires.seen
    ∙ (sym (map-append (λ q. q.0) old (p ∷ [])) ∙ ap variables_of (sym pushed)))
