-- Environments by ids, and what they stand for.
use Rattle.std.proofs.Common.{◌≡◌, ◌∙◌, ap, sym, refl, subst, ℕ, zero, suc, ◌+◌, ◌<◌, Bool, true, false, cond, eqb, List, [], ◌∷◌, ◌++◌, length, take, get_or, arith, Option, Some, slice_get, Result, length-append}
use Rattle.std.proofs.lemmas.List.{get_or_append_left}
use Rattle.gl_logic.specs.Definition.{Definition}
use Rattle.hons_arena.specs.declared.id.IdKind.{IdKind}
use Rattle.hons_arena.specs.declared.id.IdKind.TheVariants as kind
use Rattle.memo_tables.specs.Calls.{Call}
use Rattle.lisp_eval.specs.Kept.{kept_frame}
use Rattle.std.specs.Prelude.{IfOk}
use Rattle.std.proofs.lemmas.Option.{get_or_from_slice_get}
use Rattle.gl_logic.specs.Object.{Object, nil}
use Rattle.gl_logic.specs.Environment.{look, bound, extended}
use Rattle.gl_logic.specs.Exp.{Exp, Exps, Var}
use Rattle.gl_logic.specs.TermOf.{terms_of}
use Rattle.gl_logic.specs.declared.ids.NoMemory.{NoMemory}
use Rattle.gl_logic.specs.declared.ids.TextId.{TextId}
use Rattle.gl_logic.specs.declared.term.Term.{Term}
use Rattle.hons_arena.specs.declared.id.Id.{Id}
use Rattle.hons_arena.specs.Ids.{kind_in, number_in, object_at, object_numbered, IsLive, IsNumberBelow}
use Rattle.lisp_eval.specs.declared.frame.Binding.{Binding}
use Rattle.lisp_eval.specs.declared.frame.Focus.{Focus}
use Rattle.lisp_eval.specs.declared.frame.Focus.TheVariants as focus
use Rattle.lisp_eval.specs.declared.frame.Frame.{Frame}
use Rattle.lisp_eval.specs.Bindings.{nil_id, id_or_nil, id_in, bindings_of}
use Rattle.lisp_eval.specs.Frames.{Work, Give, Visit}
use Rattle.lisp_eval.specs.Moves.{begun, entered}
use Rattle.lisp_eval.specs.States.{env_of, values_of, frame_of, frames_of, focus_of, IsNext}

pub append_none : {A : Type 0} (xs : List A) → xs ++ [] ≡ xs
append_none [] = refl
append_none (x ∷ xs) = ap (λ ys. x ∷ ys) (append_none xs)

module _ (objects : List Object) where
  look_by : (b : Bool) (n v : ℕ) (x : Id) (y : Id) (z : Object) → object_at objects y ≡ z → object_at objects (cond b x y) ≡ cond b (object_at objects x) z
  look_by true n v x y z e = refl
  look_by false n v x y z e = e

  -- the id of a variable is that of its value
  pub look_is : (env : List Binding) (v : ℕ) → object_at objects (id_in env v) ≡ look (env_of objects env) v
  look_is [] v = refl
  look_is (b ∷ env) v = look_by (eqb b.name.number v) 0 0 b.value (id_in env v) (look (env_of objects env) v) (look_is env v)

  pub bound_is : (names : List ℕ) (ids : List Id) → env_of objects (bindings_of names ids) ≡ bound names (values_of objects ids)
  bound_is [] ids = refl
  bound_is (v ∷ names) [] = ap (λ es. (v, nil) ∷ es) (bound_is names [])
  bound_is (v ∷ names) (x ∷ ids) = ap (λ es. (v, object_at objects x) ∷ es) (bound_is names ids)

  env_append : (xs ys : List Binding) → env_of objects (xs ++ ys) ≡ env_of objects xs ++ env_of objects ys
  env_append [] ys = refl
  env_append (b ∷ xs) ys = ap (λ es. (b.name.number, object_at objects b.value) ∷ es) (env_append xs ys)

  pub extended_is : (names : List ℕ) (ids : List Id) (outer : List Binding) → env_of objects (bindings_of names ids ++ outer) ≡ extended names (values_of objects ids) (env_of objects outer)
  extended_is names ids outer = env_append (bindings_of names ids) outer ∙ ap (λ es. es ++ env_of objects outer) (bound_is names ids)

  frames_more : (old : List Frame) (g : Frame) → frames_of objects (old ++ g ∷ []) ≡ frames_of objects old ++ frame_of objects g ∷ []
  frames_more [] g = refl
  frames_more (f ∷ old) g = ap (λ fs. frame_of objects f ∷ fs) (frames_more old g)

  pub frames_push : (old new : List Frame) (g : Frame) → new ≡ old ++ g ∷ [] → frames_of objects new ≡ frames_of objects old ++ frame_of objects g ∷ []
  frames_push old new g e = ap (frames_of objects) e ∙ frames_more old g

  -- ---- steps
  pub next_at : (w w' : Work) (done : List Id) (ts ts' : List Term) (env : List (ℕ × Object)) (old new : List Frame) (r : Result Focus NoMemory) → w ≡ w' → done ≡ [] → ts ≡ ts'
      → IfOk r (λ f. IsNext objects (begun w (values_of objects done) (terms_of ts) env) old f new) → IfOk r (λ f. IsNext objects (begun w' [] (terms_of ts') env) old f new)
  next_at w w' done ts ts' env old new r e f g h =
      subst (λ (us : List Term). IfOk r (λ k. IsNext objects (begun w' [] (terms_of us) env) old k new)) g
      (subst (λ (ids : List Id). IfOk r (λ k. IsNext objects (begun w' (values_of objects ids) (terms_of ts) env) old k new)) f
      (subst (λ (v : Work). IfOk r (λ k. IsNext objects (begun v (values_of objects done) (terms_of ts) env) old k new)) e h))

  pub var_next : (env : List Binding) (v : ℕ) (id : Id) (old : List Frame) → id ≡ id_in env v → IsNext objects (entered (Var v) (env_of objects env)) old (focus.Give id) old
  var_next env v id old e = record { focus = ap (λ (i : Id). Give (object_at objects i)) e ∙ ap Give (look_is env v); frames = sym (append_none (frames_of objects old)) }

-- ---- one binding more
bindings_step : (names : List ℕ) (ids : List Id) (i : ℕ) → i < length names → take (i + 1) (bindings_of names ids) ≡ take i (bindings_of names ids) ++ (record { name = record { number = get_or names i 0 }; value = id_or_nil ids i }) ∷ []
bindings_step [] ids i h = absurd (omega (arith, h))
bindings_step (v ∷ names) [] zero h = refl
bindings_step (v ∷ names) (x ∷ ids) zero h = refl
bindings_step (v ∷ names) [] (suc i) h = let z : suc i + 1 ≡ suc (i + 1) = omega arith in ap (λ n. take n (bindings_of (v ∷ names) [])) z ∙ ap (λ bs. (record { name = record { number = v }; value = nil_id }) ∷ bs) (bindings_step names [] i (omega (arith, h)))
bindings_step (v ∷ names) (x ∷ ids) (suc i) h = let z : suc i + 1 ≡ suc (i + 1) = omega arith in ap (λ n. take n (bindings_of (v ∷ names) (x ∷ ids))) z ∙ ap (λ bs. (record { name = record { number = v }; value = x }) ∷ bs) (bindings_step names ids i (omega (arith, h)))

bindings_all : (names : List ℕ) (ids : List Id) → take (length names) (bindings_of names ids) ≡ bindings_of names ids
bindings_all [] ids = refl
bindings_all (v ∷ names) [] = ap (λ bs. (record { name = record { number = v }; value = nil_id }) ∷ bs) (bindings_all names [])
bindings_all (v ∷ names) (x ∷ ids) = ap (λ bs. (record { name = record { number = v }; value = x }) ∷ bs) (bindings_all names ids)

pub bind_next : (names : List ℕ) (ids : List Id) (i : ℕ) (old new : List Binding) (t : TextId) (x : Id) → i < length names → old ≡ take i (bindings_of names ids) → new ≡ old ++ (record { name = t; value = x }) ∷ [] → slice_get names i ≡ Some t.number → x ≡ id_or_nil ids i → new ≡ take (i + 1) (bindings_of names ids)
bind_next names ids i old new t x h e q s v =
    let n : t.number ≡ get_or names i 0 = sym (get_or_from_slice_get names i t.number 0 s) in
    q ∙ ((λ j. e j ++ (record { name = record { number = n j }; value = v j }) ∷ []) ∙ sym (bindings_step names ids i h))

pub bind_all : (names : List ℕ) (ids : List Id) (i : ℕ) (all : List Binding) → i ≡ length names → all ≡ take i (bindings_of names ids) → all ≡ bindings_of names ids
bind_all names ids i all e h = h ∙ (ap (λ n. take n (bindings_of names ids)) e ∙ bindings_all names ids)

-- ---- bodies
module _ (objects : List Object) where
  pub bound_next : (names : List ℕ) (ids : List Id) (outer items : List Binding) (body : Exp) (o : Focus) (frames : List Frame) → items ≡ bindings_of names ids ++ outer → focus_of objects o ≡ Visit body (env_of objects items)
      → IsNext objects (record { focus = Visit body (extended names (values_of objects ids) (env_of objects outer)); pushed = [] }) frames o frames
  bound_next names ids outer items body o frames e f = record {
    focus = f ∙ ap (Visit body) (ap (env_of objects) e ∙ extended_is objects names ids outer);
    frames = sym (append_none (frames_of objects frames));
  }

  pub opened_next : (found d : Definition) (ids : List Id) (items : List Binding) (keep : Option Call) (o : Focus) (old new : List Frame) → found ≡ d → items ≡ bindings_of found.formals ids ++ [] → focus_of objects o ≡ Visit found.body (env_of objects items)
      → frames_of objects new ≡ frames_of objects old ++ kept_frame objects keep → IsNext objects (record { focus = Visit d.body (extended d.formals (values_of objects ids) []); pushed = kept_frame objects keep }) old o new
  opened_next found d ids items keep o old new q e f g = subst (λ (k : Definition). IsNext objects (record { focus = Visit k.body (extended k.formals (values_of objects ids) []); pushed = kept_frame objects keep }) old o new) q (record {
    focus = f ∙ ap (Visit found.body) (ap (env_of objects) e ∙ extended_is objects found.formals ids []);
    frames = g;
  })

  values_push : (ids : List Id) (x : Id) → values_of objects (ids ++ x ∷ []) ≡ values_of objects ids ++ object_at objects x ∷ []
  values_push [] x = refl
  values_push (y ∷ ids) x = ap (λ xs. object_at objects y ∷ xs) (values_push ids x)

  pub argument_next : (w : Work) (done done' : List Id) (x : Id) (v : Object) (ts : Exps) (env : List (ℕ × Object)) (old new : List Frame) (r : Result Focus NoMemory) → done' ≡ done ++ x ∷ [] → object_at objects x ≡ v
      → IfOk r (λ f. IsNext objects (begun w (values_of objects done') ts env) old f new) → IfOk r (λ f. IsNext objects (begun w (values_of objects done ++ v ∷ []) ts env) old f new)
  argument_next w done done' x v ts env old new r e q h = subst (λ (xs : List Object). IfOk r (λ f. IsNext objects (begun w xs ts env) old f new)) (ap (values_of objects) e ∙ (values_push done x ∙ ap (λ y. values_of objects done ++ y ∷ []) q)) h

pub stays_at : (objects more : List Object) (x : Id) → IsLive objects x → object_at (objects ++ more) x ≡ object_at objects x
stays_at objects more x live = (numbered_kept objects more (object_at objects x) (kind_in x) (number_in x) live refl).1 where
  numbered_kept : (xs made : List Object) (x : Object) (t : IdKind) (n : ℕ) → IsNumberBelow (length xs) t n → object_numbered xs t n ≡ x → IsNumberBelow (length (xs ++ made)) t n × (object_numbered (xs ++ made) t n ≡ x)
  numbered_kept xs made x kind.Symbol n h e = (tt, e)
  numbered_kept xs made x kind.Text n h e = (tt, e)
  numbered_kept xs made x kind.Cell n h e = (omega (arith, h, length-append xs made), get_or_append_left xs made nil n h ∙ e)
