-- The values of variables in a scope.
use Rattle.std.proofs.Common.{◌≡◌, refl, ℕ, Bool, true, false, cond, eqb, if◌then◌else◌, List, [], ◌∷◌}
use Rattle.gl_logic.specs.Environment.{look}
use Rattle.gl_logic.specs.Every.{Every}
use Rattle.gl_logic.specs.Object.{Object}
use Rattle.hons_arena.specs.Ids.{IsLive}
use Rattle.lisp_eval.specs.Bindings.{id_in}
use Rattle.lisp_eval.specs.Outside.{value_object, IsLiveValue, local_in, locals_of}
use Rattle.lisp_eval.specs.declared.frame.Binding.{Binding}
use Rattle.lisp_eval.specs.declared.value.Local.{Local}
use Rattle.lisp_eval.specs.declared.value.Value.{Value}

module _ (objects : List Object) where
  local_by : (b : Bool) (x y : Value) (z : Object) → value_object objects y ≡ z → value_object objects (cond b x y) ≡ (if b then value_object objects x else z)
  local_by true x y z e = refl
  local_by false x y z e = e

  pub local_is : (locals : List Local) (v : ℕ) → value_object objects (local_in locals v) ≡ look (locals_of objects locals) v
  local_is [] v = refl
  local_is (l ∷ locals) v = local_by (eqb l.name.number v) l.value (local_in locals v) (look (locals_of objects locals) v) (local_is locals v)

  pick : {A : Type 0} (P : A → Type 0) (b : Bool) (x y : A) → P x → P y → P (cond b x y)
  pick P true x y h g = h
  pick P false x y h g = g

  pub local_live : (locals : List Local) (v : ℕ) → Every (λ l. IsLiveValue objects l.value) locals → IsLiveValue objects (local_in locals v)
  local_live [] v h = tt
  local_live (l ∷ locals) v h = pick (IsLiveValue objects) (eqb l.name.number v) l.value (local_in locals v) h.0 (local_live locals v h.1)

  pub binding_live : (env : List Binding) (v : ℕ) → Every (λ b. IsLive objects b.value) env → IsLive objects (id_in env v)
  binding_live [] v h = tt
  binding_live (b ∷ env) v h = pick (IsLive objects) (eqb b.name.number v) b.value (id_in env v) h.0 (binding_live env v h.1)
