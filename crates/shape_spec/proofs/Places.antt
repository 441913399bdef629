-- The binding at a place.
use Rattle.std.proofs.Common.{◌≡◌, ◌∙◌, ap, refl, ℕ, ◌<◌, List, length, get_or, Some}
use Rattle.std.specs.Option.{option_map}
use Rattle.std.specs.Prelude.{slice_get}
use Rattle.std.proofs.lemmas.Option.{slice_get-map, slice_get_read}
use Rattle.shape_spec.specs.Indices.{variables_of, shapes_of}
use Rattle.shape_spec.specs.ShapeOf.{shape_of}
use Rattle.shape_spec.specs.BindingOf.{binding_of, bindings_of}
use Rattle.shape_spec.specs.declared.binding_list.Binding.{Binding}

pub binding_at : (xs : List Binding) (i : ℕ) (x : Binding) → i < length xs → x ≡ get_or xs i x → slice_get (bindings_of xs) i ≡ Some (binding_of x)
binding_at xs i x h e = slice_get-map binding_of xs i ∙ ap (option_map binding_of) (slice_get_read xs (length xs) i x refl h e)

pub variable_at : (xs : List Binding) (i : ℕ) (x : Binding) → i < length xs → x ≡ get_or xs i x → slice_get (variables_of (bindings_of xs)) i ≡ Some x.variable.number
variable_at xs i x h e = slice_get-map (λ p. p.0) (bindings_of xs) i ∙ ap (option_map (λ p. p.0)) (binding_at xs i x h e)

pub shape_at : (xs : List Binding) (i : ℕ) (x : Binding) → i < length xs → x ≡ get_or xs i x → slice_get (shapes_of (bindings_of xs)) i ≡ Some (shape_of x.shape)
shape_at xs i x h e = slice_get-map (λ p. p.1) (bindings_of xs) i ∙ ap (option_map (λ p. p.1)) (binding_at xs i x h e)
