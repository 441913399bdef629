-- What a live id stands for has no wide part.
use Rattle.std.proofs.Common.{◌∙◌, sym, refl, subst, inl, inr}
use Rattle.std.proofs.lemmas.List.{get_or_default}
use Rattle.std.specs.List.{Contains}
use Rattle.gl_logic.specs.Object.{Object, Int, Character, Symbol, Text, Cons, nil}
use Rattle.gl_logic.specs.Wide.{IsWideObject}
use Rattle.hons_arena.specs.declared.id.Id.{Id}
use Rattle.hons_arena.specs.declared.id.Id.TheVariants as id
use Rattle.hons_arena.specs.Held.{Held, IsWhole}
use Rattle.hons_arena.specs.Ids.{object_at, IsLive}
use Rattle.hons_arena.specs.Parts.{AreHeld}
use Rattle.hons_arena.proofs.CellsIn.{IsPart, cell_of}
use Rattle.lisp_eval.specs.Narrow.{IsNarrow}

module _ (held : Held) (whole : IsWhole held) where
  held_narrow : (x : Object) → Contains held.objects x → IsWideObject x → ⊥
  held_narrow x c w = whole.narrow (id.Cell c.0) c.1 (subst IsWideObject (sym (get_or_default held.objects c.0 nil x c.1 ∙ c.2)) w)

  parts_narrow : (x : Object) → ((y : Object) → IsPart y x → (IsWideObject y → ⊥)) → IsNarrow x
  parts_narrow (Int z) h = h (Int z) refl
  parts_narrow (Character n) h = tt
  parts_narrow (Symbol n) h = tt
  parts_narrow (Text n) h = tt
  parts_narrow (Cons a d) h = (parts_narrow a (λ y p. h y (inr (inl p))), parts_narrow d (λ y p. h y (inr (inr p))))

  wide_held : (x y : Object) → AreHeld held.objects x → IsPart y x → IsWideObject y → ⊥
  wide_held x (Int z) are p w = held_narrow (Int z) (are (Int z) (cell_of x (Int z) refl p)) w
  wide_held x (Character n) are p w = w
  wide_held x (Symbol n) are p w = w
  wide_held x (Text n) are p w = w
  wide_held x (Cons a d) are p w = w

  pub whole_narrow : (id : Id) → IsLive held.objects id → IsNarrow (object_at held.objects id)
  whole_narrow id live = parts_narrow (object_at held.objects id) (λ y p. wide_held (object_at held.objects id) y (whole.parts id live) p)
