-- Each cell of a live id's object is held.
use Rattle.std.proofs.Common.{◌≡◌, true, ℕ, arith, length, List, sym, ◌∙◌, ap, inl, inr}
use Rattle.std.proofs.lemmas.List.{get_or_default}
use Rattle.std.specs.List.{Contains}
use Rattle.gl_logic.specs.Object.{Object, Int, Character, Symbol, Text, Cons, nil, car, cdr}
use Rattle.hons_arena.specs.declared.cell.Cell.{Cell}
use Rattle.hons_arena.specs.declared.cell.Cell.TheVariants as cell
use Rattle.hons_arena.specs.declared.id.Id.{Id}
use Rattle.hons_arena.specs.declared.id.IdKind.{IdKind}
use Rattle.hons_arena.specs.declared.id.IdKind.TheVariants as kind
use Rattle.hons_arena.specs.Cells.{cell_object, objects_of, cell_at, FitsBelow, IsInterned}
use Rattle.hons_arena.specs.Ids.{kind_in, number_in, id_numbered, object_at, object_numbered, IsNumberBelow, IsBelow}
use Rattle.hons_arena.specs.Parts.{AreHeld}
use Rattle.hons_arena.proofs.CellsIn.{IsPart, cell_of, of_cell}
use Rattle.gl_logic.specs.Parts.{is_cell}
use Rattle.hons_arena.proofs.Ids.{numbered_below, numbered_at}
use Rattle.hons_arena.proofs.Interned.{object_is, parts_live, objects_count}

module _ (cells : List Cell) (interned : IsInterned cells) where
  abbrev objects : List Object
  objects = objects_of cells

  abbrev n : ℕ
  n = length cells

  -- what takes a cell and has a live number is held
  itself_held : (x : Object) → is_cell x ≡ true → (t : IdKind) (k : ℕ) → IsNumberBelow n t k → object_numbered objects t k ≡ x → Contains objects x
  itself_held x cell kind.Symbol k h e = let t : is_cell (object_numbered objects kind.Symbol k) ≡ true = ap is_cell e ∙ cell in absurd cc
  itself_held x cell kind.Text k h e = let t : is_cell (object_numbered objects kind.Text k) ≡ true = ap is_cell e ∙ cell in absurd cc
  itself_held x cell kind.Cell k h e = (k, omega (arith, h, objects_count cells interned), get_or_default objects k x nil (omega (arith, h, objects_count cells interned)) ∙ e)

  -- the parts of a cons with a live number
  parts_held : (a d : Object) → ((j : Id) → IsBelow n j → object_at objects j ≡ a → AreHeld objects a) → ((j : Id) → IsBelow n j → object_at objects j ≡ d → AreHeld objects d)
      → (c : Cell) → FitsBelow n c → cell_object objects c ≡ Cons a d → AreHeld objects a × AreHeld objects d
  parts_held a d f g (cell.Int z) p e = absurd cc
  parts_held a d f g (cell.Character z) p e = absurd cc
  parts_held a d f g (cell.Cons s t i j) p e = (f (id_numbered s i) (numbered_below n s i p.0) (numbered_at objects s i ∙ ap car e), g (id_numbered t j) (numbered_below n t j p.1) (numbered_at objects t j ∙ ap cdr e))

  cons_held : (a d : Object) → ((j : Id) → IsBelow n j → object_at objects j ≡ a → AreHeld objects a) → ((j : Id) → IsBelow n j → object_at objects j ≡ d → AreHeld objects d)
      → (t : IdKind) (k : ℕ) → IsNumberBelow n t k → object_numbered objects t k ≡ Cons a d → AreHeld objects a × AreHeld objects d
  cons_held a d f g kind.Symbol k h e = absurd cc
  cons_held a d f g kind.Text k h e = absurd cc
  cons_held a d f g kind.Cell k h e = parts_held a d f g (cell_at cells k) (parts_live cells interned k h) (sym (object_is cells interned k h) ∙ e)

  either_held : (a d y : Object) → is_cell y ≡ true → (t : IdKind) (k : ℕ) → IsNumberBelow n t k → object_numbered objects t k ≡ Cons a d → AreHeld objects a × AreHeld objects d → IsPart y (Cons a d) → Contains objects y
  either_held a d y cell t k h e both (inl same) = itself_held y cell t k h (e ∙ sym same)
  either_held a d y cell t k h e both (inr (inl first)) = both.0 y (cell_of a y cell first)
  either_held a d y cell t k h e both (inr (inr rest)) = both.1 y (cell_of d y cell rest)

  pub all_held : (x : Object) (j : Id) → IsBelow n j → object_at objects j ≡ x → AreHeld objects x
  all_held (Cons a d) j h e y c = either_held a d y (of_cell (Cons a d) y c).0 (kind_in j) (number_in j) h e (cons_held a d (all_held a) (all_held d) (kind_in j) (number_in j) h e) (of_cell (Cons a d) y c).1
  all_held (Int z) j h e y c = itself_held y (of_cell (Int z) y c).0 (kind_in j) (number_in j) h (e ∙ sym (of_cell (Int z) y c).1)
  all_held (Character z) j h e y c = itself_held y (of_cell (Character z) y c).0 (kind_in j) (number_in j) h (e ∙ sym (of_cell (Character z) y c).1)
  all_held (Symbol z) j h e y c = itself_held y (of_cell (Symbol z) y c).0 (kind_in j) (number_in j) h (e ∙ sym (of_cell (Symbol z) y c).1)
  all_held (Text z) j h e y c = itself_held y (of_cell (Text z) y c).0 (kind_in j) (number_in j) h (e ∙ sym (of_cell (Text z) y c).1)
