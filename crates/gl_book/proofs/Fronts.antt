-- What comes of forms by a table comes of them by the front of it that numbers them.
use Rattle.std.proofs.Common.{◌≡◌, ◌∙◌, ap, sym, refl, ℕ, true, false, cond, List, [], ◌∷◌, ◌++◌, length, length-append, map, All, Some, None, arith}
use Rattle.std.specs.Prelude.{bytes_eq}
use Rattle.std.specs.List.{list_any, AllByRecursion}
use Rattle.std.proofs.lemmas.Bool.{lt-ltb}
use Rattle.std.proofs.lemmas.List.Elements.{recursion_from_All}
use Rattle.gl_logic.specs.Every.{Every}
use Rattle.gl_logic.specs.Names.{Extends, number_of, with_name}
use Rattle.gl_logic.specs.Numbered.{IsNumbered}
use Rattle.sexp_reader.specs.declared.list.Form.{Form}
use Rattle.sexp_reader.specs.Grammar.{place_in}
use Rattle.sexp_reader.proofs.Tabled.{placed}
use Rattle.book_shelf.specs.declared.finish.Finish.{Finish}
use Rattle.book_shelf.specs.declared.item.Item.{Item}
use Rattle.book_shelf.specs.declared.item.Item.TheVariants as item
use Rattle.book_shelf.specs.NumberedItems.{IsNumberedItem}
use Rattle.event_world.specs.NextState.{BookState}
use Rattle.event_world.proofs.LaterEvents.{event_later}
use Rattle.gl_decide.specs.Bounds.{Bounds}
use Rattle.book_state.specs.States.{event_in}
use Rattle.gl_book.specs.Entry.{Entry}
use Rattle.gl_book.specs.Walk.{state_after, Walk, ended, bad, marked, refused, without_value, event}

-- ---- walks
-- a table that has a text has its number
has_number : (names : List (List ℕ)) (w : List ℕ) → with_name names w ≡ names → number_of w names ≡ Some (place_in names w)
has_number names w h = elim (list_any (bytes_eq w) names) as (λ b. list_any (bytes_eq w) names ≡ b → number_of w names ≡ Some (place_in names w)) [
  | true ↦ λ e. ap (λ b. cond b (Some (place_in names w)) None) (lt-ltb (place_in names w) (length names) (placed names w e))
  | false ↦ λ e.
      let more : names ++ w ∷ [] ≡ names = sym (ap (λ b. cond b names (names ++ w ∷ [])) e) ∙ h in
      absurd (omega (arith, ap length more, length-append names (w ∷ [])))
] refl

module _ (front names : List (List ℕ)) (empty : with_name front [] ≡ front) (grown : Extends front names) (bounds : Bounds) where
  same_event : (s : BookState) (form : Form) → IsNumbered (length front) form.tree → event_in front s form.tree ≡ event_in names s form.tree
  same_event s form h = event_later front names (place_in front []) s.world s.mode s.memoized form.tree (has_number front [] empty) grown h

  pub walk_by_front : (s : BookState) (items : List Item) (end : Finish) (entries : List Entry) → Walk names bounds s items end entries → Every (IsNumberedItem (length front)) items → Walk front bounds s items end entries
  walk_by_front _ _ _ _ (ended s) h = ended s
  walk_by_front _ _ _ _ (bad s line column fault) h = bad s line column fault
  walk_by_front _ _ _ _ (marked s m items end entries w) h = marked s m items end entries (walk_by_front s items end entries w h.1)
  walk_by_front _ _ _ _ (refused s form items end fault is) h = refused s form items end fault (same_event s form h.0 ∙ is)
  walk_by_front _ _ _ _ (without_value s form items end e a why is proper none other) h = without_value s form items end e a why (same_event s form h.0 ∙ is) proper none other
  walk_by_front _ _ _ _ (event s form items end entries e a is proper none w) h =
      event s form items end entries e a (same_event s form h.0 ∙ is) proper none (walk_by_front (state_after s form.tree e a) items end entries w h.1)

as_items : (n : ℕ) (forms : List Form) → AllByRecursion (λ (f : Form). IsNumbered n f.tree) forms → Every (IsNumberedItem n) (map item.Form forms)
as_items n [] h = tt
as_items n (f ∷ forms) h = (h.0, as_items n forms h.1)

pub forms_numbered : (n : ℕ) (forms : List Form) → All (λ form. IsNumbered n form.tree) forms → Every (IsNumberedItem n) (map item.Form forms)
forms_numbered n forms h = as_items n forms (recursion_from_All (λ (f : Form). IsNumbered n f.tree) forms h)
