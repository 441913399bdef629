-- A book that includes no other.
use Rattle.std.proofs.Common.{◌≡◌, sym, refl, subst, ℕ, ◌≤◌, List, [], ◌∷◌, length, None}
use Rattle.gl_logic.specs.Every.{Every}
use Rattle.sexp_reader.specs.declared.list.Form.{Form}
use Rattle.sexp_reader.specs.declared.ends.End.{End}
use Rattle.sexp_reader.specs.Gathers.{IsTableOf}
use Rattle.book_shelf.specs.declared.item.Item.{Item}
use Rattle.book_shelf.specs.declared.finish.Finish.{Finish}
use Rattle.book_shelf.specs.declared.finish.Finish.TheVariants as finish
use Rattle.book_shelf.specs.declared.finish.ShelfCode.{ShelfCode}
use Rattle.book_shelf.specs.Included.{included}
use Rattle.book_shelf.specs.Listed.{Listing, finish_of}
use Rattle.book_shelf.specs.Flat.{Book, Lists, long, most_bytes, text}
use Rattle.book_shelf.proofs.Unique.{book_alone}
use Rattle.event_world.specs.NextState.{BookState}
use Rattle.event_world.specs.OpeningNames.{opening_names}
use Rattle.gl_decide.specs.Bounds.{Bounds}
use Rattle.gl_book.specs.Entry.{Entry, Refused}
use Rattle.gl_book.specs.Walk.{Walk, bad, end_refusal}
use Rattle.gl_book.specs.Transcript as transcript
use Rattle.gl_book.specs.Transcript.{ComesOf, ComesOfList, ComesOfBook}
use Rattle.book_state.specs.Reading.{IsReadBy}

module _ (names : List (List ℕ)) (bounds : Bounds) where
  -- nothing is left but a refusal
  only_end : (s : BookState) (line column : ℕ) (fault : ShelfCode) (entries : List Entry) → Walk names bounds s [] (finish.Refused line column fault) entries → entries ≡ Refused (end_refusal line column fault) ∷ []
  only_end _ _ _ _ _ (bad s line column fault) = refl

  by_list : (shelf : List ℕ → List ℕ) (name : List ℕ) (l : Listing) (entries : List Entry) → ((forms : List Form) (end : End) → IsReadBy names (shelf name) forms end → Every (λ form. included names form.tree ≡ None) forms)
      → (length (shelf name) ≤ most_bytes → IsTableOf (shelf name) opening_names names) → Lists names shelf [] [] (Book name) l → ComesOfList names bounds l.items l.finish entries → ComesOf names bounds (shelf name) entries
  by_list shelf _ _ entries plain opens (long _ _ name line column b) c =
      subst (ComesOf names bounds (shelf name)) (sym (only_end c.first line column _ entries c.walk)) (transcript.long line column b)
  by_list shelf _ _ entries plain opens (text around taken name forms end l few reads numbered d) c =
      let is : IsReadBy names (shelf name) forms end = record { table = c.table; opens = opens few; empty = c.empty; reads = reads; numbered = numbered } in
      let same = book_alone names shelf name forms end l few reads (plain forms end is) (text around taken name forms end l few reads numbered d) in
      transcript.short forms end c.first entries few is c.begins (subst (λ (xs : List Item). Walk names bounds c.first xs (finish_of end) entries) same.0 (subst (λ (f : Finish). Walk names bounds c.first l.items f entries) same.1 c.walk))

pub comes : (names : List (List ℕ)) (bounds : Bounds) (shelf : List ℕ → List ℕ) (name : List ℕ) (entries : List Entry)
    → ((forms : List Form) (end : End) → IsReadBy names (shelf name) forms end → Every (λ form. included names form.tree ≡ None) forms)
    → ComesOfBook names bounds shelf name entries → ComesOf names bounds (shelf name) entries
comes names bounds shelf name entries plain b = by_list names bounds shelf name b.list entries plain b.opens b.lists b.comes
