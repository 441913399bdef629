-- A book with the books that it includes, as one list.
use Rattle.std.specs.Prelude.{◌≡◌, ◌≢◌, ℕ, ◌≤◌, ◌<◌, Bool, true, false, List, [], ◌∷◌, ◌++◌, length, bytes_eq, All, Option, Some, None, IfSome}
use Rattle.std.specs.List.{list_any}
use Rattle.gl_logic.specs.Names.{Extends}
use Rattle.gl_logic.specs.Numbered.{IsNumbered}
use Rattle.sexp_reader.specs.declared.list.Form.{Form}
use Rattle.sexp_reader.specs.declared.ends.End.{End}
use Rattle.sexp_reader.specs.Book.{IsBeyond}
use Rattle.sexp_reader.specs.Reads.{Reads}
use Rattle.sexp_reader.specs.Gathers.{IsTableOf}
use Rattle.book_shelf.specs.declared.item.Item.{Item}
use Rattle.book_shelf.specs.declared.item.Item.TheVariants as item
use Rattle.book_shelf.specs.declared.finish.Finish.{Finish}
use Rattle.book_shelf.specs.declared.finish.Finish.TheVariants as finish
use Rattle.book_shelf.specs.declared.finish.ShelfCode.TheVariants as code
use Rattle.book_shelf.specs.Included.{included, text_named}
use Rattle.book_shelf.specs.Listed.{Listing, finish_of, only, refused_at, behind, between, book_mark, same_mark}

-- a text has at most so many bytes
abbrev pub most_bytes : ℕ
most_bytes = 4194304

-- so many texts may be taken, the first book among them
abbrev pub most_texts : ℕ
most_texts = 64

abbrev pub is_among : List ℕ → List (List ℕ) → Bool
is_among name texts = list_any (bytes_eq name) texts

-- what is listed: a text from its beginning, or what is left of one
pub data Goal : Type 0 where
  Book : List ℕ → Goal
  Rest : List Form → End → Goal

-- a text is new that neither is being read nor was taken, and that may still be taken
pub record IsNew (around taken : List (List ℕ)) (name : List ℕ) : Type 0 where
  pub closed : is_among name around ≡ false
  pub untaken : is_among name taken ≡ false
  pub room : length taken < most_texts

-- what comes of a goal where these texts are being read around it and these are taken: a shelf gives each text by its name, and a table
-- numbers the symbols and strings of all of them
pub data Lists (names : List (List ℕ)) (shelf : List ℕ → List ℕ) : List (List ℕ) → List (List ℕ) → Goal → Listing → Type 0 where
  -- a text is taken with all of its forms, or with none where it is too long
  long : (around taken : List (List ℕ)) (name : List ℕ) (line column : ℕ) → IsBeyond most_bytes (shelf name) line column
      → Lists names shelf around taken (Book name) (only (taken ++ name ∷ []) (finish.Refused line column code.TooLong))
  text : (around taken : List (List ℕ)) (name : List ℕ) (forms : List Form) (end : End) (l : Listing) → length (shelf name) ≤ most_bytes
      → Reads names (shelf name) forms end → All (λ form. IsNumbered (length names) form.tree) forms
      → Lists names shelf (around ++ name ∷ []) (taken ++ name ∷ []) (Rest forms end) l → Lists names shelf around taken (Book name) l
  -- no form is left: the text's own end
  ended : (around taken : List (List ℕ)) (end : End) → Lists names shelf around taken (Rest [] end) (only taken (finish_of end))
  -- a form that includes no book
  form : (around taken : List (List ℕ)) (form : Form) (forms : List Form) (end : End) (l : Listing) → included names form.tree ≡ None
      → Lists names shelf around taken (Rest forms end) l → Lists names shelf around taken (Rest (form ∷ forms) end) (behind (item.Form form ∷ []) l)
  -- a book that is being read
  cyclic : (around taken : List (List ℕ)) (form : Form) (forms : List Form) (end : End) (t : ℕ) → included names form.tree ≡ Some t → is_among (text_named names t) around ≡ true
      → Lists names shelf around taken (Rest (form ∷ forms) end) (only taken (refused_at form code.Cyclic))
  -- one that was taken
  same : (around taken : List (List ℕ)) (form : Form) (forms : List Form) (end : End) (l : Listing) (t : ℕ) → included names form.tree ≡ Some t → is_among (text_named names t) around ≡ false
      → is_among (text_named names t) taken ≡ true → Lists names shelf around taken (Rest forms end) l → Lists names shelf around taken (Rest (form ∷ forms) end) (behind (item.Mark (same_mark t) ∷ []) l)
  -- one too many
  many : (around taken : List (List ℕ)) (form : Form) (forms : List Form) (end : End) (t : ℕ) → included names form.tree ≡ Some t → is_among (text_named names t) around ≡ false
      → is_among (text_named names t) taken ≡ false → most_texts ≤ length taken → Lists names shelf around taken (Rest (form ∷ forms) end) (only taken (refused_at form code.Many))
  -- a new one, whole, and then what is left
  whole : (around taken : List (List ℕ)) (form : Form) (forms : List Form) (end : End) (inner l : Listing) (t : ℕ) → included names form.tree ≡ Some t → IsNew around taken (text_named names t)
      → Lists names shelf around taken (Book (text_named names t)) inner → inner.finish ≡ finish.Clean → Lists names shelf around inner.taken (Rest forms end) l
      → Lists names shelf around taken (Rest (form ∷ forms) end) (behind (between t inner.items) l)
  -- or up to its fault, which ends the whole list
  torn : (around taken : List (List ℕ)) (form : Form) (forms : List Form) (end : End) (inner : Listing) (t : ℕ) → included names form.tree ≡ Some t → IsNew around taken (text_named names t)
      → Lists names shelf around taken (Book (text_named names t)) inner → inner.finish ≢ finish.Clean
      → Lists names shelf around taken (Rest (form ∷ forms) end) (behind (item.Mark (book_mark t) ∷ []) inner)

-- a book's list, by a table of texts and each later one, of some shelf, which has a text as it is told. The table is one of the book's own text, on from a first one
pub record IsFlat (first table : List (List ℕ)) (holds : List ℕ → Option (List ℕ)) (name : List ℕ) (items : List Item) (end : Finish) : Type 0 where
  pub shelf : List ℕ → List ℕ
  pub told : (other : List ℕ) → IfSome (holds other) (λ bytes. shelf other ≡ bytes)
  pub taken : List (List ℕ)
  pub lists : (names : List (List ℕ)) → Extends table names → Lists names shelf [] [] (Book name) (record { items = items; taken = taken; finish = end })
  pub begins : length (shelf name) ≤ most_bytes → IsTableOf (shelf name) first table
