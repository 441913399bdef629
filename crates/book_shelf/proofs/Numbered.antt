-- A table that lists a book has the texts of its items.
use Rattle.std.proofs.Common.{◌≡◌, sym, subst, ℕ, ◌<◌, zero, suc, Bool, true, false, List, [], ◌∷◌, ◌++◌, append-nil, length, Option, Some, None, cond}
use Rattle.std.specs.Prelude.{All}
use Rattle.std.specs.List.{AllByRecursion}
use Rattle.std.proofs.lemmas.List.Elements.{recursion_from_All}
use Rattle.gl_logic.specs.Every.{Every}
use Rattle.gl_logic.specs.Numbered.{IsNumbered}
use Rattle.gl_logic.specs.Object.{Object, Int, Character, Symbol, Text, Cons}
use Rattle.sexp_reader.specs.declared.list.Form.{Form}
use Rattle.book_shelf.specs.declared.finish.Finish.{Finish}
use Rattle.book_shelf.specs.declared.item.Item.{Item}
use Rattle.book_shelf.specs.declared.item.Item.TheVariants as item
use Rattle.book_shelf.specs.Included.{included}
use Rattle.book_shelf.specs.Listed.{Listing, between, end_mark}
use Rattle.book_shelf.specs.Flat.{Goal, Book, IsFlat, Rest, Lists, long, text, ended, form, cyclic, same, many, whole, torn}
use Rattle.book_shelf.specs.NumberedItems.{IsNumberedItem}

module _ (names : List (List ℕ)) (shelf : List ℕ → List ℕ) where
  abbrev Here : Form → Type 0
  Here f = IsNumbered (length names) f.tree

  abbrev Ready : Goal → Type 0
  Ready (Book name) = Unit {0}
  Ready (Rest forms end) = Every Here forms

  abbrev Item_here : Item → Type 0
  Item_here i = IsNumberedItem (length names) i

  both : (xs ys : List Item) → Every Item_here xs → Every Item_here ys → Every Item_here (xs ++ ys)
  both [] ys h k = k
  both (x ∷ xs) ys h k = (h.0, both xs ys h.1 k)

  if_told : (b : Bool) (t u : ℕ) → cond b (Some t) None ≡ Some u → t ≡ u
  if_told true t u e = cc
  if_told false t u e = absurd cc

  named : (x : Object) (t : ℕ) → IsNumbered (length names) x → included names x ≡ Some t → t < length names
  named (Cons k (Cons (Text u) (Symbol zero))) t h e = subst (λ n. n < length names) (if_told _ u t e) h.1.0
  named (Cons k (Cons (Text u) (Symbol (suc n)))) t h e = absurd cc
  named (Cons k (Cons (Text u) (Int z))) t h e = absurd cc
  named (Cons k (Cons (Text u) (Character n))) t h e = absurd cc
  named (Cons k (Cons (Text u) (Text n))) t h e = absurd cc
  named (Cons k (Cons (Text u) (Cons a d))) t h e = absurd cc
  named (Cons k (Cons (Int z) r)) t h e = absurd cc
  named (Cons k (Cons (Character n) r)) t h e = absurd cc
  named (Cons k (Cons (Symbol n) r)) t h e = absurd cc
  named (Cons k (Cons (Cons a d) r)) t h e = absurd cc
  named (Cons k (Int z)) t h e = absurd cc
  named (Cons k (Character n)) t h e = absurd cc
  named (Cons k (Symbol n)) t h e = absurd cc
  named (Cons k (Text n)) t h e = absurd cc
  named (Int z) t h e = absurd cc
  named (Character n) t h e = absurd cc
  named (Symbol n) t h e = absurd cc
  named (Text n) t h e = absurd cc

  from_recursion : (forms : List Form) → AllByRecursion Here forms → Every Here forms
  from_recursion [] h = tt
  from_recursion (f ∷ forms) h = (h.0, from_recursion forms h.1)

  as_every : (forms : List Form) → All Here forms → Every Here forms
  as_every forms h = from_recursion forms (recursion_from_All Here forms h)

  pub numbered : (around taken : List (List ℕ)) (goal : Goal) (l : Listing) → Lists names shelf around taken goal l → Ready goal → Every Item_here l.items
  numbered _ _ _ _ (long around taken name line column b) r = tt
  numbered _ _ _ _ (text around taken name forms end l few reads all d) r = numbered _ _ _ _ d (as_every forms all)
  numbered _ _ _ _ (ended around taken end) r = tt
  numbered _ _ _ _ (form around taken f forms end l e d) r = (r.0, numbered _ _ _ _ d r.1)
  numbered _ _ _ _ (cyclic around taken f forms end t e i) r = tt
  numbered _ _ _ _ (same around taken f forms end l t e o i d) r = (named f.tree t r.0 e, numbered _ _ _ _ d r.1)
  numbered _ _ _ _ (many around taken f forms end t e o i m) r = tt
  numbered _ _ _ _ (whole around taken f forms end inner l t e n d c rest) r =
      let k = named f.tree t r.0 e in
      both (between t inner.items) l.items (k, both inner.items (item.Mark (end_mark t) ∷ []) (numbered _ _ _ _ d tt) (k, tt)) (numbered _ _ _ _ rest r.1)
  numbered _ _ _ _ (torn around taken f forms end inner t e n d c) r = (named f.tree t r.0 e, numbered _ _ _ _ d tt)

pub flat_numbered : (first table : List (List ℕ)) (holds : List ℕ → Option (List ℕ)) (name : List ℕ) (items : List Item) (end : Finish) → IsFlat first table holds name items end → Every (IsNumberedItem (length table)) items
flat_numbered first table holds name items end flat = numbered table flat.shelf [] [] (Book name) (record { items = items; taken = flat.taken; finish = end }) (flat.lists table ([], sym (append-nil table))) tt
