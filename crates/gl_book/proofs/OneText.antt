-- What comes of one text by the tables and the limits of two runs, and of one book of a shelf by one table and the limits of two.
use Rattle.std.proofs.Common.{◌≡◌, ◌∙◌, ap, sym, refl, subst, ℕ, ◌≤◌, List, [], ◌∷◌, length, map, ◌⊎◌, inl, inr, arith}
use Rattle.gl_logic.specs.Names.{Extends}
use Rattle.sexp_reader.specs.declared.list.Form.{Form}
use Rattle.sexp_reader.specs.declared.ends.End.{End}
use Rattle.sexp_reader.specs.declared.place.Place.{Place}
use Rattle.sexp_reader.specs.Book.{IsBeyond}
use Rattle.sexp_reader.specs.Reads.{start}
use Rattle.sexp_reader.specs.Gathers.{Gathers, Numbers}
use Rattle.sexp_reader.proofs.Exact.{one_reading}
use Rattle.sexp_reader.proofs.LaterReadings.{both_begin, reads_later}
use Rattle.book_shelf.specs.declared.finish.Finish.{Finish}
use Rattle.book_shelf.specs.declared.item.Item.{Item}
use Rattle.book_shelf.specs.declared.item.Item.TheVariants as item
use Rattle.book_shelf.specs.Listed.{Listing, finish_of}
use Rattle.book_shelf.specs.Flat.{Book, most_bytes}
use Rattle.book_shelf.proofs.Unique.{one}
use Rattle.event_world.specs.NextState.{BookState}
use Rattle.event_world.specs.OpeningNames.{opening_names}
use Rattle.gl_decide.specs.Bounds.{Bounds}
use Rattle.book_state.specs.Reading.{IsReadBy}
use Rattle.book_state.specs.States.{IsFirstState}
use Rattle.book_state.proofs.FirstStates.{first_reading, later_first}
use Rattle.gl_book.specs.Completeness.{AreRefusedAlike}
use Rattle.gl_book.specs.Entry.{Entry, Refused}
use Rattle.gl_book.specs.Transcript.{ComesOf, ComesOfList, ComesOfBook, long, short, long_refusal}
use Rattle.gl_book.specs.Walk.{Walk}
use Rattle.gl_book.proofs.Completeness.{alike_same, walks_alike}
use Rattle.gl_book.proofs.Fronts.{forms_numbered, walk_by_front}
use Rattle.gl_book.proofs.OneState.{one_first}

-- ---- what a text comes to
record IsLong (bytes : List ℕ) (xs : List Entry) : Type 0 where
  line : ℕ
  column : ℕ
  beyond : IsBeyond most_bytes bytes line column
  entries : xs ≡ Refused (long_refusal line column) ∷ []

record IsShort (names : List (List ℕ)) (bounds : Bounds) (bytes : List ℕ) (xs : List Entry) : Type 0 where
  forms : List Form
  end : End
  first : BookState
  few : length bytes ≤ most_bytes
  read : IsReadBy names bytes forms end
  begins : IsFirstState names first
  walk : Walk names bounds first (map item.Form forms) (finish_of end) xs

which : (names : List (List ℕ)) (bounds : Bounds) (bytes : List ℕ) (xs : List Entry) → ComesOf names bounds bytes xs → IsLong bytes xs ⊎ IsShort names bounds bytes xs
which _ _ _ _ (long line column b) = inl (record { line = line; column = column; beyond = b; entries = refl })
which _ _ _ _ (short forms end first entries few read begins walk) = inr (record { forms = forms; end = end; first = first; few = few; read = read; begins = begins; walk = walk })

not_both : {P : Type 0} (names : List (List ℕ)) (bounds : Bounds) (bytes : List ℕ) (xs ys : List Entry) → IsLong bytes xs → IsShort names bounds bytes ys → P
not_both names bounds bytes xs ys p q = let l = p.beyond.0 in let m = q.few in absurd (omega (arith, l, m))

both_long : (bytes : List ℕ) (xs ys : List Entry) → IsLong bytes xs → IsLong bytes ys → AreRefusedAlike xs ys
both_long bytes xs ys p q =
    let place = sym p.beyond.1 ∙ q.beyond.1 in
    alike_same xs ys (p.entries ∙ (ap (λ (at : Place). Refused (long_refusal at.line at.column) ∷ []) place ∙ sym q.entries))

-- by one table
by_one : (names : List (List ℕ)) (bounds limits : Bounds) (bytes : List ℕ) (xs ys : List Entry) → IsShort names bounds bytes xs → IsShort names limits bytes ys → AreRefusedAlike xs ys
by_one names bounds limits bytes xs ys p q =
    let same = one_reading names (start bytes) q.forms p.forms q.end p.end q.read.reads p.read.reads in
    let first = one_first names p.read.table q.first p.first q.begins p.begins in
    let walk : Walk names limits p.first (map item.Form p.forms) (finish_of p.end) ys =
    subst (λ (s : BookState). Walk names limits s (map item.Form p.forms) (finish_of p.end) ys) first
    (subst (λ (e : End). Walk names limits q.first (map item.Form p.forms) (finish_of e) ys) same.1
    (subst (λ (fs : List Form). Walk names limits q.first (map item.Form fs) (finish_of q.end) ys) same.0 q.walk)) in
    walks_alike names bounds limits (finish_of p.end) p.first (map item.Form p.forms) xs ys p.walk walk

-- by a front of the table, which the text gathers
by_front : (front names : List (List ℕ)) (bounds : Bounds) (bytes : List ℕ) (xs : List Entry) → Gathers bytes opening_names front → Numbers front bytes → Extends front names → IsShort names bounds bytes xs → IsShort front bounds bytes xs
by_front front names bounds bytes xs gathers numbers grown p =
    let f = first_reading front bytes gathers numbers in
    let same = one_reading names (start bytes) p.forms f.forms p.end f.end p.read.reads (reads_later front names grown bytes f.forms f.end f.read.reads f.read.numbered) in
    let first = one_first names p.read.table p.first f.state p.begins (later_first front names f.state p.read.table grown f.begins) in
    let walk : Walk names bounds f.state (map item.Form f.forms) (finish_of f.end) xs =
    subst (λ (s : BookState). Walk names bounds s (map item.Form f.forms) (finish_of f.end) xs) first
    (subst (λ (e : End). Walk names bounds p.first (map item.Form f.forms) (finish_of e) xs) same.1
    (subst (λ (fs : List Form). Walk names bounds p.first (map item.Form fs) (finish_of p.end) xs) same.0 p.walk)) in
    record {
      forms = f.forms;
      end = f.end;
      first = f.state;
      few = p.few;
      read = f.read;
      begins = f.begins;
      walk = walk_by_front front names f.read.empty grown bounds f.state (map item.Form f.forms) (finish_of f.end) xs walk (forms_numbered (length front) f.forms f.read.numbered);
    }

module _ (names others : List (List ℕ)) (bounds limits : Bounds) where
  -- two tables of one text begin with one
  both_short : (bytes : List ℕ) (xs ys : List Entry) → IsShort names bounds bytes xs → IsShort others limits bytes ys → AreRefusedAlike xs ys
  both_short bytes xs ys p q =
      let both = both_begin bytes opening_names names others p.read.opens q.read.opens in
      by_one both.front bounds limits bytes xs ys (by_front both.front names bounds bytes xs both.gathers both.numbers both.left p) (by_front both.front others limits bytes ys both.gathers both.numbers both.right q)

  pub texts_alike : (bytes : List ℕ) (xs ys : List Entry) → ComesOf names bounds bytes xs → ComesOf others limits bytes ys → AreRefusedAlike xs ys
  texts_alike bytes xs ys p q = elim (which names bounds bytes xs p) [
    | inl a ↦ elim (which others limits bytes ys q) [
      | inl b ↦ both_long bytes xs ys a b
      | inr b ↦ not_both others limits bytes xs ys a b
    ]
    | inr a ↦ elim (which others limits bytes ys q) [
      | inl b ↦ not_both names bounds bytes ys xs b a
      | inr b ↦ both_short bytes xs ys a b
    ]
  ]

-- ---- a list, and a book of a shelf
module _ (names : List (List ℕ)) (bounds limits : Bounds) where
  lists_alike : (items : List Item) (end : Finish) (xs ys : List Entry) → ComesOfList names bounds items end xs → ComesOfList names limits items end ys → AreRefusedAlike xs ys
  lists_alike items end xs ys p q =
      let first = one_first names p.table q.first p.first q.begins p.begins in
      walks_alike names bounds limits end p.first items xs ys p.walk (subst (λ (s : BookState). Walk names limits s items end ys) first q.walk)

  pub books_alike : (shelf : List ℕ → List ℕ) (name : List ℕ) (xs ys : List Entry) → ComesOfBook names bounds shelf name xs → ComesOfBook names limits shelf name ys → AreRefusedAlike xs ys
  books_alike shelf name xs ys p q =
      let same : q.list ≡ p.list = one names shelf [] [] (Book name) q.list q.lists p.list p.lists in
      lists_alike p.list.items p.list.finish xs ys p.comes (subst (λ (l : Listing). ComesOfList names limits l.items l.finish ys) same q.comes)
