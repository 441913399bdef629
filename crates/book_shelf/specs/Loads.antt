-- What a load has read and listed, part by part.
use Rattle.gl_base.specs.Outside.{Rose}
use Rattle.std.specs.Prelude.{◌≡◌, ◌≤◌, ℕ, false, List, [], ◌∷◌, ◌++◌, length, map, Option, None, Some, Result, IfSome, MatchResult}
use Rattle.gl_logic.specs.Every.{Every}
use Rattle.gl_logic.specs.Names.{Extends}
use Rattle.gl_logic.specs.Numbered.{IsNumbered}
use Rattle.sexp_reader.specs.declared.list.Form.{Form}
use Rattle.sexp_reader.specs.declared.ends.End.{End}
use Rattle.book_shelf.specs.declared.item.Item.{Item}
use Rattle.book_shelf.specs.declared.finish.Finish.{Finish}
use Rattle.book_shelf.specs.declared.load_end.LoadEnd.{LoadEnd}
use Rattle.book_shelf.specs.declared.load_end.LoadEnd.TheVariants.{Failed, Memory}
use Rattle.book_shelf.specs.Listed.{Listing, behind}
use Rattle.sexp_reader.specs.Gathers.{IsTableOf}
use Rattle.book_shelf.specs.Flat.{Goal, Book, Rest, Lists, is_among, most_bytes}

-- ---- the shelf's count of faults: it rose where a call failed, and nowhere else
abbrev pub HasRisen : ℕ → ℕ → LoadEnd → Type 0
HasRisen before now Failed = Rose before now
HasRisen before now Memory = now ≡ before

abbrev pub IsCounted : {T : Type 0} → ℕ → ℕ → Result T LoadEnd → Type 0
IsCounted before now result = MatchResult result (λ _. now ≡ before) (HasRisen before now)

-- the table has the texts of the form
abbrev pub IsNumberedForm : ℕ → Form → Type 0
IsNumberedForm n form = IsNumbered n form.tree

-- ---- a part of it
-- texts that were read, each with its name
abbrev pub AreIn : List (List ℕ × List ℕ) → (List ℕ → List ℕ) → Type 0
AreIn read shelf = Every (λ p. shelf p.0 ≡ p.1) read

abbrev pub AreTold : List (List ℕ × List ℕ) → (List ℕ → Option (List ℕ)) → Type 0
AreTold read holds = Every (λ p. IfSome (holds p.0) (λ bytes. p.1 ≡ bytes)) read

-- none of them was taken before, nor twice
abbrev pub AreFresh : List (List ℕ) → List (List ℕ × List ℕ) → Type 0
AreFresh taken [] = Unit {0}
AreFresh taken (p ∷ read) = (is_among p.0 taken ≡ false) × AreFresh (taken ++ p.0 ∷ []) read

-- texts were read and taken, and items listed
pub record Took (holds : List ℕ → Option (List ℕ)) (taken : List (List ℕ)) (items : List Item) (now : List (List ℕ)) (listed : List Item) : Type 0 where
  pub read : List (List ℕ × List ℕ)
  pub told : AreTold read holds
  pub fresh : AreFresh taken read
  pub more : List Item
  pub names : now ≡ taken ++ map (λ p. p.0) read
  pub added : listed ≡ items ++ more

-- a goal's list was made: so it is by each later table, and for each shelf that has the texts that were read
pub record Loads (table : List (List ℕ)) (holds : List ℕ → Option (List ℕ)) (around taken : List (List ℕ)) (items : List Item) (goal : Goal) (now : List (List ℕ)) (listed : List Item) (end : Finish) : Type 0 where
  pub took : Took holds taken items now listed
  pub lists : (names : List (List ℕ)) → Extends table names → (shelf : List ℕ → List ℕ) → AreIn took.read shelf → Lists names shelf around taken goal (record { items = took.more; taken = now; finish = end })

-- so was a book's, and the table is one of its text, on from the one that was there
pub record LoadsBook (first table : List (List ℕ)) (holds : List ℕ → Option (List ℕ)) (around taken : List (List ℕ)) (items : List Item) (name : List ℕ) (now : List (List ℕ)) (listed : List Item) (end : Finish) : Type 0 where
  pub loads : Loads table holds around taken items (Book name) now listed end
  pub begins : (shelf : List ℕ → List ℕ) → AreIn loads.took.read shelf → length (shelf name) ≤ most_bytes → IsTableOf (shelf name) first table

-- forms were gone over, whatever stands behind them
pub record Passes (table : List (List ℕ)) (holds : List ℕ → Option (List ℕ)) (around taken : List (List ℕ)) (items : List Item) (front : List Form) (now : List (List ℕ)) (listed : List Item) : Type 0 where
  pub took : Took holds taken items now listed
  pub lists : (names : List (List ℕ)) → Extends table names → (shelf : List ℕ → List ℕ) → AreIn took.read shelf → (rest : List Form) (end : End) (l : Listing) → Lists names shelf around now (Rest rest end) l
      → Lists names shelf around taken (Rest (front ++ rest) end) (behind took.more l)

-- the list ends in them, whatever stands behind them
pub record Stops (table : List (List ℕ)) (holds : List ℕ → Option (List ℕ)) (around taken : List (List ℕ)) (items : List Item) (front : List Form) (now : List (List ℕ)) (listed : List Item) (end : Finish) : Type 0 where
  pub took : Took holds taken items now listed
  pub lists : (names : List (List ℕ)) → Extends table names → (shelf : List ℕ → List ℕ) → AreIn took.read shelf → (rest : List Form) (last : End)
      → Lists names shelf around taken (Rest (front ++ rest) last) (record { items = took.more; taken = now; finish = end })

-- one form: passed, or the end
abbrev pub Goes : List (List ℕ) → (List ℕ → Option (List ℕ)) → List (List ℕ) → List (List ℕ) → List Item → Form → List (List ℕ) → List Item → Option Finish → Type 0
Goes table holds around taken items form now listed None = Passes table holds around taken items (form ∷ []) now listed
Goes table holds around taken items form now listed (Some end) = Stops table holds around taken items (form ∷ []) now listed end
