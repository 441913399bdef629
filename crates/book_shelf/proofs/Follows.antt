-- What may be opened, from a book to its forms and from a form to its book.
use Rattle.std.proofs.Common.{◌≡◌, ◌∙◌, ap, sym, refl, subst, ℕ, List, [], ◌∷◌, ◌++◌, Option, Some, append_assoc, arith}
use Rattle.std.specs.Prelude.{IfSome, All, suc}
use Rattle.std.specs.List.{AllByRecursion}
use Rattle.gl_logic.specs.Names.{Extends}
use Rattle.gl_logic.proofs.GrownTables.{extends_then}
use Rattle.sexp_reader.specs.declared.list.Form.{Form}
use Rattle.sexp_reader.specs.declared.ends.End.{End}
use Rattle.sexp_reader.specs.Reads.{Reads}
use Rattle.book_shelf.specs.Reached.{Includes, Reached, own, through, MayLoad, MayFollow}

module _ (may : List ℕ → Type 0) where
  pub may_own : (holds : List ℕ → Option (List ℕ)) (book : List ℕ) → MayLoad may holds book → may book
  may_own holds book h = h book (own book)

  -- the same of a shelf that holds the same
  pub load_there : (holds holds' : List ℕ → Option (List ℕ)) (book : List ℕ) → ((n : List ℕ) → holds' n ≡ holds n) → MayLoad may holds book → MayLoad may holds' book
  load_there holds holds' book e = subst (λ (hs : List ℕ → Option (List ℕ)). MayLoad may hs book) (λ i n. sym (e n) i)

  pub follow_there : (holds holds' : List ℕ → Option (List ℕ)) (table : List (List ℕ)) (f : Form) → ((n : List ℕ) → holds' n ≡ holds n) → MayFollow may holds table f → MayFollow may holds' table f
  follow_there holds holds' table f e = subst (λ (hs : List ℕ → Option (List ℕ)). MayFollow may hs table f) (λ i n. sym (e n) i)

  pub all_there : (holds holds' : List ℕ → Option (List ℕ)) (table : List (List ℕ)) (fs : List Form) → ((n : List ℕ) → holds' n ≡ holds n) → AllByRecursion (MayFollow may holds table) fs → AllByRecursion (MayFollow may holds' table) fs
  all_there holds holds' table fs e = subst (λ (hs : List ℕ → Option (List ℕ)). AllByRecursion (MayFollow may hs table) fs) (λ i n. sym (e n) i)

  -- by a later table
  pub all_follow : (holds : List ℕ → Option (List ℕ)) (table later : List (List ℕ)) (fs : List Form) → Extends table later → AllByRecursion (MayFollow may holds table) fs → AllByRecursion (MayFollow may holds later) fs
  all_follow holds table later [] grows h = tt
  all_follow holds table later (f ∷ fs) grows h = (λ names g. h.0 names (extends_then table later names grows g), all_follow holds table later fs grows h.1)

  -- from a book to the forms of its text
  follow_from : (holds : List ℕ → Option (List ℕ)) (book bytes : List ℕ) (table : List (List ℕ)) (whole before rest : List Form) (end : End) → IfSome (holds book) (λ text. bytes ≡ text)
      → ((names : List (List ℕ)) → Extends table names → Reads names bytes whole end) → MayLoad may holds book → before ++ rest ≡ whole → AllByRecursion (MayFollow may holds table) rest
  follow_from holds book bytes table whole before [] end told reads h parts = tt
  follow_from holds book bytes table whole before (f ∷ rest) end told reads h parts = (
    λ names g t is other r. h other (through book _ other (record {
      bytes = bytes;
      told = told;
      names = names;
      before = before;
      form = f;
      after = rest;
      end = end;
      reads = subst (λ (fs : List Form). Reads names bytes fs end) (sym parts) (reads names g);
      number = t;
      is = is;
      named = refl;
    }) r),
    follow_from holds book bytes table whole (before ++ f ∷ []) rest end told reads h (append_assoc before (f ∷ []) rest ∙ parts),
  )

  pub may_follow : (holds holds' : List ℕ → Option (List ℕ)) (book bytes : List ℕ) (table : List (List ℕ)) (whole : List Form) (end : End) → ((n : List ℕ) → holds' n ≡ holds n) → IfSome (holds book) (λ text. bytes ≡ text)
      → ((names : List (List ℕ)) → Extends table names → Reads names bytes whole end) → MayLoad may holds book → AllByRecursion (MayFollow may holds' table) whole
  may_follow holds holds' book bytes table whole end e told reads h = all_there holds holds' table whole e (follow_from holds book bytes table whole [] whole end told reads h refl)

  pub follow_first : (holds : List ℕ → Option (List ℕ)) (table : List (List ℕ)) (f : Form) (fs left : List Form) → fs ≡ f ∷ left → AllByRecursion (MayFollow may holds table) fs
      → MayFollow may holds table f × AllByRecursion (MayFollow may holds table) left
  follow_first holds table f fs left e k = subst (λ (xs : List Form). AllByRecursion (MayFollow may holds table) xs) e k

-- each by its number is each in turn
pub all_from : (P : Form → Type 0) (fs : List Form) → All P fs → AllByRecursion P fs
all_from P [] h = tt
all_from P (f ∷ fs) h = (h 0 f (omega arith), all_from P fs (λ k d b. h (suc k) d (omega (arith, b))))
