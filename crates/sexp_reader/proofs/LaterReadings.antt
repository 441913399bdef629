-- The reading of a text by a later table.
use Rattle.std.proofs.Common.{◌≡◌, ◌∙◌, ap, subst, refl, ℕ, suc, ◌<◌, Bool, true, false, List, length, inl, inr}
use Rattle.std.specs.Prelude.{All, bytes_eq}
use Rattle.std.specs.List.{AllByRecursion}
use Rattle.std.proofs.lemmas.List.Elements.{recursion_from_All}
use Rattle.gl_logic.specs.Object.{Object, Symbol, Text, Cons, nil}
use Rattle.gl_logic.specs.Names.{Extends}
use Rattle.gl_logic.specs.Numbered.{IsNumbered}
use Rattle.gl_logic.proofs.GrownTables.{extends_then}
use Rattle.sexp_reader.specs.declared.place.Place.{Place}
use Rattle.sexp_reader.specs.declared.ends.ReadCode.{ReadCode}
use Rattle.sexp_reader.specs.declared.list.Form.{Form}
use Rattle.sexp_reader.specs.declared.ends.End.{End}
use Rattle.sexp_reader.specs.declared.lexeme.Atom.{Atom}
use Rattle.sexp_reader.specs.declared.lexeme.Atom.TheVariants as atoms
use Rattle.sexp_reader.specs.declared.lexeme.Mark.{Mark}
use Rattle.sexp_reader.specs.declared.lexeme.Piece.{Piece}
use Rattle.sexp_reader.specs.declared.lexeme.Piece.TheVariants.{Part}
use Rattle.sexp_reader.specs.declared.lexeme.Lexeme.TheVariants as lexeme
use Rattle.sexp_reader.specs.Pieces.{first_piece}
use Rattle.sexp_reader.specs.Gathers.{Gathers, Numbers, IsTableOf}
use Rattle.sexp_reader.proofs.Gathering.{one_extends}
use Rattle.sexp_reader.specs.Grammar as grammar
use Rattle.sexp_reader.specs.Grammar.{Spot, past, place_in, object_of, mark_text, Outcome, Got, Fault, prefixed, marked, consed, Goal, Rest, Last, Closing, wants, flaw_at, Gives, gap, list, prefix, empty, element, dot, last, close, flaw, inner}
use Rattle.sexp_reader.specs.Reads as reads
use Rattle.sexp_reader.specs.Reads.{Reads, ReadsFrom, ended, form, fault, start, form_at}
use Rattle.sexp_reader.proofs.Exact.{one_reading}
use Rattle.sexp_reader.proofs.Tables.{place-append}

-- the other object where a goal has one
abbrev with_object : Goal → Object → Goal
with_object (Closing x) y = Closing y
with_object goal y = goal

same_wants : (goal : Goal) (y : Object) (p : Piece) → wants (with_object goal y) p ≡ wants goal p
same_wants grammar.Form y p = refl
same_wants (Rest some) y p = refl
same_wants Last y p = refl
same_wants (Closing x) y p = refl

same_flaw : (goal : Goal) (y : Object) (around : ℕ) (spot : Spot) (p : Piece) → flaw_at (with_object goal y) around spot p ≡ flaw_at goal around spot p
same_flaw grammar.Form y around spot p = refl
same_flaw (Rest some) y around spot p = refl
same_flaw Last y around spot p = refl
same_flaw (Closing x) y around spot p = refl

module _ (names later : List (List ℕ)) (grows : Extends names later) where
  -- an object by the later table: the same, where the earlier one has its texts
  abbrev IsSame : Object → Object → Type 0
  IsSame x y = IsNumbered (length names) x → y ≡ x

  abbrev IsSameGoal : Goal → Object → Type 0
  IsSameGoal (Closing x) y = IsSame x y
  IsSameGoal goal y = Unit {0}

  -- what the later table gives where the earlier one gives this
  data IsGiven (goal : Goal) (around : ℕ) (spot : Spot) : Outcome → Type 0 where
    given : (x y : Object) (next : Spot) → IsSame x y → Gives later goal around spot (Got y next) → IsGiven goal around spot (Got x next)
    faulty : (place : Place) (code : ReadCode) → Gives later goal around spot (Fault place code) → IsGiven goal around spot (Fault place code)

  same_place : (text : List ℕ) → place_in names text < length names → place_in later text ≡ place_in names text
  same_place text h = ap (λ (l : List (List ℕ)). place_in l text) grows.1 ∙ place-append (bytes_eq text) names grows.0 h

  same_atom : (leaf : Atom) → IsSame (object_of names leaf) (object_of later leaf)
  same_atom (atoms.Integer z) h = refl
  same_atom (atoms.Character code) h = refl
  same_atom (atoms.Symbol text) h = ap Symbol (same_place text h)
  same_atom (atoms.String text) h = ap Text (same_place text h)

  -- one step of a rule
  onward : (goal next_goal : Goal) (around inside : ℕ) (spot next : Spot) (o : Outcome) → ((o : Outcome) → Gives later next_goal inside next o → Gives later goal around spot o)
      → IsGiven next_goal inside next o → IsGiven goal around spot o
  onward goal next_goal around inside spot next _ step (given x y end same d) = given x y end same (step (Got y end) d)
  onward goal next_goal around inside spot next _ step (faulty place code d) = faulty place code (step (Fault place code) d)

  under_mark : (around : ℕ) (spot : Spot) (count : ℕ) (mark : Mark) (o : Outcome) → first_piece spot.bytes ≡ Part count (lexeme.Prefix mark) → around < 1000
      → IsGiven grammar.Form (suc around) (past spot count) o → IsGiven grammar.Form around spot (marked (place_in names (mark_text mark)) o)
  under_mark around spot count mark _ e l (given x y next same d) =
      given (prefixed (place_in names (mark_text mark)) x) (prefixed (place_in later (mark_text mark)) y) next
      (λ h. let s = same_place (mark_text mark) h.0 in let t = same h.1.0 in λ i. prefixed (s i) (t i)) (prefix around spot count mark (Got y next) e l d)
  under_mark around spot count mark _ e l (faulty place code d) = faulty place code (prefix around spot count mark (Fault place code) e l d)

  in_front : (some : Bool) (around : ℕ) (spot next : Spot) (x y : Object) (o : Outcome) → wants (Rest some) (first_piece spot.bytes) ≡ true → IsSame x y → Gives later grammar.Form around spot (Got y next)
      → IsGiven (Rest true) around next o → IsGiven (Rest some) around spot (consed x o)
  in_front some around spot next x y _ w s d (given r z end same f) =
      given (Cons x r) (Cons y z) end (λ h. let a = s h.0 in let b = same h.1 in λ i. Cons (a i) (b i)) (element some around spot next y (Got z end) w d f)
  in_front some around spot next x y _ w s d (faulty place code f) = faulty place code (element some around spot next y (Fault place code) w d f)

  record One (goal : Goal) (around : ℕ) (spot : Spot) (x : Object) (next : Spot) : Type 0 where
    object : Object
    same : IsSame x object
    gives : Gives later goal around spot (Got object next)

  the_one : (goal : Goal) (around : ℕ) (spot : Spot) (x : Object) (next : Spot) → IsGiven goal around spot (Got x next) → One goal around spot x next
  the_one goal around spot _ _ (given x y next s d) = record { object = y; same = s; gives = d }

  the_fault : (goal : Goal) (around : ℕ) (spot : Spot) (place : Place) (code : ReadCode) → IsGiven goal around spot (Fault place code) → Gives later goal around spot (Fault place code)
  the_fault goal around spot _ _ (faulty place code d) = d

  gives_later : (goal : Goal) (around : ℕ) (spot : Spot) (o : Outcome) → Gives names goal around spot o → (y : Object) → IsSameGoal goal y → IsGiven (with_object goal y) around spot o
  gives_later _ _ _ _ (gap goal around spot count o e d) y s =
      onward (with_object goal y) (with_object goal y) around around spot (past spot count) o (λ p f. gap (with_object goal y) around spot count p e f) (gives_later goal around (past spot count) o d y s)
  gives_later _ _ _ _ (grammar.atom around spot count leaf e) y s = given (object_of names leaf) (object_of later leaf) (past spot count) (same_atom leaf) (grammar.atom around spot count leaf e)
  gives_later _ _ _ _ (list around spot count o e l d) y s =
      onward grammar.Form (Rest false) around (suc around) spot (past spot count) o (λ p f. list around spot count p e l f) (gives_later (Rest false) (suc around) (past spot count) o d nil tt)
  gives_later _ _ _ _ (prefix around spot count mark o e l d) y s = under_mark around spot count mark o e l (gives_later grammar.Form (suc around) (past spot count) o d nil tt)
  gives_later _ _ _ _ (empty any around spot count e) y s = given nil nil (past spot count) (λ h. refl) (empty any around spot count e)
  gives_later _ _ _ _ (element any around spot next x o w d f) y s =
      let one = the_one grammar.Form around spot x next (gives_later grammar.Form around spot (Got x next) d nil tt) in
      in_front any around spot next x one.object o w one.same one.gives (gives_later (Rest true) around next o f nil tt)
  gives_later _ _ _ _ (dot around spot count o e d) y s =
      onward (Rest true) Last around around spot (past spot count) o (λ p f. dot around spot count p e f) (gives_later Last around (past spot count) o d nil tt)
  gives_later _ _ _ _ (last around spot next x o w d f) y s =
      let one = the_one grammar.Form around spot x next (gives_later grammar.Form around spot (Got x next) d nil tt) in
      onward Last (Closing one.object) around around spot next o (λ p g. last around spot next one.object p w one.gives g) (gives_later (Closing x) around next o f one.object one.same)
  gives_later _ _ _ _ (close around spot count x e) y s = given x y (past spot count) s (close around spot count y e)
  gives_later _ _ _ _ (flaw goal around spot f e) y s = faulty f.place f.code (flaw (with_object goal y) around spot f (same_flaw goal y around spot (first_piece spot.bytes) ∙ e))
  gives_later _ _ _ _ (inner goal around spot place code w d) y s =
      faulty place code (inner (with_object goal y) around spot place code (same_wants goal y (first_piece spot.bytes) ∙ w) (the_fault grammar.Form around spot place code (gives_later grammar.Form around spot (Fault place code) d nil tt)))

  forms_later : (spot : Spot) (forms : List Form) (end : End) → ReadsFrom names spot forms end → AllByRecursion (λ (f : Form). IsNumbered (length names) f.tree) forms → ReadsFrom later spot forms end
  forms_later _ _ _ (ended spot e) h = ended spot e
  forms_later _ _ _ (reads.gap spot count forms end e d) h = reads.gap spot count forms end e (forms_later (past spot count) forms end d h)
  forms_later _ _ _ (form spot next x forms end w d f) h =
      let one = the_one grammar.Form 0 spot x next (gives_later grammar.Form 0 spot (Got x next) d nil tt) in
      let same : Gives later grammar.Form 0 spot (Got x next) = subst (λ z. Gives later grammar.Form 0 spot (Got z next)) (one.same h.0) one.gives in
      form spot next x forms end w same (forms_later next forms end f h.1)
  forms_later _ _ _ (fault spot place code w d) h = fault spot place code w (the_fault grammar.Form 0 spot place code (gives_later grammar.Form 0 spot (Fault place code) d nil tt))

  -- the forms of a text by a table that numbers them are its forms by each later table
  pub reads_later : (bytes : List ℕ) (forms : List Form) (end : End) → Reads names bytes forms end → All (λ form. IsNumbered (length names) form.tree) forms → Reads later bytes forms end
  reads_later bytes forms end d h = forms_later (start bytes) forms end d (recursion_from_All (λ (f : Form). IsNumbered (length names) f.tree) forms h)

-- what numbers the forms of one reading numbers those of each, since there is one
pub numbers_all : (names : List (List ℕ)) (bytes : List ℕ) (forms : List Form) (end : End) → Reads names bytes forms end → All (λ form. IsNumbered (length names) form.tree) forms → Numbers names bytes
numbers_all names bytes forms end d h others other f =
    subst (λ (fs : List Form). All (λ (form : Form). IsNumbered (length names) form.tree) fs) (one_reading names (start bytes) forms others end other d f).0 h

-- ---- the tables of a text
-- what reading has gathered, and what is put behind it
pub table_of : (bytes : List ℕ) (first names later : List (List ℕ)) (forms : List Form) (end : End) → Gathers bytes first names → Reads names bytes forms end → All (λ form. IsNumbered (length names) form.tree) forms → Extends names later
    → IsTableOf bytes first later
table_of bytes first names later forms end g d h x = record { front = names; gathers = g; numbers = numbers_all names bytes forms end d h; extends = x }

-- two of them begin with one
pub record Both (bytes : List ℕ) (first names others : List (List ℕ)) : Type 0 where
  pub front : List (List ℕ)
  pub gathers : Gathers bytes first front
  pub numbers : Numbers front bytes
  pub left : Extends front names
  pub right : Extends front others

pub both_begin : (bytes : List ℕ) (first names others : List (List ℕ)) → IsTableOf bytes first names → IsTableOf bytes first others → Both bytes first names others
both_begin bytes first names others p q = elim (one_extends bytes first p.front q.front p.gathers q.gathers) [
  | inl x ↦ record { front = p.front; gathers = p.gathers; numbers = p.numbers; left = p.extends; right = extends_then p.front q.front others x q.extends }
  | inr x ↦ record { front = q.front; gathers = q.gathers; numbers = q.numbers; left = extends_then q.front p.front names x p.extends; right = q.extends }
]
