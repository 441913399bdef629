-- What holds of each object of a text.
use Rattle.std.proofs.Common.{◌≡◌, refl, ℕ, suc, ◌+◌, ◌<◌, ◌≤◌, arith, true, false, List}
use Rattle.std.specs.List.{AllByRecursion}
use Rattle.gl_logic.specs.Object.{Object, Symbol, Cons, nil}
use Rattle.gl_logic.specs.Parts.{car_steps}
use Rattle.sexp_reader.specs.declared.list.Form.{Form}
use Rattle.sexp_reader.specs.declared.ends.End.{End}
use Rattle.sexp_reader.specs.declared.lexeme.Mark.{Mark}
use Rattle.sexp_reader.specs.declared.lexeme.Atom.{Atom}
use Rattle.sexp_reader.specs.declared.lexeme.Atom.TheVariants as atoms
use Rattle.sexp_reader.specs.declared.lexeme.Piece.TheVariants.{Part}
use Rattle.sexp_reader.specs.declared.lexeme.Lexeme.TheVariants as lexeme
use Rattle.sexp_reader.specs.Pieces.{first_piece}
use Rattle.sexp_reader.specs.Grammar as grammar
use Rattle.sexp_reader.specs.Grammar.{Spot, place_in, object_of, mark_text, Outcome, Got, Fault, marked, consed, Goal, Rest, Last, Closing, Gives, gap, list, prefix, empty, element, dot, last, close, flaw, inner}
use Rattle.sexp_reader.specs.Reads as reads
use Rattle.sexp_reader.specs.Reads.{ReadsFrom, ended, form, fault}

-- ---- a property that conses keep
module _ (names : List (List ℕ)) (P : Object → Type 0) (end_has : P nil) (cons_has : (x y : Object) → P x → P y → P (Cons x y)) (mark_has : (mark : Mark) → P (Symbol (place_in names (mark_text mark))))
    (atom_has : (bytes : List ℕ) (count : ℕ) (leaf : Atom) → first_piece bytes ≡ Part count (lexeme.Atom leaf) → P (object_of names leaf)) where
  abbrev pub Has : Outcome → Type 0
  Has (Got x next) = P x
  Has (Fault place code) = Unit {0}

  abbrev GoalHas : Goal → Type 0
  GoalHas (Closing x) = P x
  GoalHas goal = Unit {0}

  marked_has : (mark : Mark) (o : Outcome) → Has o → Has (marked (place_in names (mark_text mark)) o)
  marked_has mark (Got x next) h = cons_has _ _ (mark_has mark) (cons_has _ _ h end_has)
  marked_has mark (Fault place code) h = tt

  consed_has : (x : Object) (o : Outcome) → P x → Has o → Has (consed x o)
  consed_has x (Got y next) g h = cons_has x y g h
  consed_has x (Fault place code) g h = tt

  each_has : (goal : Goal) (around : ℕ) (spot : Spot) (o : Outcome) → Gives names goal around spot o → GoalHas goal → Has o
  each_has _ _ _ _ (gap goal around spot count o e d) g = each_has _ _ _ o d g
  each_has _ _ _ _ (grammar.atom around spot count leaf e) g = atom_has spot.bytes count leaf e
  each_has _ _ _ _ (list around spot count o e h d) g = each_has _ _ _ o d tt
  each_has _ _ _ _ (prefix around spot count mark o e h d) g = marked_has mark o (each_has _ _ _ o d tt)
  each_has _ _ _ _ (empty some around spot count e) g = end_has
  each_has _ _ _ _ (element some around spot next x o w d f) g = consed_has x o (each_has _ _ _ (Got x next) d tt) (each_has _ _ _ o f tt)
  each_has _ _ _ _ (dot around spot count o e d) g = each_has _ _ _ o d tt
  each_has _ _ _ _ (last around spot next x o w d f) g = each_has _ _ _ o f (each_has _ _ _ (Got x next) d tt)
  each_has _ _ _ _ (close around spot count x e) g = g
  each_has _ _ _ _ (flaw goal around spot f e) g = tt
  each_has _ _ _ _ (inner goal around spot place code w d) g = tt

  pub forms_have : (spot : Spot) (forms : List Form) (end : End) → ReadsFrom names spot forms end → AllByRecursion (λ (f : Form). P f.tree) forms
  forms_have _ _ _ (ended spot e) = tt
  forms_have _ _ _ (reads.gap spot count forms end e d) = forms_have _ forms end d
  forms_have _ _ _ (form spot next x forms end w d f) = (each_has _ _ _ (Got x next) d tt, forms_have next forms end f)
  forms_have _ _ _ (fault spot place code w d) = tt

-- ---- car steps
module _ (names : List (List ℕ)) where
  abbrev most : Goal → ℕ
  most grammar.Form = 1000
  most goal = 1001

  abbrev Flat : ℕ → ℕ → Outcome → Type 0
  Flat limit around (Got x next) = car_steps x + around ≤ limit
  Flat limit around (Fault place code) = Unit {0}

  abbrev GoalFlat : ℕ → Goal → Type 0
  GoalFlat around (Closing x) = car_steps x + around ≤ 1001
  GoalFlat around goal = Unit {0}

  leaf_flat : (leaf : Atom) → car_steps (object_of names leaf) ≡ 0
  leaf_flat (atoms.Integer z) = refl
  leaf_flat (atoms.Character c) = refl
  leaf_flat (atoms.Symbol t) = refl
  leaf_flat (atoms.String t) = refl

  list_flat : (around : ℕ) (o : Outcome) → Flat 1001 (suc around) o → Flat 1000 around o
  list_flat around (Got x next) h = omega arith
  list_flat around (Fault place code) h = tt

  marked_flat : (symbol around : ℕ) (o : Outcome) → around < 1000 → Flat 1000 (suc around) o → Flat 1000 around (marked symbol o)
  marked_flat symbol around (Got x next) l h = omega arith
  marked_flat symbol around (Fault place code) l h = tt

  consed_flat : (x : Object) (around : ℕ) (o : Outcome) → car_steps x + around ≤ 1000 → Flat 1001 around o → Flat 1001 around (consed x o)
  consed_flat x around (Got y next) g h = omega arith
  consed_flat x around (Fault place code) g h = tt

  each_flat : (goal : Goal) (around : ℕ) (spot : Spot) (o : Outcome) → Gives names goal around spot o → around ≤ 1000 → GoalFlat around goal → Flat (most goal) around o
  each_flat _ _ _ _ (gap goal around spot count o e d) l g = each_flat goal around _ o d l g
  each_flat _ _ _ _ (grammar.atom around spot count leaf e) l g = omega (arith, leaf_flat leaf)
  each_flat _ _ _ _ (list around spot count o e h d) l g = list_flat around o (each_flat (Rest false) (suc around) _ o d (omega arith) tt)
  each_flat _ _ _ _ (prefix around spot count mark o e h d) l g = marked_flat _ around o h (each_flat grammar.Form (suc around) _ o d (omega arith) tt)
  each_flat _ _ _ _ (empty some around spot count e) l g = omega arith
  each_flat _ _ _ _ (element some around spot next x o w d f) l g = consed_flat x around o (each_flat grammar.Form around spot (Got x next) d l tt) (each_flat (Rest true) around next o f l tt)
  each_flat _ _ _ _ (dot around spot count o e d) l g = each_flat Last around _ o d l tt
  each_flat _ _ _ _ (last around spot next x o w d f) l g = let h : car_steps x + around ≤ 1000 = each_flat grammar.Form around spot (Got x next) d l tt in each_flat (Closing x) around next o f l (omega arith)
  each_flat _ _ _ _ (close around spot count x e) l g = g
  each_flat _ _ _ _ (flaw goal around spot f e) l g = tt
  each_flat _ _ _ _ (inner goal around spot place code w d) l g = tt

  pub forms_flat : (spot : Spot) (forms : List Form) (end : End) → ReadsFrom names spot forms end → AllByRecursion (λ (f : Form). car_steps f.tree ≤ 1000) forms
  forms_flat _ _ _ (ended spot e) = tt
  forms_flat _ _ _ (reads.gap spot count forms end e d) = forms_flat _ forms end d
  forms_flat _ _ _ (form spot next x forms end w d f) = let h : car_steps x + 0 ≤ 1000 = each_flat grammar.Form 0 spot (Got x next) d (omega arith) tt in (omega arith, forms_flat next forms end f)
  forms_flat _ _ _ (fault spot place code w d) = tt
