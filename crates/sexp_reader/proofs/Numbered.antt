-- The forms of a text, as each table gives them that begins with this one, have numbers of this one.
use Rattle.std.proofs.Common.{◌≡◌, ◌∙◌, sym, ap, subst, refl, ℕ, ◌+◌, ◌≤◌, arith, Bool, true, false, cond, eqb, not, List, [], ◌∷◌, ◌++◌, length, All}
use Rattle.std.specs.Prelude.{bytes_eq}
use Rattle.std.specs.List.{prefix_len, AllByRecursion}
use Rattle.std.proofs.lemmas.Bool.{cond_both, eqb-false}
use Rattle.std.proofs.lemmas.List.Sums.{prefix_len-le-length}
use Rattle.std.proofs.lemmas.List.Folds.{prefix_len-append}
use Rattle.std.proofs.lemmas.List.Elements.{All-from_recursion}
use Rattle.gl_logic.specs.Object.{Object, Int, Character, Symbol, Text, Cons}
use Rattle.gl_logic.specs.Names.{Extends, IsTable}
use Rattle.gl_logic.specs.Numbered.{IsNumbered}
use Rattle.gl_logic.specs.Parts.{car_steps}
use Rattle.sexp_reader.specs.declared.list.Form.{Form}
use Rattle.sexp_reader.specs.declared.ends.End.{End}
use Rattle.sexp_reader.specs.declared.lexeme.Atom.{Atom}
use Rattle.sexp_reader.specs.declared.lexeme.Atom.TheVariants as atoms
use Rattle.sexp_reader.specs.Sizes.{IsNarrow, IsAscii}
use Rattle.sexp_reader.specs.Grammar.{place_in, object_of, mark_text}
use Rattle.sexp_reader.specs.Reads.{Reads, start}
use Rattle.gl_logic.proofs.GrownTables.{extends_same}
use Rattle.sexp_reader.proofs.Leaves.{IsFine, atom_fine}
use Rattle.sexp_reader.proofs.Objects.{forms_have, forms_flat}

-- each symbol and string of the object has such a number
abbrev AllNumbers : (ℕ → Type 0) → Object → Type 0
AllNumbers P (Symbol t) = P t
AllNumbers P (Text t) = P t
AllNumbers P (Cons a d) = AllNumbers P a × AllNumbers P d
AllNumbers P _ = Unit {0}

-- the place of no text is that of a second copy
never : (p : List ℕ → Bool) (a : List ℕ) (as' : List (List ℕ)) → prefix_len p ((a ∷ as') ++ a ∷ []) ≡ length (a ∷ as') → ⊥
never p a as' e =
    (elim (p a) as (λ b. p a ≡ b → ⊥) [
      | true ↦ λ h.
          let one : prefix_len p (a ∷ []) ≡ 1 = ap (λ b. cond b (1 + 0) 0) h in
          cond_both (eqb (prefix_len p (a ∷ as')) (length (a ∷ as'))) (length (a ∷ as') + prefix_len p (a ∷ [])) (prefix_len p (a ∷ as')) (λ n. n ≡ length (a ∷ as') → ⊥)
          (λ t n. omega (arith, one, n)) (λ t n. eqb-false (prefix_len p (a ∷ as')) (length (a ∷ as')) t n) (sym (prefix_len-append p (a ∷ as') (a ∷ [])) ∙ e)
      | false ↦ λ h.
          let none : prefix_len p ((a ∷ as') ++ a ∷ []) ≡ 0 = ap (λ b. cond b (1 + prefix_len p (as' ++ a ∷ [])) 0) h in
          omega (arith, none, e)
    ]) refl

module _ (names : List (List ℕ)) (bytes : List ℕ) (forms : List Form) (end : End) (read : Reads names bytes forms end) where
  numbers : (P : ℕ → Type 0) → P 0 → ((text : List ℕ) → P (place_in names text)) → AllByRecursion (λ (f : Form). AllNumbers P f.tree) forms
  numbers P zero_has place_has =
      forms_have names (AllNumbers P) zero_has (λ x y g h. (g, h)) (λ mark. place_has (mark_text mark)) (λ text count leaf e. leaf_has leaf) (start bytes) forms end read where
        leaf_has : (leaf : Atom) → AllNumbers P (object_of names leaf)
        leaf_has (atoms.Integer z) = tt
        leaf_has (atoms.Character c) = tt
        leaf_has (atoms.Symbol t) = place_has t
        leaf_has (atoms.String t) = place_has t

  narrow_leaf : (leaf : Atom) → IsFine leaf → IsNarrow (object_of names leaf)
  narrow_leaf (atoms.Integer z) h = h
  narrow_leaf (atoms.Character c) h = tt
  narrow_leaf (atoms.Symbol t) h = tt
  narrow_leaf (atoms.String t) h = tt

  ascii_leaf : (leaf : Atom) → IsFine leaf → IsAscii (object_of names leaf)
  ascii_leaf (atoms.Integer z) h = tt
  ascii_leaf (atoms.Character c) h = h
  ascii_leaf (atoms.Symbol t) h = tt
  ascii_leaf (atoms.String t) h = tt

  pub reads_narrow : All (λ (f : Form). IsNarrow f.tree) forms
  reads_narrow =
      All-from_recursion (λ (f : Form). IsNarrow f.tree) forms
      (forms_have names IsNarrow tt (λ x y g h. (g, h)) (λ mark. tt) (λ text count leaf e. narrow_leaf leaf (atom_fine text count leaf e)) (start bytes) forms end read)

  pub reads_ascii : All (λ (f : Form). IsAscii f.tree) forms
  reads_ascii =
      All-from_recursion (λ (f : Form). IsAscii f.tree) forms
      (forms_have names IsAscii tt (λ x y g h. (g, h)) (λ mark. tt) (λ text count leaf e. ascii_leaf leaf (atom_fine text count leaf e)) (start bytes) forms end read)

  pub reads_flat : All (λ (f : Form). car_steps f.tree ≤ 1000) forms
  reads_flat = All-from_recursion (λ (f : Form). car_steps f.tree ≤ 1000) forms (forms_flat names (start bytes) forms end read)

-- ---- numbers
within : (n : ℕ) (x : Object) → AllNumbers (λ k. k ≤ n) x → AllNumbers (λ k. k ≡ n → ⊥) x → IsNumbered n x
within n (Int z) g h = tt
within n (Character c) g h = tt
within n (Symbol t) g h = omega (arith, g, h)
within n (Text t) g h = omega (arith, g, h)
within n (Cons a d) g h = (within n a g.0 h.0, within n d g.1 h.1)

all_within : (n : ℕ) (fs : List Form) → AllByRecursion (λ (f : Form). AllNumbers (λ k. k ≤ n) f.tree) fs → AllByRecursion (λ (f : Form). AllNumbers (λ k. k ≡ n → ⊥) f.tree) fs → AllByRecursion (λ (f : Form). IsNumbered n f.tree) fs
all_within n [] g h = tt
all_within n (f ∷ fs) g h = (within n f.tree g.0 h.0, all_within n fs g.1 h.1)

some_first : (names : List (List ℕ)) → IsTable names → (a : List ℕ) × (rest : List (List ℕ)) × (names ≡ a ∷ rest)
some_first [] t = let e = t.first in absurd (cc)
some_first (a ∷ rest) t = (a, rest, refl)

numbered_by : (a : List ℕ) (rest : List (List ℕ)) (bytes : List ℕ) (forms : List Form) (end : End) → ((later : List (List ℕ)) → Extends (a ∷ rest) later → Reads later bytes forms end)
    → AllByRecursion (λ (f : Form). IsNumbered (length (a ∷ rest)) f.tree) forms
numbered_by a rest bytes forms end reads =
    let names = a ∷ rest in
    let more = names ++ a ∷ [] in
    all_within (length names) forms
    (numbers names bytes forms end (reads names (extends_same names)) (λ k. k ≤ length names) (omega arith) (λ text. prefix_len-le-length (λ x. not (bytes_eq text x)) names))
    (numbers more bytes forms end (reads more (a ∷ [], refl)) (λ k. k ≡ length names → ⊥) (λ e. omega (arith, e)) (λ text. never (λ x. not (bytes_eq text x)) a rest))

pub reads_numbered : (names : List (List ℕ)) (bytes : List ℕ) (forms : List Form) (end : End) → IsTable names → ((later : List (List ℕ)) → Extends names later → Reads later bytes forms end)
    → All (λ (f : Form). IsNumbered (length names) f.tree) forms
reads_numbered names bytes forms end t reads =
    let s = some_first names t in
    All-from_recursion (λ (f : Form). IsNumbered (length names) f.tree) forms
    (subst (λ (ns : List (List ℕ)). AllByRecursion (λ (f : Form). IsNumbered (length ns) f.tree) forms) (sym s.2)
    (numbered_by s.0 s.1 bytes forms end (subst (λ (ns : List (List ℕ)). (later : List (List ℕ)) → Extends ns later → Reads later bytes forms end) s.2 reads)))
