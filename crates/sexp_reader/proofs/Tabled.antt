-- Each table of texts has a later one that numbers the symbols and strings of a text's forms.
use Rattle.std.proofs.Common.{◌≡◌, ◌∙◌, ap, sym, subst, refl, ℕ, zero, suc, ◌+◌, ◌<◌, ◌≤◌, arith, true, false, cond, not, List, [], ◌∷◌, length, drop, Option, Some, None, inl, inr}
use Rattle.std.specs.Prelude.{bytes_eq, ◌||◌}
use Rattle.std.specs.List.{list_any, AllByRecursion}
use Rattle.std.proofs.lemmas.Bool.{cases_Bool}
use Rattle.std.proofs.lemmas.List.{length-drop}
use Rattle.std.proofs.lemmas.List.Folds.{list_any-append}
use Rattle.std.proofs.lemmas.List.Elements.{All-from_recursion}
use Rattle.std.proofs.lemmas.Option.{none-some, same_Some}
use Rattle.gl_logic.specs.Object.{Object}
use Rattle.gl_logic.specs.Names.{IsTable, Extends, with_name}
use Rattle.gl_logic.specs.Numbered.{IsNumbered}
use Rattle.gl_logic.proofs.Places.{bytes_same}
use Rattle.gl_logic.proofs.Tables.{enough}
use Rattle.sexp_reader.specs.declared.list.Form.{Form}
use Rattle.sexp_reader.specs.declared.ends.End.{End}
use Rattle.sexp_reader.specs.declared.lexeme.Atom.{Atom}
use Rattle.sexp_reader.specs.declared.lexeme.Atom.TheVariants as atoms
use Rattle.sexp_reader.specs.declared.lexeme.Lexeme.{Lexeme}
use Rattle.sexp_reader.specs.declared.lexeme.Lexeme.TheVariants as lexeme
use Rattle.sexp_reader.specs.declared.lexeme.Piece.{Piece}
use Rattle.sexp_reader.specs.declared.lexeme.Piece.TheVariants.{Ended, Torn, Gap, Part, Faulty}
use Rattle.sexp_reader.specs.Pieces.{first_piece, Spans, count_of}
use Rattle.sexp_reader.specs.Gathers.{text_of, with_text, with_piece, Gathers, Numbers}
use Rattle.sexp_reader.specs.Gathers as gathers
use Rattle.sexp_reader.proofs.Gathering.{gathers_table, gathers_extends}
use Rattle.sexp_reader.specs.Grammar as grammar
use Rattle.sexp_reader.specs.Grammar.{Spot, past, place_in, object_of, mark_text, Outcome, Got, Fault, prefixed, marked, consed, Goal, Rest, Last, Closing, Gives, gap, list, prefix, empty, element, dot, last, close, flaw, inner}
use Rattle.sexp_reader.specs.Reads as reads
use Rattle.sexp_reader.specs.Reads.{Reads, ReadsFrom, ended, form, fault, start}
use Rattle.sexp_reader.proofs.Spans.{piece_spans}

-- ---- texts that a table has
abbrev pub Has : List (List ℕ) → List ℕ → Type 0
Has names text = list_any (bytes_eq text) names ≡ true

module _ (names : List (List ℕ)) (text : List ℕ) where
  pub has_it : Has (with_name names text) text
  has_it = elim (cases_Bool (list_any (bytes_eq text) names)) [
    | inl e ↦ rw e e
    | inr e ↦ rw e (list_any-append (bytes_eq text) names (text ∷ []) ∙ (ap (λ b. b || list_any (bytes_eq text) (text ∷ [])) e ∙ ap (λ b. b || false) (bytes_same text)))
  ]

  still_has : (other : List ℕ) → Has names other → Has (with_name names text) other
  still_has other h = elim (cases_Bool (list_any (bytes_eq text) names)) [
    | inl e ↦ rw e h
    | inr e ↦ rw e (list_any-append (bytes_eq other) names (text ∷ []) ∙ ap (λ b. b || list_any (bytes_eq other) (text ∷ [])) h)
  ]

pub placed : (names : List (List ℕ)) (text : List ℕ) → Has names text → place_in names text < length names
placed [] text h = absurd (cc)
placed (n ∷ names) text h = elim (cases_Bool (bytes_eq text n)) [
  | inl e ↦ let here : place_in (n ∷ names) text ≡ 0 = ap (λ b. cond (not b) (1 + place_in names text) 0) e in omega (arith, here)
  | inr e ↦
      let next : place_in (n ∷ names) text ≡ 1 + place_in names text = ap (λ b. cond (not b) (1 + place_in names text) 0) e in
      let k = placed names text (sym (ap (λ b. b || list_any (bytes_eq text) names) e) ∙ h) in
      omega (arith, next, k)
]

-- ---- the table of a text: it is asked for the text of each lexeme
-- some lexeme of these bytes has this text
data IsSpelledIn : List ℕ → List ℕ → Type 0 where
  first : (bytes text : List ℕ) (count : ℕ) (what : Lexeme) → first_piece bytes ≡ Part count what → text_of what ≡ Some text → IsSpelledIn bytes text
  further : (bytes text : List ℕ) (count : ℕ) → count_of (first_piece bytes) ≡ Some count → IsSpelledIn (drop count bytes) text → IsSpelledIn bytes text

abbrev pub behind : {A : Type 0} → Option ℕ → A → (ℕ → A) → A
behind None here next = here
behind (Some count) here next = next count

abbrev pub table_from : ℕ → List ℕ → List (List ℕ) → List (List ℕ)
table_from zero bytes names = names
table_from (suc n) bytes names = behind (count_of (first_piece bytes)) names (λ count. table_from n (drop count bytes) (with_piece names (first_piece bytes)))

some_has : (names : List (List ℕ)) (o : Option (List ℕ)) (text : List ℕ) → Has names text → Has (with_text names o) text
some_has names None text h = h
some_has names (Some other) text h = still_has names other text h

piece_has : (names : List (List ℕ)) (p : Piece) (text : List ℕ) → Has names text → Has (with_piece names p) text
piece_has names Ended text h = h
piece_has names Torn text h = h
piece_has names (Gap count) text h = h
piece_has names (Part count what) text h = some_has names (text_of what) text h
piece_has names (Faulty count code) text h = h

behind_both : {A : Type 0} (P : A → Type 0) (o : Option ℕ) (here : A) (next : ℕ → A) → P here → ((count : ℕ) → o ≡ Some count → P (next count)) → P (behind o here next)
behind_both P None here next h k = h
behind_both P (Some count) here next h k = k count refl

pub from_gathers : (n : ℕ) (bytes : List ℕ) (names : List (List ℕ)) → Gathers bytes names (table_from n bytes names)
from_gathers zero bytes names = gathers.stopped bytes names
from_gathers (suc n) bytes names =
    behind_both (Gathers bytes names) (count_of (first_piece bytes)) names _ (gathers.stopped bytes names)
    (λ count e. gathers.further bytes count names (table_from n (drop count bytes) (with_piece names (first_piece bytes))) e (from_gathers n (drop count bytes) (with_piece names (first_piece bytes))))

from_has : (n : ℕ) (bytes : List ℕ) (names : List (List ℕ)) (text : List ℕ) → Has names text → Has (table_from n bytes names) text
from_has zero bytes names text h = h
from_has (suc n) bytes names text h =
    behind_both (λ t. Has t text) (count_of (first_piece bytes)) names _ h (λ count e. from_has n (drop count bytes) (with_piece names (first_piece bytes)) text (piece_has names (first_piece bytes) text h))

-- what has a count is longer than nothing
counted : (p : Piece) (most count : ℕ) → Spans most p → count_of p ≡ Some count → (0 < count) × (count ≤ most)
counted Ended most count s e = absurd (none-some count e)
counted Torn most count s e = absurd (none-some count e)
counted (Gap n) most count s e = subst (λ k. (0 < k) × (k ≤ most)) (same_Some n count e) s
counted (Part n what) most count s e = subst (λ k. (0 < k) × (k ≤ most)) (same_Some n count e) s
counted (Faulty n code) most count s e = absurd (none-some count e)

spelled_has : (bytes text : List ℕ) → IsSpelledIn bytes text → (n : ℕ) (names : List (List ℕ)) → length bytes ≤ n → Has (table_from n bytes names) text
spelled_has bytes text (first _ _ count what e t) zero names l =
    let s = counted (first_piece bytes) (length bytes) count (piece_spans bytes) (ap count_of e) in absurd (omega (arith, s, l))
spelled_has bytes text (first _ _ count what e t) (suc n) names l =
    let next : List (List ℕ) → List (List ℕ) = λ ns. table_from n (drop count bytes) ns in
    let is : table_from (suc n) bytes names ≡ next (with_text names (Some text)) =
    ap (λ p. behind (count_of p) names (λ k. table_from n (drop k bytes) (with_piece names p))) e ∙ ap (λ o. next (with_text names o)) t in
    subst (λ ts. Has ts text) (sym is) (from_has n (drop count bytes) (with_name names text) text (has_it names text))
spelled_has bytes text (further _ _ count e s) zero names l =
    let k = counted (first_piece bytes) (length bytes) count (piece_spans bytes) e in absurd (omega (arith, k, l))
spelled_has bytes text (further _ _ count e s) (suc n) names l =
    let k = counted (first_piece bytes) (length bytes) count (piece_spans bytes) e in
    let is : table_from (suc n) bytes names ≡ table_from n (drop count bytes) (with_piece names (first_piece bytes)) =
    ap (λ o. behind o names (λ c. table_from n (drop c bytes) (with_piece names (first_piece bytes)))) e in
    subst (λ ts. Has ts text) (sym is) (spelled_has (drop count bytes) text s n (with_piece names (first_piece bytes)) (omega (arith, k, l, length-drop count bytes)))

-- ---- the objects of such a text
module _ (names : List (List ℕ)) (some : 0 < length names) where
  abbrev HasAll : Spot → Type 0
  HasAll spot = (text : List ℕ) → IsSpelledIn spot.bytes text → Has names text

  abbrev IsGood : Outcome → Type 0
  IsGood (Got x next) = IsNumbered (length names) x × HasAll next
  IsGood (Fault place code) = Unit {0}

  abbrev IsGoodGoal : Goal → Type 0
  IsGoodGoal (Closing x) = IsNumbered (length names) x
  IsGoodGoal goal = Unit {0}

  behind_has : (spot : Spot) (count : ℕ) → count_of (first_piece spot.bytes) ≡ Some count → HasAll spot → HasAll (past spot count)
  behind_has spot count e h text s = h text (further spot.bytes text count e s)

  text_placed : (spot : Spot) (count : ℕ) (what : Lexeme) (text : List ℕ) → first_piece spot.bytes ≡ Part count what → text_of what ≡ Some text → HasAll spot → place_in names text < length names
  text_placed spot count what text e t h = placed names text (h text (first spot.bytes text count what e t))

  good_atom : (spot : Spot) (count : ℕ) (leaf : Atom) → first_piece spot.bytes ≡ Part count (lexeme.Atom leaf) → HasAll spot → IsNumbered (length names) (object_of names leaf)
  good_atom spot count (atoms.Integer z) e h = tt
  good_atom spot count (atoms.Character c) e h = tt
  good_atom spot count (atoms.Symbol t) e h = text_placed spot count (lexeme.Atom (atoms.Symbol t)) t e refl h
  good_atom spot count (atoms.String t) e h = text_placed spot count (lexeme.Atom (atoms.String t)) t e refl h

  good_marked : (symbol : ℕ) (o : Outcome) → symbol < length names → IsGood o → IsGood (marked symbol o)
  good_marked symbol (Got x next) l g = ((l, (g.0, some)), g.1)
  good_marked symbol (Fault place code) l g = tt

  good_consed : (x : Object) (o : Outcome) → IsNumbered (length names) x → IsGood o → IsGood (consed x o)
  good_consed x (Got y next) n g = ((n, g.0), g.1)
  good_consed x (Fault place code) n g = tt

  good : (goal : Goal) (around : ℕ) (spot : Spot) (o : Outcome) → Gives names goal around spot o → HasAll spot → IsGoodGoal goal → IsGood o
  good _ _ _ _ (gap goal around spot count o e d) h g = good goal around (past spot count) o d (behind_has spot count (ap count_of e) h) g
  good _ _ _ _ (grammar.atom around spot count leaf e) h g = (good_atom spot count leaf e h, behind_has spot count (ap count_of e) h)
  good _ _ _ _ (list around spot count o e l d) h g = good (Rest false) (suc around) (past spot count) o d (behind_has spot count (ap count_of e) h) tt
  good _ _ _ _ (prefix around spot count mark o e l d) h g =
      good_marked (place_in names (mark_text mark)) o (text_placed spot count (lexeme.Prefix mark) (mark_text mark) e refl h) (good grammar.Form (suc around) (past spot count) o d (behind_has spot count (ap count_of e) h) tt)
  good _ _ _ _ (empty any around spot count e) h g = (some, behind_has spot count (ap count_of e) h)
  good _ _ _ _ (element any around spot next x o w d f) h g =
      let one = good grammar.Form around spot (Got x next) d h tt in good_consed x o one.0 (good (Rest true) around next o f one.1 tt)
  good _ _ _ _ (dot around spot count o e d) h g = good Last around (past spot count) o d (behind_has spot count (ap count_of e) h) tt
  good _ _ _ _ (last around spot next x o w d f) h g =
      let one = good grammar.Form around spot (Got x next) d h tt in good (Closing x) around next o f one.1 one.0
  good _ _ _ _ (close around spot count x e) h g = (g, behind_has spot count (ap count_of e) h)
  good _ _ _ _ (flaw goal around spot f e) h g = tt
  good _ _ _ _ (inner goal around spot place code w d) h g = tt

  good_forms : (spot : Spot) (forms : List Form) (end : End) → ReadsFrom names spot forms end → HasAll spot → AllByRecursion (λ (f : Form). IsNumbered (length names) f.tree) forms
  good_forms _ _ _ (ended spot e) h = tt
  good_forms _ _ _ (reads.gap spot count forms end e d) h = good_forms (past spot count) forms end d (behind_has spot count (ap count_of e) h)
  good_forms _ _ _ (form spot next x forms end w d f) h =
      let one = good grammar.Form 0 spot (Got x next) d h tt in (one.0, good_forms next forms end f one.1)
  good_forms _ _ _ (fault spot place code w d) h = tt

-- ---- the table
module _ (names : List (List ℕ)) (is_first : IsTable names) (bytes : List ℕ) where
  abbrev pub table : List (List ℕ)
  table = table_from (length bytes) bytes names

  pub table_gathers : Gathers bytes names table
  table_gathers = from_gathers (length bytes) bytes names

  pub is_table : IsTable table
  is_table = gathers_table bytes names table is_first table_gathers

  pub extends_table : Extends names table
  extends_table = gathers_extends bytes names table table_gathers

  pub still_there : (text : List ℕ) → Has names text → Has table text
  still_there text h = from_has (length bytes) bytes names text h

  pub table_numbers : Numbers table bytes
  table_numbers forms end d =
      All-from_recursion (λ (f : Form). IsNumbered (length table) f.tree) forms
      (good_forms table (omega (arith, enough table is_table.first)) (start bytes) forms end d (λ text s. spelled_has bytes text s (length bytes) names (omega arith)))
