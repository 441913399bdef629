-- The primitives on nodes that are no choices.
use Rattle.std.proofs.Common.{◌≡◌, ℕ, ◌<◌, Bool, true, false, not, cond, eqb, ◌&&◌, ℤ, pos, refl, sym, ◌∙◌, ap, arith, subst, IsTrue}
use Rattle.std.proofs.lemmas.Bool.{false≢true}
use Rattle.std.specs.Ordering.{int_eq}
use Rattle.bfr_store.specs.declared.edge.Edge.{Edge}
use Rattle.bfr_store.specs.Edges.{xor}
use Rattle.gl_logic.specs.declared.prim.Primitive.{Primitive}
use Rattle.gl_logic.specs.declared.prim.Primitive.TheVariants as prim
use Rattle.gl_logic.specs.Object.{Object, Int, Character, Symbol, Text, Cons, nil, boolean_object, car, cdr}
use Rattle.gl_logic.specs.ObjectEq.{object_eq, is_nil}
use Rattle.gl_logic.specs.PrimValue.{prim_of, integer_in, natural_in, code_in, character_of, both_integers, is_cons, is_integer, is_symbol, is_string, is_character}
use Rattle.int_prims.specs.Integers.{is_operation, is_test}
use Rattle.sym_objects.specs.declared.sob.Sob.{Sob}
use Rattle.sym_objects.specs.declared.sob.SobNode.{SobNode}
use Rattle.sym_objects.specs.declared.sob.SobNode.TheVariants as kind
use Rattle.sym_objects.specs.Nodes.{IsObjectOf, IsNoBoolean}
use Rattle.sym_prims.specs.Results.{integer_result, test_result}
use Rattle.sym_prims.specs.Seeing.{IsSimple, IsOfParts, takes_two, is_kind_test, is_of_kind, is_integer_node, pairing_of}
use Rattle.sym_prims.specs.declared.nodes.Pairing.{Pairing}
use Rattle.sym_prims.specs.declared.nodes.Pairing.TheVariants as pairing

-- ---- an operation looks at the integers alone
pub operation_is : (p : Primitive) (x y : Object) → is_operation p ≡ true → prim_of p x y ≡ Int (integer_result p (integer_in x) (integer_in y))
operation_is prim.BinaryPlus x y h = refl
operation_is prim.BinaryTimes x y h = refl
operation_is prim.UnaryMinus x y h = refl
operation_is prim.Floor x y h = refl
operation_is prim.Mod x y h = refl
operation_is prim.Truncate x y h = refl
operation_is prim.Rem x y h = refl
operation_is prim.Ash x y h = refl
operation_is prim.BinaryLogand x y h = refl
operation_is prim.BinaryLogior x y h = refl
operation_is prim.BinaryLogxor x y h = refl
operation_is prim.Lognot x y h = refl
operation_is prim.IntegerLength x y h = refl
operation_is _ x y h = absurd (false≢true h)

-- ---- truth values
pub nil_or_true : (b : Bool) → is_nil (boolean_object b) ≡ not b
nil_or_true true = refl
nil_or_true false = refl

symbol_always : (b : Bool) → is_symbol (boolean_object b) ≡ true
symbol_always true = refl
symbol_always false = refl

pub never : {A : Type 0} (f : Object → A) (b : Bool) → f (boolean_object true) ≡ f (boolean_object false) → f (boolean_object b) ≡ f (boolean_object false)
never f true e = e
never f false e = refl

-- ---- what a kind test says of a node, by its object
module _ (truth : Edge → Bool) (of : Sob → Object) where
  kind_by : (p : Primitive) (n : SobNode) (x y : Object) → is_kind_test p ≡ true → IsSimple n → IsObjectOf truth of n x → prim_of p x y ≡ boolean_object (is_of_kind p n)
  kind_by prim.Consp (kind.Character c) x y h s e = ap (λ z. boolean_object (is_cons z)) e
  kind_by prim.Consp (kind.Symbol c) x y h s e = ap (λ z. boolean_object (is_cons z)) e
  kind_by prim.Consp (kind.Text c) x y h s e = ap (λ z. boolean_object (is_cons z)) e
  kind_by prim.Consp (kind.Boolean c) x y h s e = ap (λ z. boolean_object (is_cons z)) e ∙ ap boolean_object (never is_cons (truth c) refl)
  kind_by prim.Consp kind.Integer x y h s e = ap (λ z. boolean_object (is_cons z)) e.1
  kind_by prim.Consp (kind.Pair a d) x y h s e = ap (λ z. boolean_object (is_cons z)) e
  kind_by prim.Integerp (kind.Character c) x y h s e = ap (λ z. boolean_object (is_integer z)) e
  kind_by prim.Integerp (kind.Symbol c) x y h s e = ap (λ z. boolean_object (is_integer z)) e
  kind_by prim.Integerp (kind.Text c) x y h s e = ap (λ z. boolean_object (is_integer z)) e
  kind_by prim.Integerp (kind.Boolean c) x y h s e = ap (λ z. boolean_object (is_integer z)) e ∙ ap boolean_object (never is_integer (truth c) refl)
  kind_by prim.Integerp kind.Integer x y h s e = ap (λ z. boolean_object (is_integer z)) e.1
  kind_by prim.Integerp (kind.Pair a d) x y h s e = ap (λ z. boolean_object (is_integer z)) e
  kind_by prim.Symbolp (kind.Character c) x y h s e = ap (λ z. boolean_object (is_symbol z)) e
  kind_by prim.Symbolp (kind.Symbol c) x y h s e = ap (λ z. boolean_object (is_symbol z)) e
  kind_by prim.Symbolp (kind.Text c) x y h s e = ap (λ z. boolean_object (is_symbol z)) e
  kind_by prim.Symbolp (kind.Boolean c) x y h s e = ap (λ z. boolean_object (is_symbol z)) e ∙ ap boolean_object (symbol_always (truth c))
  kind_by prim.Symbolp kind.Integer x y h s e = ap (λ z. boolean_object (is_symbol z)) e.1
  kind_by prim.Symbolp (kind.Pair a d) x y h s e = ap (λ z. boolean_object (is_symbol z)) e
  kind_by prim.Stringp (kind.Character c) x y h s e = ap (λ z. boolean_object (is_string z)) e
  kind_by prim.Stringp (kind.Symbol c) x y h s e = ap (λ z. boolean_object (is_string z)) e
  kind_by prim.Stringp (kind.Text c) x y h s e = ap (λ z. boolean_object (is_string z)) e
  kind_by prim.Stringp (kind.Boolean c) x y h s e = ap (λ z. boolean_object (is_string z)) e ∙ ap boolean_object (never is_string (truth c) refl)
  kind_by prim.Stringp kind.Integer x y h s e = ap (λ z. boolean_object (is_string z)) e.1
  kind_by prim.Stringp (kind.Pair a d) x y h s e = ap (λ z. boolean_object (is_string z)) e
  kind_by prim.Characterp (kind.Character c) x y h s e = ap (λ z. boolean_object (is_character z)) e
  kind_by prim.Characterp (kind.Symbol c) x y h s e = ap (λ z. boolean_object (is_character z)) e
  kind_by prim.Characterp (kind.Text c) x y h s e = ap (λ z. boolean_object (is_character z)) e
  kind_by prim.Characterp (kind.Boolean c) x y h s e = ap (λ z. boolean_object (is_character z)) e ∙ ap boolean_object (never is_character (truth c) refl)
  kind_by prim.Characterp kind.Integer x y h s e = ap (λ z. boolean_object (is_character z)) e.1
  kind_by prim.Characterp (kind.Pair a d) x y h s e = ap (λ z. boolean_object (is_character z)) e
  kind_by _ (kind.Choice e a b) x y h s i = absurd s
  kind_by _ _ x y h s e = absurd (false≢true h)

  pub kind_is : (p : Primitive) (n : SobNode) (x y : Object) → is_kind_test p ≡ true → IsSimple n → IsObjectOf truth of n x → boolean_object (is_of_kind p n) ≡ prim_of p x y
  kind_is p n x y h s e = sym (kind_by p n x y h s e)

  -- a node that is neither a choice nor an integer counts as 0
  pub no_integer : (n : SobNode) (x : Object) → IsSimple n → is_integer_node n ≡ false → IsObjectOf truth of n x → integer_in x ≡ pos 0
  no_integer (kind.Character c) x s h e = ap integer_in e
  no_integer (kind.Symbol c) x s h e = ap integer_in e
  no_integer (kind.Text c) x s h e = ap integer_in e
  no_integer (kind.Boolean c) x s h e = ap integer_in e ∙ never integer_in (truth c) refl
  no_integer kind.Integer x s h e = absurd (false≢true (sym h))
  no_integer (kind.Pair a d) x s h e = ap integer_in e
  no_integer (kind.Choice c a b) x s h e = absurd s

  pub no_object : (n : SobNode) (x : Object) → IsSimple n → is_integer_node n ≡ false → IsObjectOf truth of n x → is_integer x ≡ false
  no_object (kind.Character c) x s h e = ap is_integer e
  no_object (kind.Symbol c) x s h e = ap is_integer e
  no_object (kind.Text c) x s h e = ap is_integer e
  no_object (kind.Boolean c) x s h e = ap is_integer e ∙ never is_integer (truth c) refl
  no_object kind.Integer x s h e = absurd (false≢true (sym h))
  no_object (kind.Pair a d) x s h e = ap is_integer e
  no_object (kind.Choice c a b) x s h e = absurd s

  pub an_integer : (n : SobNode) (x : Object) → is_integer_node n ≡ true → IsObjectOf truth of n x → x ≡ Int (integer_in x)
  an_integer kind.Integer x h e = e.1 ∙ sym (ap (λ z. Int (integer_in z)) e.1)
  an_integer _ x h e = absurd (false≢true h)

-- a test of two integers, where one of the objects is none
pub not_first : (test : ℤ → ℤ → Bool) (x y : Object) → is_integer x ≡ false → both_integers test x y ≡ false
not_first test (Int i) y h = absurd (false≢true (sym h))
not_first test (Character c) y h = refl
not_first test (Symbol c) y h = refl
not_first test (Text c) y h = refl
not_first test (Cons a d) y h = refl

pub not_second : (test : ℤ → ℤ → Bool) (x y : Object) → is_integer y ≡ false → both_integers test x y ≡ false
not_second test x (Int i) h = absurd (false≢true (sym h))
not_second test (Int i) (Character c) h = refl
not_second test (Int i) (Symbol c) h = refl
not_second test (Int i) (Text c) h = refl
not_second test (Int i) (Cons a d) h = refl
not_second test (Character c) y h = refl
not_second test (Symbol c) y h = refl
not_second test (Text c) y h = refl
not_second test (Cons a d) y h = refl
