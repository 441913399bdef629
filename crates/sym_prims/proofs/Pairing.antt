-- Equality, and the other predicates, on nodes that are no choices.
use Rattle.std.proofs.Common.{◌≡◌, ℕ, zero, suc, ◌<◌, Bool, true, false, not, cond, eqb, ◌&&◌, ℤ, pos, negsuc, refl, sym, ◌∙◌, ap, arith, subst}
use Rattle.std.proofs.lemmas.Bool.{false≢true}
use Rattle.std.proofs.lemmas.Bool.Decides.{Decides-eqb}
use Rattle.sym_bits.proofs.Comparing.{both_ways}
use Rattle.bfr_store.specs.declared.edge.Edge.{Edge}
use Rattle.bfr_store.specs.Edges.{xor}
use Rattle.gl_logic.specs.declared.prim.Primitive.{Primitive}
use Rattle.gl_logic.specs.declared.prim.Primitive.TheVariants as prim
use Rattle.gl_logic.specs.Object.{Object, Int, Character, Symbol, Text, Cons, nil, boolean_object, car, cdr}
use Rattle.gl_logic.specs.ObjectEq.{object_eq, is_nil}
use Rattle.gl_logic.specs.PrimValue.{prim_of, prim_arity, integer_in, natural_in, code_in, both_integers}
use Rattle.int_prims.specs.Integers.{is_operation, IsTooWide}
use Rattle.sym_objects.specs.declared.sob.Sob.{Sob}
use Rattle.sym_objects.specs.declared.sob.SobNode.{SobNode}
use Rattle.sym_objects.specs.declared.sob.SobNode.TheVariants as kind
use Rattle.sym_objects.specs.Nodes.{IsObjectOf, IsNoBoolean}
use Rattle.sym_prims.specs.Frames.{both}
use Rattle.sym_prims.specs.Results.{holds, integer_result, is_other, is_predicate, test_result}
use Rattle.sym_prims.specs.Seeing.{IsSimple, IsOfParts, takes_two, pairing_of, code_seen, IsNoCons, IsNoTruth}
use Rattle.sym_prims.specs.declared.nodes.Pairing.{Pairing}
use Rattle.sym_prims.specs.declared.nodes.Pairing.TheVariants as pairing
use Rattle.sym_prims.proofs.Integers.{not_nil}
use Rattle.sym_prims.proofs.Seeing.{never}

-- ---- two nodes side by side
eq_by : (x y z w : Object) (b : Bool) → x ≡ z → y ≡ w → object_eq z w ≡ b → object_eq x y ≡ b
eq_by x y z w b p q r = (λ i. object_eq (p i) (q i)) ∙ r

differs : (a b : ℕ) → (a ≡ b → ⊥) → eqb a b ≡ false
differs a b f = both_ways (eqb a b) false (λ e. absurd (f ((Decides-eqb a b).0 e))) (λ e. absurd (false≢true e))

not_one : (n : ℕ) → 1 < n → eqb n 1 ≡ false
not_one n h = differs n 1 (λ e. omega (arith, h, e))

not_zero : (n : ℕ) → 1 < n → eqb n 0 ≡ false
not_zero n h = differs n 0 (λ e. omega (arith, h, e))

one_not : (n : ℕ) → 1 < n → eqb 1 n ≡ false
one_not n h = differs 1 n (λ e. omega (arith, h, e))

zero_not : (n : ℕ) → 1 < n → eqb 0 n ≡ false
zero_not n h = differs 0 n (λ e. omega (arith, h, e))

symbol_truth : (n : ℕ) (b : Bool) → 1 < n → object_eq (Symbol n) (boolean_object b) ≡ false
symbol_truth n true h = not_one n h
symbol_truth n false h = not_zero n h

truth_symbol : (n : ℕ) (b : Bool) → 1 < n → object_eq (boolean_object b) (Symbol n) ≡ false
truth_symbol n true h = one_not n h
truth_symbol n false h = zero_not n h

pub same_truths : (b c : Bool) → object_eq (boolean_object b) (boolean_object c) ≡ not (xor b c)
same_truths true true = refl
same_truths true false = refl
same_truths false true = refl
same_truths false false = refl

module _ (truth : Edge → Bool) (of : Sob → Object) where
  -- what a pairing of two nodes says of their objects
  abbrev pub Means : Pairing → SobNode → SobNode → Object → Object → Type 0
  Means pairing.Integers n m x y = (n ≡ kind.Integer) × (m ≡ kind.Integer)
  Means (pairing.Booleans e f) n m x y = (n ≡ kind.Boolean e) × (m ≡ kind.Boolean f) × (object_eq x y ≡ not (xor (truth e) (truth f)))
  Means (pairing.Always b) n m x y = object_eq x y ≡ b

  pairing_by : (n m : SobNode) (x y : Object) → IsSimple n → IsSimple m → IsNoBoolean n → IsNoBoolean m → (IsOfParts prim.Equal n m → ⊥) → IsObjectOf truth of n x → IsObjectOf truth of m y → Means (pairing_of n m) n m x y
  pairing_by (kind.Character cn) (kind.Character cm) x y sn sm bn bm parts ex ey = eq_by x y (Character cn) (Character cm) (eqb cn cm) ex ey refl
  pairing_by (kind.Character cn) (kind.Symbol ym) x y sn sm bn bm parts ex ey = eq_by x y (Character cn) (Symbol ym.number) false ex ey refl
  pairing_by (kind.Character cn) (kind.Text tm) x y sn sm bn bm parts ex ey = eq_by x y (Character cn) (Text tm.number) false ex ey refl
  pairing_by (kind.Character cn) (kind.Boolean em) x y sn sm bn bm parts ex ey = eq_by x y (Character cn) (boolean_object (truth em)) false ex ey (never (λ z. object_eq (Character cn) z) (truth em) refl)
  pairing_by (kind.Character cn) kind.Integer x y sn sm bn bm parts ex ey = eq_by x y (Character cn) (Int ey.0) false ex ey.1 refl
  pairing_by (kind.Character cn) (kind.Pair am am2) x y sn sm bn bm parts ex ey = eq_by x y (Character cn) (Cons (of am) (of am2)) false ex ey refl
  pairing_by (kind.Character cn) (kind.Choice km km2 km3) x y sn sm bn bm parts ex ey = absurd sm
  pairing_by (kind.Symbol yn) (kind.Character cm) x y sn sm bn bm parts ex ey = eq_by x y (Symbol yn.number) (Character cm) false ex ey refl
  pairing_by (kind.Symbol yn) (kind.Symbol ym) x y sn sm bn bm parts ex ey = eq_by x y (Symbol yn.number) (Symbol ym.number) (eqb yn.number ym.number) ex ey refl
  pairing_by (kind.Symbol yn) (kind.Text tm) x y sn sm bn bm parts ex ey = eq_by x y (Symbol yn.number) (Text tm.number) false ex ey refl
  pairing_by (kind.Symbol yn) (kind.Boolean em) x y sn sm bn bm parts ex ey = eq_by x y (Symbol yn.number) (boolean_object (truth em)) false ex ey (symbol_truth yn.number (truth em) bn)
  pairing_by (kind.Symbol yn) kind.Integer x y sn sm bn bm parts ex ey = eq_by x y (Symbol yn.number) (Int ey.0) false ex ey.1 refl
  pairing_by (kind.Symbol yn) (kind.Pair am am2) x y sn sm bn bm parts ex ey = eq_by x y (Symbol yn.number) (Cons (of am) (of am2)) false ex ey refl
  pairing_by (kind.Symbol yn) (kind.Choice km km2 km3) x y sn sm bn bm parts ex ey = absurd sm
  pairing_by (kind.Text tn) (kind.Character cm) x y sn sm bn bm parts ex ey = eq_by x y (Text tn.number) (Character cm) false ex ey refl
  pairing_by (kind.Text tn) (kind.Symbol ym) x y sn sm bn bm parts ex ey = eq_by x y (Text tn.number) (Symbol ym.number) false ex ey refl
  pairing_by (kind.Text tn) (kind.Text tm) x y sn sm bn bm parts ex ey = eq_by x y (Text tn.number) (Text tm.number) (eqb tn.number tm.number) ex ey refl
  pairing_by (kind.Text tn) (kind.Boolean em) x y sn sm bn bm parts ex ey = eq_by x y (Text tn.number) (boolean_object (truth em)) false ex ey (never (λ z. object_eq (Text tn.number) z) (truth em) refl)
  pairing_by (kind.Text tn) kind.Integer x y sn sm bn bm parts ex ey = eq_by x y (Text tn.number) (Int ey.0) false ex ey.1 refl
  pairing_by (kind.Text tn) (kind.Pair am am2) x y sn sm bn bm parts ex ey = eq_by x y (Text tn.number) (Cons (of am) (of am2)) false ex ey refl
  pairing_by (kind.Text tn) (kind.Choice km km2 km3) x y sn sm bn bm parts ex ey = absurd sm
  pairing_by (kind.Boolean en) (kind.Character cm) x y sn sm bn bm parts ex ey = eq_by x y (boolean_object (truth en)) (Character cm) false ex ey (never (λ z. object_eq z (Character cm)) (truth en) refl)
  pairing_by (kind.Boolean en) (kind.Symbol ym) x y sn sm bn bm parts ex ey = eq_by x y (boolean_object (truth en)) (Symbol ym.number) false ex ey (truth_symbol ym.number (truth en) bm)
  pairing_by (kind.Boolean en) (kind.Text tm) x y sn sm bn bm parts ex ey = eq_by x y (boolean_object (truth en)) (Text tm.number) false ex ey (never (λ z. object_eq z (Text tm.number)) (truth en) refl)
  pairing_by (kind.Boolean en) (kind.Boolean em) x y sn sm bn bm parts ex ey = (refl, refl, eq_by x y (boolean_object (truth en)) (boolean_object (truth em)) (not (xor (truth en) (truth em))) ex ey (same_truths (truth en) (truth em)))
  pairing_by (kind.Boolean en) kind.Integer x y sn sm bn bm parts ex ey = eq_by x y (boolean_object (truth en)) (Int ey.0) false ex ey.1 (never (λ z. object_eq z (Int ey.0)) (truth en) refl)
  pairing_by (kind.Boolean en) (kind.Pair am am2) x y sn sm bn bm parts ex ey = eq_by x y (boolean_object (truth en)) (Cons (of am) (of am2)) false ex ey (never (λ z. object_eq z (Cons (of am) (of am2))) (truth en) refl)
  pairing_by (kind.Boolean en) (kind.Choice km km2 km3) x y sn sm bn bm parts ex ey = absurd sm
  pairing_by kind.Integer (kind.Character cm) x y sn sm bn bm parts ex ey = eq_by x y (Int ex.0) (Character cm) false ex.1 ey refl
  pairing_by kind.Integer (kind.Symbol ym) x y sn sm bn bm parts ex ey = eq_by x y (Int ex.0) (Symbol ym.number) false ex.1 ey refl
  pairing_by kind.Integer (kind.Text tm) x y sn sm bn bm parts ex ey = eq_by x y (Int ex.0) (Text tm.number) false ex.1 ey refl
  pairing_by kind.Integer (kind.Boolean em) x y sn sm bn bm parts ex ey = eq_by x y (Int ex.0) (boolean_object (truth em)) false ex.1 ey (never (λ z. object_eq (Int ex.0) z) (truth em) refl)
  pairing_by kind.Integer kind.Integer x y sn sm bn bm parts ex ey = (refl, refl)
  pairing_by kind.Integer (kind.Pair am am2) x y sn sm bn bm parts ex ey = eq_by x y (Int ex.0) (Cons (of am) (of am2)) false ex.1 ey refl
  pairing_by kind.Integer (kind.Choice km km2 km3) x y sn sm bn bm parts ex ey = absurd sm
  pairing_by (kind.Pair an an2) (kind.Character cm) x y sn sm bn bm parts ex ey = eq_by x y (Cons (of an) (of an2)) (Character cm) false ex ey refl
  pairing_by (kind.Pair an an2) (kind.Symbol ym) x y sn sm bn bm parts ex ey = eq_by x y (Cons (of an) (of an2)) (Symbol ym.number) false ex ey refl
  pairing_by (kind.Pair an an2) (kind.Text tm) x y sn sm bn bm parts ex ey = eq_by x y (Cons (of an) (of an2)) (Text tm.number) false ex ey refl
  pairing_by (kind.Pair an an2) (kind.Boolean em) x y sn sm bn bm parts ex ey = eq_by x y (Cons (of an) (of an2)) (boolean_object (truth em)) false ex ey (never (λ z. object_eq (Cons (of an) (of an2)) z) (truth em) refl)
  pairing_by (kind.Pair an an2) kind.Integer x y sn sm bn bm parts ex ey = eq_by x y (Cons (of an) (of an2)) (Int ey.0) false ex ey.1 refl
  pairing_by (kind.Pair an an2) (kind.Pair am am2) x y sn sm bn bm parts ex ey = absurd (parts tt)
  pairing_by (kind.Pair an an2) (kind.Choice km km2 km3) x y sn sm bn bm parts ex ey = absurd sm
  pairing_by (kind.Choice k k2 k3) m x y sn sm bn bm parts ex ey = absurd sn

  pub pairing_means : (n m : SobNode) (x y : Object) (q : Pairing) → q ≡ pairing_of n m → IsSimple n → IsSimple m → IsNoBoolean n → IsNoBoolean m → (IsOfParts prim.Equal n m → ⊥) → IsObjectOf truth of n x → IsObjectOf truth of m y → Means q n m x y
  pairing_means n m x y q is sn sm bn bm parts ex ey = subst (λ (r : Pairing). Means r n m x y) (sym is) (pairing_by n m x y sn sm bn bm parts ex ey)

  -- a node that is neither a choice nor a Boolean is not NIL
  pub not_nil_node : (n : SobNode) (x : Object) → IsSimple n → IsNoTruth n → IsNoBoolean n → IsObjectOf truth of n x → is_nil x ≡ false
  not_nil_node (kind.Character c) x s h b e = ap is_nil e
  not_nil_node (kind.Symbol t) x s h b e = ap is_nil e ∙ not_zero t.number b
  not_nil_node (kind.Text t) x s h b e = ap is_nil e
  not_nil_node (kind.Boolean c) x s h b e = absurd h
  not_nil_node kind.Integer x s h b e = ap is_nil e.1
  not_nil_node (kind.Pair a d) x s h b e = ap is_nil e
  not_nil_node (kind.Choice c a d) x s h b e = absurd s

  pub no_car : (n : SobNode) (x : Object) → IsSimple n → IsNoCons n → IsObjectOf truth of n x → car x ≡ nil
  no_car (kind.Character c) x s h e = ap car e
  no_car (kind.Symbol t) x s h e = ap car e
  no_car (kind.Text t) x s h e = ap car e
  no_car (kind.Boolean c) x s h e = ap car e ∙ never car (truth c) refl
  no_car kind.Integer x s h e = ap car e.1
  no_car (kind.Pair a d) x s h e = absurd h
  no_car (kind.Choice c a d) x s h e = absurd s

  pub no_cdr : (n : SobNode) (x : Object) → IsSimple n → IsNoCons n → IsObjectOf truth of n x → cdr x ≡ nil
  no_cdr (kind.Character c) x s h e = ap cdr e
  no_cdr (kind.Symbol t) x s h e = ap cdr e
  no_cdr (kind.Text t) x s h e = ap cdr e
  no_cdr (kind.Boolean c) x s h e = ap cdr e ∙ never cdr (truth c) refl
  no_cdr kind.Integer x s h e = ap cdr e.1
  no_cdr (kind.Pair a d) x s h e = absurd h
  no_cdr (kind.Choice c a d) x s h e = absurd s

  pub code_is : (n : SobNode) (x : Object) → IsSimple n → IsObjectOf truth of n x → code_in x ≡ code_seen n
  code_is (kind.Character c) x s e = ap code_in e
  code_is (kind.Symbol t) x s e = ap code_in e
  code_is (kind.Text t) x s e = ap code_in e
  code_is (kind.Boolean c) x s e = ap code_in e ∙ never code_in (truth c) refl
  code_is kind.Integer x s e = ap code_in e.1
  code_is (kind.Pair a d) x s e = ap code_in e
  code_is (kind.Choice c a d) x s e = absurd s

-- ---- predicates
pub holds_is : (p : Primitive) (x y : Object) → is_predicate p ≡ true → prim_of p x y ≡ boolean_object (holds p x y)
holds_is prim.Consp x y h = ap boolean_object (sym (not_nil _))
holds_is prim.Integerp x y h = ap boolean_object (sym (not_nil _))
holds_is prim.Symbolp x y h = ap boolean_object (sym (not_nil _))
holds_is prim.Stringp x y h = ap boolean_object (sym (not_nil _))
holds_is prim.Characterp x y h = ap boolean_object (sym (not_nil _))
holds_is prim.Equal x y h = ap boolean_object (sym (not_nil _))
holds_is prim.Not x y h = ap boolean_object (sym (not_nil _))
holds_is prim.Less x y h = ap boolean_object (sym (not_nil _))
holds_is prim.Logbitp x y h = ap boolean_object (sym (not_nil _))
holds_is prim.UnsignedByteP x y h = ap boolean_object (sym (not_nil _))
holds_is prim.SignedByteP x y h = ap boolean_object (sym (not_nil _))
holds_is _ x y h = absurd (false≢true h)

pub natural_by_integer : (x : Object) → natural_in (Int (integer_in x)) ≡ natural_in x
natural_by_integer (Int (pos n)) = refl
natural_by_integer (Int (negsuc n)) = refl
natural_by_integer (Character c) = refl
natural_by_integer (Symbol n) = refl
natural_by_integer (Text n) = refl
natural_by_integer (Cons a d) = refl

-- ---- one argument
pub second_unused : (p : Primitive) (x y z : Object) → takes_two p ≡ false → prim_of p x y ≡ prim_of p x z
second_unused prim.Consp x y z h = refl
second_unused prim.Integerp x y z h = refl
second_unused prim.Symbolp x y z h = refl
second_unused prim.Stringp x y z h = refl
second_unused prim.Characterp x y z h = refl
second_unused prim.Car x y z h = refl
second_unused prim.Cdr x y z h = refl
second_unused prim.Not x y z h = refl
second_unused prim.CharCode x y z h = refl
second_unused prim.CodeChar x y z h = refl
second_unused prim.UnaryMinus x y z h = refl
second_unused prim.Lognot x y z h = refl
second_unused prim.IntegerLength x y z h = refl
second_unused _ x y z h = absurd (false≢true (sym h))

-- ---- choices
pub first_choice : (p : Primitive) (b : Bool) (u v y : Object) → prim_of p (cond b u v) y ≡ cond b (prim_of p u y) (prim_of p v y)
first_choice p true u v y = refl
first_choice p false u v y = refl

pub second_choice : (p : Primitive) (b : Bool) (x u v : Object) → prim_of p x (cond b u v) ≡ cond b (prim_of p x u) (prim_of p x v)
second_choice p true x u v = refl
second_choice p false x u v = refl

-- ---- conses
pub both_truths : (b c : Bool) → both (boolean_object b) (boolean_object c) ≡ boolean_object (b && c)
both_truths b c = λ i. boolean_object (not_nil b i && not_nil c i)

pub never_wide : (b : Bool) → IsTooWide (boolean_object b) → ⊥
never_wide true h = h
never_wide false h = h

-- a primitive that neither answers T or NIL nor is an integer operation
pub other_is : (p : Primitive) → is_predicate p ≡ false → is_operation p ≡ false → is_other p ≡ true
other_is prim.Cons h k = refl
other_is prim.Car h k = refl
other_is prim.Cdr h k = refl
other_is prim.CharCode h k = refl
other_is prim.CodeChar h k = refl
other_is prim.Consp h k = absurd (false≢true (sym h))
other_is prim.Integerp h k = absurd (false≢true (sym h))
other_is prim.Symbolp h k = absurd (false≢true (sym h))
other_is prim.Stringp h k = absurd (false≢true (sym h))
other_is prim.Characterp h k = absurd (false≢true (sym h))
other_is prim.Equal h k = absurd (false≢true (sym h))
other_is prim.Not h k = absurd (false≢true (sym h))
other_is prim.Less h k = absurd (false≢true (sym h))
other_is prim.Logbitp h k = absurd (false≢true (sym h))
other_is prim.UnsignedByteP h k = absurd (false≢true (sym h))
other_is prim.SignedByteP h k = absurd (false≢true (sym h))
other_is _ h k = absurd (false≢true (sym k))

-- the second object, where it counts
pub second_counts : (p : Primitive) (of : Sob → Object) (x y z : Sob) → z ≡ cond (takes_two p) y x → prim_of p (of x) (of z) ≡ prim_of p (of x) (of y)
second_counts p of x y z e = by (takes_two p) refl e where
  by : (b : Bool) → takes_two p ≡ b → z ≡ cond b y x → prim_of p (of x) (of z) ≡ prim_of p (of x) (of y)
  by true t q = ap (λ v. prim_of p (of x) (of v)) q
  by false t q = second_unused p (of x) (of z) (of y) t

-- what holds of the first, and of the second where it counts, holds of it
pub second_has : (p : Primitive) (P : Sob → Type 0) (x y z : Sob) → z ≡ cond (takes_two p) y x → P x → (takes_two p ≡ true → P y) → P z
second_has p P x y z e h k = by (takes_two p) refl e where
  by : (b : Bool) → takes_two p ≡ b → z ≡ cond b y x → P z
  by true t q = subst P (sym q) (k t)
  by false t q = subst P (sym q) h
