-- What the body of `zp` gives at once.
use Rattle.std.proofs.Common.{◌≡◌, ◌∙◌, ap, sym, refl, subst, ℕ, zero, suc, Bool, true, false, eqb, List, [], ◌∷◌, length, arith, rules, Some, slice_get}
use Rattle.std.specs.Prelude.{pos, negsuc, int_le, int_lt}
use Rattle.std.specs.List.{position_or_len}
use Rattle.gl_logic.specs.Definition.{Definition}
use Rattle.gl_logic.specs.Environment.{look}
use Rattle.gl_logic.specs.Exp.{Exp, Var, Const, If, Prim, Last, More}
use Rattle.gl_logic.specs.Ground.{ground}
use Rattle.gl_logic.specs.IsGround.{placed, AreGround}
use Rattle.gl_logic.specs.Object.{Object, Int, Character, Symbol, Text, Cons, nil, true_object, boolean_object}
use Rattle.gl_logic.specs.PrimValue.{prim_value}
use Rattle.gl_logic.specs.declared.prim.Primitive.TheVariants as prim
use Rattle.gl_logic.proofs.Optional.{some_same}
use Rattle.lisp_eval.specs.Directs.{GivesAtOnce}
use Rattle.lisp_eval.specs.Narrow.{IsNarrow}
use Rattle.lisp_eval.specs.Tables.{answered_in}
use Rattle.lisp_eval.specs.Threads.{threaded, thread}
use Rattle.lisp_eval.specs.Zero.{zp_number, zp_holds, zp_visits}
use Rattle.lisp_eval.proofs.Directly.{var_gives, const_gives, if_gives, none_give, more_give, prim_gives}
use Rattle.lisp_eval.proofs.Placed.{is_callless, placed_thread}

-- ---- the body, where the formal is its place
abbrev x0 : Exp
x0 = Var 0

abbrev zero_term : Exp
zero_term = Const (Int (pos 0))

abbrev positive : Exp
positive = Prim prim.Less (More zero_term (More x0 Last))

abbrev at_most_zero : Exp
at_most_zero = Prim prim.Not (More positive Last)

abbrev pub zp_body : Exp
zp_body = If (Prim prim.Integerp (More x0 Last)) at_most_zero (Const true_object)

zero_narrow : IsNarrow (Int (pos 0))
zero_narrow = λ h. h (search rules)

module _ (ds : List Definition) (functions : List ℕ) (x : Object) (narrow : IsNarrow x) where
  abbrev env : List (ℕ × Object)
  env = (0, x) ∷ []

  abbrev Gives : Exp → Object → ℕ → Type 0
  Gives = GivesAtOnce ds functions env

  x_gives : Gives x0 x 1
  x_gives = var_gives ds functions env 0 narrow

  integer_gives : (y : Object) → prim_value prim.Integerp (x ∷ []) ≡ y → IsNarrow y → Gives (Prim prim.Integerp (More x0 Last)) y 2
  integer_gives y e h = prim_gives ds functions env prim.Integerp (More x0 Last) (x ∷ []) y 1 (more_give ds functions env x0 Last x [] 1 0 x_gives (none_give ds functions env)) e h

  positive_gives : (y : Object) → prim_value prim.Less (Int (pos 0) ∷ x ∷ []) ≡ y → IsNarrow y → Gives positive y 3
  positive_gives y e h = prim_gives ds functions env prim.Less (More zero_term (More x0 Last)) (Int (pos 0) ∷ x ∷ []) y 2
      (more_give ds functions env zero_term (More x0 Last) (Int (pos 0)) (x ∷ []) 1 1 (const_gives ds functions env (Int (pos 0)) zero_narrow) (more_give ds functions env x0 Last x [] 1 0 x_gives (none_give ds functions env))) e h

  most_gives : (y z : Object) → prim_value prim.Less (Int (pos 0) ∷ x ∷ []) ≡ y → IsNarrow y → prim_value prim.Not (y ∷ []) ≡ z → IsNarrow z → Gives at_most_zero z 4
  most_gives y z e h f k = prim_gives ds functions env prim.Not (More positive Last) (y ∷ []) z 3 (more_give ds functions env positive Last y [] 3 0 (positive_gives y e h) (none_give ds functions env)) f k

  on_integer : (y z : Object) → prim_value prim.Integerp (x ∷ []) ≡ true_object → prim_value prim.Less (Int (pos 0) ∷ x ∷ []) ≡ y → IsNarrow y → prim_value prim.Not (y ∷ []) ≡ z → IsNarrow z → Gives zp_body z 7
  on_integer y z i e h f k = if_gives ds functions env (Prim prim.Integerp (More x0 Last)) at_most_zero (Const true_object) true_object z 2 4 (integer_gives true_object i tt) (most_gives y z e h f k)

  on_other : prim_value prim.Integerp (x ∷ []) ≡ nil → Gives zp_body true_object 4
  on_other i = if_gives ds functions env (Prim prim.Integerp (More x0 Last)) at_most_zero (Const true_object) nil true_object 2 1 (integer_gives nil i tt) (const_gives ds functions env true_object tt)

-- a positive integer
above : (n : ℕ) → int_lt (pos 0) (pos (suc n)) ≡ true
above n = grind (arith)

not_below : (n : ℕ) → int_le (pos (suc n)) (pos 0) ≡ false
not_below n = grind (arith)

zp_body_gives : (ds : List Definition) (functions : List ℕ) (x : Object) → IsNarrow x → GivesAtOnce ds functions ((0, x) ∷ []) zp_body (boolean_object (zp_holds x)) (zp_visits x)
zp_body_gives ds functions (Int (pos zero)) h = on_integer ds functions (Int (pos zero)) h nil true_object refl refl tt refl tt
zp_body_gives ds functions (Int (pos (suc n))) h = subst (λ (b : Bool). GivesAtOnce ds functions ((0, Int (pos (suc n))) ∷ []) zp_body (boolean_object b) 7) (sym (not_below n))
    (on_integer ds functions (Int (pos (suc n))) h true_object nil refl (ap boolean_object (above n)) tt refl tt)
zp_body_gives ds functions (Int (negsuc n)) h = on_integer ds functions (Int (negsuc n)) h nil true_object refl refl tt refl tt
zp_body_gives ds functions (Character c) h = on_other ds functions (Character c) h refl
zp_body_gives ds functions (Symbol s) h = on_other ds functions (Symbol s) h refl
zp_body_gives ds functions (Text s) h = on_other ds functions (Text s) h refl
zp_body_gives ds functions (Cons a d) h = on_other ds functions (Cons a d) h refl

-- ---- in a world
abbrev pub IsZpBody : Definition → Type 0
IsZpBody d = (length d.formals ≡ 1) × (placed d.formals d.body ≡ zp_body)

pub is_zp : (ds : List Definition) → AreGround ds → (d : Definition) → slice_get ds zp_number ≡ Some d → IsZpBody d
unfolding ground
is_zp ds known d e = known zp_number d e

look_one : (n u : ℕ) (x : Object) → look ((n, x) ∷ []) u ≡ look ((0, x) ∷ []) (position_or_len (eqb u) (n ∷ []))
look_one n u x = grind (arith)

-- the body of `zp` on its formal
pub zp_gives : (ds : List Definition) (functions : List ℕ) → AreGround ds → (d : Definition) → slice_get ds zp_number ≡ Some d → (n : ℕ) → slice_get d.formals 0 ≡ Some n → (x : Object) → IsNarrow x
    → GivesAtOnce ds functions ((n, x) ∷ []) d.body (boolean_object (zp_holds x)) (zp_visits x)
zp_gives ds functions known d e n first x h depth kept r q =
    let z = is_zp ds known d e in
    let formals = only d.formals n z.0 first in
    let place : (u : ℕ) → look ((n, x) ∷ []) u ≡ look ((0, x) ∷ []) (position_or_len (eqb u) d.formals) = λ u. subst (λ (vs : List ℕ). look ((n, x) ∷ []) u ≡ look ((0, x) ∷ []) (position_or_len (eqb u) vs)) (sym formals) (look_one n u x) in
    let callless : is_callless (placed d.formals d.body) ≡ true = ap is_callless z.1 in
    let same = placed_thread (threaded ds (answered_in ds) functions depth) d.formals ((n, x) ∷ []) ((0, x) ∷ []) place d.body callless kept in
    zp_body_gives ds functions x h depth kept r (ap (λ t. thread ds (answered_in ds) functions depth ((0, x) ∷ []) t kept) (sym z.1) ∙ (sym same ∙ q)) where
      only : (vs : List ℕ) (n : ℕ) → length vs ≡ 1 → slice_get vs 0 ≡ Some n → vs ≡ n ∷ []
      only [] n c e = absurd (omega (arith, c))
      only (m ∷ []) n c e = ap (λ k. k ∷ []) (some_same m n e)
      only (m ∷ k ∷ vs) n c e = absurd (omega (arith, c))
