-- Short lists of arguments, by their elements.
use Rattle.std.proofs.Common.{◌≡◌, ◌∙◌, ap, sym, refl, ℕ, List, [], ◌∷◌, true, false, ◌&&◌, eqb, eq-eqb, length, get_or, arith}
use Rattle.std.proofs.lemmas.Bool.{eqb-true}
use Rattle.gl_logic.specs.Exp.{Exp}
use Rattle.gl_logic.specs.TermOf.{term_of, terms_of}
use Rattle.gl_logic.specs.RecursiveCalls.{exp_eq}
use Rattle.gl_logic.specs.PrimCode.{prim_number, prim_at, prim-at-number}
use Rattle.gl_logic.specs.declared.prim.Primitive.{Primitive}
use Rattle.gl_logic.specs.declared.term.Term.{Term}
use Rattle.admission.specs.Arguments.{same_all, one_term, two_terms}

pub eqb_turned : (m n : ℕ) → eqb m n ≡ eqb n m
eqb_turned m n = grind arith

pub prims_same : (p q : Primitive) → p ≡ q → eqb (prim_number p) (prim_number q) ≡ true
prims_same p q h = eq-eqb (prim_number p) (prim_number q) (ap prim_number h)

prims_at : (p q : Primitive) → eqb (prim_number p) (prim_number q) ≡ true → p ≡ q
prims_at p q h = sym (prim-at-number p) ∙ (ap prim_at (eqb-true (prim_number p) (prim_number q) h) ∙ prim-at-number q)

eqb_apart : (a b : ℕ) → (eqb a b ≡ true → ⊥) → eqb a b ≡ false
eqb_apart a b h = grind (arith, h)

pub prims_differ : (p q : Primitive) → (p ≡ q → ⊥) → eqb (prim_number p) (prim_number q) ≡ false
prims_differ p q h = eqb_apart (prim_number p) (prim_number q) (λ e. h (prims_at p q e))

-- ---- one argument
pub one_is : (a : Exp) (ts : List Term) (t : Term) → length ts ≡ 1 → t ≡ get_or ts 0 t → exp_eq a (term_of t) ≡ same_all (one_term a) (terms_of ts)
one_is a [] t h e = absurd (omega (arith, h))
one_is a (s ∷ []) t h e = ap (λ (z : Term). exp_eq a (term_of z)) e ∙ grind arith
one_is a (s ∷ r ∷ ts) t h e = absurd (omega (arith, h))

pub one_is_not : (a : Exp) (ts : List Term) → (length ts ≡ 1 → ⊥) → false ≡ same_all (one_term a) (terms_of ts)
one_is_not a [] h = refl
one_is_not a (s ∷ []) h = absurd (h refl)
one_is_not a (s ∷ r ∷ ts) h = grind arith

-- ---- two arguments
pub two_are : (a b : Exp) (ts : List Term) (t u : Term) → length ts ≡ 2 → t ≡ get_or ts 0 t → u ≡ get_or ts 1 u → (exp_eq a (term_of t) && exp_eq b (term_of u)) ≡ same_all (two_terms a b) (terms_of ts)
two_are a b [] t u h e f = absurd (omega (arith, h))
two_are a b (s ∷ []) t u h e f = absurd (omega (arith, h))
two_are a b (s ∷ r ∷ []) t u h e f = (λ i. exp_eq a (term_of (e i)) && exp_eq b (term_of (f i))) ∙ grind arith
two_are a b (s ∷ r ∷ q ∷ ts) t u h e f = absurd (omega (arith, h))

pub two_are_not : (a b : Exp) (ts : List Term) → (length ts ≡ 2 → ⊥) → false ≡ same_all (two_terms a b) (terms_of ts)
two_are_not a b [] h = refl
two_are_not a b (s ∷ []) h = grind arith
two_are_not a b (s ∷ r ∷ []) h = absurd (h refl)
two_are_not a b (s ∷ r ∷ q ∷ ts) h = grind arith
