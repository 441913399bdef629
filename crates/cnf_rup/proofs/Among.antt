-- Literals among others.
use Rattle.std.proofs.Common.{◌≡◌, ◌≢◌, ℕ, zero, suc, ℤ, pos, negsuc, ◌<◌, Bool, true, false, not, ◌||◌, List, [], ◌∷◌, ◌++◌, refl, ap, ◌∙◌, sym, subst, inl, inr, arith, int_eq, neg_ℤ, unsigned_abs}
use Rattle.std.specs.List.{list_any}
use Rattle.std.proofs.lemmas.Bool.{or_cases, or_left, or_right, both_ways, false_from_ne_true}
use Rattle.std.proofs.lemmas.Bool.Decides.{Decides-int_eq}
use Rattle.std.proofs.lemmas.List.Elements.{All-head, All-tail}
use Rattle.cnf_rup.specs.Literals.{holds, IsLiteral, IsClause}
use Rattle.cnf_rup.specs.Shown.{is_among, negated}

pub same-literal : (x y : ℤ) → int_eq x y ≡ true → x ≡ y
same-literal x y e = (Decides-int_eq x y).0 e

pub literal-same : (x y : ℤ) → x ≡ y → int_eq x y ≡ true
literal-same x y e = (Decides-int_eq x y).1 e

pub literal-other : (x y : ℤ) → x ≢ y → int_eq x y ≡ false
literal-other x y h = false_from_ne_true (int_eq x y) (λ e. h (same-literal x y e))

or-none : (b : Bool) → b || false ≡ b
or-none true = refl
or-none false = refl

or-regroup : (p q r : Bool) → (p || (q || r)) ≡ ((p || q) || r)
or-regroup true q r = refl
or-regroup false q r = refl

-- one literal more
pub among-push : (known : List ℤ) (x l : ℤ) → is_among (known ++ x ∷ []) l ≡ (is_among known l || int_eq l x)
among-push [] x l = or-none (int_eq l x)
among-push (y ∷ ys) x l = ap (λ b. int_eq l y || b) (among-push ys x l) ∙ or-regroup (int_eq l y) (is_among ys l) (int_eq l x)

-- a test that some literal among these passes
pub any-among : (p : ℤ → Bool) (xs : List ℤ) (l : ℤ) → is_among xs l ≡ true → p l ≡ true → list_any p xs ≡ true
any-among p [] l h e = absurd cc
any-among p (x ∷ xs) l h e = elim (or_cases (int_eq l x) (is_among xs l) h) [
  | inl here ↦ or_left (p x) (list_any p xs) (subst (λ (y : ℤ). p y ≡ true) (same-literal l x here) e)
  | inr there ↦ or_right (p x) (list_any p xs) (any-among p xs l there e)
]

-- a test that a literal passes wherever another one does
pub any-weaker : (p q : ℤ → Bool) (xs : List ℤ) → ((l : ℤ) → is_among xs l ≡ true → p l ≡ true → q l ≡ true) → list_any p xs ≡ true → list_any q xs ≡ true
any-weaker p q [] f h = h
any-weaker p q (x ∷ xs) f h = elim (or_cases (p x) (list_any p xs) h) [
  | inl here ↦ or_left (q x) (list_any q xs) (f x (or_left (int_eq x x) (is_among xs x) (literal-same x x refl)) here)
  | inr there ↦ or_right (q x) (list_any q xs) (any-weaker p q xs (λ l m. f l (or_right (int_eq l x) (is_among xs l) m)) there)
]

-- what a test that no element passes says of one
pub none-at : (p : ℤ → Bool) (xs : List ℤ) (l : ℤ) → list_any p xs ≡ false → is_among xs l ≡ true → p l ≡ false
none-at p xs l none m = false_from_ne_true (p l) (λ e. both_ways (list_any p xs) none (any-among p xs l m e))

-- the elements of a clause are literals
pub clause-at : (c : List ℤ) (l : ℤ) → IsClause c → is_among c l ≡ true → IsLiteral l
clause-at [] l h m = absurd cc
clause-at (x ∷ xs) l h m = elim (or_cases (int_eq l x) (is_among xs l) m) [
  | inl here ↦ subst IsLiteral (sym (same-literal l x here)) (All-head IsLiteral x xs h)
  | inr there ↦ clause-at xs l (All-tail IsLiteral x xs h) there
]

-- ---- complements
not-not : (b : Bool) → not (not b) ≡ b
not-not true = refl
not-not false = refl

pub holds-complement : (a : ℕ → Bool) (l : ℤ) → 0 < unsigned_abs l → holds a (neg_ℤ l) ≡ not (holds a l)
holds-complement a (pos zero) h = absurd (omega (arith, h))
holds-complement a (pos (suc n)) h = refl
holds-complement a (negsuc n) h = sym (not-not (a (suc n)))

pub complement-twice : (l : ℤ) → neg_ℤ (neg_ℤ l) ≡ l
complement-twice (pos zero) = refl
complement-twice (pos (suc n)) = refl
complement-twice (negsuc n) = refl

pub size-complement : (l : ℤ) → unsigned_abs (neg_ℤ l) ≡ unsigned_abs l
size-complement (pos zero) = refl
size-complement (pos (suc n)) = refl
size-complement (negsuc n) = refl

-- a literal is among the complements where its complement is among the literals
pub among-negated : (c : List ℤ) (l : ℤ) → is_among (negated c) l ≡ true → is_among c (neg_ℤ l) ≡ true
among-negated [] l h = h
among-negated (x ∷ xs) l h = elim (or_cases (int_eq l (neg_ℤ x)) (is_among (negated xs) l) h) [
  | inl here ↦ or_left (int_eq (neg_ℤ l) x) (is_among xs (neg_ℤ l)) (literal-same (neg_ℤ l) x (ap neg_ℤ (same-literal l (neg_ℤ x) here) ∙ complement-twice x))
  | inr there ↦ or_right (int_eq (neg_ℤ l) x) (is_among xs (neg_ℤ l)) (among-negated xs l there)
]
