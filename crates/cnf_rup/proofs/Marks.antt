-- Marks of literals.
use Rattle.std.proofs.Common.{◌≡◌, ◌≢◌, ℕ, zero, suc, ℤ, pos, negsuc, ◌+◌, ◌*◌, ◌<◌, ◌≤◌, Bool, true, false, ◌||◌, List, [], ◌∷◌, ◌++◌, length, get_or, set, drop, refl, ap, ◌∙◌, sym, inl, inr, arith, int_eq, unsigned_abs, get_or-set_same, get_or-set_other}
use Rattle.std.proofs.lemmas.List.{drop_more, drop_all}
use Rattle.std.proofs.lemmas.Bool.{cases_Bool, or_cases, or_right, both_ways, false_from_ne_true}
use Rattle.cnf_rup.specs.Shown.{is_among}
use Rattle.cnf_rup.specs.Marked.{AreMarked, is_marked, mark_of, unset_count}
use Rattle.cnf_rup.proofs.Among.{among-push, same-literal, literal-same}

-- a literal within the marks has one
pub mark_within : (l : ℤ) → mark_of l ≤ 2 * unsigned_abs l
mark_within (pos v) = omega arith
mark_within (negsuc v) = omega arith

-- different literals have different marks
pub same-mark : (l m : ℤ) → mark_of l ≡ mark_of m → l ≡ m
same-mark (pos a) (pos b) e = ap pos (omega (arith, e))
same-mark (pos a) (negsuc b) e = absurd (omega (arith, e))
same-mark (negsuc a) (pos b) e = absurd (omega (arith, e))
same-mark (negsuc a) (negsuc b) e = ap negsuc (omega (arith, e))

marked-same : (marks : List Bool) (l m : ℤ) (b : Bool) → mark_of l < length marks → m ≡ l → is_marked (set marks (mark_of l) b) m ≡ b
marked-same marks l m b within e = ap (λ (x : ℤ). get_or (set marks (mark_of l) b) (mark_of x) false) e ∙ get_or-set_same marks (mark_of l) b false within

marked-other : (marks : List Bool) (l m : ℤ) (b : Bool) → m ≢ l → is_marked (set marks (mark_of l) b) m ≡ is_marked marks m
marked-other marks l m b other = get_or-set_other marks (mark_of l) (mark_of m) b false (λ e. other (same-mark m l e))

or-none : (p q : Bool) → q ≡ false → (p || q) ≡ p
or-none true q h = refl
or-none false q h = h

-- a literal more
pub marked-set : (marks : List Bool) (literals : List ℤ) (l : ℤ) → AreMarked marks literals → mark_of l < length marks → AreMarked (set marks (mark_of l) true) (literals ++ l ∷ [])
marked-set marks literals l are within m = elim (cases_Bool (int_eq m l)) [
  | inl here ↦ marked-same marks l m true within (same-literal m l here) ∙ sym (among-push literals l m ∙ or_right (is_among literals m) (int_eq m l) here)
  | inr other ↦ marked-other marks l m true (λ e. both_ways (int_eq m l) other (literal-same m l e)) ∙ are m ∙ sym (among-push literals l m ∙ or-none (is_among literals m) (int_eq m l) other)
]

-- no mark is set but of these
abbrev pub AreAtMost : List Bool → List ℤ → Type 0
AreAtMost marks literals = (m : ℤ) → is_marked marks m ≡ true → is_among literals m ≡ true

-- the mark of the first of them is cleared
pub cleared-more : (marks : List Bool) (literals : List ℤ) (i : ℕ) (l d : ℤ) → i < length literals → l ≡ get_or literals i d → mark_of l < length marks → AreAtMost marks (drop i literals) → AreAtMost (set marks (mark_of l) false) (drop (i + 1) literals)
cleared-more marks literals i l d under is within most m h = elim (cases_Bool (int_eq m l)) [
  | inl here ↦ absurd (both_ways (is_marked (set marks (mark_of l) false) m) (marked-same marks l m false within (same-literal m l here)) h)
  | inr other ↦
      let still : is_marked marks m ≡ true = sym (marked-other marks l m false (λ e. both_ways (int_eq m l) other (literal-same m l e))) ∙ h in
      let all : is_among (get_or literals i d ∷ drop (i + 1) literals) m ≡ true = ap (λ ls. is_among ls m) (sym (drop_more literals i d under)) ∙ most m still in
      elim (or_cases (int_eq m (get_or literals i d)) (is_among (drop (i + 1) literals) m) all) [
        | inl first ↦ absurd (both_ways (int_eq m l) other (ap (int_eq m) is ∙ first))
        | inr there ↦ there
      ]
]

pub marked-none : (marks : List Bool) (literals : List ℤ) (i : ℕ) → length literals ≤ i → AreAtMost marks (drop i literals) → AreMarked marks []
marked-none marks literals i past most l = false_from_ne_true (is_marked marks l) (λ h. no (ap (λ ls. is_among ls l) (sym (drop_all i literals past)) ∙ most l h))
  where
    no : false ≡ true → ⊥
    no e = absurd cc

pub most-marked : (marks : List Bool) (literals : List ℤ) → AreMarked marks literals → AreAtMost marks (drop 0 literals)
most-marked marks literals are m h = sym (are m) ∙ h

-- a literal that is true has a mark
pub true-within : (marks : List Bool) (literals : List ℤ) (l : ℤ) → AreMarked marks literals → is_among literals l ≡ true → mark_of l < length marks
true-within marks literals l are h = within marks (mark_of l) (are l ∙ h)
  where
    within : (ms : List Bool) (i : ℕ) → get_or ms i false ≡ true → i < length ms
    within [] i e = absurd cc
    within (m ∷ ms) zero e = omega arith
    within (m ∷ ms) (suc i) e = omega (arith, within ms i e)

pub among-itself : (literals : List ℤ) (i : ℕ) (d : ℤ) → i < length literals → is_among literals (get_or literals i d) ≡ true
among-itself [] i d h = absurd (omega (arith, h))
among-itself (x ∷ xs) zero d h = Rattle.std.proofs.lemmas.Bool.or_left (int_eq x x) (is_among xs x) (literal-same x x refl)
among-itself (x ∷ xs) (suc i) d h = or_right (int_eq (get_or xs i d) x) (is_among xs (get_or xs i d)) (among-itself xs i d (omega (arith, h)))

-- one more mark, that is not set
get-more : (marks : List Bool) (i : ℕ) → get_or (marks ++ false ∷ []) i false ≡ get_or marks i false
get-more [] zero = refl
get-more [] (suc i) = refl
get-more (m ∷ ms) zero = refl
get-more (m ∷ ms) (suc i) = get-more ms i

pub marked-wider : (marks : List Bool) (literals : List ℤ) → AreMarked marks literals → AreMarked (marks ++ false ∷ []) literals
marked-wider marks literals are l = get-more marks (mark_of l) ∙ are l

-- ---- how many are not set
pub unset_within : (marks : List Bool) → unset_count marks ≤ length marks
unset_within [] = omega arith
unset_within (true ∷ ms) = omega (arith, unset_within ms)
unset_within (false ∷ ms) = omega (arith, unset_within ms)

pub unset-set : (marks : List Bool) (i : ℕ) → i < length marks → get_or marks i false ≡ false → unset_count (set marks i true) + 1 ≡ unset_count marks
unset-set [] i h e = absurd (omega (arith, h))
unset-set (true ∷ ms) zero h e = absurd cc
unset-set (false ∷ ms) zero h e = omega arith
unset-set (m ∷ ms) (suc i) h e = omega (arith, unset-set ms i (omega (arith, h)) e)
