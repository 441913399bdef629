-- Sums over different things: a list without repetition, within another, sums up to no more.
use Rattle.std.proofs.Common.{◌≡◌, ◌∙◌, ap, sym, refl, ℕ, ◌+◌, ◌≤◌, List, [], ◌∷◌, Bool, true, false, cond, ◌||◌, ◌&&◌, arith, subst, length}
use Rattle.std.specs.Prelude.{sum_by}
use Rattle.std.specs.List.{list_any, filter}
use Rattle.std.proofs.lemmas.Bool.{or_left, or_right, true≢false}
use Rattle.std.proofs.lemmas.List.Sums.{sum_by-cons}
use Rattle.std.proofs.lemmas.Map.Views.{any-filter_same}
use Rattle.gl_logic.specs.Different.{different}

pub not_true : (b : Bool) → (b ≡ true → ⊥) → b ≡ false
not_true true h = absurd (h refl)
not_true false h = refl

pub or_false : (a b : Bool) → a ≡ false → b ≡ false → (a || b) ≡ false
or_false true b h g = h
or_false false b h g = g

module _ {A : Type 0} (same : A → A → Bool) (is_same : (x y : A) → same x y ≡ true → x ≡ y) (itself : (x : A) → same x x ≡ true) where
  abbrev pub has : List A → A → Bool
  has xs x = list_any (same x) xs

  -- ---- of a list, with what each costs: those that are not kept
  abbrev charge : (A → ℕ) → List A → List A → ℕ
  charge own [] kept = 0
  charge own (u ∷ us) kept = cond (has kept u) 0 (own u) + charge own us kept

  cond_most : (b : Bool) (n : ℕ) → cond b 0 n ≤ n
  cond_most true n = omega arith
  cond_most false n = omega arith

  charge_at_most : (own : A → ℕ) (us kept : List A) → charge own us kept ≤ sum_by own us
  charge_at_most own [] kept = omega arith
  charge_at_most own (u ∷ us) kept = omega (arith, sum_by-cons own u us, charge_at_most own us kept, cond_most (has kept u) (own u))

  cond_less : (a b : Bool) (n : ℕ) → cond (a || b) 0 n ≤ cond b 0 n
  cond_less true b n = omega arith
  cond_less false b n = omega arith

  charge_less : (own : A → ℕ) (us kept : List A) (c : A) → charge own us (c ∷ kept) ≤ charge own us kept
  charge_less own [] kept c = omega arith
  charge_less own (u ∷ us) kept c = omega (arith, charge_less own us kept c, cond_less (same u c) (has kept u) (own u))

  cond_more : (a b : Bool) (n : ℕ) → a ≡ true → b ≡ false → cond (a || b) 0 n + n ≤ cond b 0 n
  cond_more true false n h g = omega arith
  cond_more true true n h g = absurd cc
  cond_more false b n h g = absurd cc

  charge_here : (own : A → ℕ) (u : A) (us kept : List A) → has kept u ≡ false → charge own (u ∷ us) (u ∷ kept) + own u ≤ charge own (u ∷ us) kept
  charge_here own u us kept h = omega (arith, charge_less own us kept u, cond_more (same u u) (has kept u) (own u) (itself u) h)

  charge_step : (own : A → ℕ) (b : Bool) (u : A) (us kept : List A) (c : A) → same c u ≡ b → (b || has us c) ≡ true → has kept c ≡ false
      → (has us c ≡ true → charge own us (c ∷ kept) + own c ≤ charge own us kept) → charge own (u ∷ us) (c ∷ kept) + own c ≤ charge own (u ∷ us) kept
  charge_step own true u us kept c e h g next =
      let q : u ≡ c = sym (is_same c u e) in
      subst (λ (z : A). charge own (u ∷ us) (z ∷ kept) + own z ≤ charge own (u ∷ us) kept) q (charge_here own u us kept (subst (λ (z : A). has kept z ≡ false) (sym q) g))
  charge_step own false u us kept c e h g next = let k = next h in omega (arith, k, cond_less (same u c) (has kept u) (own u))

  -- what is kept from now on is charged for the last time
  charge_more : (own : A → ℕ) (us kept : List A) (c : A) → has us c ≡ true → has kept c ≡ false → charge own us (c ∷ kept) + own c ≤ charge own us kept
  charge_more own [] kept c h g = absurd cc
  charge_more own (u ∷ us) kept c h g = charge_step own (same c u) u us kept c refl h g (λ k. charge_more own us kept c k g)

  -- ---- without repetition
  abbrev pub Once : List A → Type 0
  Once [] = Unit {0}
  Once (u ∷ us) = (has us u ≡ false) × Once us

  once_charge : (own : A → ℕ) (us vs kept : List A) → Once us → ((u : A) → has us u ≡ true → has vs u ≡ true) → ((u : A) → has us u ≡ true → has kept u ≡ false) → sum_by own us ≤ charge own vs kept
  once_charge own [] vs kept once h g = omega arith
  once_charge own (u ∷ us) vs kept once h g =
      let here : has (u ∷ us) u ≡ true = or_left (same u u) (has us u) (itself u) in
      let paid = charge_more own vs kept u (h u here) (g u here) in
      let rest = once_charge own us vs (u ∷ kept) once.1 (λ w k. h w (or_right (same w u) (has us w) k)) (λ w k. or_false (same w u) (has kept w)
      (not_true (same w u) (λ e. true≢false (sym (subst (λ (z : A). has us z ≡ true) (is_same w u e) k) ∙ once.0))) (g w (or_right (same w u) (has us w) k))) in
      omega (arith, sum_by-cons own u us, paid, rest)

  pub sum_within : (own : A → ℕ) (us vs : List A) → Once us → ((u : A) → has us u ≡ true → has vs u ≡ true) → sum_by own us ≤ sum_by own vs
  sum_within own us vs once h = let k = once_charge own us vs [] once h (λ u e. refl) in omega (arith, k, charge_at_most own vs [])

  sum_of_ones : (xs : List A) → sum_by (λ x. 1) xs ≡ length xs
  sum_of_ones [] = refl
  sum_of_ones (x ∷ xs) = omega (arith, sum_by-cons (λ (x : A). 1) x xs, sum_of_ones xs)

  pub length_within : (us vs : List A) → Once us → ((u : A) → has us u ≡ true → has vs u ≡ true) → length us ≤ length vs
  length_within us vs once h = omega (arith, sum_within (λ x. 1) us vs once h, sum_of_ones us, sum_of_ones vs)

  -- ---- a list's different elements
  added_has : (a b : Bool) (c u : A) (us : List A) → same c u ≡ a → has us u ≡ b → has (cond b us (u ∷ us)) c ≡ (a || has us c)
  added_has true true c u us e h = ap (has us) (is_same c u e) ∙ h
  added_has false true c u us e h = refl
  added_has a false c u us e h = ap (λ (b : Bool). b || has us c) e

  pub different_has : (cs : List A) (c : A) → has (different same cs) c ≡ has cs c
  different_has [] c = refl
  different_has (u ∷ cs) c = added_has (same c u) (has (different same cs) u) c u (different same cs) refl refl ∙ ap (λ (b : Bool). same c u || b) (different_has cs c)

  once_added : (b : Bool) (x : A) (xs : List A) → has xs x ≡ b → Once xs → Once (cond b xs (x ∷ xs))
  once_added true x xs e h = h
  once_added false x xs e h = (e, h)

  pub different_once : (xs : List A) → Once (different same xs)
  different_once [] = tt
  different_once (x ∷ xs) = once_added (has (different same xs) x) x (different same xs) refl (different_once xs)

  -- ---- the elements that a test lets through
  pub filter_has : (test : A → Bool) (xs : List A) (x : A) → has (filter test xs) x ≡ (test x && has xs x)
  filter_has test xs x = any-filter_same (same x) test (test x) (λ y e. ap test (sym (is_same x y e))) xs
