-- Being in a list of numbers.
use Rattle.std.proofs.Common.{◌≡◌, ◌∙◌, ap, refl, ℕ, zero, suc, ◌+◌, ◌<◌, ◌-◌, ◌⊎◌, inl, inr, subst, sym, Bool, true, false, cond, ◌||◌, eqb, ◌≤◌, List, [], ◌∷◌, length, drop, get_or, arith}
use Rattle.std.specs.Prelude.{ltb}
use Rattle.std.proofs.lemmas.Bool.{lt-ltb, ne_eqb}
use Rattle.gl_logic.specs.Counts.{is_among}
use Rattle.gl_logic.specs.Definition.{Definition}
use Rattle.lisp_eval.specs.Tables.{answered_in, table_functions}

pub is_among_step : (fs : List ℕ) (f : ℕ) (i d : ℕ) → i < length fs → is_among (drop i fs) f ≡ (eqb f (get_or fs i d) || is_among (drop (i + 1) fs) f)
is_among_step [] f i d h = absurd (omega (arith, h))
is_among_step (g ∷ fs) f zero d h = refl
is_among_step (g ∷ fs) f (suc i) d h = let z : suc (i + 1) ≡ suc i + 1 = omega arith in is_among_step fs f i d (omega (arith, h)) ∙ ap (λ n. eqb f (get_or fs i d) || is_among (drop n (g ∷ fs)) f) z

answered_at : (k f : ℕ) → 37 + k ≡ f → k < 6 → is_among table_functions f ≡ true
answered_at k f e h = subst (λ n. is_among table_functions n ≡ true) e (each k h) where
  each : (k : ℕ) → k < 6 → is_among table_functions (37 + k) ≡ true
  each zero h = refl
  each (suc zero) h = refl
  each (suc (suc zero)) h = refl
  each (suc (suc (suc zero))) h = refl
  each (suc (suc (suc (suc zero)))) h = refl
  each (suc (suc (suc (suc (suc zero))))) h = refl
  each (suc (suc (suc (suc (suc (suc k)))))) h = absurd (omega (arith, h))

pub answered_there : (ds : List Definition) (f : ℕ) → 42 < length ds → 37 ≤ f → f ≤ 42 → true ≡ is_among (answered_in ds) f
answered_there ds f l a b =
    let k : 37 + (f - 37) ≡ f = omega (arith, a) in
    sym (answered_at (f - 37) f k (omega (arith, a, b))) ∙ ap (λ b. is_among (cond b table_functions []) f) (sym (lt-ltb 42 (length ds) l))

pub unanswered : (ds : List Definition) (f : ℕ) → (f < 37) ⊎ (42 < f) → false ≡ is_among (answered_in ds) f
unanswered ds f o = by (ltb 42 (length ds)) where
  out : (k : ℕ) → 37 ≤ k → k ≤ 42 → eqb f k ≡ false
  out k a b = ne_eqb f k (λ e. elim o [ inl l ↦ omega (arith, a, l, e) | inr l ↦ omega (arith, b, l, e) ])

  by : (b : Bool) → false ≡ is_among (cond b table_functions []) f
  by false = refl
  by true =
      let a = out 37 (omega arith) (omega arith) in
      let b = out 38 (omega arith) (omega arith) in
      let c = out 39 (omega arith) (omega arith) in
      let d = out 40 (omega arith) (omega arith) in
      let e = out 41 (omega arith) (omega arith) in
      let g = out 42 (omega arith) (omega arith) in
      sym (λ i. a i || (b i || (c i || (d i || (e i || (g i || false))))))

by_test : (n : ℕ) (b : Bool) → ltb 42 n ≡ b → (42 < n → false ≡ b) → b ≡ false
by_test n true e h = sym (h (Rattle.std.proofs.lemmas.Bool.ltb-true 42 n e))
by_test n false e h = refl

pub answered_nowhere : (ds : List Definition) (f : ℕ) → length ds ≤ 42 → false ≡ is_among (answered_in ds) f
answered_nowhere ds f l = ap (λ b. is_among (cond b table_functions []) f) (sym (by_test (length ds) (ltb 42 (length ds)) refl (λ m. absurd (omega (arith, l, m)))))
