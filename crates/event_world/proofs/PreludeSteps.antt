-- Each ground definition is admitted, whatever the names of its formals.
use Rattle.std.proofs.Common.{◌≡◌, ◌∙◌, ap, sym, refl, subst, ℕ, zero, suc, ◌+◌, Bool, true, false, not, ◌&&◌, ◌||◌, eqb, List, [], ◌∷◌, length, get_or, arith, Option, Some, None, slice_get}
use Rattle.std.specs.Prelude.{Result, Ok, Err}
use Rattle.std.specs.List.{list_any}
use Rattle.std.proofs.lemmas.Bool.{eq-eqb, eqb-true}
use Rattle.gl_logic.specs.Exp.{Exp, Exps, Var, More}
use Rattle.gl_logic.specs.Ground.{Ground, ground}
use Rattle.gl_logic.specs.IsAdmissible.{Recursive, recursive_calls, is_step}
use Rattle.gl_logic.specs.Every.{Every}
use Rattle.gl_logic.specs.Steps.{actual_of}
use Rattle.gl_logic.specs.declared.def.Measure.{Measure}
use Rattle.gl_logic.specs.NameSets.{are_different}
use Rattle.admission.specs.Refused.{first_no_step}
use Rattle.admission.specs.Admitted.{count_of, definition, refused_alone, first_formal, number_for_first, verdict}
use Rattle.event_world.specs.PreludeTerms.{named}

-- its verdict is no fault
abbrev pub IsFine : ℕ → List ℕ → Exp → Type 0
IsFine k vars body = (i : ℕ) → verdict k vars (named vars body) None ≡ Err i → ⊥

abbrev pub Admits : ℕ → Ground → Type 0
Admits k g = (vars : List ℕ) → length vars ≡ g.arity → are_different vars ≡ true → IsFine k vars g.body

abbrev AllAdmit : ℕ → List Ground → Type 0
AllAdmit k [] = Unit {0}
AllAdmit k (g ∷ gs) = Admits k g × AllAdmit (suc k) gs

-- ---- where each call is a step under the count of a formal
no_refusal : (is_one : Recursive → Bool) (n : ℕ) (rs : List Recursive) → Every (λ r. is_one r ≡ true) rs → first_no_step is_one n rs ≡ None
no_refusal is_one n [] h = refl
no_refusal is_one n (r ∷ rs) h = ap (λ (b : Bool). elim b as (λ (z : Bool). Option ℕ) [ true ↦ first_no_step is_one (n + 1) rs | false ↦ Some n ]) h.0 ∙ no_refusal is_one (n + 1) rs h.1

settled_by : (refused : Option Measure → Option ℕ) (n : ℕ) (u : ℕ) (vs : List ℕ) (v : ℕ) (i : ℕ) (o : Option ℕ) (b : Bool) → refused (count_of u) ≡ o → eqb v u ≡ b → refused (count_of v) ≡ None
    → (list_any (eqb v) vs ≡ true → first_formal refused n vs ≡ Err i → ⊥) → (b || list_any (eqb v) vs) ≡ true
    → elim o as (λ (z : Option ℕ). Result (Option Measure) ℕ) [ None ↦ Ok (count_of u) | Some j ↦ first_formal refused n vs ] ≡ Err i → ⊥
settled_by refused n u vs v i None b e g h k a q = absurd cc
settled_by refused n u vs v i (Some j) true e g h k a q = absurd (let w : v ≡ u = eqb-true v u g in let z : refused (count_of u) ≡ None = subst (λ (m : ℕ). refused (count_of m) ≡ None) w h in cc (e, z))
settled_by refused n u vs v i (Some j) false e g h k a q = k a q

settled : (refused : Option Measure → Option ℕ) (n : ℕ) (vs : List ℕ) (v : ℕ) (i : ℕ) → refused (count_of v) ≡ None → list_any (eqb v) vs ≡ true → first_formal refused n vs ≡ Err i → ⊥
settled refused n [] v i h a q = absurd cc
settled refused n (u ∷ vs) v i h a q = settled_by refused n u vs v i (refused (count_of u)) (eqb v u) refl refl h (λ b r. settled refused n vs v i h b r) a q

chosen : (calls : List Recursive) (x : Result (Option Measure) ℕ) (i : ℕ) → (x ≡ Err i → ⊥) → elim calls as (λ (z : List Recursive). Result (Option Measure) ℕ) [ [] ↦ Ok None | r ∷ rs ↦ x ] ≡ Err i → ⊥
chosen [] x i h q = absurd cc
chosen (r ∷ rs) x i h q = h q

abbrev Steps : ℕ → List ℕ → Exp → ℕ → Type 0
Steps k vars body v = Every (λ r. is_step k (definition 0 vars (named vars body) (count_of v) ∷ []) r ≡ true) (recursive_calls k (definition 0 vars (named vars body) (count_of v) ∷ []))

under : (k : ℕ) (vars : List ℕ) (body : Exp) (v : ℕ) → list_any (eqb v) vars ≡ true → Steps k vars body v → IsFine k vars body
under k vars body v a h i q =
    let r = refused_alone k vars (named vars body) in
    chosen (recursive_calls k (definition 0 vars (named vars body) None ∷ [])) (first_formal r (number_for_first r vars) vars) i
    (λ p. settled r (number_for_first r vars) vars v i (no_refusal (is_step k (definition 0 vars (named vars body) (count_of v) ∷ [])) 1 (recursive_calls k (definition 0 vars (named vars body) (count_of v) ∷ [])) h) a p) q

-- ---- formals
same_self : (v : ℕ) → eqb v v ≡ true
same_self v = eq-eqb v v refl

first_there : (v : ℕ) (vs : List ℕ) → list_any (eqb v) (v ∷ vs) ≡ true
first_there v vs = ap (λ b. b || list_any (eqb v) vs) (same_self v)

second_there : (v w : ℕ) → list_any (eqb w) (v ∷ w ∷ []) ≡ true
second_there v w = elim (eqb w v) as (λ b. (b || (eqb w w || false)) ≡ true) [ true ↦ refl | false ↦ ap (λ b. b || false) (same_self w) ]

apart : (v w : ℕ) (vs : List ℕ) → are_different (v ∷ w ∷ vs) ≡ true → eqb v w ≡ false
apart v w vs d = elim (eqb v w) as (λ b. (not (b || list_any (eqb v) vs) && are_different (w ∷ vs)) ≡ true → b ≡ false) [ true ↦ λ q. absurd cc | false ↦ λ q. refl ] d

turned : (v w : ℕ) → eqb v w ≡ false → eqb w v ≡ false
turned v w h = grind (arith, h)

one_formal : (k : ℕ) (body : Exp) → ((v : ℕ) → IsFine k (v ∷ []) body) → (vars : List ℕ) → length vars ≡ 1 → are_different vars ≡ true → IsFine k vars body
one_formal k body h [] l d = absurd (omega (arith, l))
one_formal k body h (v ∷ []) l d = h v
one_formal k body h (v ∷ w ∷ vs) l d = absurd (omega (arith, l))

two_formals : (k : ℕ) (body : Exp) → ((v w : ℕ) → eqb v w ≡ false → IsFine k (v ∷ w ∷ []) body) → (vars : List ℕ) → length vars ≡ 2 → are_different vars ≡ true → IsFine k vars body
two_formals k body h [] l d = absurd (omega (arith, l))
two_formals k body h (v ∷ []) l d = absurd (omega (arith, l))
two_formals k body h (v ∷ w ∷ []) l d = h v w (apart v w [] d)
two_formals k body h (v ∷ w ∷ u ∷ vs) l d = absurd (omega (arith, l))

three_formals : (k : ℕ) (body : Exp) → ((v w u : ℕ) → IsFine k (v ∷ w ∷ u ∷ []) body) → (vars : List ℕ) → length vars ≡ 3 → are_different vars ≡ true → IsFine k vars body
three_formals k body h [] l d = absurd (omega (arith, l))
three_formals k body h (v ∷ []) l d = absurd (omega (arith, l))
three_formals k body h (v ∷ w ∷ []) l d = absurd (omega (arith, l))
three_formals k body h (v ∷ w ∷ u ∷ []) l d = h v w u
three_formals k body h (v ∷ w ∷ u ∷ x ∷ vs) l d = absurd (omega (arith, l))

actual_first : (v : ℕ) (vs : List ℕ) (t : Exp) (ts : Exps) → actual_of (v ∷ vs) (More t ts) v ≡ Some t
actual_first v vs t ts = ap (λ b. elim b as (λ (z : Bool). Option Exp) [ true ↦ Some t | false ↦ actual_of vs ts v ]) (same_self v)

actual_next : (u v : ℕ) (vs : List ℕ) (t : Exp) (ts : Exps) → eqb u v ≡ false → actual_of (u ∷ vs) (More t ts) v ≡ actual_of vs ts v
actual_next u v vs t ts h = ap (λ b. elim b as (λ (z : Bool). Option Exp) [ true ↦ Some t | false ↦ actual_of vs ts v ]) h

abbrev body_at : ℕ → Exp
body_at k = (get_or ground k (record { arity = 0; body = Var 0 })).body

-- ---- the recursive definitions
len_steps : (v : ℕ) → Steps 25 (v ∷ []) (body_at 25) v
unfolding ground
len_steps v = let e = same_self v in (rw actual_first (simp e refl), tt)

true_listp_steps : (v : ℕ) → Steps 26 (v ∷ []) (body_at 26) v
unfolding ground
true_listp_steps v = let e = same_self v in (rw actual_first (simp e refl), tt)

binary_append_steps : (v w : ℕ) → Steps 27 (v ∷ w ∷ []) (body_at 27) v
unfolding ground
binary_append_steps v w = let e = same_self v in (rw actual_first (simp e refl), tt)

nth_steps : (v w : ℕ) → Steps 28 (v ∷ w ∷ []) (body_at 28) v
unfolding ground
nth_steps v w = let e = same_self v in (rw actual_first (simp e refl), tt)

nthcdr_steps : (v w : ℕ) → Steps 29 (v ∷ w ∷ []) (body_at 29) v
unfolding ground
nthcdr_steps v w = let e = same_self v in (rw actual_first (simp e refl), tt)

update_nth_steps : (v w u : ℕ) → Steps 30 (v ∷ w ∷ u ∷ []) (body_at 30) v
unfolding ground
update_nth_steps v w u = let e = same_self v in (rw actual_first (simp e refl), tt)

member_equal_steps : (v w : ℕ) → eqb v w ≡ false → Steps 31 (v ∷ w ∷ []) (body_at 31) w
unfolding ground
member_equal_steps v w h = let e = same_self w in (rw (actual_next v w, actual_first) (simp e refl), tt)

assoc_equal_steps : (v w : ℕ) → eqb v w ≡ false → Steps 32 (v ∷ w ∷ []) (body_at 32) w
unfolding ground
assoc_equal_steps v w h = let e = same_self w in (rw (actual_next v w, actual_first) (simp e refl), tt)

logcount_nat_steps : (v : ℕ) → Steps 33 (v ∷ []) (body_at 33) v
unfolding ground
logcount_nat_steps v = let e = same_self v in (rw actual_first (simp e refl), tt)

hons_assoc_equal_steps : (v w : ℕ) → eqb v w ≡ false → Steps 40 (v ∷ w ∷ []) (body_at 40) w
unfolding ground
hons_assoc_equal_steps v w h = let e = same_self w in (rw (actual_next v w, actual_first) (simp e refl), tt)

fast_alist_fork_steps : (v w : ℕ) → Steps 42 (v ∷ w ∷ []) (body_at 42) v
unfolding ground
fast_alist_fork_steps v w = let e = same_self v in (rw actual_first (simp e refl), (rw actual_first (simp e refl), (rw actual_first (simp e refl), tt)))

-- ---- all
all_admit : AllAdmit 0 ground
unfolding ground
all_admit = (
  λ vars l d i q. absurd cc,
  (
    λ vars l d i q. absurd cc,
    (
      λ vars l d i q. absurd cc,
      (
        λ vars l d i q. absurd cc,
        (
          λ vars l d i q. absurd cc,
          (
            λ vars l d i q. absurd cc,
            (
              λ vars l d i q. absurd cc,
              (
                λ vars l d i q. absurd cc,
                (
                  λ vars l d i q. absurd cc,
                  (
                    λ vars l d i q. absurd cc,
                    (
                      λ vars l d i q. absurd cc,
                      (
                        λ vars l d i q. absurd cc,
                        (
                          λ vars l d i q. absurd cc,
                          (
                            λ vars l d i q. absurd cc,
                            (
                              λ vars l d i q. absurd cc,
                              (
                                λ vars l d i q. absurd cc,
                                (
                                  λ vars l d i q. absurd cc,
                                  (
                                    λ vars l d i q. absurd cc,
                                    (
                                      λ vars l d i q. absurd cc,
                                      (
                                        λ vars l d i q. absurd cc,
                                        (
                                          λ vars l d i q. absurd cc,
                                          (
                                            λ vars l d i q. absurd cc,
                                            (
                                              λ vars l d i q. absurd cc,
                                              (
                                                λ vars l d i q. absurd cc,
                                                (
                                                  λ vars l d i q. absurd cc,
                                                  (
                                                    one_formal 25 (body_at 25) (λ v. under 25 (v ∷ []) (body_at 25) v (first_there v []) (len_steps v)),
                                                    (
                                                      one_formal 26 (body_at 26) (λ v. under 26 (v ∷ []) (body_at 26) v (first_there v []) (true_listp_steps v)),
                                                      (
                                                        two_formals 27 (body_at 27) (λ v w h. under 27 (v ∷ w ∷ []) (body_at 27) v (first_there v (w ∷ [])) (binary_append_steps v w)),
                                                        (
                                                          two_formals 28 (body_at 28) (λ v w h. under 28 (v ∷ w ∷ []) (body_at 28) v (first_there v (w ∷ [])) (nth_steps v w)),
                                                          (
                                                            two_formals 29 (body_at 29) (λ v w h. under 29 (v ∷ w ∷ []) (body_at 29) v (first_there v (w ∷ [])) (nthcdr_steps v w)),
                                                            (
                                                              three_formals 30 (body_at 30) (λ v w u. under 30 (v ∷ w ∷ u ∷ []) (body_at 30) v (first_there v (w ∷ u ∷ [])) (update_nth_steps v w u)),
                                                              (
                                                                two_formals 31 (body_at 31) (λ v w h. under 31 (v ∷ w ∷ []) (body_at 31) w (second_there v w) (member_equal_steps v w h)),
                                                                (
                                                                  two_formals 32 (body_at 32) (λ v w h. under 32 (v ∷ w ∷ []) (body_at 32) w (second_there v w) (assoc_equal_steps v w h)),
                                                                  (
                                                                    one_formal 33 (body_at 33) (λ v. under 33 (v ∷ []) (body_at 33) v (first_there v []) (logcount_nat_steps v)),
                                                                    (
                                                                      λ vars l d i q. absurd cc,
                                                                      (
                                                                        λ vars l d i q. absurd cc,
                                                                        (
                                                                          λ vars l d i q. absurd cc,
                                                                          (
                                                                            λ vars l d i q. absurd cc,
                                                                            (
                                                                              λ vars l d i q. absurd cc,
                                                                              (
                                                                                λ vars l d i q. absurd cc,
                                                                                (
                                                                                  two_formals 40 (body_at 40) (λ v w h. under 40 (v ∷ w ∷ []) (body_at 40) w (second_there v w) (hons_assoc_equal_steps v w h)),
                                                                                  (
                                                                                    λ vars l d i q. absurd cc,
                                                                                    (
                                                                                      two_formals 42 (body_at 42) (λ v w h. under 42 (v ∷ w ∷ []) (body_at 42) v (first_there v (w ∷ [])) (fast_alist_fork_steps v w)),
                                                                                      (
                                                                                          tt),
                                                                                    ),
                                                                                  ),
                                                                                ),
                                                                              ),
                                                                            ),
                                                                          ),
                                                                        ),
                                                                      ),
                                                                    ),
                                                                  ),
                                                                ),
                                                              ),
                                                            ),
                                                          ),
                                                        ),
                                                      ),
                                                    ),
                                                  ),
                                                ),
                                              ),
                                            ),
                                          ),
                                        ),
                                      ),
                                    ),
                                  ),
                                ),
                              ),
                            ),
                          ),
                        ),
                      ),
                    ),
                  ),
                ),
              ),
            ),
          ),
        ),
      ),
    ),
  ),
)

admitted_in : (k : ℕ) (gs : List Ground) (i : ℕ) (g : Ground) → AllAdmit k gs → slice_get gs i ≡ Some g → (j : ℕ) → j ≡ k + i → Admits j g
admitted_in k [] i g h a j e = absurd cc
admitted_in k (x ∷ gs) zero g h a j e = let z : x ≡ g = cc in let n : j ≡ k = omega (arith, e) in subst (λ (y : Ground). Admits j y) z (subst (λ (m : ℕ). Admits m x) (sym n) h.0)
admitted_in k (x ∷ gs) (suc i) g h a j e = admitted_in (suc k) gs i g h.1 a j (omega (arith, e))

pub admitted : (k : ℕ) (g : Ground) → slice_get ground k ≡ Some g → Admits k g
admitted k g a = admitted_in 0 ground k g all_admit a k (omega arith)
