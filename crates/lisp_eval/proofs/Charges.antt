-- What the calls that are not kept yet may still cost.
use Rattle.std.proofs.Common.{◌≡◌, ◌∙◌, ap, sym, refl, ℕ, ◌+◌, ◌≤◌, List, [], ◌∷◌, Bool, true, false, cond, ◌||◌, arith, subst}
use Rattle.std.specs.Prelude.{sum_by}
use Rattle.std.specs.List.{filter}
use Rattle.std.proofs.lemmas.Bool.{or_left, or_right}
use Rattle.std.proofs.lemmas.List.Sums.{sum_by-cons}
use Rattle.gl_logic.specs.Walk.{CallMade}
use Rattle.gl_logic.specs.Counts.{call_eq, is_among}
use Rattle.gl_logic.specs.Different.{different}
use Rattle.gl_logic.specs.Every.{Every}
use Rattle.lisp_eval.specs.Threads.{is_kept}
use Rattle.gl_logic.proofs.Calls.{call_equal_from, call_equal_itself}

-- of a list of calls, with what each costs: those that are not kept
abbrev pub charge : (CallMade → ℕ) → List CallMade → List CallMade → ℕ
charge own [] kept = 0
charge own (u ∷ us) kept = cond (is_kept kept u) 0 (own u) + charge own us kept

cond_most : (b : Bool) (n : ℕ) → cond b 0 n ≤ n
cond_most true n = omega arith
cond_most false n = omega arith

pub charge_at_most : (own : CallMade → ℕ) (us kept : List CallMade) → charge own us kept ≤ sum_by own us
charge_at_most own [] kept = omega arith
charge_at_most own (u ∷ us) kept = omega (arith, sum_by-cons own u us, charge_at_most own us kept, cond_most (is_kept kept u) (own u))

cond_less : (a b : Bool) (n : ℕ) → cond (a || b) 0 n ≤ cond b 0 n
cond_less true b n = omega arith
cond_less false b n = omega arith

pub charge_less : (own : CallMade → ℕ) (us kept : List CallMade) (c : CallMade) → charge own us (c ∷ kept) ≤ charge own us kept
charge_less own [] kept c = omega arith
charge_less own (u ∷ us) kept c = omega (arith, charge_less own us kept c, cond_less (call_eq u c) (is_kept kept u) (own u))

cond_more : (a b : Bool) (n : ℕ) → a ≡ true → b ≡ false → cond (a || b) 0 n + n ≤ cond b 0 n
cond_more true false n h g = omega arith
cond_more true true n h g = absurd cc
cond_more false b n h g = absurd cc

charge_here : (own : CallMade → ℕ) (u : CallMade) (us kept : List CallMade) → is_kept kept u ≡ false → charge own (u ∷ us) (u ∷ kept) + own u ≤ charge own (u ∷ us) kept
charge_here own u us kept h = omega (arith, charge_less own us kept u, cond_more (call_eq u u) (is_kept kept u) (own u) (call_equal_itself u) h)

charge_step : (own : CallMade → ℕ) (b : Bool) (u : CallMade) (us kept : List CallMade) (c : CallMade) → call_eq c u ≡ b → (b || is_kept us c) ≡ true → is_kept kept c ≡ false
    → (is_kept us c ≡ true → charge own us (c ∷ kept) + own c ≤ charge own us kept) → charge own (u ∷ us) (c ∷ kept) + own c ≤ charge own (u ∷ us) kept
charge_step own true u us kept c e h g next =
    let q : u ≡ c = sym (call_equal_from c u e) in
    subst (λ (z : CallMade). charge own (u ∷ us) (z ∷ kept) + own z ≤ charge own (u ∷ us) kept) q (charge_here own u us kept (subst (λ (z : CallMade). is_kept kept z ≡ false) (sym q) g))
charge_step own false u us kept c e h g next = let k = next h in omega (arith, k, cond_less (call_eq u c) (is_kept kept u) (own u))

-- a call of the list that is kept from now on is charged for the last time
pub charge_more : (own : CallMade → ℕ) (us kept : List CallMade) (c : CallMade) → is_kept us c ≡ true → is_kept kept c ≡ false → charge own us (c ∷ kept) + own c ≤ charge own us kept
charge_more own [] kept c h g = absurd cc
charge_more own (u ∷ us) kept c h g = charge_step own (call_eq c u) u us kept c refl h g (λ k. charge_more own us kept c k g)

-- ---- a list's different calls are its calls
added_has : (a b : Bool) (c u : CallMade) (us : List CallMade) → call_eq c u ≡ a → is_kept us u ≡ b → is_kept (cond b us (u ∷ us)) c ≡ (a || is_kept us c)
added_has true true c u us e h = ap (is_kept us) (call_equal_from c u e) ∙ h
added_has false true c u us e h = refl
added_has a false c u us e h = ap (λ (b : Bool). b || is_kept us c) e

pub different_has : (cs : List CallMade) (c : CallMade) → is_kept (different call_eq cs) c ≡ is_kept cs c
different_has [] c = refl
different_has (u ∷ cs) c =
    added_has (call_eq c u) (is_kept (different call_eq cs) u) c u (different call_eq cs) refl refl ∙ ap (λ (b : Bool). call_eq c u || b) (different_has cs c)

picked_has : (functions : List ℕ) (a b : Bool) (c u : CallMade) (us : List CallMade) → call_eq c u ≡ a → is_among functions u.0 ≡ b → is_among functions c.0 ≡ true → (a || is_kept us c) ≡ true
    → (is_kept us c ≡ true → is_kept (filter (λ c. is_among functions c.0) us) c ≡ true) → is_kept (cond b (u ∷ filter (λ c. is_among functions c.0) us) (filter (λ c. is_among functions c.0) us)) c ≡ true
picked_has functions true true c u us e h g k next = or_left (call_eq c u) (is_kept (filter (λ c. is_among functions c.0) us) c) e
picked_has functions false true c u us e h g k next = or_right (call_eq c u) (is_kept (filter (λ c. is_among functions c.0) us) c) (next k)
picked_has functions true false c u us e h g k next = let q : is_among functions c.0 ≡ is_among functions u.0 = ap (λ (z : CallMade). is_among functions z.0) (call_equal_from c u e) in absurd cc
picked_has functions false false c u us e h g k next = next k

pub filter_has : (functions : List ℕ) (cs : List CallMade) (c : CallMade) → is_among functions c.0 ≡ true → is_kept cs c ≡ true → is_kept (filter (λ c. is_among functions c.0) cs) c ≡ true
filter_has functions [] c g h = absurd cc
filter_has functions (u ∷ cs) c g h = picked_has functions (call_eq c u) (is_among functions u.0) c u cs refl refl g h (filter_has functions cs c g)

pub every_own : (cs all : List CallMade) → ((c : CallMade) → is_kept cs c ≡ true → is_kept all c ≡ true) → Every (λ c. is_kept all c ≡ true) cs
every_own [] all h = tt
every_own (c ∷ cs) all h = (h c (or_left (call_eq c c) (is_kept cs c) (call_equal_itself c)), every_own cs all (λ d k. h d (or_right (call_eq d c) (is_kept cs d) k)))
