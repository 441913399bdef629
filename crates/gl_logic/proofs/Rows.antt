-- The rows of the table: the new actual is smaller.
use Rattle.std.proofs.Common.{◌≡◌, inl, inr, ◌∙◌, ap, sym, refl, ℕ, zero, suc, ◌+◌, ◌≤◌, ◌<◌, ◌^◌, ◌/◌, ℤ, pos, negsuc, ◌+ℤ◌, ◌-ℤ◌, ◌≤ℤ◌, List, [], ◌∷◌, Bool, true, false, not, ◌&&◌, ◌||◌, cond, eqb, leb, subst, arith}
use Rattle.std.specs.Prelude.{neg_ℤ}
use Rattle.std.proofs.lemmas.Bool.{and_parts, or_cases, true≢false, eqb-true, leb-true}
use Rattle.std.proofs.lemmas.Int.{ints}
use Rattle.std.proofs.Math.Nat.{div-lt_self}
use Rattle.gl_logic.specs.Object.{Object, Int, Character, Symbol, Text, Cons, car, cdr}
use Rattle.gl_logic.specs.PrimValue.{is_cons, integer_in, natural_in, prim_value}
use Rattle.gl_logic.specs.PrimCode.{prim_number, prim_at, prim-at-number}
use Rattle.gl_logic.specs.Environment.{look}
use Rattle.gl_logic.specs.Exp.{Exp, Exps, Var, Const, If, Prim, Call, Let, Last, More}
use Rattle.gl_logic.specs.declared.prim.Primitive.{Primitive}
use Rattle.gl_logic.specs.declared.prim.Primitive.TheVariants as prim
use Rattle.gl_logic.specs.Measures.{acl2_count, list_count}
use Rattle.gl_logic.specs.Steps.{is_prim, is_part, is_part_first, is_variable, minus_first, minus_literal, less_args, less_by, plus_literal, more_args, more_by, is_divisor, is_divided}
use Rattle.gl_logic.proofs.SimpleTerms.{is_simple, are_simple, simple_value}

is_prim_is : (q p : Primitive) → is_prim q p ≡ true → p ≡ q
is_prim_is q p h = sym (prim-at-number p) ∙ (ap prim_at (eqb-true (prim_number p) (prim_number q) h) ∙ prim-at-number q)

pub is_variable_is : (v : ℕ) (t : Exp) → is_variable v t ≡ true → t ≡ Var v
is_variable_is v (Var u) h = ap Var (eqb-true u v h)
is_variable_is v (Const x) h = absurd cc
is_variable_is v (If t a b) h = absurd cc
is_variable_is v (Prim p ts) h = absurd cc
is_variable_is v (Call f ts) h = absurd cc
is_variable_is v (Let vs ts b) h = absurd cc

-- ---- parts, under a count that CDR, and CAR where it may stand, make smaller
abbrev pub Smaller : (Object → ℕ) → Object → Object → Type 0
Smaller count x y = (count x ≤ count y) × (is_cons y ≡ true → count x < count y)

count_car : (text_length : ℕ → ℕ) (y : Object) → Smaller (acl2_count text_length) (car y) y
count_car text_length (Cons a d) = (omega arith, λ h. omega arith)
count_car text_length (Int i) = (omega arith, λ h. absurd cc)
count_car text_length (Character i) = (omega arith, λ h. absurd cc)
count_car text_length (Symbol i) = (omega arith, λ h. absurd cc)
count_car text_length (Text i) = (omega arith, λ h. absurd cc)

count_cdr : (text_length : ℕ → ℕ) (y : Object) → Smaller (acl2_count text_length) (cdr y) y
count_cdr text_length (Cons a d) = (omega arith, λ h. omega arith)
count_cdr text_length (Int i) = (omega arith, λ h. absurd cc)
count_cdr text_length (Character i) = (omega arith, λ h. absurd cc)
count_cdr text_length (Symbol i) = (omega arith, λ h. absurd cc)
count_cdr text_length (Text i) = (omega arith, λ h. absurd cc)

list_cdr : (y : Object) → Smaller list_count (cdr y) y
list_cdr (Cons a d) = (omega arith, λ h. omega arith)
list_cdr (Int i) = (omega arith, λ h. absurd cc)
list_cdr (Character i) = (omega arith, λ h. absurd cc)
list_cdr (Symbol i) = (omega arith, λ h. absurd cc)
list_cdr (Text i) = (omega arith, λ h. absurd cc)

abbrev pub PartsFall : Bool → (Object → ℕ) → Type 0
PartsFall cars count = (p : Primitive) → (is_prim prim.Cdr p || (cars && is_prim prim.Car p)) ≡ true → (y : Object) → Smaller count (prim_value p (y ∷ [])) y

pub count_parts : (text_length : ℕ → ℕ) → PartsFall true (acl2_count text_length)
count_parts text_length p h y = elim (or_cases (is_prim prim.Cdr p) (is_prim prim.Car p) h) [
  | inl a ↦ subst (λ (q : Primitive). Smaller (acl2_count text_length) (prim_value q (y ∷ [])) y) (sym (is_prim_is prim.Cdr p a)) (count_cdr text_length y)
  | inr b ↦ subst (λ (q : Primitive). Smaller (acl2_count text_length) (prim_value q (y ∷ [])) y) (sym (is_prim_is prim.Car p b)) (count_car text_length y)
]

pub list_parts : PartsFall false list_count
list_parts p h y = elim (or_cases (is_prim prim.Cdr p) false h) [
  | inl a ↦ subst (λ (q : Primitive). Smaller list_count (prim_value q (y ∷ [])) y) (sym (is_prim_is prim.Cdr p a)) (list_cdr y)
  | inr b ↦ absurd cc
]

module _ (cars : Bool) (count : Object → ℕ) (fall : PartsFall cars count) (env : List (ℕ × Object)) (v : ℕ) (shown : is_cons (look env v) ≡ true) where
  part_at : (b : Bool) (p : Primitive) (t : Exp) → is_variable v t ≡ b → (is_prim prim.Cdr p || (cars && is_prim prim.Car p)) ≡ true → count (simple_value t env) + cond b 0 1 ≤ count (look env v)
      → count (prim_value p (simple_value t env ∷ [])) + 1 ≤ count (look env v)
  part_at true p t e h l =
      let q : simple_value t env ≡ look env v = ap (λ (z : Exp). simple_value z env) (is_variable_is v t e) in
      let f = (fall p h (look env v)).1 shown in
      subst (λ (z : Object). count (prim_value p (z ∷ [])) + 1 ≤ count (look env v)) (sym q) (omega (arith, f))
  part_at false p t e h l = let f = (fall p h (simple_value t env)).0 in omega (arith, f, l)

  part_variable : (u : ℕ) → eqb u v ≡ true → count (look env u) + cond (eqb u v) 0 1 ≤ count (look env v)
  part_variable u h =
      let q : count (look env u) ≡ count (look env v) = ap (λ (w : ℕ). count (look env w)) (eqb-true u v h) in
      let z : ◌≡◌ {A = ℕ} (cond (eqb u v) 0 1) 0 = ap (λ (b : Bool). cond {A = ℕ} b 0 1) h in
      omega (arith, q, z)

  pub part_falls : (t : Exp) → is_part cars v t ≡ true → (is_simple t ≡ true) × (count (simple_value t env) + cond (is_variable v t) 0 1 ≤ count (look env v))
  part_falls (Var u) h = (refl, part_variable u h)
  part_falls (Prim p (More t Last)) h =
      let k = and_parts (is_prim prim.Cdr p || (cars && is_prim prim.Car p)) (is_part cars v t) h in
      let m = part_falls t k.1 in
      (ap (λ (b : Bool). b && true) m.0, part_at (is_variable v t) p t refl k.0 m.1)
  part_falls (Prim p ts) h = absurd (true≢false (sym (and_parts (is_prim prim.Cdr p || (cars && is_prim prim.Car p)) (is_part_first cars v ts) h).1))
  part_falls _ h = absurd cc

  proper_at : {m n : ℕ} (b : Bool) → not b ≡ true → m + cond b 0 1 ≤ n → m < n
  proper_at true h l = absurd cc
  proper_at false h l = omega (arith, l)

  pub proper_falls : (t : Exp) → (not (is_variable v t) && is_part cars v t) ≡ true → (is_simple t ≡ true) × (count (simple_value t env) < count (look env v))
  proper_falls t h =
      let k = and_parts (not (is_variable v t)) (is_part cars v t) h in
      let m = part_falls t k.1 in
      (m.0, proper_at (is_variable v t) k.0 m.1)

-- ---- v - k
module _ (env : List (ℕ × Object)) where
  abbrev pub IsMinus : ℕ → Exp → Type 0
  IsMinus k t = (is_simple t ≡ true) × (integer_in (simple_value t env) ≡ negsuc k)

  minus_prim : (b : Bool) (p : Primitive) (ts : Exps) (k : ℕ) → is_prim prim.UnaryMinus p ≡ b → cond b (minus_first ts) 0 ≡ suc k → IsMinus k (Prim p ts)
  minus_prim true p (More (Const (Int (pos j))) Last) k e h =
      (refl, ap (λ (q : Primitive). integer_in (prim_value q (Int (pos j) ∷ []))) (is_prim_is prim.UnaryMinus p e) ∙ ap (λ (i : ℕ). neg_ℤ (pos i)) h)
  minus_prim true p _ k e h = absurd cc
  minus_prim false p ts k e h = absurd cc

  minus_is : (t : Exp) (k : ℕ) → minus_literal t ≡ suc k → IsMinus k t
  minus_is (Const (Int (negsuc j))) k h = let q : j ≡ k = omega (arith, h) in (refl, ap negsuc q)
  minus_is (Prim p ts) k h = minus_prim (is_prim prim.UnaryMinus p) p ts k refl h
  minus_is _ k h = absurd cc

  -- the term is v - (k + 1)
  abbrev pub IsLess : ℕ → ℕ → Exp → Type 0
  IsLess v k t = (is_simple t ≡ true) × (simple_value t env ≡ Int (integer_in (look env v) +ℤ negsuc k))

  commuted : (i j : ℤ) → i +ℤ j ≡ j +ℤ i
  commuted i j = omega (arith, ints)

  both_simple : (x y : Exp) → is_simple x ≡ true → is_simple y ≡ true → are_simple (More x (More y Last)) ≡ true
  both_simple x y h g = λ i. h i && (g i && true)

  less_at : (b c : Bool) (v k : ℕ) (x y : Exp) → is_variable v x ≡ b → is_variable v y ≡ c → cond b (minus_literal y) (cond c (minus_literal x) 0) ≡ suc k → IsLess v k (Prim prim.BinaryPlus (More x (More y Last)))
  less_at true c v k x y e g h =
      let q = is_variable_is v x e in
      let m = minus_is y k h in
      (both_simple x y (ap is_simple q) m.0, λ i. Int (integer_in (simple_value (q i) env) +ℤ m.1 i))
  less_at false true v k x y e g h =
      let q = is_variable_is v y g in
      let m = minus_is x k h in
      (both_simple x y m.0 (ap is_simple q), (λ i. Int (m.1 i +ℤ integer_in (simple_value (q i) env))) ∙ ap Int (commuted (negsuc k) (integer_in (look env v))))
  less_at false false v k x y e g h = absurd cc

  less_prim : (b : Bool) (v k : ℕ) (p : Primitive) (ts : Exps) → is_prim prim.BinaryPlus p ≡ b → cond b (less_args v ts) 0 ≡ suc k → IsLess v k (Prim p ts)
  less_prim true v k p (More x (More y Last)) e h = subst (λ (q : Primitive). IsLess v k (Prim q (More x (More y Last)))) (sym (is_prim_is prim.BinaryPlus p e)) (less_at (is_variable v x) (is_variable v y) v k x y refl refl h)
  less_prim true v k p _ e h = absurd cc
  less_prim false v k p ts e h = absurd cc

  pub less_is : (t : Exp) (v k : ℕ) → less_by v t ≡ suc k → IsLess v k t
  less_is (Prim p ts) v k h = less_prim (is_prim prim.BinaryPlus p) v k p ts refl h
  less_is _ v k h = absurd cc

-- ---- v + k
module _ (env : List (ℕ × Object)) where
  plus_is : (t : Exp) (k : ℕ) → plus_literal t ≡ suc k → (is_simple t ≡ true) × (integer_in (simple_value t env) ≡ pos (suc k))
  plus_is (Const (Int (pos j))) k h = (refl, ap pos h)
  plus_is _ k h = absurd cc

  -- the term is v + (k + 1)
  abbrev pub IsMore : ℕ → ℕ → Exp → Type 0
  IsMore v k t = (is_simple t ≡ true) × (simple_value t env ≡ Int (integer_in (look env v) +ℤ pos (suc k)))

  more_at : (b c : Bool) (v k : ℕ) (x y : Exp) → is_variable v x ≡ b → is_variable v y ≡ c → cond b (plus_literal y) (cond c (plus_literal x) 0) ≡ suc k → IsMore v k (Prim prim.BinaryPlus (More x (More y Last)))
  more_at true c v k x y e g h =
      let q = is_variable_is v x e in
      let m = plus_is y k h in
      (both_simple env x y (ap is_simple q) m.0, λ i. Int (integer_in (simple_value (q i) env) +ℤ m.1 i))
  more_at false true v k x y e g h =
      let q = is_variable_is v y g in
      let m = plus_is x k h in
      (both_simple env x y m.0 (ap is_simple q), (λ i. Int (m.1 i +ℤ integer_in (simple_value (q i) env))) ∙ ap Int (commuted env (pos (suc k)) (integer_in (look env v))))
  more_at false false v k x y e g h = absurd cc

  more_prim : (b : Bool) (v k : ℕ) (p : Primitive) (ts : Exps) → is_prim prim.BinaryPlus p ≡ b → cond b (more_args v ts) 0 ≡ suc k → IsMore v k (Prim p ts)
  more_prim true v k p (More x (More y Last)) e h = subst (λ (q : Primitive). IsMore v k (Prim q (More x (More y Last)))) (sym (is_prim_is prim.BinaryPlus p e)) (more_at (is_variable v x) (is_variable v y) v k x y refl refl h)
  more_prim true v k p _ e h = absurd cc
  more_prim false v k p ts e h = absurd cc

  pub more_is : (t : Exp) (v k : ℕ) → more_by v t ≡ suc k → IsMore v k t
  more_is (Prim p ts) v k h = more_prim (is_prim prim.BinaryPlus p) v k p ts refl h
  more_is _ v k h = absurd cc

-- ---- v halved at least
above_zero : (k : ℕ) → 0 < 2 ^ k
above_zero zero = omega arith
above_zero (suc k) = let h = above_zero k in omega (arith, h)

above_one : (k : ℕ) → 1 < 2 ^ suc k
above_one k = let h = above_zero k in omega (arith, h)

module _ (env : List (ℕ × Object)) (v n : ℕ) (there : look env v ≡ Int (pos (suc n))) where
  abbrev pub IsDivided : Exp → Type 0
  IsDivided t = (is_simple t ≡ true) × ((m : ℕ) × ((simple_value t env ≡ Int (pos m)) × (m < suc n)))

  divided_floor : (p : Primitive) (x : Exp) (k : ℕ) → x ≡ Var v → p ≡ prim.Floor → 2 ≤ k → IsDivided (Prim p (More x (More (Const (Int (pos k))) Last)))
  divided_floor p x zero e g h = absurd (omega (arith, h))
  divided_floor p x (suc k) e g h =
      let q : simple_value x env ≡ Int (pos (suc n)) = ap (λ (z : Exp). simple_value z env) e ∙ there in
      (ap (λ (z : Exp). is_simple z && true) e, (suc n / suc k, ((λ i. prim_value (g i) (q i ∷ (Int (pos (suc k)) ∷ []))), div-lt_self (omega arith) (omega (arith, h)))))

  divided_ash : (p : Primitive) (x : Exp) (k : ℕ) → x ≡ Var v → p ≡ prim.Ash → IsDivided (Prim p (More x (More (Const (Int (negsuc k))) Last)))
  divided_ash p x k e g =
      let q : simple_value x env ≡ Int (pos (suc n)) = ap (λ (z : Exp). simple_value z env) e ∙ there in
      (ap (λ (z : Exp). is_simple z && true) e, (suc n / 2 ^ suc k, ((λ i. prim_value (g i) (q i ∷ (Int (negsuc k) ∷ []))), div-lt_self (omega arith) (above_one k))))

  divided_by : (p : Primitive) (x y : Exp) → x ≡ Var v → is_divisor p y ≡ true → IsDivided (Prim p (More x (More y Last)))
  divided_by p x (Const (Int (pos k))) e h = let a = and_parts (is_prim prim.Floor p) (leb 2 k) h in divided_floor p x k e (is_prim_is prim.Floor p a.0) (leb-true 2 k a.1)
  divided_by p x (Const (Int (negsuc k))) e h = divided_ash p x k e (is_prim_is prim.Ash p h)
  divided_by p x _ e h = absurd cc

  pub divided_is : (t : Exp) → is_divided v t ≡ true → IsDivided t
  divided_is (Prim p (More x (More y Last))) h = let a = and_parts (is_variable v x) (is_divisor p y) h in divided_by p x y (is_variable_is v x a.0) a.1
  divided_is _ h = absurd cc

-- ---- what a positive integer less something counts
pub count_less : (text_length : ℕ → ℕ) (n : ℕ) → acl2_count text_length (Int (pos (suc n) +ℤ negsuc 0)) < acl2_count text_length (Int (pos (suc n)))
count_less text_length n = let z : pos (suc n) +ℤ negsuc 0 ≡ pos n = omega (arith, ints) in rw z (omega arith)

nat_at : (z : ℤ) (n : ℕ) → z ≤ℤ pos n → natural_in (Int z) < suc n
nat_at (pos m) n h = omega (arith, ints, h)
nat_at (negsuc m) n h = omega arith

pub nat_less : (n k : ℕ) → natural_in (Int (pos (suc n) +ℤ negsuc k)) < natural_in (Int (pos (suc n)))
nat_less n k = nat_at (pos (suc n) +ℤ negsuc k) n (omega (arith, ints))

-- ---- what a gap counts, from below
pub gap_less : (a b : ℤ) (n k : ℕ) → Int (b +ℤ neg_ℤ a) ≡ Int (pos (suc n)) → natural_in (Int (b -ℤ (a +ℤ pos (suc k)))) < natural_in (Int (b -ℤ a))
gap_less a b n k h =
    let q : b +ℤ neg_ℤ a ≡ pos (suc n) = ap integer_in h in
    let z : b -ℤ a ≡ pos (suc n) = omega (arith, ints, q) in
    rw z (nat_at (b -ℤ (a +ℤ pos (suc k))) n (omega (arith, ints, z)))
