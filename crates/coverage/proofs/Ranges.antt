-- Which values the terms of a set have, and what a call on them has.
use Rattle.std.proofs.Common.{◌≡◌, ◌∙◌, ap, sym, refl, subst, ℕ, zero, suc, ◌<◌, Bool, true, eqb, length, List, [], ◌∷◌, ℤ, pos, inl, inr}
use Rattle.std.specs.Ordering.{int_eq}
use Rattle.std.proofs.lemmas.Bool.{eqb-true}
use Rattle.std.proofs.lemmas.Option.{slice_get_within}
use Rattle.std.proofs.lemmas.Bool.Decides.{Decides-int_eq}
use Rattle.gl_logic.specs.Object.{Object, Int, Character, Symbol, Text, Cons, nil, car, cdr}
use Rattle.gl_logic.specs.PrimCode.{prim_number, prim_at, prim-at-number}
use Rattle.gl_logic.specs.PrimValue.{prim_of}
use Rattle.gl_logic.specs.Definition.{Definition}
use Rattle.gl_logic.specs.Environment.{look}
use Rattle.gl_logic.specs.Exp.{Exp, Exps, Var, Const, If, Prim, Call, Let, Last, More}
use Rattle.gl_logic.specs.Ground.{ground}
use Rattle.gl_logic.specs.IsGround.{AreGround}
use Rattle.gl_logic.specs.Walk.{Walk, opened}
use Rattle.gl_logic.specs.declared.prim.Primitive.{Primitive}
use Rattle.gl_logic.specs.declared.prim.Primitive.TheVariants as prim
use Rattle.gl_logic.proofs.GroundCalls.{opens_as_ground}
use Rattle.gl_logic.proofs.Optional.{some_same}
use Rattle.coverage.specs.Forms.{is_int, is_literal, one, two, is_prim, is_call}
use Rattle.coverage.specs.Subjects.{is_variable, car_of, cdr_of, behind, len_of, nth_of, element_of}
use Rattle.coverage.proofs.Logic.{never, and_first, and_second, or_either}
use Rattle.coverage.proofs.Values.{Gives, To, const_to, prim_one_to, prim_two_to, call_one_to, call_two_to, is_there}
use Rattle.coverage.proofs.Grounds.{GivesAt, len_in, nth_in, len_gives, nth_gives}

-- ---- terms of a form
pub is_that_prim : (p q : Primitive) → eqb (prim_number q) (prim_number p) ≡ true → q ≡ p
is_that_prim p q h = sym (prim-at-number q) ∙ (ap prim_at (eqb-true (prim_number q) (prim_number p) h) ∙ prim-at-number p)

pub prim_form : (p : Primitive) (test : Exps → Bool) (t : Exp) → is_prim p test t ≡ true → (ts : Exps) × ((t ≡ Prim p ts) × (test ts ≡ true))
prim_form p test (Prim q ts) h =
    (ts, (ap (λ r. Prim r ts) (is_that_prim p q (and_first (eqb (prim_number q) (prim_number p)) (test ts) h)), and_second (eqb (prim_number q) (prim_number p)) (test ts) h))
prim_form p test (Var v) h = never h
prim_form p test (Const x) h = never h
prim_form p test (If a b d) h = never h
prim_form p test (Call f ts) h = never h
prim_form p test (Let vs ts b) h = never h

pub call_form : (f : ℕ) (test : Exps → Bool) (t : Exp) → is_call f test t ≡ true → (ts : Exps) × ((t ≡ Call f ts) × (test ts ≡ true))
call_form f test (Call g ts) h = (ts, (ap (λ k. Call k ts) (eqb-true g f (and_first (eqb g f) (test ts) h)), and_second (eqb g f) (test ts) h))
call_form f test (Var v) h = never h
call_form f test (Const x) h = never h
call_form f test (If a b d) h = never h
call_form f test (Prim q ts) h = never h
call_form f test (Let vs ts b) h = never h

pub one_form : (first : Exp → Bool) (ts : Exps) → one first ts ≡ true → (a : Exp) × ((ts ≡ More a Last) × (first a ≡ true))
one_form first Last h = never h
one_form first (More a Last) h = (a, (refl, h))
one_form first (More a (More b ts)) h = never h

pub two_form : (first second : Exp → Bool) (ts : Exps) → two first second ts ≡ true → (a : Exp) × ((b : Exp) × ((ts ≡ More a (More b Last)) × (first a ≡ true) × (second b ≡ true)))
two_form first second Last h = never h
two_form first second (More a Last) h = never h
two_form first second (More a (More b Last)) h = (a, (b, (refl, and_first (first a) (second b) h, and_second (first a) (second b) h)))
two_form first second (More a (More b (More d ts))) h = never h

pub literal_form : (test : Object → Bool) (t : Exp) → is_literal test t ≡ true → (x : Object) × ((t ≡ Const x) × (test x ≡ true))
literal_form test (Const x) h = (x, (refl, h))
literal_form test (Var v) h = never h
literal_form test (If a b d) h = never h
literal_form test (Prim p ts) h = never h
literal_form test (Call f ts) h = never h
literal_form test (Let vs ts b) h = never h

pub int_form : (test : ℤ → Bool) (x : Object) → is_int test x ≡ true → (z : ℤ) × ((x ≡ Int z) × (test z ≡ true))
int_form test (Int z) h = (z, (refl, h))
int_form test (Character k) h = never h
int_form test (Symbol k) h = never h
int_form test (Text k) h = never h
int_form test (Cons a d) h = never h

pub variable_form : (v : ℕ) (t : Exp) → is_variable v t ≡ true → t ≡ Var v
variable_form v (Var u) h = ap Var (eqb-true u v h)
variable_form v (Const x) h = never h
variable_form v (If a b d) h = never h
variable_form v (Prim p ts) h = never h
variable_form v (Call f ts) h = never h
variable_form v (Let vs ts b) h = never h

-- ---- parts of an object
abbrev pub cdrs : ℕ → Object → Object
cdrs zero x = x
cdrs (suc i) x = cdr (cdrs i x)

cdrs_more : (i : ℕ) (x : Object) → cdrs (suc i) x ≡ cdrs i (cdr x)
cdrs_more zero x = refl
cdrs_more (suc i) x = ap cdr (cdrs_more i x)

car_nil : (i : ℕ) → car (cdrs i nil) ≡ nil
car_nil zero = refl
car_nil (suc i) = ap car (cdrs_more i nil) ∙ car_nil i

pub nth_cdrs : (x : Object) (i : ℕ) → car (cdrs i x) ≡ nth_in x i
nth_cdrs (Cons a d) zero = refl
nth_cdrs (Cons a d) (suc i) = ap car (cdrs_more i (Cons a d)) ∙ nth_cdrs d i
nth_cdrs (Int k) zero = refl
nth_cdrs (Int k) (suc i) = ap car (cdrs_more i (Int k)) ∙ car_nil i
nth_cdrs (Character k) zero = refl
nth_cdrs (Character k) (suc i) = ap car (cdrs_more i (Character k)) ∙ car_nil i
nth_cdrs (Symbol k) zero = refl
nth_cdrs (Symbol k) (suc i) = ap car (cdrs_more i (Symbol k)) ∙ car_nil i
nth_cdrs (Text k) zero = refl
nth_cdrs (Text k) (suc i) = ap car (cdrs_more i (Text k)) ∙ car_nil i

module _ (ds : List Definition) (known : AreGround ds) (n : ℕ) (env : List (ℕ × Object)) where
  abbrev pub Has : Exp → Object → Type 0
  Has t x = To (opened ds n) env t x

  -- each term of the set that has a value has one of these
  abbrev pub Ranges : (Exp → Bool) → (Object → Type 0) → Type 0
  Ranges subject P = (t : Exp) (y : Object) → subject t ≡ true → Has t y → P y

  -- each has this one
  abbrev pub Denotes : (Exp → Bool) → Object → Type 0
  Denotes subject x = Ranges subject (λ y. y ≡ x)

  pub grounded : (f : ℕ) (xs : List Object) (z : Object) → f < length ground → Gives (opened ds n) f xs z → GivesAt n f xs z
  grounded f xs z h k =
      let d = is_there ds n f xs z k in
      record { walks = k.walks; run = k.run; values = k.values; gives = sym (opens_as_ground ds known n f k.walks (slice_get_within ds f d.0 d.1) h) ∙ k.gives; value = k.value }

  pub literal_ranges : (test : Object → Bool) → Ranges (is_literal test) (λ y. test y ≡ true)
  literal_ranges test t y h k =
      let l = literal_form test t h in
      ap test (const_to (opened ds n) env l.0 y (subst (λ u. Has u y) l.1.0 k)) ∙ l.1.1

  pub variable_denotes : (v : ℕ) → Denotes (is_variable v) (look env v)
  variable_denotes v t y h k =
      let m = subst (λ u. Has u y) (variable_form v t h) k in
      sym m.2 ∙ ap (λ (w : Walk). w.value) (sym (some_same _ _ m.1))

  -- ---- calls
  module _ (S : Exp → Bool) (P : Object → Type 0) (ranges : Ranges S P) where
    pub one_prim : (p : Primitive) (t : Exp) (z : Object) → is_prim p (one S) t ≡ true → Has t z → (y : Object) × (P y × (z ≡ prim_of p y nil))
    one_prim p t z h k =
        let f = prim_form p (one S) t h in
        let a = one_form S f.0 f.1.1 in
        let m = subst (λ u. Has u z) (f.1.0 ∙ ap (Prim p) a.1.0) k in
        let v = prim_one_to (opened ds n) env p a.0 z m in
        (v.0, (ranges a.0 v.0 a.1.1 v.1.0, v.1.1))

    pub one_call : (f : ℕ) (t : Exp) (z : Object) → f < length ground → is_call f (one S) t ≡ true → Has t z → (y : Object) × (P y × GivesAt n f (y ∷ []) z)
    one_call f t z l h k =
        let g = call_form f (one S) t h in
        let a = one_form S g.0 g.1.1 in
        let m = subst (λ u. Has u z) (g.1.0 ∙ ap (Call f) a.1.0) k in
        let v = call_one_to (opened ds n) env f a.0 z m in
        (v.0, (ranges a.0 v.0 a.1.1 v.1.0, grounded f (v.0 ∷ []) z l v.1.1))

    module _ (T : Exp → Bool) (Q : Object → Type 0) (other : Ranges T Q) where
      pub two_prim : (p : Primitive) (t : Exp) (z : Object) → is_prim p (two S T) t ≡ true → Has t z → (y : Object) × ((w : Object) × (P y × Q w × (z ≡ prim_of p y w)))
      two_prim p t z h k =
          let f = prim_form p (two S T) t h in
          let a = two_form S T f.0 f.1.1 in
          let m = subst (λ u. Has u z) (f.1.0 ∙ ap (Prim p) a.1.1.0) k in
          let v = prim_two_to (opened ds n) env p a.0 a.1.0 z m in
          (v.0, (v.1.0, (ranges a.0 v.0 a.1.1.1 v.1.1.0, other a.1.0 v.1.0 a.1.1.2 v.1.1.1, v.1.1.2)))

      pub two_call : (f : ℕ) (t : Exp) (z : Object) → f < length ground → is_call f (two S T) t ≡ true → Has t z → (y : Object) × ((w : Object) × (P y × Q w × GivesAt n f (y ∷ w ∷ []) z))
      two_call f t z l h k =
          let g = call_form f (two S T) t h in
          let a = two_form S T g.0 g.1.1 in
          let m = subst (λ u. Has u z) (g.1.0 ∙ ap (Call f) a.1.1.0) k in
          let v = call_two_to (opened ds n) env f a.0 a.1.0 z m in
          (v.0, (v.1.0, (ranges a.0 v.0 a.1.1.1 v.1.1.0, other a.1.0 v.1.0 a.1.1.2 v.1.1.1, grounded f (v.0 ∷ v.1.0 ∷ []) z l v.1.1.2)))

  -- ---- subjects
  module _ (S : Exp → Bool) (x : Object) (denotes : Denotes S x) where
    pub car_denotes : Denotes (car_of S) (car x)
    car_denotes t y h k = let v = one_prim S (λ y. y ≡ x) denotes prim.Car t y h k in v.1.1 ∙ ap car v.1.0

    pub cdr_denotes : Denotes (cdr_of S) (cdr x)
    cdr_denotes t y h k = let v = one_prim S (λ y. y ≡ x) denotes prim.Cdr t y h k in v.1.1 ∙ ap cdr v.1.0

    pub len_denotes : 25 < length ground → Denotes (len_of S) (Int (pos (len_in x)))
    len_denotes l t y h k =
        let v = one_call S (λ y. y ≡ x) denotes 25 t y l h k in
        len_gives n x y (subst (λ u. GivesAt n 25 (u ∷ []) y) v.1.0 v.1.1)

    pub nth_denotes : 28 < length ground → (i : ℕ) → Denotes (nth_of i S) (nth_in x i)
    nth_denotes l i t y h k =
        let v = two_call (is_literal (is_int (int_eq (pos i)))) (λ y. is_int (int_eq (pos i)) y ≡ true) (literal_ranges (is_int (int_eq (pos i)))) S (λ y. y ≡ x) denotes 28 t y l h k in
        let z = int_form (int_eq (pos i)) v.0 v.1.1.0 in
        let e : v.0 ≡ Int (pos i) = z.1.0 ∙ ap Int (sym ((Decides-int_eq (pos i) z.0).0 z.1.1)) in
        nth_gives n i x y (subst (λ u. GivesAt n 28 (Int (pos i) ∷ u ∷ []) y) v.1.1.1 (subst (λ u. GivesAt n 28 (u ∷ v.1.0 ∷ []) y) e v.1.1.2))

  pub behind_denotes : (S : Exp → Bool) (x : Object) → Denotes S x → (i : ℕ) → Denotes (behind i S) (cdrs i x)
  behind_denotes S x d zero = d
  behind_denotes S x d (suc i) = cdr_denotes (behind i S) (cdrs i x) (behind_denotes S x d i)

  pub element_denotes : (S : Exp → Bool) (x : Object) → Denotes S x → 28 < length ground → (i : ℕ) → Denotes (element_of i S) (nth_in x i)
  element_denotes S x d l i t y h k = elim (or_either (car_of (behind i S) t) (nth_of i S t) h) [
    | inl a ↦ car_denotes (behind i S) (cdrs i x) (behind_denotes S x d i) t y a k ∙ nth_cdrs x i
    | inr b ↦ nth_denotes S x d l i t y b k
  ]
