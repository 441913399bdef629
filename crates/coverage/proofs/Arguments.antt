-- Arguments and what is under cdr, as the code finds them.
use Rattle.std.proofs.Common.{◌≡◌, ◌∙◌, ap, sym, refl, ℕ, zero, suc, ◌-◌, ◌<◌, Bool, true, false, ◌&&◌, ◌||◌, eqb, cond, List, [], ◌∷◌, length, get_or, Option, Some, None, pos, arith}
use Rattle.gl_logic.specs.Exp.{Exp, Exps, Var, Const, If, Prim, Call, Let, Last, More}
use Rattle.gl_logic.specs.PrimCode.{prim_number}
use Rattle.gl_logic.specs.TermOf.{term_of, terms_of}
use Rattle.gl_logic.specs.declared.term.Term.{Term}
use Rattle.gl_logic.specs.declared.prim.Primitive.TheVariants.{Car, Cdr}
use Rattle.std.specs.Ordering.{int_eq}
use Rattle.coverage.specs.Forms.{is_int, is_literal, one, two, either_order}
use Rattle.coverage.specs.Subjects.{car_of, cdr_of, behind, nth_of}
use Rattle.coverage.specs.Heads.{is_headed, arguments_of, only, both, under, under_more, list_in, list_by_car, list_by_nth, passes}
use Rattle.coverage.specs.declared.forms.Head.{Head}
use Rattle.coverage.specs.declared.forms.Head.TheVariants as head

pub one_alone : (ts : List Term) (a : Term) → length ts ≡ 1 → a ≡ get_or ts 0 a → Some (term_of a) ≡ only (Some (terms_of ts))
one_alone [] a h e = absurd (omega (arith, h))
one_alone (t ∷ []) a h e = λ i. Some (term_of (e i))
one_alone (t ∷ u ∷ ts) a h e = absurd (omega (arith, h))

pub not_alone : (ts : List Term) → (length ts ≡ 1 → ⊥) → None ≡ only (Some (terms_of ts))
not_alone [] h = refl
not_alone (t ∷ []) h = absurd (h refl)
not_alone (t ∷ u ∷ ts) h = refl

pub two_alone : (ts : List Term) (a b : Term) → length ts ≡ 2 → a ≡ get_or ts 0 a → b ≡ get_or ts 1 b → Some (term_of a, term_of b) ≡ both (Some (terms_of ts))
two_alone [] a b h e f = absurd (omega (arith, h))
two_alone (t ∷ []) a b h e f = absurd (omega (arith, h))
two_alone (t ∷ u ∷ []) a b h e f = λ i. Some (term_of (e i), term_of (f i))
two_alone (t ∷ u ∷ v ∷ ts) a b h e f = absurd (omega (arith, h))

pub not_two : (ts : List Term) → (length ts ≡ 2 → ⊥) → None ≡ both (Some (terms_of ts))
not_two [] h = refl
not_two (t ∷ []) h = refl
not_two (t ∷ u ∷ []) h = absurd (h refl)
not_two (t ∷ u ∷ v ∷ ts) h = refl

-- one cdr less
pub under_one : (n : ℕ) (t : Exp) (o : Option Exp) → 0 < n → o ≡ only (arguments_of (head.Primitive Cdr) t) → under n t ≡ under_more (under (n - 1)) o
under_one zero t o h e = absurd (omega (arith, h))
under_one (suc n) t o h e =
    let k : suc n - 1 ≡ n = omega arith in
    λ i. under_more (under (sym k i)) (sym e i)

-- ---- tests of the arguments, as the code makes them
one_passes : (S : Exp → Bool) (ts : Exps) (b : Bool) → (b && one S ts) ≡ passes S (only (cond b (Some ts) None))
one_passes S ts false = refl
one_passes S Last true = refl
one_passes S (More a Last) true = refl
one_passes S (More a (More b ts)) true = refl

pub headed_one : (h : Head) (S : Exp → Bool) (t : Exp) → passes S (only (arguments_of h t)) ≡ is_headed h (one S) t
headed_one (head.Primitive p) S (Prim q ts) = sym (one_passes S ts (eqb (prim_number q) (prim_number p)))
headed_one (head.Primitive p) S (Var v) = refl
headed_one (head.Primitive p) S (Const x) = refl
headed_one (head.Primitive p) S (If a b d) = refl
headed_one (head.Primitive p) S (Call g ts) = refl
headed_one (head.Primitive p) S (Let vs ts b) = refl
headed_one (head.Ground f) S (Call g ts) = sym (one_passes S ts (eqb g f))
headed_one (head.Ground f) S (Var v) = refl
headed_one (head.Ground f) S (Const x) = refl
headed_one (head.Ground f) S (If a b d) = refl
headed_one (head.Ground f) S (Prim q ts) = refl
headed_one (head.Ground f) S (Let vs ts b) = refl

and_either : (b x y : Bool) → ((b && x) || (b && y)) ≡ (b && (x || y))
and_either true x y = refl
and_either false x y = refl

pub headed_either : (h : Head) (F G : Exp → Bool) (t : Exp) → (is_headed h (two F G) t || is_headed h (two G F) t) ≡ is_headed h (either_order F G) t
headed_either (head.Primitive p) F G (Prim q ts) = and_either (eqb (prim_number q) (prim_number p)) (two F G ts) (two G F ts)
headed_either (head.Primitive p) F G (Var v) = refl
headed_either (head.Primitive p) F G (Const x) = refl
headed_either (head.Primitive p) F G (If a b d) = refl
headed_either (head.Primitive p) F G (Call g ts) = refl
headed_either (head.Primitive p) F G (Let vs ts b) = refl
headed_either (head.Ground f) F G (Call g ts) = and_either (eqb g f) (two F G ts) (two G F ts)
headed_either (head.Ground f) F G (Var v) = refl
headed_either (head.Ground f) F G (Const x) = refl
headed_either (head.Ground f) F G (If a b d) = refl
headed_either (head.Ground f) F G (Prim q ts) = refl
headed_either (head.Ground f) F G (Let vs ts b) = refl

-- ---- subjects
more_passes : (S : Exp → Bool) (i : ℕ) (o : Option Exp) → passes (λ t. passes S (under i t)) o ≡ passes S (under_more (under i) o)
more_passes S i (Some t) = refl
more_passes S i None = refl

pub behind_passes : (i : ℕ) (S : Exp → Bool) (t : Exp) → passes S (under i t) ≡ behind i S t
behind_passes zero S t = refl
behind_passes (suc i) S t =
    sym (more_passes S i (only (arguments_of (head.Primitive Cdr) t)))
    ∙ (headed_one (head.Primitive Cdr) (λ u. passes S (under i u)) t
    ∙ ap (λ (R : Exp → Bool). cdr_of R t) (λ k u. behind_passes i S u k))

pub car_passes : (i : ℕ) (S : Exp → Bool) (t : Exp) → passes S (list_by_car i t) ≡ car_of (behind i S) t
car_passes i S t =
    sym (more_passes S i (only (arguments_of (head.Primitive Car) t)))
    ∙ (headed_one (head.Primitive Car) (λ u. passes S (under i u)) t
    ∙ ap (λ (R : Exp → Bool). car_of R t) (λ k u. behind_passes i S u k))

nth_picked : (S : Exp → Bool) (t : Exp) (b : Bool) → passes S (cond b (Some t) None) ≡ (b && S t)
nth_picked S t true = refl
nth_picked S t false = refl

nth_inside : (i : ℕ) (S : Exp → Bool) (ts : Exps) (b : Bool) → passes S (list_in i (both (cond b (Some ts) None))) ≡ (b && two (is_literal (is_int (int_eq (pos i)))) S ts)
nth_inside i S ts false = refl
nth_inside i S Last true = refl
nth_inside i S (More a Last) true = refl
nth_inside i S (More a (More b Last)) true = nth_picked S b (is_literal (is_int (int_eq (pos i))) a)
nth_inside i S (More a (More b (More d ts))) true = refl

pub nth_passes : (i : ℕ) (S : Exp → Bool) (t : Exp) → passes S (list_by_nth i t) ≡ nth_of i S t
nth_passes i S (Call g ts) = nth_inside i S ts (eqb g 28)
nth_passes i S (Var v) = refl
nth_passes i S (Const x) = refl
nth_passes i S (If a b d) = refl
nth_passes i S (Prim q ts) = refl
nth_passes i S (Let vs ts b) = refl
