-- What a call of a ground definition gives, at any depth.
use Rattle.std.proofs.Common.{◌≡◌, ◌∙◌, ap, sym, refl, subst, ℕ, zero, suc, Bool, true, false, ◌||◌, List, [], ◌∷◌, Option, Some, None, slice_get, pos, negsuc, ◌+ℤ◌, neg_ℤ, int_lt, arith, ◌⊎◌, inl, inr}
use Rattle.std.proofs.lemmas.Int.{ints}
use Rattle.gl_logic.specs.Object.{Object, Int, Character, Symbol, Text, Cons, nil, true_object, boolean_object}
use Rattle.gl_logic.specs.ObjectEq.{object_eq, is_nil}
use Rattle.gl_logic.specs.PrimValue.{prim_of, is_cons}
use Rattle.gl_logic.specs.Definition.{Definition}
use Rattle.gl_logic.specs.Environment.{look, extended}
use Rattle.gl_logic.specs.Exp.{Exp, Exps, Var, Const, If, Prim, Call, Last, More}
use Rattle.gl_logic.specs.Ground.{ground, ground_definitions}
use Rattle.gl_logic.specs.Walk.{Walk, Walks, opened}
use Rattle.gl_logic.specs.declared.prim.Primitive.TheVariants as prim
use Rattle.gl_logic.proofs.Equality.{equal_from}
use Rattle.gl_logic.proofs.Optional.{some_same}
use Rattle.coverage.proofs.Logic.{never, or_first, or_second, yes, no}
use Rattle.coverage.proofs.Values.{Gives, To, opens, const_to, prim_two_to, call_one_to, call_two_to, if_to}

-- ---- the definitions
abbrev one : Exp → Exps
one t = More t Last

abbrev two : Exp → Exp → Exps
two t u = More t (More u Last)

abbrev v0 : Exp
v0 = Var 0

abbrev v1 : Exp
v1 = Var 1

abbrev nil_term : Exp
nil_term = Const nil

abbrev defined : List ℕ → Exp → Definition
defined formals body = record { name = 0; formals = formals; body = body; measure = None }

abbrev same_definition : Definition
same_definition = defined (0 ∷ 1 ∷ []) (Prim prim.Equal (two v0 v1))

abbrev atom_definition : Definition
atom_definition = defined (0 ∷ []) (Prim prim.Not (one (Prim prim.Consp (one v0))))

abbrev endp_definition : Definition
endp_definition = defined (0 ∷ []) (Call 0 (one v0))

abbrev zp_definition : Definition
zp_definition = defined (0 ∷ []) (If (Prim prim.Integerp (one v0)) (Prim prim.Not (one (Prim prim.Less (two (Const (Int (pos 0))) v0)))) (Const true_object))

abbrev natp_definition : Definition
natp_definition = defined (0 ∷ []) (If (Prim prim.Integerp (one v0)) (Prim prim.Not (one (Prim prim.Less (two v0 (Const (Int (pos 0))))))) nil_term)

abbrev posp_definition : Definition
posp_definition = defined (0 ∷ []) (If (Prim prim.Integerp (one v0)) (Prim prim.Less (two (Const (Int (pos 0))) v0)) nil_term)

abbrev booleanp_definition : Definition
booleanp_definition = defined (0 ∷ []) (If (Prim prim.Equal (two v0 (Const true_object))) (Const true_object) (Prim prim.Equal (two v0 nil_term)))

abbrev len_again : Exp
len_again = Call 25 (one (Prim prim.Cdr (one v0)))

abbrev len_definition : Definition
len_definition = defined (0 ∷ []) (If (Prim prim.Consp (one v0)) (Prim prim.BinaryPlus (two (Const (Int (pos 1))) len_again)) (Const (Int (pos 0))))

abbrev list_again : Exp
list_again = Call 26 (one (Prim prim.Cdr (one v0)))

abbrev list_definition : Definition
list_definition = defined (0 ∷ []) (If (Prim prim.Consp (one v0)) list_again (Prim prim.Equal (two v0 nil_term)))

abbrev nth_again : Exp
nth_again = Call 28 (two (Prim prim.BinaryPlus (two v0 (Prim prim.UnaryMinus (one (Const (Int (pos 1))))))) (Prim prim.Cdr (one v1)))

abbrev nth_rest : Exp
nth_rest = If (Call 7 (one v0)) (Prim prim.Car (one v1)) nth_again

abbrev nth_definition : Definition
nth_definition = defined (0 ∷ 1 ∷ []) (If (Call 1 (one v1)) nil_term nth_rest)

abbrev member_again : Exp
member_again = Call 31 (two v0 (Prim prim.Cdr (one v1)))

abbrev member_rest : Exp
member_rest = If (Prim prim.Equal (two v0 (Prim prim.Car (one v1)))) v1 member_again

abbrev member_definition : Definition
member_definition = defined (0 ∷ 1 ∷ []) (If (Call 1 (one v1)) nil_term member_rest)

atom_there : slice_get ground_definitions 0 ≡ Some atom_definition
unfolding ground
atom_there = refl

endp_there : slice_get ground_definitions 1 ≡ Some endp_definition
unfolding ground
endp_there = refl

eq_there : slice_get ground_definitions 3 ≡ Some same_definition
unfolding ground
eq_there = refl

eql_there : slice_get ground_definitions 4 ≡ Some same_definition
unfolding ground
eql_there = refl

same_there : slice_get ground_definitions 5 ≡ Some same_definition
unfolding ground
same_there = refl

zp_there : slice_get ground_definitions 7 ≡ Some zp_definition
unfolding ground
zp_there = refl

natp_there : slice_get ground_definitions 9 ≡ Some natp_definition
unfolding ground
natp_there = refl

posp_there : slice_get ground_definitions 10 ≡ Some posp_definition
unfolding ground
posp_there = refl

booleanp_there : slice_get ground_definitions 21 ≡ Some booleanp_definition
unfolding ground
booleanp_there = refl

len_there : slice_get ground_definitions 25 ≡ Some len_definition
unfolding ground
len_there = refl

list_there : slice_get ground_definitions 26 ≡ Some list_definition
unfolding ground
list_there = refl

nth_there : slice_get ground_definitions 28 ≡ Some nth_definition
unfolding ground
nth_there = refl

member_there : slice_get ground_definitions 31 ≡ Some member_definition
unfolding ground
member_there = refl

-- ---- what they give
abbrev pub GivesAt : ℕ → ℕ → List Object → Object → Type 0
GivesAt n f xs x = Gives (opened ground_definitions n) f xs x

computed : (r : Walk) (v x : Object) (s : Walk) → s.value ≡ v → Some s ≡ Some r → r.value ≡ x → x ≡ v
computed r v x s h e k = sym k ∙ (ap (λ (w : Walk). w.value) (sym (some_same _ _ e)) ∙ h)

same_gives : (n f : ℕ) (x y z : Object) → slice_get ground_definitions f ≡ Some same_definition → GivesAt n f (x ∷ y ∷ []) z → z ≡ boolean_object (object_eq x y)
same_gives n f x y z h k =
    let o = opens ground_definitions n f same_definition (x ∷ y ∷ []) z h k in
    computed o.body.0 _ z _ refl o.body.1 o.body.2

pub eq_gives : (n : ℕ) (x y z : Object) → GivesAt n 3 (x ∷ y ∷ []) z → z ≡ boolean_object (object_eq x y)
eq_gives n x y z = same_gives n 3 x y z eq_there

pub eql_gives : (n : ℕ) (x y z : Object) → GivesAt n 4 (x ∷ y ∷ []) z → z ≡ boolean_object (object_eq x y)
eql_gives n x y z = same_gives n 4 x y z eql_there

pub equals_gives : (n : ℕ) (x y z : Object) → GivesAt n 5 (x ∷ y ∷ []) z → z ≡ boolean_object (object_eq x y)
equals_gives n x y z = same_gives n 5 x y z same_there

atom_gives : (n : ℕ) (x z : Object) → GivesAt n 0 (x ∷ []) z → z ≡ boolean_object (is_nil (boolean_object (is_cons x)))
atom_gives n x z k =
    let o = opens ground_definitions n 0 atom_definition (x ∷ []) z atom_there k in
    computed o.body.0 _ z _ refl o.body.1 o.body.2

var_to : (c : ℕ → Walks → Option Walk) (env : List (ℕ × Object)) (v : ℕ) (y : Object) → To c env (Var v) y → y ≡ look env v
var_to c env v y k = computed k.0 (look env v) y _ refl k.1 k.2

endp_gives : (n : ℕ) (x z : Object) → GivesAt n 1 (x ∷ []) z → z ≡ boolean_object (is_nil (boolean_object (is_cons x)))
endp_gives n x z k =
    let o = opens ground_definitions n 1 endp_definition (x ∷ []) z endp_there k in
    let i = call_one_to (opened ground_definitions o.depth) (extended (0 ∷ []) (x ∷ []) []) 0 v0 z o.body in
    let e : i.0 ≡ x = var_to (opened ground_definitions o.depth) (extended (0 ∷ []) (x ∷ []) []) 0 i.0 i.1.0 in
    atom_gives o.depth x z (subst (λ y. GivesAt o.depth 0 (y ∷ []) z) e i.1.1)

zp_gives : (n i : ℕ) (z : Object) → GivesAt n 7 (Int (pos i) ∷ []) z → z ≡ boolean_object (is_nil (prim_of prim.Less (Int (pos 0)) (Int (pos i))))
zp_gives n i z k =
    let o = opens ground_definitions n 7 zp_definition (Int (pos i) ∷ []) z zp_there k in
    computed o.body.0 _ z _ refl o.body.1 o.body.2

-- ---- kinds
pub natp_gives : (n : ℕ) (x z : Object) → GivesAt n 9 (x ∷ []) z → is_nil z ≡ false → (k : ℕ) × (x ≡ Int (pos k))
natp_gives n (Int (pos k)) z g h = (k, refl)
natp_gives n (Int (negsuc k)) z g h = let o = opens ground_definitions n 9 natp_definition (Int (negsuc k) ∷ []) z natp_there g in never (sym h ∙ ap is_nil (computed o.body.0 nil z _ refl o.body.1 o.body.2))
natp_gives n (Character k) z g h = let o = opens ground_definitions n 9 natp_definition (Character k ∷ []) z natp_there g in never (sym h ∙ ap is_nil (computed o.body.0 nil z _ refl o.body.1 o.body.2))
natp_gives n (Symbol k) z g h = let o = opens ground_definitions n 9 natp_definition (Symbol k ∷ []) z natp_there g in never (sym h ∙ ap is_nil (computed o.body.0 nil z _ refl o.body.1 o.body.2))
natp_gives n (Text k) z g h = let o = opens ground_definitions n 9 natp_definition (Text k ∷ []) z natp_there g in never (sym h ∙ ap is_nil (computed o.body.0 nil z _ refl o.body.1 o.body.2))
natp_gives n (Cons a d) z g h = let o = opens ground_definitions n 9 natp_definition (Cons a d ∷ []) z natp_there g in never (sym h ∙ ap is_nil (computed o.body.0 nil z _ refl o.body.1 o.body.2))

pub posp_gives : (n : ℕ) (x z : Object) → GivesAt n 10 (x ∷ []) z → is_nil z ≡ false → (k : ℕ) × (x ≡ Int (pos (suc k)))
posp_gives n (Int (pos zero)) z g h = let o = opens ground_definitions n 10 posp_definition (Int (pos 0) ∷ []) z posp_there g in never (sym h ∙ ap is_nil (computed o.body.0 nil z _ refl o.body.1 o.body.2))
posp_gives n (Int (pos (suc k))) z g h = (k, refl)
posp_gives n (Int (negsuc k)) z g h = let o = opens ground_definitions n 10 posp_definition (Int (negsuc k) ∷ []) z posp_there g in never (sym h ∙ ap is_nil (computed o.body.0 nil z _ refl o.body.1 o.body.2))
posp_gives n (Character k) z g h = let o = opens ground_definitions n 10 posp_definition (Character k ∷ []) z posp_there g in never (sym h ∙ ap is_nil (computed o.body.0 nil z _ refl o.body.1 o.body.2))
posp_gives n (Symbol k) z g h = let o = opens ground_definitions n 10 posp_definition (Symbol k ∷ []) z posp_there g in never (sym h ∙ ap is_nil (computed o.body.0 nil z _ refl o.body.1 o.body.2))
posp_gives n (Text k) z g h = let o = opens ground_definitions n 10 posp_definition (Text k ∷ []) z posp_there g in never (sym h ∙ ap is_nil (computed o.body.0 nil z _ refl o.body.1 o.body.2))
posp_gives n (Cons a d) z g h = let o = opens ground_definitions n 10 posp_definition (Cons a d ∷ []) z posp_there g in never (sym h ∙ ap is_nil (computed o.body.0 nil z _ refl o.body.1 o.body.2))

-- not NIL where the values are equal
pub equal_met : (x y z : Object) → z ≡ boolean_object (object_eq x y) → is_nil z ≡ false → x ≡ y
equal_met x y z e h = equal_from x y (yes (object_eq x y) (ap is_nil (sym e) ∙ h))

pub booleanp_gives : (n : ℕ) (x z : Object) → GivesAt n 21 (x ∷ []) z → is_nil z ≡ false → (x ≡ true_object) ⊎ (x ≡ nil)
booleanp_gives n x z g h =
    let o = opens ground_definitions n 21 booleanp_definition (x ∷ []) z booleanp_there g in
    let c = opened ground_definitions o.depth in
    let env = extended (0 ∷ []) (x ∷ []) [] in
    let i = if_to c env (Prim prim.Equal (two v0 (Const true_object))) (Const true_object) (Prim prim.Equal (two v0 nil_term)) z o.body in
    elim i.1.1 [
      | inl b ↦ inr (equal_met x nil z (computed b.1.0 _ z _ refl b.1.1 b.1.2) h)
      | inr b ↦ inl (equal_met x true_object i.0 (computed i.1.0.0 _ i.0 _ refl i.1.0.1 i.1.0.2) b.0)
    ]

-- ---- lists
abbrev pub len_in : Object → ℕ
len_in (Cons a d) = suc (len_in d)
len_in _ = 0

abbrev pub is_list : Object → Bool
is_list (Cons a d) = is_list d
is_list x = object_eq x nil

abbrev pub nth_in : Object → ℕ → Object
nth_in (Cons a d) zero = a
nth_in (Cons a d) (suc i) = nth_in d i
nth_in x i = nil

abbrev pub is_in : Object → Object → Bool
is_in x (Cons a d) = object_eq x a || is_in x d
is_in x _ = false

add_one : (k : ℕ) → Int (pos 1 +ℤ pos k) ≡ Int (pos (suc k))
add_one k = ap Int (omega (arith, ints))

pub len_gives : (n : ℕ) (x z : Object) → GivesAt n 25 (x ∷ []) z → z ≡ Int (pos (len_in x))
len_gives n (Cons a d) z g =
    let o = opens ground_definitions n 25 len_definition (Cons a d ∷ []) z len_there g in
    let c = opened ground_definitions o.depth in
    let env = extended (0 ∷ []) (Cons a d ∷ []) [] in
    let i = if_to c env (Prim prim.Consp (one v0)) (Prim prim.BinaryPlus (two (Const (Int (pos 1))) len_again)) (Const (Int (pos 0))) z o.body in
    let t : i.0 ≡ true_object = computed i.1.0.0 true_object i.0 _ refl i.1.0.1 i.1.0.2 in
    elim i.1.1 [
      | inl b ↦ never (sym (ap is_nil t) ∙ b.0)
      | inr b ↦
          let p = prim_two_to c env prim.BinaryPlus (Const (Int (pos 1))) len_again z b.1 in
          let q = call_one_to c env 25 (Prim prim.Cdr (one v0)) p.1.0 p.1.1.1 in
          let e : q.0 ≡ d = computed q.1.0.0 d q.0 _ refl q.1.0.1 q.1.0.2 in
          let l : p.1.0 ≡ Int (pos (len_in d)) = len_gives o.depth d p.1.0 (subst (λ y. GivesAt o.depth 25 (y ∷ []) p.1.0) e q.1.1) in
          let f : p.0 ≡ Int (pos 1) = const_to c env (Int (pos 1)) p.0 p.1.1.0 in
          p.1.1.2 ∙ ((λ k. prim_of prim.BinaryPlus (f k) (l k)) ∙ add_one (len_in d))
    ]
len_gives n (Int k) z g = let o = opens ground_definitions n 25 len_definition (Int k ∷ []) z len_there g in computed o.body.0 _ z _ refl o.body.1 o.body.2
len_gives n (Character k) z g = let o = opens ground_definitions n 25 len_definition (Character k ∷ []) z len_there g in computed o.body.0 _ z _ refl o.body.1 o.body.2
len_gives n (Symbol k) z g = let o = opens ground_definitions n 25 len_definition (Symbol k ∷ []) z len_there g in computed o.body.0 _ z _ refl o.body.1 o.body.2
len_gives n (Text k) z g = let o = opens ground_definitions n 25 len_definition (Text k ∷ []) z len_there g in computed o.body.0 _ z _ refl o.body.1 o.body.2

pub list_gives : (n : ℕ) (x z : Object) → GivesAt n 26 (x ∷ []) z → is_nil z ≡ false → is_list x ≡ true
list_gives n (Cons a d) z g h =
    let o = opens ground_definitions n 26 list_definition (Cons a d ∷ []) z list_there g in
    let c = opened ground_definitions o.depth in
    let env = extended (0 ∷ []) (Cons a d ∷ []) [] in
    let i = if_to c env (Prim prim.Consp (one v0)) list_again (Prim prim.Equal (two v0 nil_term)) z o.body in
    let t : i.0 ≡ true_object = computed i.1.0.0 true_object i.0 _ refl i.1.0.1 i.1.0.2 in
    elim i.1.1 [
      | inl b ↦ never (sym (ap is_nil t) ∙ b.0)
      | inr b ↦
          let q = call_one_to c env 26 (Prim prim.Cdr (one v0)) z b.1 in
          let e : q.0 ≡ d = computed q.1.0.0 d q.0 _ refl q.1.0.1 q.1.0.2 in
          list_gives o.depth d z (subst (λ y. GivesAt o.depth 26 (y ∷ []) z) e q.1.1) h
    ]
list_gives n (Int k) z g h = let o = opens ground_definitions n 26 list_definition (Int k ∷ []) z list_there g in yes _ (ap is_nil (sym (computed o.body.0 _ z _ refl o.body.1 o.body.2)) ∙ h)
list_gives n (Character k) z g h = let o = opens ground_definitions n 26 list_definition (Character k ∷ []) z list_there g in yes _ (ap is_nil (sym (computed o.body.0 _ z _ refl o.body.1 o.body.2)) ∙ h)
list_gives n (Symbol k) z g h = let o = opens ground_definitions n 26 list_definition (Symbol k ∷ []) z list_there g in yes _ (ap is_nil (sym (computed o.body.0 _ z _ refl o.body.1 o.body.2)) ∙ h)
list_gives n (Text k) z g h = let o = opens ground_definitions n 26 list_definition (Text k ∷ []) z list_there g in yes _ (ap is_nil (sym (computed o.body.0 _ z _ refl o.body.1 o.body.2)) ∙ h)

less_one : (k : ℕ) → Int (pos (suc k) +ℤ neg_ℤ (pos 1)) ≡ Int (pos k)
less_one k = ap Int (omega (arith, ints))

-- behind the test for the end of the list, in its first branch only where there is no cons
nth_inside : (n i : ℕ) (a d z : Object) → GivesAt n 28 (Int (pos i) ∷ Cons a d ∷ []) z
    → (m : ℕ) × To (opened ground_definitions m) (extended (0 ∷ 1 ∷ []) (Int (pos i) ∷ Cons a d ∷ []) []) nth_rest z
nth_inside n i a d z g =
    let o = opens ground_definitions n 28 nth_definition (Int (pos i) ∷ Cons a d ∷ []) z nth_there g in
    let c = opened ground_definitions o.depth in
    let env = extended (0 ∷ 1 ∷ []) (Int (pos i) ∷ Cons a d ∷ []) [] in
    let f = if_to c env (Call 1 (one v1)) nil_term nth_rest z o.body in
    let q = call_one_to c env 1 v1 f.0 f.1.0 in
    let e : q.0 ≡ Cons a d = var_to c env 1 q.0 q.1.0 in
    let t : f.0 ≡ nil = endp_gives o.depth (Cons a d) f.0 (subst (λ y. GivesAt o.depth 1 (y ∷ []) f.0) e q.1.1) in
    elim f.1.1 [
      | inl b ↦ (o.depth, b.1)
      | inr b ↦ never (sym b.0 ∙ ap is_nil t)
    ]

nth_atom : (n i : ℕ) (x z : Object) → is_cons x ≡ false → GivesAt n 28 (Int (pos i) ∷ x ∷ []) z → z ≡ nil
nth_atom n i x z h g =
    let o = opens ground_definitions n 28 nth_definition (Int (pos i) ∷ x ∷ []) z nth_there g in
    let c = opened ground_definitions o.depth in
    let env = extended (0 ∷ 1 ∷ []) (Int (pos i) ∷ x ∷ []) [] in
    let f = if_to c env (Call 1 (one v1)) nil_term nth_rest z o.body in
    let q = call_one_to c env 1 v1 f.0 f.1.0 in
    let e : q.0 ≡ x = var_to c env 1 q.0 q.1.0 in
    let t : f.0 ≡ true_object = endp_gives o.depth x f.0 (subst (λ y. GivesAt o.depth 1 (y ∷ []) f.0) e q.1.1) ∙ ap (λ b. boolean_object (is_nil (boolean_object b))) h in
    elim f.1.1 [
      | inl b ↦ never (sym (ap is_nil t) ∙ b.0)
      | inr b ↦ const_to c env nil z b.1
    ]

nth_zp : (m i : ℕ) (x z : Object) → To (opened ground_definitions m) (extended (0 ∷ 1 ∷ []) (Int (pos i) ∷ x ∷ []) []) (Call 7 (one v0)) z → z ≡ boolean_object (is_nil (prim_of prim.Less (Int (pos 0)) (Int (pos i))))
nth_zp m i x z k =
    let c = opened ground_definitions m in
    let env = extended (0 ∷ 1 ∷ []) (Int (pos i) ∷ x ∷ []) [] in
    let q = call_one_to c env 7 v0 z k in
    let e : q.0 ≡ Int (pos i) = var_to c env 0 q.0 q.1.0 in
    zp_gives m i z (subst (λ y. GivesAt m 7 (y ∷ []) z) e q.1.1)

above_zero : (i : ℕ) → int_lt (pos 0) (pos (suc i)) ≡ true
above_zero i = grind (arith, ints)

pub nth_gives : (n i : ℕ) (l z : Object) → GivesAt n 28 (Int (pos i) ∷ l ∷ []) z → z ≡ nth_in l i
nth_gives n zero (Cons a d) z g =
    let s = nth_inside n 0 a d z g in
    let c = opened ground_definitions s.0 in
    let env = extended (0 ∷ 1 ∷ []) (Int (pos 0) ∷ Cons a d ∷ []) [] in
    let f = if_to c env (Call 7 (one v0)) (Prim prim.Car (one v1)) nth_again z s.1 in
    let t : f.0 ≡ true_object = nth_zp s.0 0 (Cons a d) f.0 f.1.0 in
    elim f.1.1 [
      | inl b ↦ never (sym (ap is_nil t) ∙ b.0)
      | inr b ↦ computed b.1.0 a z _ refl b.1.1 b.1.2
    ]
nth_gives n (suc i) (Cons a d) z g =
    let s = nth_inside n (suc i) a d z g in
    let c = opened ground_definitions s.0 in
    let env = extended (0 ∷ 1 ∷ []) (Int (pos (suc i)) ∷ Cons a d ∷ []) [] in
    let f = if_to c env (Call 7 (one v0)) (Prim prim.Car (one v1)) nth_again z s.1 in
    let t : f.0 ≡ nil = nth_zp s.0 (suc i) (Cons a d) f.0 f.1.0 ∙ ap (λ b. boolean_object (is_nil (boolean_object b))) (above_zero i) in
    elim f.1.1 [
      | inl b ↦
          let q = call_two_to c env 28 (Prim prim.BinaryPlus (two v0 (Prim prim.UnaryMinus (one (Const (Int (pos 1))))))) (Prim prim.Cdr (one v1)) z b.1 in
          let u : q.0 ≡ Int (pos i) = computed q.1.1.0.0 _ q.0 _ refl q.1.1.0.1 q.1.1.0.2 ∙ less_one i in
          let v : q.1.0 ≡ d = computed q.1.1.1.0 d q.1.0 _ refl q.1.1.1.1 q.1.1.1.2 in
          nth_gives s.0 i d z (subst (λ y. GivesAt s.0 28 (Int (pos i) ∷ y ∷ []) z) v (subst (λ y. GivesAt s.0 28 (y ∷ q.1.0 ∷ []) z) u q.1.1.2))
      | inr b ↦ never (sym b.0 ∙ ap is_nil t)
    ]
nth_gives n i (Int k) z g = nth_atom n i (Int k) z refl g
nth_gives n i (Character k) z g = nth_atom n i (Character k) z refl g
nth_gives n i (Symbol k) z g = nth_atom n i (Symbol k) z refl g
nth_gives n i (Text k) z g = nth_atom n i (Text k) z refl g

-- ---- membership
member_inside : (n : ℕ) (x l z : Object) → GivesAt n 31 (x ∷ l ∷ []) z → is_nil z ≡ false
    → (m : ℕ) × ((is_cons l ≡ true) × To (opened ground_definitions m) (extended (0 ∷ 1 ∷ []) (x ∷ l ∷ []) []) member_rest z)
member_inside n x l z g h =
    let o = opens ground_definitions n 31 member_definition (x ∷ l ∷ []) z member_there g in
    let c = opened ground_definitions o.depth in
    let env = extended (0 ∷ 1 ∷ []) (x ∷ l ∷ []) [] in
    let f = if_to c env (Call 1 (one v1)) nil_term member_rest z o.body in
    let q = call_one_to c env 1 v1 f.0 f.1.0 in
    let e : q.0 ≡ l = var_to c env 1 q.0 q.1.0 in
    let t : f.0 ≡ boolean_object (is_nil (boolean_object (is_cons l))) = endp_gives o.depth l f.0 (subst (λ y. GivesAt o.depth 1 (y ∷ []) f.0) e q.1.1) in
    elim f.1.1 [
      | inl b ↦ (o.depth, (yes (is_cons l) (no _ (ap is_nil (sym t) ∙ b.0)), b.1))
      | inr b ↦ never (sym h ∙ ap is_nil (const_to c env nil z b.1))
    ]

pub member_gives : (n : ℕ) (x l z : Object) → GivesAt n 31 (x ∷ l ∷ []) z → is_nil z ≡ false → is_in x l ≡ true
member_gives n x (Cons a d) z g h =
    let s = member_inside n x (Cons a d) z g h in
    let c = opened ground_definitions s.0 in
    let env = extended (0 ∷ 1 ∷ []) (x ∷ Cons a d ∷ []) [] in
    let f = if_to c env (Prim prim.Equal (two v0 (Prim prim.Car (one v1)))) v1 member_again z s.1.1 in
    elim f.1.1 [
      | inl b ↦
          let q = call_two_to c env 31 v0 (Prim prim.Cdr (one v1)) z b.1 in
          let u : q.0 ≡ x = var_to c env 0 q.0 q.1.1.0 in
          let v : q.1.0 ≡ d = computed q.1.1.1.0 d q.1.0 _ refl q.1.1.1.1 q.1.1.1.2 in
          or_second (object_eq x a) (is_in x d)
          (member_gives s.0 x d z (subst (λ y. GivesAt s.0 31 (x ∷ y ∷ []) z) v (subst (λ y. GivesAt s.0 31 (y ∷ q.1.0 ∷ []) z) u q.1.1.2)) h)
      | inr b ↦ or_first (object_eq x a) (is_in x d) (yes (object_eq x a) (ap is_nil (sym (computed f.1.0.0 _ f.0 _ refl f.1.0.1 f.1.0.2)) ∙ b.0))
    ]
member_gives n x (Int k) z g h = never ((member_inside n x (Int k) z g h).1.0)
member_gives n x (Character k) z g h = never ((member_inside n x (Character k) z g h).1.0)
member_gives n x (Symbol k) z g h = never ((member_inside n x (Symbol k) z g h).1.0)
member_gives n x (Text k) z g h = never ((member_inside n x (Text k) z g h).1.0)
