-- The assignment that gives covered variables the objects of an environment.
use Rattle.std.proofs.Common.{◌≡◌, ◌∙◌, ap, sym, refl, subst, ℕ, zero, suc, Bool, true, false, cond, ◌||◌, eqb, eq-eqb, List, [], ◌∷◌, ◌++◌, map, length, ℤ, arith, ◌⊎◌, inl, inr}
use Rattle.std.specs.List.{list_any}
use Rattle.gl_logic.specs.Object.{Object, Int, Character, Symbol, Text, Cons, nil, true_object}
use Rattle.gl_logic.specs.ObjectEq.{object_eq}
use Rattle.gl_logic.specs.Quotients.{floor_by}
use Rattle.gl_logic.specs.Environment.{look}
use Rattle.gl_logic.specs.TwosComplement.{integer_of, bits_of}
use Rattle.gl_logic.proofs.Equality.{equal_from}
use Rattle.gl_logic.proofs.TwosComplement.{from_bits_of}
use Rattle.shape_spec.specs.ShapeSeen.{ShapeSeen, Boolean, Integer, Choice, Constant, Pair}
use Rattle.shape_spec.specs.Indices.{indices_in, indices_of, rank_in, IsNotIn, AreApart}
use Rattle.shape_spec.specs.InputMeant.{object_meant, truth_of}
use Rattle.shape_spec.proofs.Members.{IsIn, in_left, in_right, same_rank, same_object}
use Rattle.coverage.specs.Rows.{is_boolean, is_integer_of}
use Rattle.coverage.proofs.Logic.{bool_cases, never, or_either}
use Rattle.coverage.proofs.Bytes.{IsByte, signed_of}

-- ---- numbers that stand apart
not_same : (x i : ℕ) (xs : List ℕ) → IsNotIn x xs → IsIn i xs → x ≡ i → ⊥
not_same x i [] n h e = h
not_same x i (y ∷ xs) n h e = elim h [ inl f ↦ n.0 (e ∙ f) | inr k ↦ not_same x i xs n.1 k e ]

not_in_left : (x : ℕ) (xs ys : List ℕ) → IsNotIn x (xs ++ ys) → IsNotIn x xs
not_in_left x [] ys h = tt
not_in_left x (y ∷ xs) ys h = (h.0, not_in_left x xs ys h.1)

not_in_right : (x : ℕ) (xs ys : List ℕ) → IsNotIn x (xs ++ ys) → IsNotIn x ys
not_in_right x [] ys h = h
not_in_right x (y ∷ xs) ys h = not_in_right x xs ys h.1

pub apart_left : (xs ys : List ℕ) → AreApart (xs ++ ys) → AreApart xs
apart_left [] ys h = tt
apart_left (x ∷ xs) ys h = (not_in_left x xs ys h.0, apart_left xs ys h.1)

pub apart_right : (xs ys : List ℕ) → AreApart (xs ++ ys) → AreApart ys
apart_right [] ys h = h
apart_right (x ∷ xs) ys h = apart_right xs ys h.1

apart_between : (xs ys : List ℕ) (i : ℕ) → AreApart (xs ++ ys) → IsIn i ys → IsNotIn i xs
apart_between [] ys i h k = tt
apart_between (x ∷ xs) ys i h k = (λ e. not_same x i (xs ++ ys) h.0 (in_right i xs ys k) (sym e), apart_between xs ys i h.1 k)

eqb_apart : (a b : ℕ) → (a ≡ b → ⊥) → eqb a b ≡ false
eqb_apart a b h = grind arith

eqb_same : (a b : ℕ) → eqb a b ≡ true → a ≡ b
eqb_same a b h = grind arith

-- ---- whether an index is one of some
abbrev is_one : List ℕ → ℕ → Bool
is_one is i = list_any (eqb i) is

one_of : (is : List ℕ) (i : ℕ) → IsIn i is → is_one is i ≡ true
one_of [] i h = absurd h
one_of (x ∷ is) i h = elim h [
  | inl e ↦ ap (λ t. t || is_one is i) (eq-eqb i x e)
  | inr k ↦ elim (bool_cases (eqb i x)) [
    | inl t ↦ ap (λ q. q || is_one is i) t
    | inr f ↦ ap (λ q. q || is_one is i) f ∙ one_of is i k
  ]
]

none_of : (is : List ℕ) (i : ℕ) → IsNotIn i is → is_one is i ≡ false
none_of [] i h = refl
none_of (x ∷ is) i h = ap (λ q. q || is_one is i) (eqb_apart i x h.0) ∙ none_of is i h.1

-- the truth values that one says of some indices, and another of the rest
abbrev pub either_by : List ℕ → (ℕ → Bool) → (ℕ → Bool) → ℕ → Bool
either_by is f g i = cond (is_one is i) (f i) (g i)

pub by_first : (is : List ℕ) (f g : ℕ → Bool) (i : ℕ) → IsIn i is → either_by is f g i ≡ f i
by_first is f g i h = ap (λ q. cond q (f i) (g i)) (one_of is i h)

pub by_second : (is : List ℕ) (f g : ℕ → Bool) (i : ℕ) → IsNotIn i is → either_by is f g i ≡ g i
by_second is f g i h = ap (λ q. cond q (f i) (g i)) (none_of is i h)

-- ---- the truth values of some indices, from a list of them
abbrev listed : List ℕ → List Bool → ℕ → Bool
listed (i ∷ is) (b ∷ bs) j = cond (eqb i j) b (listed is bs j)
listed _ _ j = false

same_listed : (x : ℕ) (b : Bool) (is : List ℕ) (f : ℕ → Bool) → IsNotIn x is → map (λ j. cond (eqb x j) b (f j)) is ≡ map f is
same_listed x b [] f h = refl
same_listed x b (i ∷ is) f h = λ k. cond (eqb_apart x i h.0 k) b (f i) ∷ same_listed x b is f h.1 k

found : (is : List ℕ) (bs : List Bool) → AreApart is → length bs ≡ length is → map (listed is bs) is ≡ bs
found [] [] h l = refl
found [] (b ∷ bs) h l = absurd (omega (arith, l))
found (x ∷ is) [] h l = absurd (omega (arith, l))
found (x ∷ is) (b ∷ bs) h l =
    let here : cond (eqb x x) b (listed is bs x) ≡ b = ap (λ t. cond t b (listed is bs x)) (eq-eqb x x refl) in
    let tail = same_listed x b is (listed is bs) h.0 ∙ found is bs h.1 (omega (arith, l)) in
    λ k. here k ∷ tail k

bits_long : (n : ℕ) (z : ℤ) → length (bits_of n z) ≡ n
bits_long zero z = refl
bits_long (suc n) z = ap suc (bits_long n (floor_by z 2))

-- ---- a shape has an object by some truth values of its indices
abbrev pub Has : ShapeSeen → Object → Type 0
Has s x = (h : ℕ → Bool) × (object_meant h s ≡ x)

pub byte_has : (is : List ℕ) (x : Object) → AreApart is → IsByte (length is) x → Has (Integer is) x
byte_has is x h byte =
    let bits = bits_of (length is) byte.number in (
      listed is bits,
      ap (λ bs. Int (integer_of bs)) (found is bits h (bits_long (length is) byte.number))
          ∙ ((λ k. Int (integer_of (bits_of (byte.bits k) byte.number))) ∙ (ap Int (from_bits_of byte.beside_sign byte.number byte.within) ∙ sym byte.is)),
    )

pub integer_has : (is : List ℕ) (x : Object) → AreApart is → is_integer_of (length is) x ≡ true → Has (Integer is) x
integer_has is (Int z) h f = byte_has is (Int z) h (signed_of (length is) (length is) z (omega arith) f)
integer_has is (Character k) h f = never f
integer_has is (Symbol k) h f = never f
integer_has is (Text k) h f = never f
integer_has is (Cons a d) h f = never f

pub boolean_has : (i : ℕ) (x : Object) → is_boolean x ≡ true → Has (Boolean i) x
boolean_has i x h = elim (or_either (object_eq true_object x) (object_eq nil x) h) [
  | inl t ↦ ((λ j. true), equal_from true_object x t)
  | inr t ↦ ((λ j. false), equal_from nil x t)
]

pub constant_has : (c x : Object) → object_eq c x ≡ true → Has (Constant c) x
constant_has c x h = ((λ j. false), equal_from c x h)

-- a cons has the conses of its parts' objects
pub pair_has : (a d : ShapeSeen) (p q : Object) → AreApart (indices_in (Pair a d)) → Has a p → Has d q → Has (Pair a d) (Cons p q)
pair_has a d p q h k l =
    let f = either_by (indices_in a) k.0 l.0 in
    let first : object_meant f a ≡ p = same_object f k.0 a (λ j m. by_first (indices_in a) k.0 l.0 j m) ∙ k.1 in
    let second : object_meant f d ≡ q = same_object f l.0 d (λ j m. by_second (indices_in a) k.0 l.0 j (apart_between (indices_in a) (indices_in d) j h m)) ∙ l.1 in
    (f, λ i. Cons (first i) (second i))

-- a choice has the objects of its parts
apart_from : (i : ℕ) (is : List ℕ) (j : ℕ) → IsNotIn i is → IsIn j is → IsNotIn j (i ∷ [])
apart_from i is j n h = (λ e. not_same i j is n h (sym e), tt)

chosen_part : (i : ℕ) (which : Bool) (f : ℕ → Bool) (s : ShapeSeen) → IsNotIn i (indices_in s) → object_meant (either_by (i ∷ []) (λ j. which) f) s ≡ object_meant f s
chosen_part i which f s n = same_object (either_by (i ∷ []) (λ j. which) f) f s (λ j h. by_second (i ∷ []) (λ j. which) f j (apart_from i (indices_in s) j n h))

pub first_has : (i : ℕ) (a b : ShapeSeen) (x : Object) → AreApart (indices_in (Choice i a b)) → Has a x → Has (Choice i a b) x
first_has i a b x h k =
    let f = either_by (i ∷ []) (λ j. true) k.0 in
    (f, ap (λ q. cond q (object_meant f a) (object_meant f b)) (by_first (i ∷ []) (λ j. true) k.0 i (inl refl)) ∙ (chosen_part i true k.0 a (not_in_left i (indices_in a) (indices_in b) h.0) ∙ k.1))

pub second_has : (i : ℕ) (a b : ShapeSeen) (x : Object) → AreApart (indices_in (Choice i a b)) → Has b x → Has (Choice i a b) x
second_has i a b x h k =
    let f = either_by (i ∷ []) (λ j. false) k.0 in
    (f, ap (λ q. cond q (object_meant f a) (object_meant f b)) (by_first (i ∷ []) (λ j. false) k.0 i (inl refl)) ∙ (chosen_part i false k.0 b (not_in_right i (indices_in a) (indices_in b) h.0) ∙ k.1))

pub apart_first : (i : ℕ) (a b : ShapeSeen) → AreApart (indices_in (Choice i a b)) → AreApart (indices_in a)
apart_first i a b h = apart_left (indices_in a) (indices_in b) h.1

pub apart_second : (i : ℕ) (a b : ShapeSeen) → AreApart (indices_in (Choice i a b)) → AreApart (indices_in b)
apart_second i a b h = apart_right (indices_in a) (indices_in b) h.1

-- ---- all bindings at once
abbrev pub IsBound : ℕ × ShapeSeen → List (ℕ × ShapeSeen) → Type 0
IsBound p [] = ⊥
IsBound p (q ∷ b) = (p ≡ q) ⊎ IsBound p b

pub in_indices : (p : ℕ × ShapeSeen) (b : List (ℕ × ShapeSeen)) (i : ℕ) → IsBound p b → IsIn i (indices_in p.1) → IsIn i (indices_of b)
in_indices p [] i h k = absurd h
in_indices p (q ∷ b) i h k = elim h [
  | inl e ↦ in_left i (indices_in q.1) (indices_of b) (subst (λ (r : ℕ × ShapeSeen). IsIn i (indices_in r.1)) e k)
  | inr l ↦ in_right i (indices_in q.1) (indices_of b) (in_indices p b i l k)
]

pub apart_of : (p : ℕ × ShapeSeen) (b : List (ℕ × ShapeSeen)) → IsBound p b → AreApart (indices_of b) → AreApart (indices_in p.1)
apart_of p [] k h = absurd k
apart_of p (q ∷ b) k h = elim k [
  | inl e ↦ subst (λ (r : ℕ × ShapeSeen). AreApart (indices_in r.1)) (sym e) (apart_left (indices_in q.1) (indices_of b) h)
  | inr l ↦ apart_of p b l (apart_right (indices_in q.1) (indices_of b) h)
]

module _ (env : List (ℕ × Object)) (wanted : ℕ → Bool) where
  abbrev pub AreGiven : List (ℕ × ShapeSeen) → (ℕ → Bool) → Type 0
  AreGiven b h = (p : ℕ × ShapeSeen) → IsBound p b → wanted p.0 ≡ true → object_meant h p.1 ≡ look env p.0

  -- one more binding, which is wanted or not
  given_more : (q : ℕ × ShapeSeen) (b : List (ℕ × ShapeSeen)) (f g : ℕ → Bool) → AreApart (indices_of (q ∷ b)) → (wanted q.0 ≡ true → object_meant f q.1 ≡ look env q.0) → AreGiven b g
      → AreGiven (q ∷ b) (either_by (indices_in q.1) f g)
  given_more q b f g h k rest p i w = elim i [
    | inl e ↦
        subst (λ (r : ℕ × ShapeSeen). wanted r.0 ≡ true → object_meant (either_by (indices_in q.1) f g) r.1 ≡ look env r.0) (sym e)
        (λ t. same_object (either_by (indices_in q.1) f g) f q.1 (λ j l. by_first (indices_in q.1) f g j l) ∙ k t) w
    | inr l ↦
        same_object (either_by (indices_in q.1) f g) g p.1 (λ j m. by_second (indices_in q.1) f g j (apart_between (indices_in q.1) (indices_of b) j h (in_indices p b j l m)))
        ∙ rest p l w
  ]

  pub all_given : (b : List (ℕ × ShapeSeen)) → AreApart (indices_of b) → ((p : ℕ × ShapeSeen) → IsBound p b → wanted p.0 ≡ true → Has p.1 (look env p.0)) → (h : ℕ → Bool) × AreGiven b h
  all_given [] h k = ((λ i. false), λ p i w. absurd i)
  all_given (q ∷ b) h k =
      let rest = all_given b (apart_right (indices_in q.1) (indices_of b) h) (λ p i w. k p (inr i) w) in
      elim (bool_cases (wanted q.0)) [
        | inl t ↦ let one = k q (inl refl) t in (either_by (indices_in q.1) one.0 rest.0, given_more q b one.0 rest.0 h (λ w. one.1) rest.1)
        | inr f ↦ (either_by (indices_in q.1) (λ i. false) rest.0, given_more q b (λ i. false) rest.0 h (λ w. never (sym f ∙ w)) rest.1)
      ]

-- ---- the index of a rank
abbrev pub unranked : List ℕ → List ℕ → ℕ → ℕ
unranked all [] k = 0
unranked all (i ∷ is) k = cond (eqb (rank_in all i) k) i (unranked all is k)

unranked_is : (all is : List ℕ) (i : ℕ) → ((j : ℕ) → IsIn j is → IsIn j all) → IsIn i is → unranked all is (rank_in all i) ≡ i
unranked_is all [] i within h = absurd h
unranked_is all (j ∷ is) i within h = elim (bool_cases (eqb (rank_in all j) (rank_in all i))) [
  | inl t ↦
      ap (λ q. cond q j (unranked all is (rank_in all i))) t
      ∙ same_rank all j i (within j (inl refl)) (within i h) (eqb_same (rank_in all j) (rank_in all i) t)
  | inr f ↦ elim h [
    | inl e ↦ absurd (let s = eq-eqb (rank_in all j) (rank_in all i) (ap (rank_in all) (sym e)) in let p = s in cc)
    | inr l ↦ ap (λ q. cond q j (unranked all is (rank_in all i))) f ∙ unranked_is all is i (λ m k. within m (inr k)) l
  ]
]

-- the assignment that makes the same indices true
abbrev pub chosen : List (ℕ × ShapeSeen) → (ℕ → Bool) → ℕ → Bool
chosen b h k = h (unranked (indices_of b) (indices_of b) k)

pub chosen_object : (b : List (ℕ × ShapeSeen)) (h : ℕ → Bool) (p : ℕ × ShapeSeen) → IsBound p b → object_meant (truth_of b (chosen b h)) p.1 ≡ object_meant h p.1
chosen_object b h p k =
    same_object (truth_of b (chosen b h)) h p.1 (λ i l. ap h (unranked_is (indices_of b) (indices_of b) i (λ j m. m) (in_indices p b i k l)))
