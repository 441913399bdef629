-- Integers and their bits, one by one.
use Rattle.std.proofs.Common.{◌≡◌, ◌∙◌, refl, sym, ap, subst, ℕ, zero, suc, ◌+◌, ◌-◌, ◌^◌, ◌<◌, ◌≤◌, Bool, true, false, true≢false, ◌&&◌, ◌||◌, eqb, inl, inr, ◌⊎◌, lit<, List, [], ◌∷◌, ◌++◌, length, map, slice_get, drop, Some, arith, ℤ, pos, ◌+ℤ◌, ◌≤ℤ◌, ◌<ℤ◌}
use Rattle.std.specs.List.{All, list_all}
use Rattle.std.proofs.lemmas.Int.{ints}
use Rattle.std.proofs.lemmas.List.{length-drop, length-map, length_push}
use Rattle.std.proofs.Math.Nat.{pow-suc}
use Rattle.std.proofs.Math.Pow.{pow_mono}
use Rattle.bfr_store.specs.declared.edge.Edge.{Edge}
use Rattle.std.proofs.lemmas.Bool.Decides.{eqb_tells}
use Rattle.std.proofs.lemmas.List.Elements.{All-push, All-cons, All-nil}
use Rattle.bfr_store.specs.declared.meaning.Meaning.{Ghosts}
use Rattle.gl_logic.specs.TwosComplement.{digit, integer_of}
use Rattle.sym_objects.specs.Seen.{SobsSeen, is_constant_edge}
use Rattle.gl_logic.proofs.TwosComplement.{Within, list_within}
use Rattle.sym_objects.proofs.Trimmed.{drop_at, drop_last, integer_cons}

-- the integer whose lowest bits are these, and whose other bits are those of z
abbrev pub ahead : (Edge → Bool) → List Edge → ℤ → ℤ
ahead t [] z = z
ahead t (e ∷ es) z = digit (t e) +ℤ (ahead t es z +ℤ ahead t es z)

pub ahead_push : (t : Edge → Bool) (es : List Edge) (e : Edge) (y z : ℤ) → digit (t e) +ℤ (y +ℤ y) ≡ z → ahead t (es ++ e ∷ []) y ≡ ahead t es z
ahead_push t [] e y z h = h
ahead_push t (x ∷ es) e y z h = ap (λ i. digit (t x) +ℤ (i +ℤ i)) (ahead_push t es e y z h)

some_push : (es : List Edge) (e : Edge) → 1 ≤ length (es ++ e ∷ [])
some_push [] e = omega arith
some_push (x ∷ es) e = omega arith

pub ahead_sign : (t : Edge → Bool) (es : List Edge) (e : Edge) (z : ℤ) → integer_of (t e ∷ []) ≡ z → integer_of (map t (es ++ e ∷ [])) ≡ ahead t es z
ahead_sign t [] e z h = h
ahead_sign t (x ∷ es) e z h =
    integer_cons (t x) (map t (es ++ e ∷ [])) (omega (arith, some_push es e, length-map (es ++ e ∷ []) t))
    ∙ ap (λ i. digit (t x) +ℤ (i +ℤ i)) (ahead_sign t es e z h)

half_within : (w : ℕ) (b : Bool) (h i : ℤ) → digit b +ℤ (h +ℤ h) ≡ i → Within (suc w) i → Within w h
half_within w true h i e v = let p = pow-suc 2 w in record { least = omega (arith, ints, p, e, v.least, v.most); most = omega (arith, ints, p, e, v.least, v.most) }
half_within w false h i e v = let p = pow-suc 2 w in record { least = omega (arith, ints, p, e, v.least, v.most); most = omega (arith, ints, p, e, v.least, v.most) }

pub half_turn : (c : ℕ) (b : Bool) (h i : ℤ) → c < 127 → digit b +ℤ (h +ℤ h) ≡ i → Within (127 - c) i → Within (127 - (c + 1)) h
half_turn c b h i l e v =
    let n : 127 - c ≡ suc (127 - (c + 1)) = omega (arith, l) in
    half_within (127 - (c + 1)) b h i e (subst (λ m. Within m i) n v)

pub sign_is : (z : ℤ) (b : Bool) (w : ℕ) → w ≡ 0 → Within w z → (b ≡ true → z <ℤ pos 0) → (b ≡ false → pos 0 ≤ℤ z) → integer_of (b ∷ []) ≡ z
sign_is z true w n v t f = let one : Within 0 z = subst (λ m. Within m z) n v in omega (arith, ints, t refl, one.least)
sign_is z false w n v t f = let one : Within 0 z = subst (λ m. Within m z) n v in omega (arith, ints, f refl, one.most)

-- ---- back
-- the integer of the bits from place k on
abbrev pub from_place : (Edge → Bool) → List Edge → ℕ → ℤ
from_place t es k = integer_of (map t (drop k es))

pub from_last : (t : Edge → Bool) (es : List Edge) (k : ℕ) (e : Edge) (b : Bool) → k ≡ length es → 0 < k → slice_get es (k - 1) ≡ Some e → t e ≡ b → from_place t es (k - 1) ≡ integer_of (b ∷ [])
from_last t es k e b l h is v = ap (λ xs. integer_of (map t xs)) (drop_last es k e l h is) ∙ ap (λ c. integer_of (c ∷ [])) v

pub from_next : (t : Edge → Bool) (es : List Edge) (k : ℕ) (e : Edge) (b : Bool) (z : ℤ) → 0 < k → k < length es → slice_get es (k - 1) ≡ Some e → t e ≡ b → from_place t es k ≡ z → from_place t es (k - 1) ≡ digit b +ℤ (z +ℤ z)
from_next t es k e b z h l is v f =
    let many : length (drop k es) ≡ length es - k = length-drop k es in
    ap (λ xs. integer_of (map t xs)) (drop_at es k e h (omega (arith, l)) is)
    ∙ (integer_cons (t e) (map t (drop k es)) (omega (arith, many, l, length-map (drop k es) t))
    ∙ (λ i. digit (v i) +ℤ (f i +ℤ f i)))

grows : (w n : ℕ) (i : ℤ) → w ≤ n → Within w i → Within n i
grows w n i h v = let p : 2 ^ w ≤ 2 ^ n = pow_mono h in record { least = omega (arith, ints, p, v.least); most = omega (arith, ints, p, v.most) }

pub list_fits : (t : Edge → Bool) (es : List Edge) (k : ℕ) → k < length es → length es ≤ 128 → Within 127 (from_place t es k)
list_fits t es k h l = by (map t (drop k es)) (omega (arith, length-drop k es, length-map (drop k es) t, h)) (omega (arith, length-drop k es, length-map (drop k es) t, l)) where
  by : (bs : List Bool) → 1 ≤ length bs → length bs ≤ 128 → Within 127 (integer_of bs)
  by [] s m = absurd (omega (arith, s))
  by (b ∷ bs) s m = grows (length bs) 127 (integer_of (b ∷ bs)) (omega (arith, m)) (list_within b bs)

-- ---- constant edges
pub and_first : (a b : Bool) → (a && b) ≡ true → a ≡ true
and_first true b h = refl
and_first false b h = h

pub and_second : (a b : Bool) → (a && b) ≡ true → b ≡ true
and_second true b h = h
and_second false b h = absurd (true≢false (sym h))

pub all_push : {X : Type 0} (p : X → Bool) (xs : List X) (x : X) → list_all p xs ≡ true → p x ≡ true → list_all p (xs ++ x ∷ []) ≡ true
all_push p [] x h k = λ i. k i && true
all_push p (y ∷ ys) x h k = let a = and_first (p y) (list_all p ys) h in let b = all_push p ys x (and_second (p y) (list_all p ys) h) k in λ i. a i && b i

pub all_at : {X : Type 0} (p : X → Bool) (xs : List X) (k : ℕ) (x : X) → list_all p xs ≡ true → slice_get xs k ≡ Some x → p x ≡ true
all_at p [] k x h e = absurd cc
all_at p (y ∷ ys) zero x h e = let is : y ≡ x = cc in ap p (sym is) ∙ and_first (p y) (list_all p ys) h
all_at p (y ∷ ys) (suc k) x h e = all_at p ys k x (and_second (p y) (list_all p ys) h) e

-- ---- the bits of an integer on their way
-- constant edges for the lowest n bits are there, and the others are those of `rest`
pub record IsAhead {B : Type 0} (g : Ghosts B) (s : SobsSeen B) (i : ℤ) (n : ℕ) (bits : List Edge) (rest : ℤ) : Type 0 where
  pub len : length bits ≡ n
  pub edges : All (g.live s.store) bits
  pub constant : list_all (is_constant_edge g) bits ≡ true
  pub value : (a : ℕ → Bool) → ahead (λ e. g.truth_of s.store e a) bits rest ≡ i
  pub within : Within (127 - n) rest

-- the edge is the constant one of this truth value
pub record IsConstantEdge {B : Type 0} (g : Ghosts B) (s : SobsSeen B) (b : Bool) (e : Edge) : Type 0 where
  pub is : e ≡ g.constant_edge b
  pub live : g.live s.store e
  pub truth : (a : ℕ → Bool) → g.truth_of s.store e a ≡ b

-- all 128 bits
pub record AreBits {B : Type 0} (g : Ghosts B) (s : SobsSeen B) (i : ℤ) (bits : List Edge) : Type 0 where
  pub most : length bits ≤ 128
  pub edges : All (g.live s.store) bits
  pub constant : list_all (is_constant_edge g) bits ≡ true
  pub value : (a : ℕ → Bool) → integer_of (map (λ e. g.truth_of s.store e a) bits) ≡ i

or_true : (b : Bool) → (b || true) ≡ true
or_true true = refl
or_true false = refl

same_number : (n : ℕ) → eqb n n ≡ true
same_number n = elim (eqb_tells n n) [ inl is ↦ is.0 | inr other ↦ absurd (other.1 refl) ]

module _ {B : Type 0} (g : Ghosts B) (s : SobsSeen B) where
  is_constant_one : (b : Bool) → is_constant_edge g (g.constant_edge b) ≡ true
  is_constant_one true = ap (λ c. c || eqb (g.constant_edge true).number (g.constant_edge false).number) (same_number (g.constant_edge true).number)
  is_constant_one false = ap (λ c. eqb (g.constant_edge false).number (g.constant_edge true).number || c) (same_number (g.constant_edge false).number) ∙ or_true (eqb (g.constant_edge false).number (g.constant_edge true).number)

  one_is : (b : Bool) (e : Edge) → IsConstantEdge g s b e → is_constant_edge g e ≡ true
  one_is b e c = ap (is_constant_edge g) c.is ∙ is_constant_one b

  pub ahead_first : (i h : ℤ) (b : Bool) (e : Edge) (bits : List Edge) → Within 127 i → digit b +ℤ (h +ℤ h) ≡ i → IsConstantEdge g s b e → bits ≡ e ∷ [] → IsAhead g s i 1 bits h
  ahead_first i h b e bits w d c is = subst (λ (es : List Edge). IsAhead g s i 1 es h) (sym is) (record {
    len = refl;
    edges = All-cons (g.live s.store) e [] c.live (All-nil (g.live s.store));
    constant = (λ j. one_is b e c j && true);
    value = λ a. ap (λ t. digit t +ℤ (h +ℤ h)) (c.truth a) ∙ d;
    within = half_turn 0 b h i (lit< tt) d w;
  })

  pub ahead_more : (i rest h : ℤ) (n : ℕ) (b : Bool) (e : Edge) (bits more : List Edge) → IsAhead g s i n bits rest → n < 127 → digit b +ℤ (h +ℤ h) ≡ rest → IsConstantEdge g s b e → more ≡ bits ++ e ∷ [] → IsAhead g s i (n + 1) more h
  ahead_more i rest h n b e bits more a l d c is = subst (λ (es : List Edge). IsAhead g s i (n + 1) es h) (sym is) (record {
    len = omega (arith, a.len, length_push bits e);
    edges = All-push (g.live s.store) bits e a.edges c.live;
    constant = all_push (is_constant_edge g) bits e a.constant (one_is b e c);
    value = λ v. ahead_push (λ x. g.truth_of s.store x v) bits e h rest (ap (λ t. digit t +ℤ (h +ℤ h)) (c.truth v) ∙ d) ∙ a.value v;
    within = half_turn n b h rest l d a.within;
  })

  pub ahead_done : (i rest : ℤ) (n : ℕ) (b : Bool) (e : Edge) (bits more : List Edge) → IsAhead g s i n bits rest → n ≡ 127 → (b ≡ true → rest <ℤ pos 0) → (b ≡ false → pos 0 ≤ℤ rest) → IsConstantEdge g s b e → more ≡ bits ++ e ∷ [] → AreBits g s i more
  ahead_done i rest n b e bits more a l t f c is = subst (λ (es : List Edge). AreBits g s i es) (sym is) (record {
    most = omega (arith, a.len, l, length_push bits e);
    edges = All-push (g.live s.store) bits e a.edges c.live;
    constant = all_push (is_constant_edge g) bits e a.constant (one_is b e c);
    value = λ v. ahead_sign (λ x. g.truth_of s.store x v) bits e rest (ap (λ u. integer_of (u ∷ [])) (c.truth v) ∙ sign_is rest b (127 - n) (omega (arith, l)) a.within t f) ∙ a.value v;
  })

-- a constant edge is one of the two
edge_same : (e f : Edge) → e.number ≡ f.number → e ≡ f
edge_same e f h = λ i. record { number = h i }

pub one_of_two : {B : Type 0} (g : Ghosts B) (e : Edge) → is_constant_edge g e ≡ true → (e ≡ g.constant_edge true) ⊎ (e ≡ g.constant_edge false)
one_of_two g e h = elim (eqb_tells e.number (g.constant_edge true).number) [
  | inl is ↦ inl (edge_same e (g.constant_edge true) is.1)
  | inr other ↦ elim (eqb_tells e.number (g.constant_edge false).number) [
    | inl is ↦ inr (edge_same e (g.constant_edge false) is.1)
    | inr neither ↦ absurd (true≢false (sym h ∙ (λ i. other.0 i || neither.0 i)))
  ]
]

-- twice a part of a list and a bit more fits too
pub next_fits : (t : Edge → Bool) (es : List Edge) (k : ℕ) (e : Edge) (b : Bool) (z : ℤ) → 0 < k → k < length es → length es ≤ 128 → slice_get es (k - 1) ≡ Some e → t e ≡ b → from_place t es k ≡ z → Within 127 (digit b +ℤ (z +ℤ z))
next_fits t es k e b z h l m is v f = subst (λ i. Within 127 i) (from_next t es k e b z h l is v f) (list_fits t es (k - 1) (omega (arith, h, l)) m)
