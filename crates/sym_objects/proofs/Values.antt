-- What the nodes of a list come to: each new node leaves those before it as they were.
use Rattle.std.proofs.Common.{◌≡◌, ℕ, ◌+◌, ◌<◌, ◌≤◌, Bool, cond, ◌&&◌, List, [], ◌∷◌, ◌++◌, length, get_or, take, zero, suc, refl, ap, sym, ◌∙◌, arith, length-append}
use Rattle.std.proofs.lemmas.List.{get_or_append_left, get_or_push}
use Rattle.std.specs.Prelude.{◌+ℤ◌}
use Rattle.bfr_store.specs.declared.edge.Edge.{Edge}
use Rattle.gl_logic.specs.Object.{Object, Int, Cons, nil, boolean_object}
use Rattle.gl_logic.specs.PrimValue.{integer_in}
use Rattle.gl_logic.specs.TwosComplement.{digit, integer_of}
use Rattle.sym_objects.specs.declared.sob.Sob.{Sob}
use Rattle.sym_objects.specs.declared.node.Node.{Node}
use Rattle.sym_objects.specs.declared.node.Node.TheVariants as node
use Rattle.sym_objects.specs.Nodes.{values_from, object_by, constant_by, bits_by, EdgesLive}

-- each part is a node before this one
abbrev pub PartsIn : ℕ → Node → Type 0
PartsIn i (node.Bit e r) = r.number < i
PartsIn i (node.Pair a d) = (a.number < i) × (d.number < i)
PartsIn i (node.Choice e a b) = (a.number < i) × (b.number < i)
PartsIn i _ = Unit {0}

-- a node says the same of parts that come to the same
abbrev pub IsLocal : {A : Type 0} → ((Sob → A) → Node → A) → Type 0
IsLocal {A = A} says = (f h : Sob → A) (i : ℕ) (n : Node) → PartsIn i n → ((y : Sob) → y.number < i → f y ≡ h y) → says f n ≡ says h n

module _ {A : Type 0} (none : A) (says : (Sob → A) → Node → A) where
  abbrev part : List A → Sob → A
  part vs x = get_or vs x.number none

  pub values-kept : (before : List A) (ns : List Node) (i : ℕ) → i < length before → get_or (values_from none says before ns) i none ≡ get_or before i none
  values-kept before [] i h = refl
  values-kept before (n ∷ ns) i h =
      values-kept (before ++ says (part before) n ∷ []) ns i (omega (arith, h, length-append before (says (part before) n ∷ [])))
      ∙ get_or_append_left before (says (part before) n ∷ []) none i h

  pub values-append : (before : List A) (xs ys : List Node) → values_from none says before (xs ++ ys) ≡ values_from none says (values_from none says before xs) ys
  values-append before [] ys = refl
  values-append before (x ∷ xs) ys = values-append (before ++ says (part before) x ∷ []) xs ys

  pub values-length : (before : List A) (ns : List Node) → length (values_from none says before ns) ≡ length before + length ns
  values-length before [] = omega arith
  values-length before (n ∷ ns) = values-length (before ++ says (part before) n ∷ []) ns ∙ omega (arith, length-append before (says (part before) n ∷ []))

  values-at : (before : List A) (ns : List Node) (i : ℕ) (d : Node) → i < length ns → (k : ℕ) → k ≡ length before + i → get_or (values_from none says before ns) k none ≡ says (part (values_from none says before (take i ns))) (get_or ns i d)
  values-at before [] i d h k e = absurd (omega (arith, h))
  values-at before (n ∷ ns) zero d h k e =
      values-kept (before ++ says (part before) n ∷ []) ns k (omega (arith, e, length-append before (says (part before) n ∷ [])))
      ∙ get_or_push before (says (part before) n) none k (omega (arith, e))
  values-at before (n ∷ ns) (suc i) d h k e =
      values-at (before ++ says (part before) n ∷ []) ns i d (omega (arith, h)) k (omega (arith, e, length-append before (says (part before) n ∷ [])))

  -- what a front of the nodes comes to, it comes to in the whole
  values-front : (before : List A) (ns : List Node) (i k : ℕ) → k < length before + i → i ≤ length ns → get_or (values_from none says before (take i ns)) k none ≡ get_or (values_from none says before ns) k none
  values-front before [] zero k h l = refl
  values-front before [] (suc i) k h l = absurd (omega (arith, l))
  values-front before (n ∷ ns) zero k h l = sym (values-kept before (n ∷ ns) k (omega (arith, h)))
  values-front before (n ∷ ns) (suc i) k h l =
      values-front (before ++ says (part before) n ∷ []) ns i k (omega (arith, h, length-append before (says (part before) n ∷ []))) (omega (arith, l))

  -- a node comes to what it says of the whole
  pub values-says : IsLocal says → (ns : List Node) (i : ℕ) (d : Node) → i < length ns → PartsIn i (get_or ns i d) → get_or (values_from none says [] ns) i none ≡ says (part (values_from none says [] ns)) (get_or ns i d)
  values-says local ns i d h p =
      values-at [] ns i d h i (omega arith)
      ∙ local (part (values_from none says [] (take i ns))) (part (values_from none says [] ns)) i (get_or ns i d) p (λ y l. values-front [] ns i y.number (omega (arith, l)) (omega (arith, h)))

  -- one more node
  pub values-push : (ns : List Node) (n : Node) → values_from none says [] (ns ++ n ∷ []) ≡ values_from none says [] ns ++ says (part (values_from none says [] ns)) n ∷ []
  values-push ns n = values-append [] ns (n ∷ [])

  pub values-old : (ns : List Node) (n : Node) (i : ℕ) → i < length ns → get_or (values_from none says [] (ns ++ n ∷ [])) i none ≡ get_or (values_from none says [] ns) i none
  values-old ns n i h =
      ap (λ xs. get_or xs i none) (values-append [] ns (n ∷ []))
      ∙ values-kept (values_from none says [] ns) (n ∷ []) i (omega (arith, h, values-length [] ns))

  pub values-new : (ns : List Node) (n : Node) (k : ℕ) → k ≡ length ns → get_or (values_from none says [] (ns ++ n ∷ [])) k none ≡ says (part (values_from none says [] ns)) n
  values-new ns n k e =
      ap (λ xs. get_or xs k none) (values-append [] ns (n ∷ []))
      ∙ get_or_push (values_from none says [] ns) (says (part (values_from none says [] ns)) n) none k (omega (arith, e, values-length [] ns))

-- where nodes say the same by two rules, they come to the same
pub values-rules : {A : Type 0} (none : A) (says tells : (Sob → A) → Node → A) (P : Node → Type 0) → ((f : Sob → A) (n : Node) → P n → says f n ≡ tells f n) → (before : List A) (ns : List Node) → ((i : ℕ) (d : Node) → i < length ns → P (get_or ns i d)) → values_from none says before ns ≡ values_from none tells before ns
values-rules none says tells P e before [] w = refl
values-rules none says tells P e before (n ∷ ns) w =
    ap (λ x. values_from none says (before ++ x ∷ []) ns) (e (λ x. get_or before x.number none) n (w 0 n (omega arith)))
    ∙ values-rules none says tells P e (before ++ tells (λ x. get_or before x.number none) n ∷ []) ns (λ i d h. w (suc i) d (omega (arith, h)))

-- ---- what nodes say is local
pub object_by-local : (t : Edge → Bool) → IsLocal (object_by t)
object_by-local t f h i (node.Character c) p e = refl
object_by-local t f h i (node.Symbol c) p e = refl
object_by-local t f h i (node.Text c) p e = refl
object_by-local t f h i (node.Boolean c) p e = refl
object_by-local t f h i (node.Sign c) p e = refl
object_by-local t f h i (node.Bit c r) p e = ap (λ z. Int (digit (t c) +ℤ (integer_in z +ℤ integer_in z))) (e r p)
object_by-local t f h i (node.Pair x y) p e = λ j. Cons (e x p.0 j) (e y p.1 j)
object_by-local t f h i (node.Choice c x y) p e = λ j. cond (t c) (e x p.0 j) (e y p.1 j)

pub constant_by-local : (edge : Edge → Bool) → IsLocal (constant_by edge)
constant_by-local edge f h i (node.Character c) p e = refl
constant_by-local edge f h i (node.Symbol c) p e = refl
constant_by-local edge f h i (node.Text c) p e = refl
constant_by-local edge f h i (node.Boolean c) p e = refl
constant_by-local edge f h i (node.Sign c) p e = refl
constant_by-local edge f h i (node.Bit c r) p e = ap (λ z. edge c && z) (e r p)
constant_by-local edge f h i (node.Pair x y) p e = λ j. e x p.0 j && e y p.1 j
constant_by-local edge f h i (node.Choice c x y) p e = refl

pub bits_by-local : IsLocal bits_by
bits_by-local f h i (node.Character c) p e = refl
bits_by-local f h i (node.Symbol c) p e = refl
bits_by-local f h i (node.Text c) p e = refl
bits_by-local f h i (node.Boolean c) p e = refl
bits_by-local f h i (node.Sign c) p e = refl
bits_by-local f h i (node.Bit c r) p e = ap (λ z. c ∷ z) (e r p)
bits_by-local f h i (node.Pair x y) p e = refl
bits_by-local f h i (node.Choice c x y) p e = refl

-- the truths of a node's edges alone count
pub object_by-edges : (t u : Edge → Bool) (live : Edge → Type 0) → ((c : Edge) → live c → t c ≡ u c) → (f : Sob → Object) (n : Node) → EdgesLive live n → object_by t f n ≡ object_by u f n
object_by-edges t u live e f (node.Character c) p = refl
object_by-edges t u live e f (node.Symbol c) p = refl
object_by-edges t u live e f (node.Text c) p = refl
object_by-edges t u live e f (node.Boolean c) p = ap boolean_object (e c p)
object_by-edges t u live e f (node.Sign c) p = ap (λ b. Int (integer_of (b ∷ []))) (e c p)
object_by-edges t u live e f (node.Bit c r) p = ap (λ b. Int (digit b +ℤ (integer_in (f r) +ℤ integer_in (f r)))) (e c p)
object_by-edges t u live e f (node.Pair x y) p = refl
object_by-edges t u live e f (node.Choice c x y) p = ap (λ b. cond b (f x) (f y)) (e c p)

-- where the live edges' truths stay, so do the objects
pub objects-edges : (t u : Edge → Bool) (live : Edge → Type 0) → ((c : Edge) → live c → t c ≡ u c) → (ns : List Node) → ((i : ℕ) (d : Node) → i < length ns → EdgesLive live (get_or ns i d)) → values_from nil (object_by t) [] ns ≡ values_from nil (object_by u) [] ns
objects-edges t u live e ns w = values-rules nil (object_by t) (object_by u) (EdgesLive live) (object_by-edges t u live e) [] ns w
