-- The bits of integers.
use Rattle.std.proofs.Common.{◌≡◌, ◌≢◌, ℕ, zero, suc, ◌+◌, ◌<◌, ◌≤◌, Bool, true, false, ◌&&◌, List, [], ◌∷◌, ◌++◌, length, get_or, map, refl, ap, sym, ◌∙◌, arith, subst, Result, Ok, Err, IfOk, Option, Some, None, IfSome, append_assoc}
use Rattle.std.specs.Prelude.{◌+ℤ◌}
use Rattle.std.specs.List.{All, list_all}
use Rattle.std.proofs.lemmas.List.{length-map}
use Rattle.std.proofs.lemmas.List.Elements.{All-nil, All-cons}
use Rattle.bfr_store.specs.declared.edge.Full.{Full}
use Rattle.bfr_store.specs.declared.edge.Edge.{Edge}
use Rattle.bfr_store.specs.declared.meaning.Meaning.{Ghosts}
use Rattle.gl_logic.specs.Object.{Object, Int}
use Rattle.gl_logic.specs.PrimValue.{integer_in}
use Rattle.gl_logic.specs.TwosComplement.{digit, integer_of}
use Rattle.sym_objects.specs.declared.sob.Sob.{Sob}
use Rattle.sym_objects.specs.declared.sob.SobNode.TheVariants as kind
use Rattle.sym_objects.specs.declared.node.Node.{Node}
use Rattle.sym_objects.specs.declared.node.Node.TheVariants as node
use Rattle.sym_objects.specs.Bits.{trimmed, IsTrimmed}
use Rattle.sym_objects.specs.Inside.{AreProper, IsProper}
use Rattle.sym_objects.specs.Integers.{AreBitsOf, bits_behind}
use Rattle.sym_objects.specs.Keeps.{Keeps}
use Rattle.sym_objects.specs.Nodes.{object_by, constant_by, bits_by, kind_of, node_at, EdgesLive}
use Rattle.sym_objects.specs.Seen.{SobsSeen, IsLive, IsWhole, is_constant, is_constant_edge, stands_for, bits_in}
use Rattle.sym_objects.proofs.Adding.{bits_at, constant_at, means_at}
use Rattle.sym_objects.proofs.Trimmed.{integer_cons, map_same, trimmed_cons, trims}
use Rattle.sym_objects.specs.Makes.{Makes}

and_unit : (b : Bool) → b ≡ (b && true)
and_unit true = refl
and_unit false = refl

no_bits : (nodes : List Node) (x : Sob) → 1 ≤ length (bits_in nodes x) → bits_in nodes x ≡ [] → ⊥
no_bits nodes x h e = omega (arith, h, ap length e)

-- ---- the walk along an integer
abbrev pub turns_left : Option Sob → ℕ
turns_left None = 0
turns_left (Some r) = r.number + 1

module _ (bits : Sob → List Edge) where
  abbrev IsRest : ℕ → Option Sob → Type 0
  IsRest n o = IfSome o (λ (r : Sob). (r.number < n) × (1 ≤ length (bits r)))

  pub rest_live : (n m : ℕ) (o : Option Sob) → IsRest n o → n ≤ m → IsRest m o
  rest_live n m None h l = tt
  rest_live n m (Some r) h l = (omega (arith, h.0, l), h.1)

  pub rest_falls : (x : Sob) (o p : Option Sob) → p ≡ Some x → IsRest x.number o → turns_left o < turns_left p
  rest_falls x None p e h = omega (arith, ap turns_left e)
  rest_falls x (Some r) p e h = omega (arith, ap turns_left e, h.0)

  pub rest_next : (seen after : List Edge) (e : Edge) (x : Sob) (n : Node) (o p : Option Sob) (whole : List Edge) → p ≡ Some x → seen ++ bits_behind bits p ≡ whole → bits x ≡ bits_by bits n → bits_by bits n ≡ e ∷ bits_behind bits o → after ≡ seen ++ e ∷ [] → after ++ bits_behind bits o ≡ whole
  rest_next seen after e x n o p whole is are b split a =
      ap (λ bs. bs ++ bits_behind bits o) a ∙ (append_assoc seen (e ∷ []) (bits_behind bits o) ∙ (ap (λ bs. seen ++ bs) (sym split ∙ sym b) ∙ (ap (λ q. seen ++ bits_behind bits q) (sym is) ∙ are)))

-- a node with bits is one of an integer
pub some_bits : (of : Sob → List Edge) (n : Node) → 1 ≤ length (bits_by of n) → kind_of n ≡ kind.Integer
some_bits of (node.Character c) h = absurd (omega (arith, h))
some_bits of (node.Symbol c) h = absurd (omega (arith, h))
some_bits of (node.Text c) h = absurd (omega (arith, h))
some_bits of (node.Boolean c) h = absurd (omega (arith, h))
some_bits of (node.Sign c) h = refl
some_bits of (node.Bit c r) h = refl
some_bits of (node.Pair a d) h = absurd (omega (arith, h))
some_bits of (node.Choice c a d) h = absurd (omega (arith, h))

module _ {B : Type 0} (g : Ghosts B) (s : SobsSeen B) where
  -- a sign
  pub bits_sign : (x : Sob) (e : Edge) → g.live s.store e → is_constant g s x ≡ is_constant_edge g e → ((a : ℕ → Bool) → stands_for g s x a ≡ Int (integer_of (g.truth_of s.store e a ∷ []))) → AreBitsOf g s x (e ∷ [])
  bits_sign x e l c m = record {
    some = omega arith;
    most = omega arith;
    edges = All-cons (g.live s.store) e [] l (All-nil (g.live s.store));
    value = m;
    trimmed = tt;
    constant = c ∙ and_unit (is_constant_edge g e);
  }

  -- a bit in front of others
  pub bits_bit : (x : Sob) (e : Edge) (bs : List Edge) (i : (ℕ → Bool) → Object) (k : Bool) → g.live s.store e → All (g.live s.store) bs → 1 ≤ length bs → length bs < 128 → IsTrimmed bs → bs ≢ e ∷ []
      → ((a : ℕ → Bool) → i a ≡ Int (integer_of (map (λ c. g.truth_of s.store c a) bs))) → k ≡ list_all (is_constant_edge g) bs
      → is_constant g s x ≡ (is_constant_edge g e && k) → ((a : ℕ → Bool) → stands_for g s x a ≡ Int (digit (g.truth_of s.store e a) +ℤ (integer_in (i a) +ℤ integer_in (i a))))
      → AreBitsOf g s x (e ∷ bs)
  bits_bit x e bs i k l ls some few t other is ks c m = record {
    some = omega arith;
    most = omega (arith, few);
    edges = All-cons (g.live s.store) e bs l ls;
    value = λ a. m a ∙ ((λ j. Int (digit (g.truth_of s.store e a) +ℤ (integer_in (is a j) +ℤ integer_in (is a j)))) ∙ ap Int (sym (integer_cons (g.truth_of s.store e a) (map (λ c. g.truth_of s.store c a) bs) (omega (arith, some, length-map bs (λ c. g.truth_of s.store c a))))));
    trimmed = trimmed_cons e bs t other;
    constant = c ∙ ap (λ b. is_constant_edge g e && b) ks;
  }

  module _ (w : IsWhole g s) (p : AreProper s.nodes) where
    -- each node of an integer, from those before it
    bits_below : (k : ℕ) (x : Sob) → x.number < k → IsLive s x → 1 ≤ length (bits_in s.nodes x) → AreBitsOf g s x (bits_in s.nodes x)
    bits_below zero x h l b = absurd (omega (arith, h))
    bits_below (suc k) x h l b = by (node_at s.nodes x) refl (λ r. bits_below k r) where
      by : (n : Node) → node_at s.nodes x ≡ n → ((r : Sob) → r.number < k → IsLive s r → 1 ≤ length (bits_in s.nodes r) → AreBitsOf g s r (bits_in s.nodes r)) → AreBitsOf g s x (bits_in s.nodes x)
      by (node.Character c) e before = absurd (no_bits s.nodes x b (bits_at s.nodes x (node.Character c) l p e))
      by (node.Symbol c) e before = absurd (no_bits s.nodes x b (bits_at s.nodes x (node.Symbol c) l p e))
      by (node.Text c) e before = absurd (no_bits s.nodes x b (bits_at s.nodes x (node.Text c) l p e))
      by (node.Boolean c) e before = absurd (no_bits s.nodes x b (bits_at s.nodes x (node.Boolean c) l p e))
      by (node.Pair a d) e before = absurd (no_bits s.nodes x b (bits_at s.nodes x (node.Pair a d) l p e))
      by (node.Choice c a d) e before = absurd (no_bits s.nodes x b (bits_at s.nodes x (node.Choice c a d) l p e))
      by (node.Sign c) e before =
          subst (λ (bs : List Edge). AreBitsOf g s x bs) (sym (bits_at s.nodes x (node.Sign c) l p e))
          (bits_sign x c (subst (λ (n : Node). EdgesLive (g.live s.store) n) e (w x.number (node.Character 0) l)) (constant_at g s x (node.Sign c) l p e) (means_at g s x (node.Sign c) l p e))
      by (node.Bit c r) e before =
          let proper : IsProper (bits_in s.nodes) x.number (node.Bit c r) = subst (λ (n : Node). IsProper (bits_in s.nodes) x.number n) e (p x.number l) in
          let below : IsLive s r = omega (arith, proper.0, l) in
          let rest : AreBitsOf g s r (bits_in s.nodes r) = before r (omega (arith, proper.0, h)) below proper.1 in
          subst (λ (bs : List Edge). AreBitsOf g s x bs) (sym (bits_at s.nodes x (node.Bit c r) l p e))
          (bits_bit x c (bits_in s.nodes r) (stands_for g s r) (is_constant g s r) (subst (λ (n : Node). EdgesLive (g.live s.store) n) e (w x.number (node.Character 0) l)) rest.edges proper.1 proper.2 rest.trimmed proper.3
          rest.value rest.constant (constant_at g s x (node.Bit c r) l p e) (means_at g s x (node.Bit c r) l p e))

    pub bits_are : (x : Sob) → IsLive s x → 1 ≤ length (bits_in s.nodes x) → AreBitsOf g s x (bits_in s.nodes x)
    bits_are x l b = bits_below (x.number + 1) x (omega arith) l b

module _ {B : Type 0} (g : Ghosts B) (old new : SobsSeen B) where
  -- what is kept are the bits of what they were the bits of
  pub bits_kept : Keeps g old new → (x : Sob) (bs : List Edge) → IsLive old x → AreBitsOf g old x bs → AreBitsOf g new x bs
  bits_kept k x bs l b = record {
    some = b.some;
    most = b.most;
    edges = λ i d h. k.store.stays (get_or bs i d) (b.edges i d h);
    value = λ a. k.same x a l ∙ (b.value a ∙ ap (λ ts. Int (integer_of ts)) (map_same (λ c. g.truth_of old.store c a) (λ c. g.truth_of new.store c a) (g.live old.store) (λ c h. sym (k.store.same c a h)) bs b.edges));
    trimmed = b.trimmed;
    constant = k.constants x l ∙ b.constant;
  }

  pub sign_made : (result : Result Sob Full) (e : Edge) → g.live old.store e
      → Makes g old new result (λ a. object_by (λ c. g.truth_of old.store c a) (λ y. stands_for g old y a) (node.Sign e))
      → IfOk result (λ r. is_constant g new r ≡ constant_by (is_constant_edge g) (is_constant g old) (node.Sign e))
      → IfOk result (λ r. bits_in new.nodes r ≡ bits_by (bits_in old.nodes) (node.Sign e))
      → IfOk result (λ r. AreBitsOf g new r (bits_in new.nodes r))
  sign_made (Err f) e l m c b = tt
  sign_made (Ok r) e l m c b =
      subst (λ (bs : List Edge). AreBitsOf g new r bs) (sym b)
      (bits_sign g new r e (m.keeps.store.stays e l) c (λ a. m.means a ∙ ap (λ t. Int (integer_of (t ∷ []))) (sym (m.keeps.store.same e a l))))

  pub bit_made : (result : Result Sob Full) (e : Edge) (rest : Sob) → g.live old.store e → IsLive old rest → AreBitsOf g old rest (bits_in old.nodes rest) → length (bits_in old.nodes rest) < 128 → bits_in old.nodes rest ≢ e ∷ []
      → Makes g old new result (λ a. object_by (λ c. g.truth_of old.store c a) (λ y. stands_for g old y a) (node.Bit e rest))
      → IfOk result (λ r. is_constant g new r ≡ constant_by (is_constant_edge g) (is_constant g old) (node.Bit e rest))
      → IfOk result (λ r. bits_in new.nodes r ≡ bits_by (bits_in old.nodes) (node.Bit e rest))
      → IfOk result (λ r. AreBitsOf g new r (bits_in new.nodes r))
  bit_made (Err f) e rest l lr are few other m c b = tt
  bit_made (Ok r) e rest l lr are few other m c b =
      let bs = bits_in old.nodes rest in
      let now = bits_kept m.keeps rest bs lr are in
      subst (λ (xs : List Edge). AreBitsOf g new r xs) (sym b)
      (bits_bit g new r e bs (stands_for g new rest) (is_constant g new rest) (m.keeps.store.stays e l) now.edges now.some few now.trimmed other now.value now.constant
      (c ∙ ap (λ k. is_constant_edge g e && k) (sym (m.keeps.constants rest lr)))
      (λ a. m.means a ∙ (let t = sym (m.keeps.store.same e a l) in let v = sym (m.keeps.same rest a lr) in λ i. Int (digit (t i) +ℤ (integer_in (v i) +ℤ integer_in (v i))))))

  pub integer_makes : (r : Sob) (bits : List Edge) → Keeps g old new → IsLive new r → AreBitsOf g new r (bits_in new.nodes r) → bits_in new.nodes r ≡ trimmed bits → new.store ≡ old.store → 1 ≤ length bits
      → Makes {E = Full} g old new (Ok r) (λ a. Int (integer_of (map (λ e. g.truth_of old.store e a) bits)))
  integer_makes r bits k l b is same some = record {
    keeps = k;
    live = l;
    means = λ a. b.value a ∙ (ap (λ es. Int (integer_of (map (λ e. g.truth_of new.store e a) es))) is ∙ (ap Int ((trims bits some).value (λ e. g.truth_of new.store e a)) ∙ ap (λ s. Int (integer_of (map (λ e. g.truth_of s e a) bits))) same));
  }

  pub integer_constant : (r : Sob) (bits : List Edge) → AreBitsOf g new r (bits_in new.nodes r) → bits_in new.nodes r ≡ trimmed bits → 1 ≤ length bits → is_constant g new r ≡ list_all (is_constant_edge g) bits
  integer_constant r bits b is some = b.constant ∙ (ap (list_all (is_constant_edge g)) is ∙ (trims bits some).all (is_constant_edge g))
