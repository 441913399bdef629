-- A node that is found, and one that is added.
use Rattle.std.proofs.Common.{◌≡◌, ◌≢◌, ℕ, ◌<◌, ◌≤◌, Bool, false, Some, List, [], ◌∷◌, ◌++◌, length, get_or, slice_get, ap, sym, ◌∙◌, arith, subst, inl, inr, Ok}
use Rattle.std.proofs.lemmas.List.{length_push}
use Rattle.std.proofs.lemmas.Option.{get_or_from_slice_get}
use Rattle.bfr_store.specs.declared.edge.Edge.{Edge}
use Rattle.bfr_store.specs.declared.edge.Full.{Full}
use Rattle.bfr_store.specs.declared.meaning.Meaning.{Ghosts}
use Rattle.sym_objects.specs.declared.sob.Sob.{Sob}
use Rattle.sym_objects.specs.declared.node.Node.{Node}
use Rattle.sym_objects.specs.declared.node.Node.TheVariants as node
use Rattle.sym_objects.specs.Inside.{AreProper, IsProper, IsSound}
use Rattle.sym_objects.specs.Makes.{Makes}
use Rattle.sym_objects.specs.Nodes.{values_from, object_by, constant_by, bits_by, node_at, EdgesLive}
use Rattle.sym_objects.specs.Seen.{SobsSeen, IsLive, IsWhole, is_constant, is_constant_edge, stands_for, bits_in}
use Rattle.sym_objects.specs.Table.{Marked, numbered}
use Rattle.sym_objects.proofs.Keeping.{keeps_none, keeps_add, means_add, means_of, constant_of, bits_old, bits_new, bits_of_node}
use Rattle.sym_objects.proofs.Linked.{node-before, node-last, number_cases}
use Rattle.sym_objects.proofs.Values.{PartsIn, values-push}

pub proper_parts : (bits : Sob → List Edge) (i : ℕ) (n : Node) → IsProper bits i n → PartsIn i n
proper_parts bits i (node.Character c) p = tt
proper_parts bits i (node.Symbol c) p = tt
proper_parts bits i (node.Text c) p = tt
proper_parts bits i (node.Boolean c) p = tt
proper_parts bits i (node.Sign c) p = tt
proper_parts bits i (node.Bit c r) p = p.0
proper_parts bits i (node.Pair x y) p = p
proper_parts bits i (node.Choice c x y) p = p

proper_same : (bits bytes : Sob → List Edge) (i : ℕ) (n : Node) → ((y : Sob) → y.number < i → bits y ≡ bytes y) → IsProper bits i n → IsProper bytes i n
proper_same bits bytes i (node.Character c) e p = tt
proper_same bits bytes i (node.Symbol c) e p = p
proper_same bits bytes i (node.Text c) e p = tt
proper_same bits bytes i (node.Boolean c) e p = tt
proper_same bits bytes i (node.Sign c) e p = tt
proper_same bits bytes i (node.Bit c r) e p = subst (λ (bs : List Edge). (r.number < i) × (1 ≤ length bs) × (length bs < 128) × (bs ≢ c ∷ [])) (e r p.0) p
proper_same bits bytes i (node.Pair x y) e p = p
proper_same bits bytes i (node.Choice c x y) e p = p

pub proper_push : (nodes : List Node) (n : Node) → AreProper nodes → IsProper (bits_in nodes) (length nodes) n → AreProper (nodes ++ n ∷ [])
proper_push nodes n all p i h = elim (number_cases nodes n i h) [
  | inl below ↦
      subst (λ (m : Node). IsProper (bits_in (nodes ++ n ∷ [])) i m) (sym (node-before nodes n i below))
      (proper_same (bits_in nodes) (bits_in (nodes ++ n ∷ [])) i (numbered nodes i) (λ y l. sym (bits_old nodes n y (omega (arith, l, below)))) (all i below))
  | inr last ↦
      subst (λ (m : Node). IsProper (bits_in (nodes ++ n ∷ [])) i m) (sym (node-last nodes n i last))
      (proper_same (bits_in nodes) (bits_in (nodes ++ n ∷ [])) i n (λ y l. sym (bits_old nodes n y (omega (arith, l, last)))) (subst (λ k. IsProper (bits_in nodes) k n) (sym last) p))
]

read_mark : (marks : List Bool) (i : ℕ) (r : Bool) → slice_get marks i ≡ Some r → r ≡ get_or marks i false
read_mark marks i r e = sym (get_or_from_slice_get marks i r false e)

module _ {B : Type 0} (g : Ghosts B) where
  pub mark_read : (s : SobsSeen B) (marks : List Bool) (x : Sob) (r : Bool) → marks ≡ values_from false (constant_by (is_constant_edge g)) [] s.nodes → slice_get marks x.number ≡ Some r → r ≡ is_constant g s x
  unfolding is_constant
  mark_read s marks x r e h = read_mark marks x.number r h ∙ ap (λ ms. get_or ms x.number false) e

  pub sound_push : (s : SobsSeen B) (table : Marked) (n : Node) (mark : Bool) → s.nodes ≡ table.nodes → IsSound g.constant_edge table → IsProper (bits_in s.nodes) (length s.nodes) n → mark ≡ constant_by (is_constant_edge g) (is_constant g s) n
      → IsSound g.constant_edge (record table { nodes = table.nodes ++ n ∷ []; marks = table.marks ++ mark ∷ [] })
  unfolding is_constant
  sound_push s table n mark e sound p m = record {
    proper = proper_push table.nodes n sound.proper (subst (λ (ns : List Node). IsProper (bits_in ns) (length ns) n) e p);
    marks =
        (λ i. sound.marks i ++ (m ∙ ap (λ (ns : List Node). constant_by (is_constant_edge g) (λ x. get_or (values_from false (constant_by (is_constant_edge g)) [] ns) x.number false) n) e) i ∷ [])
        ∙ sym (values-push false (constant_by (is_constant_edge g)) table.nodes n);
  }

  pub means_at : (s : SobsSeen B) (x : Sob) (n : Node) → IsLive s x → AreProper s.nodes → node_at s.nodes x ≡ n → (a : ℕ → Bool) → stands_for g s x a ≡ object_by (λ c. g.truth_of s.store c a) (λ y. stands_for g s y a) n
  means_at s x n l p e a = means_of g s x a l (proper_parts (bits_in s.nodes) x.number (node_at s.nodes x) (p x.number l)) ∙ ap (object_by (λ c. g.truth_of s.store c a) (λ y. stands_for g s y a)) e

  pub constant_at : (s : SobsSeen B) (x : Sob) (n : Node) → IsLive s x → AreProper s.nodes → node_at s.nodes x ≡ n → is_constant g s x ≡ constant_by (is_constant_edge g) (is_constant g s) n
  constant_at s x n l p e = constant_of g s x l (proper_parts (bits_in s.nodes) x.number (node_at s.nodes x) (p x.number l)) ∙ ap (constant_by (is_constant_edge g) (is_constant g s)) e

  pub makes_found : (s : SobsSeen B) (x : Sob) (n : Node) → IsWhole g s → IsLive s x → AreProper s.nodes → node_at s.nodes x ≡ n → Makes {E = Full} g s s (Ok x) (λ a. object_by (λ c. g.truth_of s.store c a) (λ y. stands_for g s y a) n)
  makes_found s x n w l p e = record { keeps = keeps_none g s w; live = l; means = means_at s x n l p e }

  pub makes_added : (old new : SobsSeen B) (x : Sob) (n : Node) → new ≡ record old { nodes = old.nodes ++ n ∷ [] } → IsWhole g old → EdgesLive (g.live old.store) n → x.number ≡ length old.nodes → Makes {E = Full} g old new (Ok x) (λ a. object_by (λ c. g.truth_of old.store c a) (λ y. stands_for g old y a) n)
  makes_added old new x n e w l h = record {
    keeps = keeps_add g old new n e w l;
    live = omega (arith, h, ap (λ (s : SobsSeen B). length s.nodes) e, length_push old.nodes n);
    means = λ a. means_add g old new n x a e h;
  }

pub bits_at : (nodes : List Node) (x : Sob) (n : Node) → x.number < length nodes → AreProper nodes → node_at nodes x ≡ n → bits_in nodes x ≡ bits_by (bits_in nodes) n
bits_at nodes x n l p e = bits_of_node nodes x l (proper_parts (bits_in nodes) x.number (node_at nodes x) (p x.number l)) ∙ ap (bits_by (bits_in nodes)) e

pub bits_added : (nodes after : List Node) (n : Node) (x : Sob) → after ≡ nodes ++ n ∷ [] → x.number ≡ length nodes → bits_in after x ≡ bits_by (bits_in nodes) n
bits_added nodes after n x e h = ap (λ (ns : List Node). bits_in ns x) e ∙ bits_new nodes n x h
