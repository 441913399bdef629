-- A node more, and what the store keeps true of its nodes.
use Rattle.std.proofs.Common.{◌≡◌, ◌≢◌, ℕ, ◌<◌, ◌≤◌, Bool, List, [], ◌∷◌, ◌++◌, length, refl, ap, ◌∙◌, sym, subst, inl, inr, arith}
use Rattle.std.proofs.lemmas.List.{length_push}
use Rattle.node_table.proofs.Longer.{entry-before, entry-last, number_cases, distinct-more}
use Rattle.bfr_store.specs.declared.edge.Edge.{Edge}
use Rattle.bfr_store.specs.Edges.{node_of}
use Rattle.bfr_store.proofs.Values.{truth-append}
use Rattle.aig_store.specs.declared.node.AigNode.{AigNode}
use Rattle.aig_store.specs.declared.node.AigNode.TheVariants.{Constant, Var, And}
use Rattle.aig_store.specs.Nodes.{Graph, node_at, node_value, truth_of}
use Rattle.aig_store.specs.Inside.{Extends, IsProper, IsOrdered, IsDistinct}

module _ (nodes : List AigNode) (n : AigNode) where
  node-before : (i : ℕ) → i < length nodes → node_at (nodes ++ n ∷ []) i ≡ node_at nodes i
  node-before = entry-before Constant nodes n

  pub node-last : (i : ℕ) → i ≡ length nodes → node_at (nodes ++ n ∷ []) i ≡ n
  node-last = entry-last Constant nodes n

  pub truth-before : (e : Edge) (a : ℕ → Bool) → node_of e < length nodes → truth_of (nodes ++ n ∷ []) e a ≡ truth_of nodes e a
  unfolding truth_of
  truth-before e a h = truth-append node_value nodes (n ∷ []) e a h

  pub ordered-push : (width : ℕ) → IsOrdered nodes width → IsProper width (length nodes) n → IsOrdered (nodes ++ n ∷ []) width
  ordered-push width o p = record {
    some = omega (arith, length_push nodes n);
    first = node-before 0 o.some ∙ o.first;
    proper = λ i positive within. elim (number_cases nodes n i within) [
      | inl below ↦ subst (IsProper width i) (sym (node-before i below)) (o.proper i positive below)
      | inr last ↦ subst (IsProper width i) (sym (node-last i last)) (subst (λ k. IsProper width k n) (sym last) p)
    ];
  }

  pub distinct-push : IsDistinct nodes → ((i : ℕ) → i < length nodes → node_at nodes i ≢ n) → IsDistinct (nodes ++ n ∷ [])
  distinct-push = distinct-more Constant nodes n

pub extends-push : (old : Graph) (n : AigNode) → IsOrdered old.nodes old.width → IsDistinct old.nodes → IsProper old.width (length old.nodes) n → ((i : ℕ) → i < length old.nodes → node_at old.nodes i ≢ n) → Extends old (record old { nodes = old.nodes ++ n ∷ [] })
extends-push old n o d proper absent = record {
  stays = λ e h. omega (arith, h, length_push old.nodes n);
  same = λ e a h. truth-before old.nodes n e a h;
  same_limit = refl;
  same_width = refl;
  no_fewer = omega (arith, length_push old.nodes n);
  ordered = ordered-push old.nodes n old.width o proper;
  distinct = distinct-push old.nodes n d absent;
}

pub extends-none : (old : Graph) → IsOrdered old.nodes old.width → IsDistinct old.nodes → Extends old old
extends-none old o d = record { stays = λ e h. h; same = λ e a h. refl; same_limit = refl; same_width = refl; no_fewer = omega arith; ordered = o; distinct = d }

-- one call after another
pub extends-then : (a b c : Graph) → Extends a b → Extends b c → Extends a c
extends-then a b c p q = record {
  stays = λ e h. q.stays e (p.stays e h);
  same = λ e x h. q.same e x (p.stays e h) ∙ p.same e x h;
  same_limit = q.same_limit ∙ p.same_limit;
  same_width = q.same_width ∙ p.same_width;
  no_fewer = omega (arith, p.no_fewer, q.no_fewer);
  ordered = q.ordered;
  distinct = q.distinct;
}

-- a greater width
proper-widen : (width wider i : ℕ) → width ≤ wider → (n : AigNode) → IsProper width i n → IsProper wider i n
proper-widen width wider i h Constant p = p
proper-widen width wider i h (Var k) p = omega (arith, p, h)
proper-widen width wider i h (And x y) p = p

pub ordered-widen : (nodes : List AigNode) (width wider : ℕ) → IsOrdered nodes width → width ≤ wider → IsOrdered nodes wider
ordered-widen nodes width wider o h = record {
  some = o.some;
  first = o.first;
  proper = λ i positive within. proper-widen width wider i h (node_at nodes i) (o.proper i positive within);
}
