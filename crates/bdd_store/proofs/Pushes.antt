-- A node more, and what the store keeps true of its nodes and tables.
use Rattle.std.proofs.Common.{◌≡◌, ◌≢◌, ℕ, ◌<◌, ◌≤◌, Bool, cond, List, [], ◌∷◌, ◌++◌, length, get_or, refl, ap, ◌∙◌, sym, subst, inl, inr, arith}
use Rattle.std.proofs.lemmas.List.{length_push}
use Rattle.node_table.proofs.Longer.{entry-before, entry-last, number_cases, distinct-more}
use Rattle.bfr_store.specs.declared.edge.Edge.{Edge}
use Rattle.bfr_store.specs.Edges.{node_of}
use Rattle.bfr_store.proofs.Values.{truth-append}
use Rattle.bdd_store.specs.declared.node.Node.{Node}
use Rattle.bdd_store.specs.declared.entry.Entry.{Entry}
use Rattle.bdd_store.specs.Nodes.{Diagrams, past, constant_node, node_at, node_value, top_of, truth_of}
use Rattle.bdd_store.specs.Inside.{Extends, IsBranch, IsOrdered, IsDistinct, IsAnswer, IsComputed}

module _ (nodes : List Node) (n : Node) where
  node-before : (i : ℕ) → i < length nodes → node_at (nodes ++ n ∷ []) i ≡ node_at nodes i
  node-before = entry-before constant_node nodes n

  pub node-last : (i : ℕ) → i ≡ length nodes → node_at (nodes ++ n ∷ []) i ≡ n
  node-last = entry-last constant_node nodes n

  pub top-before : (e : Edge) → node_of e < length nodes → top_of (nodes ++ n ∷ []) e ≡ top_of nodes e
  unfolding top_of
  top-before e h = ap (λ (m : Node). m.variable) (node-before (node_of e) h)

  pub truth-before : (e : Edge) (a : ℕ → Bool) → node_of e < length nodes → truth_of (nodes ++ n ∷ []) e a ≡ truth_of nodes e a
  unfolding truth_of
  truth-before e a h = truth-append node_value nodes (n ∷ []) e a h

  pub branch-before : (width i : ℕ) (m : Node) → i ≤ length nodes → IsBranch nodes width i m → IsBranch (nodes ++ n ∷ []) width i m
  branch-before width i m h b = record {
    high_below = b.high_below;
    low_below = b.low_below;
    regular = b.regular;
    differ = b.differ;
    above_high = omega (arith, b.above_high, b.high_below, top-before m.high (omega (arith, b.high_below)));
    above_low = omega (arith, b.above_low, b.low_below, top-before m.low (omega (arith, b.low_below)));
    in_width = b.in_width;
  }

  pub ordered-push : (width : ℕ) → IsOrdered nodes width → IsBranch nodes width (length nodes) n → IsOrdered (nodes ++ n ∷ []) width
  ordered-push width o b = record {
    some = omega (arith, length_push nodes n);
    first = node-before 0 o.some ∙ o.first;
    branches = λ i positive within. elim (number_cases nodes n i within) [
      | inl below ↦ subst (λ m. IsBranch (nodes ++ n ∷ []) width i m) (sym (node-before i below)) (branch-before width i (node_at nodes i) (omega arith) (o.branches i positive below))
      | inr last ↦ subst (λ m. IsBranch (nodes ++ n ∷ []) width i m) (sym (node-last i last)) (branch-before width i n (omega arith) (subst (λ k. IsBranch nodes width k n) (sym last) b))
    ];
    narrow = o.narrow;
  }

  pub distinct-push : IsDistinct nodes → ((i : ℕ) → i < length nodes → node_at nodes i ≢ n) → IsDistinct (nodes ++ n ∷ [])
  distinct-push = distinct-more constant_node nodes n

  pub answer-push : (e : Entry) → IsAnswer nodes e → IsAnswer (nodes ++ n ∷ []) e
  answer-push e p = record {
    test_live = omega (arith, p.test_live, length_push nodes n);
    high_live = omega (arith, p.high_live, length_push nodes n);
    low_live = omega (arith, p.low_live, length_push nodes n);
    answer_live = omega (arith, p.answer_live, length_push nodes n);
    above = omega (arith, p.above, top-before e.test p.test_live, top-before e.high p.high_live, top-before e.low p.low_live, top-before e.answer p.answer_live);
    truth = λ a. truth-before e.answer a p.answer_live ∙ p.truth a ∙ (λ i. cond (sym (truth-before e.test a p.test_live) i) (sym (truth-before e.high a p.high_live) i) (sym (truth-before e.low a p.low_live) i));
  }

  pub computed-push : (entries : List Entry) → IsComputed nodes entries → IsComputed (nodes ++ n ∷ []) entries
  computed-push entries p = record {
    some = p.some;
    answers = λ i d h. answer-push (get_or entries i d) (p.answers i d h);
  }

pub extends-push : (old : Diagrams) (n : Node) → IsOrdered old.nodes old.width → IsDistinct old.nodes → IsBranch old.nodes old.width (length old.nodes) n → ((i : ℕ) → i < length old.nodes → node_at old.nodes i ≢ n) → Extends old (record old { nodes = old.nodes ++ n ∷ [] })
extends-push old n o d branch absent = record {
  stays = λ e h. omega (arith, h, length_push old.nodes n);
  same = λ e a h. truth-before old.nodes n e a h;
  tops = λ e h. top-before old.nodes n e h;
  same_limit = refl;
  same_width = refl;
  no_fewer = omega (arith, length_push old.nodes n);
  ordered = ordered-push old.nodes n old.width o branch;
  distinct = distinct-push old.nodes n d absent;
}

-- one call after another
pub extends-then : (a b c : Diagrams) → Extends a b → Extends b c → Extends a c
extends-then a b c p q = record {
  stays = λ e h. q.stays e (p.stays e h);
  same = λ e x h. q.same e x (p.stays e h) ∙ p.same e x h;
  tops = λ e h. q.tops e (p.stays e h) ∙ p.tops e h;
  same_limit = q.same_limit ∙ p.same_limit;
  same_width = q.same_width ∙ p.same_width;
  no_fewer = omega (arith, p.no_fewer, q.no_fewer);
  ordered = q.ordered;
  distinct = q.distinct;
}

-- a greater width
pub ordered-widen : (nodes : List Node) (width wider : ℕ) → IsOrdered nodes width → width ≤ wider → wider ≤ past → IsOrdered nodes wider
ordered-widen nodes width wider o h narrow = record {
  some = o.some;
  first = o.first;
  branches = λ i positive within.
      let b = o.branches i positive within in
      record { high_below = b.high_below; low_below = b.low_below; regular = b.regular; differ = b.differ; above_high = b.above_high; above_low = b.above_low; in_width = omega (arith, b.in_width, h) };
  narrow = narrow;
}
