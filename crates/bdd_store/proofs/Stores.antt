-- The whole store, with a node more.
use Rattle.std.proofs.Common.{◌≡◌, ◌≢◌, ℕ, ◌+◌, ◌<◌, ◌≤◌, List, [], ◌∷◌, ◌++◌, length, refl, ap, sym, subst, arith}
use Rattle.std.proofs.lemmas.List.{length_push}
use Rattle.bdd_store.specs.declared.node.Node.{Node}
use Rattle.bdd_store.specs.declared.entry.Entry.{Entry}
use Rattle.bdd_store.specs.Nodes.{constant_node, node_at}
use Rattle.bdd_store.specs.Inside.{IsBranch, IsOrdered, IsDistinct, AreAnswers, IsStore}
use Rattle.bdd_store.proofs.Pushes.{ordered-push, distinct-push, computed-push}

pub store-push : (nodes : List Node) (entries : List Entry) (limit width : ℕ) (n : Node) → IsStore nodes entries limit width → length nodes ≤ limit → IsBranch nodes width (length nodes) n → ((i : ℕ) → i < length nodes → node_at nodes i ≢ n)
    → IsStore (nodes ++ n ∷ []) entries limit width
store-push nodes entries limit width n s room branch absent = record {
  ordered = ordered-push nodes n width s.ordered branch;
  distinct = distinct-push nodes n s.distinct absent;
  computed = computed-push nodes n entries s.computed;
  room = omega (arith, length_push nodes n);
}

-- the same, in the words of the code
pub store-pushed : (nodes seen nodes' : List Node) (entries : List Entry) (limit limit' width width' : ℕ) (n : Node) → IsStore nodes entries limit width → nodes ≡ seen → limit ≡ limit' → width ≡ width' →
    nodes' ≡ nodes ++ n ∷ [] → length seen ≤ limit' → IsBranch seen width' (length seen) n → ((i : ℕ) → i < length seen → node_at seen i ≢ n) → IsStore nodes' entries limit width
store-pushed nodes seen nodes' entries limit limit' width width' n s nodes_are limit_is width_is nodes'_are room branch absent =
    let room' : length nodes ≤ limit = omega (arith, ap length nodes_are) in
    let branch' : IsBranch nodes width (length nodes) n = subst (λ ns. IsBranch ns width (length ns) n) (sym nodes_are) (subst (λ w. IsBranch seen w (length seen) n) (sym width_is) branch) in
    let absent' : (i : ℕ) → i < length nodes → node_at nodes i ≢ n = subst (λ (ns : List Node). (i : ℕ) → i < length ns → node_at ns i ≢ n) (sym nodes_are) absent in
    rw nodes'_are (store-push nodes entries limit width n s room' branch' absent')

-- another table of finished calls, that says as much of the same nodes
pub store-other : (nodes : List Node) (entries : List Entry) (limit width : ℕ) → IsOrdered nodes width → IsDistinct nodes → length nodes ≤ limit + 1 → AreAnswers nodes entries → 0 < length entries → IsStore nodes entries limit width
store-other nodes entries limit width ordered distinct room answers some = record {
  ordered = ordered;
  distinct = distinct;
  computed = record { some = some; answers = answers };
  room = room;
}

-- a new store
first-ordered : (nodes : List Node) → nodes ≡ constant_node ∷ [] → IsOrdered nodes 0
first-ordered nodes is = rw is (record { some = omega arith; first = refl; branches = λ i positive within. absurd (omega arith); narrow = omega arith })

pub store-first : (nodes : List Node) (entries : List Entry) (limit : ℕ) → nodes ≡ constant_node ∷ [] → AreAnswers nodes entries → 0 < length entries → IsStore nodes entries limit 0
store-first nodes entries limit is answers some =
    let one : length nodes ≡ 1 = ap length is in
    store-other nodes entries limit 0 (first-ordered nodes is) (λ i j i_in j_in same. omega (arith, one)) (omega (arith, one)) answers some
