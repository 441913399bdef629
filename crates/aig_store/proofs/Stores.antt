-- The whole store, with a node more.
use Rattle.std.proofs.Common.{◌≡◌, ◌≢◌, ℕ, ◌+◌, ◌<◌, ◌≤◌, List, [], ◌∷◌, ◌++◌, length, get_or, refl, ap, ◌∙◌, sym, subst, inl, inr, arith, false}
use Rattle.std.proofs.lemmas.List.{length_push, get_or_append_left, get_or_push}
use Rattle.std.proofs.lemmas.Bool.{cases_lt}
use Rattle.aig_store.specs.declared.node.AigNode.{AigNode}
use Rattle.aig_store.specs.declared.node.AigNode.TheVariants.{Constant}
use Rattle.aig_store.specs.declared.mark.Mark.{Mark}
use Rattle.aig_store.specs.Nodes.{node_at}
use Rattle.aig_store.specs.Inside.{IsProper, IsOrdered, IsDistinct, AreMarkedBy, IsStore, call_at}
use Rattle.aig_store.proofs.Pushes.{ordered-push, distinct-push}

abbrev pub blank : Mark
blank = record { call = 0; value = false }

pub marked-push : (calls : ℕ) (marks : List Mark) → AreMarkedBy calls marks → AreMarkedBy calls (marks ++ blank ∷ [])
marked-push calls marks m i within = elim (cases_lt i (length marks)) [
  | inl below ↦ omega (arith, m i below, ap (λ (k : Mark). k.call) (get_or_append_left marks (blank ∷ []) blank i below))
  | inr above ↦ omega (arith, ap (λ (k : Mark). k.call) (get_or_push marks blank blank i (omega (arith, within, length_push marks blank))))
]

pub store-push : (nodes : List AigNode) (marks : List Mark) (calls limit width : ℕ) (n : AigNode) → IsStore nodes marks calls limit width → length nodes ≤ limit → IsProper width (length nodes) n → ((i : ℕ) → i < length nodes → node_at nodes i ≢ n)
    → IsStore (nodes ++ n ∷ []) (marks ++ blank ∷ []) calls limit width
store-push nodes marks calls limit width n s room proper absent = record {
  ordered = ordered-push nodes n width s.ordered proper;
  distinct = distinct-push nodes n s.distinct absent;
  one_each = omega (arith, s.one_each, length_push nodes n, length_push marks blank);
  marked = marked-push calls marks s.marked;
  room = omega (arith, length_push nodes n);
}

-- the same, in the words of the code
pub store-pushed : (nodes seen nodes' : List AigNode) (marks marks' : List Mark) (calls limit limit' width width' : ℕ) (n : AigNode) (m : Mark) →
    IsStore nodes marks calls limit width → nodes ≡ seen → limit ≡ limit' → width ≡ width' → nodes' ≡ nodes ++ n ∷ [] → marks' ≡ marks ++ m ∷ [] → m ≡ blank →
    length seen ≤ limit' → IsProper width' (length seen) n → ((i : ℕ) → i < length seen → node_at seen i ≢ n) → IsStore nodes' marks' calls limit width
store-pushed nodes seen nodes' marks marks' calls limit limit' width width' n m s nodes_are limit_is width_is nodes'_are marks'_are m_is room proper absent =
    let room' : length nodes ≤ limit = omega (arith, ap length nodes_are) in
    let proper' : IsProper width (length nodes) n = subst (λ ns. IsProper width (length ns) n) (sym nodes_are) (subst (λ w. IsProper w (length seen) n) (sym width_is) proper) in
    let absent' : (i : ℕ) → i < length nodes → node_at nodes i ≢ n = subst (λ (ns : List AigNode). (i : ℕ) → i < length ns → node_at ns i ≢ n) (sym nodes_are) absent in
    rw (nodes'_are, marks'_are, m_is) (store-push nodes marks calls limit width n s room' proper' absent')

-- a new store
first-ordered : (nodes : List AigNode) → nodes ≡ Constant ∷ [] → IsOrdered nodes 0
first-ordered nodes is = rw is (record { some = omega arith; first = refl; proper = λ i positive within. absurd (omega arith) })

first-marked : (marks : List Mark) → marks ≡ blank ∷ [] → AreMarkedBy 0 marks
first-marked marks is i within =
    let one : length marks ≡ 1 = ap length is in
    let first : i ≡ 0 = omega (arith, one) in
    let same : call_at marks i ≡ call_at (blank ∷ []) 0 = ap (λ (ms : List Mark). call_at ms i) is ∙ ap (call_at (blank ∷ [])) first in
    omega (arith, same)

pub store-first : (nodes : List AigNode) (marks : List Mark) (limit : ℕ) → nodes ≡ Constant ∷ [] → marks ≡ blank ∷ [] → IsStore nodes marks 0 limit 0
store-first nodes marks limit is marks_are =
    let one : length nodes ≡ 1 = ap length is in
    record {
      ordered = first-ordered nodes is;
      distinct = λ i j i_in j_in same. omega (arith, one);
      one_each = ap length marks_are ∙ sym one;
      marked = first-marked marks marks_are;
      room = omega (arith, one);
    }
