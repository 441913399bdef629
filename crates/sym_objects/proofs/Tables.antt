-- A whole table, with a node more.
use Rattle.std.proofs.Common.{◌≡◌, ◌≢◌, ℕ, ◌+◌, ◌<◌, ◌≤◌, Bool, List, [], ◌∷◌, ◌++◌, length, get_or, set, ap, sym, subst, ◌∙◌, arith, length-set}
use Rattle.std.proofs.lemmas.List.{length_push, get_or_read, get_or_default}
use Rattle.std.proofs.lemmas.List.Quantifiers.{all_pairs_push}
use Rattle.sym_objects.specs.declared.node.Node.{Node}
use Rattle.sym_objects.specs.declared.node.Node.TheVariants as node
use Rattle.sym_objects.specs.Hashes.{bucket_of}
use Rattle.sym_objects.specs.Seen.{IsEachOnce}
use Rattle.sym_objects.specs.Table.{IsChained, IsTable, numbered}
use Rattle.sym_objects.proofs.Linked.{chained-push}

pub once_more : (nodes : List Node) (n : Node) → IsEachOnce nodes → ((i : ℕ) → i < length nodes → numbered nodes i ≢ n) → IsEachOnce (nodes ++ n ∷ [])
once_more nodes n once absent = all_pairs_push (λ m k. m ≢ k) nodes n once (λ k d l e. absent k l (get_or_default nodes k (node.Character 0) d l ∙ e))

-- the room that is left, in the words of the code
pub table-pushed : (nodes after : List Node) (marks marked : List Bool) (next longer heads : List ℕ) (limit a b e a' b' e' number count bucket head : ℕ) (n : Node) (mark : Bool) → IsTable nodes marks next heads limit a b e
    → after ≡ nodes ++ n ∷ [] → marked ≡ marks ++ mark ∷ [] → longer ≡ next ++ head ∷ [] → number ≡ length nodes → count ≡ length heads → bucket ≡ bucket_of count n → bucket < count → head ≡ get_or heads bucket head
    → length nodes < limit → ((i : ℕ) → i < length nodes → numbered nodes i ≢ n) → a ≤ a' → b ≤ b' → e ≤ e'
    → IsTable after marked longer (set heads bucket (number + 1)) limit a' b' e'
table-pushed nodes after marks marked next longer heads limit a b e a' b' e' number count bucket head n mark t after_is marked_is longer_is number_is count_is bucket_is bucket_in head_is room absent a_le b_le e_le =
    let read : head ≡ get_or heads (bucket_of (length heads) n) 0 = get_or_read heads bucket head (omega (arith, bucket_in, count_is)) head_is 0 ∙ ap (λ i. get_or heads i 0) (bucket_is ∙ ap (λ m. bucket_of m n) count_is) in
    let place : bucket ≡ bucket_of (length heads) n = bucket_is ∙ ap (λ m. bucket_of m n) count_is in
    let pushed : IsChained (length heads) (nodes ++ n ∷ []) (next ++ get_or heads (bucket_of (length heads) n) 0 ∷ []) (set heads (bucket_of (length heads) n) (length nodes + 1)) = chained-push (length heads) nodes next heads n t.chained in
    let here : IsChained (length heads) (nodes ++ n ∷ []) (next ++ head ∷ []) (set heads bucket (number + 1)) =
    subst (λ h. IsChained (length heads) (nodes ++ n ∷ []) (next ++ h ∷ []) (set heads bucket (number + 1))) (sym read)
    (subst (λ i. IsChained (length heads) (nodes ++ n ∷ []) (next ++ get_or heads (bucket_of (length heads) n) 0 ∷ []) (set heads i (number + 1))) (sym place)
    (subst (λ m. IsChained (length heads) (nodes ++ n ∷ []) (next ++ get_or heads (bucket_of (length heads) n) 0 ∷ []) (set heads (bucket_of (length heads) n) (m + 1))) (sym number_is) pushed)) in
    let same : length (set heads bucket (number + 1)) ≡ length heads = length-set heads bucket (number + 1) in
    subst (λ (ns : List Node). IsTable ns marked longer (set heads bucket (number + 1)) limit a' b' e') (sym after_is)
    (subst (λ (ms : List Bool). IsTable (nodes ++ n ∷ []) ms longer (set heads bucket (number + 1)) limit a' b' e') (sym marked_is)
    (subst (λ (ls : List ℕ). IsTable (nodes ++ n ∷ []) (marks ++ mark ∷ []) ls (set heads bucket (number + 1)) limit a' b' e') (sym longer_is)
    record {
      within = omega (arith, room, length_push nodes n);
      different = once_more nodes n t.different absent;
      marked = omega (arith, t.marked, length_push nodes n, length_push marks mark);
      chained = subst (λ m. IsChained m (nodes ++ n ∷ []) (next ++ head ∷ []) (set heads bucket (number + 1))) (sym same) here;
      nodes_fit = omega (arith, t.nodes_fit, a_le);
      marks_fit = omega (arith, t.marks_fit, b_le);
      links_fit = omega (arith, t.links_fit, e_le);
      small = t.small;
    }))
