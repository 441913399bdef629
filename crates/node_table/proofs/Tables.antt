-- A whole table, with a node more.
use Rattle.std.proofs.Common.{◌≡◌, ℕ, ◌+◌, ◌<◌, ◌≤◌, List, [], ◌∷◌, ◌++◌, length, map, get_or, set, take, ap, sym, subst, ◌∙◌, arith, length-set}
use Rattle.std.proofs.lemmas.List.{length_push, get_or_read, length-map, map-append, length-take-le, take_more}
use Rattle.node_table.specs.Hashes.{bucket_of}
use Rattle.node_table.specs.Chains.{IsChained, IsTable}
use Rattle.node_table.proofs.Linked.{chained-push}

-- a node more, in the words of the code
pub chained-more : {N : Type 0} (hash : N → ℕ) (count : ℕ) (nodes : List N) (next longer heads : List ℕ) (n : N) (word bucket number head : ℕ) → IsChained count (map hash nodes) next heads
    → word ≡ hash n → bucket ≡ bucket_of count word → bucket < length heads → number ≡ length nodes → head ≡ get_or heads bucket head → longer ≡ next ++ head ∷ []
    → IsChained count (map hash (nodes ++ n ∷ [])) longer (set heads bucket (number + 1))
chained-more hash count nodes next longer heads n word bucket number head c word_is bucket_is within number_is head_is longer_is =
    let place : bucket ≡ bucket_of count (hash n) = bucket_is ∙ ap (bucket_of count) word_is in
    let read : head ≡ get_or heads (bucket_of count (hash n)) 0 = get_or_read heads bucket head within head_is 0 ∙ ap (λ i. get_or heads i 0) place in
    let many : number ≡ length (map hash nodes) = number_is ∙ sym (length-map nodes hash) in
    rw (map-append hash nodes (n ∷ []), longer_is, read, place, many) (chained-push count (map hash nodes) next heads (hash n) c)

-- the chains of the first nodes, with the next one
pub chained-next : {N : Type 0} (hash : N → ℕ) (count : ℕ) (nodes : List N) (k : ℕ) (n : N) (next longer heads : List ℕ) (word bucket head : ℕ) → IsChained count (map hash (take k nodes)) next heads → k < length nodes → n ≡ get_or nodes k n
    → word ≡ hash n → bucket ≡ bucket_of count word → bucket < length heads → head ≡ get_or heads bucket head → longer ≡ next ++ head ∷ []
    → IsChained count (map hash (take (k + 1) nodes)) longer (set heads bucket (k + 1))
chained-next hash count nodes k n next longer heads word bucket head c l is word_is bucket_is within head_is longer_is =
    let many : k ≡ length (take k nodes) = sym (length-take-le k nodes (omega (arith, l))) in
    let more : take (k + 1) nodes ≡ take k nodes ++ n ∷ [] = take_more nodes k n l ∙ ap (λ m. take k nodes ++ m ∷ []) (sym is) in
    subst (λ ns. IsChained count (map hash ns) longer (set heads bucket (k + 1))) (sym more)
    (chained-more hash count (take k nodes) next longer heads n word bucket k head c word_is bucket_is within many head_is longer_is)

pub table-pushed : {N : Type 0} (hash : N → ℕ) (nodes after : List N) (next longer heads : List ℕ) (room a e a' e' number count word bucket head : ℕ) (n : N) → IsTable hash nodes next heads room a e
    → after ≡ nodes ++ n ∷ [] → longer ≡ next ++ head ∷ [] → number ≡ length nodes → count ≡ length heads → word ≡ hash n → bucket ≡ bucket_of count word → bucket < count → head ≡ get_or heads bucket head
    → length nodes < room → a ≤ a' → e ≤ e' → IsTable hash after longer (set heads bucket (number + 1)) room a' e'
table-pushed hash nodes after next longer heads room a e a' e' number count word bucket head n t after_is longer_is number_is count_is word_is bucket_is bucket_in head_is less a_le e_le =
    let same : length (set heads bucket (number + 1)) ≡ length heads = length-set heads bucket (number + 1) in
    let here = chained-more hash (length heads) nodes next longer heads n word bucket number head t.chained word_is (bucket_is ∙ ap (λ m. bucket_of m word) count_is) (omega (arith, bucket_in, count_is)) number_is head_is longer_is in
    record {
      within = omega (arith, less, ap length after_is, length_push nodes n);
      chained = rw (after_is, same) here;
      nodes_fit = omega (arith, t.nodes_fit, a_le);
      links_fit = omega (arith, t.links_fit, e_le);
      small = t.small;
    }
