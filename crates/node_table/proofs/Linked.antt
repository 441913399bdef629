-- The chains of the buckets, with a node more, and a search of a chain.
use Rattle.std.proofs.Common.{◌≡◌, ◌≢◌, ℕ, ◌+◌, ◌<◌, ◌≤◌, List, [], ◌∷◌, ◌++◌, length, get_or, map, set, replicate, refl, ap, ◌∙◌, sym, inl, inr, arith, length-set, get_or-set_same, get_or-set_other}
use Rattle.std.proofs.lemmas.List.{get_or_append_left, get_or_push, length_push, get_or-replicate, length-replicate, get_or-map, length-map}
use Rattle.std.proofs.lemmas.Bool.{cases_eq}
use Rattle.node_table.specs.Chains.{IsChained}
use Rattle.node_table.specs.Hashes.{bucket_of}
use Rattle.node_table.proofs.Buckets.{bucket_below}
use Rattle.node_table.proofs.Longer.{entry-before, entry-last, number_cases}

module _ (count : ℕ) (hashes : List ℕ) (next heads : List ℕ) (n : ℕ) (c : IsChained count hashes next heads) where
  longer : List ℕ
  longer = next ++ get_or heads (bucket_of count n) 0 ∷ []

  now : List ℕ
  now = set heads (bucket_of count n) (length hashes + 1)

  next-before : (j : ℕ) → j < length hashes → get_or longer j 0 ≡ get_or next j 0
  unfolding longer
  next-before j h = get_or_append_left next (get_or heads (bucket_of count n) 0 ∷ []) 0 j (omega (arith, h, c.one_each))

  next-last : (j : ℕ) → j ≡ length hashes → get_or longer j 0 ≡ get_or heads (bucket_of count n) 0
  unfolding longer
  next-last j h = get_or_push next (get_or heads (bucket_of count n) 0) 0 j (omega (arith, h, c.one_each))

  head-same : (b : ℕ) → b ≡ bucket_of count n → get_or now b 0 ≡ length hashes + 1
  unfolding now
  head-same b h = ap (λ k. get_or (set heads (bucket_of count n) (length hashes + 1)) k 0) h ∙ get_or-set_same heads (bucket_of count n) (length hashes + 1) 0 (omega (arith, c.buckets, bucket_below count n c.some))

  head-other : (b : ℕ) → b ≢ bucket_of count n → get_or now b 0 ≡ get_or heads b 0
  unfolding now
  head-other b h = get_or-set_other heads (bucket_of count n) b (length hashes + 1) 0 h

  bucket-before : (i : ℕ) → i < length hashes → bucket_of count (get_or (hashes ++ n ∷ []) i 0) ≡ bucket_of count (get_or hashes i 0)
  bucket-before i h = ap (bucket_of count) (entry-before 0 hashes n i h)

  bucket-last : (i : ℕ) → i ≡ length hashes → bucket_of count (get_or (hashes ++ n ∷ []) i 0) ≡ bucket_of count n
  bucket-last i h = ap (bucket_of count) (entry-last 0 hashes n i h)

  from_head' : (i : ℕ) → i < length (hashes ++ n ∷ []) → i < get_or now (bucket_of count (get_or (hashes ++ n ∷ []) i 0)) 0
  from_head' i within =
      let b = bucket_of count (get_or (hashes ++ n ∷ []) i 0) in
      elim (cases_eq b (bucket_of count n)) [
        | inl same ↦ omega (arith, head-same b same, length_push hashes n)
        | inr other ↦ elim (number_cases hashes n i within) [
          | inl below ↦ omega (arith, head-other b other, c.from_head i below, ap (λ k. get_or heads k 0) (bucket-before i below))
          | inr last ↦ absurd (other (bucket-last i last))
        ]
      ]

  from_node' : (i j : ℕ) → i < j → j < length (hashes ++ n ∷ []) → bucket_of count (get_or (hashes ++ n ∷ []) i 0) ≡ bucket_of count (get_or (hashes ++ n ∷ []) j 0) → i < get_or longer j 0
  from_node' i j smaller within same = elim (number_cases hashes n j within) [
    | inl below ↦ omega (arith, next-before j below, c.from_node i j smaller below (sym (bucket-before i (omega arith)) ∙ same ∙ bucket-before j below))
    | inr last ↦ omega (arith, next-last j last, c.from_head i (omega arith), ap (λ k. get_or heads k 0) (sym (bucket-before i (omega arith)) ∙ same ∙ bucket-last j last))
  ]

  head_in' : (b : ℕ) → b < count → get_or now b 0 ≤ length (hashes ++ n ∷ [])
  head_in' b within = elim (cases_eq b (bucket_of count n)) [
    | inl same ↦ omega (arith, head-same b same, length_push hashes n)
    | inr other ↦ omega (arith, head-other b other, c.head_in b within, length_push hashes n)
  ]

  next_in' : (j : ℕ) → j < length (hashes ++ n ∷ []) → get_or longer j 0 ≤ j
  next_in' j within = elim (number_cases hashes n j within) [
    | inl below ↦ omega (arith, next-before j below, c.next_in j below)
    | inr last ↦ omega (arith, next-last j last, c.head_in (bucket_of count n) (bucket_below count n c.some))
  ]

  head_bucket' : (b k : ℕ) → b < count → k + 1 ≡ get_or now b 0 → bucket_of count (get_or (hashes ++ n ∷ []) k 0) ≡ b
  head_bucket' b k within is = elim (cases_eq b (bucket_of count n)) [
    | inl same ↦ bucket-last k (omega (arith, is, head-same b same)) ∙ sym same
    | inr other ↦
        let old : k + 1 ≡ get_or heads b 0 = is ∙ head-other b other in
        bucket-before k (omega (arith, old, c.head_in b within)) ∙ c.head_bucket b k within old
  ]

  next_bucket' : (j k : ℕ) → j < length (hashes ++ n ∷ []) → k + 1 ≡ get_or longer j 0 → bucket_of count (get_or (hashes ++ n ∷ []) k 0) ≡ bucket_of count (get_or (hashes ++ n ∷ []) j 0)
  next_bucket' j k within is = elim (number_cases hashes n j within) [
    | inl below ↦
        let old : k + 1 ≡ get_or next j 0 = is ∙ next-before j below in
        bucket-before k (omega (arith, old, c.next_in j below)) ∙ c.next_bucket j k below old ∙ sym (bucket-before j below)
    | inr last ↦
        let old : k + 1 ≡ get_or heads (bucket_of count n) 0 = is ∙ next-last j last in
        let small = bucket_below count n c.some in
        bucket-before k (omega (arith, old, c.head_in (bucket_of count n) small)) ∙ c.head_bucket (bucket_of count n) k small old ∙ sym (bucket-last j last)
  ]

  -- the new node at the head of its bucket's chain
  pub chained-push : IsChained count (hashes ++ n ∷ []) (next ++ get_or heads (bucket_of count n) 0 ∷ []) (set heads (bucket_of count n) (length hashes + 1))
  unfolding longer now
  chained-push = record {
    one_each = omega (arith, c.one_each, length_push hashes n, length_push next (get_or heads (bucket_of count n) 0));
    buckets = length-set heads (bucket_of count n) (length hashes + 1) ∙ c.buckets;
    some = c.some;
    from_head = from_head';
    from_node = from_node';
    head_in = head_in';
    next_in = next_in';
    head_bucket = head_bucket';
    next_bucket = next_bucket';
  }

-- ---- a search
-- what a search of a chain has passed, where it is at the node before this number
pub record IsPassed {N : Type 0} (hash : N → ℕ) (count : ℕ) (nodes : List N) (n : N) (at : ℕ) : Type 0 where
  pub within : at ≤ length nodes
  pub bucket : (k : ℕ) → k + 1 ≡ at → bucket_of count (get_or (map hash nodes) k 0) ≡ bucket_of count (hash n)
  pub passed : (i : ℕ) (d : N) → i < length nodes → get_or nodes i d ≡ n → i < at

module _ {N : Type 0} (hash : N → ℕ) (count : ℕ) (nodes : List N) (next heads : List ℕ) (n : N) (c : IsChained count (map hash nodes) next heads) where
  hash-at : (i : ℕ) (d : N) → i < length nodes → get_or nodes i d ≡ n → get_or (map hash nodes) i 0 ≡ hash n
  hash-at i d h same = get_or-map hash nodes i d 0 h ∙ ap hash same

  pub passed-first : (at : ℕ) → at ≡ get_or heads (bucket_of count (hash n)) 0 → IsPassed hash count nodes n at
  passed-first at is =
      let small = bucket_below count (hash n) c.some in
      record {
        within = omega (arith, is, c.head_in (bucket_of count (hash n)) small, length-map nodes hash);
        bucket = λ k e. c.head_bucket (bucket_of count (hash n)) k small (e ∙ is);
        passed = λ i d h same. omega (arith, is, c.from_head i (omega (arith, h, length-map nodes hash)), ap (λ m. get_or heads (bucket_of count m) 0) (hash-at i d h same));
      }

  pub passed-next : (at j k : ℕ) → IsPassed hash count nodes n at → j + 1 ≡ at → ((d : N) → get_or nodes j d ≢ n) → k ≡ get_or next j 0 → IsPassed hash count nodes n k
  passed-next at j k p here other is =
      let inside : j < length (map hash nodes) = omega (arith, here, p.within, length-map nodes hash) in
      record {
        within = omega (arith, is, c.next_in j inside, inside, length-map nodes hash);
        bucket = λ m e. c.next_bucket j m inside (e ∙ is) ∙ p.bucket j here;
        passed = λ i d h same. elim (cases_eq i j) [
          | inl at_j ↦ absurd (other d (ap (λ x. get_or nodes x d) (sym at_j) ∙ same))
          | inr elsewhere ↦
              let before : i < j = omega (arith, p.passed i d h same, here, elsewhere) in
              omega (arith, is, c.from_node i j before inside (ap (bucket_of count) (hash-at i d h same) ∙ sym (p.bucket j here)))
        ];
      }

-- ---- all anew
pub chained-none : (count : ℕ) (heads : List ℕ) → 0 < count → heads ≡ replicate count 0 → IsChained count [] [] heads
chained-none count heads h is = record {
  one_each = refl;
  buckets = ap length is ∙ length-replicate count 0;
  some = h;
  from_head = λ i l. absurd (omega (arith, l));
  from_node = λ i j l m e. absurd (omega (arith, m));
  head_in = λ b l. omega (arith, ap (λ hs. get_or hs b 0) is, get_or-replicate {A = ℕ} count b 0 0 l);
  next_in = λ j l. absurd (omega (arith, l));
  head_bucket = λ b k l e. absurd (omega (arith, e, ap (λ hs. get_or hs b 0) is, get_or-replicate {A = ℕ} count b 0 0 l));
  next_bucket = λ j k l e. absurd (omega (arith, l));
}
