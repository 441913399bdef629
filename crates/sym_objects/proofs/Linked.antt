-- The chains of the buckets, with a node more.
use Rattle.std.proofs.Common.{◌≡◌, ◌≢◌, ℕ, ◌+◌, ◌/◌, ◌%◌, ◌^◌, ◌<◌, ◌≤◌, ◌⊎◌, List, [], ◌∷◌, ◌++◌, length, get_or, set, take, replicate, refl, ap, ◌∙◌, sym, subst, inl, inr, arith, length-set, get_or-set_same, get_or-set_other}
use Rattle.std.proofs.lemmas.List.{get_or_append_left, get_or_push, length_push, get_or-replicate, length-replicate, length-take-le, take_more, get_or_read}
use Rattle.std.proofs.lemmas.Bool.{cases_eq, cases_lt}
use Rattle.sym_objects.specs.declared.node.Node.{Node}
use Rattle.sym_objects.specs.declared.node.Node.TheVariants as node
use Rattle.sym_objects.specs.Hashes.{bucket_of, hash_of, node_hash}
use Rattle.sym_objects.specs.Table.{IsChained, numbered}
use Rattle.sym_objects.proofs.Spread.{spread_below}

hash-below : (first second third : ℕ) → hash_of first second third < 2 ^ 64
unfolding hash_of
hash-below first second third = omega arith

node_hash-below : (n : Node) → node_hash n < 2 ^ 64
unfolding node_hash
node_hash-below (node.Character c) = hash-below 1 c 0
node_hash-below (node.Symbol t) = hash-below 2 (t.number / 2 ^ 32) (t.number % 2 ^ 32)
node_hash-below (node.Text t) = hash-below 3 (t.number / 2 ^ 32) (t.number % 2 ^ 32)
node_hash-below (node.Boolean e) = hash-below 4 e.number 0
node_hash-below (node.Sign e) = hash-below 5 e.number 0
node_hash-below (node.Bit e r) = hash-below 6 e.number r.number
node_hash-below (node.Pair a d) = hash-below 7 a.number d.number
node_hash-below (node.Choice e a b) = hash-below e.number a.number b.number

pub bucket-below : (count : ℕ) (n : Node) → 0 < count → bucket_of count n < count
unfolding bucket_of
bucket-below count n h = spread_below (node_hash n) count (node_hash-below n) h

-- ---- one node more
pub node-before : (nodes : List Node) (n : Node) (i : ℕ) → i < length nodes → numbered (nodes ++ n ∷ []) i ≡ numbered nodes i
node-before nodes n i h = get_or_append_left nodes (n ∷ []) (node.Character 0) i h

pub node-last : (nodes : List Node) (n : Node) (i : ℕ) → i ≡ length nodes → numbered (nodes ++ n ∷ []) i ≡ n
node-last nodes n i h = get_or_push nodes n (node.Character 0) i (sym h)

pub number_cases : (nodes : List Node) (n : Node) (i : ℕ) → i < length (nodes ++ n ∷ []) → (i < length nodes) ⊎ (i ≡ length nodes)
number_cases nodes n i h = elim (cases_lt i (length nodes)) [ inl below ↦ inl below | inr last ↦ inr (omega (arith, h, last, length_push nodes n)) ]

module _ (count : ℕ) (nodes : List Node) (next heads : List ℕ) (n : Node) (c : IsChained count nodes next heads) where
  longer : List ℕ
  longer = next ++ get_or heads (bucket_of count n) 0 ∷ []

  now : List ℕ
  now = set heads (bucket_of count n) (length nodes + 1)

  next-before : (j : ℕ) → j < length nodes → get_or longer j 0 ≡ get_or next j 0
  unfolding longer
  next-before j h = get_or_append_left next (get_or heads (bucket_of count n) 0 ∷ []) 0 j (omega (arith, h, c.one_each))

  next-last : (j : ℕ) → j ≡ length nodes → get_or longer j 0 ≡ get_or heads (bucket_of count n) 0
  unfolding longer
  next-last j h = get_or_push next (get_or heads (bucket_of count n) 0) 0 j (omega (arith, h, c.one_each))

  head-same : (b : ℕ) → b ≡ bucket_of count n → get_or now b 0 ≡ length nodes + 1
  unfolding now
  head-same b h = ap (λ k. get_or (set heads (bucket_of count n) (length nodes + 1)) k 0) h ∙ get_or-set_same heads (bucket_of count n) (length nodes + 1) 0 (omega (arith, c.buckets, bucket-below count n c.some))

  head-other : (b : ℕ) → b ≢ bucket_of count n → get_or now b 0 ≡ get_or heads b 0
  unfolding now
  head-other b h = get_or-set_other heads (bucket_of count n) b (length nodes + 1) 0 h

  bucket-before : (i : ℕ) → i < length nodes → bucket_of count (numbered (nodes ++ n ∷ []) i) ≡ bucket_of count (numbered nodes i)
  bucket-before i h = ap (bucket_of count) (node-before nodes n i h)

  bucket-last : (i : ℕ) → i ≡ length nodes → bucket_of count (numbered (nodes ++ n ∷ []) i) ≡ bucket_of count n
  bucket-last i h = ap (bucket_of count) (node-last nodes n i h)

  from_head' : (i : ℕ) → i < length (nodes ++ n ∷ []) → i < get_or now (bucket_of count (numbered (nodes ++ n ∷ []) i)) 0
  from_head' i within =
      let b = bucket_of count (numbered (nodes ++ n ∷ []) i) in
      elim (cases_eq b (bucket_of count n)) [
        | inl same ↦ omega (arith, head-same b same, length_push nodes n)
        | inr other ↦ elim (number_cases nodes n i within) [
          | inl below ↦ omega (arith, head-other b other, c.from_head i below, ap (λ k. get_or heads k 0) (bucket-before i below))
          | inr last ↦ absurd (other (bucket-last i last))
        ]
      ]

  from_node' : (i j : ℕ) → i < j → j < length (nodes ++ n ∷ []) → bucket_of count (numbered (nodes ++ n ∷ []) i) ≡ bucket_of count (numbered (nodes ++ n ∷ []) j) → i < get_or longer j 0
  from_node' i j smaller within same = elim (number_cases nodes n j within) [
    | inl below ↦ omega (arith, next-before j below, c.from_node i j smaller below (sym (bucket-before i (omega arith)) ∙ same ∙ bucket-before j below))
    | inr last ↦ omega (arith, next-last j last, c.from_head i (omega arith), ap (λ k. get_or heads k 0) (sym (bucket-before i (omega arith)) ∙ same ∙ bucket-last j last))
  ]

  head_in' : (b : ℕ) → b < count → get_or now b 0 ≤ length (nodes ++ n ∷ [])
  head_in' b within = elim (cases_eq b (bucket_of count n)) [
    | inl same ↦ omega (arith, head-same b same, length_push nodes n)
    | inr other ↦ omega (arith, head-other b other, c.head_in b within, length_push nodes n)
  ]

  next_in' : (j : ℕ) → j < length (nodes ++ n ∷ []) → get_or longer j 0 ≤ j
  next_in' j within = elim (number_cases nodes n j within) [
    | inl below ↦ omega (arith, next-before j below, c.next_in j below)
    | inr last ↦ omega (arith, next-last j last, c.head_in (bucket_of count n) (bucket-below count n c.some))
  ]

  head_bucket' : (b k : ℕ) → b < count → k + 1 ≡ get_or now b 0 → bucket_of count (numbered (nodes ++ n ∷ []) k) ≡ b
  head_bucket' b k within is = elim (cases_eq b (bucket_of count n)) [
    | inl same ↦ bucket-last k (omega (arith, is, head-same b same)) ∙ sym same
    | inr other ↦
        let old : k + 1 ≡ get_or heads b 0 = is ∙ head-other b other in
        bucket-before k (omega (arith, old, c.head_in b within)) ∙ c.head_bucket b k within old
  ]

  next_bucket' : (j k : ℕ) → j < length (nodes ++ n ∷ []) → k + 1 ≡ get_or longer j 0 → bucket_of count (numbered (nodes ++ n ∷ []) k) ≡ bucket_of count (numbered (nodes ++ n ∷ []) j)
  next_bucket' j k within is = elim (number_cases nodes n j within) [
    | inl below ↦
        let old : k + 1 ≡ get_or next j 0 = is ∙ next-before j below in
        bucket-before k (omega (arith, old, c.next_in j below)) ∙ c.next_bucket j k below old ∙ sym (bucket-before j below)
    | inr last ↦
        let old : k + 1 ≡ get_or heads (bucket_of count n) 0 = is ∙ next-last j last in
        let small = bucket-below count n c.some in
        bucket-before k (omega (arith, old, c.head_in (bucket_of count n) small)) ∙ c.head_bucket (bucket_of count n) k small old ∙ sym (bucket-last j last)
  ]

  -- the new node at the head of its bucket's chain
  pub chained-push : IsChained count (nodes ++ n ∷ []) (next ++ get_or heads (bucket_of count n) 0 ∷ []) (set heads (bucket_of count n) (length nodes + 1))
  unfolding longer now
  chained-push = record {
    one_each = omega (arith, c.one_each, length_push nodes n, length_push next (get_or heads (bucket_of count n) 0));
    buckets = length-set heads (bucket_of count n) (length nodes + 1) ∙ c.buckets;
    some = c.some;
    from_head = from_head';
    from_node = from_node';
    head_in = head_in';
    next_in = next_in';
    head_bucket = head_bucket';
    next_bucket = next_bucket';
  }

-- ---- a search
-- what a search of a chain has passed, where it is at the node before this number
pub record IsPassed (count : ℕ) (nodes : List Node) (n : Node) (at : ℕ) : Type 0 where
  pub within : at ≤ length nodes
  pub bucket : (k : ℕ) → k + 1 ≡ at → bucket_of count (numbered nodes k) ≡ bucket_of count n
  pub passed : (i : ℕ) → i < length nodes → numbered nodes i ≡ n → i < at

pub passed-first : (count : ℕ) (nodes : List Node) (next heads : List ℕ) (n : Node) (at : ℕ) → IsChained count nodes next heads → at ≡ get_or heads (bucket_of count n) 0 → IsPassed count nodes n at
passed-first count nodes next heads n at c is = record {
  within = omega (arith, is, c.head_in (bucket_of count n) (bucket-below count n c.some));
  bucket = λ k e. c.head_bucket (bucket_of count n) k (bucket-below count n c.some) (e ∙ is);
  passed = λ i h same. omega (arith, is, c.from_head i h, ap (λ m. get_or heads (bucket_of count m) 0) same);
}

pub passed-next : (count : ℕ) (nodes : List Node) (next heads : List ℕ) (n : Node) (at j k : ℕ) → IsChained count nodes next heads → IsPassed count nodes n at → j + 1 ≡ at → numbered nodes j ≢ n → k ≡ get_or next j 0 → IsPassed count nodes n k
passed-next count nodes next heads n at j k c p here other is =
    let inside : j < length nodes = omega (arith, here, p.within) in
    record {
      within = omega (arith, is, c.next_in j inside);
      bucket = λ m e. c.next_bucket j m inside (e ∙ is) ∙ p.bucket j here;
      passed = λ i h same. elim (cases_eq i j) [
        | inl at_j ↦ absurd (other (ap (numbered nodes) (sym at_j) ∙ same))
        | inr elsewhere ↦
            let before : i < j = omega (arith, p.passed i h same, here, elsewhere) in
            omega (arith, is, c.from_node i j before inside (ap (bucket_of count) same ∙ sym (p.bucket j here)))
      ];
    }

-- ---- all anew
pub chained-none : (count : ℕ) (heads : List ℕ) → 0 < count → heads ≡ replicate count 0 → IsChained count [] [] heads
chained-none count heads h is = record {
  one_each = refl;
  buckets = ap length is ∙ length-replicate count 0;
  some = h;
  from_head = λ i l. absurd (omega (arith, l));
  from_node = λ i j l m e. absurd (omega (arith, m));
  head_in = λ b l. omega (arith, ap (λ hs. get_or hs b 0) is, get_or-replicate {A = ℕ} count b 0 0 l);
  next_in = λ j l. absurd (omega (arith, l));
  head_bucket = λ b k l e. absurd (omega (arith, e, ap (λ hs. get_or hs b 0) is, get_or-replicate {A = ℕ} count b 0 0 l));
  next_bucket = λ j k l e. absurd (omega (arith, l));
}

-- the chains of the first nodes, with the next one
pub chained-next : (count : ℕ) (nodes : List Node) (k head b : ℕ) (n : Node) (next longer heads : List ℕ) → IsChained count (take k nodes) next heads → k < length nodes → n ≡ get_or nodes k n → b ≡ bucket_of count n → b < length heads → head ≡ get_or heads b head → longer ≡ next ++ head ∷ []
    → IsChained count (take (k + 1) nodes) longer (set heads b (k + 1))
chained-next count nodes k head b n next longer heads c l is b_is b_in head_is longer_is =
    let many : length (take k nodes) ≡ k = length-take-le k nodes (omega (arith, l)) in
    let more : take (k + 1) nodes ≡ take k nodes ++ n ∷ [] = take_more nodes k n l ∙ ap (λ m. take k nodes ++ m ∷ []) (sym is) in
    let read : head ≡ get_or heads (bucket_of count n) 0 = get_or_read heads b head b_in head_is 0 ∙ ap (λ i. get_or heads i 0) b_is in
    let pushed : IsChained count (take k nodes ++ n ∷ []) (next ++ get_or heads (bucket_of count n) 0 ∷ []) (set heads (bucket_of count n) (length (take k nodes) + 1)) = chained-push count (take k nodes) next heads n c in
    subst (λ (ns : List Node). IsChained count ns longer (set heads b (k + 1))) (sym more)
    (subst (λ (xs : List ℕ). IsChained count (take k nodes ++ n ∷ []) xs (set heads b (k + 1))) (ap (λ h. next ++ h ∷ []) (sym read) ∙ sym longer_is)
    (subst (λ i. IsChained count (take k nodes ++ n ∷ []) (next ++ get_or heads (bucket_of count n) 0 ∷ []) (set heads i (k + 1))) (sym b_is)
    (subst (λ m. IsChained count (take k nodes ++ n ∷ []) (next ++ get_or heads (bucket_of count n) 0 ∷ []) (set heads (bucket_of count n) (m + 1))) many pushed)))
