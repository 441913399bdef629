-- How a function is parametrised by the vectors of its two cofactors.
use Rattle.std.proofs.Common.{◌≡◌, ◌≢◌, ◌∙◌, ap, sym, refl, subst, ℕ, ◌<◌, Bool, true, false, cond, eqb, List, length, get_or, set, All, arith, inl, inr, length-set, get_or-set_same, get_or-set_other}
use Rattle.std.proofs.lemmas.Bool.{cases_eq, cases_lt, false≢true}
use Rattle.bfr_store.specs.declared.edge.Edge.{Edge}
use Rattle.bdd_store.specs.Nodes.{Diagrams, IsLive, truth_of}
use Rattle.bdd_store.specs.Tests.{DependsBelow, DependsPast}
use Rattle.bdd_store.proofs.Canonical.{with_value, at_itself, at_later}
use Rattle.bdd_param.specs.Images.{image, IsParametrised}
use Rattle.bdd_param.proofs.Images.{image-at, image-past, image-here, image-there}

-- the same edges but for one place are live
pub set_live : (s : Diagrams) (es : List Edge) (v : ℕ) (x : Edge) → All (IsLive s) es → IsLive s x → All (IsLive s) (set es v x)
set_live s es v x live x_live k d within = elim (cases_eq k v) [
  | inl is ↦ subst (λ (e : Edge). IsLive s e) (sym (ap (λ j. get_or (set es v x) j d) is ∙ get_or-set_same es v x d (omega (arith, within, is, length-set es v x)))) x_live
  | inr other ↦ subst (λ (e : Edge). IsLive s e) (sym (get_or-set_other es v k x d other)) (live k d (omega (arith, within, length-set es v x)))
]

module _ (s : Diagrams) (width : ℕ) (e high low : Edge) (v : ℕ) (v_in : v < width)
    (says : (a : ℕ → Bool) → truth_of s.nodes e a ≡ cond (a v) (truth_of s.nodes high a) (truth_of s.nodes low a))
    (high_past : DependsPast s high v) (low_past : DependsPast s low v) where
  -- where the variable has a value, the function is one of its cofactors
  says_high : (a : ℕ → Bool) → a v ≡ true → truth_of s.nodes e a ≡ truth_of s.nodes high a
  says_high a h = says a ∙ ap (λ b. cond b (truth_of s.nodes high a) (truth_of s.nodes low a)) h

  says_low : (a : ℕ → Bool) → a v ≡ false → truth_of s.nodes e a ≡ truth_of s.nodes low a
  says_low a h = says a ∙ ap (λ b. cond b (truth_of s.nodes high a) (truth_of s.nodes low a)) h

  -- where the function is true and one cofactor is never true, the variable has the other value
  is_high : ((a : ℕ → Bool) → truth_of s.nodes low a ≡ false) → (a : ℕ → Bool) → truth_of s.nodes e a ≡ true → a v ≡ true
  is_high never a t = at (a v) refl where
    at : (b : Bool) → a v ≡ b → a v ≡ true
    at true h = h
    at false h = absurd (false≢true (sym (never a) ∙ sym (says_low a h) ∙ t))

  is_low : ((a : ℕ → Bool) → truth_of s.nodes high a ≡ false) → (a : ℕ → Bool) → truth_of s.nodes e a ≡ true → a v ≡ false
  is_low never a t = at (a v) refl where
    at : (b : Bool) → a v ≡ b → a v ≡ false
    at false h = h
    at true h = absurd (false≢true (sym (never a) ∙ sym (says_high a h) ∙ t))

  -- the low cofactor is never true: the variable is
  pub forced_high : ((a : ℕ → Bool) → truth_of s.nodes low a ≡ false) → (es : List Edge) (one : Edge) → IsLive s one → ((a : ℕ → Bool) → truth_of s.nodes one a ≡ true) → IsParametrised s high width es → IsParametrised s e width (set es v one)
  forced_high never es one one_live is_one p = record {
    count = length-set es v one ∙ p.count;
    live = set_live s es v one p.live one_live;
    inside = λ a.
        let b = image s.nodes (set es v one) a in
        let here : b v ≡ true = image-here s.nodes es a v one (omega (arith, p.count, v_in)) ∙ is_one a in
        says_high b here
        ∙ high_past b (image s.nodes es a) (λ k from. image-there s.nodes es a v one k (omega (arith, from)))
        ∙ p.inside a;
    fixed = λ a t k within. elim (cases_eq k v) [
      | inl is ↦ ap (image s.nodes (set es v one) a) is ∙ image-here s.nodes es a v one (omega (arith, p.count, v_in)) ∙ is_one a ∙ sym (is_high never a t) ∙ ap a (sym is)
      | inr other ↦ image-there s.nodes es a v one k other ∙ p.fixed a (sym (says_high a (is_high never a t)) ∙ t) k within
    ];
  }

  pub forced_low : ((a : ℕ → Bool) → truth_of s.nodes high a ≡ false) → (es : List Edge) (zero : Edge) → IsLive s zero → ((a : ℕ → Bool) → truth_of s.nodes zero a ≡ false) → IsParametrised s low width es → IsParametrised s e width (set es v zero)
  forced_low never es zero zero_live is_zero p = record {
    count = length-set es v zero ∙ p.count;
    live = set_live s es v zero p.live zero_live;
    inside = λ a.
        let b = image s.nodes (set es v zero) a in
        let here : b v ≡ false = image-here s.nodes es a v zero (omega (arith, p.count, v_in)) ∙ is_zero a in
        says_low b here
        ∙ low_past b (image s.nodes es a) (λ k from. image-there s.nodes es a v zero k (omega (arith, from)))
        ∙ p.inside a;
    fixed = λ a t k within. elim (cases_eq k v) [
      | inl is ↦ ap (image s.nodes (set es v zero) a) is ∙ image-here s.nodes es a v zero (omega (arith, p.count, v_in)) ∙ is_zero a ∙ sym (is_low never a t) ∙ ap a (sym is)
      | inr other ↦ image-there s.nodes es a v zero k other ∙ p.fixed a (sym (says_low a (is_low never a t)) ∙ t) k within
    ];
  }

  -- both cofactors are true somewhere: the variable stays, and each later edge is chosen by it
  module _ (hs ls ms : List Edge) (x : Edge) (x_live : IsLive s x) (is_x : (a : ℕ → Bool) → truth_of s.nodes x a ≡ a v)
      (h : IsParametrised s high width hs) (l : IsParametrised s low width ls) (count : length ms ≡ width) (live : All (IsLive s) ms)
      (chosen : (a : ℕ → Bool) (k : ℕ) (d : Edge) → k < width → truth_of s.nodes (get_or ms k d) a ≡ cond (a v) (truth_of s.nodes (get_or hs k d) a) (truth_of s.nodes (get_or ls k d) a)) where
    bit_high : (a : ℕ → Bool) → a v ≡ true → (k : ℕ) → k ≢ v → image s.nodes (set ms v x) a k ≡ image s.nodes hs a k
    bit_high a on k other = image-there s.nodes ms a v x k other ∙ elim (cases_lt k width) [
      | inl within ↦
          image-at s.nodes ms a k x (omega (arith, count, within)) ∙ chosen a k x within
          ∙ ap (λ b. cond b (truth_of s.nodes (get_or hs k x) a) (truth_of s.nodes (get_or ls k x) a)) on
          ∙ sym (image-at s.nodes hs a k x (omega (arith, h.count, within)))
      | inr beyond ↦ image-past s.nodes ms a k (omega (arith, count, beyond)) ∙ sym (image-past s.nodes hs a k (omega (arith, h.count, beyond)))
    ]

    bit_low : (a : ℕ → Bool) → a v ≡ false → (k : ℕ) → k ≢ v → image s.nodes (set ms v x) a k ≡ image s.nodes ls a k
    bit_low a off k other = image-there s.nodes ms a v x k other ∙ elim (cases_lt k width) [
      | inl within ↦
          image-at s.nodes ms a k x (omega (arith, count, within)) ∙ chosen a k x within
          ∙ ap (λ b. cond b (truth_of s.nodes (get_or hs k x) a) (truth_of s.nodes (get_or ls k x) a)) off
          ∙ sym (image-at s.nodes ls a k x (omega (arith, l.count, within)))
      | inr beyond ↦ image-past s.nodes ms a k (omega (arith, count, beyond)) ∙ sym (image-past s.nodes ls a k (omega (arith, l.count, beyond)))
    ]

    here : (a : ℕ → Bool) → image s.nodes (set ms v x) a v ≡ a v
    here a = image-here s.nodes ms a v x (omega (arith, count, v_in)) ∙ is_x a

    free_inside : (a : ℕ → Bool) (b : Bool) → a v ≡ b → truth_of s.nodes e (image s.nodes (set ms v x) a) ≡ true
    free_inside a true on =
        says_high (image s.nodes (set ms v x) a) (here a ∙ on)
        ∙ high_past (image s.nodes (set ms v x) a) (image s.nodes hs a) (λ k from. bit_high a on k (omega (arith, from)))
        ∙ h.inside a
    free_inside a false off =
        says_low (image s.nodes (set ms v x) a) (here a ∙ off)
        ∙ low_past (image s.nodes (set ms v x) a) (image s.nodes ls a) (λ k from. bit_low a off k (omega (arith, from)))
        ∙ l.inside a

    free_fixed : (a : ℕ → Bool) (b : Bool) → a v ≡ b → truth_of s.nodes e a ≡ true → (k : ℕ) → k < width → k ≢ v → image s.nodes (set ms v x) a k ≡ a k
    free_fixed a true on t k within other = bit_high a on k other ∙ h.fixed a (sym (says_high a on) ∙ t) k within
    free_fixed a false off t k within other = bit_low a off k other ∙ l.fixed a (sym (says_low a off) ∙ t) k within

    pub free : IsParametrised s e width (set ms v x)
    free = record {
      count = length-set ms v x ∙ count;
      live = set_live s ms v x live x_live;
      inside = λ a. free_inside a (a v) refl;
      fixed = λ a t k within. elim (cases_eq k v) [
        | inl is ↦ ap (image s.nodes (set ms v x) a) is ∙ here a ∙ ap a (sym is)
        | inr other ↦ free_fixed a (a v) refl t k within other
      ];
    }

-- the cofactors of a function that depends on earlier variables alone do so too
module _ (s : Diagrams) (e high low : Edge) (v n : ℕ)
    (says : (a : ℕ → Bool) → truth_of s.nodes e a ≡ cond (a v) (truth_of s.nodes high a) (truth_of s.nodes low a))
    (high_past : DependsPast s high v) (low_past : DependsPast s low v) (below : DependsBelow s e n) where
  agree_with : (a b : ℕ → Bool) (x : Bool) → ((k : ℕ) → k < n → a k ≡ b k) → (k : ℕ) → k < n → with_value a v x k ≡ with_value b v x k
  agree_with a b x same k within = ap (λ y. cond (eqb k v) x y) (same k within)

  high_is : (a : ℕ → Bool) → truth_of s.nodes high a ≡ truth_of s.nodes e (with_value a v true)
  high_is a =
      high_past a (with_value a v true) (λ k from. sym (at_later a v true k from))
      ∙ sym (says (with_value a v true) ∙ ap (λ b. cond b (truth_of s.nodes high (with_value a v true)) (truth_of s.nodes low (with_value a v true))) (at_itself a v true))

  low_is : (a : ℕ → Bool) → truth_of s.nodes low a ≡ truth_of s.nodes e (with_value a v false)
  low_is a =
      low_past a (with_value a v false) (λ k from. sym (at_later a v false k from))
      ∙ sym (says (with_value a v false) ∙ ap (λ b. cond b (truth_of s.nodes high (with_value a v false)) (truth_of s.nodes low (with_value a v false))) (at_itself a v false))

  pub high_below : DependsBelow s high n
  high_below a b same = high_is a ∙ below (with_value a v true) (with_value b v true) (agree_with a b true same) ∙ sym (high_is b)

  pub low_below : DependsBelow s low n
  low_below a b same = low_is a ∙ below (with_value a v false) (with_value b v false) (agree_with a b false same) ∙ sym (low_is b)
