-- Steps of a walk.
use Rattle.std.proofs.Common.{◌≡◌, ◌≢◌, ◌⊎◌, ℕ, zero, suc, ◌+◌, ◌-◌, ◌*◌, ◌<◌, ◌≤◌, Bool, true, false, cond, eqb, List, [], ◌∷◌, ◌++◌, length, get_or, take, set, refl, ap, ◌∙◌, sym, subst, inl, inr, arith, length-set, get_or-set_same, get_or-set_other, eq-eqb}
use Rattle.std.proofs.lemmas.List.{length_push, get_or_append_left, get_or_push, get_or-take, length-take, get_or_read}
use Rattle.std.proofs.lemmas.Bool.{cases_eq, cases_lt}
use Rattle.std.proofs.lemmas.Bool.Decides.{nat_tests}
use Rattle.aig_store.specs.declared.node.AigNode.{AigNode}
use Rattle.aig_store.specs.declared.mark.Mark.{Mark}
use Rattle.aig_store.specs.Inside.{AreMarkedBy, call_at, marked_value}
use Rattle.aig_store.specs.Walks.{AreRight, IsWalk, bottom_of, top_of, unmarked_count, value_of, work}

abbrev pub blank : Mark
blank = record { call = 0; value = false }

-- ---- a smaller node is put on top
module _ (nodes : List AigNode) (a : ℕ → Bool) (call root : ℕ) (marks : List Mark) (stack : List ℕ) (below : ℕ) (w : IsWalk nodes a call root marks stack) (some : 0 < length stack) (smaller : below < top_of stack) (new : call_at marks below ≢ call) where
  last : length stack - 1 < length stack
  last = omega (arith, some)

  before : (i : ℕ) → i < length stack → get_or (stack ++ below ∷ []) i 0 ≡ get_or stack i 0
  before i h = get_or_append_left stack (below ∷ []) 0 i h

  on_top : (i : ℕ) → i ≡ length stack → get_or (stack ++ below ∷ []) i 0 ≡ below
  on_top i h = get_or_push stack below 0 i (sym h)

  places : (i : ℕ) → i < length (stack ++ below ∷ []) → (i < length stack) ⊎ (i ≡ length stack)
  places i h = elim (cases_lt i (length stack)) [ inl under ↦ inl under | inr over ↦ inr (omega (arith, length_push stack below)) ]

  under_all : (i : ℕ) → i < length stack → below < get_or stack i 0
  under_all i h = elim (cases_eq i (length stack - 1)) [
    | inl is ↦ omega (arith, smaller, ap (λ k. get_or stack k 0) is)
    | inr other ↦ omega (arith, smaller, w.falls i (length stack - 1) (omega (arith, h, other)) last)
  ]

  pub walk-push : IsWalk nodes a call root marks (stack ++ below ∷ [])
  walk-push = record {
    one_each = w.one_each;
    marked = w.marked;
    right = w.right;
    within = λ i h. elim (places i h) [
      | inl under ↦ omega (arith, before i under, w.within i under)
      | inr over ↦ omega (arith, on_top i over, over, smaller, some, w.within (length stack - 1) last)
    ];
    falls = λ i j lower h. elim (places j h) [
      | inl under ↦ omega (arith, before i (omega (arith, lower, under)), before j under, w.falls i j lower under)
      | inr over ↦ omega (arith, before i (omega (arith, lower, over)), on_top j over, under_all i (omega (arith, lower, over)))
    ];
    unmarked = λ i h. elim (places i h) [
      | inl under ↦ (λ e. w.unmarked i under (ap (call_at marks) (sym (before i under)) ∙ e))
      | inr over ↦ (λ e. new (ap (call_at marks) (sym (on_top i over)) ∙ e))
    ];
    begins = λ h. before 0 some ∙ w.begins some;
    done = λ h. absurd (omega (arith, h, length_push stack below));
  }

  pub push-falls : work call marks (stack ++ below ∷ []) < work call marks stack
  push-falls = omega (arith, smaller, on_top (length (stack ++ below ∷ []) - 1) (omega (arith, length_push stack below)))

-- ---- the node on top is marked, and goes
pub count-set : (call : ℕ) (marks : List Mark) (i : ℕ) (m : Mark) → i < length marks → call_at marks i ≢ call → m.call ≡ call → unmarked_count call (set marks i m) + 1 ≡ unmarked_count call marks
count-set call [] i m within new is = absurd (omega (arith, within))
count-set call (x ∷ xs) zero m within new is =
    let here : eqb x.call call ≡ false = grind (arith, nat_tests, new) in
    let now : eqb m.call call ≡ true = eq-eqb m.call call is in
    omega (arith, ap {B = ℕ} (λ t. cond t 0 1) here, ap {B = ℕ} (λ t. cond t 0 1) now)
count-set call (x ∷ xs) (suc i) m within new is = omega (arith, count-set call xs i m (omega (arith, within)) new is)

module _ (nodes : List AigNode) (a : ℕ → Bool) (call root : ℕ) (marks : List Mark) (stack : List ℕ) (value : Bool) (w : IsWalk nodes a call root marks stack) (some : 0 < length stack) (small : length nodes < 2147483648) (is : value ≡ value_of nodes a (top_of stack)) where
  top : ℕ
  top = top_of stack

  mark : Mark
  mark = record { call = call; value = value }

  last' : length stack - 1 < length stack
  last' = omega (arith, some)

  top_in : top < length marks
  unfolding top
  top_in = omega (arith, w.one_each, w.within (length stack - 1) last')

  now : List Mark
  now = set marks top mark

  call-here : call_at now top ≡ call
  unfolding now mark
  call-here = ap (λ (m : Mark). m.call) (get_or-set_same marks top mark blank top_in)

  call-other : (i : ℕ) → i ≢ top → call_at now i ≡ call_at marks i
  unfolding now
  call-other i h = ap (λ (m : Mark). m.call) (get_or-set_other marks top i mark blank h)

  value-here : marked_value now top ≡ value
  unfolding now mark
  value-here = ap (λ (m : Mark). m.value) (get_or-set_same marks top mark blank top_in)

  value-other : (i : ℕ) → i ≢ top → marked_value now i ≡ marked_value marks i
  unfolding now
  value-other i h = ap (λ (m : Mark). m.value) (get_or-set_other marks top i mark blank h)

  shorter : length (take (length stack - 1) stack) ≡ length stack - 1
  shorter = omega (arith, length-take (length stack - 1) stack)

  still : (i : ℕ) → i < length stack - 1 → get_or (take (length stack - 1) stack) i 0 ≡ get_or stack i 0
  still i h = get_or-take (length stack - 1) stack i 0 h

  above : (i : ℕ) → i < length stack - 1 → get_or stack i 0 ≢ top
  unfolding top
  above i h e = omega (arith, e, w.falls i (length stack - 1) h last')

  long : length now ≡ length marks
  unfolding now
  long = length-set marks top mark

  pub walk-pop : IsWalk nodes a call root (set marks (top_of stack) (record { call = call; value = value })) (take (length stack - 1) stack)
  unfolding now mark top
  walk-pop = record {
    one_each = long ∙ w.one_each;
    marked = λ i h. elim (cases_eq i top) [
      | inl here ↦ omega (arith, ap (call_at now) here, call-here)
      | inr other ↦ omega (arith, call-other i other, w.marked i (omega (arith, h, long)))
    ];
    right = λ i h called. elim (cases_eq i top) [
      | inl here ↦ ap (marked_value now) here ∙ value-here ∙ is ∙ sym (ap (value_of nodes a) here)
      | inr other ↦ value-other i other ∙ w.right i (omega (arith, h, long)) (sym (call-other i other) ∙ called)
    ];
    within = λ i h. let under : i < length stack - 1 = omega (arith, h, shorter) in omega (arith, still i under, w.within i (omega (arith, under)));
    falls = λ i j lower h. let under : j < length stack - 1 = omega (arith, h, shorter) in omega (arith, still i (omega (arith, lower, under)), still j under, w.falls i j lower (omega (arith, under)));
    unmarked = λ i h. let under : i < length stack - 1 = omega (arith, h, shorter) in
        (λ e. w.unmarked i (omega (arith, under)) (sym (call-other (get_or stack i 0) (above i under)) ∙ ap (call_at now) (sym (still i under)) ∙ e));
    begins = λ h. still 0 (omega (arith, h, shorter)) ∙ w.begins some;
    done = λ h. let first : length stack - 1 ≡ 0 = omega (arith, h, shorter) in ap (call_at now) (sym (w.begins some) ∙ sym (ap (λ k. get_or stack k 0) first)) ∙ call-here;
  }

  pub pop-falls : work call (set marks (top_of stack) (record { call = call; value = value })) (take (length stack - 1) stack) < work call marks stack
  unfolding top mark
  pop-falls =
      let fewer = count-set call marks top mark top_in (w.unmarked (length stack - 1) last') refl in
      elim (cases_eq (length stack - 1) 0) [
        | inl first ↦ omega (arith, fewer, top_of_none (take (length stack - 1) stack) (omega (arith, shorter, first)))
        | inr more ↦
            let under : length stack - 2 < length stack - 1 = omega (arith, more) in
            let place : length (take (length stack - 1) stack) - 1 ≡ length stack - 2 = omega (arith, shorter) in
            omega (arith, fewer, small, ap (λ k. get_or (take (length stack - 1) stack) k 0) place, still (length stack - 2) under, w.within (length stack - 2) (omega (arith, under)))
      ]
    where
      top_of_none : (xs : List ℕ) → length xs ≡ 0 → top_of xs ≡ 0
      top_of_none [] h = refl
      top_of_none (x ∷ xs) h = absurd (omega (arith, h))

-- ---- the walk begins
pub walk-begin : (nodes : List AigNode) (a : ℕ → Bool) (call root : ℕ) (marks : List Mark) → length marks ≡ length nodes → root < length nodes → ((i : ℕ) → i < length marks → call_at marks i < call) → IsWalk nodes a call root marks (root ∷ [])
walk-begin nodes a call root marks long within fresh = record {
  one_each = long;
  marked = λ i h. omega (arith, fresh i h);
  right = λ i h called. absurd (omega (arith, fresh i h, called));
  within = λ i h. let first : i ≡ 0 = omega (arith, h) in omega (arith, first, within, ap (λ k. get_or (root ∷ []) k 0) first);
  falls = λ i j lower h. absurd (omega (arith, lower, h));
  unmarked = λ i h. let first : i ≡ 0 = omega (arith, h) in (λ e. omega (arith, ap (λ k. call_at marks (get_or (root ∷ []) k 0)) first, e, fresh root (omega (arith, within, long))));
  begins = λ h. refl;
  done = λ h. absurd (omega (arith, h));
}

-- ---- the same, in the words of the code
pub read-top : (stack : List ℕ) (count v : ℕ) → count ≡ length stack → 0 < length stack → v ≡ get_or stack (count - 1) v → v ≡ top_of stack
read-top stack count v is some read = get_or_read stack (count - 1) v (omega (arith, is, some)) read 0 ∙ ap (λ k. get_or stack (k - 1) 0) is

pub walk-popped : (nodes : List AigNode) (a : ℕ → Bool) (call root : ℕ) (marks : List Mark) (stack stack' : List ℕ) (count v : ℕ) (value : Bool) → IsWalk nodes a call root marks stack → 0 < length stack → length nodes < 2147483648 →
    v ≡ top_of stack → count ≡ length stack → stack' ≡ take (count - 1) stack → value ≡ value_of nodes a v → IsWalk nodes a call root (set marks v (record { call = call; value = value })) stack'
walk-popped nodes a call root marks stack stack' count v value w some small v_is count_is stack'_is is =
    rw (stack'_is, count_is, v_is) (walk-pop nodes a call root marks stack value w some small (is ∙ ap (value_of nodes a) v_is))

pub popped-falls : (nodes : List AigNode) (a : ℕ → Bool) (call root : ℕ) (marks : List Mark) (stack stack' : List ℕ) (count v : ℕ) (value : Bool) → IsWalk nodes a call root marks stack → 0 < length stack → length nodes < 2147483648 →
    v ≡ top_of stack → count ≡ length stack → stack' ≡ take (count - 1) stack → value ≡ value_of nodes a v → work call (set marks v (record { call = call; value = value })) stack' < work call marks stack
popped-falls nodes a call root marks stack stack' count v value w some small v_is count_is stack'_is is =
    rw (stack'_is, count_is, v_is) (pop-falls nodes a call root marks stack value w some small (is ∙ ap (value_of nodes a) v_is))
