-- The laws of a call that is made, by itself on its constants, beside the whole.
use Rattle.std.proofs.Common.{◌≡◌, ◌∙◌, ap, sym, refl, subst, ℕ, zero, suc, ◌+◌, ◌-◌, ◌≤◌, ◌<◌, List, [], ◌∷◌, ◌++◌, Bool, true, false, ◌&&◌, cond, Option, Some, None, length, arith, ◌⊎◌, inl, inr}
use Rattle.std.specs.Prelude.{sum_by, map}
use Rattle.std.specs.List.{list_any, filter, flat_map, Contains}
use Rattle.std.proofs.lemmas.Bool.{or_left, or_right, or_cases, and_parts, and_from}
use Rattle.std.proofs.lemmas.List.Folds.{list_any-append}
use Rattle.std.proofs.lemmas.List.Sums.{sum_by-cons}
use Rattle.gl_logic.specs.Object.{Object}
use Rattle.gl_logic.specs.ObjectEq.{object_eq}
use Rattle.gl_logic.specs.Parts.{cells_in}
use Rattle.gl_logic.specs.Definition.{Definition}
use Rattle.gl_logic.specs.Different.{different}
use Rattle.gl_logic.specs.Exp.{Exp}
use Rattle.gl_logic.specs.Walk.{Walk, Walks, CallMade, then, ended, joined, walks_by, opened, body_walk, walk}
use Rattle.gl_logic.specs.Evaluate.{evaluate}
use Rattle.gl_logic.specs.Counts.{seen_in, made_in, seen, cost, is_among, own_opened, own_cost, own_cost_of_call, call_eq, memoized_cost}
use Rattle.gl_logic.specs.CellCounts.{cells, distinct_cells, world_constants, constants_of, constants_of_all}
use Rattle.gl_logic.specs.WorldSeen.{WorldSeen}
use Rattle.gl_logic.specs.Wide.{IsWide, SomeWide}
use Rattle.gl_logic.specs.IsWithin.{IsWithin, Nothing, Both, Skipped}
use Rattle.gl_logic.specs.ConstantCall.{constant_terms}
use Rattle.gl_logic.specs.PartsOfWalks.{Makes, call_itself}
use Rattle.gl_logic.proofs.Optional.{none_some}
use Rattle.gl_logic.proofs.Equality.{equal_from, equal_itself}
use Rattle.gl_logic.proofs.Walks.{walk_unique}
use Rattle.gl_logic.proofs.Calls.{is_made, made_from, made_contains, every_at, call_equal_from, call_equal_itself}
use Rattle.gl_logic.proofs.Charges.{sum_within, length_within, different_has, different_once, filter_has}
use Rattle.gl_logic.proofs.Beside.{own_of, then_is}
use Rattle.gl_logic.proofs.PartsOfWalks.{IsPart, cost_here, own, after_counted, own_is, own_call, own_body_at, body_deeper, term_parts}
use Rattle.gl_logic.proofs.Within.{within_length, within_at, within_before, within_itself}

-- ---- a call by itself
pub constants_walk : (k : ℕ → Walks → Option Walk) (xs : List Object) (env : List (ℕ × Object)) → walks_by k (constant_terms xs) env ≡ Some (record { values = xs; seen = xs; made = [] })
constants_walk k [] env = refl
constants_walk k (x ∷ xs) env = ap (λ o. then o (joined (record { value = x; seen = x ∷ []; made = [] }))) (constants_walk k xs env)

abbrev call_run : CallMade → Walk → Walk
call_run c run = record { value = run.value; seen = c.1 ++ run.seen ++ run.value ∷ []; made = c ∷ run.made }

call_walk : (ds : List Definition) (m : ℕ) (c : CallMade) (run : Walk) → body_walk ds m c.0 c.1 ≡ Some run → walk ds (suc m) [] (call_itself c) ≡ Some (call_run c run)
call_walk ds m c run w =
    then_is (walks_by (opened ds (suc m)) (constant_terms c.1) []) (opened ds (suc m) c.0) (record { values = c.1; seen = c.1; made = [] }) _ (constants_walk (opened ds (suc m)) c.1 [])
    (then_is (body_walk ds m c.0 c.1) (ended c.1 (c ∷ [])) run _ w refl)

own_cost_here : (ds : List Definition) (functions : List ℕ) (m : ℕ) (c : CallMade) (run : Walk) → body_walk ds m c.0 c.1 ≡ Some run → own_cost ds functions (suc m) [] (call_itself c) ≡ cost_here ds functions (suc m) c
own_cost_here ds functions m c run w =
    let b = own_body_at ds functions (suc m) m c.0 c.1 run (omega arith) w in
    let p = own_call ds functions (suc m) m c.0 (is_among functions c.0) c.1 c.1 [] run b.own b.own_made w b.own_is in
    let k : own ds functions (suc m) c ≡ length b.own = own_is ds functions (suc m) m c.0 c.1 (own_of run b.own b.own_made) (omega arith) b.own_is in
    let there = then_is (walks_by (own_opened ds functions (suc m)) (constant_terms c.1) []) (own_opened ds functions (suc m) c.0) (record { values = c.1; seen = c.1; made = [] }) _ (constants_walk (own_opened ds functions (suc m)) c.1 []) p.1 in
    ap (λ o. length (seen_in o)) there ∙ (after_counted ds functions (suc m) (is_among functions c.0) c.1 b.own run.value ∙ ap (λ (z : ℕ). length c.1 + 1 + cond (is_among functions c.0) 0 z) (sym k))

-- ---- a call that is made
record Made (ds : List Definition) (functions : List ℕ) (n : ℕ) (env : List (ℕ × Object)) (t : Exp) (c : CallMade) : Type 0 where
  pub whole : Walk
  pub walks : walk ds n env t ≡ Some whole
  pub there : is_made whole.made c ≡ true
  pub part : IsPart ds functions n whole.seen whole.made (own_cost ds functions n env t) c
  pub before : ℕ
  pub depth_is : n ≡ suc before
  pub body : body_walk ds before c.0 c.1 ≡ Some part.run
  pub alone : walk ds n [] (call_itself c) ≡ Some (call_run c part.run)

made_some : (o : Option Walk) (c : CallMade) → Contains (made_in o) c → (r : Walk) × ((o ≡ Some r) × (is_made r.made c ≡ true))
made_some None c h = absurd (omega (arith, h.1))
made_some (Some r) c h = (r, (refl, made_from r.made c h))

predecessor : (k n : ℕ) → k < n → (m : ℕ) × ((n ≡ suc m) × (k ≤ m))
predecessor k zero h = absurd (omega (arith, h))
predecessor k (suc m) h = (m, (refl, omega (arith, h)))

made_at : (ds : List Definition) (functions : List ℕ) (n : ℕ) (env : List (ℕ × Object)) (t : Exp) (c : CallMade) → Makes ds n env t c → Made ds functions n env t c
made_at ds functions n env t c h =
    let i = made_some (walk ds n env t) c h in
    let p = every_at (IsPart ds functions n i.0.seen i.0.made (own_cost ds functions n env t)) i.0.made c (term_parts ds functions n env t i.0 i.1.0) i.1.1 in
    let m = predecessor p.depth n p.below in
    let z : (m.0 - p.depth) + p.depth ≡ m.0 = omega (arith, m.1.1) in
    let body : body_walk ds m.0 c.0 c.1 ≡ Some p.run = subst (λ (k : ℕ). body_walk ds k c.0 c.1 ≡ Some p.run) z (body_deeper ds p.depth (m.0 - p.depth) c.0 c.1 p.run p.walks) in
    record {
      whole = i.0;
      walks = i.1.0;
      there = i.1.1;
      part = p;
      before = m.0;
      depth_is = m.1.0;
      body = body;
      alone = subst (λ (k : ℕ). walk ds k [] (call_itself c) ≡ Some (call_run c p.run)) (sym m.1.0) (call_walk ds m.0 c p.run body);
    }

-- ---- what the whole has
in_whole : (whole : List CallMade) (c : CallMade) (inner : List CallMade) (d : CallMade) → is_made whole c ≡ true → ((u : CallMade) → is_made inner u ≡ true → is_made whole u ≡ true) → is_made (c ∷ inner) d ≡ true → is_made whole d ≡ true
in_whole whole c inner d there h k = elim (or_cases (call_eq d c) (is_made inner d) k) [
  | inl e ↦ subst (λ (u : CallMade). is_made whole u ≡ true) (sym (call_equal_from d c e)) there
  | inr e ↦ h d e
]

wide_within : (xs ys : List Object) → IsWithin xs ys → SomeWide xs → SomeWide ys
wide_within xs ys h w = let i = within_at xs ys w.0 w.1.0 h w.1.1.0 in (i.0, (w.1.0, (i.1, w.1.1.1)))

wide_at : (ds : List Definition) (m n : ℕ) (t : Exp) (r : Walk) → walk ds n [] t ≡ Some r → (o : Option Walk) → walk ds m [] t ≡ o → SomeWide (seen_in o) → SomeWide (seen ds n [] t)
wide_at ds m n t r e None g w = none_some w.1.0 w.1.1.0
wide_at ds m n t r e (Some s) g w = subst (λ (o : Option Walk). SomeWide (seen_in o)) (ap (λ (z : Walk). Some z) (walk_unique ds m n [] t s r g e) ∙ sym e) w

-- ---- the laws
module _ (ds : List Definition) (n : ℕ) (env : List (ℕ × Object)) (t : Exp) (c : CallMade) (h : Makes ds n env t c) where
  pub call_value : (x : Object) × (evaluate ds n [] (call_itself c) ≡ Some x)
  call_value = let a = made_at ds [] n env t c h in (a.part.run.value, ap (λ o. then o (λ r. Some r.value)) a.alone)

  pub call_sees : IsWithin (seen ds n [] (call_itself c)) (seen ds n env t)
  call_sees =
      let a = made_at ds [] n env t c h in
      subst (λ (o : Option Walk). IsWithin (seen_in o) (seen ds n env t)) (sym a.alone) (subst (λ (o : Option Walk). IsWithin (call_run c a.part.run).seen (seen_in o)) (sym a.walks) a.part.within)

  pub call_makes : (d : CallMade) → Makes ds n [] (call_itself c) d → Makes ds n env t d
  call_makes d g =
      let a = made_at ds [] n env t c h in
      let k : is_made (c ∷ a.part.run.made) d ≡ true = made_from (c ∷ a.part.run.made) d (subst (λ (o : Option Walk). Contains (made_in o) d) a.alone g) in
      subst (λ (o : Option Walk). Contains (made_in o) d) (sym a.walks) (made_contains a.whole.made d (in_whole a.whole.made c a.part.run.made d a.there a.part.inner k))

  pub call_costs : cost ds n [] (call_itself c) ≤ cost ds n env t
  call_costs = within_length (seen ds n [] (call_itself c)) (seen ds n env t) call_sees

  pub call_wide : IsWide ds [] (call_itself c) → IsWide ds env t
  call_wide w = let a = made_at ds [] n env t c h in (n, wide_within (seen ds n [] (call_itself c)) (seen ds n env t) call_sees (wide_at ds w.0 n (call_itself c) (call_run c a.part.run) a.alone (walk ds w.0 [] (call_itself c)) refl w.1))

-- ---- the memoized cost
module _ (functions : List ℕ) where
  abbrev of_these : List CallMade → List CallMade
  of_these cs = filter (λ c. is_among functions c.0) cs

  abbrev once : List CallMade → List CallMade
  once cs = different call_eq (of_these cs)

  once_has : (cs : List CallMade) (u : CallMade) → is_made (once cs) u ≡ (is_among functions u.0 && is_made cs u)
  once_has cs u = different_has call_eq call_equal_from call_equal_itself (of_these cs) u ∙ filter_has call_eq call_equal_from call_equal_itself (λ c. is_among functions c.0) cs u

  once_within : (xs ys : List CallMade) → ((u : CallMade) → is_made xs u ≡ true → is_made ys u ≡ true) → (u : CallMade) → is_made (once xs) u ≡ true → is_made (once ys) u ≡ true
  once_within xs ys h u k =
      let p = and_parts (is_among functions u.0) (is_made xs u) (sym (once_has xs u) ∙ k) in
      once_has ys u ∙ and_from (is_among functions u.0) (is_made ys u) p.0 (h u p.1)

  module _ (price : CallMade → ℕ) (xs ys : List CallMade) (h : (u : CallMade) → is_made xs u ≡ true → is_made ys u ≡ true) where
    sums_within : sum_by price (once xs) ≤ sum_by price (once ys)
    sums_within = sum_within call_eq call_equal_from call_equal_itself price (once xs) (once ys) (different_once call_eq call_equal_from call_equal_itself (of_these xs)) (once_within xs ys h)

    -- with a call besides that the first doesn't have
    sums_within_one : (u : CallMade) → is_among functions u.0 ≡ true → is_made ys u ≡ true → is_made xs u ≡ false → price u + sum_by price (once xs) ≤ sum_by price (once ys)
    sums_within_one u memoized there outside =
        let apart : is_made (once xs) u ≡ false = once_has xs u ∙ (λ i. memoized i && outside i) in
        let here : is_made (once ys) u ≡ true = once_has ys u ∙ (λ i. memoized i && there i) in
        let k = sum_within call_eq call_equal_from call_equal_itself price (u ∷ once xs) (once ys) (apart, different_once call_eq call_equal_from call_equal_itself (of_these xs)) (λ v e. elim (or_cases (call_eq v u) (is_made (once xs) v) e) [
          | inl q ↦ subst (λ (z : CallMade). is_made (once ys) z ≡ true) (sym (call_equal_from v u q)) here
          | inr q ↦ once_within xs ys h v q
        ]) in
        omega (arith, k, sum_by-cons price u (once xs))

  memoized_at : (ds : List Definition) (before : ℕ) (env : List (ℕ × Object)) (t : Exp) (c : CallMade) (whole run : Walk) → walk ds (suc before) env t ≡ Some whole → walk ds (suc before) [] (call_itself c) ≡ Some (call_run c run) → body_walk ds before c.0 c.1 ≡ Some run → is_made whole.made c ≡ true
      → (part : IsPart ds functions (suc before) whole.seen whole.made (own_cost ds functions (suc before) env t) c) → part.run ≡ run
      → memoized_cost ds functions (suc before) [] (call_itself c) ≤ memoized_cost ds functions (suc before) env t
  memoized_at ds before env t c whole run walks alone body there part same =
      let price = own_cost_of_call ds functions (suc before) in
      let inside : (u : CallMade) → is_made (c ∷ run.made) u ≡ true → is_made whole.made u ≡ true = λ u. in_whole whole.made c run.made u there (subst (λ (r : Walk). (u : CallMade) → is_made r.made u ≡ true → is_made whole.made u ≡ true) same part.inner) in
      let ours : memoized_cost ds functions (suc before) [] (call_itself c) ≡ cost_here ds functions (suc before) c + sum_by price (once (c ∷ run.made)) = λ i. own_cost_here ds functions before c run body i + sum_by price (once (made_in (alone i))) in
      let theirs : memoized_cost ds functions (suc before) env t ≡ own_cost ds functions (suc before) env t + sum_by price (once whole.made) = ap (λ o. own_cost ds functions (suc before) env t + sum_by price (once (made_in o))) walks in
      elim part.paid [
        | inl q ↦ omega (arith, ours, theirs, q, sums_within price (c ∷ run.made) whole.made inside)
        | inr q ↦ omega (arith, ours, theirs, q.pays, sums_within_one price (c ∷ run.made) whole.made inside q.payer q.is_memoized q.is_there (subst (λ (r : Walk). is_made (c ∷ r.made) q.payer ≡ false) same q.outside))
      ]

  pub call_costs_memoized : (ds : List Definition) (n : ℕ) (env : List (ℕ × Object)) (t : Exp) (c : CallMade) → Makes ds n env t c → memoized_cost ds functions n [] (call_itself c) ≤ memoized_cost ds functions n env t
  call_costs_memoized ds zero env t c h = let a = made_at ds functions zero env t c h in absurd (omega (arith, a.part.below))
  call_costs_memoized ds (suc before) env t c h =
      let a = made_at ds functions (suc before) env t c h in
      let z : a.before ≡ before = omega (arith, a.depth_is) in
      memoized_at ds before env t c a.whole a.part.run a.walks a.alone (subst (λ (k : ℕ). body_walk ds k c.0 c.1 ≡ Some a.part.run) z a.body) a.there a.part refl

-- ---- the cells
abbrev has : List Object → Object → Bool
has xs x = list_any (object_eq x) xs

within_has : (xs ys : List Object) (z : Object) → IsWithin xs ys → has xs z ≡ true → has ys z ≡ true
within_has _ _ z Nothing k = k
within_has _ _ z (Both x xs ys h) k = elim (or_cases (object_eq z x) (has xs z) k) [ inl e ↦ or_left (object_eq z x) (has ys z) e | inr e ↦ or_right (object_eq z x) (has ys z) (within_has xs ys z h e) ]
within_has _ _ z (Skipped y xs ys h) k = or_right (object_eq z y) (has ys z) (within_has xs ys z h k)

has_left : (xs ys : List Object) (z : Object) → has xs z ≡ true → has (xs ++ ys) z ≡ true
has_left xs ys z h = list_any-append (object_eq z) xs ys ∙ or_left (has xs z) (has ys z) h

has_right : (xs ys : List Object) (z : Object) → has ys z ≡ true → has (xs ++ ys) z ≡ true
has_right xs ys z h = list_any-append (object_eq z) xs ys ∙ or_right (has xs z) (has ys z) h

has_cases : (xs ys : List Object) (z : Object) → has (xs ++ ys) z ≡ true → (has xs z ≡ true) ⊎ (has ys z ≡ true)
has_cases xs ys z h = or_cases (has xs z) (has ys z) (sym (list_any-append (object_eq z) xs ys) ∙ h)

-- a part of one that is there is there
flat_has : (vs : List Object) (u z : Object) → has vs u ≡ true → has (cells_in u) z ≡ true → has (flat_map cells_in vs) z ≡ true
flat_has [] u z h k = absurd cc
flat_has (v ∷ vs) u z h k = elim (or_cases (object_eq u v) (has vs u) h) [
  | inl e ↦ has_left (cells_in v) (flat_map cells_in vs) z (subst (λ (w : Object). has (cells_in w) z ≡ true) (equal_from u v e) k)
  | inr e ↦ has_right (cells_in v) (flat_map cells_in vs) z (flat_has vs u z e k)
]

flat_within : (us vs : List Object) → ((u : Object) → has us u ≡ true → has vs u ≡ true) → (z : Object) → has (flat_map cells_in us) z ≡ true → has (flat_map cells_in vs) z ≡ true
flat_within [] vs h z k = absurd cc
flat_within (u ∷ us) vs h z k = elim (has_cases (cells_in u) (flat_map cells_in us) z k) [
  | inl e ↦ flat_has vs u z (h u (or_left (object_eq u u) (has us u) (equal_itself u))) e
  | inr e ↦ flat_within us vs (λ w g. h w (or_right (object_eq w u) (has us w) g)) z e
]

constants_are : (xs : List Object) → constants_of_all (constant_terms xs) ≡ xs
constants_are [] = refl
constants_are (x ∷ xs) = ap (λ (ys : List Object). x ∷ ys) (constants_are xs)

pub call_needs : (w : WorldSeen) (n : ℕ) (env : List (ℕ × Object)) (t : Exp) (c : CallMade) → Makes w.definitions n env t c → distinct_cells w n [] (call_itself c) ≤ distinct_cells w n env t
call_needs w n env t c h =
    let a = made_at w.definitions [] n env t c h in
    let W = world_constants w in
    let C = constants_of (call_itself c) in
    let S = seen w.definitions n [] (call_itself c) in
    let D = constants_of t in
    let T = seen w.definitions n env t in
    let E : List Object = map (λ p. p.1) env in
    let X = cells w n [] (call_itself c) in
    let Y = cells w n env t in
    let S_is : S ≡ c.1 ++ a.part.run.seen ++ a.part.run.value ∷ [] = ap seen_in a.alone in
    let arguments : IsWithin c.1 S = subst (λ (ys : List Object). IsWithin c.1 ys) (sym S_is) (within_before c.1 (c.1 ++ a.part.run.seen) (a.part.run.value ∷ []) (within_before c.1 c.1 a.part.run.seen (within_itself c.1))) in
    let seen_there : (z : Object) → has S z ≡ true → has (E ++ (W ++ (D ++ T))) z ≡ true = λ z k. has_right E (W ++ (D ++ T)) z (has_right W (D ++ T) z (has_right D T z (within_has S T z (call_sees w.definitions n env t c h) k))) in
    let all_there : (z : Object) → has (W ++ (C ++ S)) z ≡ true → has (E ++ (W ++ (D ++ T))) z ≡ true = λ z k. elim (has_cases W (C ++ S) z k) [
      | inl e ↦ has_right E (W ++ (D ++ T)) z (has_left W (D ++ T) z e)
      | inr e ↦ elim (has_cases C S z e) [
        | inl g ↦ seen_there z (within_has c.1 S z arguments (subst (λ (ys : List Object). has ys z ≡ true) (constants_are c.1) g))
        | inr g ↦ seen_there z g
      ]
    ] in
    length_within object_eq equal_from equal_itself (different object_eq X) (different object_eq Y) (different_once object_eq equal_from equal_itself X)
    (λ z k. different_has object_eq equal_from equal_itself Y z ∙ flat_within (W ++ (C ++ S)) (E ++ (W ++ (D ++ T))) all_there z (sym (different_has object_eq equal_from equal_itself X z) ∙ k))
