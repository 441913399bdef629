-- A step makes the measure smaller.
use Rattle.std.proofs.Common.{◌≡◌, inl, inr, ◌∙◌, ap, sym, refl, ℕ, zero, suc, ◌<◌, pos, negsuc, ◌+ℤ◌, ◌-ℤ◌, List, [], ◌∷◌, Bool, true, false, not, ◌&&◌, ◌||◌, eqb, leb, Option, Some, None, subst, arith}
use Rattle.std.specs.List.{list_any}
use Rattle.std.proofs.lemmas.Bool.{and_parts, or_cases, eqb-true}
use Rattle.gl_logic.specs.Object.{Object, Int}
use Rattle.gl_logic.specs.PrimValue.{integer_in, natural_in}
use Rattle.gl_logic.specs.Environment.{look, extended}
use Rattle.gl_logic.specs.Definition.{Definition}
use Rattle.gl_logic.specs.Exp.{Exp, Exps, Prim, Last, More}
use Rattle.gl_logic.specs.Walk.{Walk, Walks, joined, walks_by, opened, walk}
use Rattle.gl_logic.specs.declared.def.Natural.{Natural}
use Rattle.gl_logic.specs.declared.def.Natural.TheVariants as natural
use Rattle.gl_logic.specs.declared.def.Measure.{Measure}
use Rattle.gl_logic.specs.Definition.{MeasureParts, One, Two, measure_parts}
use Rattle.gl_logic.specs.RecursiveCalls.{Fact, Governed}
use Rattle.gl_logic.specs.Measures.{acl2_count, list_count, natural_size, parts_size, measure_size}
use Rattle.gl_logic.specs.Steps.{shows_cons, shows_positive, is_proper_part, less_by, is_variable, is_divided, more_by, shows_gap, count_row, len_row, nat_row, stays_row, gap_row, gap_stays_row, actual_of, is_unbound, row_at, gap_at, natural_steps, natural_stays, parts_step, measure_steps}
use Rattle.gl_logic.proofs.Optional.{none_some, some_same, then_inverted}
use Rattle.gl_logic.proofs.Runs.{Run, Runs}
use Rattle.gl_logic.proofs.Facts.{AreFacts, AgreeBut}
use Rattle.gl_logic.proofs.Lexicographic.{Below}
use Rattle.gl_logic.specs.IsGround.{AreGround}
use Rattle.gl_logic.proofs.SimpleTerms.{is_simple, simple_value, simple_run}
use Rattle.gl_logic.proofs.Shown.{cons_shown, positive_shown, gap_shown, IsPositive}
use Rattle.gl_logic.proofs.Rows.{count_parts, list_parts, proper_falls, is_variable_is, less_is, more_is, divided_is, count_less, nat_less, gap_less}

-- ---- the value of the actual of a formal
first_or : (b : Bool) (ds : List Definition) (n : ℕ) (env : List (ℕ × Object)) (u : ℕ) (us : List ℕ) (a : Exp) (ts : Exps) (w : ℕ) (t : Exp) (r : Walk) (xs : List Object) → eqb u w ≡ b
    → elim b as (λ _. Option Exp) [ true ↦ Some a | false ↦ actual_of us ts w ] ≡ Some t → walk ds n env a ≡ Some r
    → (actual_of us ts w ≡ Some t → (s : Run ds env t) × (s.run.value ≡ look (extended us xs []) w)) → (s : Run ds env t) × (s.run.value ≡ look (extended (u ∷ us) (r.value ∷ xs) []) w)
first_or true ds n env u us a ts w t r xs e h g next =
    let q : r.value ≡ look (extended (u ∷ us) (r.value ∷ xs) []) w = grind (arith, e) in
    subst (λ (c : Exp). (s : Run ds env c) × (s.run.value ≡ look (extended (u ∷ us) (r.value ∷ xs) []) w)) (some_same a t h) (record { depth = n; run = r; walks = g }, q)
first_or false ds n env u us a ts w t r xs e h g next =
    let q : look (extended us xs []) w ≡ look (extended (u ∷ us) (r.value ∷ xs) []) w = grind (arith, e) in
    let k = next h in (k.0, k.1 ∙ q)

actual_at : (ds : List Definition) (n : ℕ) (env : List (ℕ × Object)) (us : List ℕ) (ts : Exps) (w : ℕ) (t : Exp) (rs : Walks) → actual_of us ts w ≡ Some t → walks_by (opened ds n) ts env ≡ Some rs → (r : Run ds env t) × (r.run.value ≡ look (extended us rs.values []) w)
actual_at ds n env [] ts w t rs h e = none_some t h
actual_at ds n env (u ∷ us) Last w t rs h e = none_some t h
actual_at ds n env (u ∷ us) (More a ts) w t rs h e =
    let i = then_inverted (walk ds n env a) _ rs e in
    let j = then_inverted (walks_by (opened ds n) ts env) (joined i.0) rs i.1.1 in
    let q : rs.values ≡ i.0.value ∷ j.0.values = ap (λ (x : Walks). x.values) (sym (some_same _ rs j.1.1)) in
    subst (λ (xs : List Object). (r : Run ds env t) × (r.run.value ≡ look (extended (u ∷ us) xs []) w)) (sym q)
    (first_or (eqb u w) ds n env u us a ts w t i.0 j.0.values refl h i.1.0 (λ k. actual_at ds n env us ts w t j.0 k j.1.0))

-- ---- the rows
abbrev pub RowFalls : List Definition → (List Fact → ℕ → Exp → Bool) → (Object → ℕ) → Type 0
RowFalls ds row count = (env : List (ℕ × Object)) (fs : List Fact) (v : ℕ) (t : Exp) → AreFacts ds env fs → row fs v t ≡ true → (is_simple t ≡ true) × (count (simple_value t env) < count (look env v))

positive_from : (n : ℕ) → leb 1 n ≡ true → (k : ℕ) × (n ≡ suc k)
positive_from zero h = absurd cc
positive_from (suc k) h = (k, refl)

both_true : (b c : Bool) → b ≡ true → c ≡ true → (b && c) ≡ true
both_true true c h g = g
both_true false c h g = absurd cc

turned : (b : Bool) → not b ≡ true → b ≡ false
turned true h = absurd cc
turned false h = refl

module _ (text_length : ℕ → ℕ) (ds : List Definition) (known : AreGround ds) where
  count_positive : (x y : Object) → IsPositive x → y ≡ Int (integer_in x +ℤ negsuc 0) → acl2_count text_length y < acl2_count text_length x
  count_positive x y p e =
      let q : acl2_count text_length y ≡ acl2_count text_length (Int (pos (suc p.0) +ℤ negsuc 0)) = ap (acl2_count text_length) (e ∙ ap (λ (z : Object). Int (integer_in z +ℤ negsuc 0)) p.1) in
      let m : acl2_count text_length x ≡ acl2_count text_length (Int (pos (suc p.0))) = ap (acl2_count text_length) p.1 in
      omega (arith, q, m, count_less text_length p.0)

  nat_positive : (x y : Object) (k : ℕ) → IsPositive x → y ≡ Int (integer_in x +ℤ negsuc k) → natural_in y < natural_in x
  nat_positive x y k p e =
      let q : natural_in y ≡ natural_in (Int (pos (suc p.0) +ℤ negsuc k)) = ap natural_in (e ∙ ap (λ (z : Object). Int (integer_in z +ℤ negsuc k)) p.1) in
      let m : natural_in x ≡ natural_in (Int (pos (suc p.0))) = ap natural_in p.1 in
      omega (arith, q, m, nat_less p.0 k)

  pub count_row_falls : RowFalls ds count_row (acl2_count text_length)
  count_row_falls env fs v t h e = elim (or_cases (is_proper_part true v t && shows_cons fs v) ((eqb (less_by v t) 1 || is_divided v t) && shows_positive fs v) e) [
    | inl a ↦ let p = and_parts (is_proper_part true v t) (shows_cons fs v) a in proper_falls true (acl2_count text_length) (count_parts text_length) env v (cons_shown ds known env fs v h p.1) t p.0
    | inr b ↦
        let p = and_parts (eqb (less_by v t) 1 || is_divided v t) (shows_positive fs v) b in
        let x : IsPositive (look env v) = positive_shown ds known env fs v h p.1 in
        elim (or_cases (eqb (less_by v t) 1) (is_divided v t) p.0) [
          | inl c ↦ let l = less_is env t v 0 (eqb-true (less_by v t) 1 c) in (l.0, count_positive (look env v) (simple_value t env) x l.1)
          | inr c ↦
              let l = divided_is env v x.0 x.1 t c in
              let q : acl2_count text_length (simple_value t env) ≡ l.1.0 = ap (acl2_count text_length) l.1.1.0 in
              let m : acl2_count text_length (look env v) ≡ suc x.0 = ap (acl2_count text_length) x.1 in
              (l.0, omega (arith, q, m, l.1.1.1))
        ]
  ]

  pub len_row_falls : RowFalls ds len_row list_count
  len_row_falls env fs v t h e = let p = and_parts (is_proper_part false v t) (shows_cons fs v) e in proper_falls false list_count list_parts env v (cons_shown ds known env fs v h p.1) t p.0

  nat_at : (k : ℕ) (env : List (ℕ × Object)) (fs : List Fact) (v : ℕ) (t : Exp) → AreFacts ds env fs → less_by v t ≡ k → leb 1 k ≡ true → shows_positive fs v ≡ true → (is_simple t ≡ true) × (natural_in (simple_value t env) < natural_in (look env v))
  nat_at zero env fs v t h e l s = absurd cc
  nat_at (suc k) env fs v t h e l s = let i = less_is env t v k e in (i.0, nat_positive (look env v) (simple_value t env) k (positive_shown ds known env fs v h s) i.1)

  pub nat_row_falls : RowFalls ds nat_row natural_in
  nat_row_falls env fs v t h e =
      let p = and_parts (leb 1 (less_by v t) || is_divided v t) (shows_positive fs v) e in
      elim (or_cases (leb 1 (less_by v t)) (is_divided v t) p.0) [
        | inl c ↦ nat_at (less_by v t) env fs v t h refl c p.1
        | inr c ↦
            let x : IsPositive (look env v) = positive_shown ds known env fs v h p.1 in
            let l = divided_is env v x.0 x.1 t c in
            let q : natural_in (simple_value t env) ≡ l.1.0 = ap natural_in l.1.1.0 in
            let m : natural_in (look env v) ≡ suc x.0 = ap natural_in x.1 in
            (l.0, omega (arith, q, m, l.1.1.1))
      ]

  -- ---- from a row to the measures of the two calls
  row_step : (row : List Fact → ℕ → Exp → Bool) (count : Object → ℕ) → RowFalls ds row count → (c : Governed) (v w : ℕ) (formals : List ℕ) (start env : List (ℕ × Object)) (rs : Runs ds env c.actuals) (o : Option Exp)
      → actual_of formals c.actuals w ≡ o → row_at row c v o ≡ true → AgreeBut c.bound start env → AreFacts ds env c.facts → count (look (extended formals rs.run.values []) w) < count (look start v)
  row_step row count falls c v w formals start env rs None e h a g = absurd cc
  row_step row count falls c v w formals start env rs (Some t) e h a g =
      let p = and_parts (not (list_any (λ u. eqb u v) c.bound)) (row c.facts v t) h in
      let f = falls env c.facts v t g p.1 in
      let x = actual_at ds rs.depth env formals c.actuals w t rs.run e rs.walks in
      let q : count (simple_value t env) ≡ count (look (extended formals rs.run.values []) w) = ap count (sym (simple_run ds env t x.0 f.0) ∙ x.1) in
      let m : count (look start v) ≡ count (look env v) = ap count (a v (turned (list_any (λ u. eqb u v) c.bound) p.0)) in
      let l = f.1 in
      omega (arith, q, m, l)

  -- the formal's value stays
  row_stays : (c : Governed) (v w : ℕ) (formals : List ℕ) (start env : List (ℕ × Object)) (rs : Runs ds env c.actuals) (o : Option Exp) → actual_of formals c.actuals w ≡ o → row_at stays_row c v o ≡ true → AgreeBut c.bound start env
      → look (extended formals rs.run.values []) w ≡ look start v
  row_stays c v w formals start env rs None e h a = absurd cc
  row_stays c v w formals start env rs (Some t) e h a =
      let p = and_parts (is_unbound c v) (is_variable v t) h in
      let x = actual_at ds rs.depth env formals c.actuals w t rs.run e rs.walks in
      let q = is_variable_is v t p.1 in
      sym x.1 ∙ (simple_run ds env t x.0 (ap is_simple q) ∙ (ap (λ (z : Exp). simple_value z env) q ∙ sym (a v (turned (list_any (λ u. eqb u v) c.bound) p.0))))

  gap_falls : (c : Governed) (a b x y : ℕ) (formals : List ℕ) (start env : List (ℕ × Object)) (rs : Runs ds env c.actuals) (o p : Option Exp) → actual_of formals c.actuals x ≡ o → actual_of formals c.actuals y ≡ p → gap_at gap_row c a b o p ≡ true
      → AgreeBut c.bound start env → AreFacts ds env c.facts → natural_in (Int (integer_in (look (extended formals rs.run.values []) y) -ℤ integer_in (look (extended formals rs.run.values []) x))) < natural_in (Int (integer_in (look start b) -ℤ integer_in (look start a)))
  gap_falls c a b x y formals start env rs (Some s) (Some t) e f h agrees facts =
      let p1 = and_parts (is_unbound c a) _ h in
      let p2 = and_parts (is_unbound c b) _ p1.1 in
      let p3 = and_parts (leb 1 (more_by a s)) _ p2.1 in
      let p4 = and_parts (is_variable b t) (shows_gap c.facts a b) p3.1 in
      let xs = actual_at ds rs.depth env formals c.actuals x s rs.run e rs.walks in
      let xt = actual_at ds rs.depth env formals c.actuals y t rs.run f rs.walks in
      let q = is_variable_is b t p4.0 in
      let vb : look (extended formals rs.run.values []) y ≡ look env b = sym xt.1 ∙ (simple_run ds env t xt.0 (ap is_simple q) ∙ ap (λ (z : Exp). simple_value z env) q) in
      let sa : look start a ≡ look env a = agrees a (turned (list_any (λ u. eqb u a) c.bound) p1.0) in
      let sb : look start b ≡ look env b = agrees b (turned (list_any (λ u. eqb u b) c.bound) p2.0) in
      let k = positive_from (more_by a s) p3.0 in
      let m = more_is env s a k.0 k.1 in
      let va : look (extended formals rs.run.values []) x ≡ Int (integer_in (look env a) +ℤ pos (suc k.0)) = sym xs.1 ∙ (simple_run ds env s xs.0 m.0 ∙ m.1) in
      let g = gap_shown ds known env c.facts a b facts p4.1 in
      let l = gap_less (integer_in (look env a)) (integer_in (look env b)) g.0 k.0 g.1 in
      let q1 : natural_in (Int (integer_in (look (extended formals rs.run.values []) y) -ℤ integer_in (look (extended formals rs.run.values []) x))) ≡ natural_in (Int (integer_in (look env b) -ℤ (integer_in (look env a) +ℤ pos (suc k.0)))) = λ i. natural_in (Int (integer_in (vb i) -ℤ integer_in (va i))) in
      let q2 : natural_in (Int (integer_in (look start b) -ℤ integer_in (look start a))) ≡ natural_in (Int (integer_in (look env b) -ℤ integer_in (look env a))) = λ i. natural_in (Int (integer_in (sb i) -ℤ integer_in (sa i))) in
      omega (arith, q1, q2, l)
  gap_falls c a b x y formals start env rs _ _ e f h agrees facts = absurd cc

  gap_stays : (c : Governed) (a b x y : ℕ) (formals : List ℕ) (start env : List (ℕ × Object)) (rs : Runs ds env c.actuals) (o p : Option Exp) → actual_of formals c.actuals x ≡ o → actual_of formals c.actuals y ≡ p → gap_at gap_stays_row c a b o p ≡ true
      → AgreeBut c.bound start env → natural_in (Int (integer_in (look (extended formals rs.run.values []) y) -ℤ integer_in (look (extended formals rs.run.values []) x))) ≡ natural_in (Int (integer_in (look start b) -ℤ integer_in (look start a)))
  gap_stays c a b x y formals start env rs (Some s) (Some t) e f h agrees =
      let p1 = and_parts (is_unbound c a) _ h in
      let p2 = and_parts (is_unbound c b) _ p1.1 in
      let p3 = and_parts (is_variable a s) (is_variable b t) p2.1 in
      let va = row_stays c a x formals start env rs (Some s) e (both_true (is_unbound c a) (is_variable a s) p1.0 p3.0) agrees in
      let vb = row_stays c b y formals start env rs (Some t) f (both_true (is_unbound c b) (is_variable b t) p2.0 p3.1) agrees in
      λ i. natural_in (Int (integer_in (vb i) -ℤ integer_in (va i)))
  gap_stays c a b x y formals start env rs _ _ e f h agrees = absurd cc

  natural_falls : (m k : Natural) (c : Governed) (formals : List ℕ) (start env : List (ℕ × Object)) (rs : Runs ds env c.actuals) → natural_steps m k formals c ≡ true → AgreeBut c.bound start env → AreFacts ds env c.facts
      → natural_size text_length k (extended formals rs.run.values []) < natural_size text_length m start
  natural_falls (natural.Count v) (natural.Count w) c formals start env rs h a g = row_step count_row (acl2_count text_length) count_row_falls c v.number w.number formals start env rs _ refl h a g
  natural_falls (natural.Len v) (natural.Len w) c formals start env rs h a g = row_step len_row list_count len_row_falls c v.number w.number formals start env rs _ refl h a g
  natural_falls (natural.Nat v) (natural.Nat w) c formals start env rs h a g = row_step nat_row natural_in nat_row_falls c v.number w.number formals start env rs _ refl h a g
  natural_falls (natural.Gap v u) (natural.Gap x y) c formals start env rs h a g = gap_falls c v.number u.number x.number y.number formals start env rs _ _ refl refl h a g
  natural_falls _ _ c formals start env rs h a g = absurd cc

  natural_kept : (m k : Natural) (c : Governed) (formals : List ℕ) (start env : List (ℕ × Object)) (rs : Runs ds env c.actuals) → natural_stays m k formals c ≡ true → AgreeBut c.bound start env
      → natural_size text_length k (extended formals rs.run.values []) ≡ natural_size text_length m start
  natural_kept (natural.Count v) (natural.Count w) c formals start env rs h a = ap (acl2_count text_length) (row_stays c v.number w.number formals start env rs _ refl h a)
  natural_kept (natural.Len v) (natural.Len w) c formals start env rs h a = ap list_count (row_stays c v.number w.number formals start env rs _ refl h a)
  natural_kept (natural.Nat v) (natural.Nat w) c formals start env rs h a = ap natural_in (row_stays c v.number w.number formals start env rs _ refl h a)
  natural_kept (natural.Gap v u) (natural.Gap x y) c formals start env rs h a = gap_stays c v.number u.number x.number y.number formals start env rs _ _ refl refl h a
  natural_kept _ _ c formals start env rs h a = absurd cc

  parts_fall : (m k : MeasureParts) (c : Governed) (formals : List ℕ) (start env : List (ℕ × Object)) (rs : Runs ds env c.actuals) → parts_step m k formals c ≡ true → AgreeBut c.bound start env → AreFacts ds env c.facts
      → Below (parts_size text_length k (extended formals rs.run.values [])) (parts_size text_length m start)
  parts_fall (One m) (One k) c formals start env rs h a g = inr (refl, natural_falls m k c formals start env rs h a g)
  parts_fall (Two m p) (Two k q) c formals start env rs h a g = elim (or_cases (natural_steps m k formals c) (natural_stays m k formals c && natural_steps p q formals c) h) [
    | inl x ↦ inl (natural_falls m k c formals start env rs x a g)
    | inr x ↦ let y = and_parts (natural_stays m k formals c) (natural_steps p q formals c) x in inr (natural_kept m k c formals start env rs y.0 a, natural_falls p q c formals start env rs y.1 a g)
  ]
  parts_fall _ _ c formals start env rs h a g = absurd cc

  -- a step makes the measure smaller
  pub measure_falls : (m k : Option Measure) (c : Governed) (formals : List ℕ) (start env : List (ℕ × Object)) (rs : Runs ds env c.actuals) → measure_steps m k formals c ≡ true → AgreeBut c.bound start env → AreFacts ds env c.facts
      → Below (measure_size text_length k (extended formals rs.run.values [])) (measure_size text_length m start)
  measure_falls (Some m) (Some k) c formals start env rs h a g = parts_fall (measure_parts m) (measure_parts k) c formals start env rs h a g
  measure_falls _ _ c formals start env rs h a g = absurd cc
