-- Environments as cells: each new cell leaves those before it as they were.
use Rattle.std.proofs.Common.{◌≡◌, ℕ, zero, suc, ◌+◌, ◌<◌, ◌≤◌, List, [], ◌∷◌, ◌++◌, length, get_or, refl, ap, sym, ◌∙◌, arith, length-append, ◌-◌, ◌≢◌, Some, subst, drop}
use Rattle.std.proofs.lemmas.List.{get_or_append_left, get_or_push}
use Rattle.sym_objects.specs.declared.sob.Sob.{Sob}
use Rattle.gl_interp.specs.declared.envs.Cell.{Cell}
use Rattle.gl_interp.specs.Cells.{built, IsLinked}
use Rattle.gl_interp.specs.Envs.{AllBelow, EnvsBelow, EnvsKept, PairsBelow, sob_in, sobs_bound}
use Rattle.std.specs.Prelude.{slice_get}
use Rattle.sym_objects.proofs.Keeping.{each_push}

pub built-kept : (before : List (List (ℕ × Sob))) (cs : List Cell) (i : ℕ) → i < length before → get_or (built before cs) i [] ≡ get_or before i []
built-kept before [] i h = refl
built-kept before (c ∷ cs) i h =
    let e : List (ℕ × Sob) = (c.name.number, c.value) ∷ get_or before c.next.number [] in
    built-kept (before ++ e ∷ []) cs i (omega (arith, h, length-append before (e ∷ []))) ∙ get_or_append_left before (e ∷ []) [] i h

pub built-length : (before : List (List (ℕ × Sob))) (cs : List Cell) → length (built before cs) ≡ length before + length cs
built-length before [] = omega arith
built-length before (c ∷ cs) =
    let e : List (ℕ × Sob) = (c.name.number, c.value) ∷ get_or before c.next.number [] in
    built-length (before ++ e ∷ []) cs ∙ omega (arith, length-append before (e ∷ []))

pub built-append : (before : List (List (ℕ × Sob))) (cs ds : List Cell) → built before (cs ++ ds) ≡ built (built before cs) ds
built-append before [] ds = refl
built-append before (c ∷ cs) ds = built-append (before ++ ((c.name.number, c.value) ∷ get_or before c.next.number []) ∷ []) cs ds

-- a cell is its name and value before the environment that it leads to
pub built-at : (before : List (List (ℕ × Sob))) (cs : List Cell) (i k : ℕ) (d : Cell) → i < length cs → k ≡ length before + i → (get_or cs i d).next.number < k
    → get_or (built before cs) k [] ≡ ((get_or cs i d).name.number, (get_or cs i d).value) ∷ get_or (built before cs) (get_or cs i d).next.number []
built-at before [] i k d h e l = absurd (omega (arith, h))
built-at before (c ∷ cs) zero k d h e l =
    let x : List (ℕ × Sob) = (c.name.number, c.value) ∷ get_or before c.next.number [] in
    let n : length (before ++ x ∷ []) ≡ length before + 1 = length-append before (x ∷ []) in
    built-kept (before ++ x ∷ []) cs k (omega (arith, e, n))
    ∙ (get_or_push before x [] k (omega (arith, e))
    ∙ ap (λ y. (c.name.number, c.value) ∷ y) (sym (built-kept (before ++ x ∷ []) cs c.next.number (omega (arith, e, l, n)) ∙ get_or_append_left before (x ∷ []) [] c.next.number (omega (arith, e, l)))))
built-at before (c ∷ cs) (suc i) k d h e l =
    let x : List (ℕ × Sob) = (c.name.number, c.value) ∷ get_or before c.next.number [] in
    built-at (before ++ x ∷ []) cs i k d (omega (arith, h)) (omega (arith, e, length-append before (x ∷ []))) l

-- what a cell says of the environment of its number
pub record IsCell (now : List (List (ℕ × Sob))) (at : ℕ) (c : Cell) : Type 0 where
  pub says : get_or now at [] ≡ (c.name.number, c.value) ∷ get_or now c.next.number []
  pub falls : c.next.number < at

pub cell_at : (cells : List Cell) (now : List (List (ℕ × Sob))) (at : ℕ) (c : Cell) → built ([] ∷ []) cells ≡ now → IsLinked cells → 0 < at → at ≤ length cells → get_or cells (at - 1) c ≡ c → IsCell now at c
cell_at cells now at c v l h k e =
    let links : c.next.number ≤ at - 1 = subst (λ (d : Cell). d.next.number ≤ at - 1) e (l (at - 1) c (omega (arith, h, k))) in
    let linked : (get_or cells (at - 1) c).next.number < at = subst (λ (d : Cell). d.next.number < at) (sym e) (omega (arith, links, h)) in
    record {
      says = ap (λ es. get_or es at []) (sym v)
          ∙ (built-at ([] ∷ []) cells (at - 1) at c (omega (arith, h, k)) (omega (arith, h)) linked
          ∙ ((λ i. ((e i).name.number, (e i).value) ∷ get_or (built ([] ∷ []) cells) (e i).next.number [])
          ∙ ap (λ es. (c.name.number, c.value) ∷ get_or es c.next.number []) v));
      falls = omega (arith, links, h);
    }

pub empty_at : (cells : List Cell) (now : List (List (ℕ × Sob))) → built ([] ∷ []) cells ≡ now → get_or now 0 [] ≡ []
empty_at cells now v = ap (λ es. get_or es 0 []) (sym v) ∙ built-kept ([] ∷ []) cells 0 (omega arith)

pub count_at : (cells : List Cell) (now : List (List (ℕ × Sob))) → built ([] ∷ []) cells ≡ now → length now ≡ length cells + 1
count_at cells now v = ap length (sym v) ∙ (built-length ([] ∷ []) cells ∙ omega arith)

pub sob_other : (n v : ℕ) (x : Sob) (ps : List (ℕ × Sob)) → n ≢ v → sob_in ((n, x) ∷ ps) v ≡ sob_in ps v
sob_other n v x ps h = grind arith

pub sob_same : (n v : ℕ) (x : Sob) (ps : List (ℕ × Sob)) → n ≡ v → sob_in ((n, x) ∷ ps) v ≡ Some x
sob_same n v x ps h = grind arith

-- one more cell
pub built_push : (cells after : List Cell) (now : List (List (ℕ × Sob))) (c : Cell) → built ([] ∷ []) cells ≡ now → after ≡ cells ++ c ∷ [] → built ([] ∷ []) after ≡ now ++ ((c.name.number, c.value) ∷ get_or now c.next.number []) ∷ []
built_push cells after now c v e =
    ap (built ([] ∷ [])) e ∙ (built-append ([] ∷ []) cells (c ∷ []) ∙ ap (λ es. es ++ ((c.name.number, c.value) ∷ get_or es c.next.number []) ∷ []) v)

pub linked_push : (cells after : List Cell) (c : Cell) → after ≡ cells ++ c ∷ [] → IsLinked cells → c.next.number ≤ length cells → IsLinked after
linked_push cells after c e l h = subst (λ cs. IsLinked cs) (sym e) (each_push (λ i d. d.next.number ≤ i) cells c l h)

-- ---- binding
-- the names and values from this place on, before an environment
pub bound_step : (names : List ℕ) (values : List Sob) (k name : ℕ) (x : Sob) → slice_get names k ≡ Some name → length names ≡ length values → get_or values k x ≡ x
    → sobs_bound (drop k names) (drop k values) ≡ (name, x) ∷ sobs_bound (drop (suc k) names) (drop (suc k) values)
bound_step [] values k name x h l e = absurd cc
bound_step (v ∷ vs) [] k name x h l e = absurd (omega (arith, l))
bound_step (v ∷ vs) (y ∷ ys) zero name x h l e = let n : v ≡ name = cc in λ t. (n t, e t) ∷ sobs_bound vs ys
bound_step (v ∷ vs) (y ∷ ys) (suc k) name x h l e = bound_step vs ys k name x h (omega (arith, l)) e

bound_end : (n : ℕ) (names : List ℕ) (values : List Sob) → length names ≤ n → length names ≡ length values → sobs_bound (drop n names) (drop n values) ≡ []
bound_end zero [] values h l = refl
bound_end zero (v ∷ vs) values h l = absurd (omega (arith, h))
bound_end (suc n) [] values h l = refl
bound_end (suc n) (v ∷ vs) [] h l = absurd (omega (arith, l))
bound_end (suc n) (v ∷ vs) (y ∷ ys) h l = bound_end n vs ys (omega (arith, h)) (omega (arith, l))

-- on the way, where the names and values from place k on are bound
pub record IsBound (old now : List (List (ℕ × Sob))) (names : List ℕ) (values : List Sob) (env at k : ℕ) : Type 0 where
  pub kept : EnvsKept old now
  pub within : k ≤ length names
  pub live : at < length now
  pub bound : get_or now at [] ≡ sobs_bound (drop k names) (drop k values) ++ get_or old env []
  pub below : (n : ℕ) → EnvsBelow n old → AllBelow n values → EnvsBelow n now

pub bound_start : (old : List (List (ℕ × Sob))) (names : List ℕ) (values : List Sob) (env k : ℕ) → env < length old → k ≡ length names → length names ≡ length values → IsBound old old names values env env k
bound_start old names values env k h e l = record {
  kept = record { no_fewer = omega arith; same = λ i l. refl };
  within = omega (arith, e);
  live = h;
  bound = ap (λ xs. xs ++ get_or old env []) (sym (bound_end k names values (omega (arith, e)) l));
  below = λ n b v. b;
}

pairs_append : (n : ℕ) (es : List (List (ℕ × Sob))) (ps : List (ℕ × Sob)) → EnvsBelow n es → PairsBelow n ps → EnvsBelow n (es ++ ps ∷ [])
pairs_append n [] ps b p zero = p
pairs_append n [] ps b p (suc i) = tt
pairs_append n (e ∷ es) ps b p zero = b 0
pairs_append n (e ∷ es) ps b p (suc i) = pairs_append n es ps (λ j. b (suc j)) p i

value_below : (n : ℕ) (values : List Sob) (k : ℕ) (x : Sob) → AllBelow n values → k < length values → get_or values k x ≡ x → x.number < n
value_below n [] k x a l e = absurd (omega (arith, l))
value_below n (y ∷ ys) zero x a l e = subst (λ (z : Sob). z.number < n) e a.0
value_below n (y ∷ ys) (suc k) x a l e = value_below n ys k x a.1 (omega (arith, l)) e

pub bound_more : (old now later : List (List (ℕ × Sob))) (names : List ℕ) (values : List Sob) (x : Sob) (env at next j k name : ℕ) → IsBound old now names values env at j → j ≡ suc k → slice_get names k ≡ Some name
    → length names ≡ length values → get_or values k x ≡ x → next ≡ length now → later ≡ now ++ ((name, x) ∷ get_or now at []) ∷ [] → IsBound old later names values env next k
bound_more old now later names values x env at next j k name b c h l f e i =
    let count : length later ≡ length now + 1 = ap length i ∙ length-append now (((name, x) ∷ get_or now at []) ∷ []) in
    record {
      kept = record { no_fewer = omega (arith, count, b.kept.no_fewer); same = λ z l. ap (λ es. get_or es z []) i ∙ (get_or_append_left now (((name, x) ∷ get_or now at []) ∷ []) [] z (omega (arith, l, b.kept.no_fewer)) ∙ b.kept.same z l) };
      within = omega (arith, b.within, c);
      live = omega (arith, e, count);
      bound = ap (λ es. get_or es next []) i ∙ (get_or_push now ((name, x) ∷ get_or now at []) [] next (sym e)
          ∙ (ap (λ ps. (name, x) ∷ ps) (b.bound ∙ ap (λ m. sobs_bound (drop m names) (drop m values) ++ get_or old env []) c)
          ∙ ap (λ ps. ps ++ get_or old env []) (sym (bound_step names values k name x h l f))));
      below = λ n o v. subst (λ es. EnvsBelow n es) (sym i) (pairs_append n now ((name, x) ∷ get_or now at []) (b.below n o v) (value_below n values k x v (omega (arith, l, b.within, c)) f, b.below n o v at));
    }

-- what was read is read again
pub read_again : (xs : List Sob) (k : ℕ) (d : Sob) → k < length xs → get_or xs k (get_or xs k d) ≡ get_or xs k d
read_again [] k d l = absurd (omega (arith, l))
read_again (x ∷ xs) zero d l = refl
read_again (x ∷ xs) (suc k) d l = read_again xs k d (omega (arith, l))

-- ---- the pairs of an environment
drop_step : (ps : List (ℕ × Sob)) (k : ℕ) (p : ℕ × Sob) → slice_get ps k ≡ Some p → drop k ps ≡ p ∷ drop (suc k) ps
drop_step [] k p h = absurd cc
drop_step (q ∷ qs) zero p h = let e : q ≡ p = cc in ap (λ r. r ∷ qs) e
drop_step (q ∷ qs) (suc k) p h = drop_step qs k p h

drop_all : (ps : List (ℕ × Sob)) (k : ℕ) → length ps ≤ k → drop k ps ≡ []
drop_all [] zero h = refl
drop_all [] (suc k) h = refl
drop_all (p ∷ ps) zero h = absurd (omega (arith, h))
drop_all (p ∷ ps) (suc k) h = drop_all ps k (omega (arith, h))

pair_below : (n : ℕ) (ps : List (ℕ × Sob)) (k : ℕ) (p : ℕ × Sob) → PairsBelow n ps → slice_get ps k ≡ Some p → p.1.number < n
pair_below n [] k p l h = absurd cc
pair_below n (q ∷ qs) zero p l h = let e : q ≡ p = cc in subst (λ (r : ℕ × Sob). r.1.number < n) e l.0
pair_below n (q ∷ qs) (suc k) p l h = pair_below n qs k p l.1 h

-- on the way, where the pairs from place k on are bound
pub record IsPaired (old now : List (List (ℕ × Sob))) (pairs : List (ℕ × Sob)) (at k : ℕ) : Type 0 where
  pub kept : EnvsKept old now
  pub within : k ≤ length pairs
  pub live : at < length now
  pub bound : get_or now at [] ≡ drop k pairs
  pub below : (n : ℕ) → EnvsBelow n old → PairsBelow n pairs → EnvsBelow n now

pub paired_start : (old : List (List (ℕ × Sob))) (pairs : List (ℕ × Sob)) (at k : ℕ) → at < length old → get_or old at [] ≡ [] → k ≡ length pairs → IsPaired old old pairs at k
paired_start old pairs at k h empty e = record {
  kept = record { no_fewer = omega arith; same = λ i l. refl };
  within = omega (arith, e);
  live = h;
  bound = empty ∙ sym (drop_all pairs k (omega (arith, e)));
  below = λ n b v. b;
}

pub paired_more : (old now later : List (List (ℕ × Sob))) (pairs : List (ℕ × Sob)) (p : ℕ × Sob) (at next j k : ℕ) → IsPaired old now pairs at j → j ≡ suc k → slice_get pairs k ≡ Some p → next ≡ length now → later ≡ now ++ (p ∷ get_or now at []) ∷ []
    → IsPaired old later pairs next k
paired_more old now later pairs p at next j k b c h e i =
    let count : length later ≡ length now + 1 = ap length i ∙ length-append now ((p ∷ get_or now at []) ∷ []) in
    record {
      kept = record { no_fewer = omega (arith, count, b.kept.no_fewer); same = λ z l. ap (λ es. get_or es z []) i ∙ (get_or_append_left now ((p ∷ get_or now at []) ∷ []) [] z (omega (arith, l, b.kept.no_fewer)) ∙ b.kept.same z l) };
      within = omega (arith, b.within, c);
      live = omega (arith, e, count);
      bound = ap (λ es. get_or es next []) i ∙ (get_or_push now (p ∷ get_or now at []) [] next (sym e) ∙ (ap (λ ps. p ∷ ps) (b.bound ∙ ap (λ m. drop m pairs) c) ∙ sym (drop_step pairs k p h)));
      below = λ n o v. subst (λ es. EnvsBelow n es) (sym i) (pairs_append n now (p ∷ get_or now at []) (b.below n o v) (pair_below n pairs k p v h, b.below n o v at));
    }
