-- What a call that is made is, by itself, beside the whole in which it is made.
use Rattle.std.proofs.Common.{◌≡◌, ◌∙◌, ap, sym, refl, subst, ℕ, zero, suc, ◌+◌, ◌-◌, ◌≤◌, ◌<◌, List, [], ◌∷◌, ◌++◌, Bool, true, false, cond, Option, Some, length, arith, ◌⊎◌, inl, inr}
use Rattle.std.proofs.lemmas.Bool.{or_left, or_right}
use Rattle.std.proofs.lemmas.List.{length-append}
use Rattle.std.proofs.lemmas.List.Folds.{list_any-append}
use Rattle.gl_logic.specs.Object.{Object}
use Rattle.gl_logic.specs.Definition.{Definition}
use Rattle.gl_logic.specs.Exp.{Exp}
use Rattle.gl_logic.specs.Walk.{Walk, Walks, CallMade, then, ended, gathered, body_by, opened, body_walk, walk}
use Rattle.gl_logic.specs.Counts.{seen_in, is_among, own_opened, own_cost, own_cost_of_call, call_eq}
use Rattle.gl_logic.specs.IsWithin.{IsWithin}
use Rattle.gl_logic.proofs.Optional.{none_some, some_same, then_inverted}
use Rattle.gl_logic.proofs.Walks.{body_grows, body_more}
use Rattle.gl_logic.proofs.OwnWalks.{own_more}
use Rattle.gl_logic.specs.Every.{Every}
use Rattle.gl_logic.proofs.MadeCalls.{every_append, every_map}
use Rattle.gl_logic.proofs.Calls.{is_made, never_inside, call_equal_from, call_equal_itself}
use Rattle.gl_logic.proofs.Charges.{not_true, or_false}
use Rattle.gl_logic.proofs.Beside.{own_of, owns_of, At, then_is, IsKeptByVisits, One, OneRel, one, body_beside}
use Rattle.gl_logic.proofs.Within.{within_nothing, within_itself, within_append, within_behind, within_before}

-- ---- more depth keeps own walks of bodies
own_body_more : (ds : List Definition) (functions : List ℕ) (n k : ℕ) (f : ℕ) (xs : List Object) (r : Walk) → body_by (own_opened ds functions n) ds f xs ≡ Some r → body_by (own_opened ds functions (k + n)) ds f xs ≡ Some r
own_body_more ds functions n zero f xs r e = let z : n ≡ 0 + n = omega arith in subst (λ (m : ℕ). body_by (own_opened ds functions m) ds f xs ≡ Some r) z e
own_body_more ds functions n (suc k) f xs r e =
    let z : suc (k + n) ≡ suc k + n = omega arith in
    subst (λ (m : ℕ). body_by (own_opened ds functions m) ds f xs ≡ Some r) z (body_grows (own_opened ds functions (k + n)) (own_opened ds functions (suc (k + n))) (own_more ds functions (k + n)) ds f xs r (own_body_more ds functions n k f xs r e))

pub body_deeper : (ds : List Definition) (n k : ℕ) (f : ℕ) (xs : List Object) (r : Walk) → body_walk ds n f xs ≡ Some r → body_walk ds (k + n) f xs ≡ Some r
body_deeper ds n zero f xs r e = let z : n ≡ 0 + n = omega arith in subst (λ (m : ℕ). body_walk ds m f xs ≡ Some r) z e
body_deeper ds n (suc k) f xs r e = let z : suc (k + n) ≡ suc k + n = omega arith in subst (λ (m : ℕ). body_walk ds m f xs ≡ Some r) z (body_more ds (k + n) f xs r (body_deeper ds n k f xs r e))

-- ---- membership in longer lists
pub made_left : (xs ys : List CallMade) (c : CallMade) → is_made xs c ≡ true → is_made (xs ++ ys) c ≡ true
made_left xs ys c h = list_any-append (call_eq c) xs ys ∙ or_left (is_made xs c) (is_made ys c) h

pub made_right : (xs ys : List CallMade) (c : CallMade) → is_made ys c ≡ true → is_made (xs ++ ys) c ≡ true
made_right xs ys c h = list_any-append (call_eq c) xs ys ∙ or_right (is_made xs c) (is_made ys c) h

every_is_made : (cs all : List CallMade) → ((c : CallMade) → is_made cs c ≡ true → is_made all c ≡ true) → Every (λ c. is_made all c ≡ true) cs
every_is_made [] all h = tt
every_is_made (c ∷ cs) all h = (h c (or_left (call_eq c c) (is_made cs c) (call_equal_itself c)), every_is_made cs all (λ d k. h d (or_right (call_eq d c) (is_made cs d) k)))

every_map_two : {A : Type 0} (P Q R : A → Type 0) (xs : List A) → ((x : A) → P x → Q x → R x) → Every P xs → Every Q xs → Every R xs
every_map_two P Q R [] f h g = tt
every_map_two P Q R (x ∷ xs) f h g = (f x h.0 g.0, every_map_two P Q R xs f h.1 g.1)

length_visit : (xs : List Object) (x : Object) → length (xs ++ x ∷ []) ≡ length xs + 1
length_visit xs x = length-append xs (x ∷ [])

length_visits : (xs ys : List Object) (x : Object) → length (xs ++ ys ++ x ∷ []) ≡ length xs + length ys + 1
length_visits xs ys x = omega (arith, length_visit (xs ++ ys) x, length-append xs ys)

-- ---- what is known of each call that a part of a walk makes
module _ (ds : List Definition) (functions : List ℕ) (top : ℕ) where
  abbrev pub own : CallMade → ℕ
  own = own_cost_of_call ds functions top

  -- its arguments, itself, and its body unless it is kept shut
  abbrev pub cost_here : CallMade → ℕ
  cost_here c = length c.1 + 1 + cond (is_among functions c.0) 0 (own c)

  -- a call of a memoized function around it, which it doesn't make itself, costs as much of its own
  pub record IsPaidAround (m inner : List CallMade) (c : CallMade) : Type 0 where
    pub payer : CallMade
    pub is_there : is_made m payer ≡ true
    pub is_memoized : is_among functions payer.0 ≡ true
    pub outside : is_made (c ∷ inner) payer ≡ false
    pub pays : cost_here c ≤ own payer

  pub record IsPart (pl : List Object) (m : List CallMade) (o : ℕ) (c : CallMade) : Type 0 where
    pub depth : ℕ
    pub below : depth < top
    pub run : Walk
    pub walks : body_walk ds depth c.0 c.1 ≡ Some run
    pub within : IsWithin (c.1 ++ run.seen ++ run.value ∷ []) pl
    pub inner : (u : CallMade) → is_made run.made u ≡ true → is_made m u ≡ true
    pub paid : (cost_here c ≤ o) ⊎ IsPaidAround m run.made c

  around_more : (m m' inner : List CallMade) (c : CallMade) → ((u : CallMade) → is_made m u ≡ true → is_made m' u ≡ true) → IsPaidAround m inner c → IsPaidAround m' inner c
  around_more m m' inner c h p = record { payer = p.payer; is_there = h p.payer p.is_there; is_memoized = p.is_memoized; outside = p.outside; pays = p.pays }

  paid_more : (m m' inner : List CallMade) (o o' : ℕ) (c : CallMade) → ((u : CallMade) → is_made m u ≡ true → is_made m' u ≡ true) → o ≤ o' → (cost_here c ≤ o) ⊎ IsPaidAround m inner c → (cost_here c ≤ o') ⊎ IsPaidAround m' inner c
  paid_more m m' inner o o' c h l p = elim p [ inl q ↦ inl (omega (arith, q, l)) | inr q ↦ inr (around_more m m' inner c h q) ]

  part_more : (pl pl' : List Object) (m m' : List CallMade) (o o' : ℕ) (c : CallMade) → ((zs : List Object) → IsWithin zs pl → IsWithin zs pl') → ((u : CallMade) → is_made m u ≡ true → is_made m' u ≡ true) → o ≤ o' → IsPart pl m o c → IsPart pl' m' o' c
  part_more pl pl' m m' o o' c w h l p = record {
    depth = p.depth;
    below = p.below;
    run = p.run;
    walks = p.walks;
    within = w (c.1 ++ p.run.seen ++ p.run.value ∷ []) p.within;
    inner = λ u k. h u (p.inner u k);
    paid = paid_more m m' p.run.made o o' c h l p.paid;
  }

  pub record Parts (xs pl : List Object) (m : List CallMade) (ow : List Object) : Type 0 where
    pub values : IsWithin xs pl
    pub counted : length xs ≤ length ow
    pub parts : Every (IsPart pl m (length ow)) m

  moved : (pl pl' : List Object) (m m' : List CallMade) (o o' : ℕ) → ((zs : List Object) → IsWithin zs pl → IsWithin zs pl') → ((u : CallMade) → is_made m u ≡ true → is_made m' u ≡ true) → o ≤ o' → Every (IsPart pl m o) m → Every (IsPart pl' m' o') m
  moved pl pl' m m' o o' w h l p = every_map (IsPart pl m o) (IsPart pl' m' o') m (λ c. part_more pl pl' m m' o o' c w h l) p

  pub visits : IsKeptByVisits Parts
  visits = record {
    nothing = record { values = within_nothing []; counted = omega arith; parts = tt };
    gathers = λ xs pl m ow x h. record {
      values = within_behind (x ∷ []) pl (x ∷ []) (within_itself (x ∷ []));
      counted = omega (arith, length_visit ow x);
      parts = moved pl (pl ++ x ∷ []) m m (length ow) (length (ow ++ x ∷ [])) (λ zs. within_before zs pl (x ∷ [])) (λ u k. k) (omega (arith, length_visit ow x)) h.parts;
    };
    ends = λ xs pl m ow x pl' m' ow' h g. record {
      values = within_behind (x ∷ []) (pl ++ pl') (x ∷ []) (within_itself (x ∷ []));
      counted = omega (arith, length_visits ow ow' x);
      parts = every_append (IsPart (pl ++ pl' ++ x ∷ []) (m ++ m') (length (ow ++ ow' ++ x ∷ []))) m m'
          (moved pl (pl ++ pl' ++ x ∷ []) m (m ++ m') (length ow) (length (ow ++ ow' ++ x ∷ [])) (λ zs k. within_before zs (pl ++ pl') (x ∷ []) (within_before zs pl pl' k)) (made_left m m') (omega (arith, length_visits ow ow' x)) h.parts)
          (moved pl' (pl ++ pl' ++ x ∷ []) m' (m ++ m') (length ow') (length (ow ++ ow' ++ x ∷ [])) (λ zs k. within_before zs (pl ++ pl') (x ∷ []) (within_behind zs pl pl' k)) (made_right m m') (omega (arith, length_visits ow ow' x)) g.parts);
    };
    joins = λ x pl m ow xs pl' m' ow' h g. record {
      values = within_append (x ∷ []) pl xs pl' h.values g.values;
      counted = omega (arith, length-append ow ow', h.counted, g.counted);
      parts = every_append (IsPart (pl ++ pl') (m ++ m') (length (ow ++ ow'))) m m'
          (moved pl (pl ++ pl') m (m ++ m') (length ow) (length (ow ++ ow')) (λ zs. within_before zs pl pl') (made_left m m') (omega (arith, length-append ow ow')) h.parts)
          (moved pl' (pl ++ pl') m' (m ++ m') (length ow') (length (ow ++ ow')) (λ zs. within_behind zs pl pl') (made_right m m') (omega (arith, length-append ow ow')) g.parts);
    };
  }

  -- ---- a call, behind its arguments
  abbrev pub after : Bool → List Object → List Object → Object → List Object
  after b ow o x = cond b (ow ++ x ∷ []) (ow ++ o ++ x ∷ [])

  pub after_counted : (b : Bool) (ow o : List Object) (x : Object) → length (after b ow o x) ≡ length ow + 1 + cond b 0 (length o)
  after_counted true ow o x = omega (arith, length_visit ow x)
  after_counted false ow o x = omega (arith, length_visits ow o x)

  -- what the body of a call costs of its own
  pub own_is : (n f : ℕ) (xs : List Object) (r : Walk) → n ≤ top → body_by (own_opened ds functions n) ds f xs ≡ Some r → own (f, xs) ≡ length r.seen
  own_is n f xs r l w =
      let z : (top - n) + n ≡ top = omega (arith, l) in
      let t : body_by (own_opened ds functions top) ds f xs ≡ Some r = subst (λ (m : ℕ). body_by (own_opened ds functions m) ds f xs ≡ Some r) z (own_body_more ds functions n (top - n) f xs r w) in
      ap (λ o. length (seen_in o)) t

  module _ (f : ℕ) (xs : List Object) (n : ℕ) (run : Walk) (l : n < top) (w : body_walk ds n f xs ≡ Some run) (o : List Object) (own_f : own (f, xs) ≡ length o) (pl : List Object) (m : List CallMade) (ow : List Object) (h : Parts xs pl m ow) (g : Parts (run.value ∷ []) run.seen run.made o) where
    abbrev pl' : List Object
    pl' = pl ++ run.seen ++ run.value ∷ []

    abbrev m' : List CallMade
    m' = (m ++ (f, xs) ∷ []) ++ run.made

    this_there : is_made m' (f, xs) ≡ true
    this_there = made_left (m ++ (f, xs) ∷ []) run.made (f, xs) (made_right m ((f, xs) ∷ []) (f, xs) (or_left (call_eq (f, xs) (f, xs)) false (call_equal_itself (f, xs))))

    inner_there : (u : CallMade) → is_made run.made u ≡ true → is_made m' u ≡ true
    inner_there = made_right (m ++ (f, xs) ∷ []) run.made

    -- a call that the body makes, where this one is kept shut
    paid_inside : (c : CallMade) (k : IsPart run.seen run.made (length o) c) → is_made run.made c ≡ true → is_among functions f ≡ true → cost_here c ≤ length o → IsPaidAround m' k.run.made c
    paid_inside c k there memoized q = record {
      payer = (f, xs);
      is_there = this_there;
      is_memoized = memoized;
      outside = or_false (call_eq (f, xs) c) (is_made k.run.made (f, xs))
          (not_true (call_eq (f, xs) c) (λ e. never_inside ds n f xs run w (subst (λ (d : CallMade). is_made run.made d ≡ true) (sym (call_equal_from (f, xs) c e)) there)))
          (not_true (is_made k.run.made (f, xs)) (λ e. never_inside ds n f xs run w (k.inner (f, xs) e)));
      pays = omega (arith, q, own_f);
    }

    paid_at : (b : Bool) (c : CallMade) (k : IsPart run.seen run.made (length o) c) → is_among functions f ≡ b → is_made run.made c ≡ true → (cost_here c ≤ length o) ⊎ IsPaidAround run.made k.run.made c → (cost_here c ≤ length ow + 1 + cond b 0 (length o)) ⊎ IsPaidAround m' k.run.made c
    paid_at b c k e there (inr q) = inr (around_more run.made m' k.run.made c inner_there q)
    paid_at true c k e there (inl q) = inr (paid_inside c k there e q)
    paid_at false c k e there (inl q) = inl (omega (arith, q))

    inside : (c : CallMade) → IsPart run.seen run.made (length o) c → is_made run.made c ≡ true → IsPart pl' m' (length (after (is_among functions f) ow o run.value)) c
    inside c k there = record {
      depth = k.depth;
      below = k.below;
      run = k.run;
      walks = k.walks;
      within = within_before (c.1 ++ k.run.seen ++ k.run.value ∷ []) (pl ++ run.seen) (run.value ∷ []) (within_behind (c.1 ++ k.run.seen ++ k.run.value ∷ []) pl run.seen k.within);
      inner = λ u e. inner_there u (k.inner u e);
      paid = subst (λ (z : ℕ). (cost_here c ≤ z) ⊎ IsPaidAround m' k.run.made c) (sym (after_counted (is_among functions f) ow o run.value)) (paid_at (is_among functions f) c k refl there k.paid);
    }

    this : IsPart pl' m' (length (after (is_among functions f) ow o run.value)) (f, xs)
    this = record {
      depth = n;
      below = l;
      run = run;
      walks = w;
      within = within_append (xs ++ run.seen) (pl ++ run.seen) (run.value ∷ []) (run.value ∷ []) (within_append xs pl run.seen run.seen h.values (within_itself run.seen)) (within_itself (run.value ∷ []));
      inner = inner_there;
      paid = inl (omega (arith, after_counted (is_among functions f) ow o run.value, h.counted, ap (λ (z : ℕ). cond (is_among functions f) 0 z) own_f));
    }

    pub call_parts : Parts (run.value ∷ []) pl' m' (after (is_among functions f) ow o run.value)
    call_parts = record {
      values = within_behind (run.value ∷ []) (pl ++ run.seen) (run.value ∷ []) (within_itself (run.value ∷ []));
      counted = omega (arith, after_counted (is_among functions f) ow o run.value);
      parts =
          let P = IsPart pl' m' (length (after (is_among functions f) ow o run.value)) in
          every_append P (m ++ (f, xs) ∷ []) run.made
          (every_append P m ((f, xs) ∷ [])
          (moved pl pl' m m' (length ow) (length (after (is_among functions f) ow o run.value)) (λ zs k. within_before zs (pl ++ run.seen) (run.value ∷ []) (within_before zs pl run.seen k)) (λ u k. made_left (m ++ (f, xs) ∷ []) run.made u (made_left m ((f, xs) ∷ []) u k)) (omega (arith, after_counted (is_among functions f) ow o run.value)) h.parts)
          (this, tt))
          (every_map_two (IsPart run.seen run.made (length o)) (λ c. is_made run.made c ≡ true) P run.made inside g.parts (every_is_made run.made run.made (λ c k. k)));
    }

  -- ---- the own walk of a call
  pub own_call : (n f : ℕ) (b : Bool) (xs ow : List Object) (om : List CallMade) (run : Walk) (o : List Object) (o_made : List CallMade) → body_walk ds n f xs ≡ Some run → body_by (own_opened ds functions n) ds f xs ≡ Some (own_of run o o_made)
      → (made : List CallMade) × (elim b as (λ _. Option Walk) [
        | true ↦ then (opened ds (suc n) f (record { values = xs; seen = ow; made = om })) (λ r. gathered r.value (record { values = xs; seen = ow; made = om }))
        | false ↦ then (body_by (own_opened ds functions n) ds f xs) (ended ow (om ++ (f, xs) ∷ []))
      ] ≡ Some (record { value = run.value; seen = after b ow o run.value; made = made }))
  own_call n f true xs ow om run o o_made w g = (
    om,
    then_is (opened ds (suc n) f (record { values = xs; seen = ow; made = om })) (λ r. gathered r.value (record { values = xs; seen = ow; made = om })) (record { value = run.value; seen = ow ++ run.seen ++ run.value ∷ []; made = (om ++ (f, xs) ∷ []) ++ run.made }) _
        (then_is (body_walk ds n f xs) (ended ow (om ++ (f, xs) ∷ [])) run _ w refl) refl,
  )
  own_call n f false xs ow om run o o_made w g = ((om ++ (f, xs) ∷ []) ++ o_made, then_is (body_by (own_opened ds functions n) ds f xs) (ended ow (om ++ (f, xs) ∷ [])) (own_of run o o_made) _ g refl)

  level : (n : ℕ) → n ≤ top → (f : ℕ) (xs : Walks) (ow : List Object) (om : List CallMade) → Parts xs.values xs.seen xs.made ow → One Parts visits (opened ds n f xs) (own_opened ds functions n f (owns_of xs ow om))
  level zero l f xs ow om h = λ r e. none_some r e
  level (suc n) l f xs ow om h = λ r e.
      let j = then_inverted (body_walk ds n f xs.values) _ r e in
      let run = j.0 in
      let B = body_beside Parts visits (opened ds n) (own_opened ds functions n) (level n (omega (arith, l))) ds f xs.values run j.1.0 in
      let p = own_call n f (is_among functions f) xs.values ow om run B.own B.own_made j.1.0 B.own_is in
      let k : own (f, xs.values) ≡ length B.own = own_is n f xs.values (own_of run B.own B.own_made) (omega (arith, l)) B.own_is in
      subst (λ (w : Walk). At own_of (OneRel Parts visits) (own_opened ds functions (suc n) f (owns_of xs ow om)) w) (some_same _ _ j.1.1)
      (record { own = after (is_among functions f) ow B.own run.value; own_made = p.0; own_is = p.1; related = call_parts f xs.values n run (omega (arith, l)) j.1.0 B.own k xs.seen xs.made ow h B.related })

  pub own_body_at : (n f : ℕ) (xs : List Object) (run : Walk) → n ≤ top → body_walk ds n f xs ≡ Some run → At own_of (OneRel Parts visits) (body_by (own_opened ds functions n) ds f xs) run
  own_body_at n f xs run l w = body_beside Parts visits (opened ds n) (own_opened ds functions n) (level n l) ds f xs run w

  -- ---- of a term
  pub term_parts : (env : List (ℕ × Object)) (t : Exp) (r : Walk) → walk ds top env t ≡ Some r → Every (IsPart r.seen r.made (own_cost ds functions top env t)) r.made
  term_parts env t r e =
      let a = one Parts visits (opened ds top) (own_opened ds functions top) (level top (omega arith)) t env r e in
      let k : length a.own ≡ own_cost ds functions top env t = sym (ap (λ o. length (seen_in o)) a.own_is) in
      subst (λ (o : ℕ). Every (IsPart r.seen r.made o) r.made) k a.related.parts
