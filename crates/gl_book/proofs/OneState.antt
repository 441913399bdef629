-- By one table of texts, a book has one first state.
use Rattle.std.proofs.Common.{◌≡◌, ◌∙◌, ap, sym, refl, subst, ℕ, suc, ◌≤◌, List, [], ◌∷◌, length, get_or, true, ◌&&◌, eqb, Option, Some, None, slice_get, arith}
use Rattle.std.specs.Prelude.{Ok, IfSome}
use Rattle.std.specs.List.{position_or_len}
use Rattle.std.proofs.lemmas.Bool.{and_parts, leb-true}
use Rattle.std.proofs.lemmas.Option.{slice_get_within}
use Rattle.gl_logic.specs.Exp.{Exp, Exps, Var, Const, If, Prim, Call, Let, Last, More}
use Rattle.gl_logic.specs.Definition.{Definition}
use Rattle.gl_logic.specs.Ground.{Ground}
use Rattle.gl_logic.specs.IsGround.{placed, all_placed}
use Rattle.gl_logic.specs.Names.{IsTable}
use Rattle.gl_logic.specs.WorldSeen.{WorldSeen}
use Rattle.gl_logic.proofs.GroundCalls.{there_is}
use Rattle.admission.specs.Admitted.{verdict}
use Rattle.event_world.specs.NextState.{BookState}
use Rattle.event_world.specs.Prelude.{IsPrelude}
use Rattle.event_world.specs.PreludeForms.{AreSpelled}
use Rattle.event_world.specs.PreludeRows.{name_in, formals_in}
use Rattle.event_world.specs.PreludeTerms.{named, all_named}
use Rattle.event_world.specs.PreludeTexts.{ground_texts}
use Rattle.event_world.proofs.PreludeRows.{row, how_many_texts, is_below, are_below}
use Rattle.book_state.specs.States.{IsFirstState}

-- ---- lists by their elements
same_by : {X : Type 0} (xs ys : List X) → length xs ≡ length ys → ((i : ℕ) (x y : X) → slice_get xs i ≡ Some x → slice_get ys i ≡ Some y → x ≡ y) → xs ≡ ys
same_by [] [] l h = refl
same_by [] (y ∷ ys) l h = absurd (omega (arith, l))
same_by (x ∷ xs) [] l h = absurd (omega (arith, l))
same_by (x ∷ xs) (y ∷ ys) l h =
    let e = h 0 x y refl refl in
    let r = same_by xs ys (omega (arith, l)) (λ i a b p q. h (suc i) a b p q) in
    λ i. e i ∷ r i

-- ---- a term whose variables are among the formals, by their places
place_back : (v : ℕ) (vs : List ℕ) → suc (position_or_len (eqb v) vs) ≤ length vs → get_or vs (position_or_len (eqb v) vs) 0 ≡ v
place_back v [] l = absurd (omega (arith, l))
place_back v (w ∷ vs) l = grind (arith, l, place_back v vs)

module _ (vars : List ℕ) where
  mutual
    named_placed : (e : Exp) → is_below (length vars) (placed vars e) ≡ true → named vars (placed vars e) ≡ e
    named_placed (Var v) h = ap Var (place_back v vars (leb-true (suc (position_or_len (eqb v) vars)) (length vars) h))
    named_placed (Const x) h = refl
    named_placed (If a b c) h =
        let p = and_parts (is_below (length vars) (placed vars a)) (is_below (length vars) (placed vars b) && is_below (length vars) (placed vars c)) h in
        let q = and_parts (is_below (length vars) (placed vars b)) (is_below (length vars) (placed vars c)) p.1 in
        let ea = named_placed a p.0 in
        let eb = named_placed b q.0 in
        let ec = named_placed c q.1 in
        λ i. If (ea i) (eb i) (ec i)
    named_placed (Prim p ts) h = ap (Prim p) (all_named_placed ts h)
    named_placed (Call f ts) h = ap (Call f) (all_named_placed ts h)
    named_placed (Let vs ts b) h = absurd cc

    all_named_placed : (ts : Exps) → are_below (length vars) (all_placed vars ts) ≡ true → all_named vars (all_placed vars ts) ≡ ts
    all_named_placed Last h = refl
    all_named_placed (More t ts) h =
        let p = and_parts (is_below (length vars) (placed vars t)) (are_below (length vars) (all_placed vars ts)) h in
        let e = named_placed t p.0 in
        let r = all_named_placed ts p.1 in
        λ i. More (e i) (r i)

  one_body : (a b g : Exp) → is_below (length vars) g ≡ true → placed vars a ≡ g → placed vars b ≡ g → a ≡ b
  one_body a b g h p q =
      let left = named_placed a (ap (is_below (length vars)) p ∙ h) in
      let right = named_placed b (ap (is_below (length vars)) q ∙ h) in
      sym left ∙ (ap (named vars) (p ∙ sym q) ∙ right)

-- ---- worlds
module _ (names : List (List ℕ)) (table : IsTable names) where
  one_spelled : (ts us : List ℕ) (ws : List (List ℕ)) → AreSpelled names ts ws → AreSpelled names us ws → ts ≡ us
  one_spelled [] [] [] p q = refl
  one_spelled [] us (w ∷ ws) p q = absurd p
  one_spelled [] (u ∷ us) [] p q = absurd q
  one_spelled (t ∷ ts) us [] p q = absurd p
  one_spelled (t ∷ ts) [] (w ∷ ws) p q = absurd q
  one_spelled (t ∷ ts) (u ∷ us) (w ∷ ws) p q =
      let e = table.different t u w p.0 q.0 in
      let r = one_spelled ts us ws p.1 q.1 in
      λ i. e i ∷ r i

  abbrev IsOf : Definition → Ground → Type 0
  IsOf d g = (length d.formals ≡ g.arity) × (placed d.formals d.body ≡ g.body)

  module _ (v w : WorldSeen) (p : IsPrelude names v) (q : IsPrelude names w) where
    one_definition : (i : ℕ) (d e : Definition) → slice_get v.definitions i ≡ Some d → slice_get w.definitions i ≡ Some e → d ≡ e
    one_definition i d e a b =
        let inside = slice_get_within v.definitions i d a in
        let text = there_is ground_texts i (omega (arith, inside, p.count, how_many_texts)) in
        let r = row i text.0 text.1 in
        let name : d.name ≡ e.name = table.different d.name e.name (name_in text.0) (p.named i d a ∙ r.1.name) (q.named i e b ∙ r.1.name) in
        let ours : AreSpelled names d.formals (formals_in text.0) = subst (λ (o : Option (List (List ℕ))). IfSome o (AreSpelled names d.formals)) r.1.variables (p.variables i d a) in
        let theirs : AreSpelled names e.formals (formals_in text.0) = subst (λ (o : Option (List (List ℕ))). IfSome o (AreSpelled names e.formals)) r.1.variables (q.variables i e b) in
        let formals : d.formals ≡ e.formals = one_spelled d.formals e.formals (formals_in text.0) ours theirs in
        let left : IsOf d r.0 = subst (λ (o : Option Ground). IfSome o (IsOf d)) r.1.there (p.same_ground i d a) in
        let right : IsOf e r.0 = subst (λ (o : Option Ground). IfSome o (IsOf e)) r.1.there (q.same_ground i e b) in
        let below : is_below (length d.formals) r.0.body ≡ true = ap (λ n. is_below n r.0.body) left.0 ∙ r.1.below in
        let body : d.body ≡ e.body = one_body d.formals d.body e.body r.0.body below left.1 (subst (λ (vs : List ℕ). placed vs e.body ≡ r.0.body) (sym formals) right.1) in
        let same : Ok d.measure ≡ Ok e.measure = sym (p.measured i d a) ∙ ((λ x. verdict i (formals x) (body x) None) ∙ q.measured i e b) in
        let measure : d.measure ≡ e.measure = cc in
        λ x. record { name = name x; formals = formals x; body = body x; measure = measure x }

    one_prelude : v ≡ w
    one_prelude =
        let definitions = same_by v.definitions w.definitions (p.count ∙ sym q.count) one_definition in
        let cliques : v.cliques ≡ w.cliques = p.cliques ∙ sym q.cliques in
        let constants : v.constants ≡ w.constants = p.constants ∙ sym q.constants in
        let events : v.events ≡ w.events = p.events ∙ sym q.events in
        λ x. record { definitions = definitions x; cliques = cliques x; constants = constants x; events = events x }

  pub one_first : (s t : BookState) → IsFirstState names s → IsFirstState names t → s ≡ t
  one_first s t f g =
      let world = one_prelude s.world t.world f.world g.world in
      let mode : s.mode ≡ t.mode = f.mode ∙ sym g.mode in
      let memoized : s.memoized ≡ t.memoized = f.memoized ∙ sym g.memoized in
      λ x. record { world = world x; mode = mode x; memoized = memoized x }
