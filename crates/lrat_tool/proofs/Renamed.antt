-- Hints show a clause whatever the variables are called.
use Rattle.std.proofs.Common.{◌≡◌, ◌∙◌, ap, sym, refl, ℕ, zero, suc, ℤ, map, Bool, true, false, List, [], ◌∷◌, ◌++◌, Option, Some, None}
use Rattle.std.specs.Prelude.{not, ◌&&◌, ◌||◌, cond, neg_ℤ, option_map}
use Rattle.std.specs.Ordering.{int_eq}
use Rattle.std.specs.List.{list_any, list_all}
use Rattle.std.proofs.lemmas.List.{map-append}
use Rattle.std.proofs.lemmas.Option.{slice_get-map}
use Rattle.cnf_rup.specs.declared.clause_status.ClauseStatus.{ClauseStatus}
use Rattle.cnf_rup.specs.declared.clause_status.ClauseStatus.TheVariants as turn
use Rattle.cnf_rup.specs.Shown.{by_turn, clause_at, first_unshown, is_among, is_tautology, left_of, negated, stop, turn_at, turn_of, turn_of_left, turn_of_named}

module _ (ρ : ℤ → ℤ) (same : (x y : ℤ) → int_eq (ρ x) (ρ y) ≡ int_eq x y) (odd : (x : ℤ) → ρ (neg_ℤ x) ≡ neg_ℤ (ρ x)) where
  pub among : (known : List ℤ) (l : ℤ) → is_among (map ρ known) (ρ l) ≡ is_among known l
  among [] l = refl
  among (x ∷ xs) l = ap (λ b. b || is_among (map ρ xs) (ρ l)) (same l x) ∙ ap (λ b. int_eq l x || b) (among xs l)

  among_negated : (known : List ℤ) (l : ℤ) → is_among (map ρ known) (neg_ℤ (ρ l)) ≡ is_among known (neg_ℤ l)
  among_negated known l = ap (is_among (map ρ known)) (sym (odd l)) ∙ among known (neg_ℤ l)

  pub negated_too : (c : List ℤ) → negated (map ρ c) ≡ map ρ (negated c)
  negated_too [] = refl
  negated_too (x ∷ xs) = ap (λ y. y ∷ negated (map ρ xs)) (sym (odd x)) ∙ ap (λ ys. ρ (neg_ℤ x) ∷ ys) (negated_too xs)

  any_among : (known c : List ℤ) → list_any (is_among (map ρ known)) (map ρ c) ≡ list_any (is_among known) c
  any_among known [] = refl
  any_among known (x ∷ xs) = ap (λ b. b || list_any (is_among (map ρ known)) (map ρ xs)) (among known x) ∙ ap (λ b. is_among known x || b) (any_among known xs)

  pub tautology_too : (c : List ℤ) → is_tautology (map ρ c) ≡ is_tautology c
  tautology_too c = ap (λ n. list_any (is_among n) (map ρ c)) (negated_too c) ∙ any_among (negated c) c

  kept_by : (b : Bool) (x : ℤ) (xs : List ℤ) → cond b (ρ x ∷ map ρ xs) (map ρ xs) ≡ map ρ (cond b (x ∷ xs) xs)
  kept_by true x xs = refl
  kept_by false x xs = refl

  pub left_too : (known c : List ℤ) → left_of (map ρ known) (map ρ c) ≡ map ρ (left_of known c)
  left_too known [] = refl
  left_too known (x ∷ xs) =
      ap (λ b. cond (not b) (ρ x ∷ left_of (map ρ known) (map ρ xs)) (left_of (map ρ known) (map ρ xs))) (among_negated known x)
      ∙ ap (λ ys. cond (not (is_among known (neg_ℤ x))) (ρ x ∷ ys) ys) (left_too known xs)
      ∙ kept_by (not (is_among known (neg_ℤ x))) x (left_of known xs)

  abbrev turn_by : ClauseStatus → ClauseStatus
  turn_by (turn.Unit l) = turn.Unit (ρ l)
  turn_by turn.Conflict = turn.Conflict
  turn_by turn.Neither = turn.Neither

  all_same : (l : ℤ) (ls : List ℤ) → list_all (int_eq (ρ l)) (map ρ ls) ≡ list_all (int_eq l) ls
  all_same l [] = refl
  all_same l (x ∷ xs) = ap (λ b. b && list_all (int_eq (ρ l)) (map ρ xs)) (same l x) ∙ ap (λ b. int_eq l x && b) (all_same l xs)

  unit_by : (b : Bool) (l : ℤ) → cond b (turn.Unit (ρ l)) turn.Neither ≡ turn_by (cond b (turn.Unit l) turn.Neither)
  unit_by true l = refl
  unit_by false l = refl

  turn_left_too : (known ls : List ℤ) → turn_of_left (map ρ known) (map ρ ls) ≡ turn_by (turn_of_left known ls)
  turn_left_too known [] = refl
  turn_left_too known (l ∷ ls) =
      ap (λ b. cond (not b && list_all (int_eq (ρ l)) (map ρ ls)) (turn.Unit (ρ l)) turn.Neither) (among known l)
      ∙ ap (λ b. cond (not (is_among known l) && b) (turn.Unit (ρ l)) turn.Neither) (all_same l ls)
      ∙ unit_by (not (is_among known l) && list_all (int_eq l) ls) l

  pub turn_too : (known c : List ℤ) → turn_of (map ρ known) (map ρ c) ≡ turn_by (turn_of known c)
  turn_too known c = ap (turn_of_left (map ρ known)) (left_too known c) ∙ turn_left_too known (left_of known c)

  named_too : (known : List ℤ) (c : Option (List ℤ)) → turn_of_named (map ρ known) (option_map (map ρ) c) ≡ turn_by (turn_of_named known c)
  named_too known None = refl
  named_too known (Some c) = turn_too known c

  clause_too : (clauses : List (List ℤ)) (h : ℕ) → clause_at (map (map ρ) clauses) h ≡ option_map (map ρ) (clause_at clauses h)
  clause_too clauses zero = refl
  clause_too clauses (suc k) = slice_get-map (map ρ) clauses k

  pub stop_too : (clauses : List (List ℤ)) (known : List ℤ) (place : ℕ) (hints : List ℕ) → stop (map (map ρ) clauses) (map ρ known) place hints ≡ stop clauses known place hints
  stop_too clauses known place [] = refl
  stop_too clauses known place (h ∷ hs) =
      ap (λ c. by_turn (turn_of_named (map ρ known) c) (Some place) (λ l. stop (map (map ρ) clauses) (map ρ known ++ l ∷ []) (suc place) hs)) (clause_too clauses h)
      ∙ ap (λ t. by_turn t (Some place) (λ l. stop (map (map ρ) clauses) (map ρ known ++ l ∷ []) (suc place) hs)) (named_too known (clause_at clauses h))
      ∙ by_same (λ l. stop_too clauses (known ++ l ∷ []) (suc place) hs) (turn_at clauses known h)
    where
      by_same : ((l : ℤ) → stop (map (map ρ) clauses) (map ρ (known ++ l ∷ [])) (suc place) hs ≡ stop clauses (known ++ l ∷ []) (suc place) hs) → (t : ClauseStatus) → by_turn (turn_by t) (Some place) (λ l. stop (map (map ρ) clauses) (map ρ known ++ l ∷ []) (suc place) hs) ≡ by_turn t (Some place) (λ l. stop clauses (known ++ l ∷ []) (suc place) hs)
      by_same m turn.Conflict = refl
      by_same m turn.Neither = refl
      by_same m (turn.Unit l) = ap (λ ks. stop (map (map ρ) clauses) ks (suc place) hs) (sym (map-append ρ known (l ∷ []))) ∙ m l

  pub shown_too : (clauses : List (List ℤ)) (c : List ℤ) (hints : List ℕ) → first_unshown (map (map ρ) clauses) (map ρ c) hints ≡ first_unshown clauses c hints
  shown_too clauses c hints =
      ap (λ b. cond b None (stop (map (map ρ) clauses) (negated (map ρ c)) 0 hints)) (tautology_too c)
      ∙ ap (λ n. cond (is_tautology c) None (stop (map (map ρ) clauses) n 0 hints)) (negated_too c)
      ∙ ap (λ s. cond (is_tautology c) None s) (stop_too clauses (negated c) 0 hints)
