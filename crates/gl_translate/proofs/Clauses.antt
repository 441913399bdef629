-- Clauses of `case`, and forms behind bindings.
use Rattle.std.proofs.Common.{◌≡◌, ◌∙◌, ap, sym, refl, subst, ℕ, zero, suc, ◌+◌, ◌-◌, ◌<◌, ◌≤◌, Bool, true, false, cond, not, ◌&&◌, List, [], ◌∷◌, ◌++◌, map, reverse, drop, take, get_or, length, arith, Option, Some, None}
use Rattle.std.specs.Prelude.{◌==◌}
use Rattle.std.specs.List.{list_all}
use Rattle.std.specs.Option.{is_some}
use Rattle.std.proofs.lemmas.List.{reverse-append, map-append, take-append-drop, take_more, get_or_default, length-take-le, take-take, length-map, length-reverse, take_rest}
use Rattle.std.proofs.lemmas.Bool.{ne_eqb}
use Rattle.gl_logic.specs.Object.{Object, nil}
use Rattle.gl_translate.specs.Setting.{Setting, unnamed}
use Rattle.gl_translate.specs.Meaning.{Meaning, fault, if_form, let_form}
use Rattle.gl_translate.specs.Parts.{Part}
use Rattle.gl_translate.specs.Macros.{Choice, choice_of, choice_before, choices_of, choices_form, chosen, joined, matches_all, key_test, body_of, is_declare, member_form}
use Rattle.gl_translate.specs.Translation.{meaning, meanings}
use Rattle.gl_translate.specs.Steps.{option_fault, part_of, parts_of, choice_form, choice_forms}
use Rattle.gl_translate.proofs.Forward.{parts_push, parts_last}

never_zero : (i : ℕ) → (suc i == 0) ≡ false
never_zero i = ne_eqb (suc i) 0 (λ e. absurd (omega (arith, e)))

two_less : (n : ℕ) → n - 1 - 1 ≡ n - 2
two_less n = omega arith

some_parts : (s : Setting) (xs : List Object) → 0 < length xs → 0 < length (parts_of s xs)
some_parts s xs l = omega (arith, l, length-map (reverse xs) (part_of s), length-reverse xs)

-- ---- clauses that have their shape mean the same one at a time
module _ (s : Setting) where
  step : (o : Option Choice) (os : Option (List Choice)) (last : Bool) (cs : List Choice) (rest : Meaning) → ((ds : List Choice) → os ≡ Some ds → choices_form s ds ≡ rest)
      → joined (choice_before s last) o os ≡ Some cs → choices_form s cs ≡ choice_form s o rest
  step None os last cs rest h e = absurd cc
  step (Some c) None last cs rest h e = absurd cc
  step (Some c) (Some ds) last cs rest h e =
      elim (matches_all s c.0 && not last) as (λ b. cond b None (Some (c ∷ ds)) ≡ Some cs → choices_form s cs ≡ choice_form s (Some c) rest) [
        | true ↦ λ q. absurd cc
        | false ↦ λ q. let same : c ∷ ds ≡ cs = cc in ap (choices_form s) (sym same) ∙ ap (λ (m : Meaning). cond (matches_all s c.0) c.1 (if_form (key_test s c.0) c.1 m)) (h ds refl)
      ] e

  pub choices_same : (ps : List Part) (cs : List Choice) → choices_of s ps ≡ Some cs → choices_form s cs ≡ choice_forms s ps
  choices_same [] cs e = let same : [] ≡ cs = cc in ap (choices_form s) (sym same)
  choices_same (p ∷ ps) cs e = step (choice_of p.object p.inside) (choices_of s ps) (length ps == 0) cs (choice_forms s ps) (choices_same ps) e

  pub chosen_is : (x : Meaning) (ps : List Part) → is_some (choices_of s ps) ≡ true → chosen s x (choices_of s ps) ≡ let_form (unnamed s ∷ []) (x ∷ []) (choice_forms s ps)
  chosen_is x ps = elim (choices_of s ps) as (λ o. choices_of s ps ≡ o → is_some o ≡ true → chosen s x o ≡ let_form (unnamed s ∷ []) (x ∷ []) (choice_forms s ps)) [
    | None ↦ λ q h. absurd cc
    | Some cs ↦ λ q h. ap (let_form (unnamed s ∷ []) (x ∷ [])) (choices_same ps cs q)
  ] refl

  -- ---- one that has not its shape spoils the whole
  joined_none : {A B C : Type 0} (f : A → B → Option C) (o : Option A) (os : Option B) → is_some os ≡ false → is_some (joined f o os) ≡ false
  joined_none f None os h = refl
  joined_none f (Some a) None h = refl
  joined_none f (Some a) (Some b) h = absurd cc

  pub none_stays : (qs ps : List Part) → is_some (choices_of s ps) ≡ false → is_some (choices_of s (qs ++ ps)) ≡ false
  none_stays [] ps h = h
  none_stays (q ∷ qs) ps h = joined_none (choice_before s (length (qs ++ ps) == 0)) (choice_of q.object q.inside) (choices_of s (qs ++ ps)) (none_stays qs ps h)

  parts_split : (xs : List Object) (i : ℕ) → parts_of s xs ≡ parts_of s (drop i xs) ++ parts_of s (take i xs)
  parts_split xs i = ap (parts_of s) (sym (take-append-drop i xs)) ∙ (ap (map (part_of s)) (reverse-append (take i xs) (drop i xs)) ∙ map-append (part_of s) (reverse (drop i xs)) (reverse (take i xs)))

  module _ (xs : List Object) (i : ℕ) (x : Object) (inside : i < length xs) (at : x ≡ get_or xs i x) where
    pub choices_at : choices_of s (parts_of s (take (i + 1) xs)) ≡ joined (choice_before s (length (parts_of s (take i xs)) == 0)) (choice_of x (meanings s x)) (choices_of s (parts_of s (take i xs)))
    choices_at = ap (λ (ys : List Object). choices_of s (parts_of s ys)) (take_more xs i x inside ∙ ap (λ (y : Object). take i xs ++ y ∷ []) (sym at)) ∙ ap (choices_of s) (parts_push s (take i xs) x)

    pub spoiled : is_some (choices_of s (parts_of s (take (i + 1) xs))) ≡ false → false ≡ is_some (choices_of s (parts_of s xs))
    spoiled h = sym (ap (λ ps. is_some (choices_of s ps)) (parts_split xs (i + 1)) ∙ none_stays (parts_of s (drop (i + 1) xs)) (parts_of s (take (i + 1) xs)) h)

    pub no_choice : choice_of x (meanings s x) ≡ None → false ≡ is_some (choices_of s (parts_of s xs))
    no_choice h = spoiled (ap is_some (choices_at ∙ ap (λ o. joined (choice_before s (length (parts_of s (take i xs)) == 0)) o (choices_of s (parts_of s (take i xs)))) h))

    none_before : (c : Choice) (os : Option (List Choice)) (last : Bool) → (matches_all s c.0 && not last) ≡ true → is_some (joined (choice_before s last) (Some c) os) ≡ false
    none_before c None last h = refl
    none_before c (Some cs) last h = ap (λ b. is_some (cond b None (Some (c ∷ cs)))) h

    pub too_early : (c : Choice) → choice_of x (meanings s x) ≡ Some c → (matches_all s c.0 && not (length (parts_of s (take i xs)) == 0)) ≡ true → false ≡ is_some (choices_of s (parts_of s xs))
    too_early c h e = spoiled (ap is_some (choices_at ∙ ap (λ o. joined (choice_before s (length (parts_of s (take i xs)) == 0)) o (choices_of s (parts_of s (take i xs)))) h) ∙ none_before c (choices_of s (parts_of s (take i xs))) (length (parts_of s (take i xs)) == 0) e)

    kept : (c : Choice) (os : Option (List Choice)) (last : Bool) → (matches_all s c.0 && not last) ≡ false → is_some os ≡ true → is_some (joined (choice_before s last) (Some c) os) ≡ true
    kept c None last h k = absurd cc
    kept c (Some cs) last h k = ap (λ b. is_some (cond b None (Some (c ∷ cs)))) h

    pub one_choice : (c : Choice) → choice_of x (meanings s x) ≡ Some c → (matches_all s c.0 && not (length (parts_of s (take i xs)) == 0)) ≡ false → is_some (choices_of s (parts_of s (take i xs))) ≡ true → is_some (choices_of s (parts_of s (take (i + 1) xs))) ≡ true
    one_choice c h e k = ap is_some (choices_at ∙ ap (λ o. joined (choice_before s (length (parts_of s (take i xs)) == 0)) o (choices_of s (parts_of s (take i xs)))) h) ∙ kept c (choices_of s (parts_of s (take i xs))) (length (parts_of s (take i xs)) == 0) e k

  full : (ys : List Object) (x : Object) → (length (map (part_of s) (ys ++ x ∷ [])) == 0) ≡ false
  full [] x = never_zero 0
  full (y ∷ ys) x = never_zero (length (map (part_of s) (ys ++ x ∷ [])))

  pub empty_parts : (xs : List Object) (i : ℕ) → i ≤ length xs → (length (parts_of s (take i xs)) == 0) ≡ (i == 0)
  empty_parts xs zero l = refl
  empty_parts [] (suc i) l = absurd (omega (arith, l))
  empty_parts (x ∷ xs) (suc i) l = ap (λ ys. (length (map (part_of s) ys) == 0)) (reverse-append (x ∷ []) (take i xs)) ∙ (full (reverse (take i xs)) x ∙ sym (never_zero i))

  -- ---- what stands behind bindings
  body_after : (ds : List Object) (b : Object) → body_of s (map (part_of s) ds ++ part_of s b ∷ []) ≡ cond (list_all (is_declare s) ds) (Some (meaning s b)) None
  body_after [] b = refl
  body_after (d ∷ []) b = elim (is_declare s d) as (λ z. cond z (Some (meaning s b)) None ≡ cond (z && true) (Some (meaning s b)) None) [ true ↦ refl | false ↦ refl ]
  body_after (d ∷ e ∷ ds) b = elim (is_declare s d) as (λ z. cond z (body_of s (map (part_of s) (e ∷ ds) ++ part_of s b ∷ [])) None ≡ cond (z && list_all (is_declare s) (e ∷ ds)) (Some (meaning s b)) None) [
    | true ↦ body_after (e ∷ ds) b
    | false ↦ refl
  ]

  body_behind : (xs : List Object) (b : Object) → 0 < length xs → b ≡ get_or xs 0 b → body_of s (parts_of s xs) ≡ cond (list_all (is_declare s) (reverse (drop 1 xs))) (Some (meaning s b)) None
  body_behind [] b l e = absurd (omega (arith, l))
  body_behind (x ∷ xs) b l e = ap (body_of s) (ap (map (part_of s)) (reverse-append (x ∷ []) xs) ∙ map-append (part_of s) (reverse xs) (x ∷ [])) ∙ (body_after (reverse xs) x ∙ ap (λ (y : Object). cond (list_all (is_declare s) (reverse xs)) (Some (meaning s y)) None) (sym e))

  pub body_first : (xs : List Object) (b : Object) → 0 < length xs → b ≡ get_or xs 0 b → body_of s (parts_of s xs) ≡ cond (list_all (is_declare s) (reverse (take (length xs - 1) (drop 1 xs)))) (Some (meaning s b)) None
  body_first xs b l e = body_behind xs b l e ∙ ap (λ (ys : List Object). cond (list_all (is_declare s) (reverse ys)) (Some (meaning s b)) None) (sym (take_rest xs 1))

  -- ---- `member` of more than two
  member_three : (a b : Part) (ps : List Part) → 0 < length ps → member_form s (a ∷ b ∷ ps) ≡ fault (option_fault s ps)
  member_three a b [] l = absurd (omega (arith, l))
  member_three a b (p ∷ ps) l = refl

  pub member_more : (xs : List Object) → 3 ≤ length xs → member_form s (parts_of s xs) ≡ fault (option_fault s (parts_of s (take (length xs - 2) xs)))
  member_more xs l =
      let n : length (take (length xs - 1) xs) ≡ length xs - 1 = length-take-le (length xs - 1) xs (omega arith) in
      let a = get_or xs (length xs - 1) nil in
      let b = get_or (take (length xs - 1) xs) (length (take (length xs - 1) xs) - 1) nil in
      let fewer : take (length (take (length xs - 1) xs) - 1) (take (length xs - 1) xs) ≡ take (length xs - 2) xs =
      ap (λ (k : ℕ). take (k - 1) (take (length xs - 1) xs)) n ∙ (take-take (length xs - 1 - 1) (length xs - 1) xs (omega arith) ∙ ap (λ (k : ℕ). take k xs) (two_less (length xs))) in
      let first = parts_last s xs a (omega (arith, l)) (get_or_default xs (length xs - 1) nil a (omega (arith, l))) in
      let second = parts_last s (take (length xs - 1) xs) b (omega (arith, n, l)) (get_or_default (take (length xs - 1) xs) (length (take (length xs - 1) xs) - 1) nil b (omega (arith, n, l))) in
      let whole : parts_of s xs ≡ part_of s a ∷ part_of s b ∷ parts_of s (take (length xs - 2) xs) = first ∙ ap (λ ps. part_of s a ∷ ps) (second ∙ ap (λ (ys : List Object). part_of s b ∷ parts_of s ys) fewer) in
      ap (member_form s) whole ∙ member_three (part_of s a) (part_of s b) (parts_of s (take (length xs - 2) xs)) (some_parts s (take (length xs - 2) xs) (omega (arith, l, length-take-le (length xs - 2) xs (omega arith))))
