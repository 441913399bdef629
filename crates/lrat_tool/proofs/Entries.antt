-- The words of an entry, one after another.
use Rattle.std.proofs.Common.{◌≡◌, ◌∙◌, ap, sym, refl, ℕ, ℤ, Bool, true, false, cond, List, [], ◌∷◌, ◌++◌, Option, Some, None}
use Rattle.std.specs.Prelude.{◌&&◌, not, is_some, bytes_eq, codes, option_map, option_and_then}
use Rattle.std.proofs.lemmas.List.{append-nil, append_assoc}
use Rattle.lrat_tool.specs.Numbers.{integer_said, integer_within, natural_within}
use Rattle.lrat_tool.specs.Logs.{Nothing, Clause, Bad, LogEntry, after, all_said, are_ids, ended_by_zero, entry_behind, entry_meant, is_zero_word, most_id, most_literal, or_bad, split_at_zero, with_none_behind, words_meant}
use Rattle.lrat_tool.specs.Held.{said_to_zero}

-- ---- up to a 0
-- with these before
abbrev pub onto : List ℤ → Option (List ℤ × List (List ℕ)) → Option (List ℤ × List (List ℕ))
onto zs o = option_map (λ p. (zs ++ p.0, p.1)) o

pub onto_onto : (zs ys : List ℤ) (o : Option (List ℤ × List (List ℕ))) → onto zs (onto ys o) ≡ onto (zs ++ ys) o
onto_onto zs ys None = refl
onto_onto zs ys (Some p) = ap (λ (xs : List ℤ). Some (xs, p.1)) (sym (append_assoc zs ys p.0))

pub onto_ended : (zs : List ℤ) (ws : List (List ℕ)) → onto zs (Some ([], ws)) ≡ Some (zs, ws)
onto_ended zs ws = ap (λ (xs : List ℤ). Some (xs, ws)) (append-nil zs)

module _ (said : List ℕ → Option ℤ) (w : List ℕ) (ws : List (List ℕ)) where
  pub said_end : is_zero_word w ≡ true → said_to_zero said (w ∷ ws) ≡ Some ([], ws)
  said_end e = ap (λ b. cond b (Some ([], ws)) (option_and_then (λ z. option_map (λ p. (z ∷ p.0, p.1)) (said_to_zero said ws)) (said w))) e

  said_by : (o : Option ℤ) → is_zero_word w ≡ false → said w ≡ o → said_to_zero said (w ∷ ws) ≡ option_and_then (λ z. option_map (λ p. (z ∷ p.0, p.1)) (said_to_zero said ws)) o
  said_by o e s =
      ap (λ b. cond b (Some ([], ws)) (option_and_then (λ z. option_map (λ p. (z ∷ p.0, p.1)) (said_to_zero said ws)) (said w))) e
      ∙ ap (option_and_then (λ z. option_map (λ p. (z ∷ p.0, p.1)) (said_to_zero said ws))) s

  pub said_bad : is_zero_word w ≡ false → said w ≡ None → said_to_zero said (w ∷ ws) ≡ None
  said_bad e s = said_by None e s

  pub said_more : (z : ℤ) → is_zero_word w ≡ false → said w ≡ Some z → said_to_zero said (w ∷ ws) ≡ onto (z ∷ []) (said_to_zero said ws)
  said_more z e s = said_by (Some z) e s

-- the same by the words before the first 0
abbrev Said : Type 0
Said = List ℤ × List (List ℕ)

abbrev Split : Type 0
Split = List (List ℕ) × List (List ℕ)

abbrev front : ℤ → Said → Said
front z p = (z ∷ p.0, p.1)

abbrev front_word : List ℕ → Split → Split
front_word w p = (w ∷ p.0, p.1)

abbrev pair_with : List (List ℕ) → List ℤ → Said
pair_with ws c = (c, ws)

module _ (said : List ℕ → Option ℤ) where
  abbrev by_split : Option Split → Option Said
  by_split s = option_and_then (λ p. option_map (pair_with p.1) (all_said said p.0)) s

  one_more : (z : ℤ) (a : Option (List ℤ)) (ws : List (List ℕ)) → option_map (front z) (option_map (pair_with ws) a) ≡ option_map (pair_with ws) (option_map (λ zs. z ∷ zs) a)
  one_more z None ws = refl
  one_more z (Some c) ws = refl

  step : (o : Option ℤ) (s : Option Split) → option_and_then (λ z. option_map (front z) (by_split s)) o ≡ option_and_then (λ p. option_map (pair_with p.1) (option_and_then (λ z. option_map (λ zs. z ∷ zs) (all_said said p.0)) o)) s
  step None None = refl
  step None (Some p) = refl
  step (Some z) None = refl
  step (Some z) (Some p) = one_more z (all_said said p.0) p.1

  split_more : (w : List ℕ) (s : Option Split) → option_and_then (λ p. option_map (pair_with p.1) (option_and_then (λ z. option_map (λ zs. z ∷ zs) (all_said said p.0)) (said w))) s ≡ by_split (option_map (front_word w) s)
  split_more w None = refl
  split_more w (Some p) = refl

  by_zero : (w : List ℕ) (ws : List (List ℕ)) (b : Bool) → said_to_zero said ws ≡ by_split (split_at_zero ws)
      → cond b (Some ([], ws)) (option_and_then (λ z. option_map (front z) (said_to_zero said ws)) (said w)) ≡ by_split (cond b (Some ([], ws)) (option_map (front_word w) (split_at_zero ws)))
  by_zero w ws true h = refl
  by_zero w ws false h = ap (λ s. option_and_then (λ z. option_map (front z) s) (said w)) h ∙ step (said w) (split_at_zero ws) ∙ split_more w (split_at_zero ws)

  pub said_is : (ws : List (List ℕ)) → said_to_zero said ws ≡ by_split (split_at_zero ws)
  said_is [] = refl
  said_is (w ∷ ws) = by_zero w ws (is_zero_word w) (said_is ws)

-- ---- an entry
module _ (line id : ℕ) where
  abbrev pub by_hints : List ℤ → Option (List ℤ × List (List ℕ)) → Option LogEntry
  by_hints c None = None
  by_hints c (Some (hs, [])) = Some (record { line = line; id = id; clause = c; hints = hs })
  by_hints c (Some (hs, w ∷ ws)) = None

  abbrev pub by_literals : Option (List ℤ × List (List ℕ)) → Option LogEntry
  by_literals None = None
  by_literals (Some (c, ws)) = by_hints c (said_to_zero integer_said ws)

  last_one : (c : List ℤ) (o : Option (List ℤ)) → option_map (λ hs. record { line = line; id = id; clause = c; hints = hs }) o ≡ by_hints c (option_map (pair_with []) o)
  last_one c None = refl
  last_one c (Some hs) = refl

  too_many : (c : List ℤ) (o : Option (List ℤ)) (w : List ℕ) (ws : List (List ℕ)) → None ≡ by_hints c (option_map (pair_with (w ∷ ws)) o)
  too_many c None w ws = refl
  too_many c (Some hs) w ws = refl

  abbrev with_hints : Option (List ℤ) → List (List ℕ) → Option LogEntry
  with_hints a hints = option_and_then (λ c. option_map (λ hs. record { line = line; id = id; clause = c; hints = hs }) (all_said integer_said hints)) a

  no_clause : (s : Option Split) → option_and_then (with_hints None) (option_and_then with_none_behind s) ≡ None
  no_clause None = refl
  no_clause (Some (x, [])) = refl
  no_clause (Some (x, w ∷ ws)) = refl

  a_clause : (c : List ℤ) (s : Option Split) → option_and_then (with_hints (Some c)) (option_and_then with_none_behind s) ≡ by_hints c (by_split integer_said s)
  a_clause c None = refl
  a_clause c (Some (x, [])) = last_one c (all_said integer_said x)
  a_clause c (Some (x, w ∷ ws)) = too_many c (all_said integer_said x) w ws

  by_clause : (a : Option (List ℤ)) (ws : List (List ℕ)) → option_and_then (with_hints a) (ended_by_zero ws) ≡ by_literals (option_map (pair_with ws) a)
  by_clause None ws = no_clause (split_at_zero ws)
  by_clause (Some c) ws = a_clause c (split_at_zero ws) ∙ ap (by_hints c) (sym (said_is integer_said ws))

  by_both : (s : Option Split) → option_and_then (λ p. option_and_then (with_hints (all_said (integer_within most_literal) p.0)) (ended_by_zero p.1)) s ≡ by_literals (by_split (integer_within most_literal) s)
  by_both None = refl
  by_both (Some p) = by_clause (all_said (integer_within most_literal) p.0) p.1

  pub entry_is : (ws : List (List ℕ)) → entry_behind line id ws ≡ by_literals (said_to_zero (integer_within most_literal) ws)
  entry_is ws = by_both (split_at_zero ws) ∙ ap by_literals (sym (said_is (integer_within most_literal) ws))

-- ---- deletions
abbrev pub is_nil : List (List ℕ) → Bool
is_nil [] = true
is_nil (w ∷ ws) = false

module _ (w : List ℕ) where
  pub ids_end : (ws : List (List ℕ)) → is_zero_word w ≡ true → are_ids (w ∷ ws) ≡ is_nil ws
  ids_end [] e = e
  ids_end (v ∷ ws) e = ap (λ b. (is_some (natural_within most_id w) && not b) && are_ids (v ∷ ws)) e ∙ ap (λ b. b && are_ids (v ∷ ws)) (and_false (is_some (natural_within most_id w)))
    where
      and_false : (b : Bool) → (b && false) ≡ false
      and_false true = refl
      and_false false = refl

  pub ids_bad : (ws : List (List ℕ)) → is_zero_word w ≡ false → natural_within most_id w ≡ None → are_ids (w ∷ ws) ≡ false
  ids_bad [] e n = e
  ids_bad (v ∷ ws) e n = ap (λ o. (is_some o && not (is_zero_word w)) && are_ids (v ∷ ws)) n

  pub ids_more : (ws : List (List ℕ)) → is_zero_word w ≡ false → is_some (natural_within most_id w) ≡ true → are_ids (w ∷ ws) ≡ are_ids ws
  ids_more [] e n = e
  ids_more (v ∷ ws) e n = λ i. (n i && not (e i)) && are_ids (v ∷ ws)

-- ---- a line with an entry
module _ (line id : ℕ) (ws : List (List ℕ)) where
  pub no_literals : said_to_zero (integer_within most_literal) ws ≡ None → or_bad (entry_behind line id ws) ≡ Bad
  no_literals h = ap or_bad (entry_is line id ws ∙ ap (by_literals line id) h)

  module _ (c : List ℤ) (left : List (List ℕ)) (literals : said_to_zero (integer_within most_literal) ws ≡ Some (c, left)) where
    then_hints : (o : Option Said) → said_to_zero integer_said left ≡ o → or_bad (entry_behind line id ws) ≡ or_bad (by_hints line id c o)
    then_hints o h = ap or_bad (entry_is line id ws ∙ ap (by_literals line id) literals ∙ ap (by_hints line id c) h)

    pub no_hints : said_to_zero integer_said left ≡ None → or_bad (entry_behind line id ws) ≡ Bad
    no_hints h = then_hints None h

    pub word_behind : (hs : List ℤ) (rest : List (List ℕ)) (w : List ℕ) (more : List (List ℕ)) → said_to_zero integer_said left ≡ Some (hs, rest) → rest ≡ w ∷ more → or_bad (entry_behind line id ws) ≡ Bad
    word_behind hs rest w more h e = then_hints (Some (hs, rest)) h ∙ ap (λ (r : List (List ℕ)). or_bad (by_hints line id c (Some (hs, r)))) e

    pub one_entry : (hs : List ℤ) (rest : List (List ℕ)) → said_to_zero integer_said left ≡ Some (hs, rest) → rest ≡ [] → or_bad (entry_behind line id ws) ≡ Clause (record { line = line; id = id; clause = c; hints = hs })
    one_entry hs rest h e = then_hints (Some (hs, rest)) h ∙ ap (λ (r : List (List ℕ)). or_bad (by_hints line id c (Some (hs, r)))) e

-- ---- a line's words
module _ (last line : ℕ) (w v : List ℕ) (ws : List (List ℕ)) where
  pub deletion_meant : bytes_eq v (codes "d") ≡ true → words_meant last line (w ∷ v ∷ ws) ≡ cond (is_some (natural_within most_id w) && are_ids ws) Nothing Bad
  deletion_meant h = ap (λ b. cond b (cond (is_some (natural_within most_id w) && are_ids ws) Nothing Bad) (or_bad (entry_meant last line w (v ∷ ws)))) h

  pub entry_line_meant : (o : Option ℕ) → bytes_eq v (codes "d") ≡ false → option_and_then (after last) (natural_within most_id w) ≡ o → words_meant last line (w ∷ v ∷ ws) ≡ or_bad (option_and_then (λ id. entry_behind line id (v ∷ ws)) o)
  entry_line_meant o h e =
      ap (λ b. cond b (cond (is_some (natural_within most_id w) && are_ids ws) Nothing Bad) (or_bad (entry_meant last line w (v ∷ ws)))) h
      ∙ ap (λ x. or_bad (option_and_then (λ id. entry_behind line id (v ∷ ws)) x)) e
