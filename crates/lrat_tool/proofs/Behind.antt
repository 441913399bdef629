-- Entries of lines behind other lines.
use Rattle.std.proofs.Common.{◌≡◌, ◌∙◌, ap, sym, subst, refl, ℕ, suc, ℤ, ◌+◌, ◌<◌, Bool, true, false, cond, List, [], ◌∷◌, ◌++◌, map, length, take, arith, Option, Some, None, Result, Ok, Err}
use Rattle.std.specs.Prelude.{nat_lt, bytes_eq, codes, is_some, ◌&&◌, option_map, option_and_then}
use Rattle.std.proofs.lemmas.Bool.Decides.{nat_tests}
use Rattle.std.proofs.lemmas.List.{append_assoc, map-append, take_more}
use Rattle.lrat_tool.specs.Held.{Rises, last_id, said_to_zero}
use Rattle.lrat_tool.specs.Logs.{LineMeant, Nothing, Clause, Bad, LogEntry, after, are_ids, by_line, entries_from, entry_behind, entry_meant, most_id, most_literal, or_bad, with_entry, words_meant}
use Rattle.lrat_tool.specs.Numbers.{integer_said, integer_within, natural_within}
use Rattle.lrat_tool.specs.Parts.{entry_at, later}
use Rattle.lrat_tool.specs.Words.{words_in}
use Rattle.lrat_tool.proofs.Entries.{by_hints, by_literals, entry_is}
use Rattle.lrat_tool.proofs.LogLines.{behind, behind_nil}

abbrev Said : Type 0
Said = List ℤ × List (List ℕ)

abbrev Answer : Type 0
Answer = Result (List LogEntry) ℕ

abbrev ids_of : List LogEntry → List ℕ
ids_of es = map (λ e. e.id) es

-- ---- answers
abbrev entries_or : List LogEntry → Answer → List LogEntry
entries_or es (Ok ds) = ds
entries_or es (Err n) = es

abbrev IsOk : Answer → Type 0
IsOk (Ok es) = Unit {0}
IsOk (Err n) = ⊥

abbrev answer : List LogEntry → Answer
answer es = Ok es

ok_same : (es ds : List LogEntry) → answer es ≡ answer ds → es ≡ ds
ok_same es ds h = ap (entries_or es) h

err_ok : {P : Type 0} (n : ℕ) (es : List LogEntry) → Err n ≡ Ok es → P
err_ok n es h = absurd (subst IsOk (sym h) tt)

-- ---- a line, so many lines later
abbrev line_later : ℕ → LineMeant → LineMeant
line_later n Nothing = Nothing
line_later n (Clause e) = Clause (later n e)
line_later n Bad = Bad

module _ (n line id : ℕ) where
  hints_later : (c : List ℤ) (o : Option Said) → by_hints (n + line) id c o ≡ option_map (later n) (by_hints line id c o)
  hints_later c None = refl
  hints_later c (Some (hs, [])) = refl
  hints_later c (Some (hs, w ∷ ws)) = refl

  literals_later : (o : Option Said) → by_literals (n + line) id o ≡ option_map (later n) (by_literals line id o)
  literals_later None = refl
  literals_later (Some (c, ws)) = hints_later c (said_to_zero integer_said ws)

  entry_later : (ws : List (List ℕ)) → entry_behind (n + line) id ws ≡ option_map (later n) (entry_behind line id ws)
  entry_later ws = entry_is (n + line) id ws ∙ literals_later (said_to_zero (integer_within most_literal) ws) ∙ ap (option_map (later n)) (sym (entry_is line id ws))

-- the number of a line's entry is the line's
module _ (line id : ℕ) where
  abbrev HasId : Option LogEntry → Type 0
  HasId None = Unit {0}
  HasId (Some e) = e.id ≡ id

  hints_id : (c : List ℤ) (o : Option Said) → HasId (by_hints line id c o)
  hints_id c None = tt
  hints_id c (Some (hs, [])) = refl
  hints_id c (Some (hs, w ∷ ws)) = tt

  literals_id : (o : Option Said) → HasId (by_literals line id o)
  literals_id None = tt
  literals_id (Some (c, ws)) = hints_id c (said_to_zero integer_said ws)

  entry_id : (ws : List (List ℕ)) (o : Option LogEntry) → entry_behind line id ws ≡ o → HasId o
  entry_id ws o h = subst HasId (sym (entry_is line id ws) ∙ h) (literals_id (said_to_zero (integer_within most_literal) ws))

-- what a line says may stand behind an entry of this number
abbrev StandsBehind : ℕ → LineMeant → Type 0
StandsBehind b Nothing = Unit {0}
StandsBehind b (Clause e) = b < e.id
StandsBehind b Bad = ⊥

module _ (n line a b : ℕ) (m : LineMeant) (p : StandsBehind b m) where
  never : {P : Type 0} → Bad ≡ m → P
  never h = absurd (subst (StandsBehind b) (sym h) p)

  less : (i : ℕ) → b < i → nat_lt b i ≡ true
  less i h = grind (arith, nat_tests)

  deletion_later : (x : Bool) → cond x Nothing Bad ≡ m → cond x Nothing Bad ≡ line_later n m
  deletion_later true h = ap (line_later n) h
  deletion_later false h = never h

  module _ (vs : List (List ℕ)) where
    abbrev with_id : Option ℕ → LineMeant
    with_id o = or_bad (option_and_then (λ i. entry_behind line i vs) o)

    abbrev with_id_later : Option ℕ → LineMeant
    with_id_later o = or_bad (option_and_then (λ i. entry_behind (n + line) i vs) o)

    found_later : (id : ℕ) (o : Option LogEntry) → entry_behind line id vs ≡ o → or_bad o ≡ m → with_id_later (after b id) ≡ line_later n m
    found_later id None is h = never h
    found_later id (Some e) is h =
        let stands : b < e.id = subst (StandsBehind b) (sym h) p in
        let same : e.id ≡ id = entry_id line id vs (Some e) is in
        ap (λ t. with_id_later (cond t (Some id) None)) (less id (subst (λ (i : ℕ). b < i) same stands))
        ∙ ap or_bad (entry_later n line id vs ∙ ap (option_map (later n)) is) ∙ ap (line_later n) h

    after_later : (id : ℕ) (t : Bool) → with_id (cond t (Some id) None) ≡ m → with_id_later (after b id) ≡ line_later n m
    after_later id true h = found_later id (entry_behind line id vs) refl h
    after_later id false h = never h

    number_later : (o : Option ℕ) → with_id (option_and_then (after a) o) ≡ m → with_id_later (option_and_then (after b) o) ≡ line_later n m
    number_later None h = never h
    number_later (Some id) h = after_later id (nat_lt a id) h

  either_later : (w v : List ℕ) (ws : List (List ℕ)) (t : Bool) → cond t (cond (is_some (natural_within most_id w) && are_ids ws) Nothing Bad) (or_bad (entry_meant a line w (v ∷ ws))) ≡ m
      → cond t (cond (is_some (natural_within most_id w) && are_ids ws) Nothing Bad) (or_bad (entry_meant b (n + line) w (v ∷ ws))) ≡ line_later n m
  either_later w v ws true h = deletion_later (is_some (natural_within most_id w) && are_ids ws) h
  either_later w v ws false h = number_later (v ∷ ws) (natural_within most_id w) h

  pub words_later : (ws : List (List ℕ)) → words_meant a line ws ≡ m → words_meant b (n + line) ws ≡ line_later n m
  words_later [] h = ap (line_later n) h
  words_later (w ∷ []) h = never h
  words_later (w ∷ v ∷ ws) h = either_later w v ws (bytes_eq v (codes "d")) h

-- ---- lines, so many lines later and behind an entry of another number
abbrev all_later : ℕ → List LogEntry → List LogEntry
all_later n es = map (later n) es

abbrev answer_later : ℕ → Answer → Answer
answer_later n (Ok es) = Ok (all_later n es)
answer_later n (Err m) = Err m

next_line : (n line : ℕ) → n + (line + 1) ≡ (n + line) + 1
next_line n line = omega arith

abbrev AreLater : ℕ → List (List ℕ) → Type 0
AreLater n ls = (line a b : ℕ) (es : List LogEntry) → entries_from line ls a ≡ Ok es → Rises b (ids_of es) → entries_from (n + line) ls b ≡ Ok (all_later n es)

module _ (n : ℕ) (l : List ℕ) (ls : List (List ℕ)) (more : AreLater n ls) (line a b : ℕ) (es : List LogEntry) where
  rest_by : (e : LogEntry) (rest : Answer) → words_meant a line (words_in l) ≡ Clause e → entries_from (line + 1) ls e.id ≡ rest → with_entry e rest ≡ Ok es → Rises b (ids_of es) → entries_from (n + line) (l ∷ ls) b ≡ Ok (all_later n es)
  rest_by e (Ok ds) is got h r =
      let rises : Rises b (e.id ∷ ids_of ds) = subst (λ (xs : List LogEntry). Rises b (ids_of xs)) (sym (ok_same (e ∷ ds) es h)) r in
      ap (λ m. by_line m (n + line) (entries_from ((n + line) + 1) ls) b) (words_later n line a b (Clause e) rises.0 (words_in l) is)
      ∙ ap (λ k. with_entry (later n e) (entries_from k ls e.id)) (sym (next_line n line))
      ∙ ap (with_entry (later n e)) (more (line + 1) e.id e.id ds got rises.1)
      ∙ ap (answer_later n) h
  rest_by e (Err m) is got h r = err_ok m es h

  line_by : (m : LineMeant) → words_meant a line (words_in l) ≡ m → by_line m line (entries_from (line + 1) ls) a ≡ Ok es → Rises b (ids_of es) → entries_from (n + line) (l ∷ ls) b ≡ Ok (all_later n es)
  line_by Nothing is h r =
      ap (λ m. by_line m (n + line) (entries_from ((n + line) + 1) ls) b) (words_later n line a b Nothing tt (words_in l) is)
      ∙ ap (λ k. entries_from k ls b) (sym (next_line n line)) ∙ more (line + 1) a b es h r
  line_by (Clause e) is h r = rest_by e (entries_from (line + 1) ls e.id) is refl h r
  line_by Bad is h r = err_ok line es h

pub entries_later : (n : ℕ) (ls : List (List ℕ)) → AreLater n ls
entries_later n [] line a b es h r = ap (answer_later n) h
entries_later n (l ∷ ls) line a b es h r = line_by n l ls (entries_later n ls) line a b es (words_meant a line (words_in l)) refl h r

-- ---- lines behind others
with_behind : (e : LogEntry) (ds : List LogEntry) (r : Answer) → with_entry e (behind ds r) ≡ behind (e ∷ ds) r
with_behind e ds (Ok es) = refl
with_behind e ds (Err n) = refl

no_lines : (line : ℕ) → line ≡ 0 + line
no_lines line = omega arith

more_lines : (k line : ℕ) → k + (line + 1) ≡ suc k + line
more_lines k line = omega arith

abbrev AreThen : List (List ℕ) → List (List ℕ) → Type 0
AreThen ms ls = (line a : ℕ) (es : List LogEntry) → entries_from line ls a ≡ Ok es → entries_from line (ls ++ ms) a ≡ behind es (entries_from (length ls + line) ms (last_id a (ids_of es)))

module _ (ms : List (List ℕ)) (l : List ℕ) (ls : List (List ℕ)) (more : AreThen ms ls) (line a : ℕ) (es : List LogEntry) where
  abbrev Follows : List LogEntry → Type 0
  Follows xs = entries_from line (l ∷ ls ++ ms) a ≡ behind xs (entries_from (suc (length ls) + line) ms (last_id a (ids_of xs)))

  then_rest : (e : LogEntry) (rest : Answer) → words_meant a line (words_in l) ≡ Clause e → entries_from (line + 1) ls e.id ≡ rest → with_entry e rest ≡ Ok es → Follows es
  then_rest e (Ok ds) is got h =
      subst Follows (ok_same (e ∷ ds) es h) (
      ap (λ m. by_line m line (entries_from (line + 1) (ls ++ ms)) a) is
      ∙ ap (with_entry e) (more (line + 1) e.id ds got)
      ∙ with_behind e ds (entries_from (length ls + (line + 1)) ms (last_id e.id (ids_of ds)))
      ∙ ap (λ k. behind (e ∷ ds) (entries_from k ms (last_id e.id (ids_of ds)))) (more_lines (length ls) line)
      )
  then_rest e (Err m) is got h = err_ok m es h

  then_by : (m : LineMeant) → words_meant a line (words_in l) ≡ m → by_line m line (entries_from (line + 1) ls) a ≡ Ok es → Follows es
  then_by Nothing is h =
      ap (λ m. by_line m line (entries_from (line + 1) (ls ++ ms)) a) is ∙ more (line + 1) a es h
      ∙ ap (λ k. behind es (entries_from k ms (last_id a (ids_of es)))) (more_lines (length ls) line)
  then_by (Clause e) is h = then_rest e (entries_from (line + 1) ls e.id) is refl h
  then_by Bad is h = err_ok line es h

pub entries_then : (ms ls : List (List ℕ)) → AreThen ms ls
entries_then ms [] line a es h =
    subst (λ (xs : List LogEntry). entries_from line ms a ≡ behind xs (entries_from line ms (last_id a (ids_of xs)))) (ok_same [] es h) (sym (behind_nil (entries_from line ms a)))
    ∙ ap (λ k. behind es (entries_from k ms (last_id a (ids_of es)))) (no_lines line)
entries_then ms (l ∷ ls) line a es h = then_by ms l ls (entries_then ms ls) line a es (words_meant a line (words_in l)) refl h

-- ---- both
rises_behind : (last : ℕ) (front back : List ℕ) → Rises last (front ++ back) → Rises (last_id last front) back
rises_behind last [] back r = r
rises_behind last (id ∷ front) back r = rises_behind id front back r.1

same_ids : (n : ℕ) (es : List LogEntry) → ids_of (all_later n es) ≡ ids_of es
same_ids n [] = refl
same_ids n (e ∷ es) = ap (λ (is : List ℕ). e.id ∷ is) (same_ids n es)

pub entries_joined : (ls ms : List (List ℕ)) (first n : ℕ) (es ds : List LogEntry) → n ≡ length ls → entries_from 1 ls first ≡ Ok es → entries_from 1 ms first ≡ Ok ds → Rises first (map (λ e. e.id) (es ++ map (later n) ds))
    → entries_from 1 (ls ++ ms) first ≡ Ok (es ++ map (later n) ds)
entries_joined ls ms first n es ds many h g rises =
    let ids : ids_of (es ++ all_later n ds) ≡ ids_of es ++ ids_of ds = map-append (λ (e : LogEntry). e.id) es (all_later n ds) ∙ ap (λ (is : List ℕ). ids_of es ++ is) (same_ids n ds) in
    let behind_last = rises_behind first (ids_of es) (ids_of ds) (subst (Rises first) ids rises) in
    entries_then ms ls 1 first es h
    ∙ ap (λ k. behind es (entries_from (k + 1) ms (last_id first (ids_of es)))) (sym many)
    ∙ ap (behind es) (entries_later n ms 1 first (last_id first (ids_of es)) ds g behind_last)

-- an entry more of those that stand later
pub later_more : (n k : ℕ) (es ds : List LogEntry) → k < length ds → (es ++ map (later n) (take k ds)) ++ later n (entry_at ds k) ∷ [] ≡ es ++ map (later n) (take (k + 1) ds)
later_more n k es ds l =
    append_assoc es (all_later n (take k ds)) (later n (entry_at ds k) ∷ [])
    ∙ ap (λ (xs : List LogEntry). es ++ xs) (sym (map-append (later n) (take k ds) (entry_at ds k ∷ [])) ∙ ap (all_later n) (sym (take_more ds k (record { line = 0; id = 0; clause = []; hints = [] }) l)))
