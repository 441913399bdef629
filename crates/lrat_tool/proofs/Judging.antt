-- The judgement by what is found of the entries.
use Rattle.std.proofs.Common.{◌≡◌, ◌∙◌, ap, sym, refl, ℕ, zero, suc, ℤ, ◌<◌, ◌≤◌, Bool, true, false, cond, List, [], ◌∷◌, ◌++◌, map, length, get_or, take, arith, Option, Some, None}
use Rattle.std.specs.Prelude.{◌&&◌, ◌||◌, ◌==◌, not, is_none}
use Rattle.std.specs.List.{list_any}
use Rattle.std.proofs.lemmas.List.{get_or-map, get_or-take, length-map, length-take, take-map}
use Rattle.std.proofs.lemmas.List.Elements.{All-take}
use Rattle.std.proofs.lemmas.Bool.{false≢true}
use Rattle.cnf_rup.specs.Books.{is_empty}
use Rattle.cnf_rup.specs.Shown.{first_unshown}
use Rattle.lrat_tool.specs.Flat.{FlatSeen}
use Rattle.lrat_tool.specs.Ends.{to_empty}
use Rattle.lrat_tool.specs.Held.{IsHeld, fault_at}
use Rattle.lrat_tool.specs.HintWords.{held_of}
use Rattle.lrat_tool.specs.Judgements.{by_shown, by_wrong, clauses_said, first_wrong, is_below_zero, judged, place_named, up_to_empty, wrong_with}
use Rattle.lrat_tool.specs.Logs.{LogEntry}
use Rattle.lrat_tool.specs.Pieces.{AllRight, IsFoundAmong, LogSeen, before, is_right_at, log_seen, place_at}
use Rattle.lrat_tool.specs.declared.found.Found.TheVariants as found
use Rattle.lrat_tool.specs.declared.judgement.Judgement.{Judgement}
use Rattle.lrat_tool.specs.declared.judgement.Judgement.TheVariants.{Rat, NotShown}
use Rattle.lrat_tool.specs.declared.log.Log.{Log}
use Rattle.lrat_tool.proofs.Ids.{held_place, named_by_ids, place_in}
use Rattle.lrat_tool.proofs.Judged.{none_wrong, one_wrong}
use Rattle.lrat_tool.proofs.Texts.{take_of_taken}

map_then : (g : ℕ → ℕ) (h p : ℤ → ℕ) → ((z : ℤ) → g (h z) ≡ p z) → (zs : List ℤ) → map g (map h zs) ≡ map p zs
map_then g h p e [] = refl
map_then g h p e (z ∷ zs) = λ i. e z i ∷ map_then g h p e zs i

-- the fault of an entry is told by its flag and its line
pub same_fault : (old new : Log) (k : ℕ) → new.rats ≡ old.rats → new.lines ≡ old.lines → fault_at new k ≡ fault_at old k
same_fault old new k rats lines = λ i. cond (get_or (rats i).items k false) (Rat (get_or (lines i).items k 0)) (NotShown (get_or (lines i).items k 0))

-- ---- up to the first empty clause
abbrev pub clauses_in : List LogEntry → List (List ℤ)
clauses_in es = map (λ e. e.clause) es

taken_by : (b : Bool) (e : LogEntry) (es : List LogEntry) (n : ℕ) → up_to_empty es ≡ take n es → cond b (e ∷ []) (e ∷ up_to_empty es) ≡ take (cond b 1 (suc n)) (e ∷ es)
taken_by true e es n h = refl
taken_by false e es n h = ap (λ (l : List LogEntry). e ∷ l) h

pub up_to : (es : List LogEntry) → up_to_empty es ≡ take (to_empty (clauses_in es)) es
up_to [] = refl
up_to (e ∷ es) = taken_by (is_empty e.clause) e es (to_empty (clauses_in es)) (up_to es)

pub to_empty_within : (cs : List (List ℤ)) → to_empty cs ≤ length cs
to_empty_within [] = omega arith
to_empty_within (c ∷ cs) = within_by (is_empty c) (to_empty cs) (length cs) (to_empty_within cs)
  where
    within_by : (b : Bool) (n m : ℕ) → n ≤ m → cond b 1 (suc n) ≤ suc m
    within_by true n m h = omega arith
    within_by false n m h = omega (arith, h)

-- no clause is empty where there is none
pub no_clauses : (cs : List (List ℤ)) → to_empty cs ≡ 0 → list_any is_empty cs ≡ false
no_clauses [] h = refl
no_clauses (c ∷ cs) h = absurd (some_by (is_empty c) (to_empty cs) h)
  where
    some_by : (b : Bool) (n : ℕ) → cond b 1 (suc n) ≡ 0 → ⊥
    some_by true n e = omega (arith, e)
    some_by false n e = omega (arith, e)

-- the last of the clauses up to the first empty one tells whether there is one
last_by : (c : List ℤ) (cs : List (List ℤ)) (m : ℕ) (b : Bool) → is_empty c ≡ b → cond b 1 (suc (to_empty cs)) ≡ suc m → ((k : ℕ) → to_empty cs ≡ suc k → is_empty (get_or cs k []) ≡ list_any is_empty cs)
    → is_empty (get_or (c ∷ cs) m []) ≡ (b || list_any is_empty cs)
last_by c cs zero true is e more = is
last_by c cs (suc m) true is e more = absurd (omega (arith, e))
last_by c cs zero false is e more = is ∙ sym (no_clauses cs (omega (arith, e)))
last_by c cs (suc m) false is e more = more m (omega (arith, e))

pub last_empty : (cs : List (List ℤ)) (m : ℕ) → to_empty cs ≡ suc m → is_empty (get_or cs m []) ≡ list_any is_empty cs
last_empty [] m e = absurd (omega (arith, e))
last_empty (c ∷ cs) m e = last_by c cs m (is_empty c) refl e (last_empty cs)

pub empty_test : (c : List ℤ) → (length c == 0) ≡ is_empty c
empty_test [] = refl
empty_test (l ∷ ls) = some (length ls)
  where
    some : (n : ℕ) → (suc n == 0) ≡ false
    some n = grind (arith, Rattle.std.proofs.lemmas.Bool.Decides.nat_tests)

any_clause : (es : List LogEntry) → list_any is_empty (clauses_in es) ≡ list_any (λ e. is_empty e.clause) es
any_clause [] = refl
any_clause (e ∷ es) = ap (λ b. is_empty e.clause || b) (any_clause es)

-- ---- one entry
right_by : (b : Bool) (o : Option ℕ) (line : ℕ) → (not b && is_none o) ≡ is_none (cond b (Some (Rat line)) (by_shown line o))
right_by true o line = refl
right_by false None line = refl
right_by false (Some n) line = refl

wrong_by : (b : Bool) (o : Option ℕ) (line : ℕ) → (not b && is_none o) ≡ false → cond b (Some (Rat line)) (by_shown line o) ≡ Some (cond b (Rat line) (NotShown line))
wrong_by true o line h = refl
wrong_by false None line h = absurd (false≢true (sym h))
wrong_by false (Some n) line h = refl

none_by : (o : Option Judgement) → is_none o ≡ true → o ≡ None
none_by None h = refl
none_by (Some j) h = absurd (false≢true h)

module _ (f : FlatSeen ℤ) (es : List LogEntry) (log : Log) (held : IsHeld (length f.lists) es log) (few : length f.lists < 4294967296) where
  abbrev seen : LogSeen
  seen = log_seen f log

  module _ (k : ℕ) (d : LogEntry) (l : k < length es) where
    abbrev entry : LogEntry
    entry = get_or es k d

    pub rat_at : get_or seen.rats k false ≡ list_any is_below_zero entry.hints
    rat_at = ap (λ (xs : List Bool). get_or xs k false) held.rats ∙ get_or-map (λ (e : LogEntry). list_any is_below_zero e.hints) es k d false l

    pub line_at : get_or log.lines.items k 0 ≡ entry.line
    line_at = ap (λ (xs : List ℕ). get_or xs k 0) held.lines ∙ get_or-map (λ (e : LogEntry). e.line) es k d 0 l

    clause_at : get_or seen.clauses k [] ≡ entry.clause
    clause_at = ap (λ (s : FlatSeen ℤ). get_or s.lists k []) held.clauses ∙ get_or-map (λ (e : LogEntry). e.clause) es k d [] l

    ids_at : take k seen.ids ≡ map (λ e. e.id) (take k es)
    ids_at = ap (λ (is : List ℕ). take k is) held.ids ∙ take-map (λ (e : LogEntry). e.id) k es

    place_is : (z : ℤ) → place_at seen k (held_of z) ≡ place_named f.lists (take k es) z
    place_is z =
        held_place (length f.lists) (take k seen.ids) (λ j m. All-take (λ (id : ℕ). id < 4294967296) k seen.ids held.small j 0 m) few z
        ∙ ap (λ (is : List ℕ). place_in (length f.lists) is z) ids_at
        ∙ sym (named_by_ids f.lists (take k es) z)

    hints_at : map (place_at seen k) (get_or seen.hints k []) ≡ map (place_named f.lists (take k es)) entry.hints
    hints_at =
        ap (λ (s : FlatSeen ℕ). map (place_at seen k) (get_or s.lists k [])) held.hints
        ∙ ap (map (place_at seen k)) (get_or-map (λ (e : LogEntry). map held_of e.hints) es k d [] l)
        ∙ map_then (place_at seen k) held_of (place_named f.lists (take k es)) place_is entry.hints

    before_at : before seen k ≡ clauses_said f.lists (take k es)
    before_at = ap (λ (s : FlatSeen ℤ). f.lists ++ take k s.lists) held.clauses ∙ ap (λ (cs : List (List ℤ)). f.lists ++ cs) (take-map (λ (e : LogEntry). e.clause) k es)

    abbrev unshown : Option ℕ
    unshown = first_unshown (clauses_said f.lists (take k es)) entry.clause (map (place_named f.lists (take k es)) entry.hints)

    right_at : is_right_at seen k ≡ (not (list_any is_below_zero entry.hints) && is_none unshown)
    right_at = λ i. not (rat_at i) && is_none (first_unshown (before_at i) (clause_at i) (hints_at i))

    pub right_none : is_right_at seen k ≡ true → wrong_with f.lists (take k es) entry ≡ None
    right_none h = none_by (wrong_with f.lists (take k es) entry) (sym (right_by (list_any is_below_zero entry.hints) unshown entry.line) ∙ sym right_at ∙ h)

    pub wrong_some : is_right_at seen k ≡ false → wrong_with f.lists (take k es) entry ≡ Some (cond (get_or log.rats.items k false) (Rat (get_or log.lines.items k 0)) (NotShown (get_or log.lines.items k 0)))
    wrong_some h =
        wrong_by (list_any is_below_zero entry.hints) unshown entry.line (sym right_at ∙ h)
        ∙ (λ i. Some (cond (sym rat_at i) (Rat (sym line_at i)) (NotShown (sym line_at i))))

  -- ---- the entries up to an end
  module _ (end : ℕ) (is : end ≡ to_empty log.clauses.lists) where
    ends : end ≡ to_empty (clauses_in es)
    ends = is ∙ ap (λ (s : FlatSeen ℤ). to_empty s.lists) held.clauses

    known : up_to_empty es ≡ take end es
    known = up_to es ∙ ap (λ n. take n es) (sym ends)

    within : end ≤ length es
    within = omega (arith, ends, to_empty_within (clauses_in es), length-map es (λ (e : LogEntry). e.clause))

    many : length (take end es) ≡ end
    many = length-take end es ∙ omega (arith, within)

    moved : (k : ℕ) (d : LogEntry) (w : Option Judgement) → k < end → wrong_with f.lists (take k es) (get_or es k d) ≡ w → wrong_with f.lists ([] ++ take k (take end es)) (get_or (take end es) k d) ≡ w
    moved k d w l h = (λ i. wrong_with f.lists (take_of_taken k end es (omega (arith, l)) i) (get_or-take end es k d l i)) ∙ h

    abbrev refuted : Bool
    refuted = list_any is_empty log.clauses.lists

    same_end : list_any (λ e. is_empty e.clause) es ≡ refuted
    same_end = sym (any_clause es) ∙ ap (λ (s : FlatSeen ℤ). list_any is_empty s.lists) (sym held.clauses)

    judged_as : (w : Option Judgement) → first_wrong f.lists [] (take end es) ≡ w → judged f.lists es ≡ by_wrong w refuted
    judged_as w h = (λ i. by_wrong (first_wrong f.lists [] (known i)) (same_end i)) ∙ ap (λ x. by_wrong x refuted) h

    pub none_found : AllRight seen 0 end → judged f.lists es ≡ by_wrong None refuted
    none_found all = judged_as None (none_wrong f.lists [] (take end es) (λ k d l.
        let m : k < end = omega (arith, l, many) in
        moved k d None m (right_none k d (omega (arith, m, within)) (all k (omega arith) m))))

    pub one_found : (k : ℕ) → IsFoundAmong seen 0 end (found.At k) → judged f.lists es ≡ cond (get_or log.rats.items k false) (Rat (get_or log.lines.items k 0)) (NotShown (get_or log.lines.items k 0))
    one_found k h =
        let d : LogEntry = record { line = 0; id = 0; clause = []; hints = [] } in
        let j : Judgement = cond (get_or log.rats.items k false) (Rat (get_or log.lines.items k 0)) (NotShown (get_or log.lines.items k 0)) in
        judged_as (Some j) (one_wrong f.lists [] (take end es) k j d (omega (arith, h.1, many)) (moved k d (Some j) h.1 (wrong_some k d (omega (arith, h.1, within)) h.2))
        (λ i c l. moved i c None (omega (arith, l, h.1)) (right_none i c (omega (arith, l, h.1, within)) (h.3 i (omega arith) l))))
