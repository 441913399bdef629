-- Ranks of variables, and what is named by them.
use Rattle.std.proofs.Common.{◌≡◌, ◌∙◌, ap, sym, refl, ℕ, zero, suc, ℤ, pos, negsuc, ◌+◌, ◌-◌, ◌≤◌, Bool, true, false, cond, List, [], ◌∷◌, ◌++◌, map, length, get_or, take, drop, Some, slice_get, arith}
use Rattle.std.proofs.lemmas.Int.{ints}
use Rattle.std.specs.Prelude.{neg_ℤ, eqb, ◌==◌, ◌&&◌, not, is_none, ◌||◌}
use Rattle.std.specs.Ordering.{int_eq}
use Rattle.std.specs.List.{list_any, position_or_len}
use Rattle.std.proofs.lemmas.Bool.Decides.{nat_tests}
use Rattle.std.proofs.lemmas.List.{map-append, length-map, take-map, drop-map, take-append-drop, take_all}
use Rattle.sexp_print.specs.Printed.{BeginsWith}
use Rattle.cnf_rup.proofs.Among.{literal-same, same-literal}
use Rattle.cnf_rup.specs.Shown.{first_unshown}
use Rattle.lrat_tool.specs.Flat.{cut}
use Rattle.lrat_tool.specs.Pieces.{AllRight, IsFoundAmong, LogSeen, before, is_right_at, place_at}
use Rattle.lrat_tool.specs.Held.{place_by}
use Rattle.lrat_tool.specs.Ranks.{AreRanked, AreRenamed, IsRenaming, rank_from, ranked}
use Rattle.lrat_tool.specs.declared.found.Found.{Found}
use Rattle.lrat_tool.specs.declared.found.Found.TheVariants as found
use Rattle.sexp_print.proofs.Begins.{begins_trans}
use Rattle.lrat_tool.proofs.Renamed.{shown_too}
use Rattle.lrat_tool.proofs.WrittenSteps.{take_one}

pub begins_itself : (a : List ℕ) → BeginsWith a a
begins_itself a = take_all (length a) a (omega arith)

-- ---- ranks
rank_low : (p : ℕ) (vs : List ℕ) (v : ℕ) → p ≤ rank_from p vs v
rank_low p [] v = omega arith
rank_low p (u ∷ us) v = low_by (v == u) (rank_from (p + 1) us v) (rank_low (p + 1) us v)
  where
    low_by : (b : Bool) (r : ℕ) → p + 1 ≤ r → p ≤ cond b p r
    low_by true r h = omega arith
    low_by false r h = omega (arith, h)

once_by : (p r t v w u : ℕ) → p + 1 ≤ r → p + 1 ≤ t → (r ≡ t → v ≡ w) → (b c : Bool) → (v == u) ≡ b → (w == u) ≡ c → cond b p r ≡ cond c p t → v ≡ w
once_by p r t v w u low lot more true true b c h = grind (arith, nat_tests)
once_by p r t v w u low lot more true false b c h = absurd (omega (arith, h, lot))
once_by p r t v w u low lot more false true b c h = absurd (omega (arith, h, low))
once_by p r t v w u low lot more false false b c h = more h

rank_once : (p : ℕ) (vs : List ℕ) (v w : ℕ) → rank_from p vs v ≡ rank_from p vs w → v ≡ w
rank_once p [] v w h = omega (arith, h)
rank_once p (u ∷ us) v w h =
    once_by p (rank_from (p + 1) us v) (rank_from (p + 1) us w) v w u (rank_low (p + 1) us v) (rank_low (p + 1) us w) (rank_once (p + 1) us v w) (v == u) (w == u) refl refl h

-- a variable that is put last where it is new has its place
rank_inserted : (p : ℕ) (keys : List ℕ) (v : ℕ) (more : List ℕ) → rank_from p (cond (list_any (eqb v) keys) keys (keys ++ v ∷ []) ++ more) v ≡ p + position_or_len (eqb v) keys
rank_inserted p [] v more = grind (arith, nat_tests)
rank_inserted p (k ∷ ks) v more = by_first (eqb v k) refl (list_any (eqb v) ks) refl (rank_inserted (p + 1) ks v more)
  where
    by_first : (b : Bool) → eqb v k ≡ b → (c : Bool) → list_any (eqb v) ks ≡ c → rank_from (p + 1) (cond (list_any (eqb v) ks) ks (ks ++ v ∷ []) ++ more) v ≡ p + 1 + position_or_len (eqb v) ks
        → rank_from p (cond (eqb v k || list_any (eqb v) ks) (k ∷ ks) ((k ∷ ks) ++ v ∷ []) ++ more) v ≡ p + position_or_len (eqb v) (k ∷ ks)
    by_first true b c d h = grind (arith, nat_tests)
    by_first false b true d h = grind (arith, nat_tests, h)
    by_first false b false d h = grind (arith, nat_tests, h)

pub rank_is : (keys new : List ℕ) (v : ℕ) (all : List ℕ) → new ≡ cond (list_any (eqb v) keys) keys (keys ++ v ∷ []) → BeginsWith new all → rank_from 1 all v ≡ position_or_len (eqb v) keys + 1
rank_is keys new v all is begins =
    ap (λ xs. rank_from 1 xs v) (sym (take-append-drop (length new) all) ∙ ap (λ xs. xs ++ drop (length new) all) (begins ∙ is))
    ∙ rank_inserted 1 keys v (drop (length new) all) ∙ omega arith

-- one literal more
pub ranked_more : (vs ws : List ℕ) (zs : List ℤ) (i : ℕ) (z y : ℤ) (old new : List ℤ) → BeginsWith vs ws → slice_get zs i ≡ Some z → AreRanked vs (take i zs) old → ((all : List ℕ) → BeginsWith ws all → y ≡ ranked all z) → new ≡ old ++ y ∷ [] → AreRanked ws (take (i + 1) zs) new
ranked_more vs ws zs i z y old new grows at before one is all begins =
    is ∙ (λ j. before all (begins_trans vs ws all grows begins) j ++ one all begins j ∷ [])
    ∙ sym (ap (map (ranked all)) (take_one zs i z at) ∙ map-append (ranked all) (take i zs) (z ∷ []))

-- ---- literals
ranked_once : (vs : List ℕ) (x y : ℤ) → ranked vs x ≡ ranked vs y → x ≡ y
ranked_once vs (pos zero) (pos zero) h = refl
ranked_once vs (pos zero) (pos (suc w)) h = absurd (omega (arith, ints, h, rank_low 1 vs (suc w)))
ranked_once vs (pos zero) (negsuc w) h = absurd (omega (arith, ints, h, rank_low 1 vs (suc w)))
ranked_once vs (pos (suc v)) (pos zero) h = absurd (omega (arith, ints, h, rank_low 1 vs (suc v)))
ranked_once vs (pos (suc v)) (pos (suc w)) h = ap pos (rank_once 1 vs (suc v) (suc w) (omega (arith, ints, h)))
ranked_once vs (pos (suc v)) (negsuc w) h = absurd (omega (arith, ints, h, rank_low 1 vs (suc v), rank_low 1 vs (suc w)))
ranked_once vs (negsuc v) (pos zero) h = absurd (omega (arith, ints, h, rank_low 1 vs (suc v)))
ranked_once vs (negsuc v) (pos (suc w)) h = absurd (omega (arith, ints, h, rank_low 1 vs (suc v), rank_low 1 vs (suc w)))
ranked_once vs (negsuc v) (negsuc w) h = let e : suc v ≡ suc w = rank_once 1 vs (suc v) (suc w) (omega (arith, ints, h)) in ap negsuc (omega (arith, e))

pub renaming : (vs : List ℕ) → IsRenaming (ranked vs)
renaming vs = record { same = λ x y. same_by x y (int_eq x y) refl (int_eq (ranked vs x) (ranked vs y)) refl; odd = odd }
  where
    same_by : (x y : ℤ) (b : Bool) → int_eq x y ≡ b → (c : Bool) → int_eq (ranked vs x) (ranked vs y) ≡ c → int_eq (ranked vs x) (ranked vs y) ≡ int_eq x y
    same_by x y true e c d = literal-same (ranked vs x) (ranked vs y) (ap (ranked vs) (same-literal x y e)) ∙ sym e
    same_by x y false e true d = d ∙ sym (literal-same x y (ranked_once vs x y (same-literal (ranked vs x) (ranked vs y) d)))
    same_by x y false e false d = d ∙ sym e

    odd : (x : ℤ) → ranked vs (neg_ℤ x) ≡ neg_ℤ (ranked vs x)
    odd (pos zero) = refl
    odd (pos (suc v)) = refl
    odd (negsuc v) = omega (arith, ints)

same_all : (f : ℤ → ℤ) → ((z : ℤ) → f z ≡ z) → (zs : List ℤ) → map f zs ≡ zs
same_all f h [] = refl
same_all f h (z ∷ zs) = λ i. h z i ∷ same_all f h zs i

itself : (cs : List (List ℤ)) → cs ≡ map (map (λ z. z)) cs
itself [] = refl
itself (c ∷ cs) = λ i. sym (same_all (λ z. z) (λ z. refl) c) i ∷ itself cs i

-- clauses that stay
pub stays : (formula clauses : List (List ℤ)) → AreRenamed formula clauses formula clauses
stays formula clauses = record { by = λ z. z; is = record { same = λ x y. refl; odd = λ x. refl }; formula_is = itself formula; clauses_is = itself clauses }

-- ---- lists in one list
pub cut_map : (f : ℤ → ℤ) (places : List ℕ) (xs : List ℤ) → cut places (map f xs) ≡ map (map f) (cut places xs)
cut_map f [] xs = refl
cut_map f (a ∷ []) xs = refl
cut_map f (a ∷ b ∷ bs) xs =
    let first : take (b - a) (drop a (map f xs)) ≡ map f (take (b - a) (drop a xs)) = ap (take (b - a)) (drop-map f a xs) ∙ take-map f (b - a) (drop a xs) in
    (λ i. first i ∷ cut_map f (b ∷ bs) xs i)

-- ---- entries
module _ (s t : LogSeen) (renamed : AreRenamed s.formula s.clauses t.formula t.clauses) (ids : t.ids ≡ s.ids) (hints : t.hints ≡ s.hints) (rats : t.rats ≡ s.rats) where
  before_too : (k : ℕ) → before t k ≡ map (map renamed.by) (before s k)
  before_too k =
      (λ i. renamed.formula_is i ++ take k (renamed.clauses_is i))
      ∙ ap (λ cs. map (map renamed.by) s.formula ++ cs) (take-map (map renamed.by) k s.clauses)
      ∙ sym (map-append (map renamed.by) s.formula (take k s.clauses))

  clause_too : (cs : List (List ℤ)) (k : ℕ) → get_or (map (map renamed.by) cs) k [] ≡ map renamed.by (get_or cs k [])
  clause_too [] k = refl
  clause_too (c ∷ cs) zero = refl
  clause_too (c ∷ cs) (suc k) = clause_too cs k

  many : length t.formula ≡ length s.formula
  many = ap length renamed.formula_is ∙ length-map s.formula (map renamed.by)

  hints_too : (k : ℕ) → map (place_at t k) (get_or t.hints k []) ≡ map (place_at s k) (get_or s.hints k [])
  hints_too k = λ i. map (place_by (many i) (take k (ids i))) (get_or (hints i) k [])

  pub right_too : (k : ℕ) → is_right_at t k ≡ is_right_at s k
  right_too k =
      (λ i. not (get_or (rats i) k false) && is_none (first_unshown (before_too k i) ((ap (λ cs. get_or cs k []) renamed.clauses_is ∙ clause_too s.clauses k) i) (hints_too k i)))
      ∙ ap (λ o. not (get_or s.rats k false) && is_none o) (shown_too renamed.by renamed.is.same renamed.is.odd (before s k) (get_or s.clauses k []) (map (place_at s k) (get_or s.hints k [])))

  pub all_too : (a b : ℕ) → AllRight t a b → AllRight s a b
  all_too a b h k l m = sym (right_too k) ∙ h k l m

  pub found_too : (a b : ℕ) (f : Found) → IsFoundAmong t a b f → IsFoundAmong s a b f
  found_too a b found.None h = all_too a b h
  found_too a b (found.At k) h = (h.0, h.1, sym (right_too k) ∙ h.2, all_too a k h.3)
  found_too a b found.Memory h = tt

pub as_many_first : (formula clauses new_formula new_clauses : List (List ℤ)) → AreRenamed formula clauses new_formula new_clauses → length new_formula ≡ length formula
as_many_first formula clauses new_formula new_clauses r = ap length r.formula_is ∙ length-map formula (map r.by)

pub as_many : (formula clauses new_formula new_clauses : List (List ℤ)) → AreRenamed formula clauses new_formula new_clauses → length new_clauses ≡ length clauses
as_many formula clauses new_formula new_clauses r = ap length r.clauses_is ∙ length-map clauses (map r.by)
