-- Cliques: the number of the first refused call, member by member.
use Rattle.std.proofs.Common.{◌≡◌, ◌∙◌, ap, sym, refl, subst, ℕ, zero, suc, ◌+◌, List, [], ◌∷◌, ◌++◌, map, drop, take, Option, Some, None, Result, Ok, Err, arith, slice_get}
use Rattle.std.specs.Option.{option_map}
use Rattle.std.proofs.lemmas.Option.{slice_get-map}
use Rattle.gl_logic.specs.Definition.{Definition}
use Rattle.gl_logic.specs.IsAdmissible.{IsAdmissible, is_step, is_member, calls_of_all, recursive_calls}
use Rattle.gl_logic.specs.declared.def.Measure.{Measure}
use Rattle.admission.specs.Signatures.{signature, signature_at}
use Rattle.admission.specs.Callers.{caller_of}
use Rattle.admission.specs.Numbers.{behind, Counts}
use Rattle.admission.specs.declared.fault.AdmitFault.{AdmitFault}
use Rattle.admission.specs.declared.fault.AdmitFault.TheVariants as fault
use Rattle.admission.specs.Refused.{first_no_step, first_refused}
use Rattle.admission.specs.Admitted.{settled, settled_measure, with_measures, TellsRefused}
use Rattle.admission.proofs.ActualTerms.{drop_get}
use Rattle.admission.proofs.Numbered.{numbered, body_is, every_step}

pub with_settled : (ds : List Definition) → with_measures ds (map settled_measure ds) ≡ map settled ds
with_settled [] = refl
with_settled (d ∷ ds) = ap (λ es. settled d ∷ es) (with_settled ds)

pub clique_admitted : (first : ℕ) (ds : List Definition) (ms : List (Option Measure)) → ms ≡ map settled_measure ds → first_refused first (map settled ds) ≡ None → IsAdmissible first (with_measures ds ms)
clique_admitted first ds ms e h = subst (λ (es : List Definition). IsAdmissible first es) (sym (ap (with_measures ds) e ∙ with_settled ds)) (every_step (is_step first (map settled ds)) 1 (recursive_calls first (map settled ds)) h)

-- ---- one member more
-- the number from member i on
abbrev pub refused_from : ℕ → List Definition → ℕ → ℕ → Option ℕ
refused_from first ds i next = first_no_step (is_step first ds) next (calls_of_all (is_member first ds) (drop i ds))

settled_at : (ds : List Definition) (i : ℕ) (d : Definition) → slice_get ds i ≡ Some d → slice_get (map settled ds) i ≡ Some (settled d)
settled_at ds i d e = slice_get-map settled ds i ∙ ap (option_map settled) e

member_more : (first : ℕ) (ds : List Definition) (i : ℕ) (d : Definition) (next : ℕ) (r : Result ℕ ℕ) → slice_get ds i ≡ Some d
    → r ≡ behind (signature_at first (map signature (map settled ds))) d.body (caller_of (settled_measure d) [] []) next
    → refused_from first (map settled ds) i next ≡ numbered r (λ k. refused_from first (map settled ds) (i + 1) k)
member_more first ds i d next r e h =
    let all = map settled ds in
    ap (λ (es : List Definition). first_no_step (is_step first all) next (calls_of_all (is_member first all) es)) (drop_get all i (settled d) (settled_at ds i d e))
    ∙ (body_is first all (settled d) (calls_of_all (is_member first all) (drop (i + 1) all)) next
    ∙ ap (λ (x : Result ℕ ℕ). numbered x (λ k. refused_from first all (i + 1) k)) (sym h))

pub member_passed : (first : ℕ) (ds : List Definition) (i : ℕ) (d : Definition) (next n : ℕ) (r : Result ℕ ℕ) (whole : Option ℕ) → slice_get ds i ≡ Some d
    → r ≡ behind (signature_at first (map signature (map settled ds))) d.body (caller_of (settled_measure d) [] []) next → r ≡ Ok n
    → refused_from first (map settled ds) i next ≡ whole → refused_from first (map settled ds) (i + 1) n ≡ whole
member_passed first ds i d next n r whole e h q w = sym (member_more first ds i d next r e h ∙ ap (λ (x : Result ℕ ℕ). numbered x (λ k. refused_from first (map settled ds) (i + 1) k)) q) ∙ w

pub member_refused : (first : ℕ) (ds : List Definition) (i : ℕ) (d : Definition) (next n : ℕ) (r : Result ℕ ℕ) (whole : Option ℕ) → slice_get ds i ≡ Some d
    → r ≡ behind (signature_at first (map signature (map settled ds))) d.body (caller_of (settled_measure d) [] []) next → r ≡ Err n
    → refused_from first (map settled ds) i next ≡ whole → Some n ≡ whole
member_refused first ds i d next n r whole e h q w = sym (member_more first ds i d next r e h ∙ ap (λ (x : Result ℕ ℕ). numbered x (λ k. refused_from first (map settled ds) (i + 1) k)) q) ∙ w

pub member_stops : (first : ℕ) (ds : List Definition) (i : ℕ) (d : Definition) (next : ℕ) (x : AdmitFault) (whole : Option ℕ) → slice_get ds i ≡ Some d
    → Counts (behind (signature_at first (map signature (map settled ds))) d.body (caller_of (settled_measure d) [] []) next) (Err x)
    → refused_from first (map settled ds) i next ≡ whole → TellsRefused {A = Unit {0}} (Unit {0}) whole (Err x)
member_stops first ds i d next (fault.NotAdmitted n) whole e h w = sym (member_refused first ds i d next n (Err n) whole e (sym h) refl w)
member_stops first ds i d next fault.Memory whole e h w = tt

-- ---- lists that grow member by member
map_one : {A B : Type 0} (f : A → B) (xs : List A) (i : ℕ) (x : A) → slice_get xs i ≡ Some x → map f (take (suc i) xs) ≡ map f (take i xs) ++ f x ∷ []
map_one f [] i x e = absurd cc
map_one f (y ∷ xs) zero x e = let q : y ≡ x = cc in ap (λ z. f z ∷ []) q
map_one f (y ∷ xs) (suc i) x e = ap (λ zs. f y ∷ zs) (map_one f xs i x e)

pub map_more : {A B : Type 0} (f : A → B) (xs : List A) (i : ℕ) (x : A) → slice_get xs i ≡ Some x → map f (take (i + 1) xs) ≡ map f (take i xs) ++ f x ∷ []
map_more f xs i x e = let z : i + 1 ≡ suc i = omega arith in ap (λ k. map f (take k xs)) z ∙ map_one f xs i x e
