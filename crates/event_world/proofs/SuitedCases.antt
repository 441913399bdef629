-- A theorem by cases that is accepted suits its world.
use Rattle.std.proofs.Common.{◌≡◌, ◌∙◌, ap, sym, refl, subst, ℕ, suc, ◌≤◌, Bool, true, false, cond, not, ◌&&◌, leb, List, [], ◌∷◌, map, length, Option, Some, None, arith}
use Rattle.std.specs.Prelude.{bytes_eq, Ok}
use Rattle.std.specs.List.{list_all}
use Rattle.std.specs.Option.{option_map, option_and_then}
use Rattle.std.proofs.lemmas.Bool.{leb-true}
use Rattle.std.proofs.lemmas.List.{length-map}
use Rattle.gl_logic.specs.Every.{Every}
use Rattle.gl_logic.specs.Object.{Object}
use Rattle.gl_logic.specs.Exp.{Exp}
use Rattle.gl_logic.specs.IsTermOf.{IsTermOf}
use Rattle.gl_logic.specs.WorldSeen.{WorldSeen}
use Rattle.gl_translate.specs.Translation.{are_in}
use Rattle.shape_spec.specs.ShapeSeen.{ShapeSeen}
use Rattle.shape_spec.specs.Indices.{variables_of}
use Rattle.gl_logic.specs.Wording.{both, elements, all_meant}
use Rattle.shape_spec.specs.BindingsMeant.{bindings_meant}
use Rattle.shape_spec.specs.declared.theorem.Mode.{Mode}
use Rattle.shape_spec.specs.TheoremSeen.{TheoremSeen, plain_theorem, set_by}
use Rattle.gl_cases.specs.Constants.{constant_in}
use Rattle.gl_cases.specs.Parts.{CaseSeen, ParamSeen, cover_made, case_made, parts_made}
use Rattle.gl_cases.specs.ParamMade.{param_set}
use Rattle.gl_cases.proofs.PartsMade.{made_by_cases, set_by_cases}
use Rattle.gl_cases.proofs.TermsKept.{kept, any_kept}
use Rattle.event_world.specs.declared.fault.EventFault.TheVariants as code
use Rattle.event_world.specs.EventSeen.{EventSeen, Cases}
use Rattle.event_world.specs.KeywordTexts.{case_texts}
use Rattle.event_world.specs.NamesMeant.{is_taken}
use Rattle.event_world.specs.PartsOf.{two_in}
use Rattle.event_world.specs.TheoremMeant.{clocks_meant, claim_meant, hyp_meant, has_only}
use Rattle.event_world.specs.CasesForms.{CasesParts, cases_parts, is_kept, if_kept, quoted_cases, cases_claimed, param_by}
use Rattle.event_world.specs.CasesMeant.{CaseParts, QuotedCases, case_meant, variables_of_case, parameters, are_cases, if_cases, is_quoting, cases_of, case_bound, binds_its_own, are_bound}
use Rattle.event_world.specs.Suits.{IsNewName, IsNewTheorem, IsNewParam, Suits}
use Rattle.event_world.proofs.Inversions.{same_given, then_ok, found_ok, holds_ok, and_true, map_some, if_some, none_some, some_same}
use Rattle.event_world.proofs.Suited.{new_name, only_free, claim_term, hyp_term}

-- ---- how many cases there are
then_some : {A B X : Type 0} (f : A → Option B) (o : Option A) (b : B) → option_and_then f o ≡ Some b → ((a : A) → o ≡ Some a → f a ≡ Some b → X) → X
then_some f (Some a) b e g = g a refl e
then_some f None b e g = none_some b e

both_some : {A B C X : Type 0} (f : A → B → C) (o : Option A) (p : Option B) (c : C) → both f o p ≡ Some c → ((a : A) (b : B) → p ≡ Some b → f a b ≡ c → X) → X
both_some f (Some a) (Some b) c e g = g a b refl (some_same (f a b) c e)
both_some f (Some a) None c e g = none_some c e
both_some f None (Some b) c e g = none_some c e
both_some f None None c e g = none_some c e

all_meant_length : {A B : Type 0} (f : A → Option B) (xs : List A) (ys : List B) → all_meant f xs ≡ Some ys → length ys ≡ length xs
all_meant_length f [] ys e = ap length (sym (some_same [] ys e))
all_meant_length f (x ∷ xs) ys e = both_some (λ z zs. z ∷ zs) (f x) (all_meant f xs) ys e (λ z zs h q. ap length (sym q) ∙ ap suc (all_meant_length f xs zs h))

listed_few : (o : Option (List CaseParts)) (cs : List CaseParts) → option_and_then if_cases o ≡ Some cs → length cs ≤ 64
listed_few o cs h =
    then_some if_cases o cs h (λ ds hd e.
    if_some (are_cases ds) ds cs e (λ t q.
    and_true (leb 1 (length ds) && leb (length ds) 64) (list_all (λ c. bytes_eq (variables_of_case c) (parameters ds)) ds) t (λ range same.
    and_true (leb 1 (length ds)) (leb (length ds) 64) range (λ some few.
    let most = leb-true (length ds) 64 few in
    omega (arith, most, ap length q)))))

-- with a mark that quotes
quoted_few : (mark : Object) (b : Bool) (o : Option (List CaseParts)) (q : QuotedCases) → ((cs : List CaseParts) → o ≡ Some cs → length cs ≤ 64) → cond b (option_map (λ cs. record { mark = mark; cases = cs }) o) None ≡ Some q → length q.cases ≤ 64
quoted_few mark true o q h e = map_some (λ cs. record { mark = mark; cases = cs }) o q e (λ cs k same. let few = h cs k in omega (arith, few, ap (λ (s : QuotedCases). length s.cases) same))
quoted_few mark false o q h e = none_some q e

few_cases : (names : List (List ℕ)) (p : CasesParts) (q : QuotedCases) → quoted_cases names p ≡ Some q → length q.cases ≤ 64
few_cases names p q h =
    then_some (if_kept p) (option_and_then (cases_of names) (two_in p.cases)) q h (λ r hr e.
    if_some (is_kept p r.cases) r q e (λ t same.
    then_some (cases_of names) (two_in p.cases) r hr (λ x hx z.
    let few = quoted_few x.0 (is_quoting names x.0) (option_and_then if_cases (option_and_then (all_meant (case_meant names)) (elements x.1))) r (λ cs k. listed_few (option_and_then (all_meant (case_meant names)) (elements x.1)) cs k) z in
    omega (arith, few, ap (λ (s : QuotedCases). length s.cases) same))))

-- ---- its parts
theorem_new : (w : WorldSeen) (thm : TheoremSeen) → IsNewName w thm.name → IsTermOf w.definitions thm.hyp → IsTermOf w.definitions thm.concl → binds_its_own thm ≡ true → IsNewTheorem w thm
theorem_new w thm name hyp concl bound =
    let only = are_in (variables_of thm.bindings) in
    and_true (has_only only thm.hyp) (has_only only thm.concl) bound (λ bh bc.
    record { name = name; hyp = hyp; concl = concl; hyp_bound = λ v f. only_free thm.hyp only v bh f; concl_bound = λ v f. only_free thm.concl only v bc f })

cases_new : (w : WorldSeen) (thm : TheoremSeen) (t : Exp) (cs : List CaseSeen) → IsNewName w thm.name → IsTermOf w.definitions thm.hyp → IsTermOf w.definitions thm.concl → IsTermOf w.definitions t
    → list_all binds_its_own (map (case_made thm t) cs) ≡ true → Every (IsNewTheorem w) (map (case_made thm t) cs)
cases_new w thm t [] name hyp concl term bound = tt
cases_new w thm t (c ∷ cs) name hyp concl term bound =
    and_true (binds_its_own (case_made thm t c)) (list_all binds_its_own (map (case_made thm t) cs)) bound (λ first others.
    (theorem_new w (case_made thm t c) name (hyp, kept w.definitions (constant_in c.constants) t term, tt) concl first, cases_new w thm t cs name hyp concl term others))

parts_new : (w : WorldSeen) (thm : TheoremSeen) (t : Exp) (b : List (ℕ × ShapeSeen)) (cs : List CaseSeen) → IsNewName w thm.name → IsTermOf w.definitions thm.hyp → IsTermOf w.definitions thm.concl → IsTermOf w.definitions t
    → length cs ≤ 64 → are_bound (parts_made thm t b cs) ≡ true → IsNewParam w (parts_made thm t b cs)
parts_new w thm t b cs name hyp concl term few bound =
    and_true (binds_its_own (cover_made thm t b cs)) (list_all binds_its_own (map (case_made thm t) cs)) bound (λ first others.
    record {
      cover = theorem_new w (cover_made thm t b cs) name hyp (any_kept w.definitions t term cs) first;
      cases = cases_new w thm t cs name hyp concl term others;
      parts = made_by_cases thm t b cs;
      few = omega (arith, few, length-map cs (case_made thm t));
    })

-- ---- settings are not looked at
theorem_set : (w : WorldSeen) (h c : ℕ) (m : Mode) (fs : List ℕ) (thm : TheoremSeen) → IsNewTheorem w thm → IsNewTheorem w (set_by h c m fs thm)
theorem_set w h c m fs thm k = record { name = k.name; hyp = k.hyp; concl = k.concl; hyp_bound = k.hyp_bound; concl_bound = k.concl_bound }

cases_set : (w : WorldSeen) (h c : ℕ) (m : Mode) (fs : List ℕ) (thms : List TheoremSeen) → Every (IsNewTheorem w) thms → Every (IsNewTheorem w) (map (set_by h c m fs) thms)
cases_set w h c m fs [] k = tt
cases_set w h c m fs (thm ∷ thms) k = (theorem_set w h c m fs thm k.0, cases_set w h c m fs thms k.1)

parts_set : (w : WorldSeen) (h c : ℕ) (m : Mode) (fs : List ℕ) (thm : ParamSeen) → IsNewParam w thm → IsNewParam w (param_set h c m fs thm)
parts_set w h c m fs thm k = record {
  cover = theorem_set w h c m fs thm.cover k.cover;
  cases = cases_set w h c m fs thm.cases k.cases;
  parts = set_by_cases h c m fs thm k.parts;
  few = let few = k.few in omega (arith, few, length-map thm.cases (set_by h c m fs));
}

-- ---- the whole
claimed_suits : (names : List (List ℕ)) (w : WorldSeen) (p : CasesParts) (q : QuotedCases) (thm : ParamSeen) → IsNewName w p.name → quoted_cases names p ≡ Some q → cases_claimed names w p q ≡ Ok thm → IsNewParam w thm
claimed_suits names w p q thm name hq h =
    then_ok (hyp_meant names w p.hyp) _ thm h (λ a ha h1.
    then_ok (claim_meant names w p.concl) _ thm h1 (λ c hc h2.
    then_ok (claim_meant names w p.term) _ thm h2 (λ t ht h3.
    found_ok code.BadBindings (bindings_meant names p.cover) _ thm h3 (λ b hb h4.
    found_ok code.BadBindings (all_meant (case_bound names q.mark) q.cases) _ thm h4 (λ cs hcs h5.
    let whole = plain_theorem p.name a c in
    let few : length cs ≤ 64 = let few_forms = few_cases names p q hq in let same = all_meant_length (case_bound names q.mark) q.cases cs hcs in omega (arith, few_forms, same) in
    holds_ok code.BadBindings (are_bound (parts_made whole t b cs)) _ thm h5 (λ bound r.
    subst (IsNewParam w) (same_given (parts_made whole t b cs) thm r)
    (parts_new w whole t b cs name (hyp_term names w p.hyp a ha) (claim_term names w p.concl c hc) (claim_term names w p.term t ht) few bound)))))))

pub param_suits : (names : List (List ℕ)) (w : WorldSeen) (now : Mode) (memoized : List ℕ) (parts : List Object) (e : EventSeen) → param_by names w now memoized parts ≡ Ok e → Suits w e
param_suits names w now memoized parts e h =
    found_ok code.BadEvent (cases_parts names parts) _ e h (λ p hp h1.
    found_ok code.BadOption (clocks_meant names case_texts p.options) _ e h1 (λ clocks hk h2.
    found_ok code.BadCases (quoted_cases names p) _ e h2 (λ q hq h3.
    holds_ok code.Redefined (not (is_taken names w p.name)) _ e h3 (λ new h4.
    then_ok (cases_claimed names w p q) _ e h4 (λ thm made r.
    subst (Suits w) (same_given (Cases (param_set clocks.0 clocks.1 now memoized thm)) e r)
    (parts_set w clocks.0 clocks.1 now memoized thm (claimed_suits names w p q thm (new_name names w p.name new) hq made)))))))
