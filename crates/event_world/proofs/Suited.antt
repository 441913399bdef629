-- What is accepted suits its world.
use Rattle.std.proofs.Common.{◌≡◌, ◌∙◌, ap, sym, refl, subst, ℕ, suc, ◌<◌, Bool, true, false, not, cond, ◌&&◌, ◌||◌, eqb, leb, List, [], ◌∷◌, length, Option, Some, None, arith, append-nil}
use Rattle.std.specs.Prelude.{Result, Ok, Err}
use Rattle.std.specs.List.{list_any}
use Rattle.std.specs.Option.{option_map, option_and_then, is_some}
use Rattle.std.proofs.lemmas.Bool.{eqb-true}
use Rattle.std.proofs.lemmas.List.{length-map}
use Rattle.gl_logic.proofs.Indexes.{place-cons}
use Rattle.admission.proofs.Arguments.{eqb_turned}
use Rattle.gl_translate.specs.declared.fault.TermFault.TheVariants as term_fault
use Rattle.gl_logic.specs.Object.{Object, Int, Character, Symbol, Text, Cons, true_object}
use Rattle.gl_logic.specs.Exp.{Exp, Exps, Var, Const, If, Prim, Call, Let, Last, More}
use Rattle.gl_logic.specs.Definition.{Definition}
use Rattle.gl_logic.specs.FreeVariables.{is_free_in, is_free_in_some}
use Rattle.gl_logic.specs.IsTermOf.{IsTermOf}
use Rattle.gl_logic.specs.IsAdmissible.{IsAdmissible}
use Rattle.gl_logic.specs.Named.{AreDifferentNames, place_of, names_of}
use Rattle.gl_logic.specs.WorldSeen.{WorldSeen, definition_names}
use Rattle.gl_logic.specs.declared.def.Measure.{Measure}
use Rattle.gl_translate.specs.Meaning.{also_bound}
use Rattle.gl_translate.specs.Translation.{translation, are_in}
use Rattle.gl_translate.specs.declared.scope.Scope.{Scope}
use Rattle.gl_translate.proofs.Whole.{meant_proper, meant_visible}
use Rattle.admission.specs.Admitted.{verdict, definition, refused_alone}
use Rattle.admission.proofs.LoneDefinitions.{none_refused, verdict_none, verdict_measured, measured_found}
use Rattle.shape_spec.specs.ShapeSeen.{ShapeSeen}
use Rattle.shape_spec.specs.Indices.{variables_of}
use Rattle.gl_logic.specs.Wording.{text_of, all_meant}
use Rattle.shape_spec.specs.BindingsMeant.{bindings_meant}
use Rattle.gl_logic.specs.NameSets.{are_different}
use Rattle.shape_spec.specs.declared.theorem.Mode.{Mode}
use Rattle.event_world.specs.declared.fault.EventFault.TheVariants as code
use Rattle.event_world.specs.EventSeen.{EventSeen, Defun, Defconst, Theorem}
use Rattle.event_world.specs.NamesMeant.{is_word, is_taken, plain_name}
use Rattle.event_world.specs.PlainMeant.{closed_meant, function_named}
use Rattle.event_world.specs.PlainForms.{evaluation_by, function_in, quoted_part, memo_by, constant_in, defconst_by}
use Rattle.event_world.specs.PartsOf.{one_of, two_of}
use Rattle.event_world.specs.DefunMeant.{defun_parts, formals_meant, checked_formals, are_formals, body_meant, admitted, definition_made, defun_meant}
use Rattle.event_world.specs.Declares.{stated_measure}
use Rattle.event_world.specs.KeywordTexts.{option_texts}
use Rattle.event_world.specs.TheoremForms.{theorem_parts, theorem_by}
use Rattle.event_world.specs.TheoremMeant.{clocks_meant, claim_meant, hyp_meant, has_only, have_only, binds, bound_meant, theorem_made}
use Rattle.event_world.specs.Suits.{IsClosedTerm, IsNewName, Suits}
use Rattle.event_world.proofs.Inversions.{same_given, no_code, none_some, or_true, then_ok, found_ok, holds_ok, term_ok, true_not_false, and_true, not_turns, unless_true, not_some, none_of, some_same, map_some, if_some, different_names}

pub new_name : (names : List (List ℕ)) (w : WorldSeen) (n : ℕ) → not (is_taken names w n) ≡ true → IsNewName w n
new_name names w n h =
    let d = is_some (place_of (definition_names w.definitions) n) in
    let c = is_some (place_of (names_of w.constants) n) in
    let e = is_some (place_of (names_of w.events) n) in
    let all = none_of (is_word (text_of names n)) d c e h in
    record {
      definition = not_some (place_of (definition_names w.definitions) n) all.0;
      constant = not_some (place_of (names_of w.constants) n) all.1.0;
      event = not_some (place_of (names_of w.events) n) all.1.1;
    }

-- ---- terms
abbrev scope_with : Bool → Scope
scope_with every = record { vars = []; every = every; own = [] }

term_of_world : (names : List (List ℕ)) (w : WorldSeen) (every : Bool) (form : Object) (t : Exp) → translation names w (scope_with every) form ≡ Ok t → IsTermOf w.definitions t
term_of_world names w every form t e = subst (λ (ds : List Definition). IsTermOf ds t) (append-nil w.definitions) (meant_proper names w (scope_with every) form t e [] refl)

pub closed_suits : (names : List (List ℕ)) (w : WorldSeen) (form : Object) (t : Exp) → closed_meant names w form ≡ Ok t → IsClosedTerm w t
closed_suits names w form t e =
    let q = term_ok (translation names w (scope_with false) form) t e in
    record {
      term = term_of_world names w false form t q;
      closed = λ v. unless_true (is_free_in t v) (λ h. true_not_false (meant_visible names w (scope_with false) form t q v h));
    }

-- ---- events without a name, and constants
pub evaluation_suits : (names : List (List ℕ)) (w : WorldSeen) (event : Exp → EventSeen) (parts : List Object) (e : EventSeen) → ((t : Exp) → IsClosedTerm w t → Suits w (event t)) → evaluation_by names w event parts ≡ Ok e → Suits w e
evaluation_suits names w event parts e k h =
    found_ok code.BadEvent (one_of parts) _ e h (λ form p q.
    then_ok (closed_meant names w form) _ e q (λ t ht r.
    subst (Suits w) (same_given (event t) e r) (k t (closed_suits names w form t ht))))

pub defconst_suits : (names : List (List ℕ)) (w : WorldSeen) (parts : List Object) (e : EventSeen) → defconst_by names w parts ≡ Ok e → Suits w e
defconst_suits names w parts e h =
    found_ok code.BadEvent (option_and_then (constant_in names) (two_of parts)) _ e h (λ p hp k.
    holds_ok code.Redefined (not (is_taken names w p.name)) _ e k (λ new q.
    then_ok (closed_meant names w p.form) _ e q (λ t ht r.
    subst (Suits w) (same_given (Defconst p.name t) e r) (new_name names w p.name new, closed_suits names w p.form t ht))))

-- ---- memoized functions are definitions
place_below : (names : List ℕ) (name n : ℕ) → place_of names name ≡ Some n → n < length names
place_below [] name n e = absurd cc
place_below (x ∷ xs) name n e =
    let q : cond (eqb name x) (Some 0) (option_map suc (place_of xs name)) ≡ Some n = sym (place-cons x xs name) ∙ e in
    elim (eqb name x) as (λ b. cond b (Some 0) (option_map suc (place_of xs name)) ≡ Some n → n < suc (length xs)) [
      | true ↦ λ p. let z : 0 ≡ n = some_same 0 n p in omega arith
      | false ↦ λ p. map_some suc (place_of xs name) n p (λ k hk hn. let below = place_below xs name k hk in omega (arith, below, hn))
    ] q

function_below : (w : WorldSeen) (x : Object) (f : ℕ) → function_named w x ≡ Some f → f < length w.definitions
function_below w (Symbol t) f e = let h = place_below (definition_names w.definitions) t f e in omega (arith, h, length-map w.definitions (λ d. d.name))
function_below w (Int z) f e = absurd cc
function_below w (Character z) f e = absurd cc
function_below w (Text z) f e = absurd cc
function_below w (Cons a d) f e = absurd cc

pub memo_suits : (names : List (List ℕ)) (w : WorldSeen) (event : ℕ → EventSeen) (parts : List Object) (e : EventSeen) → ((f : ℕ) → f < length w.definitions → Suits w (event f)) → memo_by names w event parts ≡ Ok e → Suits w e
memo_suits names w event parts e k h =
    then_ok (function_in names w parts) _ e h (λ f hf r.
    found_ok code.BadEvent (quoted_part names parts) _ f hf (λ x hx q.
    found_ok (code.Term term_fault.UnknownFunction) (function_named w x) _ f q (λ g hg p.
    let same : g ≡ f = same_given g f p in
    subst (Suits w) (same_given (event f) e r) (k f (function_below w x f (hg ∙ ap Some same))))))

-- ---- definitions
abbrev measured_as : Option Measure → Result (Option Measure) ℕ
measured_as m = Ok m

ok_same : (a b : Option Measure) → measured_as a ≡ measured_as b → a ≡ b
ok_same a b h = cc

admits_by : (f : ℕ) (vs : List ℕ) (t : Exp) (stated m : Option Measure) (o : Option ℕ) → refused_alone f vs t None ≡ o → verdict f vs t stated ≡ Ok m → (name : ℕ) → IsAdmissible f (definition name vs t m ∷ [])
admits_by f vs t stated m None h e name = subst (λ (k : Option Measure). IsAdmissible f (definition name vs t k ∷ [])) (ok_same None m (sym (verdict_none f vs t stated h) ∙ e)) (none_refused f name vs t None h)
admits_by f vs t stated m (Some n) h e name = none_refused f name vs t m (measured_found (refused_alone f vs t) vs stated m (sym (verdict_measured f vs t stated n h) ∙ e)).0

admitted_ok : {X : Type 0} (d : Definition) (r : Result (Option Measure) ℕ) (e : EventSeen) → admitted d r ≡ Ok e → ((m : Option Measure) → r ≡ Ok m → Defun (record d { measure = m }) ≡ e → X) → X
admitted_ok d (Ok m) e h g = g m refl (same_given (Defun (record d { measure = m })) e h)
admitted_ok d (Err i) e h g = no_code (code.NotAdmitted i) e h

pub formals_differ : (o : Option (List ℕ)) (vs : List ℕ) → checked_formals o ≡ Some vs → AreDifferentNames vs
formals_differ (Some us) vs e =
    if_some (are_formals us) us vs e (λ h q.
    subst AreDifferentNames q (different_names us (and_true (are_different us) (leb (length us) 255) h (λ a b. a))))
formals_differ None vs e = none_some vs e

pub defun_suits : (names : List (List ℕ)) (w : WorldSeen) (parts : List Object) (e : EventSeen) → defun_meant names w parts ≡ Ok e → Suits w e
defun_suits names w parts e h =
    found_ok code.BadEvent (defun_parts names parts) _ e h (λ d hd h1.
    found_ok code.BadOption (stated_measure names d.formals d.before) _ e h1 (λ stated hs h2.
    holds_ok code.Redefined (not (is_taken names w d.name)) _ e h2 (λ new h3.
    found_ok (code.Term term_fault.BadUse) (formals_meant names d.formals) _ e h3 (λ vs hv h4.
    let own = (d.name, length vs) ∷ [] in
    let scope : Scope = record { vars = vs; every = false; own = own } in
    then_ok (body_meant names w own vs d.body) _ e h4 (λ t ht h5.
    let q = term_ok (translation names w scope d.body) t ht in
    admitted_ok (definition_made d.name vs t) (verdict (length w.definitions) vs t stated) e h5 (λ m hm r.
    subst (Suits w) r (record {
      name = new_name names w d.name new;
      formals = formals_differ (all_meant (plain_name names) d.formals) vs hv;
      body = meant_proper names w scope d.body t q (definition d.name vs t m ∷ []) refl;
      admissible = admits_by (length w.definitions) vs t stated m (refused_alone (length w.definitions) vs t None) refl hm d.name;
    })))))))

-- ---- theorems
any_turned : (v : ℕ) (vs : List ℕ) → list_any (λ u. eqb u v) vs ≡ list_any (eqb v) vs
any_turned v [] = refl
any_turned v (u ∷ us) = λ i. eqb_turned u v i || any_turned v us i

mutual
  pub only_free : (t : Exp) (bound : ℕ → Bool) (v : ℕ) → has_only bound t ≡ true → is_free_in t v ≡ true → bound v ≡ true
  only_free (Var u) bound v h f = ap bound (sym (eqb-true u v f)) ∙ h
  only_free (Const x) bound v h f = true_not_false f
  only_free (If t a b) bound v h f =
      and_true (has_only bound t) (has_only bound a && has_only bound b) h (λ ht hab.
      and_true (has_only bound a) (has_only bound b) hab (λ ha hb.
      or_true (is_free_in t v || is_free_in a v) (is_free_in b v) f
      (λ g. or_true (is_free_in t v) (is_free_in a v) g (only_free t bound v ht) (only_free a bound v ha))
      (only_free b bound v hb)))
  only_free (Prim p ts) bound v h f = only_free_in ts bound v h f
  only_free (Call g ts) bound v h f = only_free_in ts bound v h f
  only_free (Let vs ts b) bound v h f =
      and_true (have_only bound ts) (has_only (also_bound vs bound) b) h (λ hts hb.
      or_true (is_free_in_some ts v) (not (list_any (λ u. eqb u v) vs) && is_free_in b v) f
      (only_free_in ts bound v hts)
      (λ g. and_true (not (list_any (λ u. eqb u v) vs)) (is_free_in b v) g (λ n fb.
      sym (ap (λ z. z || bound v) (sym (any_turned v vs) ∙ not_turns (list_any (λ u. eqb u v) vs) n)) ∙ only_free b (also_bound vs bound) v hb fb)))

  pub only_free_in : (ts : Exps) (bound : ℕ → Bool) (v : ℕ) → have_only bound ts ≡ true → is_free_in_some ts v ≡ true → bound v ≡ true
  only_free_in Last bound v h f = true_not_false f
  only_free_in (More t ts) bound v h f =
      and_true (has_only bound t) (have_only bound ts) h (λ ht hts.
      or_true (is_free_in t v) (is_free_in_some ts v) f (only_free t bound v ht) (only_free_in ts bound v hts))

pub claim_term : (names : List (List ℕ)) (w : WorldSeen) (form : Object) (t : Exp) → claim_meant names w form ≡ Ok t → IsTermOf w.definitions t
claim_term names w form t e = term_of_world names w true form t (term_ok (translation names w (scope_with true) form) t e)

pub hyp_term : (names : List (List ℕ)) (w : WorldSeen) (o : Option Object) (t : Exp) → hyp_meant names w o ≡ Ok t → IsTermOf w.definitions t
hyp_term names w None t e = subst (IsTermOf w.definitions) (same_given (Const true_object) t e) tt
hyp_term names w (Some form) t e = claim_term names w form t e

bound_ok : {X : Type 0} (names : List (List ℕ)) (form : Object) (h c : Exp) (b : List (ℕ × ShapeSeen)) → bound_meant names form h c ≡ Ok b → (has_only (are_in (variables_of b)) h ≡ true → has_only (are_in (variables_of b)) c ≡ true → X) → X
bound_ok names form h c b e g =
    found_ok code.BadBindings (bindings_meant names form) _ b e (λ a ha q.
    holds_ok code.BadBindings (binds a h c) _ b q (λ t r.
    let t' : binds b h c ≡ true = subst (λ (z : List (ℕ × ShapeSeen)). binds z h c ≡ true) (same_given a b r) t in
    and_true (has_only (are_in (variables_of b)) h) (has_only (are_in (variables_of b)) c) t' g))

pub theorem_suits : (names : List (List ℕ)) (w : WorldSeen) (now : Mode) (memoized : List ℕ) (parts : List Object) (e : EventSeen) → theorem_by names w now memoized parts ≡ Ok e → Suits w e
theorem_suits names w now memoized parts e h =
    found_ok code.BadEvent (theorem_parts names parts) _ e h (λ p hp h1.
    found_ok code.BadOption (clocks_meant names option_texts p.options) _ e h1 (λ clocks hk h2.
    holds_ok code.Redefined (not (is_taken names w p.name)) _ e h2 (λ new h3.
    then_ok (hyp_meant names w p.hyp) _ e h3 (λ a ha h4.
    then_ok (claim_meant names w p.concl) _ e h4 (λ c hc h5.
    then_ok (bound_meant names p.bindings a c) _ e h5 (λ b hb r.
    bound_ok names p.bindings a c b hb (λ ba bc.
    subst (Suits w) (same_given (Theorem (theorem_made now memoized p.name clocks a c b)) e r) (record {
      name = new_name names w p.name new;
      hyp = hyp_term names w p.hyp a ha;
      concl = claim_term names w p.concl c hc;
      hyp_bound = λ v f. only_free a (are_in (variables_of b)) v ba f;
      concl_bound = λ v f. only_free c (are_in (variables_of b)) v bc f;
    }))))))))
