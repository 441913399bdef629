-- What a form means can be answered at its place.
use Rattle.std.proofs.Common.{◌≡◌, ◌∙◌, ◌<◌, refl, sym, subst, ℕ, Bool, not, ◌||◌, eqb, List, [], ◌∷◌, length, map, Option, Some, None}
use Rattle.std.specs.Prelude.{Result, Ok, Err}
use Rattle.std.specs.List.{All, list_any}
use Rattle.std.specs.Option.{option_and_then}
use Rattle.gl_logic.specs.Object.{Object}
use Rattle.gl_logic.specs.Exp.{Exp}
use Rattle.gl_logic.specs.Definition.{Definition}
use Rattle.gl_logic.specs.Every.{Every}
use Rattle.gl_logic.specs.WorldSeen.{WorldSeen}
use Rattle.gl_logic.specs.declared.def.Measure.{Measure}
use Rattle.gl_translate.specs.declared.fault.TermFault.TheVariants as term_fault
use Rattle.admission.specs.Admitted.{verdict, settled}
use Rattle.gl_logic.specs.Wording.{elements, all_meant}
use Rattle.shape_spec.specs.declared.theorem.Mode.{Mode}
use Rattle.shape_spec.specs.declared.theorem.Mode.TheVariants as mode
use Rattle.event_world.specs.declared.fault.EventFault.TheVariants as code
use Rattle.event_world.specs.declared.word.EventWord.{EventWord}
use Rattle.event_world.specs.declared.word.EventWord.TheVariants as word
use Rattle.event_world.specs.EventSeen.{TheoremSeen, EventSeen, Nothing, Redundant, RedundantClique, SetMode, Memoize, Unmemoize, Value, Assert, Defun, Defconst, Theorem, Cases, Clique}
use Rattle.event_world.specs.Outcomes.{Outcome, found_or, holds_or}
use Rattle.event_world.specs.EventForms.{word_in, redundant_by, checked, event_by}
use Rattle.event_world.specs.EventWords.{behind_head}
use Rattle.event_world.specs.PartsOf.{is_empty, one_of, two_of, three_of}
use Rattle.event_world.specs.NamesMeant.{is_taken}
use Rattle.event_world.specs.Declares.{stated_measure}
use Rattle.event_world.specs.PlainForms.{is_package, is_book, evaluation_by, function_in, memo_by, constant_in, defconst_by}
use Rattle.event_world.specs.PlainMeant.{closed_meant}
use Rattle.event_world.specs.DefunMeant.{defun_parts, formals_meant, body_meant, admitted, definition_made, defun_meant}
use Rattle.event_world.specs.CliqueForms.{clique_parts, all_stated, are_new, all_made, clique_made, clique_by}
use Rattle.event_world.specs.CliqueMeant.{owns_of, members_meant, with_settled, clique_admitted, clique_judged}
use Rattle.admission.specs.Refused.{first_refused}
use Rattle.event_world.specs.TheoremForms.{theorem_parts, theorem_by}
use Rattle.event_world.specs.TheoremMeant.{clocks_meant, claim_meant, hyp_meant, bound_meant, theorem_made}
use Rattle.shape_spec.specs.TheoremSeen.{set_by}
use Rattle.gl_cases.specs.ParamMade.{param_set}
use Rattle.event_world.specs.KeywordTexts.{case_texts, option_texts}
use Rattle.event_world.specs.CasesForms.{cases_parts, quoted_cases, cases_claimed, param_by}
use Rattle.event_world.specs.RedundantMeant.{repeated_name, repeated_member, are_repeated, checked_repeated, redundant}
use Rattle.event_world.specs.EventMeant.{unless_redundant, event_meant}
use Rattle.event_world.specs.Suits.{Suits, IsNewTheorem}
use Rattle.event_world.proofs.Inversions.{given, same_given, no_code, found_ok, holds_ok, then_ok, none_some, map_some, if_some, or_true}
use Rattle.event_world.proofs.SuitedEvents.{event_suits}
use Rattle.event_world.proofs.EventTables.{event_is}
use Rattle.gl_logic.specs.FreeVariables.{is_free_in}
use Rattle.admission.proofs.Arguments.{eqb_turned}
use Rattle.shape_spec.specs.Indices.{variables_of}
use Rattle.coverage.specs.Sound.{AllAreBound}
use Rattle.book_state.specs.Answerable.{IsOfDefinitions, IsReadyTheorem, IsAnswerable}

abbrev IsKeptBy : List ℕ → TheoremSeen → Type 0
IsKeptBy memoized thm = thm.memoized ≡ memoized

-- its calls are kept of the functions that are kept at its place
abbrev pub HasPlace : List ℕ → EventSeen → Type 0
HasPlace memoized (Theorem thm) = IsKeptBy memoized thm
HasPlace memoized (Cases thm) = IsKeptBy memoized thm.cover × Every (IsKeptBy memoized) thm.cases
HasPlace memoized _ = Unit {0}

module _ (memoized : List ℕ) where
  placed_at : (event e : EventSeen) → HasPlace memoized event → given event ≡ Ok e → HasPlace memoized e
  placed_at event e p q = subst (HasPlace memoized) (same_given event e q) p

  plain_place : (t : Bool) (event e : EventSeen) → HasPlace memoized event → holds_or code.BadEvent t (Ok event) ≡ Ok e → HasPlace memoized e
  plain_place t event e p h = holds_ok code.BadEvent t (given event) e h (λ z q. placed_at event e p q)

  module _ (names : List (List ℕ)) (w : WorldSeen) where
    evaluation_place : (event : Exp → EventSeen) (parts : List Object) (e : EventSeen) → ((t : Exp) → HasPlace memoized (event t)) → evaluation_by names w event parts ≡ Ok e → HasPlace memoized e
    evaluation_place event parts e p h =
        found_ok code.BadEvent (one_of parts) _ e h (λ form hf q.
        then_ok (closed_meant names w form) _ e q (λ t ht r. placed_at (event t) e (p t) r))

    memo_place : (event : ℕ → EventSeen) (parts : List Object) (e : EventSeen) → ((f : ℕ) → HasPlace memoized (event f)) → memo_by names w event parts ≡ Ok e → HasPlace memoized e
    memo_place event parts e p h = then_ok (function_in names w parts) _ e h (λ f hf r. placed_at (event f) e (p f) r)

    defconst_place : (parts : List Object) (e : EventSeen) → defconst_by names w parts ≡ Ok e → HasPlace memoized e
    defconst_place parts e h =
        found_ok code.BadEvent (option_and_then (constant_in names) (two_of parts)) _ e h (λ p hp k.
        holds_ok code.Redefined (not (is_taken names w p.name)) _ e k (λ new q.
        then_ok (closed_meant names w p.form) _ e q (λ t ht r. placed_at (Defconst p.name t) e tt r)))

    admitted_place : (d : Definition) (r : Result (Option Measure) ℕ) (e : EventSeen) → admitted d r ≡ Ok e → HasPlace memoized e
    admitted_place d (Ok m) e h = placed_at (Defun (record d { measure = m })) e tt h
    admitted_place d (Err i) e h = no_code (code.NotAdmitted i) e h

    defun_place : (parts : List Object) (e : EventSeen) → defun_meant names w parts ≡ Ok e → HasPlace memoized e
    defun_place parts e h =
        found_ok code.BadEvent (defun_parts names parts) _ e h (λ d hd h1.
        found_ok code.BadOption (stated_measure names d.formals d.before) _ e h1 (λ stated hs h2.
        holds_ok code.Redefined (not (is_taken names w d.name)) _ e h2 (λ new h3.
        found_ok (code.Term term_fault.BadUse) (formals_meant names d.formals) _ e h3 (λ vs hv h4.
        then_ok (body_meant names w ((d.name, length vs) ∷ []) vs d.body) _ e h4 (λ t ht h5.
        admitted_place (definition_made d.name vs t) (verdict (length w.definitions) vs t stated) e h5)))))

    settled_place : (first : ℕ) (ds : List Definition) (o : Option ℕ) (e : EventSeen) → clique_admitted first ds o ≡ Ok e → HasPlace memoized e
    settled_place first ds None e h = placed_at (Clique (with_settled first ds)) e tt h
    settled_place first ds (Some i) e h = no_code (code.NotAdmitted i) e h

    clique_place : (parts : List Object) (e : EventSeen) → clique_by names w parts ≡ Ok e → HasPlace memoized e
    clique_place parts e h =
        found_ok code.BadEvent (clique_parts names parts) (clique_made names w) e h (λ ps hps h1.
        found_ok code.BadOption (all_stated names ps) _ e h1 (λ ss hss h2.
        holds_ok code.Redefined (are_new names w ss) _ e h2 (λ new h3.
        found_ok (code.Term term_fault.BadUse) (all_made names ss) _ e h3 (λ ms hms h4.
        then_ok (members_meant names w (owns_of ms) ms) (clique_judged w) e h4 (λ ds hds h5.
        settled_place (length w.definitions) ds (first_refused (length w.definitions) (map settled ds)) e h5)))))

    theorem_place : (now : Mode) (parts : List Object) (e : EventSeen) → theorem_by names w now memoized parts ≡ Ok e → HasPlace memoized e
    theorem_place now parts e h =
        found_ok code.BadEvent (theorem_parts names parts) _ e h (λ p hp h1.
        found_ok code.BadOption (clocks_meant names option_texts p.options) _ e h1 (λ clocks hk h2.
        holds_ok code.Redefined (not (is_taken names w p.name)) _ e h2 (λ new h3.
        then_ok (hyp_meant names w p.hyp) _ e h3 (λ a ha h4.
        then_ok (claim_meant names w p.concl) _ e h4 (λ c hc h5.
        then_ok (bound_meant names p.bindings a c) _ e h5 (λ b hb r.
        placed_at (Theorem (theorem_made now memoized p.name clocks a c b)) e refl r))))))

    param_place : (now : Mode) (parts : List Object) (e : EventSeen) → param_by names w now memoized parts ≡ Ok e → HasPlace memoized e
    param_place now parts e h =
        found_ok code.BadEvent (cases_parts names parts) _ e h (λ p hp h1.
        found_ok code.BadOption (clocks_meant names case_texts p.options) _ e h1 (λ clocks hk h2.
        found_ok code.BadCases (quoted_cases names p) _ e h2 (λ q hq h3.
        holds_ok code.Redefined (not (is_taken names w p.name)) _ e h3 (λ new h4.
        then_ok (cases_claimed names w p q) _ e h4 (λ thm ht r.
        placed_at (Cases (param_set clocks.0 clocks.1 now memoized thm)) e (refl, all_set clocks.0 clocks.1 now thm.cases) r)))))
      where
        all_set : (h c : ℕ) (m : Mode) (thms : List TheoremSeen) → Every (IsKeptBy memoized) (map (set_by h c m memoized) thms)
        all_set h c m [] = tt
        all_set h c m (thm ∷ thms) = (refl, all_set h c m thms)

    checked_place : (now : Mode) (k : EventWord) (xs : List Object) (e : EventSeen) → checked names w now memoized k xs ≡ Ok e → HasPlace memoized e
    checked_place now word.InPackage xs e h = plain_place (is_package names (one_of xs)) Nothing e tt h
    checked_place now word.IncludeBook xs e h = plain_place (is_book names (three_of xs)) Nothing e tt h
    checked_place now word.Defun xs e h = defun_place xs e h
    checked_place now word.MutualRecursion xs e h = clique_place xs e h
    checked_place now word.Defconst xs e h = defconst_place xs e h
    checked_place now word.ValueTriple xs e h = evaluation_place Value xs e (λ t. tt) h
    checked_place now word.AssertEvent xs e h = evaluation_place Assert xs e (λ t. tt) h
    checked_place now word.Memoize xs e h = memo_place Memoize xs e (λ f. tt) h
    checked_place now word.Unmemoize xs e h = memo_place Unmemoize xs e (λ f. tt) h
    checked_place now word.BddMode xs e h = plain_place (is_empty xs) (SetMode mode.Bdd) e tt h
    checked_place now word.SatMode xs e h = plain_place (is_empty xs) (SetMode mode.Sat) e tt h
    checked_place now word.ParamMode xs e h = plain_place (is_empty xs) (SetMode mode.Param) e tt h
    checked_place now word.Theorem xs e h = theorem_place now xs e h
    checked_place now word.ParamTheorem xs e h = param_place now xs e h

    -- ---- redundant events
    repeated_place : (form : Object) (e : EventSeen) → redundant w form ≡ Some e → HasPlace memoized e
    repeated_place form e h = map_some Redundant (repeated_name w form) e h (λ n hn q. subst (HasPlace memoized) q tt)

    members_place : (o : Option (List ℕ)) (e : EventSeen) → checked_repeated o ≡ Some e → HasPlace memoized e
    members_place None e h = none_some e h
    members_place (Some ns) e h = if_some (are_repeated ns) (RedundantClique ns) e h (λ t q. subst (HasPlace memoized) q tt)

    redundant_place : (k : EventWord) (form : Object) (o : Option (List Object)) (e : EventSeen) → redundant_by names w k form o ≡ Some e → HasPlace memoized e
    redundant_place word.InPackage form o e h = none_some e h
    redundant_place word.IncludeBook form o e h = none_some e h
    redundant_place word.Defun form o e h = repeated_place form e h
    redundant_place word.MutualRecursion form o e h = members_place (option_and_then (all_meant (repeated_member names w)) o) e h
    redundant_place word.Defconst form o e h = repeated_place form e h
    redundant_place word.ValueTriple form o e h = none_some e h
    redundant_place word.AssertEvent form o e h = none_some e h
    redundant_place word.Memoize form o e h = none_some e h
    redundant_place word.Unmemoize form o e h = none_some e h
    redundant_place word.BddMode form o e h = none_some e h
    redundant_place word.SatMode form o e h = none_some e h
    redundant_place word.ParamMode form o e h = none_some e h
    redundant_place word.Theorem form o e h = repeated_place form e h
    redundant_place word.ParamTheorem form o e h = repeated_place form e h

    unless_place : (o : Option EventSeen) (further : Outcome EventSeen) (e : EventSeen) → ((r : EventSeen) → o ≡ Some r → HasPlace memoized r) → (further ≡ Ok e → HasPlace memoized e) → unless_redundant o further ≡ Ok e → HasPlace memoized e
    unless_place (Some r) further e f g h = placed_at r e (f r refl) h
    unless_place None further e f g h = g h

    pub meant_place : (now : Mode) (form : Object) (e : EventSeen) → event_by names w now memoized form ≡ Ok e → HasPlace memoized e
    meant_place now form e h =
        let parts = elements (behind_head form) in
        found_ok code.UnknownEvent (word_in names form) _ e h (λ k hk q.
        unless_place (redundant_by names w k form parts) (found_or code.BadEvent parts (checked names w now memoized k)) e
        (λ r hr. redundant_place k form parts r hr)
        (λ z. found_ok code.BadEvent parts (checked names w now memoized k) e z (λ xs hxs y. checked_place now k xs e y)) q)

-- ---- events that can be answered
any_turned : (v : ℕ) (vs : List ℕ) → list_any (λ u. eqb u v) vs ≡ list_any (eqb v) vs
any_turned v [] = refl
any_turned v (u ∷ us) = λ i. eqb_turned u v i || any_turned v us i

all_bound : (w : WorldSeen) (thm : TheoremSeen) → IsNewTheorem w thm → AllAreBound thm.hyp thm.concl thm.bindings
all_bound w thm h = λ v free. any_turned v (variables_of thm.bindings) ∙ or_true (is_free_in thm.hyp v) (is_free_in thm.concl v) free (h.hyp_bound v) (h.concl_bound v)

ready_theorem : (w : WorldSeen) (memoized : List ℕ) (thm : TheoremSeen) → All (λ f. f < length w.definitions) memoized → IsNewTheorem w thm → IsKeptBy memoized thm → IsReadyTheorem w.definitions thm
ready_theorem w memoized thm fs s p = record {
  hyp = s.hyp;
  concl = s.concl;
  functions = subst (λ (ms : List ℕ). All (λ f. f < length w.definitions) ms) (sym p) fs;
  bound = all_bound w thm s;
}

all_ready : (w : WorldSeen) (memoized : List ℕ) (thms : List TheoremSeen) → All (λ f. f < length w.definitions) memoized → Every (IsNewTheorem w) thms → Every (IsKeptBy memoized) thms → Every (IsReadyTheorem w.definitions) thms
all_ready w memoized [] fs s p = tt
all_ready w memoized (thm ∷ thms) fs s p = (ready_theorem w memoized thm fs s.0 p.0, all_ready w memoized thms fs s.1 p.1)

of_definitions : (w : WorldSeen) (memoized : List ℕ) (e : EventSeen) → All (λ f. f < length w.definitions) memoized → Suits w e → HasPlace memoized e → IsOfDefinitions w.definitions e
of_definitions w memoized Nothing fs s p = tt
of_definitions w memoized (Redundant name) fs s p = tt
of_definitions w memoized (Defun d) fs s p = tt
of_definitions w memoized (Defconst name t) fs s p = s.1.term
of_definitions w memoized (Value t) fs s p = s.term
of_definitions w memoized (Assert t) fs s p = s.term
of_definitions w memoized (Memoize f) fs s p = s
of_definitions w memoized (Unmemoize f) fs s p = s
of_definitions w memoized (SetMode m) fs s p = tt
of_definitions w memoized (Theorem thm) fs s p = ready_theorem w memoized thm fs s p
of_definitions w memoized (Cases thm) fs s p = record { cover = ready_theorem w memoized thm.cover fs s.cover p.0; cases = all_ready w memoized thm.cases fs s.cases p.1; parts = s.parts; few = s.few }
of_definitions w memoized (Clique ds) fs s p = tt
of_definitions w memoized (RedundantClique ns) fs s p = tt

pub answerable : (names : List (List ℕ)) (w : WorldSeen) (now : Mode) (memoized : List ℕ) (form : Object) (e : EventSeen) → All (λ f. f < length w.definitions) memoized → event_meant names w now memoized form ≡ Ok e → IsAnswerable w.definitions memoized e
answerable names w now memoized form e fs h = record { functions = fs; event = of_definitions w memoized e fs (event_suits names w now memoized form e h) (meant_place memoized names w now form e (sym (event_is names w now memoized form) ∙ h)) }
