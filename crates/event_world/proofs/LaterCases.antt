-- What the form of a theorem by cases means in a later table of texts.
use Rattle.std.proofs.Common.{◌≡◌, ◌∙◌, ap, refl, ℕ, ◌<◌, cond, not, ◌||◌, List, [], ◌∷◌, length, Option, Some, None, arith}
use Rattle.std.specs.Prelude.{codes, Ok}
use Rattle.std.specs.Option.{option_map, option_and_then, IfSome}
use Rattle.gl_logic.specs.Every.{Every}
use Rattle.gl_logic.specs.Names.{number_of}
use Rattle.gl_logic.specs.Object.{Object, Cons, nil}
use Rattle.gl_logic.specs.WorldSeen.{WorldSeen}
use Rattle.gl_logic.specs.Wording.{elements, all_meant}
use Rattle.shape_spec.specs.BindingsMeant.{is_backquote}
use Rattle.shape_spec.specs.declared.theorem.Mode.{Mode}
use Rattle.shape_spec.specs.TheoremSeen.{plain_theorem}
use Rattle.gl_cases.specs.Parts.{ParamSeen, parts_made}
use Rattle.gl_cases.specs.ParamMade.{param_set}
use Rattle.event_world.specs.declared.fault.EventFault.TheVariants as code
use Rattle.event_world.specs.EventSeen.{EventSeen, Cases}
use Rattle.event_world.specs.Outcomes.{Outcome, and_then, found_or, holds_or}
use Rattle.event_world.specs.NamesMeant.{plain_name, is_taken}
use Rattle.event_world.specs.PartsOf.{two_in}
use Rattle.event_world.specs.KeywordTexts.{case_texts}
use Rattle.event_world.specs.Keywords.{pairs_of, value_of}
use Rattle.event_world.specs.TheoremMeant.{clocks_meant}
use Rattle.event_world.specs.CasesForms.{CasesParts, with_forms, forms_in, named_forms, cases_parts, is_kept, if_kept, quoted_cases, cases_claimed, param_by}
use Rattle.event_world.specs.CasesMeant.{CaseParts, QuotedCases, constant_of, constant_meant, if_apart, constants_meant, case_of, case_meant, are_cases, if_cases, is_quoting, cases_of, case_bound, param_bound}
use Rattle.event_world.proofs.LaterTexts.{map_has, then_has, then_same, cond_has, all_meant_same, all_meant_has, Known, IsKnown, later, spells_same, elements_known, two_in_known, plain_same, plain_known, taken_same, PairKnown, pairs_same, pairs_known, value_same, value_known}
use Rattle.event_world.proofs.LaterShapes.{bindings_same}
use Rattle.event_world.proofs.LaterTheorems.{found_same, anything, clocks_same, claim_same, hyp_same}

-- a table that has a text is not empty
has_texts : (name : List ℕ) (names : List (List ℕ)) (n : ℕ) → number_of name names ≡ Some n → 0 < length names
has_texts name [] n h = absurd cc
has_texts name (t ∷ ts) n h = omega arith

module _ (names more : List (List ℕ)) (n : ℕ) (unnamed : number_of [] names ≡ Some n) (w : WorldSeen) where
  abbrev Here : Object → Type 0
  Here = Known names more

  abbrev Two : Object × Object → Type 0
  Two p = Here p.0 × Here p.1

  abbrev new : List (List ℕ)
  new = later names more

  abbrev Pair : ℕ × Object → Type 0
  Pair = PairKnown names more

  -- ---- the forms and the options
  record PartsKnown (p : CasesParts) : Type 0 where
    name : IsKnown names more p.name
    hyp : IfSome p.hyp Here
    concl : Here p.concl
    term : Here p.term
    cases : Here p.cases
    cover : Here p.cover
    options : Every Pair p.options

  forms_same : (t : ℕ) (ps : List (ℕ × Object)) → Every Pair ps → forms_in new t ps ≡ forms_in names t ps
  forms_same t ps h =
      λ i. with_forms t (value_same names more (codes ":HYP") ps h i) ps (value_same names more (codes ":CONCL") ps h i) (value_same names more (codes ":PARAM-HYP") ps h i)
      (value_same names more (codes ":PARAM-BINDINGS") ps h i) (value_same names more (codes ":COV-BINDINGS") ps h i)

  forms_known : (t : ℕ) (o : Option Object) (ps : List (ℕ × Object)) (c p q b : Option Object) → IsKnown names more t → IfSome o Here → Every Pair ps
      → IfSome c Here → IfSome p Here → IfSome q Here → IfSome b Here → IfSome (with_forms t o ps c p q b) PartsKnown
  forms_known t o ps None p q b ht ho hs hc hp hq hb = tt
  forms_known t o ps (Some c) None q b ht ho hs hc hp hq hb = tt
  forms_known t o ps (Some c) (Some p) None b ht ho hs hc hp hq hb = tt
  forms_known t o ps (Some c) (Some p) (Some q) None ht ho hs hc hp hq hb = tt
  forms_known t o ps (Some c) (Some p) (Some q) (Some b) ht ho hs hc hp hq hb = record { name = ht; hyp = ho; concl = hc; term = hp; cases = hq; cover = hb; options = hs }

  named_same : (o : Option ℕ) (p : Option (List (ℕ × Object))) → IfSome p (Every Pair) → named_forms new o p ≡ named_forms names o p
  named_same None None h = refl
  named_same None (Some ps) h = refl
  named_same (Some t) None h = refl
  named_same (Some t) (Some ps) h = forms_same t ps h

  named_known : (o : Option ℕ) (p : Option (List (ℕ × Object))) → IfSome o (IsKnown names more) → IfSome p (Every Pair) → IfSome (named_forms names o p) PartsKnown
  named_known None None l h = tt
  named_known None (Some ps) l h = tt
  named_known (Some t) None l h = tt
  named_known (Some t) (Some ps) l h =
      forms_known t (value_of names (codes ":HYP") ps) ps (value_of names (codes ":CONCL") ps) (value_of names (codes ":PARAM-HYP") ps) (value_of names (codes ":PARAM-BINDINGS") ps) (value_of names (codes ":COV-BINDINGS") ps) l
      (value_known names more (codes ":HYP") ps h) h (value_known names more (codes ":CONCL") ps h) (value_known names more (codes ":PARAM-HYP") ps h)
      (value_known names more (codes ":PARAM-BINDINGS") ps h) (value_known names more (codes ":COV-BINDINGS") ps h)

  parts_same : (xs : List Object) → Every Here xs → cases_parts new xs ≡ cases_parts names xs
  parts_same [] h = refl
  parts_same (a ∷ behind) h = (λ i. named_forms new (plain_same names more a h.0 i) (pairs_same names more behind h.1 i)) ∙ named_same (plain_name names a) (pairs_of names behind) (pairs_known names more behind h.1)

  parts_known : (xs : List Object) → Every Here xs → IfSome (cases_parts names xs) PartsKnown
  parts_known [] h = tt
  parts_known (a ∷ behind) h = named_known (plain_name names a) (pairs_of names behind) (plain_known names more a h.0) (pairs_known names more behind h.1)

  -- ---- the cases
  constant_same : (x : Object) → Here x → constant_meant new x ≡ constant_meant names x
  constant_same x h = then_same Two (constant_of new) (constant_of names) (two_in x) (two_in_known names more x h) (λ p k. ap (option_map (λ v. (v, p.1))) (plain_same names more p.0 k.0))

  constants_same : (x : Object) → Here x → constants_meant new x ≡ constants_meant names x
  constants_same x h =
      ap (option_and_then if_apart) (then_same (Every Here) (all_meant (constant_meant new)) (all_meant (constant_meant names)) (elements x) (elements_known names more x h)
      (λ xs k. all_meant_same Here (constant_meant new) (constant_meant names) xs k constant_same))

  case_same : (x : Object) → Here x → case_meant new x ≡ case_meant names x
  case_same x h = then_same Two (case_of new) (case_of names) (two_in x) (two_in_known names more x h) (λ p k. ap (option_map (λ ks. record { constants = ks; bindings = p.1 })) (constants_same p.0 k.0))

  abbrev CaseKnown : CaseParts → Type 0
  CaseKnown c = Here c.bindings

  case_known : (x : Object) → Here x → IfSome (case_meant names x) CaseKnown
  case_known x h =
      then_has Two CaseKnown (case_of names) (two_in x) (two_in_known names more x h)
      (λ p k. map_has (λ ks. Unit {0}) CaseKnown (λ ks. record { constants = ks; bindings = p.1 }) (constants_meant names p.0) (anything (constants_meant names p.0)) (λ ks z. k.1))

  abbrev listed : List (List ℕ) → Object → Option (List CaseParts)
  listed table x = option_and_then if_cases (option_and_then (all_meant (case_meant table)) (elements x))

  listed_same : (x : Object) → Here x → listed new x ≡ listed names x
  listed_same x h =
      ap (option_and_then if_cases) (then_same (Every Here) (all_meant (case_meant new)) (all_meant (case_meant names)) (elements x) (elements_known names more x h)
      (λ xs k. all_meant_same Here (case_meant new) (case_meant names) xs k case_same))

  listed_known : (x : Object) → Here x → IfSome (listed names x) (Every CaseKnown)
  listed_known x h =
      then_has (Every CaseKnown) (Every CaseKnown) if_cases (option_and_then (all_meant (case_meant names)) (elements x))
      (then_has (Every Here) (Every CaseKnown) (all_meant (case_meant names)) (elements x) (elements_known names more x h) (λ xs k. all_meant_has Here CaseKnown (case_meant names) xs k case_known))
      (λ cs k. cond_has (Every CaseKnown) (are_cases cs) (Some cs) None k tt)

  record QuotedKnown (q : QuotedCases) : Type 0 where
    mark : Here q.mark
    cases : Every CaseKnown q.cases

  cases_of_same : (p : Object × Object) → Two p → cases_of new p ≡ cases_of names p
  cases_of_same p h = λ i. cond (is_backquote p.0 || spells_same names more (codes "QUOTE") p.0 h.0 i) (option_map (λ cs. record { mark = p.0; cases = cs }) (listed_same p.1 h.1 i)) None

  cases_of_known : (p : Object × Object) → Two p → IfSome (cases_of names p) QuotedKnown
  cases_of_known p h =
      cond_has QuotedKnown (is_quoting names p.0) (option_map (λ cs. record { mark = p.0; cases = cs }) (listed names p.1)) None
      (map_has (Every CaseKnown) QuotedKnown (λ cs. record { mark = p.0; cases = cs }) (listed names p.1) (listed_known p.1 h.1) (λ cs k. record { mark = h.0; cases = k })) tt

  quoted_same : (p : CasesParts) → PartsKnown p → quoted_cases new p ≡ quoted_cases names p
  quoted_same p k = ap (option_and_then (if_kept p)) (then_same Two (cases_of new) (cases_of names) (two_in p.cases) (two_in_known names more p.cases k.cases) cases_of_same)

  quoted_known : (p : CasesParts) → PartsKnown p → IfSome (quoted_cases names p) QuotedKnown
  quoted_known p k =
      then_has QuotedKnown QuotedKnown (if_kept p) (option_and_then (cases_of names) (two_in p.cases))
      (then_has Two QuotedKnown (cases_of names) (two_in p.cases) (two_in_known names more p.cases k.cases) cases_of_known)
      (λ q z. cond_has QuotedKnown (is_kept p q.cases) (Some q) None z tt)

  -- ---- the bindings, and the whole
  case_bound_same : (mark : Object) → Here mark → (c : CaseParts) → CaseKnown c → case_bound new mark c ≡ case_bound names mark c
  case_bound_same mark h c k = ap (option_map (λ b. record { constants = c.constants; bindings = b })) (bindings_same names more (Cons mark (Cons c.bindings nil)) (h, (k, has_texts [] names n unnamed)))

  claimed_same : (p : CasesParts) (q : QuotedCases) → PartsKnown p → QuotedKnown q → cases_claimed new w p q ≡ cases_claimed names w p q
  claimed_same p q k z =
      let hs = hyp_same names more n unnamed w p.hyp k.hyp in
      let cs = claim_same names more n unnamed w p.concl k.concl in
      let ts = claim_same names more n unnamed w p.term k.term in
      let bs = bindings_same names more p.cover k.cover in
      let all = all_meant_same CaseKnown (case_bound new q.mark) (case_bound names q.mark) q.cases z.cases (case_bound_same q.mark z.mark) in
      λ i. and_then (hs i) (λ h. and_then (cs i) (λ c. and_then (ts i) (λ t. found_or code.BadBindings (bs i) (λ b. found_or code.BadBindings (all i) (λ cases.
      param_bound (parts_made (plain_theorem p.name h c) t b cases))))))

  abbrev set_with : Mode → List ℕ → ℕ × ℕ → Outcome ParamSeen → Outcome EventSeen
  set_with now memoized clocks o = and_then o (λ thm. Ok (Cases (param_set clocks.0 clocks.1 now memoized thm)))

  pub param_same : (now : Mode) (memoized : List ℕ) (xs : List Object) → Every Here xs → param_by new w now memoized xs ≡ param_by names w now memoized xs
  param_same now memoized xs h =
      ap (λ o. found_or code.BadEvent o (λ p. found_or code.BadOption (clocks_meant new case_texts p.options) (λ clocks. found_or code.BadCases (quoted_cases new p) (λ q. holds_or code.Redefined (not (is_taken new w p.name)) (set_with now memoized clocks (cases_claimed new w p q)))))) (parts_same xs h)
      ∙ found_same PartsKnown code.BadEvent (cases_parts names xs) _ _ (parts_known xs h) (λ p k.
      (λ i. found_or code.BadOption (clocks_same names more n unnamed w case_texts p.options k.options i) (λ clocks. found_or code.BadCases (quoted_same p k i) (λ q. holds_or code.Redefined (not (taken_same names more w p.name k.name i)) (set_with now memoized clocks (cases_claimed new w p q)))))
      ∙ ap (found_or code.BadOption (clocks_meant names case_texts p.options)) (λ i clocks.
      found_same QuotedKnown code.BadCases (quoted_cases names p) _ _ (quoted_known p k) (λ q z. ap (λ o. holds_or code.Redefined (not (is_taken names w p.name)) (set_with now memoized clocks o)) (claimed_same p q k z)) i))
