-- Theorems by cases.
use Rattle.std.specs.Prelude.{ℕ, Bool, false, ◌&&◌, ◌||◌, not, eqb, leb, if◌then◌else◌, List, [], ◌∷◌, ◌++◌, length, map, bytes_eq, codes, Option, Some, None, option_to_list, Ok, Err}
use Rattle.std.specs.List.{list_any, list_all}
use Rattle.std.specs.Option.{option_map, option_and_then}
use Rattle.gl_logic.specs.Object.{Object, Symbol, Cons, nil}
use Rattle.gl_logic.specs.Exp.{Exp}
use Rattle.gl_logic.specs.WorldSeen.{WorldSeen}
use Rattle.gl_logic.specs.Wording.{spells, elements, all_meant}
use Rattle.shape_spec.specs.BindingsMeant.{bindings_meant, is_backquote}
use Rattle.gl_logic.specs.NameSets.{are_different}
use Rattle.shape_spec.specs.declared.theorem.Mode.{Mode}
use Rattle.shape_spec.specs.ShapeSeen.{ShapeSeen}
use Rattle.shape_spec.specs.TheoremSeen.{TheoremSeen, plain_theorem}
use Rattle.gl_cases.specs.Parts.{CaseSeen, ParamSeen, parts_made}
use Rattle.gl_cases.specs.ParamMade.{param_set}
use Rattle.event_world.specs.declared.fault.EventFault.TheVariants as code
use Rattle.event_world.specs.Outcomes.{Outcome, and_then, found_or, holds_or}
use Rattle.event_world.specs.EventSeen.{EventSeen, Cases}
use Rattle.event_world.specs.NamesMeant.{plain_name, is_taken}
use Rattle.event_world.specs.PartsOf.{two_in}
use Rattle.event_world.specs.KeywordTexts.{case_texts}
use Rattle.event_world.specs.Keywords.{pairs_of, value_of}
use Rattle.event_world.specs.TheoremMeant.{clocks_meant, claim_meant, hyp_meant, binds}

-- ---- after check 4, V13: the cases. Each has the object of each parameter and the form of its bindings
pub record CaseParts : Type 0 where
  pub constants : List (ℕ × Object)
  pub bindings : Object

pub record QuotedCases : Type 0 where
  pub mark : Object
  pub cases : List CaseParts

-- (v k), with a legal variable
abbrev pub constant_of : List (List ℕ) → Object × Object → Option (ℕ × Object)
constant_of names p = option_map (λ v. (v, p.1)) (plain_name names p.0)

abbrev pub constant_meant : List (List ℕ) → Object → Option (ℕ × Object)
constant_meant names x = option_and_then (constant_of names) (two_in x)

-- no variable twice
abbrev pub if_apart : List (ℕ × Object) → Option (List (ℕ × Object))
if_apart ks = if are_different (map (λ k. k.0) ks) then Some ks else None

abbrev pub constants_meant : List (List ℕ) → Object → Option (List (ℕ × Object))
constants_meant names x = option_and_then if_apart (option_and_then (all_meant (constant_meant names)) (elements x))

-- (((v k) ..) b)
abbrev pub case_of : List (List ℕ) → Object × Object → Option CaseParts
case_of names p = option_map (λ ks. record { constants = ks; bindings = p.1 }) (constants_meant names p.0)

abbrev pub case_meant : List (List ℕ) → Object → Option CaseParts
case_meant names x = option_and_then (case_of names) (two_in x)

-- 1 to 64 of them, with the same variables in the same order
abbrev pub variables_of_case : CaseParts → List ℕ
variables_of_case c = map (λ k. k.0) c.constants

abbrev pub parameters : List CaseParts → List ℕ
parameters [] = []
parameters (c ∷ cs) = variables_of_case c

abbrev pub are_cases : List CaseParts → Bool
are_cases cs = (leb 1 (length cs) && leb (length cs) 64) && list_all (λ c. bytes_eq (variables_of_case c) (parameters cs)) cs

abbrev pub if_cases : List CaseParts → Option (List CaseParts)
if_cases cs = if are_cases cs then Some cs else None

-- '(case ..) or `(case ..), whose mark is kept for the bindings
abbrev pub is_quoting : List (List ℕ) → Object → Bool
is_quoting names k = is_backquote k || spells names (codes "QUOTE") k

abbrev pub cases_of : List (List ℕ) → Object × Object → Option QuotedCases
cases_of names p =
    if is_quoting names p.0 then option_map (λ cs. record { mark = p.0; cases = cs }) (option_and_then if_cases (option_and_then (all_meant (case_meant names)) (elements p.1))) else None

-- a symbol of these stands somewhere in it, quoted or not
abbrev pub has_any : List ℕ → Object → Bool
has_any vs (Symbol t) = list_any (eqb t) vs
has_any vs (Cons a d) = has_any vs a || has_any vs d
has_any vs _ = false

-- the parameters stand in none of these forms, and not in the bindings of the cases
abbrev pub are_kept : List Object → List CaseParts → Bool
are_kept forms cs = list_all (λ x. not (has_any (parameters cs) x)) (forms ++ map (λ c. c.bindings) cs)

-- ---- check 8, V10: the bindings of the cover, then those of each case, and each free variable of a part is bound by its own
abbrev pub case_bound : List (List ℕ) → Object → CaseParts → Option CaseSeen
case_bound names mark c = option_map (λ b. record { constants = c.constants; bindings = b }) (bindings_meant names (Cons mark (Cons c.bindings nil)))

abbrev pub binds_its_own : TheoremSeen → Bool
binds_its_own thm = binds thm.bindings thm.hyp thm.concl

abbrev pub are_bound : ParamSeen → Bool
are_bound thm = binds_its_own thm.cover && list_all binds_its_own thm.cases

abbrev pub param_bound : ParamSeen → Outcome ParamSeen
param_bound thm = holds_or code.BadBindings (are_bound thm) (Ok thm)

-- ---- checks 7 and 8, with the settings that a command has where it says nothing
-- a theorem of these parts, where each binds its variables
abbrev pub claim_of : ℕ → Exp → Exp → Exp → List (ℕ × ShapeSeen) → List CaseSeen → Outcome ParamSeen
claim_of n h c t b cs = param_bound (parts_made (plain_theorem n h c) t b cs)

-- ---- the checks in their order, by what stands behind `def-gl-param-thm`, with :concl, :param-hyp, :param-bindings, :cov-bindings
abbrev pub param_meant : List (List ℕ) → WorldSeen → Mode → List ℕ → List Object → Outcome EventSeen
param_meant names w now memoized [] = Err code.BadEvent
param_meant names w now memoized (n ∷ behind) =
    found_or code.BadEvent (plain_name names n) (λ name.
    found_or code.BadEvent (pairs_of names behind) (λ options.
    found_or code.BadEvent (value_of names (codes ":CONCL") options) (λ concl.
    found_or code.BadEvent (value_of names (codes ":PARAM-HYP") options) (λ term.
    found_or code.BadEvent (value_of names (codes ":PARAM-BINDINGS") options) (λ cases.
    found_or code.BadEvent (value_of names (codes ":COV-BINDINGS") options) (λ cover.
    found_or code.BadOption (clocks_meant names case_texts options) (λ clocks.
    found_or code.BadCases (option_and_then (cases_of names) (two_in cases)) (λ q.
    holds_or code.BadCases (are_kept (concl ∷ cover ∷ option_to_list (value_of names (codes ":HYP") options)) q.cases) (
    holds_or code.Redefined (not (is_taken names w name)) (
    and_then (hyp_meant names w (value_of names (codes ":HYP") options)) (λ h.
    and_then (claim_meant names w concl) (λ c.
    and_then (claim_meant names w term) (λ t.
    found_or code.BadBindings (bindings_meant names cover) (λ b.
    found_or code.BadBindings (all_meant (case_bound names q.mark) q.cases) (λ cs.
    and_then (claim_of name h c t b cs) (λ thm.
    Ok (Cases (param_set clocks.0 clocks.1 now memoized thm))))))))))))))))))
