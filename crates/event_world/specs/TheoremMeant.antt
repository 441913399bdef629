-- Theorems.
use Rattle.std.specs.Prelude.{ℕ, Bool, true, ◌&&◌, not, leb, if◌then◌else◌, List, [], ◌∷◌, codes, Option, Some, None, Ok, Err, pos}
use Rattle.gl_logic.specs.Object.{Object, Int, true_object}
use Rattle.gl_logic.specs.Exp.{Exp, Exps, Var, Const, If, Prim, Call, Let, Last, More}
use Rattle.gl_logic.specs.WorldSeen.{WorldSeen}
use Rattle.gl_translate.specs.Meaning.{also_bound}
use Rattle.gl_translate.specs.Translation.{translation, are_in}
use Rattle.shape_spec.specs.ShapeSeen.{ShapeSeen}
use Rattle.shape_spec.specs.Indices.{variables_of}
use Rattle.shape_spec.specs.BindingsMeant.{bindings_meant}
use Rattle.shape_spec.specs.declared.theorem.Mode.{Mode}
use Rattle.event_world.specs.declared.fault.EventFault.TheVariants as code
use Rattle.event_world.specs.Outcomes.{Outcome, and_then, found_or, holds_or, of_term}
use Rattle.event_world.specs.EventSeen.{EventSeen, TheoremSeen, Theorem}
use Rattle.event_world.specs.NamesMeant.{plain_name, is_taken}
use Rattle.event_world.specs.KeywordTexts.{option_texts}
use Rattle.event_world.specs.Keywords.{pairs_of, value_of, are_options}

-- ---- check 4, V11: the options are those of the table, each at most once, and the clocks are from 1 to 1,000,000
abbrev pub clock_of : Option Object → Option ℕ
clock_of None = Some 1000000
clock_of (Some (Int (pos n))) = if leb 1 n && leb n 1000000 then Some n else None
clock_of (Some _) = None

abbrev pub clocks_with : Option ℕ → Option ℕ → Option (ℕ × ℕ)
clocks_with (Some h) (Some c) = Some (h, c)
clocks_with _ _ = None

-- the clock of the hypothesis and that of the conclusion
abbrev pub clocks_meant : List (List ℕ) → List (List ℕ) → List (ℕ × Object) → Option (ℕ × ℕ)
clocks_meant names texts options = if are_options names texts options then clocks_with (clock_of (value_of names (codes ":HYP-CLK") options)) (clock_of (value_of names (codes ":CONCL-CLK") options)) else None

-- ---- check 7: the terms, in which every legal variable is in scope. The hypothesis that is not written is T
abbrev pub claim_meant : List (List ℕ) → WorldSeen → Object → Outcome Exp
claim_meant names w form = of_term (translation names w (record { vars = []; every = true; own = [] }) form)

abbrev pub hyp_meant : List (List ℕ) → WorldSeen → Option Object → Outcome Exp
hyp_meant names w None = Ok (Const true_object)
hyp_meant names w (Some form) = claim_meant names w form

-- ---- check 8, V10: the bindings, and each free variable of the terms is bound by them
abbrev mutual
  pub has_only : (ℕ → Bool) → Exp → Bool
  has_only bound (Var v) = bound v
  has_only bound (Const x) = true
  has_only bound (If t a b) = has_only bound t && (has_only bound a && has_only bound b)
  has_only bound (Prim p ts) = have_only bound ts
  has_only bound (Call f ts) = have_only bound ts
  has_only bound (Let vs ts b) = have_only bound ts && has_only (also_bound vs bound) b

  pub have_only : (ℕ → Bool) → Exps → Bool
  have_only bound Last = true
  have_only bound (More t ts) = has_only bound t && have_only bound ts

abbrev pub binds : List (ℕ × ShapeSeen) → Exp → Exp → Bool
binds b h c = has_only (are_in (variables_of b)) h && has_only (are_in (variables_of b)) c

abbrev pub bound_meant : List (List ℕ) → Object → Exp → Exp → Outcome (List (ℕ × ShapeSeen))
bound_meant names form h c =
    found_or code.BadBindings (bindings_meant names form) (λ b.
    holds_or code.BadBindings (binds b h c) (
    Ok b))

abbrev pub theorem_made : Mode → List ℕ → ℕ → ℕ × ℕ → Exp → Exp → List (ℕ × ShapeSeen) → TheoremSeen
theorem_made now memoized name clocks h c b = record {
  name = name;
  hyp = h;
  concl = c;
  bindings = b;
  hyp_clk = clocks.0;
  concl_clk = clocks.1;
  mode = now;
  memoized = memoized;
}

-- ---- the checks in their order, by what stands behind `def-gl-thm`, with :concl and :g-bindings
abbrev pub theorem_meant : List (List ℕ) → WorldSeen → Mode → List ℕ → List Object → Outcome EventSeen
theorem_meant names w now memoized [] = Err code.BadEvent
theorem_meant names w now memoized (n ∷ behind) =
    found_or code.BadEvent (plain_name names n) (λ name.
    found_or code.BadEvent (pairs_of names behind) (λ options.
    found_or code.BadEvent (value_of names (codes ":CONCL") options) (λ concl.
    found_or code.BadEvent (value_of names (codes ":G-BINDINGS") options) (λ bindings.
    found_or code.BadOption (clocks_meant names option_texts options) (λ clocks.
    holds_or code.Redefined (not (is_taken names w name)) (
    and_then (hyp_meant names w (value_of names (codes ":HYP") options)) (λ h.
    and_then (claim_meant names w concl) (λ c.
    and_then (bound_meant names bindings h c) (λ b.
    Ok (Theorem (theorem_made now memoized name clocks h c b)))))))))))
