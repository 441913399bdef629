-- What a theorem's form means in a later table of texts.
use Rattle.std.proofs.Common.{◌≡◌, ◌∙◌, ap, sym, refl, ℕ, true, cond, not, List, [], ◌∷◌, Option, Some, None}
use Rattle.std.specs.Prelude.{codes, Ok}
use Rattle.std.specs.Option.{IfSome}
use Rattle.gl_logic.specs.Every.{Every}
use Rattle.gl_logic.specs.Names.{number_of}
use Rattle.gl_logic.specs.Object.{Object}
use Rattle.gl_logic.specs.Exp.{Exp}
use Rattle.gl_logic.specs.WorldSeen.{WorldSeen}
use Rattle.gl_translate.specs.Translation.{translation}
use Rattle.gl_translate.specs.declared.scope.Scope.{Scope}
use Rattle.gl_translate.proofs.LaterNames.{meant_later}
use Rattle.shape_spec.specs.declared.theorem.Mode.{Mode}
use Rattle.event_world.specs.declared.fault.EventFault.{EventFault}
use Rattle.event_world.specs.declared.fault.EventFault.TheVariants as code
use Rattle.event_world.specs.EventSeen.{Theorem}
use Rattle.event_world.specs.Outcomes.{Outcome, and_then, found_or, holds_or, of_term}
use Rattle.event_world.specs.NamesMeant.{plain_name, is_taken}
use Rattle.event_world.specs.Keywords.{pairs_of, value_of}
use Rattle.event_world.specs.KeywordTexts.{option_texts}
use Rattle.event_world.specs.TheoremForms.{TheoremParts, with_required, with_options, theorem_parts, theorem_claimed, theorem_by}
use Rattle.event_world.specs.TheoremMeant.{clock_of, clocks_with, clocks_meant, claim_meant, hyp_meant, binds, bound_meant, theorem_made}
use Rattle.event_world.proofs.LaterTexts.{Known, IsKnown, later, plain_same, plain_known, taken_same, PairKnown, pairs_same, pairs_known, value_same, value_known, options_same}
use Rattle.event_world.proofs.LaterShapes.{bindings_same}

-- ---- outcomes
pub found_same : {A B : Type 0} (P : A → Type 0) (c : EventFault) (o : Option A) (f g : A → Outcome B) → IfSome o P → ((a : A) → P a → f a ≡ g a) → found_or c o f ≡ found_or c o g
found_same P c None f g h k = refl
found_same P c (Some a) f g h k = k a h

pub anything : {A : Type 0} (o : Option A) → IfSome o (λ a. Unit {0})
anything None = tt
anything (Some a) = tt

module _ (names more : List (List ℕ)) (n : ℕ) (unnamed : number_of [] names ≡ Some n) (w : WorldSeen) where
  abbrev Here : Object → Type 0
  Here = Known names more

  abbrev new : List (List ℕ)
  new = later names more

  abbrev Pair : ℕ × Object → Type 0
  Pair = PairKnown names more

  pub translated_same : (scope : Scope) (form : Object) → Here form → translation new w scope form ≡ translation names w scope form
  translated_same scope form h = sym (meant_later names new n w scope form unnamed (more, refl) h)

  -- ---- theorems
  record TheoremKnown (p : TheoremParts) : Type 0 where
    name : IsKnown names more p.name
    hyp : IfSome p.hyp Here
    concl : Here p.concl
    bindings : Here p.bindings
    options : Every Pair p.options

  required_same : (t : ℕ) (ps : List (ℕ × Object)) → Every Pair ps → (o p : Option Object) → with_required new t ps o p ≡ with_required names t ps o p
  required_same t ps h None None = refl
  required_same t ps h None (Some b) = refl
  required_same t ps h (Some c) None = refl
  required_same t ps h (Some c) (Some b) = ap (λ (o : Option Object). Some (record { name = t; hyp = o; concl = c; bindings = b; options = ps })) (value_same names more (codes ":HYP") ps h)

  required_known : (t : ℕ) (ps : List (ℕ × Object)) → IsKnown names more t → Every Pair ps → (o p : Option Object) → IfSome o Here → IfSome p Here → IfSome (with_required names t ps o p) TheoremKnown
  required_known t ps l h None None ho hp = tt
  required_known t ps l h None (Some b) ho hp = tt
  required_known t ps l h (Some c) None ho hp = tt
  required_known t ps l h (Some c) (Some b) ho hp = record { name = l; hyp = value_known names more (codes ":HYP") ps h; concl = ho; bindings = hp; options = h }

  options_at : (o : Option ℕ) (p : Option (List (ℕ × Object))) → IfSome p (Every Pair) → with_options new o p ≡ with_options names o p
  options_at None None h = refl
  options_at None (Some ps) h = refl
  options_at (Some t) None h = refl
  options_at (Some t) (Some ps) h =
      (λ i. with_required new t ps (value_same names more (codes ":CONCL") ps h i) (value_same names more (codes ":G-BINDINGS") ps h i))
      ∙ required_same t ps h (value_of names (codes ":CONCL") ps) (value_of names (codes ":G-BINDINGS") ps)

  options_known : (o : Option ℕ) (p : Option (List (ℕ × Object))) → IfSome o (IsKnown names more) → IfSome p (Every Pair) → IfSome (with_options names o p) TheoremKnown
  options_known None None l h = tt
  options_known None (Some ps) l h = tt
  options_known (Some t) None l h = tt
  options_known (Some t) (Some ps) l h = required_known t ps l h (value_of names (codes ":CONCL") ps) (value_of names (codes ":G-BINDINGS") ps) (value_known names more (codes ":CONCL") ps h) (value_known names more (codes ":G-BINDINGS") ps h)

  theorem_parts_same : (xs : List Object) → Every Here xs → theorem_parts new xs ≡ theorem_parts names xs
  theorem_parts_same [] h = refl
  theorem_parts_same (a ∷ behind) h = (λ i. with_options new (plain_same names more a h.0 i) (pairs_same names more behind h.1 i)) ∙ options_at (plain_name names a) (pairs_of names behind) (pairs_known names more behind h.1)

  theorem_parts_known : (xs : List Object) → Every Here xs → IfSome (theorem_parts names xs) TheoremKnown
  theorem_parts_known [] h = tt
  theorem_parts_known (a ∷ behind) h = options_known (plain_name names a) (pairs_of names behind) (plain_known names more a h.0) (pairs_known names more behind h.1)

  pub clocks_same : (texts : List (List ℕ)) (ps : List (ℕ × Object)) → Every Pair ps → clocks_meant new texts ps ≡ clocks_meant names texts ps
  clocks_same texts ps h = λ i. cond (options_same names more texts ps h i) (clocks_with (clock_of (value_same names more (codes ":HYP-CLK") ps h i)) (clock_of (value_same names more (codes ":CONCL-CLK") ps h i))) None

  pub claim_same : (form : Object) → Here form → claim_meant new w form ≡ claim_meant names w form
  claim_same form h = ap of_term (translated_same (record { vars = []; every = true; own = [] }) form h)

  pub hyp_same : (o : Option Object) → IfSome o Here → hyp_meant new w o ≡ hyp_meant names w o
  hyp_same None h = refl
  hyp_same (Some form) h = claim_same form h

  bound_same : (form : Object) (h c : Exp) → Here form → bound_meant new form h c ≡ bound_meant names form h c
  bound_same form h c k = ap (λ o. found_or code.BadBindings o (λ b. holds_or code.BadBindings (binds b h c) (Ok b))) (bindings_same names more form k)

  claimed_same : (now : Mode) (memoized : List ℕ) (p : TheoremParts) (clocks : ℕ × ℕ) → TheoremKnown p → theorem_claimed new w now memoized p clocks ≡ theorem_claimed names w now memoized p clocks
  claimed_same now memoized p clocks h =
      (λ i. and_then (hyp_same p.hyp h.hyp i) (λ a. and_then (claim_same p.concl h.concl i) (λ c. and_then (bound_same p.bindings a c h.bindings i) (λ b. Ok (Theorem (theorem_made now memoized p.name clocks a c b))))))

  pub theorem_same : (now : Mode) (memoized : List ℕ) (xs : List Object) → Every Here xs → theorem_by new w now memoized xs ≡ theorem_by names w now memoized xs
  theorem_same now memoized xs h =
      ap (λ o. found_or code.BadEvent o (λ p. found_or code.BadOption (clocks_meant new option_texts p.options) (λ clocks. holds_or code.Redefined (not (is_taken new w p.name)) (theorem_claimed new w now memoized p clocks)))) (theorem_parts_same xs h)
      ∙ found_same TheoremKnown code.BadEvent (theorem_parts names xs) _ _ (theorem_parts_known xs h) (λ p k.
      λ i. found_or code.BadOption (clocks_same option_texts p.options k.options i) (λ clocks. holds_or code.Redefined (not (taken_same names more w p.name k.name i)) (claimed_same now memoized p clocks k i)))
