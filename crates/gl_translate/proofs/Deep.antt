-- Forms inside 2,000 others.
use Rattle.std.proofs.Common.{◌≡◌, ap, refl, ℕ, suc, ◌<◌, ◌≤◌, Bool, true, false, cond, List, [], ◌∷◌, map, reverse, arith}
use Rattle.std.specs.Prelude.{nat_lt, Result, Ok, Err}
use Rattle.gl_logic.specs.Every.{Every}
use Rattle.gl_logic.specs.Object.{Object}
use Rattle.gl_translate.specs.declared.fault.TermFault.TheVariants as term_fault
use Rattle.gl_translate.specs.declared.form.Form.{Form}
use Rattle.gl_translate.specs.declared.form.Form.TheVariants as form
use Rattle.gl_translate.specs.declared.form.Step.{Step}
use Rattle.gl_translate.specs.declared.form.Step.TheVariants as step
use Rattle.gl_translate.specs.Setting.{Setting}
use Rattle.gl_translate.specs.Meaning.{Meaning, within, literal}
use Rattle.gl_translate.specs.Macros.{prim2}
use Rattle.gl_translate.specs.Steps.{IsBelow, form_means, step_means, step_inside, parts_of}
use Rattle.gl_translate.proofs.Closed.{IsKept, meaning_has, and_has, or_has, cond_has, list_has, nested_or_has, append_has, choice_forms_have, key_test_has, one_after_has, path_has, means_in_have, parts_in_have, bindings_in_have}

lt_true : (a b : ℕ) → a < b → nat_lt a b ≡ true
lt_true a b h = grind (arith, h)

lt_false : (a b : ℕ) → b ≤ a → nat_lt a b ≡ false
lt_false a b h = grind (arith, h)

pub near : (m : Meaning) (bound : ℕ → Bool) (around : ℕ) → around < 2000 → within m bound around ≡ m bound around
near m bound around h = ap (λ b. cond b (m bound around) (Err term_fault.TooDeep)) (lt_true around 2000 h)

-- ---- too deep, whatever it is
abbrev IsDeep : Meaning → Type 0
IsDeep m = (bound : ℕ → Bool) (around : ℕ) → 2000 ≤ around → m bound around ≡ Err term_fault.TooDeep

deep : (m : Meaning) → IsDeep (within m)
deep m bound around h = ap (λ b. cond b (m bound around) (Err term_fault.TooDeep)) (lt_false around 2000 h)

module _ (s : Setting) where
  all_deep : IsKept s (λ x. Unit {0}) IsDeep
  all_deep = record {
    of_fault = λ e. deep _;
    of_literal = λ x h. deep _;
    of_symbol = λ t. deep _;
    of_if = λ a b c f g h. deep _;
    of_prim = λ p ms n h. deep _;
    of_call = λ f ms n h. deep _;
    of_let = λ names ms b n h g. deep _;
    fine_parts = λ a d h. (tt, tt);
    fine_nil = tt;
    fine_true = tt;
    fine_zero = tt;
    fine_one = tt;
    fine_minus_one = tt;
  }

  any : (xs : List Object) → Every (λ x. Unit {0}) xs
  any [] = tt
  any (x ∷ xs) = (tt, any xs)

  pub form_deep : (f : Form) → IsDeep (form_means s f)
  form_deep (form.Book x) = meaning_has s _ _ all_deep x.now tt
  form_deep (form.Quoted x) = deep _
  form_deep (form.Number z) = deep _
  form_deep form.Nil = deep _
  form_deep (form.Symbol t) = deep _
  form_deep (form.And xs) = and_has s _ _ all_deep _ (means_in_have s _ _ all_deep (reverse xs.now) (any (reverse xs.now)))
  form_deep (form.Or xs) = or_has s _ _ all_deep _ (means_in_have s _ _ all_deep (reverse xs.now) (any (reverse xs.now)))
  form_deep (form.Cond xs) = cond_has s _ _ all_deep _ (parts_in_have s _ _ all_deep (reverse xs.now) (any (reverse xs.now)))
  form_deep (form.List xs) = list_has s _ _ all_deep _ (means_in_have s _ _ all_deep (reverse xs.now) (any (reverse xs.now)))
  form_deep (form.Nested p xs) = nested_or_has s _ _ all_deep _ (prim2 p) _ (deep _) (λ x y g h. deep _) (means_in_have s _ _ all_deep (reverse xs.now) (any (reverse xs.now)))
  form_deep (form.Append xs) = nested_or_has s _ _ all_deep _ _ _ (deep _) (append_has s _ _ all_deep) (means_in_have s _ _ all_deep (reverse xs.now) (any (reverse xs.now)))
  form_deep (form.Choices xs) = choice_forms_have s _ _ all_deep _ (parts_in_have s _ _ all_deep (reverse xs.now) (any (reverse xs.now)))
  form_deep (form.Test x) = key_test_has s _ _ all_deep x.now tt
  form_deep (form.Bindings xs x) = one_after_has s _ _ all_deep _ _ (bindings_in_have s _ _ all_deep (reverse xs.now) (any (reverse xs.now))) (meaning_has s _ _ all_deep x.now tt)
  form_deep (form.Path ls x) = path_has s _ _ all_deep ls.now _ (meaning_has s _ _ all_deep x.now tt)
  form_deep (form.Unary p x) = deep _
  form_deep (form.Binary p x y) = deep _
  form_deep form.LessOne = deep _

  inside : (st : Step) (bound : ℕ → Bool) (around : ℕ) → around < 2000 → cond (nat_lt around 2000) (step_inside s st bound (suc around)) (Err term_fault.TooDeep) ≡ step_inside s st bound (suc around)
  inside st bound around h = ap (λ b. cond b (step_inside s st bound (suc around)) (Err term_fault.TooDeep)) (lt_true around 2000 h)

  pub step_near : (st : Step) (bound : ℕ → Bool) (around : ℕ) → IsBelow 0 st → around < 2000 → step_means s st bound around ≡ step_inside s st bound (suc around)
  step_near (step.Constant x) bound around h l = inside (step.Constant x) bound around l
  step_near (step.Symbol t) bound around h l = inside (step.Symbol t) bound around l
  step_near (step.If a b c) bound around h l = inside (step.If a b c) bound around l
  step_near (step.Or a b) bound around h l = inside (step.Or a b) bound around l
  step_near (step.Prim p fs) bound around h l = inside (step.Prim p fs) bound around l
  step_near (step.Call f fs) bound around h l = inside (step.Call f fs) bound around l
  step_near (step.Let vs fs b) bound around h l = inside (step.Let vs fs b) bound around l
  step_near (step.Same x) bound around h l = absurd (omega (arith, h))
