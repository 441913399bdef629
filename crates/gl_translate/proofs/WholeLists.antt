-- Lists and their heads.
use Rattle.std.proofs.Common.{◌≡◌, ◌∙◌, ap, sym, refl, subst, ℕ, zero, suc, ◌+◌, ◌-◌, ◌<◌, ◌≤◌, List, [], ◌∷◌, ◌++◌, take, get_or, length, arith, Option, Some, None}
use Rattle.std.specs.Prelude.{Result, Ok, Err, IfOk}
use Rattle.std.specs.Option.{option_map}
use denote.Param.Weighed.{most}
use Rattle.gl_logic.specs.Object.{Object, Int, Character, Symbol, Text, Cons, nil}
use Rattle.gl_logic.specs.Lists.{elements_of, tail_of, conses, size_of}
use Rattle.gl_logic.specs.Kind.{kind_of}
use Rattle.gl_logic.specs.declared.tree.TreeKind.TheVariants as kind
use Rattle.gl_logic.proofs.Elements.{conses-push, elements-conses, tail-conses}
use Rattle.gl_translate.specs.declared.fault.TermFault.{TermFault}
use Rattle.gl_translate.specs.declared.fault.TermFault.TheVariants as term_fault
use Rattle.gl_translate.specs.declared.form.Step.{Step}
use Rattle.gl_translate.specs.declared.form.Step.TheVariants as step
use Rattle.gl_translate.specs.Setting.{Setting}
use Rattle.gl_translate.specs.Meaning.{Meaning, fault}
use Rattle.gl_translate.specs.Parts.{Part}
use Rattle.gl_translate.specs.Translation.{meaning, meanings, parts, list_meaning, head_name}
use Rattle.gl_translate.specs.Steps.{parts_of, part_of, IsBelow, weight}
use Rattle.gl_translate.proofs.Forward.{last_split, parts_proper}

module _ (s : Setting) where
  parts_conses : (ys : List Object) → parts s (conses ys nil) ≡ Some (parts_of s ys)
  parts_conses ys = parts_proper s (conses ys nil) (tail-conses ys nil) ∙ ap (λ (zs : List Object). Some (parts_of s zs)) (elements-conses ys nil)

  pub whole_list : (es : List Object) (head : Object) → 0 < length es → head ≡ get_or es (length es - 1) head → meaning s (conses es nil) ≡ list_meaning s (head_name head) (Some (parts_of s (take (length es - 1) es)))
  whole_list es head some at =
      ap (λ (xs : List Object). meaning s (conses xs nil)) (last_split es head some at)
      ∙ (ap (meaning s) (conses-push (take (length es - 1) es) head nil)
      ∙ ap (list_meaning s (head_name head)) (parts_conses (take (length es - 1) es)))

  malformed : (o : Option ℕ) → list_meaning s o None ≡ fault term_fault.BadUse
  malformed (Some t) = refl
  malformed None = refl

  no_part : (a : Object) (o : Option (List Meaning)) → option_map (λ ms. meaning s a ∷ ms) o ≡ None → o ≡ None
  no_part a None e = refl
  no_part a (Some ms) e = absurd cc

  no_parts : (x : Object) → meanings s x ≡ None → parts s x ≡ None
  no_parts (Int z) e = refl
  no_parts (Character n) e = refl
  no_parts (Symbol zero) e = absurd cc
  no_parts (Symbol (suc n)) e = refl
  no_parts (Text n) e = refl
  no_parts (Cons a d) e = ap (option_map (λ ps. part_of s a ∷ ps)) (no_parts d (no_part a (meanings s d) e))

  pub improper_list : (x : Object) → kind_of x ≡ kind.List → meanings s x ≡ None → meaning s x ≡ fault term_fault.BadUse
  improper_list (Int z) k e = absurd cc
  improper_list (Character n) k e = absurd cc
  improper_list (Symbol n) k e = absurd cc
  improper_list (Text n) k e = absurd cc
  improper_list (Cons a d) k e = ap (list_meaning s (head_name a)) (no_parts d (no_part a (meanings s d) e)) ∙ malformed (head_name a)

-- ---- sizes
below_step : (n m : ℕ) (st : Step) → n ≤ m → IsBelow n st → IsBelow m st
below_step n m (step.Constant x) l h = tt
below_step n m (step.Symbol t) l h = tt
below_step n m (step.If a b c) l h = tt
below_step n m (step.Or a b) l h = tt
below_step n m (step.Prim p fs) l h = tt
below_step n m (step.Call f fs) l h = tt
below_step n m (step.Let vs fs b) l h = tt
below_step n m (step.Same x) l h = omega (arith, l, h)

pub below_more : (n m : ℕ) (r : Result Step TermFault) → n ≤ m → IfOk r (IsBelow n) → IfOk r (IsBelow m)
below_more n m (Ok st) l h = below_step n m st l h
below_more n m (Err e) l h = tt

pub weight_take : (n : ℕ) (xs : List Object) → weight (take n xs) ≤ weight xs
weight_take zero xs = omega arith
weight_take (suc n) [] = omega arith
weight_take (suc n) (x ∷ xs) = omega (arith, weight_take n xs)

pub some_conses : (es : List Object) → kind_of (conses es nil) ≡ kind.List → 0 < length es
some_conses [] k = absurd cc
some_conses (x ∷ xs) k = omega arith
