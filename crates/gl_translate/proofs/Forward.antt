-- What stands from the last to the first, one more at a time.
use Rattle.std.proofs.Common.{◌≡◌, ◌∙◌, ap, sym, subst, refl, ℕ, zero, suc, ◌+◌, ◌-◌, ◌<◌, ◌≤◌, max, arith, take, get_or, ℤ, List, [], ◌∷◌, ◌++◌, map, reverse, Option, Some, None, length, append_assoc}
use Rattle.std.specs.Option.{option_map}
use Rattle.std.specs.Prelude.{Result, Ok, Err, ◌≢◌}
use Rattle.std.proofs.lemmas.List.{reverse-append, take_all, take_more, length-map, length-reverse}
use denote.Param.Weighed.{most}
use Rattle.gl_logic.specs.Object.{Object, Int, Character, Symbol, Text, Cons, nil}
use Rattle.gl_logic.specs.Lists.{elements_of, tail_of, conses, size_of, IsAtom}
use Rattle.gl_logic.specs.declared.prim.Primitive.{Primitive}
use Rattle.gl_translate.specs.declared.fault.TermFault.{TermFault}
use Rattle.gl_translate.specs.declared.form.Step.{Step}
use Rattle.gl_translate.specs.Setting.{Setting}
use Rattle.gl_translate.specs.Meaning.{Meaning}
use Rattle.gl_translate.specs.Parts.{Part, Binding, all_means}
use Rattle.gl_translate.specs.Macros.{nested_or, sum_form, prim2, joined, bound_by, all_bound}
use Rattle.gl_logic.specs.Wording.{elements}
use Rattle.gl_translate.specs.Translation.{meaning, meanings, bindings, parts}
use Rattle.gl_translate.specs.Steps.{part_of, parts_of, means_of, binding_of, bindings_of, Takes, weight}

pub parts_push : (s : Setting) (xs : List Object) (x : Object) → parts_of s (xs ++ x ∷ []) ≡ part_of s x ∷ parts_of s xs
parts_push s xs x = ap (map (part_of s)) (reverse-append xs (x ∷ []))

pub means_push : (s : Setting) (xs : List Object) (x : Object) → means_of s (xs ++ x ∷ []) ≡ meaning s x ∷ means_of s xs
means_push s xs x = ap all_means (parts_push s xs x)

pub bindings_push : (s : Setting) (xs : List Object) (x : Object) → bindings_of s (xs ++ x ∷ []) ≡ binding_of s x ∷ bindings_of s xs
bindings_push s xs x = ap (map (binding_of s)) (reverse-append xs (x ∷ []))

-- ---- the last of those that stand from the last to the first is the first
pub last_split : (xs : List Object) (x : Object) → 0 < length xs → x ≡ get_or xs (length xs - 1) x → xs ≡ take (length xs - 1) xs ++ x ∷ []
last_split xs x some at =
    let k : length xs - 1 + 1 ≡ length xs = omega (arith, some) in
    sym (take_all (length xs) xs (omega arith)) ∙ (ap (λ (n : ℕ). take n xs) (sym k) ∙ (take_more xs (length xs - 1) x (omega (arith, some)) ∙ ap (λ (y : Object). take (length xs - 1) xs ++ y ∷ []) (sym at)))

pub parts_last : (s : Setting) (xs : List Object) (x : Object) → 0 < length xs → x ≡ get_or xs (length xs - 1) x → parts_of s xs ≡ part_of s x ∷ parts_of s (take (length xs - 1) xs)
parts_last s xs x some at = ap (parts_of s) (last_split xs x some at) ∙ parts_push s (take (length xs - 1) xs) x

pub means_last : (s : Setting) (xs : List Object) (x : Object) → 0 < length xs → x ≡ get_or xs (length xs - 1) x → means_of s xs ≡ meaning s x ∷ means_of s (take (length xs - 1) xs)
means_last s xs x some at = ap all_means (parts_last s xs x some at)

-- ---- the value of none counts only where there is none
pub nested_any : (none other : Meaning) (f : Meaning → Meaning → Meaning) (ms : List Meaning) → 0 < length ms → nested_or none f ms ≡ nested_or other f ms
nested_any none other f [] h = absurd (omega (arith, h))
nested_any none other f (a ∷ ms) h = refl

pub nested_two : (none : Meaning) (f : Meaning → Meaning → Meaning) (a : Meaning) (ms : List Meaning) (k : Meaning) → 0 < length ms → ((x : Meaning) → f a x ≡ k) → nested_or none f (a ∷ ms) ≡ k
nested_two none f a [] k h e = absurd (omega (arith, h))
nested_two none f a (b ∷ ms) k h e = e (nested_or none f (b ∷ ms))

pub means_length : (s : Setting) (xs : List Object) → length (means_of s xs) ≡ length xs
means_length s xs = length-map (parts_of s xs) (λ p. p.means) ∙ (length-map (reverse xs) (part_of s) ∙ length-reverse xs)

pub sum_of_more : (p : Primitive) (unit : ℤ) (none : Meaning) (ms : List Meaning) → 1 < length ms → nested_or none (prim2 p) ms ≡ sum_form p unit ms
sum_of_more p unit none [] h = absurd (omega (arith, h))
sum_of_more p unit none (a ∷ []) h = absurd (omega (arith, h))
sum_of_more p unit none (a ∷ b ∷ ms) h = refl

-- ---- what is taken from bindings, one more at a time
pushed_on : {A B : Type 0} (g : B → A) (done : List A) (e : B) (o : Option (List B)) → option_map (λ bs. done ++ map g bs) (joined (λ p ps. Some (p ∷ ps)) (Some e) o) ≡ option_map (λ bs. (done ++ g e ∷ []) ++ map g bs) o
pushed_on g done e None = refl
pushed_on g done e (Some bs) = ap Some (sym (append_assoc done (g e ∷ []) (map g bs)))

module _ (s : Setting) (xs : List Object) (x : Object) (left : ℕ) (e : ℕ × Meaning) (inside : left - 1 < length xs) (some : 0 < left) (at : x ≡ get_or xs (left - 1) x) (bound : Some e ≡ bound_by s x (meanings s x)) where
  abbrev before : Option (List (ℕ × Meaning))
  before = all_bound s (bindings_of s (take (left - 1) xs))

  bound_next : all_bound s (bindings_of s (take left xs)) ≡ joined (λ p ps. Some (p ∷ ps)) (Some e) before
  bound_next =
      let k : left - 1 + 1 ≡ left = omega (arith, some) in
      ap (λ (n : ℕ). all_bound s (bindings_of s (take n xs))) (sym k)
      ∙ (ap (λ (ys : List Object). all_bound s (bindings_of s ys)) (take_more xs (left - 1) x inside ∙ ap (λ (y : Object). take (left - 1) xs ++ y ∷ []) (sym at))
      ∙ (ap (all_bound s) (bindings_push s (take (left - 1) xs) x)
      ∙ ap (λ o. joined (λ p ps. Some (p ∷ ps)) o before) (sym bound)))

  pub taken_next : {A : Type 0} (g : ℕ × Meaning → A) (done new : List A) (whole : Option (List A)) → new ≡ done ++ g e ∷ [] → option_map (λ bs. done ++ map g bs) (all_bound s (bindings_of s (take left xs))) ≡ whole → option_map (λ bs. new ++ map g bs) before ≡ whole
  taken_next g done new whole n h =
      ap (λ ys. option_map (λ bs. ys ++ map g bs) before) n
      ∙ (sym (pushed_on g done e before)
      ∙ (ap (option_map (λ bs. done ++ map g bs)) (sym bound_next) ∙ h))

-- ---- one or two alone
pub means_one : (s : Setting) (xs : List Object) (a : Object) → 1 ≤ length xs → length xs ≤ 1 → a ≡ get_or xs 0 a → means_of s xs ≡ meaning s a ∷ []
means_one s [] a l m e = absurd (omega (arith, l))
means_one s (x ∷ []) a l m e = ap (λ (z : Object). meaning s z ∷ []) (sym e)
means_one s (x ∷ y ∷ xs) a l m e = absurd (omega (arith, m))

pub means_two : (s : Setting) (xs : List Object) (b a : Object) → 2 ≤ length xs → length xs ≤ 2 → b ≡ get_or xs 0 b → a ≡ get_or xs 1 a → means_of s xs ≡ meaning s a ∷ meaning s b ∷ []
means_two s [] b a l m e f = absurd (omega (arith, l))
means_two s (x ∷ []) b a l m e f = absurd (omega (arith, l))
means_two s (x ∷ y ∷ []) b a l m e f = ap (λ (z : Object). meaning s z ∷ meaning s x ∷ []) (sym f) ∙ ap (λ (z : Object). meaning s a ∷ meaning s z ∷ []) (sym e)
means_two s (x ∷ y ∷ z ∷ xs) b a l m e f = absurd (omega (arith, m))

pub takes_at : {m n : Meaning} (s : Setting) (r : Result Step TermFault) → m ≡ n → Takes s m r → Takes s n r
takes_at s r e h = subst (λ (x : Meaning). Takes s x r) e h

-- ---- the elements of a proper list, and of anything else
module _ (s : Setting) where
  pub meanings_proper : (x : Object) → tail_of x ≡ nil → meanings s x ≡ Some (means_of s (elements_of x))
  meanings_proper (Int z) h = absurd cc
  meanings_proper (Character n) h = absurd cc
  meanings_proper (Symbol zero) h = refl
  meanings_proper (Symbol (suc n)) h = absurd cc
  meanings_proper (Text n) h = absurd cc
  meanings_proper (Cons a d) h = ap (option_map (λ ms. meaning s a ∷ ms)) (meanings_proper d h) ∙ ap Some (sym (means_push s (elements_of d) a))

  pub meanings_improper : (x : Object) → (tail_of x ≡ nil → ⊥) → meanings s x ≡ None
  meanings_improper (Int z) h = refl
  meanings_improper (Character n) h = refl
  meanings_improper (Symbol zero) h = absurd (h refl)
  meanings_improper (Symbol (suc n)) h = refl
  meanings_improper (Text n) h = refl
  meanings_improper (Cons a d) h = ap (option_map (λ ms. meaning s a ∷ ms)) (meanings_improper d h)

  pub bindings_proper : (x : Object) → tail_of x ≡ nil → bindings s x ≡ Some (bindings_of s (elements_of x))
  bindings_proper (Int z) h = absurd cc
  bindings_proper (Character n) h = absurd cc
  bindings_proper (Symbol zero) h = refl
  bindings_proper (Symbol (suc n)) h = absurd cc
  bindings_proper (Text n) h = absurd cc
  bindings_proper (Cons a d) h = ap (option_map (λ bs. binding_of s a ∷ bs)) (bindings_proper d h) ∙ ap Some (sym (bindings_push s (elements_of d) a))

  pub bindings_improper : (x : Object) → (tail_of x ≡ nil → ⊥) → bindings s x ≡ None
  bindings_improper (Int z) h = refl
  bindings_improper (Character n) h = refl
  bindings_improper (Symbol zero) h = absurd (h refl)
  bindings_improper (Symbol (suc n)) h = refl
  bindings_improper (Text n) h = refl
  bindings_improper (Cons a d) h = ap (option_map (λ bs. binding_of s a ∷ bs)) (bindings_improper d h)

  pub parts_proper : (x : Object) → tail_of x ≡ nil → parts s x ≡ Some (parts_of s (elements_of x))
  parts_proper (Int z) h = absurd cc
  parts_proper (Character n) h = absurd cc
  parts_proper (Symbol zero) h = refl
  parts_proper (Symbol (suc n)) h = absurd cc
  parts_proper (Text n) h = absurd cc
  parts_proper (Cons a d) h = ap (option_map (λ ps. part_of s a ∷ ps)) (parts_proper d h) ∙ ap Some (sym (parts_push s (elements_of d) a))

  pub parts_improper : (x : Object) → (tail_of x ≡ nil → ⊥) → parts s x ≡ None
  parts_improper (Int z) h = refl
  parts_improper (Character n) h = refl
  parts_improper (Symbol zero) h = absurd (h refl)
  parts_improper (Symbol (suc n)) h = refl
  parts_improper (Text n) h = refl
  parts_improper (Cons a d) h = ap (option_map (λ ps. part_of s a ∷ ps)) (parts_improper d h)

pub elements_proper : (x : Object) → tail_of x ≡ nil → elements x ≡ Some (reverse (elements_of x))
elements_proper (Int z) h = absurd cc
elements_proper (Character n) h = absurd cc
elements_proper (Symbol zero) h = refl
elements_proper (Symbol (suc n)) h = absurd cc
elements_proper (Text n) h = absurd cc
elements_proper (Cons a d) h = ap (option_map (λ xs. a ∷ xs)) (elements_proper d h) ∙ ap Some (sym (reverse-append (elements_of d) (a ∷ [])))

pub elements_improper : (x : Object) → (tail_of x ≡ nil → ⊥) → elements x ≡ None
elements_improper (Int z) h = refl
elements_improper (Character n) h = refl
elements_improper (Symbol zero) h = absurd (h refl)
elements_improper (Symbol (suc n)) h = refl
elements_improper (Text n) h = refl
elements_improper (Cons a d) h = ap (option_map (λ xs. a ∷ xs)) (elements_improper d h)

-- ---- weights
pub weight_push : (xs : List Object) (x : Object) → weight (xs ++ x ∷ []) ≡ max (weight xs) (size_of x + 1)
weight_push [] x = omega arith
weight_push (y ∷ ys) x = omega (arith, weight_push ys x)
