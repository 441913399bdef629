-- Forms by their elements.
use Rattle.std.proofs.Common.{◌≡◌, ◌∙◌, ap, sym, refl, subst, ◌-◌, ◌<◌, ◌≤◌, Bool, true, false, List, [], ◌∷◌, ◌++◌, length, get_or, Some, None, arith, length-append}
use Rattle.std.specs.Prelude.{◌↔◌, IsTrue}
use Rattle.gl_logic.specs.Object.{Object, Int, Character, Symbol, Text, Cons}
use Rattle.gl_logic.specs.ObjectEq.{object_eq}
use Rattle.gl_logic.specs.Lists.{elements_of}
use Rattle.gl_logic.proofs.Equality.{equal_from, equal_itself}
use Rattle.event_world.specs.RedundantMeant.{second_in}
use Rattle.event_world.proofs.Inversions.{unless_true}

pub same_told : (b : Bool) (x y : Object) → (IsTrue b ↔ x ≡ y) → b ≡ object_eq x y
same_told true x y h = sym (subst (λ (z : Object). object_eq x z ≡ true) (h.0 refl) (equal_itself x))
same_told false x y h = sym (unless_true (object_eq x y) (λ e. absurd (let q = h.1 (equal_from x y e) in cc)))

-- ---- the element behind the head
at_end : {A : Type 0} (xs : List A) (x d : A) → get_or (xs ++ x ∷ []) (length xs) d ≡ x
at_end [] x d = refl
at_end (y ∷ ys) x d = at_end ys x d

before_end : {A : Type 0} (xs : List A) (x y d : A) → get_or ((xs ++ x ∷ []) ++ y ∷ []) (length xs) d ≡ x
before_end [] x y d = refl
before_end (z ∷ zs) x y d = before_end zs x y d

second_by : (d : Object) (head x : Object) (es : List Object) → es ≡ elements_of (Cons head d) → 2 ≤ length es → x ≡ get_or es (length es - 2) x → second_in (Cons head d) ≡ Some x
second_by (Cons s r) head x es e l is =
    let n : length es - 2 ≡ length (elements_of r) = omega (arith, ap length e, length-append (elements_of r ++ s ∷ []) (head ∷ []), length-append (elements_of r) (s ∷ [])) in
    ap Some (sym (is ∙ (ap (λ k. get_or es k x) n ∙ (ap (λ (ys : List Object). get_or ys (length (elements_of r)) x) e ∙ before_end (elements_of r) s head x))))
second_by (Int z) head x es e l is = absurd (omega (arith, ap length e, l))
second_by (Character z) head x es e l is = absurd (omega (arith, ap length e, l))
second_by (Symbol z) head x es e l is = absurd (omega (arith, ap length e, l))
second_by (Text z) head x es e l is = absurd (omega (arith, ap length e, l))

pub second_at : (form x : Object) (es : List Object) → es ≡ elements_of form → 2 ≤ length es → x ≡ get_or es (length es - 2) x → Some x ≡ second_in form
second_at (Cons head d) x es e l is = sym (second_by d head x es e l is)
second_at (Int z) x es e l is = absurd (omega (arith, ap length e, l))
second_at (Character z) x es e l is = absurd (omega (arith, ap length e, l))
second_at (Symbol z) x es e l is = absurd (omega (arith, ap length e, l))
second_at (Text z) x es e l is = absurd (omega (arith, ap length e, l))

pub second_none : (form : Object) (es : List Object) → es ≡ elements_of form → length es < 2 → None ≡ second_in form
second_none (Cons head (Cons s r)) es e l = absurd (omega (arith, ap length e, l, length-append (elements_of r ++ s ∷ []) (head ∷ []), length-append (elements_of r) (s ∷ [])))
second_none (Cons head (Int z)) es e l = refl
second_none (Cons head (Character z)) es e l = refl
second_none (Cons head (Symbol z)) es e l = refl
second_none (Cons head (Text z)) es e l = refl
second_none (Int z) es e l = refl
second_none (Character z) es e l = refl
second_none (Symbol z) es e l = refl
second_none (Text z) es e l = refl
