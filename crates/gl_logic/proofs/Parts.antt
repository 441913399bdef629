-- What the elements and the tail of an object have from the object.
use Rattle.std.proofs.Common.{◌≡◌, ◌∙◌, ap, refl, subst, ℕ, ◌≤◌, ◌+◌}
use Rattle.std.specs.Prelude.{All}
use Rattle.std.proofs.lemmas.List.Elements.{All-nil, All-push}
use Rattle.gl_logic.specs.Object.{Object, Int, Character, Symbol, Text, Cons}
use Rattle.gl_logic.specs.Lists.{elements_of, tail_of, conses, IsAtom, size_of, size-conses}
use Rattle.gl_logic.specs.Numbered.{IsNumbered}
use Rattle.gl_logic.proofs.Elements.{conses-push}
use denote.Param.Weighed.{most}

pub conses-whole : (x : Object) → conses (elements_of x) (tail_of x) ≡ x
conses-whole (Int z) = refl
conses-whole (Character n) = refl
conses-whole (Symbol n) = refl
conses-whole (Text n) = refl
conses-whole (Cons a d) = conses-push (elements_of d) a (tail_of d) ∙ ap (Cons a) (conses-whole d)

pub tail_is_atom : (x : Object) → IsAtom (tail_of x)
tail_is_atom (Int z) = tt
tail_is_atom (Character n) = tt
tail_is_atom (Symbol n) = tt
tail_is_atom (Text n) = tt
tail_is_atom (Cons a d) = tail_is_atom d

pub numbered_tail : (n : ℕ) (x : Object) → IsNumbered n x → IsNumbered n (tail_of x)
numbered_tail n (Int z) h = h
numbered_tail n (Character c) h = h
numbered_tail n (Symbol t) h = h
numbered_tail n (Text t) h = h
numbered_tail n (Cons a d) h = numbered_tail n d h.1

pub numbered_elements : (n : ℕ) (x : Object) → IsNumbered n x → All (IsNumbered n) (elements_of x)
numbered_elements n (Int z) h = All-nil (IsNumbered n)
numbered_elements n (Character c) h = All-nil (IsNumbered n)
numbered_elements n (Symbol t) h = All-nil (IsNumbered n)
numbered_elements n (Text t) h = All-nil (IsNumbered n)
numbered_elements n (Cons a d) h = All-push (IsNumbered n) (elements_of d) a (numbered_elements n d h.1) h.0

-- each element is smaller than the object
pub most_elements : (x : Object) → most (λ y. size_of y + 1) (elements_of x) ≤ size_of x
most_elements x = subst (λ (y : Object). most (λ z. size_of z + 1) (elements_of x) ≤ size_of y) (conses-whole x) (size-conses (elements_of x) (tail_of x)).1
