-- Lists as objects: their elements, their marks and their sizes.
use Rattle.std.proofs.Common.{◌≡◌, ◌∙◌, ap, sym, refl, subst, ℕ, zero, suc, ◌+◌, ◌-◌, ◌<◌, ◌≤◌, Bool, true, false, ◌||◌, List, [], ◌∷◌, ◌++◌, reverse, take, drop, length, get_or, Some, None, arith}
use Rattle.std.specs.List.{list_any}
use Rattle.std.specs.Option.{option_map}
use Rattle.std.proofs.lemmas.List.{reverse-append, take-append-drop, take_all, take_more}
use denote.Param.Weighed.{most}
use Rattle.gl_logic.specs.Object.{Object, Int, Character, Symbol, Text, Cons, nil}
use Rattle.gl_logic.specs.Lists.{elements_of, tail_of, conses, size_of, size-conses, IsAtom}
use Rattle.gl_logic.specs.Kind.{kind_of}
use Rattle.gl_logic.specs.declared.tree.TreeKind.TheVariants as kind
use Rattle.gl_logic.proofs.Elements.{conses-push, elements-conses, tail-conses, atom-tail}
use Rattle.gl_logic.proofs.Parts.{conses-whole, most_elements}
use Rattle.gl_logic.specs.Wording.{has_mark, elements}

-- ---- proper lists
pub elements_proper : (x : Object) → tail_of x ≡ nil → elements x ≡ Some (reverse (elements_of x))
elements_proper (Int z) h = absurd cc
elements_proper (Character n) h = absurd cc
elements_proper (Symbol zero) h = refl
elements_proper (Symbol (suc n)) h = absurd cc
elements_proper (Text n) h = absurd cc
elements_proper (Cons a d) h = ap (option_map (λ xs. a ∷ xs)) (elements_proper d h) ∙ ap Some (sym (reverse-append (elements_of d) (a ∷ [])))

pub elements_improper : (x : Object) → (tail_of x ≡ nil → ⊥) → elements x ≡ None
elements_improper (Int z) h = refl
elements_improper (Character n) h = refl
elements_improper (Symbol zero) h = absurd (h refl)
elements_improper (Symbol (suc n)) h = refl
elements_improper (Text n) h = refl
elements_improper (Cons a d) h = ap (option_map (λ xs. a ∷ xs)) (elements_improper d h)

pub elements_conses : (es : List Object) (t : Object) → t ≡ nil → elements (conses es t) ≡ Some (reverse es)
elements_conses es t e =
    elements_proper (conses es t) (tail-conses es t ∙ ap tail_of e)
    ∙ ap (λ (xs : List Object). Some (reverse xs)) (elements-conses es t ∙ ap (λ (x : Object). elements_of x ++ es) e)

pub improper_conses : (es : List Object) (t : Object) → (tail_of t ≡ nil → ⊥) → elements (conses es t) ≡ None
improper_conses es t h = elements_improper (conses es t) (λ e. h (sym (tail-conses es t) ∙ e))

pub improper_atom : (es : List Object) (t : Object) → IsAtom t → (t ≡ nil → ⊥) → elements (conses es t) ≡ None
improper_atom es t a h = improper_conses es t (λ e. h (sym (atom-tail t a) ∙ e))

pub proper : (x : Object) (es : List Object) → tail_of x ≡ nil → es ≡ elements_of x → x ≡ conses es nil
proper x es e is = sym (conses-whole x) ∙ (ap (conses (elements_of x)) e ∙ ap (λ (ys : List Object). conses ys nil) (sym is))

-- the last of those that stand from the last to the first is the first
pub last_split : {A : Type 0} (xs : List A) (x : A) → 0 < length xs → x ≡ get_or xs (length xs - 1) x → xs ≡ take (length xs - 1) xs ++ x ∷ []
last_split {A} xs x some at =
    let k : length xs - 1 + 1 ≡ length xs = omega (arith, some) in
    sym (take_all (length xs) xs (omega arith)) ∙ (ap (λ (n : ℕ). take n xs) (sym k) ∙ (take_more xs (length xs - 1) x (omega (arith, some)) ∙ ap (λ (y : A). take (length xs - 1) xs ++ y ∷ []) (sym at)))

pub conses-append : (xs ys : List Object) (t : Object) → conses (xs ++ ys) t ≡ conses ys (conses xs t)
conses-append [] ys t = refl
conses-append (x ∷ xs) ys t = conses-append xs ys (Cons x t)

-- a list cut at a place: the elements from there on stand before the others
pub conses-cut : (es : List Object) (t : Object) (k : ℕ) → conses es t ≡ conses (drop k es) (conses (take k es) t)
conses-cut es t k = ap (λ (xs : List Object). conses xs t) (sym (take-append-drop k es)) ∙ conses-append (take k es) (drop k es) t

pub conses-last : (es : List Object) (t x : Object) → 0 < length es → x ≡ get_or es (length es - 1) x → conses es t ≡ Cons x (conses (take (length es - 1) es) t)
conses-last es t x some at = ap (λ (xs : List Object). conses xs t) (last_split es x some at) ∙ conses-push (take (length es - 1) es) x t

-- ---- marks
or_assoc : (a b c : Bool) → (a || (b || c)) ≡ ((b || a) || c)
or_assoc true true c = refl
or_assoc true false c = refl
or_assoc false true c = refl
or_assoc false false c = refl

pub marks_conses : (es : List Object) (t : Object) → has_mark (conses es t) ≡ (list_any has_mark es || has_mark t)
marks_conses [] t = refl
marks_conses (x ∷ xs) t = marks_conses xs (Cons x t) ∙ or_assoc (list_any has_mark xs) (has_mark x) (has_mark t)

pub marks_whole : (x : Object) → has_mark x ≡ (list_any has_mark (elements_of x) || has_mark (tail_of x))
marks_whole x = ap has_mark (sym (conses-whole x)) ∙ marks_conses (elements_of x) (tail_of x)

-- ---- sizes
pub most_of : (x : Object) (es : List Object) → es ≡ elements_of x → most (λ y. size_of y + 1) es ≤ size_of x
most_of x es e = subst (λ (ys : List Object). most (λ y. size_of y + 1) ys ≤ size_of x) (sym e) (most_elements x)

tail_least : (x : Object) → size_of (tail_of x) ≤ size_of x
tail_least (Int z) = omega arith
tail_least (Character n) = omega arith
tail_least (Symbol n) = omega arith
tail_least (Text n) = omega arith
tail_least (Cons a d) = omega (arith, tail_least d)

pub tail_below : (x : Object) → kind_of x ≡ kind.List → size_of (tail_of x) < size_of x
tail_below (Int z) h = absurd cc
tail_below (Character n) h = absurd cc
tail_below (Symbol n) h = absurd cc
tail_below (Text n) h = absurd cc
tail_below (Cons a d) h = omega (arith, tail_least d)

pub most_at : (xs : List Object) (k : ℕ) (x : Object) → k < length xs → x ≡ get_or xs k x → size_of x + 1 ≤ most (λ y. size_of y + 1) xs
most_at [] k x h e = absurd (omega (arith, h))
most_at (y ∷ ys) zero x h e = omega (arith, ap size_of e)
most_at (y ∷ ys) (suc k) x h e = omega (arith, most_at ys k x (omega (arith, h)) e)

-- a list cut at a place: both parts are no larger
pub front_size : (es : List Object) (t : Object) (k : ℕ) → size_of (conses (take k es) t) ≤ size_of (conses es t)
front_size es t k = let s = size-conses (drop k es) (conses (take k es) t) in omega (arith, s.0, ap size_of (conses-cut es t k))

pub back_size : (es : List Object) (t : Object) (k : ℕ) → most (λ y. size_of y + 1) (drop k es) ≤ size_of (conses es t)
back_size es t k = let s = size-conses (drop k es) (conses (take k es) t) in omega (arith, s.1, ap size_of (conses-cut es t k))
