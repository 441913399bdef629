-- Objects as their elements and their tail.
use Rattle.std.proofs.Common.{◌≡◌, ◌∙◌, ap, sym, refl, subst, List, [], ◌∷◌, ◌++◌, append_assoc, append-nil, Vec, Box, Global}
use Rattle.gl_logic.specs.Object.{Object, Int, Character, Symbol, Text, Cons}
use Rattle.gl_logic.specs.Lists.{elements_of, tail_of, conses, IsAtom}
use Rattle.gl_logic.specs.Node.{object_of, IsProperNode}
use Rattle.gl_logic.specs.declared.tree.Node.{Node}
use Rattle.gl_logic.specs.declared.tree.Node.TheVariants as node

pub elements-conses : (es : List Object) (t : Object) → elements_of (conses es t) ≡ elements_of t ++ es
elements-conses [] t = sym (append-nil (elements_of t))
elements-conses (x ∷ xs) t = elements-conses xs (Cons x t) ∙ append_assoc (elements_of t) (x ∷ []) xs

pub tail-conses : (es : List Object) (t : Object) → tail_of (conses es t) ≡ tail_of t
tail-conses [] t = refl
tail-conses (x ∷ xs) t = tail-conses xs (Cons x t)

pub atom-elements : (t : Object) → IsAtom t → elements_of t ≡ []
atom-elements (Int z) h = refl
atom-elements (Character n) h = refl
atom-elements (Symbol n) h = refl
atom-elements (Text n) h = refl
atom-elements (Cons a d) h = absurd h

pub atom-tail : (t : Object) → IsAtom t → tail_of t ≡ t
atom-tail (Int z) h = refl
atom-tail (Character n) h = refl
atom-tail (Symbol n) h = refl
atom-tail (Text n) h = refl
atom-tail (Cons a d) h = absurd h

pub conses-push : (es : List Object) (x t : Object) → conses (es ++ x ∷ []) t ≡ Cons x (conses es t)
conses-push [] x t = refl
conses-push (y ∷ ys) x t = conses-push ys x (Cons y t)

-- a node that is a list stands for the conses of its elements onto its tail
pub list-elements : (n : Node) (es : Vec Object Global) (t : Box Object Global) (x : Object) → n ≡ node.List es t → object_of n ≡ x → IsProperNode n → elements_of x ≡ es.items
list-elements n es t x is view proper =
    let p : IsProperNode (node.List es t) = subst IsProperNode is proper in
    ap elements_of (sym view ∙ ap object_of is) ∙ (elements-conses es.items t.value ∙ ap (λ xs. xs ++ es.items) (atom-elements t.value p.1))

pub list-tail : (n : Node) (es : Vec Object Global) (t : Box Object Global) (x : Object) → n ≡ node.List es t → object_of n ≡ x → IsProperNode n → tail_of x ≡ t.value
list-tail n es t x is view proper =
    let p : IsProperNode (node.List es t) = subst IsProperNode is proper in
    ap tail_of (sym view ∙ ap object_of is) ∙ (tail-conses es.items t.value ∙ atom-tail t.value p.1)

pub list-whole : (n : Node) (es : Vec Object Global) (t : Box Object Global) (x : Object) → n ≡ node.List es t → object_of n ≡ x → x ≡ conses es.items t.value
list-whole n es t x is view = sym view ∙ ap object_of is
