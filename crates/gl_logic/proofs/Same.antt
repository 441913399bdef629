-- Two lists are equal exactly where their elements and their tails are.
use Rattle.std.proofs.Common.{◌≡◌, ◌∙◌, ap, ap₂, sym, Vec, Box, Global, List}
use Rattle.gl_logic.specs.Object.{Object}
use Rattle.gl_logic.specs.Lists.{conses, elements_of, tail_of}
use Rattle.gl_logic.specs.Node.{object_of, IsProperNode}
use Rattle.gl_logic.specs.declared.tree.Node.{Node}
use Rattle.gl_logic.specs.declared.tree.Node.TheVariants as node
use Rattle.gl_logic.proofs.Elements.{list-elements, list-tail, list-whole}

pub record IsList (x : Object) (es : List Object) (t : Object) : Type 0 where
  pub elements : elements_of x ≡ es
  pub tail : tail_of x ≡ t
  pub whole : x ≡ conses es t

pub is_list : (n : Node) (es : Vec Object Global) (t : Box Object Global) (x : Object) → n ≡ node.List es t → object_of n ≡ x → IsProperNode n → IsList x es.items t.value
is_list n es t x is view proper = record {
  elements = list-elements n es t x is view proper;
  tail = list-tail n es t x is view proper;
  whole = list-whole n es t x is view;
}

pub same-lists : {x y : Object} {es fs : List Object} {s t : Object} → IsList x es s → IsList y fs t → es ≡ fs → s ≡ t → x ≡ y
same-lists h k e f = h.whole ∙ (ap₂ conses e f ∙ sym k.whole)

pub same-tails : {x y : Object} {es fs : List Object} {s t : Object} → IsList x es s → IsList y fs t → x ≡ y → s ≡ t
same-tails h k e = sym h.tail ∙ (ap tail_of e ∙ k.tail)

pub same-elements : {x y : Object} {es fs : List Object} {s t : Object} → IsList x es s → IsList y fs t → x ≡ y → es ≡ fs
same-elements h k e = sym h.elements ∙ (ap elements_of e ∙ k.elements)
