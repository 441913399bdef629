-- The truth of a symbolic object on its way.
use Rattle.std.proofs.Common.{◌≡◌, ◌∙◌, refl, sym, ap, ℕ, Bool, true, false, not, cond, List, inl, inr, arith}
use Rattle.std.proofs.lemmas.Bool.Decides.{eqb_tells}
use Rattle.bfr_store.specs.declared.edge.Edge.{Edge}
use Rattle.bfr_store.specs.declared.meaning.Meaning.{Ghosts}
use Rattle.gl_logic.specs.Object.{Object, boolean_object}
use Rattle.gl_logic.specs.ObjectEq.{is_nil}
use Rattle.sym_objects.specs.declared.sob.Sob.{Sob}
use Rattle.sym_objects.specs.declared.node.Node.{Node}
use Rattle.sym_objects.specs.declared.node.Node.TheVariants as node
use Rattle.sym_objects.specs.Inside.{IsProper}
use Rattle.sym_objects.specs.Keeps.{Keeps}
use Rattle.sym_objects.specs.Nodes.{object_by}
use Rattle.sym_objects.specs.Seen.{SobsSeen, IsLive, stands_for}
use Rattle.sym_objects.specs.Truths.{IsTruthOf}

pub boolean_truth : (b : Bool) → b ≡ not (is_nil (boolean_object b))
boolean_truth true = refl
boolean_truth false = refl

-- an object that is no Boolean and no choice is not NIL
pub other_truth : (truth : Edge → Bool) (of : Sob → Object) (bits : Sob → List Edge) (i : ℕ) (n : Node) → IsProper bits i n → ((e : Edge) → n ≡ node.Boolean e → ⊥) → ((e : Edge) (x y : Sob) → n ≡ node.Choice e x y → ⊥) → true ≡ not (is_nil (object_by truth of n))
other_truth truth of bits i (node.Character c) p h k = refl
other_truth truth of bits i (node.Symbol t) p h k = elim (eqb_tells t.number 0) [ inl is ↦ absurd (omega (arith, p, is.1)) | inr other ↦ ap not (sym other.0) ]
other_truth truth of bits i (node.Text t) p h k = refl
other_truth truth of bits i (node.Boolean e) p h k = absurd (h e refl)
other_truth truth of bits i (node.Sign e) p h k = refl
other_truth truth of bits i (node.Bit e r) p h k = refl
other_truth truth of bits i (node.Pair x y) p h k = refl
other_truth truth of bits i (node.Choice e x y) p h k = absurd (k e x y refl)

chosen : (b : Bool) (x y : Object) → cond b (not (is_nil x)) (not (is_nil y)) ≡ not (is_nil (cond b x y))
chosen true x y = refl
chosen false x y = refl

module _ {B : Type 0} (g : Ghosts B) where
  pub truth_by : (s : SobsSeen B) (x : Sob) (e : Edge) (o : (ℕ → Bool) → Object) → IsLive s x → g.live s.store e → ((a : ℕ → Bool) → stands_for g s x a ≡ o a) → ((a : ℕ → Bool) → g.truth_of s.store e a ≡ not (is_nil (o a))) → IsTruthOf g s x e
  truth_by s x e o l k m t = record { live = l; edge = k; truth = λ a. t a ∙ ap (λ y. not (is_nil y)) (sym (m a)) }

  pub truth_kept : (old new : SobsSeen B) → Keeps g old new → (x : Sob) (e : Edge) → IsTruthOf g old x e → IsTruthOf g new x e
  truth_kept old new k x e t = record {
    live = k.stays x t.live;
    edge = k.store.stays e t.edge;
    truth = λ a. k.store.same e a t.edge ∙ (t.truth a ∙ ap (λ y. not (is_nil y)) (sym (k.same x a t.live)));
  }
