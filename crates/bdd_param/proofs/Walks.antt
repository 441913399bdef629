-- The walk over a function's tests, step by step.
use Rattle.std.proofs.Common.{◌≡◌, ◌≢◌, ◌∙◌, ap, sym, subst, ℕ, ◌%◌, ◌<◌, Bool, true, false, not, cond, eqb, List, [], length, get_or, set, arith}
use Rattle.bfr_store.specs.declared.edge.Edge.{Edge}
use Rattle.bfr_store.specs.Edges.{node_of, is_flipped}
use Rattle.bfr_store.specs.Keeps.{Keeps}
use Rattle.bdd_store.specs.Nodes.{Diagrams, IsLive, truth_of}
use Rattle.bdd_store.specs.Tests.{DependsBelow, IsTest}
use Rattle.bdd_store.specs.declared.parts.Test.{Test}
use Rattle.bdd_store.specs.contracts.bits.BddMeaning.TheImpl as diagrams
use Rattle.bdd_param.specs.Images.{IsParametrised}
use Rattle.bdd_param.specs.Kept.{KeptSeen, IsAt, IsKept, IsTestFor}
use Rattle.bdd_param.specs.Merged.{IsMerged}
use Rattle.bdd_param.proofs.Images.{image-at}
use Rattle.bdd_param.proofs.Keeping.{depends_past, parametrised_later, same, says_later}
use Rattle.bdd_param.proofs.Steps.{forced_high, forced_low, free}

-- the edge of the constant's node that is not the constant false is the constant true
pub true_edge : (e : Edge) → node_of e ≡ 0 → e.number ≢ 1 → not (is_flipped e) ≡ true
true_edge e is other = ap (λ n. not (eqb n 1)) even
  where
    even : e.number % 2 ≡ 0
    even = omega (arith, is, other)

-- a test says the same in a store that grows
pub test_for : (old new : Diagrams) → Keeps diagrams.ghosts old new → (e : Edge) (t : Test) → IsLive old e → IsTest old e t → IsTestFor new e t
test_for old new keeps e t live is = record {
  says = says_later old new keeps e t.high t.low t.variable live is.high is.low is.says;
  high_past = depends_past old new keeps t.high t.variable is.high is.high_past;
  low_past = depends_past old new keeps t.low t.variable is.low is.low_past;
}

module _ (old new : Diagrams) (keeps : Keeps diagrams.ghosts old new) (e : Edge) (t : Test) (live : IsLive old e) (is : IsTest old e t) (width : ℕ) (below : DependsBelow old e width) (m : KeptSeen) (same_width : m.width ≡ width) (p : ℕ) where
  pub high_made : ((a : ℕ → Bool) → truth_of old.nodes t.low a ≡ false) → (one : Edge) → IsLive new one → ((a : ℕ → Bool) → truth_of new.nodes one a ≡ true) → IsAt new m t.high p → (v : List Edge) → v ≡ set (get_or m.vectors p []) t.variable one → IsParametrised new e width v
  high_made never one one_live is_one at v v_is =
      let f = test_for old new keeps e t live is in
      subst (IsParametrised new e width) (sym v_is)
      (forced_high new width e t.high t.low t.variable (is.needed width below) f.says f.high_past f.low_past
      (λ a. same old new keeps t.low a is.low ∙ never a) (get_or m.vectors p []) one one_live is_one
      (subst (λ (w : ℕ). IsParametrised new t.high w (get_or m.vectors p [])) same_width at.vector))

  pub low_made : ((a : ℕ → Bool) → truth_of old.nodes t.high a ≡ false) → (zero : Edge) → IsLive new zero → ((a : ℕ → Bool) → truth_of new.nodes zero a ≡ false) → IsAt new m t.low p → (v : List Edge) → v ≡ set (get_or m.vectors p []) t.variable zero → IsParametrised new e width v
  low_made never zero zero_live is_zero at v v_is =
      let f = test_for old new keeps e t live is in
      subst (IsParametrised new e width) (sym v_is)
      (forced_low new width e t.high t.low t.variable (is.needed width below) f.says f.high_past f.low_past
      (λ a. same old new keeps t.high a is.high ∙ never a) (get_or m.vectors p []) zero zero_live is_zero
      (subst (λ (w : ℕ). IsParametrised new t.low w (get_or m.vectors p [])) same_width at.vector))

-- the vectors of both cofactors, merged by the variable
module _ (old new : Diagrams) (keeps : Keeps diagrams.ghosts old new) (m : KeptSeen) (k : IsKept old m) (t : Test) (within : t.variable < m.width) (p q : ℕ) (at_high : IsAt old m t.high p) (at_low : IsAt old m t.low q) where
  variables : List Edge
  variables = get_or m.vectors 0 []

  variable_says : (x : Edge) → x ≡ get_or (get_or m.vectors 0 []) t.variable x → (a : ℕ → Bool) → truth_of old.nodes x a ≡ a t.variable
  variable_says x is a =
      ap (λ (y : Edge). truth_of old.nodes y a) is
      ∙ sym (image-at old.nodes (get_or m.vectors 0 []) a t.variable x (omega (arith, within, k.variables.count)))
      ∙ k.variables.same a t.variable within

  variable_live : (x : Edge) → x ≡ get_or (get_or m.vectors 0 []) t.variable x → IsLive old x
  variable_live x is = subst (IsLive old) (sym is) (k.variables.live t.variable x (omega (arith, within, k.variables.count)))

  pub both_made : (x : Edge) → x ≡ get_or (get_or m.vectors 0 []) t.variable x → (ms v : List Edge) → IsMerged old new x (get_or m.vectors p []) (get_or m.vectors q []) ms (length (get_or m.vectors p [])) → v ≡ set ms t.variable x
      → (e : Edge) → IsTestFor new e t → IsParametrised new e m.width v
  both_made x x_is ms v made v_is e f =
      let hs = parametrised_later old new keeps t.high m.width (get_or m.vectors p []) at_high.live at_high.vector in
      let ls = parametrised_later old new keeps t.low m.width (get_or m.vectors q []) at_low.live at_low.vector in
      let x_live = variable_live x x_is in
      let x_says = variable_says x x_is in
      subst (IsParametrised new e m.width) (sym v_is)
      (free new m.width e t.high t.low t.variable within f.says f.high_past f.low_past (get_or m.vectors p []) (get_or m.vectors q []) ms x
      (keeps.stays x x_live) (λ a. same old new keeps x a x_live ∙ x_says a) hs ls (made.so_many ∙ at_high.vector.count)
      (λ j d inside. (made.each j d (omega (arith, inside, made.so_many))).live)
      (λ a j d inside.
      let c = made.each j d (omega (arith, inside, at_high.vector.count)) in
      c.says a ∙ (λ i. cond (x_says a i)
      (sym (same old new keeps (get_or (get_or m.vectors p []) j d) a (at_high.vector.live j d (omega (arith, inside, at_high.vector.count)))) i)
      (sym (same old new keeps (get_or (get_or m.vectors q []) j d) a (at_low.vector.live j d (omega (arith, inside, at_low.vector.count)))) i))))
