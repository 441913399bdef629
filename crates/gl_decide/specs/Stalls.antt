-- Decisions that ran out of nodes or clauses, as contracts see them.
use Rattle.std.specs.Prelude.{◌≡◌, ℕ, List, refl}
use Rattle.std.specs.Coded.{Coded, code_by, coded×, coded⊎, coded_ℕ, coded_list}
use Rattle.std.proofs.Common.{◌⊎◌, inl, inr}
use Rattle.gl_logic.specs.Object.{Object}
use Rattle.gl_logic.specs.Definition.{Definition, coded_definition}
use Rattle.gl_logic.specs.WorldSeen.{WorldSeen, coded_named}
use Rattle.shape_spec.specs.TheoremSeen.{TheoremSeen, coded_theorem}
use Rattle.gl_decide.specs.declared.stall.StallCause.{StallCause}
use Rattle.gl_decide.specs.declared.stall.StallCause.TheVariants.{Nodes, Clauses}

-- why the decision ran out, the theorem, and the definitions and constants of the world that it was decided in
pub record StallSeen : Type 0 where
  pub cause : StallCause
  pub theorem : TheoremSeen
  pub definitions : List Definition
  pub constants : List (ℕ × Object)

-- it is the one of this theorem in this world, with this cause
pub record IsStallOf (w : WorldSeen) (thm : TheoremSeen) (why : StallCause) (s : StallSeen) : Type 0 where
  pub cause : s.cause ≡ why
  pub theorem : s.theorem ≡ thm
  pub definitions : s.definitions ≡ w.definitions
  pub constants : s.constants ≡ w.constants

-- ---- how a ghost value keeps one
abbrev pub cause_split : StallCause → ℕ ⊎ ℕ
cause_split (Nodes n) = inl n
cause_split (Clauses n) = inr n

abbrev pub cause_join : ℕ ⊎ ℕ → StallCause
cause_join (inl n) = Nodes n
cause_join (inr n) = Clauses n

pub cause_back : (c : StallCause) → cause_join (cause_split c) ≡ c
cause_back (Nodes n) = refl
cause_back (Clauses n) = refl

abbrev pub coded_cause : Coded StallCause
coded_cause = code_by (ℕ ⊎ ℕ) (coded⊎ coded_ℕ coded_ℕ) cause_split cause_join cause_back

abbrev pub coded_stall : Coded StallSeen
coded_stall =
    code_by ((StallCause × TheoremSeen) × (List Definition × List (ℕ × Object)))
    (coded× (coded× coded_cause coded_theorem) (coded× (coded_list coded_definition) coded_named))
    (λ s. ((s.cause, s.theorem), (s.definitions, s.constants)))
    (λ p. record { cause = p.0.0; theorem = p.0.1; definitions = p.1.0; constants = p.1.1 })
    (λ _. refl)
