-- States of a book, and what the next form means in one.
use Rattle.std.specs.Prelude.{◌≡◌, ℕ, Bool, true, false, List, [], refl}
use Rattle.std.specs.Coded.{Coded, code_by, coded×, coded_ℕ, coded_list}
use Rattle.gl_logic.specs.Object.{Object, nil}
use Rattle.gl_logic.specs.WorldSeen.{WorldSeen, IsWorld, coded_world}
use Rattle.shape_spec.specs.TheoremSeen.{coded_mode}
use Rattle.shape_spec.specs.declared.theorem.Mode.{Mode}
use Rattle.shape_spec.specs.declared.theorem.Mode.TheVariants as mode
use Rattle.event_world.specs.EventSeen.{EventSeen, Value, Assert, Theorem, Cases}
use Rattle.event_world.specs.EventMeant.{event_meant}
use Rattle.event_world.specs.NextState.{BookState, next_state}
use Rattle.event_world.specs.Outcomes.{Outcome}
use Rattle.event_world.specs.Prelude.{IsPrelude}
use Rattle.event_world.specs.Suits.{HasAllGround}

-- ---- states
-- a book's first form stands behind the ground definitions alone, in BDD mode, with nothing memoized
pub record IsFirstState (names : List (List ℕ)) (s : BookState) : Type 0 where
  pub world : IsPrelude names s.world
  pub mode : s.mode ≡ mode.Bdd
  pub memoized : s.memoized ≡ []

-- the event that a form means in a state, or the code of its refusal
abbrev pub event_in : List (List ℕ) → BookState → Object → Outcome EventSeen
event_in names s form = event_meant names s.world s.mode s.memoized form

-- a state whose world has all ground definitions, and whose definitions are cliques of admissible ones, so that each term has a value
pub record CanGoOn (s : BookState) : Type 0 where
  pub ground : HasAllGround s.world
  pub total : IsWorld s.world.definitions s.world.cliques

-- ---- jobs
-- its answer changes no state, so it may come later
abbrev pub is_job : EventSeen → Bool
is_job (Value t) = true
is_job (Assert t) = true
is_job (Theorem thm) = true
is_job (Cases thm) = true
is_job _ = false

-- the state behind a job, whatever its answer
abbrev pub state_noted : BookState → Object → EventSeen → BookState
state_noted s form e = next_state s form e nil

-- ---- how a ghost value keeps a state
abbrev pub coded_state : Coded BookState
coded_state =
    code_by (WorldSeen × (Mode × List ℕ)) (coded× coded_world (coded× coded_mode (coded_list coded_ℕ))) (λ s. (s.world, (s.mode, s.memoized))) (λ p. record { world = p.0; mode = p.1.0; memoized = p.1.1 }) (λ _. refl)
