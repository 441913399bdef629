-- The state after an accepted event.
use Rattle.std.specs.Prelude.{ℕ, not, eqb, if◌then◌else◌, List, [], ◌∷◌, ◌++◌}
use Rattle.std.specs.List.{list_any, filter}
use Rattle.gl_logic.specs.Object.{Object, Cons}
use Rattle.gl_logic.specs.Definition.{Definition}
use Rattle.gl_logic.specs.WorldSeen.{WorldSeen, with_definition, with_clique, with_constant, with_event}
use Rattle.shape_spec.specs.declared.theorem.Mode.{Mode}
use Rattle.event_world.specs.EventSeen.{EventSeen, Defun, Defconst, Memoize, Unmemoize, SetMode, Theorem, Cases, Clique}
use Rattle.event_world.specs.EventWords.{behind_head}

-- what the events so far have made
pub record BookState : Type 0 where
  pub world : WorldSeen
  pub mode : Mode
  pub memoized : List ℕ

-- ---- the functions whose calls are kept. Each stands once
abbrev pub with_function : List ℕ → ℕ → List ℕ
with_function memoized f = if list_any (eqb f) memoized then memoized else memoized ++ f ∷ []

abbrev pub without_function : List ℕ → ℕ → List ℕ
without_function memoized f = filter (λ g. not (eqb f g)) memoized

-- ---- each member of a clique is noted with its own form
abbrev pub with_members : WorldSeen → List Definition → Object → WorldSeen
with_members w (d ∷ ds) (Cons form rest) = with_members (with_event w d.name form) ds rest
with_members w _ _ = w

-- ---- the whole. A named event is noted with its form, whatever the verdict on it; a constant gets the value that its answer gives
abbrev pub next_world : WorldSeen → Object → EventSeen → Object → WorldSeen
next_world w form (Defun d) value = with_event (with_definition w d) d.name form
next_world w form (Clique ds) value = with_members (with_clique w ds) ds (behind_head form)
next_world w form (Defconst name t) value = with_event (with_constant w name value) name form
next_world w form (Theorem thm) value = with_event w thm.name form
next_world w form (Cases thm) value = with_event w thm.cover.name form
next_world w form _ value = w

abbrev pub next_mode : Mode → EventSeen → Mode
next_mode mode (SetMode other) = other
next_mode mode _ = mode

abbrev pub next_memoized : List ℕ → EventSeen → List ℕ
next_memoized memoized (Memoize f) = with_function memoized f
next_memoized memoized (Unmemoize f) = without_function memoized f
next_memoized memoized _ = memoized

-- the value is that of a constant's answer, and not looked at for another event
abbrev pub next_state : BookState → Object → EventSeen → Object → BookState
next_state s form event value = record {
  world = next_world s.world form event value;
  mode = next_mode s.mode event;
  memoized = next_memoized s.memoized event;
}
