-- The event that a value of the program stands for.
use Rattle.gl_logic.specs.TermOf.{term_of}
use Rattle.gl_logic.specs.DefinitionOf.{definition_of}
pub use Rattle.shape_spec.specs.TheoremSeen.{theorem_seen}
use Rattle.gl_cases.specs.ParamMade.{param_seen}
use Rattle.event_world.specs.declared.event.Event.{Event}
use Rattle.event_world.specs.declared.event.Event.TheVariants as event
use Rattle.event_world.specs.EventSeen.{EventSeen, Nothing, Redundant, Defun, Defconst, Value, Assert, Memoize, Unmemoize, SetMode, Theorem, Cases, Clique, RedundantClique}

abbrev pub event_seen : Event → EventSeen
event_seen event.Nothing = Nothing
event_seen (event.Redundant name) = Redundant name.number
event_seen (event.Defun d) = Defun (definition_of d)
event_seen (event.Defconst name t) = Defconst name.number (term_of t)
event_seen (event.Value t) = Value (term_of t)
event_seen (event.Assert t) = Assert (term_of t)
event_seen (event.Memoize f) = Memoize f.number
event_seen (event.Unmemoize f) = Unmemoize f.number
event_seen (event.Mode m) = SetMode m
event_seen (event.Theorem thm) = Theorem (theorem_seen thm)
event_seen (event.Cases thm) = Cases (param_seen thm)
event_seen (event.Clique ds) = Clique ds
event_seen (event.RedundantClique names) = RedundantClique names
