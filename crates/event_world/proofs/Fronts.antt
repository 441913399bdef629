-- A world is the front of each later one.
use Rattle.std.proofs.Common.{◌≡◌, ◌∙◌, ℕ, ◌≤◌, List, [], ◌∷◌, ◌++◌, length, take, arith, length-append}
use Rattle.std.proofs.lemmas.List.{take-append-le, take_all}
use Rattle.gl_logic.specs.Object.{Object, Cons}
use Rattle.gl_logic.specs.Definition.{Definition}
use Rattle.gl_logic.specs.WorldSeen.{WorldSeen, with_clique, with_constant, with_event}
use Rattle.event_world.specs.EventSeen.{EventSeen, Defun, Defconst, Theorem, Cases, Clique}
use Rattle.event_world.specs.EventWords.{behind_head}
use Rattle.event_world.specs.NextState.{next_world, with_members}

-- the first elements of a list
pub record IsFrontList {A : Type 0} (xs ys : List A) : Type 0 where
  pub within : length xs ≤ length ys
  pub same : take (length xs) ys ≡ xs

pub record IsFront (w v : WorldSeen) : Type 0 where
  pub definitions : IsFrontList w.definitions v.definitions
  pub cliques : IsFrontList w.cliques v.cliques
  pub constants : IsFrontList w.constants v.constants
  pub events : IsFrontList w.events v.events

all : {A : Type 0} (xs : List A) → IsFrontList xs xs
all xs = record { within = omega arith; same = take_all (length xs) xs (omega arith) }

more : {A : Type 0} (xs ys zs : List A) → IsFrontList xs ys → IsFrontList xs (ys ++ zs)
more xs ys zs f = record { within = omega (arith, f.within, length-append ys zs); same = take-append-le (length xs) ys zs f.within ∙ f.same }

pub whole : (w : WorldSeen) → IsFront w w
whole w = record { definitions = all w.definitions; cliques = all w.cliques; constants = all w.constants; events = all w.events }

one_event : (w v : WorldSeen) (name : ℕ) (form : Object) → IsFront w v → IsFront w (with_event v name form)
one_event w v name form f = record { definitions = f.definitions; cliques = f.cliques; constants = f.constants; events = more w.events v.events _ f.events }

one_clique : (w v : WorldSeen) (ds : List Definition) → IsFront w v → IsFront w (with_clique v ds)
one_clique w v ds f = record { definitions = more w.definitions v.definitions _ f.definitions; cliques = more w.cliques v.cliques _ f.cliques; constants = f.constants; events = f.events }

one_constant : (w v : WorldSeen) (name : ℕ) (x : Object) → IsFront w v → IsFront w (with_constant v name x)
one_constant w v name x f = record { definitions = f.definitions; cliques = f.cliques; constants = more w.constants v.constants _ f.constants; events = f.events }

members : (w v : WorldSeen) (ds : List Definition) (forms : Object) → IsFront w v → IsFront w (with_members v ds forms)
members w v [] forms f = f
members w v (d ∷ ds) (Cons form rest) f = members w (with_event v d.name form) ds rest (one_event w v d.name form f)
members w v (d ∷ ds) _ f = f

pub front_next : (w v : WorldSeen) (form : Object) (e : EventSeen) (value : Object) → IsFront w v → IsFront w (next_world v form e value)
front_next w v form (Defun d) value f = one_event w _ d.name form (one_clique w v (d ∷ []) f)
front_next w v form (Clique ds) value f = members w _ ds (behind_head form) (one_clique w v ds f)
front_next w v form (Defconst name t) value f = one_event w _ name form (one_constant w v name value f)
front_next w v form (Theorem thm) value f = one_event w v thm.name form f
front_next w v form (Cases thm) value f = one_event w v thm.cover.name form f
front_next w v form _ value f = f
