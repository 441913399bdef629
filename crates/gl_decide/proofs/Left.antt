-- What the verdicts leave in a room, from what a symbolic decision leaves.
use Rattle.std.proofs.Common.{subst, ℕ, ◌<◌, ◌≤◌, arith, inl, inr}
use Rattle.std.proofs.lemmas.Bool.{cases_lt}
use Rattle.std.specs.Prelude.{IsTrue}
use Rattle.bdd_store.specs.Nodes.{Diagrams}
use Rattle.bfr_store.specs.declared.meaning.Meaning.{Ghosts}
use Rattle.gl_logic.specs.WorldSeen.{WorldSeen}
use Rattle.sat_core.specs.Decisions.{SatSeen}
use Rattle.shape_spec.specs.Indices.{width_of}
use Rattle.shape_spec.specs.declared.theorem.Thm.{Thm}
use Rattle.sym_objects.specs.Seen.{SobsSeen}
use Rattle.gl_symbolic.specs.Books.{HoldsEmpty}
use Rattle.gl_symbolic.specs.Decisions.{IsShown}
use Rattle.gl_symbolic.specs.Rooms.{IsRoomFor, LeavesRoom}
use Rattle.gl_symbolic.specs.Rooms as symbolic
use Rattle.gl_symbolic.specs.declared.decision.Decision.{Decision}
use Rattle.gl_symbolic.specs.declared.decision.Decision.TheVariants as decision
use Rattle.gl_symbolic.specs.declared.room.Room.{Room}
use Rattle.gl_symbolic.specs.declared.room.Room.TheVariants as room
use Rattle.gl_decide.specs.Answered.{IsAnswered, IsDecidedOtherwise, IsOtherwise, IsRunOut, IsStalled, IsTold}
use Rattle.gl_decide.specs.Bounds.{Bounds}
use Rattle.gl_decide.specs.Rooms.{AreStoresFor, IsFullAfter, IsGivenUpAfter, IsShownAfter, IsUnbegun, LeavesStores}
use Rattle.shape_spec.specs.TheoremSeen.{TheoremSeen, theorem_seen}
use Rattle.gl_decide.specs.Verdicts.{IsCovered, IsProperVerdict}
use Rattle.gl_decide.specs.declared.stall.StallCause.{StallCause}
use Rattle.gl_decide.specs.declared.stall.StallCause.TheVariants as why
use Rattle.gl_decide.specs.declared.verdict.Verdict.{Verdict}
use Rattle.gl_decide.specs.declared.verdict.Verdict.TheVariants as verdict

stores_for : {B : Type 0} (g : Ghosts B) (nodes : ℕ) (s : SobsSeen B) (d : Decision) (v : Verdict) → IsRoomFor g nodes s d → IsFullAfter g s v → AreStoresFor g nodes s v
stores_for g nodes s d v h f = record { whole = h.whole; table = h.table; store = h.store; full = f }

-- ---- verdicts that are told
unbegun_told : (thm : TheoremSeen) (d : Decision) (v : Verdict) → symbolic.IsUnbegun d → IsTold thm d v → IsUnbegun v
unbegun_told thm (decision.Cells p a) (verdict.Cells q env) h e = tt
unbegun_told thm decision.Proved v h e = absurd h
unbegun_told thm decision.Vacuous v h e = absurd h
unbegun_told thm (decision.Refuted a) v h e = absurd h
unbegun_told thm (decision.Clock p a) v h e = absurd h
unbegun_told thm (decision.Width p a) v h e = absurd h
unbegun_told thm (decision.Steps p a) v h e = absurd h
unbegun_told thm decision.Full v h e = absurd h
unbegun_told thm decision.Spent v h e = absurd h
unbegun_told thm d v h e = absurd e

full_told : {B : Type 0} (g : Ghosts B) (s : SobsSeen B) (thm : TheoremSeen) (d : Decision) (v : Verdict) → IsTold thm d v → IsFullAfter g s v
full_told g s thm decision.Proved (verdict.Nodes st) e = absurd e
full_told g s thm decision.Vacuous (verdict.Nodes st) e = absurd e
full_told g s thm (decision.Refuted a) (verdict.Nodes st) e = absurd e
full_told g s thm (decision.Clock p a) (verdict.Nodes st) e = absurd e
full_told g s thm (decision.Width p a) (verdict.Nodes st) e = absurd e
full_told g s thm (decision.Steps p a) (verdict.Nodes st) e = absurd e
full_told g s thm (decision.Cells p a) (verdict.Nodes st) e = absurd e
full_told g s thm decision.Full (verdict.Nodes st) e = absurd e
full_told g s thm decision.Spent (verdict.Nodes st) e = absurd e
full_told g s thm decision.Memory (verdict.Nodes st) e = absurd e
full_told g s thm _ _ e = tt

given_up_told : (clauses : ℕ) (s : SatSeen) (thm : TheoremSeen) (d : Decision) (v : Verdict) → IsTold thm d v → IsGivenUpAfter clauses s v
given_up_told clauses s thm decision.Proved (verdict.Clauses st) e = absurd e
given_up_told clauses s thm decision.Vacuous (verdict.Clauses st) e = absurd e
given_up_told clauses s thm (decision.Refuted a) (verdict.Clauses st) e = absurd e
given_up_told clauses s thm (decision.Clock p a) (verdict.Clauses st) e = absurd e
given_up_told clauses s thm (decision.Width p a) (verdict.Clauses st) e = absurd e
given_up_told clauses s thm (decision.Steps p a) (verdict.Clauses st) e = absurd e
given_up_told clauses s thm (decision.Cells p a) (verdict.Clauses st) e = absurd e
given_up_told clauses s thm decision.Full (verdict.Clauses st) e = absurd e
given_up_told clauses s thm decision.Spent (verdict.Clauses st) e = absurd e
given_up_told clauses s thm decision.Memory (verdict.Clauses st) e = absurd e
given_up_told clauses s thm _ _ e = tt

shown_told : (s : SatSeen) (thm : TheoremSeen) (d : Decision) (v : Verdict) → IsTold thm d v → IsShown (HoldsEmpty s) d → IsShownAfter s v
shown_told s thm decision.Proved verdict.Proved e h = h
shown_told s thm decision.Vacuous verdict.Vacuous e h = h
shown_told s thm (decision.Refuted a) (verdict.Refuted env) e h = tt
shown_told s thm (decision.Clock p a) (verdict.Clock q env) e h = tt
shown_told s thm (decision.Width p a) (verdict.Width q env) e h = tt
shown_told s thm (decision.Steps p a) (verdict.Steps q env) e h = tt
shown_told s thm (decision.Cells p a) (verdict.Cells q env) e h = tt
shown_told s thm d v e h = absurd e

pub told_answered : (thm : TheoremSeen) (d : Decision) (v : Verdict) → IsTold thm d v → IsAnswered v
told_answered thm decision.Proved verdict.Proved e = tt
told_answered thm decision.Vacuous verdict.Vacuous e = tt
told_answered thm (decision.Refuted a) (verdict.Refuted env) e = tt
told_answered thm (decision.Clock p a) (verdict.Clock q env) e = tt
told_answered thm (decision.Width p a) (verdict.Width q env) e = tt
told_answered thm (decision.Steps p a) (verdict.Steps q env) e = tt
told_answered thm (decision.Cells p a) (verdict.Cells q env) e = tt
told_answered thm d v e = absurd e

module _ (g : Ghosts Diagrams) (h : Ghosts SatSeen) (bounds : Bounds) (t : Thm) (d : Decision) where
  pub left_told : (r : Room) (v : Verdict) → IsTold (theorem_seen t) d v → LeavesRoom g h bounds.nodes bounds.clauses t.mode d r → LeavesStores g h bounds (theorem_seen t) v r
  left_told room.Empty v e l = unbegun_told (theorem_seen t) d v l e
  left_told (room.Bdd s) v e l = (l.0, stores_for g bounds.nodes s d v l.1 (full_told g s (theorem_seen t) d v e))
  left_told (room.Sat s) v e l = (
    l.0,
    stores_for h bounds.nodes s d v l.1 (full_told h s (theorem_seen t) d v e),
    given_up_told bounds.clauses s.store (theorem_seen t) d v e,
    λ _. shown_told s.store (theorem_seen t) d v e l.2,
  )

  -- memory was refused
  pub left_refused : (r : Room) → LeavesRoom g h bounds.nodes bounds.clauses t.mode d r → LeavesStores g h bounds (theorem_seen t) verdict.Memory r
  left_refused room.Empty l = tt
  left_refused (room.Bdd s) l = (l.0, stores_for g bounds.nodes s d verdict.Memory l.1 tt)
  left_refused (room.Sat s) l = (l.0, stores_for h bounds.nodes s d verdict.Memory l.1 tt, tt, λ _. tt)

-- ---- verdicts of scans
narrow_full : {B : Type 0} (g : Ghosts B) (s : SobsSeen B) (w : WorldSeen) (bounds : Bounds) (thm : TheoremSeen) (v : Verdict) → width_of thm.bindings ≤ bounds.enum_bits → IsProperVerdict w bounds thm v → IsFullAfter g s v
narrow_full g s w bounds thm (verdict.Nodes st) few p = absurd (omega (arith, few, p.1))
narrow_full g s w bounds thm _ few p = tt

narrow_given_up : (clauses : ℕ) (s : SatSeen) (w : WorldSeen) (bounds : Bounds) (thm : TheoremSeen) (v : Verdict) → width_of thm.bindings ≤ bounds.enum_bits → IsProperVerdict w bounds thm v → IsGivenUpAfter clauses s v
narrow_given_up clauses s w bounds thm (verdict.Clauses st) few p = absurd (omega (arith, few, p.2))
narrow_given_up clauses s w bounds thm _ few p = tt

answered_full : {B : Type 0} (g : Ghosts B) (s : SobsSeen B) (v : Verdict) → IsAnswered v → IsFullAfter g s v
answered_full g s (verdict.Nodes st) a = absurd a
answered_full g s _ a = tt

-- where a decision ran out, it was begun
begun : (bounds : Bounds) (d : Decision) (c : StallCause) → IsRunOut bounds d c → symbolic.IsUnbegun d → ⊥
begun bounds decision.Full c o u = u
begun bounds decision.Spent c o u = u
begun bounds decision.Proved c o u = o
begun bounds decision.Vacuous c o u = o
begun bounds (decision.Refuted a) c o u = o
begun bounds (decision.Clock p a) c o u = o
begun bounds (decision.Width p a) c o u = o
begun bounds (decision.Steps p a) c o u = o
begun bounds (decision.Cells p a) c o u = o
begun bounds decision.Memory c o u = o

module _ (g : Ghosts Diagrams) (h : Ghosts SatSeen) (w : WorldSeen) (bounds : Bounds) (t : Thm) (d : Decision) (c : StallCause) (out : IsRunOut bounds d c) where
  pub left_scanned : (r : Room) (v : Verdict) → width_of t.bindings ≤ bounds.enum_bits → IsProperVerdict w bounds (theorem_seen t) v → LeavesRoom g h bounds.nodes bounds.clauses t.mode d r → LeavesStores g h bounds (theorem_seen t) v r
  left_scanned room.Empty v few p l = absurd (begun bounds d c out l)
  left_scanned (room.Bdd s) v few p l = (l.0, stores_for g bounds.nodes s d v l.1 (narrow_full g s w bounds (theorem_seen t) v few p))
  left_scanned (room.Sat s) v few p l = (
    l.0,
    stores_for h bounds.nodes s d v l.1 (narrow_full h s w bounds (theorem_seen t) v few p),
    narrow_given_up bounds.clauses s.store w bounds (theorem_seen t) v few p,
    λ more. absurd (omega (arith, few, more)),
  )

  -- ---- verdicts of other modes
  pub left_otherwise : (r : Room) (v : Verdict) → IsDecidedOtherwise w bounds (theorem_seen t) v → LeavesRoom g h bounds.nodes bounds.clauses t.mode d r → LeavesStores g h bounds (theorem_seen t) v r
  left_otherwise room.Empty v o l = absurd (begun bounds d c out l)
  left_otherwise (room.Bdd s) v o l = (l.0, stores_for g bounds.nodes s d v l.1 (answered_full g s v o.answered))
  left_otherwise (room.Sat s) v o l = absurd (o.own l.0)

-- ---- stalls, where diagrams never give up
module _ (g : Ghosts Diagrams) (h : Ghosts SatSeen) (w : WorldSeen) (bounds : Bounds) (t : Thm) (covered : IsCovered (theorem_seen t)) (never : (s : Diagrams) → IsTrue (g.spent s) → ⊥) where
  full_left : (wide : bounds.enum_bits < width_of t.bindings) (r : Room) (v : Verdict) → IsStalled w (theorem_seen t) (why.Nodes bounds.nodes) v → LeavesRoom g h bounds.nodes bounds.clauses t.mode decision.Full r → IsProperVerdict w bounds (theorem_seen t) v × LeavesStores g h bounds (theorem_seen t) v r
  full_left wide room.Empty v st l = absurd l
  full_left wide (room.Bdd s) (verdict.Nodes k) st l = ((covered, wide, st), (l.0, stores_for g bounds.nodes s decision.Full (verdict.Nodes k) l.1 l.1.run_out))
  full_left wide (room.Sat s) (verdict.Nodes k) st l = ((covered, wide, st), (l.0, stores_for h bounds.nodes s decision.Full (verdict.Nodes k) l.1 l.1.run_out, tt, λ _. tt))
  full_left wide r v st l = absurd st

  spent_left : (wide : bounds.enum_bits < width_of t.bindings) (r : Room) (v : Verdict) → IsStalled w (theorem_seen t) (why.Clauses bounds.clauses) v → LeavesRoom g h bounds.nodes bounds.clauses t.mode decision.Spent r → IsProperVerdict w bounds (theorem_seen t) v × LeavesStores g h bounds (theorem_seen t) v r
  spent_left wide room.Empty v st l = absurd l
  spent_left wide (room.Bdd s) v st l = absurd (never s.store l.1.run_out)
  spent_left wide (room.Sat s) (verdict.Clauses k) st l = ((covered, l.0, wide, st), (l.0, stores_for h bounds.nodes s decision.Spent (verdict.Clauses k) l.1 tt, l.3, λ _. tt))
  spent_left wide r v st l = absurd st

  left_stalled : (wide : bounds.enum_bits < width_of t.bindings) (d : Decision) (c : StallCause) (r : Room) (v : Verdict) → IsRunOut bounds d c → IsStalled w (theorem_seen t) c v → LeavesRoom g h bounds.nodes bounds.clauses t.mode d r
      → IsProperVerdict w bounds (theorem_seen t) v × LeavesStores g h bounds (theorem_seen t) v r
  left_stalled wide decision.Full c r v out st l = full_left wide r v (subst (λ (k : StallCause). IsStalled w (theorem_seen t) k v) out st) l
  left_stalled wide decision.Spent c r v out st l = spent_left wide r v (subst (λ (k : StallCause). IsStalled w (theorem_seen t) k v) out st) l
  left_stalled wide decision.Proved c r v out st l = absurd out
  left_stalled wide decision.Vacuous c r v out st l = absurd out
  left_stalled wide (decision.Refuted a) c r v out st l = absurd out
  left_stalled wide (decision.Clock p a) c r v out st l = absurd out
  left_stalled wide (decision.Width p a) c r v out st l = absurd out
  left_stalled wide (decision.Steps p a) c r v out st l = absurd out
  left_stalled wide (decision.Cells p a) c r v out st l = absurd out
  left_stalled wide decision.Memory c r v out st l = absurd out

  -- a decision that ran out: a scan, another mode's answer, or a stall
  pub ran_out : (d : Decision) (c : StallCause) (r : Room) (v : Verdict) → IsRunOut bounds d c → (width_of t.bindings ≤ bounds.enum_bits → IsProperVerdict w bounds (theorem_seen t) v) → (bounds.enum_bits < width_of t.bindings → IsOtherwise w bounds (theorem_seen t) c v)
      → LeavesRoom g h bounds.nodes bounds.clauses t.mode d r → IsProperVerdict w bounds (theorem_seen t) v × LeavesStores g h bounds (theorem_seen t) v r
  ran_out d c r v out scanned otherwise l = elim (cases_lt bounds.enum_bits (width_of t.bindings)) [
    | inl wide ↦ elim (otherwise wide) [
      | inl o ↦ (o.proper, left_otherwise g h w bounds t d c out r v o l)
      | inr s ↦ left_stalled wide d c r v out s l
    ]
    | inr few ↦ (scanned few, left_scanned g h w bounds t d c out r v few (scanned few) l)
  ]
