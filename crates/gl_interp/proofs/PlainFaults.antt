-- Faults without an assignment.
use Rattle.bfr_store.specs.declared.edge.Edge.{Edge}
use Rattle.bfr_store.specs.declared.meaning.Meaning.{Ghosts}
use Rattle.sym_objects.specs.Seen.{SobsSeen}
use Rattle.sym_prims.specs.Applying.{HasCause}
use Rattle.sym_prims.specs.declared.fault.SymFault.{SymFault}
use Rattle.sym_prims.specs.declared.fault.SymFault.TheVariants as prim
use Rattle.gl_interp.specs.Faults.{fault_from}
use Rattle.gl_interp.specs.TurnFaults.{HasPlainCause}

pub plain_from : {B : Type 0} (g : Ghosts B) (s : SobsSeen B) (e : Edge) (f : SymFault) → HasCause g s e (λ a. ⊥) f → HasPlainCause g s (fault_from f)
plain_from g s e prim.Full h = h
plain_from g s e prim.Spent h = h
plain_from g s e (prim.Wide a) h = absurd h.2
plain_from g s e prim.Memory h = tt
