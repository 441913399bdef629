-- The fault of a primitive that a fault of the table is.
use Rattle.std.specs.Prelude.{Result, Ok, Err}
use Rattle.bfr_store.specs.declared.edge.Full.{Full}
use Rattle.sym_objects.specs.declared.sob.Sob.{Sob}
use Rattle.sym_objects.specs.declared.fault.SobFault.{SobFault}
use Rattle.sym_objects.specs.declared.fault.SobFault.TheVariants as sob
use Rattle.sym_prims.specs.declared.fault.SymFault.{SymFault}
use Rattle.sym_prims.specs.declared.fault.SymFault.TheVariants as fault

abbrev pub fault_of : SobFault → SymFault
fault_of sob.Full = fault.Full
fault_of sob.Memory = fault.Memory

-- an answer of the table as one of a primitive
abbrev pub lifted : Result Sob Full → Result Sob SymFault
lifted (Ok r) = Ok r
lifted (Err e) = Err fault.Full

abbrev pub lifted_sob : Result Sob SobFault → Result Sob SymFault
lifted_sob (Ok r) = Ok r
lifted_sob (Err e) = Err (fault_of e)
