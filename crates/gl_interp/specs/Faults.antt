-- The fault of an interpretation that a fault of a call below is.
use Rattle.sym_objects.specs.declared.fault.SobFault.{SobFault}
use Rattle.sym_objects.specs.declared.fault.SobFault.TheVariants as sob
use Rattle.sym_prims.specs.declared.fault.SymFault.{SymFault}
use Rattle.sym_prims.specs.declared.fault.SymFault.TheVariants as prim
use Rattle.gl_interp.specs.declared.fault.GlFault.{GlFault}
use Rattle.gl_interp.specs.declared.fault.GlFault.TheVariants as fault

abbrev pub fault_of : SobFault → GlFault
fault_of sob.Full = fault.Full
fault_of sob.Memory = fault.Memory

abbrev pub fault_from : SymFault → GlFault
fault_from prim.Full = fault.Full
fault_from prim.Spent = fault.Spent
fault_from (prim.Wide a) = fault.Wide a
fault_from prim.Memory = fault.Memory
