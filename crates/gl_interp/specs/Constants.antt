-- Constant nodes of trees.
use Rattle.bfr_store.specs.declared.meaning.Meaning.{Ghosts}
use Rattle.gl_logic.specs.Object.{Object}
use Rattle.hons_arena.specs.Held.{HasNoRoomFor, IsEachOnce}
use Rattle.lisp_eval.specs.Machines.{MachineSeen}
use Rattle.sym_objects.specs.declared.fault.SobFault.{SobFault}
use Rattle.sym_objects.specs.declared.fault.SobFault.TheVariants as sob
use Rattle.sym_objects.specs.Seen.{SobsSeen, IsFull}
use Rattle.gl_interp.specs.declared.constants.PlaceFault.{PlaceFault}
use Rattle.gl_interp.specs.declared.constants.PlaceFault.TheVariants as fault

abbrev pub fault_of_sob : SobFault → PlaceFault
fault_of_sob sob.Full = fault.Full
fault_of_sob sob.Memory = fault.Memory

-- the arena, which holds no object twice, has no room for the object; or a count stands at its limit
abbrev pub HasPlaceCause : {B : Type 0} → Ghosts B → SobsSeen B → MachineSeen → Object → PlaceFault → Type 0
HasPlaceCause g new m x fault.Cells = HasNoRoomFor m.arena x × IsEachOnce m.arena.objects
HasPlaceCause g new m x fault.Full = IsFull g new
HasPlaceCause g new m x fault.Memory = Unit {0}
