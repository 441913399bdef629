-- A machine that lends its arena.
use Rattle.std.specs.Prelude.{[]}
use Rattle.std.specs.Borrow.{Lends, MutBor, Fml}
use Rattle.hons_arena.specs.Held.{Held}
use Rattle.hons_arena.specs.contracts.arena.HonsArena as arena
use Rattle.lisp_eval.specs.contracts.machine.Machine.{the_row}
use Rattle.lisp_eval.specs.Machines.{MachineSeen}

-- no call is kept, no list has a table, and the arena is the one that came back
abbrev pub with_arena : MachineSeen → Held → MachineSeen
with_arena m a = record m { arena = a; memos = []; tables = [] }

abbrev pub LendsArena : MutBor MachineSeen → MutBor Held → Fml
LendsArena m r = Lends the_row arena.the_row m r (with_arena m.now)
