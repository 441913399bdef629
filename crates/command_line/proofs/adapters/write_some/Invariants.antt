use Rattle.std.specs.Io.KnownBytes.{Keeps}
use Rattle.command_line.proofs.adapters.write_some.Given as goal

-- an interrupted call takes nothing
abbrev pub invariant-loop : goal.invariant-loop
invariant-loop g l = Keeps (g.W.Write.contents l.fn.writer) (g.W.Write.contents l.writer)
