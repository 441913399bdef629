use Rattle.std.specs.Io.KnownBytes.{Keeps}
use Rattle.command_line.proofs.adapters.read_some.Given as goal

-- an interrupted call reads nothing
abbrev pub invariant-loop : goal.invariant-loop
invariant-loop g l = Keeps (g.F.Read.remaining l.fn.file) (g.F.Read.remaining l.file)
