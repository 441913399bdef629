use Rattle.std.proofs.Common.{◌≡◌, ap, subst, ◌<◌, List, ◌++◌, map, length, take, arith}
use Rattle.std.proofs.lemmas.List.{length-map, take_all}
use Rattle.lrat_tool.specs.Held.{IsHeld}
use Rattle.lrat_tool.specs.Logs.{LogEntry}
use Rattle.lrat_tool.specs.Parts.{IsPut, entry_at, later}
use Rattle.lrat_tool.proofs.Behind.{later_more}
use Rattle.lrat_tool.proofs.joining.put_entries.Goals as goal

pub loop-k-preserved : goal.loop-k-preserved
loop-k-preserved c =
    let first = c.args.first in
    let lines = c.args.lines in
    let k = c.loop-k.k in
    let new = c.put_entry.new.log in
    λ es ds h g.
    let before = es ++ map (later lines) (take k ds) in
    let inside : k < length ds = omega (arith, c.loop-k-test.true, ap length g.ids, length-map ds (λ (e : LogEntry). e.id)) in
    let put = subst (IsPut first before (entry_at ds k) lines new) c.if-not-branch.false (c.in_ok-put_entry.ensures before ds (c.loop-k.invariant es ds h g) g) in
    subst (λ (xs : List LogEntry). IsHeld first xs new) (later_more lines k es ds inside) put

pub returns : goal.returns
returns c =
    λ es ds h g.
    let all : take c.loop-k.k ds ≡ ds = take_all c.loop-k.k ds (omega (arith, c.loop-k-test.false, ap length g.ids, length-map ds (λ (e : LogEntry). e.id))) in
    subst (λ (xs : List LogEntry). IsHeld c.args.first (es ++ map (later c.args.lines) xs) c.loop-k.log) all (c.loop-k.invariant es ds h g)
