use Rattle.std.proofs.Common.{◌≡◌, [], ◌∷◌, ◌++◌, take}
use Rattle.std.specs.Fmt.{decimal}
use Rattle.std.specs.List.{flat_map}
use Rattle.lrat_tool.proofs.written.append_hints.Given as goal

abbrev pub invariant-loop-hint : goal.invariant-loop-hint
invariant-loop-hint l = l.out.items ≡ l.fn.out.items ++ flat_map (λ x. decimal x ++ 32 ∷ []) (take l.hint-index l.hint-items)
