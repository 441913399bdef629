use Rattle.std.proofs.Common.{◌≡◌, map}
use Rattle.shape_spec.specs.ShapeOf.{shape_of}
use Rattle.coverage.specs.Spines.{chain}
use Rattle.coverage.proofs.spine.spine_of.Given as goal

abbrev pub invariant-loop-rest : goal.invariant-loop-rest
invariant-loop-rest l = chain (map (λ s. shape_of s.now) l.elements.items) (shape_of l.rest) ≡ shape_of l.fn.shape
