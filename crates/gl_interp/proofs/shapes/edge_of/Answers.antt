use Rattle.std.proofs.Common.{arith}
use Rattle.shape_spec.specs.Indices.{indices_of}
use Rattle.gl_interp.proofs.ShapeParts.{rank_below}
use Rattle.gl_interp.proofs.shapes.edge_of.Goals as goal

pub bounds-edges-rank : goal.bounds-edges-rank
bounds-edges-rank c = let l = rank_below (indices_of c.args.b.now) c.args.index c.requires.among in omega (arith, l, c.rank.ensures, c.requires.count)
