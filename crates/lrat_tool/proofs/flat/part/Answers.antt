use Rattle.std.proofs.Common.{arith}
use Rattle.lrat_tool.proofs.Flats.{part_ends, part_is}
use Rattle.lrat_tool.proofs.flat.part.Goals as goal

pub slice_bounds-result-count : goal.slice_bounds-result-count
slice_bounds-result-count c = (part_ends c.args.places.now c.args.literals.now c.requires.places c.args.k c.requires.within).0

pub slice_bounds-result-end : goal.slice_bounds-result-end
slice_bounds-result-end c = (part_ends c.args.places.now c.args.literals.now c.requires.places c.args.k c.requires.within).1

pub returns : goal.returns
returns c = part_is c.args.places.now c.args.literals.now c.requires.places c.args.k c.requires.within

pub slice_bounds-result-start : goal.slice_bounds-result-start
slice_bounds-result-start c = let p = part_ends c.args.places.now c.args.literals.now c.requires.places c.args.k c.requires.within in omega (arith, p.0, p.1)
