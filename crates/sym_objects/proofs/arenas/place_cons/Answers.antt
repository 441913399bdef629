use Rattle.std.proofs.Common.{false}
use Rattle.sym_objects.proofs.ToArena.{cons_placed}
use Rattle.sym_objects.proofs.arenas.place_cons.Goals as goal

pub cons-requires : goal.cons-requires
cons-requires g c = record { first = (c.requires.first.is (λ n. false)).0; rest = (c.requires.second.is (λ n. false)).0 }

pub returns-clause-places : goal.returns-clause-places
returns-clause-places g c v =
    cons_placed g.B.Meaning c.args.objs.now c.args.arena.now c.cons.new.self c.args.frame.first c.args.frame.second c.args.frame.whole c.args.first c.args.second c.cons.result c.requires.cons c.requires.first c.requires.second c.cons.ensures.interns v
