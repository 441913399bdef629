use Rattle.std.proofs.Common.{rules, ◌≢◌, ◌∷◌, []}
use Rattle.sym_objects.specs.Seen.{bits_in}
use Rattle.sym_objects.proofs.BitsOf.{bit_made}
use Rattle.sym_objects.proofs.sobs.Sobs.put_bit.Goals as goal

pub returns-clause-bits : goal.returns-clause-bits
returns-clause-bits g c =
    let other : bits_in c.args.self.now.nodes c.args.rest ≢ c.args.e ∷ [] = search rules in
    bit_made g.B.Meaning c.args.self.now c.add.new.self c.add.result c.args.e c.args.rest c.requires.edge c.requires.live c.requires.bits c.requires.few other c.add.ensures.makes c.add.ensures.constant c.add.ensures.bits
