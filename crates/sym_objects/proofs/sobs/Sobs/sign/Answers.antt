use Rattle.sym_objects.proofs.BitsOf.{sign_made}
use Rattle.sym_objects.proofs.sobs.Sobs.sign.Goals as goal

pub returns-clause-bits : goal.returns-clause-bits
returns-clause-bits g c = sign_made g.B.Meaning c.args.self.now c.add.new.self c.add.result c.args.e c.requires.edge c.add.ensures.makes c.add.ensures.constant c.add.ensures.bits
