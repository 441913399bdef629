use Rattle.std.proofs.Common.{◌≡◌, ℕ, Bool, refl}
use Rattle.gl_logic.specs.PrimValue.{prim_of}
use Rattle.sym_objects.specs.Seen.{stands_for}
use Rattle.sym_prims.specs.Frames.{value_of}
use Rattle.sym_prims.proofs.Giving.{applies_of}
use Rattle.sym_prims.proofs.simple.simple.Goals as goal

pub returns : goal.returns
returns g c =
    let m = g.B.Meaning in
    let old = c.args.objs.now in
    record {
      applies = applies_of m old c.rebuild.new.objs c.rebuild.result c.args.task.path (λ a. prim_of c.args.prim (stands_for m old c.args.task.first a) (stands_for m old c.args.task.second a)) (value_of m old c.args.prim c.args.task) c.rebuild.ensures.gives (λ a h. refl);
    }
