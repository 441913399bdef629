use Rattle.std.proofs.Common.{◌≡◌, ℕ, Bool, map}
use Rattle.gl_logic.specs.PrimValue.{prim_of, prim_value}
use Rattle.sym_objects.specs.Seen.{stands_for}
use Rattle.sym_prims.specs.Frames.{value_of}
use Rattle.sym_prims.proofs.Arguments.{arguments_value}
use Rattle.sym_prims.proofs.Giving.{applies_then}
use Rattle.sym_prims.proofs.Leaving.{leaves_none}
use Rattle.sym_prims.proofs.applying.apply.Goals as goal

pub returns : goal.returns
returns g c =
    let m = g.B.Meaning in
    let old = c.args.objs.now in
    record {
      applies = applies_then m old old c.work.new.objs c.work.result c.args.path _ (λ a. prim_value c.args.prim (map (λ x. stands_for m old x a) c.args.args.now)) (leaves_none m old c.requires.whole) c.requires.path c.work.ensures.applies
          (λ a h. arguments_value c.args.prim (λ x. stands_for m old x a) c.args.args.now (record { number = 0 }) c.requires.count);
    }
