use Rattle.std.proofs.Common.{◌≡◌, ℕ, Bool, sym, ap}
use Rattle.gl_logic.specs.Object.{Cons}
use Rattle.gl_logic.specs.PrimValue.{prim_of}
use Rattle.sym_objects.specs.Seen.{stands_for}
use Rattle.sym_prims.specs.Frames.{value_of}
use Rattle.sym_prims.proofs.Giving.{applies_of}
use Rattle.sym_prims.proofs.applying.work.Goals as goal

pub returns-in-Cons : goal.returns-in-Cons
returns-in-Cons g c =
    let m = g.B.Meaning in
    let old = c.args.objs.now in
    let t = c.args.task in
    record {
      applies = applies_of m old c.cons.new.objs c.cons.result t.path (λ a. Cons (stands_for m old t.first a) (stands_for m old t.second a)) (value_of m old c.args.prim t) c.cons.ensures.gives
          (λ a h. ap (λ p. prim_of p (stands_for m old t.first a) (stands_for m old t.second a)) (sym c.in-Cons.is));
    }
