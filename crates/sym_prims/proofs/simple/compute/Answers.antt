use Rattle.std.proofs.Common.{◌≡◌, ℕ, Bool, sym, subst}
use Rattle.std.proofs.lemmas.Result.{err_from_is_err_and}
use Rattle.gl_logic.specs.PrimValue.{prim_of}
use Rattle.sym_objects.specs.Seen.{stands_for}
use Rattle.sym_prims.proofs.Giving.{compute_ok, compute_wide}
use Rattle.sym_prims.proofs.simple.compute.Goals as goal

pub returns-in_err-avoid : goal.returns-in_err-avoid
returns-in_err-avoid g c =
    let a = c.integer_bits-a in
    let b = c.integer_bits-b in
    let p = err_from_is_err_and c.from_residual-in_err-avoid.result c.from_residual-in_err-avoid.ensures.1 in
    record {
      applies = rw (p.1, p.2) (compute_wide g.B.Meaning c.args.prim c.args.x c.args.y c.args.objs.now a.new.objs b.new.objs a.result b.result c.requires.prim a.ensures.same b.ensures.same a.ensures.value b.ensures.value
          c.operated.new.objs c.avoid.new.objs c.in_ok-made.made _ c.args.path c.in_ok-made.ensures.operates c.in_err-avoid.ensures.leaves c.in_err-avoid.ensures.cause);
    }

pub returns : goal.returns
returns g c =
    let a = c.integer_bits-a in
    let b = c.integer_bits-b in
    record {
      applies = rw c.lift.ensures (compute_ok g.B.Meaning c.args.prim c.args.x c.args.y c.args.objs.now a.new.objs b.new.objs a.result b.result c.requires.prim a.ensures.same b.ensures.same a.ensures.value b.ensures.value
          c.operated.new.objs c.avoid.new.objs c.integer.new.self c.in_ok-made.made c.integer.result c.args.path c.requires.path c.in_ok-made.ensures.operates c.in_ok-avoid.ensures.leaves c.in_ok-avoid.ensures.never
          c.integer.ensures.makes c.integer.ensures.full);
    }
