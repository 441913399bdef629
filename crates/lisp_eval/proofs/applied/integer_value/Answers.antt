use Rattle.std.proofs.Common.{◌∙◌, ap, refl, to_z-of_z}
use Rattle.std.specs.Int.{w128}
use Rattle.gl_logic.specs.Object.{Int}
use Rattle.hons_arena.proofs.Placing.{adds_none}
use Rattle.lisp_eval.proofs.applied.integer_value.Goals as goal

pub returns-in-Some : goal.returns-in-Some
returns-in-Some c =
    let objects = c.args.arena.now.objects in
    record {
      value = (c.in-Some.ensures.live objects, c.in-Some.ensures.value objects ∙ ap Int (to_z-of_z {w = w128} {z = c.args.i} c.ranges.i));
      objects = adds_none (Int c.args.i) objects;
      limit = refl;
      whole = c.requires;
      lacks = λ e. absurd cc;
    }
