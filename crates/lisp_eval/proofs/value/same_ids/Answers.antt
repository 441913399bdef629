use Rattle.std.proofs.lemmas.Bool.Decides.{same_from_decides}
use Rattle.gl_logic.specs.ObjectEq.{object_eq}
use Rattle.gl_logic.proofs.Equality.{equal_decides}
use Rattle.hons_arena.specs.Ids.{object_at}
use Rattle.lisp_eval.proofs.value.same_ids.Goals as goal

pub returns : goal.returns
returns c =
    let x = object_at c.args.arena.now.objects c.args.a in
    let y = object_at c.args.arena.now.objects c.args.b in
    same_from_decides c.same.result (object_eq x y) c.same.ensures.objects (equal_decides x y)
