use Rattle.hons_arena.specs.Ids.{object_at, ArePartsOf}
use Rattle.std.proofs.Common.{rules}
use Rattle.fast_alists.proofs.Covering.{key_test}
use Rattle.fast_alists.proofs.walk.has_key.Goals as goal

pub returns-in-Some : goal.returns-in-Some
returns-in-Some c =
    let objects = c.args.arena.now.objects in
    let p : ArePartsOf objects (object_at objects c.args.element) c.in-Some.first c.in-Some.field-0-1 = search rules in
    key_test (object_at objects c.args.key) (object_at objects c.args.element) (object_at objects c.in-Some.first) c.same.result p.whole p.first.1 c.same.ensures.objects.0 c.same.ensures.objects.1
