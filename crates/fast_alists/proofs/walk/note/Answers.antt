use Rattle.std.proofs.Common.{rules, ◌≡◌, Some, None}
use Rattle.hons_arena.specs.Ids.{object_at, ArePartsOf}
use Rattle.fast_alists.specs.Tables.{pair_in}
use Rattle.fast_alists.proofs.Agreeing.{on_ok_then}
use Rattle.fast_alists.proofs.Covering.{noted_parts, skipped_parts}
use Rattle.fast_alists.proofs.walk.note.Goals as goal

pub returns-in-Some-pair : goal.returns-in-Some-pair
returns-in-Some-pair c list rest h =
    let objects = c.args.arena.now.objects in
    let parts : ArePartsOf objects (object_at objects c.args.element) c.in-Some.key c.in-Some.field-0-1 = search rules in
    let held : pair_in c.args.table.now c.in-Some.key ≡ Some c.in-Some-pair.field-0 = search rules in
    skipped_parts objects c.is_live-is_live.ensures.whole.ids c.args.element c.in-Some.key c.in-Some.field-0-1 parts c.requires c.args.table.now c.in-Some-pair.field-0 held list rest h

pub returns-in-None-pair : goal.returns-in-None-pair
returns-in-None-pair c =
    let objects = c.args.arena.now.objects in
    let parts : ArePartsOf objects (object_at objects c.args.element) c.in-Some.key c.in-Some.field-0-1 = search rules in
    let none : pair_in c.args.table.now c.in-Some.key ≡ None = search rules in
    on_ok_then c.put.result (λ puts list rest h. noted_parts objects c.is_live-is_live.ensures.whole.ids c.args.element c.in-Some.key c.in-Some.field-0-1 parts c.requires c.args.table.now c.put.new.self none puts list rest h) c.put.ensures.ok
