use Rattle.std.proofs.Common.{rules, refl, ◌≡◌, IsErr, IsErrOf, Some, None}
use Rattle.hons_arena.specs.Ids.{object_at, ArePartsOf}
use Rattle.fast_alists.specs.declared.fault.AlistFault.TheVariants as fault
use Rattle.fast_alists.specs.Tables.{pair_in}
use Rattle.fast_alists.proofs.Covering.{put_known, put_new}
use Rattle.fast_alists.proofs.Making.{goes_known, goes_err, goes_put, put_table, not_full}
use Rattle.fast_alists.proofs.fork.put_in_front.Goals as goal

pub returns-in_err-extended-in-None-pair-clause-makes :
    goal.returns-in_err-extended-in-None-pair-clause-makes
returns-in_err-extended-in-None-pair-clause-makes c =
    let objects = c.args.arena.now.objects in
    let parts : ArePartsOf objects (object_at objects c.args.element) c.in-Some.key c.in-Some.field-0-1 = search rules in
    let none : pair_in c.args.table.now c.in-Some.key ≡ None = search rules in
    let is_new = put_new objects c.is_live-is_live.ensures.whole.ids c.args.element c.in-Some.key c.in-Some.field-0-1 parts c.requires.element c.args.ans c.args.table.now c.requires.table none in
    let err : IsErr c.from_residual.result = search rules in
    goes_err c.args.arena.now c.cons.new.self c.args.element c.args.ans _ c.in_err-extended-in-None-pair.ensures.interns is_new c.from_residual.result err (λ f. refl)

pub returns-in_err-put-in-None-pair-clause-makes :
    goal.returns-in_err-put-in-None-pair-clause-makes
returns-in_err-put-in-None-pair-clause-makes c =
    let objects = c.args.arena.now.objects in
    let parts : ArePartsOf objects (object_at objects c.args.element) c.in-Some.key c.in-Some.field-0-1 = search rules in
    let none : pair_in c.args.table.now c.in-Some.key ≡ None = search rules in
    let is_new = put_new objects c.is_live-is_live.ensures.whole.ids c.args.element c.in-Some.key c.in-Some.field-0-1 parts c.requires.element c.args.ans c.args.table.now c.requires.table none in
    let err : IsErr c.from_residual-in_err-put-in-None-pair.result = search rules in
    let memory : IsErrOf c.from_residual-in_err-put-in-None-pair.result fault.Memory = search rules in
    goes_err c.args.arena.now c.cons.new.self c.args.element c.args.ans _ c.in_ok-extended-in-None-pair.ensures.interns is_new c.from_residual-in_err-put-in-None-pair.result err (not_full c.from_residual-in_err-put-in-None-pair.result memory)

pub returns-in-Some-pair-clause-makes : goal.returns-in-Some-pair-clause-makes
returns-in-Some-pair-clause-makes c =
    let objects = c.args.arena.now.objects in
    let parts : ArePartsOf objects (object_at objects c.args.element) c.in-Some.key c.in-Some.field-0-1 = search rules in
    let held : pair_in c.args.table.now c.in-Some.key ≡ Some c.in-Some-pair.field-0 = search rules in
    goes_known c.args.arena.now c.args.element c.args.ans (put_known objects c.is_live-is_live.ensures.whole.ids c.args.element c.in-Some.key c.in-Some.field-0-1 parts c.requires.element c.args.ans c.in-Some-pair.field-0 c.args.table.now c.requires.table held) c.requires.table.live

pub returns-in_ok-put-in-None-pair-clause-makes : goal.returns-in_ok-put-in-None-pair-clause-makes
returns-in_ok-put-in-None-pair-clause-makes c =
    let objects = c.args.arena.now.objects in
    let parts : ArePartsOf objects (object_at objects c.args.element) c.in-Some.key c.in-Some.field-0-1 = search rules in
    let none : pair_in c.args.table.now c.in-Some.key ≡ None = search rules in
    let is_new = put_new objects c.is_live-is_live.ensures.whole.ids c.args.element c.in-Some.key c.in-Some.field-0-1 parts c.requires.element c.args.ans c.args.table.now c.requires.table none in
    goes_put c.args.arena.now c.cons.new.self c.args.element c.args.ans c.in_ok-extended-in-None-pair.extended c.in_ok-extended-in-None-pair.ensures.interns is_new

pub returns-in_ok-put-in-None-pair-clause-table : goal.returns-in_ok-put-in-None-pair-clause-table
returns-in_ok-put-in-None-pair-clause-table c =
    let objects = c.args.arena.now.objects in
    let parts : ArePartsOf objects (object_at objects c.args.element) c.in-Some.key c.in-Some.field-0-1 = search rules in
    let none : pair_in c.args.table.now c.in-Some.key ≡ None = search rules in
    let is_new = put_new objects c.is_live-is_live.ensures.whole.ids c.args.element c.in-Some.key c.in-Some.field-0-1 parts c.requires.element c.args.ans c.args.table.now c.requires.table none in
    put_table c.args.arena.now c.cons.new.self c.args.element c.in-Some.key c.in-Some.field-0-1 c.args.ans c.in_ok-extended-in-None-pair.extended c.in_ok-extended-in-None-pair.ensures.interns is_new c.requires.element parts c.args.table.now c.put.new.self c.requires.table c.in_ok-put-in-None-pair.ensures.ok
