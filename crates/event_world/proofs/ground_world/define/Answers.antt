use Rattle.std.proofs.Common.{◌∙◌, ap, sym, subst, ℕ, ◌+◌, length, arith, None}
use Rattle.gl_logic.specs.TermOf.{term_of}
use Rattle.gl_logic.specs.Definition.{Definition}
use Rattle.gl_logic.specs.Named.{AreDifferentNames}
use Rattle.gl_logic.specs.WorldSeen.{WorldSeen}
use Rattle.admission.specs.Admitted.{verdict}
use Rattle.event_world.specs.PreludeRows.{HoldsFirst}
use Rattle.event_world.proofs.PreludeWorlds.{below_all, apart_formals, all_apart, its_name_is_free, is_the_ground_one, is_admitted, its_title, its_variables, holds_more, no_fault}
use Rattle.event_world.proofs.ground_world.define.Goals as goal

pub push-requires-clause-free : goal.push-requires-clause-free
push-requires-clause-free c = its_name_is_free c.args.texts.now _ c.args.name.number c.args.formals c.args.form.now c.requires.next c.is_table.ensures c.args.world.now c.requires.so_far

pub push-requires-clause-formals : goal.push-requires-clause-formals
push-requires-clause-formals c =
    let a = apart_formals c.args.texts.now _ c.args.name.number c.args.formals c.args.form.now c.requires.next c.is_table.ensures in
    subst AreDifferentNames (sym c.in_ok-formals.ensures.formals) (all_apart c.args.formals a)

pub push-requires-clause-same_ground : goal.push-requires-clause-same_ground
push-requires-clause-same_ground c =
    let a = apart_formals c.args.texts.now _ c.args.name.number c.args.formals c.args.form.now c.requires.next c.is_table.ensures in
    let d : Definition = record { name = c.args.name.number; formals = c.in_ok-formals.formals; body = term_of c.in_ok-formals.body; measure = c.in-Ok.measure } in
    is_the_ground_one c.args.texts.now _ c.args.name.number c.args.formals c.args.form.now c.requires.next a (term_of c.in_ok-formals.body) d c.in_ok-formals.ensures.formals c.in_ok-formals.ensures.body

pub unreachable-requires : goal.unreachable-requires
unreachable-requires c =
    let a = apart_formals c.args.texts.now _ c.args.name.number c.args.formals c.args.form.now c.requires.next c.is_table.ensures in
    no_fault _ _ c.in-Err.fault c.in-NotAdmitted.field-0 c.in-NotAdmitted.is (λ q. is_admitted c.args.texts.now _ c.args.name.number c.args.formals c.args.form.now c.requires.next a (term_of c.in_ok-formals.body) c.in_ok-formals.ensures.body c.in-NotAdmitted.field-0
    ((λ j. verdict (sym c.count.ensures.count j) (sym c.in_ok-formals.ensures.formals j) (term_of c.in_ok-formals.body) None) ∙ q)) c.in-Err.ensures.verdict

pub returns-in_ok-push-in-Ok-clause-ok : goal.returns-in_ok-push-in-Ok-clause-ok
returns-in_ok-push-in-Ok-clause-ok c =
    let k = length c.args.world.now.definitions in
    let d : Definition = record { name = c.args.name.number; formals = c.in_ok-formals.formals; body = term_of c.in_ok-formals.body; measure = c.in-Ok.measure } in
    let a = apart_formals c.args.texts.now k c.args.name.number c.args.formals c.args.form.now c.requires.next c.is_table.ensures in
    let l = below_all c.args.texts.now k c.args.name.number c.args.formals c.args.form.now c.requires.next in
    subst (λ (w : WorldSeen). HoldsFirst (length c.args.world.now.definitions + 1) c.body_of.new.texts w) (sym c.in_ok-push-in-Ok.ensures.ok)
    (holds_more c.args.texts.now c.body_of.new.texts k c.args.world.now d (omega (arith, l)) c.body_of.ensures.extends c.requires.so_far
    (is_the_ground_one c.args.texts.now k c.args.name.number c.args.formals c.args.form.now c.requires.next a (term_of c.in_ok-formals.body) d c.in_ok-formals.ensures.formals c.in_ok-formals.ensures.body)
    (its_title c.args.texts.now k c.args.name.number c.args.formals c.args.form.now c.requires.next c.body_of.new.texts c.body_of.ensures.extends)
    (its_variables c.args.texts.now k c.args.name.number c.args.formals c.args.form.now c.requires.next c.body_of.new.texts c.body_of.ensures.extends c.in_ok-formals.formals c.in_ok-formals.ensures.formals)
    (ap (λ (m : ℕ). verdict m c.in_ok-formals.formals (term_of c.in_ok-formals.body) None) (sym c.count.ensures.count) ∙ c.in-Ok.ensures.verdict))
