use Rattle.std.proofs.Common.{◌≡◌, ◌∙◌}
use Rattle.gl_logic.specs.TermOf.{term_of}
use Rattle.gl_translate.specs.Meaning.{Outcome}
use Rattle.gl_translate.specs.Translation.{translation, setting_of, are_in}
use Rattle.gl_translate.specs.Steps.{form_means}
use Rattle.gl_translate.specs.declared.form.Form.TheVariants as form
use Rattle.gl_translate.specs.Answers.{IsTermWith, HasVariablesOf, HasNarrowConstants}
use Rattle.gl_translate.specs.Contexts.{setting_in}
use Rattle.gl_translate.proofs.Outcomes.{gives_at}
use Rattle.gl_translate.proofs.Whole.{whole, if_ok_has, meant_proper, meant_visible, meant_narrow}
use Rattle.gl_translate.proofs.LaterNames.{meant_later}
use Rattle.gl_translate.proofs.translate.term.Goals as goal

pub returns-in-Some-clause-meant : goal.returns-in-Some-clause-meant
returns-in-Some-clause-meant c =
    let place = setting_of c.id_of.new.self c.args.world.now c.args.scope.now.every c.args.scope.now.own in
    gives_at term_of (form_means (setting_in c.in-Some.context) (form.Book c.args.form) (are_in c.insert_all.new.self) 0) (translation c.id_of.new.self c.args.world.now c.args.scope.now c.args.form.now) c.term.result
    (whole (setting_in c.in-Some.context) place c.args.form.now c.insert_all.new.self c.args.scope.now.vars c.new-bound.result c.in-Some.ensures.setting c.new-bound.ensures c.in_ok-insert_all.ensures.all)
    c.term.ensures.meant

pub returns-in-Some-clause-later : goal.returns-in-Some-clause-later
returns-in-Some-clause-later c names x n =
    let old = translation c.id_of.new.self c.args.world.now c.args.scope.now c.args.form.now in
    gives_at term_of old (translation names c.args.world.now c.args.scope.now c.args.form.now) c.term.result
    (meant_later c.id_of.new.self names c.in_ok-unnamed.unnamed.number c.args.world.now c.args.scope.now c.args.form.now c.in_ok-unnamed.ensures.number x n)
    (returns-in-Some-clause-meant c)

pub returns-in-Some-clause-proper : goal.returns-in-Some-clause-proper
returns-in-Some-clause-proper c =
    let old = translation c.id_of.new.self c.args.world.now c.args.scope.now c.args.form.now in
    if_ok_has term_of old c.term.result (IsTermWith c.args.world.now.definitions c.args.scope.now.own) (meant_proper c.id_of.new.self c.args.world.now c.args.scope.now c.args.form.now) (returns-in-Some-clause-meant c)

pub returns-in-Some-clause-variables : goal.returns-in-Some-clause-variables
returns-in-Some-clause-variables c =
    let old = translation c.id_of.new.self c.args.world.now c.args.scope.now c.args.form.now in
    if_ok_has term_of old c.term.result (HasVariablesOf c.id_of.new.self c.args.world.now c.args.scope.now) (meant_visible c.id_of.new.self c.args.world.now c.args.scope.now c.args.form.now) (returns-in-Some-clause-meant c)

pub returns-in-Some-clause-narrow : goal.returns-in-Some-clause-narrow
returns-in-Some-clause-narrow c h k =
    let old = translation c.id_of.new.self c.args.world.now c.args.scope.now c.args.form.now in
    if_ok_has term_of old c.term.result HasNarrowConstants (meant_narrow c.id_of.new.self c.args.world.now c.args.scope.now c.args.form.now h k) (returns-in-Some-clause-meant c)
