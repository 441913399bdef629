use Rattle.std.proofs.Common.{◌≡◌, ◌∙◌, ◌<◌, ◌≤◌, ap, sym, subst, arith, length}
use Rattle.gl_logic.specs.Object.{Object, nil}
use Rattle.gl_logic.specs.Lists.{conses, size_of, size-conses}
use Rattle.gl_logic.specs.Kind.{kind_of}
use Rattle.gl_logic.specs.declared.tree.TreeKind.TheVariants as kind
use Rattle.gl_translate.specs.Translation.{meaning}
use Rattle.gl_translate.specs.Steps.{weight}
use Rattle.gl_translate.specs.Contexts.{setting_in}
use Rattle.gl_translate.proofs.Forward.{takes_at}
use Rattle.gl_translate.proofs.WholeLists.{improper_list, below_more, some_conses}
use Rattle.gl_translate.proofs.context.Context.list_step.Goals as goal

pub parts_step-requires : goal.parts_step-requires
parts_step-requires c = some_conses c.in-Some.parts.now (ap kind_of (sym c.in-Some.ensures.proper) ∙ c.requires)

pub returns-in-Some-clause-takes : goal.returns-in-Some-clause-takes
returns-in-Some-clause-takes c =
    let s = setting_in c.args.self.now in
    takes_at s c.parts_step.result (ap (meaning s) (sym c.in-Some.ensures.proper)) c.parts_step.ensures.takes

pub returns-in-Some-clause-below : goal.returns-in-Some-clause-below
returns-in-Some-clause-below c =
    let x = c.args.form.now in
    let es = c.in-Some.parts.now in
    let all : weight es ≤ size_of x = subst (λ (y : Object). weight es ≤ size_of y) (sym c.in-Some.ensures.proper) (size-conses es nil).1 in
    below_more (weight es) (size_of x) c.parts_step.result all c.parts_step.ensures.below

pub returns-in-None-clause-takes : goal.returns-in-None-clause-takes
returns-in-None-clause-takes c ne =
    let s = setting_in c.args.self.now in
    improper_list s c.args.form.now c.requires (c.in-None.ensures.meanings s)
