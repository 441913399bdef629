use Rattle.std.proofs.Common.{◌∙◌, ap, refl, ◌++◌, ◌∷◌, []}
use Rattle.sexp_reader.specs.declared.stack.ListEnd.TheVariants.{Plain}
use Rattle.sexp_reader.specs.declared.stack.OpenList.{OpenList}
use Rattle.sexp_reader.specs.declared.stack.Frame.TheVariants as frame
use Rattle.sexp_reader.proofs.Stacks.{opened}
use Rattle.sexp_reader.proofs.stack.Stack.open.Goals as goal

pub returns : goal.returns
returns c names =
    let l : OpenList = record { elements = c.new.result; end = Plain } in
    opened names c.args.self.now c.args.place (record { forms = c.begin.new.self.forms; begin = c.begin.new.self.begin; frames = c.push.new.self }) l
    c.begin.ensures.forms c.begin.ensures.begin (c.in_ok-push.ensures.items ∙ ap (λ f. f.items ++ frame.List l ∷ []) c.begin.ensures.frames) c.new.ensures.items refl c.requires
