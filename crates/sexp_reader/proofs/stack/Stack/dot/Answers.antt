use Rattle.std.proofs.Common.{rules, ◌≡◌, ◌∙◌, ap, refl, ◌++◌, ◌∷◌, []}
use Rattle.sexp_reader.specs.declared.stack.ListEnd.TheVariants.{Dotted}
use Rattle.sexp_reader.specs.declared.stack.OpenList.{OpenList}
use Rattle.sexp_reader.proofs.Stacks.{dotted, dots_prefix, dots_nothing}
use Rattle.sexp_reader.proofs.stack.Stack.dot.Goals as goal

pub returns : goal.returns
returns c names =
    let l : OpenList = c.in-Some-List.list in
    let m : OpenList = record { elements = l.elements; end = Dotted } in
    dotted names c.args.self.now c.args.place (record { forms = c.args.self.now.forms; begin = c.args.self.now.begin; frames = c.push.new.self }) c.pop.new.self.items l m refl refl
    (c.in-Some-List.ensures.items ∙ ap (λ f. c.pop.new.self.items ++ f ∷ []) c.in-Some-List.field-0-is) c.in_ok-push-in-Some-List.ensures.items refl refl c.requires

pub unreachable-requires : goal.unreachable-requires
unreachable-requires c = dots_prefix c.args.self.now c.pop.new.self.items c.in-Some-Prefix.field-0 c.in-Some-Prefix.field-0-0 c.in-Some-Prefix.ensures.items c.in-Some-Prefix.field-0-is c.requires

pub unreachable-requires-in-None : goal.unreachable-requires-in-None
unreachable-requires-in-None c = let e : c.args.self.now.frames.items ≡ [] = search rules in dots_nothing c.args.self.now e c.requires
