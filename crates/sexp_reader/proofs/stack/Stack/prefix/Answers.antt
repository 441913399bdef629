use Rattle.std.proofs.Common.{◌∙◌, ap, ◌++◌, ◌∷◌, []}
use Rattle.sexp_reader.specs.declared.stack.Frame.TheVariants as frame
use Rattle.sexp_reader.proofs.Stacks.{prefixed}
use Rattle.sexp_reader.proofs.stack.Stack.prefix.Goals as goal

pub returns-clause-step : goal.returns-clause-step
returns-clause-step c later x =
    prefixed later c.args.self.now c.args.place (record { forms = c.begin.new.self.forms; begin = c.begin.new.self.begin; frames = c.push.new.self }) c.args.mark c.in_ok-symbol.symbol
    c.begin.ensures.forms c.begin.ensures.begin (c.in_ok-push.ensures.items ∙ ap (λ f. f.items ++ frame.Prefix c.in_ok-symbol.symbol ∷ []) c.begin.ensures.frames) (c.in_ok-symbol.ensures.symbol later x) c.requires
