use Rattle.std.proofs.Common.{rules, ◌≡◌, ◌∙◌, ap, ◌++◌, ◌∷◌, []}
use Rattle.sexp_reader.proofs.Stacks.{on_ok, closed, closes_prefix, closes_nothing}
use Rattle.sexp_reader.proofs.stack.Stack.close.Goals as goal

pub returns : goal.returns
returns c =
    on_ok c.give.result (λ give names. closed names c.args.self.now c.args.place c.give.new.self c.pop.new.self.items c.in-Some-List.list c.in_ok-tree-in-Some-List.tree
    (c.in-Some-List.ensures.items ∙ ap (λ f. c.pop.new.self.items ++ f ∷ []) c.in-Some-List.field-0-is) c.in_ok-tree-in-Some-List.ensures (give names) c.requires) c.give.ensures.step

pub unreachable-requires : goal.unreachable-requires
unreachable-requires c = closes_prefix c.args.self.now c.pop.new.self.items c.in-Some-Prefix.field-0 c.in-Some-Prefix.field-0-0 c.in-Some-Prefix.ensures.items c.in-Some-Prefix.field-0-is c.requires

pub unreachable-requires-in-None : goal.unreachable-requires-in-None
unreachable-requires-in-None c = let e : c.args.self.now.frames.items ≡ [] = search rules in closes_nothing c.args.self.now e c.requires
