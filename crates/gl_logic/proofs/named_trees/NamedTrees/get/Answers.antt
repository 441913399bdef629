use Rattle.std.proofs.Common.{◌≡◌, ◌∙◌, sym, ap, Some, None}
use Rattle.gl_logic.specs.Named.{names_of, place_of, object_named}
use Rattle.gl_logic.proofs.Indexes.{not_found}
use Rattle.gl_logic.proofs.NamedTrees.{tree_named}
use Rattle.gl_logic.proofs.named_trees.NamedTrees.get.Goals as goal

pub returns-in-Some-clause-value : goal.returns-in-Some-clause-value
returns-in-Some-clause-value c =
    tree_named c.self.inside.entries.items c.args.self.now c.args.name.number c.in-Some.place c.index.result.now c.self.view_is (sym (c.self.invariant c.args.name.number) ∙ (sym c.get.ensures ∙ c.in-Some.is)) c.index.ensures

pub returns-in-Some-clause-free : goal.returns-in-Some-clause-free
returns-in-Some-clause-free c =
    let p : place_of (names_of c.args.self.now) c.args.name.number ≡ Some c.in-Some.place = ap (λ es. place_of (names_of es) c.args.name.number) (sym c.self.view_is) ∙ (sym (c.self.invariant c.args.name.number) ∙ (sym c.get.ensures ∙ c.in-Some.is)) in
    ((λ e. absurd cc), (λ e. absurd cc))

pub returns-in-None-clause-value : goal.returns-in-None-clause-value
returns-in-None-clause-value c =
    sym (ap (λ es. object_named es c.args.name.number) (sym c.self.view_is) ∙ not_found _ c.args.name.number (sym (c.self.invariant c.args.name.number) ∙ (sym c.get.ensures ∙ c.in-None.is)))

pub returns-in-None-clause-free : goal.returns-in-None-clause-free
returns-in-None-clause-free c =
    let p : place_of (names_of c.args.self.now) c.args.name.number ≡ None = ap (λ es. place_of (names_of es) c.args.name.number) (sym c.self.view_is) ∙ (sym (c.self.invariant c.args.name.number) ∙ (sym c.get.ensures ∙ c.in-None.is)) in
    ((λ e. p), (λ e. cc))
