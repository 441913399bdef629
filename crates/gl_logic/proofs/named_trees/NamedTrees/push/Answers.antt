use Rattle.std.proofs.Common.{◌≡◌, ◌∙◌, ap, sym, rules, map, length, List, ℕ, subst}
use Rattle.std.proofs.lemmas.List.{length-map, map-append}
use Rattle.gl_logic.specs.Named.{names_of, IsFree}
use Rattle.gl_logic.specs.Object.{Object}
use Rattle.gl_logic.proofs.Indexes.{index_push}
use Rattle.gl_logic.proofs.NamedTrees.{entry_of}
use Rattle.gl_logic.proofs.named_trees.NamedTrees.push.Goals as goal

pub invariant_of-self-2 : goal.invariant_of-self-2
invariant_of-self-2 c =
    let old = c.self.inside.entries.items in
    let items = c.in_ok-push.ensures.items in
    let count : c.len-place.result ≡ length old = search rules in
    let after = ap (λ es. names_of (map entry_of es)) items ∙ (ap names_of (map-append entry_of old _) ∙ map-append (λ (e : ℕ × Object). e.0) (map entry_of old) _) in
    index_push c.self.inside.index c.reserve.new.self c.put.new.self (names_of (map entry_of old)) _ c.args.name.number c.len-place.result c.self.invariant (subst (λ (es : List (ℕ × Object)). IsFree (names_of es) c.args.name.number) (sym c.self.view_is) c.requires) (count ∙ (sym (length-map old entry_of) ∙ sym (length-map (map entry_of old) (λ (e : ℕ × Object). e.0)))) after c.reserve.ensures.same c.put.ensures.places
