-- Objects with names, as the program keeps them.
use Rattle.std.proofs.Common.{◌≡◌, ◌∙◌, ap, sym, ℕ, ◌<◌, List, map, Some, length, arith, subst, slice_get, get_or}
use Rattle.std.specs.Option.{option_map}
use Rattle.std.proofs.lemmas.Option.{slice_get-map}
use Rattle.std.proofs.lemmas.List.{length-map}
use Rattle.std.proofs.lemmas.List.Quantifiers.{position-Some}
use Rattle.std.specs.Prelude.{eqb}
use Rattle.gl_logic.specs.Object.{Object}
use Rattle.gl_logic.specs.Named.{place_of, names_of, object_named}
use Rattle.gl_logic.proofs.Indexes.{read_map, found}
use Rattle.gl_logic.specs.declared.named_trees.NamedTree.{NamedTree}

abbrev pub entry_of : NamedTree → ℕ × Object
entry_of e = (e.name.number, e.tree)

pub tree_at : (items : List NamedTree) (now : List (ℕ × Object)) (i : ℕ) (e : NamedTree) → map entry_of items ≡ now → i < length now → e ≡ get_or items i e → slice_get (map (λ e. e.1) now) i ≡ Some e.tree
tree_at items now i e view h at =
    subst (λ (es : List (ℕ × Object)). slice_get (map (λ e. e.1) es) i ≡ Some e.tree) view
    (slice_get-map (λ e. e.1) (map entry_of items) i ∙ ap (option_map (λ e. e.1)) (read_map entry_of items i e (omega (arith, h, ap length view, length-map items entry_of)) at))

pub tree_named : (items : List NamedTree) (now : List (ℕ × Object)) (name i : ℕ) (e : NamedTree) → map entry_of items ≡ now → place_of (names_of (map entry_of items)) name ≡ Some i → e ≡ get_or items i e → Some e.tree ≡ object_named now name
tree_named items now name i e view place at =
    let p : place_of (names_of now) name ≡ Some i = ap (λ es. place_of (names_of es) name) (sym view) ∙ place in
    let w = position-Some (eqb name) (names_of now) i 0 p in
    sym (found now name i e.tree p (tree_at items now i e view (omega (arith, w.0, length-map now (λ e. e.0))) at))
