use Rattle.std.proofs.Common.{subst, ℕ, List, []}
use Rattle.book_shelf.specs.declared.item.Item.{Item}
use Rattle.book_shelf.specs.Loads.{LoadsBook}
use Rattle.book_shelf.proofs.Numbered.{flat_numbered}
use Rattle.book_shelf.proofs.Shelves.{flat_from}
use Rattle.book_shelf.proofs.loader.load.Goals as goal

pub returns-clause-flat : goal.returns-clause-flat
returns-clause-flat g c =
    let here = g.S.Shelf.holds c.args.shelf.now in
    let first = c.args.texts.now in
    let table = c.load_book.new.texts in
    let name = c.args.name.now in
    let now = c.load_book.new.loading in
    let end = c.in_ok-finish.finish in
    let a = subst (λ (xs : List Item). LoadsBook first table here c.new-2.result c.new-3.result xs name now.taken now.items end) c.new.ensures c.in_ok-finish.ensures.lists in
    let b = subst (λ (xs : List (List ℕ)). LoadsBook first table here xs c.new-3.result [] name now.taken now.items end) c.new-2.ensures a in
    flat_from first table here name now.taken now.items end (subst (λ (xs : List (List ℕ)). LoadsBook first table here [] xs [] name now.taken now.items end) c.new-3.ensures b)

pub returns-clause-numbered : goal.returns-clause-numbered
returns-clause-numbered g c =
    flat_numbered c.args.texts.now c.load_book.new.texts (g.S.Shelf.holds c.args.shelf.now) c.args.name.now c.load_book.new.loading.items c.in_ok-finish.finish (returns-clause-flat g c)
