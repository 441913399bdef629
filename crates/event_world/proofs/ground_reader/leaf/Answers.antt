use Rattle.std.proofs.Common.{◌≡◌, sym, subst, None}
use Rattle.gl_logic.specs.Object.{Object}
use Rattle.event_world.specs.PreludeForms.{Spells, digit_in}
use Rattle.event_world.specs.PreludeForms.{leaf as leaf_read}
use Rattle.event_world.proofs.PreludeTables.{leaf_symbol}
use Rattle.event_world.proofs.OpeningTables.{symbol_read}
use Rattle.event_world.proofs.ground_reader.leaf.Goals as goal

pub returns-clause-ok : goal.returns-clause-ok
returns-clause-ok c =
    let d : digit_in c.args.word.now ≡ None = cc in
    subst (λ (x : Object). Spells c.id_of.new.self x (leaf_read c.args.word.now)) (sym c.symbol.ensures) (leaf_symbol c.id_of.new.self c.args.word.now _ d c.in_ok-name.ensures.number)

pub returns-clause-names : goal.returns-clause-names
returns-clause-names c =
    let d : digit_in c.args.word.now ≡ None = cc in
    symbol_read c.args.texts.now c.id_of.new.self c.args.word.now d c.in_ok-name.ensures.ok
