use Rattle.std.proofs.Common.{arith}
use Rattle.event_world.proofs.PreludeTables.{if_made, word_there, spells_more}
use Rattle.event_world.proofs.OpeningTables.{word_more}
use Rattle.event_world.proofs.ground_reader.with_word.Goals as goal

pub returns-clause-ok : goal.returns-clause-ok
returns-clause-ok c =
    λ r h. if_made c.pair.result _ _ c.pair.ensures (word_there _ c.args.word.now c.in_ok-first.first c.args.list r (omega arith) c.in_ok-first.ensures.ok (spells_more c.args.texts.now _ c.args.list r c.in_ok-first.ensures.extends h))

pub returns-clause-names : goal.returns-clause-names
returns-clause-names c =
    λ names r h. if_made c.pair.result _ _ c.pair.ensures (word_more names c.args.texts.now _ c.args.word.now r (omega arith) h c.in_ok-first.ensures.names)
