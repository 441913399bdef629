use Rattle.std.proofs.Common.{◌≡◌, [], drop}
use Rattle.std.specs.Prelude.{fold}
use Rattle.gl_logic.specs.Names.{Extends, with_name}
use Rattle.event_world.specs.PreludeTexts.{ground_texts}
use Rattle.event_world.specs.PreludeRows.{HoldsFirst}
use Rattle.event_world.specs.OpeningNames.{with_ground_words}
use Rattle.event_world.proofs.OpeningTables.{words_of_texts}
use Rattle.event_world.proofs.ground_world.prelude.Given as goal

abbrev pub invariant-loop-text : goal.invariant-loop-text
invariant-loop-text l = record {
  holds : HoldsFirst l.text-index l.texts l.world;
  extends : Extends l.fn.texts l.texts;
  empty : with_name l.texts [] ≡ l.texts;
  names : fold with_name l.texts (words_of_texts (drop l.text-index ground_texts)) ≡ with_ground_words l.fn.texts;
}
