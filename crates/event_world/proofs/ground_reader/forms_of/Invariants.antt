use Rattle.std.proofs.Common.{◌≡◌, ◌-◌, ◌≤◌, length, take, drop}
use Rattle.std.specs.Prelude.{fold}
use Rattle.gl_logic.specs.Names.{Extends, with_name}
use Rattle.event_world.specs.PreludeForms.{Spells, AreAround, reading}
use Rattle.event_world.proofs.OpeningTables.{words_behind}
use Rattle.event_world.proofs.ground_reader.forms_of.Given as goal

abbrev pub invariant-loop-place : goal.invariant-loop-place
invariant-loop-place l = record {
  before_end : l.place ≤ l.end;
  within : l.end ≤ length l.text;
  word : (reading (drop l.place l.text)).word ≡ take (l.end - l.place) (drop l.place l.text);
  list : Spells l.texts l.list (reading (drop l.place l.text)).here;
  around : AreAround l.texts l.around.items (reading (drop l.place l.text)).around;
  extends : Extends l.fn.texts l.texts;
  names : l.texts ≡ fold with_name l.fn.texts (words_behind (reading (drop l.place l.text)));
}

abbrev pub decreases-loop-place : goal.decreases-loop-place
decreases-loop-place l = l.place
