use Rattle.gl_book.proofs.Readings.{is_opening}
use Rattle.gl_book.proofs.opening.begin.Goals as goal

pub returns-in-Ok : goal.returns-in-Ok
returns-in-Ok c = record {
  opens = is_opening c.in_ok-texts.texts c.new-2.new.texts c.in_ok-texts.ensures c.in-Ok.ensures.names;
  empty = c.in-Ok.ensures.empty;
  begins = c.in-Ok.ensures.first;
  can = c.in-Ok.ensures.can_go_on;
}
