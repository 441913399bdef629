use Rattle.std.proofs.Common.{◌∙◌}
use Rattle.gl_book.specs.Entry.{stalls_of}
use Rattle.gl_book.proofs.Stalled.{kept_whole}
use Rattle.gl_book.proofs.put_event.put_event.Goals as goal

pub returns-in_default-put_lines-clause-kept_front : goal.returns-in_default-put_lines-clause-kept_front
returns-in_default-put_lines-clause-kept_front g c = kept_whole (stalls_of c.args.answer) (g.O.Observer.stalls c.args.out.now) (g.O.Observer.stalls c.put_lines.new.out) (c.put_lines.ensures.unstalled ∙ c.in-Ok-answered.ensures.kept)
