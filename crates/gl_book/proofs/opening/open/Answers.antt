use Rattle.book_state.proofs.FirstStates.{later_first}
use Rattle.gl_book.proofs.Readings.{read_there}
use Rattle.gl_book.proofs.opening.open.Goals as goal

pub returns-in-Ok : goal.returns-in-Ok
returns-in-Ok c =
    let b = c.in_ok-texts.ensures in
    let forms = c.in-Ok.forms in
    record {
      read = read_there _ c.forms.new.texts c.args.text.now forms.list forms.end b.opens b.empty c.forms.ensures.gathers c.forms.ensures.kept c.forms.ensures.table c.in-Ok.ensures.reads c.in-Ok.ensures.numbered;
      begins = later_first _ c.forms.new.texts _ c.forms.ensures.table c.forms.ensures.kept b.begins;
      can = b.can;
    }
