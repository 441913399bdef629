use Rattle.gl_decide.specs.Bounds.{bounds_of}
use Rattle.book_state.proofs.FirstStates.{later_first}
use Rattle.gl_book.specs.Transcript.{IsListTranscript}
use Rattle.gl_book.proofs.Ends.{list_told, walked}
use Rattle.gl_book.proofs.run.write_list.Goals as goal

pub walk-requires-clause-empty : goal.walk-requires-clause-empty
walk-requires-clause-empty g c κs h = c.requires.begun.empty

pub walk-requires-clause-can_go_on : goal.walk-requires-clause-can_go_on
walk-requires-clause-can_go_on g c κs h = c.requires.begun.can

pub returns-clause-written : goal.returns-clause-written
returns-clause-written g c =
    let names = c.args.texts.now in
    let bounds = bounds_of c.args.run.now.limits.now in
    let book = c.args.library.now in
    let b = c.requires.begun in
    let told = list_told bounds names book c.args.state c.is_table.ensures b.empty c.requires.numbered (later_first b.first names c.args.state c.is_table.ensures b.grown b.begins) in
    walked (IsListTranscript bounds names book.items book.finish) c.args.run.now.last_only _ _ _ _ names bounds book c.args.state told c.walk.result c.walk.ensures.ok c.walk.ensures.front
