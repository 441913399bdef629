use Rattle.std.proofs.Common.{sym, subst, refl}
use Rattle.gl_decide.specs.Bounds.{bounds_of}
use Rattle.gl_book.specs.Transcript.{EndsWithList, IsListTranscript}
use Rattle.book_state.proofs.FirstStates.{still_empty}
use Rattle.gl_book.proofs.Ends.{ends_or_nothing, of_list, of_no_memory}
use Rattle.gl_book.proofs.run.run_book.Goals as goal

pub write_list-written-requires-clause-begun : goal.write_list-written-requires-clause-begun
write_list-written-requires-clause-begun g c κs h =
    let b = c.in-Ok.ensures in
    record { first = c.in-Ok.field-0.texts; grown = c.load.ensures.texts; empty = still_empty c.in-Ok.field-0.texts c.load.new.texts c.load.ensures.texts b.empty; begins = b.begins; can = b.can }

pub status_of_run-requires : goal.status_of_run-requires
status_of_run-requires g c = c.write_list-written.ensures.written.reported

pub returns-in-Ok-load-clause-written : goal.returns-in-Ok-load-clause-written
returns-in-Ok-load-clause-written g c = λ _.
    let bounds = bounds_of c.args.limits.now in
    let names = c.load.new.texts in
    let book = c.in-Ok-load.library in
    let run = ends_or_nothing (IsListTranscript bounds names book.items book.finish) _ _ _ _ c.write_list-written.result c.write_list-written.ensures.written in
    let written = subst (EndsWithList bounds names book.items book.finish _ _ _ _) (sym c.status_of_run.ensures.status) run in
    of_list bounds c.in-Ok.field-0.texts names (g.S.Shelf.holds c.args.shelf.now) c.args.name.now book.items book.finish _ _ _ _ c.status_of_run.result c.in-Ok.ensures.opens c.in-Ok-load.ensures.flat written

pub returns-in_default-clause-written : goal.returns-in_default-clause-written
returns-in_default-clause-written g c = λ _. of_no_memory (bounds_of c.args.limits.now) (g.S.Shelf.holds c.args.shelf.now) c.args.name.now _ _ (g.O.Observer.stalls c.args.out.now) (g.O.Observer.stalls c.args.out.now) refl refl

pub returns-in-Memory-clause-written : goal.returns-in-Memory-clause-written
returns-in-Memory-clause-written g c = λ _. of_no_memory (bounds_of c.args.limits.now) (g.S.Shelf.holds c.args.shelf.now) c.args.name.now _ _ (g.O.Observer.stalls c.args.out.now) (g.O.Observer.stalls c.args.out.now) refl refl
