use Rattle.std.proofs.Common.{sym, subst, refl, inl}
use Rattle.gl_logic.proofs.GrownTables.{extends_same}
use Rattle.gl_decide.specs.Bounds.{bounds_of}
use Rattle.gl_book.specs.Transcript.{EndsWithList, IsListTranscript}
use Rattle.gl_book.proofs.Ends.{ends_or_nothing, items_grown, list_later}
use Rattle.gl_book.proofs.run.run_library.Goals as goal

pub write_list-requires-clause-numbered : goal.write_list-requires-clause-numbered
write_list-requires-clause-numbered g c κs h = items_grown c.args.texts.now c.new.new.texts c.new.ensures.extends c.args.library.now.items c.requires.numbered

pub write_list-requires-clause-begun : goal.write_list-requires-clause-begun
write_list-requires-clause-begun g c κs h = record { first = c.new.new.texts; grown = extends_same c.new.new.texts; empty = c.in-Ok.ensures.empty; begins = c.in-Ok.ensures.first; can = c.in-Ok.ensures.can_go_on }

pub status_of_run-requires : goal.status_of_run-requires
status_of_run-requires g c = c.write_list.ensures.written.reported

pub returns-clause-written : goal.returns-clause-written
returns-clause-written g c =
    let bounds = bounds_of c.args.limits.now in
    let table = c.args.texts.now in
    let names = c.new.new.texts in
    let book = c.args.library.now in
    let run = ends_or_nothing (IsListTranscript bounds names book.items book.finish) _ _ _ _ c.write_list.result c.write_list.ensures.written in
    subst (EndsWithList bounds table book.items book.finish _ _ _ _) (sym c.status_of_run.ensures.status) (list_later bounds table names book.items book.finish _ _ _ _ _ c.new.ensures.extends run)

pub returns-in_default-clause-written : goal.returns-in_default-clause-written
returns-in_default-clause-written g c = inl (refl, refl)
