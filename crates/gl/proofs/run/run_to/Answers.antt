use Rattle.std.proofs.Common.{ap, sym, map, string_bytes, [], Option, Some, None}
use Rattle.std.specs.Prelude.{IfNone}
use Rattle.command_line.specs.Adapters.{WriterSeen}
use Rattle.gl_book.specs.declared.transcript.Transcript.{Transcript}
use Rattle.gl_words.specs.Words.{order_of}
use Rattle.gl.proofs.Moved.{run_moved}
use Rattle.gl.proofs.run.run_to.Goals as goal

-- what follows where nothing is known
none_then : {A P Q : Type 0} (o : Option A) → (P → Q) → IfNone o P → IfNone o Q
none_then None f p = f p
none_then (Some x) f p = tt

pub returns-clause-headline : goal.returns-clause-headline
returns-clause-headline g c =
    let r = c.run-status.ensures in
    let contents = g.W.Write.contents in
    let order = order_of (map string_bytes c.args.words.now) in
    run_moved order (g.S.Shelf.holds c.args.shelf.now) c.run-status.new.out.stalls c.run-status.result
    {old = contents c.new.result.writer} {old' = contents c.args.writer} {new = contents c.run-status.new.out.sink.writer} {new' = contents c.into_writer.result} {before = c.new-2.result} {before' = []}
    (ap (λ (s : WriterSeen g.row.W.Denot). contents s.writer) c.new.ensures) (ap contents (sym c.into_writer.ensures)) c.new-2.ensures
    (record {
      usage = r.usage;
      no_command = r.no_command;
      usage_told = r.usage_line;
      usage_front = r.usage_front;
      usage_memory = none_then order (λ h e. ap (λ (t : Transcript (WriterSeen g.row.W.Denot)). contents t.sink.writer) (h e)) r.usage_memory;
      unstalled = r.unstalled;
      written = r.written;
      unwritten = r.unwritten;
      none_added = r.none_added;
    })
