use Rattle.std.proofs.Common.{refl}
use Rattle.gl_decide.specs.Bounds.{bounds_of}
use Rattle.gl_book.specs.Transcript.{IsTranscript}
use Rattle.gl_book.proofs.Ends.{walked, text_told, nothing_written}
use Rattle.gl_book.proofs.run.write_text.Goals as goal

pub walk-written-requires-clause-empty : goal.walk-written-requires-clause-empty
walk-written-requires-clause-empty g c κs h = c.in-Ok.ensures.read.empty

pub walk-written-requires-clause-can_go_on : goal.walk-written-requires-clause-can_go_on
walk-written-requires-clause-can_go_on g c κs h = c.in-Ok.ensures.can

pub returns-clause-written : goal.returns-clause-written
returns-clause-written g c =
    let o = c.in-Ok.field-0 in
    let book = c.in-Ok-alone.book in
    let bounds = bounds_of c.args.run.now.limits.now in
    let text = c.args.text.now in
    let told = text_told bounds text o.texts o.forms.list o.forms.end book c.in-Ok-alone.ensures.items c.in-Ok-alone.ensures.finish c.requires c.in-Ok.ensures.read o.state c.in-Ok.ensures.begins in
    walked (IsTranscript bounds text) c.args.run.now.last_only _ _ _ _ o.texts bounds book o.state told c.walk-written.result c.walk-written.ensures.ok c.walk-written.ensures.front

pub returns-in_default-clause-written : goal.returns-in_default-clause-written
returns-in_default-clause-written g c = record { ends = nothing_written (bounds_of c.args.run.now.limits.now) c.args.text.now c.args.run.now.last_only _ _ (g.O.Observer.stalls c.args.out.now) (g.O.Observer.stalls c.args.out.now) refl refl; reported = tt }

pub returns-in_default-alone-clause-written : goal.returns-in_default-alone-clause-written
returns-in_default-alone-clause-written g c = record { ends = nothing_written (bounds_of c.args.run.now.limits.now) c.args.text.now c.args.run.now.last_only _ _ (g.O.Observer.stalls c.args.out.now) (g.O.Observer.stalls c.args.out.now) refl refl; reported = tt }
