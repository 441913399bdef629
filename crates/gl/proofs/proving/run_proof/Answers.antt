use Rattle.std.proofs.Common.{subst}
use Rattle.sexp_reader.specs.Book.{IsLongAt}
use Rattle.sexp_reader.specs.declared.book.ReadEnd.TheVariants.{TooLong}
use Rattle.book_shelf.specs.Flat.{most_bytes}
use Rattle.gl_decide.specs.Bounds.{bounds_of}
use Rattle.gl.proofs.ProofTold.{long_not_due, unwritten}
use Rattle.gl.proofs.proving.run_proof.Goals as goal

pub returns-in-Ok-clause-written : goal.returns-in-Ok-clause-written
returns-in-Ok-clause-written g c = λ _. record { bytes = c.in-Ok.text.items; told = c.in-Ok.ensures.whole; written = rw c.deref.ensures.value at c.prove_text.ensures.written }

pub returns-in-Err-TooLong-clause-written : goal.returns-in-Err-TooLong-clause-written
returns-in-Err-TooLong-clause-written g c = λ _.
    let proof = c.args.proof.now in
    let bounds = bounds_of proof.limits in
    let held = g.S.Shelf.holds c.args.shelf.now proof.name.now in
    let line = c.in-Err-TooLong.field-0-0 in
    let column = c.in-Err-TooLong.field-0-1 in
    let long : IsLongAt most_bytes held (TooLong line column) = subst (IsLongAt most_bytes held) c.in-Err-TooLong.field-0-is c.in-Err-TooLong.ensures.long in
    record { bytes = long.0; told = long.1; written = c.put_no_proof.ensures.written bounds proof.part long.0 c.args.out.now.stalls (long_not_due bounds long.0 line column long.2) }

pub returns-in-Err-Memory-clause-written : goal.returns-in-Err-Memory-clause-written
returns-in-Err-Memory-clause-written g c = λ _. unwritten (bounds_of c.args.proof.now.limits) c.args.proof.now.part (g.S.Shelf.holds c.args.shelf.now) c.args.proof.now.name.now (g.K.Sink.written c.args.out.now.sink) c.args.out.now.stalls
