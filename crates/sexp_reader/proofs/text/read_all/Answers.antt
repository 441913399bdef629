use Rattle.std.proofs.Common.{◌∙◌, sym, ap, arith, length}
use Rattle.sexp_reader.specs.Places.{behind}
use Rattle.sexp_reader.specs.Gathers.{stopped}
use Rattle.gl_logic.proofs.GrownTables.{extends_then}
use Rattle.sexp_reader.proofs.Reading.{ends_bad, ends_clean, goes_on}
use Rattle.sexp_reader.proofs.Gathering.{one_more, one_piece}
use Rattle.sexp_reader.proofs.Fits.{fits_behind}
use Rattle.sexp_reader.proofs.text.read_all.Goals as goal

pub returns-in-Some-clause-reads : goal.returns-in-Some-clause-reads
returns-in-Some-clause-reads c later x =
    let l = c.loop-stack in
    l.invariant.whole later c.bad.result.list c.bad.result.end x
    (ends_bad later l.stack l.place l.rest.now c.in_ok-piece.piece c.in_ok-piece.ensures.piece c.in-Some.flaw c.bad.result.list c.bad.result.end (sym c.in-Some.is ∙ c.flaw.ensures) c.bad.ensures.list c.bad.ensures.end)

pub returns-in_default-2-clause-reads : goal.returns-in_default-2-clause-reads
returns-in_default-2-clause-reads c later x =
    let l = c.loop-stack in
    let none = sym c.in_ok-count.ensures.count ∙ c.in_default-2.is in
    let same = c.in_ok-count.ensures.none none in
    l.invariant.whole later c.clean.result.list c.clean.result.end (extends_then _ _ _ c.in_ok-count.ensures.kept x)
    (ends_clean later l.stack l.place l.rest.now c.in_ok-piece.piece c.in_ok-piece.ensures.piece c.clean.result.list c.clean.result.end (sym c.in_default.is ∙ c.flaw.ensures) none
    (c.clean.ensures.list ∙ ap (λ s. s.forms) same.0) c.clean.ensures.end)

pub loop-stack-preserved : goal.loop-stack-preserved
loop-stack-preserved c =
    let l = c.loop-stack in
    record {
      whole = λ later forms end x h.
          l.invariant.whole later forms end (extends_then _ _ _ c.in_ok-count.ensures.kept x)
          (goes_on later l.stack l.place l.rest.now c.in_ok-piece.piece c.in_ok-piece.ensures.piece c.take.new.self c.in-Some-2.count c.behind-place.result c.split_at.result.1.now forms end (c.in_ok-count.ensures.step later x)
          (sym c.in_ok-count.ensures.count ∙ c.in-Some-2.is) (c.behind-place.ensures ∙ ap (behind l.place) c.split_at.ensures.front) c.split_at.ensures.back h);
      gathers = λ later g.
          l.invariant.gathers later
          (one_more l.rest.now c.split_at.result.1.now c.in_ok-piece.piece c.in-Some-2.count l.texts c.take.new.texts later c.in_ok-piece.ensures.piece (sym c.in_ok-count.ensures.count ∙ c.in-Some-2.is) c.split_at.ensures.back c.in_ok-count.ensures.asked g);
      kept = extends_then _ _ _ l.invariant.kept c.in_ok-count.ensures.kept;
      fits = rw c.behind-place.ensures (fits_behind l.place c.split_at.result.0.now (length c.split_at.result.1.now) (omega arith, omega arith, omega arith));
    }

pub returns-in_default-2-clause-gathers : goal.returns-in_default-2-clause-gathers
returns-in_default-2-clause-gathers c = let l = c.loop-stack in l.invariant.gathers c.take.new.texts (one_piece l.rest.now c.in_ok-piece.piece l.texts c.take.new.texts c.in_ok-piece.ensures.piece c.in_ok-count.ensures.adds)

pub returns-in_err-count-clause-gathers : goal.returns-in_err-count-clause-gathers
returns-in_err-count-clause-gathers c = let l = c.loop-stack in l.invariant.gathers c.take.new.texts (one_piece l.rest.now c.in_ok-piece.piece l.texts c.take.new.texts c.in_ok-piece.ensures.piece c.take.ensures.adds)

pub returns-in_err-piece-clause-gathers : goal.returns-in_err-piece-clause-gathers
returns-in_err-piece-clause-gathers c = let l = c.loop-stack in l.invariant.gathers l.texts (stopped l.rest.now l.texts)

pub returns-in-Some-clause-gathers : goal.returns-in-Some-clause-gathers
returns-in-Some-clause-gathers c = let l = c.loop-stack in l.invariant.gathers l.texts (stopped l.rest.now l.texts)
