use Rattle.std.proofs.Common.{◌∙◌, sym, subst, ℕ, take, List}
use Rattle.gl_base.specs.Outside.{Grows}
use Rattle.gl_base.proofs.Growth.{grows-then}
use Rattle.event_world.specs.Seen.{event_seen}
use Rattle.gl_book.specs.Entry.{stalls_of}
use Rattle.gl_book.specs.Lines.{event_lines}
use Rattle.gl_book.specs.Stops.{told_before}
use Rattle.gl_book.proofs.Joined.{on_err}
use Rattle.gl_book.proofs.Puts.{err_then, front_first, front_second, ok_then}
use Rattle.gl_book.proofs.Stalled.{kept_whole}
use Rattle.gl_book.proofs.Told.{told_before_split}
use Rattle.gl_book.proofs.put_event.put_job.Goals as goal

pub returns-in_err-put_event-clause-front : goal.returns-in_err-put_event-clause-front
returns-in_err-put_event-clause-front g c =
    let last = c.args.last_only in
    let xs = event_lines c.args.texts.now (event_seen c.args.job.now.event) c.args.answer in
    let ys = c.args.job.now.behind in
    let old = g.O.Observer.written c.args.out.now in
    let new = g.O.Observer.written c.put_event.new.out in
    on_err _ (subst (λ (bs : List ℕ). (n : ℕ) × Grows old new (take n bs)) (sym (told_before_split last xs ys)) (front_first old new new (told_before last xs) (told_before last ys) c.in_err-put_event.ensures.front))

pub returns-clause-ok : goal.returns-clause-ok
returns-clause-ok g c =
    let last = c.args.last_only in
    let xs = event_lines c.args.texts.now (event_seen c.args.job.now.event) c.args.answer in
    let ys = c.args.job.now.behind in
    let old = g.O.Observer.written c.args.out.now in
    let mid = g.O.Observer.written c.put_event.new.out in
    let new = g.O.Observer.written c.put_behind.new.out in
    ok_then c.put_behind.result c.put_behind.ensures.ok (λ h. subst (λ (bs : List ℕ). Grows old new bs) (sym (told_before_split last xs ys)) (grows-then old mid new (told_before last xs) (told_before last ys) c.in_ok-put_event.ensures.ok h))

pub returns-clause-front : goal.returns-clause-front
returns-clause-front g c =
    let last = c.args.last_only in
    let xs = event_lines c.args.texts.now (event_seen c.args.job.now.event) c.args.answer in
    let ys = c.args.job.now.behind in
    let old = g.O.Observer.written c.args.out.now in
    let mid = g.O.Observer.written c.put_event.new.out in
    let new = g.O.Observer.written c.put_behind.new.out in
    err_then c.put_behind.result c.put_behind.ensures.front (λ h. subst (λ (bs : List ℕ). (n : ℕ) × Grows old new (take n bs)) (sym (told_before_split last xs ys)) (front_second old mid new (told_before last xs) (told_before last ys) c.in_ok-put_event.ensures.ok h))

pub returns-clause-kept_front : goal.returns-clause-kept_front
returns-clause-kept_front g c = on_err c.put_behind.result (kept_whole (stalls_of c.args.answer) (g.O.Observer.stalls c.args.out.now) (g.O.Observer.stalls c.put_behind.new.out) (c.put_behind.ensures.unstalled ∙ c.in_ok-put_event.ensures.kept))
