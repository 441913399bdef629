use Rattle.gl_book.specs.Walk.{refusal_at, refused}
use Rattle.gl_book.specs.declared.refusal.RefusalCode.TheVariants as code
use Rattle.gl_book.proofs.last.take_form.Goals as goal

pub returns-in_default : goal.returns-in_default
returns-in_default c =
    let form = c.args.form.now in
    let fault = c.in-Err.fault in
    record {
      steps = (refusal_at form (code.Event fault), λ items end. refused c.args.state.now form items end fault (c.in-Err.ensures.meant c.in_default.not-Memory));
      texts = c.event.ensures.texts;
    }
