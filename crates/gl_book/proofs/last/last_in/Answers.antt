use Rattle.std.proofs.Common.{sym, subst}
use Rattle.std.specs.Prelude.{IfOk}
use Rattle.sexp_reader.specs.declared.ends.End.{End}
use Rattle.book_shelf.specs.Listed.{finish_of}
use Rattle.gl_decide.specs.Bounds.{bounds_of}
use Rattle.gl_book.specs.LastSteps.{IsWalkedTo}
use Rattle.gl_book.proofs.Lasts.{bad_there}
use Rattle.gl_book.proofs.last.last_in.Goals as goal

pub returns-in-Clean-clause-walked : goal.returns-in-Clean-clause-walked
returns-in-Clean-clause-walked c =
    subst (λ (end : End). IfOk c.last_kept.result (IsWalkedTo c.args.texts.now (bounds_of c.args.limits.now) c.args.state.now c.args.forms.now.list (finish_of end) c.last_kept.new.state.world)) (sym c.in-Clean.is) c.last_kept.ensures.walked

pub returns-in-Bad-clause-walked : goal.returns-in-Bad-clause-walked
returns-in-Bad-clause-walked c = bad_there c.args.texts.now (bounds_of c.args.limits.now) c.args.state.now c.args.forms.now.list c.args.forms.now.end c.in-Bad.field-0 c.in-Bad.field-1 c.in-Bad.field-2 c.in-Bad.is c.args.state.now.world c.requires.can_go_on
