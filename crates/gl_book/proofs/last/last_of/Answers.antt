use Rattle.std.proofs.Common.{sym, subst, ℕ, List, Option}
use Rattle.book_shelf.specs.Listed.{finish_of}
use Rattle.event_world.specs.Seen.{theorem_seen}
use Rattle.gl_decide.specs.Bounds.{bounds_of}
use Rattle.gl_book.specs.Lasts.{IsLastOf}
use Rattle.gl_book.specs.LastSteps.{IsWalkedTo}
use Rattle.gl_book.specs.declared.last_step.Kept.{Kept}
use Rattle.gl_book.proofs.Lasts.{last_there, none_there, ready_there, total_there}
use Rattle.gl_book.proofs.last.last_of.Goals as goal

pub last_in-kept-requires-clause-empty : goal.last_in-kept-requires-clause-empty
last_in-kept-requires-clause-empty c = c.in_ok-texts.ensures.read.empty

pub world_at-world-requires : goal.world_at-world-requires
world_at-world-requires c =
    let o = c.in_ok-texts.field-0 in
    total_there o.texts (bounds_of c.args.limits.now) o.state o.forms.list (finish_of o.forms.end) c.last_in-kept.new.state.world _ c.in-Ok-Some.kept c.in-Ok-Some.field-0-is c.in-Ok-Some.ensures.walked

pub returns-in-Ok-Some-clause-last : goal.returns-in-Ok-Some-clause-last
returns-in-Ok-Some-clause-last c =
    let o = c.in_ok-texts.field-0 in
    let bounds = bounds_of c.args.limits.now in
    let kept = c.in-Ok-Some.kept in
    let world = c.world_at-world.result in
    let last = last_there o.texts bounds c.args.text.now o.forms.list o.forms.end o.state c.requires c.in_ok-texts.ensures.read c.in_ok-texts.ensures.begins c.last_in-kept.new.state.world _ kept c.in-Ok-Some.field-0-is c.in-Ok-Some.ensures.walked world c.world_at-world.ensures in
    subst (λ (ns : List (List ℕ)). IsLastOf ns bounds c.args.text.now world (theorem_seen kept.thm)) (sym c.last_in-kept.ensures.texts) last

pub returns-in-Ok-Some-clause-ready : goal.returns-in-Ok-Some-clause-ready
returns-in-Ok-Some-clause-ready c =
    let o = c.in_ok-texts.field-0 in
    ready_there o.texts (bounds_of c.args.limits.now) o.state o.forms.list (finish_of o.forms.end) c.last_in-kept.new.state.world _ c.in-Ok-Some.kept c.in-Ok-Some.field-0-is c.in-Ok-Some.ensures.walked c.world_at-world.result c.world_at-world.ensures

pub returns-in-Ok-None-clause-last : goal.returns-in-Ok-None-clause-last
returns-in-Ok-None-clause-last c =
    let o = c.in_ok-texts.field-0 in
    let bounds = bounds_of c.args.limits.now in
    let now = c.last_in-kept.new.state.world in
    let walked = subst (λ (k : Option Kept). IsWalkedTo o.texts bounds o.state o.forms.list (finish_of o.forms.end) now k) c.in-Ok-None.field-0-is c.in-Ok-None.ensures.walked in
    (o.texts, none_there o.texts bounds c.args.text.now o.forms.list o.forms.end o.state c.requires c.in_ok-texts.ensures.read c.in_ok-texts.ensures.begins now walked)
