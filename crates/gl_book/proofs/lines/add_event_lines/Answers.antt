use Rattle.std.proofs.Common.{◌≡◌, ◌++◌, refl, sym, subst}
use Rattle.std.specs.Prelude.{OnOk}
use Rattle.gl_logic.specs.TermOf.{term_of}
use Rattle.event_world.specs.Seen.{event_seen}
use Rattle.event_world.specs.declared.event.Event.{Event}
use Rattle.gl_book.specs.Lines.{event_lines}
use Rattle.gl_book.proofs.lines.add_event_lines.Goals as goal

pub returns-in-Defconst : goal.returns-in-Defconst
returns-in-Defconst c =
    subst (λ (e : Event). OnOk c.add_constant.result (c.add_constant.new.lines ≡ c.args.lines.now ++ event_lines c.args.texts.now (event_seen e) c.args.answer.now)) (sym c.in-Defconst.is) (c.add_constant.ensures (term_of c.in-Defconst.field-1))

pub returns-in-Value : goal.returns-in-Value
returns-in-Value c =
    subst (λ (e : Event). OnOk c.add_value.result (c.add_value.new.lines ≡ c.args.lines.now ++ event_lines c.args.texts.now (event_seen e) c.args.answer.now)) (sym c.in-Value.is) (c.add_value.ensures (term_of c.in-Value.field-0))

pub returns-in-Assert : goal.returns-in-Assert
returns-in-Assert c =
    subst (λ (e : Event). OnOk c.add_assert.result (c.add_assert.new.lines ≡ c.args.lines.now ++ event_lines c.args.texts.now (event_seen e) c.args.answer.now)) (sym c.in-Assert.is) (c.add_assert.ensures c.args.texts.now (term_of c.in-Assert.field-0))

pub returns-in-Memoize : goal.returns-in-Memoize
returns-in-Memoize c =
    subst (λ (e : Event). OnOk c.add_function.result (c.add_function.new.lines ≡ c.args.lines.now ++ event_lines c.args.texts.now (event_seen e) c.args.answer.now)) (sym c.in-Memoize.is) (c.add_function.ensures.memoize refl c.in-Memoize.field-0.number)

pub returns-in-Unmemoize : goal.returns-in-Unmemoize
returns-in-Unmemoize c =
    subst (λ (e : Event). OnOk c.add_function-in-Unmemoize.result (c.add_function-in-Unmemoize.new.lines ≡ c.args.lines.now ++ event_lines c.args.texts.now (event_seen e) c.args.answer.now)) (sym c.in-Unmemoize.is) (c.add_function-in-Unmemoize.ensures.unmemoize refl c.in-Unmemoize.field-0.number)
