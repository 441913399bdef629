use Rattle.std.proofs.Common.{◌≡◌, ◌∙◌, ap, sym, ℕ, length, true, false, arith}
use Rattle.gl_logic.specs.DefinitionOf.{definition_of}
use Rattle.gl_logic.specs.IsAdmissible.{recursive_calls}
use Rattle.event_world.specs.PartsOf.{is_empty}
use Rattle.event_world.specs.CallsOf.{has_call, is_between}
use Rattle.event_world.proofs.EmptyCalls.{empty_whole, empty_more, empty_not, empty_end}
use Rattle.event_world.proofs.clique.have_no_calls.Goals as goal

pub loop-i-init : goal.loop-i-init
loop-i-init c = empty_whole c.args.first.number c.args.defs.now

pub loop-i-preserved : goal.loop-i-preserved
loop-i-preserved c =
    let first = c.args.first.number in
    let ds = c.args.defs.now in
    let d = definition_of c.at-def.result.now in
    let none : has_call (is_between first (length ds)) d.body ≡ false = ap (λ (k : ℕ). has_call (is_between first k) d.body) (sym c.len-count.ensures) ∙ (sym c.has_call.ensures ∙ c.if-has_call.false) in
    empty_more first ds c.loop-i.i d (is_empty (recursive_calls first ds)) c.at-def.ensures none c.loop-i.invariant

pub returns-then-has_call : goal.returns-then-has_call
returns-then-has_call c =
    let first = c.args.first.number in
    let ds = c.args.defs.now in
    let d = definition_of c.at-def.result.now in
    let some : has_call (is_between first (length ds)) d.body ≡ true = ap (λ (k : ℕ). has_call (is_between first k) d.body) (sym c.len-count.ensures) ∙ (sym c.has_call.ensures ∙ c.if-has_call.true) in
    empty_not first ds c.loop-i.i d (is_empty (recursive_calls first ds)) c.at-def.ensures some c.loop-i.invariant

pub returns : goal.returns
returns c = empty_end c.args.first.number c.args.defs.now c.loop-i.i (is_empty (recursive_calls c.args.first.number c.args.defs.now)) (omega (arith, c.len-count.ensures, c.loop-i-test.false)) c.loop-i.invariant
