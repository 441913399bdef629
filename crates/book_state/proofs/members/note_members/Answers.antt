use Rattle.std.proofs.Common.{◌≡◌, ◌∙◌, ◌-◌, ◌+◌, ◌≤◌, List, ap, sym, subst, length, drop, get_or, slice_get, Some, arith}
use Rattle.gl_logic.specs.Object.{Object}
use Rattle.gl_logic.specs.Lists.{elements_of, tail_of}
use Rattle.gl_logic.specs.Definition.{Definition}
use Rattle.gl_logic.specs.DefinitionOf.{definition_of}
use Rattle.gl_logic.specs.WorldSeen.{WorldSeen, with_event}
use Rattle.event_world.specs.EventWords.{behind_head}
use Rattle.event_world.specs.NextState.{with_members}
use Rattle.book_state.proofs.Noting.{Going, begin_noting, nothing_left, one_noted, tail_atom}
use Rattle.book_state.proofs.members.note_members.Goals as goal

pub loop-number-init : goal.loop-number-init
loop-number-init c =
    let w = c.args.world.now in
    let n = c.args.first.number in
    let x = c.args.form.now in
    let e : c.saturating_sub-left.result ≡ length (elements_of x) - 1 = omega (arith, ap length c.elements-elements.ensures) in
    subst (Going w.definitions (elements_of x) (tail_of x) (with_members w (drop n w.definitions) (behind_head x)) w n) (sym e) (begin_noting w n x c.requires.free)

pub returns-then-left-eq0-clause-ok : goal.returns-then-left-eq0-clause-ok
returns-then-left-eq0-clause-ok c =
    let z : c.loop-number.left ≡ 0 = omega arith in
    nothing_left c.args.world.now.definitions (elements_of c.args.form.now) (tail_of c.args.form.now) _ c.loop-number.world c.loop-number.number c.loop-number.left c.loop-number.invariant z (tail_atom c.args.form.now)

pub note-requires : goal.note-requires
note-requires c =
    let at : slice_get c.args.world.now.definitions c.loop-number.number ≡ Some (definition_of c.def.result.now) = ap (λ (ds : List Definition). slice_get ds c.loop-number.number) (sym c.loop-number.invariant.same) ∙ c.def.ensures.found in
    c.loop-number.invariant.free c.loop-number.number (definition_of c.def.result.now) at (omega arith)

pub loop-number-preserved : goal.loop-number-preserved
loop-number-preserved c =
    let ds = c.args.world.now.definitions in
    let n = c.args.first.number in
    let es = elements_of c.args.form.now in
    let w = c.loop-number.world in
    let i = c.loop-number.number in
    let left = c.loop-number.left in
    let x = c.index-elements-left.result in
    let d = definition_of c.def.result.now in
    let at : slice_get ds i ≡ Some d = ap (λ (gs : List Definition). slice_get gs i) (sym c.loop-number.invariant.same) ∙ c.def.ensures.found in
    let is : x ≡ get_or es (left - 1) x = c.index-elements-left.is ∙ ap (λ (xs : List Object). get_or xs (left - 1) x) c.elements-elements.ensures in
    let e : c.note.new.self ≡ with_event w d.name x = c.in_ok-note.ensures.ok ∙ ap (with_event w d.name) c.in_ok-copy.ensures in
    let later : n ≤ i = omega arith in
    let some : 1 ≤ left = omega arith in
    subst (λ (v : WorldSeen). Going ds es (tail_of c.args.form.now) (with_members c.args.world.now (drop n ds) (behind_head c.args.form.now)) v (i + 1) (left - 1)) (sym e)
    (one_noted ds n c.requires.different es (tail_of c.args.form.now) _ w i left c.loop-number.invariant d x later at some is)
