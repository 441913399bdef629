-- What the workers of a phase share, and what they give back, names no thread.
use Rattle.std.proofs.Crossing.{crosses}
use denote.Param.Send.{IsSend, IsSync, sendable}
use denote.Param.SendFields.{declared_sync, variants_send, variants_sync}
use Rattle.gl_logic.proofs.def.Measure.TheSendSync as measure
use Rattle.gl_logic.proofs.ids.FnId.TheSendSync as function
use Rattle.gl_logic.proofs.ids.TextId.TheSendSync as text
use Rattle.gl_logic.proofs.name_index.NameIndex.TheSendSync as index
use Rattle.gl_logic.proofs.names.Names.TheSendSync as names
use Rattle.gl_logic.proofs.prim.Primitive.TheSendSync as primitive
use Rattle.gl_logic.proofs.term.Term.TheLaws.TheKnot as term
use Rattle.gl_logic.proofs.tree.Tree.TheLaws.TheKnot as tree
use Rattle.gl_logic.specs.contracts.def.Def as Def
use Rattle.gl_logic.specs.contracts.defs.Defs as Defs
use Rattle.gl_logic.specs.contracts.term.Term as Term
use Rattle.gl_logic.specs.contracts.named_trees.NamedTrees as NamedTrees
use Rattle.gl_logic.specs.contracts.world.World as World
use Rattle.shape_spec.proofs.fn_set.FnSet.TheSendSync as functions
use Rattle.shape_spec.proofs.shape.Shape.TheLaws.TheKnot as shape
use Rattle.shape_spec.proofs.theorem.Mode.TheSendSync as mode
use Rattle.shape_spec.specs.contracts.theorem.Thm as Thm
use Rattle.event_world.specs.contracts.event.Event as Event
use Rattle.gl_cases.specs.contracts.param.ParamThm as ParamThm
use Rattle.gl_decide.specs.contracts.verdict.Verdict as Verdict
use Rattle.gl_book.specs.contracts.answer.Answer as Answer
use Rattle.gl_book.specs.contracts.cases.CasesVerdict as CasesVerdict
use Rattle.gl_cases.specs.contracts.thms.Thms as Thms

ruleset parts = (sendable, crosses, term.crosses, tree.crosses, shape.crosses, text.the_sync, text.the_field_sync, function.the_sync, function.the_field_sync, primitive.the_sync, primitive.the_field_sync, names.the_sync, measure.the_sync, functions.the_sync, mode.the_sync, mode.the_field_sync)

term_sync : IsSync Term.the_row
term_sync = search parts depth 40

def_sync : IsSync Def.the_row
def_sync = declared_sync Def.the_type (search parts depth 40, (search parts depth 40, (search parts depth 40, (search parts depth 40, tt))))

defs_sync : IsSync Defs.the_row
defs_sync = let t = def_sync in search (sendable, crosses) depth 40

trees_sync : IsSync NamedTrees.the_row
trees_sync = search (parts, index.the_sync) depth 40

pub world_sync : IsSync World.the_row
world_sync =
    let a = def_sync in
    let b = trees_sync in
    search (parts, index.the_sync) depth 40

pub thm_sync : IsSync Thm.the_row
thm_sync =
    declared_sync Thm.the_type
    (search parts depth 40, (search parts depth 40, (search parts depth 40, (search parts depth 40, (search parts depth 40, (search parts depth 40, (search parts depth 40, (search parts depth 40, tt))))))))

thms_sync : IsSync Thms.the_row
thms_sync = let t = thm_sync in search (sendable, crosses) depth 40

param_sync : IsSync ParamThm.the_row
param_sync =
    let a = thm_sync in
    let b = thms_sync in
    declared_sync ParamThm.the_type (search parts depth 40, (search parts depth 40, tt))

pub event_sync : IsSync Event.the_row
event_sync =
    let b = def_sync in
    let c = defs_sync in
    let d = thm_sync in
    let e = param_sync in
    variants_sync Event.enum
    (tt, ((search parts depth 40, tt), ((search parts depth 40, tt), ((search parts depth 40, (search parts depth 40, tt)), ((search parts depth 40, tt), ((search parts depth 40, tt), ((search parts depth 40, tt), ((search parts depth 40, tt), ((search parts depth 40, tt), ((search parts depth 40, tt), ((search parts depth 40, tt), ((search parts depth 40, tt), ((search parts depth 40, tt), tt)))))))))))))

-- ---- what a worker gives back
ruleset back = (sendable, crosses, term.crosses, tree.crosses)

verdict_send : IsSend Verdict.the_row
verdict_send = variants_send Verdict.enum (tt, (tt, ((search back depth 60, tt), ((search back depth 60, tt), ((search back depth 60, (search back depth 60, tt)), ((search back depth 60, (search back depth 60, tt)), ((search back depth 60, (search back depth 60, tt)), ((search back depth 60, (search back depth 60, tt)), ((search back depth 60, tt), ((search back depth 60, tt), (tt, tt)))))))))))

cases_send : IsSend CasesVerdict.the_row
cases_send =
    let v = verdict_send in
    variants_send CasesVerdict.enum (tt, (tt, ((search back depth 60, tt), ((search back depth 60, tt), ((search back depth 60, tt), ((search back depth 60, (search back depth 60, tt)), tt))))))

pub answer_send : IsSend Answer.the_row
answer_send =
    let v = verdict_send in
    let w = cases_send in
    variants_send Answer.enum (tt, ((search back depth 60, tt), ((search back depth 60, tt), ((search back depth 60, tt), ((search back depth 60, tt), ((search back depth 60, tt), ((search back depth 60, tt), tt)))))))
