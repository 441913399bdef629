use Rattle.gl_logic.specs.TermOf.{term_of}
use Rattle.coverage.specs.Heads.{subject_of}
use Rattle.coverage.specs.Dealt.{lists_in}
use Rattle.coverage.proofs.Dealing.{on_ok_mapped, if_found, prim_found, call_found, more_dealt}
use Rattle.coverage.proofs.parts.+deal.Goals as goal

pub deal-returns-in_ok-deal-in-If-2 : goal.deal-returns-in_ok-deal-in-If-2
deal-returns-in_ok-deal-in-If-2 t c =
    on_ok_mapped c.deal-in-If-2.result (λ h.
    if_found c.args.count (subject_of c.args.subject.now) (term_of c.args.conjunct.now) c.args.part.now c.in-If.test c.in-If.then c.in-If.otherwise c.deref.result.now c.deref-in-If.result.now c.deref-in-If-2.result.now
    (lists_in c.args.lists.now) (lists_in c.deal.new.lists) (lists_in c.deal-in-If.new.lists) (lists_in c.deal-in-If-2.new.lists)
    c.in-If.is c.deref.ensures c.deref-in-If.ensures c.deref-in-If-2.ensures c.in_ok-deal-in-If.ensures c.in_ok-deal-in-If-2.ensures h) c.deal-in-If-2.ensures

pub deal-returns-in_ok-put-in-Prim : goal.deal-returns-in_ok-put-in-Prim
deal-returns-in_ok-put-in-Prim t c =
    on_ok_mapped c.deal_all.result (λ h.
    prim_found c.args.count (subject_of c.args.subject.now) (term_of c.args.conjunct.now) c.args.part.now c.in-Prim.field-0 c.in-Prim.terms c.as_slice.result.now c.element_in.result
    (lists_in c.args.lists.now) (lists_in c.put.new.lists) (lists_in c.deal_all.new.lists)
    c.in-Prim.is c.as_slice.ensures.value c.element_in.ensures.element c.in_ok-put-in-Prim.ensures h) c.deal_all.ensures

pub deal-returns-in_ok-put-in-Call : goal.deal-returns-in_ok-put-in-Call
deal-returns-in_ok-put-in-Call t c =
    on_ok_mapped c.deal_all-in-Call.result (λ h.
    call_found c.args.count (subject_of c.args.subject.now) (term_of c.args.conjunct.now) c.args.part.now c.in-Call.field-0 c.in-Call.terms c.as_slice-in-Call.result.now c.element_in-in-Call.result
    (lists_in c.args.lists.now) (lists_in c.put-in-Call.new.lists) (lists_in c.deal_all-in-Call.new.lists)
    c.in-Call.is c.as_slice-in-Call.ensures.value c.element_in-in-Call.ensures.element c.in_ok-put-in-Call.ensures h) c.deal_all-in-Call.ensures

pub deal_all-loop-part-preserved : goal.deal_all-loop-part-preserved
deal_all-loop-part-preserved t c =
    more_dealt c.args.count (subject_of c.args.subject.now) (term_of c.args.conjunct.now) c.args.parts.now c.loop-part.part-index c.part-item.result (lists_in c.args.lists.now) (lists_in c.loop-part.lists) (lists_in c.deal.new.lists)
    c.loop-part-test.true c.part-item.is c.loop-part.invariant c.in_ok-deal.ensures
