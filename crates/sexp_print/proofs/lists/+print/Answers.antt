use Rattle.std.proofs.Common.{◌∙◌, ap, sym, subst, rules, arith, length, ◌<◌, ◌≤◌, ◌+◌, ◌-◌, ◌++◌, List}
use Rattle.std.proofs.lemmas.List.{append-nil}
use Rattle.std.proofs.lemmas.Result.{on_ok_weaker, on_err_weaker}
use Rattle.gl_logic.specs.Object.{Object, nil}
use Rattle.gl_logic.specs.Lists.{elements_of, tail_of, conses, IsAtom, size_of}
use Rattle.gl_logic.proofs.Parts.{tail_is_atom, most_elements}
use Rattle.sexp_print.specs.Printed.{rest_printed, inside_printed}
use Rattle.sexp_print.proofs.Begins.{begins_put, begins_puts, begins_trans}
use Rattle.sexp_print.proofs.Cons.{some_elements, printed_whole}
use Rattle.sexp_print.proofs.Steps.{first_step, next_step, closed}
use Rattle.sexp_print.proofs.lists.+print.Goals as goal
use denote.Param.Weighed.{most}

pub append_elements-loop-left-init : goal.append_elements-loop-left-init
append_elements-loop-left-init t c = record {
  within = omega (arith, c.requires);
  begins = begins_put _ _ _ c.in_ok-append.ensures.ok;
  comes = λ tail. first_step c.args.texts.now c.args.elements.now (length c.args.elements.now - 1) _ tail c.args.out.now.items _ (omega (arith, c.requires)) c.index-elements-left.is c.in_ok-append.ensures.ok;
}

pub append_elements-loop-left-preserved : goal.append_elements-loop-left-preserved
append_elements-loop-left-preserved t c = record {
  within = omega (arith, c.loop-left.invariant.within);
  begins = begins_puts _ _ _ _ (begins_puts _ _ _ _ c.loop-left.invariant.begins c.in_ok-append_bytes.ensures.ok) c.in_ok-append-2.ensures.ok;
  comes = λ tail. next_step c.args.texts.now c.args.elements.now (c.loop-left.left - 1) c.loop-left.left _ tail c.loop-left.out.items _ _ _ (omega (arith, c.loop-left-test.true)) (omega (arith, c.loop-left.invariant.within)) c.index-elements-left-in-loop-left.is (c.loop-left.invariant.comes tail) c.in_ok-append_bytes.ensures.ok c.in_ok-append-2.ensures.ok;
}

pub append_list-append_elements-requires : goal.append_list-append_elements-requires
append_list-append_elements-requires t c =
    let falls : most (λ y. size_of y + 1) c.elements.result.now ≤ size_of c.args.list.now = subst (λ (xs : List Object). most (λ y. size_of y + 1) xs ≤ size_of c.args.list.now) (sym c.elements.ensures) (most_elements c.args.list.now) in (
      omega (arith, falls, c.decreases),
      subst (λ (xs : List Object). 0 < length xs) (sym c.elements.ensures) (some_elements c.args.list.now c.requires),
    )

pub append_list-append_tail-requires : goal.append_list-append_tail-requires
append_list-append_tail-requires t c = subst IsAtom (sym c.tail.ensures) (tail_is_atom c.args.list.now)

pub append_list-returns-in_err-append_tail-clause-err : goal.append_list-returns-in_err-append_tail-clause-err
append_list-returns-in_err-append_tail-clause-err t c =
    let one = begins_put c.args.out.now.items c.append_bytes.new.out.items _ c.in_ok-append_bytes.ensures.ok in
    let all = sym (append-nil c.append_elements.new.out.items) ∙ c.in_ok-append_elements.ensures.ok nil in
    let two = begins_trans _ _ _ one (begins_put c.append_bytes.new.out.items c.append_elements.new.out.items _ all) in
    on_err_weaker c.from_residual-in_err-append_tail.result (begins_trans c.args.out.now.items c.append_elements.new.out.items c.append_tail.new.out.items two) (search (rules, c.in_err-append_tail.ensures.err))

pub append_list-returns-clause-ok : goal.append_list-returns-clause-ok
append_list-returns-clause-ok t c =
    let names = c.args.texts.now in
    let x = c.args.list.now in
    let elements = ap (λ xs. c.append_bytes.new.out.items ++ inside_printed names (conses xs (tail_of x))) c.elements.ensures in
    let tail = ap (λ y. c.append_elements.new.out.items ++ rest_printed names y) c.tail.ensures in
    on_ok_weaker c.append_bytes-2.result (λ last.
    closed names x (inside_printed names (conses (elements_of x) (tail_of x))) (rest_printed names (tail_of x)) c.args.out.now.items c.append_bytes.new.out.items c.append_elements.new.out.items c.append_tail.new.out.items c.append_bytes-2.new.out.items
    c.in_ok-append_bytes.ensures.ok
    (c.in_ok-append_elements.ensures.ok (tail_of x) ∙ elements)
    (c.in_ok-append_tail.ensures.ok ∙ tail)
    last
    ∙ ap (λ xs. c.args.out.now.items ++ xs) (sym (printed_whole names x c.requires))) c.append_bytes-2.ensures.ok
