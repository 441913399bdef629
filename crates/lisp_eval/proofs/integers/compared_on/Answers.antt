use Rattle.std.proofs.Common.{rules, arith, ap, sym, ◌≡◌, ◌∙◌, length, Some, slice_get, FitsSigned, to_z, of_z, to_z-of_z}
use Rattle.gl_logic.proofs.CellCounts.{at_index}
use Rattle.std.specs.Int.{w64}
use Rattle.gl_logic.specs.TermOf.{term_of, terms_of}
use Rattle.lisp_eval.proofs.DirectFound.{two_terms}
use Rattle.lisp_eval.proofs.IntegerGives.{compared}
use Rattle.gl_logic.proofs.TermForms.{prim_term}
use Rattle.lisp_eval.proofs.integers.compared_on.Goals as goal

pub returns-in_ok-holds-in-Prim : goal.returns-in_ok-holds-in-Prim
returns-in_ok-holds-in-Prim c ds fs =
    let ts = c.as_slice-terms.result.now in
    let t = c.index-terms-0.result in
    let u = c.index-terms-1.result in
    let two : length ts ≡ 2 = search rules in
    let first : slice_get ts 0 ≡ Some t = at_index ts 0 t (omega (arith, two)) c.index-terms-0.is in
    let second : slice_get ts 1 ≡ Some u = at_index ts 1 u (omega (arith, two)) c.index-terms-1.is in
    let a = c.in_ok-a-in-Prim.a in
    let b = c.in_ok-b-in-Prim.b in
    let fits : FitsSigned w64 a = search rules in
    let other : FitsSigned w64 b = search rules in
    compared c.args.locals.now c.in-Prim.prim (term_of c.args.term.now) (terms_of c.in-Prim.terms.items) (term_of t) (term_of u) (ap term_of c.in-Prim.is ∙ prim_term c.in-Prim.prim c.in-Prim.terms) (ap terms_of (sym c.as_slice-terms.ensures.value) ∙ two_terms ts t u two first second)
    c.args.left c.integer_at_once.new.left c.integer_at_once-in-Prim.new.left a b (to_z w64 (of_z w64 a)) (to_z w64 (of_z w64 b)) c.in_ok-holds-in-Prim.holds (to_z-of_z {w = w64} {z = a} fits) (to_z-of_z {w = w64} {z = b} other) (λ z. omega (arith, z, c.if-left-eq0.false))
    c.in_ok-a-in-Prim.ensures c.in_ok-b-in-Prim.ensures c.in_ok-holds-in-Prim.ensures c.truth.result c.truth.ensures.value c.truth.ensures.live ds fs
