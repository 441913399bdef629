use Rattle.std.proofs.Common.{rules, arith, ap, sym, ◌≡◌, ◌∙◌, length, Some, slice_get, FitsSigned, to_z, of_z, to_z-of_z}
use Rattle.gl_logic.proofs.CellCounts.{at_index}
use Rattle.std.specs.Int.{w64}
use Rattle.gl_logic.specs.TermOf.{term_of, terms_of}
use Rattle.lisp_eval.proofs.DirectFound.{one_term}
use Rattle.gl_logic.proofs.TermForms.{call_term}
use Rattle.lisp_eval.proofs.ZeroOver.{zp_found}
use Rattle.lisp_eval.proofs.integers.zp_on.Goals as goal

pub returns-else-rest-lt-ON_INTEGERS : goal.returns-else-rest-lt-ON_INTEGERS
returns-else-rest-lt-ON_INTEGERS c objects =
    let ts = c.as_slice-terms.result.now in
    let t = c.index-terms-0.result in
    let one : length ts ≡ 1 = search rules in
    let first : slice_get ts 0 ≡ Some t = at_index ts 0 t (omega (arith, one)) c.index-terms-0.is in
    let i = c.in_ok-i-in-Call.i in
    let fits : FitsSigned w64 i = search rules in
    zp_found c.args.world.now.definitions c.args.functions.now c.in-Call.f.number (c.is_zp.ensures c.if-not-is_zp.false) c.args.locals.now (term_of c.args.term.now) (terms_of c.in-Call.terms.items) (term_of t)
    (ap term_of c.in-Call.is ∙ call_term c.in-Call.f c.in-Call.terms) (ap terms_of (sym c.as_slice-terms.ensures.value) ∙ one_term ts t one first) c.args.left c.integer_at_once.new.left i (to_z w64 (of_z w64 i))
    (λ z. omega (arith, z, c.if-left-eq0.false)) c.in_ok-i-in-Call.ensures (omega (arith, c.if-rest-lt-ON_INTEGERS.false)) c.is_zero.result (to_z-of_z {w = w64} {z = i} fits) c.is_zero.ensures c.truth.result c.truth.ensures.value c.truth.ensures.live objects
