-- What each form of a term stands for.
use Rattle.std.proofs.Common.{◌≡◌, ◌∙◌, ap, sym}
use Rattle.gl_logic.specs.Exp.{Exp}
use Rattle.gl_logic.specs.Exp as exp
use Rattle.gl_logic.specs.TermOf.{term_of, terms_of, step}
use Rattle.gl_logic.specs.declared.term.Term.TheFolds.{fold-roll-Term}
use Rattle.gl_logic.specs.declared.term.Term.TheOpen as open_term
use Rattle.gl_logic.specs.declared.term.Term.TheVariants.{rolls-Var, rolls-Const, rolls-If, rolls-Prim, rolls-Call, rolls-Let}
use Rattle.gl_logic.specs.declared.term.Term.TheVariants as variants
use Rattle.gl_logic.specs.declared.term.Term.TheViews as views

pub var_term : (v : _) → term_of (variants.Var v) ≡ exp.Var v.number
var_term v = ap term_of (sym (rolls-Var v)) ∙ fold-roll-Term Exp step (open_term.Var v)

pub const_term : (x : _) → term_of (variants.Const x) ≡ exp.Const x
const_term x = ap term_of (sym (rolls-Const x)) ∙ fold-roll-Term Exp step (open_term.Const x)

pub if_term : (a b c : _) → term_of (views.If a b c) ≡ exp.If (term_of a.value) (term_of b.value) (term_of c.value)
if_term a b c = ap term_of (sym (rolls-If a b c)) ∙ fold-roll-Term Exp step (open_term.If a b c)

pub prim_term : (p : _) (ts : _) → term_of (views.Prim p ts) ≡ exp.Prim p (terms_of ts.items)
prim_term p ts = ap term_of (sym (rolls-Prim p ts)) ∙ fold-roll-Term Exp step (open_term.Prim p ts)

pub call_term : (f : _) (ts : _) → term_of (views.Call f ts) ≡ exp.Call f.number (terms_of ts.items)
call_term f ts = ap term_of (sym (rolls-Call f ts)) ∙ fold-roll-Term Exp step (open_term.Call f ts)

pub let_term : (vs : _) (ts : _) (b : _) → term_of (views.Let vs ts b) ≡ exp.Let vs (terms_of ts.items) (term_of b.value)
let_term vs ts b = ap term_of (sym (rolls-Let vs ts b)) ∙ fold-roll-Term Exp step (open_term.Let vs ts b)
