-- What each term is.
use Rattle.std.proofs.Common.{◌≡◌, ◌∙◌, ap, sym}
use Rattle.gl_logic.specs.Object.{Object}
use Rattle.gl_logic.specs.Exp.{Exp}
use Rattle.gl_logic.specs.Exp as exp
use Rattle.gl_logic.specs.TermOf.{step, term_of, terms_of}
use Rattle.gl_logic.specs.declared.term.Term.TheVariants.{rolls-Var, rolls-Const, rolls-If, rolls-Prim, rolls-Call, rolls-Let}
use Rattle.gl_logic.specs.declared.term.Term.TheVariants as variants
use Rattle.gl_logic.specs.declared.term.Term.TheViews as views
use Rattle.gl_logic.specs.declared.term.Term.TheOpen as open_term
use Rattle.gl_logic.specs.declared.term.Term.TheFolds.{fold-roll-Term}

pub term_var : (v : _) → term_of (variants.Var v) ≡ exp.Var v.number
term_var v = ap term_of (sym (rolls-Var v)) ∙ fold-roll-Term Exp step (open_term.Var v)

pub term_const : (x : Object) → term_of (variants.Const x) ≡ exp.Const x
term_const x = ap term_of (sym (rolls-Const x)) ∙ fold-roll-Term Exp step (open_term.Const x)

pub term_if : (t a b : _) → term_of (views.If t a b) ≡ exp.If (term_of t.value) (term_of a.value) (term_of b.value)
term_if t a b = ap term_of (sym (rolls-If t a b)) ∙ fold-roll-Term Exp step (open_term.If t a b)

pub term_prim : (p ts : _) → term_of (views.Prim p ts) ≡ exp.Prim p (terms_of ts.items)
term_prim p ts = ap term_of (sym (rolls-Prim p ts)) ∙ fold-roll-Term Exp step (open_term.Prim p ts)

pub term_call : (f ts : _) → term_of (views.Call f ts) ≡ exp.Call f.number (terms_of ts.items)
term_call f ts = ap term_of (sym (rolls-Call f ts)) ∙ fold-roll-Term Exp step (open_term.Call f ts)

pub term_let : (vs ts b : _) → term_of (views.Let vs ts b) ≡ exp.Let vs (terms_of ts.items) (term_of b.value)
term_let vs ts b = ap term_of (sym (rolls-Let vs ts b)) ∙ fold-roll-Term Exp step (open_term.Let vs ts b)
