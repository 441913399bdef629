-- Terms that are variables.
use Rattle.std.proofs.Common.{◌≡◌, ◌∙◌, ap, sym, refl, ℕ, zero, suc, ◌+◌, arith, List, [], ◌∷◌, ◌++◌, map}
use Rattle.std.proofs.lemmas.List.{map-append}
use Rattle.gl_logic.specs.Exp.{Exp, Exps, Last, More, Var}
use Rattle.gl_logic.specs.TermOf.{exps_of, term_of, terms_of}
use Rattle.gl_logic.specs.declared.ids.TextId.{TextId}
use Rattle.gl_logic.specs.declared.term.Term.{Term}
use Rattle.gl_logic.specs.declared.term.Term.TheVariants as variants
use Rattle.gl_interp.specs.Placed.{variables_from}
use Rattle.gl_interp.proofs.Terms.{term_var}

abbrev put_last : Exps → Exp → Exps
put_last Last e = More e Last
put_last (More d ds) e = More d (put_last ds e)

exps_push : (es : List Exp) (e : Exp) → exps_of (es ++ e ∷ []) ≡ put_last (exps_of es) e
exps_push [] e = refl
exps_push (d ∷ es) e = ap (More d) (exps_push es e)

variables_push : (i n : ℕ) → put_last (variables_from i n) (Var (i + n)) ≡ variables_from i (suc n)
variables_push i zero = ap (λ (k : ℕ). More (Var k) Last) (omega arith)
variables_push i (suc n) = ap (More (Var i)) (ap (λ (k : ℕ). put_last (variables_from (suc i) n) (Var k)) (omega arith) ∙ variables_push (suc i) n)

pub terms_push : (ts us : List Term) (v : TextId) (n m : ℕ) → us ≡ ts ++ variants.Var v ∷ [] → v.number ≡ n → m ≡ suc n → terms_of ts ≡ variables_from 0 n → terms_of us ≡ variables_from 0 m
terms_push ts us v n m e i k h =
    ap terms_of e ∙ (ap exps_of (map-append term_of ts (variants.Var v ∷ [])) ∙ (exps_push (map term_of ts) (term_of (variants.Var v))
    ∙ ((λ t. put_last (h t) (term_var v t)) ∙ (ap (λ (k : ℕ). put_last (variables_from 0 n) (Var k)) (i ∙ omega arith) ∙ (variables_push 0 n ∙ ap (variables_from 0) (sym k))))))
