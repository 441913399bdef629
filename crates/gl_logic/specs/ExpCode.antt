-- How a ghost value keeps a term.
use Rattle.std.specs.Prelude.{◌≡◌, ℕ, zero, suc, refl, List, [], ◌∷◌}
use Rattle.std.specs.Coded.{Coded}
use Rattle.std.proofs.Common.{sym, ◌∙◌, ap}
use base.Stored.{Gv, gnil, gnum, gcons}
use Rattle.gl_logic.specs.Object.{code_object, decode, decode_code, number}
use Rattle.gl_logic.specs.PrimCode.{prim_number, prim_at, prim-at-number}
use Rattle.gl_logic.specs.Exp.{Exp, Exps, Var, Const, If, Prim, Call, Let, Last, More}

abbrev pub code_numbers : List ℕ → Gv
code_numbers [] = gnil
code_numbers (n ∷ ns) = gcons (gnum n) (code_numbers ns)

abbrev pub numbers_from : Gv → List ℕ
numbers_from (gcons n ns) = number n ∷ numbers_from ns
numbers_from _ = []

pub numbers-code : (ns : List ℕ) → numbers_from (code_numbers ns) ≡ ns
numbers-code [] = refl
numbers-code (n ∷ ns) = ap (λ ms. n ∷ ms) (numbers-code ns)

abbrev mutual
  pub code_exp : Exp → Gv
  code_exp (Var v) = gcons (gnum 0) (gnum v)
  code_exp (Const x) = gcons (gnum 1) (code_object x)
  code_exp (If a b c) = gcons (gnum 2) (gcons (code_exp a) (gcons (code_exp b) (code_exp c)))
  code_exp (Prim p ts) = gcons (gnum 3) (gcons (gnum (prim_number p)) (code_exps ts))
  code_exp (Call f ts) = gcons (gnum 4) (gcons (gnum f) (code_exps ts))
  code_exp (Let vs ts b) = gcons (gnum 5) (gcons (code_numbers vs) (gcons (code_exps ts) (code_exp b)))

  pub code_exps : Exps → Gv
  code_exps Last = gnil
  code_exps (More t ts) = gcons (code_exp t) (code_exps ts)

abbrev mutual
  pub exp_from : Gv → Exp
  exp_from (gcons (gnum zero) (gnum v)) = Var v
  exp_from (gcons (gnum (suc zero)) g) = Const (decode g)
  exp_from (gcons (gnum (suc (suc zero))) (gcons a (gcons b c))) = If (exp_from a) (exp_from b) (exp_from c)
  exp_from (gcons (gnum (suc (suc (suc zero)))) (gcons (gnum p) ts)) = Prim (prim_at p) (exps_from ts)
  exp_from (gcons (gnum (suc (suc (suc (suc zero))))) (gcons (gnum f) ts)) = Call f (exps_from ts)
  exp_from (gcons (gnum (suc (suc (suc (suc (suc zero)))))) (gcons vs (gcons ts b))) =
      Let (numbers_from vs) (exps_from ts) (exp_from b)
  exp_from _ = Var 0

  pub exps_from : Gv → Exps
  exps_from (gcons t ts) = More (exp_from t) (exps_from ts)
  exps_from _ = Last

mutual
  pub exp-code : (t : Exp) → exp_from (code_exp t) ≡ t
  exp-code (Var v) = refl
  exp-code (Const x) = ap Const (decode_code x)
  exp-code (If a b c) = λ i. If (exp-code a i) (exp-code b i) (exp-code c i)
  exp-code (Prim p ts) = λ i. Prim (prim-at-number p i) (exps-code ts i)
  exp-code (Call f ts) = ap (Call f) (exps-code ts)
  exp-code (Let vs ts b) = λ i. Let (numbers-code vs i) (exps-code ts i) (exp-code b i)

  pub exps-code : (ts : Exps) → exps_from (code_exps ts) ≡ ts
  exps-code Last = refl
  exps-code (More t ts) = λ i. More (exp-code t i) (exps-code ts i)

abbrev pub coded_exp : Coded Exp
coded_exp = record { code = code_exp; inj = λ x y p. sym (exp-code x) ∙ (ap exp_from p ∙ exp-code y) }

abbrev pub coded_exps : Coded Exps
coded_exps = record { code = code_exps; inj = λ x y p. sym (exps-code x) ∙ (ap exps_from p ∙ exps-code y) }
