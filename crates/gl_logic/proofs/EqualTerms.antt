-- The test of equal terms.
use Rattle.std.proofs.Common.{◌≡◌, refl, subst, Bool, true, false, ◌&&◌, eq-eqb, IsTrue, ◌↔◌}
use base.Stored.{Gv, gnil, gnum, gcons}
use Rattle.gl_logic.specs.Exp.{Exp}
use Rattle.gl_logic.specs.ExpCode.{code_exp}
use Rattle.gl_logic.specs.RecursiveCalls.{alike, exp_eq}
use Rattle.gl_logic.proofs.Facts.{exp_eq_is}

both : (b c : Bool) → b ≡ true → c ≡ true → (b && c) ≡ true
both true c h g = g
both false c h g = absurd cc

alike_itself : (g : Gv) → alike g g ≡ true
alike_itself gnil = refl
alike_itself (gnum n) = eq-eqb n n refl
alike_itself (gcons a b) = both (alike a a) (alike b b) (alike_itself a) (alike_itself b)

same_exp : (a b : Exp) → a ≡ b → exp_eq a b ≡ true
same_exp a b h = subst (λ (c : Exp). exp_eq a c ≡ true) h (alike_itself (code_exp a))

told_at : (r e : Bool) (P : Type 0) → (IsTrue r ↔ P) → (e ≡ true → P) → (P → e ≡ true) → r ≡ e
told_at true true P h f g = refl
told_at true false P h f g = let q = g (h.0 refl) in absurd cc
told_at false true P h f g = (let q = h.1 (f refl) in absurd cc)
told_at false false P h f g = refl

pub same_told : (r : Bool) (a b : Exp) → (IsTrue r ↔ a ≡ b) → r ≡ exp_eq a b
same_told r a b h = told_at r (exp_eq a b) (a ≡ b) h (exp_eq_is a b) (same_exp a b)
