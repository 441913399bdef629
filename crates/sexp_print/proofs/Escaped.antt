-- Escaped bytes, one part after another.
use Rattle.std.proofs.Common.{◌≡◌, ap, refl, List, ℕ, [], ◌∷◌, ◌++◌, Bool, true, false, cond, ◌||◌}
use Rattle.std.specs.Prelude.{◌==◌}
use Rattle.sexp_print.specs.Printed.{escaped}

chosen : (b : Bool) (x : ℕ) (xs ys zs : List ℕ) → zs ≡ xs ++ ys → cond b (92 ∷ (x ∷ zs)) (x ∷ zs) ≡ cond b (92 ∷ (x ∷ xs)) (x ∷ xs) ++ ys
chosen true x xs ys zs e = ap (λ ws. 92 ∷ (x ∷ ws)) e
chosen false x xs ys zs e = ap (λ ws. x ∷ ws) e

pub escaped_append : (xs ys : List ℕ) → escaped (xs ++ ys) ≡ escaped xs ++ escaped ys
escaped_append [] ys = refl
escaped_append (x ∷ xs) ys = chosen ((x == 34) || (x == 92)) x (escaped xs) (escaped ys) (escaped (xs ++ ys)) (escaped_append xs ys)
