-- Rows that were worked by hand.
use Rattle.std.proofs.Common.{◌≡◌, ℕ, pos, negsuc, List, [], ◌∷◌, ◌++◌, refl, Ok, Err}
use Rattle.std.specs.Prelude.{codes}
use Rattle.lrat_tool.specs.Formulas.{formula_meant}
use Rattle.lrat_tool.specs.Judgements.{judgement}
use Rattle.lrat_tool.specs.declared.judgement.Judgement.TheVariants.{BadLog, Rat, NotShown, NoRefutation, Verified}

abbrev cnf : List ℕ
cnf = codes "p cnf 2 4" ++ 10 ∷ codes "1 2 0" ++ 10 ∷ codes "-1 2 0" ++ 10 ∷ codes "1 -2 0" ++ 10 ∷ codes "-1 -2 0" ++ 10 ∷ []

formula : formula_meant cnf ≡ Ok ((pos 1 ∷ pos 2 ∷ []) ∷ (negsuc 0 ∷ pos 2 ∷ []) ∷ (pos 1 ∷ negsuc 1 ∷ []) ∷ (negsuc 0 ∷ negsuc 1 ∷ []) ∷ [])
formula = refl

verified : judgement cnf (codes "5 2 0 1 2 0" ++ 10 ∷ codes "6 0 5 3 4 0" ++ 10 ∷ []) ≡ Verified
verified = refl

not_shown : judgement cnf (codes "5 0 1 2 0") ≡ NotShown 1
not_shown = refl

none : judgement cnf (codes "5 2 0 1 2 0" ++ 10 ∷ []) ≡ NoRefutation
none = refl

bad : judgement cnf (codes "4 2 0 1 2 0") ≡ BadLog 1
bad = refl

rat : judgement cnf (codes "5 2 0 -1 2 0") ≡ Rat 1
rat = refl

early : formula_meant (codes "p cnf 2 2" ++ 10 ∷ codes "1 2 0" ++ 10 ∷ []) ≡ Err 3
early = refl

on_header : formula_meant (codes "c x" ++ 10 ∷ codes "p cnf 2 1 1 0" ++ 10 ∷ []) ≡ Err 2
on_header = refl

split : formula_meant (codes "p" ++ 10 ∷ codes "cnf 0 0") ≡ Err 2
split = refl
