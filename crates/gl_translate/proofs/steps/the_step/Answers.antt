use Rattle.std.proofs.Common.{◌≡◌, ap, sym, ℕ, ◌<◌, ◌≤◌, List, [], ◌∷◌, length, get_or, arith}
use Rattle.gl_logic.specs.Object.{Object}
use Rattle.gl_translate.specs.Setting.{Setting}
use Rattle.gl_translate.specs.Macros.{of_two}
use Rattle.gl_translate.specs.Translation.{meaning}
use Rattle.gl_translate.specs.Steps.{means_of}
use Rattle.gl_translate.proofs.steps.the_step.Goals as goal

the_first : (s : Setting) (xs : List Object) (a : Object) → 2 ≤ length xs → length xs ≤ 2 → a ≡ get_or xs 0 a → of_two (λ type a. a) (means_of s xs) ≡ meaning s a
the_first s [] a l m e = absurd (omega (arith, l))
the_first s (x ∷ []) a l m e = absurd (omega (arith, l))
the_first s (x ∷ y ∷ []) a l m e = ap (meaning s) (sym e)
the_first s (x ∷ y ∷ z ∷ xs) a l m e = absurd (omega (arith, m))

pub returns-in-len2-clause-takes : goal.returns-in-len2-clause-takes
returns-in-len2-clause-takes c s = the_first s c.args.forms.now c.a-item.result (omega (arith, c.in-len2.len_at_least)) (omega (arith, c.in-len2.len_below)) c.a-item.is
