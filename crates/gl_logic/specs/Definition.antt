-- Definitions of a world.
use Rattle.std.specs.Prelude.{◌≡◌, ℕ, zero, suc, List, Option, refl}
use Rattle.std.specs.Coded.{Coded, code_by, coded×, coded_ℕ, coded_list, coded_option}
use Rattle.gl_logic.specs.Exp.{Exp}
use Rattle.gl_logic.specs.ExpCode.{coded_exp}
use Rattle.gl_logic.specs.declared.def.Natural.{Natural}
use Rattle.gl_logic.specs.declared.def.Natural.TheVariants as natural
use Rattle.gl_logic.specs.declared.def.Measure.{Measure}
use Rattle.gl_logic.specs.declared.def.Measure.TheVariants as measure

-- names by their numbers
pub record Definition : Type 0 where
  pub name : ℕ
  pub formals : List ℕ
  pub body : Exp
  pub measure : Option Measure

-- ---- the parts of a measure
-- one natural measure, or two of which the first decides
pub data MeasureParts : Type 0 where
  One : Natural → MeasureParts
  Two : Natural → Natural → MeasureParts

abbrev pub measure_parts : Measure → MeasureParts
measure_parts (measure.Count v) = One (natural.Count v)
measure_parts (measure.Len v) = One (natural.Len v)
measure_parts (measure.Nat v) = One (natural.Nat v)
measure_parts (measure.Gap a b) = One (natural.Gap a b)
measure_parts (measure.Lex m k) = Two m k

-- ---- the code
abbrev pub natural_code : Natural → ℕ × (ℕ × ℕ)
natural_code (natural.Count v) = (0, (v.number, 0))
natural_code (natural.Len v) = (1, (v.number, 0))
natural_code (natural.Nat v) = (2, (v.number, 0))
natural_code (natural.Gap a b) = (3, (a.number, b.number))

abbrev pub natural_from : ℕ → ℕ → ℕ → Natural
natural_from zero v w = natural.Count (record { number = v })
natural_from (suc zero) v w = natural.Len (record { number = v })
natural_from (suc (suc zero)) v w = natural.Nat (record { number = v })
natural_from _ v w = natural.Gap (record { number = v }) (record { number = w })

pub natural-from-code : (m : Natural) → natural_from (natural_code m).0 (natural_code m).1.0 (natural_code m).1.1 ≡ m
natural-from-code (natural.Count v) = refl
natural-from-code (natural.Len v) = refl
natural-from-code (natural.Nat v) = refl
natural-from-code (natural.Gap a b) = refl

abbrev pub coded_natural : Coded Natural
coded_natural =
    code_by (ℕ × (ℕ × ℕ)) (coded× coded_ℕ (coded× coded_ℕ coded_ℕ)) natural_code (λ p. natural_from p.0 p.1.0 p.1.1) natural-from-code

abbrev pub natural_measure : Natural → Measure
natural_measure (natural.Count v) = measure.Count v
natural_measure (natural.Len v) = measure.Len v
natural_measure (natural.Nat v) = measure.Nat v
natural_measure (natural.Gap a b) = measure.Gap a b

-- 0 and a natural measure twice, or 1 and two of them
abbrev pub measure_code : Measure → ℕ × (Natural × Natural)
measure_code (measure.Count v) = (0, (natural.Count v, natural.Count v))
measure_code (measure.Len v) = (0, (natural.Len v, natural.Len v))
measure_code (measure.Nat v) = (0, (natural.Nat v, natural.Nat v))
measure_code (measure.Gap a b) = (0, (natural.Gap a b, natural.Gap a b))
measure_code (measure.Lex m k) = (1, (m, k))

abbrev pub measure_from : ℕ → Natural → Natural → Measure
measure_from zero m k = natural_measure m
measure_from (suc n) m k = measure.Lex m k

pub measure-from-code : (m : Measure) → measure_from (measure_code m).0 (measure_code m).1.0 (measure_code m).1.1 ≡ m
measure-from-code (measure.Count v) = refl
measure-from-code (measure.Len v) = refl
measure-from-code (measure.Nat v) = refl
measure-from-code (measure.Gap a b) = refl
measure-from-code (measure.Lex m k) = refl

abbrev pub coded_measure : Coded Measure
coded_measure =
    code_by (ℕ × (Natural × Natural)) (coded× coded_ℕ (coded× coded_natural coded_natural)) measure_code (λ p. measure_from p.0 p.1.0 p.1.1) measure-from-code

abbrev pub coded_definition : Coded Definition
coded_definition =
    code_by (ℕ × (List ℕ × (Exp × Option Measure))) (coded× coded_ℕ (coded× (coded_list coded_ℕ) (coded× coded_exp (coded_option coded_measure)))) (λ d. (d.name, (d.formals, (d.body, d.measure)))) (λ p. record { name = p.0; formals = p.1.0; body = p.1.1.0; measure = p.1.1.1 }) (λ _. refl)
