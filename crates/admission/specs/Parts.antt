-- A natural measure of a caller at a place in its body.
use Rattle.std.specs.Prelude.{ℕ, Bool, true, false, not, ◌&&◌, ◌||◌, if◌then◌else◌, eqb, leb, List, Option, Some, None}
use Rattle.std.specs.List.{list_any}
use Rattle.gl_logic.specs.Exp.{Exp, Exps, If, Prim, Last, More}
use Rattle.gl_logic.specs.PrimCode.{prim_number}
use Rattle.gl_logic.specs.RecursiveCalls.{Fact, exp_eq, is_nil_term}
use Rattle.gl_logic.specs.Steps.{is_proper_part, less_by, more_by, is_divided, is_variable, actual_of}
use Rattle.gl_logic.specs.declared.def.Natural.{Natural}
use Rattle.gl_logic.specs.declared.def.Natural.TheVariants as natural
use Rattle.admission.specs.declared.known.Known.{Known}
use Rattle.admission.specs.declared.known.KnownGap.{KnownGap}
use Rattle.admission.specs.declared.part.Part.{Part}
use Rattle.admission.specs.declared.part.Part.TheVariants as part
use Rattle.admission.specs.WhatIsKnown.{known_of, with_fact, known_positive, gap_known_of, gap_with_fact, known_gap}

abbrev pub is_bound : List ℕ → ℕ → Bool
is_bound names v = list_any (λ u. eqb u v) names

-- what the program keeps of it, below lets that bind these names and under these facts
abbrev pub part_of : Natural → List ℕ → List Fact → Part
part_of (natural.Count v) bound fs = if is_bound bound v.number then part.Hidden else part.Count v (known_of v.number fs)
part_of (natural.Len v) bound fs = if is_bound bound v.number then part.Hidden else part.Len v (known_of v.number fs)
part_of (natural.Nat v) bound fs = if is_bound bound v.number then part.Hidden else part.Nat v (known_of v.number fs)
part_of (natural.Gap a b) bound fs = if (is_bound bound a.number || is_bound bound b.number) then part.Hidden else part.Gap a b (gap_known_of a.number b.number fs)

abbrev pub part_with_fact : Fact → Part → Part
part_with_fact f (part.Count v k) = part.Count v (with_fact v.number f k)
part_with_fact f (part.Len v k) = part.Len v (with_fact v.number f k)
part_with_fact f (part.Nat v k) = part.Nat v (with_fact v.number f k)
part_with_fact f (part.Gap a b k) = part.Gap a b (gap_with_fact a.number b.number f k)
part_with_fact f part.Hidden = part.Hidden

-- with what a test says
abbrev mutual
  pub part_noted : Exp → Bool → Part → Part
  part_noted (If a b c) true p = elim (is_nil_term c) [ true ↦ part_noted a true (part_noted b true p) | false ↦ part_with_fact (If a b c, true) p ]
  part_noted (If a b c) false p = elim (exp_eq a b) [ true ↦ part_noted a false (part_noted c false p) | false ↦ part_with_fact (If a b c, false) p ]
  part_noted (Prim f ts) v p = elim (eqb (prim_number f) 9) [ true ↦ part_noted_not ts v p | false ↦ part_with_fact (Prim f ts, v) p ]
  part_noted t v p = part_with_fact (t, v) p

  pub part_noted_not : Exps → Bool → Part → Part
  part_noted_not Last v p = p
  part_noted_not (More a ts) v p = part_noted a (not v) p

abbrev pub part_below : List ℕ → Part → Part
part_below names (part.Count v k) = if is_bound names v.number then part.Hidden else part.Count v k
part_below names (part.Len v k) = if is_bound names v.number then part.Hidden else part.Len v k
part_below names (part.Nat v k) = if is_bound names v.number then part.Hidden else part.Nat v k
part_below names (part.Gap a b k) = if (is_bound names a.number || is_bound names b.number) then part.Hidden else part.Gap a b k
part_below names part.Hidden = part.Hidden

-- ---- the rows, by what is known
abbrev pub known_count_row : Known → ℕ → Exp → Bool
known_count_row k v t = (is_proper_part true v t && k.cons) || ((eqb (less_by v t) 1 || is_divided v t) && known_positive k)

abbrev pub known_len_row : Known → ℕ → Exp → Bool
known_len_row k v t = is_proper_part false v t && k.cons

abbrev pub known_nat_row : Known → ℕ → Exp → Bool
known_nat_row k v t = (leb 1 (less_by v t) || is_divided v t) && known_positive k

abbrev pub same_variable : ℕ → Exp → Bool
same_variable v t = is_variable v t

abbrev pub known_gap_row : KnownGap → ℕ → ℕ → Exp → Exp → Bool
known_gap_row k a b s t = leb 1 (more_by a s) && (is_variable b t && known_gap k)

abbrev pub same_gap : ℕ → ℕ → Exp → Exp → Bool
same_gap a b s t = is_variable a s && is_variable b t

abbrev pub of_actual : (Exp → Bool) → Option Exp → Bool
of_actual row None = false
of_actual row (Some t) = row t

abbrev pub of_actuals : (Exp → Exp → Bool) → Option Exp → Option Exp → Bool
of_actuals row (Some s) (Some t) = row s t
of_actuals row _ _ = false

-- ---- steps
abbrev pub part_steps : Part → Natural → List ℕ → Exps → Bool
part_steps (part.Count v k) (natural.Count w) formals actuals = of_actual (known_count_row k v.number) (actual_of formals actuals w.number)
part_steps (part.Len v k) (natural.Len w) formals actuals = of_actual (known_len_row k v.number) (actual_of formals actuals w.number)
part_steps (part.Nat v k) (natural.Nat w) formals actuals = of_actual (known_nat_row k v.number) (actual_of formals actuals w.number)
part_steps (part.Gap a b k) (natural.Gap x y) formals actuals = of_actuals (known_gap_row k a.number b.number) (actual_of formals actuals x.number) (actual_of formals actuals y.number)
part_steps _ _ formals actuals = false

abbrev pub part_stays : Part → Natural → List ℕ → Exps → Bool
part_stays (part.Count v k) (natural.Count w) formals actuals = of_actual (same_variable v.number) (actual_of formals actuals w.number)
part_stays (part.Len v k) (natural.Len w) formals actuals = of_actual (same_variable v.number) (actual_of formals actuals w.number)
part_stays (part.Nat v k) (natural.Nat w) formals actuals = of_actual (same_variable v.number) (actual_of formals actuals w.number)
part_stays (part.Gap a b k) (natural.Gap x y) formals actuals = of_actuals (same_gap a.number b.number) (actual_of formals actuals x.number) (actual_of formals actuals y.number)
part_stays _ _ formals actuals = false
