-- What a machine's answers and refusals tell of a term without variables.
use Rattle.std.proofs.Common.{◌≡◌, refl, sym, subst, ℕ, List, [], Result, Err, inr}
use Rattle.std.specs.List.{Contains}
use Rattle.std.proofs.lemmas.List.Elements.{All-contains}
use Rattle.gl_logic.specs.Object.{Object}
use Rattle.gl_logic.specs.Exp.{Exp}
use Rattle.gl_logic.specs.IsTermOf.{IsTermOf}
use Rattle.gl_logic.specs.IsTotal.{IsTotal}
use Rattle.gl_logic.specs.CellCounts.{constant_cells}
use Rattle.gl_logic.specs.WorldSeen.{WorldSeen}
use Rattle.hons_arena.specs.declared.id.Id.{Id}
use Rattle.lisp_eval.specs.Answers.{IsLicensed}
use Rattle.lisp_eval.specs.Machines.{MachineSeen}
use Rattle.lisp_eval.specs.MachineCalls.{RefusesForCells}
use Rattle.lisp_eval.specs.declared.fault.EvalFault.{EvalFault}
use Rattle.lisp_eval.specs.declared.fault.EvalFault.TheVariants as fault
use Rattle.gl_decide.specs.Bounds.{Bounds}
use Rattle.gl_decide.specs.Causes.{IsOutOfSteps, IsOutOfCells}
use Rattle.gl_decide.proofs.Causes.{from_constants, from_dear, from_crowd}
use Rattle.gl_logic.specs.Evaluate.{HasValue}
use Rattle.gl_logic.specs.Parts.{IsLarge}
use Rattle.hons_arena.specs.Held.{Held}
use Rattle.hons_arena.specs.Ids.{object_at}
use Rattle.lisp_eval.specs.Answers.{IsValueOf}
use Rattle.gl_book.specs.Answers.{IsValue, IsPrintedValue, IsTooLarge, LacksValue}
use Rattle.gl_book.specs.Evaluations.{BeginsFor, cause_from}

module _ (bounds : Bounds) (w : WorldSeen) (memoized : List ℕ) (t : Exp) where
  -- a machine that does not begin
  pub not_begun : IsTotal w.definitions → IsTermOf w.definitions t → (f : EvalFault) (r : Result (Unit {0}) EvalFault) → r ≡ Err f → RefusesForCells w bounds.cells r → LacksValue bounds w memoized t (cause_from f)
  not_begun total of fault.Width r e h = absurd (h.no_width (rw e refl))
  not_begun total of fault.Steps r e h = absurd (h.no_steps (rw e refl))
  not_begun total of fault.Cells r e h = record { has = from_constants w [] t bounds.cells total of (h.cells (rw e refl)); no_size = λ p. absurd cc }
  not_begun total of fault.Memory r e h = record { has = tt; no_size = λ p. absurd cc }

  -- one that has begun and refuses the term
  pub not_evaluated : (m : MachineSeen) → BeginsFor w memoized bounds m → (f : EvalFault) (r : Result Id EvalFault) → r ≡ Err f → IsLicensed w m.functions [] t m.steps m.arena r → LacksValue bounds w memoized t (cause_from f)
  not_evaluated m b fault.Width r e l = record { has = l.width (rw e refl); no_size = λ p. absurd cc }
  not_evaluated m b fault.Steps r e l = record {
    has = subst (λ (n : ℕ). IsOutOfSteps w memoized n [] t) b.steps (from_dear w [] t m.functions memoized m.steps b.functions (l.steps_more (rw e refl)));
    no_size = λ p. absurd cc;
  }
  not_evaluated m b fault.Cells r e l = record {
    has = subst (λ (n : ℕ). IsOutOfCells w n [] t) b.limit (from_crowd w [] t m.arena.objects m.arena.limit (λ y c. inr (All-contains (Contains (constant_cells w)) m.arena.objects y b.cells c)) (l.cells_more (rw e refl)));
    no_size = λ p. absurd cc;
  }
  not_evaluated m b fault.Memory r e l = record { has = tt; no_size = λ p. absurd cc }

-- ---- values
module _ (w : WorldSeen) (t : Exp) (arena other : Held) (id : Id) (same : other ≡ arena) (v : IsValueOf w [] t arena.objects id) where
  value_there : IsValue w t (object_at other.objects id)
  value_there = record { has = subst (λ (a : Held). HasValue w.definitions [] t (object_at a.objects id)) (sym same) v.value; narrow = v.narrow }

  pub printed_value : (x : Object) → x ≡ object_at other.objects id → (IsLarge (object_at other.objects id) → ⊥) → IsPrintedValue w t x
  printed_value x at small = subst (IsPrintedValue w t) (sym at) (record { is = value_there; small = small })

  pub too_large : IsLarge (object_at other.objects id) → IsTooLarge w t
  too_large l = (object_at other.objects id, value_there, l)
