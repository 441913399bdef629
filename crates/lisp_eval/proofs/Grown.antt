-- Arenas that have grown.
use Rattle.std.proofs.Common.{◌≡◌, ◌∙◌, ap, sym, refl, subst, true, ℕ, suc, ◌+◌, ◌≤◌, arith, List, [], ◌∷◌, ◌++◌, length, take, append_assoc, append-nil, length-append, Result, Err, All}
use Rattle.gl_logic.specs.Exp.{Exp}
use Rattle.gl_logic.specs.Object.{Object}
use Rattle.gl_logic.specs.Parts.{is_cell}
use Rattle.gl_logic.specs.WorldSeen.{WorldSeen}
use Rattle.hons_arena.specs.Held.{Held, AddsCellsOf, HasNoCell, LacksCell}
use Rattle.hons_arena.proofs.CellsIn.{cell_of}
use Rattle.hons_arena.proofs.Placing.{part_self}
use Rattle.hons_arena.specs.declared.id.Id.{Id}
use Rattle.hons_arena.specs.Ids.{object_at}
use Rattle.lisp_eval.specs.Answers.{IsCrowded, HasGrown, IsLiveBinding, IsCauseOf, IsLicensed, fault_of}
use Rattle.lisp_eval.specs.declared.fault.EvalFault.{EvalFault}
use Rattle.lisp_eval.specs.declared.fault.EvalFault.TheVariants as fault
use Rattle.lisp_eval.specs.declared.frame.Binding.{Binding}
use Rattle.lisp_eval.specs.declared.halt.Cause.{Cause}
use Rattle.lisp_eval.specs.declared.halt.Cause.TheVariants as cause
use Rattle.lisp_eval.specs.States.{env_of}
use Rattle.lisp_eval.proofs.Environments.{stays_at}

pub grown_on : (start old new : List Object) → HasGrown start old → HasGrown old new → HasGrown start new
grown_on start old new g h = (g.0 ++ h.0, h.1 ∙ (ap (λ z. z ++ h.0) g.1 ∙ append_assoc start g.0 h.0))

pub grown_more : (x : Object) (start old new : List Object) → HasGrown start old → AddsCellsOf x old new → HasGrown start new
grown_more x start old new g a = grown_on start old new g (a.made, a.is)

pub crowded_at : (w : WorldSeen) (env : List (ℕ × Object)) (t : Exp) (start : List Object) (a b : ℕ) → a ≡ b → IsCrowded w env t start a → IsCrowded w env t start b
crowded_at w env t start a b e h = subst (λ (k : ℕ). IsCrowded w env t start k) e h

pub lacks_itself : (held : Held) (x : Object) → is_cell x ≡ true → HasNoCell held x → LacksCell held x
lacks_itself held x cell none = record { lacking = x; cell = cell_of x x cell (part_self x); none = none }

take-append-same : (xs ys : List Object) → take (length xs) (xs ++ ys) ≡ xs
take-append-same [] ys = refl
take-append-same (x ∷ xs) ys = ap (λ zs. x ∷ zs) (take-append-same xs ys)

abbrev refusal : EvalFault → Result Id EvalFault
refusal f = Err f

no_fault : {P : Type 0} {f g : EvalFault} → (f ≡ g → ⊥) → refusal f ≡ refusal g → P
no_fault {f = f} {g = g} h e = absurd (h (same_fault f g e)) where
  same_fault : (f g : EvalFault) → refusal f ≡ refusal g → f ≡ g
  same_fault f g e = cc

pub grown_back : (old mid new : List Object) (n : ℕ) → HasGrown old mid → n ≡ length old → new ≡ take n mid → new ≡ old
grown_back old mid new n g e q = q ∙ ((λ j. take (e j) (g.1 j)) ∙ take-append-same old g.0)

pub grown_count : (old mid : List Object) (n : ℕ) → HasGrown old mid → n ≡ length old → n ≤ length mid
grown_count old mid n g e = let l : length mid ≡ length old + length g.0 = ap length g.1 ∙ length-append old g.0 in omega (arith, l, e)

pub grown_none : (old new : List Object) → new ≡ old → HasGrown old new
grown_none old new e = ([], e ∙ sym (append-nil old))

-- ---- environments of live ids
pub env_stable : (objects : List Object) (env : List Binding) → All (IsLiveBinding objects) env → (more : List Object) → env_of (objects ++ more) env ≡ env_of objects env
env_stable objects [] h more = refl
env_stable objects (b ∷ env) h more =
    let first : object_at (objects ++ more) b.value ≡ object_at objects b.value = stays_at objects more b.value (h 0 b (omega arith)) in
    let rest = env_stable objects env (λ k d l. h (suc k) d (omega (arith, l))) more in λ j. (b.name.number, first j) ∷ rest j

-- ---- faults
pub licensed_for : (w : WorldSeen) (functions : List ℕ) (env : List (ℕ × Object)) (t : Exp) (steps : ℕ) (arena : Held) (c : Cause) → IsCauseOf w functions env t steps arena.objects arena.limit c → IsLicensed w functions env t steps arena (Err (fault_of c))
licensed_for w functions env t steps arena cause.Width h = record { width = λ e. h; steps_more = λ e. no_fault (λ q. width_steps q) e; cells_more = λ e. no_fault (λ q. width_cells q) e } where
  width_steps : fault.Width ≡ fault.Steps → ⊥
  width_steps q = absurd cc

  width_cells : fault.Width ≡ fault.Cells → ⊥
  width_cells q = absurd cc
licensed_for w functions env t steps arena cause.Steps h = record { width = λ e. no_fault (λ q. steps_width q) e; steps_more = λ e. h; cells_more = λ e. no_fault (λ q. steps_cells q) e } where
  steps_width : fault.Steps ≡ fault.Width → ⊥
  steps_width q = absurd cc

  steps_cells : fault.Steps ≡ fault.Cells → ⊥
  steps_cells q = absurd cc
licensed_for w functions env t steps arena cause.Cells h = record { width = λ e. no_fault (λ q. cells_width q) e; steps_more = λ e. no_fault (λ q. cells_steps q) e; cells_more = λ e. h } where
  cells_width : fault.Cells ≡ fault.Width → ⊥
  cells_width q = absurd cc

  cells_steps : fault.Cells ≡ fault.Steps → ⊥
  cells_steps q = absurd cc
