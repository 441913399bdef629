-- What the turns of the evaluator's loop tell, and when it ends.
use Rattle.std.specs.Prelude.{◌≡◌, ◌-◌, ℕ, List, Some, Result, IfOk, MatchResult, slice_get, ◌⊎◌}
use Rattle.fast_alists.specs.Tables.{Agree}
use Rattle.fast_alists.specs.declared.fault.AlistFault.{AlistFault}
use Rattle.fast_alists.specs.declared.fault.AlistFault.TheVariants as alist_fault
use Rattle.gl_logic.specs.Definition.{Definition}
use Rattle.gl_logic.specs.Exp.{Exp}
use Rattle.gl_logic.specs.Object.{Object}
use Rattle.gl_logic.specs.PrimValue.{prim_of}
use Rattle.gl_logic.specs.TermOf.{term_of}
use Rattle.gl_logic.specs.WorldSeen.{WorldSeen}
use Rattle.gl_logic.specs.declared.ids.NoMemory.{NoMemory}
use Rattle.gl_logic.specs.declared.prim.Primitive.{Primitive}
use Rattle.hons_arena.specs.Held.{Held}
use Rattle.hons_arena.specs.Ids.{object_at}
use Rattle.hons_arena.specs.declared.id.Id.{Id}
use Rattle.memo_tables.specs.Calls.{Call}
use Rattle.lisp_eval.specs.Answers.{IsValueOf, IsCauseOf, FitMemos, HasGrown}
use Rattle.lisp_eval.specs.Attempts.{Alists}
use Rattle.lisp_eval.specs.Bindings.{id_or_nil}
use Rattle.lisp_eval.specs.Compound.{IsCompound}
use Rattle.lisp_eval.specs.Frameless.{ReachesValue, ReachesTerm}
use Rattle.lisp_eval.specs.Kept.{IsKnown}
use Rattle.lisp_eval.specs.MachineCalls.{HoldsSeen}
use Rattle.lisp_eval.specs.Moves.{entered}
use Rattle.lisp_eval.specs.Nexts.{body_next}
use Rattle.lisp_eval.specs.Sights.{Sees, Adds, Lacks}
use Rattle.lisp_eval.specs.States.{env_of, IsNext}
use Rattle.lisp_eval.specs.declared.attempt.Setting.{Setting}
use Rattle.lisp_eval.specs.declared.calls.Known.{Known}
use Rattle.lisp_eval.specs.declared.calls.Known.TheVariants as known
use Rattle.lisp_eval.specs.declared.frame.Binding.{Binding}
use Rattle.lisp_eval.specs.declared.frame.Focus.{Focus}
use Rattle.lisp_eval.specs.declared.frame.Focus.TheVariants as focus
use Rattle.lisp_eval.specs.declared.frame.Frame.{Frame}
use Rattle.lisp_eval.specs.declared.halt.Cause.TheVariants as cause
use Rattle.lisp_eval.specs.declared.halt.Halt.{Halt}
use Rattle.lisp_eval.specs.declared.halt.Halt.TheVariants as halt
use Rattle.lisp_eval.specs.declared.primitives.PrimFault.{PrimFault}
use Rattle.lisp_eval.specs.declared.primitives.PrimFault.TheVariants as prim_fault

-- ---- refusals of parts
abbrev pub halt_of_primitive : PrimFault → Halt
halt_of_primitive prim_fault.Wide = halt.Stop cause.Width
halt_of_primitive prim_fault.Full = halt.Stop cause.Cells

abbrev pub halt_of_table : AlistFault → Halt
halt_of_table alist_fault.Full = halt.Stop cause.Cells
halt_of_table alist_fault.Memory = halt.Memory

-- for want of cells alone, where this holds, but for want of memory
abbrev pub HaltsForCells : Type 0 → Halt → Type 0
HaltsForCells crowded (halt.Stop cause.Cells) = crowded
HaltsForCells crowded (halt.Stop _) = ⊥
HaltsForCells crowded halt.Memory = Unit {0}

-- ---- a primitive, on the objects of the first two ids
abbrev pub prim_on : List Object → Primitive → List Id → Object
prim_on objects p ids = prim_of p (object_at objects (id_or_nil ids 0)) (object_at objects (id_or_nil ids 1))

-- ---- a visit
module _ (definitions : List Definition) (functions : List ℕ) where
  -- the evaluation of a term has come to this focus with no frame
  abbrev pub FocusReached : List (ℕ × Object) → Exp → ℕ → List Object → ℕ → Focus → Type 0
  FocusReached env t left objects rest (focus.Give id) = ReachesValue definitions functions env t left objects id rest
  FocusReached env t left objects rest (focus.Visit u inner) = ReachesTerm definitions functions env t left objects (term_of u.now) inner.value.items rest
  FocusReached env t left objects rest (focus.Apply work values inner) = ⊥

  -- the focus comes with no frame, or it is in a part of the term
  abbrev pub VisitGoes : List Binding → Exp → ℕ → ℕ → Held → Held → List Frame → List Frame → Focus → Type 0
  VisitGoes env t left rest old new frames stack f =
      ((stack ≡ frames) × FocusReached (env_of old.objects env) t left new.objects rest f)
      ⊎ (IsCompound t × ((rest ≡ left - 1) × ((objects : List Object) → IsNext objects (entered t (env_of objects env)) frames f stack)))

  pub record VisitTells (env : List Binding) (t : Exp) (left rest : ℕ) (old new : Held) (frames stack : List Frame) (answer : Result Focus Halt) : Type 0 where
    pub adds : Adds (Sees definitions functions (env_of old.objects env) t) old new
    pub ends : MatchResult answer (VisitGoes env t left rest old new frames stack) (HaltsForCells (Lacks (Sees definitions functions (env_of old.objects env) t) new))

-- the same of a setting
abbrev pub VisitTellsIn : Setting → List Binding → Exp → ℕ → ℕ → Held → Held → List Frame → List Frame → Result Focus Halt → Type 0
VisitTellsIn setting env t left rest old new frames stack answer = VisitTells setting.world.now.definitions setting.functions.now env t left rest old new frames stack answer

-- ---- a call that tables do not answer
abbrev pub KnownGoes : List Definition → ℕ → List Id → List Frame → List Frame → Focus → Known → Type 0
KnownGoes definitions f args frames stack o (known.Value id) = (o ≡ focus.Give id) × (stack ≡ frames)
KnownGoes definitions f args frames stack o (known.Opens keep) = (objects : List Object) (d : Definition) → slice_get definitions f ≡ Some d → IsNext objects (body_next objects d args keep) frames o stack

abbrev pub CallGoes : List Definition → List ℕ → Call → List (Call × Id) → List Frame → List Frame → Focus → Type 0
CallGoes definitions functions call entries frames stack o = (k : Known) × (IsKnown functions entries call k × KnownGoes definitions call.function call.arguments frames stack o k)

abbrev pub CallTells : List Definition → List ℕ → ℕ → List Id → List (Call × Id) → List Frame → List Frame → Result Focus NoMemory → Type 0
CallTells definitions functions f args entries frames stack answer = IfOk answer (CallGoes definitions functions (record { function = f; arguments = args }) entries frames stack)

abbrev pub CallTellsIn : Setting → ℕ → List Id → List (Call × Id) → List Frame → List Frame → Result Focus NoMemory → Type 0
CallTellsIn setting f args entries frames stack answer = CallTells setting.world.now.definitions setting.functions.now f args entries frames stack answer

-- ---- all of them
abbrev pub IsHaltOf : WorldSeen → List ℕ → List (ℕ × Object) → Exp → ℕ → Held → Halt → Type 0
IsHaltOf w functions env t limit old (halt.Stop c) = IsCauseOf w functions env t limit old.objects old.limit c
IsHaltOf w functions env t limit old halt.Memory = Unit {0}

-- the value is there, with all that is kept beside it
pub record TurnsEnd (w : WorldSeen) (env : List (ℕ × Object)) (t : Exp) (old new : List Object) (tables : Alists) (entries : List (Call × Id)) (id : Id) : Type 0 where
  pub value : IsValueOf w env t new id
  pub memos : FitMemos w.definitions new entries
  pub cells : HoldsSeen w env t old new
  pub agree : Agree new tables

pub record TurnsTell (w : WorldSeen) (functions : List ℕ) (env : List Binding) (t : Exp) (limit : ℕ) (old new : Held) (tables : Alists) (entries : List (Call × Id)) (answer : Result Id Halt) : Type 0 where
  pub ends : MatchResult answer (TurnsEnd w (env_of old.objects env) t old.objects new.objects tables entries) (IsHaltOf w functions (env_of old.objects env) t limit old)
  pub grown : HasGrown old.objects new.objects
  pub room : new.limit ≡ old.limit

abbrev pub TurnsTellIn : Setting → List Binding → Exp → ℕ → Held → Held → Alists → List (Call × Id) → Result Id Halt → Type 0
TurnsTellIn setting env t limit old new tables entries answer = TurnsTell setting.world.now setting.functions.now env t limit old new tables entries answer
