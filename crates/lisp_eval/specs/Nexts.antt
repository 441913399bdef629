-- What the functions of the evaluator's loop answer: the next state, in whatever arena.
use Rattle.std.specs.Prelude.{◌≡◌, ◌++◌, ℕ, List, [], Option, Some, Result, IfOk, MatchResult, slice_get}
use Rattle.gl_logic.specs.Definition.{Definition}
use Rattle.gl_logic.specs.Environment.{extended}
use Rattle.gl_logic.specs.Exp.{Exp}
use Rattle.gl_logic.specs.Object.{Object}
use Rattle.gl_logic.specs.TermOf.{terms_of}
use Rattle.gl_logic.specs.WorldSeen.{WorldSeen}
use Rattle.gl_logic.specs.declared.ids.NoMemory.{NoMemory}
use Rattle.gl_logic.specs.declared.term.Term.{Term}
use Rattle.hons_arena.specs.declared.id.Id.{Id}
use Rattle.hons_arena.specs.Held.{Held}
use Rattle.memo_tables.specs.Calls.{Call}
use Rattle.lisp_eval.specs.Answers.{IsValueOf, IsCauseOf, IsLicensed}
use Rattle.lisp_eval.specs.Frames.{Visit}
use Rattle.lisp_eval.specs.Kept.{kept_frame}
use Rattle.lisp_eval.specs.MachineCalls.{HoldsSeen}
use Rattle.lisp_eval.specs.Moves.{Next, begun, entered, handed}
use Rattle.lisp_eval.specs.States.{env_of, values_of, work_of, frame_of, IsNext}
use Rattle.lisp_eval.specs.declared.attempt.Setting.{Setting}
use Rattle.lisp_eval.specs.declared.fault.EvalFault.{EvalFault}
use Rattle.lisp_eval.specs.declared.frame.Binding.{Binding}
use Rattle.lisp_eval.specs.declared.frame.Focus.{Focus}
use Rattle.lisp_eval.specs.declared.frame.Frame.{Frame}
use Rattle.lisp_eval.specs.declared.frame.Work.{Work}
use Rattle.lisp_eval.specs.declared.halt.Cause.{Cause}

-- the first of some terms is visited, or the work is done
abbrev pub Begins : Work → List Id → List Term → List Binding → List Frame → List Frame → Result Focus NoMemory → Type 0
Begins w done terms env old new answer = (objects : List Object) → IfOk answer (λ f. IsNext objects (begun (work_of (env_of objects env) w) (values_of objects done) (terms_of terms) (env_of objects env)) old f new)

-- a term is entered
abbrev pub Enters : Exp → List Binding → List Frame → List Frame → Result Focus NoMemory → Type 0
Enters t env old new answer = (objects : List Object) → IfOk answer (λ f. IsNext objects (entered t (env_of objects env)) old f new)

-- a frame takes a value, in whatever arena grows from this one
abbrev pub Hands : List Object → Frame → Object → List Frame → List Frame → Result Focus NoMemory → Type 0
Hands objects g v old new answer = (more : List Object) → IfOk answer (λ f. IsNext (objects ++ more) (handed (frame_of (objects ++ more) g) v) old f new)

-- a body with its formals bound, and the frame of a call that is to be kept
abbrev pub body_next : List Object → Definition → List Id → Option Call → Next
body_next objects d args keep = record { focus = Visit d.body (extended d.formals (values_of objects args) []); pushed = kept_frame objects keep }

abbrev pub Opens : List Definition → ℕ → List Id → Option Call → List Frame → List Frame → Result Focus NoMemory → Type 0
Opens definitions f args keep old new answer = (objects : List Object) (d : Definition) → slice_get definitions f ≡ Some d → IfOk answer (λ o. IsNext objects (body_next objects d args keep) old o new)

-- the body of a `let`
abbrev pub inner_next : List Object → List ℕ → Exp → List Id → List Binding → Next
inner_next objects names body values outer = record { focus = Visit body (extended names (values_of objects values) (env_of objects outer)); pushed = [] }

abbrev pub Binds : List ℕ → Exp → List Id → List Binding → Result Focus NoMemory → Type 0
Binds names body values outer answer = (objects : List Object) (frames : List Frame) → IfOk answer (λ o. IsNext objects (inner_next objects names body values outer) frames o frames)

-- ---- of the whole
-- the bindings' ids stand for the same objects in whatever arena grows from this one
abbrev pub Stand : List Object → List Binding → Type 0
Stand objects env = (more : List Object) → env_of (objects ++ more) env ≡ env_of objects env

-- the id of the term's value, or a cause that holds
abbrev pub Answered : WorldSeen → List ℕ → List Binding → Exp → ℕ → Held → Held → Result Id Cause → Type 0
Answered w functions env t limit old new answer = MatchResult answer (IsValueOf w (env_of old.objects env) t new.objects) (IsCauseOf w functions (env_of old.objects env) t limit old.objects old.limit)

-- the same of a setting
abbrev pub AnsweredIn : Setting → List Binding → Exp → ℕ → Held → Held → Result Id Cause → Type 0
AnsweredIn setting env t limit old new answer = Answered setting.world.now setting.functions.now env t limit old new answer

abbrev pub HoldsSeenIn : Setting → List Binding → Exp → List Object → List Object → Type 0
HoldsSeenIn setting env t old new = HoldsSeen setting.world.now (env_of old env) t old new

abbrev pub IsLicensedIn : Setting → List Binding → Exp → ℕ → Held → Result Id EvalFault → Type 0
IsLicensedIn setting env t steps old answer = IsLicensed setting.world.now setting.functions.now (env_of old.objects env) t steps old answer
