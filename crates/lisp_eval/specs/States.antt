-- What the evaluator's states stand for, in an arena that holds these objects.
use Rattle.std.specs.Prelude.{◌≡◌, ℕ, List, ◌++◌, map}
use Rattle.gl_logic.specs.Object.{Object}
use Rattle.gl_logic.specs.TermOf.{term_of, terms_of}
use Rattle.hons_arena.specs.declared.id.Id.{Id}
use Rattle.hons_arena.specs.Ids.{object_at}
use Rattle.memo_tables.specs.Calls.{Call}
use Rattle.lisp_eval.specs.Frames as spec
use Rattle.lisp_eval.specs.Moves.{Next}
use Rattle.lisp_eval.specs.declared.frame.Binding.{Binding}
use Rattle.lisp_eval.specs.declared.frame.Work.{Work}
use Rattle.lisp_eval.specs.declared.frame.Work.TheVariants as work
use Rattle.lisp_eval.specs.declared.frame.Frame.{Frame}
use Rattle.lisp_eval.specs.declared.frame.Frame.TheVariants as frame
use Rattle.lisp_eval.specs.declared.frame.Focus.{Focus}
use Rattle.lisp_eval.specs.declared.frame.Focus.TheVariants as focus

abbrev pub env_of : List Object → List Binding → List (ℕ × Object)
env_of objects bindings = map (λ b. (b.name.number, object_at objects b.value)) bindings

abbrev pub values_of : List Object → List Id → List Object
values_of objects ids = map (object_at objects) ids

abbrev pub work_of : List (ℕ × Object) → Work → spec.Work
work_of env (work.Prim p) = spec.ToPrim p
work_of env (work.Call f) = spec.ToCall f.number
work_of env (work.Let vs b) = spec.ToLet vs.now (term_of b.now) env

abbrev pub keep_of : List Object → Call → spec.Frame
keep_of objects c = spec.Keep c.function (values_of objects c.arguments)

abbrev pub frame_of : List Object → Frame → spec.Frame
frame_of objects (frame.Branch a b env) = spec.Branch (term_of a.now) (term_of b.now) (env_of objects env.value.items)
frame_of objects (frame.Arguments w done terms env) = spec.Arguments (work_of (env_of objects env.value.items) w) (values_of objects done.items) (terms_of terms.now) (env_of objects env.value.items)
frame_of objects (frame.Keep call) = keep_of objects call

abbrev pub frames_of : List Object → List Frame → List spec.Frame
frames_of objects frames = map (frame_of objects) frames

abbrev pub focus_of : List Object → Focus → spec.Focus
focus_of objects (focus.Visit t env) = spec.Visit (term_of t.now) (env_of objects env.value.items)
focus_of objects (focus.Apply w xs env) = spec.Apply (work_of (env_of objects env.value.items) w) (values_of objects xs.items)
focus_of objects (focus.Give x) = spec.Give (object_at objects x)

-- the next state of the machine
pub record IsNext (objects : List Object) (next : Next) (old : List Frame) (f : Focus) (new : List Frame) : Type 0 where
  pub focus : focus_of objects f ≡ next.focus
  pub frames : frames_of objects new ≡ frames_of objects old ++ next.pushed
