-- How far an evaluation goes without a frame.
use Rattle.std.specs.Prelude.{◌≡◌, ◌<◌, ◌≤◌, ◌-◌, ◌++◌, ℕ, List, Result, IfOk, IsErrOf, Some, slice_get, drop, length}
use Rattle.gl_logic.specs.Definition.{Definition}
use Rattle.gl_logic.specs.Environment.{bound}
use Rattle.gl_logic.specs.Every.{Every}
use Rattle.gl_logic.specs.Exp.{Exp, Exps}
use Rattle.gl_logic.specs.Object.{Object}
use Rattle.gl_logic.specs.TermOf.{term_of, terms_of}
use Rattle.gl_logic.specs.declared.term.Term.{Term}
use Rattle.hons_arena.specs.Held.{Held, IsWhole}
use Rattle.hons_arena.specs.Ids.{IsLive, IsIdOf}
use Rattle.hons_arena.specs.declared.id.Id.{Id}
use Rattle.lisp_eval.specs.Directs.{scope_env, GivesAtOnce, GiveAtOnce, IsFound, OpensAtOnce}
use Rattle.lisp_eval.specs.Leads.{LeadsTo}
use Rattle.lisp_eval.specs.Outside.{value_object, IsLiveValue, locals_of}
use Rattle.lisp_eval.specs.Sights.{Sees, SeeAll, Adds, Lacks}
use Rattle.lisp_eval.specs.States.{env_of}
use Rattle.lisp_eval.specs.Within.{IsIn}
use Rattle.lisp_eval.specs.declared.frameless.Reached.{Reached}
use Rattle.lisp_eval.specs.declared.frameless.Reached.TheVariants as reached
use Rattle.lisp_eval.specs.declared.frameless.Step.{Step}
use Rattle.lisp_eval.specs.declared.frameless.Step.TheVariants as step
use Rattle.lisp_eval.specs.declared.attempt.Scope.{Scope}
use Rattle.lisp_eval.specs.declared.attempt.Setting.{Setting}
use Rattle.lisp_eval.specs.declared.attempt.Stop.{Stop}
use Rattle.lisp_eval.specs.declared.attempt.Stop.TheVariants as stop
use Rattle.lisp_eval.specs.declared.frame.Binding.{Binding}
use Rattle.lisp_eval.specs.declared.value.Local.{Local}

-- the object of each local is among these
abbrev pub HasLocals : List Object → List Local → List Object → Type 0
HasLocals objects locals seen = Every (λ l. IsIn seen (value_object objects l.value)) locals

abbrev pub AreLiveLocals : List Object → List Local → Type 0
AreLiveLocals objects locals = Every (λ l. IsLiveValue objects l.value) locals

module _ (definitions : List Definition) (functions : List ℕ) where
  -- the body of a call with so many arguments may be gone into
  pub record MayOpen (f count : ℕ) : Type 0 where
    pub opens : OpensAtOnce definitions functions f
    pub formals : (d : Definition) → slice_get definitions f ≡ Some d → length d.formals ≡ count
    pub few : count ≤ 16

  -- the locals that were added are the names with the values of the terms, which take so many visits
  pub record AreBound (env : List (ℕ × Object)) (names : List ℕ) (ts : Exps) (left : ℕ) (objects : List Object) (old new : List Local) (rest : ℕ) : Type 0 where
    pub made : List Local
    pub values : List Object
    pub is : new ≡ old ++ made
    pub names_are : locals_of objects made ≡ bound names values
    pub live : AreLiveLocals objects made
    pub among : HasLocals objects made values
    pub few : rest ≤ left
    pub give : GiveAtOnce definitions functions env ts values (left - rest)

  pub record BindsFound (env : List (ℕ × Object)) (names : List ℕ) (ts : Exps) (left : ℕ) (old new : Held) (before after : List Local) (answer : Result ℕ Stop) : Type 0 where
    pub adds : Adds (SeeAll definitions functions env ts) old new
    pub binds : IfOk answer (AreBound env names ts left new.objects before after)
    pub lacks : IsErrOf answer stop.Full → Lacks (SeeAll definitions functions env ts) new

  -- the evaluation goes on with this term in this environment
  pub record GoesOn (env : List (ℕ × Object)) (t : Exp) (left : ℕ) (inner : List (ℕ × Object)) (u : Exp) (rest : ℕ) : Type 0 where
    pub fewer : rest < left
    pub leads : LeadsTo definitions functions env t inner u (left - rest)

  -- it goes on on locals, each of which it has seen
  pub record GoesInto (env : List (ℕ × Object)) (t : Exp) (left : ℕ) (objects : List Object) (locals : List Local) (u : Exp) (rest : ℕ) : Type 0 where
    pub way : GoesOn env t left (locals_of objects locals) u rest
    pub live : AreLiveLocals objects locals
    pub seen : (seen : List Object) → Sees definitions functions env t seen → HasLocals objects locals seen

  abbrev pub StepGoes : List (ℕ × Object) → Exp → ℕ → List Object → List Local → Step → Type 0
  StepGoes env t left objects next (step.Value f) = IsFound definitions functions objects env t left f
  StepGoes env t left objects next (step.Stays u rest) = GoesOn env t left env (term_of u.now) rest
  StepGoes env t left objects next (step.Opens u rest) = GoesInto env t left objects next (term_of u.now) rest

  pub record StepTells (env : List (ℕ × Object)) (t : Exp) (left : ℕ) (old new : Held) (next : List Local) (answer : Result Step Stop) : Type 0 where
    pub adds : Adds (Sees definitions functions env t) old new
    pub goes : IfOk answer (StepGoes env t left new.objects next)
    pub lacks : IsErrOf answer stop.Full → Lacks (Sees definitions functions env t) new

  -- the value is there
  pub record ReachesValue (env : List (ℕ × Object)) (t : Exp) (left : ℕ) (objects : List Object) (id : Id) (rest : ℕ) : Type 0 where
    pub value : Object
    pub is : IsIdOf objects value id
    pub fewer : rest < left
    pub gives : GivesAtOnce definitions functions env t value (left - rest)

  -- the evaluation goes on in this environment of ids
  pub record ReachesTerm (env : List (ℕ × Object)) (t : Exp) (left : ℕ) (objects : List Object) (u : Exp) (inner : List Binding) (rest : ℕ) : Type 0 where
    pub way : GoesOn env t left (env_of objects inner) u rest
    pub live : Every (λ b. IsLive objects b.value) inner

  abbrev pub Reaches : List (ℕ × Object) → Exp → ℕ → List Object → Reached → Type 0
  Reaches env t left objects (reached.Value id rest) = ReachesValue env t left objects id rest
  Reaches env t left objects (reached.Term u inner rest) = ReachesTerm env t left objects (term_of u.now) inner.value.items rest

  pub record AdvanceTells (env : List (ℕ × Object)) (t : Exp) (left : ℕ) (old new : Held) (answer : Result Reached Stop) : Type 0 where
    pub adds : Adds (Sees definitions functions env t) old new
    pub goes : IfOk answer (Reaches env t left new.objects)
    pub lacks : IsErrOf answer stop.Full → Lacks (Sees definitions functions env t) new

-- the same of a setting
abbrev pub AdvanceTellsIn : Setting → List Binding → Exp → ℕ → Held → Held → Result Reached Stop → Type 0
AdvanceTellsIn setting env t left old new answer = AdvanceTells setting.world.now.definitions setting.functions.now (env_of old.objects env) t left old new answer

-- the same of a setting and a scope
abbrev pub StepTellsIn : Setting → Scope → Exp → ℕ → Held → Held → List Local → Result Step Stop → Type 0
StepTellsIn setting scope t left old new next answer = StepTells setting.world.now.definitions setting.functions.now (scope_env old.objects scope) t left old new next answer

abbrev pub BindsFoundIn : Setting → Scope → List ℕ → Exps → ℕ → Held → Held → List Local → List Local → Result ℕ Stop → Type 0
BindsFoundIn setting scope names ts left old new before after answer = BindsFound setting.world.now.definitions setting.functions.now (scope_env old.objects scope) names ts left old new before after answer

-- the names between two places are bound to the values of their terms, in whatever world and arena: what then binds the names
-- behind them has bound all
abbrev pub BindsUpTo : (List Object → List (ℕ × Object)) → List ℕ → List Term → ℕ → ℕ → ℕ → List Local → List Local → ℕ → Type 0
BindsUpTo env names ts from left rest before middle to = (definitions : List Definition) (functions : List ℕ) (held new : Held) (after : List Local) (answer : Result ℕ Stop)
    → IsWhole held → BindsFound definitions functions (env held.objects) (drop to names) (terms_of (drop to ts)) rest held new middle after answer
    → BindsFound definitions functions (env held.objects) (drop from names) (terms_of (drop from ts)) left held new before after answer

-- the locals by ids, which are added to these
pub record AreEntered (objects new : List Object) (locals : List Local) (before after : List Binding) : Type 0 where
  pub made : List Binding
  pub is : after ≡ before ++ made
  pub env : env_of new made ≡ locals_of objects locals
  pub live : Every (λ b. IsLive new b.value) made

pub record EntersLocals (locals : List Local) (old new : Held) (before after : List Binding) (answer : Result Unit Stop) : Type 0 where
  pub adds : Adds (HasLocals old.objects locals) old new
  pub entered : IfOk answer (λ _. AreEntered old.objects new.objects locals before after)
  pub lacks : IsErrOf answer stop.Full → Lacks (HasLocals old.objects locals) new
