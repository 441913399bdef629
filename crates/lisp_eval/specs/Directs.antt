-- What terms give at once.
use Rattle.std.specs.Prelude.{◌≡◌, ◌<◌, ◌-◌, ℕ, List, length, Some, false, get_or}
use Rattle.gl_logic.specs.Counts.{is_among}
use Rattle.gl_logic.specs.Definition.{Definition}
use Rattle.gl_logic.specs.Every.{Every}
use Rattle.gl_logic.specs.Exp.{Exp, Exps}
use Rattle.gl_logic.specs.Object.{Object, nil}
use Rattle.gl_logic.specs.Walk.{CallMade}
use Rattle.hons_arena.specs.Ids.{IsLive}
use Rattle.lisp_eval.specs.Narrow.{IsNarrow}
use Rattle.lisp_eval.specs.Outside.{value_object, IsLiveValue, locals_of}
use Rattle.lisp_eval.specs.States.{env_of}
use Rattle.lisp_eval.specs.Tables.{answered_in}
use Rattle.lisp_eval.specs.Threads.{Thread, Threads, thread, threads}
use Rattle.lisp_eval.specs.declared.attempt.Found.{Found}
use Rattle.lisp_eval.specs.declared.attempt.Given.{Given}
use Rattle.lisp_eval.specs.declared.attempt.Scope.{Scope}
use Rattle.lisp_eval.specs.declared.attempt.Scope.TheVariants as scope

-- the environment of a scope
abbrev pub scope_env : List Object → Scope → List (ℕ × Object)
scope_env objects (scope.Outer bindings) = env_of objects bindings.now
scope_env objects (scope.Inner locals) = locals_of objects locals.now

-- the same, in whatever arena
abbrev pub in_scope : Scope → List Object → List (ℕ × Object)
in_scope scope objects = scope_env objects scope

abbrev pub IsLiveScope : List Object → Scope → Type 0
IsLiveScope objects (scope.Outer bindings) = Every (λ b. IsLive objects b.value) bindings.now
IsLiveScope objects (scope.Inner locals) = Every (λ l. IsLiveValue objects l.value) locals.now

-- a walk with this value and so many visits, which sees nothing wide and keeps no call
pub record Ends (kept : List CallMade) (x : Object) (visits : ℕ) (r : Thread) : Type 0 where
  pub value : r.value ≡ x
  pub count : length r.seen ≡ visits
  pub narrow : Every IsNarrow r.seen
  pub calls : r.kept ≡ kept

pub record AllEnd (kept : List CallMade) (xs : List Object) (visits : ℕ) (r : Threads) : Type 0 where
  pub values : r.values ≡ xs
  pub count : length r.seen ≡ visits
  pub narrow : Every IsNarrow r.seen
  pub calls : r.kept ≡ kept

module _ (definitions : List Definition) (functions : List ℕ) where
  -- however deep definitions are opened, and whatever calls are kept, the walk of the term ends so, where it ends
  abbrev pub GivesAtOnce : List (ℕ × Object) → Exp → Object → ℕ → Type 0
  GivesAtOnce env t x visits = (n : ℕ) (kept : List CallMade) (r : Thread) → thread definitions (answered_in definitions) functions n env t kept ≡ Some r → Ends kept x visits r

  abbrev pub GiveAtOnce : List (ℕ × Object) → Exps → List Object → ℕ → Type 0
  GiveAtOnce env ts xs visits = (n : ℕ) (kept : List CallMade) (r : Threads) → threads definitions (answered_in definitions) functions n env ts kept ≡ Some r → AllEnd kept xs visits r

  -- the value that is found is the term's, and the visits that are gone are those of its walk
  pub record IsFound (objects : List Object) (env : List (ℕ × Object)) (t : Exp) (left : ℕ) (f : Found) : Type 0 where
    pub live : IsLiveValue objects f.value
    pub fewer : f.left < left
    pub gives : GivesAtOnce env t (value_object objects f.value) (left - f.left)

  pub record AreGiven (objects : List Object) (env : List (ℕ × Object)) (ts : Exps) (left : ℕ) (g : Given) : Type 0 where
    pub values : List Object
    pub first_live : IsLiveValue objects g.first
    pub second_live : IsLiveValue objects g.second
    pub third_live : IsLiveValue objects g.third
    pub first : get_or values 0 nil ≡ value_object objects g.first
    pub second : get_or values 1 nil ≡ value_object objects g.second
    pub third : get_or values 2 nil ≡ value_object objects g.third
    pub fewer : g.left < left
    pub give : GiveAtOnce env ts values (left - g.left)

  pub record OpensAtOnce (f : ℕ) : Type 0 where
    pub there : f < length definitions
    pub unanswered : is_among (answered_in definitions) f ≡ false
    pub plain : is_among functions f ≡ false
