-- What an attempt at evaluating a term at once tells.
use Rattle.std.specs.Prelude.{◌≡◌, ◌+◌, ℕ, List, [], Result, Ok, Err, IfOk, IsErrOf, get_or, ◌⊎◌}
use Rattle.gl_logic.specs.Definition.{Definition}
use Rattle.gl_logic.specs.Environment.{extended}
use Rattle.gl_logic.specs.Exp.{Exp, Exps, Prim, Call, Last, More}
use Rattle.gl_logic.specs.declared.prim.Primitive.{Primitive}
use Rattle.gl_logic.specs.Object.{Object, nil}
use Rattle.fast_alists.specs.Tables.{Agree}
use Rattle.hons_arena.specs.declared.id.Full.{Full}
use Rattle.hons_arena.specs.declared.id.Id.{Id}
use Rattle.hons_arena.specs.Held.{Held, AddsCellsOf, IsWhole, LacksCell}
use Rattle.hons_arena.specs.Ids.{IsIdOf}
use Rattle.lisp_eval.specs.Directs.{scope_env, IsFound, AreGiven}
use Rattle.lisp_eval.specs.Outside.{value_object, IsLiveValue}
use Rattle.lisp_eval.specs.Sights.{Sees, SeeAll, Adds, Lacks}
use Rattle.lisp_eval.specs.Tables.{table_value}
use Rattle.lisp_eval.specs.Within.{IsIn}
use Rattle.lisp_eval.specs.Zero.{IsZp}
use Rattle.lisp_eval.specs.declared.attempt.Found.{Found}
use Rattle.lisp_eval.specs.declared.attempt.Given.{Given}
use Rattle.lisp_eval.specs.declared.attempt.Ids.{Ids}
use Rattle.lisp_eval.specs.declared.attempt.Scope.{Scope}
use Rattle.lisp_eval.specs.declared.attempt.Setting.{Setting}
use Rattle.lisp_eval.specs.declared.attempt.Stop.{Stop}
use Rattle.lisp_eval.specs.declared.attempt.Stop.TheVariants as stop
use Rattle.lisp_eval.specs.declared.value.Value.{Value}

-- lists with their tables
abbrev pub Alists : Type 0
Alists = List (Id × List (Id × Id))

-- a primitive of one argument, and of two
abbrev pub unary_term : Primitive → Exp → Exp
unary_term p t = Prim p (More t Last)

abbrev pub binary_term : Primitive → Exp → Exp → Exp
binary_term p t u = Prim p (More t (More u Last))

module _ (definitions : List Definition) (functions : List ℕ) where
  -- what is found of the term is so in the arena that has grown, with which the tables agree; Full only where some value
  -- that it sees lacks a cell
  pub record Tells (env : List (ℕ × Object)) (t : Exp) (left : ℕ) (old new : Held) (tables : Alists) (answer : Result Found Stop) : Type 0 where
    pub adds : Adds (Sees definitions functions env t) old new
    pub agree : Agree new.objects tables
    pub found : IfOk answer (IsFound definitions functions new.objects env t left)
    pub lacks : IsErrOf answer stop.Full → Lacks (Sees definitions functions env t) new

  -- the same of one to three terms
  pub record TellsAll (env : List (ℕ × Object)) (ts : Exps) (left : ℕ) (old new : Held) (tables : Alists) (answer : Result Given Stop) : Type 0 where
    pub adds : Adds (SeeAll definitions functions env ts) old new
    pub agree : Agree new.objects tables
    pub given : IfOk answer (AreGiven definitions functions new.objects env ts left)
    pub lacks : IsErrOf answer stop.Full → Lacks (SeeAll definitions functions env ts) new

-- the same of a setting and a scope
abbrev pub TellsIn : Setting → Scope → Exp → ℕ → Held → Held → Alists → Result Found Stop → Type 0
TellsIn setting scope t left old new tables answer = Tells setting.world.now.definitions setting.functions.now (scope_env old.objects scope) t left old new tables answer

abbrev pub TellsAllIn : Setting → Scope → Exps → ℕ → Held → Held → Alists → Result Given Stop → Type 0
TellsAllIn setting scope ts left old new tables answer = TellsAll setting.world.now.definitions setting.functions.now (scope_env old.objects scope) ts left old new tables answer

-- the body of a definition, whatever values are behind the first two
abbrev pub BodyTells : Setting → Definition → Given → Held → Held → Alists → Result Found Stop → Type 0
BodyTells setting d g old new tables answer = (values : List Object) → get_or values 0 nil ≡ value_object old.objects g.first → get_or values 1 nil ≡ value_object old.objects g.second
    → Tells setting.world.now.definitions setting.functions.now (extended d.formals values []) d.body g.left old new tables answer

-- a call of `zp`, behind the visit of the call itself
abbrev pub ZeroTells : Setting → Scope → Exps → ℕ → Held → Held → Alists → Result Found Stop → Type 0
ZeroTells setting scope ts left old new tables answer = (f : ℕ) → IsZp setting.world.now.definitions setting.functions.now f → TellsIn setting scope (Call f ts) (left + 1) old new tables answer

-- a value of this object
abbrev pub IsHere : List Object → Object → Value → Type 0
IsHere objects object v = IsLiveValue objects v × (value_object objects v ≡ object)

-- the answer is a value of this object, of which cells alone were added; Full only where one of them is lacking
pub record Applies (object : Object) (old new : Held) (answer : Result Value Stop) : Type 0 where
  pub value : IfOk answer (IsHere new.objects object)
  pub objects : AddsCellsOf object old.objects new.objects
  pub limit : new.limit ≡ old.limit
  pub whole : IsWhole new
  pub lacks : IsErrOf answer stop.Full → LacksCell new object

-- the value of what is found
abbrev pub value_found : Result Found Stop → Result Value Stop
value_found (Ok f) = Ok f.value
value_found (Err s) = Err s

-- ---- of a call that tables answer
abbrev pub IsSeenOrNil : List Object → Object → Type 0
IsSeenOrNil seen x = IsIn seen x ⊎ (x ≡ nil)

abbrev pub SeesThree : List Object → Given → List Object → Type 0
SeesThree objects g seen = IsSeenOrNil seen (value_object objects g.first) × (IsSeenOrNil seen (value_object objects g.second) × IsSeenOrNil seen (value_object objects g.third))

-- the ids of the three, of which cells alone were added
pub record EntersThree (g : Given) (old new : Held) (answer : Result Ids Full) : Type 0 where
  pub adds : Adds (SeesThree old.objects g) old new
  pub ids : IfOk answer (λ i. IsIdOf new.objects (value_object old.objects g.first) i.first × (IsIdOf new.objects (value_object old.objects g.second) i.second × IsIdOf new.objects (value_object old.objects g.third) i.third))

abbrev pub given_answer : List Object → ℕ → Given → Object
given_answer objects f g = table_value f (value_object objects g.first) (value_object objects g.second) (value_object objects g.third)

abbrev pub SeesAnswer : List Object → ℕ → Given → List Object → Type 0
SeesAnswer objects f g seen = SeesThree objects g seen × IsIn seen (given_answer objects f g)

-- the answer of a function that tables answer, which is never refused for want of cells
pub record TablesTell (f : ℕ) (g : Given) (old new : Held) (tables : Alists) (answer : Result Found Stop) : Type 0 where
  pub adds : Adds (SeesAnswer old.objects f g) old new
  pub agree : Agree new.objects tables
  pub found : IfOk answer (λ x. IsHere new.objects (given_answer old.objects f g) x.value × (x.left ≡ g.left))
  pub cells : ¬ IsErrOf answer stop.Full
