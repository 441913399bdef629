-- A walk of the plain evaluation that carries the finished calls of some functions, and opens none of those again.
use Rattle.std.specs.Prelude.{ℕ, zero, suc, Bool, true, false, ◌||◌, ◌&&◌, cond, List, [], ◌∷◌, ◌++◌, length, Option, Some, None, slice_get}
use Rattle.std.specs.List.{list_any}
use Rattle.gl_logic.specs.Object.{Object}
use Rattle.gl_logic.specs.ObjectEq.{is_nil}
use Rattle.gl_logic.specs.PrimValue.{prim_value}
use Rattle.gl_logic.specs.Environment.{look, extended}
use Rattle.gl_logic.specs.Definition.{Definition}
use Rattle.gl_logic.specs.Exp.{Exp, Exps, Var, Const, If, Prim, Call, Let, Last, More}
use Rattle.gl_logic.specs.Walk.{Walk, CallMade, then, opened}
use Rattle.gl_logic.specs.Counts.{is_among, call_eq}

-- of one term: its value, the values of the subterms that are visited, and the calls that are kept then
pub record Thread : Type 0 where
  pub value : Object
  pub seen : List Object
  pub kept : List CallMade

-- of terms one after the other
pub record Threads : Type 0 where
  pub values : List Object
  pub seen : List Object
  pub kept : List CallMade

-- a visit that has this value, and no parts
abbrev pub met : Object → List CallMade → Option Thread
met x kept = Some (record { value = x; seen = x ∷ []; kept = kept })

-- a visit whose value is its last part's, behind what was seen before that part
abbrev pub after : List Object → Thread → Option Thread
after seen r = Some (record { value = r.value; seen = seen ++ r.seen ++ r.value ∷ []; kept = r.kept })

-- a visit with this value, behind its parts
abbrev pub closed : Object → Threads → Option Thread
closed x rs = Some (record { value = x; seen = rs.seen ++ x ∷ []; kept = rs.kept })

abbrev pub chained : Thread → Threads → Option Threads
chained r rs = Some (record { values = r.value ∷ rs.values; seen = r.seen ++ rs.seen; kept = rs.kept })

-- `call` says what a call of a definition gives, from its arguments' values and the calls that are kept then: what is seen in its body alone
abbrev mutual
  pub thread_by : (ℕ → List Object → List CallMade → Option Thread) → Exp → List (ℕ × Object) → List CallMade → Option Thread
  thread_by call (Var v) env kept = met (look env v) kept
  thread_by call (Const x) env kept = met x kept
  thread_by call (If t a b) env kept = then (thread_by call t env kept) (λ r. elim (is_nil r.value) [
    | true ↦ then (thread_by call b env r.kept) (after r.seen)
    | false ↦ then (thread_by call a env r.kept) (after r.seen)
  ])
  thread_by call (Prim p ts) env kept = then (threads_by call ts env kept) (λ rs. closed (prim_value p rs.values) rs)
  thread_by call (Call f ts) env kept = then (threads_by call ts env kept) (λ rs. then (call f rs.values rs.kept) (after rs.seen))
  thread_by call (Let vs ts b) env kept = then (threads_by call ts env kept) (λ rs. then (thread_by call b (extended vs rs.values env) rs.kept) (after rs.seen))

  pub threads_by : (ℕ → List Object → List CallMade → Option Thread) → Exps → List (ℕ × Object) → List CallMade → Option Threads
  threads_by call Last env kept = Some (record { values = []; seen = []; kept = kept })
  threads_by call (More t ts) env kept = then (thread_by call t env kept) (λ r. then (threads_by call ts env r.kept) (chained r))

abbrev pub is_kept : List CallMade → CallMade → Bool
is_kept kept c = list_any (call_eq c) kept

-- a call is not opened where tables answer its function, or where it is a kept call of a memoized one
abbrev pub stays_shut : List ℕ → List ℕ → ℕ → List Object → List CallMade → Bool
stays_shut answered functions f xs kept = is_among answered f || (is_among functions f && is_kept kept (f, xs))

-- the calls that are kept once this one is finished
abbrev pub keeping : List ℕ → ℕ → List Object → List CallMade → List CallMade
keeping functions f xs kept = cond (is_among functions f) ((f, xs) ∷ kept) kept

abbrev pub finished : List ℕ → ℕ → List Object → Thread → Option Thread
finished functions f xs r = Some (record { value = r.value; seen = r.seen; kept = keeping functions f xs r.kept })

abbrev pub skipped : List CallMade → Object → Option Thread
skipped kept x = Some (record { value = x; seen = []; kept = kept })

-- the plain walk of the call itself
abbrev pub plain_call : List Definition → ℕ → ℕ → List Object → Option Walk
plain_call definitions n f xs = opened definitions n f (record { values = xs; seen = []; made = [] })

-- what a call of definition f gives where at most n definitions more may be opened inside one another
abbrev pub threaded : List Definition → List ℕ → List ℕ → ℕ → ℕ → List Object → List CallMade → Option Thread
threaded definitions answered functions zero f xs kept = None
threaded definitions answered functions (suc n) f xs kept = elim (stays_shut answered functions f xs kept) [
  | true ↦ then (plain_call definitions (suc n) f xs) (λ r. skipped kept r.value)
  | false ↦ then (slice_get definitions f) (λ d. then (thread_by (threaded definitions answered functions n) d.body (extended d.formals xs []) kept) (finished functions f xs))
]

-- the walk of a term from these kept calls
abbrev pub thread : List Definition → List ℕ → List ℕ → ℕ → List (ℕ × Object) → Exp → List CallMade → Option Thread
thread definitions answered functions n env t kept = thread_by (threaded definitions answered functions n) t env kept

abbrev pub threads : List Definition → List ℕ → List ℕ → ℕ → List (ℕ × Object) → Exps → List CallMade → Option Threads
threads definitions answered functions n env ts kept = threads_by (threaded definitions answered functions n) ts env kept

-- its value from these kept calls, or none
abbrev pub threaded_value : List Definition → List ℕ → List ℕ → ℕ → List (ℕ × Object) → Exp → List CallMade → Option Object
threaded_value definitions answered functions n env t kept = then (thread definitions answered functions n env t kept) (λ r. Some r.value)

abbrev pub met_in : Option Thread → List Object
met_in None = []
met_in (Some r) = r.seen

-- how many subterms it visits
abbrev pub threaded_cost : List Definition → List ℕ → List ℕ → ℕ → List (ℕ × Object) → Exp → List CallMade → ℕ
threaded_cost definitions answered functions n env t kept = length (met_in (thread definitions answered functions n env t kept))
