-- What a machine holds, and what it is for one to fit a world.
use Rattle.std.specs.Prelude.{ℕ, ◌<◌, List, length, All, Contains, refl}
use Rattle.std.specs.Coded.{Coded, code_by, coded×, coded_ℕ, coded_list}
use Rattle.gl_logic.specs.Object.{Object}
use Rattle.gl_logic.specs.WorldSeen.{WorldSeen}
use Rattle.hons_arena.specs.declared.id.Id.{Id}
use Rattle.hons_arena.specs.Held.{Held, coded_held}
use Rattle.hons_arena.specs.HashedIds.{coded_id}
use Rattle.hons_arena.specs.Ids.{IsLive}
use Rattle.hons_arena.specs.Parts.{AreHeld}
use Rattle.memo_tables.specs.Calls.{Call}
use Rattle.lisp_eval.specs.Answers.{FitMemos}

-- the arena, how many subterms one evaluation may visit, the functions whose finished calls are kept, the calls that are
-- kept now, and the lists that have a table now, each with its table
pub record MachineSeen : Type 0 where
  pub arena : Held
  pub steps : ℕ
  pub functions : List ℕ
  pub memos : List (Call × Id)
  pub tables : List (Id × List (Id × Id))

-- each cell of each of these objects is held
abbrev pub ArePlaced : List Object → List Object → Type 0
ArePlaced objects xs = (x : Object) → Contains xs x → AreHeld objects x

abbrev pub AreFunctionsOf : WorldSeen → List ℕ → Type 0
AreFunctionsOf w functions = All (λ f. f < length w.definitions) functions

-- the machine fits the world: its memoized functions are the world's, each kept result is the value of its call in this
-- world, and no value of that call's plain evaluation is wide
pub record Fits (w : WorldSeen) (m : MachineSeen) : Type 0 where
  pub functions : AreFunctionsOf w m.functions
  pub memos : FitMemos w.definitions m.arena.objects m.memos

-- the ids of a kept call stand for something
pub record IsLiveEntry (objects : List Object) (e : Call × Id) : Type 0 where
  pub arguments : All (IsLive objects) e.0.arguments
  pub value : IsLive objects e.1

-- ---- the code
abbrev pub coded_entry : Coded (Call × Id)
coded_entry =
    code_by ((ℕ × List Id) × Id) (coded× (coded× coded_ℕ (coded_list coded_id)) coded_id) (λ e. ((e.0.function, e.0.arguments), e.1)) (λ p. (record { function = p.0.0; arguments = p.0.1 }, p.1)) (λ _. refl)

abbrev pub coded_tables : Coded (List (Id × List (Id × Id)))
coded_tables = coded_list (coded× coded_id (coded_list (coded× coded_id coded_id)))

abbrev pub coded_machine : Coded MachineSeen
coded_machine =
    code_by (Held × (ℕ × (List ℕ × (List (Call × Id) × List (Id × List (Id × Id)))))) (coded× coded_held (coded× coded_ℕ (coded× (coded_list coded_ℕ) (coded× (coded_list coded_entry) coded_tables)))) (λ m. (m.arena, (m.steps, (m.functions, (m.memos, m.tables)))))
    (λ p. record { arena = p.0; steps = p.1.0; functions = p.1.1.0; memos = p.1.1.1.0; tables = p.1.1.1.1 }) (λ _. refl)
