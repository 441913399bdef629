-- What walks of terms see, and arenas that grow by cells of it.
use Rattle.std.specs.Prelude.{◌≡◌, ℕ, List, Some}
use Rattle.gl_logic.specs.Definition.{Definition}
use Rattle.gl_logic.specs.Exp.{Exp, Exps}
use Rattle.gl_logic.specs.Object.{Object}
use Rattle.gl_logic.specs.Walk.{CallMade}
use Rattle.hons_arena.specs.Held.{Held, IsWhole, LacksCell}
use Rattle.lisp_eval.specs.Answers.{HasGrown}
use Rattle.lisp_eval.specs.Tables.{answered_in}
use Rattle.lisp_eval.specs.Threads.{Thread, Threads, thread, threads}
use Rattle.lisp_eval.specs.Within.{IsIn, AreWithin}

module _ (definitions : List Definition) (functions : List ℕ) where
  -- some walk of the term sees this
  pub record Sees (env : List (ℕ × Object)) (t : Exp) (seen : List Object) : Type 0 where
    pub depth : ℕ
    pub kept : List CallMade
    pub walk : Thread
    pub walks : thread definitions (answered_in definitions) functions depth env t kept ≡ Some walk
    pub sight : walk.seen ≡ seen

  -- some walk of the terms, one after the other
  pub record SeeAll (env : List (ℕ × Object)) (ts : Exps) (seen : List Object) : Type 0 where
    pub depth : ℕ
    pub kept : List CallMade
    pub walk : Threads
    pub walks : threads definitions (answered_in definitions) functions depth env ts kept ≡ Some walk
    pub sight : walk.seen ≡ seen

-- the arena has grown by cells of what is seen, whichever of these is seen
pub record Adds (sees : List Object → Type 0) (old new : Held) : Type 0 where
  pub grown : HasGrown old.objects new.objects
  pub limit : new.limit ≡ old.limit
  pub whole : IsWhole new
  pub within : (seen : List Object) → sees seen → AreWithin old.objects seen new.objects

-- there is no cell left for some value that is seen, whichever of these is seen
abbrev pub Lacks : (List Object → Type 0) → Held → Type 0
Lacks sees held = (seen : List Object) → sees seen → (x : Object) × (IsIn seen x × LacksCell held x)
