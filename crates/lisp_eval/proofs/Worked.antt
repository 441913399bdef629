-- The threaded count on the rows of counts that were computed outside this project.
use Rattle.std.proofs.Common.{◌≡◌, refl, Bool, true, [], ◌∷◌, eqb, pos}
use Rattle.std.specs.List.{list_all}
use Rattle.gl_logic.specs.Ground.{ground, ground_definitions}
use Rattle.gl_logic.specs.Object.{Int}
use Rattle.gl_logic.specs.Exp.{Const, Call, Last, More}
use Rattle.gl_logic.specs.WorkedCounts.{CountRow, worked_counts}
use Rattle.lisp_eval.specs.Threads.{threaded_cost}

-- where no call is kept at the start, each different call of a memoized function is opened once
abbrev is_right : CountRow → Bool
is_right r = eqb (threaded_cost r.world.definitions [] r.memoized r.depth [] r.term []) r.memoized_cost

rows : list_all is_right worked_counts ≡ true
unfolding worked_counts ground
rows = refl

-- (len 7) where that call is kept, and where tables answer it: the constant and the call
kept_row : threaded_cost ground_definitions [] (25 ∷ []) 2 [] (Call 25 (More (Const (Int (pos 7))) Last)) ((25, Int (pos 7) ∷ []) ∷ []) ≡ 2
unfolding ground
kept_row = refl

answered_row : threaded_cost ground_definitions (25 ∷ []) [] 2 [] (Call 25 (More (Const (Int (pos 7))) Last)) [] ≡ 2
unfolding ground
answered_row = refl
