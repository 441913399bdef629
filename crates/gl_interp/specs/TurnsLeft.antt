-- How many turns the interpreter may still take: a number that falls with each, so that it ends.
use Rattle.std.specs.Prelude.{ℕ, zero, suc, ◌+◌, ◌<◌, List, [], ◌∷◌, length, slice_get, Option, Some, None}
use Rattle.gl_logic.specs.Definition.{Definition}
use Rattle.gl_logic.specs.Exp.{Exp, Exps, Var, Const, If, Prim, Call, Let, Last, More}
use Rattle.gl_logic.specs.TermOf.{term_of}
use Rattle.gl_logic.specs.declared.term.Term.{Term}
use Rattle.gl_interp.specs.declared.frame.Work.{Work}
use Rattle.gl_interp.specs.declared.frame.Work.TheVariants as work
use Rattle.gl_interp.specs.declared.frame.Frame.{Frame}
use Rattle.gl_interp.specs.declared.frame.Frame.TheVariants as frame
use Rattle.gl_interp.specs.declared.frame.Focus.{Focus}
use Rattle.gl_interp.specs.declared.frame.Focus.TheVariants as focus
use Rattle.gl_interp.specs.Walking.{from}

-- the turns of a term, with both branches of each `if`; `call` says how many a call of a definition takes whose arguments are
-- there
abbrev mutual
  pub turns_by : (ℕ → ℕ) → Exp → ℕ
  turns_by call (Var v) = 1
  turns_by call (Const x) = 1
  turns_by call (If t a b) = turns_by call t + turns_by call a + turns_by call b + 4
  turns_by call (Prim p ts) = all_by call ts + 3
  turns_by call (Call f ts) = all_by call ts + call f + 2
  turns_by call (Let vs ts b) = all_by call ts + turns_by call b + 3

  pub all_by : (ℕ → ℕ) → Exps → ℕ
  all_by call Last = 0
  all_by call (More t ts) = turns_by call t + all_by call ts + 2

-- of the body of a definition, where there is one
abbrev pub body_turns : (ℕ → ℕ) → Option Definition → ℕ
body_turns call None = 0
body_turns call (Some d) = turns_by call d.body

-- of a call of definition f whose arguments are there, where at most n definitions more may be opened inside one another
abbrev pub call_turns : List Definition → ℕ → ℕ → ℕ
call_turns definitions zero f = 1
call_turns definitions (suc n) f = body_turns (call_turns definitions n) (slice_get definitions f) + 1

-- of a term
abbrev pub turns : List Definition → ℕ → Exp → ℕ
turns definitions n t = turns_by (call_turns definitions n) t

-- of a work whose arguments are there
abbrev pub work_turns : List Definition → ℕ → Work → ℕ
work_turns definitions n (work.Prim p) = 1
work_turns definitions n (work.Call f) = call_turns definitions n f.number
work_turns definitions n (work.Let names b) = turns definitions n (term_of b.now) + 1

-- of a work behind its arguments from place i on
abbrev pub turns_from : List Definition → ℕ → Work → ℕ → List Term → ℕ
turns_from definitions n w i ts = all_by (call_turns definitions n) (from i ts) + work_turns definitions n w + 1

abbrev pub frame_turns : List Definition → Frame → ℕ
frame_turns definitions (frame.Test a b env n) = turns definitions n (term_of a.now) + turns definitions n (term_of b.now) + 3
frame_turns definitions (frame.Other c b env n saved rest) = turns definitions n (term_of b.now) + 2
frame_turns definitions (frame.Join c x saved) = 1
frame_turns definitions (frame.Arguments w done ts env n) = turns_from definitions n w (suc (length done.items)) ts.now + 1

abbrev pub frames_turns : List Definition → List Frame → ℕ
frames_turns definitions [] = 0
frames_turns definitions (f ∷ fs) = frame_turns definitions f + frames_turns definitions fs

abbrev pub focus_turns : List Definition → Focus → ℕ
focus_turns definitions (focus.Visit t env n) = turns definitions n (term_of t.now)
focus_turns definitions (focus.Next w done ts env n) = turns_from definitions n w (length done.items) ts.now
focus_turns definitions (focus.Run w args env n) = work_turns definitions n w
focus_turns definitions (focus.Give x) = 0

abbrev pub turns_left : List Definition → List Frame → Focus → ℕ
turns_left definitions fs f = focus_turns definitions f + frames_turns definitions fs

-- a turn leaves fewer
abbrev pub Falls : List Definition → List Frame → Focus → List Frame → Focus → Type 0
Falls definitions fs f hs h = turns_left definitions hs h < turns_left definitions fs f
