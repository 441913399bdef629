-- What frames make of a walk, under one assignment.
use Rattle.std.specs.Prelude.{ℕ, suc, ◌≡◌, ◌+◌, Bool, true, false, not, ◌&&◌, cond, List, [], ◌∷◌, length, map, drop, Option, Some}
use Rattle.bfr_store.specs.declared.edge.Edge.{Edge}
use Rattle.gl_logic.specs.Object.{Object}
use Rattle.gl_logic.specs.ObjectEq.{is_nil}
use Rattle.gl_logic.specs.PrimValue.{prim_value}
use Rattle.gl_logic.specs.Environment.{extended}
use Rattle.gl_logic.specs.Definition.{Definition}
use Rattle.gl_logic.specs.Exp.{Exp, Exps}
use Rattle.gl_logic.specs.TermOf.{term_of, terms_of}
use Rattle.gl_logic.specs.Walk.{CallMade, Walk, Walks, then, ended, gathered, joined, walk, walks_by, opened}
use Rattle.gl_logic.specs.declared.term.Term.{Term}
use Rattle.sym_objects.specs.declared.sob.Sob.{Sob}
use Rattle.gl_interp.specs.declared.frame.Work.{Work}
use Rattle.gl_interp.specs.declared.frame.Work.TheVariants as work
use Rattle.gl_interp.specs.declared.frame.Frame.{Frame}
use Rattle.gl_interp.specs.declared.frame.Frame.TheVariants as frame
use Rattle.gl_interp.specs.declared.frame.Focus.{Focus}
use Rattle.gl_interp.specs.declared.frame.Focus.TheVariants as focus

-- what came before the last part of a whole whose value is that part's: `if`, `let` and a call end so
abbrev pub Before : Type 0
Before = List Object × List CallMade

abbrev pub wrap : List Before → Option Walk → Option Walk
wrap [] o = o
wrap (w ∷ ws) o = wrap ws (then o (ended w.0 w.1))

-- walks before the walks of the arguments behind them
abbrev pub chained : List Walk → Option Walks → Option Walks
chained [] o = o
chained (r ∷ rs) o = then (chained rs o) (joined r)

abbrev pub values_of : List Walk → List Object
values_of rs = map (λ r. r.value) rs

-- the assignment's view of the machine: the definitions, how much is added to each clock, the truths of the edges, the
-- objects of the nodes, and the environments
pub record At : Type 0 where
  pub definitions : List Definition
  pub more : ℕ
  pub truth : Edge → Bool
  pub of : Sob → Object
  pub env : ℕ → List (ℕ × Object)

-- what a work makes of its arguments, with so many definitions more to be opened
abbrev pub worked : List Definition → ℕ → List (ℕ × Object) → Work → Walks → Option Walk
worked ds m env (work.Prim p) rs = gathered (prim_value p rs.values) rs
worked ds m env (work.Call f) rs = opened ds m f.number rs
worked ds m env (work.Let names b) rs = then (walk ds m (extended names.now rs.values env) (term_of b.now)) (ended rs.seen rs.made)

-- the branch that a test's walk leads to
abbrev pub branched : List Definition → ℕ → List (ℕ × Object) → Exp → Exp → Walk → Option Walk
branched ds m env a b r = elim (is_nil r.value) [
  | true ↦ then (walk ds m env b) (ended r.seen r.made)
  | false ↦ then (walk ds m env a) (ended r.seen r.made)
]

abbrev pub walks : List Definition → ℕ → List (ℕ × Object) → Exps → Option Walks
walks ds m env ts = walks_by (opened ds m) ts env

-- the terms from this place on
abbrev pub from : ℕ → List Term → Exps
from i ts = terms_of (drop i ts)

-- the frames, the top one first, make this whole of a walk
abbrev pub Makes : At → List Frame → Option Walk → Option Walk → Type 0
Makes v [] whole o = o ≡ whole
Makes v (frame.Test a b env n ∷ fs) whole o = (ws : List Before) × Makes v fs whole (wrap ws (then o (branched v.definitions (n + v.more) (v.env env.number) (term_of a.now) (term_of b.now))))
Makes v (frame.Other c b env n saved rest ∷ fs) whole o = (ws : List Before) × Makes v fs whole (cond (v.truth c) o (wrap ws (walk v.definitions (n + v.more) (v.env env.number) (term_of b.now))))
Makes v (frame.Join c x saved ∷ fs) whole o = (r : Walk) × ((r.value ≡ v.of x) × Makes v fs whole (cond (v.truth c) (Some r) o))
Makes v (frame.Arguments w done ts env n ∷ fs) whole o = (ws : List Before) × ((rs : List Walk) × ((values_of rs ≡ map v.of done.items)
    × Makes v fs whole (wrap ws (then (chained rs (then o (λ r. then (walks v.definitions (n + v.more) (v.env env.number) (from (suc (length done.items)) ts.now)) (joined r)))) (worked v.definitions (n + v.more) (v.env env.number) w)))))

abbrev pub FocusMakes : At → List Frame → Option Walk → Focus → Type 0
FocusMakes v fs whole (focus.Next w done ts env n) = (ws : List Before) × ((rs : List Walk) × ((values_of rs ≡ map v.of done.items)
    × Makes v fs whole (wrap ws (then (chained rs (walks v.definitions (n + v.more) (v.env env.number) (from (length done.items) ts.now))) (worked v.definitions (n + v.more) (v.env env.number) w)))))
FocusMakes v fs whole (focus.Visit t env n) = (ws : List Before) × Makes v fs whole (wrap ws (walk v.definitions (n + v.more) (v.env env.number) (term_of t.now)))
FocusMakes v fs whole (focus.Run w args env n) = (ws : List Before) × ((rs : Walks) × ((rs.values ≡ map v.of args.items) × Makes v fs whole (wrap ws (worked v.definitions (n + v.more) (v.env env.number) w rs))))
FocusMakes v fs whole (focus.Give x) = (r : Walk) × ((r.value ≡ v.of x) × Makes v fs whole (Some r))

-- whether the path to the current term is true, where the path to the whole is
abbrev pub reached : (Edge → Bool) → List Frame → Bool
reached truth [] = true
reached truth (frame.Test a b env n ∷ fs) = reached truth fs
reached truth (frame.Other c b env n saved rest ∷ fs) = reached truth fs && truth c
reached truth (frame.Join c x saved ∷ fs) = reached truth fs && not (truth c)
reached truth (frame.Arguments w done ts env n ∷ fs) = reached truth fs
