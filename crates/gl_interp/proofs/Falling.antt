-- Each turn leaves fewer.
use Rattle.std.proofs.Common.{◌≡◌, ℕ, zero, suc, ◌+◌, ◌<◌, List, [], ◌∷◌, ◌++◌, length, get_or, slice_get, ap, sym, ◌∙◌, arith, subst, Some, Bor, Vec, Global}
use Rattle.std.proofs.lemmas.List.{length_push}
use Rattle.bfr_store.specs.declared.edge.Edge.{Edge}
use Rattle.gl_logic.specs.Definition.{Definition}
use Rattle.gl_logic.specs.Exp.{Exp}
use Rattle.gl_logic.specs.Exp as exp
use Rattle.gl_logic.specs.TermOf.{term_of, terms_of}
use Rattle.gl_logic.specs.declared.prim.Primitive.{Primitive}
use Rattle.gl_logic.specs.declared.ids.FnId.{FnId}
use Rattle.gl_logic.specs.declared.term.Term.{Term}
use Rattle.sym_objects.specs.declared.sob.Sob.{Sob}
use Rattle.gl_interp.specs.declared.envs.EnvId.{EnvId}
use Rattle.gl_interp.specs.declared.frame.Path.{Path}
use Rattle.gl_interp.specs.declared.frame.Work.{Work}
use Rattle.gl_interp.specs.declared.frame.Work.TheVariants as work
use Rattle.gl_interp.specs.declared.frame.Frame.{Frame}
use Rattle.gl_interp.specs.declared.frame.Frame.TheVariants as frame
use Rattle.gl_interp.specs.declared.frame.Focus.{Focus}
use Rattle.gl_interp.specs.declared.frame.Focus.TheVariants as focus
use Rattle.sym_objects.specs.Seen.{SobsSeen}
use Rattle.gl_interp.specs.Running.{IsGiven}
use Rattle.gl_interp.specs.TurnsLeft.{Falls, all_by, body_turns, call_turns, frames_turns, turns, turns_by, turns_from, turns_left, work_turns}
use Rattle.gl_interp.specs.Walking.{from}
use Rattle.gl_interp.proofs.Walking.{from_more}

-- a term takes a turn, and so does a call
some_turn : (call : ℕ → ℕ) (t : Exp) → 0 < turns_by call t
some_turn call (exp.Var v) = omega arith
some_turn call (exp.Const x) = omega arith
some_turn call (exp.If t a b) = omega arith
some_turn call (exp.Prim p ts) = omega arith
some_turn call (exp.Call f ts) = omega arith
some_turn call (exp.Let vs ts b) = omega arith

some_call : (ds : List Definition) (n f : ℕ) → 0 < call_turns ds n f
some_call ds zero f = omega arith
some_call ds (suc n) f = omega arith

module _ (ds : List Definition) (fs : List Frame) where
  -- a term's object is there
  pub falls_visited : (t : Bor Term) (env : EnvId) (n : ℕ) → 0 + frames_turns ds fs < turns_left ds fs (focus.Visit t env n)
  falls_visited t env n = let some = some_turn (call_turns ds n) (term_of t.now) in omega (arith, some)

  pub falls_if : (hs : List Frame) (t u a b : Bor Term) (env : EnvId) (n : ℕ) → hs ≡ frame.Test a b env n ∷ fs → term_of t.now ≡ exp.If (term_of u.now) (term_of a.now) (term_of b.now) → Falls ds fs (focus.Visit t env n) hs (focus.Visit u env n)
  falls_if hs t u a b env n e is =
      let whole : turns ds n (term_of t.now) ≡ turns ds n (term_of u.now) + turns ds n (term_of a.now) + turns ds n (term_of b.now) + 4 = ap (turns ds n) is in
      subst (λ ks. Falls ds fs (focus.Visit t env n) ks (focus.Visit u env n)) (sym e) (omega (arith, whole))

  -- the arguments of a work of so many turns are begun
  pub falls_next : (t : Bor Term) (k : ℕ) (done : List Sob) (ts items : List Term) (env : EnvId) (n : ℕ) (e : Exp) → term_of t.now ≡ e → done ≡ [] → ts ≡ items
      → all_by (call_turns ds n) (terms_of items) + k + 1 < turns ds n e → (all_by (call_turns ds n) (from (length done) ts) + k + 1) + frames_turns ds fs < turns_left ds fs (focus.Visit t env n)
  falls_next t k done ts items env n e is none all less =
      let whole : turns ds n (term_of t.now) ≡ turns ds n e = ap (turns ds n) is in
      let begun : all_by (call_turns ds n) (from (length done) ts) ≡ all_by (call_turns ds n) (terms_of items) = λ i. all_by (call_turns ds n) (from (length (none i)) (all i)) in
      omega (arith, whole, begun, less)

  -- the next argument
  pub falls_argument : (hs : List Frame) (w : Work) (done : Vec Sob Global) (ts : Bor (List Term)) (u : Term) (env : EnvId) (n : ℕ) → hs ≡ frame.Arguments w done ts env n ∷ fs → length done.items < length ts.now → get_or ts.now (length done.items) u ≡ u
      → turns ds n (term_of u) + frames_turns ds hs < turns_left ds fs (focus.Next w done ts env n)
  falls_argument hs w done ts u env n e less is =
      let rest = from (suc (length done.items)) ts.now in
      let all : all_by (call_turns ds n) (from (length done.items) ts.now) ≡ turns ds n (term_of u) + all_by (call_turns ds n) rest + 2 = ap (all_by (call_turns ds n)) (from_more (length done.items) ts.now u less is) in
      subst (λ ks. turns ds n (term_of u) + frames_turns ds ks < turns_left ds fs (focus.Next w done ts env n)) (sym e) (omega (arith, all))

  -- all arguments are there
  pub falls_all : (w : Work) (done : Vec Sob Global) (ts : Bor (List Term)) (env : EnvId) (n : ℕ) → Falls ds fs (focus.Next w done ts env n) fs (focus.Run w done env n)
  falls_all w done ts env n = omega arith

  -- an argument is there
  pub falls_done : (f : Frame) (w : Work) (done : Vec Sob Global) (more : List Sob) (ts : Bor (List Term)) (env : EnvId) (n : ℕ) (x : Sob) → f ≡ frame.Arguments w done ts env n → more ≡ done.items ++ x ∷ []
      → turns_from ds n w (length more) ts.now + frames_turns ds fs < turns_left ds (f ∷ fs) (focus.Give x)
  falls_done f w done more ts env n x e is =
      let count : length more ≡ suc (length done.items) = ap length is ∙ (length_push done.items x ∙ omega arith) in
      let left : turns_from ds n w (length more) ts.now ≡ turns_from ds n w (suc (length done.items)) ts.now = ap (λ i. turns_from ds n w i ts.now) count in
      subst (λ y. turns_from ds n w (length more) ts.now + frames_turns ds fs < turns_left ds (y ∷ fs) (focus.Give x)) (sym e) (omega (arith, left))

  -- the first branch is done
  pub falls_other : (hs : List Frame) (f : Frame) (c saved : Edge) (rest kept : Path) (b : Bor Term) (env : EnvId) (n : ℕ) (x : Sob) → f ≡ frame.Other c b env n saved rest → hs ≡ frame.Join c x kept ∷ fs → Falls ds (f ∷ fs) (focus.Give x) hs (focus.Visit b env n)
  falls_other hs f c saved rest kept b env n x e i =
      subst (λ ks. Falls ds (f ∷ fs) (focus.Give x) ks (focus.Visit b env n)) (sym i)
      (subst (λ y. Falls ds (y ∷ fs) (focus.Give x) (frame.Join c x kept ∷ fs) (focus.Visit b env n)) (sym e) (omega arith))

  -- both branches are done
  pub falls_join : (f : Frame) (c : Edge) (saved : Path) (x y : Sob) → f ≡ frame.Join c x saved → 0 + frames_turns ds fs < turns_left ds (f ∷ fs) (focus.Give y)
  falls_join f c saved x y e = subst (λ z. 0 + frames_turns ds fs < turns_left ds (z ∷ fs) (focus.Give y)) (sym e) (omega arith)

  -- into one of a test's branches, or both
  pub falls_first : (a b : Bor Term) (env : EnvId) (n : ℕ) (x : Sob) → Falls ds (frame.Test a b env n ∷ fs) (focus.Give x) fs (focus.Visit a env n)
  falls_first a b env n x = omega arith

  pub falls_second : (a b : Bor Term) (env : EnvId) (n : ℕ) (x : Sob) → Falls ds (frame.Test a b env n ∷ fs) (focus.Give x) fs (focus.Visit b env n)
  falls_second a b env n x = omega arith

  pub falls_both : (hs : List Frame) (a b : Bor Term) (env : EnvId) (n : ℕ) (x : Sob) (c saved : Edge) (rest : Path) → hs ≡ frame.Other c b env n saved rest ∷ fs → Falls ds (frame.Test a b env n ∷ fs) (focus.Give x) hs (focus.Visit a env n)
  falls_both hs a b env n x c saved rest e = subst (λ ks. Falls ds (frame.Test a b env n ∷ fs) (focus.Give x) ks (focus.Visit a env n)) (sym e) (omega arith)

  -- both branches are done at once
  pub falls_merged : (a b : Bor Term) (env : EnvId) (n : ℕ) (x r : Sob) → Falls ds (frame.Test a b env n ∷ fs) (focus.Give x) fs (focus.Give r)
  falls_merged a b env n x r = omega arith

  -- a work is done
  pub falls_prim : (p : Primitive) (w : Work) (args : Vec Sob Global) (env : EnvId) (n : ℕ) → w ≡ work.Prim p → 0 + frames_turns ds fs < turns_left ds fs (focus.Run w args env n)
  falls_prim p w args env n e = subst (λ k. 0 + frames_turns ds fs < turns_left ds fs (focus.Run k args env n)) (sym e) (omega arith)

  pub falls_let : (names : Bor (List ℕ)) (b : Bor Term) (w : Work) (args : Vec Sob Global) (env inner : EnvId) (n : ℕ) → w ≡ work.Let names b → Falls ds fs (focus.Run w args env n) fs (focus.Visit b inner n)
  falls_let names b w args env inner n e = subst (λ k. Falls ds fs (focus.Run k args env n) fs (focus.Visit b inner n)) (sym e) (omega arith)

  pub falls_evaluated : (f : FnId) (w : Work) (args : Vec Sob Global) (env : EnvId) (n : ℕ) → w ≡ work.Call f → 0 + frames_turns ds fs < turns_left ds fs (focus.Run w args env n)
  falls_evaluated f w args env n e =
      let some = some_call ds n f.number in
      subst (λ k. 0 + frames_turns ds fs < turns_left ds fs (focus.Run k args env n)) (sym e) (omega (arith, some))

  -- a work is left out
  falls_dropped : (w : Work) (args : Vec Sob Global) (env : EnvId) (n : ℕ) (x : Sob) → Falls ds fs (focus.Run w args env n) fs (focus.Give x)
  falls_dropped (work.Prim p) args env n x = omega arith
  falls_dropped (work.Let names b) args env n x = omega arith
  falls_dropped (work.Call f) args env n x = let some = some_call ds n f.number in omega (arith, some)

  pub falls_given : {B : Type 0} (s : SobsSeen B) (w : Work) (args : Vec Sob Global) (env : EnvId) (n : ℕ) (h : Focus) → IsGiven s h → Falls ds fs (focus.Run w args env n) fs h
  falls_given s w args env n (focus.Visit u i k) l = absurd l
  falls_given s w args env n (focus.Next v done ts i k) l = absurd l
  falls_given s w args env n (focus.Run v xs i k) l = absurd l
  falls_given s w args env n (focus.Give x) l = falls_dropped w args env n x

  pub falls_call : (f : FnId) (w : Work) (c : Definition) (args : Vec Sob Global) (env : EnvId) (n m : ℕ) → w ≡ work.Call f → n ≡ suc m → slice_get ds f.number ≡ Some c → turns ds m c.body + frames_turns ds fs < turns_left ds fs (focus.Run w args env n)
  falls_call f w c args env n m e clock there =
      let whole : work_turns ds n w ≡ turns ds m c.body + 1 = (λ i. work_turns ds (clock i) (e i)) ∙ ap (λ o. body_turns (call_turns ds m) o + 1) there in
      omega (arith, whole)

-- the same of equal frames and an equal focus
pub falls_turn : (ds : List Definition) (gs fs hs : List Frame) (e f h : Focus) → gs ≡ fs → e ≡ f → Falls ds fs f hs h → Falls ds gs e hs h
falls_turn ds gs fs hs e f h i j less = subst (λ z. Falls ds z e hs h) (sym i) (subst (λ z. Falls ds fs z hs h) (sym j) less)
