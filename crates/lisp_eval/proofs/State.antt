-- The invariant of the evaluator's loop, and its steps.
use Rattle.std.proofs.Common.{◌≡◌, ◌∙◌, ap, sym, refl, subst, ℕ, ◌-◌, List, [], ◌∷◌, ◌++◌, arith}
use Rattle.std.specs.Prelude.{map}
use Rattle.gl_logic.specs.Object.{Object}
use Rattle.gl_logic.specs.Every.{Every}
use Rattle.gl_logic.specs.Exp.{Exp, Var, Const}
use Rattle.gl_logic.specs.IsGround.{AreGround}
use Rattle.gl_logic.specs.TermOf.{term_of}
use Rattle.gl_logic.specs.Walk.{CallMade}
use Rattle.gl_logic.specs.WorldSeen.{WorldSeen}
use Rattle.hons_arena.specs.declared.id.Id.{Id}
use Rattle.hons_arena.specs.Ids.{object_at, IsLive}
use Rattle.memo_tables.specs.Calls.{Call}
use Rattle.lisp_eval.specs.Answers.{IsDear}
use Rattle.lisp_eval.specs.CallValue.{IsCallValue}
use Rattle.lisp_eval.specs.Compound.{IsCompound}
use Rattle.lisp_eval.specs.Frames.{Frame, Focus, Visit}
use Rattle.lisp_eval.specs.Kept.{entries_of}
use Rattle.lisp_eval.specs.Moves.{Next, entered, entered_met}
use Rattle.lisp_eval.specs.States.{env_of, frames_of, focus_of, IsNext}
use Rattle.lisp_eval.specs.Threads.{is_kept}
use Rattle.lisp_eval.specs.Tables.{answered_in}
use Rattle.lisp_eval.specs.Within.{IsIn}
use Rattle.lisp_eval.specs.declared.frame.Binding.{Binding}
use Rattle.lisp_eval.specs.declared.frame.Focus as program
use Rattle.lisp_eval.specs.declared.frame.Focus.TheVariants as focus
use Rattle.lisp_eval.specs.declared.frame.Frame as held
use Rattle.lisp_eval.proofs.Going.{Narrow, Going, StepOn, going_step, going_dear}
use Rattle.lisp_eval.proofs.MovesGo.{entered_goes}
use Rattle.lisp_eval.proofs.Standing.{stable_live, env_in}

compound_met : (u : Exp) (env : List (ℕ × Object)) → IsCompound u → entered_met u env ≡ []
compound_met (Var v) env h = absurd h
compound_met (Const x) env h = absurd h
compound_met (Rattle.gl_logic.specs.Exp.If t a b) env h = refl
compound_met (Rattle.gl_logic.specs.Exp.Prim p ts) env h = refl
compound_met (Rattle.gl_logic.specs.Exp.Call f ts) env h = refl
compound_met (Rattle.gl_logic.specs.Exp.Let vs ts b) env h = refl

module _ (w : WorldSeen) (functions : List ℕ) (env : List (ℕ × Object)) (t : Exp) (limit : ℕ) (start : List Object) where
  pub record State (left : ℕ) (now : program.Focus) (frames : List held.Frame) (objects : List Object) (entries : List (Call × Id)) : Type 0 where
    pub focus : Focus
    pub stack : List Frame
    pub kept : List CallMade
    pub calls : List (CallMade × Object)
    pub ground : AreGround w.definitions
    pub going : Going w ground functions env t limit start left focus stack kept objects
    pub focus_is : (more : List Object) → focus_of (objects ++ more) now ≡ focus
    pub frames_are : (more : List Object) → frames_of (objects ++ more) frames ≡ stack
    pub entries_are : (more : List Object) → entries_of (objects ++ more) entries ≡ calls
    pub right : Every (λ e. IsCallValue w.definitions e.0.0 e.0.1 e.1) calls
    pub same : (c : CallMade) → is_kept kept c ≡ is_kept (map (λ e. e.0) calls) c

  -- ---- a term is visited
  module _ (left : ℕ) (u : _) (uenv : _) (frames : List held.Frame) (objects : List Object) (entries : List (Call × Id)) (s : State left (focus.Visit u uenv) frames objects entries) where
    abbrev pub visit_env : List (ℕ × Object)
    visit_env = env_of (objects ++ []) uenv.value.items

    pub env_stands : (more : List Object) → env_of (objects ++ more) uenv.value.items ≡ visit_env
    env_stands more = ap env_in (s.focus_is more ∙ sym (s.focus_is []))

    pub at_visit : Going w s.ground functions env t limit start left (Visit (term_of u.now) visit_env) s.stack s.kept objects
    at_visit = subst (λ (g : Focus). Going w s.ground functions env t limit start left g s.stack s.kept objects) (sym (s.focus_is [])) s.going

    pub visit_dear : left ≡ 0 → IsDear w functions env t limit
    visit_dear z = going_dear w s.ground functions env t limit start left (term_of u.now) visit_env s.stack s.kept objects at_visit z

    entered_step : (x : Exp) → (i : Going w s.ground functions env t limit start left (Visit x visit_env) s.stack s.kept objects) → (left ≡ 0 → ⊥)
        → StepOn w s.ground functions env t limit start left (Visit x visit_env) s.stack s.kept objects i (entered_met x visit_env) (left - 1) (entered x visit_env).focus (s.stack ++ (entered x visit_env).pushed) s.kept
    entered_step x i h = going_step w s.ground functions env t limit start left (Visit x visit_env) s.stack s.kept objects i (left - 1) 1 (entered_met x visit_env) (entered x visit_env).focus (s.stack ++ (entered x visit_env).pushed) s.kept (omega (arith, h))
        (entered_goes (IsIn i.walked.seen) Narrow w.definitions (answered_in w.definitions) functions i.depth x visit_env s.stack s.kept)

    pub visit_next : (left ≡ 0 → ⊥) → IsCompound (term_of u.now) → (f : program.Focus) (frames' : List held.Frame) → ((all : List Object) → IsNext all (entered (term_of u.now) (env_of all uenv.value.items)) frames f frames') → State (left - 1) f frames' objects entries
    visit_next h c f frames' n =
        let step = entered_step (term_of u.now) at_visit h in
        let narrow : Every Narrow (entered_met (term_of u.now) visit_env) = subst (Every Narrow) (sym (compound_met (term_of u.now) visit_env c)) tt in
        let next : (more : List Object) → entered (term_of u.now) (env_of (objects ++ more) uenv.value.items) ≡ entered (term_of u.now) visit_env = λ more. ap (entered (term_of u.now)) (env_stands more) in
        record {
          focus = (entered (term_of u.now) visit_env).focus;
          stack = s.stack ++ (entered (term_of u.now) visit_env).pushed;
          ground = s.ground;
          kept = s.kept;
          calls = s.calls;
          going = step.goes_on narrow objects at_visit.within;
          focus_is = λ more. (n (objects ++ more)).focus ∙ ap (λ (k : Next). k.focus) (next more);
          frames_are = λ more. (n (objects ++ more)).frames ∙ (λ j. s.frames_are more j ++ (next more j).pushed);
          entries_are = s.entries_are;
          right = s.right;
          same = s.same;
        }

    pub visit_live : (bindings : List Binding) → bindings ≡ uenv.value.items → Every (λ b. IsLive objects b.value) bindings
    visit_live bindings e = all_live bindings visit_env (λ more. ap (env_of (objects ++ more)) e ∙ env_stands more) where
      heads : (a b : ℕ × Object) (xs ys : List (ℕ × Object)) → a ∷ xs ≡ b ∷ ys → a ≡ b
      heads a b xs ys q = cc

      tails : (a b : ℕ × Object) (xs ys : List (ℕ × Object)) → a ∷ xs ≡ b ∷ ys → xs ≡ ys
      tails a b xs ys q = cc

      all_live : (bs : List Binding) (e : List (ℕ × Object)) → ((more : List Object) → env_of (objects ++ more) bs ≡ e) → Every (λ b. IsLive objects b.value) bs
      all_live [] e h = tt
      all_live (b ∷ bs) [] h = absurd (no_pair b bs (h [])) where
        no_pair : (b : Binding) (bs : List Binding) → env_of (objects ++ []) (b ∷ bs) ≡ [] → ⊥
        no_pair b bs q = absurd cc
      all_live (b ∷ bs) (x ∷ e) h = (
        stable_live objects b.value x.1 (λ more. ap (λ (p : ℕ × Object). p.1) (heads (b.name.number, object_at (objects ++ more) b.value) x (env_of (objects ++ more) bs) e (h more))),
        all_live bs e (λ more. tails (b.name.number, object_at (objects ++ more) b.value) x (env_of (objects ++ more) bs) e (h more)),
      )
