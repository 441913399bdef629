-- The input at a vector that parametrises the hypothesis.
use Rattle.std.proofs.Common.{◌≡◌, ◌∙◌, ap, sym, refl, subst, ℕ, ◌+◌, ◌<◌, ◌≤◌, Bool, true, false, not, List, [], ◌∷◌, ◌++◌, length, get_or, map, set, take, arith, inl, inr, length-set, get_or-set_same, get_or-set_other}
use Rattle.std.specs.List.{All}
use Rattle.std.proofs.lemmas.List.{get_or-map, length-map}
use Rattle.std.proofs.lemmas.Bool.{cases_eq}
use Rattle.bfr_store.specs.declared.edge.Edge.{Edge}
use Rattle.bfr_store.specs.declared.meaning.Meaning.{Ghosts}
use Rattle.bfr_store.specs.Keeps.{Grows as StoreGrows, Keeps as StoreKeeps}
use Rattle.sym_objects.specs.Seen.{SobsSeen}
use Rattle.sym_prims.specs.Applying.{Leaves}
use Rattle.std.proofs.Common.{None}
use Rattle.std.proofs.lemmas.List.Elements.{All-head, All-tail}
use Rattle.sym_objects.specs.Keeps.{Grows}
use Rattle.sym_objects.specs.declared.sob.Sob.{Sob}
use Rattle.gl_logic.specs.Assignments.{value_at}
use Rattle.gl_logic.specs.Evaluate.{evaluate, HasValue}
use Rattle.gl_logic.specs.Object.{Object, nil}
use Rattle.gl_logic.specs.Wide.{IsWide}
use Rattle.gl_logic.specs.WorldSeen.{WorldSeen}
use Rattle.lisp_eval.specs.Answers.{IsDear, IsCrowded}
use Rattle.lisp_eval.specs.Machines.{MachineSeen}
use Rattle.shape_spec.specs.Indices.{width_of}
use Rattle.shape_spec.specs.Theorems.{IsMet}
use Rattle.shape_spec.specs.declared.theorem.Part.TheVariants.{Hyp, Concl}
use Rattle.shape_spec.specs.declared.theorem.Thm.{Thm}
use Rattle.shape_spec.proofs.Members.{same_input}
use Rattle.gl_interp.specs.Causes.{HasCause, StandsOver, Task}
use Rattle.gl_interp.specs.Environments.{env_under, vector_at}
use Rattle.gl_interp.specs.declared.fault.GlFault.{GlFault}
use Rattle.gl_interp.specs.declared.fault.GlFault.TheVariants as fault
use Rattle.gl_symbolic.specs.Decisions.{HasRunOut, IsProper, IsReady, stopped_by}
use Rattle.gl_symbolic.specs.Parameters.{HasWidth, IsStill, Parametrises, StandsAt, TellsConclusion, moved_by}
use Rattle.gl_symbolic.specs.declared.decision.Decision.TheVariants as decision
use Rattle.gl_symbolic.specs.Steps.{IsCondition, IsHypothesis, IsTold}
use Rattle.gl_symbolic.specs.Theorems.{term_at, clock_at, input_under, IsOfPart, Meets}
use Rattle.gl_symbolic.proofs.Cells.{from_crowd}
use Rattle.gl_symbolic.proofs.Running.{met_where, nil_where, where_met}

pub grows_of : {B : Type 0} (g : Ghosts B) (old new : B) → StoreKeeps g old new → StoreGrows g old new
grows_of g old new k = record { stays = k.stays; same = k.same; same_limit = k.same_limit; same_budget = k.same_budget; no_fewer = k.no_fewer }

-- the truths of edges, set one after another
pub record IsRead (truth : Edge → Bool) (edges : List Edge) (bits : List Bool) (k : ℕ) : Type 0 where
  pub count : length bits ≡ length edges
  pub each : (j : ℕ) (d : Edge) → j < k → get_or bits j false ≡ truth (get_or edges j d)

pub read_more : (truth : Edge → Bool) (edges : List Edge) (bits : List Bool) (k : ℕ) (b : Bool) → IsRead truth edges bits k → k < length edges → ((d : Edge) → b ≡ truth (get_or edges k d)) → IsRead truth edges (set bits k b) (k + 1)
read_more truth edges bits k b r within is = record {
  count = length-set bits k b ∙ r.count;
  each = λ j d below. elim (cases_eq j k) [
    | inl here ↦ ap (λ i. get_or (set bits k b) i false) here ∙ get_or-set_same bits k b false (omega (arith, within, r.count)) ∙ is d ∙ ap (λ i. truth (get_or edges i d)) (sym here)
    | inr other ↦ get_or-set_other bits k j b false other ∙ r.each j d (omega (arith, below, other))
  ];
}

-- when all are, they are the truths of all
same_bits : (xs ys : List Bool) → length xs ≡ length ys → ((j : ℕ) → j < length xs → get_or xs j false ≡ get_or ys j false) → xs ≡ ys
same_bits [] [] l h = refl
same_bits [] (y ∷ ys) l h = absurd (omega (arith, l))
same_bits (x ∷ xs) [] l h = absurd (omega (arith, l))
same_bits (x ∷ xs) (y ∷ ys) l h = λ i. h 0 (omega arith) i ∷ same_bits xs ys (omega (arith, l)) (λ j below. h (Rattle.std.proofs.Common.suc j) (omega (arith, below))) i

pub read_all : (truth : Edge → Bool) (edges : List Edge) (bits : List Bool) (k : ℕ) → k ≡ length edges → IsRead truth edges bits k → bits ≡ map truth edges
read_all truth edges bits k all r = same_bits bits (map truth edges) (r.count ∙ sym (length-map edges truth)) (λ j below.
    let d : Edge = record { number = 0 } in
    r.each j d (omega (arith, below, r.count, all)) ∙ sym (get_or-map truth edges j d false (omega (arith, below, r.count))))

-- ---- in a store that grows
module _ {B : Type 0} (g : Ghosts B) (old new : SobsSeen B) (grows : Grows g old new) where
  pub truths_same : (es : List Edge) (a : ℕ → Bool) → All (g.live old.store) es → map (λ e. g.truth_of new.store e a) es ≡ map (λ e. g.truth_of old.store e a) es
  truths_same [] a live = refl
  truths_same (e ∷ es) a live =
      ap (λ b. b ∷ map (λ x. g.truth_of new.store x a) es) (grows.store.same e a (All-head (g.live old.store) e es live))
      ∙ ap (λ bs. g.truth_of old.store e a ∷ bs) (truths_same es a (All-tail (g.live old.store) e es live))

  pub vector_later : (es : List Edge) (a : ℕ → Bool) → All (g.live old.store) es → vector_at g new.store es a ≡ vector_at g old.store es a
  vector_later es a live = ap value_at (truths_same es a live)

  pub parametrises_later : (hyp : Edge) (width : ℕ) (es : List Edge) → g.live old.store hyp → Parametrises g old hyp width es → Parametrises g new hyp width es
  parametrises_later hyp width es live p = record {
    count = p.count;
    live = λ k d within. grows.store.stays (get_or es k d) (p.live k d within);
    inside = λ a. grows.store.same hyp (vector_at g new.store es a) live ∙ ap (g.truth_of old.store hyp) (vector_later es a p.live) ∙ p.inside a;
    fixed = λ a t k within. ap (λ (b : ℕ → Bool). b k) (vector_later es a p.live) ∙ p.fixed a (sym (grows.store.same hyp a live) ∙ t) k within;
  }

-- the input over a vector
pub stands_at : {B : Type 0} (g : Ghosts B) (old new : SobsSeen B) (thm : Thm) (edges : List Edge) (env : List (ℕ × Sob)) → Grows g old new → All (g.live old.store) edges → StandsOver g old new thm.bindings edges env → StandsAt g new thm edges env
stands_at g old new thm edges env grows live s = record {
  live = s.live;
  input = λ a. s.input a ∙ ap (λ (b : ℕ → Bool). input_under thm b) (sym (vector_later g old new grows edges a live));
}

-- the conclusion's edge, run under every assignment
pub tells_conclusion : {B : Type 0} (g : Ghosts B) (old mid : SobsSeen B) (w : WorldSeen) (thm : Thm) (edges : List Edge) (env : List (ℕ × Sob)) (always e : Edge) → Grows g old mid → All (g.live old.store) edges → StandsAt g old thm edges env → ((a : ℕ → Bool) → g.truth_of old.store always a ≡ true) → IsCondition g old mid w (term_at thm Concl) env always e → TellsConclusion g mid w thm edges e
tells_conclusion g old mid w thm edges env always e grows live s all c = record {
  live = c.live;
  told = λ a. subst (λ (i : List (ℕ × Object)). IsTold w (term_at thm Concl) i (g.truth_of mid.store e a)) (s.input a ∙ ap (λ (b : ℕ → Bool). input_under thm b) (sym (vector_later g old mid grows edges a live))) (c.told a (all a));
}

-- ---- what is decided
module _ {B : Type 0} (g : Ghosts B) (s : SobsSeen B) (w : WorldSeen) (thm : Thm) (hyp : Edge) (edges : List Edge) (h : IsHypothesis g s w thm hyp) (p : Parametrises g s hyp (width_of thm.bindings) edges) where
  -- each assignment that the vector makes is one of the hypothesis
  pub of_vector : (a : ℕ → Bool) (b : List Bool) → b ≡ map (λ e. g.truth_of s.store e a) edges → IsOfPart w thm Concl b
  of_vector a b is = subst (IsOfPart w thm Concl) (sym is) (length-map edges (λ e. g.truth_of s.store e a) ∙ p.count, met_where w (term_at thm Hyp) (input_under thm (vector_at g s.store edges a)) _ (h.told (vector_at g s.store edges a)) (p.inside a))

  pub some_meets : (a : ℕ → Bool) × Meets w thm Hyp a
  some_meets = (vector_at g s.store edges (λ k. false), met_where w (term_at thm Hyp) (input_under thm (vector_at g s.store edges (λ k. false))) _ (h.told (vector_at g s.store edges (λ k. false))) (p.inside (λ k. false)))

  module _ (concl : Edge) (c : TellsConclusion g s w thm edges concl) where
    pub all_meet : ((a : ℕ → Bool) → g.truth_of s.store concl a ≡ true) → (a : ℕ → Bool) → Meets w thm Hyp a → Meets w thm Concl a
    all_meet always a m =
        let t = where_met w (term_at thm Hyp) (input_under thm a) _ (h.told a) m in
        let itself : input_under thm (vector_at g s.store edges a) ≡ input_under thm a = same_input thm.bindings (vector_at g s.store edges a) a (λ k within. p.fixed a t k within) in
        subst (λ (i : List (ℕ × Object)). IsMet w.definitions (term_at thm Concl) i) itself (met_where w (term_at thm Concl) (input_under thm (vector_at g s.store edges a)) _ (c.told a) (always a))

    pub refuted_at : (a : ℕ → Bool) (b : List Bool) → b ≡ map (λ e. g.truth_of s.store e a) edges → g.truth_of s.store concl a ≡ false → HasValue w.definitions (input_under thm (value_at b)) (term_at thm Concl) nil
    refuted_at a b is off = subst (λ (x : List Bool). HasValue w.definitions (input_under thm (value_at x)) (term_at thm Concl) nil) (sym is) (nil_where w (term_at thm Concl) (input_under thm (vector_at g s.store edges a)) _ (c.told a) off)

-- ---- a fault of the conclusion, at the vector's assignment
module _ {B : Type 0} (g : Ghosts B) (old new : SobsSeen B) (w : WorldSeen) (thm : Thm) (m : MachineSeen) (env : List (ℕ × Sob)) (always hyp : Edge) (edges : List Edge)
    (h : IsHypothesis g old w thm hyp) (p : Parametrises g old hyp (width_of thm.bindings) edges) (s : StandsAt g old thm edges env) (r : IsReady w thm m) where
  abbrev bits : (ℕ → Bool) → List Bool
  bits a = map (λ e. g.truth_of old.store e a) edges

  abbrev task : Task
  task = record { world = w; machine = m; clock = clock_at thm Concl; term = term_at thm Concl; env = env; path = always }

  at : (P : List (ℕ × Object) → Type 0) (a : List Bool) → P (env_under g old env (value_at a)) → P (input_under thm (value_at (bits (value_at a))))
  at P a x = subst P (s.input (value_at a)) x

  pub moved_stop : (f : GlFault) → HasCause g old new task f → IsProper w m.steps m.arena.limit thm (stopped_by Concl (moved_by bits f))
  moved_stop (fault.Clock a) c = (of_vector g old w thm hyp edges h p (value_at a) (bits (value_at a)) refl, at (λ e. evaluate w.definitions (clock_at thm Concl) e (term_at thm Concl) ≡ None) a c.1)
  moved_stop (fault.Wide a) c = (of_vector g old w thm hyp edges h p (value_at a) (bits (value_at a)) refl, at (λ e. IsWide w.definitions e (term_at thm Concl)) a c.1)
  moved_stop (fault.Steps a) c = (of_vector g old w thm hyp edges h p (value_at a) (bits (value_at a)) refl, subst (λ (fs : List ℕ). IsDear w fs (input_under thm (value_at (bits (value_at a)))) (term_at thm Concl) m.steps) r.functions (at (λ e. IsDear w m.functions e (term_at thm Concl) m.steps) a c.1))
  moved_stop (fault.Cells a) c = (of_vector g old w thm hyp edges h p (value_at a) (bits (value_at a)) refl, from_crowd w (input_under thm (value_at (bits (value_at a)))) (term_at thm Concl) m.arena.objects m.arena.limit r.cells (at (λ e. IsCrowded w e (term_at thm Concl) m.arena.objects m.arena.limit) a c.1))
  moved_stop fault.Full c = tt
  moved_stop fault.Spent c = tt
  moved_stop fault.Memory c = tt

  pub moved_out : (f : GlFault) → HasCause g old new task f → HasRunOut g new (stopped_by Concl (moved_by bits f))
  moved_out (fault.Clock a) c = tt
  moved_out (fault.Wide a) c = tt
  moved_out (fault.Steps a) c = tt
  moved_out (fault.Cells a) c = tt
  moved_out fault.Full c = c
  moved_out fault.Spent c = c
  moved_out fault.Memory c = tt

  pub cause_width : (n : ℕ) → g.width_of old.store ≡ n → (f : GlFault) → HasCause g old new task f → HasWidth n f
  cause_width n is (fault.Clock a) c = c.0.0 ∙ is
  cause_width n is (fault.Wide a) c = c.0.0 ∙ is
  cause_width n is (fault.Steps a) c = c.0.0 ∙ is
  cause_width n is (fault.Cells a) c = c.0.0 ∙ is
  cause_width n is fault.Full c = tt
  cause_width n is fault.Spent c = tt
  cause_width n is fault.Memory c = tt

pub out_moved : {B : Type 0} (g : Ghosts B) (mid new : SobsSeen B) (v : (ℕ → Bool) → List Bool) (f : GlFault) → (IsStill f → new ≡ mid) → HasRunOut g mid (stopped_by Concl (moved_by v f)) → HasRunOut g new (stopped_by Concl (moved_by v f))
out_moved g mid new v (fault.Clock a) e h = tt
out_moved g mid new v (fault.Wide a) e h = tt
out_moved g mid new v (fault.Steps a) e h = tt
out_moved g mid new v (fault.Cells a) e h = tt
out_moved g mid new v fault.Full e h = subst (λ s. HasRunOut g s decision.Full) (sym (e tt)) h
out_moved g mid new v fault.Spent e h = subst (λ s. HasRunOut g s decision.Spent) (sym (e tt)) h
out_moved g mid new v fault.Memory e h = tt
