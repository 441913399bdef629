-- The invariant of the evaluator's loop on objects, its steps and its ends.
use Rattle.std.proofs.Common.{◌≡◌, ◌∙◌, ap, sym, refl, ℕ, zero, suc, ◌+◌, ◌-◌, ◌<◌, ◌≤◌, Bool, true, false, List, [], ◌∷◌, ◌++◌, Option, None, Some, subst, arith, map, length, slice_get}
use Rattle.std.specs.List.{Contains, flat_map}
use Rattle.std.proofs.lemmas.List.Elements.{Contains-append_left, Contains-append_right}
use Rattle.gl_logic.specs.Object.{Object}
use Rattle.gl_logic.specs.Definition.{Definition}
use Rattle.gl_logic.specs.Every.{Every}
use Rattle.gl_logic.specs.Exp.{Exp}
use Rattle.gl_logic.specs.IsGround.{AreGround}
use Rattle.gl_logic.specs.Walk.{Walk, CallMade, then, walk}
use Rattle.gl_logic.specs.Evaluate.{evaluate, HasValue}
use Rattle.gl_logic.specs.Counts.{seen, seen_in}
use Rattle.gl_logic.specs.CellCounts.{cells, world_constants, constants_of}
use Rattle.gl_logic.specs.Parts.{cells_in}
use Rattle.gl_logic.specs.Wide.{IsWide, IsWideObject, SomeWide}
use Rattle.gl_logic.specs.WorldSeen.{WorldSeen}
use Rattle.gl_logic.proofs.Optional.{none_some, some_same}
use Rattle.gl_logic.proofs.Walks.{walk_of_value, walk_unique}
use Rattle.hons_arena.specs.Held.{Held, IsEachOnce, LacksCell, HasNoRoomFor}
use Rattle.lisp_eval.specs.Answers.{IsDear, IsCrowded}
use Rattle.lisp_eval.specs.Frames.{Frame, Focus, Visit, Give, rest_of}
use Rattle.lisp_eval.specs.MachineCalls.{HoldsSeen}
use Rattle.lisp_eval.specs.Threads.{Thread}
use Rattle.lisp_eval.specs.Within.{IsIn, AreWithin, CoverCells}
use Rattle.lisp_eval.specs.Narrow.{IsNarrow}
use Rattle.lisp_eval.specs.Tables.{answered_in}
use Rattle.lisp_eval.proofs.Cover.{IsFineCall}
use Rattle.lisp_eval.proofs.Goes.{Goes}
use Rattle.lisp_eval.proofs.Running.{Running, there, begins, runs_on, too_many, done}
use Rattle.lisp_eval.proofs.TableAnswers.{deep_narrow, answers_in}
use Rattle.lisp_eval.proofs.Seen.{every_in}
use Rattle.lisp_eval.proofs.Within.{full, full_of_room}

abbrev pub Narrow : Object → Type 0
Narrow = IsNarrow

in_behind : (xs ys : List Object) (x : Object) → IsIn ys x → IsIn (xs ++ ys) x
in_behind [] ys x h = h
in_behind (y ∷ xs) ys x h = let k = in_behind xs ys x h in (suc k.0, k.1)

pub in_cells : (xs : List Object) (v y : Object) (k : ℕ) → slice_get xs k ≡ Some v → Contains (cells_in v) y → Contains (flat_map cells_in xs) y
in_cells [] v y k e c = none_some v e
in_cells (x ∷ xs) v y zero e c = Contains-append_left (cells_in x) (flat_map cells_in xs) y (subst (λ (z : Object). Contains (cells_in z) y) (sym (some_same x v e)) c)
in_cells (x ∷ xs) v y (suc k) e c = Contains-append_right (cells_in x) (flat_map cells_in xs) y (in_cells xs v y k e c)

module _ (w : WorldSeen) (ground : AreGround w.definitions) (functions : List ℕ) (env : List (ℕ × Object)) (t : Exp) (limit : ℕ) (start : List Object) where
  abbrev ds : List Definition
  ds = w.definitions

  abbrev pub run_of : (depth : ℕ) (r : Walk) → walk ds depth env t ≡ Some r → List CallMade → Thread
  run_of depth r walks first = (there (IsIn r.seen) Narrow ds (answered_in ds) functions (answers_in ds ground) depth env t r walks (every_in r.seen) first).run

  pub record Going (left : ℕ) (focus : Focus) (frames : List Frame) (kept : List CallMade) (objects : List Object) : Type 0 where
    pub depth : ℕ
    pub walked : Walk
    pub walks : walk ds depth env t ≡ Some walked
    pub first : List CallMade
    pub first_fine : Every (IsFineCall ds Narrow) first
    pub spent : ℕ
    pub balance : spent + left ≡ limit
    pub running : Running (IsIn walked.seen) Narrow ds (answered_in ds) functions depth (run_of depth walked walks first) spent focus frames kept
    pub within : AreWithin start walked.seen objects

  pub going_start : (n : ℕ) (x : Object) (first : List CallMade) → evaluate ds n env t ≡ Some x → Every (IsFineCall ds Narrow) first → Going limit (Visit t env) [] first start
  going_start n x first e f =
      let r = walk_of_value ds n env t x e in
      record {
        depth = n;
        walked = r.0;
        walks = r.1.0;
        first = first;
        first_fine = f;
        spent = 0;
        balance = omega arith;
        running = begins (IsIn r.0.seen) Narrow ds (answered_in ds) functions (answers_in ds ground) n env t r.0 r.1.0 (every_in r.0.seen) first;
        within = λ y c. Rattle.std.proofs.Common.inl c;
      }

  module _ (left : ℕ) (focus : Focus) (frames : List Frame) (kept : List CallMade) (objects : List Object) (i : Going left focus frames kept objects) where
    -- a step: what it meets is seen, and has to be narrow; the cells that it adds are of what it meets
    pub record StepOn (met : List Object) (left' : ℕ) (focus' : Focus) (frames' : List Frame) (kept' : List CallMade) : Type 0 where
      pub met_seen : Every (IsIn i.walked.seen) met
      pub goes_on : Every Narrow met → (objects' : List Object) → AreWithin start i.walked.seen objects' → Going left' focus' frames' kept' objects'

    pub going_step : (left' more : ℕ) (met : List Object) (focus' : Focus) (frames' : List Frame) (kept' : List CallMade) → more + left' ≡ left
        → Goes (IsIn i.walked.seen) Narrow more met (rest_of ds (answered_in ds) functions i.depth focus frames kept) (rest_of ds (answered_in ds) functions i.depth focus' frames' kept') → StepOn met left' focus' frames' kept'
    going_step left' more met focus' frames' kept' b g =
        let s = runs_on (IsIn i.walked.seen) Narrow ds (answered_in ds) functions i.depth (run_of i.depth i.walked i.walks i.first) i.spent more met focus focus' frames frames' kept kept' i.running g in
        record {
          met_seen = s.within;
          goes_on = λ narrow objects' within. record {
            depth = i.depth;
            walked = i.walked;
            walks = i.walks;
            first = i.first;
            first_fine = i.first_fine;
            spent = i.spent + more;
            balance = omega (arith, i.balance, b);
            running = s.goes_on narrow;
            within = within;
          };
        }

    value : evaluate ds i.depth env t ≡ Some i.walked.value
    value = ap (λ o. then o (λ r. Some r.value)) i.walks

    seen_is : seen ds i.depth env t ≡ i.walked.seen
    seen_is = ap seen_in i.walks

    pub going_wide : (x : Object) → IsIn i.walked.seen x → IsWideObject x → IsWide ds env t
    going_wide x k wide = (i.depth, subst SomeWide (sym seen_is) (k.0, (x, (k.1, wide))))

    covers : CoverCells start i.walked.seen (start ++ cells w i.depth env t)
    covers = record {
      first = λ y c. Contains-append_left start (cells w i.depth env t) y c;
      later = λ y c.
          let at : IsIn (seen ds i.depth env t) c.value = subst (λ (xs : List Object). IsIn xs c.value) (sym seen_is) c.seen_value in
          let k = in_behind (map (λ p. p.1) env) (world_constants w ++ (constants_of t ++ seen ds i.depth env t)) c.value (in_behind (world_constants w) (constants_of t ++ seen ds i.depth env t) c.value (in_behind (constants_of t) (seen ds i.depth env t) c.value at)) in
          Contains-append_right start (cells w i.depth env t) y (in_cells (map (λ p. p.1) env ++ (world_constants w ++ (constants_of t ++ seen ds i.depth env t))) c.value y k.0 k.1 c.cell);
    }

    pub going_crowded : (held : Held) (x : Object) → IsIn i.walked.seen x → LacksCell held x → IsEachOnce held.objects → AreWithin start i.walked.seen held.objects → IsCrowded w env t start held.limit
    going_crowded held x k lack once within = record { depth = i.depth; value = i.walked.value; has = value; more = full start i.walked.seen (start ++ cells w i.depth env t) held x k lack once within covers }

    pub going_no_room : (held : Held) (x : Object) → IsIn i.walked.seen x → HasNoRoomFor held x → IsEachOnce held.objects → AreWithin start i.walked.seen held.objects → IsCrowded w env t start held.limit
    going_no_room held x k room once within = record { depth = i.depth; value = i.walked.value; has = value; more = full_of_room start i.walked.seen (start ++ cells w i.depth env t) held x k room once within covers }

  pub going_dear : (left : ℕ) (u : Exp) (uenv : List (ℕ × Object)) (frames : List Frame) (kept : List CallMade) (objects : List Object) → Going left (Visit u uenv) frames kept objects → left ≡ 0 → IsDear w functions env t limit
  going_dear left u uenv frames kept objects i z =
      let more = too_many (IsIn i.walked.seen) Narrow ds (answered_in ds) functions (answers_in ds ground) i.depth env t i.walked i.walks (every_in i.walked.seen) i.first i.spent u uenv frames kept i.running in
      record { depth = i.depth; value = i.walked.value; has = ap (λ o. then o (λ r. Some r.value)) i.walks; more = omega (arith, more, i.balance, z) }

  every_at_get : (xs : List Object) (k : ℕ) (x : Object) → Every Narrow xs → slice_get xs k ≡ Some x → Narrow x
  every_at_get [] k x h e = none_some x e
  every_at_get (y ∷ xs) zero x h e = subst Narrow (some_same y x e) h.0
  every_at_get (y ∷ xs) (suc k) x h e = every_at_get xs k x h.1 e

  none_wide_at : (n m : ℕ) (r : Walk) (o : Option Walk) → walk ds m env t ≡ Some r → Every Narrow r.seen → walk ds n env t ≡ o → SomeWide (seen_in o) → ⊥
  none_wide_at n m r None e h q k = none_some k.1.0 k.1.1.0
  none_wide_at n m r (Some s) e h q k = deep_narrow k.1.0 (every_at_get s.seen k.0 k.1.0 (subst (λ (z : Walk). Every Narrow z.seen) (walk_unique ds m n env t r s e q) h) k.1.1.0) k.1.1.1

  pub record GoneTo (v : Object) (kept : List CallMade) : Type 0 where
    pub value : HasValue ds env t v
    pub narrow : IsWide ds env t → ⊥
    pub calls : Every (IsFineCall ds Narrow) kept

  -- what is held then is of values that were seen
  pub going_holds : (left : ℕ) (focus : Focus) (frames : List Frame) (kept : List CallMade) (objects : List Object) → Going left focus frames kept objects → HoldsSeen w env t start objects
  going_holds left focus frames kept objects i = record {
    depth = i.depth;
    value = i.walked.value;
    has = ap (λ o. then o (λ r. Some r.value)) i.walks;
    cells = subst (λ (xs : List Object). AreWithin start xs objects) (sym (ap seen_in i.walks)) i.within;
  }

  pub going_done : (left : ℕ) (v : Object) (kept : List CallMade) (objects : List Object) → Going left (Give v) [] kept objects → GoneTo v kept
  going_done left v kept objects i =
      let d = done (IsIn i.walked.seen) Narrow ds (answered_in ds) functions (answers_in ds ground) i.depth env t i.walked i.walks (every_in i.walked.seen) i.first i.spent v kept i.running i.first_fine in
      record {
        value = (i.depth, ap (λ o. then o (λ r. Some r.value)) i.walks ∙ ap (λ (x : Object). Some x) (sym d.value));
        narrow = λ h. none_wide_at h.0 i.depth i.walked (walk ds h.0 env t) i.walks d.seen_fine refl h.1;
        calls = d.calls_fine;
      }
