-- The cause of a fault of a turn is there for the whole.
use Rattle.std.proofs.Common.{◌≡◌, ℕ, ◌+◌, ◌<◌, Bool, true, false, ◌&&◌, List, [], ◌∷◌, ◌++◌, length, refl, ap, sym, ◌∙◌, arith, subst, Option, Some, None, Bor, Vec, Global, inl, inr}
use Rattle.std.specs.Prelude.{slice_get}
use Rattle.std.specs.List.{Contains}
use Rattle.std.proofs.lemmas.List.Elements.{Contains-append_left, Contains-append_right, Contains-append_cases}
use Rattle.bfr_store.specs.declared.meaning.Meaning.{Ghosts}
use Rattle.gl_logic.specs.Assignments.{value_at}
use Rattle.gl_logic.specs.CellCounts.{cells}
use Rattle.gl_logic.specs.ConstantCall.{constant_call}
use Rattle.gl_logic.specs.Counts.{made_in, memoized_cost, seen, seen_in}
use Rattle.gl_logic.specs.Definition.{Definition}
use Rattle.gl_logic.specs.Different.{different}
use Rattle.gl_logic.specs.Evaluate.{evaluate}
use Rattle.gl_logic.specs.Exp.{Exp}
use Rattle.gl_logic.specs.Exp as exp
use Rattle.gl_logic.specs.Object.{Object}
use Rattle.gl_logic.specs.ObjectEq.{object_eq}
use Rattle.gl_logic.specs.PartsOfWalks as law
use Rattle.gl_logic.specs.PrimValue.{prim_value}
use Rattle.gl_logic.specs.TermOf.{term_of}
use Rattle.gl_logic.specs.Walk.{CallMade, Walk, opened, then, walk}
use Rattle.gl_logic.specs.declared.ids.FnId.{FnId}
use Rattle.gl_logic.specs.declared.prim.Primitive.{Primitive}
use Rattle.gl_logic.specs.declared.term.Term.{Term}
use Rattle.gl_logic.proofs.CallsAreParts.{call_costs_memoized, call_value, call_wide}
use Rattle.gl_logic.proofs.Optional.{none_some}
use Rattle.hons_arena.specs.Held.{Held, HasNoRoomFor, IsEachOnce}
use Rattle.lisp_eval.specs.Answers.{IsCrowded, IsDear}
use Rattle.lisp_eval.specs.Machines.{MachineSeen}
use Rattle.lisp_eval.specs.Within.{CoverCells}
use Rattle.lisp_eval.proofs.Places.{contains_at}
use Rattle.lisp_eval.proofs.Within.{full_of_room}
use Rattle.sym_objects.specs.declared.sob.Sob.{Sob}
use Rattle.sym_objects.specs.Seen.{SobsSeen}
use Rattle.sym_prims.specs.Applying.{Leaves}
use Rattle.gl_interp.specs.declared.envs.EnvId.{EnvId}
use Rattle.gl_interp.specs.declared.fault.GlFault.{GlFault}
use Rattle.gl_interp.specs.declared.fault.GlFault.TheVariants as fault
use Rattle.gl_interp.specs.declared.frame.Path.{Path}
use Rattle.gl_interp.specs.declared.frame.Work.{Work}
use Rattle.gl_interp.specs.declared.frame.Work.TheVariants as work
use Rattle.gl_interp.specs.declared.frame.Frame.{Frame}
use Rattle.gl_interp.specs.declared.frame.Focus.{Focus}
use Rattle.gl_interp.specs.declared.frame.Focus.TheVariants as focus
use Rattle.gl_interp.specs.Calls.{IsCrowdedCall, IsDearCall, values_under}
use Rattle.gl_interp.specs.Causes.{HasCause, IsOnPath, Task}
use Rattle.gl_interp.specs.Environments.{env_under}
use Rattle.gl_interp.specs.Running.{at}
use Rattle.gl_interp.specs.TurnFaults.{HasPlainCause, HasTurnCause}
use Rattle.gl_interp.specs.Walking.{At, wrap, worked, Makes, FocusMakes, reached}
use Rattle.gl_interp.specs.Whole.{Running, whole_at}
use Rattle.gl_interp.proofs.Walking.{strict, wrap_none}
use Rattle.gl_interp.proofs.Reaching.{MadeIn, SeenIn, call_made, constant_seen, has_wrap, made_kept, prim_seen, reaches_whole, seen_kept}
use Rattle.gl_interp.proofs.CellsOfCalls.{among_cells, call_among, different_within, seen_among}
use Rattle.gl_interp.proofs.Whole.{HasWalkFrom, on_start, walk_from}

and_right : (a b : Bool) → (a && b) ≡ true → b ≡ true
and_right true b h = h
and_right false b h = absurd cc

module _ {B : Type 0} (g : Ghosts B) (old : SobsSeen B) (t : Task) (now new : SobsSeen B) (machine : MachineSeen) (es : List (List (ℕ × Sob))) (path : Path) (fs : List Frame) (f : Focus) (r : Running g old t now machine es path fs f) (k : Leaves g now new) where
  abbrev ds : List Definition
  ds = t.world.definitions

  -- the assignment of a fault, as one of the whole's path and of the path where the fault comes
  abbrev env_at : List Bool → List (ℕ × Object)
  env_at b = env_under g old t.env (value_at b)

  from_here : (b : List Bool) → HasWalkFrom ds (env_at b) t.term t.clock
  from_here b = walk_from ds r.total (env_at b) t.term t.clock r.is_term

  here : (b : List Bool) → IsOnPath g new path.edge b → g.truth_of now.store path.edge (value_at b) ≡ true
  here b h = sym (k.grows.store.same path.edge (value_at b) r.ready.path_live) ∙ h.1

  is_reached : (b : List Bool) → IsOnPath g new path.edge b → reached (λ e. g.truth_of now.store e (value_at b)) fs ≡ true
  is_reached b h = and_right _ _ (sym (r.ready.is_path.says (value_at b)) ∙ here b h)

  abbrev view : ℕ → List Bool → At
  view j b = at g ds j now es (value_at b)

  abbrev whole : ℕ → List Bool → Option Walk
  whole j b = whole_at g old t j (value_at b)

  made : (j : ℕ) (b : List Bool) (v : Walk) → IsOnPath g old t.path b → whole j b ≡ Some v → FocusMakes (view j b) fs (whole j b) f
  made j b v on e = elim (r.makes j (value_at b) on.1) [
    | inl p ↦ p
    | inr n ↦ absurd (none_some v (sym n ∙ e))
  ]

  -- ---- what the whole has seen and made
  prim_in : (b : List Bool) (h : IsOnPath g new path.edge b) (on : IsOnPath g old t.path b) (w : Work) (p : Primitive) (args : Vec Sob Global) (e : EnvId) (n : ℕ) → f ≡ focus.Run w args e n → w ≡ work.Prim p
      → (i : ℕ) × (slice_get (from_here b).run.seen i ≡ Some (prim_value p (values_under g now args.items (value_at b))))
  prim_in b h on w p args e n is kind =
      let v = from_here b in
      let q : FocusMakes (view v.more b) fs (whole v.more b) (focus.Run w args e n) = subst (λ z. FocusMakes (view v.more b) fs (whole v.more b) z) is (made v.more b v.run on v.walks) in
      let rs = q.1.0 in
      let m : Makes (view v.more b) fs (whole v.more b) (wrap q.0 (worked ds (n + v.more) ((view v.more b).env e.number) (work.Prim p) rs)) = subst (λ z. Makes (view v.more b) fs (whole v.more b) (wrap q.0 (worked ds (n + v.more) ((view v.more b).env e.number) z rs))) kind q.1.1.1 in
      let x = prim_value p rs.values in
      subst (λ xs. (i : ℕ) × (slice_get v.run.seen i ≡ Some (prim_value p xs))) q.1.1.0
      (reaches_whole (SeenIn x) (seen_kept x) (view v.more b) fs (whole v.more b) _ (is_reached b h) (has_wrap (SeenIn x) (seen_kept x) q.0 _ (prim_seen ds (n + v.more) ((view v.more b).env e.number) p rs)) m v.run v.walks)

  const_in : (b : List Bool) (h : IsOnPath g new path.edge b) (on : IsOnPath g old t.path b) (u : Bor Term) (x : Object) (e : EnvId) (n : ℕ) → f ≡ focus.Visit u e n → term_of u.now ≡ exp.Const x
      → (i : ℕ) × (slice_get (from_here b).run.seen i ≡ Some x)
  const_in b h on u x e n is kind =
      let v = from_here b in
      let q : FocusMakes (view v.more b) fs (whole v.more b) (focus.Visit u e n) = subst (λ z. FocusMakes (view v.more b) fs (whole v.more b) z) is (made v.more b v.run on v.walks) in
      let m : Makes (view v.more b) fs (whole v.more b) (wrap q.0 (Some (record { value = x; seen = x ∷ []; made = [] }))) = subst (λ z. Makes (view v.more b) fs (whole v.more b) (wrap q.0 (walk ds (n + v.more) ((view v.more b).env e.number) z))) kind q.1 in
      reaches_whole (SeenIn x) (seen_kept x) (view v.more b) fs (whole v.more b) _ (is_reached b h) (has_wrap (SeenIn x) (seen_kept x) q.0 _ (constant_seen x)) m v.run v.walks

  call_in : (b : List Bool) (h : IsOnPath g new path.edge b) (on : IsOnPath g old t.path b) (w : Work) (fn : FnId) (args : Vec Sob Global) (e : EnvId) (n : ℕ) → f ≡ focus.Run w args e n → w ≡ work.Call fn
      → law.Makes ds (t.clock + (from_here b).more) (env_at b) t.term (fn.number, values_under g now args.items (value_at b))
  call_in b h on w fn args e n is kind =
      let v = from_here b in
      let q : FocusMakes (view v.more b) fs (whole v.more b) (focus.Run w args e n) = subst (λ z. FocusMakes (view v.more b) fs (whole v.more b) z) is (made v.more b v.run on v.walks) in
      let rs = q.1.0 in
      let m : Makes (view v.more b) fs (whole v.more b) (wrap q.0 (opened ds (n + v.more) fn.number rs)) = subst (λ z. Makes (view v.more b) fs (whole v.more b) (wrap q.0 (worked ds (n + v.more) ((view v.more b).env e.number) z rs))) kind q.1.1.1 in
      let c : CallMade = (fn.number, rs.values) in
      let there = reaches_whole (MadeIn c) (made_kept c) (view v.more b) fs (whole v.more b) _ (is_reached b h) (has_wrap (MadeIn c) (made_kept c) q.0 _ (call_made ds (n + v.more) fn.number rs)) m v.run v.walks in
      subst (λ xs. law.Makes ds (t.clock + v.more) (env_at b) t.term (fn.number, xs)) q.1.1.0 (subst (λ o. Contains (made_in o) c) (sym v.walks) there)

  value_is : (b : List Bool) → evaluate ds (t.clock + (from_here b).more) (env_at b) t.term ≡ Some (from_here b).run.value
  value_is b = ap (λ o. then o (λ w. Some w.value)) (from_here b).walks

  -- ---- the causes
  clock_cause : (b : List Bool) (h : IsOnPath g new path.edge b) (on : IsOnPath g old t.path b) (w : Work) (fn : FnId) (args : Vec Sob Global) (e : EnvId) (n : ℕ) → f ≡ focus.Run w args e n → w ≡ work.Call fn → n ≡ 0
      → evaluate ds t.clock (env_at b) t.term ≡ None
  clock_cause b h on w fn args e n is kind zero_clock =
      let same : t.clock + 0 ≡ t.clock = omega arith in
      let none : whole 0 b ≡ None = elim (r.makes 0 (value_at b) on.1) [
        | inl p ↦
            let q : FocusMakes (view 0 b) fs (whole 0 b) (focus.Run w args e n) = subst (λ z. FocusMakes (view 0 b) fs (whole 0 b) z) is p in
            let shut : worked ds (n + 0) ((view 0 b).env e.number) w q.1.0 ≡ None = (λ i. worked ds (n + 0) ((view 0 b).env e.number) (kind i) q.1.0) ∙ (let z : n + 0 ≡ 0 = omega (arith, zero_clock) in ap (λ m. opened ds m fn.number q.1.0) z) in
            strict (view 0 b) fs (whole 0 b) (is_reached b h) (subst (λ o. Makes (view 0 b) fs (whole 0 b) o) (ap (wrap q.0) shut ∙ wrap_none q.0) q.1.1.1)
        | inr n ↦ n
      ] in
      ap (λ o. then o (λ v. Some v.value)) (ap (λ m. walk ds m (env_at b) t.term) (sym same) ∙ none)

  abbrev CallAt : List Bool → FnId → Vec Sob Global → Type 0
  CallAt b fn args = law.Makes ds (t.clock + (from_here b).more) (env_at b) t.term (fn.number, values_under g now args.items (value_at b))

  dear_cause : (b : List Bool) (fn : FnId) (args : Vec Sob Global) → CallAt b fn args → IsDearCall t.world machine fn.number (values_under g now args.items (value_at b)) → IsDear t.world t.machine.functions (env_at b) t.term t.machine.steps
  dear_cause b fn args there dear =
      let n = t.clock + (from_here b).more in
      let xs = values_under g now args.items (value_at b) in
      let v = call_value ds n (env_at b) t.term (fn.number, xs) there in
      let less : machine.steps < memoized_cost ds machine.functions n [] (constant_call fn.number xs) = dear n v.0 v.1 in
      let moved : t.machine.steps < memoized_cost ds t.machine.functions n [] (constant_call fn.number xs) = subst (λ fns. t.machine.steps < memoized_cost ds fns n [] (constant_call fn.number xs)) r.rests.settings.functions (subst (λ m. m < memoized_cost ds machine.functions n [] (constant_call fn.number xs)) r.rests.settings.steps less) in
      record { depth = n; value = (from_here b).run.value; has = value_is b; more = omega (arith, moved, call_costs_memoized t.machine.functions ds n (env_at b) t.term (fn.number, xs) there) }

  crowded_cause : (b : List Bool) (fn : FnId) (args : Vec Sob Global) → CallAt b fn args → IsCrowdedCall t.world machine fn.number (values_under g now args.items (value_at b)) → IsCrowded t.world (env_at b) t.term t.machine.arena.objects t.machine.arena.limit
  crowded_cause b fn args there crowded =
      let n = t.clock + (from_here b).more in
      let xs = values_under g now args.items (value_at b) in
      let v = call_value ds n (env_at b) t.term (fn.number, xs) there in
      let held = machine.arena.objects in
      let less : machine.arena.limit < length (different object_eq (held ++ cells t.world n [] (constant_call fn.number xs))) = crowded n v.0 v.1 in
      let within = different_within (held ++ cells t.world n [] (constant_call fn.number xs)) (held ++ cells t.world n (env_at b) t.term)
      (λ y c. elim (Contains-append_cases held (cells t.world n [] (constant_call fn.number xs)) y c) [
        | inl d ↦ Contains-append_left held (cells t.world n (env_at b) t.term) y d
        | inr d ↦ Contains-append_right held (cells t.world n (env_at b) t.term) y (call_among t.world n (env_at b) t.term fn.number xs there y d)
      ]) in
      let all : machine.arena.limit < length (different object_eq (held ++ cells t.world n (env_at b) t.term)) = omega (arith, less, within) in
      record { depth = n; value = (from_here b).run.value; has = value_is b; more = subst (λ (a : Held). a.limit < length (different object_eq (a.objects ++ cells t.world n (env_at b) t.term))) r.rests.arena all }

  large_cause : (b : List Bool) (x : Object) → (i : ℕ) × (slice_get (from_here b).run.seen i ≡ Some x) → HasNoRoomFor machine.arena x → IsEachOnce machine.arena.objects → IsCrowded t.world (env_at b) t.term t.machine.arena.objects t.machine.arena.limit
  large_cause b x there room once =
      let n = t.clock + (from_here b).more in
      let held = machine.arena.objects in
      let S = (from_here b).run.seen in
      let all = held ++ cells t.world n (env_at b) t.term in
      let seen_is : seen ds n (env_at b) t.term ≡ S = ap seen_in (from_here b).walks in
      let cover : CoverCells held S all = record {
        first = λ y c. Contains-append_left held (cells t.world n (env_at b) t.term) y c;
        later = λ y c. Contains-append_right held (cells t.world n (env_at b) t.term) y
            (among_cells _ c.value y (seen_among t.world n (env_at b) t.term c.value (subst (λ zs. Contains zs c.value) (sym seen_is) (contains_at S c.seen_value.0 c.value c.seen_value.1))) c.cell);
      } in
      let less : machine.arena.limit < length (different object_eq all) = full_of_room held S all machine.arena x there room once (λ y c. inl c) cover in
      record { depth = n; value = (from_here b).run.value; has = value_is b; more = subst (λ (a : Held). a.limit < length (different object_eq (a.objects ++ cells t.world n (env_at b) t.term))) r.rests.arena less }

  -- ---- by the turn
  abbrev start : (b : List Bool) → IsOnPath g new path.edge b → IsOnPath g old t.path b
  start b h = on_start g old t now new machine es path fs f b r k h

  pub plain_cause : (c : GlFault) → HasPlainCause g new c → HasCause g old new t c
  plain_cause (fault.Clock b) h = absurd h
  plain_cause (fault.Wide b) h = absurd h
  plain_cause (fault.Steps b) h = absurd h
  plain_cause (fault.Cells b) h = absurd h
  plain_cause fault.Full h = h
  plain_cause fault.Spent h = h
  plain_cause fault.Memory h = tt

  pub visit_cause : (u : Bor Term) (e : EnvId) (n : ℕ) → f ≡ focus.Visit u e n → (c : GlFault) → HasTurnCause g now new t.world machine path (focus.Visit u e n) c → HasCause g old new t c
  visit_cause u e n is (fault.Clock b) h = absurd h.1
  visit_cause u e n is (fault.Wide b) h = absurd h.1
  visit_cause u e n is (fault.Steps b) h = absurd h.1
  visit_cause u e n is (fault.Cells b) h = (start b h.0, large_cause b h.1.object (const_in b h.0 (start b h.0) u h.1.object e n is h.1.is) h.1.room h.1.different)
  visit_cause u e n is fault.Full h = h
  visit_cause u e n is fault.Spent h = h
  visit_cause u e n is fault.Memory h = tt

  pub run_cause : (w : Work) (args : Vec Sob Global) (e : EnvId) (n : ℕ) → f ≡ focus.Run w args e n → (c : GlFault) → HasTurnCause g now new t.world machine path (focus.Run w args e n) c → HasCause g old new t c
  run_cause (work.Prim p) args e n is (fault.Clock b) h = absurd h.1
  run_cause (work.Let vs u) args e n is (fault.Clock b) h = absurd h.1
  run_cause (work.Call fn) args e n is (fault.Clock b) h = (start b h.0, clock_cause b h.0 (start b h.0) (work.Call fn) fn args e n is refl h.1)
  run_cause (work.Prim p) args e n is (fault.Wide b) h =
      let q = prim_in b h.0 (start b h.0) (work.Prim p) p args e n is refl in
      (start b h.0, (t.clock + (from_here b).more, (q.0, (prim_value p (values_under g now args.items (value_at b)), (subst (λ o. slice_get (seen_in o) q.0 ≡ Some (prim_value p (values_under g now args.items (value_at b)))) (sym (from_here b).walks) q.1, h.1)))))
  run_cause (work.Let vs u) args e n is (fault.Wide b) h = absurd h.1
  run_cause (work.Call fn) args e n is (fault.Wide b) h =
      (start b h.0, call_wide ds (t.clock + (from_here b).more) (env_at b) t.term (fn.number, values_under g now args.items (value_at b)) (call_in b h.0 (start b h.0) (work.Call fn) fn args e n is refl) h.1)
  run_cause (work.Prim p) args e n is (fault.Steps b) h = absurd h.1
  run_cause (work.Let vs u) args e n is (fault.Steps b) h = absurd h.1
  run_cause (work.Call fn) args e n is (fault.Steps b) h = (start b h.0, dear_cause b fn args (call_in b h.0 (start b h.0) (work.Call fn) fn args e n is refl) h.1)
  run_cause (work.Prim p) args e n is (fault.Cells b) h = absurd h.1
  run_cause (work.Let vs u) args e n is (fault.Cells b) h = absurd h.1
  run_cause (work.Call fn) args e n is (fault.Cells b) h = (start b h.0, crowded_cause b fn args (call_in b h.0 (start b h.0) (work.Call fn) fn args e n is refl) h.1)
  run_cause w args e n is fault.Full h = h
  run_cause w args e n is fault.Spent h = h
  run_cause w args e n is fault.Memory h = tt
