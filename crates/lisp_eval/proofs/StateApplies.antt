-- The invariant of the evaluator's loop, where work is done.
use Rattle.std.proofs.Common.{◌≡◌, ◌∙◌, ap, sym, refl, subst, ℕ, ◌<◌, Bool, true, false, ◌&&◌, ◌||◌, List, [], ◌∷◌, ◌++◌, length, get_or, arith, Option, None, Some, slice_get}
use Rattle.std.specs.Prelude.{map}
use Rattle.std.proofs.lemmas.Bool.{and_from}
use Rattle.gl_logic.specs.Object.{Object, nil}
use Rattle.gl_logic.specs.Definition.{Definition}
use Rattle.gl_logic.specs.Environment.{extended}
use Rattle.gl_logic.specs.Exp.{Exp}
use Rattle.gl_logic.specs.Counts.{is_among}
use Rattle.gl_logic.specs.PrimValue.{prim_of, prim_value}
use Rattle.gl_logic.specs.TermOf.{term_of}
use Rattle.gl_logic.specs.Walk.{CallMade}
use Rattle.gl_logic.specs.Wide.{IsWide, IsWideObject}
use Rattle.gl_logic.specs.WorldSeen.{WorldSeen}
use Rattle.gl_logic.proofs.Optional.{some_same}
use Rattle.hons_arena.specs.declared.id.Id.{Id}
use Rattle.hons_arena.specs.Held.{Held, AddsCellsOf, IsEachOnce, LacksCell, HasNoRoomFor}
use Rattle.hons_arena.specs.Ids.{object_at, IsLive, IsIdOf}
use Rattle.memo_tables.specs.Calls.{Call, IsKept, IsKeptAs}
use Rattle.lisp_eval.specs.Answers.{IsCrowded}
use Rattle.lisp_eval.specs.Bindings.{id_or_nil}
use Rattle.lisp_eval.specs.CallValue.{IsCallValue}
use Rattle.lisp_eval.specs.Frames.{Work, ToPrim, ToCall, ToLet, Frame, Keep, Focus, Visit, Apply, Give}
use Rattle.lisp_eval.specs.Kept.{IsKnown, entry_of, entries_of, kept_frame}
use Rattle.lisp_eval.specs.declared.calls.Known.TheVariants as known
use Rattle.lisp_eval.specs.States.{env_of, values_of, work_of, frames_of, keep_of, IsNext}
use Rattle.lisp_eval.specs.Threads.{is_kept, stays_shut}
use Rattle.lisp_eval.specs.Tables.{answered_in, table_value, answer_object}
use Rattle.lisp_eval.specs.Within.{IsIn, AreWithin}
use Rattle.lisp_eval.specs.declared.frame.Focus as program
use Rattle.lisp_eval.specs.declared.frame.Focus.TheVariants as focus
use Rattle.lisp_eval.specs.declared.frame.Frame as held
use Rattle.lisp_eval.specs.declared.frame.Work.TheVariants as work
use Rattle.lisp_eval.proofs.Environments.{append_none, stays_at}
use Rattle.lisp_eval.proofs.Goes.{prim_done, let_done, call_shut, call_enters, call_keeps}
use Rattle.lisp_eval.proofs.Going.{Narrow, Going, StepOn, going_step, going_wide, going_crowded, going_no_room}
use Rattle.lisp_eval.proofs.Places.{At, place_of, contains_at, below_at, map_at, map_back, every_place, kept_at, kept_place, same_ids, ids_live, call_is_there}
use Rattle.lisp_eval.proofs.Standing.{stable_live, grows_added, still, values_in, work_in, id_stands, at_once}
use Rattle.lisp_eval.proofs.State.{State}
use Rattle.lisp_eval.proofs.TableValues.{tables_are_right}
use Rattle.lisp_eval.proofs.Within.{stays}

not_true : (b : Bool) → (b ≡ true → ⊥) → b ≡ false
not_true true h = absurd (h refl)
not_true false h = refl

and_first : (a b : Bool) → a ≡ false → (a && b) ≡ false
and_first true b h = absurd cc
and_first false b h = refl

or_second : (a b : Bool) → b ≡ true → (a || b) ≡ true
or_second true b h = refl
or_second false b h = h

or_first : (a b : Bool) → a ≡ true → (a || b) ≡ true
or_first true b h = refl
or_first false b h = absurd cc

or_both : (a b : Bool) → a ≡ false → b ≡ false → (a || b) ≡ false
or_both true b g h = absurd cc
or_both false b g h = h

and_second : (a b : Bool) → b ≡ false → (a && b) ≡ false
and_second true b h = h
and_second false b h = refl

module _ (w : WorldSeen) (functions : List ℕ) (env : List (ℕ × Object)) (t : Exp) (limit : ℕ) (start : List Object) where
  -- ---- work is done
  module _ (left : ℕ) (u : _) (args : _) (uenv : _) (frames : List held.Frame) (objects : List Object) (entries : List (Call × Id)) (s : State w functions env t limit start left (focus.Apply u args uenv) frames objects entries) where
    abbrev values : List Object
    values = values_of (objects ++ []) args.items

    pub values_stand : (more : List Object) → values_of (objects ++ more) args.items ≡ values
    values_stand more = ap values_in (s.focus_is more ∙ sym (s.focus_is []))

    pub arg_live : (i : ℕ) → IsLive objects (id_or_nil args.items i)
    arg_live i = stable_live objects (id_or_nil args.items i) (get_or values i nil) (id_stands objects args.items values i values_stand)

    abbrev work_now : Work
    work_now = work_of (env_of (objects ++ []) uenv.value.items) u

    at_apply : Going w s.ground functions env t limit start left (Apply work_now values) s.stack s.kept objects
    at_apply = subst (λ (g : Focus). Going w s.ground functions env t limit start left g s.stack s.kept objects) (sym (s.focus_is [])) s.going

    -- a primitive
    module _ (p : _) (is_prim : u ≡ work.Prim p) where
      pub prim_object : prim_of p (object_at objects (id_or_nil args.items 0)) (object_at objects (id_or_nil args.items 1)) ≡ prim_value p values
      prim_object =
          let a = at_once (λ all. object_at all (id_or_nil args.items 0)) (get_or values 0 nil) objects (id_stands objects args.items values 0 values_stand) in
          let b = at_once (λ all. object_at all (id_or_nil args.items 1)) (get_or values 1 nil) objects (id_stands objects args.items values 1 values_stand) in
          λ j. prim_of p (a j) (b j)

      at_prim : Going w s.ground functions env t limit start left (Apply (ToPrim p) values) s.stack s.kept objects
      at_prim = subst (λ (k : _). Going w s.ground functions env t limit start left (Apply (work_of (env_of (objects ++ []) uenv.value.items) k) values) s.stack s.kept objects) is_prim at_apply

      prim_step : StepOn w s.ground functions env t limit start left (Apply (ToPrim p) values) s.stack s.kept objects at_prim (prim_value p values ∷ []) left (Give (prim_value p values)) s.stack s.kept
      prim_step = going_step w s.ground functions env t limit start left (Apply (ToPrim p) values) s.stack s.kept objects at_prim left 0 (prim_value p values ∷ []) (Give (prim_value p values)) s.stack s.kept (omega arith)
          (prim_done (IsIn at_prim.walked.seen) Narrow w.definitions (answered_in w.definitions) functions at_prim.depth p values s.stack s.kept)

      pub prim_wide : IsWideObject (prim_of p (object_at objects (id_or_nil args.items 0)) (object_at objects (id_or_nil args.items 1))) → IsWide w.definitions env t
      prim_wide h = going_wide w s.ground functions env t limit start left (Apply (ToPrim p) values) s.stack s.kept objects at_prim (prim_value p values) prim_step.met_seen.0 (subst IsWideObject prim_object h)

      prim_within : (new : List Object) → AddsCellsOf (prim_value p values) objects new → AreWithin start at_prim.walked.seen new
      prim_within new adds = stays start at_prim.walked.seen objects new (prim_value p values) prim_step.met_seen.0 adds at_prim.within

      pub prim_crowded : (held : Held) → held.objects ≡ objects → LacksCell held (prim_of p (object_at objects (id_or_nil args.items 0)) (object_at objects (id_or_nil args.items 1))) → IsEachOnce held.objects → IsCrowded w env t start held.limit
      prim_crowded held e lack once = going_crowded w s.ground functions env t limit start left (Apply (ToPrim p) values) s.stack s.kept objects at_prim held (prim_value p values) prim_step.met_seen.0 (subst (LacksCell held) prim_object lack) once
          (subst (λ (zs : List Object). AreWithin start at_prim.walked.seen zs) (sym e) at_prim.within)

      pub prim_next : (new : List Object) (id : Id) → IsIdOf new (prim_of p (object_at objects (id_or_nil args.items 0)) (object_at objects (id_or_nil args.items 1))) id
          → AddsCellsOf (prim_of p (object_at objects (id_or_nil args.items 0)) (object_at objects (id_or_nil args.items 1))) objects new → Narrow (object_at new id) → State w functions env t limit start left (focus.Give id) frames new entries
      prim_next new id is adds n =
          let more_cells = subst (λ (x : Object). AddsCellsOf x objects new) prim_object adds in
          let grows = grows_added (prim_value p values) objects new more_cells in record {
            focus = Give (prim_value p values);
            stack = s.stack;
            ground = s.ground;
            kept = s.kept;
            calls = s.calls;
            going = prim_step.goes_on (subst Narrow (is.1 ∙ prim_object) n, tt) new (prim_within new more_cells);
            focus_is = λ more. ap Give (stays_at new more id is.0 ∙ (is.1 ∙ prim_object));
            frames_are = still (λ all. frames_of all frames) s.stack objects new grows s.frames_are;
            entries_are = still (λ all. entries_of all entries) s.calls objects new grows s.entries_are;
            right = s.right;
            same = s.same;
          }

    -- a let
    module _ (names : _) (body : _) (is_let : u ≡ work.Let names body) where
      abbrev outer : List (ℕ × Object)
      outer = env_of (objects ++ []) uenv.value.items

      at_let : Going w s.ground functions env t limit start left (Apply (ToLet names.now (term_of body.now) outer) values) s.stack s.kept objects
      at_let = subst (λ (k : _). Going w s.ground functions env t limit start left (Apply (work_of outer k) values) s.stack s.kept objects) is_let at_apply

      let_env : (more : List Object) → env_of (objects ++ more) uenv.value.items ≡ outer
      let_env more = ap let_outer (sym (ap (λ k. work_of (env_of (objects ++ more) uenv.value.items) k) is_let) ∙ (ap (λ f. work_in f (ToCall 0)) (s.focus_is more ∙ sym (s.focus_is [])) ∙ ap (λ k. work_of outer k) is_let)) where
        let_outer : Work → List (ℕ × Object)
        let_outer (ToLet vs b e) = e
        let_outer _ = []

      pub let_next : (f : program.Focus) → ((all : List Object) (old : List held.Frame) → IsNext all (record { focus = Visit (term_of body.now) (extended names.now (values_of all args.items) (env_of all uenv.value.items)); pushed = [] }) old f old) → State w functions env t limit start left f frames objects entries
      let_next f n =
          let inner = extended names.now values outer in
          let step = going_step w s.ground functions env t limit start left (Apply (ToLet names.now (term_of body.now) outer) values) s.stack s.kept objects at_let left 0 [] (Visit (term_of body.now) inner) s.stack s.kept (omega arith)
          (let_done (IsIn at_let.walked.seen) Narrow w.definitions (answered_in w.definitions) functions at_let.depth names.now (term_of body.now) outer values s.stack s.kept) in record {
            focus = Visit (term_of body.now) inner;
            stack = s.stack;
            ground = s.ground;
            kept = s.kept;
            calls = s.calls;
            going = step.goes_on tt objects at_let.within;
            focus_is = λ more. (n (objects ++ more) frames).focus ∙ (λ j. Visit (term_of body.now) (extended names.now (values_stand more j) (let_env more j)));
            frames_are = s.frames_are;
            entries_are = s.entries_are;
            right = s.right;
            same = s.same;
          }

    -- a call
    module _ (f : _) (is_call : u ≡ work.Call f) where
      at_call : Going w s.ground functions env t limit start left (Apply (ToCall f.number) values) s.stack s.kept objects
      at_call = subst (λ (k : _). Going w s.ground functions env t limit start left (Apply (work_of (env_of (objects ++ []) uenv.value.items) k) values) s.stack s.kept objects) is_call at_apply

      -- that tables answer
      module _ (x : Object) (table : is_among (answered_in w.definitions) f.number ≡ true) (right : IsCallValue w.definitions f.number values x) where
        table_step : StepOn w s.ground functions env t limit start left (Apply (ToCall f.number) values) s.stack s.kept objects at_call (x ∷ []) left (Give x) s.stack s.kept
        table_step = going_step w s.ground functions env t limit start left (Apply (ToCall f.number) values) s.stack s.kept objects at_call left 0 (x ∷ []) (Give x) s.stack s.kept (omega arith)
            (call_shut (IsIn at_call.walked.seen) Narrow w.definitions (answered_in w.definitions) functions at_call.depth f.number values x s.stack s.kept (or_first (is_among (answered_in w.definitions) f.number) (is_among functions f.number && is_kept s.kept (f.number, values)) table) right)

        pub table_crowded : (held : Held) → held.objects ≡ objects → HasNoRoomFor held x → IsEachOnce held.objects → IsCrowded w env t start held.limit
        table_crowded held e room once = going_no_room w s.ground functions env t limit start left (Apply (ToCall f.number) values) s.stack s.kept objects at_call held x table_step.met_seen.0 room once
            (subst (λ (zs : List Object). AreWithin start at_call.walked.seen zs) (sym e) at_call.within)

        pub table_next : (new : List Object) (id : Id) → IsIdOf new x id → AddsCellsOf x objects new → Narrow (object_at new id) → State w functions env t limit start left (focus.Give id) frames new entries
        table_next new id is adds n = record {
          focus = Give x;
          stack = s.stack;
          ground = s.ground;
          kept = s.kept;
          calls = s.calls;
          going = table_step.goes_on (subst Narrow is.1 n, tt) new (stays start at_call.walked.seen objects new x table_step.met_seen.0 adds at_call.within);
          focus_is = λ more. ap Give (stays_at new more id is.0 ∙ is.1);
          frames_are = still (λ all. frames_of all frames) s.stack objects new (grows_added x objects new adds) s.frames_are;
          entries_are = still (λ all. entries_of all entries) s.calls objects new (grows_added x objects new adds) s.entries_are;
          right = s.right;
          same = s.same;
        }

      module _ (table : is_among (answered_in w.definitions) f.number ≡ true) where
        abbrev the_answer : Object
        the_answer = answer_object objects f.number args.items

        answer_is : the_answer ≡ table_value f.number (get_or values 0 nil) (get_or values 1 nil) (get_or values 2 nil)
        answer_is =
            let a = at_once (λ all. object_at all (id_or_nil args.items 0)) (get_or values 0 nil) objects (id_stands objects args.items values 0 values_stand) in
            let b = at_once (λ all. object_at all (id_or_nil args.items 1)) (get_or values 1 nil) objects (id_stands objects args.items values 1 values_stand) in
            let c = at_once (λ all. object_at all (id_or_nil args.items 2)) (get_or values 2 nil) objects (id_stands objects args.items values 2 values_stand) in
            λ j. table_value f.number (a j) (b j) (c j)

        is_right_answer : IsCallValue w.definitions f.number values the_answer
        is_right_answer = subst (IsCallValue w.definitions f.number values) (sym answer_is) (tables_are_right w.definitions s.ground f.number table values)

        pub answered_crowded : (held : Held) → held.objects ≡ objects → HasNoRoomFor held the_answer → IsEachOnce held.objects → IsCrowded w env t start held.limit
        answered_crowded held e room once = table_crowded the_answer table is_right_answer held e room once

        pub answered_next : (new : List Object) (id : Id) → IsIdOf new the_answer id → AddsCellsOf the_answer objects new → Narrow (object_at new id) → State w functions env t limit start left (focus.Give id) frames new entries
        answered_next new id is adds n = table_next the_answer table is_right_answer new id is adds n

      -- that is kept
      module _ (v : Id) (among : is_among functions f.number ≡ true) (kept_as : IsKeptAs entries (record { function = f.number; arguments = args.items }) v) where
        abbrev the_call : Call
        the_call = record { function = f.number; arguments = args.items }

        abbrev the_value : Object
        the_value = object_at (objects ++ []) v

        place : (k : ℕ) × At entries k (the_call, v)
        place = place_of entries (the_call, v) kept_as

        entry_at : (more : List Object) → At s.calls place.0 (entry_of (objects ++ more) (the_call, v))
        entry_at more = subst (λ (es : List (CallMade × Object)). At es place.0 (entry_of (objects ++ more) (the_call, v))) (s.entries_are more) (map_at (entry_of (objects ++ more)) entries place.0 (the_call, v) place.1)

        value_stands : (more : List Object) → object_at (objects ++ more) v ≡ the_value
        value_stands more = ap (λ (e : CallMade × Object). e.1) (some_same (entry_of (objects ++ more) (the_call, v)) (entry_of (objects ++ []) (the_call, v)) (sym (entry_at more) ∙ entry_at []))

        pub kept_live : IsLive objects v
        kept_live = stable_live objects v the_value value_stands

        is_right : IsCallValue w.definitions f.number values the_value
        is_right = every_place (λ e. IsCallValue w.definitions e.0.0 e.0.1 e.1) s.calls place.0 (entry_of (objects ++ []) (the_call, v)) s.right (entry_at [])

        is_shut : stays_shut (answered_in w.definitions) functions f.number values s.kept ≡ true
        is_shut = or_second (is_among (answered_in w.definitions) f.number) (is_among functions f.number && is_kept s.kept (f.number, values)) (and_from (is_among functions f.number) (is_kept s.kept (f.number, values)) among
            (s.same (f.number, values) ∙ kept_at (map (λ e. e.0) s.calls) place.0 (f.number, values) (map_at (λ e. e.0) s.calls place.0 (entry_of (objects ++ []) (the_call, v)) (entry_at []))))

        pub kept_next : Narrow (object_at objects v) → State w functions env t limit start left (focus.Give v) frames objects entries
        kept_next n =
            let step = going_step w s.ground functions env t limit start left (Apply (ToCall f.number) values) s.stack s.kept objects at_call left 0 (the_value ∷ []) (Give the_value) s.stack s.kept (omega arith)
            (call_shut (IsIn at_call.walked.seen) Narrow w.definitions (answered_in w.definitions) functions at_call.depth f.number values the_value s.stack s.kept is_shut is_right) in record {
              focus = Give the_value;
              stack = s.stack;
              ground = s.ground;
              kept = s.kept;
              calls = s.calls;
              going = step.goes_on (subst Narrow (at_once (λ all. object_at all v) the_value objects value_stands) n, tt) objects at_call.within;
              focus_is = λ more. ap Give (value_stands more);
              frames_are = s.frames_are;
              entries_are = s.entries_are;
              right = s.right;
              same = s.same;
            }

      -- that is opened
      pub call_definition : (d : Definition) × (slice_get w.definitions f.number ≡ Some d)
      call_definition = call_is_there w.definitions (answered_in w.definitions) functions at_call.depth f.number values s.stack s.kept at_call.running.rest at_call.running.is

      pub call_there : f.number < length w.definitions
      call_there = below_at w.definitions f.number call_definition.0 call_definition.1

      open_state : (d : Definition) → (k : program.Focus) (frames' : List held.Frame) (keep : Option Call) (pushed : List Frame)
          → StepOn w s.ground functions env t limit start left (Apply (ToCall f.number) values) s.stack s.kept objects at_call [] left (Visit d.body (extended d.formals values [])) (s.stack ++ pushed) s.kept
          → ((more : List Object) → kept_frame (objects ++ more) keep ≡ pushed)
          → ((all : List Object) → IsNext all (record { focus = Visit d.body (extended d.formals (values_of all args.items) []); pushed = kept_frame all keep }) frames k frames') → State w functions env t limit start left k frames' objects entries
      open_state d k frames' keep pushed step e n = record {
        focus = Visit d.body (extended d.formals values []);
        stack = s.stack ++ pushed;
        ground = s.ground;
        kept = s.kept;
        calls = s.calls;
        going = step.goes_on tt objects at_call.within;
        focus_is = λ more. (n (objects ++ more)).focus ∙ ap (λ xs. Visit d.body (extended d.formals xs [])) (values_stand more);
        frames_are = λ more. (n (objects ++ more)).frames ∙ (λ j. s.frames_are more j ++ e more j);
        entries_are = s.entries_are;
        right = s.right;
        same = s.same;
      }

      pub opens_plain : is_among (answered_in w.definitions) f.number ≡ false → (d : Definition) → slice_get w.definitions f.number ≡ Some d → is_among functions f.number ≡ false → (k : program.Focus) (frames' : List held.Frame)
          → ((all : List Object) → IsNext all (record { focus = Visit d.body (extended d.formals (values_of all args.items) []); pushed = [] }) frames k frames') → State w functions env t limit start left k frames' objects entries
      opens_plain no_table d there among k frames' n =
          let shut : stays_shut (answered_in w.definitions) functions f.number values s.kept ≡ false = or_both (is_among (answered_in w.definitions) f.number) (is_among functions f.number && is_kept s.kept (f.number, values)) no_table (and_first (is_among functions f.number) (is_kept s.kept (f.number, values)) among) in
          open_state d k frames' None []
          (subst (λ (fs : List Frame). StepOn w s.ground functions env t limit start left (Apply (ToCall f.number) values) s.stack s.kept objects at_call [] left (Visit d.body (extended d.formals values [])) fs s.kept) (sym (append_none s.stack))
          (going_step w s.ground functions env t limit start left (Apply (ToCall f.number) values) s.stack s.kept objects at_call left 0 [] (Visit d.body (extended d.formals values [])) s.stack s.kept (omega arith)
          (call_enters (IsIn at_call.walked.seen) Narrow w.definitions (answered_in w.definitions) functions at_call.depth f.number values d s.stack s.kept shut there among)))
          (λ more. refl) n

      pub opens_kept : is_among (answered_in w.definitions) f.number ≡ false → (same_id : (a b : Id) → IsLive objects a → IsLive objects b → object_at objects a ≡ object_at objects b → a ≡ b) → (d : Definition) → slice_get w.definitions f.number ≡ Some d → is_among functions f.number ≡ true
          → (c : Call) → c ≡ record { function = f.number; arguments = args.items } → (IsKept entries (record { function = f.number; arguments = args.items }) → ⊥) → (k : program.Focus) (frames' : List held.Frame)
          → ((all : List Object) → IsNext all (record { focus = Visit d.body (extended d.formals (values_of all args.items) []); pushed = keep_of all c ∷ [] }) frames k frames') → State w functions env t limit start left k frames' objects entries
      opens_kept no_table same_id d there among c is_c absent k frames' n =
          let shut : stays_shut (answered_in w.definitions) functions f.number values s.kept ≡ false = or_both (is_among (answered_in w.definitions) f.number) (is_among functions f.number && is_kept s.kept (f.number, values)) no_table (and_second (is_among functions f.number) (is_kept s.kept (f.number, values)) (s.same (f.number, values) ∙ not_kept same_id absent)) in
          open_state d k frames' (Some c) (Keep f.number values ∷ [])
          (going_step w s.ground functions env t limit start left (Apply (ToCall f.number) values) s.stack s.kept objects at_call left 0 [] (Visit d.body (extended d.formals values [])) (s.stack ++ Keep f.number values ∷ []) s.kept (omega arith)
          (call_keeps (IsIn at_call.walked.seen) Narrow w.definitions (answered_in w.definitions) functions at_call.depth f.number values d s.stack s.kept shut there among))
          (λ more. ap (λ (g : Call). keep_of (objects ++ more) g ∷ []) is_c ∙ ap (λ xs. Keep f.number xs ∷ []) (values_stand more)) n where
            not_kept : ((a b : Id) → IsLive objects a → IsLive objects b → object_at objects a ≡ object_at objects b → a ≡ b) → (IsKept entries (record { function = f.number; arguments = args.items }) → ⊥) → is_kept (map (λ e. e.0) s.calls) (f.number, values) ≡ false
            not_kept same_id absent = not_true (is_kept (map (λ e. e.0) s.calls) (f.number, values)) (λ h.
                let k = kept_place (map (λ e. e.0) s.calls) (f.number, values) h in
                let e = map_back (λ e. e.0) s.calls k.0 (f.number, values) k.1 in
                let at : (more : List Object) → At (entries_of (objects ++ more) entries) k.0 e.0 = λ more. subst (λ (es : List (CallMade × Object)). At es k.0 e.0) (sym (s.entries_are more)) e.1.0 in
                let g = map_back (entry_of (objects ++ [])) entries k.0 e.0 (at []) in
                let stands : (more : List Object) → values_of (objects ++ more) g.0.0.arguments ≡ e.0.0.1 = λ more. ap (λ (z : CallMade × Object). z.0.1) (some_same _ _ (sym (map_at (entry_of (objects ++ more)) entries k.0 g.0 g.1.0) ∙ at more)) in
                let number : g.0.0.function ≡ f.number = ap (λ (z : CallMade × Object). z.0.0) g.1.1 ∙ ap (λ (z : CallMade). z.0) e.1.1 in
                let ids : g.0.0.arguments ≡ args.items = same_ids objects same_id g.0.0.arguments args.items (ids_live objects g.0.0.arguments e.0.0.1 stands) (ids_live objects args.items values values_stand)
                (at_once (λ all. values_of all g.0.0.arguments) e.0.0.1 objects stands ∙ (ap (λ (z : CallMade). z.1) e.1.1 ∙ sym (at_once (λ all. values_of all args.items) values objects values_stand))) in
                let c : At entries k.0 (record { function = f.number; arguments = args.items }, g.0.1) = subst (λ (z : Call). At entries k.0 (z, g.0.1)) (λ j. record { function = number j; arguments = ids j }) g.1.0 in
                absent (g.0.1, contains_at entries k.0 (record { function = f.number; arguments = args.items }, g.0.1) c))

      pub opens_known : is_among (answered_in w.definitions) f.number ≡ false → ((a b : Id) → IsLive objects a → IsLive objects b → object_at objects a ≡ object_at objects b → a ≡ b) → (d : Definition) → slice_get w.definitions f.number ≡ Some d → (keep : Option Call) → IsKnown functions entries (record { function = f.number; arguments = args.items }) (known.Opens keep)
          → (k : program.Focus) (frames' : List held.Frame) → ((all : List Object) → IsNext all (record { focus = Visit d.body (extended d.formals (values_of all args.items) []); pushed = kept_frame all keep }) frames k frames') → State w functions env t limit start left k frames' objects entries
      opens_known no_table same_id d there None h k frames' n = opens_plain no_table d there h k frames' n
      opens_known no_table same_id d there (Some c) h k frames' n = opens_kept no_table same_id d there h.0 c h.1.0 h.1.1 k frames' n
