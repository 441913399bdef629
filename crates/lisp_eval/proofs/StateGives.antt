-- The invariant of the evaluator's loop, where a value is there; its start and its end.
use Rattle.std.proofs.Common.{◌≡◌, ◌∙◌, ap, sym, refl, subst, ℕ, Bool, true, false, ◌||◌, List, [], ◌∷◌, ◌++◌, arith, Some, slice_get, inl, inr}
use Rattle.std.specs.Prelude.{map}
use Rattle.std.proofs.lemmas.List.Folds.{list_any-append}
use Rattle.gl_logic.specs.Object.{Object}
use Rattle.gl_logic.specs.Definition.{Definition}
use Rattle.gl_logic.specs.Every.{Every}
use Rattle.gl_logic.specs.Exp.{Exp}
use Rattle.gl_logic.specs.Evaluate.{evaluate, HasValue}
use Rattle.gl_logic.specs.Counts.{call_eq}
use Rattle.gl_logic.specs.IsGround.{AreGround}
use Rattle.gl_logic.specs.Walk.{CallMade, Walk, then, body_walk}
use Rattle.gl_logic.specs.WorldSeen.{WorldSeen}
use Rattle.gl_logic.proofs.MadeCalls.{every_append}
use Rattle.gl_logic.proofs.Optional.{then_inverted}
use Rattle.hons_arena.specs.declared.id.Id.{Id}
use Rattle.hons_arena.specs.Ids.{object_at, IsLive}
use Rattle.memo_tables.specs.Calls.{Call, IsKept}
use Rattle.lisp_eval.specs.Answers.{IsValueOf, FitMemos, IsRightEntry, IsNarrowCall}
use Rattle.lisp_eval.specs.CallValue.{IsCallValue}
use Rattle.lisp_eval.specs.Frames.{Frame, Keep, Focus, Visit, Give}
use Rattle.lisp_eval.specs.Kept.{KeepsCall, entry_of, entries_of}
use Rattle.lisp_eval.specs.MachineCalls.{HoldsSeen}
use Rattle.lisp_eval.specs.Moves.{Next, handed, handed_kept}
use Rattle.lisp_eval.specs.States.{values_of, frame_of, frames_of, focus_of, IsNext}
use Rattle.lisp_eval.specs.Threads.{is_kept}
use Rattle.lisp_eval.specs.Tables.{answered_in}
use Rattle.lisp_eval.specs.Within.{IsIn}
use Rattle.lisp_eval.specs.declared.frame.Focus as program
use Rattle.lisp_eval.specs.declared.frame.Focus.TheVariants as focus
use Rattle.lisp_eval.specs.declared.frame.Frame as held
use Rattle.lisp_eval.specs.declared.frame.Frame.TheVariants as frame
use Rattle.gl_logic.proofs.Calls.{every_at, call_equal_from}
use Rattle.lisp_eval.proofs.Cover.{IsFineCall}
use Rattle.lisp_eval.proofs.Environments.{frames_push}
use Rattle.lisp_eval.proofs.Going.{Narrow, Going, StepOn, going_step, going_start, going_done, going_holds}
use Rattle.lisp_eval.proofs.MovesGo.{handed_goes}
use Rattle.lisp_eval.proofs.Places.{At, place_of, map_at, kept_at}
use Rattle.lisp_eval.proofs.Running.{keeps_value}
use Rattle.lisp_eval.proofs.Standing.{stable_live, value_in, at_once, last_same}
use Rattle.lisp_eval.proofs.State.{State}

-- ---- calls that are fine
fine_narrow : (ds : List Definition) (c : CallMade) → IsFineCall ds Narrow c → IsNarrowCall ds c
fine_narrow ds c h n r e = let i = then_inverted (slice_get ds c.0) _ r e in h i.0 n r i.1.0 i.1.1

narrow_fine : (ds : List Definition) (c : CallMade) → IsNarrowCall ds c → IsFineCall ds Narrow c
narrow_fine ds c h d n r e q = h n r (ap (λ o. then o (λ k. Rattle.gl_logic.specs.Walk.walk ds n (Rattle.gl_logic.specs.Environment.extended k.formals c.1 []) k.body)) e ∙ q)

-- ---- lists
last_front : {A B : Type 0} (f : A → B) (xs : List A) (x : A) → map f (xs ++ x ∷ []) ≡ map f xs ++ f x ∷ []
last_front f [] x = refl
last_front f (y ∷ xs) x = ap (λ ys. f y ∷ ys) (last_front f xs x)

or_swap : (a b : Bool) → (a || (b || false)) ≡ (b || a)
or_swap true true = refl
or_swap true false = refl
or_swap false true = refl
or_swap false false = refl

or_held : (a b : Bool) → (a ≡ true → b ≡ true) → (a || b) ≡ b
or_held true b h = sym (h refl)
or_held false b h = refl

module _ (w : WorldSeen) (functions : List ℕ) (env : List (ℕ × Object)) (t : Exp) (limit : ℕ) (start : List Object) where
  -- ---- the start
  firsts_fine : (es : List (CallMade × Object)) → Every (IsRightEntry w.definitions) es → Every (IsFineCall w.definitions Narrow) (map (λ e. e.0) es)
  firsts_fine [] h = tt
  firsts_fine (e ∷ es) h = (narrow_fine w.definitions e.0 h.0.narrow, firsts_fine es h.1)

  firsts_right : (es : List (CallMade × Object)) → Every (IsRightEntry w.definitions) es → Every (λ e. IsCallValue w.definitions e.0.0 e.0.1 e.1) es
  firsts_right [] h = tt
  firsts_right (e ∷ es) h = (h.0.value, firsts_right es h.1)

  pub state_start : AreGround w.definitions → (now : program.Focus) (frames : List held.Frame) (entries : List (Call × Id)) → FitMemos w.definitions start entries → frames ≡ [] → (n : ℕ) (x : Object) → evaluate w.definitions n env t ≡ Some x
      → ((more : List Object) → focus_of (start ++ more) now ≡ Visit t env) → State w functions env t limit start limit now frames start entries
  state_start ground now frames entries fit none n x e stands = record {
    ground = ground;
    focus = Visit t env;
    stack = [];
    kept = map (λ k. k.0) fit.calls;
    calls = fit.calls;
    going = going_start w ground functions env t limit start n x (map (λ k. k.0) fit.calls) e (firsts_fine fit.calls fit.right);
    focus_is = stands;
    frames_are = λ more. ap (frames_of (start ++ more)) none;
    entries_are = fit.stand;
    right = firsts_right fit.calls fit.right;
    same = λ c. refl;
  }

  -- ---- a value is there
  module _ (left : ℕ) (id : Id) (frames : List held.Frame) (objects : List Object) (entries : List (Call × Id)) (s : State w functions env t limit start left (focus.Give id) frames objects entries) where
    abbrev given : Object
    given = object_at (objects ++ []) id

    id_stands_now : (more : List Object) → object_at (objects ++ more) id ≡ given
    id_stands_now more = ap value_in (s.focus_is more ∙ sym (s.focus_is []))

    pub give_live : IsLive objects id
    give_live = stable_live objects id given id_stands_now

    at_give : Going w s.ground functions env t limit start left (Give given) s.stack s.kept objects
    at_give = subst (λ (g : Focus). Going w s.ground functions env t limit start left g s.stack s.kept objects) (sym (s.focus_is [])) s.going

    -- the end
    fits : (es : List (CallMade × Object)) → Every (λ e. IsCallValue w.definitions e.0.0 e.0.1 e.1) es → ((c : CallMade) → is_kept (map (λ e. e.0) es) c ≡ true → IsFineCall w.definitions Narrow c) → Every (IsRightEntry w.definitions) es
    fits [] h g = tt
    fits (e ∷ es) h g = (record { value = h.0; narrow = fine_narrow w.definitions e.0 (g e.0 (kept_at (map (λ k. k.0) (e ∷ es)) 0 e.0 refl)) }, fits es h.1 (λ c k. g c (or_after (call_eq c e.0) (is_kept (map (λ k. k.0) es) c) k))) where
      or_after : (a b : Bool) → b ≡ true → (a || b) ≡ true
      or_after true b k = refl
      or_after false b k = k

    pub state_done : frames ≡ [] → IsValueOf w env t objects id × (FitMemos w.definitions objects entries × HoldsSeen w env t start objects)
    state_done none =
        let empty : s.stack ≡ [] = sym (s.frames_are []) ∙ ap (frames_of (objects ++ [])) none in
        let at_end : Going w s.ground functions env t limit start left (Give given) [] s.kept objects = subst (λ (fs : List Frame). Going w s.ground functions env t limit start left (Give given) fs s.kept objects) empty at_give in
        let d = going_done w s.ground functions env t limit start left given s.kept objects at_end in (
          record { live = give_live; value = subst (HasValue w.definitions env t) (sym (at_once (λ all. object_at all id) given objects id_stands_now)) d.value; narrow = d.narrow },
          (
            record { calls = s.calls; stand = s.entries_are; right = fits s.calls s.right (λ c k. every_at (IsFineCall w.definitions Narrow) s.kept c d.calls (s.same c ∙ k)) },
            going_holds w s.ground functions env t limit start left (Give given) [] s.kept objects at_end,
          ),
        )

    -- a frame takes the value
    module _ (rest : List held.Frame) (g : held.Frame) (popped : frames ≡ rest ++ g ∷ []) where
      abbrev below : List Frame
      below = frames_of (objects ++ []) rest

      abbrev last : Frame
      last = frame_of (objects ++ []) g

      pushed_are : (more : List Object) → frames_of (objects ++ more) frames ≡ frames_of (objects ++ more) rest ++ frame_of (objects ++ more) g ∷ []
      pushed_are more = frames_push (objects ++ more) rest frames g popped

      both_stand : (more : List Object) → (frames_of (objects ++ more) rest ≡ below) × (frame_of (objects ++ more) g ≡ last)
      both_stand more = last_same (frames_of (objects ++ more) rest) below (frame_of (objects ++ more) g) last (sym (pushed_are more) ∙ (s.frames_are more ∙ (sym (s.frames_are []) ∙ pushed_are [])))

      at_frame : Going w s.ground functions env t limit start left (Give given) (below ++ last ∷ []) s.kept objects
      at_frame = subst (λ (fs : List Frame). Going w s.ground functions env t limit start left (Give given) fs s.kept objects) (sym (s.frames_are []) ∙ pushed_are []) at_give

      step : StepOn w s.ground functions env t limit start left (Give given) (below ++ last ∷ []) s.kept objects at_frame [] left (handed last given).focus (below ++ (handed last given).pushed) (handed_kept last s.kept)
      step = going_step w s.ground functions env t limit start left (Give given) (below ++ last ∷ []) s.kept objects at_frame left 0 [] (handed last given).focus (below ++ (handed last given).pushed) (handed_kept last s.kept) (omega arith)
          (handed_goes (IsIn at_frame.walked.seen) Narrow w.definitions (answered_in w.definitions) functions at_frame.depth last given below s.kept)

      -- what is kept then
      pub record KeepsOn (entries' : List (Call × Id)) : Type 0 where
        pub calls : List (CallMade × Object)
        pub stand : (more : List Object) → entries_of (objects ++ more) entries' ≡ calls
        pub right : Every (λ e. IsCallValue w.definitions e.0.0 e.0.1 e.1) calls
        pub same : (c : CallMade) → is_kept (handed_kept last s.kept) c ≡ is_kept (map (λ e. e.0) calls) c

      keeps_same : (entries' : List (Call × Id)) → entries' ≡ entries → handed_kept last s.kept ≡ s.kept → KeepsOn entries'
      keeps_same entries' e k = record { calls = s.calls; stand = λ more. ap (entries_of (objects ++ more)) e ∙ s.entries_are more; right = s.right; same = λ c. ap (λ ks. is_kept ks c) k ∙ s.same c }

      pub hand_next : (entries' : List (Call × Id)) → KeepsOn entries' → (f : program.Focus) (frames' : List held.Frame)
          → ((more : List Object) → IsNext (objects ++ more) (handed (frame_of (objects ++ more) g) (object_at objects id)) rest f frames') → State w functions env t limit start left f frames' objects entries'
      hand_next entries' k f frames' n =
          let next : (more : List Object) → handed (frame_of (objects ++ more) g) (object_at objects id) ≡ handed last given = λ more j. handed ((both_stand more).1 j) (at_once (λ all. object_at all id) given objects id_stands_now j) in
          record {
            focus = (handed last given).focus;
            stack = below ++ (handed last given).pushed;
            ground = s.ground;
            kept = handed_kept last s.kept;
            calls = k.calls;
            going = step.goes_on tt objects at_frame.within;
            focus_is = λ more. (n more).focus ∙ ap (λ (m : Next). m.focus) (next more);
            frames_are = λ more. (n more).frames ∙ (λ j. (both_stand more).0 j ++ (next more j).pushed);
            entries_are = k.stand;
            right = k.right;
            same = k.same;
          }

    -- the call of a frame is kept
    module _ (rest : List held.Frame) (c : Call) (popped : frames ≡ rest ++ frame.Keep c ∷ []) where
      abbrev the_call : CallMade
      the_call = (c.function, values_of (objects ++ []) c.arguments)

      arguments_stand : (more : List Object) → values_of (objects ++ more) c.arguments ≡ values_of (objects ++ []) c.arguments
      arguments_stand more = ap kept_values (both_stand rest (frame.Keep c) popped more).1 where
        kept_values : Frame → List Object
        kept_values (Keep f xs) = xs
        kept_values _ = []

      is_value : IsCallValue w.definitions c.function (values_of (objects ++ []) c.arguments) given
      is_value =
          let i = at_frame rest (frame.Keep c) popped in
          keeps_value (IsIn i.walked.seen) Narrow w.definitions (answered_in w.definitions) functions i.depth (Rattle.lisp_eval.proofs.Going.run_of w s.ground functions env t limit start i.depth i.walked i.walks i.first) i.spent c.function (values_of (objects ++ []) c.arguments) given (below rest (frame.Keep c) popped) s.kept i.running

      keeps_more : (entries' : List (Call × Id)) → entries' ≡ entries ++ (c, id) ∷ [] → KeepsOn rest (frame.Keep c) popped entries'
      keeps_more entries' e = record {
        calls = s.calls ++ (the_call, given) ∷ [];
        stand = λ more. ap (entries_of (objects ++ more)) e ∙ (last_front (entry_of (objects ++ more)) entries (c, id) ∙ (λ j. s.entries_are more j ++ ((c.function, arguments_stand more j), id_stands_now more j) ∷ []));
        right = every_append (λ e. IsCallValue w.definitions e.0.0 e.0.1 e.1) s.calls ((the_call, given) ∷ []) s.right (is_value, tt);
        same = λ d. ap (λ b. call_eq d the_call || b) (s.same d) ∙ sym (ap (λ ks. is_kept ks d) (last_front (λ e. e.0) s.calls (the_call, given)) ∙ (list_any-append (call_eq d) (map (λ e. e.0) s.calls) (the_call ∷ []) ∙ or_swap (is_kept (map (λ e. e.0) s.calls) d) (call_eq d the_call)));
      }

      keeps_held : (entries' : List (Call × Id)) → IsKept entries c → entries' ≡ entries → KeepsOn rest (frame.Keep c) popped entries'
      keeps_held entries' kept e =
          let p = place_of entries (c, kept.0) kept.1 in
          let at : At s.calls p.0 (entry_of (objects ++ []) (c, kept.0)) = subst (λ (es : List (CallMade × Object)). At es p.0 (entry_of (objects ++ []) (c, kept.0))) (s.entries_are []) (map_at (entry_of (objects ++ [])) entries p.0 (c, kept.0) p.1) in
          let is : is_kept (map (λ e. e.0) s.calls) the_call ≡ true = kept_at (map (λ e. e.0) s.calls) p.0 the_call (map_at (λ e. e.0) s.calls p.0 (entry_of (objects ++ []) (c, kept.0)) at) in
          record {
            calls = s.calls;
            stand = λ more. ap (entries_of (objects ++ more)) e ∙ s.entries_are more;
            right = s.right;
            same = λ d. ap (λ b. call_eq d the_call || b) (s.same d) ∙ or_held (call_eq d the_call) (is_kept (map (λ e. e.0) s.calls) d) (λ q. subst (λ (z : CallMade). is_kept (map (λ e. e.0) s.calls) z ≡ true) (sym (call_equal_from d the_call q)) is);
          }

      pub keeps_call : (entries' : List (Call × Id)) → KeepsCall (frame.Keep c) id entries entries' → KeepsOn rest (frame.Keep c) popped entries'
      keeps_call entries' (inl e) = keeps_more entries' e
      keeps_call entries' (inr h) = keeps_held entries' h.0 h.1

    -- whatever frame it is
    pub keeps_on : (rest : List held.Frame) (g : held.Frame) (popped : frames ≡ rest ++ g ∷ []) (entries' : List (Call × Id)) → KeepsCall g id entries entries' → KeepsOn rest g popped entries'
    keeps_on rest (frame.Branch a b e) popped entries' k = keeps_same rest (frame.Branch a b e) popped entries' k refl
    keeps_on rest (frame.Arguments u done ts e) popped entries' k = keeps_same rest (frame.Arguments u done ts e) popped entries' k refl
    keeps_on rest (frame.Keep c) popped entries' k = keeps_call rest c popped entries' k
