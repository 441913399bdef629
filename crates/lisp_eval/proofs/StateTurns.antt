-- The turns of the evaluator's loop keep its invariant, take it nearer to its end, or end it.
use Rattle.std.proofs.Common.{◌≡◌, ◌∙◌, ap, sym, refl, subst, ℕ, ◌+◌, ◌*◌, ◌-◌, ◌<◌, ◌≤◌, arith, true, false, List, [], ◌∷◌, ◌++◌, length, length-append, Result, Ok, Err, inl, inr}
use Rattle.gl_logic.specs.Counts.{is_among}
use Rattle.gl_logic.specs.Definition.{Definition}
use Rattle.gl_logic.specs.Every.{Every}
use Rattle.gl_logic.specs.Exp.{Exp, Var, Const, If, Prim, Call, Let}
use Rattle.gl_logic.specs.Object.{Object}
use Rattle.gl_logic.specs.TermOf.{term_of}
use Rattle.gl_logic.specs.WorldSeen.{WorldSeen}
use Rattle.fast_alists.proofs.Agreeing.{tables_stay}
use Rattle.fast_alists.specs.Makes.{Makes}
use Rattle.fast_alists.specs.Tables.{Agree}
use Rattle.fast_alists.specs.declared.fault.AlistFault.{AlistFault}
use Rattle.fast_alists.specs.declared.fault.AlistFault.TheVariants as alist_fault
use Rattle.hons_arena.specs.Held.{Held, IsWhole}
use Rattle.hons_arena.specs.Ids.{object_at, IsLive}
use Rattle.hons_arena.specs.declared.id.Id.{Id}
use Rattle.memo_tables.specs.Calls as memo
use Rattle.lisp_eval.specs.Answers.{HasGrown}
use Rattle.lisp_eval.specs.Attempts.{Alists}
use Rattle.lisp_eval.specs.Bindings.{id_or_nil}
use Rattle.lisp_eval.specs.Frames as spec
use Rattle.lisp_eval.specs.Gives.{Gives}
use Rattle.lisp_eval.specs.Kept.{KeepsCall}
use Rattle.lisp_eval.specs.Moves.{entered, handed}
use Rattle.lisp_eval.specs.Nexts.{inner_next}
use Rattle.lisp_eval.specs.Sights.{Sees, Adds, Lacks}
use Rattle.lisp_eval.specs.States.{env_of, frame_of, frames_of, focus_of, IsNext}
use Rattle.lisp_eval.specs.Tables.{answered_in, answer_object}
use Rattle.lisp_eval.specs.Turns.{prim_on, halt_of_primitive, halt_of_table, HaltsForCells, FocusReached, VisitGoes, VisitTells, CallGoes, IsHaltOf, TurnsTell}
use Rattle.lisp_eval.specs.declared.calls.Known.TheVariants as known
use Rattle.lisp_eval.specs.declared.frame.Binding.{Binding}
use Rattle.lisp_eval.specs.declared.frame.Focus as program
use Rattle.lisp_eval.specs.declared.frame.Focus.TheVariants as focus
use Rattle.lisp_eval.specs.declared.frame.Frame as held
use Rattle.lisp_eval.specs.declared.frame.Work.TheVariants as work
use Rattle.lisp_eval.specs.declared.halt.Cause.TheVariants as cause
use Rattle.lisp_eval.specs.declared.halt.Halt.{Halt}
use Rattle.lisp_eval.specs.declared.halt.Halt.TheVariants as halt
use Rattle.lisp_eval.specs.declared.primitives.PrimFault.{PrimFault}
use Rattle.lisp_eval.specs.declared.primitives.PrimFault.TheVariants as prim_fault
use Rattle.lisp_eval.proofs.Grown.{crowded_at, grown_more, grown_on, lacks_itself}
use Rattle.lisp_eval.proofs.State.{State, visit_dear, visit_live, visit_next}
use Rattle.lisp_eval.proofs.StateAdvance.{advance_found, advance_leads, advance_stuck, advance_crowded}
use Rattle.lisp_eval.proofs.StateApplies.{arg_live, answered_crowded, answered_next, prim_next, prim_wide, prim_crowded, let_next, kept_live, kept_next, call_there, call_definition, opens_known}
use Rattle.lisp_eval.proofs.StateGives.{give_live, state_done, hand_next, keeps_on}
use Rattle.lisp_eval.proofs.Turns.{turns_of, begun_few, opens_smaller}
use Rattle.lisp_eval.proofs.WholeNarrow.{whole_narrow}

-- what the loop may still do: five turns for a visit, and those of its focus and its frames
abbrev pub turns_left : ℕ → program.Focus → List held.Frame → ℕ
turns_left left f frames = 5 * left + turns_of (focus_of [] f) + 2 * length (frames_of [] frames)

entered_few : (t : Exp) (env : List (ℕ × Object)) → turns_of (entered t env).focus + 2 * length (entered t env).pushed ≤ 3
entered_few (Var v) env = omega arith
entered_few (Const x) env = omega arith
entered_few (If t a b) env = omega arith
entered_few (Prim p ts) env = begun_few (spec.ToPrim p) [] ts env
entered_few (Call f ts) env = begun_few (spec.ToCall f) [] ts env
entered_few (Let vs ts b) env = begun_few (spec.ToLet vs b env) [] ts env

-- ---- the measure falls
turns_at : (now next : program.Focus) → now ≡ next → turns_of (focus_of [] now) ≡ turns_of (focus_of [] next)
turns_at now next e = ap (λ (g : program.Focus). turns_of (focus_of [] g)) e

count_at : (frames stack : List held.Frame) → stack ≡ frames → length (frames_of [] stack) ≡ length (frames_of [] frames)
count_at frames stack e = ap (λ (fs : List held.Frame). length (frames_of [] fs)) e

pub smaller_same : (left : ℕ) (now : program.Focus) (frames : List held.Frame) (o p : program.Focus) (stack others : List held.Frame) → p ≡ o → others ≡ stack → turns_left left o stack < turns_left left now frames → turns_left left p others < turns_left left now frames
smaller_same left now frames o p stack others e q h = omega (arith, h, turns_at p o e, count_at stack others q)

pub given_smaller : (left : ℕ) (u : _) (args : _) (uenv : _) (now : program.Focus) → now ≡ focus.Apply u args uenv → (frames stack : List held.Frame) → stack ≡ frames → (o : program.Focus) (id : Id) → o ≡ focus.Give id → turns_left left o stack < turns_left left now frames
given_smaller left u args uenv now is frames stack same o id e = omega (arith, turns_at now (focus.Apply u args uenv) is, turns_at o (focus.Give id) e, count_at frames stack same)

module _ (definitions : List Definition) (functions : List ℕ) (u : _) (uenv : _) (left rest : ℕ) (frames stack : List held.Frame) (old new : Held) (now : program.Focus) (is : now ≡ focus.Visit u uenv) where
  reached_fewer : (f : program.Focus) → FocusReached definitions functions (env_of old.objects uenv.value.items) (term_of u.now) left new.objects rest f → (rest < left) × (turns_of (focus_of [] f) ≤ 2)
  reached_fewer (focus.Give id) g = (g.fewer, omega arith)
  reached_fewer (focus.Visit v inner) g = (g.way.fewer, omega arith)
  reached_fewer (focus.Apply k xs e) g = absurd g

  pub visit_smaller : (f : program.Focus) → (left ≡ 0 → ⊥) → VisitGoes definitions functions uenv.value.items (term_of u.now) left rest old new frames stack f → turns_left rest f stack < turns_left left now frames
  visit_smaller f some (inl h) = let k = reached_fewer f h.1 in omega (arith, k.0, k.1, count_at frames stack h.0, turns_at now (focus.Visit u uenv) is)
  visit_smaller f some (inr h) =
      let n = h.1.1 [] in
      let next = entered (term_of u.now) (env_of [] uenv.value.items) in
      let a : turns_of (focus_of [] f) ≡ turns_of next.focus = ap turns_of n.focus in
      let b : length (frames_of [] stack) ≡ length (frames_of [] frames) + length next.pushed = ap length n.frames ∙ length-append (frames_of [] frames) next.pushed in
      let few = entered_few (term_of u.now) (env_of [] uenv.value.items) in omega (arith, some, h.1.0, a, b, few, turns_at now (focus.Visit u uenv) is)

module _ (w : WorldSeen) (functions : List ℕ) (env : List Binding) (t : Exp) (limit : ℕ) (first : Held) where
  abbrev At : ℕ → program.Focus → List held.Frame → List Object → List (memo.Call × Id) → Type 0
  At = State w functions (env_of first.objects env) t limit first.objects

  abbrev Halts : Halt → Type 0
  Halts = IsHaltOf w functions (env_of first.objects env) t limit first

  abbrev Tells : Held → Alists → List (memo.Call × Id) → Result Id Halt → Type 0
  Tells = TurnsTell w functions env t limit first

  -- what holds between two turns
  pub record Stands (left : ℕ) (f : program.Focus) (frames : List held.Frame) (now : Held) (tables : Alists) (entries : List (memo.Call × Id)) : Type 0 where
    pub state : At left f frames now.objects entries
    pub grown : HasGrown first.objects now.objects
    pub whole : IsWhole now
    pub agree : Agree now.objects tables
    pub room : now.limit ≡ first.limit

  pub stands_same : (left : ℕ) (f g : program.Focus) (frames stack : List held.Frame) (now new : Held) (tables others : Alists) (entries : List (memo.Call × Id)) → g ≡ f → stack ≡ frames → new ≡ now → others ≡ tables → Stands left f frames now tables entries → Stands left g stack new others entries
  stands_same left f g frames stack now new tables others entries e q r p h =
      subst (λ (x : program.Focus). Stands left x stack new others entries) (sym e) (subst (λ (x : List held.Frame). Stands left f x new others entries) (sym q) (subst (λ (x : Held). Stands left f frames x others entries) (sym r) (subst (λ (x : Alists). Stands left f frames now x entries) (sym p) h)))

  -- the loop ends without a value
  halted : (new : Held) (tables : Alists) (entries : List (memo.Call × Id)) (answer : Result Id Halt) (h : Halt) → answer ≡ Err h → Halts h → HasGrown first.objects new.objects → new.limit ≡ first.limit → Tells new tables entries answer
  halted new tables entries answer h e ends grown room = subst (Tells new tables entries) (sym e) (record { ends = ends; grown = grown; room = room })

  -- ---- a term is visited
  module _ (left : ℕ) (now : program.Focus) (u : _) (uenv : _) (is : now ≡ focus.Visit u uenv) (frames : List held.Frame) (old : Held) (tables : Alists) (entries : List (memo.Call × Id)) (s : Stands left now frames old tables entries) where
    at_term : At left (focus.Visit u uenv) frames old.objects entries
    at_term = subst (λ (f : program.Focus). At left f frames old.objects entries) is s.state

    pub no_visits : left ≡ 0 → Tells old tables entries (Err (halt.Stop cause.Steps))
    no_visits z = record { ends = visit_dear w functions (env_of first.objects env) t limit first.objects left u uenv frames old.objects entries at_term z; grown = s.grown; room = s.room }

    pub env_live : Every (λ b. IsLive old.objects b.value) uenv.value.items
    env_live = visit_live w functions (env_of first.objects env) t limit first.objects left u uenv frames old.objects entries at_term uenv.value.items refl

    module _ (rest : ℕ) (stack : List held.Frame) (new : Held) (others : Alists) (agree : Agree new.objects others) where
      abbrev Visits : Result program.Focus Halt → Type 0
      Visits = VisitTells w.definitions functions uenv.value.items (term_of u.now) left rest old new frames stack

      abbrev Adding : Type 0
      Adding = Adds (Sees w.definitions functions (env_of old.objects uenv.value.items) (term_of u.now)) old new

      reached : Adding → (f : program.Focus) → FocusReached w.definitions functions (env_of old.objects uenv.value.items) (term_of u.now) left new.objects rest f → At rest f frames new.objects entries
      reached adds (focus.Give id) g = advance_found w functions (env_of first.objects env) t limit first.objects left u uenv frames old.objects entries at_term old new refl adds g.value (left - rest) rest g.gives (omega (arith, g.fewer)) id g.is
      reached adds (focus.Visit v inner) g = advance_leads w functions (env_of first.objects env) t limit first.objects left u uenv frames old.objects entries at_term old new refl adds v inner (left - rest) rest g.way.leads (omega (arith, g.way.fewer)) g.live
      reached adds (focus.Apply k xs e) g = absurd g

      goes : (left ≡ 0 → ⊥) → Adding → (f : program.Focus) → VisitGoes w.definitions functions uenv.value.items (term_of u.now) left rest old new frames stack f → At rest f stack new.objects entries
      goes some adds f (inl h) = subst (λ (fs : List held.Frame). At rest f fs new.objects entries) (sym h.0) (reached adds f h.1)
      goes some adds f (inr h) = subst (λ (n : ℕ). At n f stack new.objects entries) (sym h.1.0)
          (visit_next w functions (env_of first.objects env) t limit first.objects left u uenv frames new.objects entries (advance_stuck w functions (env_of first.objects env) t limit first.objects left u uenv frames old.objects entries at_term old new refl adds) some h.0 f stack h.1.1)

      halts : Adding → (h : Halt) → HaltsForCells (Lacks (Sees w.definitions functions (env_of old.objects uenv.value.items) (term_of u.now)) new) h → new.limit ≡ first.limit → Halts h
      halts adds (halt.Stop cause.Cells) lacks e = crowded_at w (env_of first.objects env) t first.objects new.limit first.limit e (advance_crowded w functions (env_of first.objects env) t limit first.objects left u uenv frames old.objects entries at_term old new refl adds lacks)
      halts adds (halt.Stop cause.Width) lacks e = absurd lacks
      halts adds (halt.Stop cause.Steps) lacks e = absurd lacks
      halts adds halt.Memory lacks e = tt

      pub visited : (left ≡ 0 → ⊥) → (f : program.Focus) → Visits (Ok f) → Stands rest f stack new others entries
      visited some f h = record {
        state = goes some h.adds f h.ends;
        grown = grown_on first.objects old.objects new.objects s.grown h.adds.grown;
        whole = h.adds.whole;
        agree = agree;
        room = h.adds.limit ∙ s.room;
      }

      pub visit_halted : (answer : Result Id Halt) (h : Halt) → answer ≡ Err h → Visits (Err h) → Tells new others entries answer
      visit_halted answer h e v = halted new others entries answer h e (halts v.adds h v.ends (v.adds.limit ∙ s.room)) (grown_on first.objects old.objects new.objects s.grown v.adds.grown) (v.adds.limit ∙ s.room)

  -- ---- work is done
  module _ (left : ℕ) (now : program.Focus) (u : _) (args : _) (uenv : _) (is : now ≡ focus.Apply u args uenv) (frames : List held.Frame) (old : Held) (tables : Alists) (entries : List (memo.Call × Id)) (s : Stands left now frames old tables entries) where
    at_work : At left (focus.Apply u args uenv) frames old.objects entries
    at_work = subst (λ (f : program.Focus). At left f frames old.objects entries) is s.state

    pub value_live : (xs : List Id) → xs ≡ args.items → (i : ℕ) → IsLive old.objects (id_or_nil xs i)
    value_live xs e i = subst (λ (ys : List Id). IsLive old.objects (id_or_nil ys i)) (sym e) (arg_live w functions (env_of first.objects env) t limit first.objects left u args uenv frames old.objects entries at_work i)

    -- a primitive
    module _ (p : _) (is_prim : u ≡ work.Prim p) (xs : List Id) (same : xs ≡ args.items) (new : Held) where
      pub primitive_given : (id : Id) → Gives old new (prim_on old.objects p xs) (Ok id) → Stands left (focus.Give id) frames new tables entries
      primitive_given id given =
          let g = subst (λ (ys : List Id). Gives old new (prim_on old.objects p ys) (Ok id)) same given in
          record {
            state = prim_next w functions (env_of first.objects env) t limit first.objects left u args uenv frames old.objects entries at_work p is_prim new.objects id g.id g.objects (whole_narrow new (g.whole s.whole) id g.id.0);
            grown = grown_more (prim_on old.objects p args.items) first.objects old.objects new.objects s.grown g.objects;
            whole = g.whole s.whole;
            agree = tables_stay (prim_on old.objects p args.items) old.objects new.objects g.objects tables s.agree;
            room = g.limit ∙ s.room;
          }

      primitive_halts : (e : PrimFault) → Gives old new (prim_on old.objects p args.items) (Err e) → Halts (halt_of_primitive e)
      primitive_halts prim_fault.Wide g = prim_wide w functions (env_of first.objects env) t limit first.objects left u args uenv frames old.objects entries at_work p is_prim (g.wide refl)
      primitive_halts prim_fault.Full g = crowded_at w (env_of first.objects env) t first.objects old.limit first.limit s.room
          (prim_crowded w functions (env_of first.objects env) t limit first.objects left u args uenv frames old.objects entries at_work p is_prim old refl (lacks_itself old (prim_on old.objects p args.items) (g.cell refl) (g.full refl)) s.whole.different)

      pub primitive_halted : (answer : Result Id Halt) (e : PrimFault) → answer ≡ Err (halt_of_primitive e) → Gives old new (prim_on old.objects p xs) (Err e) → Tells new tables entries answer
      primitive_halted answer e q given =
          let g = subst (λ (ys : List Id). Gives old new (prim_on old.objects p ys) (Err e)) same given in
          halted new tables entries answer (halt_of_primitive e) q (primitive_halts e g) (grown_more (prim_on old.objects p args.items) first.objects old.objects new.objects s.grown g.objects) (g.limit ∙ s.room)

    module _ (f : _) (is_call : u ≡ work.Call f) where
      pub function_there : f.number < length w.definitions
      function_there = call_there w functions (env_of first.objects env) t limit first.objects left u args uenv frames old.objects entries at_work f is_call

      -- that tables answer
      module _ (table : is_among (answered_in w.definitions) f.number ≡ true) (xs : List Id) (same : xs ≡ args.items) (new : Held) (others : Alists) where
        abbrev MakesOf : List Id → Result Id AlistFault → Type 0
        MakesOf ys r = Makes old new (answer_object old.objects f.number ys) r

        pub table_given : IsWhole new → Agree new.objects others → (id : Id) → MakesOf xs (Ok id) → Stands left (focus.Give id) frames new others entries
        table_given whole agree id given =
            let g = subst (λ (ys : List Id). MakesOf ys (Ok id)) same given in
            record {
              state = answered_next w functions (env_of first.objects env) t limit first.objects left u args uenv frames old.objects entries at_work f is_call table new.objects id g.id g.objects (whole_narrow new whole id g.id.0);
              grown = grown_more (answer_object old.objects f.number args.items) first.objects old.objects new.objects s.grown g.objects;
              whole = whole;
              agree = agree;
              room = g.limit ∙ s.room;
            }

        table_halts : (e : AlistFault) → MakesOf args.items (Err e) → Halts (halt_of_table e)
        table_halts alist_fault.Full g = crowded_at w (env_of first.objects env) t first.objects old.limit first.limit s.room
            (answered_crowded w functions (env_of first.objects env) t limit first.objects left u args uenv frames old.objects entries at_work f is_call table old refl (g.full refl) s.whole.different)
        table_halts alist_fault.Memory g = tt

        pub table_halted : (answer : Result Id Halt) (e : AlistFault) → answer ≡ Err (halt_of_table e) → MakesOf xs (Err e) → Tells new others entries answer
        table_halted answer e q given =
            let g = subst (λ (ys : List Id). MakesOf ys (Err e)) same given in
            halted new others entries answer (halt_of_table e) q (table_halts e g) (grown_more (answer_object old.objects f.number args.items) first.objects old.objects new.objects s.grown g.objects) (g.limit ∙ s.room)

      -- any other call
      module _ (other : is_among (answered_in w.definitions) f.number ≡ false) (o : program.Focus) (stack : List held.Frame) where
        abbrev Goes : Type 0
        Goes = CallGoes w.definitions functions (record { function = f.number; arguments = args.items }) entries frames stack o

        call_at : Goes → At left o stack old.objects entries
        call_at (known.Value id, (h, g)) =
            let live = kept_live w functions (env_of first.objects env) t limit first.objects left u args uenv frames old.objects entries at_work f is_call id h.0 h.1 in
            let here = kept_next w functions (env_of first.objects env) t limit first.objects left u args uenv frames old.objects entries at_work f is_call id h.0 h.1 (whole_narrow old s.whole id live) in
            subst (λ (fs : List held.Frame). At left o fs old.objects entries) (sym g.1) (subst (λ (p : program.Focus). At left p frames old.objects entries) (sym g.0) here)
        call_at (known.Opens keep, (h, n)) =
            let d = call_definition w functions (env_of first.objects env) t limit first.objects left u args uenv frames old.objects entries at_work f is_call in
            opens_known w functions (env_of first.objects env) t limit first.objects left u args uenv frames old.objects entries at_work f is_call other s.whole.ids d.0 d.1 keep h o stack (λ all. n all d.0 d.1)

        pub call_goes : Goes → Stands left o stack old tables entries
        call_goes h = record { state = call_at h; grown = s.grown; whole = s.whole; agree = s.agree; room = s.room }

        pub call_smaller : Goes → turns_left left o stack < turns_left left now frames
        call_smaller (known.Value id, (h, g)) = given_smaller left u args uenv now is frames stack g.1 o id g.0
        call_smaller (known.Opens keep, (h, n)) =
            let d = call_definition w functions (env_of first.objects env) t limit first.objects left u args uenv frames old.objects entries at_work f is_call in
            opens_smaller left u args uenv now is keep frames o stack d.0.body _ (n [] d.0 d.1)

    -- a `let`
    pub let_goes : (names : _) (body : _) → u ≡ work.Let names body → (o : program.Focus) → ((all : List Object) (fs : List held.Frame) → IsNext all (inner_next all names.now (term_of body.now) args.items uenv.value.items) fs o fs) → Stands left o frames old tables entries
    let_goes names body e o n = record { state = let_next w functions (env_of first.objects env) t limit first.objects left u args uenv frames old.objects entries at_work names body e o n; grown = s.grown; whole = s.whole; agree = s.agree; room = s.room }

  -- ---- a value is there
  module _ (left : ℕ) (now : program.Focus) (id : Id) (is : now ≡ focus.Give id) (frames : List held.Frame) (old : Held) (tables : Alists) (entries : List (memo.Call × Id)) (s : Stands left now frames old tables entries) where
    at_value : At left (focus.Give id) frames old.objects entries
    at_value = subst (λ (f : program.Focus). At left f frames old.objects entries) is s.state

    pub given_live : IsLive old.objects id
    given_live = give_live w functions (env_of first.objects env) t limit first.objects left id frames old.objects entries at_value

    pub turns_end : frames ≡ [] → Tells old tables entries (Ok id)
    turns_end none =
        let done = state_done w functions (env_of first.objects env) t limit first.objects left id frames old.objects entries at_value none in
        record { ends = record { value = done.0; memos = done.1.0; cells = done.1.1; agree = s.agree }; grown = s.grown; room = s.room }

    pub handed_on : (rest : List held.Frame) (g : held.Frame) (popped : frames ≡ rest ++ g ∷ []) (later : List (memo.Call × Id)) → KeepsCall g id entries later → (o : program.Focus) (stack : List held.Frame)
        → ((more : List Object) → IsNext (old.objects ++ more) (handed (frame_of (old.objects ++ more) g) (object_at old.objects id)) rest o stack) → Stands left o stack old tables later
    handed_on rest g popped later keeps o stack n =
        let k = keeps_on w functions (env_of first.objects env) t limit first.objects left id frames old.objects entries at_value rest g popped later keeps in
        record {
          state = hand_next w functions (env_of first.objects env) t limit first.objects left id frames old.objects entries at_value rest g popped later k o stack n;
          grown = s.grown;
          whole = s.whole;
          agree = s.agree;
          room = s.room;
        }
