-- Evaluations that go on without frames, in arenas that grow.
use Rattle.std.proofs.Common.{Bool, cond, Bor, pos, ◌≡◌, ◌∙◌, ap, sym, refl, subst, ℕ, zero, suc, ◌+◌, ◌-◌, ◌<◌, ◌≤◌, List, [], ◌∷◌, ◌++◌, length, drop, arith, get_or, take, slice_get, Some, Result, Ok, Err, IfOk, IsErrOf, append_assoc}
use Rattle.std.proofs.lemmas.List.{take_all}
use Rattle.gl_logic.specs.Definition.{Definition}
use Rattle.gl_logic.specs.Environment.{bound, extended}
use Rattle.gl_logic.specs.Every.{Every}
use Rattle.gl_logic.specs.Exp.{Exp, Exps, If, Call, Last, More}
use Rattle.gl_logic.specs.Object.{Object}
use Rattle.gl_logic.specs.ObjectEq.{is_nil}
use Rattle.gl_logic.specs.TermOf.{term_of}
use Rattle.gl_logic.specs.declared.term.Term.{Term}
use Rattle.gl_logic.proofs.MadeCalls.{every_append}
use Rattle.gl_logic.proofs.Optional.{none_some, some_same}
use Rattle.hons_arena.specs.declared.id.Full.{Full}
use Rattle.hons_arena.specs.declared.id.Id.{Id}
use Rattle.hons_arena.specs.Held.{Held, IsWhole, Places}
use Rattle.hons_arena.specs.Ids.{object_at, IsLive}
use Rattle.lisp_eval.specs.Frameless.{AreBound, BindsFound, HasLocals, AreLiveLocals, AreEntered, EntersLocals, GoesOn, GoesInto, StepTells, AdvanceTells}
use Rattle.lisp_eval.specs.Answers.{HasGrown}
use Rattle.lisp_eval.specs.Attempts.{Alists, Tells}
use Rattle.lisp_eval.specs.Directs.{GivesAtOnce, GiveAtOnce, IsFound, OpensAtOnce}
use Rattle.lisp_eval.specs.Leads.{LeadsTo}
use Rattle.lisp_eval.specs.Outside.{value_object, IsLiveValue, locals_of}
use Rattle.lisp_eval.specs.Sights.{Sees, SeeAll, Adds, Lacks}
use Rattle.lisp_eval.specs.States.{env_of}
use Rattle.lisp_eval.specs.Within.{IsIn}
use Rattle.lisp_eval.specs.declared.frameless.Reached.{Reached}
use Rattle.lisp_eval.specs.declared.frameless.Reached.TheVariants as reached
use Rattle.lisp_eval.specs.declared.frameless.Step.{Step}
use Rattle.lisp_eval.specs.declared.frameless.Step.TheVariants as step
use Rattle.lisp_eval.specs.declared.attempt.Found.{Found}
use Rattle.lisp_eval.specs.declared.attempt.Stop.{Stop}
use Rattle.lisp_eval.specs.declared.attempt.Stop.TheVariants as stop
use Rattle.lisp_eval.specs.declared.frame.Binding.{Binding}
use Rattle.lisp_eval.specs.declared.value.Local.{Local}
use Rattle.lisp_eval.specs.declared.value.Value.TheVariants as value
use Rattle.lisp_eval.proofs.Directly.{none_give, more_give}
use Rattle.lisp_eval.proofs.Entering.{value_grown, locals_grown, env_grown}
use Rattle.lisp_eval.proofs.Leads.{leads_if, leads_call, leads_on, leads_sees, gives_leads}
use Rattle.lisp_eval.proofs.Sights.{adds_none, adds_on, adds_by, adds_cells, lacks_by, lacks_cell, first_seen, rest_seen, found_value_seen, arguments_seen, if_sees_test, call_sees_parts}

-- ---- of lists
none_more : {A : Type 0} (xs : List A) → xs ≡ xs ++ []
none_more [] = refl
none_more (x ∷ xs) = ap (λ ys. x ∷ ys) (none_more xs)

pub nothing_left : {A : Type 0} (xs : List A) (i : ℕ) → length xs ≤ i → drop i xs ≡ []
nothing_left [] zero h = refl
nothing_left [] (suc i) h = refl
nothing_left (x ∷ xs) zero h = absurd (omega (arith, h))
nothing_left (x ∷ xs) (suc i) h = nothing_left xs i (omega (arith, h))

pub first_left : {A : Type 0} (xs : List A) (i : ℕ) (x : A) → slice_get xs i ≡ Some x → drop i xs ≡ x ∷ drop (i + 1) xs
first_left [] i x e = none_some x e
first_left (y ∷ xs) zero x e = ap (λ z. z ∷ xs) (some_same y x e)
first_left (y ∷ xs) (suc i) x e = let z : suc (i + 1) ≡ suc i + 1 = omega arith in first_left xs i x e ∙ ap (λ n. x ∷ drop n (y ∷ xs)) z

pub first_apart : {A : Type 0} (xs : List A) (x : A) → 0 < length xs → x ≡ get_or xs 0 x → xs ≡ x ∷ take (length xs - 1) (drop 1 xs)
first_apart [] x h e = absurd (omega (arith, h))
first_apart (y ∷ xs) x h e =
    let z : length xs ≡ suc (length xs) - 1 = omega arith in λ i. sym e i ∷ (sym (take_all (length xs) xs (omega arith)) ∙ ap (λ n. take n xs) z) i

-- the first local of some
abbrev pub first_of : List Local → Local
first_of locals = get_or locals 0 (record { name = record { number = 0 }; value = value.Int (pos 0) })

pub first_of_apart : (locals : List Local) → 0 < length locals → locals ≡ first_of locals ∷ take (length locals - 1) (drop 1 locals)
first_of_apart [] h = absurd (omega (arith, h))
first_of_apart (l ∷ locals) h = first_apart (l ∷ locals) l h refl

pub later_length : {A : Type 0} (xs : List A) → 0 < length xs → length (take (length xs - 1) (drop 1 xs)) + 1 ≡ length xs
later_length [] h = absurd (omega (arith, h))
later_length (y ∷ xs) h =
    let z : suc (length xs) - 1 ≡ length xs = omega arith in
    let e = ap length (ap (λ n. take n xs) z ∙ take_all (length xs) xs (omega arith)) in
    omega (arith, e)

every_map : {A : Type 0} (P Q : A → Type 0) → ((x : A) → P x → Q x) → (xs : List A) → Every P xs → Every Q xs
every_map P Q f [] h = tt
every_map P Q f (x ∷ xs) h = (f x h.0, every_map P Q f xs h.1)

more_in : (x y : Object) (xs : List Object) → IsIn xs y → IsIn (x ∷ xs) y
more_in x y xs h = (suc h.0, h.1)

-- the same refusal of another answer
pub stops_same : {A B : Type 0} (e : Stop) → IsErrOf {T = A} {E = Stop} (Err e) stop.Full → IsErrOf {T = B} {E = Stop} (Err e) stop.Full
stops_same e f = cc

-- what an attempt tells, but for the tables
pub record Told (ds : List Definition) (functions : List ℕ) (env : List (ℕ × Object)) (t : Exp) (left : ℕ) (old new : Held) (answer : Result Found Stop) : Type 0 where
  pub adds : Adds (Sees ds functions env t) old new
  pub found : IfOk answer (IsFound ds functions new.objects env t left)
  pub lacks : IsErrOf answer stop.Full → Lacks (Sees ds functions env t) new

pub told : {ds : List Definition} {functions : List ℕ} {env : List (ℕ × Object)} {t : Exp} {left : ℕ} {old new : Held} {tables : Alists} {answer : Result Found Stop} → Tells ds functions env t left old new tables answer → Told ds functions env t left old new answer
told h = record { adds = h.adds; found = h.found; lacks = h.lacks }

-- ---- the names with the values of terms
module _ (ds : List Definition) (functions : List ℕ) (env : List (ℕ × Object)) where
  abbrev Binds : List ℕ → Exps → ℕ → Held → Held → List Local → List Local → Result ℕ Stop → Type 0
  Binds = BindsFound ds functions env

  pub none_bound : (held : Held) (names : List ℕ) (us : Exps) (left : ℕ) (before : List Local) → IsWhole held → names ≡ [] → us ≡ Last → Binds names us left held held before before (Ok left)
  none_bound held names us left before whole none last = subst (λ (vs : Exps). Binds names vs left held held before before (Ok left)) (sym last) (record {
    adds = adds_none (SeeAll ds functions env Last) held whole;
    binds = record {
      made = [];
      values = [];
      is = none_more before;
      names_are = ap (λ vs. bound vs []) (sym none);
      live = tt;
      among = tt;
      few = omega arith;
      give = subst (GiveAtOnce ds functions env Last []) (omega arith) (none_give ds functions env);
    };
    lacks = λ e. absurd cc;
  })

  pub none_held : (held : Held) (names : List ℕ) (us : Exps) (left : ℕ) (before after : List Local) (answer : Result ℕ Stop) → IsWhole held → answer ≡ Err stop.Memory → Binds names us left held held before after answer
  none_held held names us left before after answer whole is = subst (Binds names us left held held before after) (sym is) (record { adds = adds_none (SeeAll ds functions env us) held whole; binds = tt; lacks = λ e. absurd cc })

  module _ (us : Exps) (t : Exp) (ts : Exps) (same : us ≡ More t ts) (left : ℕ) (names : List ℕ) (old mid : Held) (before : List Local) where
    abbrev All : List Object → Type 0
    All = SeeAll ds functions env (More t ts)

    of_same : (late : Held) (after : List Local) (answer : Result ℕ Stop) → Binds names (More t ts) left old late before after answer → Binds names us left old late before after answer
    of_same late after answer h = subst (λ (vs : Exps). Binds names vs left old late before after answer) (sym same) h

    first_adds : (r : Result Found Stop) → Told ds functions env t left old mid r → Adds All old mid
    first_adds r h = adds_by All (Sees ds functions env t) old mid (first_seen ds functions env t ts) h.adds

    -- the first term gives nothing
    pub first_stops : (e : Stop) (after : List Local) (answer : Result ℕ Stop) → answer ≡ Err e → Told ds functions env t left old mid (Err e) → Binds names us left old mid before after answer
    first_stops e after answer is h = of_same mid after answer (subst (Binds names (More t ts) left old mid before after) (sym is) (record {
      adds = first_adds (Err e) h;
      binds = tt;
      lacks = λ f. lacks_by All (Sees ds functions env t) mid (first_seen ds functions env t ts) (h.lacks (stops_same e f));
    }))

    -- there is no memory for it
    pub first_unheld : (r : Result Found Stop) (after : List Local) (answer : Result ℕ Stop) → answer ≡ Err stop.Memory → Told ds functions env t left old mid r → Binds names us left old mid before after answer
    first_unheld r after answer is h = of_same mid after answer (subst (Binds names (More t ts) left old mid before after) (sym is) (record { adds = first_adds r h; binds = tt; lacks = λ f. absurd cc }))

    module _ (f : Found) (first : Told ds functions env t left old mid (Ok f)) (l : Local) (value : l.value ≡ f.value) (i : ℕ) (all : List ℕ) (are : names ≡ l.name.number ∷ drop (i + 1) all) where
      more_bound : (new : Held) (after : List Local) (rest : ℕ) → HasGrown mid.objects new.objects → AreBound ds functions env (drop (i + 1) all) ts f.left new.objects (before ++ l ∷ []) after rest → AreBound ds functions env names (More t ts) left new.objects before after rest
      more_bound new after rest g b =
          let live : IsLiveValue mid.objects l.value = subst (IsLiveValue mid.objects) (sym value) first.found.live in
          let x = value_object mid.objects f.value in
          let grown = value_grown mid.objects new.objects g l.value live in
          let is : value_object new.objects l.value ≡ x = grown.1 ∙ ap (value_object mid.objects) value in
          let count : (left - f.left) + (f.left - rest) ≡ left - rest = omega (arith, first.found.fewer, b.few) in
          record {
            made = l ∷ b.made;
            values = x ∷ b.values;
            is = b.is ∙ append_assoc before (l ∷ []) b.made;
            names_are = (λ j. (l.name.number, is j) ∷ b.names_are j) ∙ ap (λ vs. bound vs (x ∷ b.values)) (sym are);
            live = (grown.0, b.live);
            among = ((0, ap (λ z. Some z) (sym is)), every_map (λ m. IsIn b.values (value_object new.objects m.value)) (λ m. IsIn (x ∷ b.values) (value_object new.objects m.value)) (λ m. more_in x (value_object new.objects m.value) b.values) b.made b.among);
            few = omega (arith, first.found.fewer, b.few);
            give = subst (GiveAtOnce ds functions env (More t ts) (x ∷ b.values)) count (more_give ds functions env t ts x b.values (left - f.left) (f.left - rest) first.found.gives b.give);
          }

      pub later_bound : (new : Held) (after : List Local) (answer : Result ℕ Stop) → Binds (drop (i + 1) all) ts f.left mid new (before ++ l ∷ []) after answer → Binds names us left old new before after answer
      later_bound new after answer h = of_same new after answer (record {
        adds = adds_on All old mid new (first_adds (Ok f) first) (adds_by All (SeeAll ds functions env ts) mid new (rest_seen ds functions env t ts) h.adds);
        binds = part answer h.binds;
        lacks = λ e. lacks_by All (SeeAll ds functions env ts) new (rest_seen ds functions env t ts) (h.lacks e);
      }) where
        part : (r : Result ℕ Stop) → IfOk r (AreBound ds functions env (drop (i + 1) all) ts f.left new.objects (before ++ l ∷ []) after) → IfOk r (AreBound ds functions env names (More t ts) left new.objects before after)
        part (Ok rest) b = more_bound new after rest h.adds.grown b
        part (Err e) b = tt

-- ---- locals by ids
have_locals : (old new : List Object) → HasGrown old new → (seen : List Object) (locals : List Local) → AreLiveLocals old locals → HasLocals old locals seen → HasLocals new locals seen
have_locals old new g seen [] v h = tt
have_locals old new g seen (l ∷ locals) v h = (subst (IsIn seen) (sym (value_grown old new g l.value v.0).1) h.0, have_locals old new g seen locals v.1 h.1)

pub first_there : (objects : List Object) (all : List Local) (l : Local) (locals : List Local) → all ≡ l ∷ locals → AreLiveLocals objects all → AreLiveLocals objects (l ∷ locals)
first_there objects all l locals same live = subst (AreLiveLocals objects) same live

-- one local
module _ (l : Local) (old mid : Held) (before : List Binding) (whole : IsWhole mid) where
  abbrev entering : Object
  entering = value_object old.objects l.value

  abbrev One : List Object → Type 0
  One = HasLocals old.objects (l ∷ [])

  entered_adds : (r : Result Id Full) → Places old mid entering r → Adds One old mid
  entered_adds r p = adds_cells One entering old mid (λ seen h. h.0) p.objects p.limit whole

  pub local_stops : (e : Full) (answer : Result (Unit {0}) Stop) → answer ≡ Err stop.Full → Places old mid entering (Err e) → EntersLocals (l ∷ []) old mid before before answer
  local_stops e answer is p = subst (EntersLocals (l ∷ []) old mid before before) (sym is) (record { adds = entered_adds (Err e) p; entered = tt; lacks = λ f. lacks_cell One entering mid (λ seen h. h.0) p.lacks })

  pub local_unheld : (r : Result Id Full) (after : List Binding) (answer : Result (Unit {0}) Stop) → answer ≡ Err stop.Memory → Places old mid entering r → EntersLocals (l ∷ []) old mid before after answer
  local_unheld r after answer is p = subst (EntersLocals (l ∷ []) old mid before after) (sym is) (record { adds = entered_adds r p; entered = tt; lacks = λ f. absurd cc })

  pub local_entered : (id : Id) (after : List Binding) → after ≡ before ++ record { name = l.name; value = id } ∷ [] → Places old mid entering (Ok id) → EntersLocals (l ∷ []) old mid before after (Ok tt)
  local_entered id after is p = record {
    adds = entered_adds (Ok id) p;
    entered = record { made = record { name = l.name; value = id } ∷ []; is = is; env = λ j. (l.name.number, p.id.1 j) ∷ []; live = (p.id.0, tt) };
    lacks = λ e. absurd cc;
  }

-- one local, and those behind it
env_append : (objects : List Object) (xs ys : List Binding) → env_of objects (xs ++ ys) ≡ env_of objects xs ++ env_of objects ys
env_append objects [] ys = refl
env_append objects (x ∷ xs) ys = ap (λ zs. (x.name.number, object_at objects x.value) ∷ zs) (env_append objects xs ys)

module _ (all : List Local) (l : Local) (locals : List Local) (same : all ≡ l ∷ locals) (old mid : Held) (before middle : List Binding) where
  abbrev Both : List Object → Type 0
  Both = HasLocals old.objects (l ∷ locals)

  of_these : (late : Held) (after : List Binding) (answer : Result (Unit {0}) Stop) → EntersLocals (l ∷ locals) old late before after answer → EntersLocals all old late before after answer
  of_these late after answer h = subst (λ (ls : List Local). EntersLocals ls old late before after answer) (sym same) h

  covers_one : (seen : List Object) → Both seen → (part : List Object) × (HasLocals old.objects (l ∷ []) part × ((x : Object) → IsIn part x → IsIn seen x))
  covers_one seen s = (seen, ((s.0, tt), λ x i. i))

  pub one_stops : (e : Stop) (answer : Result (Unit {0}) Stop) → answer ≡ Err e → EntersLocals (l ∷ []) old mid before middle (Err e) → EntersLocals all old mid before middle answer
  one_stops e answer is h = of_these mid middle answer (subst (EntersLocals (l ∷ locals) old mid before middle) (sym is) (record {
    adds = adds_by Both (HasLocals old.objects (l ∷ [])) old mid covers_one h.adds;
    entered = tt;
    lacks = λ f. lacks_by Both (HasLocals old.objects (l ∷ [])) mid covers_one (h.lacks f);
  }))

  module _ (live : AreLiveLocals old.objects locals) (first : EntersLocals (l ∷ []) old mid before middle (Ok tt)) where
    pub later_live : AreLiveLocals mid.objects locals
    later_live = (locals_grown old.objects mid.objects first.adds.grown locals live).0

    pub later_entered : (new : Held) (after : List Binding) (answer : Result (Unit {0}) Stop) → EntersLocals locals mid new middle after answer → EntersLocals all old new before after answer
    later_entered new after answer h = of_these new after answer (record {
      adds = adds_on Both old mid new (adds_by Both (HasLocals old.objects (l ∷ [])) old mid covers_one first.adds) (adds_by Both (HasLocals mid.objects locals) mid new covers h.adds);
      entered = part answer h.entered;
      lacks = λ e. lacks_by Both (HasLocals mid.objects locals) new covers (h.lacks e);
    }) where
      covers : (seen : List Object) → Both seen → (part : List Object) × (HasLocals mid.objects locals part × ((x : Object) → IsIn part x → IsIn seen x))
      covers seen s = (seen, (have_locals old.objects mid.objects first.adds.grown seen locals live s.1, λ x i. i))

      part : (r : Result (Unit {0}) Stop) → IfOk r (λ _. AreEntered mid.objects new.objects locals middle after) → IfOk r (λ _. AreEntered old.objects new.objects (l ∷ locals) before after)
      part (Ok u) g =
          let f = first.entered in
          let here = env_grown mid.objects new.objects h.adds.grown f.made f.live in
          let one : env_of new.objects f.made ≡ locals_of old.objects (l ∷ []) = here.1 ∙ f.env in
          let rest : env_of new.objects g.made ≡ locals_of old.objects locals = g.env ∙ (locals_grown old.objects mid.objects first.adds.grown locals live).1 in
          record {
            made = f.made ++ g.made;
            is = g.is ∙ (ap (λ bs. bs ++ g.made) f.is ∙ append_assoc before f.made g.made);
            env = env_append new.objects f.made g.made ∙ (λ j. one j ++ rest j);
            live = every_append (λ b. IsLive new.objects b.value) f.made g.made here.0 g.live;
          }
      part (Err e) g = tt

-- ---- one step
module _ (ds : List Definition) (functions : List ℕ) (env : List (ℕ × Object)) where
  abbrev Takes : Exp → ℕ → Held → Held → List Local → Result Step Stop → Type 0
  Takes = StepTells ds functions env

  -- an `if`
  module _ (u test a b : Exp) (same : u ≡ If test a b) (left : ℕ) (old new : Held) (next : List Local) where
    abbrev Here : List Object → Type 0
    Here = Sees ds functions env (If test a b)

    pub test_stops : (e : Stop) (answer : Result Step Stop) → answer ≡ Err e → Told ds functions env test (left - 1) old new (Err e) → Takes u left old new next answer
    test_stops e answer is h = subst (λ (v : Exp). Takes v left old new next answer) (sym same) (subst (Takes (If test a b) left old new next) (sym is) (record {
      adds = adds_by Here (Sees ds functions env test) old new (if_sees_test ds functions env test a b) h.adds;
      goes = tt;
      lacks = λ f. lacks_by Here (Sees ds functions env test) new (if_sees_test ds functions env test a b) (h.lacks (stops_same e f));
    }))

    pub test_goes : (f : Found) (q : Bool) (w : Bor Term) → Told ds functions env test (left - 1) old new (Ok f) → is_nil (value_object new.objects f.value) ≡ q → term_of w.now ≡ cond q b a → Takes u left old new next (Ok (step.Stays w f.left))
    test_goes f q w h nil_is is = subst (λ (v : Exp). Takes v left old new next (Ok (step.Stays w f.left))) (sym same) (record {
      adds = adds_by Here (Sees ds functions env test) old new (if_sees_test ds functions env test a b) h.adds;
      goes = record {
        fewer = omega (arith, h.found.fewer);
        leads = subst (LeadsTo ds functions env (If test a b) env (term_of w.now)) (omega (arith, h.found.fewer))
            (subst (λ (v : Exp). LeadsTo ds functions env (If test a b) env v (left - 1 - f.left + 1)) (ap (λ c. cond c b a) nil_is ∙ sym is)
            (leads_if ds functions env test a b (value_object new.objects f.value) (left - 1 - f.left) h.found.gives));
      };
      lacks = λ e. absurd cc;
    })

  -- a call
  module _ (u : Exp) (f : ℕ) (ts : Exps) (same : u ≡ Call f ts) (left : ℕ) (old new : Held) (names : List ℕ) (before after : List Local) where
    abbrev There : List Object → Type 0
    There = Sees ds functions env (Call f ts)

    pub arguments_stop : (e : Stop) (answer : Result Step Stop) → answer ≡ Err e → BindsFound ds functions env names ts (left - 1) old new before after (Err e) → Takes u left old new after answer
    arguments_stop e answer is h = subst (λ (v : Exp). Takes v left old new after answer) (sym same) (subst (Takes (Call f ts) left old new after) (sym is) (record {
      adds = adds_by There (SeeAll ds functions env ts) old new (call_sees_parts ds functions env f ts) h.adds;
      goes = tt;
      lacks = λ g. lacks_by There (SeeAll ds functions env ts) new (call_sees_parts ds functions env f ts) (h.lacks (stops_same e g));
    }))

    module _ (d : Definition) (opens : OpensAtOnce ds functions f) (found : slice_get ds f ≡ Some d) (first : before ≡ []) (all : names ≡ d.formals) (some : 0 < left) where
      body_way : (rest : ℕ) (v : Exp) → v ≡ d.body → AreBound ds functions env names ts (left - 1) new.objects before after rest → GoesInto ds functions env (Call f ts) left new.objects after v rest
      body_way rest v body h =
          let is : after ≡ h.made = h.is ∙ ap (λ ls. ls ++ h.made) first in
          let env_is : extended d.formals h.values [] ≡ locals_of new.objects after = sym (none_more (bound d.formals h.values)) ∙ (ap (λ vs. bound vs h.values) (sym all) ∙ (sym h.names_are ∙ ap (locals_of new.objects) (sym is))) in
          let leads = leads_call ds functions env f ts d h.values (left - 1 - rest) h.give opens found in
          record {
            way = record {
              fewer = omega (arith, h.few, some);
              leads = subst (λ (w : Exp). LeadsTo ds functions env (Call f ts) (locals_of new.objects after) w (left - rest)) (sym body)
                  (subst (LeadsTo ds functions env (Call f ts) (locals_of new.objects after) d.body) (omega (arith, h.few, some))
                  (subst (λ inner. LeadsTo ds functions env (Call f ts) inner d.body (left - 1 - rest + 1)) env_is leads));
            };
            live = subst (AreLiveLocals new.objects) (sym is) h.live;
            seen = λ seen s.
                let p = call_sees_parts ds functions env f ts seen s in
                subst (λ (ls : List Local). HasLocals new.objects ls seen) (sym is)
                (every_map (λ m. IsIn h.values (value_object new.objects m.value)) (λ m. IsIn seen (value_object new.objects m.value))
                (λ m i. p.1.1 (value_object new.objects m.value) (arguments_seen ds functions env ts h.values (left - 1 - rest) h.give p.0 p.1.0 (value_object new.objects m.value) i)) h.made h.among);
          }

      pub arguments_go : (rest : ℕ) (w : Bor Term) → term_of w.now ≡ d.body → BindsFound ds functions env names ts (left - 1) old new before after (Ok rest) → Takes u left old new after (Ok (step.Opens w rest))
      arguments_go rest w body h = subst (λ (v : Exp). Takes v left old new after (Ok (step.Opens w rest))) (sym same) (record {
        adds = adds_by There (SeeAll ds functions env ts) old new (call_sees_parts ds functions env f ts) h.adds;
        goes = body_way rest (term_of w.now) body h.binds;
        lacks = λ e. absurd cc;
      })

-- ---- steps one after the other
pub step_of : (ds : List Definition) (functions : List ℕ) (first inner : List (ℕ × Object)) → first ≡ inner → (u : Exp) (rest : ℕ) (old new : Held) (next : List Local) (r s : Result Step Stop) → r ≡ s → StepTells ds functions first u rest old new next r → StepTells ds functions inner u rest old new next s
step_of ds functions first inner same u rest old new next r s is h = subst (λ env. StepTells ds functions env u rest old new next s) same (subst (StepTells ds functions first u rest old new next) is h)

abbrev bindings_in : Reached → List Binding
bindings_in (reached.Value id rest) = []
bindings_in (reached.Term w bindings rest) = bindings.value.items

module _ (ds : List Definition) (functions : List ℕ) (env : List (ℕ × Object)) (t : Exp) (left : ℕ) where
  abbrev S : List Object → Type 0
  S = Sees ds functions env t

  abbrev Goes : Held → Held → Result Reached Stop → Type 0
  Goes = AdvanceTells ds functions env t left

  abbrev Into : List Object → List Local → Exp → ℕ → Type 0
  Into = GoesInto ds functions env t left

  advance_stops : {A : Type 0} (old new : Held) (e : Stop) (answer : Result Reached Stop) → answer ≡ Err e → Adds S old new → (IsErrOf {T = A} {E = Stop} (Err e) stop.Full → Lacks S new) → Goes old new answer
  advance_stops old new e answer is adds lacks = subst (Goes old new) (sym is) (record { adds = adds; goes = tt; lacks = λ f. lacks (stops_same e f) })

  pub advance_unheld : (old new : Held) (answer : Result Reached Stop) → answer ≡ Err stop.Memory → Adds S old new → Goes old new answer
  advance_unheld old new answer is adds = subst (Goes old new) (sym is) (record { adds = adds; goes = tt; lacks = λ f. absurd cc })

  -- the first step
  pub first_refused : (old new : Held) (next : List Local) (e : Stop) (answer : Result Reached Stop) → answer ≡ Err e → StepTells ds functions env t left old new next (Err e) → Goes old new answer
  first_refused old new next e answer is h = advance_stops old new e answer is h.adds h.lacks

  pub first_found : (old new : Held) (next : List Local) (f : Found) → StepTells ds functions env t left old new next (Ok (step.Value f)) → Told ds functions env t left old new (Ok f)
  first_found old new next f h = record { adds = h.adds; found = h.goes; lacks = λ e. absurd cc }

  pub first_stays : (old new : Held) (next : List Local) (w : Bor Term) (rest : ℕ) (bindings : _) → StepTells ds functions env t left old new next (Ok (step.Stays w rest)) → env ≡ env_of old.objects (bindings_in (reached.Term w bindings rest)) → Every (λ b. IsLive old.objects b.value) (bindings_in (reached.Term w bindings rest)) → Goes old new (Ok (reached.Term w bindings rest))
  first_stays old new next w rest bindings h is live =
      let grown = env_grown old.objects new.objects h.adds.grown (bindings_in (reached.Term w bindings rest)) live in
      record {
        adds = h.adds;
        goes = record {
          way = subst (λ inner. GoesOn ds functions env t left inner (term_of w.now) rest) (is ∙ sym grown.1) h.goes;
          live = grown.0;
        };
        lacks = λ e. absurd cc;
      }

  -- the value enters
  module _ (old mid : Held) (f : Found) (h : Told ds functions env t left old mid (Ok f)) (new : Held) (whole : IsWhole new) where
    abbrev the_value : Object
    the_value = value_object mid.objects f.value

    the_value_seen : (seen : List Object) → S seen → IsIn seen the_value
    the_value_seen = found_value_seen ds functions env t the_value (left - f.left) h.found.gives

    value_adds : (r : Result Id Full) → Places mid new the_value r → Adds S old new
    value_adds r p = adds_on S old mid new h.adds (adds_cells S the_value mid new the_value_seen p.objects p.limit whole)

    pub value_stops : (e : Full) (answer : Result Reached Stop) → answer ≡ Err stop.Full → Places mid new the_value (Err e) → Goes old new answer
    value_stops e answer is p = advance_stops {A = Unit {0}} old new stop.Full answer is (value_adds (Err e) p) (λ g. lacks_cell S the_value new the_value_seen p.lacks)

    pub value_reached : (id : Id) → Places mid new the_value (Ok id) → Goes old new (Ok (reached.Value id f.left))
    value_reached id p = record {
      adds = value_adds (Ok id) p;
      goes = record { value = the_value; is = p.id; fewer = h.found.fewer; gives = h.found.gives };
      lacks = λ e. absurd cc;
    }

  -- in a body
  module _ (old mid : Held) (adds : Adds S old mid) (here : List Local) (u : Exp) (rest : ℕ) (into : Into mid.objects here u rest) where
    abbrev inner : List (ℕ × Object)
    inner = locals_of mid.objects here

    covers : (seen : List Object) → S seen → (part : List Object) × (Sees ds functions inner u part × ((x : Object) → IsIn part x → IsIn seen x))
    covers = leads_sees ds functions env t inner u (left - rest) into.way.leads

    pub into_grown : (new : Held) → HasGrown mid.objects new.objects → Into new.objects here u rest
    into_grown new g =
        let grown = locals_grown mid.objects new.objects g here into.live in
        record {
          way = subst (λ last. GoesOn ds functions env t left last u rest) (sym grown.1) into.way;
          live = grown.0;
          seen = λ seen s. have_locals mid.objects new.objects g seen here into.live (into.seen seen s);
        }

    goes_further : (last : List (ℕ × Object)) (v : Exp) (k : ℕ) → GoesOn ds functions inner u rest last v k → GoesOn ds functions env t left last v k
    goes_further last v k g = record {
      fewer = omega (arith, g.fewer, into.way.fewer);
      leads = subst (LeadsTo ds functions env t last v) (omega (arith, g.fewer, into.way.fewer)) (leads_on ds functions env t inner u last v (left - rest) (rest - k) into.way.leads g.leads);
    }

    module _ (new : Held) (next : List Local) where
      abbrev Steps : Result Step Stop → Type 0
      Steps = StepTells ds functions inner u rest mid new next

      pub later_adds : (answer : Result Step Stop) → Steps answer → Adds S old new
      later_adds answer h = adds_on S old mid new adds (adds_by S (Sees ds functions inner u) mid new covers h.adds)

      pub later_stops : (e : Stop) (answer : Result Reached Stop) → answer ≡ Err e → Steps (Err e) → Goes old new answer
      later_stops e answer is h = advance_stops old new e answer is (later_adds (Err e) h) (λ f. lacks_by S (Sees ds functions inner u) new covers (h.lacks f))

      pub later_found : (f : Found) → Steps (Ok (step.Value f)) → Told ds functions env t left old new (Ok f)
      later_found f h =
          let x = value_object new.objects f.value in
          let count : (left - rest) + (rest - f.left) ≡ left - f.left = omega (arith, h.goes.fewer, into.way.fewer) in
          record {
            adds = later_adds (Ok (step.Value f)) h;
            found = record {
              live = h.goes.live;
              fewer = omega (arith, h.goes.fewer, into.way.fewer);
              gives = subst (GivesAtOnce ds functions env t x) count (gives_leads ds functions env t inner u x (left - rest) (rest - f.left) into.way.leads h.goes.gives);
            };
            lacks = λ e. absurd cc;
          }

      pub later_stays : (w : Bor Term) (k : ℕ) → Steps (Ok (step.Stays w k)) → Into new.objects here (term_of w.now) k
      later_stays w k h =
          let grown = into_grown new h.adds.grown in
          let same = (locals_grown mid.objects new.objects h.adds.grown here into.live).1 in
          record {
            way = subst (λ last. GoesOn ds functions env t left last (term_of w.now) k) (sym same) (goes_further inner (term_of w.now) k h.goes);
            live = grown.live;
            seen = grown.seen;
          }

      pub later_opens : (w : Bor Term) (k : ℕ) → Steps (Ok (step.Opens w k)) → Into new.objects next (term_of w.now) k
      later_opens w k h = record {
        way = goes_further (locals_of new.objects next) (term_of w.now) k h.goes.way;
        live = h.goes.live;
        seen = λ seen s.
            let p = covers seen s in
            every_map (λ m. IsIn p.0 (value_object new.objects m.value)) (λ m. IsIn seen (value_object new.objects m.value)) (λ m. p.1.1 (value_object new.objects m.value)) next (h.goes.seen p.0 p.1.0);
      }

    -- the locals enter
    module _ (new : Held) (bindings : List Binding) where
      have_here : (seen : List Object) → S seen → (part : List Object) × (HasLocals mid.objects here part × ((x : Object) → IsIn part x → IsIn seen x))
      have_here seen s = (seen, (into.seen seen s, λ x i. i))

      pub entering_adds : (answer : Result (Unit {0}) Stop) → EntersLocals here mid new [] bindings answer → Adds S old new
      entering_adds answer h = adds_on S old mid new adds (adds_by S (HasLocals mid.objects here) mid new have_here h.adds)

      pub entering_stops : (e : Stop) (answer : Result Reached Stop) → answer ≡ Err e → EntersLocals here mid new [] bindings (Err e) → Goes old new answer
      entering_stops e answer is h = advance_stops old new e answer is (entering_adds (Err e) h) (λ f. lacks_by S (HasLocals mid.objects here) new have_here (h.lacks f))

      pub entering_goes : (w : Bor Term) (rc : _) → term_of w.now ≡ u → bindings_in (reached.Term w rc rest) ≡ bindings → EntersLocals here mid new [] bindings (Ok tt) → Goes old new (Ok (reached.Term w rc rest))
      entering_goes w rc term items h =
          let is : bindings_in (reached.Term w rc rest) ≡ h.entered.made = items ∙ h.entered.is in
          record {
            adds = entering_adds (Ok tt) h;
            goes = record {
              way = subst (λ last. GoesOn ds functions env t left last (term_of w.now) rest) (sym h.entered.env ∙ ap (env_of new.objects) (sym is))
                  (subst (λ (v : Exp). GoesOn ds functions env t left inner v rest) (sym term) into.way);
              live = subst (Every (λ b. IsLive new.objects b.value)) (sym is) h.entered.live;
            };
            lacks = λ e. absurd cc;
          }
