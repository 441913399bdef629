-- Calls on constants in the machine.
use Rattle.std.proofs.Common.{◌≡◌, ◌∙◌, ap, sym, refl, subst, ℕ, zero, suc, ◌+◌, ◌<◌, ◌≤◌, arith, List, [], ◌∷◌, ◌++◌, length, take, map, get_or, append-nil, Option, Some, inl, inr, Result, Ok, Err}
use Rattle.std.specs.Prelude.{slice_get, sum_by}
use Rattle.std.specs.List.{All, Contains, filter, flat_map}
use Rattle.std.proofs.lemmas.List.{map-append}
use Rattle.std.proofs.lemmas.List.Elements.{All-append, Contains-append_left, Contains-append_right, Contains-append_cases}
use Rattle.gl_logic.specs.CellCounts.{cells, constants_of_all, world_constants}
use Rattle.gl_logic.specs.ConstantCall.{constant_call, constant_terms}
use Rattle.gl_logic.specs.Counts.{call_eq, is_among, made_in, memoized_cost, own_cost_of_call, own_opened, seen, seen_in}
use Rattle.gl_logic.specs.Definition.{Definition}
use Rattle.gl_logic.specs.Different.{different}
use Rattle.gl_logic.specs.Evaluate.{HasValue, evaluate}
use Rattle.gl_logic.specs.Exp.{Exp}
use Rattle.gl_logic.specs.IsTermOf.{AreTermsOf, IsTermOf, arity_in, count_of}
use Rattle.gl_logic.specs.Object.{Object}
use Rattle.gl_logic.specs.ObjectEq.{object_eq}
use Rattle.gl_logic.specs.Parts.{cells_in}
use Rattle.gl_logic.specs.Walk.{Walk, Walks, opened, then, walk_by}
use Rattle.gl_logic.specs.Wide.{IsWide, SomeWide}
use Rattle.gl_logic.specs.WorldSeen.{WorldSeen}
use Rattle.gl_logic.proofs.DepthOfCounts.{both_give, memoized_same, seen_same}
use Rattle.hons_arena.specs.declared.id.Id.{Id}
use Rattle.hons_arena.specs.Held.{AddsCellsOf, HasNoRoomFor, Held, IsEachOnce, IsWhole}
use Rattle.hons_arena.specs.Ids.{IsIdOf, IsLive, object_at}
use Rattle.hons_arena.proofs.Placing.{id_kept}
use Rattle.lisp_eval.specs.Answers.{IsCrowded, IsDear, IsLiveBinding}
use Rattle.lisp_eval.specs.Machines.{Fits, MachineSeen}
use Rattle.lisp_eval.specs.MachineCalls.{KeepsSettings}
use Rattle.lisp_eval.specs.States.{env_of}
use Rattle.lisp_eval.specs.Within.{AreWithin, CoverCells}
use Rattle.lisp_eval.specs.declared.frame.Binding.{Binding}
use Rattle.lisp_eval.proofs.Grown.{env_stable, grown_more}
use Rattle.lisp_eval.proofs.Places.{contains_at}
use Rattle.lisp_eval.proofs.Within.{full_of_room, stays}
use Rattle.gl_interp.specs.Calls.{HasEvalCause, IsCrowdedCall, IsDearCall}
use Rattle.gl_interp.specs.Placed.{Grows, HasPlaced, LacksCells, PlacesOne, numbered_from, variable_call, variables_from}
use Rattle.gl_interp.proofs.Machines.{fits_forgetting, keeps_same, keeps_settings}
use Rattle.sym_objects.specs.declared.sob.Sob.{Sob}
use Rattle.lisp_eval.specs.Answers.{IsLicensed}
use Rattle.lisp_eval.specs.declared.fault.EvalFault.{EvalFault}
use Rattle.lisp_eval.specs.declared.fault.EvalFault.TheVariants as eval
use Rattle.sym_objects.specs.declared.fault.SobFault.{SobFault}
use Rattle.sym_objects.specs.declared.fault.SobFault.TheVariants as sob
use Rattle.sym_objects.specs.Makes.{Places}
use Rattle.gl_interp.proofs.CellsOfCalls.{among_cells, cells_within, constants_are, different_within}
use Rattle.gl_interp.proofs.ConstantWalks.{constants_walk, numbered_look, variables_walk}

-- ---- arguments that are placed
numbered_push : (i : ℕ) (xs : List Object) (x : Object) → numbered_from i (xs ++ x ∷ []) ≡ numbered_from i xs ++ (i + length xs, x) ∷ []
numbered_push i [] x = ap (λ n. (n, x) ∷ []) (omega arith)
numbered_push i (y ∷ xs) x = ap (λ ps. (i, y) ∷ ps) (numbered_push (suc i) xs x ∙ ap (λ n. numbered_from (suc i) xs ++ (n, x) ∷ []) (omega arith))

-- on the way, where the first i are placed
pub record IsPlacing (xs : List Object) (old now : MachineSeen) (env : List Binding) (i : ℕ) : Type 0 where
  pub live : All (IsLiveBinding now.arena.objects) env
  pub stands : env_of now.arena.objects env ≡ numbered_from 0 (take i xs)
  pub within : AreWithin old.arena.objects xs now.arena.objects

pub placing_none : (xs : List Object) (m : MachineSeen) → IsPlacing xs m m [] 0
placing_none xs m = record { live = λ i d l. absurd (omega (arith, l)); stands = refl; within = λ y c. inl c }

live_more : (x : Object) (mid new : List Object) (env : List Binding) → AddsCellsOf x mid new → All (IsLiveBinding mid) env → All (IsLiveBinding new) env
live_more x mid new env a h k d l = (id_kept x mid new (object_at mid (get_or env k d).value) (get_or env k d).value a (h k d l, refl)).0

one_live : (new : List Object) (b : Binding) → IsLive new b.value → All (IsLiveBinding new) (b ∷ [])
one_live new b h zero d l = h
one_live new b h (suc k) d l = absurd (omega (arith, l))

length_take : (i : ℕ) (xs : List Object) → i ≤ length xs → length (take i xs) ≡ i
length_take zero xs h = refl
length_take (suc i) [] h = absurd (omega (arith, h))
length_take (suc i) (x ∷ xs) h = omega (arith, length_take i xs (omega (arith, h)))

take_next : (i : ℕ) (xs : List Object) (x : Object) → slice_get xs i ≡ Some x → take (suc i) xs ≡ take i xs ++ x ∷ []
take_next i [] x e = absurd cc
take_next zero (y ∷ xs) x e = let same : y ≡ x = cc in ap (λ z. z ∷ []) same
take_next (suc i) (y ∷ xs) x e = ap (λ zs. y ∷ zs) (take_next i xs x e)

below : (i : ℕ) (xs : List Object) (x : Object) → slice_get xs i ≡ Some x → i < length xs
below i [] x e = absurd cc
below zero (y ∷ xs) x e = omega arith
below (suc i) (y ∷ xs) x e = let l = below i xs x e in omega (arith, l)

pub placing_more : (xs : List Object) (old now new : MachineSeen) (env next : List Binding) (i : ℕ) (x : Object) (b : Binding) → slice_get xs i ≡ Some x → IsPlacing xs old now env i → AddsCellsOf x now.arena.objects new.arena.objects → next ≡ env ++ b ∷ []
    → b.name.number ≡ i → IsIdOf new.arena.objects x b.value → IsPlacing xs old new next (suc i)
placing_more xs old now new env next i x b at p adds pushed name id =
    let mid = now.arena.objects in
    let objects = new.arena.objects in
    let before : env_of objects env ≡ numbered_from 0 (take i xs) = ap (λ zs. env_of zs env) adds.is ∙ (env_stable mid env p.live adds.made ∙ p.stands) in
    let count : length (take i xs) ≡ i = length_take i xs (let l = below i xs x at in omega (arith, l)) in
    let last : (b.name.number, object_at objects b.value) ≡ (0 + length (take i xs), x) = let number : b.name.number ≡ 0 + length (take i xs) = omega (arith, count, name) in λ k. (number k, id.1 k) in
    record {
      live = subst (All (IsLiveBinding objects)) (sym pushed) (All-append (IsLiveBinding objects) env (b ∷ []) (live_more x mid objects env adds p.live) (one_live objects b id.0));
      stands = ap (env_of objects) pushed ∙ (map-append (λ c. (c.name.number, object_at objects c.value)) env (b ∷ [])
          ∙ ((λ k. before k ++ last k ∷ []) ∙ (sym (numbered_push 0 (take i xs) x) ∙ ap (numbered_from 0) (sym (take_next i xs x at)))));
      within = stays old.arena.objects xs mid objects x (i, at) adds p.within;
    }

take_all : (xs : List Object) (i : ℕ) → i ≡ length xs → take i xs ≡ xs
take_all [] zero e = refl
take_all [] (suc i) e = refl
take_all (x ∷ xs) zero e = absurd (omega (arith, e))
take_all (x ∷ xs) (suc i) e = ap (λ zs. x ∷ zs) (take_all xs i (omega (arith, e)))

pub placing_done : (xs : List Object) (old now : MachineSeen) (env : List Binding) (i : ℕ) → i ≡ length xs → IsPlacing xs old now env i → HasPlaced xs old now env
placing_done xs old now env i e p = record { live = p.live; stands = p.stands ∙ ap (numbered_from 0) (take_all xs i e); within = p.within }

-- for want of cells: what was held and the cells of the arguments are too many
pub placing_full : (xs : List Object) (old now : MachineSeen) (env : List Binding) (i : ℕ) (x : Object) → slice_get xs i ≡ Some x → IsPlacing xs old now env i → HasNoRoomFor now.arena x → IsEachOnce now.arena.objects → now.arena.limit ≡ old.arena.limit
    → old.arena.limit < length (different object_eq (old.arena.objects ++ flat_map cells_in xs))
placing_full xs old now env i x at p room once same =
    let all = old.arena.objects ++ flat_map cells_in xs in
    let cover : CoverCells old.arena.objects xs all = record {
      first = λ y c. Contains-append_left old.arena.objects (flat_map cells_in xs) y c;
      later = λ y c. Contains-append_right old.arena.objects (flat_map cells_in xs) y (among_cells xs c.value y (contains_at xs c.seen_value.0 c.value c.seen_value.1) c.cell);
    } in
    omega (arith, full_of_room old.arena.objects xs all now.arena x (i, at) room once p.within cover, same)

-- ---- the call on variables is the call on constants
pub count_variables : (i n : ℕ) → count_of (variables_from i n) ≡ n
count_variables i zero = refl
count_variables i (suc n) = omega (arith, count_variables (suc i) n)

are_variables : (ds : List Definition) (i n : ℕ) → AreTermsOf ds (variables_from i n)
are_variables ds i zero = tt
are_variables ds i (suc n) = (tt, are_variables ds (suc i) n)

pub is_call : (ds : List Definition) (f n : ℕ) → arity_in ds f ≡ Some n → IsTermOf ds (variable_call f n)
is_call ds f n e = (e ∙ ap Some (sym (count_variables 0 n)), are_variables ds 0 n)

no_constants : (i n : ℕ) → constants_of_all (variables_from i n) ≡ []
no_constants i zero = refl
no_constants i (suc n) = no_constants (suc i) n

objects_numbered : (i : ℕ) (xs : List Object) → map (λ (p : ℕ × Object). p.1) (numbered_from i xs) ≡ xs
objects_numbered i [] = refl
objects_numbered i (x ∷ xs) = ap (λ ys. x ∷ ys) (objects_numbered (suc i) xs)

module _ (f : ℕ) (xs : List Object) where
  abbrev on_variables : Exp
  on_variables = variable_call f (length xs)

  abbrev bindings : List (ℕ × Object)
  bindings = numbered_from 0 xs

  pub same_walk : (call : ℕ → Walks → Option Walk) → walk_by call (variable_call f (length xs)) (numbered_from 0 xs) ≡ walk_by call (constant_call f xs) []
  same_walk call =
      ap (λ o. then o (call f)) (variables_walk call 0 xs (numbered_from 0 xs) (λ j x e. numbered_look 0 xs j x e)) ∙ ap (λ o. then o (call f)) (sym (constants_walk call xs []))

  pub same_value : (ds : List Definition) (x : Object) → HasValue ds (numbered_from 0 xs) (variable_call f (length xs)) x → HasValue ds [] (constant_call f xs) x
  same_value ds x h = (h.0, ap (λ o. then o (λ r. Some r.value)) (sym (same_walk (opened ds h.0))) ∙ h.1)

  pub same_wide : (ds : List Definition) → IsWide ds (numbered_from 0 xs) (variable_call f (length xs)) → IsWide ds [] (constant_call f xs)
  same_wide ds h = (h.0, subst (λ o. SomeWide (seen_in o)) (same_walk (opened ds h.0)) h.1)

  same_memoized : (ds : List Definition) (functions : List ℕ) (n : ℕ) → memoized_cost ds functions n (numbered_from 0 xs) (variable_call f (length xs)) ≡ memoized_cost ds functions n [] (constant_call f xs)
  same_memoized ds functions n = λ i. length (seen_in (same_walk (own_opened ds functions n) i)) + sum_by (own_cost_of_call ds functions n) (different call_eq (filter (λ c. is_among functions c.0) (made_in (same_walk (opened ds n) i))))

  same_evaluate : (ds : List Definition) (n : ℕ) → evaluate ds n (numbered_from 0 xs) (variable_call f (length xs)) ≡ evaluate ds n [] (constant_call f xs)
  same_evaluate ds n = ap (λ o. then o (λ r. Some r.value)) (same_walk (opened ds n))

  pub same_dear : (w : WorldSeen) (m : MachineSeen) → IsDear w m.functions (numbered_from 0 xs) (variable_call f (length xs)) m.steps → IsDearCall w m f xs
  same_dear w m h n x e =
      let b = both_give w.definitions h.depth n [] (constant_call f xs) h.value x (sym (same_evaluate w.definitions h.depth) ∙ h.has) e in
      omega (arith, h.more, same_memoized w.definitions m.functions h.depth, memoized_same w.definitions h.depth n [] (constant_call f xs) b m.functions)

  -- the cells of the arguments are the call's
  cells_of_call : (w : WorldSeen) (n : ℕ) (x : Object) → Contains xs x → Contains (world_constants w ++ (constants_of_all (constant_terms xs) ++ seen w.definitions n [] (constant_call f xs))) x
  cells_of_call w n x c =
      Contains-append_right (world_constants w) (constants_of_all (constant_terms xs) ++ seen w.definitions n [] (constant_call f xs)) x
      (Contains-append_left (constants_of_all (constant_terms xs)) (seen w.definitions n [] (constant_call f xs)) x (subst (λ ys. Contains ys x) (sym (constants_are xs)) c))

  pub crowded_by_arguments : (w : WorldSeen) (m : MachineSeen) → m.arena.limit < length (different object_eq (m.arena.objects ++ flat_map cells_in xs)) → IsCrowdedCall w m f xs
  crowded_by_arguments w m h n x e =
      let more = cells w n [] (constant_call f xs) in
      let d = different_within (m.arena.objects ++ flat_map cells_in xs) (m.arena.objects ++ more) (λ y c. elim (Contains-append_cases m.arena.objects (flat_map cells_in xs) y c) [
        | inl k ↦ Contains-append_left m.arena.objects more y k
        | inr k ↦ Contains-append_right m.arena.objects more y (cells_within xs _ (cells_of_call w n) y k)
      ]) in
      omega (arith, h, d)

  -- what the evaluation speaks of in a grown arena, the call speaks of
  pub same_crowded : (w : WorldSeen) (m : MachineSeen) (held : Held) → AreWithin m.arena.objects xs held.objects → held.limit ≡ m.arena.limit → IsCrowded w (numbered_from 0 xs) (variable_call f (length xs)) held.objects held.limit → IsCrowdedCall w m f xs
  same_crowded w m held within limit h n x e =
      let ds = w.definitions in
      let b = both_give ds h.depth n [] (constant_call f xs) h.value x (sym (same_evaluate ds h.depth) ∙ h.has) e in
      let seen_is : seen ds h.depth (numbered_from 0 xs) (variable_call f (length xs)) ≡ seen ds n [] (constant_call f xs) = ap seen_in (same_walk (opened ds h.depth)) ∙ seen_same ds h.depth n [] (constant_call f xs) b in
      let S = seen ds n [] (constant_call f xs) in
      let W = world_constants w in
      let more = cells w n [] (constant_call f xs) in
      let theirs : cells w h.depth (numbered_from 0 xs) (variable_call f (length xs)) ≡ flat_map cells_in (xs ++ (W ++ ([] ++ S))) = λ i. flat_map cells_in (objects_numbered 0 xs i ++ (W ++ (no_constants 0 (length xs) i ++ seen_is i))) in
      let inside : (y : Object) → Contains (xs ++ (W ++ S)) y → Contains (W ++ (constants_of_all (constant_terms xs) ++ S)) y = λ y c. elim (Contains-append_cases xs (W ++ S) y c) [
        | inl k ↦ cells_of_call w n y k
        | inr k ↦ elim (Contains-append_cases W S y k) [
          | inl j ↦ Contains-append_left W (constants_of_all (constant_terms xs) ++ S) y j
          | inr j ↦ Contains-append_right W (constants_of_all (constant_terms xs) ++ S) y (Contains-append_right (constants_of_all (constant_terms xs)) S y j)
        ]
      ] in
      let from_held : (y : Object) → Contains held.objects y → Contains (m.arena.objects ++ more) y = λ y c. elim (within y c) [
        | inl k ↦ Contains-append_left m.arena.objects more y k
        | inr k ↦ Contains-append_right m.arena.objects more y (among_cells _ k.value y (cells_of_call w n k.value (contains_at xs k.seen_value.0 k.value k.seen_value.1)) k.cell)
      ] in
      let d = different_within (held.objects ++ cells w h.depth (numbered_from 0 xs) (variable_call f (length xs))) (m.arena.objects ++ more) (λ y c. elim (Contains-append_cases held.objects (cells w h.depth (numbered_from 0 xs) (variable_call f (length xs))) y c) [
        | inl k ↦ from_held y k
        | inr k ↦ Contains-append_right m.arena.objects more y (cells_within (xs ++ (W ++ S)) _ inside y (subst (λ zs. Contains zs y) theirs k))
      ]) in
      omega (arith, h.more, d, limit)

-- ---- one object, placed in the lent arena
module _ (x : Object) (old : MachineSeen) (lent after : Held) (is : lent ≡ old.arena) (whole : IsWhole old.arena) where
  abbrev next : MachineSeen
  next = record old { arena = after; memos = []; tables = [] }

  settled : (answer : Result Id SobFault) → Places lent after x answer → KeepsSettings old (record old { arena = after; memos = []; tables = [] })
  settled answer p = record { limit = p.limit ∙ ap (λ (h : Held). h.limit) is; steps = refl; functions = refl }

  added : (answer : Result Id SobFault) → Places lent after x answer → AddsCellsOf x old.arena.objects after.objects
  added answer p = subst (λ (h : Held). AddsCellsOf x h.objects after.objects) is p.objects

  fitting : (answer : Result Id SobFault) → Places lent after x answer → (w : WorldSeen) → Fits w old → Fits w (record old { arena = after; memos = []; tables = [] })
  fitting answer p w f = fits_forgetting w old (record old { arena = after; memos = []; tables = [] }) refl refl f

  pub placed_ok : (id : Id) → Places lent after x (Ok id) → PlacesOne x old (record old { arena = after; memos = []; tables = [] }) (Ok id)
  placed_ok id p = record { id = p.id; adds = added (Ok id) p; room = λ e. absurd cc; only = tt; different = whole.different; settings = settled (Ok id) p; fits = fitting (Ok id) p }

  pub placed_full : (answer : Result Id SobFault) → answer ≡ Err sob.Full → Places lent after x answer → PlacesOne x old (record old { arena = after; memos = []; tables = [] }) (Err eval.Cells)
  placed_full answer e p = record { id = tt; adds = added answer p; room = λ q. subst (λ (h : Held). HasNoRoomFor h x) is (p.full e); only = tt; different = whole.different; settings = settled answer p; fits = fitting answer p }

  pub placed_memory : (answer : Result Id SobFault) → Places lent after x answer → PlacesOne x old (record old { arena = after; memos = []; tables = [] }) (Err eval.Memory)
  placed_memory answer p = record { id = tt; adds = added answer p; room = λ e. absurd cc; only = tt; different = whole.different; settings = settled answer p; fits = fitting answer p }

-- ---- what the machine's refusal says of the call
module _ (w : WorldSeen) (m : MachineSeen) (f : ℕ) (xs : List Object) where
  -- of placing
  pub cause_of_placing : (e : EvalFault) → LacksCells xs m e → HasEvalCause w m f xs e
  cause_of_placing eval.Cells h = crowded_by_arguments f xs w m h
  cause_of_placing eval.Memory h = tt
  cause_of_placing eval.Width h = absurd h
  cause_of_placing eval.Steps h = absurd h

  -- of the evaluation
  pub cause_of_eval : (now : MachineSeen) (env : List Binding) (t : Exp) (answer : Result Id EvalFault) (e : EvalFault) → HasPlaced xs m now env → KeepsSettings m now → t ≡ variable_call f (length xs)
      → IsLicensed w now.functions (env_of now.arena.objects env) t now.steps now.arena answer → answer ≡ Err e → HasEvalCause w m f xs e
  cause_of_eval now env t answer eval.Memory p k is h same = tt
  cause_of_eval now env t answer eval.Width p k is h same =
      same_wide f xs w.definitions (subst (λ u. IsWide w.definitions (numbered_from 0 xs) u) is (subst (λ v. IsWide w.definitions v t) p.stands (h.width same)))
  cause_of_eval now env t answer eval.Steps p k is h same =
      let d : IsDear w now.functions (numbered_from 0 xs) (variable_call f (length xs)) now.steps = subst (λ u. IsDear w now.functions (numbered_from 0 xs) u now.steps) is (subst (λ v. IsDear w now.functions v t now.steps) p.stands (h.steps_more same)) in
      same_dear f xs w m (subst (λ s. IsDear w m.functions (numbered_from 0 xs) (variable_call f (length xs)) s) k.steps (subst (λ fs. IsDear w fs (numbered_from 0 xs) (variable_call f (length xs)) now.steps) k.functions d))
  cause_of_eval now env t answer eval.Cells p k is h same =
      same_crowded f xs w m now.arena p.within k.limit
      (subst (λ u. IsCrowded w (numbered_from 0 xs) u now.arena.objects now.arena.limit) is (subst (λ v. IsCrowded w v t now.arena.objects now.arena.limit) p.stands (h.cells_more same)))

-- the value
pub value_of_eval : (ds : List Definition) (f : ℕ) (xs : List Object) (env : List (ℕ × Object)) (t : Exp) (x : Object) → env ≡ numbered_from 0 xs → t ≡ variable_call f (length xs) → HasValue ds env t x → HasValue ds [] (constant_call f xs) x
value_of_eval ds f xs env t x e is h = same_value f xs ds x (subst (λ u. HasValue ds (numbered_from 0 xs) u x) is (subst (λ v. HasValue ds v t x) e h))

-- ---- the loop over the arguments
pub value_place : (f : Sob → Object) (xs : List Sob) (i : ℕ) (d : Sob) → i < length xs → slice_get (map f xs) i ≡ Some (f (get_or xs i d))
value_place f [] i d l = absurd (omega (arith, l))
value_place f (x ∷ xs) zero d l = refl
value_place f (x ∷ xs) (suc i) d l = value_place f xs i d (omega (arith, l))

pub grows_none : (m : MachineSeen) → Grows m m
grows_none m = record { grown = ([], sym (append-nil m.arena.objects)); settings = keeps_same m }

pub grows_more : (x : Object) (old mid new : MachineSeen) (answer : Result Id EvalFault) → Grows old mid → PlacesOne x mid new answer → Grows old new
grows_more x old mid new answer g p = record { grown = grown_more x old.arena.objects mid.arena.objects new.arena.objects g.grown p.adds; settings = keeps_settings old mid new g.settings p.settings }

pub placing_next : (xs : List Object) (old now new : MachineSeen) (env next : List Binding) (i m : ℕ) (x : Object) (b : Binding) (id : Id) → slice_get xs i ≡ Some x → IsPlacing xs old now env i → PlacesOne x now new (Ok id) → next ≡ env ++ b ∷ []
    → b.name.number ≡ i → b.value ≡ id → m ≡ suc i → IsPlacing xs old new next m
placing_next xs old now new env next i m x b id at p one pushed name value count =
    subst (λ (k : ℕ). IsPlacing xs old new next k) (sym count)
    (placing_more xs old now new env next i x b at p one.adds pushed name (subst (λ z. IsIdOf new.arena.objects x z) (sym value) one.id))

pub placing_fault : (xs : List Object) (old now new : MachineSeen) (env : List Binding) (i : ℕ) (x : Object) (e : EvalFault) → slice_get xs i ≡ Some x → IsPlacing xs old now env i → Grows old now → PlacesOne x now new (Err e) → LacksCells xs old e
placing_fault xs old now new env i x eval.Cells at p g one = placing_full xs old now env i x at p (one.room refl) one.different g.settings.limit
placing_fault xs old now new env i x eval.Memory at p g one = tt
placing_fault xs old now new env i x eval.Width at p g one = absurd one.only
placing_fault xs old now new env i x eval.Steps at p g one = absurd one.only
