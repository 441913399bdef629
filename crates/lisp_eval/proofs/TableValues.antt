-- What tables answer is the value of the plain call.
use Rattle.std.proofs.Common.{◌≡◌, ◌∙◌, ap, sym, refl, subst, ℕ, zero, suc, ◌<◌, arith, List, [], ◌∷◌, ◌++◌, length, get_or, Bool, true, false, cond, Option, Some, slice_get}
use Rattle.std.specs.Prelude.{ltb}
use Rattle.std.proofs.lemmas.Bool.{ltb-true}
use Rattle.gl_logic.specs.ConstantCall.{constant_call, constant_terms}
use Rattle.gl_logic.specs.Counts.{is_among}
use Rattle.gl_logic.specs.Definition.{Definition}
use Rattle.gl_logic.specs.Environment.{extended}
use Rattle.gl_logic.specs.Evaluate.{HasValue}
use Rattle.gl_logic.specs.Exp.{Exps, Var, Call, Last, More}
use Rattle.gl_logic.specs.Ground.{ground, ground_definitions}
use Rattle.gl_logic.specs.GroundCalls.{IsGroundIn}
use Rattle.gl_logic.specs.IsGround.{AreGround}
use Rattle.gl_logic.specs.Object.{Object, nil}
use Rattle.gl_logic.specs.Walk.{Walk, Walks, then, ended, joined, walk, walks_by, opened, body_walk}
use Rattle.gl_logic.proofs.GroundCalls.{walks_as_ground}
use Rattle.gl_logic.proofs.Optional.{none_some, some_same, then_inverted}
use Rattle.fast_alists.specs.Alists.{first_pair}
use Rattle.fast_alists.specs.Values.{pair_or_nil, HoldsGround}
use Rattle.fast_alists.proofs.Values.{acons_gives, get_gives, fork_gives}
use Rattle.lisp_eval.specs.CallValue.{IsCallValue}
use Rattle.lisp_eval.specs.Tables.{table_functions, answered_in, table_value}
use Rattle.lisp_eval.proofs.TableAnswers.{among_cases, none_among, ground_count}

-- the body of a call has that value, with some depth
record BodyValue (ds : List Definition) (f : ℕ) (xs : List Object) (y : Object) : Type 0 where
  depth : ℕ
  run : Walk
  runs : body_walk ds depth f xs ≡ Some run
  value : run.value ≡ y

constants_walk : (c : ℕ → Walks → Option Walk) (xs : List Object) → walks_by c (constant_terms xs) [] ≡ Some (record { values = xs; seen = xs; made = [] })
constants_walk c [] = refl
constants_walk c (x ∷ xs) = ap (λ o. then o (joined (record { value = x; seen = x ∷ []; made = [] }))) (constants_walk c xs)

of_opened : (ds : List Definition) (f n : ℕ) (rs : Walks) (r : Walk) (y : Object) → opened ds n f rs ≡ Some r → r.value ≡ y → BodyValue ds f rs.values y
of_opened ds f zero rs r y e v = none_some r e
of_opened ds f (suc n) rs r y e v =
    let i = then_inverted (body_walk ds n f rs.values) _ r e in
    record { depth = n; run = i.0; runs = i.1.0; value = ap (λ (k : Walk). k.value) (some_same _ r i.1.1) ∙ v }

of_value : (ds : List Definition) (f : ℕ) (xs : List Object) (y : Object) → HasValue ds [] (constant_call f xs) y → BodyValue ds f xs y
of_value ds f xs y h =
    let i = then_inverted (walk ds h.0 [] (constant_call f xs)) _ y h.1 in
    of_opened ds f h.0 (record { values = xs; seen = xs; made = [] }) i.0 y (sym (ap (λ o. then o (opened ds h.0 f)) (constants_walk (opened ds h.0) xs)) ∙ i.1.0) (some_same i.0.value y i.1.1)

to_call_value : (ds : List Definition) (f : ℕ) (xs : List Object) (y : Object) → BodyValue ds f xs y → IsCallValue ds f xs y
to_call_value ds f xs y b = record {
  depth = suc b.depth;
  run = record { value = b.run.value; seen = [] ++ b.run.seen ++ b.run.value ∷ []; made = ([] ++ (f, xs) ∷ []) ++ b.run.made };
  runs = ap (λ o. then o (ended [] ([] ++ (f, xs) ∷ []))) b.runs;
  value = b.value;
}

-- ---- arguments that lack are NIL, and more are not looked at
abbrev first : List Object → Object
first xs = get_or xs 0 nil

abbrev second : List Object → Object
second xs = get_or xs 1 nil

abbrev third : List Object → Object
third xs = get_or xs 2 nil

one_bound : (xs : List Object) → extended (0 ∷ []) xs [] ≡ extended (0 ∷ []) (first xs ∷ []) []
one_bound [] = refl
one_bound (x ∷ xs) = refl

two_bound : (xs : List Object) → extended (0 ∷ 1 ∷ []) xs [] ≡ extended (0 ∷ 1 ∷ []) (first xs ∷ second xs ∷ []) []
two_bound [] = refl
two_bound (x ∷ []) = refl
two_bound (x ∷ y ∷ xs) = refl

three_bound : (xs : List Object) → extended (0 ∷ 1 ∷ 2 ∷ []) xs [] ≡ extended (0 ∷ 1 ∷ 2 ∷ []) (first xs ∷ second xs ∷ third xs ∷ []) []
three_bound [] = refl
three_bound (x ∷ []) = refl
three_bound (x ∷ y ∷ []) = refl
three_bound (x ∷ y ∷ z ∷ xs) = refl

abbrev HasFormals : ℕ → List ℕ → Type 0
HasFormals f formals = (d : Definition) × ((slice_get ground_definitions f ≡ Some d) × (d.formals ≡ formals))

same_body : (f n : ℕ) (formals : List ℕ) → HasFormals f formals → (xs ys : List Object) → extended formals xs [] ≡ extended formals ys [] → body_walk ground_definitions n f xs ≡ body_walk ground_definitions n f ys
same_body f n formals h xs ys e =
    let d = h.0 in
    let env : extended d.formals xs [] ≡ extended d.formals ys [] = ap (λ vs. extended vs xs []) h.1.1 ∙ (e ∙ sym (ap (λ vs. extended vs ys []) h.1.1)) in
    ap (λ o. then o (λ (k : Definition). walk ground_definitions n (extended k.formals xs []) k.body)) h.1.0
    ∙ (ap (λ env. walk ground_definitions n env d.body) env ∙ sym (ap (λ o. then o (λ (k : Definition). walk ground_definitions n (extended k.formals ys []) k.body)) h.1.0))

acons_formals : HasFormals 37 (0 ∷ 1 ∷ 2 ∷ [])
unfolding ground
acons_formals = (_, (refl, refl))

get_formals : HasFormals 40 (0 ∷ 1 ∷ [])
unfolding ground
get_formals = (_, (refl, refl))

fork_formals : HasFormals 42 (0 ∷ 1 ∷ [])
unfolding ground
fork_formals = (_, (refl, refl))

-- ---- in a world
module _ (ds : List Definition) (same_ground : AreGround ds) (all : 42 < length ds) where
  is_ground : (f : ℕ) → f < 43 → IsGroundIn ds f
  is_ground f l = record { same_ground = same_ground; there = omega (arith, l, all); is_ground = omega (arith, l, ground_count) }

  holds : HoldsGround ds
  holds = record { same_ground = same_ground; all = all }

  from_exact : (f : ℕ) (formals : List ℕ) → f < 43 → HasFormals f formals → (xs ys : List Object) (y : Object) → extended formals xs [] ≡ extended formals ys [] → HasValue ds [] (constant_call f ys) y → BodyValue ds f xs y
  from_exact f formals l h xs ys y e v =
      let b = of_value ds f ys y v in
      record {
        depth = b.depth;
        run = b.run;
        runs = walks_as_ground ds f (is_ground f l) b.depth xs ∙ (same_body f b.depth formals h xs ys e ∙ (sym (walks_as_ground ds f (is_ground f l) b.depth ys) ∙ b.runs));
        value = b.value;
      }

  get_value : (xs : List Object) → BodyValue ds 40 xs (pair_or_nil (first_pair (first xs) (second xs)))
  get_value xs = from_exact 40 (0 ∷ 1 ∷ []) (omega arith) get_formals xs (first xs ∷ second xs ∷ []) _ (two_bound xs) (get_gives ds holds (first xs) (second xs))

  abbrev IsRight : ℕ → Type 0
  IsRight f = (xs : List Object) → IsCallValue ds f xs (table_value f (first xs) (second xs) (third xs))

  acons_right : IsRight 37
  acons_right xs = to_call_value ds 37 xs _ (from_exact 37 (0 ∷ 1 ∷ 2 ∷ []) (omega arith) acons_formals xs (first xs ∷ second xs ∷ third xs ∷ []) _ (three_bound xs) (acons_gives ds holds (first xs) (second xs) (third xs)))

  get_right : IsRight 40
  get_right xs = to_call_value ds 40 xs _ (get_value xs)

  fork_right : IsRight 42
  fork_right xs = to_call_value ds 42 xs _ (from_exact 42 (0 ∷ 1 ∷ []) (omega arith) fork_formals xs (first xs ∷ second xs ∷ []) _ (two_bound xs) (fork_gives ds holds (first xs) (second xs)))

  -- the first argument itself
  itself : (f : ℕ) → f < 43 → (d : Definition) → slice_get ground_definitions f ≡ Some d → d.formals ≡ 0 ∷ [] → d.body ≡ Var 0 → (xs : List Object) → BodyValue ds f xs (first xs)
  itself f l d there formals body xs = record {
    depth = 0;
    run = record { value = first xs; seen = first xs ∷ []; made = [] };
    runs = walks_as_ground ds f (is_ground f l) 0 xs ∙ (ap (λ o. then o (λ (k : Definition). walk ground_definitions 0 (extended k.formals xs []) k.body)) there ∙ ((λ j. walk ground_definitions 0 (extended (formals j) xs []) (body j)) ∙ ap (λ env. walk ground_definitions 0 env (Var 0)) (one_bound xs)));
    value = refl;
  }

  make_right : IsRight 38
  unfolding ground
  make_right xs = to_call_value ds 38 xs _ (itself 38 (omega arith) _ refl refl refl xs)

  free_right : IsRight 39
  unfolding ground
  free_right xs = to_call_value ds 39 xs _ (itself 39 (omega arith) _ refl refl refl xs)

  -- hons-get calls hons-assoc-equal
  abbrev two_first : Exps
  two_first = More (Var 0) (More (Var 1) Last)

  abbrev get_env : Object → Object → List (ℕ × Object)
  get_env x y = extended (0 ∷ 1 ∷ []) (x ∷ y ∷ []) []

  hons_get_walk : (n : ℕ) (x y : Object) (r : Walk) → body_walk ground_definitions n 40 (x ∷ y ∷ []) ≡ Some r
      → walk ground_definitions (suc n) (get_env x y) (Call 40 two_first) ≡ ended (x ∷ y ∷ []) ([] ++ (40, x ∷ y ∷ []) ∷ []) r
  hons_get_walk n x y r e = ap (λ o. then o (ended (x ∷ y ∷ []) ([] ++ (40, x ∷ y ∷ []) ∷ []))) e

  hons_get_there : (d : Definition) × ((slice_get ground_definitions 41 ≡ Some d) × ((d.formals ≡ 0 ∷ 1 ∷ []) × (d.body ≡ Call 40 two_first)))
  unfolding ground
  hons_get_there = (_, (refl, (refl, refl)))

  hons_get_right : IsRight 41
  hons_get_right xs =
      let b = get_value (first xs ∷ second xs ∷ []) in
      let h = hons_get_there in
      let as_ground : body_walk ground_definitions b.depth 40 (first xs ∷ second xs ∷ []) ≡ Some b.run = sym (walks_as_ground ds 40 (is_ground 40 (omega arith)) b.depth (first xs ∷ second xs ∷ [])) ∙ b.runs in
      to_call_value ds 41 xs _ (record {
        depth = suc b.depth;
        run = record { value = b.run.value; seen = (first xs ∷ second xs ∷ []) ++ b.run.seen ++ b.run.value ∷ []; made = ([] ++ (40, first xs ∷ second xs ∷ []) ∷ []) ++ b.run.made };
        runs = walks_as_ground ds 41 (is_ground 41 (omega arith)) (suc b.depth) xs
            ∙ (ap (λ o. then o (λ (k : Definition). walk ground_definitions (suc b.depth) (extended k.formals xs []) k.body)) h.1.0
            ∙ ((λ j. walk ground_definitions (suc b.depth) (extended (h.1.1.0 j) xs []) (h.1.1.1 j))
            ∙ (ap (λ env. walk ground_definitions (suc b.depth) env (Call 40 two_first)) (two_bound xs) ∙ hons_get_walk b.depth (first xs) (second xs) b.run as_ground)));
        value = b.value;
      })

  at : (k f : ℕ) → IsRight k → f ≡ k → IsRight f
  at k f h e = subst IsRight (sym e) h

  pub right_of : (f : ℕ) → is_among table_functions f ≡ true → IsRight f
  right_of f h =
      among_cases 37 f (38 ∷ 39 ∷ 40 ∷ 41 ∷ 42 ∷ []) h (at 37 f acons_right) (λ h. among_cases 38 f (39 ∷ 40 ∷ 41 ∷ 42 ∷ []) h (at 38 f make_right) (λ h. among_cases 39 f (40 ∷ 41 ∷ 42 ∷ []) h (at 39 f free_right) (λ h. among_cases 40 f (41 ∷ 42 ∷ []) h (at 40 f get_right)
      (λ h. among_cases 41 f (42 ∷ []) h (at 41 f hons_get_right) (λ h. among_cases 42 f [] h (at 42 f fork_right) (none_among f))))))

right_by : (ds : List Definition) → AreGround ds → (f : ℕ) (b : Bool) → ltb 42 (length ds) ≡ b → is_among (cond b table_functions []) f ≡ true → (xs : List Object) → IsCallValue ds f xs (table_value f (get_or xs 0 nil) (get_or xs 1 nil) (get_or xs 2 nil))
right_by ds same_ground f true e h xs = right_of ds same_ground (ltb-true 42 (length ds) e) f h xs
right_by ds same_ground f false e h xs = none_among f h

pub tables_are_right : (ds : List Definition) → AreGround ds → (f : ℕ) → is_among (answered_in ds) f ≡ true → (xs : List Object) → IsCallValue ds f xs (table_value f (get_or xs 0 nil) (get_or xs 1 nil) (get_or xs 2 nil))
tables_are_right ds same_ground f h xs = right_by ds same_ground f (ltb 42 (length ds)) refl h xs
