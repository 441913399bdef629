-- The definitions of association lists, run.
use Rattle.std.proofs.Common.{◌≡◌, ◌∙◌, ap, sym, refl, subst, ℕ, ◌<◌, List, [], ◌∷◌, length, Bool, true, false, not, cond, is_some, Option, Some, None, slice_get, arith}
use Rattle.gl_logic.specs.Object.{Object, Int, Character, Symbol, Text, Cons, nil, boolean_object}
use Rattle.gl_logic.specs.ObjectEq.{is_nil}
use Rattle.gl_logic.specs.Environment.{extended}
use Rattle.gl_logic.specs.Definition.{Definition}
use Rattle.gl_logic.specs.ConstantCall.{constant_call, constant_terms}
use Rattle.gl_logic.specs.Evaluate.{HasValue}
use Rattle.gl_logic.specs.Exp.{Exp, Exps, Var, Const, If, Prim, Call, Last, More}
use Rattle.gl_logic.specs.Ground.{ground, ground_definitions}
use Rattle.gl_logic.specs.GroundCalls.{IsGroundIn}
use Rattle.gl_logic.specs.PrimValue.{is_cons}
use Rattle.gl_logic.specs.Walk.{Walk, then}
use Rattle.gl_logic.specs.declared.prim.Primitive.TheVariants as prim
use Rattle.gl_logic.proofs.GroundCalls.{constant_call_as_ground}
use Rattle.fast_alists.specs.Alists.{has_key, first_pair, with_pair, forked, with_key}
use Rattle.fast_alists.specs.Values.{pair_or_nil, HoldsGround, AconsGives, GetGives, ForkGives}
use Rattle.fast_alists.proofs.Running.{To, to_last, to_more, to_then, to_else, to_call, to_simple, all_to_simple, to_constants}

abbrev at_two : Object → Object → List (ℕ × Object)
at_two x y = extended (0 ∷ 1 ∷ []) (x ∷ y ∷ []) []

abbrev one : Exp → Exps
one t = More t Last

abbrev two : Exp → Exp → Exps
two t u = More t (More u Last)

-- ---- atom
abbrev atom_definition : Definition
atom_definition = record { name = 0; formals = 0 ∷ []; body = Prim prim.Not (one (Prim prim.Consp (one (Var 0)))); measure = None }

atom_there : slice_get ground_definitions 0 ≡ Some atom_definition
unfolding ground
atom_there = refl

to_atom : (env : List (ℕ × Object)) (t : Exp) (x : Object) → To ground_definitions env t x → To ground_definitions env (Call 0 (one t)) (boolean_object (is_nil (boolean_object (is_cons x))))
to_atom env t x r = to_call ground_definitions env 0 (one t) atom_definition (x ∷ []) _ atom_there (to_more ground_definitions env t Last x [] r (to_last ground_definitions env)) (to_simple ground_definitions (extended (0 ∷ []) (x ∷ []) []) atom_definition.body refl)

-- ---- hons-assoc-equal
abbrev get_test : Exp
get_test = If (Prim prim.Consp (one (Prim prim.Car (one (Var 1))))) (Prim prim.Equal (two (Var 0) (Prim prim.Car (one (Prim prim.Car (one (Var 1))))))) (Const nil)

abbrev get_again : Exp
get_again = Call 40 (two (Var 0) (Prim prim.Cdr (one (Var 1))))

abbrev get_rest : Exp
get_rest = If get_test (Prim prim.Car (one (Var 1))) get_again

abbrev get_body : Exp
get_body = If (Call 0 (one (Var 1))) (Const nil) get_rest

abbrev get_definition : Definition
get_definition = record { name = 0; formals = 0 ∷ 1 ∷ []; body = get_body; measure = None }

get_there : slice_get ground_definitions 40 ≡ Some get_definition
unfolding ground
get_there = refl

abbrev GetRuns : Object → Object → Type 0
GetRuns key alist = To ground_definitions (at_two key alist) get_body (pair_or_nil (first_pair key alist))

get_atom : (key alist : Object) → is_cons alist ≡ false → first_pair key alist ≡ None → GetRuns key alist
get_atom key alist h e = subst (λ (o : Option Object). To ground_definitions (at_two key alist) get_body (pair_or_nil o)) (sym e)
    (to_then ground_definitions (at_two key alist) (Call 0 (one (Var 1))) (Const nil) get_rest _ nil (to_atom (at_two key alist) (Var 1) alist (to_simple ground_definitions (at_two key alist) (Var 1) refl))
    (ap (λ b. is_nil (boolean_object (is_nil (boolean_object b)))) h) (to_simple ground_definitions (at_two key alist) (Const nil) refl))

get_next : (key x rest : Object) → GetRuns key rest → To ground_definitions (at_two key (Cons x rest)) get_again (pair_or_nil (first_pair key rest))
get_next key x rest r = to_call ground_definitions (at_two key (Cons x rest)) 40 _ get_definition (key ∷ rest ∷ []) _ get_there (all_to_simple ground_definitions (at_two key (Cons x rest)) (two (Var 0) (Prim prim.Cdr (one (Var 1)))) refl) r

get_inside : (key x rest y : Object) → To ground_definitions (at_two key (Cons x rest)) get_rest y → To ground_definitions (at_two key (Cons x rest)) get_body y
get_inside key x rest y r = to_else ground_definitions (at_two key (Cons x rest)) (Call 0 (one (Var 1))) (Const nil) get_rest _ y (to_atom (at_two key (Cons x rest)) (Var 1) (Cons x rest) (to_simple ground_definitions (at_two key (Cons x rest)) (Var 1) refl)) refl r

test_runs : (key x rest : Object) → To ground_definitions (at_two key (Cons x rest)) get_test (boolean_object (has_key key x))
test_runs key (Int z) rest = to_simple ground_definitions (at_two key (Cons (Int z) rest)) get_test refl
test_runs key (Character n) rest = to_simple ground_definitions (at_two key (Cons (Character n) rest)) get_test refl
test_runs key (Symbol n) rest = to_simple ground_definitions (at_two key (Cons (Symbol n) rest)) get_test refl
test_runs key (Text n) rest = to_simple ground_definitions (at_two key (Cons (Text n) rest)) get_test refl
test_runs key (Cons k v) rest = to_simple ground_definitions (at_two key (Cons (Cons k v) rest)) get_test refl

get_by : (key x rest : Object) (b : Bool) → has_key key x ≡ b → GetRuns key rest → To ground_definitions (at_two key (Cons x rest)) get_rest (pair_or_nil (cond b (Some x) (first_pair key rest)))
get_by key x rest true e r = to_then ground_definitions (at_two key (Cons x rest)) get_test (Prim prim.Car (one (Var 1))) get_again (boolean_object (has_key key x)) x (test_runs key x rest) (ap (λ b. is_nil (boolean_object b)) e) (to_simple ground_definitions (at_two key (Cons x rest)) (Prim prim.Car (one (Var 1))) refl)
get_by key x rest false e r = to_else ground_definitions (at_two key (Cons x rest)) get_test (Prim prim.Car (one (Var 1))) get_again (boolean_object (has_key key x)) (pair_or_nil (first_pair key rest)) (test_runs key x rest) (ap (λ b. is_nil (boolean_object b)) e) (get_next key x rest r)

get_runs : (key alist : Object) → GetRuns key alist
get_runs key (Int z) = get_atom key (Int z) refl refl
get_runs key (Character n) = get_atom key (Character n) refl refl
get_runs key (Symbol n) = get_atom key (Symbol n) refl refl
get_runs key (Text n) = get_atom key (Text n) refl refl
get_runs key (Cons x rest) = get_inside key x rest _ (get_by key x rest (has_key key x) refl (get_runs key rest))

-- ---- fast-alist-fork
abbrev fork_same : Exp
fork_same = Call 42 (two (Prim prim.Cdr (one (Var 0))) (Var 1))

abbrev fork_more : Exp
fork_more = Call 42 (two (Prim prim.Cdr (one (Var 0))) (Prim prim.Cons (two (Prim prim.Car (one (Var 0))) (Var 1))))

abbrev fork_found : Exp
fork_found = Call 40 (two (Prim prim.Car (one (Prim prim.Car (one (Var 0))))) (Var 1))

abbrev fork_pair : Exp
fork_pair = If fork_found fork_same fork_more

abbrev fork_rest : Exp
fork_rest = If (Call 0 (one (Prim prim.Car (one (Var 0))))) fork_same fork_pair

abbrev fork_body : Exp
fork_body = If (Call 0 (one (Var 0))) (Var 1) fork_rest

abbrev fork_definition : Definition
fork_definition = record { name = 0; formals = 0 ∷ 1 ∷ []; body = fork_body; measure = None }

fork_there : slice_get ground_definitions 42 ≡ Some fork_definition
unfolding ground
fork_there = refl

abbrev ForkRuns : Object → Object → Type 0
ForkRuns alist ans = To ground_definitions (at_two alist ans) fork_body (forked alist ans)

fork_atom : (alist ans : Object) → is_cons alist ≡ false → forked alist ans ≡ ans → ForkRuns alist ans
fork_atom alist ans h e = subst (λ (y : Object). To ground_definitions (at_two alist ans) fork_body y) (sym e)
    (to_then ground_definitions (at_two alist ans) (Call 0 (one (Var 0))) (Var 1) fork_rest _ ans (to_atom (at_two alist ans) (Var 0) alist (to_simple ground_definitions (at_two alist ans) (Var 0) refl))
    (ap (λ b. is_nil (boolean_object (is_nil (boolean_object b)))) h) (to_simple ground_definitions (at_two alist ans) (Var 1) refl))

fork_inside : (x rest ans y : Object) → To ground_definitions (at_two (Cons x rest) ans) fork_rest y → To ground_definitions (at_two (Cons x rest) ans) fork_body y
fork_inside x rest ans y r = to_else ground_definitions (at_two (Cons x rest) ans) (Call 0 (one (Var 0))) (Var 1) fork_rest _ y (to_atom (at_two (Cons x rest) ans) (Var 0) (Cons x rest) (to_simple ground_definitions (at_two (Cons x rest) ans) (Var 0) refl)) refl r

same_runs : (x rest ans : Object) → ForkRuns rest ans → To ground_definitions (at_two (Cons x rest) ans) fork_same (forked rest ans)
same_runs x rest ans r = to_call ground_definitions (at_two (Cons x rest) ans) 42 _ fork_definition (rest ∷ ans ∷ []) _ fork_there (all_to_simple ground_definitions (at_two (Cons x rest) ans) (two (Prim prim.Cdr (one (Var 0))) (Var 1)) refl) r

more_runs : (x rest ans : Object) → ForkRuns rest (Cons x ans) → To ground_definitions (at_two (Cons x rest) ans) fork_more (forked rest (Cons x ans))
more_runs x rest ans r = to_call ground_definitions (at_two (Cons x rest) ans) 42 _ fork_definition (rest ∷ Cons x ans ∷ []) _ fork_there (all_to_simple ground_definitions (at_two (Cons x rest) ans) (two (Prim prim.Cdr (one (Var 0))) (Prim prim.Cons (two (Prim prim.Car (one (Var 0))) (Var 1)))) refl) r

car_atom : (x rest ans : Object) → To ground_definitions (at_two (Cons x rest) ans) (Call 0 (one (Prim prim.Car (one (Var 0))))) (boolean_object (is_nil (boolean_object (is_cons x))))
car_atom x rest ans = to_atom (at_two (Cons x rest) ans) (Prim prim.Car (one (Var 0))) x (to_simple ground_definitions (at_two (Cons x rest) ans) (Prim prim.Car (one (Var 0))) refl)

fork_passed : (x rest ans : Object) → is_cons x ≡ false → ForkRuns rest ans → To ground_definitions (at_two (Cons x rest) ans) fork_rest (forked rest ans)
fork_passed x rest ans h r = to_then ground_definitions (at_two (Cons x rest) ans) (Call 0 (one (Prim prim.Car (one (Var 0))))) fork_same fork_pair _ (forked rest ans) (car_atom x rest ans) (ap (λ b. is_nil (boolean_object (is_nil (boolean_object b)))) h) (same_runs x rest ans r)

found_runs : (k v rest ans : Object) → To ground_definitions (at_two (Cons (Cons k v) rest) ans) fork_found (pair_or_nil (first_pair k ans))
found_runs k v rest ans = to_call ground_definitions (at_two (Cons (Cons k v) rest) ans) 40 _ get_definition (k ∷ ans ∷ []) _ get_there (all_to_simple ground_definitions (at_two (Cons (Cons k v) rest) ans) (two (Prim prim.Car (one (Prim prim.Car (one (Var 0))))) (Var 1)) refl) (get_runs k ans)

-- a pair is not NIL
key_pair : (key x : Object) → has_key key x ≡ true → is_nil x ≡ false
key_pair key (Int z) h = absurd cc
key_pair key (Character n) h = absurd cc
key_pair key (Symbol n) h = absurd cc
key_pair key (Text n) h = absurd cc
key_pair key (Cons k v) h = refl

abbrev NilOrPair : Option Object → Type 0
NilOrPair o = is_nil (pair_or_nil o) ≡ not (is_some o)

first_by : (key x : Object) (b : Bool) (o : Option Object) → has_key key x ≡ b → NilOrPair o → NilOrPair (cond b (Some x) o)
first_by key x true o h e = key_pair key x h
first_by key x false o h e = e

nil_or_pair : (key alist : Object) → NilOrPair (first_pair key alist)
nil_or_pair key (Int z) = refl
nil_or_pair key (Character n) = refl
nil_or_pair key (Symbol n) = refl
nil_or_pair key (Text n) = refl
nil_or_pair key (Cons x rest) = first_by key x (has_key key x) (first_pair key rest) refl (nil_or_pair key rest)

fork_by : (k v rest ans : Object) (b : Bool) → is_some (first_pair k ans) ≡ b → ForkRuns rest ans → ForkRuns rest (Cons (Cons k v) ans) → To ground_definitions (at_two (Cons (Cons k v) rest) ans) fork_pair (forked rest (cond b ans (Cons (Cons k v) ans)))
fork_by k v rest ans true e r s = to_then ground_definitions (at_two (Cons (Cons k v) rest) ans) fork_found fork_same fork_more (pair_or_nil (first_pair k ans)) (forked rest ans) (found_runs k v rest ans) (nil_or_pair k ans ∙ ap not e) (same_runs (Cons k v) rest ans r)
fork_by k v rest ans false e r s = to_else ground_definitions (at_two (Cons (Cons k v) rest) ans) fork_found fork_same fork_more (pair_or_nil (first_pair k ans)) (forked rest (Cons (Cons k v) ans)) (found_runs k v rest ans) (nil_or_pair k ans ∙ ap not e) (more_runs (Cons k v) rest ans s)

fork_at : (x rest ans : Object) → ((y : Object) → ForkRuns rest y) → To ground_definitions (at_two (Cons x rest) ans) fork_rest (forked rest (with_pair x ans))
fork_at (Int z) rest ans r = fork_passed (Int z) rest ans refl (r ans)
fork_at (Character n) rest ans r = fork_passed (Character n) rest ans refl (r ans)
fork_at (Symbol n) rest ans r = fork_passed (Symbol n) rest ans refl (r ans)
fork_at (Text n) rest ans r = fork_passed (Text n) rest ans refl (r ans)
fork_at (Cons k v) rest ans r = to_else ground_definitions (at_two (Cons (Cons k v) rest) ans) (Call 0 (one (Prim prim.Car (one (Var 0))))) fork_same fork_pair _ _ (car_atom (Cons k v) rest ans) refl
    (fork_by k v rest ans (is_some (first_pair k ans)) refl (r ans) (r (Cons (Cons k v) ans)))

fork_runs : (alist ans : Object) → ForkRuns alist ans
fork_runs (Int z) ans = fork_atom (Int z) ans refl refl
fork_runs (Character n) ans = fork_atom (Character n) ans refl refl
fork_runs (Symbol n) ans = fork_atom (Symbol n) ans refl refl
fork_runs (Text n) ans = fork_atom (Text n) ans refl refl
fork_runs (Cons x rest) ans = fork_inside x rest ans _ (fork_at x rest ans (fork_runs rest))

-- ---- hons-acons
abbrev acons_definition : Definition
acons_definition = record { name = 0; formals = 0 ∷ 1 ∷ 2 ∷ []; body = Prim prim.Cons (two (Prim prim.Cons (two (Var 0) (Var 1))) (Var 2)); measure = None }

acons_there : slice_get ground_definitions 37 ≡ Some acons_definition
unfolding ground
acons_there = refl

acons_runs : (key value alist : Object) → To ground_definitions (extended (0 ∷ 1 ∷ 2 ∷ []) (key ∷ value ∷ alist ∷ []) []) acons_definition.body (with_key key value alist)
acons_runs key value alist = to_simple ground_definitions (extended (0 ∷ 1 ∷ 2 ∷ []) (key ∷ value ∷ alist ∷ []) []) acons_definition.body refl

-- ---- in each world
ground_count : length ground ≡ 43
unfolding ground
ground_count = refl

module _ (definitions : List Definition) (holds : HoldsGround definitions) where
  is_ground : (f : ℕ) → f < 43 → IsGroundIn definitions f
  is_ground f l = record { same_ground = holds.same_ground; there = omega (arith, l, holds.all); is_ground = omega (arith, l, ground_count) }

  value_in_world : (f : ℕ) (d : Definition) (xs : List Object) (y : Object) → f < 43 → slice_get ground_definitions f ≡ Some d → To ground_definitions (extended d.formals xs []) d.body y → HasValue definitions [] (constant_call f xs) y
  value_in_world f d xs y l e r =
      let c = to_call ground_definitions [] f (constant_terms xs) d xs y e (to_constants ground_definitions [] xs) r in
      (c.depth, ap (λ o. then o (λ (w : Walk). Some w.value)) (constant_call_as_ground definitions f (is_ground f l) c.depth [] xs ∙ c.walks))

  pub acons_gives : (key value alist : Object) → AconsGives definitions key value alist (with_key key value alist)
  acons_gives key value alist = value_in_world 37 acons_definition (key ∷ value ∷ alist ∷ []) (with_key key value alist) (omega arith) acons_there (acons_runs key value alist)

  pub get_gives : (key alist : Object) → GetGives definitions key alist (pair_or_nil (first_pair key alist))
  get_gives key alist = value_in_world 40 get_definition (key ∷ alist ∷ []) (pair_or_nil (first_pair key alist)) (omega arith) get_there (get_runs key alist)

  pub fork_gives : (alist ans : Object) → ForkGives definitions alist ans (forked alist ans)
  fork_gives alist ans = value_in_world 42 fork_definition (alist ∷ ans ∷ []) (forked alist ans) (omega arith) fork_there (fork_runs alist ans)
