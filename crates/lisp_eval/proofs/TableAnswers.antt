-- The six functions that tables answer: their definitions see nothing wide where no part of their arguments is.
use Rattle.std.proofs.Common.{◌≡◌, ◌∙◌, ap, sym, refl, subst, ℕ, zero, suc, ◌<◌, arith, List, [], ◌∷◌, length, get_or, Bool, true, false, ◌||◌, eqb, cond, None, Some, slice_get, inl, inr}
use Rattle.std.proofs.lemmas.Bool.{or_cases, eqb-true, ltb-true}
use Rattle.std.specs.Prelude.{ltb}
use Rattle.gl_logic.specs.Counts.{is_among}
use Rattle.gl_logic.specs.Definition.{Definition}
use Rattle.gl_logic.specs.Every.{Every}
use Rattle.gl_logic.specs.Exp.{Exp, Exps, Var, Const, If, Prim, Call, Last, More}
use Rattle.gl_logic.specs.Ground.{ground, ground_definitions}
use Rattle.gl_logic.specs.GroundCalls.{IsGroundIn}
use Rattle.gl_logic.specs.IsGround.{AreGround}
use Rattle.gl_logic.specs.Object.{Object, Int, Character, Symbol, Text, Cons, nil, car, cdr, boolean_object}
use Rattle.gl_logic.specs.Walk.{then, walk, body_walk}
use Rattle.gl_logic.specs.Wide.{IsWideObject}
use Rattle.gl_logic.specs.declared.prim.Primitive as primitive
use Rattle.gl_logic.specs.declared.prim.Primitive.TheVariants as prim
use Rattle.gl_logic.proofs.GroundCalls.{walks_as_ground}
use Rattle.gl_logic.proofs.Optional.{some_same, then_inverted}
use Rattle.lisp_eval.specs.Narrow.{IsNarrow}
use Rattle.lisp_eval.specs.Tables.{table_functions, answered_in}
use Rattle.lisp_eval.proofs.Cover.{AnswersAreFine}
use Rattle.lisp_eval.proofs.Structural.{KeepsFine, IsStructural, answers_are_fine}

pub deep_narrow : (x : Object) → IsNarrow x → IsWideObject x → ⊥
deep_narrow (Int z) h w = h w
deep_narrow (Character n) h w = w
deep_narrow (Symbol n) h w = w
deep_narrow (Text n) h w = w
deep_narrow (Cons a d) h w = w

-- ---- what primitives keep
every_get : (xs : List Object) (i : ℕ) → Every IsNarrow xs → IsNarrow (get_or xs i nil)
every_get [] i h = tt
every_get (x ∷ xs) zero h = h.0
every_get (x ∷ xs) (suc i) h = every_get xs i h.1

boolean_deep : (b : Bool) → IsNarrow (boolean_object b)
boolean_deep true = tt
boolean_deep false = tt

car_deep : (x : Object) → IsNarrow x → IsNarrow (car x)
car_deep (Int z) h = tt
car_deep (Character n) h = tt
car_deep (Symbol n) h = tt
car_deep (Text n) h = tt
car_deep (Cons a d) h = h.0

cdr_deep : (x : Object) → IsNarrow x → IsNarrow (cdr x)
cdr_deep (Int z) h = tt
cdr_deep (Character n) h = tt
cdr_deep (Symbol n) h = tt
cdr_deep (Text n) h = tt
cdr_deep (Cons a d) h = h.1

abbrev Keeps : primitive.Primitive → Type 0
Keeps p = KeepsFine IsNarrow tt p

keeps_car : Keeps prim.Car
keeps_car xs h = car_deep (get_or xs 0 nil) (every_get xs 0 h)

keeps_cdr : Keeps prim.Cdr
keeps_cdr xs h = cdr_deep (get_or xs 0 nil) (every_get xs 0 h)

keeps_cons : Keeps prim.Cons
keeps_cons xs h = (every_get xs 0 h, every_get xs 1 h)

keeps_consp : Keeps prim.Consp
keeps_consp xs h = boolean_deep _

keeps_equal : Keeps prim.Equal
keeps_equal xs h = boolean_deep _

keeps_not : Keeps prim.Not
keeps_not xs h = boolean_deep _

-- ---- the definitions
abbrev structural : List ℕ
structural = 0 ∷ 37 ∷ 38 ∷ 39 ∷ 40 ∷ 41 ∷ 42 ∷ []

abbrev one : Exp → Exps
one t = More t Last

abbrev two : Exp → Exp → Exps
two t u = More t (More u Last)

abbrev IsFineBody : ℕ → Type 0
IsFineBody f = (d : Definition) → slice_get ground_definitions f ≡ Some d → IsStructural IsNarrow tt structural d.body

body_is : (f : ℕ) (d : Definition) → slice_get ground_definitions f ≡ Some d → IsStructural IsNarrow tt structural d.body → IsFineBody f
body_is f d there s e at = subst (λ (k : Definition). IsStructural IsNarrow tt structural k.body) (some_same d e (sym there ∙ at)) s

abbrev defined : List ℕ → Exp → Definition
defined formals body = record { name = 0; formals = formals; body = body; measure = None }

atom_fine : IsFineBody 0
unfolding ground
atom_fine = body_is 0 (defined (0 ∷ []) (Prim prim.Not (one (Prim prim.Consp (one (Var 0)))))) refl (keeps_not, ((keeps_consp, (tt, tt)), tt))

acons_fine : IsFineBody 37
unfolding ground
acons_fine = body_is 37 (defined (0 ∷ 1 ∷ 2 ∷ []) (Prim prim.Cons (two (Prim prim.Cons (two (Var 0) (Var 1))) (Var 2)))) refl (keeps_cons, ((keeps_cons, (tt, (tt, tt))), (tt, tt)))

make_fine : IsFineBody 38
unfolding ground
make_fine = body_is 38 (defined (0 ∷ []) (Var 0)) refl tt

free_fine : IsFineBody 39
unfolding ground
free_fine = body_is 39 (defined (0 ∷ []) (Var 0)) refl tt

abbrev get_body : Exp
get_body = If (Call 0 (one (Var 1))) (Const nil) (If (If (Prim prim.Consp (one (Prim prim.Car (one (Var 1))))) (Prim prim.Equal (two (Var 0) (Prim prim.Car (one (Prim prim.Car (one (Var 1))))))) (Const nil)) (Prim prim.Car (one (Var 1))) (Call 40 (two (Var 0) (Prim prim.Cdr (one (Var 1))))))

get_fine : IsFineBody 40
unfolding ground
get_fine = body_is 40 (defined (0 ∷ 1 ∷ []) get_body) refl
    ((refl, (tt, tt)), (tt, (((keeps_consp, ((keeps_car, (tt, tt)), tt)), ((keeps_equal, (tt, ((keeps_car, ((keeps_car, (tt, tt)), tt)), tt))), tt)), ((keeps_car, (tt, tt)), (refl, (tt, ((keeps_cdr, (tt, tt)), tt)))))))

hons_get_fine : IsFineBody 41
unfolding ground
hons_get_fine = body_is 41 (defined (0 ∷ 1 ∷ []) (Call 40 (two (Var 0) (Var 1)))) refl (refl, (tt, (tt, tt)))

abbrev fork_same : Exp
fork_same = Call 42 (two (Prim prim.Cdr (one (Var 0))) (Var 1))

abbrev fork_more : Exp
fork_more = Call 42 (two (Prim prim.Cdr (one (Var 0))) (Prim prim.Cons (two (Prim prim.Car (one (Var 0))) (Var 1))))

abbrev fork_body : Exp
fork_body = If (Call 0 (one (Var 0))) (Var 1) (If (Call 0 (one (Prim prim.Car (one (Var 0))))) fork_same (If (Call 40 (two (Prim prim.Car (one (Prim prim.Car (one (Var 0))))) (Var 1))) fork_same fork_more))

same_fine : IsStructural IsNarrow tt structural fork_same
same_fine = (refl, ((keeps_cdr, (tt, tt)), (tt, tt)))

fork_fine : IsFineBody 42
unfolding ground
fork_fine = body_is 42 (defined (0 ∷ 1 ∷ []) fork_body) refl
    ((refl, (tt, tt)), (tt, ((refl, ((keeps_car, (tt, tt)), tt)), (same_fine, ((refl, ((keeps_car, ((keeps_car, (tt, tt)), tt)), (tt, tt))), (same_fine, (refl, ((keeps_cdr, (tt, tt)), ((keeps_cons, ((keeps_car, (tt, tt)), (tt, tt))), tt)))))))))

-- ---- each of them
pub among_cases : {P : Type 0} (k f : ℕ) (ks : List ℕ) → is_among (k ∷ ks) f ≡ true → (f ≡ k → P) → (is_among ks f ≡ true → P) → P
among_cases k f ks h g i = elim (or_cases (eqb f k) (is_among ks f) h) [
  | inl e ↦ g (eqb-true f k e)
  | inr e ↦ i e
]

pub none_among : {P : Type 0} (f : ℕ) → is_among [] f ≡ true → P
none_among f h = absurd cc

at : (k f : ℕ) → IsFineBody k → f ≡ k → IsFineBody f
at k f h e = subst IsFineBody (sym e) h

bodies : (f : ℕ) (d : Definition) → is_among structural f ≡ true → slice_get ground_definitions f ≡ Some d → IsStructural IsNarrow tt structural d.body
bodies f d h = each f h d where
  each : (f : ℕ) → is_among structural f ≡ true → IsFineBody f
  each f h =
      among_cases 0 f (37 ∷ 38 ∷ 39 ∷ 40 ∷ 41 ∷ 42 ∷ []) h (at 0 f atom_fine) (λ h. among_cases 37 f (38 ∷ 39 ∷ 40 ∷ 41 ∷ 42 ∷ []) h (at 37 f acons_fine) (λ h. among_cases 38 f (39 ∷ 40 ∷ 41 ∷ 42 ∷ []) h (at 38 f make_fine) (λ h. among_cases 39 f (40 ∷ 41 ∷ 42 ∷ []) h (at 39 f free_fine)
      (λ h. among_cases 40 f (41 ∷ 42 ∷ []) h (at 40 f get_fine) (λ h. among_cases 41 f (42 ∷ []) h (at 41 f hons_get_fine) (λ h. among_cases 42 f [] h (at 42 f fork_fine) (none_among f)))))))

or_second : (a b : Bool) → b ≡ true → (a || b) ≡ true
or_second true b h = refl
or_second false b h = h

pub ground_count : length ground ≡ 43
unfolding ground
ground_count = refl

pub small : (f : ℕ) → is_among table_functions f ≡ true → f < 43
small f h =
    let below : (k : ℕ) → k < 43 → f ≡ k → f < 43 = λ k l e. omega (arith, l, e) in
    among_cases 37 f (38 ∷ 39 ∷ 40 ∷ 41 ∷ 42 ∷ []) h (below 37 (omega arith)) (λ h. among_cases 38 f (39 ∷ 40 ∷ 41 ∷ 42 ∷ []) h (below 38 (omega arith)) (λ h. among_cases 39 f (40 ∷ 41 ∷ 42 ∷ []) h (below 39 (omega arith)) (λ h. among_cases 40 f (41 ∷ 42 ∷ []) h (below 40 (omega arith)) (λ h. among_cases 41 f (42 ∷ []) h (below 41 (omega arith)) (λ h. among_cases 42 f [] h (below 42 (omega arith)) (none_among f))))))

-- in each world that begins with the ground definitions
module _ (ds : List Definition) (same_ground : AreGround ds) (all : 42 < length ds) where
  is_ground : (f : ℕ) → f < 43 → IsGroundIn ds f
  is_ground f l = record { same_ground = same_ground; there = omega (arith, l, all); is_ground = omega (arith, l, ground_count) }

  pub tables_are_fine : AnswersAreFine ds table_functions IsNarrow
  tables_are_fine f xs h fine d n r e walks =
      let as_ground : body_walk ground_definitions n f xs ≡ Some r = sym (walks_as_ground ds f (is_ground f (small f h)) n xs) ∙ (ap (λ o. then o (λ (k : Definition). walk ds n (Rattle.gl_logic.specs.Environment.extended k.formals xs []) k.body)) e ∙ walks) in
      let i = then_inverted (slice_get ground_definitions f) _ r as_ground in
      answers_are_fine IsNarrow tt ground_definitions structural bodies f xs (or_second (eqb f 0) (is_among table_functions f) h) fine i.0 n r i.1.0 i.1.1

answers_by : (ds : List Definition) → AreGround ds → (b : Bool) → ltb 42 (length ds) ≡ b → AnswersAreFine ds (cond b table_functions []) IsNarrow
answers_by ds same_ground true e = tables_are_fine ds same_ground (ltb-true 42 (length ds) e)
answers_by ds same_ground false e = λ f xs h. none_among f h

pub answers_in : (ds : List Definition) → AreGround ds → AnswersAreFine ds (answered_in ds) IsNarrow
answers_in ds same_ground = answers_by ds same_ground (ltb 42 (length ds)) refl
