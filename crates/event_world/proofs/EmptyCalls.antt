-- Whether no body calls a member.
use Rattle.std.proofs.Common.{◌≡◌, ◌∙◌, ap, sym, refl, ℕ, zero, suc, ◌+◌, ◌-◌, ◌<◌, ◌≤◌, Bool, true, false, cond, not, ◌&&◌, ◌||◌, leb, ltb, List, [], ◌∷◌, ◌++◌, map, drop, length, Some, None, arith}
use Rattle.std.specs.Prelude.{slice_get}
use Rattle.std.specs.Option.{is_some}
use Rattle.std.proofs.Common.{inl, inr}
use Rattle.std.proofs.lemmas.Option.{slice_get_cases}
use Rattle.gl_logic.specs.Exp.{Exp, Exps, Var, Const, If, Prim, Call, Let, Last, More}
use Rattle.gl_logic.specs.Definition.{Definition}
use Rattle.gl_logic.specs.RecursiveCalls.{Fact, Governed, calls_in, calls_in_all, noted, unbound}
use Rattle.gl_logic.specs.IsAdmissible.{is_member, calls_of, calls_of_all, recursive_calls}
use Rattle.admission.proofs.ActualTerms.{drop_get}
use Rattle.event_world.specs.PartsOf.{is_empty}
use Rattle.event_world.specs.CallsOf.{has_call, have_call, is_between}

append_empty : {A : Type 0} (xs ys : List A) → is_empty (xs ++ ys) ≡ (is_empty xs && is_empty ys)
append_empty [] ys = refl
append_empty (x ∷ xs) ys = refl

map_empty : {A B : Type 0} (f : A → B) (xs : List A) → is_empty (map f xs) ≡ is_empty xs
map_empty f [] = refl
map_empty f (x ∷ xs) = refl

not_or : (a b : Bool) → not (a || b) ≡ (not a && not b)
not_or true b = refl
not_or false b = refl

one_empty : {A : Type 0} (b : Bool) (x : A) → is_empty (cond b (x ∷ []) []) ≡ not b
one_empty true x = refl
one_empty false x = refl

mutual
  pub calls_empty : (p : ℕ → Bool) (bound : List ℕ) (fs : List Fact) (t : Exp) → is_empty (calls_in p bound fs t) ≡ not (has_call p t)
  calls_empty p bound fs (Var v) = refl
  calls_empty p bound fs (Const x) = refl
  calls_empty p bound fs (If t a b) =
      append_empty (calls_in p bound fs t) (calls_in p bound (noted t true fs) a ++ calls_in p bound (noted t false fs) b)
      ∙ (ap (λ z. is_empty (calls_in p bound fs t) && z) (append_empty (calls_in p bound (noted t true fs) a) (calls_in p bound (noted t false fs) b))
      ∙ ((λ i. calls_empty p bound fs t i && (calls_empty p bound (noted t true fs) a i && calls_empty p bound (noted t false fs) b i))
      ∙ (ap (λ z. not (has_call p t) && z) (sym (not_or (has_call p a) (has_call p b))) ∙ sym (not_or (has_call p t) (has_call p a || has_call p b)))))
  calls_empty p bound fs (Prim f ts) = calls_empty_all p bound fs ts
  calls_empty p bound fs (Call f ts) =
      let c : Governed = record { callee = f; actuals = ts; facts = fs; bound = bound } in
      append_empty (cond (p f) (c ∷ []) []) (calls_in_all p bound fs ts)
      ∙ ((λ i. one_empty (p f) c i && calls_empty_all p bound fs ts i) ∙ sym (not_or (p f) (have_call p ts)))
  calls_empty p bound fs (Let vs ts b) =
      append_empty (calls_in_all p bound fs ts) (calls_in p (vs ++ bound) (unbound vs fs) b)
      ∙ ((λ i. calls_empty_all p bound fs ts i && calls_empty p (vs ++ bound) (unbound vs fs) b i) ∙ sym (not_or (have_call p ts) (has_call p b)))

  pub calls_empty_all : (p : ℕ → Bool) (bound : List ℕ) (fs : List Fact) (ts : Exps) → is_empty (calls_in_all p bound fs ts) ≡ not (have_call p ts)
  calls_empty_all p bound fs Last = refl
  calls_empty_all p bound fs (More t ts) =
      append_empty (calls_in p bound fs t) (calls_in_all p bound fs ts)
      ∙ ((λ i. calls_empty p bound fs t i && calls_empty_all p bound fs ts i) ∙ sym (not_or (has_call p t) (have_call p ts)))

-- ---- members by their numbers
lt_ltb : (k n : ℕ) → k < n → ltb k n ≡ true
lt_ltb k n h = grind (arith, h)

le_ltb : (k n : ℕ) → n ≤ k → ltb k n ≡ false
le_ltb k n h = grind (arith, h)

some_within : {A : Type 0} (xs : List A) (k : ℕ) → is_some (slice_get xs k) ≡ ltb k (length xs)
some_within xs k = elim (slice_get_cases xs k).1 [
  | inl h ↦ ap is_some h.2 ∙ sym (lt_ltb k (length xs) h.1)
  | inr h ↦ ap is_some h.1 ∙ sym (le_ltb k (length xs) h.0)
]

below : (first : ℕ) (ds : List Definition) (f : ℕ) (b c : Bool) → ltb f first ≡ b → leb first f ≡ c → is_some (cond b None (slice_get ds (f - first))) ≡ (c && ltb (f - first) (length ds))
below first ds f true true h g = absurd (grind (arith, h, g))
below first ds f true false h g = refl
below first ds f false true h g = some_within ds (f - first)
below first ds f false false h g = absurd (grind (arith, h, g))

pub member_between : (first : ℕ) (ds : List Definition) (f : ℕ) → is_member first ds f ≡ is_between first (length ds) f
member_between first ds f = below first ds f (ltb f first) (leb first f) refl refl

-- ---- the loop
abbrev pub empty_from : ℕ → List Definition → ℕ → Bool
empty_from first ds i = is_empty (calls_of_all (is_between first (length ds)) (drop i ds))

pub empty_whole : (first : ℕ) (ds : List Definition) → empty_from first ds 0 ≡ is_empty (recursive_calls first ds)
empty_whole first ds = ap (λ (p : ℕ → Bool). is_empty (calls_of_all p ds)) (λ i f. sym (member_between first ds f) i)

empty_at : (first : ℕ) (ds : List Definition) (i : ℕ) (d : Definition) → slice_get ds i ≡ Some d → empty_from first ds i ≡ (not (has_call (is_between first (length ds)) d.body) && empty_from first ds (i + 1))
empty_at first ds i d e =
    let p = is_between first (length ds) in
    ap (λ (es : List Definition). is_empty (calls_of_all p es)) (drop_get ds i d e)
    ∙ (append_empty (calls_of p d) (calls_of_all p (drop (i + 1) ds))
    ∙ ap (λ z. z && empty_from first ds (i + 1)) (map_empty (λ (c : Governed). (d.measure, c)) (calls_in p [] [] d.body) ∙ calls_empty p [] [] d.body))

pub empty_more : (first : ℕ) (ds : List Definition) (i : ℕ) (d : Definition) (whole : Bool) → slice_get ds i ≡ Some d → has_call (is_between first (length ds)) d.body ≡ false → empty_from first ds i ≡ whole → empty_from first ds (i + 1) ≡ whole
empty_more first ds i d whole e h w = sym (empty_at first ds i d e ∙ ap (λ z. not z && empty_from first ds (i + 1)) h) ∙ w

pub empty_not : (first : ℕ) (ds : List Definition) (i : ℕ) (d : Definition) (whole : Bool) → slice_get ds i ≡ Some d → has_call (is_between first (length ds)) d.body ≡ true → empty_from first ds i ≡ whole → false ≡ whole
empty_not first ds i d whole e h w = sym (empty_at first ds i d e ∙ ap (λ z. not z && empty_from first ds (i + 1)) h) ∙ w

drop_all : (ds : List Definition) (i : ℕ) → length ds ≤ i → drop i ds ≡ []
drop_all [] zero h = refl
drop_all [] (suc i) h = refl
drop_all (d ∷ ds) zero h = absurd (omega (arith, h))
drop_all (d ∷ ds) (suc i) h = drop_all ds i (omega (arith, h))

pub empty_end : (first : ℕ) (ds : List Definition) (i : ℕ) (whole : Bool) → length ds ≤ i → empty_from first ds i ≡ whole → true ≡ whole
empty_end first ds i whole h w = sym (ap (λ (es : List Definition). is_empty (calls_of_all (is_between first (length ds)) es)) (drop_all ds i h)) ∙ w
