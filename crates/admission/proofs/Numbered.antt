-- The number that the program counts to is that of the first call that is refused.
use Rattle.std.proofs.Common.{◌≡◌, ◌∙◌, ap, sym, refl, ℕ, ◌-◌, ◌+◌, ◌≤◌, arith, length, List, [], ◌∷◌, ◌++◌, map, Bool, true, false, cond, ltb, Option, Some, None, Result, Ok, Err, slice_get, if◌then◌else◌}
use Rattle.std.specs.Option.{is_some, option_map}
use Rattle.std.proofs.lemmas.Option.{slice_get-map}
use Rattle.gl_logic.specs.Every.{Every}
use Rattle.gl_logic.specs.Exp.{Exp, Exps, Var, Const, If, Prim, Call, Let, Last, More}
use Rattle.gl_logic.specs.Definition.{Definition}
use Rattle.gl_logic.specs.RecursiveCalls.{Fact, Governed, noted, unbound, calls_in, calls_in_all}
use Rattle.gl_logic.specs.Steps.{measure_steps}
use Rattle.gl_logic.specs.IsAdmissible.{member_at, is_member, Recursive, calls_of, steps_to, is_step}
use Rattle.gl_logic.specs.declared.def.Measure.{Measure}
use Rattle.admission.specs.Signatures.{Signature, signature, signature_at}
use Rattle.admission.specs.Callers.{caller_of, caller_steps}
use Rattle.admission.specs.Refused.{first_no_step}
use Rattle.admission.specs.Numbers.{come_to, go_on, behind_call, behind, behind_all}
use Rattle.admission.proofs.KnownAt.{caller_noted_is, caller_below_is, caller_steps_is}

-- ---- through a list of calls
abbrev pub walked : (Governed → Bool) → ℕ → List Governed → Result ℕ ℕ
walked step n [] = Ok n
walked step n (c ∷ cs) = elim (step c) [ true ↦ walked step (n + 1) cs | false ↦ Err n ]

pick_on : (b : Bool) (n : ℕ) (x : Result ℕ ℕ) (f : ℕ → Result ℕ ℕ) → elim b as (λ _. Result ℕ ℕ) [ true ↦ go_on x f | false ↦ Err n ] ≡ go_on (elim b as (λ _. Result ℕ ℕ) [ true ↦ x | false ↦ Err n ]) f
pick_on true n x f = refl
pick_on false n x f = refl

walked_append : (s : Governed → Bool) (n : ℕ) (xs ys : List Governed) → walked s n (xs ++ ys) ≡ go_on (walked s n xs) (λ k. walked s k ys)
walked_append s n [] ys = refl
walked_append s n (x ∷ xs) ys = (λ i. elim (s x) as (λ _. Result ℕ ℕ) [ true ↦ walked_append s (n + 1) xs ys i | false ↦ Err n ]) ∙ pick_on (s x) n (walked s (n + 1) xs) (λ k. walked s k ys)

pub walked_within : (s : Governed → Bool) (n : ℕ) (cs : List Governed) → come_to (walked s n cs) ≤ n + length cs
walked_within s n [] = omega arith
walked_within s n (c ∷ cs) = elim (s c) as (λ b. come_to (elim b as (λ _. Result ℕ ℕ) [ true ↦ walked s (n + 1) cs | false ↦ Err n ]) ≤ n + length (c ∷ cs)) [
  | true ↦ omega (arith, walked_within s (n + 1) cs)
  | false ↦ omega arith
]

goes_same : (x : Result ℕ ℕ) (f g : ℕ → Result ℕ ℕ) → ((n : ℕ) → f n ≡ g n) → go_on x f ≡ go_on x g
goes_same (Ok n) f g h = h n
goes_same (Err i) f g h = refl

-- ---- through a term
module _ (at : ℕ → Option Signature) (is_one : ℕ → Bool) (m : Option Measure) (s : Governed → Bool)
    (ones : (f : ℕ) → is_one f ≡ is_some (at f)) (steps : (c : Governed) (g : Signature) → at c.callee ≡ Some g → s c ≡ measure_steps m g.1 g.0 c) where
  call_at : (o : Option Signature) (c : Governed) (n : ℕ) (cs : List Governed) → at c.callee ≡ o → go_on (behind_call o c.actuals (caller_of m c.bound c.facts) n) (λ k. walked s k cs) ≡ walked s n (cond (is_one c.callee) (c ∷ []) [] ++ cs)
  call_at None c n cs e = λ i. walked s n (cond (sym (ones c.callee ∙ ap is_some e) i) (c ∷ []) [] ++ cs)
  call_at (Some g) c n cs e =
      sym (pick_on (caller_steps (caller_of m c.bound c.facts) g.1 g.0 c.actuals) n (Ok (n + 1)) (λ k. walked s k cs))
      ∙ ((λ i. elim (sym (steps c g e ∙ caller_steps_is m g.1 g.0 c) i) as (λ _. Result ℕ ℕ) [ true ↦ walked s (n + 1) cs | false ↦ Err n ])
      ∙ (λ i. walked s n (cond (sym (ones c.callee ∙ ap is_some e) i) (c ∷ []) [] ++ cs)))

  mutual
    pub behind_is : (t : Exp) (bound : List ℕ) (fs : List Fact) (n : ℕ) → behind at t (caller_of m bound fs) n ≡ walked s n (calls_in is_one bound fs t)
    behind_is (Var v) bound fs n = refl
    behind_is (Const x) bound fs n = refl
    behind_is (If t a b) bound fs n =
        let at_test = calls_in is_one bound fs t in
        let at_then = calls_in is_one bound (noted t true fs) a in
        let at_else = calls_in is_one bound (noted t false fs) b in
        goes_same (behind at t (caller_of m bound fs) n) _ (λ k. walked s k (at_then ++ at_else)) (λ k.
        (λ i. go_on (behind at a (caller_noted_is m bound t true fs i) k) (behind at b (caller_noted_is m bound t false fs i)))
        ∙ ((λ i. go_on (behind_is a bound (noted t true fs) k i) (behind at b (caller_of m bound (noted t false fs))))
        ∙ (goes_same (walked s k at_then) _ (λ j. walked s j at_else) (behind_is b bound (noted t false fs))
        ∙ sym (walked_append s k at_then at_else))))
        ∙ ((λ i. go_on (behind_is t bound fs n i) (λ k. walked s k (at_then ++ at_else))) ∙ sym (walked_append s n at_test (at_then ++ at_else)))
    behind_is (Prim p ts) bound fs n = behind_all_is ts bound fs n
    behind_is (Call f ts) bound fs n =
        let c : Governed = record { callee = f; actuals = ts; facts = fs; bound = bound } in
        goes_same (behind_call (at f) ts (caller_of m bound fs) n) _ (λ k. walked s k (calls_in_all is_one bound fs ts)) (behind_all_is ts bound fs)
        ∙ call_at (at f) c n (calls_in_all is_one bound fs ts) refl
    behind_is (Let vs ts b) bound fs n =
        let actuals = calls_in_all is_one bound fs ts in
        let body = calls_in is_one (vs ++ bound) (unbound vs fs) b in
        goes_same (behind_all at ts (caller_of m bound fs) n) _ (λ k. walked s k body) (λ k. (λ i. behind at b (caller_below_is m vs bound fs i) k) ∙ behind_is b (vs ++ bound) (unbound vs fs) k)
        ∙ ((λ i. go_on (behind_all_is ts bound fs n i) (λ k. walked s k body)) ∙ sym (walked_append s n actuals body))

    pub behind_all_is : (ts : Exps) (bound : List ℕ) (fs : List Fact) (n : ℕ) → behind_all at ts (caller_of m bound fs) n ≡ walked s n (calls_in_all is_one bound fs ts)
    behind_all_is Last bound fs n = refl
    behind_all_is (More t ts) bound fs n =
        goes_same (behind at t (caller_of m bound fs) n) _ (λ k. walked s k (calls_in_all is_one bound fs ts)) (behind_all_is ts bound fs)
        ∙ ((λ i. go_on (behind_is t bound fs n i) (λ k. walked s k (calls_in_all is_one bound fs ts))) ∙ sym (walked_append s n (calls_in is_one bound fs t) (calls_in_all is_one bound fs ts)))

-- ---- through the recursive calls of a clique
abbrev pub numbered : Result ℕ ℕ → (ℕ → Option ℕ) → Option ℕ
numbered (Ok n) f = f n
numbered (Err i) f = Some i

pick_number : (b : Bool) (n : ℕ) (x : Result ℕ ℕ) (f : ℕ → Option ℕ) → elim b as (λ _. Option ℕ) [ true ↦ numbered x f | false ↦ Some n ] ≡ numbered (elim b as (λ _. Result ℕ ℕ) [ true ↦ x | false ↦ Err n ]) f
pick_number true n x f = refl
pick_number false n x f = refl

number_is : (p : Recursive → Bool) (m : Option Measure) (cs : List Governed) (rest : List Recursive) (n : ℕ) → first_no_step p n (map (λ c. (m, c)) cs ++ rest) ≡ numbered (walked (λ c. p (m, c)) n cs) (λ k. first_no_step p k rest)
number_is p m [] rest n = refl
number_is p m (c ∷ cs) rest n =
    (λ i. elim (p (m, c)) as (λ _. Option ℕ) [ true ↦ number_is p m cs rest (n + 1) i | false ↦ Some n ])
    ∙ pick_number (p (m, c)) n (walked (λ g. p (m, g)) (n + 1) cs) (λ k. first_no_step p k rest)

-- ---- a member, and what its callers see of it
map_else : (b : Bool) (o : Option Definition) → option_map signature (if b then None else o) ≡ (if b then None else option_map signature o)
map_else true o = refl
map_else false o = refl

seen_at : (first : ℕ) (ds : List Definition) (f : ℕ) → signature_at first (map signature ds) f ≡ option_map signature (member_at first ds f)
seen_at first ds f = (λ i. if ltb f first then None else slice_get-map signature ds (f - first) i) ∙ sym (map_else (ltb f first) (slice_get ds (f - first)))

some_seen : (o : Option Definition) → is_some o ≡ is_some (option_map signature o)
some_seen None = refl
some_seen (Some d) = refl

step_seen : (o : Option Definition) (m : Option Measure) (c : Governed) (g : Signature) → option_map signature o ≡ Some g → steps_to o (m, c) ≡ measure_steps m g.1 g.0 c
step_seen None m c g e = absurd cc
step_seen (Some d) m c g e = let q : signature d ≡ g = cc in λ i. measure_steps m (q i).1 (q i).0 c

pub behind_walked : (first : ℕ) (ds : List Definition) (d : Definition) (n : ℕ) → behind (signature_at first (map signature ds)) d.body (caller_of d.measure [] []) n ≡ walked (λ c. is_step first ds (d.measure, c)) n (calls_in (is_member first ds) [] [] d.body)
behind_walked first ds d n =
    behind_is (signature_at first (map signature ds)) (is_member first ds) d.measure (λ c. is_step first ds (d.measure, c))
    (λ f. some_seen (member_at first ds f) ∙ ap is_some (sym (seen_at first ds f)))
    (λ c g e. step_seen (member_at first ds c.callee) d.measure c g (sym (seen_at first ds c.callee) ∙ e))
    d.body [] [] n

-- a body's calls, and then the rest
pub body_is : (first : ℕ) (ds : List Definition) (d : Definition) (rest : List Recursive) (n : ℕ)
    → first_no_step (is_step first ds) n (calls_of (is_member first ds) d ++ rest) ≡ numbered (behind (signature_at first (map signature ds)) d.body (caller_of d.measure [] []) n) (λ k. first_no_step (is_step first ds) k rest)
body_is first ds d rest n =
    number_is (is_step first ds) d.measure (calls_in (is_member first ds) [] [] d.body) rest n
    ∙ ap (λ (x : Result ℕ ℕ). numbered x (λ k. first_no_step (is_step first ds) k rest)) (sym (behind_walked first ds d n))

-- ---- none is refused where each is a step
every_at : (b : Bool) (P : Type 0) (n : ℕ) (o : Option ℕ) → (o ≡ None → P) → elim b as (λ _. Option ℕ) [ true ↦ o | false ↦ Some n ] ≡ None → (b ≡ true) × P
every_at true P n o h e = (refl, h e)
every_at false P n o h e = absurd cc

pub every_step : (p : Recursive → Bool) (n : ℕ) (rs : List Recursive) → first_no_step p n rs ≡ None → Every (λ r. p r ≡ true) rs
every_step p n [] e = tt
every_step p n (r ∷ rs) e = every_at (p r) (Every (λ r. p r ≡ true) rs) n (first_no_step p (n + 1) rs) (every_step p (n + 1) rs) e
