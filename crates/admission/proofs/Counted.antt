-- What the program tells of the numbers to which it counts.
use Rattle.std.proofs.Common.{◌≡◌, ◌∙◌, ap, sym, refl, subst, ℕ, zero, suc, ◌+◌, ◌-◌, ◌≤◌, ◌^◌, arith, List, [], ◌∷◌, ◌++◌, map, length, Bool, true, false, ltb, if◌then◌else◌, Option, Some, None, Result, Ok, Err, slice_get}
use Rattle.std.specs.Option.{is_some}
use Rattle.gl_logic.specs.Exp.{Exp, Exps, Var, Const, If, Prim, Call, Let, Last, More}
use Rattle.gl_logic.specs.Definition.{Definition}
use Rattle.gl_logic.specs.RecursiveCalls.{Governed, calls_in}
use Rattle.gl_logic.specs.IsAdmissible.{is_member, is_step}
use Rattle.gl_logic.specs.declared.def.Measure.{Measure}
use Rattle.admission.specs.declared.caller.Caller.{Caller}
use Rattle.admission.specs.declared.fault.AdmitFault.{AdmitFault}
use Rattle.admission.specs.declared.fault.AdmitFault.TheVariants as fault
use Rattle.admission.specs.Signatures.{Signature, signature_at}
use Rattle.admission.specs.Callers.{caller_of, caller_noted, caller_below, caller_steps}
use Rattle.admission.specs.Numbers.{go_on, behind_call, behind, behind_all, come_to, Counts}
use Rattle.admission.specs.Admitted.{definition, lone_calls, IsBeyond}
use Rattle.admission.proofs.Numbered.{walked, walked_within, behind_walked}

-- ---- the number rises
goes_up : (v : Result ℕ ℕ) (f : ℕ → Result ℕ ℕ) → ((n : ℕ) → n ≤ come_to (f n)) → come_to v ≤ come_to (go_on v f)
goes_up (Ok n) f h = h n
goes_up (Err i) f h = omega arith

both_up : (v : Result ℕ ℕ) (f : ℕ → Result ℕ ℕ) (n : ℕ) → n ≤ come_to v → ((m : ℕ) → m ≤ come_to (f m)) → n ≤ come_to (go_on v f)
both_up v f n h g = let r = goes_up v f g in omega (arith, h, r)

step_up : (b : Bool) (n : ℕ) → n ≤ come_to (elim b as (λ _. Result ℕ ℕ) [ true ↦ Ok (n + 1) | false ↦ Err n ])
step_up true n = omega arith
step_up false n = omega arith

call_up : (o : Option Signature) (ts : Exps) (c : Caller) (n : ℕ) → n ≤ come_to (behind_call o ts c n)
call_up None ts c n = omega arith
call_up (Some s) ts c n = step_up (caller_steps c s.1 s.0 ts) n

module _ (at : ℕ → Option Signature) where
  mutual
    pub rises : (t : Exp) (c : Caller) (n : ℕ) → n ≤ come_to (behind at t c n)
    rises (Var v) c n = omega arith
    rises (Const x) c n = omega arith
    rises (If t a b) c n =
        both_up (behind at t c n) (λ m. go_on (behind at a (caller_noted t true c) m) (behind at b (caller_noted t false c))) n (rises t c n)
        (λ m. both_up (behind at a (caller_noted t true c) m) (behind at b (caller_noted t false c)) m (rises a (caller_noted t true c) m) (rises b (caller_noted t false c)))
    rises (Prim p ts) c n = rise_all ts c n
    rises (Call f ts) c n = both_up (behind_call (at f) ts c n) (behind_all at ts c) n (call_up (at f) ts c n) (rise_all ts c)
    rises (Let vs ts b) c n = both_up (behind_all at ts c n) (behind at b (caller_below vs c)) n (rise_all ts c n) (rises b (caller_below vs c))

    pub rise_all : (ts : Exps) (c : Caller) (n : ℕ) → n ≤ come_to (behind_all at ts c n)
    rise_all Last c n = omega arith
    rise_all (More t ts) c n = both_up (behind at t c n) (behind_all at ts c) n (rises t c n) (rise_all ts c)

-- ---- one count behind the other
pub goes : (v : Result ℕ ℕ) (f : ℕ → Result ℕ ℕ) (n : ℕ) (r : Result ℕ AdmitFault) → Counts v (Ok n) → Counts (f n) r → Counts (go_on v f) r
goes v f n r h k = subst (λ (x : Result ℕ ℕ). Counts (go_on x f) r) (sym h) k

pub stops : (v : Result ℕ ℕ) (f : ℕ → Result ℕ ℕ) (e : AdmitFault) → ((n : ℕ) → n ≤ come_to (f n)) → Counts v (Err e) → Counts (go_on v f) (Err e)
stops v f (fault.NotAdmitted i) g h = ap (λ (x : Result ℕ ℕ). go_on x f) h
stops v f fault.Memory g h = let r = goes_up v f g in omega (arith, h, r)

module _ (at : ℕ → Option Signature) where
  pub stop_test : (t a b : Exp) (c : Caller) (n : ℕ) (e : AdmitFault) → Counts (behind at t c n) (Err e) → Counts (behind at (If t a b) c n) (Err e)
  stop_test t a b c n e h =
      stops (behind at t c n) (λ m. go_on (behind at a (caller_noted t true c) m) (behind at b (caller_noted t false c))) e
      (λ m. both_up (behind at a (caller_noted t true c) m) (behind at b (caller_noted t false c)) m (rises at a (caller_noted t true c) m) (rises at b (caller_noted t false c))) h

  pub stop_then : (t a b : Exp) (c : Caller) (n m : ℕ) (e : AdmitFault) → Counts (behind at t c n) (Ok m) → Counts (behind at a (caller_noted t true c) m) (Err e) → Counts (behind at (If t a b) c n) (Err e)
  stop_then t a b c n m e h k =
      goes (behind at t c n) (λ j. go_on (behind at a (caller_noted t true c) j) (behind at b (caller_noted t false c))) m (Err e) h
      (stops (behind at a (caller_noted t true c) m) (behind at b (caller_noted t false c)) e (rises at b (caller_noted t false c)) k)

  pub stop_call : (f : ℕ) (ts : Exps) (c : Caller) (n : ℕ) (e : AdmitFault) → Counts (behind_call (at f) ts c n) (Err e) → Counts (behind at (Call f ts) c n) (Err e)
  stop_call f ts c n e h = stops (behind_call (at f) ts c n) (behind_all at ts c) e (rise_all at ts c) h

  pub stop_let : (vs : List ℕ) (ts : Exps) (b : Exp) (c : Caller) (n : ℕ) (e : AdmitFault) → Counts (behind_all at ts c n) (Err e) → Counts (behind at (Let vs ts b) c n) (Err e)
  stop_let vs ts b c n e h = stops (behind_all at ts c n) (behind at b (caller_below vs c)) e (rises at b (caller_below vs c)) h

  pub stop_first : (t : Exp) (ts : Exps) (c : Caller) (n : ℕ) (e : AdmitFault) → Counts (behind at t c n) (Err e) → Counts (behind_all at (More t ts) c n) (Err e)
  stop_first t ts c n e h = stops (behind at t c n) (behind_all at ts c) e (rise_all at ts c) h

-- ---- a definition alone, under any measure
one_member : (m : Option Measure) (formals : List ℕ) (body : Exp) (k : ℕ) → is_some (slice_get (definition 0 formals body m ∷ []) k) ≡ is_some (slice_get (definition 0 formals body None ∷ []) k)
one_member m formals body zero = refl
one_member m formals body (suc k) = refl

behind_test : (b : Bool) (o p : Option Definition) → is_some o ≡ is_some p → is_some (if b then None else o) ≡ is_some (if b then None else p)
behind_test true o p h = refl
behind_test false o p h = h

same_member : (f : ℕ) (m : Option Measure) (formals : List ℕ) (body : Exp) (g : ℕ) → is_member f (definition 0 formals body m ∷ []) g ≡ is_member f (definition 0 formals body None ∷ []) g
same_member f m formals body g = behind_test (ltb g f) (slice_get (definition 0 formals body m ∷ []) (g - f)) (slice_get (definition 0 formals body None ∷ []) (g - f)) (one_member m formals body (g - f))

map_length : {A B : Type 0} (f : A → B) (xs : List A) → length (map f xs ++ []) ≡ length xs
map_length f [] = refl
map_length f (x ∷ xs) = ap suc (map_length f xs)

pub beyond : (f : ℕ) (formals : List ℕ) (body : Exp) (m : Option Measure) → 2 ^ 64 ≤ come_to (behind (signature_at f ((formals, m) ∷ [])) body (caller_of m [] []) 1) → IsBeyond f formals body
beyond f formals body m h =
    let d = definition 0 formals body m in
    let ds = definition 0 formals body None ∷ [] in
    let calls = calls_in (is_member f (d ∷ [])) [] [] body in
    let s : Governed → Bool = λ c. is_step f (d ∷ []) (m, c) in
    let e : come_to (behind (signature_at f ((formals, m) ∷ [])) body (caller_of m [] []) 1) ≡ come_to (walked s 1 calls) = ap come_to (behind_walked f (d ∷ []) d 1) in
    let w = walked_within s 1 calls in
    let same : length calls ≡ length (calls_in (is_member f ds) [] [] body) = λ i. length (calls_in (λ g. same_member f m formals body g i) [] [] body) in
    let l : length (lone_calls f formals body) ≡ length (calls_in (is_member f ds) [] [] body) = map_length (λ c. (None, c)) (calls_in (is_member f ds) [] [] body) in
    omega (arith, h, e, w, same, l)
