-- A definition alone: its verdict, by the numbers of refused calls.
use Rattle.std.proofs.Common.{◌≡◌, ◌∙◌, ◌↔◌, ap, sym, refl, subst, ℕ, ◌+◌, ◌≤◌, ◌^◌, List, [], ◌∷◌, ◌++◌, map, drop, Bool, true, false, Option, Some, None, Result, Ok, Err, slice_get}
use Rattle.std.specs.Prelude.{unwrap_or, IfOk}
use Rattle.gl_logic.specs.Every.{Every}
use Rattle.gl_logic.specs.Exp.{Exp}
use Rattle.gl_logic.specs.Definition.{Definition}
use Rattle.gl_logic.specs.RecursiveCalls.{Governed, calls_in}
use Rattle.gl_logic.specs.IsAdmissible.{IsAdmissible, Recursive, is_step, is_member, member_at, steps_to, recursive_calls}
use Rattle.gl_logic.specs.declared.def.Measure.{Measure}
use Rattle.admission.specs.Signatures.{signature_at}
use Rattle.admission.specs.Callers.{caller_of}
use Rattle.admission.specs.Numbers.{behind, come_to, Counts}
use Rattle.admission.specs.declared.caller.Caller.{Caller}
use Rattle.admission.specs.declared.fault.AdmitFault.{AdmitFault}
use Rattle.admission.specs.declared.fault.AdmitFault.TheVariants as fault
use Rattle.admission.specs.Refused.{first_no_step, first_refused}
use Rattle.admission.specs.Admitted.{count_of, definition, lone_calls, refused_alone, judged, first_formal, number_for_first, measured, verdict, HasNoCalls, IsAdmissibleAlone, IsBeyond, Tells, TellsRefused}
use Rattle.admission.proofs.ActualTerms.{drop_get}
use Rattle.admission.proofs.Numbered.{numbered, body_is, every_step}
use Rattle.admission.proofs.Counted.{beyond}

-- ---- the number that the program counts to, under any name
named_number : (f name : ℕ) (formals : List ℕ) (body : Exp) (m : Option Measure) → first_refused f (definition name formals body m ∷ []) ≡ numbered (behind (signature_at f ((formals, m) ∷ [])) body (caller_of m [] []) 1) (λ k. None)
named_number f name formals body m = body_is f (definition name formals body m ∷ []) (definition name formals body m) [] 1

pub lone_number : (f : ℕ) (formals : List ℕ) (body : Exp) (m : Option Measure) (r : Result ℕ ℕ) → r ≡ behind (signature_at f ((formals, m) ∷ [])) body (caller_of m [] []) 1 → numbered r (λ k. None) ≡ refused_alone f formals body m
lone_number f formals body m r e = ap (λ (x : Result ℕ ℕ). numbered x (λ k. None)) e ∙ sym (named_number f 0 formals body m)

pub none_refused : (f name : ℕ) (formals : List ℕ) (body : Exp) (m : Option Measure) → refused_alone f formals body m ≡ None → IsAdmissible f (definition name formals body m ∷ [])
none_refused f name formals body m e =
    let ds = definition name formals body m ∷ [] in
    every_step (is_step f ds) 1 (recursive_calls f ds) (named_number f name formals body m ∙ (sym (named_number f 0 formals body m) ∙ e))

-- ---- without a measure each call is refused
no_step : (o : Option Definition) (c : Governed) → steps_to o (None, c) ≡ false
no_step None c = refl
no_step (Some d) c = refl

refuse_first : (b : Bool) (n : ℕ) (o : Option ℕ) → b ≡ false → elim b as (λ _. Option ℕ) [ true ↦ o | false ↦ Some n ] ≡ Some n
refuse_first true n o h = absurd cc
refuse_first false n o h = refl

unmeasured_at : (f : ℕ) (ds : List Definition) (m : Option Measure) (c : Governed) → m ≡ None → is_step f ds (m, c) ≡ false
unmeasured_at f ds m c e = (λ i. steps_to (member_at f ds c.callee) (e i, c)) ∙ no_step (member_at f ds c.callee) c

nothing_mapped : (cs : List Governed) → Every (λ (r : Recursive). r.0 ≡ None) (map (λ c. (None, c)) cs ++ [])
nothing_mapped [] = tt
nothing_mapped (c ∷ cs) = (refl, nothing_mapped cs)

all_refused : (f : ℕ) (ds : List Definition) (rs : List Recursive) → Every (λ r. r.0 ≡ None) rs → first_no_step (is_step f ds) 1 rs ≡ None → rs ≡ []
all_refused f ds [] h e = refl
all_refused f ds (r ∷ rs) h e = let q = refuse_first (is_step f ds r) 1 (first_no_step (is_step f ds) 2 rs) (unmeasured_at f ds r.0 r.1 h.0) in absurd cc

pub no_calls : (f : ℕ) (formals : List ℕ) (body : Exp) → refused_alone f formals body None ≡ None → lone_calls f formals body ≡ []
no_calls f formals body e =
    let ds = definition 0 formals body None ∷ [] in
    all_refused f ds (recursive_calls f ds) (nothing_mapped (calls_in (is_member f ds) [] [] body)) e

pub has_calls : (f : ℕ) (formals : List ℕ) (body : Exp) (n : ℕ) → refused_alone f formals body None ≡ Some n → lone_calls f formals body ≡ [] → ⊥
has_calls f formals body n e h =
    let ds = definition 0 formals body None ∷ [] in
    let q : refused_alone f formals body None ≡ None = ap (first_no_step (is_step f ds) 1) h in absurd cc

-- ---- verdicts
verdict_at : (rs : List Recursive) (v : Result (Option Measure) ℕ) → (rs ≡ [] → ⊥) → elim rs as (λ _. Result (Option Measure) ℕ) [ [] ↦ Ok None | ◌∷◌ r qs ↦ v ] ≡ v
verdict_at [] v h = absurd (h refl)
verdict_at (r ∷ rs) v h = refl

pub verdict_none : (f : ℕ) (formals : List ℕ) (body : Exp) (stated : Option Measure) → refused_alone f formals body None ≡ None → verdict f formals body stated ≡ Ok None
verdict_none f formals body stated e = ap (λ (rs : List Recursive). elim rs as (λ _. Result (Option Measure) ℕ) [ [] ↦ Ok None | ◌∷◌ r qs ↦ measured (refused_alone f formals body) formals stated ]) (no_calls f formals body e)

pub verdict_measured : (f : ℕ) (formals : List ℕ) (body : Exp) (stated : Option Measure) (n : ℕ) → refused_alone f formals body None ≡ Some n → verdict f formals body stated ≡ measured (refused_alone f formals body) formals stated
verdict_measured f formals body stated n e = verdict_at (lone_calls f formals body) (measured (refused_alone f formals body) formals stated) (has_calls f formals body n e)

-- what is answered is some measure under which no call is refused
abbrev pub IsFound : (Option Measure → Option ℕ) → Result (Option Measure) ℕ → Type 0
IsFound refused r = (m : Option Measure) → r ≡ Ok m → (refused m ≡ None) × (m ≡ None → ⊥)

found_at : (refused : Option Measure → Option ℕ) (k : Measure) (o : Option ℕ) (rest : Result (Option Measure) ℕ) → refused (Some k) ≡ o → IsFound refused rest → IsFound refused (elim o as (λ _. Result (Option Measure) ℕ) [ None ↦ Ok (Some k) | Some j ↦ rest ])
found_at refused k None rest e h m q = let p : Some k ≡ m = cc in (ap refused (sym p) ∙ e, λ z. let y : Some k ≡ None = p ∙ z in absurd cc)
found_at refused k (Some j) rest e h m q = h m q

formal_found : (refused : Option Measure → Option ℕ) (i : ℕ) (formals : List ℕ) → IsFound refused (first_formal refused i formals)
formal_found refused i [] m q = absurd cc
formal_found refused i (v ∷ vs) m q = found_at refused _ (refused (count_of v)) (first_formal refused i vs) refl (formal_found refused i vs) m q

judged_found : (refused : Option Measure → Option ℕ) (k : Measure) (o : Option ℕ) → refused (Some k) ≡ o → IsFound refused (judged (Some k) o)
judged_found refused k None e m q = let p : Some k ≡ m = cc in (ap refused (sym p) ∙ e, λ z. let y : Some k ≡ None = p ∙ z in absurd cc)
judged_found refused k (Some i) e m q = absurd cc

pub measured_found : (refused : Option Measure → Option ℕ) (formals : List ℕ) (stated : Option Measure) → IsFound refused (measured refused formals stated)
measured_found refused formals (Some k) = judged_found refused k (refused (Some k)) refl
measured_found refused formals None = formal_found refused (number_for_first refused formals) formals

-- ---- the first formal
pub number_first : (refused : Option Measure → Option ℕ) (formals : List ℕ) (v : ℕ) → slice_get formals 0 ≡ Some v → number_for_first refused formals ≡ unwrap_or (refused (count_of v)) 1
number_first refused [] v e = absurd cc
number_first refused (u ∷ us) v e = let q : u ≡ v = cc in ap (λ (w : ℕ). unwrap_or (refused (count_of w)) 1) q

formal_here : (refused : Option Measure → Option ℕ) (n : ℕ) (formals : List ℕ) (i v : ℕ) → slice_get formals i ≡ Some v
    → first_formal refused n (drop i formals) ≡ elim (refused (count_of v)) as (λ _. Result (Option Measure) ℕ) [ None ↦ Ok (count_of v) | Some j ↦ first_formal refused n (drop (i + 1) formals) ]
formal_here refused n formals i v e = ap (first_formal refused n) (drop_get formals i v e)

pub formal_hit : (refused : Option Measure → Option ℕ) (n : ℕ) (formals : List ℕ) (i v : ℕ) (whole : Result (Option Measure) ℕ) → slice_get formals i ≡ Some v → refused (count_of v) ≡ None → first_formal refused n (drop i formals) ≡ whole → Ok (count_of v) ≡ whole
formal_hit refused n formals i v whole e h w =
    sym (formal_here refused n formals i v e ∙ ap (λ (o : Option ℕ). elim o as (λ _. Result (Option Measure) ℕ) [ None ↦ Ok (count_of v) | Some j ↦ first_formal refused n (drop (i + 1) formals) ]) h) ∙ w

pub formal_miss : (refused : Option Measure → Option ℕ) (n : ℕ) (formals : List ℕ) (i v k : ℕ) (whole : Result (Option Measure) ℕ) → slice_get formals i ≡ Some v → refused (count_of v) ≡ Some k → first_formal refused n (drop i formals) ≡ whole → first_formal refused n (drop (i + 1) formals) ≡ whole
formal_miss refused n formals i v k whole e h w =
    sym (formal_here refused n formals i v e ∙ ap (λ (o : Option ℕ). elim o as (λ _. Result (Option Measure) ℕ) [ None ↦ Ok (count_of v) | Some j ↦ first_formal refused n (drop (i + 1) formals) ]) h) ∙ w

-- ---- what is told
module _ (f : ℕ) (formals : List ℕ) (body : Exp) where
  abbrev counted : Option Measure → Caller → Result ℕ ℕ
  counted m s = behind (signature_at f ((formals, m) ∷ [])) body s 1

  pub lone_ok : (m : Option Measure) (s : Caller) (n : ℕ) → s ≡ caller_of m [] [] → counted m s ≡ Ok n → refused_alone f formals body m ≡ None
  lone_ok m s n e h = sym (lone_number f formals body m (Ok n) (sym h ∙ ap (counted m) e))

  pub lone_err : (m : Option Measure) (s : Caller) (x : AdmitFault) → s ≡ caller_of m [] [] → Counts (counted m s) (Err x) → TellsRefused {A = Unit {0}} (IsBeyond f formals body) (refused_alone f formals body m) (Err x)
  lone_err m s (fault.NotAdmitted i) e h = sym (lone_number f formals body m (Err i) (sym h ∙ ap (counted m) e))
  lone_err m s fault.Memory e h = beyond f formals body m (subst (λ (c : Caller). 2 ^ 64 ≤ come_to (counted m c)) e h)

  pub some_refused : (o : Option ℕ) (x : AdmitFault) (k : ℕ) → x ≡ fault.NotAdmitted k → TellsRefused {A = Unit {0}} (IsBeyond f formals body) o (Err x) → o ≡ Some k
  some_refused o x k e h = subst (λ (y : AdmitFault). TellsRefused {A = Unit {0}} (IsBeyond f formals body) o (Err y)) e h

  pub first_told : (o : Option ℕ) (n : ℕ) (x : AdmitFault) → n ≡ unwrap_or o 1 → TellsRefused {A = Unit {0}} (IsBeyond f formals body) o (Err x) → Tells (IsBeyond f formals body) (Err n) (Err x)
  first_told o n (fault.NotAdmitted i) e h = ap Err (e ∙ ap (λ (p : Option ℕ). unwrap_or p 1) h)
  first_told o n fault.Memory e h = h

  module _ (stated : Option Measure) (k : ℕ) (has : refused_alone f formals body None ≡ Some k) where
    abbrev IsTold : Result (Option Measure) AdmitFault → Type 0
    IsTold r = Tells (IsBeyond f formals body) (measured (refused_alone f formals body) formals stated) r

    pub told_none : (r : Result (Option Measure) AdmitFault) → IsTold r → IfOk r (λ m. (m ≡ None) ↔ HasNoCalls f formals body)
    told_none (Ok m) h = let found = measured_found (refused_alone f formals body) formals stated m h in (λ e. absurd (found.1 e), λ e. absurd (has_calls f formals body k has e))
    told_none (Err x) h = tt

    pub told_admissible : (r : Result (Option Measure) AdmitFault) → IsTold r → IfOk r (λ m. IsAdmissibleAlone f formals body m)
    told_admissible (Ok m) h = let found = measured_found (refused_alone f formals body) formals stated m h in λ name. none_refused f name formals body m found.0
    told_admissible (Err x) h = tt

    pub told_verdict : (r : Result (Option Measure) AdmitFault) → IsTold r → Tells (IsBeyond f formals body) (verdict f formals body stated) r
    told_verdict r h = subst (λ (v : Result (Option Measure) ℕ). Tells (IsBeyond f formals body) v r) (sym (verdict_measured f formals body stated k has)) h
