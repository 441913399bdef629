-- The steps of an evaluation: what each leaves to do, what it spends, and what it sees.
use Rattle.std.proofs.Common.{◌≡◌, ◌∙◌, ap, sym, refl, ℕ, zero, suc, ◌+◌, List, [], ◌∷◌, ◌++◌, Bool, true, false, cond, Option, Some, None, subst, slice_get, arith, append_assoc, length}
use Rattle.std.proofs.lemmas.List.{length-append}
use Rattle.gl_logic.specs.Object.{Object}
use Rattle.gl_logic.specs.ObjectEq.{object_eq, is_nil}
use Rattle.gl_logic.specs.PrimValue.{prim_value}
use Rattle.gl_logic.specs.Environment.{look, extended}
use Rattle.gl_logic.specs.Definition.{Definition}
use Rattle.gl_logic.specs.Exp.{Exp, Exps, Var, Const, If, Prim, Call, Let, Last, More}
use Rattle.gl_logic.specs.Walk.{Walk, CallMade, then}
use Rattle.gl_logic.specs.Counts.{is_among}
use Rattle.gl_logic.proofs.Equality.{equal_from, equal_itself}
use Rattle.gl_logic.proofs.Optional.{none_some, some_same, then_inverted}
use Rattle.gl_logic.specs.Every.{Every}
use Rattle.gl_logic.proofs.MadeCalls.{every_append}
use Rattle.lisp_eval.specs.Threads.{Thread, Threads, after, chained, stays_shut, keeping, skipped, plain_call, threaded, thread, threads}
use Rattle.lisp_eval.specs.Frames.{Work, ToPrim, ToCall, ToLet, Frame, Branch, Arguments, Keep, Focus, Visit, Apply, Give, Rest, before, followed, given, all_of, call_of, is_value, behind, worked, resumed, resume, focused, rest_of}
use Rattle.lisp_eval.proofs.CallsMade.{every_parts}
use Rattle.lisp_eval.proofs.Along.{then_is}
use Rattle.lisp_eval.proofs.More.{thread_grow, threaded_more}
use Rattle.lisp_eval.proofs.Values.{value_seen, HasPlain, threaded_plain, call_value_unique}
use Rattle.lisp_eval.specs.CallValue.{IsCallValue}
use Rattle.lisp_eval.proofs.Followed.{rest_push, give_push}

length_visit : (xs : List Object) (x : Object) → length (xs ++ x ∷ []) ≡ length xs + 1
length_visit xs x = length-append xs (x ∷ [])

length_visits : (xs ys : List Object) (x : Object) → length (xs ++ ys ++ x ∷ []) ≡ length xs + length ys + 1
length_visits xs ys x = omega (arith, length_visit (xs ++ ys) x, length-append xs ys)

module _ (P Fine : Object → Type 0) where
  -- what is left after a step that spent so many visits and saw these values
  pub record Left (spent : ℕ) (met : List Object) (o' : Option Rest) (r : Rest) : Type 0 where
    pub count : ℕ
    pub seen : List Object
    pub is : o' ≡ Some (record { value = r.value; count = count; seen = seen; kept = r.kept })
    pub spends : spent + count ≡ r.count
    pub within : Every P r.seen → (Every P met) × (Every P seen)
    pub fine : Every Fine met → Every Fine seen → Every Fine r.seen

  abbrev pub Goes : ℕ → List Object → Option Rest → Option Rest → Type 0
  Goes spent met o o' = (r : Rest) → o ≡ Some r → Left spent met o' r

  some_goes : (spent : ℕ) (met : List Object) (o' : Option Rest) (r : Rest) → Left spent met o' r → Goes spent met (Some r) o'
  some_goes spent met o' r h s e = subst (Left spent met o') (some_same r s e) h

  same_goes : (o o' : Option Rest) → o ≡ o' → Goes 0 [] o o'
  same_goes o o' q r e = record { count = r.count; seen = r.seen; is = sym q ∙ e; spends = omega arith; within = λ h. (tt, h); fine = λ h g. g }

  moved : (spent : ℕ) (met : List Object) (o o' p p' : Option Rest) → p ≡ o → o' ≡ p' → Goes spent met o o' → Goes spent met p p'
  moved spent met o o' p p' q q' h r e = let x = h r (sym q ∙ e) in record { count = x.count; seen = x.seen; is = sym q' ∙ x.is; spends = x.spends; within = x.within; fine = x.fine }

  before_goes : (spent : ℕ) (met : List Object) (o o' : Option Rest) (g : Object → List CallMade → Option Rest) (a b : Rest) (X : Left spent met o' a) → g a.value a.kept ≡ Some b → Goes spent met (before a b) (followed o' g)
  before_goes spent met o o' g a b X e = some_goes spent met (followed o' g) (record { value = b.value; count = a.count + b.count; seen = a.seen ++ b.seen; kept = b.kept }) (record {
    count = X.count + b.count;
    seen = X.seen ++ b.seen;
    is = then_is o' (λ r. then (g r.value r.kept) (before r)) (record { value = a.value; count = X.count; seen = X.seen; kept = a.kept }) _ X.is (then_is (g a.value a.kept) (before (record { value = a.value; count = X.count; seen = X.seen; kept = a.kept })) b _ e refl);
    spends = omega (arith, X.spends);
    within = λ p. let q = every_parts P a.seen b.seen p in let w = X.within q.0 in (w.0, every_append P X.seen b.seen w.1 q.1);
    fine = λ m s. let q = every_parts Fine X.seen b.seen s in every_append Fine a.seen b.seen (X.fine m q.0) q.1;
  })

  -- whatever comes afterwards
  pub goes_followed : (spent : ℕ) (met : List Object) (o o' : Option Rest) (g : Object → List CallMade → Option Rest) → Goes spent met o o' → Goes spent met (followed o g) (followed o' g)
  goes_followed spent met o o' g h r e =
      let i = then_inverted o (λ r. then (g r.value r.kept) (before r)) r e in
      let a = i.0 in
      let j = then_inverted (g a.value a.kept) (before a) r i.1.1 in
      before_goes spent met o o' g a j.0 (h a i.1.0) j.1.0 r j.1.1

  module _ (ds : List Definition) (answered functions : List ℕ) (depth : ℕ) where
    abbrev T : List (ℕ × Object) → Exp → List CallMade → Option Thread
    T = thread ds answered functions depth

    abbrev Ts : List (ℕ × Object) → Exps → List CallMade → Option Threads
    Ts = threads ds answered functions depth

    abbrev Focused : Focus → List CallMade → Option Rest
    Focused = focused ds answered functions depth

    abbrev Resumed : Frame → Object → List CallMade → Option Rest
    Resumed = resumed ds answered functions depth

    abbrev Worked : Work → List Object → List CallMade → Option Rest
    Worked = worked ds answered functions depth

    abbrev pub RestOf : Focus → List Frame → List CallMade → Option Rest
    RestOf = rest_of ds answered functions depth

    -- ---- a step at the focus is a step of the whole
    pub goes_on : (spent : ℕ) (met : List Object) (old new : Focus) (fs : List Frame) (k : List CallMade) → Goes spent met (Focused old k) (Focused new k) → Goes spent met (RestOf old fs k) (RestOf new fs k)
    goes_on spent met old new fs k h = goes_followed spent met (Focused old k) (Focused new k) (resume ds answered functions depth fs) h

    pub goes_into : (spent : ℕ) (met : List Object) (old new : Focus) (fs : List Frame) (f : Frame) (k : List CallMade) → Goes spent met (Focused old k) (followed (Focused new k) (Resumed f)) → Goes spent met (RestOf old fs k) (RestOf new (fs ++ f ∷ []) k)
    goes_into spent met old new fs f k h = moved spent met (RestOf old fs k) (followed (followed (Focused new k) (Resumed f)) (resume ds answered functions depth fs)) (RestOf old fs k) (RestOf new (fs ++ f ∷ []) k) refl (sym (rest_push ds answered functions depth new fs f k))
        (goes_followed spent met (Focused old k) (followed (Focused new k) (Resumed f)) (resume ds answered functions depth fs) h)

    pub goes_back : (spent : ℕ) (met : List Object) (v : Object) (new : Focus) (fs : List Frame) (f : Frame) (k k' : List CallMade) → Goes spent met (Resumed f v k) (Focused new k') → Goes spent met (RestOf (Give v) (fs ++ f ∷ []) k) (RestOf new fs k')
    goes_back spent met v new fs f k k' h = moved spent met (followed (Resumed f v k) (resume ds answered functions depth fs)) (RestOf new fs k') (RestOf (Give v) (fs ++ f ∷ []) k) (RestOf new fs k') (give_push ds answered functions depth v fs f k) refl
        (goes_followed spent met (Resumed f v k) (Focused new k') (resume ds answered functions depth fs) h)

    pub goes_round : (spent : ℕ) (met : List Object) (v : Object) (new : Focus) (fs : List Frame) (f g : Frame) (k : List CallMade) → Goes spent met (Resumed f v k) (followed (Focused new k) (Resumed g)) → Goes spent met (RestOf (Give v) (fs ++ f ∷ []) k) (RestOf new (fs ++ g ∷ []) k)
    goes_round spent met v new fs f g k h = moved spent met (followed (Resumed f v k) (resume ds answered functions depth fs)) (followed (followed (Focused new k) (Resumed g)) (resume ds answered functions depth fs)) (RestOf (Give v) (fs ++ f ∷ []) k) (RestOf new (fs ++ g ∷ []) k) (give_push ds answered functions depth v fs f k) (sym (rest_push ds answered functions depth new fs g k))
        (goes_followed spent met (Resumed f v k) (followed (Focused new k) (Resumed g)) (resume ds answered functions depth fs) h)

    -- ---- into a term
    met_goes : (x : Object) (k : List CallMade) → Goes 1 (x ∷ []) (Some (record { value = x; count = length (x ∷ []); seen = x ∷ []; kept = k })) (given x k)
    met_goes x k = some_goes 1 (x ∷ []) (given x k) (record { value = x; count = length (x ∷ []); seen = x ∷ []; kept = k }) (record { count = 0; seen = []; is = refl; spends = refl; within = λ h. (h, tt); fine = λ h g. h })

    pub into_var : (v : ℕ) (env : List (ℕ × Object)) (fs : List Frame) (k : List CallMade) → Goes 1 (look env v ∷ []) (RestOf (Visit (Var v) env) fs k) (RestOf (Give (look env v)) fs k)
    into_var v env fs k = goes_on 1 (look env v ∷ []) (Visit (Var v) env) (Give (look env v)) fs k (met_goes (look env v) k)

    pub into_const : (x : Object) (env : List (ℕ × Object)) (fs : List Frame) (k : List CallMade) → Goes 1 (x ∷ []) (RestOf (Visit (Const x) env) fs k) (RestOf (Give x) fs k)
    into_const x env fs k = goes_on 1 (x ∷ []) (Visit (Const x) env) (Give x) fs k (met_goes x k)

    -- a term whose walk is known to its end
    pub at_once_goes : (t : Exp) (env : List (ℕ × Object)) (fs : List Frame) (k : List CallMade) (y : Thread) → T env t k ≡ Some y → y.kept ≡ k → Goes (length y.seen) y.seen (RestOf (Visit t env) fs k) (RestOf (Give y.value) fs k)
    at_once_goes t env fs k y e q =
        let whole : Rest = record { value = y.value; count = length y.seen; seen = y.seen; kept = y.kept } in
        goes_on (length y.seen) y.seen (Visit t env) (Give y.value) fs k (moved (length y.seen) y.seen (Some whole) (given y.value y.kept) (Focused (Visit t env) k) (given y.value k) (ap (λ o. then o all_of) e) (ap (given y.value) q)
        (some_goes (length y.seen) y.seen (given y.value y.kept) whole (record { count = 0; seen = []; is = refl; spends = omega arith; within = λ h. (h, tt); fine = λ h g. h })))

    -- a part that ends a visit
    part_goes : (pre : List Object) (y : Thread) (k : List CallMade) (h : Thread) (o' : Option Rest) → ((Q : Object → Type 0) → Every Q y.seen → Q y.value) → after pre y ≡ Some h
        → o' ≡ Some (record { value = y.value; count = length pre + length y.seen; seen = pre ++ y.seen; kept = y.kept }) → Goes 1 [] (all_of h) o'
    part_goes pre y k h o' last e q r g = subst (Left 1 [] o') (some_same _ _ (ap all_of (some_same _ _ e) ∙ g)) (record {
      count = length pre + length y.seen;
      seen = pre ++ y.seen;
      is = q;
      spends = omega (arith, length_visits pre y.seen y.value);
      within = λ p. (tt, (every_parts P (pre ++ y.seen) (y.value ∷ []) p).0);
      fine = λ m s. every_append Fine (pre ++ y.seen) (y.value ∷ []) s (last Fine (every_parts Fine pre y.seen s).1, tt);
    })

    if_goes : (b : Bool) (x : Thread) (s u : Exp) (env : List (ℕ × Object)) (h : Thread)
        → elim b as (λ _. Option Thread) [ true ↦ then (T env u x.kept) (after x.seen) | false ↦ then (T env s x.kept) (after x.seen) ] ≡ Some h
        → Goes 1 [] (all_of h) (then (elim b as (λ _. Option Rest) [ true ↦ then (T env u x.kept) all_of | false ↦ then (T env s x.kept) all_of ]) (before (record { value = x.value; count = length x.seen; seen = x.seen; kept = x.kept })))
    if_goes true x s u env h e =
        let j = then_inverted (T env u x.kept) (after x.seen) h e in
        part_goes x.seen j.0 x.kept h _ (λ Q. value_seen Q (threaded ds answered functions depth) u env x.kept j.0 j.1.0) j.1.1
        (then_is (then (T env u x.kept) all_of) (before (record { value = x.value; count = length x.seen; seen = x.seen; kept = x.kept })) _ _ (then_is (T env u x.kept) all_of j.0 _ j.1.0 refl) refl)
    if_goes false x s u env h e =
        let j = then_inverted (T env s x.kept) (after x.seen) h e in
        part_goes x.seen j.0 x.kept h _ (λ Q. value_seen Q (threaded ds answered functions depth) s env x.kept j.0 j.1.0) j.1.1
        (then_is (then (T env s x.kept) all_of) (before (record { value = x.value; count = length x.seen; seen = x.seen; kept = x.kept })) _ _ (then_is (T env s x.kept) all_of j.0 _ j.1.0 refl) refl)

    pub into_if : (t a b : Exp) (env : List (ℕ × Object)) (fs : List Frame) (k : List CallMade) → Goes 1 [] (RestOf (Visit (If t a b) env) fs k) (RestOf (Visit t env) (fs ++ Branch a b env ∷ []) k)
    into_if t a b env fs k = goes_into 1 [] (Visit (If t a b) env) (Visit t env) fs (Branch a b env) k (λ r e.
        let i = then_inverted (T env (If t a b) k) all_of r e in
        let j = then_inverted (T env t k) _ i.0 i.1.0 in
        let x = j.0 in
        let L = if_goes (is_nil x.value) x a b env i.0 j.1.1 r i.1.1 in
        record {
          count = L.count;
          seen = L.seen;
          spends = L.spends;
          within = L.within;
          fine = L.fine;
          is = then_is (then (T env t k) all_of) (λ r. then (Resumed (Branch a b env) r.value r.kept) (before r)) (record { value = x.value; count = length x.seen; seen = x.seen; kept = x.kept }) _ (then_is (T env t k) all_of x _ j.1.0 refl) L.is;
        })

    -- ---- terms that are worked on together
    abbrev pub together : Work → List Object → Exps → List (ℕ × Object) → List CallMade → Option Rest
    together w done ts env k = then (Ts env ts k) (λ rs. behind rs.seen (Worked w (done ++ rs.values) rs.kept))

    behind_none : (o : Option Rest) → behind [] o ≡ o
    behind_none None = refl
    behind_none (Some r) = let z : 0 + r.count ≡ r.count = omega arith in λ i. Some (record { value = r.value; count = z i; seen = r.seen; kept = r.kept })

    append_none : {A : Type 0} (xs : List A) → xs ++ [] ≡ xs
    append_none [] = refl
    append_none (x ∷ xs) = ap (λ ys. x ∷ ys) (append_none xs)

    pub together_none : (w : Work) (done : List Object) (env : List (ℕ × Object)) (k : List CallMade) → together w done Last env k ≡ Worked w done k
    together_none w done env k = behind_none (Worked w (done ++ []) k) ∙ ap (λ xs. Worked w xs k) (append_none done)

    together_more_at : (w : Work) (done : List Object) (x : Thread) (o : Option Threads) → then (then o (chained x)) (λ rs. behind rs.seen (Worked w (done ++ rs.values) rs.kept))
        ≡ then (then o (λ rs. behind rs.seen (Worked w (done ++ x.value ∷ rs.values) rs.kept))) (before (record { value = x.value; count = length x.seen; seen = x.seen; kept = x.kept }))
    together_more_at w done x None = refl
    together_more_at w done x (Some rs) = behind_two x rs (Worked w (done ++ x.value ∷ rs.values) rs.kept) where
      behind_two : (x : Thread) (rs : Threads) (o : Option Rest) → behind (x.seen ++ rs.seen) o ≡ then (behind rs.seen o) (before (record { value = x.value; count = length x.seen; seen = x.seen; kept = x.kept }))
      behind_two x rs None = refl
      behind_two x rs (Some s) = let z : length (x.seen ++ rs.seen) + s.count ≡ length x.seen + (length rs.seen + s.count) = omega (arith, length-append x.seen rs.seen) in λ i. Some (record { value = s.value; count = z i; seen = append_assoc x.seen rs.seen s.seen i; kept = s.kept })

    together_more_in : (w : Work) (done : List Object) (ts : Exps) (env : List (ℕ × Object)) (o : Option Thread) → then (then o (λ r. then (Ts env ts r.kept) (chained r))) (λ rs. behind rs.seen (Worked w (done ++ rs.values) rs.kept))
        ≡ followed (then o all_of) (λ v k. then (Ts env ts k) (λ rs. behind rs.seen (Worked w (done ++ v ∷ rs.values) rs.kept)))
    together_more_in w done ts env None = refl
    together_more_in w done ts env (Some x) = together_more_at w done x (Ts env ts x.kept)

    -- the first of them is visited, with the others to come
    pub together_more : (w : Work) (done : List Object) (t : Exp) (ts : Exps) (env : List (ℕ × Object)) (k : List CallMade) → together w done (More t ts) env k ≡ followed (Focused (Visit t env) k) (Resumed (Arguments w done ts env))
    together_more w done t ts env k = together_more_in w done ts env (T env t k)

    -- a value takes its place before the terms to come
    pub arguments_together : (w : Work) (done : List Object) (ts : Exps) (env : List (ℕ × Object)) (v : Object) (k : List CallMade) → Resumed (Arguments w done ts env) v k ≡ together w (done ++ v ∷ []) ts env k
    arguments_together w done ts env v k = ap (then (Ts env ts k)) (λ i rs. behind rs.seen (Worked w (sym (append_assoc done (v ∷ []) rs.values) i) rs.kept))

    -- ---- what a visit leaves together
    pub prim_together : (p : _) (ts : Exps) (env : List (ℕ × Object)) (k : List CallMade) → Goes 1 [] (Focused (Visit (Prim p ts) env) k) (together (ToPrim p) [] ts env k)
    prim_together p ts env k r e =
        let i = then_inverted (T env (Prim p ts) k) all_of r e in
        let j = then_inverted (Ts env ts k) _ i.0 i.1.0 in
        let rs = j.0 in
        let x = prim_value p rs.values in
        subst (Left 1 [] (together (ToPrim p) [] ts env k)) (some_same _ _ (ap all_of (some_same _ _ j.1.1) ∙ i.1.1)) (record {
          count = length rs.seen + 0;
          seen = rs.seen ++ x ∷ [];
          is = then_is (Ts env ts k) (λ rs. behind rs.seen (Worked (ToPrim p) rs.values rs.kept)) rs _ j.1.0 refl;
          spends = omega (arith, length_visit rs.seen x);
          within = λ h. (tt, h);
          fine = λ m s. s;
        })

    pub call_together : (f : ℕ) (ts : Exps) (env : List (ℕ × Object)) (k : List CallMade) → Goes 1 [] (Focused (Visit (Call f ts) env) k) (together (ToCall f) [] ts env k)
    call_together f ts env k r e =
        let i = then_inverted (T env (Call f ts) k) all_of r e in
        let j = then_inverted (Ts env ts k) _ i.0 i.1.0 in
        let rs = j.0 in
        let l = then_inverted (threaded ds answered functions depth f rs.values rs.kept) (after rs.seen) i.0 j.1.1 in
        let y = l.0 in
        subst (Left 1 [] (together (ToCall f) [] ts env k)) (some_same _ _ (ap all_of (some_same _ _ l.1.1) ∙ i.1.1)) (record {
          count = length rs.seen + length y.seen;
          seen = rs.seen ++ y.value ∷ y.seen;
          is = then_is (Ts env ts k) (λ rs. behind rs.seen (Worked (ToCall f) rs.values rs.kept)) rs _ j.1.0 (ap (behind rs.seen) (then_is (threaded ds answered functions depth f rs.values rs.kept) call_of y _ l.1.0 refl));
          spends = omega (arith, length_visits rs.seen y.seen y.value);
          within = λ h. let q = every_parts P (rs.seen ++ y.seen) (y.value ∷ []) h in let q' = every_parts P rs.seen y.seen q.0 in (tt, every_append P rs.seen (y.value ∷ y.seen) q'.0 (q.1.0, q'.1));
          fine = λ m s. let q = every_parts Fine rs.seen (y.value ∷ y.seen) s in every_append Fine (rs.seen ++ y.seen) (y.value ∷ []) (every_append Fine rs.seen y.seen q.0 q.1.1) (q.1.0, tt);
        })

    pub let_together : (vs : List ℕ) (ts : Exps) (b : Exp) (env : List (ℕ × Object)) (k : List CallMade) → Goes 1 [] (Focused (Visit (Let vs ts b) env) k) (together (ToLet vs b env) [] ts env k)
    let_together vs ts b env k r e =
        let i = then_inverted (T env (Let vs ts b) k) all_of r e in
        let j = then_inverted (Ts env ts k) _ i.0 i.1.0 in
        let rs = j.0 in
        let l = then_inverted (T (extended vs rs.values env) b rs.kept) (after rs.seen) i.0 j.1.1 in
        let y = l.0 in
        part_goes rs.seen y rs.kept i.0 (together (ToLet vs b env) [] ts env k) (λ Q. value_seen Q (threaded ds answered functions depth) b (extended vs rs.values env) rs.kept y l.1.0) l.1.1
        (then_is (Ts env ts k) (λ rs. behind rs.seen (Worked (ToLet vs b env) rs.values rs.kept)) rs _ j.1.0 (ap (behind rs.seen) (then_is (T (extended vs rs.values env) b rs.kept) all_of y _ l.1.0 refl))) r i.1.1

    -- ---- so: with no terms to come, the work is done; with some, the first is visited
    pub goes_apply : (spent : ℕ) (o : Option Rest) (w : Work) (done : List Object) (env : List (ℕ × Object)) (k : List CallMade) → Goes spent [] o (together w done Last env k) → Goes spent [] o (Focused (Apply w done) k)
    goes_apply spent o w done env k h = moved spent [] o (together w done Last env k) o (Worked w done k) refl (together_none w done env k) h

    pub goes_argument : (spent : ℕ) (o : Option Rest) (w : Work) (done : List Object) (t : Exp) (ts : Exps) (env : List (ℕ × Object)) (k : List CallMade) → Goes spent [] o (together w done (More t ts) env k) → Goes spent [] o (followed (Focused (Visit t env) k) (Resumed (Arguments w done ts env)))
    goes_argument spent o w done t ts env k h = moved spent [] o (together w done (More t ts) env k) o (followed (Focused (Visit t env) k) (Resumed (Arguments w done ts env))) refl (together_more w done t ts env k) h

    pub arguments_goes : (w : Work) (done : List Object) (ts : Exps) (env : List (ℕ × Object)) (v : Object) (k : List CallMade) → Goes 0 [] (Resumed (Arguments w done ts env) v k) (together w (done ++ v ∷ []) ts env k)
    arguments_goes w done ts env v k = same_goes (Resumed (Arguments w done ts env) v k) (together w (done ++ v ∷ []) ts env k) (arguments_together w done ts env v k)

    -- ---- work that is done
    pub prim_done : (p : _) (xs : List Object) (fs : List Frame) (k : List CallMade) → Goes 0 (prim_value p xs ∷ []) (RestOf (Apply (ToPrim p) xs) fs k) (RestOf (Give (prim_value p xs)) fs k)
    prim_done p xs fs k = goes_on 0 (prim_value p xs ∷ []) (Apply (ToPrim p) xs) (Give (prim_value p xs)) fs k
        (some_goes 0 (prim_value p xs ∷ []) (given (prim_value p xs) k) (record { value = prim_value p xs; count = 0; seen = prim_value p xs ∷ []; kept = k }) (record { count = 0; seen = []; is = refl; spends = refl; within = λ h. (h, tt); fine = λ h g. h }))

    pub let_done : (vs : List ℕ) (b : Exp) (env : List (ℕ × Object)) (xs : List Object) (fs : List Frame) (k : List CallMade) → Goes 0 [] (RestOf (Apply (ToLet vs b env) xs) fs k) (RestOf (Visit b (extended vs xs env)) fs k)
    let_done vs b env xs fs k = same_goes (RestOf (Apply (ToLet vs b env) xs) fs k) (RestOf (Visit b (extended vs xs env)) fs k) refl

    -- ---- a value for a frame
    branch_is : (c : Bool) (a b : Exp) (env : List (ℕ × Object)) (k : List CallMade) → elim c as (λ _. Option Rest) [ true ↦ then (T env b k) all_of | false ↦ then (T env a k) all_of ] ≡ Focused (Visit (cond c b a) env) k
    branch_is true a b env k = refl
    branch_is false a b env k = refl

    pub to_branch : (v : Object) (a b : Exp) (env : List (ℕ × Object)) (fs : List Frame) (k : List CallMade) → Goes 0 [] (RestOf (Give v) (fs ++ Branch a b env ∷ []) k) (RestOf (Visit (cond (is_nil v) b a) env) fs k)
    to_branch v a b env fs k = goes_back 0 [] v (Visit (cond (is_nil v) b a) env) fs (Branch a b env) k k (same_goes (Resumed (Branch a b env) v k) (Focused (Visit (cond (is_nil v) b a) env) k) (branch_is (is_nil v) a b env k))

    -- ---- a call that is not opened
    picked_true : (b : Bool) (p q : Option Thread) (y : Thread) → b ≡ true → elim b as (λ _. Option Thread) [ true ↦ p | false ↦ q ] ≡ Some y → p ≡ Some y
    picked_true true p q y h e = e
    picked_true false p q y h e = absurd cc

    picked_false : (b : Bool) (p q : Option Thread) (y : Thread) → b ≡ false → elim b as (λ _. Option Thread) [ true ↦ p | false ↦ q ] ≡ Some y → q ≡ Some y
    picked_false true p q y h e = absurd cc
    picked_false false p q y h e = e

  module _ (ds : List Definition) (answered functions : List ℕ) where
    shut_is : (n f : ℕ) (xs : List Object) (k : List CallMade) (x : Object) (y : Thread) → stays_shut answered functions f xs k ≡ true → IsCallValue ds f xs x → threaded ds answered functions n f xs k ≡ Some y → (record { value = x; seen = []; kept = k }) ≡ y
    shut_is zero f xs k x y s h e = none_some y e
    shut_is (suc n) f xs k x y s h e =
        let p = picked_true ds answered functions n (stays_shut answered functions f xs k) _ _ y s e in
        let i = then_inverted (plain_call ds (suc n) f xs) (λ r. skipped k r.value) y p in
        let q : x ≡ i.0.value = call_value_unique ds f xs x i.0.value h (record { depth = suc n; run = i.0; runs = i.1.0; value = refl }) in
        ap (λ (z : Object). record { value = z; seen = []; kept = k }) q ∙ some_same _ _ i.1.1

    pub call_shut : (n f : ℕ) (xs : List Object) (x : Object) (fs : List Frame) (k : List CallMade) → stays_shut answered functions f xs k ≡ true → IsCallValue ds f xs x
        → Goes 0 (x ∷ []) (RestOf ds answered functions n (Apply (ToCall f) xs) fs k) (RestOf ds answered functions n (Give x) fs k)
    call_shut n f xs x fs k s h = goes_on ds answered functions n 0 (x ∷ []) (Apply (ToCall f) xs) (Give x) fs k (λ r e.
        let i = then_inverted (threaded ds answered functions n f xs k) call_of r e in
        let q = shut_is n f xs k x i.0 s h i.1.0 in
        subst (Left 0 (x ∷ []) (given x k)) (some_same _ _ (ap call_of q ∙ i.1.1)) (record { count = 0; seen = []; is = refl; spends = refl; within = λ h. (h, tt); fine = λ h g. h }))

    -- ---- a call that is opened
    record Opens (n f : ℕ) (xs : List Object) (k : List CallMade) (d : Definition) (y : Thread) : Type 0 where
      body : Thread
      walks : thread ds answered functions n (extended d.formals xs []) d.body k ≡ Some body
      is : (record { value = body.value; seen = body.seen; kept = keeping functions f xs body.kept }) ≡ y

    open_is : (n f : ℕ) (xs : List Object) (k : List CallMade) (d : Definition) (y : Thread) → stays_shut answered functions f xs k ≡ false → slice_get ds f ≡ Some d → threaded ds answered functions n f xs k ≡ Some y → Opens n f xs k d y
    open_is zero f xs k d y s g e = none_some y e
    open_is (suc n) f xs k d y s g e =
        let p = picked_false ds answered functions n (stays_shut answered functions f xs k) _ _ y s e in
        let i = then_inverted (slice_get ds f) _ y p in
        let q : i.0 ≡ d = some_same _ _ (sym i.1.0 ∙ g) in
        let j = then_inverted (thread ds answered functions n (extended i.0.formals xs []) i.0.body k) _ y i.1.1 in
        let w : thread ds answered functions n (extended d.formals xs []) d.body k ≡ Some j.0 = subst (λ (z : Definition). thread ds answered functions n (extended z.formals xs []) z.body k ≡ Some j.0) q j.1.0 in
        record {
          body = j.0;
          walks = thread_grow (threaded ds answered functions n) (threaded ds answered functions (suc n)) (threaded_more ds answered functions n) d.body (extended d.formals xs []) k j.0 w;
          is = some_same _ _ j.1.1;
        }

    -- the call is not kept: its body takes its place
    pub call_enters : (n f : ℕ) (xs : List Object) (d : Definition) (fs : List Frame) (k : List CallMade) → stays_shut answered functions f xs k ≡ false → slice_get ds f ≡ Some d → is_among functions f ≡ false
        → Goes 0 [] (RestOf ds answered functions n (Apply (ToCall f) xs) fs k) (RestOf ds answered functions n (Visit d.body (extended d.formals xs [])) fs k)
    call_enters n f xs d fs k s g m = goes_on ds answered functions n 0 [] (Apply (ToCall f) xs) (Visit d.body (extended d.formals xs [])) fs k (λ r e.
        let i = then_inverted (threaded ds answered functions n f xs k) call_of r e in
        let o = open_is n f xs k d i.0 s g i.1.0 in
        let h = o.body in
        let z : cond (is_among functions f) ((f, xs) ∷ h.kept) h.kept ≡ h.kept = ap (λ (b : Bool). cond b ((f, xs) ∷ h.kept) h.kept) m in
        subst (Left 0 [] (then (thread ds answered functions n (extended d.formals xs []) d.body k) all_of)) (ap (λ (c : List CallMade). record { value = h.value; count = length h.seen; seen = h.value ∷ h.seen; kept = c }) (sym z) ∙ some_same _ _ (ap call_of o.is ∙ i.1.1)) (record {
          count = length h.seen;
          seen = h.seen;
          is = then_is (thread ds answered functions n (extended d.formals xs []) d.body k) all_of h _ o.walks refl;
          spends = omega arith;
          within = λ p. (tt, p.1);
          fine = λ _ p. (value_seen Fine (threaded ds answered functions n) d.body (extended d.formals xs []) k h o.walks p, p);
        }))

    value_is : (n f : ℕ) (xs : List Object) (v y : Object) → HasPlain (plain_call ds n f xs) y → y ≡ v → is_value (plain_call ds n f xs) v ≡ true
    value_is n f xs v y h q = ap (λ o. is_value o v) h.is ∙ (ap (λ (z : Object). object_eq z v) q ∙ equal_itself v)

    keep_is : (b : Bool) (f : ℕ) (xs : List Object) (v : Object) (k : List CallMade) → b ≡ true → elim b as (λ _. Option Rest) [ true ↦ given v ((f, xs) ∷ k) | false ↦ None ] ≡ given v ((f, xs) ∷ k)
    keep_is true f xs v k h = refl
    keep_is false f xs v k h = absurd cc

    -- the call is kept at its end
    pub call_keeps : (n f : ℕ) (xs : List Object) (d : Definition) (fs : List Frame) (k : List CallMade) → stays_shut answered functions f xs k ≡ false → slice_get ds f ≡ Some d → is_among functions f ≡ true
        → Goes 0 [] (RestOf ds answered functions n (Apply (ToCall f) xs) fs k) (RestOf ds answered functions n (Visit d.body (extended d.formals xs [])) (fs ++ Keep f xs ∷ []) k)
    call_keeps n f xs d fs k s g m = goes_into ds answered functions n 0 [] (Apply (ToCall f) xs) (Visit d.body (extended d.formals xs [])) fs (Keep f xs) k (λ r e.
        let i = then_inverted (threaded ds answered functions n f xs k) call_of r e in
        let o = open_is n f xs k d i.0 s g i.1.0 in
        let h = o.body in
        let z : cond (is_among functions f) ((f, xs) ∷ h.kept) h.kept ≡ (f, xs) ∷ h.kept = ap (λ (b : Bool). cond b ((f, xs) ∷ h.kept) h.kept) m in
        let t : is_value (plain_call ds n f xs) h.value ≡ true = value_is n f xs h.value i.0.value (threaded_plain ds answered functions n f (record { values = xs; seen = []; made = [] }) k i.0 i.1.0) (ap (λ (y : Thread). y.value) (sym o.is)) in
        let one : length h.seen + 0 ≡ length h.seen = omega arith in
        subst (Left 0 [] (followed (then (thread ds answered functions n (extended d.formals xs []) d.body k) all_of) (resumed ds answered functions n (Keep f xs)))) (ap (λ (c : List CallMade). record { value = h.value; count = length h.seen; seen = h.value ∷ h.seen; kept = c }) (sym z) ∙ some_same _ _ (ap call_of o.is ∙ i.1.1)) (record {
          count = length h.seen + 0;
          seen = h.seen ++ [];
          is = then_is (then (thread ds answered functions n (extended d.formals xs []) d.body k) all_of) (λ r. then (resumed ds answered functions n (Keep f xs) r.value r.kept) (before r)) (record { value = h.value; count = length h.seen; seen = h.seen; kept = h.kept }) _ (then_is (thread ds answered functions n (extended d.formals xs []) d.body k) all_of h _ o.walks refl)
              (then_is (resumed ds answered functions n (Keep f xs) h.value h.kept) (before (record { value = h.value; count = length h.seen; seen = h.seen; kept = h.kept })) (record { value = h.value; count = 0; seen = []; kept = (f, xs) ∷ h.kept }) _ (keep_is (is_value (plain_call ds n f xs) h.value) f xs h.value h.kept t) refl);
          spends = omega (arith, one);
          within = λ p. (tt, every_append P h.seen [] p.1 tt);
          fine = λ _ p. let q = (every_parts Fine h.seen [] p).0 in (value_seen Fine (threaded ds answered functions n) d.body (extended d.formals xs []) k h o.walks q, q);
        }))

    -- ---- a memoized call is finished
    kept_goes : (b : Bool) (f : ℕ) (xs : List Object) (v : Object) (k : List CallMade) → Goes 0 [] (elim b as (λ _. Option Rest) [ true ↦ given v ((f, xs) ∷ k) | false ↦ None ]) (given v ((f, xs) ∷ k))
    kept_goes true f xs v k = same_goes (given v ((f, xs) ∷ k)) (given v ((f, xs) ∷ k)) refl
    kept_goes false f xs v k = λ r e. none_some r e

    pub to_keep : (n f : ℕ) (xs : List Object) (v : Object) (fs : List Frame) (k : List CallMade) → Goes 0 [] (RestOf ds answered functions n (Give v) (fs ++ Keep f xs ∷ []) k) (RestOf ds answered functions n (Give v) fs ((f, xs) ∷ k))
    to_keep n f xs v fs k = goes_back ds answered functions n 0 [] v (Give v) fs (Keep f xs) k ((f, xs) ∷ k) (kept_goes (is_value (plain_call ds n f xs) v) f xs v k)

    value_from : (o : Option Walk) (v : Object) (p : Option Rest) (r : Rest) → elim (is_value o v) as (λ _. Option Rest) [ true ↦ p | false ↦ None ] ≡ Some r → (w : Walk) × ((o ≡ Some w) × (w.value ≡ v))
    value_from None v p r e = none_some r e
    value_from (Some w) v p r e = value_at w v p r (object_eq w.value v) refl e where
      value_at : (w : Walk) (v : Object) (p : Option Rest) (r : Rest) (b : Bool) → object_eq w.value v ≡ b → elim b as (λ _. Option Rest) [ true ↦ p | false ↦ None ] ≡ Some r → (u : Walk) × ((Some w ≡ Some u) × (u.value ≡ v))
      value_at w v p r true h e = (w, (refl, equal_from w.value v h))
      value_at w v p r false h e = none_some r e

    -- and its value is the call's
    pub kept_value : (n f : ℕ) (xs : List Object) (v : Object) (fs : List Frame) (k : List CallMade) (r : Rest) → RestOf ds answered functions n (Give v) (fs ++ Keep f xs ∷ []) k ≡ Some r → IsCallValue ds f xs v
    kept_value n f xs v fs k r e =
        let i = then_inverted (resumed ds answered functions n (Keep f xs) v k) _ r (sym (give_push ds answered functions n v fs (Keep f xs) k) ∙ e) in
        let j = value_from (plain_call ds n f xs) v (given v ((f, xs) ∷ k)) i.0 i.1.0 in
        record { depth = n; run = j.0; runs = j.1.0; value = j.1.1 }
