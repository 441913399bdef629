-- What attempts at parts of a term tell of the term.
use Rattle.std.proofs.Common.{◌≡◌, ◌∙◌, ap, sym, refl, subst, ℕ, zero, suc, ◌+◌, ◌-◌, ◌<◌, arith, Bool, true, cond, List, [], ◌∷◌, get_or, slice_get, Some, Result, Ok, Err, IsErr, ◌⊎◌, inl, inr}
use Rattle.std.specs.Prelude.{IfOk, IsErrOf}
use Rattle.gl_logic.specs.Counts.{is_among}
use Rattle.gl_logic.specs.Definition.{Definition}
use Rattle.gl_logic.specs.Environment.{extended}
use Rattle.gl_logic.specs.Exp.{Exp, Exps, Const, If, Prim, Call, Last, More}
use Rattle.gl_logic.specs.IsGround.{AreGround}
use Rattle.gl_logic.specs.Object.{Object, nil}
use Rattle.gl_logic.specs.ObjectEq.{is_nil}
use Rattle.gl_logic.specs.PrimValue.{prim_of}
use Rattle.gl_logic.specs.declared.prim.Primitive.{Primitive}
use Rattle.fast_alists.specs.Tables.{Agree}
use Rattle.hons_arena.specs.Held.{Held, IsWhole}
use Rattle.lisp_eval.specs.Answers.{HasGrown}
use Rattle.lisp_eval.specs.Attempts.{Alists, Tells, TellsAll, Applies, IsHere, IsSeenOrNil, SeesAnswer, TablesTell, given_answer, unary_term, binary_term, value_found}
use Rattle.lisp_eval.specs.CallValue.{IsCallValue}
use Rattle.lisp_eval.specs.Directs.{GivesAtOnce, IsFound, AreGiven, OpensAtOnce}
use Rattle.lisp_eval.specs.Narrow.{IsNarrow}
use Rattle.lisp_eval.specs.Outside.{value_object, IsLiveValue}
use Rattle.lisp_eval.specs.Sights.{Sees, SeeAll, Adds, Lacks}
use Rattle.lisp_eval.specs.Tables.{answered_in, table_value}
use Rattle.lisp_eval.specs.Within.{IsIn}
use Rattle.lisp_eval.specs.declared.attempt.Found.{Found}
use Rattle.lisp_eval.specs.declared.attempt.Given.{Given}
use Rattle.lisp_eval.specs.declared.attempt.Stop.{Stop}
use Rattle.lisp_eval.specs.declared.attempt.Stop.TheVariants as stop
use Rattle.lisp_eval.specs.declared.value.Value.{Value}
use Rattle.lisp_eval.proofs.DirectFound.{value_narrow, found_const, found_if, one_given, two_given, three_given, found_prim, found_call}
use Rattle.lisp_eval.proofs.Directly.{shut_gives, shut_seen}
use Rattle.lisp_eval.proofs.Entering.{value_grown}
use Rattle.lisp_eval.proofs.Sights.{Covers, SeesWithin, const_seen, adds_none, adds_cells, adds_on, adds_by, lacks_by, lacks_cell, if_sees_test, if_sees_branch, prim_sees_parts, prim_value_seen, call_sees_parts, call_sees_body, first_seen, rest_seen, arguments_seen, in_behind}
use Rattle.lisp_eval.proofs.TableValues.{tables_are_right}

get_or_in : (xs : List Object) (k : ℕ) → IsIn xs (get_or xs k nil) ⊎ (get_or xs k nil ≡ nil)
get_or_in [] k = inr refl
get_or_in (x ∷ xs) zero = inl (0, refl)
get_or_in (x ∷ xs) (suc k) = elim (get_or_in xs k) [
  | inl h ↦ inl (suc h.0, h.1)
  | inr e ↦ inr e
]

pub ok_map : {A E : Type 0} (P Q : A → Type 0) (r : Result A E) → ((x : A) → P x → Q x) → IfOk r P → IfOk r Q
ok_map P Q (Ok x) g h = g x h
ok_map P Q (Err e) g h = tt

module _ (ds : List Definition) (functions : List ℕ) where
  pub found_grown : (old new : List Object) → HasGrown old new → (env : List (ℕ × Object)) (t : Exp) (left : ℕ) (f : Found) → IsFound ds functions old env t left f → IsFound ds functions new env t left f
  found_grown old new g env t left f h =
      let v = value_grown old new g f.value h.live in
      record { live = v.0; fewer = h.fewer; gives = subst (λ (y : Object). GivesAtOnce ds functions env t y (left - f.left)) (sym v.1) h.gives }

  pub given_grown : (old new : List Object) → HasGrown old new → (env : List (ℕ × Object)) (ts : Exps) (left : ℕ) (g : Given) → AreGiven ds functions old env ts left g → AreGiven ds functions new env ts left g
  given_grown old new h env ts left g a =
      let v = value_grown old new h g.first a.first_live in
      let u = value_grown old new h g.second a.second_live in
      let w = value_grown old new h g.third a.third_live in
      record { values = a.values; first_live = v.0; second_live = u.0; third_live = w.0; first = a.first ∙ sym v.1; second = a.second ∙ sym u.1; third = a.third ∙ sym w.1; fewer = a.fewer; give = a.give }

  module _ (env : List (ℕ × Object)) where
    abbrev S : Exp → List Object → Type 0
    S = Sees ds functions env

    abbrev All : Exps → List Object → Type 0
    All = SeeAll ds functions env

    abbrev Tell : Exp → ℕ → Held → Held → Alists → Result Found Stop → Type 0
    Tell = Tells ds functions env

    abbrev TellOf : Exps → ℕ → Held → Held → Alists → Result Given Stop → Type 0
    TellOf = TellsAll ds functions env

    pub tells_found : (t : Exp) (left : ℕ) (old new : Held) (tables : Alists) (f : Found) → Adds (S t) old new → Agree new.objects tables → IsFound ds functions new.objects env t left f → Tell t left old new tables (Ok f)
    tells_found t left old new tables f a agree h = record { adds = a; agree = agree; found = h; lacks = λ e. absurd cc }

    tells_refused : (t : Exp) (left : ℕ) (old new : Held) (tables : Alists) (answer : Result Found Stop) → IsErr answer → Adds (S t) old new → Agree new.objects tables → (IsErrOf answer stop.Full → Lacks (S t) new) → Tell t left old new tables answer
    tells_refused t left old new tables (Ok f) h a agree l = absurd cc
    tells_refused t left old new tables (Err s) h a agree l = record { adds = a; agree = agree; found = tt; lacks = l }

    -- nothing is done
    pub beyond_tells : (t : Exp) (left : ℕ) (held : Held) (tables : Alists) → IsWhole held → Agree held.objects tables → Tell t left held held tables (Err stop.Beyond)
    beyond_tells t left held tables whole agree = record { adds = adds_none (S t) held whole; agree = agree; found = tt; lacks = λ e. absurd cc }

    pub beyond_tell_all : (ts : Exps) (left : ℕ) (held : Held) (tables : Alists) → IsWhole held → Agree held.objects tables → TellOf ts left held held tables (Err stop.Beyond)
    beyond_tell_all ts left held tables whole agree = record { adds = adds_none (All ts) held whole; agree = agree; given = tt; lacks = λ e. absurd cc }

    -- a last part, in an environment of its own, whose value is the whole's
    tells_on : (t : Exp) (inner : List (ℕ × Object)) (u : Exp) (left rest : ℕ) (old mid new : Held) (tables : Alists) (answer : Result Found Stop) → Adds (S t) old mid → Covers (S t) (Sees ds functions inner u) → Tells ds functions inner u rest mid new tables answer
        → ((f : Found) → IsFound ds functions new.objects inner u rest f → IsFound ds functions new.objects env t left f) → Tell t left old new tables answer
    tells_on t inner u left rest old mid new tables answer a c h f = record {
      agree = h.agree;
      adds = adds_on (S t) old mid new a (adds_by (S t) (Sees ds functions inner u) mid new c h.adds);
      found = ok_map (IsFound ds functions new.objects inner u rest) (IsFound ds functions new.objects env t left) answer f h.found;
      lacks = λ e. lacks_by (S t) (Sees ds functions inner u) new c (h.lacks e);
    }

    -- ---- a constant
    pub const_tells : (t : Exp) (o : Object) (left : ℕ) (old new : Held) (tables : Alists) (answer : Result Found Stop) → Agree new.objects tables → (left ≡ 0 → ⊥) → t ≡ Const o → Applies o old new (value_found answer) → IfOk answer (λ f. f.left ≡ left - 1) → Tell t left old new tables answer
    const_tells t o left old new tables answer agree some e a l = told answer a l where
      seen_const : (seen : List Object) → S t seen → IsIn seen o
      seen_const = subst (λ (u : Exp). (seen : List Object) → S u seen → IsIn seen o) (sym e) (const_seen ds functions env o)

      is_full : (s : Stop) → IsErrOf {T = Found} (Err s) stop.Full → s ≡ stop.Full
      is_full s q = cc

      same_stop : (s : Stop) → s ≡ stop.Full → IsErrOf {T = Value} {E = Stop} (Err s) stop.Full
      same_stop s q = subst (λ (z : Stop). IsErrOf {T = Value} {E = Stop} (Err z) stop.Full) (sym q) refl

      told : (r : Result Found Stop) → Applies o old new (value_found r) → IfOk r (λ f. f.left ≡ left - 1) → Tell t left old new tables r
      told (Ok f) a l = tells_found t left old new tables f (adds_cells (S t) o old new seen_const a.objects a.limit a.whole) agree
          (subst (λ (n : ℕ). IsFound ds functions new.objects env t left (record { value = f.value; left = n })) (sym l) (found_const ds functions new a.whole env t o left f.value some e a.value.1 a.value.0))
      told (Err s) a l = tells_refused t left old new tables (Err s) refl (adds_cells (S t) o old new seen_const a.objects a.limit a.whole) agree (λ q. lacks_cell (S t) o new seen_const (a.lacks (same_stop s (is_full s q))))

    -- ---- an `if`
    covers_test : (t test a b : Exp) → t ≡ If test a b → Covers (S t) (S test)
    covers_test t test a b e = subst (λ (u : Exp). Covers (S u) (S test)) (sym e) (if_sees_test ds functions env test a b)

    pub test_refused : (t test a b : Exp) (left : ℕ) (old new : Held) (tables : Alists) (answer : Result Found Stop) → t ≡ If test a b → IsErr answer → Adds (S test) old new → Agree new.objects tables → (IsErrOf answer stop.Full → Lacks (S test) new) → Tell t left old new tables answer
    test_refused t test a b left old new tables answer e h g agree l = tells_refused t left old new tables answer h (adds_by (S t) (S test) old new (covers_test t test a b e) g) agree (λ q. lacks_by (S t) (S test) new (covers_test t test a b e) (l q))

    pub branch_tells : (t test a b : Exp) (left : ℕ) (old mid new : Held) (tables : Alists) (f : Found) (q : Bool) (answer : Result Found Stop) → (left ≡ 0 → ⊥) → t ≡ If test a b → Adds (S test) old mid → IsFound ds functions mid.objects env test (left - 1) f
        → is_nil (value_object mid.objects f.value) ≡ q → Tell (cond q b a) f.left mid new tables answer → Tell t left old new tables answer
    branch_tells t test a b left old mid new tables f q answer some e g first n h =
        let x = value_object mid.objects f.value in
        let covers : Covers (S (If test a b)) (S (cond q b a)) = λ seen s. subst (λ (r : Bool). SeesWithin ds functions env (cond r b a) seen) n (if_sees_branch ds functions env test a b x (left - 1 - f.left) first.gives seen s) in
        let later = found_grown mid.objects new.objects h.adds.grown env test (left - 1) f first in
        let same = ap is_nil (value_grown mid.objects new.objects h.adds.grown f.value first.live).1 ∙ n in
        tells_on t env (cond q b a) left f.left old mid new tables answer (adds_by (S t) (S test) old mid (covers_test t test a b e) g) (subst (λ (u : Exp). Covers (S u) (S (cond q b a))) (sym e) covers) h
        (λ y z. found_if ds functions new h.adds.whole env t test a b left f y q some e later same z)

    -- ---- arguments
    covers_first : (ts : Exps) (t : Exp) (us : Exps) → ts ≡ More t us → Covers (All ts) (S t)
    covers_first ts t us e = subst (λ (vs : Exps). Covers (All vs) (S t)) (sym e) (first_seen ds functions env t us)

    covers_second : (ts : Exps) (t u : Exp) (us : Exps) → ts ≡ More t (More u us) → Covers (All ts) (S u)
    covers_second ts t u us e = subst (λ (vs : Exps). Covers (All vs) (S u)) (sym e) (λ seen s.
        let p = rest_seen ds functions env t (More u us) seen s in
        let q = first_seen ds functions env u us p.0 p.1.0 in (q.0, (q.1.0, λ x h. p.1.1 x (q.1.1 x h))))

    given_refused : (ts : Exps) (left : ℕ) (old new : Held) (tables : Alists) (answer : Result Given Stop) → IsErr answer → Adds (All ts) old new → Agree new.objects tables → (IsErrOf answer stop.Full → Lacks (All ts) new) → TellOf ts left old new tables answer
    given_refused ts left old new tables (Ok g) h a agree l = absurd cc
    given_refused ts left old new tables (Err s) h a agree l = record { adds = a; agree = agree; given = tt; lacks = l }

    covers_third : (ts : Exps) (t u v : Exp) (us : Exps) → ts ≡ More t (More u (More v us)) → Covers (All ts) (S v)
    covers_third ts t u v us e = subst (λ (vs : Exps). Covers (All vs) (S v)) (sym e) (λ seen s.
        let p = rest_seen ds functions env t (More u (More v us)) seen s in
        let q = rest_seen ds functions env u (More v us) p.0 p.1.0 in
        let r = first_seen ds functions env v us q.0 q.1.0 in (r.0, (r.1.0, λ x h. p.1.1 x (q.1.1 x (r.1.1 x h)))))

    pub first_refused : (ts : Exps) (t : Exp) (us : Exps) (left : ℕ) (old new : Held) (tables : Alists) (answer : Result Given Stop) → ts ≡ More t us → IsErr answer → Adds (S t) old new → Agree new.objects tables → (IsErrOf answer stop.Full → Lacks (S t) new) → TellOf ts left old new tables answer
    first_refused ts t us left old new tables answer e h g agree l = given_refused ts left old new tables answer h (adds_by (All ts) (S t) old new (covers_first ts t us e) g) agree (λ q. lacks_by (All ts) (S t) new (covers_first ts t us e) (l q))

    both_add : (ts : Exps) (t u : Exp) (us : Exps) (old mid new : Held) → ts ≡ More t (More u us) → Adds (S t) old mid → Adds (S u) mid new → Adds (All ts) old new
    both_add ts t u us old mid new e g h = adds_on (All ts) old mid new (adds_by (All ts) (S t) old mid (covers_first ts t (More u us) e) g) (adds_by (All ts) (S u) mid new (covers_second ts t u us e) h)

    three_add : (ts : Exps) (t u v : Exp) (us : Exps) (old mid late new : Held) → ts ≡ More t (More u (More v us)) → Adds (S t) old mid → Adds (S u) mid late → Adds (S v) late new → Adds (All ts) old new
    three_add ts t u v us old mid late new e g h k = adds_on (All ts) old late new (both_add ts t u (More v us) old mid late e g h) (adds_by (All ts) (S v) late new (covers_third ts t u v us e) k)

    pub second_refused : (ts : Exps) (t u : Exp) (us : Exps) (left : ℕ) (old mid new : Held) (tables : Alists) (answer : Result Given Stop) → ts ≡ More t (More u us) → IsErr answer → Adds (S t) old mid → Adds (S u) mid new → Agree new.objects tables → (IsErrOf answer stop.Full → Lacks (S u) new) → TellOf ts left old new tables answer
    second_refused ts t u us left old mid new tables answer e h g k agree l = given_refused ts left old new tables answer h (both_add ts t u us old mid new e g k) agree (λ q. lacks_by (All ts) (S u) new (covers_second ts t u us e) (l q))

    pub third_refused : (ts : Exps) (t u v : Exp) (us : Exps) (left : ℕ) (old mid late new : Held) (tables : Alists) (answer : Result Given Stop) → ts ≡ More t (More u (More v us)) → IsErr answer → Adds (S t) old mid → Adds (S u) mid late → Adds (S v) late new → Agree new.objects tables
        → (IsErrOf answer stop.Full → Lacks (S v) new) → TellOf ts left old new tables answer
    third_refused ts t u v us left old mid late new tables answer e h g k m agree l = given_refused ts left old new tables answer h (three_add ts t u v us old mid late new e g k m) agree (λ q. lacks_by (All ts) (S v) new (covers_third ts t u v us e) (l q))

    pub one_tells : (ts : Exps) (t : Exp) (left : ℕ) (old new : Held) (tables : Alists) (f : Found) (nothing : Value) → ts ≡ More t Last → value_object new.objects nothing ≡ nil → IsLiveValue new.objects nothing → Adds (S t) old new → Agree new.objects tables → IsFound ds functions new.objects env t left f
        → TellOf ts left old new tables (Ok (record { first = f.value; second = nothing; third = nothing; left = f.left }))
    one_tells ts t left old new tables f nothing e is live g agree h = record {
      adds = adds_by (All ts) (S t) old new (covers_first ts t Last e) g;
      agree = agree;
      given = one_given ds functions new g.whole env ts t left f nothing e is live h;
      lacks = λ q. absurd cc;
    }

    pub two_tell : (ts : Exps) (t u : Exp) (left : ℕ) (old mid new : Held) (tables : Alists) (f y : Found) (nothing : Value) → ts ≡ More t (More u Last) → value_object new.objects nothing ≡ nil → IsLiveValue new.objects nothing → Adds (S t) old mid → IsFound ds functions mid.objects env t left f → Adds (S u) mid new
        → Agree new.objects tables → IsFound ds functions new.objects env u f.left y → TellOf ts left old new tables (Ok (record { first = f.value; second = y.value; third = nothing; left = y.left }))
    two_tell ts t u left old mid new tables f y nothing e is live g h k agree z = record {
      adds = both_add ts t u Last old mid new e g k;
      agree = agree;
      given = two_given ds functions new k.whole env ts t u left f y nothing e is live (found_grown mid.objects new.objects k.grown env t left f h) z;
      lacks = λ q. absurd cc;
    }

    pub three_tell : (ts : Exps) (t u v : Exp) (left : ℕ) (old mid late new : Held) (tables : Alists) (f y z : Found) → ts ≡ More t (More u (More v Last)) → Adds (S t) old mid → IsFound ds functions mid.objects env t left f → Adds (S u) mid late → IsFound ds functions late.objects env u f.left y → Adds (S v) late new
        → Agree new.objects tables → IsFound ds functions new.objects env v y.left z → TellOf ts left old new tables (Ok (record { first = f.value; second = y.value; third = z.value; left = z.left }))
    three_tell ts t u v left old mid late new tables f y z e g h k m n agree o = record {
      adds = three_add ts t u v Last old mid late new e g k n;
      agree = agree;
      given = three_given ds functions new n.whole env ts t u v left f y z e (found_grown late.objects new.objects n.grown env t left f (found_grown mid.objects late.objects k.grown env t left f h)) (found_grown late.objects new.objects n.grown env u f.left y m) o;
      lacks = λ q. absurd cc;
    }

    -- ---- a primitive
    covers_parts : (t : Exp) (p : _) (ts : Exps) → t ≡ Prim p ts → Covers (S t) (All ts)
    covers_parts t p ts e = subst (λ (u : Exp). Covers (S u) (All ts)) (sym e) (prim_sees_parts ds functions env p ts)

    pub parts_refused : (t : Exp) (p : _) (ts : Exps) (left : ℕ) (old new : Held) (tables : Alists) (answer : Result Found Stop) → t ≡ Prim p ts → IsErr answer → Adds (All ts) old new → Agree new.objects tables → (IsErrOf answer stop.Full → Lacks (All ts) new) → Tell t left old new tables answer
    parts_refused t p ts left old new tables answer e h g agree l = tells_refused t left old new tables answer h (adds_by (S t) (All ts) old new (covers_parts t p ts e) g) agree (λ q. lacks_by (S t) (All ts) new (covers_parts t p ts e) (l q))

    module _ (t : Exp) (p : _) (ts : Exps) (left : ℕ) (old mid new : Held) (tables : Alists) (agree : Agree new.objects tables) (g : Given) (value : Result Value Stop) (e : t ≡ Prim p ts) (adds : Adds (All ts) old mid) (given : AreGiven ds functions mid.objects env ts (left - 1) g)
        (applies : Applies (prim_of p (value_object mid.objects g.first) (value_object mid.objects g.second)) mid new value) where
      abbrev the_value : Object
      the_value = prim_of p (value_object mid.objects g.first) (value_object mid.objects g.second)

      seen_value : (seen : List Object) → S t seen → IsIn seen the_value
      seen_value = subst (λ (u : Exp). (seen : List Object) → S u seen → IsIn seen the_value) (sym e) (λ seen s.
          subst (IsIn seen) (λ i. prim_of p (given.first i) (given.second i)) (prim_value_seen ds functions env p ts given.values (left - 1 - g.left) given.give seen s))

      value_adds : Adds (S t) old new
      value_adds = adds_on (S t) old mid new (adds_by (S t) (All ts) old mid (covers_parts t p ts e) adds) (adds_cells (S t) the_value mid new seen_value applies.objects applies.limit applies.whole)

      pub value_refused : (answer : Result Found Stop) → IsErr answer → (IsErrOf answer stop.Full → IsErrOf value stop.Full) → Tell t left old new tables answer
      value_refused answer h l = tells_refused t left old new tables answer h value_adds agree (λ q. lacks_cell (S t) the_value new seen_value (applies.lacks (l q)))

      pub value_tells : (v : Value) → value ≡ Ok v → (left ≡ 0 → ⊥) → Tell t left old new tables (Ok (record { value = v; left = g.left }))
      value_tells v q some =
          let is = subst (λ (r : Result Value Stop). IfOk r (λ u. IsLiveValue new.objects u × (value_object new.objects u ≡ the_value))) q applies.value in
          let later = given_grown mid.objects new.objects (applies.objects.made, applies.objects.is) env ts (left - 1) g given in
          let first = (value_grown mid.objects new.objects (applies.objects.made, applies.objects.is) g.first given.first_live).1 in
          let second = (value_grown mid.objects new.objects (applies.objects.made, applies.objects.is) g.second given.second_live).1 in
          tells_found t left old new tables (record { value = v; left = g.left }) value_adds agree
          (found_prim ds functions new applies.whole env t p ts left g v some e later is.0 (is.1 ∙ (λ i. prim_of p (sym first i) (sym second i))))

    -- ---- a primitive of one argument
    pub operand_refused : (p : Primitive) (t : Exp) (us : Exps) (left : ℕ) (old new : Held) (tables : Alists) (answer : Result Found Stop) → IsErr answer → Adds (S t) old new → Agree new.objects tables → (IsErrOf answer stop.Full → Lacks (S t) new) → Tell (Prim p (More t us)) left old new tables answer
    operand_refused p t us left old new tables answer h g agree l =
        let ts = More t us in
        let covers = covers_first ts t us refl in
        parts_refused (Prim p ts) p ts left old new tables answer refl h (adds_by (All ts) (S t) old new covers g) agree (λ q. lacks_by (All ts) (S t) new covers (l q))

    module _ (p : Primitive) (t : Exp) (left : ℕ) (old mid new : Held) (tables : Alists) (agree : Agree new.objects tables) (f : Found) (nothing : Value) (is : value_object mid.objects nothing ≡ nil) (live : IsLiveValue mid.objects nothing) (value : Result Value Stop)
        (adds : Adds (S t) old mid) (found : IsFound ds functions mid.objects env t (left - 1) f) (applies : Applies (prim_of p (value_object mid.objects f.value) (value_object mid.objects nothing)) mid new value) where
      abbrev one_value : Given
      one_value = record { first = f.value; second = nothing; third = nothing; left = f.left }

      one_adds : Adds (All (More t Last)) old mid
      one_adds = adds_by (All (More t Last)) (S t) old mid (covers_first (More t Last) t Last refl) adds

      one_is_given : AreGiven ds functions mid.objects env (More t Last) (left - 1) one_value
      one_is_given = one_given ds functions mid adds.whole env (More t Last) t (left - 1) f nothing refl is live found

      pub unary_refused : (answer : Result Found Stop) → IsErr answer → (IsErrOf answer stop.Full → IsErrOf value stop.Full) → Tell (unary_term p t) left old new tables answer
      unary_refused = value_refused (unary_term p t) p (More t Last) left old mid new tables agree one_value value refl one_adds one_is_given applies

      pub unary_tells : (v : Value) → value ≡ Ok v → (left ≡ 0 → ⊥) → Tell (unary_term p t) left old new tables (Ok (record { value = v; left = f.left }))
      unary_tells = value_tells (unary_term p t) p (More t Last) left old mid new tables agree one_value value refl one_adds one_is_given applies

    -- ---- a primitive of two arguments
    pub second_operand_refused : (p : Primitive) (t u : Exp) (left : ℕ) (old mid new : Held) (tables : Alists) (answer : Result Found Stop) → IsErr answer → Adds (S t) old mid → Adds (S u) mid new → Agree new.objects tables → (IsErrOf answer stop.Full → Lacks (S u) new) → Tell (binary_term p t u) left old new tables answer
    second_operand_refused p t u left old mid new tables answer h g k agree l =
        let ts = More t (More u Last) in
        parts_refused (binary_term p t u) p ts left old new tables answer refl h (both_add ts t u Last old mid new refl g k) agree (λ q. lacks_by (All ts) (S u) new (covers_second ts t u Last refl) (l q))

    module _ (p : Primitive) (t u : Exp) (left : ℕ) (old mid late new : Held) (tables : Alists) (agree : Agree new.objects tables) (f y : Found) (nothing : Value) (is : value_object late.objects nothing ≡ nil) (live : IsLiveValue late.objects nothing) (value : Result Value Stop)
        (adds : Adds (S t) old mid) (found : IsFound ds functions mid.objects env t (left - 1) f) (more : Adds (S u) mid late) (later : IsFound ds functions late.objects env u f.left y)
        (applies : Applies (prim_of p (value_object late.objects f.value) (value_object late.objects y.value)) late new value) where
      abbrev two_values : Given
      two_values = record { first = f.value; second = y.value; third = nothing; left = y.left }

      two_add : Adds (All (More t (More u Last))) old late
      two_add = both_add (More t (More u Last)) t u Last old mid late refl adds more

      two_are_given : AreGiven ds functions late.objects env (More t (More u Last)) (left - 1) two_values
      two_are_given = two_given ds functions late more.whole env (More t (More u Last)) t u (left - 1) f y nothing refl is live (found_grown mid.objects late.objects more.grown env t (left - 1) f found) later

      pub binary_refused : (answer : Result Found Stop) → IsErr answer → (IsErrOf answer stop.Full → IsErrOf value stop.Full) → Tell (binary_term p t u) left old new tables answer
      binary_refused = value_refused (binary_term p t u) p (More t (More u Last)) left old late new tables agree two_values value refl two_add two_are_given applies

      pub binary_tells : (v : Value) → value ≡ Ok v → (left ≡ 0 → ⊥) → Tell (binary_term p t u) left old new tables (Ok (record { value = v; left = y.left }))
      binary_tells = value_tells (binary_term p t u) p (More t (More u Last)) left old late new tables agree two_values value refl two_add two_are_given applies

    -- ---- a call
    covers_arguments : (t : Exp) (f : ℕ) (ts : Exps) → t ≡ Call f ts → Covers (S t) (All ts)
    covers_arguments t f ts e = subst (λ (u : Exp). Covers (S u) (All ts)) (sym e) (call_sees_parts ds functions env f ts)

    pub call_refused : (t : Exp) (f : ℕ) (ts : Exps) (left : ℕ) (old new : Held) (tables : Alists) (answer : Result Found Stop) → t ≡ Call f ts → IsErr answer → Adds (All ts) old new → Agree new.objects tables → (IsErrOf answer stop.Full → Lacks (All ts) new) → Tell t left old new tables answer
    call_refused t f ts left old new tables answer e h g agree l = tells_refused t left old new tables answer h (adds_by (S t) (All ts) old new (covers_arguments t f ts e) g) agree (λ q. lacks_by (S t) (All ts) new (covers_arguments t f ts e) (l q))

    pub call_tells : (t : Exp) (f : ℕ) (ts : Exps) (d : Definition) (left : ℕ) (old mid new : Held) (tables : Alists) (g : Given) (inner : List (ℕ × Object)) (answer : Result Found Stop) → (left ≡ 0 → ⊥) → t ≡ Call f ts → OpensAtOnce ds functions f → slice_get ds f ≡ Some d → Adds (All ts) old mid
        → (given : AreGiven ds functions mid.objects env ts (left - 1) g) → inner ≡ extended d.formals given.values [] → Tells ds functions inner d.body g.left mid new tables answer → Tell t left old new tables answer
    unfolding given_grown
    call_tells t f ts d left old mid new tables g inner answer some e o s a given n h =
        let covers : Covers (S (Call f ts)) (Sees ds functions inner d.body) = λ seen z. subst (λ (i : List (ℕ × Object)). SeesWithin ds functions i d.body seen) (sym n) (call_sees_body ds functions env f ts d given.values (left - 1 - g.left) given.give o s seen z) in
        let later = given_grown mid.objects new.objects h.adds.grown env ts (left - 1) g given in
        tells_on t inner d.body left g.left old mid new tables answer (adds_by (S t) (All ts) old mid (covers_arguments t f ts e) a) (subst (λ (u : Exp). Covers (S u) (Sees ds functions inner d.body)) (sym e) covers) h
        (λ y z. found_call ds functions new h.adds.whole env t f ts d left g inner y some e o s later n z)

    -- ---- a call that tables answer
    module _ (ground : AreGround ds) (f : ℕ) (ts : Exps) (left : ℕ) (old mid : Held) (g : Given) (table : is_among (answered_in ds) f ≡ true) (adds : Adds (All ts) old mid) (given : AreGiven ds functions mid.objects env ts left g) where
      abbrev the_answer : Object
      the_answer = given_answer mid.objects f g

      is_call_value : IsCallValue ds f given.values the_answer
      is_call_value = subst (IsCallValue ds f given.values) (λ i. table_value f (given.first i) (given.second i) (given.third i)) (tables_are_right ds ground f table given.values)

      answer_seen : (seen : List Object) → S (Call f ts) seen → IsIn seen the_answer
      answer_seen seen s =
          let k = shut_seen ds functions env f ts given.values the_answer (left - g.left) s.depth s.kept s.walk table given.give is_call_value s.walks in
          subst (λ (zs : List Object). IsIn zs the_answer) (sym k.1 ∙ s.sight) (in_behind k.0 (the_answer ∷ []) the_answer (0, refl))

      seen_or_nil : (seen : List Object) → S (Call f ts) seen → (k : ℕ) → IsSeenOrNil seen (get_or given.values k nil)
      seen_or_nil seen s k = elim (get_or_in given.values k) [
        | inl i ↦
            let p = call_sees_parts ds functions env f ts seen s in
            inl (p.1.1 (get_or given.values k nil) (arguments_seen ds functions env ts given.values (left - g.left) given.give p.0 p.1.0 (get_or given.values k nil) i))
        | inr e ↦ inr e
      ]

      covers_answer : Covers (S (Call f ts)) (SeesAnswer mid.objects f g)
      covers_answer seen s = (seen, (((subst (IsSeenOrNil seen) given.first (seen_or_nil seen s 0), (subst (IsSeenOrNil seen) given.second (seen_or_nil seen s 1), subst (IsSeenOrNil seen) given.third (seen_or_nil seen s 2))), answer_seen seen s), λ x h. h))

      pub answered_tells : (new : Held) (tables : Alists) (answer : Result Found Stop) → TablesTell f g mid new tables answer → Tell (Call f ts) (left + 1) old new tables answer
      answered_tells new tables answer h = record {
        adds = adds_on (S (Call f ts)) old mid new (adds_by (S (Call f ts)) (All ts) old mid (covers_arguments (Call f ts) f ts refl) adds) (adds_by (S (Call f ts)) (SeesAnswer mid.objects f g) mid new covers_answer h.adds);
        agree = h.agree;
        found = ok_map (λ x. IsHere new.objects the_answer x.value × (x.left ≡ g.left)) (IsFound ds functions new.objects env (Call f ts) (left + 1)) answer found h.found;
        lacks = λ e. absurd (h.cells e);
      } where
        gives : (v : Value) → IsHere new.objects the_answer v → GivesAtOnce ds functions env (Call f ts) (value_object new.objects v) (left + 1 - g.left)
        gives v is = subst (λ (z : Object). GivesAtOnce ds functions env (Call f ts) z (left + 1 - g.left)) (sym is.1) (subst (GivesAtOnce ds functions env (Call f ts) the_answer) (omega (arith, given.fewer))
            (shut_gives ds functions env f ts given.values the_answer (left - g.left) table given.give is_call_value (subst IsNarrow is.1 (value_narrow new h.adds.whole v is.0))))

        found : (x : Found) → IsHere new.objects the_answer x.value × (x.left ≡ g.left) → IsFound ds functions new.objects env (Call f ts) (left + 1) x
        found x is = record { live = is.0.0; fewer = omega (arith, given.fewer, is.1); gives = subst (λ (n : ℕ). GivesAtOnce ds functions env (Call f ts) (value_object new.objects x.value) (left + 1 - n)) (sym is.1) (gives x.value is.0) }

    -- behind the visit of the call itself
    pub call_same : (t : Exp) (f : ℕ) (ts : Exps) (left : ℕ) (old new : Held) (tables : Alists) (answer : Result Found Stop) → t ≡ Call f ts → 0 < left → Tell (Call f ts) (left - 1 + 1) old new tables answer → Tell t left old new tables answer
    call_same t f ts left old new tables answer e some h = subst (λ (u : Exp). Tell u left old new tables answer) (sym e) (subst (λ (n : ℕ). Tell (Call f ts) n old new tables answer) (omega (arith, some)) h)
