-- What a call of `zp` gives at once, from what its argument gives.
use Rattle.std.proofs.Common.{◌≡◌, sym, refl, subst, ℕ, ◌+◌, ◌-◌, ◌<◌, ◌≤◌, arith, List, [], ◌∷◌, Some, slice_get, Result, Ok, Err, IsErr}
use Rattle.std.specs.Prelude.{IsErrOf}
use Rattle.gl_logic.specs.Definition.{Definition}
use Rattle.gl_logic.specs.Exp.{Exp, Exps, Call, Last, More}
use Rattle.gl_logic.specs.Object.{Object, Int, Character, Symbol, Text, Cons, boolean_object}
use Rattle.gl_logic.proofs.GroundCalls.{there_is}
use Rattle.fast_alists.specs.Tables.{Agree}
use Rattle.hons_arena.specs.Held.{Held}
use Rattle.lisp_eval.specs.Attempts.{Alists, Tells, TellsAll}
use Rattle.lisp_eval.specs.Directs.{GivesAtOnce, IsFound, AreGiven}
use Rattle.lisp_eval.specs.Outside.{value_object, IsLiveValue}
use Rattle.lisp_eval.specs.Sights.{Sees, Adds, Lacks}
use Rattle.lisp_eval.specs.Zero.{IsZp, zp_holds, zp_visits}
use Rattle.lisp_eval.specs.declared.attempt.Found.{Found}
use Rattle.lisp_eval.specs.declared.attempt.Given.{Given}
use Rattle.lisp_eval.specs.declared.attempt.Stop.{Stop}
use Rattle.lisp_eval.specs.declared.attempt.Stop.TheVariants as stop
use Rattle.lisp_eval.specs.declared.value.Value.{Value}
use Rattle.lisp_eval.specs.declared.value.Value.TheVariants as value
use Rattle.lisp_eval.proofs.Attempting.{tells_found, one_tells, first_refused, call_refused, call_tells}
use Rattle.lisp_eval.proofs.DirectFound.{value_narrow, one_local}
use Rattle.lisp_eval.proofs.Sights.{adds_none}
use Rattle.lisp_eval.proofs.ZeroGives.{is_zp, zp_gives}

-- NIL, where there is no argument
abbrev nothing : Value
nothing = value.Symbol (record { number = 0 })

some_visits : (x : Object) → 0 < zp_visits x
some_visits (Int i) = omega arith
some_visits (Character c) = omega arith
some_visits (Symbol s) = omega arith
some_visits (Text s) = omega arith
some_visits (Cons a d) = omega arith

-- the argument is refused
pub argument_refused : (ds : List Definition) (functions : List ℕ) (env : List (ℕ × Object)) (f : ℕ) (ts : Exps) (t : Exp) → ts ≡ More t Last → (left : ℕ) (old new : Held) (tables : Alists) (answer : Result Found Stop) → IsErr answer → Adds (Sees ds functions env t) old new → Agree new.objects tables
    → (IsErrOf answer stop.Full → Lacks (Sees ds functions env t) new) → Tells ds functions env (Call f ts) left old new tables answer
argument_refused ds functions env f ts t e left old new tables (Ok x) h adds agree lacks = absurd cc
argument_refused ds functions env f ts t e left old new tables (Err s) h adds agree lacks =
    let answer : Result Given Stop = Err s in
    let all = first_refused ds functions env ts t Last left old new tables answer e refl adds agree (λ q. lacks (as_found s q)) in
    call_refused ds functions env (Call f ts) f ts left old new tables (Err s) refl refl all.adds all.agree (λ q. all.lacks (as_given s q)) where
      as_found : (s : Stop) → IsErrOf {T = Given} (Err s) stop.Full → IsErrOf {T = Found} (Err s) stop.Full
      as_found s q = cc

      as_given : (s : Stop) → IsErrOf {T = Found} (Err s) stop.Full → IsErrOf {T = Given} (Err s) stop.Full
      as_given s q = cc

module _ (ds : List Definition) (functions : List ℕ) (f : ℕ) (zp : IsZp ds functions f) (env : List (ℕ × Object)) (ts : Exps) (t : Exp) (e : ts ≡ More t Last) (left : ℕ) (old new : Held) (tables : Alists) (x : Found) (tells : Tells ds functions env t left old new tables (Ok x)) where
  abbrev given : Given
  given = record { first = x.value; second = nothing; third = nothing; left = x.left }

  argument : TellsAll ds functions env ts left old new tables (Ok given)
  argument = one_tells ds functions env ts t left old new tables x nothing e refl tt tells.adds tells.agree tells.found

  pub zero_refused : Tells ds functions env (Call f ts) (left + 1) old new tables (Err stop.Beyond)
  zero_refused = call_refused ds functions env (Call f ts) f ts (left + 1) old new tables (Err stop.Beyond) refl refl argument.adds argument.agree (λ q. absurd cc)

  abbrev the_value : Object
  the_value = value_object new.objects x.value

  is_given : AreGiven ds functions new.objects env ts (left + 1 - 1) given
  is_given =
      let z : left ≡ left + 1 - 1 = omega arith in
      subst (λ (n : ℕ). AreGiven ds functions new.objects env ts n given) z argument.given

  pub zero_tells : (v : Value) → value_object new.objects v ≡ boolean_object (zp_holds the_value) → IsLiveValue new.objects v → zp_visits the_value ≤ x.left → Tells ds functions env (Call f ts) (left + 1) old new tables (Ok (record { value = v; left = x.left - zp_visits the_value }))
  zero_tells v is live enough =
      let d = there_is ds f zp.opens.there in
      let here = subst (λ (n : ℕ). slice_get ds n ≡ Some d.0) zp.number d.1 in
      let one = (is_zp ds zp.ground d.0 here).0 in
      let n = there_is d.0.formals 0 (omega (arith, one)) in
      let narrow = value_narrow new argument.adds.whole x.value tells.found.live in
      let gives = zp_gives ds functions zp.ground d.0 here n.0 n.1 the_value narrow in
      let some = some_visits the_value in
      let visits : zp_visits the_value ≡ x.left - (x.left - zp_visits the_value) = omega (arith, enough) in
      let inner = (n.0, the_value) ∷ [] in
      let found : IsFound ds functions new.objects inner d.0.body x.left (record { value = v; left = x.left - zp_visits the_value }) = record {
        live = live;
        fewer = omega (arith, some, enough);
        gives = subst (λ (y : Object). GivesAtOnce ds functions inner d.0.body y (x.left - (x.left - zp_visits the_value))) (sym is) (subst (GivesAtOnce ds functions inner d.0.body (boolean_object (zp_holds the_value))) visits gives);
      } in
      let body = tells_found ds functions inner d.0.body x.left new new tables (record { value = v; left = x.left - zp_visits the_value }) (adds_none (Sees ds functions inner d.0.body) new argument.adds.whole) tells.agree found in
      call_tells ds functions env (Call f ts) f ts d.0 (left + 1) old new new tables given inner (Ok (record { value = v; left = x.left - zp_visits the_value })) (λ z. omega (arith, z)) refl zp.opens d.1 argument.adds is_given
      (one_local ds functions new argument.adds.whole env d.0.formals n.0 given ts (left + 1 - 1) is_given one n.1) body
