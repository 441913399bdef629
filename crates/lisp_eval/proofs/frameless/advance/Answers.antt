use Rattle.std.proofs.Common.{rules, ◌≡◌, ◌∙◌, ap, sym, subst, refl, Ok, Err, List, []}
use Rattle.gl_logic.specs.Every.{Every}
use Rattle.gl_logic.specs.TermOf.{term_of}
use Rattle.hons_arena.specs.Ids.{IsLive}
use Rattle.lisp_eval.specs.Frameless.{AreLiveLocals, EntersLocals, GoesInto}
use Rattle.lisp_eval.specs.Outside.{locals_of}
use Rattle.lisp_eval.specs.States.{env_of}
use Rattle.lisp_eval.specs.declared.frameless.Step.TheVariants as step
use Rattle.lisp_eval.specs.declared.attempt.Stop.TheVariants as stop
use Rattle.lisp_eval.specs.declared.frame.Binding.{Binding}
use Rattle.lisp_eval.specs.declared.value.Local.{Local}
use Rattle.lisp_eval.proofs.Entering.{tables_on}
use Rattle.lisp_eval.proofs.Advancing.{step_of, first_found, first_stays, value_stops, value_reached, into_grown, later_stops, later_found, later_stays, later_opens, later_adds, advance_unheld, entering_adds, entering_stops, entering_goes}
use Rattle.lisp_eval.proofs.frameless.advance.Goals as goal

pub returns-in_err-enter-in-Value-clause-tells : goal.returns-in_err-enter-in-Value-clause-tells
returns-in_err-enter-in-Value-clause-tells c =
    let ds = c.args.setting.now.world.now.definitions in
    let fs = c.args.setting.now.functions.now in
    let old = c.args.arena.now in
    let env = env_of old.objects c.args.env.now.value.items in
    let t = term_of c.args.term.now in
    let left = c.args.left in
    let same : c.as_slice.result.now ≡ c.args.env.now.value.items = c.as_slice.ensures.value ∙ ap (λ v. v.items) c.as_ref.ensures in
    let mid = c.take_step.new.arena in
    let next = c.take_step.new.next.items in
    let is : c.take_step.result ≡ Ok (step.Value c.in-Value.found) = c.in_ok-found.was ∙ ap (λ s. Ok s) c.in-Value.is in
    let h = step_of ds fs (env_of old.objects c.as_slice.result.now) env (ap (env_of old.objects) same) t left old mid next c.take_step.result (Ok (step.Value c.in-Value.found)) is c.take_step.ensures.tells in
    let f = c.in-Value.found in
    let answer = c.from_residual-in_err-enter-in-Value.result in
    let full : answer ≡ Err stop.Full = search rules in
    value_stops ds fs env t left old mid f (first_found ds fs env t left old mid next f h) c.enter.new.arena c.enter.ensures.whole c.in_err-enter-in-Value.field-0.0 answer full c.in_err-enter-in-Value.ensures.places

pub returns-in-Value-clause-tells : goal.returns-in-Value-clause-tells
returns-in-Value-clause-tells c =
    let ds = c.args.setting.now.world.now.definitions in
    let fs = c.args.setting.now.functions.now in
    let old = c.args.arena.now in
    let env = env_of old.objects c.args.env.now.value.items in
    let t = term_of c.args.term.now in
    let left = c.args.left in
    let same : c.as_slice.result.now ≡ c.args.env.now.value.items = c.as_slice.ensures.value ∙ ap (λ v. v.items) c.as_ref.ensures in
    let mid = c.take_step.new.arena in
    let next = c.take_step.new.next.items in
    let is : c.take_step.result ≡ Ok (step.Value c.in-Value.found) = c.in_ok-found.was ∙ ap (λ s. Ok s) c.in-Value.is in
    let h = step_of ds fs (env_of old.objects c.as_slice.result.now) env (ap (env_of old.objects) same) t left old mid next c.take_step.result (Ok (step.Value c.in-Value.found)) is c.take_step.ensures.tells in
    let f = c.in-Value.found in
    value_reached ds fs env t left old mid f (first_found ds fs env t left old mid next f h) c.enter.new.arena c.enter.ensures.whole c.in_ok-enter-in-Value.field-0 c.in_ok-enter-in-Value.ensures.places

pub returns-in-Stays-clause-tells : goal.returns-in-Stays-clause-tells
returns-in-Stays-clause-tells c =
    let ds = c.args.setting.now.world.now.definitions in
    let fs = c.args.setting.now.functions.now in
    let old = c.args.arena.now in
    let env = env_of old.objects c.args.env.now.value.items in
    let t = term_of c.args.term.now in
    let left = c.args.left in
    let same : c.as_slice.result.now ≡ c.args.env.now.value.items = c.as_slice.ensures.value ∙ ap (λ v. v.items) c.as_ref.ensures in
    let mid = c.take_step.new.arena in
    let next = c.take_step.new.next.items in
    let is : c.take_step.result ≡ Ok (step.Stays c.in-Stays.inner c.in-Stays.rest) = c.in_ok-found.was ∙ ap (λ s. Ok s) c.in-Stays.is in
    let h = step_of ds fs (env_of old.objects c.as_slice.result.now) env (ap (env_of old.objects) same) t left old mid next c.take_step.result (Ok (step.Stays c.in-Stays.inner c.in-Stays.rest)) is c.take_step.ensures.tells in
    let items : c.in_ok-clone-in-Stays.field-0.value.items ≡ c.args.env.now.value.items = search rules in
    first_stays ds fs env t left old mid next c.in-Stays.inner c.in-Stays.rest c.in_ok-clone-in-Stays.field-0 h (ap (env_of old.objects) (sym items)) (subst (Every (λ b. IsLive old.objects b.value)) (sym items) c.requires.env)

pub returns-in_err-enter-in-Value-step-clause-tells : goal.returns-in_err-enter-in-Value-step-clause-tells
returns-in_err-enter-in-Value-step-clause-tells c =
    let ds = c.args.setting.now.world.now.definitions in
    let fs = c.args.setting.now.functions.now in
    let old = c.args.arena.now in
    let env = env_of old.objects c.args.env.now.value.items in
    let t = term_of c.args.term.now in
    let left = c.args.left in
    let mid = c.loop-step.arena in
    let here = c.loop-step.here.items in
    let u = term_of c.loop-step.inner.now in
    let rest = c.loop-step.rest in
    let i = c.loop-step.invariant in
    let new = c.take_step-in-loop-step.new.arena in
    let next = c.take_step-in-loop-step.new.next.items in
    let is : c.take_step-in-loop-step.result ≡ Ok (step.Value c.in-Value-step.found) = c.in-Ok.is ∙ ap (λ s. Ok s) c.in-Value-step.is in
    let h = step_of ds fs (locals_of mid.objects c.as_slice-in-loop-step.result.now) (locals_of mid.objects here) (ap (locals_of mid.objects) c.as_slice-in-loop-step.ensures.value) u rest mid new next c.take_step-in-loop-step.result (Ok (step.Value c.in-Value-step.found)) is c.take_step-in-loop-step.ensures.tells in
    let f = c.in-Value-step.found in
    let answer = c.from_residual-in_err-enter-in-Value-step.result in
    let full : answer ≡ Err stop.Full = search rules in
    value_stops ds fs env t left old new f (later_found ds fs env t left old mid i.adds here u rest i.into new next f h) c.enter-in-Value-step.new.arena c.enter-in-Value-step.ensures.whole c.in_err-enter-in-Value-step.field-0.0 answer full c.in_err-enter-in-Value-step.ensures.places

pub returns-in-Value-step-clause-tells : goal.returns-in-Value-step-clause-tells
returns-in-Value-step-clause-tells c =
    let ds = c.args.setting.now.world.now.definitions in
    let fs = c.args.setting.now.functions.now in
    let old = c.args.arena.now in
    let env = env_of old.objects c.args.env.now.value.items in
    let t = term_of c.args.term.now in
    let left = c.args.left in
    let mid = c.loop-step.arena in
    let here = c.loop-step.here.items in
    let u = term_of c.loop-step.inner.now in
    let rest = c.loop-step.rest in
    let i = c.loop-step.invariant in
    let new = c.take_step-in-loop-step.new.arena in
    let next = c.take_step-in-loop-step.new.next.items in
    let is : c.take_step-in-loop-step.result ≡ Ok (step.Value c.in-Value-step.found) = c.in-Ok.is ∙ ap (λ s. Ok s) c.in-Value-step.is in
    let h = step_of ds fs (locals_of mid.objects c.as_slice-in-loop-step.result.now) (locals_of mid.objects here) (ap (locals_of mid.objects) c.as_slice-in-loop-step.ensures.value) u rest mid new next c.take_step-in-loop-step.result (Ok (step.Value c.in-Value-step.found)) is c.take_step-in-loop-step.ensures.tells in
    let f = c.in-Value-step.found in
    value_reached ds fs env t left old new f (later_found ds fs env t left old mid i.adds here u rest i.into new next f h) c.enter-in-Value-step.new.arena c.enter-in-Value-step.ensures.whole c.in_ok-enter-in-Value-step.field-0 c.in_ok-enter-in-Value-step.ensures.places

pub loop-step-preserved-in-Stays-step : goal.loop-step-preserved-in-Stays-step
loop-step-preserved-in-Stays-step c =
    let ds = c.args.setting.now.world.now.definitions in
    let fs = c.args.setting.now.functions.now in
    let old = c.args.arena.now in
    let env = env_of old.objects c.args.env.now.value.items in
    let t = term_of c.args.term.now in
    let left = c.args.left in
    let mid = c.loop-step.arena in
    let here = c.loop-step.here.items in
    let u = term_of c.loop-step.inner.now in
    let rest = c.loop-step.rest in
    let i = c.loop-step.invariant in
    let new = c.take_step-in-loop-step.new.arena in
    let next = c.take_step-in-loop-step.new.next.items in
    let is : c.take_step-in-loop-step.result ≡ Ok (step.Stays c.in-Stays-step.term c.in-Stays-step.left) = c.in-Ok.is ∙ ap (λ s. Ok s) c.in-Stays-step.is in
    let h = step_of ds fs (locals_of mid.objects c.as_slice-in-loop-step.result.now) (locals_of mid.objects here) (ap (locals_of mid.objects) c.as_slice-in-loop-step.ensures.value) u rest mid new next c.take_step-in-loop-step.result (Ok (step.Stays c.in-Stays-step.term c.in-Stays-step.left)) is c.take_step-in-loop-step.ensures.tells in
    let s = later_stays ds fs env t left old mid i.adds here u rest i.into new next c.in-Stays-step.term c.in-Stays-step.left h in
    record { whole = h.adds.whole; agree = c.take_step-in-loop-step.ensures.agree; adds = later_adds ds fs env t left old mid i.adds here u rest i.into new next (Ok (step.Stays c.in-Stays-step.term c.in-Stays-step.left)) h; into = s }

pub loop-step-preserved : goal.loop-step-preserved
loop-step-preserved c =
    let ds = c.args.setting.now.world.now.definitions in
    let fs = c.args.setting.now.functions.now in
    let old = c.args.arena.now in
    let env = env_of old.objects c.args.env.now.value.items in
    let t = term_of c.args.term.now in
    let left = c.args.left in
    let mid = c.loop-step.arena in
    let here = c.loop-step.here.items in
    let u = term_of c.loop-step.inner.now in
    let rest = c.loop-step.rest in
    let i = c.loop-step.invariant in
    let new = c.take_step-in-loop-step.new.arena in
    let next = c.take_step-in-loop-step.new.next.items in
    let is : c.take_step-in-loop-step.result ≡ Ok (step.Opens c.in-Opens-step.body c.in-Opens-step.left) = c.in-Ok.is ∙ ap (λ s. Ok s) c.in-Opens-step.is in
    let h = step_of ds fs (locals_of mid.objects c.as_slice-in-loop-step.result.now) (locals_of mid.objects here) (ap (locals_of mid.objects) c.as_slice-in-loop-step.ensures.value) u rest mid new next c.take_step-in-loop-step.result (Ok (step.Opens c.in-Opens-step.body c.in-Opens-step.left)) is c.take_step-in-loop-step.ensures.tells in
    let o = later_opens ds fs env t left old mid i.adds here u rest i.into new next c.in-Opens-step.body c.in-Opens-step.left h in
    let swapped : c.swap.new.x.items ≡ next = ap (λ v. v.items) c.swap.ensures.x_after in
    record {
      agree = c.take_step-in-loop-step.ensures.agree;
      whole = h.adds.whole;
      adds = later_adds ds fs env t left old mid i.adds here u rest i.into new next (Ok (step.Opens c.in-Opens-step.body c.in-Opens-step.left)) h;
      into = subst (λ (ls : List Local). GoesInto ds fs env t left new.objects ls (term_of c.in-Opens-step.body.now) c.in-Opens-step.left) (sym swapped) o;
    }

pub enter_all-requires-clause-live : goal.enter_all-requires-clause-live
enter_all-requires-clause-live c =
    let ds = c.args.setting.now.world.now.definitions in
    let fs = c.args.setting.now.functions.now in
    let old = c.args.arena.now in
    let env = env_of old.objects c.args.env.now.value.items in
    let t = term_of c.args.term.now in
    let left = c.args.left in
    let mid = c.loop-step.arena in
    let here = c.loop-step.here.items in
    let u = term_of c.loop-step.inner.now in
    let rest = c.loop-step.rest in
    let i = c.loop-step.invariant in
    let new = c.take_step-in-loop-step.new.arena in
    let next = c.take_step-in-loop-step.new.next.items in
    let is : c.take_step-in-loop-step.result ≡ Err stop.Beyond = c.in-Err-Beyond.is ∙ ap (λ e. Err e) c.in-Err-Beyond.field-0-is in
    let h = step_of ds fs (locals_of mid.objects c.as_slice-in-loop-step.result.now) (locals_of mid.objects here) (ap (locals_of mid.objects) c.as_slice-in-loop-step.ensures.value) u rest mid new next c.take_step-in-loop-step.result (Err stop.Beyond) is c.take_step-in-loop-step.ensures.tells in
    let adds = later_adds ds fs env t left old mid i.adds here u rest i.into new next (Err stop.Beyond) h in
    let into = into_grown ds fs env t left old mid i.adds here u rest i.into new h.adds.grown in
    subst (λ (ls : List Local). AreLiveLocals new.objects ls) (sym c.as_slice-in-Err-Beyond.ensures.value) into.live

pub returns-in_err-enter_all-in-Err-Beyond-clause-tells : goal.returns-in_err-enter_all-in-Err-Beyond-clause-tells
returns-in_err-enter_all-in-Err-Beyond-clause-tells c =
    let ds = c.args.setting.now.world.now.definitions in
    let fs = c.args.setting.now.functions.now in
    let old = c.args.arena.now in
    let env = env_of old.objects c.args.env.now.value.items in
    let t = term_of c.args.term.now in
    let left = c.args.left in
    let mid = c.loop-step.arena in
    let here = c.loop-step.here.items in
    let u = term_of c.loop-step.inner.now in
    let rest = c.loop-step.rest in
    let i = c.loop-step.invariant in
    let new = c.take_step-in-loop-step.new.arena in
    let next = c.take_step-in-loop-step.new.next.items in
    let is : c.take_step-in-loop-step.result ≡ Err stop.Beyond = c.in-Err-Beyond.is ∙ ap (λ e. Err e) c.in-Err-Beyond.field-0-is in
    let h = step_of ds fs (locals_of mid.objects c.as_slice-in-loop-step.result.now) (locals_of mid.objects here) (ap (locals_of mid.objects) c.as_slice-in-loop-step.ensures.value) u rest mid new next c.take_step-in-loop-step.result (Err stop.Beyond) is c.take_step-in-loop-step.ensures.tells in
    let adds = later_adds ds fs env t left old mid i.adds here u rest i.into new next (Err stop.Beyond) h in
    let into = into_grown ds fs env t left old mid i.adds here u rest i.into new h.adds.grown in
    let last = c.enter_all.new.arena in
    let bindings = c.enter_all.new.env.items in
    let all = subst (λ (ls : List Local). EntersLocals ls new last c.new-bindings.result.items bindings c.enter_all.result) c.as_slice-in-Err-Beyond.ensures.value c.enter_all.ensures in
    let entered = subst (λ (bs : List Binding). EntersLocals here new last bs bindings c.enter_all.result) c.new-bindings.ensures.items all in
    let e = c.in_err-enter_all-in-Err-Beyond.field-0.0 in
    let answer = c.from_residual-in_err-enter_all-in-Err-Beyond.result in
    let stops : answer ≡ Err e = search rules in
    entering_stops ds fs env t left old new adds here u rest into last bindings e answer stops (subst (EntersLocals here new last [] bindings) c.in_err-enter_all-in-Err-Beyond.was entered)

pub returns-in_err-new-in-Err-Beyond-clause-tells : goal.returns-in_err-new-in-Err-Beyond-clause-tells
returns-in_err-new-in-Err-Beyond-clause-tells c =
    let ds = c.args.setting.now.world.now.definitions in
    let fs = c.args.setting.now.functions.now in
    let old = c.args.arena.now in
    let env = env_of old.objects c.args.env.now.value.items in
    let t = term_of c.args.term.now in
    let left = c.args.left in
    let mid = c.loop-step.arena in
    let here = c.loop-step.here.items in
    let u = term_of c.loop-step.inner.now in
    let rest = c.loop-step.rest in
    let i = c.loop-step.invariant in
    let new = c.take_step-in-loop-step.new.arena in
    let next = c.take_step-in-loop-step.new.next.items in
    let is : c.take_step-in-loop-step.result ≡ Err stop.Beyond = c.in-Err-Beyond.is ∙ ap (λ e. Err e) c.in-Err-Beyond.field-0-is in
    let h = step_of ds fs (locals_of mid.objects c.as_slice-in-loop-step.result.now) (locals_of mid.objects here) (ap (locals_of mid.objects) c.as_slice-in-loop-step.ensures.value) u rest mid new next c.take_step-in-loop-step.result (Err stop.Beyond) is c.take_step-in-loop-step.ensures.tells in
    let adds = later_adds ds fs env t left old mid i.adds here u rest i.into new next (Err stop.Beyond) h in
    let into = into_grown ds fs env t left old mid i.adds here u rest i.into new h.adds.grown in
    let last = c.enter_all.new.arena in
    let bindings = c.enter_all.new.env.items in
    let all = subst (λ (ls : List Local). EntersLocals ls new last c.new-bindings.result.items bindings c.enter_all.result) c.as_slice-in-Err-Beyond.ensures.value c.enter_all.ensures in
    let entered = subst (λ (bs : List Binding). EntersLocals here new last bs bindings c.enter_all.result) c.new-bindings.ensures.items all in
    let answer = c.from_residual-in_err-new-in-Err-Beyond.result in
    let full : answer ≡ Err stop.Memory = search rules in
    advance_unheld ds fs env t left old last answer full (entering_adds ds fs env t left old new adds here u rest into last bindings c.enter_all.result entered)

pub returns-in-Err-Beyond-clause-tells : goal.returns-in-Err-Beyond-clause-tells
returns-in-Err-Beyond-clause-tells c =
    let ds = c.args.setting.now.world.now.definitions in
    let fs = c.args.setting.now.functions.now in
    let old = c.args.arena.now in
    let env = env_of old.objects c.args.env.now.value.items in
    let t = term_of c.args.term.now in
    let left = c.args.left in
    let mid = c.loop-step.arena in
    let here = c.loop-step.here.items in
    let u = term_of c.loop-step.inner.now in
    let rest = c.loop-step.rest in
    let i = c.loop-step.invariant in
    let new = c.take_step-in-loop-step.new.arena in
    let next = c.take_step-in-loop-step.new.next.items in
    let is : c.take_step-in-loop-step.result ≡ Err stop.Beyond = c.in-Err-Beyond.is ∙ ap (λ e. Err e) c.in-Err-Beyond.field-0-is in
    let h = step_of ds fs (locals_of mid.objects c.as_slice-in-loop-step.result.now) (locals_of mid.objects here) (ap (locals_of mid.objects) c.as_slice-in-loop-step.ensures.value) u rest mid new next c.take_step-in-loop-step.result (Err stop.Beyond) is c.take_step-in-loop-step.ensures.tells in
    let adds = later_adds ds fs env t left old mid i.adds here u rest i.into new next (Err stop.Beyond) h in
    let into = into_grown ds fs env t left old mid i.adds here u rest i.into new h.adds.grown in
    let last = c.enter_all.new.arena in
    let bindings = c.enter_all.new.env.items in
    let all = subst (λ (ls : List Local). EntersLocals ls new last c.new-bindings.result.items bindings c.enter_all.result) c.as_slice-in-Err-Beyond.ensures.value c.enter_all.ensures in
    let entered = subst (λ (bs : List Binding). EntersLocals here new last bs bindings c.enter_all.result) c.new-bindings.ensures.items all in
    let items : c.in_ok-new-in-Err-Beyond.field-0.value.items ≡ bindings = ap (λ v. v.items) c.in_ok-new-in-Err-Beyond.ensures.ok in
    entering_goes ds fs env t left old new adds here u rest into last bindings c.loop-step.inner c.in_ok-new-in-Err-Beyond.field-0 refl items (subst (EntersLocals here new last [] bindings) c.in_ok-enter_all-in-Err-Beyond.was entered)

pub returns-in-Err-clause-tells : goal.returns-in-Err-clause-tells
returns-in-Err-clause-tells c =
    let ds = c.args.setting.now.world.now.definitions in
    let fs = c.args.setting.now.functions.now in
    let old = c.args.arena.now in
    let env = env_of old.objects c.args.env.now.value.items in
    let t = term_of c.args.term.now in
    let left = c.args.left in
    let mid = c.loop-step.arena in
    let here = c.loop-step.here.items in
    let u = term_of c.loop-step.inner.now in
    let rest = c.loop-step.rest in
    let i = c.loop-step.invariant in
    let new = c.take_step-in-loop-step.new.arena in
    let next = c.take_step-in-loop-step.new.next.items in
    let is : c.take_step-in-loop-step.result ≡ Err c.in-Err.stop = c.in-Err.is in
    let h = step_of ds fs (locals_of mid.objects c.as_slice-in-loop-step.result.now) (locals_of mid.objects here) (ap (locals_of mid.objects) c.as_slice-in-loop-step.ensures.value) u rest mid new next c.take_step-in-loop-step.result (Err c.in-Err.stop) is c.take_step-in-loop-step.ensures.tells in
    later_stops ds fs env t left old mid i.adds here u rest i.into new next c.in-Err.stop (Err c.in-Err.stop) refl h

pub returns-in_err-enter-in-Value-clause-agree : goal.returns-in_err-enter-in-Value-clause-agree
returns-in_err-enter-in-Value-clause-agree c = tables_on c.take_step.new.arena.objects c.enter.new.arena.objects (c.enter.ensures.places.objects.made, c.enter.ensures.places.objects.is) c.take_step.new.alists c.take_step.ensures.agree

pub returns-in-Value-clause-agree : goal.returns-in-Value-clause-agree
returns-in-Value-clause-agree c = tables_on c.take_step.new.arena.objects c.enter.new.arena.objects (c.enter.ensures.places.objects.made, c.enter.ensures.places.objects.is) c.take_step.new.alists c.take_step.ensures.agree

pub returns-in_err-enter-in-Value-step-clause-agree : goal.returns-in_err-enter-in-Value-step-clause-agree
returns-in_err-enter-in-Value-step-clause-agree c = tables_on c.take_step-in-loop-step.new.arena.objects c.enter-in-Value-step.new.arena.objects (c.enter-in-Value-step.ensures.places.objects.made, c.enter-in-Value-step.ensures.places.objects.is) c.take_step-in-loop-step.new.alists c.take_step-in-loop-step.ensures.agree

pub returns-in-Value-step-clause-agree : goal.returns-in-Value-step-clause-agree
returns-in-Value-step-clause-agree c = tables_on c.take_step-in-loop-step.new.arena.objects c.enter-in-Value-step.new.arena.objects (c.enter-in-Value-step.ensures.places.objects.made, c.enter-in-Value-step.ensures.places.objects.is) c.take_step-in-loop-step.new.alists c.take_step-in-loop-step.ensures.agree

pub returns-in_err-enter_all-in-Err-Beyond-clause-agree : goal.returns-in_err-enter_all-in-Err-Beyond-clause-agree
returns-in_err-enter_all-in-Err-Beyond-clause-agree c = tables_on c.take_step-in-loop-step.new.arena.objects c.enter_all.new.arena.objects c.enter_all.ensures.adds.grown c.take_step-in-loop-step.new.alists c.take_step-in-loop-step.ensures.agree

pub returns-in_err-new-in-Err-Beyond-clause-agree : goal.returns-in_err-new-in-Err-Beyond-clause-agree
returns-in_err-new-in-Err-Beyond-clause-agree c = tables_on c.take_step-in-loop-step.new.arena.objects c.enter_all.new.arena.objects c.enter_all.ensures.adds.grown c.take_step-in-loop-step.new.alists c.take_step-in-loop-step.ensures.agree

pub returns-in-Err-Beyond-clause-agree : goal.returns-in-Err-Beyond-clause-agree
returns-in-Err-Beyond-clause-agree c = tables_on c.take_step-in-loop-step.new.arena.objects c.enter_all.new.arena.objects c.enter_all.ensures.adds.grown c.take_step-in-loop-step.new.alists c.take_step-in-loop-step.ensures.agree
