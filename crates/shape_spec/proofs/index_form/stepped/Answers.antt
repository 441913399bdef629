use Rattle.std.proofs.Common.{◌≡◌, ◌∙◌, ap, sym, ℕ, ◌+◌, ◌-◌, ◌++◌, ◌∷◌, [], List, None, Some, append_assoc, append-nil, arith}
use Rattle.std.proofs.lemmas.Result.{err_from_is_err_and}
use Rattle.shape_spec.specs.ShapeMeant.{stepped}
use Rattle.shape_spec.specs.BindingsMeant.{are_below}
use Rattle.shape_spec.specs.Gives.{small, all_small}
use Rattle.shape_spec.proofs.Fits.{small_some, some_same, stepped_more, below_push, all_small_some, all_small_none, gives_err, refuses_none}
use Rattle.shape_spec.proofs.index_form.stepped.Goals as goal

pub loop-preserved : goal.loop-preserved
loop-preserved c =
    let index = small_some (Some c.loop.next) c.in_ok-small_number.field-0 c.in_ok-small_number.ensures in
    let same : c.loop.next ≡ c.in_ok-small_number.field-0 = some_same _ _ index.0 in
    let n = c.args.count - (c.loop.counter + 1) in
    let more = stepped_more c.loop.next c.args.step (c.args.count - c.loop.counter) n (omega arith) in
    let pushed : c.push.new.self.items ≡ c.loop.indices.items ++ c.loop.next ∷ [] = c.in_ok-push.ensures.items ∙ ap (λ (i : ℕ). c.loop.indices.items ++ i ∷ []) (sym same) in
    record {
      same = ap (λ (is : List ℕ). is ++ stepped (c.loop.next + c.args.step) c.args.step n) pushed
          ∙ (append_assoc c.loop.indices.items (c.loop.next ∷ []) (stepped (c.loop.next + c.args.step) c.args.step n)
          ∙ (ap (λ (is : List ℕ). c.loop.indices.items ++ is) (sym more) ∙ c.loop.invariant.same));
      below = ap are_below c.in_ok-push.ensures.items ∙ below_push c.loop.indices.items c.in_ok-small_number.field-0 c.loop.invariant.below index.1;
    }

pub returns : goal.returns
returns c =
    let none : c.args.count - c.loop.counter ≡ 0 = omega arith in
    let whole : stepped c.args.start c.args.step c.args.count ≡ c.loop.indices.items =
    sym c.loop.invariant.same ∙ (ap (λ (k : ℕ). c.loop.indices.items ++ stepped c.loop.next c.args.step k) none ∙ append-nil c.loop.indices.items) in
    ap all_small whole ∙ all_small_some c.loop.indices.items c.loop.invariant.below

pub returns-in_err-small_number : goal.returns-in_err-small_number
returns-in_err-small_number c =
    let n = c.args.count - (c.loop.counter + 1) in
    let more = stepped_more c.loop.next c.args.step (c.args.count - c.loop.counter) n (omega arith) in
    let whole : stepped c.args.start c.args.step c.args.count ≡ c.loop.indices.items ++ c.loop.next ∷ stepped (c.loop.next + c.args.step) c.args.step n =
    sym c.loop.invariant.same ∙ ap (λ (is : List ℕ). c.loop.indices.items ++ is) more in
    let none = λ (e : small (Some c.loop.next) ≡ None). ap all_small whole ∙ all_small_none c.loop.indices.items (stepped (c.loop.next + c.args.step) c.args.step n) c.loop.next e in
    gives_err (λ v. v.items) c.from_residual.result c.in_err-small_number.field-0.0 _ (err_from_is_err_and c.from_residual.result c.from_residual.ensures.1)
    (refuses_none c.in_err-small_number.field-0.0 (small (Some c.loop.next)) _ none c.in_err-small_number.ensures)
