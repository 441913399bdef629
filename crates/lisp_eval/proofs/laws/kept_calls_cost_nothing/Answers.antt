use Rattle.std.proofs.Common.{◌∙◌, ap, List, [], ◌∷◌, Some}
use Rattle.gl_logic.specs.Every.{Every}
use Rattle.gl_logic.specs.Object.{Object}
use Rattle.gl_logic.specs.Walk.{then}
use Rattle.gl_logic.proofs.Walks.{walk_of_value}
use Rattle.lisp_eval.specs.Costs.{HasPlainValues}
use Rattle.lisp_eval.specs.Threads.{Thread}
use Rattle.lisp_eval.proofs.Cover.{threads_there, AnswersAreFine}
use Rattle.lisp_eval.proofs.Law.{threaded_at_most}
use Rattle.lisp_eval.proofs.laws.kept_calls_cost_nothing.Goals as goal

abbrev Any : Object → Type 0
Any x = Unit {0}

any_every : (xs : List Object) → Every Any xs
any_every [] = tt
any_every (x ∷ xs) = (tt, any_every xs)

plain_values : (definitions : _) (answered functions : _) → HasPlainValues definitions answered functions
plain_values definitions answered functions n env t kept x e =
    let w = walk_of_value definitions n env t x e in
    let any_answers : AnswersAreFine definitions answered Any = λ f xs a h d m r g v. any_every r.seen in
    let h = threads_there definitions answered functions n Any Any any_answers kept env t w.0 w.1.0 in
    ap (λ o. then o (λ (r : Thread). Some r.value)) h.walks ∙ ap (λ (y : Object). Some y) (h.value ∙ w.1.1)

pub returns : goal.returns
returns c = record { value = plain_values; count = threaded_at_most }
