-- The input that is shown, one variable after another; and what is told of a question.
use Rattle.std.proofs.Common.{◌≡◌, ◌∙◌, ap, sym, ℕ, ◌+◌, List, [], ◌∷◌, ◌++◌, map, take, Option, Some, slice_get, Result, Ok, Err}
use Rattle.std.specs.Prelude.{IfOk}
use Rattle.std.proofs.lemmas.List.{map-append}
use Rattle.gl_logic.specs.Object.{Object}
use Rattle.gl_logic.proofs.CellCounts.{take_next}
use Rattle.shape_spec.specs.declared.theorem.Mode.{Mode}
use Rattle.event_world.specs.NextState.{BookState}
use Rattle.gl_decide.specs.Bounds.{Bounds}
use Rattle.gl_book.specs.declared.answer.Answer.{Answer}
use Rattle.explain_report.specs.declared.record.Input.{Input}
use Rattle.explain_report.specs.declared.record.Found.{Found}
use Rattle.explain_findings.specs.Founds.{input_seen, IsFound}
use Rattle.explain_findings.specs.Questions.{IsAnswerTo, IsFoundBy}

pub seen_next : (input : List (ℕ × Object)) (i : ℕ) (old new : List Input) (x : Input) → new ≡ old ++ x ∷ [] → input_seen old ≡ take i input
    → slice_get input i ≡ Some (x.variable.number, x.object) → input_seen new ≡ take (i + 1) input
seen_next input i old new x is h at = ap input_seen is ∙ (map-append (λ y. (y.variable.number, y.object)) old (x ∷ [])
    ∙ (ap (λ ys. ys ++ (x.variable.number, x.object) ∷ []) h ∙ sym (take_next input i (x.variable.number, x.object) at)))

-- what says what an answer says is told of the question that it answers
pub found_told : {E : Type 0} (names : List (List ℕ)) (bounds : Bounds) (s : BookState) (m : Option Mode) (form : Object) (a : Answer) → IsAnswerTo names bounds s m form a
    → (r : Result Found E) → IfOk r (IsFound names a) → IfOk r (IsFoundBy names bounds s m form)
found_told names bounds s m form a answers (Ok f) h = λ _. (a, answers, h)
found_told names bounds s m form a answers (Err e) h = tt
