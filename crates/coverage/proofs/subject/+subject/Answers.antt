use Rattle.std.proofs.Common.{◌≡◌, ◌∙◌, ap, sym}
use Rattle.gl_logic.specs.TermOf.{term_of}
use Rattle.coverage.specs.Subjects.{car_of, behind, nth_of}
use Rattle.coverage.specs.Heads.{subject_of, passes}
use Rattle.coverage.specs.declared.subject.Subject.{Subject}
use Rattle.coverage.proofs.Arguments.{behind_passes, car_passes, nth_passes}
use Rattle.coverage.proofs.Logic.{or_shown, or_left_out}
use Rattle.coverage.proofs.subject.+subject.Goals as goal

pub is_in-returns-in-Behind : goal.is_in-returns-in-Behind
is_in-returns-in-Behind t c =
    let S = subject_of c.in-Behind.inner.now in
    c.is_found.ensures ∙ (ap (passes S) c.under.ensures ∙ (behind_passes c.in-Behind.count S (term_of c.args.term.now) ∙ ap (λ (s : Subject). subject_of s (term_of c.args.term.now)) (sym c.in-Behind.is)))

pub is_in-returns-then-is_found : goal.is_in-returns-then-is_found
is_in-returns-then-is_found t c =
    let S = subject_of c.in-Element.inner.now in
    let T = term_of c.args.term.now in
    let first : c.is_found-in-Element.result ≡ car_of (behind c.in-Element.place S) T = c.is_found-in-Element.ensures ∙ (ap (passes S) c.list_by_car.ensures ∙ car_passes c.in-Element.place S T) in
    or_shown c.is_found-in-Element.result (car_of (behind c.in-Element.place S) T) (nth_of c.in-Element.place S T) first c.if-is_found.true ∙ ap (λ (s : Subject). subject_of s T) (sym c.in-Element.is)

pub is_in-returns-else-is_found : goal.is_in-returns-else-is_found
is_in-returns-else-is_found t c =
    let S = subject_of c.in-Element.inner.now in
    let T = term_of c.args.term.now in
    let first : c.is_found-in-Element.result ≡ car_of (behind c.in-Element.place S) T = c.is_found-in-Element.ensures ∙ (ap (passes S) c.list_by_car.ensures ∙ car_passes c.in-Element.place S T) in
    let second : c.is_found-else-is_found.result ≡ nth_of c.in-Element.place S T = c.is_found-else-is_found.ensures ∙ (ap (passes S) c.list_by_nth.ensures ∙ nth_passes c.in-Element.place S T) in
    or_left_out c.is_found-in-Element.result c.is_found-else-is_found.result (car_of (behind c.in-Element.place S) T) (nth_of c.in-Element.place S T) first c.if-is_found.false second ∙ ap (λ (s : Subject). subject_of s T) (sym c.in-Element.is)
