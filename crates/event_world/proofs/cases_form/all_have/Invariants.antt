use Rattle.std.proofs.Common.{◌≡◌, map, drop}
use Rattle.std.specs.Prelude.{bytes_eq}
use Rattle.std.specs.List.{list_all}
use Rattle.event_world.specs.CasesMeant.{variables_of_case}
use Rattle.event_world.specs.FormsSeen.{case_form_seen}
use Rattle.event_world.proofs.cases_form.all_have.Given as goal

abbrev pub invariant-loop-case : goal.invariant-loop-case
invariant-loop-case l =
    list_all (λ c. bytes_eq (variables_of_case c) (map (λ p. p.0) l.constants)) (map case_form_seen (drop l.case-index l.cases))
    ≡ list_all (λ c. bytes_eq (variables_of_case c) (map (λ p. p.0) l.constants)) (map case_form_seen l.cases)
