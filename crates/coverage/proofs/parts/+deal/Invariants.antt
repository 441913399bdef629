use Rattle.std.proofs.Common.{take}
use Rattle.gl_logic.specs.TermOf.{term_of, terms_of}
use Rattle.coverage.specs.Heads.{subject_of}
use Rattle.coverage.specs.Parts.{any_part, Adds}
use Rattle.coverage.specs.Places.{is_element}
use Rattle.coverage.specs.Dealt.{lists_in}
use Rattle.coverage.proofs.parts.+deal.Given as goal

abbrev pub invariant-deal_all-loop-part : goal.invariant-deal_all-loop-part
invariant-deal_all-loop-part l =
    Adds (λ j. any_part (is_element l.count (subject_of l.subject) j) (terms_of (take l.part-index l.parts))) (term_of l.conjunct) (lists_in l.initial.lists) (lists_in l.lists)
