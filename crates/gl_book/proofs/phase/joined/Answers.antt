use Rattle.std.proofs.Common.{◌≡◌, ◌∙◌, ◌++◌, ◌∷◌, ap, sym, subst, List, Ok, length, Result, Vec, Global, arith}
use Rattle.std.specs.Vec.Iter.{into_iter_items}
use Rattle.gl_logic.specs.declared.ids.NoMemory.{NoMemory}
use Rattle.gl_book.specs.Phases.{Joins}
use Rattle.gl_book.specs.declared.answer.Answer.{Answer}
use Rattle.gl_book.proofs.Phases.{one_joined, all_joined, none_of}
use Rattle.gl_book.proofs.phase.joined.Goals as goal

pub loop-part-preserved : goal.loop-part-preserved
loop-part-preserved c =
    let left = into_iter_items c.next.new.self in
    let was : into_iter_items c.loop-part.part-iterator ≡ Ok c.in_ok-more.more ∷ left = c.in-Some.ensures.steps.0 ∙ ap (λ p. p ∷ left) c.in_ok-more.was in
    record {
      counted = let n = c.loop-part.invariant.counted in let m = ap length was in omega (arith, n, m, c.in-Some.ensures.steps.1);
      says = λ rest k.
          subst (λ (xs : List Answer). Joins c.args.parts.items (xs ++ rest)) (sym c.in_ok-append.ensures.items)
          (one_joined c.args.parts.items left c.in_ok-more.more c.loop-part.answers.items (λ r j. c.loop-part.invariant.says r (subst (λ (ps : List (Result (Vec Answer Global) NoMemory)). Joins ps r) (sym was) j)) rest k);
    }

pub returns : goal.returns
returns c =
    let left = into_iter_items c.loop-part.part-iterator in
    let none : length left ≡ 0 = let n = c.loop-part.invariant.counted in omega (arith, n, c.in-None.ensures.steps.0) in
    all_joined c.args.parts.items left c.loop-part.answers.items c.loop-part.invariant.says (none_of left none)
