use Rattle.std.proofs.Common.{◌≡◌, ◌∙◌, ap, refl, subst, ◌++◌, ◌∷◌, [], ◌<◌, length, get_or, Option, ℕ, List}
use Rattle.std.specs.Prelude.{IfSome}
use Rattle.std.specs.Vec.{with_item}
use Rattle.gl_logic.specs.Exp.{Exp}
use Rattle.gl_logic.specs.TermOf.{term_of}
use Rattle.coverage.proofs.Dealing.{part_at, pushed, put_last}
use Rattle.coverage.proofs.parts.put.Goals as goal

pub returns-in_ok-push : goal.returns-in_ok-push
returns-in_ok-push c =
    let at : c.index_mut.result.now ≡ get_or c.args.lists.now.items c.in-Some.place c.index_mut.result.now = cc in
    let below : c.in-Some.place < length c.args.lists.now.items = subst (λ (o : Option ℕ). IfSome o (λ i. i < length c.args.lists.now.items)) c.in-Some.is c.requires in
    put_last c.args.conjunct c.args.lists.now.items (with_item c.args.lists.now c.in-Some.place c.push.new.self).items c.push.new.self c.in-Some.place c.args.element c.in-Some.is below refl
    (pushed c.index_mut.result.now.items c.push.new.self.items _ c.in_ok-push.ensures.items
    ∙ ap (λ (xs : List Exp). xs ++ term_of c.args.conjunct.now ∷ []) (part_at c.args.lists.now.items c.in-Some.place c.index_mut.result.now below at))
