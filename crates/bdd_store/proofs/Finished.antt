-- The table of finished calls, with one more.
use Rattle.std.proofs.Common.{◌≡◌, ℕ, ◌<◌, cond, List, [], ◌∷◌, ◌++◌, length, set, ap, subst, sym, ◌∙◌, inl, inr, arith, get_or-set_other, length-set}
use Rattle.std.proofs.lemmas.Bool.{cases_eq, cases_lt}
use Rattle.std.proofs.lemmas.List.{get_or_append_left, get_or_push, length_push}
use Rattle.std.proofs.lemmas.Grind.{get_or-set_at}
use Rattle.bfr_store.specs.declared.edge.Edge.{Edge}
use Rattle.bdd_store.specs.declared.node.Node.{Node}
use Rattle.bdd_store.specs.declared.entry.Entry.{Entry}
use Rattle.bdd_store.specs.Nodes.{top_of, truth_of}
use Rattle.bdd_store.specs.Inside.{IsAnswer, AreAnswers}
use Rattle.bdd_store.proofs.Canonical.{same_edge}
use Rattle.bdd_store.proofs.Nodes.{same_branches}

none : Edge
none = record { number = 0 }

-- an entry that asks the constant of itself
pub blank-answers : (nodes : List Node) (e : Entry) → 0 < length nodes → e.test.number ≡ 0 → e.high.number ≡ 0 → e.low.number ≡ 0 → e.answer.number ≡ 0 → IsAnswer nodes e
unfolding none
blank-answers nodes e some t h l r =
    let test = same_edge e.test none t in let high = same_edge e.high none h in let low = same_edge e.low none l in let answer = same_edge e.answer none r in
    record {
      test_live = omega (arith, t);
      high_live = omega (arith, h);
      low_live = omega (arith, l);
      answer_live = omega (arith, r);
      above = omega (arith, ap (top_of nodes) test, ap (top_of nodes) answer);
      truth = λ a. ap (λ x. truth_of nodes x a) answer ∙ same_branches (truth_of nodes none a) (truth_of nodes none a)
          ∙ (λ i. cond (truth_of nodes (sym test i) a) (truth_of nodes (sym high i) a) (truth_of nodes (sym low i) a));
    }

pub answers-push : (nodes : List Node) (entries : List Entry) (e : Entry) → AreAnswers nodes entries → IsAnswer nodes e → AreAnswers nodes (entries ++ e ∷ [])
answers-push nodes entries e all one i d h = elim (cases_lt i (length entries)) [
  | inl before ↦ subst (IsAnswer nodes) (sym (get_or_append_left entries (e ∷ []) d i before)) (all i d before)
  | inr last ↦ subst (IsAnswer nodes) (sym (get_or_push entries e d i (omega (arith, h, length_push entries e)))) one
]

pub answers-set : (nodes : List Node) (entries : List Entry) (place : ℕ) (e : Entry) → AreAnswers nodes entries → IsAnswer nodes e → AreAnswers nodes (set entries place e)
answers-set nodes entries place e all one i d h =
    let within : i < length entries = omega (arith, h, length-set entries place e) in
    elim (cases_eq i place) [
      | inl here ↦ subst (IsAnswer nodes) (sym (get_or-set_at entries place i e d here (omega arith))) one
      | inr other ↦ subst (IsAnswer nodes) (sym (get_or-set_other entries place i e d other)) (all i d within)
    ]
