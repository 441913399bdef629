-- What is wrong first, by the numbers of the entries.
use Rattle.std.proofs.Common.{◌≡◌, ◌∙◌, ap, sym, refl, subst, ℕ, zero, suc, ℤ, get_or, length, take, ◌<◌, arith, List, [], ◌∷◌, ◌++◌, Option, Some, None}
use Rattle.std.proofs.lemmas.List.{append-nil, append_assoc}
use Rattle.lrat_tool.specs.Logs.{LogEntry}
use Rattle.lrat_tool.specs.Judgements.{first_wrong, or_else, wrong_with}
use Rattle.lrat_tool.specs.declared.judgement.Judgement.{Judgement}

-- ---- the first that is wrong
module _ (f : List (List ℤ)) where
  abbrev IsWrong : List LogEntry → LogEntry → Option Judgement → Type 0
  IsWrong before e w = wrong_with f before e ≡ w

  moved : (before : List LogEntry) (e : LogEntry) (es : List LogEntry) (k : ℕ) (d : LogEntry) (w : Option Judgement) → IsWrong (before ++ take (suc k) (e ∷ es)) (get_or es k d) w → IsWrong ((before ++ e ∷ []) ++ take k es) (get_or es k d) w
  moved before e es k d w h = subst (λ (b : List LogEntry). IsWrong b (get_or es k d) w) (sym (append_assoc before (e ∷ []) (take k es))) h

  here : (before : List LogEntry) (e : LogEntry) (w : Option Judgement) → IsWrong (before ++ []) e w → IsWrong before e w
  here before e w h = subst (λ (b : List LogEntry). IsWrong b e w) (append-nil before) h

  pub none_wrong : (before es : List LogEntry) → ((k : ℕ) (d : LogEntry) → k < length es → IsWrong (before ++ take k es) (get_or es k d) None) → first_wrong f before es ≡ None
  none_wrong before [] h = refl
  none_wrong before (e ∷ es) h =
      ap (λ w. or_else w (first_wrong f (before ++ e ∷ []) es)) (here before e None (h 0 e (omega arith)))
      ∙ none_wrong (before ++ e ∷ []) es (λ k d l. moved before e es k d None (h (suc k) d (omega (arith, l))))

  pub one_wrong : (before es : List LogEntry) (k : ℕ) (j : Judgement) (d : LogEntry) → k < length es → IsWrong (before ++ take k es) (get_or es k d) (Some j)
      → ((i : ℕ) (c : LogEntry) → i < k → IsWrong (before ++ take i es) (get_or es i c) None) → first_wrong f before es ≡ Some j
  one_wrong before [] k j d l w h = absurd (omega (arith, l))
  one_wrong before (e ∷ es) zero j d l w h = ap (λ x. or_else x (first_wrong f (before ++ e ∷ []) es)) (here before e (Some j) w)
  one_wrong before (e ∷ es) (suc k) j d l w h =
      ap (λ x. or_else x (first_wrong f (before ++ e ∷ []) es)) (here before e None (h 0 e (omega arith)))
      ∙ one_wrong (before ++ e ∷ []) es k j d (omega (arith, l)) (moved before e es k d (Some j) w) (λ i c m. moved before e es i c None (h (suc i) c (omega (arith, m))))
