-- The members of a clique, one after the other.
use Rattle.std.proofs.Common.{◌≡◌, ◌∙◌, ap, sym, refl, ℕ, zero, suc, ◌+◌, ◌<◌, ◌≤◌, List, [], ◌∷◌, ◌++◌, map, drop, length, get_or, arith, append_assoc, append-nil}
use Rattle.std.specs.Prelude.{Ok, Err}
use Rattle.std.proofs.lemmas.List.{drop_more}
use Rattle.gl_logic.specs.Definition.{Definition}
use Rattle.gl_logic.specs.WorldSeen.{WorldSeen}
use Rattle.event_world.specs.declared.fault.EventFault.{EventFault}
use Rattle.event_world.specs.declared.clique_form.MadeForm.{MadeForm}
use Rattle.event_world.specs.Outcomes.{Outcome, and_then}
use Rattle.event_world.specs.CliqueMeant.{MadeMember, member_meant, members_meant}
use Rattle.event_world.specs.FormsSeen.{made_seen}

abbrev pub done_then : List Definition → Outcome (List Definition) → Outcome (List Definition)
done_then done o = and_then o (λ ds. Ok (done ++ ds))

pub done_first : (o : Outcome (List Definition)) → done_then [] o ≡ o
done_first (Ok ds) = refl
done_first (Err c) = refl

done_more : (done : List Definition) (d : Definition) (o : Outcome (List Definition)) → done_then done (and_then o (λ ds. Ok (d ∷ ds))) ≡ done_then (done ++ d ∷ []) o
done_more done d (Ok ds) = ap Ok (sym (append_assoc done (d ∷ []) ds))
done_more done d (Err c) = refl

drop_past : {A : Type 0} (xs : List A) (i : ℕ) → length xs ≤ i → drop i xs ≡ []
drop_past [] zero h = refl
drop_past [] (suc i) h = refl
drop_past (x ∷ xs) zero h = absurd (omega (arith, h))
drop_past (x ∷ xs) (suc i) h = drop_past xs i (omega (arith, h))

module _ (names : List (List ℕ)) (w : WorldSeen) (own : List (ℕ × ℕ)) (done : List Definition) (ms : List MadeForm) (i : ℕ) (m : MadeForm) (l : i < length ms) (at : m ≡ get_or ms i m) where
  here : map made_seen (drop i ms) ≡ made_seen m ∷ map made_seen (drop (i + 1) ms)
  here = ap (map made_seen) (drop_more ms i m l ∙ ap (λ (x : MadeForm). x ∷ drop (i + 1) ms) (sym at))

  pub member_more : (d : Definition) → member_meant names w own (made_seen m) ≡ Ok d → done_then done (members_meant names w own (map made_seen (drop i ms))) ≡ done_then (done ++ d ∷ []) (members_meant names w own (map made_seen (drop (i + 1) ms)))
  member_more d e =
      ap (λ (xs : List MadeMember). done_then done (members_meant names w own xs)) here
      ∙ (ap (λ (o : Outcome Definition). done_then done (and_then o (λ x. and_then (members_meant names w own (map made_seen (drop (i + 1) ms))) (λ ds. Ok (x ∷ ds))))) e
      ∙ done_more done d (members_meant names w own (map made_seen (drop (i + 1) ms))))

  pub member_fails : (c : EventFault) → member_meant names w own (made_seen m) ≡ Err c → done_then done (members_meant names w own (map made_seen (drop i ms))) ≡ Err c
  member_fails c e =
      ap (λ (xs : List MadeMember). done_then done (members_meant names w own xs)) here
      ∙ ap (λ (o : Outcome Definition). done_then done (and_then o (λ x. and_then (members_meant names w own (map made_seen (drop (i + 1) ms))) (λ ds. Ok (x ∷ ds))))) e

pub members_done : (names : List (List ℕ)) (w : WorldSeen) (own : List (ℕ × ℕ)) (done : List Definition) (ms : List MadeForm) (i : ℕ) → length ms ≤ i → done_then done (members_meant names w own (map made_seen (drop i ms))) ≡ Ok done
members_done names w own done ms i h = ap (λ (xs : List MadeForm). done_then done (members_meant names w own (map made_seen xs))) (drop_past ms i h) ∙ ap Ok (append-nil done)
