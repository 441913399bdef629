-- What is said of a run, by other words for what was there before and after.
use Rattle.std.proofs.Common.{◌≡◌, ℕ, List, Option, subst}
use Rattle.gl_base.specs.declared.status.Status.{Status}
use Rattle.gl_decide.specs.Stalls.{StallSeen}
use Rattle.gl_words.specs.Words.{Order}
use Rattle.gl.specs.Runs.{HasRun}

module _ (order : Option Order) (holds : List ℕ → Option (List ℕ)) (after : List StallSeen) (s : Status) where
  pub run_moved : {old old' new new' : Option (List ℕ)} → {before before' : List StallSeen} → old ≡ old' → new ≡ new' → before ≡ before' → HasRun order holds old new before after s → HasRun order holds old' new' before' after s
  run_moved {old} {old'} {new} {new'} {before} {before'} e f h k =
      subst (λ (b : List StallSeen). HasRun order holds old' new' b after s) h
      (subst (λ (n : Option (List ℕ)). HasRun order holds old' n before after s) f (subst (λ (o : Option (List ℕ)). HasRun order holds o new before after s) e k))
