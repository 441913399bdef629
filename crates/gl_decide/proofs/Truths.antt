-- Machines that stand as before.
use Rattle.std.proofs.Common.{◌≡◌, ◌∙◌, refl, subst, ℕ, ◌≤◌, List, length, take, inl, inr}
use Rattle.std.specs.List.{Contains}
use Rattle.std.proofs.lemmas.List.Elements.{Contains-append_cases}
use Rattle.gl_logic.specs.Object.{Object}
use Rattle.gl_logic.specs.WorldSeen.{WorldSeen}
use Rattle.lisp_eval.specs.Answers.{HasGrown}
use Rattle.lisp_eval.specs.Machines.{MachineSeen, Fits}
use Rattle.lisp_eval.specs.MachineCalls.{KeepsSettings}
use Rattle.lisp_eval.proofs.Grown.{grown_back, grown_count}
use Rattle.shape_spec.specs.TheoremSeen.{TheoremSeen}
use Rattle.gl_decide.specs.Placed.{AddsCellsOfInput, Rests}
use Rattle.gl_decide.specs.Trials.{IsReady, HoldsInput}

pub keeps_same : (m : MachineSeen) → KeepsSettings m m
keeps_same m = record { limit = refl; steps = refl; functions = refl }

pub keeps_then : (a b c : MachineSeen) → KeepsSettings a b → KeepsSettings b c → KeepsSettings a c
keeps_then a b c h k = record { limit = k.limit ∙ h.limit; steps = k.steps ∙ h.steps; functions = k.functions ∙ h.functions }

-- after a release to the mark of the beginning
module _ (w : WorldSeen) (old mid new : MachineSeen) (n : ℕ) (counted : n ≡ length old.arena.objects) (grown : HasGrown old.arena.objects mid.arena.objects) where
  pub may_release : n ≤ length mid.arena.objects
  may_release = grown_count old.arena.objects mid.arena.objects n grown counted

  module _ (released : new.arena.objects ≡ take n mid.arena.objects) (first : KeepsSettings old mid) (second : KeepsSettings mid new) where
    pub objects_back : new.arena.objects ≡ old.arena.objects
    objects_back = grown_back old.arena.objects mid.arena.objects new.arena.objects n grown counted released

    pub rests : Fits w new → Rests w old new
    rests fits = record { arena = objects_back; settings = keeps_then old mid new first second; fits = fits }

pub grown_by_input : (input : List (ℕ × Object)) (old new : List Object) → AddsCellsOfInput input old new → HasGrown old new
grown_by_input input old new a = (a.made, a.is)

-- ---- what a machine holds
pub holds_after : (w : WorldSeen) (thm : TheoremSeen) (env : List (ℕ × Object)) (old new : MachineSeen) → IsReady w thm old → AddsCellsOfInput env old.arena.objects new.arena.objects → KeepsSettings old new → Fits w new → HoldsInput w thm env new
holds_after w thm env old new r a k f = record {
  fits = f;
  functions = k.functions ∙ r.functions;
  cells = λ y c. elim (Contains-append_cases old.arena.objects a.made y (subst (λ (zs : List Object). Contains zs y) a.is c)) [
    | inl d ↦ inr (r.cells y d)
    | inr d ↦ inl (a.cells y d)
  ];
}

pub holds_still : (w : WorldSeen) (thm : TheoremSeen) (env : List (ℕ × Object)) (old new : MachineSeen) → HoldsInput w thm env old → Rests w old new → HoldsInput w thm env new
holds_still w thm env old new h r = record {
  fits = r.fits;
  functions = r.settings.functions ∙ h.functions;
  cells = λ y c. h.cells y (subst (λ (zs : List Object). Contains zs y) r.arena c);
}

pub ready_still : (w : WorldSeen) (thm : TheoremSeen) (old new : MachineSeen) → IsReady w thm old → Rests w old new → IsReady w thm new
ready_still w thm old new h r = record {
  fits = r.fits;
  functions = r.settings.functions ∙ h.functions;
  cells = λ y c. h.cells y (subst (λ (zs : List Object). Contains zs y) r.arena c);
}
