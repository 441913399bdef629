-- Machines that stand as before.
use Rattle.std.proofs.Common.{◌≡◌, ◌∙◌, sym, refl, subst, ℕ, ◌<◌, ◌≤◌, List, [], length, take}
use Rattle.std.specs.List.{All}
use Rattle.gl_logic.specs.Object.{Object}
use Rattle.gl_logic.specs.WorldSeen.{WorldSeen}
use Rattle.hons_arena.specs.Held.{AddsCellsOf, Held}
use Rattle.lisp_eval.specs.Answers.{FitMemos, HasGrown}
use Rattle.lisp_eval.specs.Machines.{Fits, MachineSeen}
use Rattle.lisp_eval.specs.MachineCalls.{KeepsSettings}
use Rattle.lisp_eval.proofs.Grown.{grown_back, grown_count}
use Rattle.gl_interp.specs.Causes.{Rests}

pub rests_none : (m : MachineSeen) → Rests m m
rests_none m = record { arena = refl; settings = record { limit = refl; steps = refl; functions = refl }; fits = λ w h. h }

pub rests_then : (old between new : MachineSeen) → Rests old between → Rests between new → Rests old new
rests_then old between new r s = record {
  arena = s.arena ∙ r.arena;
  settings = record { limit = s.settings.limit ∙ r.settings.limit; steps = s.settings.steps ∙ r.settings.steps; functions = s.settings.functions ∙ r.settings.functions };
  fits = λ w h. s.fits w (r.fits w h);
}

pub keeps_settings : (a b c : MachineSeen) → KeepsSettings a b → KeepsSettings b c → KeepsSettings a c
keeps_settings a b c h k = record { limit = k.limit ∙ h.limit; steps = k.steps ∙ h.steps; functions = k.functions ∙ h.functions }

pub keeps_same : (m : MachineSeen) → KeepsSettings m m
keeps_same m = record { limit = refl; steps = refl; functions = refl }

pub grown_by : (x : Object) (old new : List Object) → AddsCellsOf x old new → HasGrown old new
grown_by x old new a = (a.made, a.is)

-- ---- a machine that keeps no call
pub fits_forgetting : (w : WorldSeen) (old new : MachineSeen) → new.functions ≡ old.functions → new.memos ≡ [] → Fits w old → Fits w new
fits_forgetting w old new same none f = record {
  functions = subst (λ fs. All (λ k. k < length w.definitions) fs) (sym same) f.functions;
  memos = subst (λ es. FitMemos w.definitions new.arena.objects es) (sym none) (record { calls = []; stand = λ more. refl; right = tt });
}

pub held_same : (a b : Held) → a.limit ≡ b.limit → a.objects ≡ b.objects → a ≡ b
held_same a b l o = λ i. record { limit = l i; objects = o i }

-- after a release to the mark of the beginning
pub may_release : (old mid : MachineSeen) (n : ℕ) → n ≡ length old.arena.objects → HasGrown old.arena.objects mid.arena.objects → n ≤ length mid.arena.objects
may_release old mid n counted grown = grown_count old.arena.objects mid.arena.objects n grown counted

pub rests_back : (old mid new : MachineSeen) (n : ℕ) → n ≡ length old.arena.objects → HasGrown old.arena.objects mid.arena.objects → KeepsSettings old mid → new.arena.objects ≡ take n mid.arena.objects → KeepsSettings mid new → new.memos ≡ [] → Rests old new
rests_back old mid new n counted grown first released second none =
    let settings = keeps_settings old mid new first second in
    let objects : new.arena.objects ≡ old.arena.objects = grown_back old.arena.objects mid.arena.objects new.arena.objects n grown counted released in
    record { arena = held_same new.arena old.arena settings.limit objects; settings = settings; fits = λ w h. fits_forgetting w old new settings.functions none h }
