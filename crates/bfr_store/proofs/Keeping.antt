-- What one call after another leaves of a store.
use Rattle.std.proofs.Common.{refl, ◌∙◌, arith}
use Rattle.bfr_store.specs.declared.meaning.Meaning.{Ghosts}
use Rattle.bfr_store.specs.Keeps.{Keeps}

-- no call
pub keeps_none : {B : Type 0} (g : Ghosts B) (s : B) → Keeps g s s
keeps_none g s = record { stays = λ e h. h; same = λ e a h. refl; same_limit = refl; same_budget = refl; no_fewer = omega arith; same_width = refl; same_spent = refl }

-- one call after another
pub keeps_then : {B : Type 0} (g : Ghosts B) (old between new : B) → Keeps g old between → Keeps g between new → Keeps g old new
keeps_then g old between new p q = record {
  stays = λ e h. q.stays e (p.stays e h);
  same = λ e a h. q.same e a (p.stays e h) ∙ p.same e a h;
  same_limit = q.same_limit ∙ p.same_limit;
  same_budget = q.same_budget ∙ p.same_budget;
  no_fewer = omega (arith, p.no_fewer, q.no_fewer);
  same_width = q.same_width ∙ p.same_width;
  same_spent = q.same_spent ∙ p.same_spent;
}
