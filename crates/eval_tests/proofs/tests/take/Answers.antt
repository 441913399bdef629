use Rattle.std.proofs.Common.{◌≡◌, ap, sym, subst, refl, ℕ, length}
use Rattle.gl_logic.specs.Definition.{Definition}
use Rattle.gl_logic.specs.Ground.{ground}
use Rattle.gl_logic.specs.IsGround.{IsGround}
use Rattle.gl_logic.specs.WorkedDefinitions.{atom_definition}
use Rattle.eval_tests.proofs.tests.take.Goals as goal

first_ground : (n : ℕ) (d : Definition) → n ≡ 0 → d ≡ atom_definition → IsGround n d
unfolding ground
first_ground n d e q = subst (λ (c : Definition). IsGround n c) (sym q) (subst (λ (k : ℕ). IsGround k atom_definition) (sym e) (refl, refl))

pub push-requires-clause-same_ground : goal.push-requires-clause-same_ground
push-requires-clause-same_ground g c = first_ground _ _ (ap length c.requires.none) c.requires.atom
