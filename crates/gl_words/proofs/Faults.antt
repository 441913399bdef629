-- Words with a fault give nothing, and others what they give.
use Rattle.std.proofs.Common.{◌≡◌, ◌≢◌, List, [], ◌∷◌, Option, None, refl, if◌then◌else◌}
use Rattle.gl_words.specs.Words.{is_empty}

pub none : {X Y : Type 0} (faults : List X) (o : Option Y) → faults ≢ [] → None ≡ (if is_empty faults then o else None)
none [] o h = absurd (h refl)
none (x ∷ xs) o h = refl

pub given : {X Y : Type 0} (faults : List X) (o : Option Y) → faults ≡ [] → o ≡ (if is_empty faults then o else None)
given [] o h = refl
given (x ∷ xs) o h = absurd cc
