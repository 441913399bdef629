-- Texts of a shelf that may not be told.
use Rattle.std.proofs.Common.{◌≡◌, refl, ℕ, List, [], Option, Some, None}
use Rattle.std.specs.Prelude.{IfSome}

-- a text that is told, or any
abbrev pub some_text : Option (List ℕ) → List ℕ
some_text None = []
some_text (Some bytes) = bytes

pub told_so : (told : Option (List ℕ)) → IfSome told (λ bytes. some_text told ≡ bytes)
told_so None = tt
told_so (Some bytes) = refl
