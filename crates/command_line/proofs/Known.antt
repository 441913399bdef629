-- Known bytes, over calls that leave them.
use Rattle.std.proofs.Common.{◌≡◌, ◌∙◌, ap, ℕ, List, ◌++◌, take, Option, Some, None, append-nil, refl, sym}
use Rattle.std.specs.Io.KnownBytes.{Keeps, Appends, Consumes}

pub keeps_same : (a : Option (List ℕ)) → Keeps a a
keeps_same None = tt
keeps_same (Some xs) = refl

pub keeps_then : (a b c : Option (List ℕ)) → Keeps a b → Keeps b c → Keeps a c
keeps_then None b c h k = tt
keeps_then (Some xs) None c h k = absurd h
keeps_then (Some xs) (Some ys) None h k = absurd k
keeps_then (Some xs) (Some ys) (Some zs) h k = k ∙ h

pub keeps_appends : (a b c : Option (List ℕ)) (bytes : List ℕ) → Keeps a b → Appends b c bytes → Appends a c bytes
keeps_appends None b c bytes h k = tt
keeps_appends (Some xs) None c bytes h k = absurd h
keeps_appends (Some xs) (Some ys) None bytes h k = absurd k
keeps_appends (Some xs) (Some ys) (Some zs) bytes h k = k ∙ ap (λ (n : List ℕ). n ++ bytes) h

pub keeps_consumes : (a b c : Option (List ℕ)) (bytes : List ℕ) → Keeps a b → Consumes b c bytes → Consumes a c bytes
keeps_consumes None b c bytes h k = tt
keeps_consumes (Some xs) None c bytes h k = absurd h
keeps_consumes (Some xs) (Some ys) None bytes h k = absurd k
keeps_consumes (Some xs) (Some ys) (Some zs) bytes h k = sym h ∙ k

-- a write that takes nothing leaves them
pub none_appended : (a b : Option (List ℕ)) (piece : List ℕ) → Appends a b (take 0 piece) → Keeps a b
none_appended None b piece h = tt
none_appended (Some xs) None piece h = absurd h
none_appended (Some xs) (Some ys) piece h = h ∙ append-nil xs
