-- A world as it was when it had less.
use Rattle.std.proofs.Common.{◌≡◌, ap, sym, refl, subst, ℕ, zero, suc, List, [], ◌∷◌, map, take}
use Rattle.gl_logic.specs.DefinitionOf.{definition_of}
use Rattle.gl_logic.specs.NewNames.{numbers_of}
use Rattle.gl_logic.specs.Named.{IsIndex}
use Rattle.gl_logic.specs.WorldSeen.{definition_names}
use Rattle.gl_logic.specs.declared.def.Def.{Def}

pub names_seen : (ds : List Def) → definition_names (map definition_of ds) ≡ numbers_of ds
names_seen [] = refl
names_seen (d ∷ ds) = ap (λ ns. d.name.number ∷ ns) (names_seen ds)

pub first_seen : (n : ℕ) (ds : List Def) → map definition_of (take n ds) ≡ take n (map definition_of ds)
first_seen zero ds = refl
first_seen (suc n) [] = refl
first_seen (suc n) (d ∷ ds) = ap (λ es. definition_of d ∷ es) (first_seen n ds)

pub index_numbers : (places : List ℕ) (ds : List Def) → IsIndex places (definition_names (map definition_of ds)) → IsIndex places (numbers_of ds)
index_numbers places ds h = subst (IsIndex places) (names_seen ds) h

pub index_names : (places : List ℕ) (ds : List Def) → IsIndex places (numbers_of ds) → IsIndex places (definition_names (map definition_of ds))
index_names places ds h = subst (IsIndex places) (sym (names_seen ds)) h
