-- Tables of texts that grow.
use Rattle.std.proofs.Common.{◌≡◌, ◌∙◌, ap, sym, ℕ, true, false, cond, List, [], ◌∷◌, ◌++◌}
use Rattle.std.specs.Prelude.{bytes_eq}
use Rattle.std.specs.List.{list_any}
use Rattle.std.proofs.lemmas.List.{append_assoc, append-nil}
use Rattle.gl_logic.specs.Names.{with_name, Extends}

pub extends_same : (names : List (List ℕ)) → Extends names names
extends_same names = ([], sym (append-nil names))

pub extends_then : (a b c : List (List ℕ)) → Extends a b → Extends b c → Extends a c
extends_then a b c p q = (p.0 ++ q.0, q.1 ∙ (ap (λ (z : List (List ℕ)). z ++ q.0) p.1 ∙ append_assoc a p.0 q.0))

pub extends_name : (old new : List (List ℕ)) (name : List ℕ) → new ≡ with_name old name → Extends old new
extends_name old new name h = elim (list_any (bytes_eq name) old) as (λ b. new ≡ cond b old (old ++ name ∷ []) → Extends old new) [
  | true ↦ λ e. ([], e ∙ sym (append-nil old))
  | false ↦ λ e. (name ∷ [], e)
] h
