-- Ids, and their kinds and numbers.
use Rattle.std.proofs.Common.{◌≡◌, ℕ, List, refl, sym, ◌∙◌}
use Rattle.gl_logic.specs.Object.{Object}
use Rattle.hons_arena.specs.declared.id.Id.{Id}
use Rattle.hons_arena.specs.declared.id.IdKind.{IdKind}
use Rattle.hons_arena.specs.declared.id.IdKind.TheVariants as kind
use Rattle.hons_arena.specs.HashedIds.{kind_number, kind_from, id_back}
use Rattle.hons_arena.specs.Ids.{kind_in, number_in, id_numbered, object_at, object_numbered, IsNumberBelow, IsBelow}

pub same_id_from : (a b : Id) → kind_in a ≡ kind_in b → number_in a ≡ number_in b → a ≡ b
same_id_from a b k n = sym (id_back a) ∙ ((λ i. id_numbered (kind_from (kind_number (k i))) (n i)) ∙ id_back b)

pub numbered_below : (count : ℕ) (t : IdKind) (n : ℕ) → IsNumberBelow count t n → IsBelow count (id_numbered t n)
numbered_below count kind.Symbol n h = tt
numbered_below count kind.Text n h = tt
numbered_below count kind.Cell n h = h

pub numbered_at : (objects : List Object) (t : IdKind) (n : ℕ) → object_at objects (id_numbered t n) ≡ object_numbered objects t n
numbered_at objects kind.Symbol n = refl
numbered_at objects kind.Text n = refl
numbered_at objects kind.Cell n = refl
