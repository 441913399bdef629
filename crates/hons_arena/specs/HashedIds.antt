-- Ids as keys of a table: whether two are equal, as a test, and what is hashed of one.
use Rattle.std.specs.Prelude.{◌≡◌, ℕ, zero, suc, Bool, ◌&&◌, nat_eq, refl}
use Rattle.std.specs.Cmp.{IsEquivalence, nat_eq_equiv, on_equiv, and_equiv, unsigned_Decides}
use Rattle.std.specs.Coded.{Coded, code_by, coded×, coded_ℕ}
use Rattle.std.specs.Hash as fed
use Rattle.std.specs.Hash.{HashWrites, Alike, same_Alike, on_Alike, second_alike}
use Rattle.hons_arena.specs.declared.id.Id.{Id}
use Rattle.hons_arena.specs.declared.id.Id.TheVariants as id
use Rattle.hons_arena.specs.declared.id.IdKind.{IdKind}
use Rattle.hons_arena.specs.declared.id.IdKind.TheVariants as kind
use Rattle.hons_arena.specs.Ids.{kind_in, number_in, id_numbered}

-- what stands for a kind among numbers, and the kind that a number stands for
abbrev pub kind_number : IdKind → ℕ
kind_number kind.Symbol = 0
kind_number kind.Text = 1
kind_number kind.Cell = 2

abbrev pub kind_from : ℕ → IdKind
kind_from zero = kind.Symbol
kind_from (suc zero) = kind.Text
kind_from _ = kind.Cell

-- the same kind and the same number
abbrev pub id_eq : Id → Id → Bool
id_eq a b = nat_eq (kind_number (kind_in a)) (kind_number (kind_in b)) && nat_eq (number_in a) (number_in b)

-- the number alone: ids that differ in their kinds alone are fed alike, and equality tells them apart
abbrev pub id_fed : Id → HashWrites
id_fed a = fed.u64 (number_in a)

-- ---- the laws of equality and of hashing
abbrev pub id_equiv : IsEquivalence id_eq
id_equiv = and_equiv (on_equiv (λ a. kind_number (kind_in a)) nat_eq_equiv) (on_equiv number_in nat_eq_equiv)

abbrev pub id_alike : Alike id_eq id_fed
id_alike = second_alike (λ a b. nat_eq (kind_number (kind_in a)) (kind_number (kind_in b))) (on_Alike number_in (same_Alike fed.u64 unsigned_Decides))

-- ---- the code
abbrev pub id_back : (a : Id) → id_numbered (kind_from (kind_number (kind_in a))) (number_in a) ≡ a
id_back (id.Symbol t) = refl
id_back (id.Text t) = refl
id_back (id.Cell n) = refl

abbrev pub coded_id : Coded Id
coded_id = code_by (ℕ × ℕ) (coded× coded_ℕ coded_ℕ) (λ a. (kind_number (kind_in a), number_in a)) (λ p. id_numbered (kind_from p.0) p.1) id_back
