-- Whether two keys are equal, as a test, and what is hashed of one.
use Rattle.std.specs.Prelude.{Bool, ◌&&◌, ◌++◌, nat_eq}
use Rattle.std.specs.Cmp.{IsEquivalence, nat_eq_equiv, on_equiv, and_equiv, unsigned_Decides}
use Rattle.std.specs.Hash as fed
use Rattle.std.specs.Hash.{HashWrites, Alike, same_Alike, on_Alike, and-Alike}
use Rattle.sym_objects.specs.declared.memo.Key.{Key}

abbrev pub key_eq : Key → Key → Bool
key_eq a b = nat_eq a.first b.first && nat_eq a.second b.second

abbrev pub key_fed : Key → HashWrites
key_fed a = fed.u64 a.first ++ fed.u64 a.second

-- ---- the laws of equality and of hashing
abbrev pub key_equiv : IsEquivalence key_eq
key_equiv = and_equiv (on_equiv (λ a. a.first) nat_eq_equiv) (on_equiv (λ a. a.second) nat_eq_equiv)

abbrev pub key_alike : Alike key_eq key_fed
key_alike = and-Alike (on_Alike (λ a. a.first) (same_Alike fed.u64 unsigned_Decides)) (on_Alike (λ a. a.second) (same_Alike fed.u64 unsigned_Decides))
