-- Whether two calls are equal, as a test, and what is hashed of one.
use Rattle.std.specs.Prelude.{ℕ, Bool, ◌&&◌, ◌++◌, nat_eq}
use Rattle.std.specs.Cmp.{IsEquivalence, nat_eq_equiv, on_equiv, and_equiv, unsigned_Decides}
use Rattle.std.specs.Cmp.Lexicographic.{pointwise, lists_equiv}
use Rattle.std.specs.Hash as fed
use Rattle.std.specs.Hash.{HashWrites, Alike, same_Alike, on_Alike, and-Alike, items_Alike}
use Rattle.hons_arena.specs.HashedIds.{id_eq, id_fed, id_equiv, id_alike}
use Rattle.memo_tables.specs.Calls.{Call}

-- the same function and the same arguments, one by one
abbrev pub call_eq : Call → Call → Bool
call_eq a b = nat_eq a.function b.function && pointwise id_eq a.arguments b.arguments

abbrev pub call_fed : Call → HashWrites
call_fed c = fed.u64 c.function ++ fed.slice id_fed c.arguments

-- ---- the laws of equality and of hashing
abbrev pub call_equiv : IsEquivalence call_eq
call_equiv = and_equiv (on_equiv (λ c. c.function) nat_eq_equiv) (on_equiv (λ c. c.arguments) (lists_equiv id_equiv))

abbrev pub call_alike : Alike call_eq call_fed
call_alike = and-Alike (on_Alike (λ c. c.function) (same_Alike fed.u64 unsigned_Decides)) (on_Alike (λ c. c.arguments) (items_Alike id_alike))
