-- What stands for an application in the table of a call's answers.
use Rattle.std.specs.Prelude.{Bool, ◌&&◌, ◌++◌, nat_eq}
use Rattle.std.specs.Cmp.{IsEquivalence, nat_eq_equiv, on_equiv, and_equiv, unsigned_Decides}
use Rattle.std.specs.Hash as fed
use Rattle.std.specs.Hash.{HashWrites, Alike, same_Alike, on_Alike, and-Alike}
use Rattle.sym_prims.specs.declared.frames.Task.{Task}
use Rattle.sym_prims.specs.declared.memo.Key.{Key}

-- the numbers of its objects and of its path
abbrev pub key_of : Task → Key
key_of t = record { first = t.first.number; second = t.second.number; path = t.path.number }

abbrev pub task_at : Key → Task
task_at k = record { first = record { number = k.first }; second = record { number = k.second }; path = record { number = k.path } }

-- ---- whether two are equal, as a test, and what is hashed of one
abbrev pub key_eq : Key → Key → Bool
key_eq a b = (nat_eq a.first b.first && nat_eq a.second b.second) && nat_eq a.path b.path

abbrev pub key_fed : Key → HashWrites
key_fed a = (fed.u64 a.first ++ fed.u64 a.second) ++ fed.u64 a.path

abbrev pub key_equiv : IsEquivalence key_eq
key_equiv = and_equiv (and_equiv (on_equiv (λ a. a.first) nat_eq_equiv) (on_equiv (λ a. a.second) nat_eq_equiv)) (on_equiv (λ a. a.path) nat_eq_equiv)

abbrev pub key_alike : Alike key_eq key_fed
key_alike = and-Alike (and-Alike (on_Alike (λ a. a.first) (same_Alike fed.u64 unsigned_Decides)) (on_Alike (λ a. a.second) (same_Alike fed.u64 unsigned_Decides))) (on_Alike (λ a. a.path) (same_Alike fed.u64 unsigned_Decides))
