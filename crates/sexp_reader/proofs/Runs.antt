-- The longest front of bytes that pass a test.
use Rattle.std.proofs.Common.{◌≡◌, sym, ℕ, ◌<◌, ◌≤◌, arith, Bool, true, false, List, length, get_or}
use Rattle.std.proofs.lemmas.List.Sums.{prefix_len_is}
use Rattle.sexp_reader.specs.Bytes.{run}

pub stops_at : (p : ℕ → Bool) (xs : List ℕ) (n : ℕ) → n < length xs → ((k : ℕ) → k < n → p (get_or xs k 0) ≡ true) → p (get_or xs n 0) ≡ false → n ≡ run p xs
stops_at p xs n h a e = sym (prefix_len_is p xs n 0 (omega arith) a (λ _. e))

pub passes_all : (p : ℕ → Bool) (xs : List ℕ) (n : ℕ) → length xs ≤ n → ((k : ℕ) → k < n → p (get_or xs k 0) ≡ true) → length xs ≡ run p xs
passes_all p xs n h a = sym (prefix_len_is p xs (length xs) 0 (omega arith) (λ k l. a k (omega arith)) (λ l. absurd (omega arith)))
