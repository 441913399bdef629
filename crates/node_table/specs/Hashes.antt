-- Hashes, and the place of one among so many buckets.
use Rattle.std.specs.Prelude.{ℕ, ◌+◌, ◌*◌, ◌/◌, ◌%◌, ◌^◌}

-- the hash of three numbers, of 64 bits
unfoldable pub hash_of : ℕ → ℕ → ℕ → ℕ
hash_of first second third = (first * 625341585 + second * 1013904223 + third * 521288629) * 11400714819323198485 % 2 ^ 64

-- the high half of the product of a hash, of 64 bits, and the count
unfoldable pub bucket_of : ℕ → ℕ → ℕ
bucket_of count hash = hash % 2 ^ 64 * count / 2 ^ 64
