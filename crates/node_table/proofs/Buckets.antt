-- Places among buckets.
use Rattle.std.proofs.Common.{ℕ, ◌*◌, ◌/◌, ◌%◌, ◌^◌, ◌<◌, arith}
use Rattle.std.proofs.Math.Nat.{mul-lt-mul_of_pos_right}
use Rattle.node_table.specs.Hashes.{bucket_of}

-- the high half of a product with a number of 64 bits is below the other factor
pub spread_below : (hash count : ℕ) → hash < 2 ^ 64 → 0 < count → hash * count / 18446744073709551616 < count
spread_below hash count b h = omega (arith, mul-lt-mul_of_pos_right b h)

pub bucket_below : (count hash : ℕ) → 0 < count → bucket_of count hash < count
unfolding bucket_of
bucket_below count hash h = spread_below (hash % 2 ^ 64) count (omega arith) h
