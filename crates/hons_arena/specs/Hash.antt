-- Where the walk for a cell begins, and what it is told by: numbers made of the cell's own words.
use Rattle.std.specs.Prelude.{ℕ, ◌+◌, ◌-◌, ◌*◌, ◌/◌, ◌%◌, ◌^◌, min, bit_xor}
use Rattle.std.specs.Int.{w128, cast_unsigned}
use Rattle.hons_arena.specs.declared.cell.Cell.{Cell}
use Rattle.hons_arena.specs.declared.cell.Cell.TheVariants as cell
use Rattle.hons_arena.specs.declared.id.IdKind.{IdKind}
use Rattle.hons_arena.specs.declared.id.IdKind.TheVariants as kind

-- a word mixed into a hash, by the two products of splitmix64
unfoldable pub mixed : ℕ → ℕ → ℕ
mixed h w =
    let first = bit_xor h w * 0xbf58476d1ce4e5b9 % 2 ^ 64 in
    let second = bit_xor first (first / 2 ^ 32) * 0x94d049bb133111eb % 2 ^ 64 in
    bit_xor second (second / 2 ^ 32)

abbrev pub factor : ℕ
factor = 0x9e3779b97f4a7c15

abbrev pub tag_of : IdKind → ℕ
tag_of kind.Symbol = factor
tag_of kind.Text = 0xd1b54a32d192ed03
tag_of kind.Cell = 0x8cb92ba72f3d8dd7

-- the difference of two words, one less, times a factor
unfoldable pub apart : ℕ → ℕ → ℕ → ℕ
apart m n k = (m + (0xffffffffffffffff - n)) % 2 ^ 64 * k % 2 ^ 64

-- a word's last four bits, each turned or not by the hash of its other bits behind a half
abbrev pub lined : ℕ → ℕ → ℕ
lined half w = bit_xor (mixed half (w / 16)) (w % 16)

-- of a cons: by the first part where the second is a symbol or string, else by the second behind the parts' difference
unfoldable pub hash_of_parts : IdKind → IdKind → ℕ → ℕ → ℕ
hash_of_parts s kind.Symbol m n = lined ((n * tag_of s % 2 ^ 64 + tag_of kind.Symbol) % 2 ^ 64) m
hash_of_parts s kind.Text m n = lined ((n * tag_of s % 2 ^ 64 + tag_of kind.Text) % 2 ^ 64) m
hash_of_parts s kind.Cell m n = lined ((apart m n (tag_of s) + tag_of kind.Cell) % 2 ^ 64) n

-- of an integer: its last three bits, in every second place
unfoldable pub hash_of : Cell → ℕ
hash_of (cell.Int z) =
    let low = cast_unsigned w128 z % 2 ^ 64 in
    bit_xor (mixed (cast_unsigned w128 z / 2 ^ 64 * factor % 2 ^ 64) (low / 8)) (low % 8 * 2)
hash_of (cell.Character n) = mixed factor n
hash_of (cell.Cons s t m n) = hash_of_parts s t m n

-- a hash's share of so many slots, in whole blocks of sixteen, and its last four bits in the block
abbrev pub home_at : ℕ → ℕ → ℕ
home_at m hash = min (hash * (m / 16) / 2 ^ 64 * 16 + hash % 16) (m - 1)

-- the slot, of so many, at which the walk for a cell begins
abbrev pub home_of : ℕ → Cell → ℕ
home_of m c = home_at m (hash_of c)

-- what free slots have for a fingerprint, and no cell
abbrev pub free : ℕ
free = 0

-- a hash's seven bits above those in the block, counted from 1
abbrev pub fingerprint_of : ℕ → ℕ
fingerprint_of hash = hash / 16 % 128 + 1
