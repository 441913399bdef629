-- How many bits an integer has beside its sign.
use Rattle.std.specs.Prelude.{ℕ, zero, suc, ◌/◌, ℤ, pos, negsuc}

-- how often n is halved until it is zero, looking at no more than so many turns
abbrev pub halvings_within : ℕ → ℕ → ℕ
halvings_within zero n = zero
halvings_within (suc turns) zero = zero
halvings_within (suc turns) (suc n) = suc (halvings_within turns (suc n / 2))

-- the number of binary digits of n, none for zero
abbrev pub binary_length : ℕ → ℕ
binary_length n = halvings_within n n

-- zero for 0 and -1, else one more than that of the integer without its lowest bit
abbrev pub integer_length : ℤ → ℕ
integer_length (pos n) = binary_length n
integer_length (negsuc n) = binary_length n
