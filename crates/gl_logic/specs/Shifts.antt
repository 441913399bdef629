-- The arithmetic shift: the floor of i * 2 ^ c.
use Rattle.std.specs.Prelude.{suc, ◌^◌, ℤ, pos, negsuc, ◌*ℤ◌}
use Rattle.gl_logic.specs.Quotients.{floor_by}

abbrev pub ash_ℤ : ℤ → ℤ → ℤ
ash_ℤ i (pos c) = i *ℤ pos (2 ^ c)
ash_ℤ i (negsuc c) = floor_by i (2 ^ suc c)
