-- The calls of an object in memory: how many there were, how many failed, and which are to fail.
use Rattle.std.specs.Prelude.{ℕ, ◌+◌, ◌-◌, ◌^◌, ◌==◌, min, Bool, if◌then◌else◌, List}
use Rattle.std.specs.List.{list_any}

pub record CallCount : Type 0 where
  pub made : ℕ
  pub faults : ℕ
  pub fails : List ℕ

-- one more, but not past the end of the type
abbrev pub raised : ℕ → ℕ
raised n = min (n + 1) (2 ^ 64 - 1)

-- no call yet
abbrev pub no_calls : List ℕ → CallCount
no_calls fails = record { made = 0; faults = 0; fails = fails }

-- whether the call that comes now is one of those that are to fail
abbrev pub fails_now : CallCount → Bool
fails_now c = list_any (λ n. n == raised c.made) c.fails

-- the count after a call, by whether it failed
abbrev pub counted : CallCount → Bool → CallCount
counted c failed = record { made = raised c.made; faults = if failed then raised c.faults else c.faults; fails = c.fails }
