-- The numbers that stand with options, and the limits that they make.
use Rattle.std.specs.Prelude.{ℕ, nat_lt, nat_le, ◌&&◌, if◌then◌else◌, Bool, List, length, codes, Option, Some, None, option_map, option_and_then}
use Rattle.std.specs.List.{list_all}
use Rattle.std.specs.Str.Parse.{digits_value}
use Rattle.clap.specs.Words.{Row, Text, first_of}
use Rattle.gl_base.specs.declared.limits.Limits.{Limits}
use Rattle.gl_decide.specs.Bounds.{Bounds, bounds_of}

-- ---- numbers
-- one to eight decimal digits
abbrev pub is_number : Text → Bool
is_number text = nat_lt 0 (length text) && (nat_le (length text) 8 && list_all (λ b. nat_le 48 b && nat_le b 57) text)

-- the number of a text of one to eight decimal digits, where it lies in a range
abbrev pub number_within : ℕ → ℕ → Text → Option ℕ
number_within least most text = if is_number text && (nat_le least (digits_value 10 text) && nat_le (digits_value 10 text) most) then Some (digits_value 10 text) else None

-- the number of an option: its usual one where the option is not there
abbrev pub option_number : ℕ → ℕ → ℕ → Option Text → Option ℕ
option_number usual least most None = Some usual
option_number usual least most (Some text) = number_within least most text

-- ---- limits
-- the number of workers, and the limits on which answers depend
pub record Settings : Type 0 where
  pub workers : ℕ
  pub bounds : Bounds

abbrev pub settings_seen : Limits → Settings
settings_seen limits = record { workers = limits.workers; bounds = bounds_of limits }

-- the options and their ranges
abbrev pub workers_from : List Row → Option ℕ
workers_from rows = option_number 1 1 8 (first_of (codes "workers") rows)

abbrev pub steps_from : List Row → Option ℕ
steps_from rows = option_number 10000000 1 99999999 (first_of (codes "steps") rows)

abbrev pub cells_from : List Row → Option ℕ
cells_from rows = option_number 1000000 1000 4000000 (first_of (codes "cells") rows)

abbrev pub nodes_from : List Row → Option ℕ
nodes_from rows = option_number 1000000 100 4000000 (first_of (codes "nodes") rows)

abbrev pub clauses_from : List Row → Option ℕ
clauses_from rows = option_number 100000 1 1000000 (first_of (codes "clauses") rows)

abbrev pub enum_bits_from : List Row → Option ℕ
enum_bits_from rows = option_number 12 0 16 (first_of (codes "enum-bits") rows)

abbrev pub settings_from : List Row → Option Settings
settings_from rows =
    option_and_then (λ workers. option_and_then (λ steps. option_and_then (λ cells. option_and_then (λ nodes. option_and_then (λ clauses. option_map (λ enum_bits.
    record { workers = workers; bounds = record { steps = steps; cells = cells; nodes = nodes; clauses = clauses; enum_bits = enum_bits } })
    (enum_bits_from rows)) (clauses_from rows)) (nodes_from rows)) (cells_from rows)) (steps_from rows)) (workers_from rows)
