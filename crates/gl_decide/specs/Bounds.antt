-- What answers depend on of a run's limits. The number of workers is none of it.
use Rattle.std.specs.Prelude.{ℕ}
use Rattle.gl_base.specs.declared.limits.Limits.{Limits}

pub record Bounds : Type 0 where
  pub steps : ℕ
  pub cells : ℕ
  pub nodes : ℕ
  pub clauses : ℕ
  pub enum_bits : ℕ

abbrev pub bounds_of : Limits → Bounds
bounds_of limits = record { steps = limits.steps; cells = limits.cells; nodes = limits.nodes; clauses = limits.clauses; enum_bits = limits.enum_bits }
