-- The shelves and sinks in memory, as contracts see them.
use Rattle.std.specs.Prelude.{ℕ, List, ◌++◌, None, Bool, if◌then◌else◌}
use Rattle.gl_base.specs.CallCount.{CallCount, counted}
use Rattle.gl_base.specs.NamedTexts.{Reading, text_named}

-- a shelf's texts and its calls
pub record ShelfState : Type 0 where
  pub reading : Reading
  pub calls : CallCount

-- a shelf after an `open` of this name, by whether it failed
abbrev pub after_open : ShelfState → List ℕ → Bool → ShelfState
after_open s name failed = record {
  reading = record { texts = s.reading.texts; rest = if failed then None else text_named s.reading.texts name };
  calls = counted s.calls failed;
}

-- the bytes that a sink has taken, how many it may take, and its calls
pub record SinkState : Type 0 where
  pub taken : List ℕ
  pub room : ℕ
  pub calls : CallCount

-- a sink after a `write` of this piece, by whether it failed
abbrev pub after_write : SinkState → List ℕ → Bool → SinkState
after_write s piece failed = record {
  taken = if failed then s.taken else s.taken ++ piece;
  room = s.room;
  calls = counted s.calls failed;
}

-- the bytes that a sink has kept, and how many it keeps at most
pub record Keeping : Type 0 where
  pub kept : List ℕ
  pub room : ℕ
