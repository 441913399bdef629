-- What a run begins with.
use Rattle.std.specs.Prelude.{◌≡◌, ℕ, List, []}
use Rattle.gl_logic.specs.Names.{Extends, with_name}
use Rattle.event_world.specs.NextState.{BookState}
use Rattle.event_world.specs.OpeningNames.{opening_names}
use Rattle.book_state.specs.Reading.{IsReadBy}
use Rattle.book_state.specs.States.{CanGoOn, IsFirstState}
use Rattle.gl_book.specs.declared.opening.Begun.{Begun}
use Rattle.gl_book.specs.declared.opening.Opened.{Opened}

-- the table that every book begins with, and a first state in it, from which each walk can go on
pub record IsBegun (b : Begun) : Type 0 where
  pub opens : b.texts ≡ opening_names
  pub empty : with_name b.texts [] ≡ b.texts
  pub begins : IsFirstState b.texts b.state
  pub can : CanGoOn b.state

-- the forms of a text by its table, and a first state in that
pub record IsOpened (bytes : List ℕ) (o : Opened) : Type 0 where
  pub read : IsReadBy o.texts bytes o.forms.list o.forms.end
  pub begins : IsFirstState o.texts o.state
  pub can : CanGoOn o.state

-- a first state in a table with which this one begins, and from which each walk can go on
pub record HasBegun (names : List (List ℕ)) (s : BookState) : Type 0 where
  pub first : List (List ℕ)
  pub grown : Extends first names
  pub empty : with_name names [] ≡ names
  pub begins : IsFirstState first s
  pub can : CanGoOn s
