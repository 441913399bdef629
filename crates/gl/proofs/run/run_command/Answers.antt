use Rattle.std.proofs.Common.{ℕ, List, sym, subst}
use Rattle.book_shelf.specs.Reached.{own}
use Rattle.gl_words.specs.CommandOf.{source_seen}
use Rattle.gl_words.specs.declared.words.Source.{Source as GivenSource}
use Rattle.gl.specs.Runs.{IsOfSource}
use Rattle.gl.proofs.run.run_command.Goals as goal

pub returns-in-Book-clause-asked : goal.returns-in-Book-clause-asked
returns-in-Book-clause-asked g c = λ _.
    subst (λ (s : GivenSource). (x : List ℕ) × IsOfSource (source_seen s) (g.S.Shelf.holds c.args.shelf.now) x) (sym c.in-Book.is) (_, own _)
