use Rattle.gl_book.proofs.Ends.{some_transcript}
use Rattle.gl_book.proofs.run.every_text_has_a_transcript.Goals as goal

pub returns : goal.returns
returns c most text = some_transcript most text
