use Rattle.gl_book.proofs.Puts.{ok_then}
use Rattle.gl_book.proofs.walk.answer_behind.Goals as goal

pub returns : goal.returns
returns g c = ok_then c.follow-put.result c.follow-put.ensures (λ h. record { answer = c.answer_to-answer.result; proper = c.answer_to-answer.ensures; behind = h })
