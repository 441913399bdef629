use Rattle.gl_book.proofs.Alone.{comes}
use Rattle.gl_book.proofs.laws.alone_has_its_text.Goals as goal

pub returns : goal.returns
returns c = λ bounds shelf name lines stalls s plain t. (t.0, t.1, comes t.0 bounds shelf name t.1 (plain t.0) t.2, t.3, t.4, t.5)
