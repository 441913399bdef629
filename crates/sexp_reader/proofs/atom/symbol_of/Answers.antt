use Rattle.std.proofs.Common.{ap}
use Rattle.sexp_reader.specs.Grammar.{mark_text}
use Rattle.sexp_reader.proofs.Tables.{marked_place}
use Rattle.sexp_reader.proofs.atom.symbol_of.Goals as goal

pub returns-in-Quote-clause-symbol : goal.returns-in-Quote-clause-symbol
returns-in-Quote-clause-symbol c = marked_place c.args.mark _ c.id_of.result c.id_of.new.self (ap mark_text c.in-Quote.is) c.id_of.ensures.number

pub returns-in-Backquote-clause-symbol : goal.returns-in-Backquote-clause-symbol
returns-in-Backquote-clause-symbol c = marked_place c.args.mark _ c.id_of-in-Backquote.result c.id_of-in-Backquote.new.self (ap mark_text c.in-Backquote.is) c.id_of-in-Backquote.ensures.number

pub returns-in-Comma-clause-symbol : goal.returns-in-Comma-clause-symbol
returns-in-Comma-clause-symbol c = marked_place c.args.mark _ c.id_of-in-Comma.result c.id_of-in-Comma.new.self (ap mark_text c.in-Comma.is) c.id_of-in-Comma.ensures.number
