use Rattle.sexp_reader.proofs.Tabled.{table, is_table, table_gathers, table_numbers}
use Rattle.sexp_reader.proofs.text.has_a_table.Goals as goal

pub returns : goal.returns
returns c bytes names h = (table names h bytes, is_table names h bytes, table_gathers names h bytes, table_numbers names h bytes)
