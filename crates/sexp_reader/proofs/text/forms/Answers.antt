use Rattle.std.proofs.lemmas.Result.{IfOk-weaker}
use Rattle.gl_logic.proofs.GrownTables.{extends_same}
use Rattle.sexp_reader.proofs.Numbered.{reads_numbered, reads_narrow, reads_ascii, reads_flat}
use Rattle.sexp_reader.proofs.text.forms.Goals as goal

pub returns-clause-numbered : goal.returns-clause-numbered
returns-clause-numbered c = let names = c.read_all-read.new.texts in IfOk-weaker c.read_all-read.result _ _ (λ forms reads. reads_numbered names c.args.bytes.now forms.list forms.end c.is_table.ensures reads) c.read_all-read.ensures.reads

pub returns-clause-narrow : goal.returns-clause-narrow
returns-clause-narrow c = let names = c.read_all-read.new.texts in IfOk-weaker c.read_all-read.result _ _ (λ forms reads. reads_narrow names c.args.bytes.now forms.list forms.end (reads names (extends_same names))) c.read_all-read.ensures.reads

pub returns-clause-ascii : goal.returns-clause-ascii
returns-clause-ascii c = let names = c.read_all-read.new.texts in IfOk-weaker c.read_all-read.result _ _ (λ forms reads. reads_ascii names c.args.bytes.now forms.list forms.end (reads names (extends_same names))) c.read_all-read.ensures.reads

pub returns-clause-flat : goal.returns-clause-flat
returns-clause-flat c = let names = c.read_all-read.new.texts in IfOk-weaker c.read_all-read.result _ _ (λ forms reads. reads_flat names c.args.bytes.now forms.list forms.end (reads names (extends_same names))) c.read_all-read.ensures.reads
