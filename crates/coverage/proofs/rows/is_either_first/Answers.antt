use Rattle.std.proofs.Common.{◌∙◌}
use Rattle.gl_logic.specs.TermOf.{term_of}
use Rattle.coverage.specs.Forms.{is_literal, two}
use Rattle.coverage.specs.Heads.{is_headed, subject_of, wanted_of}
use Rattle.coverage.proofs.Arguments.{headed_either}
use Rattle.coverage.proofs.Logic.{or_shown, or_left_out}
use Rattle.coverage.proofs.rows.is_either_first.Goals as goal

pub returns-then-is_subject_first : goal.returns-then-is_subject_first
returns-then-is_subject_first c =
    let F = subject_of c.args.subject.now in
    let G = is_literal (wanted_of c.args.wanted.now) in
    let T = term_of c.args.term.now in
    or_shown c.is_subject_first.result (is_headed c.args.head (two F G) T) (is_headed c.args.head (two G F) T) c.is_subject_first.ensures c.if-is_subject_first.true ∙ headed_either c.args.head F G T

pub returns-else-is_subject_first : goal.returns-else-is_subject_first
returns-else-is_subject_first c =
    let F = subject_of c.args.subject.now in
    let G = is_literal (wanted_of c.args.wanted.now) in
    let T = term_of c.args.term.now in
    or_left_out c.is_subject_first.result c.is_literal_first.result (is_headed c.args.head (two F G) T) (is_headed c.args.head (two G F) T) c.is_subject_first.ensures c.if-is_subject_first.false c.is_literal_first.ensures ∙ headed_either c.args.head F G T
