use Rattle.std.proofs.Common.{◌∙◌}
use Rattle.lrat_tool.specs.Parts.{part_of}
use Rattle.lrat_tool.proofs.Cuts.{many_lines}
use Rattle.lrat_tool.proofs.joining.read_part.Goals as goal

pub returns : goal.returns
returns c = (c.in_ok-log.ensures.ok, c.last_line.ensures ∙ many_lines (part_of c.args.text.now c.args.part))
