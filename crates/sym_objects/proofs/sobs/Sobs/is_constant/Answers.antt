use Rattle.std.proofs.Common.{false, [], ◌∙◌, ap}
use Rattle.sym_objects.specs.Nodes.{values_from, constant_by}
use Rattle.sym_objects.specs.Seen.{SobsSeen, is_constant_edge}
use Rattle.sym_objects.proofs.Adding.{mark_read}
use Rattle.sym_objects.proofs.sobs.Sobs.is_constant.Goals as goal

pub returns : goal.returns
returns g c =
    mark_read g.B.Meaning c.args.self.now c.self.inside.table.marks c.args.s c.mark.result
    (c.self.invariant.marks ∙ ap (λ (s : SobsSeen g.row.B.Denot). values_from false (constant_by (is_constant_edge g.B.Meaning)) [] s.nodes) c.self.view_is)
    c.mark.ensures
