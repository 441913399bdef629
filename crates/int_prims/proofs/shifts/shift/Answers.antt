use Rattle.std.proofs.Common.{rules, ◌∙◌, ap, ◌^◌}
use Rattle.std.proofs.lemmas.Int.{to_z-of_z}
use Rattle.std.specs.Int.{w128}
use Rattle.gl_logic.specs.Quotients.{floor_by}
use Rattle.int_prims.proofs.FarShifts.{far_right}
use Rattle.int_prims.proofs.shifts.shift.Goals as goal

pub returns-then-count-ltminus127 : goal.returns-then-count-ltminus127
returns-then-count-ltminus127 c =
    to_z-of_z w128 c.right.result (record { sfits = c.right.type_inv })
    ∙ (c.right.ensures ∙ (ap (λ z. floor_by z (2 ^ 127)) (to_z-of_z w128 c.args.a c.ranges.a)
    ∙ far_right c.args.a c.args.count c.ranges.a (search rules)))
