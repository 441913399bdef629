use Rattle.std.proofs.Common.{◌≡◌, ◌+◌, ◌∙◌, ap, arith, length, false, set, true, to_z-of_z}
use Rattle.cnf_rup.specs.Shown.{is_among}
use Rattle.cnf_rup.specs.Marked.{TrailSeen, unset_count, mark_of, is_marked}
use Rattle.cnf_rup.proofs.Marks.{unset-set, mark_within}
use Rattle.cnf_rup.proofs.trail.Trail.set.Goals as goal

pub returns-clause-unset : goal.returns-clause-unset
returns-clause-unset c none =
    let marks = c.self.inside.marks.items in
    let literals : c.self.inside.literals.items ≡ c.args.self.now.literals = ap (λ (t : TrailSeen). t.literals) c.self.view_is in
    let room : length marks ≡ c.args.self.now.room = ap (λ (t : TrailSeen). t.room) c.self.view_is in
    let unset : unset_count marks ≡ c.args.self.now.unset = ap (λ (t : TrailSeen). t.unset) c.self.view_is in
    let loose : is_marked marks c.args.literal ≡ false = c.self.invariant.0 c.args.literal ∙ ap (λ ls. is_among ls c.args.literal) literals ∙ none in
    let under = mark_within c.args.literal in
    let fits = c.ranges.literal in
    let place : c.mark_of.result ≡ mark_of c.args.literal = simp to_z-of_z at c.mark_of.ensures in
    ap (λ i. unset_count (set marks i true) + 1) place ∙ unset-set marks (mark_of c.args.literal) (omega (arith, room, under, c.requires)) loose ∙ unset
