use Rattle.std.proofs.Common.{◌∙◌, ap, sym, refl}
use Rattle.std.proofs.lemmas.Option.{slice_get_read}
use Rattle.std.proofs.Common.{length, ◌-◌}
use Rattle.cnf_rup.specs.Shown.{turn_of}
use Rattle.cnf_rup.proofs.Turns.{named-clause}
use Rattle.cnf_rup.proofs.check.turn_at_hint.Goals as goal

pub returns-in-Some-clause-turn : goal.returns-in-Some-clause-turn
returns-in-Some-clause-turn c =
    let found = c.in-Some.ensures.lookup in
    c.turn.ensures.turn ∙ ap (turn_of c.args.trail.now.literals) c.as_slice.ensures
    ∙ sym (named-clause c.args.entries.now c.args.trail.now.literals c.args.hint c.in-Some.entry.now c.requires.some
    (slice_get_read c.args.entries.now (length c.args.entries.now) (c.args.hint - 1) c.in-Some.entry.now refl found.3.0 found.1))
