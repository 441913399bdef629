use Rattle.std.proofs.Common.{sym, subst, refl, ℕ, arith}
use Rattle.lrat_tool.specs.Held.{Rises}
use Rattle.lrat_tool.specs.Pieces.{log_seen}
use Rattle.lrat_tool.proofs.Ranked.{as_many, as_many_first, found_too}
use Rattle.lrat_tool.proofs.Rooms.{all_wider}
use Rattle.lrat_tool.proofs.checking.first_wrong.Goals as goal

pub first_wrong_entry-requires-clause-end : goal.first_wrong_entry-requires-clause-end
first_wrong_entry-requires-clause-end g c =
    omega (arith, c.requires.end, as_many c.args.formula.now.lists c.args.log.now.clauses.lists c.rename.new.formula.lists c.rename.new.clauses.lists c.in-Ok.ensures)

pub first_wrong_entry-requires-clause-checked : goal.first_wrong_entry-requires-clause-checked
first_wrong_entry-requires-clause-checked g c κs within =
    let many = as_many c.args.formula.now.lists c.args.log.now.clauses.lists c.rename.new.formula.lists c.rename.new.clauses.lists c.in-Ok.ensures in
    let first = as_many_first c.args.formula.now.lists c.args.log.now.clauses.lists c.rename.new.formula.lists c.rename.new.clauses.lists c.in-Ok.ensures in (
      omega (arith, many, c.requires.hints),
      omega (arith, many, c.requires.rats),
      all_wider c.room_of.result c.room_of-room.result c.rename.new.formula.lists c.room_of-room.ensures.least c.room_of.ensures.within,
      c.room_of-room.ensures.within,
      omega arith,
      (
        omega (arith, many, c.requires.numbered.0),
        subst (λ (n : ℕ). Rises n c.args.log.now.ids.items) (sym first) c.requires.numbered.1,
        omega (arith, first, c.requires.numbered.2),
      ),
    )

pub returns-clause-found : goal.returns-clause-found
returns-clause-found g c =
    found_too (log_seen c.args.formula.now c.args.log.now) (log_seen c.rename.new.formula (record c.args.log.now { clauses = c.rename.new.clauses })) c.in-Ok.ensures refl refl refl 0 c.args.end c.first_wrong_entry.result c.first_wrong_entry.ensures
