use Rattle.std.proofs.Common.{drop}
use Rattle.gl_logic.specs.Lists.{elements_of, tail_of}
use Rattle.event_world.specs.EventWords.{behind_head}
use Rattle.event_world.specs.NextState.{with_members}
use Rattle.book_state.proofs.Noting.{Going}
use Rattle.book_state.proofs.members.note_members.Given as goal

abbrev pub invariant-loop-number : goal.invariant-loop-number
invariant-loop-number l = Going l.fn.world.definitions (elements_of l.form) (tail_of l.form) (with_members l.fn.world (drop l.fn.first.number l.fn.world.definitions) (behind_head l.form)) l.world l.number l.left
