use Rattle.std.proofs.Common.{ap, ◌∙◌, Err}
use Rattle.gl_interp.proofs.Calling.{placed_full, placed_memory, placed_ok}
use Rattle.gl_interp.proofs.calls.place_one.Goals as goal

pub returns-in-Ok : goal.returns-in-Ok
returns-in-Ok g c = record { places = λ a. placed_ok _ c.args.machine.now c.arena_mut.result.now c.to_arena.new.arena c.arena_mut.ensures.arena c.mark-held.ensures.whole c.in-Ok.id (c.in-Ok.ensures.places a) }

pub returns-in-Err-Full : goal.returns-in-Err-Full
returns-in-Err-Full g c = record { places = λ a. placed_full _ c.args.machine.now c.arena_mut.result.now c.to_arena.new.arena c.arena_mut.ensures.arena c.mark-held.ensures.whole c.to_arena.result (c.in-Err-Full.is ∙ ap Err c.in-Err-Full.field-0-is) (c.to_arena.ensures.places a) }

pub returns-in-Err-Memory : goal.returns-in-Err-Memory
returns-in-Err-Memory g c = record { places = λ a. placed_memory _ c.args.machine.now c.arena_mut.result.now c.to_arena.new.arena c.arena_mut.ensures.arena c.mark-held.ensures.whole c.to_arena.result (c.to_arena.ensures.places a) }
