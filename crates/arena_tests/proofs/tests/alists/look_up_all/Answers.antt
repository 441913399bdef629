use Rattle.arena_tests.proofs.tests.alists.look_up_all.Goals as goal

pub all_found-requires : goal.all_found-requires
all_found-requires g c = c.free.ensures.agree c.lists-first.new.arena.objects c.lists-first.ensures
