use Rattle.hons_arena.specs.Ids.{object_at}
use Rattle.hons_arena.proofs.Spines.{large_from, answer_small}
use Rattle.hons_arena.proofs.arena.HonsArena.tree_of.Goals as goal

pub returns-clause-large : goal.returns-clause-large
returns-clause-large c e = large_from (object_at c.args.self.now.objects c.args.id) (c.built.ensures.large e)

pub returns-clause-small : goal.returns-clause-small
returns-clause-small c large = answer_small (object_at c.args.self.now.objects c.args.id) c.built.new.room c.built.result c.built.ensures.ok large
