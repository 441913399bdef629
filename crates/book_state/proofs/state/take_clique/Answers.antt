use Rattle.gl_logic.specs.WorldSeen.{definition_names}
use Rattle.book_state.proofs.Noting.{members_free, names_free, more_definitions}
use Rattle.book_state.proofs.state.take_clique.Goals as goal

pub push_clique-requires-clause-free : goal.push_clique-requires-clause-free
push_clique-requires-clause-free c = names_free c.args.world.now (definition_names c.args.defs) c.requires.suits.names

pub note_members-requires-clause-free : goal.note_members-requires-clause-free
note_members-requires-clause-free c = members_free c.args.world.now c.push_clique.new.self c.args.defs c.in_ok-first.first.number c.in_ok-first.ensures.ok c.in_ok-first.ensures.number c.requires.suits.names

pub returns-clause-more : goal.returns-clause-more
returns-clause-more c = more_definitions c.args.world.now c.push_clique.new.self c.note_members.new.world c.args.defs c.in_ok-first.ensures.ok c.note_members.ensures.same
