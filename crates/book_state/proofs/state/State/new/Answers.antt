use Rattle.std.proofs.Common.{◌∙◌, ap, sym, refl, ℕ, List, []}
use Rattle.gl_logic.specs.Names.{with_name}
use Rattle.event_world.proofs.OpeningTables.{has_empty}
use Rattle.book_state.proofs.state.State.new.Goals as goal

pub returns-clause-first : goal.returns-clause-first
returns-clause-first c = record { world = c.in_ok-world.ensures.world; mode = refl; memoized = c.new.ensures }

pub returns-clause-empty : goal.returns-clause-empty
returns-clause-empty c =
    let e = c.in_ok-world.ensures.names in
    ap (λ (ns : List (List ℕ)). with_name ns []) e ∙ (has_empty c.args.texts.now ∙ sym e)
