use Rattle.std.proofs.Common.{◌∙◌, ap, sym, ℕ, List}
use Rattle.gl_logic.specs.Object.{Object}
use Rattle.event_world.specs.Keywords.{pairs_of}
use Rattle.event_world.proofs.Cursors.{behind, pair_more}
use Rattle.event_world.proofs.keywords.pairs_of.Goals as goal

pub loop-key-preserved : goal.loop-key-preserved
loop-key-preserved c =
    let names = c.args.texts.now in
    ap (λ (l : List (ℕ × Object)). behind l (pairs_of names c.in-Some-first.rest)) c.in_ok-push.ensures
    ∙ (sym (pair_more names c.loop-key.all c.loop-key.left c.in-Some.behind c.in-Some-first.rest c.in-Some.key.now c.in-Some-first.value.now c.in-Some.ensures c.in-Some-first.ensures c.in-Some-keyword_of.name.number (sym c.in-Some-keyword_of.ensures))
    ∙ c.loop-key.invariant)
