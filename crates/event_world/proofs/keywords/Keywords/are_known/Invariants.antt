use Rattle.std.proofs.Common.{◌≡◌, ℕ, map, drop}
use Rattle.std.specs.List.{list_all}
use Rattle.gl_logic.specs.Object.{Object}
use Rattle.gl_logic.specs.Wording.{text_of}
use Rattle.event_world.specs.Keywords.{is_one_of}
use Rattle.event_world.specs.KeywordTexts.{texts_of}
use Rattle.event_world.proofs.keywords.Keywords.are_known.Given as goal

abbrev pub invariant-loop-item : goal.invariant-loop-item
invariant-loop-item l =
    list_all (λ (p : ℕ × Object). is_one_of (texts_of l.table) (text_of l.texts p.0)) (map (λ p. (p.0.number, p.1.now)) (drop l.item-index l.item-items))
    ≡ list_all (λ (p : ℕ × Object). is_one_of (texts_of l.table) (text_of l.texts p.0)) l.self
