use Rattle.std.proofs.Common.{◌≡◌, ◌∙◌, ap, sym, subst, List, ℕ, [], Some}
use Rattle.gl_logic.specs.Names.{number_of}
use Rattle.event_world.specs.Seen.{event_seen}
use Rattle.event_world.specs.EventMeant.{event_meant}
use Rattle.event_world.specs.EventForms.{event_by}
use Rattle.event_world.specs.Suits.{Suits}
use Rattle.event_world.proofs.LaterEvents.{event_later}
use Rattle.event_world.proofs.SuitedEvents.{event_suits, given_has, gives_at}
use Rattle.event_world.proofs.EventTables.{event_is}
use Rattle.event_world.proofs.one_event.event_of.Goals as goal

pub returns-clause-meant : goal.returns-clause-meant
returns-clause-meant c =
    let w = c.args.world.now in
    let form = c.args.form.now in
    gives_at event_seen (event_by c.id_of.new.self w c.args.mode c.args.memoized.now form) (event_meant c.named.new.texts w c.args.mode c.args.memoized.now form) c.named.result
    (sym (event_is c.id_of.new.self w c.args.mode c.args.memoized.now form) ∙ ap (λ (t : List (List ℕ)). event_meant t w c.args.mode c.args.memoized.now form) (sym c.named.ensures.texts)) c.named.ensures.meant

pub returns-clause-later : goal.returns-clause-later
returns-clause-later c = λ names x k.
    let w = c.args.world.now in
    let form = c.args.form.now in
    let now = c.named.new.texts in
    let here : number_of [] now ≡ Some c.in_ok-_unnamed._unnamed.number = subst (λ (t : List (List ℕ)). number_of [] t ≡ Some c.in_ok-_unnamed._unnamed.number) (sym c.named.ensures.texts) c.in_ok-_unnamed.ensures.number in
    gives_at event_seen (event_by c.id_of.new.self w c.args.mode c.args.memoized.now form) (event_meant names w c.args.mode c.args.memoized.now form) c.named.result
    (sym (event_is c.id_of.new.self w c.args.mode c.args.memoized.now form) ∙ (ap (λ (t : List (List ℕ)). event_meant t w c.args.mode c.args.memoized.now form) (sym c.named.ensures.texts) ∙ event_later now names c.in_ok-_unnamed._unnamed.number w c.args.mode c.args.memoized.now form here x k))
    c.named.ensures.meant

pub returns-clause-suits : goal.returns-clause-suits
returns-clause-suits c =
    let w = c.args.world.now in
    let form = c.args.form.now in
    given_has event_seen (event_meant c.id_of.new.self w c.args.mode c.args.memoized.now form) c.named.result (Suits w) (λ e h. event_suits c.id_of.new.self w c.args.mode c.args.memoized.now form e h)
    (gives_at event_seen (event_by c.id_of.new.self w c.args.mode c.args.memoized.now form) (event_meant c.id_of.new.self w c.args.mode c.args.memoized.now form) c.named.result
    (sym (event_is c.id_of.new.self w c.args.mode c.args.memoized.now form)) c.named.ensures.meant)
