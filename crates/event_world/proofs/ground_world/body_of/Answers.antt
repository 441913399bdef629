use Rattle.std.proofs.Common.{rules, ◌≡◌, ◌∙◌, sym, ◌≤◌, [], ◌∷◌, ◌++◌, length}
use Rattle.event_world.proofs.PreludeTables.{extends_gains}
use Rattle.event_world.proofs.PreludeWorlds.{few_formals, next_means}
use Rattle.event_world.proofs.ground_world.body_of.Goals as goal

pub overflow_cast-len : goal.overflow_cast-len
overflow_cast-len c =
    let h : length c.args.formals ≤ 3 = few_formals c.args.texts.now (length c.args.world.now.definitions) c.args.name.number c.args.formals c.args.form.now c.requires.next in
    let e : c.len.result ≡ length c.args.formals = c.len.ensures in
    search rules

pub unreachable-requires : goal.unreachable-requires
unreachable-requires c =
    let own = c.in_ok-push.ensures.ok ∙ (λ i. c.new-own.ensures i ++ (c.args.name.number, c.len.ensures i) ∷ []) in
    let e = next_means c.args.texts.now (length c.args.world.now.definitions) c.args.name.number c.args.formals c.args.form.now c.requires.next c.term-meant.new.texts c.is_table.ensures (extends_gains _ _ c.in-Err.ensures.gains) c.args.world.now c.requires.so_far c.push.new.self own in
    let q = c.in-Err.ensures.meant c.in_default.not-Memory in
    let z = sym e ∙ q in
    cc

pub returns-clause-body : goal.returns-clause-body
returns-clause-body c =
    let own = c.in_ok-push.ensures.ok ∙ (λ i. c.new-own.ensures i ++ (c.args.name.number, c.len.ensures i) ∷ []) in
    let e = next_means c.args.texts.now (length c.args.world.now.definitions) c.args.name.number c.args.formals c.args.form.now c.requires.next c.term-meant.new.texts c.is_table.ensures (extends_gains _ _ c.in-Ok.ensures.gains) c.args.world.now c.requires.so_far c.push.new.self own in
    let z = sym c.in-Ok.ensures.meant ∙ e in
    cc
