use Rattle.std.proofs.Common.{◌≡◌, ◌∙◌, ap}
use Rattle.fast_alists.proofs.Agreeing.{tables_stay}
use Rattle.gl_logic.specs.TermOf.{term_of}
use Rattle.gl_logic.proofs.TermForms.{var_term, const_term}
use Rattle.lisp_eval.specs.Bindings.{id_in}
use Rattle.lisp_eval.proofs.Turning.{var_visited, const_visited, const_lacks}
use Rattle.lisp_eval.proofs.turn.visit_term.Goals as goal

pub returns-in-Var-clause-tells : goal.returns-in-Var-clause-tells
returns-in-Var-clause-tells c =
    let v = c.in-Var.name.number in
    let is_id : c.look.result ≡ id_in c.args.env.value.items v = c.look.ensures ∙ ap (λ bs. id_in bs v) (c.as_slice.ensures.value ∙ ap (λ z. z.items) c.as_ref.ensures) in
    var_visited c.args.setting.now.world.now.definitions c.args.setting.now.functions.now c.args.env.value.items (term_of c.args.term.now) c.args.left.now c.args.arena.now c.args.frames.now.items v c.look.result
    (ap term_of c.in-Var.is ∙ var_term c.in-Var.name) is_id c.requires.whole c.requires.env c.requires.left

pub returns-in-Ok-clause-tells : goal.returns-in-Ok-clause-tells
returns-in-Ok-clause-tells c =
    let x = c.in-Const.tree in
    const_visited c.args.setting.now.world.now.definitions c.args.setting.now.functions.now c.args.env.value.items (term_of c.args.term.now) c.args.left.now c.args.arena.now c.args.frames.now.items x
    (ap term_of c.in-Const.is ∙ const_term x) c.place.new.self c.place.ensures.whole c.in-Ok.id c.in-Ok.ensures.places c.requires.left

pub returns-in-Ok-clause-agree : goal.returns-in-Ok-clause-agree
returns-in-Ok-clause-agree c = tables_stay c.in-Const.tree c.args.arena.now.objects c.place.new.self.objects c.place.ensures.places.objects c.args.alists.now c.requires.agree

pub returns-in-Const-clause-tells : goal.returns-in-Const-clause-tells
returns-in-Const-clause-tells c =
    let x = c.in-Const.tree in
    const_lacks c.args.setting.now.world.now.definitions c.args.setting.now.functions.now c.args.env.value.items (term_of c.args.term.now) c.args.left.now c.args.arena.now c.args.frames.now.items x
    (ap term_of c.in-Const.is ∙ const_term x) c.place.new.self c.place.ensures.whole c.args.left.now c.in-Err.field-0 c.in-Err.ensures.places

pub returns-in-Const-clause-agree : goal.returns-in-Const-clause-agree
returns-in-Const-clause-agree c = tables_stay c.in-Const.tree c.args.arena.now.objects c.place.new.self.objects c.place.ensures.places.objects c.args.alists.now c.requires.agree
