use Rattle.std.proofs.Common.{◌≡◌, ◌∙◌, ap, sym, subst, List, ℕ, [], ◌+◌, map, drop}
use Rattle.std.specs.Prelude.{Ok}
use Rattle.gl_logic.specs.Names.{with_name}
use Rattle.gl_logic.specs.Definition.{Definition}
use Rattle.gl_logic.specs.DefinitionOf.{definition_of}
use Rattle.event_world.specs.CliqueMeant.{owns_of, member_meant, members_meant}
use Rattle.event_world.specs.FormsSeen.{made_seen}
use Rattle.event_world.proofs.MemberLists.{done_then, member_more}
use Rattle.event_world.proofs.clique.define_in.Goals as goal

pub member-requires-clause-name : goal.member-requires-clause-name
member-requires-clause-name c = subst (λ (t : List (List ℕ)). with_name t [] ≡ t) (sym c.loop-form.invariant.texts) c.requires.name

pub member-requires-clause-narrow : goal.member-requires-clause-narrow
member-requires-clause-narrow c = c.loop-form.invariant.every

pub loop-form-preserved : goal.loop-form-preserved
loop-form-preserved c =
    let names = c.args.texts.now in
    let world = c.args.world.now in
    let ms = c.args.members.now in
    let own = owns_of (map made_seen ms) in
    let i = c.loop-form.form-index in
    let m = c.form-item.result in
    let d = definition_of c.in_ok-def.def in
    let given : member_meant names world own (made_seen m) ≡ Ok d =
    (λ j. member_meant (sym c.loop-form.invariant.texts j) world (sym c.loop-form.invariant.own j) (made_seen m)) ∙ c.in_ok-def.ensures.meant in
    record {
      texts = c.in_ok-def.ensures.texts ∙ c.loop-form.invariant.texts;
      own = c.in_ok-def.ensures.own ∙ c.loop-form.invariant.own;
      every = c.in_ok-def.ensures.every;
      so_far = ap (λ (l : List Definition). done_then l (members_meant names world own (map made_seen (drop (i + 1) ms)))) c.in_ok-push.ensures.ok
          ∙ (sym (member_more names world own c.loop-form.all ms i m c.loop-form-test.true c.form-item.is d given) ∙ c.loop-form.invariant.so_far);
    }
