use Rattle.std.proofs.Common.{rules, ◌≡◌, ◌≢◌, sym, subst}
use Rattle.hons_arena.specs.Ids.{IsLive as IsIdLive, kind_of as object_kind, object_at}
use Rattle.hons_arena.specs.declared.id.Id.{Id}
use Rattle.hons_arena.specs.declared.id.Kind.TheVariants as kind
use Rattle.sym_objects.specs.Constants.{AreConsParts, IsConstantOf, id_of, size_at}
use Rattle.sym_objects.proofs.FromArena.{cons_parts, constant_kept, constant_made, first_smaller, second_smaller}
use Rattle.sym_objects.proofs.Memoed.{right_kept}
use Rattle.sym_objects.proofs.Walking.{turn_give, turn_two}
use Rattle.sym_objects.proofs.constants.visit.Goals as goal

pub returns-in-Some-clause-turn : goal.returns-in-Some-clause-turn
returns-in-Some-clause-turn g c =
    let objects = c.args.arena.now.objects in
    let s = c.args.objs.now in
    turn_give (IsConstantOf g.B.Meaning s objects) (IsConstantOf g.B.Meaning s objects) (AreConsParts objects) (AreConsParts objects) (IsIdLive objects) (size_at objects) (λ k v r. r) (λ a b k m. m) c.args.frames.now c.args.id c.in-Some.known
    (subst (λ (x : Id). IsConstantOf g.B.Meaning s objects x c.in-Some.known) c.key_of.ensures (c.requires.memo c.key_of.result c.in-Some.known c.in-Some.ensures))

pub returns-in_ok-push-in-Cons-clause-turn : goal.returns-in_ok-push-in-Cons-clause-turn
returns-in_ok-push-in-Cons-clause-turn g c =
    let objects = c.args.arena.now.objects in
    let s = c.args.objs.now in
    let a = c.car-first.result in
    let b = c.cdr.result in
    let p : AreConsParts objects a b c.args.id = cons_parts objects a b c.args.id c.requires.live (sym c.in-Cons.ensures) c.car-first.ensures c.cdr.ensures in
    turn_two (IsConstantOf g.B.Meaning s objects) (IsConstantOf g.B.Meaning s objects) (AreConsParts objects) (AreConsParts objects) (IsIdLive objects) (size_at objects) (λ k v r. r) (λ x y k m. m) c.args.frames.now c.push.new.self c.args.id a b
    c.in_ok-push-in-Cons.ensures.ok p p.first (first_smaller objects a b c.args.id p) (second_smaller objects a b c.args.id p)

pub returns-in_ok-constant_atom-in_default-clause-turn : goal.returns-in_ok-constant_atom-in_default-clause-turn
returns-in_ok-constant_atom-in_default-clause-turn g c =
    let objects = c.args.arena.now.objects in
    let s = c.args.objs.now in
    let new = c.constant_atom.new.objs in
    let atom = c.kind.result in
    let is : object_kind (object_at objects c.args.id) ≡ atom = search rules in
    let other : atom ≢ kind.Cons = search rules in
    turn_give (IsConstantOf g.B.Meaning s objects) (IsConstantOf g.B.Meaning new objects) (AreConsParts objects) (AreConsParts objects) (IsIdLive objects) (size_at objects) (constant_kept g.B.Meaning objects s new c.constant_atom.ensures.makes.keeps) (λ a b k m. m) c.args.frames.now c.args.id c.in_ok-constant_atom-in_default.field-0
    (constant_made g.B.Meaning objects s new c.args.id atom c.in_ok-constant_atom-in_default.field-0 c.requires.live is other c.in_ok-constant_atom-in_default.ensures.makes c.in_ok-constant_atom-in_default.ensures.constant)

pub returns-in_ok-constant_atom-in_default-clause-memo : goal.returns-in_ok-constant_atom-in_default-clause-memo
returns-in_ok-constant_atom-in_default-clause-memo g c =
    let objects = c.args.arena.now.objects in
    right_kept id_of (IsConstantOf g.B.Meaning c.args.objs.now objects) (IsConstantOf g.B.Meaning c.constant_atom.new.objs objects) (constant_kept g.B.Meaning objects c.args.objs.now c.constant_atom.new.objs c.constant_atom.ensures.makes.keeps) c.args.memo.now c.requires.memo
