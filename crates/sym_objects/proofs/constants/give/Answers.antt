use Rattle.std.proofs.Common.{sym, subst, Ok}
use Rattle.bfr_store.specs.declared.edge.Full.{Full}
use Rattle.gl_logic.specs.Object.{Cons}
use Rattle.hons_arena.specs.Ids.{IsLive as IsIdLive}
use Rattle.hons_arena.specs.declared.id.Id.{Id}
use Rattle.sym_objects.specs.Constants.{AreConsParts, IsConstantOf, id_of, size_at}
use Rattle.sym_objects.specs.Makes.{Makes}
use Rattle.sym_objects.specs.Seen.{stands_for}
use Rattle.sym_objects.proofs.FromArena.{constant_kept, constant_next}
use Rattle.sym_objects.proofs.Memoed.{right_kept, right_put}
use Rattle.sym_objects.proofs.Walking.{turn_last}
use Rattle.sym_objects.proofs.constants.give.Goals as goal

pub returns-in_ok-keep-in-Some-clause-turn : goal.returns-in_ok-keep-in-Some-clause-turn
returns-in_ok-keep-in-Some-clause-turn g c =
    let objects = c.args.arena.now.objects in
    let old = c.args.objs.now in
    let new = c.pair.new.self in
    let f = c.args.frame in
    let made : Makes {E = Full} g.B.Meaning old new (Ok c.in_ok-made-in-Some.made) (λ v. Cons (stands_for g.B.Meaning old c.in-Some.first v) (stands_for g.B.Meaning old c.args.value v)) = c.in_ok-made-in-Some.ensures.makes in
    turn_last (IsConstantOf g.B.Meaning old objects) (IsConstantOf g.B.Meaning new objects) (AreConsParts objects) (AreConsParts objects) (IsIdLive objects) (size_at objects)
    (constant_kept g.B.Meaning objects old new made.keeps) (λ a b k m. m)
    c.args.frames.now f.whole f.first f.second c.args.id f.found c.in-Some.first c.args.value c.in_ok-made-in-Some.made c.in-Some.is
    (constant_next g.B.Meaning objects old new f.first f.second f.whole c.args.id f.found c.in-Some.first c.args.value c.in_ok-made-in-Some.made c.requires.parts c.requires.next c.in-Some.is c.requires.value made c.in_ok-made-in-Some.ensures.constant)

pub returns-in_ok-keep-in-Some-clause-memo : goal.returns-in_ok-keep-in-Some-clause-memo
returns-in_ok-keep-in-Some-clause-memo g c =
    let objects = c.args.arena.now.objects in
    let old = c.args.objs.now in
    let new = c.pair.new.self in
    let f = c.args.frame in
    let made : Makes {E = Full} g.B.Meaning old new (Ok c.in_ok-made-in-Some.made) (λ v. Cons (stands_for g.B.Meaning old c.in-Some.first v) (stands_for g.B.Meaning old c.args.value v)) = c.in_ok-made-in-Some.ensures.makes in
    right_put id_of (IsConstantOf g.B.Meaning new objects) c.args.memo.now c.keep.new.self c.key_of.result c.in_ok-made-in-Some.made c.in_ok-keep-in-Some.ensures
    (right_kept id_of (IsConstantOf g.B.Meaning old objects) (IsConstantOf g.B.Meaning new objects) (constant_kept g.B.Meaning objects old new made.keeps) c.args.memo.now c.requires.memo)
    (subst (λ (x : Id). IsConstantOf g.B.Meaning new objects x c.in_ok-made-in-Some.made) (sym c.key_of.ensures)
    (constant_next g.B.Meaning objects old new f.first f.second f.whole c.args.id f.found c.in-Some.first c.args.value c.in_ok-made-in-Some.made c.requires.parts c.requires.next c.in-Some.is c.requires.value made c.in_ok-made-in-Some.ensures.constant))
