use Rattle.std.proofs.Common.{rules, arith, sym, ◌≡◌, ◌++◌, ◌∷◌, [], ◌∙◌, ap, subst, length, List, All}
use Rattle.std.proofs.lemmas.List.{length_push}
use Rattle.std.proofs.lemmas.List.Elements.{All-push}
use Rattle.hons_arena.specs.declared.id.Id.{Id}
use Rattle.hons_arena.specs.Ids.{object_at, ArePartsOf, IsLive}
use Rattle.hons_arena.specs.Spine.{onto}
use Rattle.hons_arena.proofs.Spines.{spine_more, spine_large}
use Rattle.hons_arena.proofs.arena.HonsArena.spine.Goals as goal

pub returns-then-room-eq0-clause-large : goal.returns-then-room-eq0-clause-large
returns-then-room-eq0-clause-large c e =
    let objects = c.args.self.now.objects in
    let l = c.loop-first in
    let parts : ArePartsOf objects (object_at objects l.tail) c.in-Some.first c.in-Some.rest = search rules in
    spine_large objects l.cars.items l.tail c.in-Some.first c.in-Some.rest (object_at objects c.args.id) c.args.room.now parts l.invariant.whole (search rules)

pub loop-first-preserved : goal.loop-first-preserved
loop-first-preserved c =
    let objects = c.args.self.now.objects in
    let l = c.loop-first in
    let parts : ArePartsOf objects (object_at objects l.tail) c.in-Some.first c.in-Some.rest = search rules in
    let items : c.push.new.self.items ≡ l.cars.items ++ c.in-Some.first ∷ [] = search rules in record {
      live = parts.rest.0;
      cars = subst (λ (xs : List Id). All (IsLive objects) xs) (sym items) (All-push (IsLive objects) l.cars.items c.in-Some.first l.invariant.cars parts.first.0);
      whole = ap (λ xs. onto (Rattle.std.proofs.Common.map (object_at objects) xs) (object_at objects c.in-Some.rest)) items ∙ spine_more objects l.cars.items l.tail c.in-Some.first c.in-Some.rest (object_at objects c.args.id) parts l.invariant.whole;
      room = omega (arith, ap length items, length_push l.cars.items c.in-Some.first);
    }
