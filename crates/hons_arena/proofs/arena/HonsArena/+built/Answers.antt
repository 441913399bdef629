use Rattle.std.proofs.Common.{rules, arith, ◌≡◌, ◌+◌, ◌-◌, ◌++◌, ◌∷◌, [], ◌∙◌, sym, ap, length, map}
use Rattle.std.proofs.lemmas.List.{length_push}
use Rattle.std.proofs.lemmas.List.Elements.{All-pop}
use Rattle.gl_logic.specs.Lists.{size_of}
use Rattle.gl_logic.specs.Object.{Cons}
use Rattle.gl_logic.specs.Parts.{car_steps}
use Rattle.hons_arena.specs.Ids.{object_at, IsLive}
use Rattle.hons_arena.specs.Spine.{onto, ExceedsRoom}
use Rattle.hons_arena.proofs.Spines.{exceeds, built_more}
use Rattle.hons_arena.proofs.arena.HonsArena.+built.Goals as goal

pub built_onto-returns-in_err-first-clause-large : goal.built_onto-returns-in_err-first-clause-large
built_onto-returns-in_err-first-clause-large t c e =
    let objects = c.args.self.now.objects in
    let l = c.loop-car in
    let items : l.cars.items ≡ c.pop.new.self.items ++ c.in-Some.car ∷ [] = search rules in
    let inner : ExceedsRoom (object_at objects c.in-Some.car) l.room (c.args.steps - 1) = search rules in
    exceeds objects c.pop.new.self.items c.in-Some.car l.tree (onto (map (object_at objects) c.args.cars.items) c.args.tail) l.room (c.args.room.now + length c.args.cars.items) c.args.steps
    (ap (λ xs. onto (map (object_at objects) xs) l.tree) (sym items) ∙ l.invariant.whole) (ap (λ xs. size_of l.tree + l.room + length xs) (sym items) ∙ l.invariant.size) (c.args.steps - 1) (omega arith) inner

pub built_onto-loop-car-preserved : goal.built_onto-loop-car-preserved
built_onto-loop-car-preserved t c =
    let objects = c.args.self.now.objects in
    let l = c.loop-car in
    let items : l.cars.items ≡ c.pop.new.self.items ++ c.in-Some.car ∷ [] = search rules in
    let f = c.in_ok-first.ensures.ok in
    let pair : c.in_ok-tree.tree ≡ Cons c.in_ok-first.first l.tree = search rules in record {
      live = (All-pop (IsLive objects) l.cars.items c.pop.new.self.items c.pop.result c.pop.ensures.items l.invariant.live).0;
      whole = built_more objects c.pop.new.self.items c.in-Some.car l.tree (onto (map (object_at objects) c.args.cars.items) c.args.tail) l.room (c.args.room.now + length c.args.cars.items) c.args.steps
          (ap (λ xs. onto (map (object_at objects) xs) l.tree) (sym items) ∙ l.invariant.whole) (ap (λ xs. size_of l.tree + l.room + length xs) (sym items) ∙ l.invariant.size) c.in_ok-first.first c.in_ok-tree.tree l.room f.0 pair;
      size = omega (arith, l.invariant.size, ap length items, length_push c.pop.new.self.items c.in-Some.car, ap size_of pair, f.1);
      steps = omega (arith, l.invariant.steps, ap car_steps pair, f.2);
    }
