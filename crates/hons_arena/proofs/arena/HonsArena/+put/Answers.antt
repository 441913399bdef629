use Rattle.std.proofs.Common.{rules, arith, ◌+◌, ◌∙◌, sym, ap, subst, refl, IsErr}
use Rattle.gl_logic.specs.Lists.{size_of, IsAtom}
use Rattle.gl_logic.proofs.Parts.{most_elements, tail_is_atom}
use Rattle.hons_arena.specs.Ids.{object_at}
use Rattle.hons_arena.proofs.Placing.{adds_weaker, lacks_weaker}
use denote.Param.Weighed.{most}
use Rattle.hons_arena.proofs.Elements.{first_adds, first_lacks, rest_is, rest_adds_none, rest_lacks, rest_adds, next_id}
use Rattle.hons_arena.proofs.Trees.{places_err, part_tail, put_list}
use Rattle.hons_arena.proofs.arena.HonsArena.+put.Goals as goal

pub put-put_atom-requires : goal.put-put_atom-requires
put-put_atom-requires t c = subst IsAtom (sym c.tail.ensures) (tail_is_atom c.args.tree.now)

pub put-put_all-requires : goal.put-put_all-requires
put-put_all-requires t c = (omega (arith, c.decreases, most_elements c.args.tree.now, ap (λ es. most (λ y. size_of y + 1) es) c.elements.ensures), c.in_ok-tail.ensures.id.0)

pub put-returns-in_err-tail : goal.put-returns-in_err-tail
put-returns-in_err-tail t c =
    let err : IsErr c.from_residual.result = search rules in
    let p = c.in_err-tail.ensures in
    places_err c.args.tree.now c.args.self.now c.put_atom.new.self c.from_residual.result err
    (adds_weaker c.tail.result.now c.args.tree.now c.args.self.now.objects c.put_atom.new.self.objects (λ y. part_tail c.args.tree.now c.tail.result.now y c.tail.ensures) p.objects) p.limit
    (lacks_weaker c.put_atom.new.self c.tail.result.now c.args.tree.now (λ y. part_tail c.args.tree.now c.tail.result.now y c.tail.ensures) p.lacks)

pub put-returns : goal.put-returns
put-returns t c =
    put_list c.args.tree.now c.elements.result.now c.tail.result.now c.args.self.now c.put_atom.new.self c.put_all.new.self c.put_all.result c.in_ok-tail.tail c.elements.ensures c.tail.ensures c.in_ok-tail.ensures c.put_all.ensures

pub put_all-returns-in_err-first : goal.put_all-returns-in_err-first
put_all-returns-in_err-first t c =
    let l = c.loop-element in
    let err : IsErr c.from_residual.result = search rules in
    places_err _ c.args.self.now c.put.new.self c.from_residual.result err
    (first_adds c.args.elements.now l.element-index c.element-item.result (object_at c.args.self.now.objects c.args.tail) c.loop-element-test.true c.element-item.is c.args.self.now l.self c.put.new.self l.invariant.adds c.put.ensures.objects) (c.put.ensures.limit ∙ l.invariant.limit)
    (first_lacks c.args.elements.now l.element-index c.element-item.result (object_at c.args.self.now.objects c.args.tail) c.loop-element-test.true c.element-item.is c.put.new.self c.in_err-first.ensures.lacks)

pub put_all-cons-requires : goal.put_all-cons-requires
put_all-cons-requires t c =
    let l = c.loop-element in record {
      first = c.in_ok-first.ensures.id.0;
      rest = (rest_is c.args.elements.now l.element-index c.element-item.result (object_at c.args.self.now.objects c.args.tail) c.loop-element-test.true c.element-item.is c.args.self.now l.self c.put.new.self c.in_ok-first.first l.rest l.invariant.adds c.put.ensures.objects l.invariant.id c.in_ok-first.ensures.id).0;
    }

pub put_all-returns-in_err-rest : goal.put_all-returns-in_err-rest
put_all-returns-in_err-rest t c =
    let l = c.loop-element in
    let err : IsErr c.from_residual-in_err-rest.result = search rules in
    places_err _ c.args.self.now c.cons.new.self c.from_residual-in_err-rest.result err
    (rest_adds_none c.args.elements.now l.element-index c.element-item.result (object_at c.args.self.now.objects c.args.tail) c.loop-element-test.true c.element-item.is c.args.self.now l.self c.put.new.self c.in_ok-first.first l.rest l.invariant.adds c.put.ensures.objects l.invariant.id c.in_ok-first.ensures.id c.cons.new.self c.in_err-rest.ensures.interns.unchanged)
    (c.cons.ensures.interns.limit ∙ (c.put.ensures.limit ∙ l.invariant.limit))
    (rest_lacks c.args.elements.now l.element-index c.element-item.result (object_at c.args.self.now.objects c.args.tail) c.loop-element-test.true c.element-item.is c.args.self.now l.self c.put.new.self c.in_ok-first.first l.rest l.invariant.adds c.put.ensures.objects l.invariant.id c.in_ok-first.ensures.id c.cons.new.self c.in_err-rest.ensures.interns.unchanged (c.in_err-rest.ensures.interns.full.0 refl))

pub put_all-loop-element-preserved : goal.put_all-loop-element-preserved
put_all-loop-element-preserved t c =
    let l = c.loop-element in record {
      id = next_id c.args.elements.now l.element-index c.element-item.result (object_at c.args.self.now.objects c.args.tail) c.loop-element-test.true c.element-item.is c.args.self.now l.self c.put.new.self c.in_ok-first.first l.rest l.invariant.adds c.put.ensures.objects l.invariant.id c.in_ok-first.ensures.id c.cons.new.self c.in_ok-rest.rest c.in_ok-rest.ensures.interns.id;
      adds = rest_adds c.args.elements.now l.element-index c.element-item.result (object_at c.args.self.now.objects c.args.tail) c.loop-element-test.true c.element-item.is c.args.self.now l.self c.put.new.self c.in_ok-first.first l.rest l.invariant.adds c.put.ensures.objects l.invariant.id c.in_ok-first.ensures.id c.cons.new.self c.in_ok-rest.ensures.interns.objects;
      limit = c.cons.ensures.interns.limit ∙ (c.put.ensures.limit ∙ l.invariant.limit);
    }
