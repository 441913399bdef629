use Rattle.std.proofs.Common.{◌≡◌, ◌+◌, ◌∙◌, ap, refl, false, replicate, arith, rules, length, get_or}
use Rattle.std.proofs.lemmas.List.{get_or_read_under}
use Rattle.cnf_rup.specs.Searches.{cone_with}
use Rattle.cnf_rup.proofs.Counts.{cone-count}
use Rattle.cnf_rup.proofs.Searches.{search-begin, search-next, search-cone, here-within}
use Rattle.cnf_rup.proofs.cone.cone_of.Goals as goal

pub loop-place-init : goal.loop-place-init
loop-place-init c =
    let first : c.in_ok-seen.seen.items ≡ replicate (c.args.root + 1) false = search rules in
    search-begin c.args.aig.now.nodes c.args.root c.in_ok-seen.seen.items c.visit.new.seen.items c.visit.new.cone.items first c.in_ok-visit.ensures.seen
    (c.in_ok-visit.ensures.cone ∙ ap (cone_with c.args.root c.in_ok-seen.seen.items) c.new-cone.ensures.items)

pub visit_below-requires : goal.visit_below-requires
visit_below-requires c =
    let at : c.index.result.now ≡ get_or c.loop-place.cone.items c.loop-place.place 0 = get_or_read_under c.loop-place.cone.items c.loop-place.place (length c.loop-place.cone.items) c.index.result.now 0 c.index.ensures (omega arith) refl in
    let here = here-within c.args.aig.now.nodes c.args.root c.loop-place.seen.items c.loop-place.cone.items c.loop-place.place c.loop-place.invariant (omega arith) in
    record { live = omega (arith, at, here, c.requires.live); small = omega (arith, at, here, c.requires.small); within = omega (arith, at, here, c.loop-place.invariant.found.one_each) }

pub loop-place-preserved : goal.loop-place-preserved
loop-place-preserved c = search-next c.args.aig.now.nodes c.args.aig.now.width c.requires.ordered c.args.root c.requires.live c.loop-place.seen.items c.loop-place.cone.items c.loop-place.place c.loop-place.invariant (omega arith) c.index.result.now c.visit_below.new.seen.items c.visit_below.new.cone.items
    (get_or_read_under c.loop-place.cone.items c.loop-place.place (length c.loop-place.cone.items) c.index.result.now 0 c.index.ensures (omega arith) refl) c.in_ok-visit_below.ensures.seen c.in_ok-visit_below.ensures.cone

pub returns-clause-cone : goal.returns-clause-cone
returns-clause-cone c = search-cone c.args.aig.now.nodes c.args.root c.loop-place.seen.items c.loop-place.cone.items c.loop-place.place c.loop-place.invariant (omega arith)

pub returns-clause-count : goal.returns-clause-count
returns-clause-count c = cone-count c.args.aig.now.nodes c.args.aig.now.width c.requires.ordered c.args.root c.requires.live c.loop-place.seen.items c.loop-place.cone.items c.loop-place.invariant.found
