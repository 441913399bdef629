use Rattle.std.proofs.Common.{◌≡◌, ◌≢◌, ◌<◌, ◌+◌, ◌-◌, ℕ, List, get_or, ap, sym, ◌∙◌, length, arith, rules}
use Rattle.std.proofs.lemmas.List.{get_or_read, length-map}
use Rattle.node_table.specs.Hashes.{bucket_of}
use Rattle.node_table.specs.Chains.{Noted}
use Rattle.node_table.proofs.Linked.{passed-first, passed-next}
use Rattle.node_table.proofs.table.NodeTable.find.Goals as goal

pub loop-at-init : goal.loop-at-init
loop-at-init g c =
    let i = c.self.inside in
    let hash = g.N.Interned.hash_of in
    let many : c.len.result ≡ length i.heads.items = omega arith in
    let place : c.spread.result ≡ bucket_of (length i.heads.items) (hash c.args.node) = c.spread.ensures.place ∙ (λ j. bucket_of (many j) (c.hash.ensures j)) in
    passed-first hash (length i.heads.items) i.nodes.items i.next.items i.heads.items c.args.node c.self.invariant.chained _
    (get_or_read i.heads.items c.spread.result _ (omega (arith, c.spread.ensures.within, c.len.ensures)) c.index-at.ensures 0 ∙ ap (λ b. get_or i.heads.items b 0) place)

pub loop-at-preserved : goal.loop-at-preserved
loop-at-preserved g c =
    let i = c.self.inside in
    let hash = g.N.Interned.hash_of in
    let at = c.loop-at.at in
    let here : (at - 1) + 1 ≡ at = omega arith in
    let inside : at - 1 < length i.nodes.items = omega (arith, c.loop-at.invariant.within) in
    let linked : at - 1 < length i.next.items = omega (arith, inside, c.self.invariant.chained.one_each, length-map i.nodes.items hash) in
    let other : c.index.result.now ≢ c.args.node = search rules in
    passed-next hash (length i.heads.items) i.nodes.items i.next.items i.heads.items c.args.node c.self.invariant.chained at (at - 1) _ c.loop-at.invariant here
    (λ d same. other (get_or_read i.nodes.items (at - 1) c.index.result.now inside c.index.ensures d ∙ same))
    (get_or_read i.next.items (at - 1) _ linked c.index-at-in-loop-at.ensures 0)

pub loop-at-smaller : goal.loop-at-smaller
loop-at-smaller g c =
    let i = c.self.inside in
    let at = c.loop-at.at in
    let many = length-map i.nodes.items g.N.Interned.hash_of in
    let inside : at - 1 < length i.nodes.items = omega (arith, c.loop-at.invariant.within) in
    let linked : at - 1 < length i.next.items = omega (arith, inside, c.self.invariant.chained.one_each, many) in
    omega (arith, get_or_read i.next.items (at - 1) _ linked c.index-at-in-loop-at.ensures 0, c.self.invariant.chained.next_in (at - 1) (omega (arith, inside, many)))

pub returns-clause-absent : goal.returns-clause-absent
returns-clause-absent g c i d within same =
    let nodes = ap (λ (s : Noted g.row.N.Denot). s.nodes) c.self.view_is in
    omega (arith, c.loop-at.invariant.passed i d (omega (arith, within, ap length nodes)) (ap (λ (ns : List g.row.N.Denot). get_or ns i d) nodes ∙ same), c.loop-at-test.false)
