use Rattle.std.proofs.Common.{◌≡◌, ◌+◌, sym, ◌∙◌, arith, rules}
use Rattle.sat_core.specs.Decisions.{IsBookOf}
use Rattle.sat_core.proofs.Books.{decided-never, one_charged, one_more, one_taken, refuted}
use Rattle.sat_core.proofs.decide.search_for.Goals as goal

pub returns-then-empty-clause-decided : goal.returns-then-empty-clause-decided
returns-then-empty-clause-decided c =
    let n = c.loop-learned._learned in
    let more = one_more c.args.aig.now.nodes c.args.e c.loop-learned.book c.learns_empty.new.book n c.loop-learned.invariant.book c.in_ok-empty.ensures.learns c.in_ok-empty.ensures.book in
    decided-never c.args.aig.now.nodes c.args.e c.args.left.now c.learns_empty.new.book (n + 1) c.charge.new.left more (one_charged c.args.left.now c.loop-learned.left c.loop-learned.free c.charge.new.left c.charge.new.free c.loop-learned.book c.learns_empty.new.book c.in_ok-empty.ensures.learns c.loop-learned.invariant.book.book c.loop-learned.invariant.budget c.charge.ensures.left c.charge.ensures.free).counted (sym c.in_ok-empty.ensures.empty ∙ c.if-empty.true)

pub returns-then-empty-clause-left : goal.returns-then-empty-clause-left
returns-then-empty-clause-left c = (one_charged c.args.left.now c.loop-learned.left c.loop-learned.free c.charge.new.left c.charge.new.free c.loop-learned.book c.learns_empty.new.book c.in_ok-empty.ensures.learns c.loop-learned.invariant.book.book c.loop-learned.invariant.budget c.charge.ensures.left c.charge.ensures.free).counted

pub returns-then-empty-clause-never : goal.returns-then-empty-clause-never
returns-then-empty-clause-never c _ =
    let n = c.loop-learned._learned in
    let more : IsBookOf c.args.aig.now.nodes c.args.e c.learns_empty.new.book (n + 1) = one_more c.args.aig.now.nodes c.args.e c.loop-learned.book c.learns_empty.new.book n c.loop-learned.invariant.book c.in_ok-empty.ensures.learns c.in_ok-empty.ensures.book in
    refuted c.args.aig.now.nodes c.args.e c.learns_empty.new.book more.extends c.in_ok-empty.ensures.follow (sym c.in_ok-empty.ensures.empty ∙ c.if-empty.true)

pub loop-learned-preserved : goal.loop-learned-preserved
loop-learned-preserved c =
    let n = c.loop-learned._learned in record {
      graph = search rules;
      out = search rules;
      book = one_more c.args.aig.now.nodes c.args.e c.loop-learned.book c.learns_empty.new.book n c.loop-learned.invariant.book c.in_ok-empty.ensures.learns c.in_ok-empty.ensures.book;
      none = sym c.in_ok-empty.ensures.empty ∙ c.if-empty.false;
      budget = one_charged c.args.left.now c.loop-learned.left c.loop-learned.free c.charge.new.left c.charge.new.free c.loop-learned.book c.learns_empty.new.book c.in_ok-empty.ensures.learns c.loop-learned.invariant.book.book c.loop-learned.invariant.budget c.charge.ensures.left c.charge.ensures.free;
      taken = one_taken (c.args.left.now + 1000000) n c.loop-learned.left c.loop-learned.free c.charge.new.left c.charge.new.free c.loop-learned.book c.learns_empty.new.book c.in_ok-empty.ensures.learns c.loop-learned.invariant.taken c.charge.ensures.left c.charge.ensures.free;
    }
