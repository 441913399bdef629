use Rattle.std.proofs.Common.{◌≡◌, ◌∙◌, sym, ap, arith, ◌+◌, suc, take, eqb, ◌||◌}
use Rattle.std.specs.List.{list_any}
use Rattle.gl_logic.proofs.NameSets.{bound_more, bound_same, bound_length}
use Rattle.gl_logic.proofs.name_set.NameSet.insert_all.Goals as goal

pub loop-i-preserved : goal.loop-i-preserved
loop-i-preserved c =
    let b = c.in_ok-insert.field-0 in
    let v = c.at.result.now.number in
    let init = c.args.self.now in
    let old = c.loop-i.self in
    let names = c.args.names.now in
    let k : c.loop-i.i + 1 ≡ suc c.loop-i.i = omega arith in
    record {
      more = bound_length init old c.insert.new.self v b c.in_ok-insert.ensures.ok c.loop-i.invariant.more;
      same = bound_same init old c.insert.new.self v b c.in_ok-insert.ensures.ok c.loop-i.invariant.more c.loop-i.invariant.same;
      has = λ u. bound_more names init old c.insert.new.self c.loop-i.i v b c.at.ensures c.in_ok-insert.ensures.new c.in_ok-insert.ensures.ok c.loop-i.invariant.has u
          ∙ ap (λ n. list_any (eqb u) (take n names) || list_any (eqb u) init) (sym k);
    }
