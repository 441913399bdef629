use Rattle.std.proofs.Common.{◌≡◌, ◌≤◌, ◌<◌, ◌*◌, ℤ, pos, take, subst, rules, arith, get_or, FitsSigned, w32, to_z-of_z}
use Rattle.std.specs.Int.RustNames.{unsigned_abs}
use Rattle.std.proofs.lemmas.List.{take_all}
use Rattle.cnf_rup.specs.Marked.{AreWithin, IsWithin}
use Rattle.lrat_tool.proofs.Rooms.{all_push, wider}
use Rattle.lrat_tool.proofs.checking.room_of_clause.Goals as goal

pub loop-literal-preserved : goal.loop-literal-preserved
loop-literal-preserved c =
    let clause = c.args.clause.now in
    let i = c.loop-literal.literal-index in
    let literal : ℤ = get_or clause i (pos 0) in
    let fits : FitsSigned w32 literal = search rules in
    let size : c.unsigned_abs.result ≡ unsigned_abs literal = simp to_z-of_z at c.unsigned_abs.ensures.value in
    let most = c.loop-literal.invariant.most in
    let new = c.max-room.result in
    let grows : c.loop-literal.room ≤ new = omega (arith, c.max-room.ensures) in
    let enough : 2 * unsigned_abs literal < new = omega (arith, c.max-room.ensures, size) in
    record {
      least = omega (arith, grows, c.loop-literal.invariant.least);
      within = all_push (IsWithin new) clause i (pos 0) c.loop-literal-test.true (wider c.loop-literal.room new (take i clause) grows c.loop-literal.invariant.within) enough;
      most = omega (arith, c.max-room.ensures, c.unsigned_abs.ensures.bound, most);
    }

pub returns-clause-within : goal.returns-clause-within
returns-clause-within c = subst (AreWithin c.loop-literal.room) (take_all c.loop-literal.literal-index c.args.clause.now (omega (arith, c.loop-literal-test.false))) c.loop-literal.invariant.within
