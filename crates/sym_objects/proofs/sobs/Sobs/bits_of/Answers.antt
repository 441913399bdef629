use Rattle.std.proofs.Common.{◌≤◌, ◌++◌, ◌∙◌, ◌<◌, ap, sym, subst, arith, length, Option, IfSome}
use Rattle.sym_objects.specs.declared.sob.Sob.{Sob}
use Rattle.sym_objects.specs.Integers.{bits_behind}
use Rattle.sym_objects.specs.Seen.{bits_in}
use Rattle.sym_objects.proofs.BitsOf.{rest_falls, rest_live, rest_next}
use Rattle.sym_objects.proofs.sobs.Sobs.bits_of.Goals as goal

pub loop-rest-init : goal.loop-rest-init
loop-rest-init g c =
    let bits = bits_in c.args.self.now.nodes in
    let is = c.inner.ensures.bits ∙ c.split-rest.ensures.bits bits in
    let some : 1 ≤ length (bits c.args.s) = omega (arith, ap length is) in
    record {
      are = ap (λ bs. bs ++ bits_behind bits c.split-rest.result.1) c.of-bits.ensures ∙ sym is;
      rest = rest_live bits c.args.s.number (length c.args.self.now.nodes) c.split-rest.result.1 (c.split-rest.ensures.rest bits c.args.s.number c.inner.ensures.proper) (omega (arith, c.requires.live));
      most = (c.inner.ensures.integer some).most;
    }

pub loop-rest-smaller : goal.loop-rest-smaller
loop-rest-smaller g c =
    let bits = bits_in c.args.self.now.nodes in
    rest_falls bits c.in-Some.next c.split-more.result.1 c.loop-rest.rest c.in-Some.is (c.split-more.ensures.rest bits c.in-Some.next.number c.inner-in-Some.ensures.proper)

pub loop-rest-preserved : goal.loop-rest-preserved
loop-rest-preserved g c =
    let bits = bits_in c.args.self.now.nodes in
    record {
      are = rest_next bits c.loop-rest.bits c.push.new.self c.split-more.result.0 c.in-Some.next c.inner-in-Some.result c.split-more.result.1 c.loop-rest.rest _ c.in-Some.is c.loop-rest.invariant.are c.inner-in-Some.ensures.bits (c.split-more.ensures.bits bits) c.push.ensures;
      rest = rest_live bits c.in-Some.next.number (length c.args.self.now.nodes) c.split-more.result.1 (c.split-more.ensures.rest bits c.in-Some.next.number c.inner-in-Some.ensures.proper)
          (omega (arith, (subst (λ (o : Option Sob). IfSome o (λ (r : Sob). (r.number < length c.args.self.now.nodes) × (1 ≤ length (bits r)))) c.in-Some.is c.loop-rest.invariant.rest).0));
      most = c.loop-rest.invariant.most;
    }
