use Rattle.std.proofs.Common.{◌≡◌, ◌∙◌, ◌-◌, ap, sym, subst, arith, drop}
use Rattle.std.proofs.lemmas.Option.{get_or_from_slice_get}
use Rattle.sym_objects.specs.Bits.{trimmed}
use Rattle.sym_objects.proofs.Trimmed.{drop_last, trimmed_few, trimmed_next}
use Rattle.sym_objects.proofs.BitsOf.{integer_constant, integer_makes}
use Rattle.sym_objects.proofs.Keeping.{keeps_then}
use Rattle.sym_objects.proofs.sobs.Sobs.integer.Goals as goal

pub loop-k-init : goal.loop-k-init
loop-k-init g c = record {
  keeps = c.sign.ensures.keeps;
  live = c.in_ok-rest.ensures.live;
  bits = c.in_ok-rest.ensures.bits;
  is = c.in_ok-rest.ensures.is ∙ ap trimmed (sym (drop_last c.args.bits.now c.len-last.result c.at.result c.len-last.ensures.len (omega (arith, c.len-last.ensures.some)) c.at.ensures));
  store = c.sign.ensures.store;
  within = omega (arith, c.len-last.ensures.len, c.len-last.ensures.some);
}

pub put_bit-requires-clause-edge : goal.put_bit-requires-clause-edge
put_bit-requires-clause-edge g c =
    let l = c.loop-k in
    let at = c.at-in-loop-k.result in
    l.invariant.keeps.store.stays at
    (subst (λ e. g.B.Meaning.live c.args.self.now.store e) (get_or_from_slice_get c.args.bits.now (l.k - 1) at at c.at-in-loop-k.ensures) (c.requires.edges (l.k - 1) at (omega (arith, l.invariant.within))))

pub put_bit-requires-clause-few : goal.put_bit-requires-clause-few
put_bit-requires-clause-few g c = trimmed_few c.args.bits.now c.loop-k.k _ (omega arith) c.loop-k.invariant.within c.requires.most c.loop-k.invariant.is

pub loop-k-preserved : goal.loop-k-preserved
loop-k-preserved g c =
    let l = c.loop-k in
    record {
      keeps = keeps_then g.B.Meaning c.args.self.now l.self c.put_bit.new.self l.invariant.keeps c.put_bit.ensures.keeps;
      live = c.in_ok-rest-2.ensures.live;
      bits = c.in_ok-rest-2.ensures.bits;
      is = trimmed_next c.args.bits.now l.k c.at-in-loop-k.result _ _ (omega arith) l.invariant.within c.at-in-loop-k.ensures l.invariant.is c.in_ok-rest-2.ensures.is;
      store = c.put_bit.ensures.store ∙ l.invariant.store;
      within = omega (arith, l.invariant.within);
    }

pub returns-clause-makes : goal.returns-clause-makes
returns-clause-makes g c = let l = c.loop-k in integer_makes g.B.Meaning c.args.self.now l.self l.rest c.args.bits.now l.invariant.keeps l.invariant.live l.invariant.bits (let none : l.k ≡ 0 = omega arith in l.invariant.is ∙ ap (λ k. trimmed (drop k c.args.bits.now)) none) l.invariant.store (omega (arith, c.len-last.ensures.some, c.len-last.ensures.len))

pub returns-clause-constant : goal.returns-clause-constant
returns-clause-constant g c = let l = c.loop-k in integer_constant g.B.Meaning c.args.self.now l.self l.rest c.args.bits.now l.invariant.bits (let none : l.k ≡ 0 = omega arith in l.invariant.is ∙ ap (λ k. trimmed (drop k c.args.bits.now)) none) (omega (arith, c.len-last.ensures.some, c.len-last.ensures.len))
