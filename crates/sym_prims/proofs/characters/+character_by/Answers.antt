use Rattle.std.proofs.Common.{◌≡◌, ℕ, suc, ◌+◌, ◌-◌, ◌*◌, ◌/◌, ◌^◌, ◌<◌, ◌≤◌, Bool, true, false, cond, List, arith, refl, ap, ◌∙◌, sym, subst}
use Rattle.std.proofs.lemmas.List.Elements.{All-weaker}
use Rattle.bfr_store.specs.declared.edge.Edge.{Edge}
use Rattle.gl_logic.specs.Object.{Character}
use Rattle.sym_bits.specs.Columns.{low_number}
use Rattle.sym_bits.specs.Integers.{AllLive, bits_under}
use Rattle.sym_bits.proofs.Numbers.{half_power}
use Rattle.sym_objects.specs.Seen.{SobsSeen, IsWhole}
use Rattle.sym_prims.proofs.Chars.{gives_both, gives_one, one_bit}
use Rattle.sym_prims.proofs.characters.+character_by.Goals as goal

pub character_by-requires : goal.character_by-requires
character_by-requires g t c κs within =
    let m = g.B.Meaning in
    let h = half_power c.args.level c.args.span c.if-level-eq0.false c.requires.span in
    let back : c.args.objs.now ≡ c.is_always.new.objs = sym (c.is_always.ensures.same ∙ c.bit_edge-test.ensures.same) in
    (omega (arith, c.decreases, c.if-level-eq0.false), (within, (subst (λ (s : SobsSeen g.row.B.Denot). IsWhole m s) back c.requires.whole, (subst (λ (s : SobsSeen g.row.B.Denot). AllLive m s.store c.args.bits.now) back c.requires.bits, (h, omega (arith, c.requires.most))))))

pub character_by-requires-then-is_always-2 : goal.character_by-requires-then-is_always-2
character_by-requires-then-is_always-2 g t c κs within =
    let m = g.B.Meaning in
    let h = half_power c.args.level c.args.span c.if-level-eq0.false c.requires.span in
    let back : c.args.objs.now ≡ c.is_always-2.new.objs = sym (c.is_always-2.ensures.same ∙ (c.is_always.ensures.same ∙ c.bit_edge-test.ensures.same)) in
    (omega (arith, c.decreases, c.if-level-eq0.false), (within, (subst (λ (s : SobsSeen g.row.B.Denot). IsWhole m s) back c.requires.whole, (subst (λ (s : SobsSeen g.row.B.Denot). AllLive m s.store c.args.bits.now) back c.requires.bits, (h, omega (arith, c.requires.most))))))

pub character_by-requires-2 : goal.character_by-requires-2
character_by-requires-2 g t c κs within =
    let m = g.B.Meaning in
    let h = half_power c.args.level c.args.span c.if-level-eq0.false c.requires.span in
    let back : c.args.objs.now ≡ c.is_always-2.new.objs = sym (c.is_always-2.ensures.same ∙ (c.is_always.ensures.same ∙ c.bit_edge-test.ensures.same)) in
    (omega (arith, c.decreases, c.if-level-eq0.false), (within, (subst (λ (s : SobsSeen g.row.B.Denot). IsWhole m s) back c.requires.whole, (subst (λ (s : SobsSeen g.row.B.Denot). AllLive m s.store c.args.bits.now) back c.requires.bits, (h, omega (arith, c.requires.most))))))

pub character_by-requires-3 : goal.character_by-requires-3
character_by-requires-3 g t c κs within =
    let m = g.B.Meaning in
    let h = half_power c.args.level c.args.span c.if-level-eq0.false c.requires.span in
    let back : c.args.objs.now ≡ c.is_always-2.new.objs = sym (c.is_always-2.ensures.same ∙ (c.is_always.ensures.same ∙ c.bit_edge-test.ensures.same)) in
    let live : AllLive m c.is_always-2.new.objs.store c.args.bits.now = subst (λ (s : SobsSeen g.row.B.Denot). AllLive m s.store c.args.bits.now) back c.requires.bits in
    let kept = c.in_ok-high.ensures.gives.leaves.grows in
    (omega (arith, c.decreases, c.if-level-eq0.false), (within, (kept.whole, (All-weaker (m.live c.is_always-2.new.objs.store) (m.live c.character_by-2.new.objs.store) kept.store.stays c.args.bits.now live, (h, omega (arith, c.requires.most))))))

pub returns-then-is_always : goal.returns-then-is_always
returns-then-is_always g t c =
    let m = g.B.Meaning in
    let old = c.args.objs.now in
    let n = c.args.level - 1 in
    let s = c.args.span / 2 in
    let h = half_power c.args.level c.args.span c.if-level-eq0.false c.requires.span in
    let up : c.args.level ≡ suc n = omega (arith, c.if-level-eq0.false) in
    record {
      gives = gives_one m old c.is_always.new.objs c.character_by.new.objs c.args.bits.now n c.args.level c.args.base (c.args.base + s) c.character_by.result (c.is_always.ensures.same ∙ c.bit_edge-test.ensures.same) c.requires.whole c.character_by.ensures.gives
          (λ a. one_bit (bits_under m old.store c.args.bits.now a) n c.args.level c.args.base s true up h
          (sym (c.is_always.ensures.always c.if-is_always.true a) ∙ (ap (λ (q : SobsSeen g.row.B.Denot). m.truth_of q.store c.bit_edge-test.result a) c.bit_edge-test.ensures.same ∙ c.bit_edge-test.ensures.truth a)));
    }

pub returns-then-is_always-2 : goal.returns-then-is_always-2
returns-then-is_always-2 g t c =
    let m = g.B.Meaning in
    let old = c.args.objs.now in
    let n = c.args.level - 1 in
    let s = c.args.span / 2 in
    let h = half_power c.args.level c.args.span c.if-level-eq0.false c.requires.span in
    let up : c.args.level ≡ suc n = omega (arith, c.if-level-eq0.false) in
    record {
      gives = gives_one m old c.is_always-2.new.objs c.character_by-then-is_always-2.new.objs c.args.bits.now n c.args.level c.args.base c.args.base c.character_by-then-is_always-2.result (c.is_always-2.ensures.same ∙ (c.is_always.ensures.same ∙ c.bit_edge-test.ensures.same)) c.requires.whole c.character_by-then-is_always-2.ensures.gives
          (λ a. one_bit (bits_under m old.store c.args.bits.now a) n c.args.level c.args.base s false up h
          (sym (c.is_always-2.ensures.always c.if-is_always-2.true a) ∙ (ap (λ (q : SobsSeen g.row.B.Denot). m.truth_of q.store c.bit_edge-test.result a) (c.is_always.ensures.same ∙ c.bit_edge-test.ensures.same) ∙ c.bit_edge-test.ensures.truth a)));
    }

pub returns : goal.returns
returns g t c =
    let m = g.B.Meaning in
    let old = c.args.objs.now in
    let n = c.args.level - 1 in
    let h = half_power c.args.level c.args.span c.if-level-eq0.false c.requires.span in
    let up : c.args.level ≡ suc n = omega (arith, c.if-level-eq0.false) in
    record {
      gives = gives_both m old c.is_always-2.new.objs c.character_by-2.new.objs c.character_by-3.new.objs c.choose.new.objs c.args.bits.now c.bit_edge-test.result c.in_ok-high.high c.in_ok-low.low c.choose.result n c.args.level c.args.base (c.args.span / 2)
          (c.is_always-2.ensures.same ∙ (c.is_always.ensures.same ∙ c.bit_edge-test.ensures.same)) c.requires.bits c.bit_edge-test.ensures.live c.bit_edge-test.ensures.truth up h c.in_ok-high.ensures.gives c.in_ok-low.ensures.gives c.choose.ensures.gives;
    }
