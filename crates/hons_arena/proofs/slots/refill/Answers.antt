use Rattle.std.proofs.Common.{rules, arith, ◌<◌, length, ◌≡◌, ℕ, ◌+◌, ◌∙◌, sym, ap, ap₂, subst, List, set, take}
use Rattle.std.proofs.lemmas.List.{length-take-le}
use Rattle.hons_arena.specs.Cells.{cell_at}
use Rattle.hons_arena.specs.Hash.{hash_of, home_of, home_at, free, fingerprint_of}
use Rattle.hons_arena.specs.Probe.{IsNowhere, IsFirstWith}
use Rattle.hons_arena.specs.Table.{empty, IsMarked}
use Rattle.hons_arena.proofs.Marks.{first_empty, somewhere_free, marked-next}
use Rattle.hons_arena.proofs.Tables.{table-next}
use Rattle.hons_arena.proofs.slots.refill.Goals as goal

pub first_free-slot-requires-clause-somewhere : goal.first_free-slot-requires-clause-somewhere
first_free-slot-requires-clause-somewhere c =
    let l = c.loop-number in
    let count : length (take l.number c.args.cells.now) ≡ l.number = length-take-le l.number c.args.cells.now (omega (arith, c.loop-number-test.true)) in
    subst (λ (xs : List ℕ). IsNowhere xs c.home.result free → ⊥) (sym c.as_slice.ensures.value)
    (somewhere_free (take l.number c.args.cells.now) l.slots.items l.fingerprints.items l.invariant.marked c.home.result l.invariant.table (omega (arith, count, c.loop-number-test.true, c.requires.free, l.invariant.size)) (omega (arith, c.home.ensures.within, l.invariant.size)))

pub loop-number-preserved : goal.loop-number-preserved
loop-number-preserved c =
    let l = c.loop-number in
    let q : ℕ = c.first_free-slot.result in
    let free_at : IsFirstWith l.fingerprints.items c.home.result free q = subst (λ (xs : List ℕ). IsFirstWith xs c.home.result free q) c.as_slice.ensures.value c.first_free-slot.ensures.first in
    let home_within : c.home.result < length l.slots.items = omega (arith, c.home.ensures.within, l.invariant.size) in
    let first : IsFirstWith l.slots.items c.home.result empty q = first_empty (take l.number c.args.cells.now) l.slots.items l.fingerprints.items l.invariant.marked c.home.result q home_within free_at in
    let within : q < length l.slots.items = omega (arith, c.first_free-slot.ensures.within, ap length c.as_slice.ensures.value, l.invariant.marked.size) in
    let home : c.home.result ≡ home_of (length l.slots.items) (cell_at c.args.cells.now l.number) = c.home.ensures.home ∙ ap₂ home_at (sym l.invariant.size) c.hash-hash.ensures in
    let beside : c.fingerprint_of.result ≡ fingerprint_of (hash_of (cell_at c.args.cells.now l.number)) = c.fingerprint_of.ensures ∙ ap fingerprint_of c.hash-hash.ensures in
    record {
      table = table-next c.args.cells.now l.slots.items l.number c.home.result q c.loop-number-test.true c.requires.few l.invariant.table within home first;
      marked = subst (λ (w : ℕ). IsMarked (take (l.number + 1) c.args.cells.now) (set l.slots.items q l.number) (set l.fingerprints.items q w)) (sym beside)
          (marked-next c.args.cells.now l.slots.items l.fingerprints.items l.number q c.loop-number-test.true c.requires.few l.invariant.table l.invariant.marked within);
      size = search rules;
      capacity = search rules;
      capacity_beside = search rules;
    }
