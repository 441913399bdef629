use Rattle.std.proofs.Common.{rules, arith, length, ◌≡◌, ◌+◌, ◌-◌, ◌<◌, ◌≤◌, sym, ◌∙◌, ap₂, ap, subst, ℕ, List, take}
use Rattle.std.specs.Vec.{vec_capacity}
use Rattle.std.proofs.lemmas.List.{get_or_read}
use Rattle.hons_arena.specs.Cells.{cell_at}
use Rattle.hons_arena.specs.Hash.{hash_of, home_of, home_at}
use Rattle.hons_arena.specs.Probe.{IsNowhere, IsFirstWith}
use Rattle.hons_arena.proofs.Entering.{count_is}
use Rattle.hons_arena.proofs.Reading.{sound_pop, objects_left}
use Rattle.hons_arena.proofs.Walks.{somewhere}
use Rattle.hons_arena.proofs.arena.HonsArena.remove_newest.Goals as goal

pub slot_with-slot-requires-clause-somewhere : goal.slot_with-slot-requires-clause-somewhere
slot_with-slot-requires-clause-somewhere c =
    let s = c.self in
    let k : ℕ = c.len-newest.result - 1 in
    let last : k + 1 ≡ length s.inside.cells.items = search (rules, count_is s.inside.limit s.inside.cells.items c.args.self.now s.invariant.interned s.view_is) in
    let size : c.len.result ≡ length s.inside.slots.items = search rules in
    let read : c.index.result.now ≡ cell_at s.inside.cells.items k = get_or_read s.inside.cells.items k c.index.result.now (omega (arith, last)) c.index.ensures _ in
    let home : c.home-home.result ≡ home_of (length s.inside.slots.items) (cell_at s.inside.cells.items k) = c.home-home.ensures.home ∙ ap₂ home_at size (c.hash.ensures ∙ ap hash_of read) in
    subst (λ (xs : List ℕ). IsNowhere xs c.home-home.result k → ⊥) (sym c.as_slice.ensures.value)
    (subst (λ (h : ℕ). IsNowhere s.inside.slots.items h k → ⊥) (sym home) (somewhere s.inside.cells.items s.inside.slots.items k s.invariant.table (omega (arith, last))))

pub invariant_of-self : goal.invariant_of-self
invariant_of-self c =
    let s = c.self in
    let k : ℕ = c.len-newest.result - 1 in
    let last : k + 1 ≡ length s.inside.cells.items = search (rules, count_is s.inside.limit s.inside.cells.items c.args.self.now s.invariant.interned s.view_is) in
    let first : IsFirstWith s.inside.slots.items c.home-home.result k c.slot_with-slot.result = subst (λ (xs : List ℕ). IsFirstWith xs c.home-home.result k c.slot_with-slot.result) c.as_slice.ensures.value c.slot_with-slot.ensures.first in
    let within : c.slot_with-slot.result < length s.inside.slots.items = omega (arith, c.slot_with-slot.ensures.within, ap length c.as_slice.ensures.value) in
    let left : c.truncate.new.self.items ≡ take k s.inside.cells.items = search rules in
    let room : s.inside.limit ≤ vec_capacity c.truncate.new.self = search rules in
    sound_pop s.inside.limit s.inside.cells.items (vec_capacity s.inside.cells) s.inside.slots.items (vec_capacity s.inside.slots) s.inside.fingerprints.items (vec_capacity s.inside.fingerprints) k c.slot_with-slot.result c.truncate.new.self.items (vec_capacity c.truncate.new.self) s.invariant last within first.is left room

pub returns-clause-objects : goal.returns-clause-objects
returns-clause-objects c =
    let s = c.self in
    let k : ℕ = c.len-newest.result - 1 in
    let last : k + 1 ≡ length s.inside.cells.items = search (rules, count_is s.inside.limit s.inside.cells.items c.args.self.now s.invariant.interned s.view_is) in
    let left : c.truncate.new.self.items ≡ take k s.inside.cells.items = search rules in
    objects_left s.inside.limit s.inside.cells.items c.args.self.now k c.truncate.new.self.items s.invariant.interned s.view_is last left
