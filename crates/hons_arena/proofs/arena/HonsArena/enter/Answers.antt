use Rattle.std.proofs.Common.{rules, arith, ◌≡◌, ◌≢◌, ◌≤◌, ◌++◌, ◌∷◌, [], length, sym, ◌∙◌, ap, subst, ℕ, List, refl}
use Rattle.std.specs.Vec.{vec_capacity}
use Rattle.hons_arena.specs.declared.cell.Cell.{Cell}
use Rattle.hons_arena.specs.Cells.{FitsBelow, cell_object}
use Rattle.hons_arena.specs.Hash.{fingerprint_of}
use Rattle.hons_arena.specs.Held.{Held, HasNoCell}
use Rattle.hons_arena.specs.Probe.{IsFoundAt}
use Rattle.hons_arena.specs.Table.{IsTable, IsMarked}
use Rattle.hons_arena.proofs.Entering.{seen, count_is, whole_from, found, Has, found_here, IsEmptyEnd, empty_here, no_cell, added, Gets, sound_push, table_added, marked_added}
use Rattle.hons_arena.proofs.arena.HonsArena.enter.Goals as goal

pub returns-in-Found : goal.returns-in-Found
returns-in-Found c =
    let inside = c.self.inside in
    let at : IsFoundAt inside.cells.items c.args.cell c.in-Found.number = found_here _ _ _ _ c.as_slice.ensures.value c.in-Found.ensures in
    let has : Has inside.limit inside.cells.items c.args.cell c.self.invariant.interned c.args.self.now c.cell_id.result =
    found inside.limit inside.cells.items c.args.cell c.self.invariant.interned c.args.self.now c.in-Found.number c.cell_id.result c.self.view_is c.requires at c.cell_id.ensures in
    record { id = has.id_of; objects = has.enters; limit = refl; full = (λ e. cc, λ h. absurd (has.never_full h)); unchanged = tt; whole = whole_from inside.limit inside.cells.items c.args.self.now c.self.invariant.interned c.self.invariant.few c.self.view_is }

pub returns-then-number-self : goal.returns-then-number-self
returns-then-number-self c =
    let inside = c.self.inside in
    let end : IsEmptyEnd inside.cells.items inside.slots.items c.args.cell c.in-Empty.slot = empty_here _ _ _ _ _ _ c.as_slice.ensures.value c.as_slice-2.ensures.value c.in-Empty.ensures in
    let full : length inside.cells.items ≡ inside.limit = search rules in
    let none : HasNoCell c.args.self.now (cell_object c.args.self.now.objects c.args.cell) = no_cell inside.limit inside.cells.items c.args.cell c.self.invariant.interned c.args.self.now c.self.view_is c.requires end.absent full in
    record { id = tt; objects = tt; limit = refl; full = (λ _. none, λ _. refl); unchanged = refl; whole = whole_from inside.limit inside.cells.items c.args.self.now c.self.invariant.interned c.self.invariant.few c.self.view_is }

pub make_room-requires-clause-table : goal.make_room-requires-clause-table
make_room-requires-clause-table c =
    let inside = c.self.inside in
    let s = c.self.invariant in
    let end : IsEmptyEnd inside.cells.items inside.slots.items c.args.cell c.in-Empty.slot = empty_here _ _ _ _ _ _ c.as_slice.ensures.value c.as_slice-2.ensures.value c.in-Empty.ensures in
    let many : length inside.cells.items ≡ c.len-number.result = search rules in
    let apart : c.len-number.result ≢ inside.limit = search rules in
    let grown : c.push_reserved.new.self.items ≡ inside.cells.items ++ c.args.cell ∷ [] = search rules in
    table_added inside.cells.items inside.slots.items c.args.cell c.in-Empty.slot c.len-number.result c.as_slice-in-Empty.result.now s.table end.within end.free many (omega (arith, many, apart, s.few, s.small)) (c.as_slice-in-Empty.ensures.value ∙ grown)

pub make_room-requires-clause-marked : goal.make_room-requires-clause-marked
make_room-requires-clause-marked c =
    let inside = c.self.inside in
    let s = c.self.invariant in
    let end : IsEmptyEnd inside.cells.items inside.slots.items c.args.cell c.in-Empty.slot = empty_here _ _ _ _ _ _ c.as_slice.ensures.value c.as_slice-2.ensures.value c.in-Empty.ensures in
    let many : length inside.cells.items ≡ c.len-number.result = search rules in
    let apart : c.len-number.result ≢ inside.limit = search rules in
    let grown : c.push_reserved.new.self.items ≡ inside.cells.items ++ c.args.cell ∷ [] = search rules in
    marked_added inside.cells.items inside.slots.items inside.fingerprints.items c.args.cell c.in-Empty.slot c.len-number.result c.fingerprint_of.result c.as_slice-in-Empty.result.now s.table s.marked end.within many (omega (arith, many, apart, s.few, s.small)) (c.as_slice-in-Empty.ensures.value ∙ grown)
    (c.fingerprint_of.ensures ∙ ap fingerprint_of c.hash-hash.ensures)

pub invariant_of-self : goal.invariant_of-self
invariant_of-self c =
    let inside = c.self.inside in
    let s = c.self.invariant in
    let end : IsEmptyEnd inside.cells.items inside.slots.items c.args.cell c.in-Empty.slot = empty_here _ _ _ _ _ _ c.as_slice.ensures.value c.as_slice-2.ensures.value c.in-Empty.ensures in
    let many : length inside.cells.items ≡ c.len-number.result = search rules in
    let apart : c.len-number.result ≢ inside.limit = search rules in
    let grown : c.push_reserved.new.self.items ≡ inside.cells.items ++ c.args.cell ∷ [] = search rules in
    let value : c.as_slice-in-Empty.result.now ≡ c.push_reserved.new.self.items = c.as_slice-in-Empty.ensures.value in
    let parts : FitsBelow (length inside.cells.items) c.args.cell = subst (λ (m : ℕ). FitsBelow m c.args.cell) (sym (count_is inside.limit inside.cells.items c.args.self.now s.interned c.self.view_is)) c.requires in
    let room : inside.limit ≤ vec_capacity c.push_reserved.new.self = search rules in
    let table : IsTable c.push_reserved.new.self.items c.make_room.new.slots.items = subst (λ (cs : List Cell). IsTable cs c.make_room.new.slots.items) value c.make_room.ensures.table in
    let marked : IsMarked c.push_reserved.new.self.items c.make_room.new.slots.items c.make_room.new.fingerprints.items = subst (λ (cs : List Cell). IsMarked cs c.make_room.new.slots.items c.make_room.new.fingerprints.items) value c.make_room.ensures.marked in
    sound_push inside.limit inside.cells.items (vec_capacity inside.cells) inside.slots.items (vec_capacity inside.slots) c.args.cell inside.fingerprints.items (vec_capacity inside.fingerprints) c.push_reserved.new.self.items (vec_capacity c.push_reserved.new.self) c.make_room.new.slots.items (vec_capacity c.make_room.new.slots)
    c.make_room.new.fingerprints.items (vec_capacity c.make_room.new.fingerprints) s parts end.absent (λ e. apart (sym many ∙ e)) grown room
    table (omega (arith, ap length value, c.make_room.ensures.free)) (omega (arith, c.make_room.ensures.within, c.most.ensures)) c.make_room.ensures.capacity marked c.make_room.ensures.capacity_beside

pub returns-else-number-self : goal.returns-else-number-self
returns-else-number-self c =
    let inside = c.self.inside in
    let end : IsEmptyEnd inside.cells.items inside.slots.items c.args.cell c.in-Empty.slot = empty_here _ _ _ _ _ _ c.as_slice.ensures.value c.as_slice-2.ensures.value c.in-Empty.ensures in
    let many : length inside.cells.items ≡ c.len-number.result = search rules in
    let apart : c.len-number.result ≢ inside.limit = search rules in
    let grown : c.push_reserved.new.self.items ≡ inside.cells.items ++ c.args.cell ∷ [] = search rules in
    let gets : Gets inside.limit inside.cells.items c.args.cell c.self.invariant.interned c.args.self.now (seen inside.limit c.push_reserved.new.self.items) c.cell_id-in-Empty.result = added inside.limit inside.cells.items c.args.cell c.self.invariant.interned c.args.self.now c.push_reserved.new.self.items c.len-number.result c.cell_id-in-Empty.result c.self.invariant.few c.self.view_is c.requires end.absent many apart grown c.cell_id-in-Empty.ensures in
    record { id = gets.id_of; objects = gets.enters; limit = ap (λ (h : Held). h.limit) c.self.view_is; full = (λ e. cc, λ h. absurd (gets.not_full h)); unchanged = tt; whole = gets.whole }
