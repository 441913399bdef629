use Rattle.std.proofs.Common.{rules, arith, length, ◌≡◌, ◌<◌, ◌∙◌, ap, sym, subst}
use Rattle.std.specs.Vec.{vec_len}
use Rattle.std.proofs.lemmas.List.{get_or_read}
use Rattle.hons_arena.specs.declared.cell.Cell.{Cell}
use Rattle.hons_arena.specs.Cells.{cell_at, cell_object, FitsBelow}
use Rattle.hons_arena.proofs.Entering.{count_is}
use Rattle.hons_arena.proofs.Reading.{object_read, parts_read}
use Rattle.hons_arena.proofs.arena.HonsArena.cell.Goals as goal

pub index-requires : goal.index-requires
index-requires c =
    let many : length c.self.inside.cells.items ≡ vec_len c.self.inside.cells = search rules in
    omega (arith, many, c.requires, count_is c.self.inside.limit c.self.inside.cells.items c.args.self.now c.self.invariant.interned c.self.view_is)

pub returns : goal.returns
returns c =
    let s = c.self in
    let l : c.args.number < length s.inside.cells.items = omega (arith, c.requires, count_is s.inside.limit s.inside.cells.items c.args.self.now s.invariant.interned s.view_is) in
    let read : cell_at s.inside.cells.items c.args.number ≡ c.index.result.now = sym (get_or_read s.inside.cells.items c.args.number c.index.result.now l c.index.ensures _) in record {
      object = ap (cell_object c.args.self.now.objects) (sym read) ∙ object_read s.inside.limit s.inside.cells.items c.args.self.now s.invariant.interned s.view_is c.args.number c.requires;
      parts = subst (λ (e : Cell). FitsBelow (length c.args.self.now.objects) e) read (parts_read s.inside.limit s.inside.cells.items c.args.self.now s.invariant.interned s.view_is c.args.number c.requires);
    }
