use Rattle.std.proofs.Common.{◌≡◌, ◌∙◌, ◌≤◌, ◌<◌, sym, rules, subst, length, ℕ, cond, eqb, Some, slice_get}
use Rattle.gl_logic.specs.Named.{place_in}
use Rattle.gl_logic.specs.NewNames.{numbers_of}
use Rattle.gl_logic.specs.declared.def.Def.{Def}
use Rattle.gl_logic.proofs.Indexes.{read_map}
use Rattle.gl_logic.proofs.NewNames.{index_more}
use Rattle.gl_logic.proofs.name_index.NameIndex.put_all.Goals as goal

pub loop-i-preserved : goal.loop-i-preserved
loop-i-preserved c =
    let defs = c.args.defs.now in
    let d = c.index-defs-i.result in
    let within : c.loop-i.i < length defs = search rules in
    let from : c.args.first ≤ c.loop-i.i = search rules in
    let there : slice_get (numbers_of defs) c.loop-i.i ≡ Some d.name.number = read_map (λ (d : Def). d.name.number) defs c.loop-i.i d within c.index-defs-i.is in
    let put = subst (λ (x : Def). (other : ℕ) → place_in c.put.new.self other ≡ cond (eqb x.name.number other) (Some c.loop-i.i) (place_in c.loop-i.self other)) (sym c.index-defs-i.is) c.put.ensures.places in
    (c.put.ensures.kept ∙ c.loop-i.invariant.0, index_more c.loop-i.self c.put.new.self defs c.loop-i.i d c.loop-i.invariant.1 within there (c.requires.free c.loop-i.i d.name.number from there) put)
