use Rattle.std.proofs.Common.{rules, ◌≡◌, ◌∙◌, ◌<◌, sym, length}
use Rattle.std.proofs.lemmas.Slice.Eq.{bytes_eq-Decides}
use Rattle.explain_text.proofs.Names.{every_here}
use Rattle.explain_text.proofs.naming.NamingShelf.was_asked.Goals as goal

pub returns-then-eq : goal.returns-then-eq
returns-then-eq g c = λ _.
    let within : c.loop-i.i < length c.self.inside.names.items = search rules in
    let same : c.as_str.result.now ≡ c.args.name.now = (bytes_eq-Decides c.as_str.result.now c.args.name.now).0 (sym c.eq.ensures ∙ c.if-eq.true) in
    every_here g.S.Shelf.may_open c.self.inside.names.items c.args.name.now c.loop-i.i c.index.result.now within c.index.ensures (sym c.as_str.ensures.value ∙ same) c.self.invariant
