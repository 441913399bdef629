use Rattle.std.proofs.Common.{length, ap, arith, ℕ, List}
use Rattle.std.proofs.lemmas.List.{length-map}
use Rattle.shape_spec.specs.ShapeSeen.{ShapeSeen}
use Rattle.shape_spec.proofs.Places.{shape_at}
use Rattle.shape_spec.specs.BindingOf.{binding_of}
use Rattle.shape_spec.proofs.binding_list.Bindings.shape.Goals as goal

pub returns : goal.returns
returns c =
    let long = ap (λ (b : List (ℕ × ShapeSeen)). length b) c.self.view_is in
    rw (← c.self.view_is) (shape_at c.self.inside.items.items c.args.i c.index.result.now (omega (arith, long, c.requires, length-map c.self.inside.items.items binding_of)) c.index.ensures)
