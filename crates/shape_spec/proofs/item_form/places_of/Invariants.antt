use Rattle.std.proofs.Common.{◌≡◌, get_or, eqb}
use Rattle.std.specs.List.{filter, range_with_len}
use Rattle.shape_spec.proofs.item_form.places_of.Given as goal

abbrev pub invariant-loop-k : goal.invariant-loop-k
invariant-loop-k l = l.places.items ≡ filter (λ k. eqb (get_or l.slots k 0) l.name.number) (range_with_len 0 l.k)
