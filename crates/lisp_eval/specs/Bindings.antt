-- Environments by ids.
use Rattle.std.specs.Prelude.{ℕ, List, [], ◌∷◌, eqb, cond, get_or}
use Rattle.hons_arena.specs.declared.id.Id.{Id}
use Rattle.hons_arena.specs.declared.id.Id.TheVariants as id
use Rattle.lisp_eval.specs.declared.frame.Binding.{Binding}

abbrev pub nil_id : Id
nil_id = id.Symbol (record { number = 0 })

abbrev pub id_or_nil : List Id → ℕ → Id
id_or_nil ids i = get_or ids i nil_id

-- the first binding of a variable gives its id
abbrev pub id_in : List Binding → ℕ → Id
id_in [] v = nil_id
id_in (b ∷ env) v = cond (eqb b.name.number v) b.value (id_in env v)

-- each name with the id at its place, NIL's where there is none
abbrev pub bindings_of : List ℕ → List Id → List Binding
bindings_of [] ids = []
bindings_of (v ∷ names) [] = record { name = record { number = v }; value = nil_id } ∷ bindings_of names []
bindings_of (v ∷ names) (x ∷ ids) = record { name = record { number = v }; value = x } ∷ bindings_of names ids
