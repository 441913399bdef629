use Rattle.std.proofs.Common.{◌∙◌, ap, sym, subst, ℕ, List, Some, arith, rules}
use Rattle.gl_logic.specs.Names.{number_of, with_name, IsTable}
use Rattle.gl_logic.proofs.Places.{known, unknown, added, with_it, its_number}
use Rattle.gl_logic.proofs.Tables.{table-push}
use Rattle.gl_logic.proofs.texts.Texts.id_of.Goals as goal

pub returns-in-Some-clause-number : goal.returns-in-Some-clause-number
returns-in-Some-clause-number c = ap (number_of c.args.bytes.now) (sym c.self.view_is) ∙ (known c.args.bytes.now c.self.inside.names.keys _ (sym c.get_index_of.ensures.index ∙ c.in-Some.is)).0

pub returns-in-Some-clause-ok : goal.returns-in-Some-clause-ok
returns-in-Some-clause-ok c = let k = known c.args.bytes.now c.self.inside.names.keys _ (sym c.get_index_of.ensures.index ∙ c.in-Some.is) in grind (arith, k.1, c.self.view_is)

pub returns-clause-ok : goal.returns-clause-ok
returns-clause-ok c =
    let none = sym c.get_index_of.ensures.index ∙ c.in_default.is in
    let a = added c.args.bytes.now c.self.inside.names.keys c.in_ok-name.name c.insert_full.new.self.keys c.in_ok-place.place (search rules) none c.in_ok-place.ensures.keys c.in_ok-place.ensures.index in
    a.0 ∙ (with_it c.args.bytes.now c.self.inside.names.keys none ∙ ap (λ (t : List (List ℕ)). with_name t c.args.bytes.now) c.self.view_is)

pub returns-clause-number : goal.returns-clause-number
returns-clause-number c =
    let none = sym c.get_index_of.ensures.index ∙ c.in_default.is in
    let a = added c.args.bytes.now c.self.inside.names.keys c.in_ok-name.name c.insert_full.new.self.keys c.in_ok-place.place (search rules) none c.in_ok-place.ensures.keys c.in_ok-place.ensures.index in
    ap (number_of c.args.bytes.now) a.0 ∙ (its_number c.args.bytes.now c.self.inside.names.keys none ∙ ap (λ n. Some n) (sym a.1))

pub invariant_of-self-2 : goal.invariant_of-self-2
invariant_of-self-2 c =
    let none = sym c.get_index_of.ensures.index ∙ c.in_default.is in
    let a = added c.args.bytes.now c.self.inside.names.keys c.in_ok-name.name c.insert_full.new.self.keys c.in_ok-place.place (search rules) none c.in_ok-place.ensures.keys c.in_ok-place.ensures.index in
    subst IsTable (sym a.0) (table-push _ c.args.bytes.now c.self.invariant (unknown c.args.bytes.now c.self.inside.names.keys none))
