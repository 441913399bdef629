use Rattle.std.proofs.lemmas.Bool.Decides.{nat_tests}
use Rattle.std.proofs.Common.{rules, ◌≡◌, ◌∙◌, ap, sym, subst, ℕ, ◌<◌, List, [], length, get_or, slice_get, arith}
use Rattle.std.specs.Prelude.{OnOk}
use Rattle.gl_logic.specs.Object.{Object, Symbol}
use Rattle.gl_logic.specs.Names.{with_name}
use Rattle.gl_logic.specs.Kind.{kind_of}
use Rattle.event_world.specs.PreludeForms.{Source, Spells, AreSpelled}
use Rattle.event_world.specs.PreludeRows.{formals_in, body_in, symbols_of}
use Rattle.event_world.proofs.PreludeRows.{row, below_texts, closed_at}
use Rattle.event_world.proofs.PreludeParts.{parts_of, symbols_spelled}
use Rattle.event_world.proofs.PreludeWorlds.{later_holds}
use Rattle.event_world.proofs.ground_world.add.Goals as goal

pub unreachable-requires : goal.unreachable-requires
unreachable-requires c =
    let r = row (length c.args.world.now.definitions) c.args.text.now c.requires.text in
    let p = parts_of c.forms_of.new.texts c.in_ok-parts.parts c.args.text.now (subst (λ (s : Source). Spells c.forms_of.new.texts c.in_ok-parts.parts s) r.1.shape c.in_ok-parts.ensures.ok) in
    let three : length c.elements.result.now ≡ 3 = ap length (c.elements.ensures ∙ p.elements) in
    first_of (search rules, grind (arith, nat_tests, three))

pub unreachable-requires-in_default-kind : goal.unreachable-requires-in_default-kind
unreachable-requires-in_default-kind c =
    let r = row (length c.args.world.now.definitions) c.args.text.now c.requires.text in
    let p = parts_of c.forms_of.new.texts c.in_ok-parts.parts c.args.text.now (subst (λ (s : Source). Spells c.forms_of.new.texts c.in_ok-parts.parts s) r.1.shape c.in_ok-parts.ensures.ok) in
    let n : c.name-item.result ≡ Symbol p.name = c.name-item.is ∙ ap (λ (xs : List Object). get_or xs 2 c.name-item.result) (c.elements.ensures ∙ p.elements) in
    c.in_default-kind.not-Symbol (record { number = p.name }) (c.kind.ensures ∙ ap kind_of n)

pub define-requires-clause-next : goal.define-requires-clause-next
define-requires-clause-next c =
    let names = c.forms_of.new.texts in
    let text = c.args.text.now in
    let r = row (length c.args.world.now.definitions) text c.requires.text in
    let p = parts_of names c.in_ok-parts.parts text (subst (λ (s : Source). Spells names c.in_ok-parts.parts s) r.1.shape c.in_ok-parts.ensures.ok) in
    let all = c.elements.ensures ∙ p.elements in
    let n : c.name-item.result ≡ Symbol p.name = c.name-item.is ∙ ap (λ (xs : List Object). get_or xs 2 c.name-item.result) all in
    let f : c.formals-item.result ≡ p.formals = c.formals-item.is ∙ ap (λ (xs : List Object). get_or xs 1 c.formals-item.result) all in
    let b : c.form-item.result ≡ p.body = c.form-item.is ∙ ap (λ (xs : List Object). get_or xs 0 c.form-item.result) all in
    let k = sym (ap kind_of n) ∙ (sym c.kind.ensures ∙ c.in-Symbol.is) in
    let m : p.name ≡ c.in-Symbol.name.number = cc in
    record {
      text = text;
      at = c.requires.text;
      spelled = ap (slice_get names) (sym m) ∙ p.spelled;
      variables = subst (λ (vs : List ℕ). AreSpelled names vs (formals_in text)) (ap symbols_of (sym f) ∙ sym c.in_ok-formals.ensures) (symbols_spelled names p.formals (formals_in text) p.variables);
      body = subst (λ (x : Object). Spells names x (body_in text)) (sym b) p.meant;
    }

pub define-requires-clause-so_far : goal.define-requires-clause-so_far
define-requires-clause-so_far c =
    let l : length c.args.world.now.definitions < 43 = below_texts (length c.args.world.now.definitions) c.args.text.now c.requires.text in
    later_holds c.args.texts.now c.forms_of.new.texts (length c.args.world.now.definitions) c.args.world.now (omega (arith, l)) c.forms_of.ensures.extends c.requires.so_far

pub returns-clause-names : goal.returns-clause-names
returns-clause-names c =
    let read = c.in_ok-parts.ensures.names (closed_at (length c.args.world.now.definitions) c.args.text.now c.requires.text) in
    subst (λ (ns : List (List ℕ)). OnOk c.define.result (c.define.new.texts ≡ with_name ns [])) read c.define.ensures.names
