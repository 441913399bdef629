use Rattle.std.proofs.Common.{◌≡◌, ◌∙◌, ap, sym, subst, ℕ, suc, ◌+◌, List, [], Some, slice_get, map, length, drop, arith, Bor}
use Rattle.std.specs.Prelude.{fold}
use Rattle.std.specs.Option.{option_map}
use Rattle.std.proofs.lemmas.Option.{slice_get-map, slice_get-get_or}
use Rattle.std.proofs.lemmas.List.{length-map}
use Rattle.gl_logic.specs.Names.{with_name}
use Rattle.gl_logic.proofs.GrownTables.{extends_name, extends_then}
use Rattle.event_world.specs.PreludeTexts.{ground_texts}
use Rattle.event_world.specs.PreludeForms.{forms_in, words_read}
use Rattle.event_world.specs.PreludeRows.{HoldsFirst}
use Rattle.event_world.specs.OpeningNames.{with_ground_words}
use Rattle.event_world.proofs.PreludeRows.{how_many_texts}
use Rattle.event_world.proofs.PreludeWorlds.{none_held, is_prelude}
use Rattle.event_world.proofs.OpeningTables.{words_of_texts, asked_again, still_same, ground_words_read, empty_no_more, one_text_more, no_text_left}
use Rattle.event_world.proofs.ground_world.prelude.Goals as goal

abbrev text_of : Bor (List ℕ) → List ℕ
text_of t = t.now

pub add-requires-clause-text : goal.add-requires-clause-text
add-requires-clause-text c =
    let items = c.definitions-text-items.result.now in
    let i = c.loop-text.text-index in
    ap (slice_get ground_texts) c.loop-text.invariant.holds.count
    ∙ (ap (λ (ts : List (List ℕ)). slice_get ts i) (sym c.definitions-text-items.ensures)
    ∙ (slice_get-map text_of items i
    ∙ (ap (option_map text_of) (slice_get-get_or items i _ c.loop-text-test.true) ∙ ap Some (sym c.as_bytes.ensures.value))))

pub returns-clause-world : goal.returns-clause-world
returns-clause-world c =
    let items = c.definitions-text-items.result.now in
    let l : length (map text_of items) ≡ length ground_texts = ap length c.definitions-text-items.ensures in
    let n : c.loop-text.text-index ≡ 43 = omega (arith, l, length-map items text_of, how_many_texts) in
    is_prelude c.loop-text.texts c.loop-text.world c.is_table-2.ensures (subst (λ (k : ℕ). HoldsFirst k c.loop-text.texts c.loop-text.world) n c.loop-text.invariant.holds)

pub loop-text-init : goal.loop-text-init
loop-text-init c =
    let e = c.in_ok-_empty.ensures.ok in
    let w = c.in_ok-world.ensures in
    record {
      holds = none_held c.id_of.new.self c.in_ok-world.world w.0 w.1 w.2 w.3;
      extends = extends_name c.args.texts.now c.id_of.new.self [] e;
      empty = ap (λ (ns : List (List ℕ)). with_name ns []) e ∙ (asked_again c.args.texts.now [] ∙ sym e);
      names = ap (λ (ns : List (List ℕ)). fold with_name ns (words_of_texts ground_texts)) e ∙ ground_words_read c.args.texts.now c.is_table.ensures;
    }

pub loop-text-preserved : goal.loop-text-preserved
loop-text-preserved c =
    let i = c.loop-text.invariant in
    let k = c.loop-text.text-index in
    let items = c.definitions-text-items.result.now in
    let text = c.as_bytes.result.now in
    let at : slice_get ground_texts k ≡ Some text =
    ap (λ (ts : List (List ℕ)). slice_get ts k) (sym c.definitions-text-items.ensures)
    ∙ (slice_get-map text_of items k
    ∙ (ap (option_map text_of) (slice_get-get_or items k _ c.loop-text-test.true) ∙ ap Some (sym c.as_bytes.ensures.value))) in
    let next : suc k ≡ k + 1 = omega arith in
    let grown = empty_no_more c.loop-text.texts c.add.new.texts (words_read (forms_in text)) i.empty c.in_ok-add.ensures.names in
    record {
      holds = subst (λ (n : ℕ). HoldsFirst (n + 1) c.add.new.texts c.add.new.world) i.holds.count c.in_ok-add.ensures.ok;
      extends = extends_then c.args.texts.now c.loop-text.texts c.add.new.texts i.extends c.add.ensures.extends;
      empty = still_same c.loop-text.texts c.add.new.texts [] c.add.ensures.extends i.empty;
      names = subst (λ (n : ℕ). fold with_name c.add.new.texts (words_of_texts (drop n ground_texts)) ≡ with_ground_words c.args.texts.now) next
          (ap (λ (ns : List (List ℕ)). fold with_name ns (words_of_texts (drop (suc k) ground_texts))) grown ∙ one_text_more c.loop-text.texts (with_ground_words c.args.texts.now) k text at i.names);
    }

pub returns-clause-names : goal.returns-clause-names
returns-clause-names c =
    let items = c.definitions-text-items.result.now in
    let l : length (map text_of items) ≡ length ground_texts = ap length c.definitions-text-items.ensures in
    let n : c.loop-text.text-index ≡ 43 = omega (arith, l, length-map items text_of, how_many_texts) in
    no_text_left c.loop-text.texts (with_ground_words c.args.texts.now) (subst (λ (k : ℕ). fold with_name c.loop-text.texts (words_of_texts (drop k ground_texts)) ≡ with_ground_words c.args.texts.now) n c.loop-text.invariant.names)
