use Rattle.std.proofs.Common.{◌≡◌, ◌∙◌, ap, sym, subst, ◌-◌, ◌≤◌, true, false, List, ℕ, get_or, length, drop, arith, ◌∷◌, reverse}
use Rattle.std.specs.Prelude.{fold}
use Rattle.gl_logic.specs.Names.{with_name}
use Rattle.event_world.specs.PreludeForms.{Reading, Spells, AreAround, reading, words_read}
use Rattle.event_world.specs.PreludeForms.{with_word as word_read}
use Rattle.event_world.specs.PreludeForms.{is_between as between_is}
use Rattle.event_world.proofs.PreludeTables.{all_spell_more}
use Rattle.event_world.proofs.OpeningTables.{words_around, words_behind, list_apart, list_behind, break_behind}
use Rattle.gl_logic.proofs.GrownTables.{extends_then}
use Rattle.event_world.proofs.PreludeReading.{plain, broken, longer, same_word, break_word, none_taken}
use Rattle.event_world.proofs.ground_reader.forms_of.Goals as goal

pub loop-place-preserved : goal.loop-place-preserved
loop-place-preserved c =
    let q = c.loop-place.place in
    let text = c.args.text.now in
    let i = c.loop-place.invariant in
    let some : 1 ≤ q = omega arith in
    let within : q ≤ length text = omega arith in
    let h : between_is (get_or text (q - 1) 0) ≡ false = cc in
    let e = plain text q some within h in
    record {
      before_end = omega arith;
      within = i.within;
      word = ap (λ (r : Reading). r.word) e ∙ (ap (λ (w : List ℕ). get_or text (q - 1) 0 ∷ w) i.word ∙ longer text q some within c.loop-place.end i.before_end);
      list = subst (λ (r : Reading). Spells c.loop-place.texts c.loop-place.list r.here) (sym e) i.list;
      around = subst (λ (r : Reading). AreAround c.loop-place.texts c.loop-place.around.items r.around) (sym e) i.around;
      extends = i.extends;
      names = i.names ∙ sym (ap (λ (r : Reading). fold with_name c.args.texts.now (words_behind r)) e);
    }

pub loop-place-preserved-then-is_between : goal.loop-place-preserved-then-is_between
loop-place-preserved-then-is_between c =
    let q = c.loop-place.place in
    let text = c.args.text.now in
    let i = c.loop-place.invariant in
    let r = reading (drop q text) in
    let names = c.with_word.new.texts in
    let some : 1 ≤ q = omega arith in
    let within : q ≤ length text = omega arith in
    let b = get_or text (q - 1) 0 in
    let h : between_is b ≡ true = cc in
    let e = broken text q some within h in
    let list : Spells names c.in_ok-list.list (word_read r.word r.here) = subst (λ (w : List ℕ). Spells names c.in_ok-list.list (word_read w r.here)) (same_word text q some within c.loop-place.end ∙ sym i.word) (c.in_ok-list.ensures.ok r.here i.list) in
    let names_of : Reading → List (List ℕ) = λ z. fold with_name c.args.texts.now (words_behind z) in
    let outer : List (List ℕ) = fold with_name c.args.texts.now (words_around r.around) in
    let read : names ≡ fold with_name outer (words_read (word_read r.word r.here)) = subst (λ (w : List ℕ). names ≡ fold with_name outer (words_read (word_read w r.here))) (same_word text q some within c.loop-place.end ∙ sym i.word) (c.in_ok-list.ensures.names outer r.here (list_apart c.args.texts.now c.loop-place.texts r.around r.here i.names)) in
    let around : AreAround names c.loop-place.around.items r.around = all_spell_more c.loop-place.texts names (reverse c.loop-place.around.items) r.around c.with_word.ensures.extends i.around in
    record {
      before_end = omega arith;
      within = omega arith;
      word = ap (λ (z : Reading). z.word) e ∙ (break_word b (word_read r.word r.here) r.around ∙ sym (none_taken (q - 1) (drop (q - 1) text)));
      list = subst (λ (z : Reading). Spells names c.in_ok-list-2.list z.here) (sym e) (c.in_ok-list-2.ensures.ok names (word_read r.word r.here) r.around c.is_table-then-is_between.ensures list around);
      around = subst (λ (z : Reading). AreAround names c.before-then-is_between.new.around.items z.around) (sym e) (c.in_ok-list-2.ensures.around names (word_read r.word r.here) r.around list around);
      extends = extends_then c.args.texts.now c.loop-place.texts names i.extends c.with_word.ensures.extends;
      names = list_behind c.args.texts.now names r.around (word_read r.word r.here) read ∙ (sym (break_behind c.args.texts.now c.is_table.ensures b (word_read r.word r.here) r.around) ∙ sym (ap names_of e));
    }
