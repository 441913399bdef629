use Rattle.std.proofs.Common.{◌∙◌, ap, sym, ◌++◌, ◌∷◌, [], take, append_assoc, append-nil, get_or}
use Rattle.std.proofs.lemmas.List.{take_more}
use Rattle.explain_report.specs.Shown.{shown, shown_byte}
use Rattle.explain_report.proofs.Parts.{shown_append}
use Rattle.explain_report.proofs.shown.append_shown.Goals as goal

pub loop-byte-preserved : goal.loop-byte-preserved
loop-byte-preserved c =
    let s = c.args.style in
    let text = c.args.text.now in
    let i = c.loop-byte.byte-index in
    let b = get_or text i 0 in
    c.in_ok-append_byte.ensures
    ∙ (ap (λ xs. xs ++ shown_byte s b) c.loop-byte.invariant
    ∙ (append_assoc c.args.out.now.items (shown s (take i text)) (shown_byte s b)
    ∙ ap (λ xs. c.args.out.now.items ++ xs) (ap (λ xs. shown s (take i text) ++ xs) (sym (append-nil (shown_byte s b))) ∙ (sym (shown_append s (take i text) (b ∷ [])) ∙ ap (shown s) (sym (take_more text i 0 c.loop-byte-test.true))))))
