use Rattle.std.proofs.Common.{◌∙◌, ap, sym, ◌++◌, ◌∷◌, [], take, append_assoc, get_or}
use Rattle.std.proofs.lemmas.List.{take_more}
use Rattle.sexp_print.specs.Printed.{escaped}
use Rattle.sexp_print.proofs.Escaped.{escaped_append}
use Rattle.sexp_print.proofs.atoms.append_escaped.Goals as goal

pub loop-byte-preserved : goal.loop-byte-preserved
loop-byte-preserved c =
    let bytes = c.args.bytes.now in
    let i = c.loop-byte.byte-index in
    c.in_ok-append_escaped_byte.ensures.ok
    ∙ (ap (λ xs. xs ++ escaped (get_or bytes i 0 ∷ [])) c.loop-byte.invariant
    ∙ (append_assoc c.args.out.now.items (escaped (take i bytes)) (escaped (get_or bytes i 0 ∷ []))
    ∙ ap (λ xs. c.args.out.now.items ++ xs) (sym (escaped_append (take i bytes) (get_or bytes i 0 ∷ [])) ∙ ap escaped (sym (take_more bytes i 0 c.loop-byte-test.true)))))
