-- The lines of an input, one more at a time.
use Rattle.std.proofs.Common.{◌≡◌, ◌∙◌, ap, sym, refl, ℕ, ◌+◌, ◌≤◌, List, [], ◌∷◌, ◌++◌, Some, append_assoc, take, length}
use Rattle.std.specs.Prelude.{slice_get, codes}
use Rattle.std.proofs.lemmas.List.{take_all, take_more}
use Rattle.std.proofs.lemmas.Option.{get_or_from_slice_get, slice_get_within}
use Rattle.gl_logic.specs.Object.{Object}
use Rattle.sexp_print.specs.Printed.{printed}
use Rattle.gl_book.specs.Lines.{named_line, input_lines}

input_append : (names : List (List ℕ)) (xs ys : List (ℕ × Object)) → input_lines names (xs ++ ys) ≡ input_lines names xs ++ input_lines names ys
input_append names [] ys = refl
input_append names (x ∷ xs) ys = ap (λ ls. named_line names (codes "  ") x.0 (codes " = " ++ printed names x.1) ∷ ls) (input_append names xs ys)

pub input_more : (names : List (List ℕ)) (old mid new : List (List ℕ)) (env : List (ℕ × Object)) (i : ℕ) (p : ℕ × Object) → slice_get env i ≡ Some p
    → mid ≡ old ++ input_lines names (take i env) → new ≡ mid ++ named_line names (codes "  ") p.0 (codes " = " ++ printed names p.1) ∷ []
    → new ≡ old ++ input_lines names (take (i + 1) env)
input_more names old mid new env i p at before one =
    let more : take (i + 1) env ≡ take i env ++ p ∷ [] = take_more env i p (slice_get_within env i p at) ∙ ap (λ q. take i env ++ q ∷ []) (get_or_from_slice_get env i p p at) in
    one ∙ (ap (λ ls. ls ++ input_lines names (p ∷ [])) before
    ∙ (append_assoc old (input_lines names (take i env)) (input_lines names (p ∷ []))
    ∙ ap (λ ls. old ++ ls) (sym (input_append names (take i env) (p ∷ [])) ∙ ap (input_lines names) (sym more))))

pub input_done : (names : List (List ℕ)) (old new : List (List ℕ)) (env : List (ℕ × Object)) (i : ℕ) → length env ≤ i → new ≡ old ++ input_lines names (take i env) → new ≡ old ++ input_lines names env
input_done names old new env i h e = e ∙ ap (λ xs. old ++ input_lines names xs) (take_all i env h)
