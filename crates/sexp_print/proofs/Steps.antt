-- A list's elements, from the last of the slice to its first.
use Rattle.std.proofs.Common.{◌≡◌, ◌∙◌, ap, sym, ℕ, ◌<◌, ◌+◌, List, [], ◌∷◌, ◌++◌, append_assoc, take, length, get_or, arith}
use Rattle.std.proofs.lemmas.List.{take_all, take_more}
use Rattle.gl_logic.specs.Object.{Object, Cons}
use Rattle.gl_logic.specs.Lists.{conses}
use Rattle.gl_logic.proofs.Elements.{conses-push}
use Rattle.sexp_print.specs.Printed.{printed, rest_printed, inside_printed}

-- the element at i goes before those below it
pub element_out : (es : List Object) (i : ℕ) (x tail : Object) → i < length es → x ≡ get_or es i x → conses (take (i + 1) es) tail ≡ Cons x (conses (take i es) tail)
element_out es i x tail h e = ap (λ xs. conses xs tail) (take_more es i x h ∙ ap (λ y. take i es ++ y ∷ []) (sym e)) ∙ conses-push (take i es) x tail

pub first_step : (names : List (List ℕ)) (es : List Object) (i : ℕ) (x tail : Object) (old out : List ℕ) → i + 1 ≡ length es → x ≡ get_or es i x → out ≡ old ++ printed names x
    → out ++ rest_printed names (conses (take i es) tail) ≡ old ++ inside_printed names (conses es tail)
first_step names es i x tail old out h e is =
    let whole : conses es tail ≡ Cons x (conses (take i es) tail) = ap (λ xs. conses xs tail) (sym (take_all (i + 1) es (omega (arith, h)))) ∙ element_out es i x tail (omega (arith, h)) e in
    ap (λ xs. xs ++ rest_printed names (conses (take i es) tail)) is
    ∙ (append_assoc old (printed names x) (rest_printed names (conses (take i es) tail))
    ∙ ap (λ y. old ++ inside_printed names y) (sym whole))

pub next_step : (names : List (List ℕ)) (es : List Object) (i j : ℕ) (x tail : Object) (before blank out whole : List ℕ) → j ≡ i + 1 → i < length es → x ≡ get_or es i x
    → before ++ rest_printed names (conses (take j es) tail) ≡ whole → blank ≡ before ++ 32 ∷ [] → out ≡ blank ++ printed names x
    → out ++ rest_printed names (conses (take i es) tail) ≡ whole
next_step names es i j x tail before blank out whole k h e inv is_blank is_out =
    let rest = rest_printed names (conses (take i es) tail) in
    let list : conses (take j es) tail ≡ Cons x (conses (take i es) tail) = ap (λ n. conses (take n es) tail) k ∙ element_out es i x tail h e in
    ap (λ xs. xs ++ rest) (is_out ∙ ap (λ xs. xs ++ printed names x) is_blank)
    ∙ (append_assoc (before ++ 32 ∷ []) (printed names x) rest
    ∙ (append_assoc before (32 ∷ []) (printed names x ++ rest)
    ∙ (ap (λ y. before ++ rest_printed names y) (sym list) ∙ inv)))

-- the parentheses round what stands inside
pub closed : (names : List (List ℕ)) (x : Object) (inner rest old opened elements tailed out : List ℕ) → opened ≡ old ++ 40 ∷ [] → elements ++ rest ≡ opened ++ inner → tailed ≡ elements ++ rest → out ≡ tailed ++ 41 ∷ []
    → out ≡ old ++ (40 ∷ (inner ++ 41 ∷ []))
closed names x inner rest old opened elements tailed out a b c d =
    d ∙ (ap (λ xs. xs ++ 41 ∷ []) (c ∙ (b ∙ ap (λ xs. xs ++ inner) a))
    ∙ (append_assoc (old ++ 40 ∷ []) inner (41 ∷ []) ∙ append_assoc old (40 ∷ []) (inner ++ 41 ∷ [])))

-- a list is printed in parentheses
pub printed_list : (names : List (List ℕ)) (a d : Object) → printed names (Cons a d) ≡ 40 ∷ (inside_printed names (Cons a d) ++ 41 ∷ [])
printed_list names a d = ap (λ xs. 40 ∷ xs) (sym (append_assoc (printed names a) (rest_printed names d) (41 ∷ [])))
