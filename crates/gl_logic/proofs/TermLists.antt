-- Lists of terms are the same where their elements are.
use Rattle.std.proofs.Common.{◌≡◌, ◌∙◌, ap, sym, refl, ℕ, zero, suc, ◌<◌, List, [], ◌∷◌, map, length, get_or, arith}
use Rattle.std.proofs.lemmas.List.{length-map}
use Rattle.gl_logic.specs.Exp.{Exp, Exps, Last, More}
use Rattle.gl_logic.specs.TermOf.{exps_of, term_of, terms_of}
use Rattle.gl_logic.specs.declared.term.Term.{Term}

abbrev list_of : Exps → List Exp
list_of Last = []
list_of (More t ts) = t ∷ list_of ts

listed : (ts : List Exp) → list_of (exps_of ts) ≡ ts
listed [] = refl
listed (t ∷ ts) = ap (λ us. t ∷ us) (listed ts)

pub terms_same : (xs ys : List Term) → terms_of xs ≡ terms_of ys → map term_of xs ≡ map term_of ys
terms_same xs ys h = sym (listed (map term_of xs)) ∙ (ap list_of h ∙ listed (map term_of ys))

pub lengths_same : (xs ys : List Term) → terms_of xs ≡ terms_of ys → length xs ≡ length ys
lengths_same xs ys h = sym (length-map xs term_of) ∙ (ap length (terms_same xs ys h) ∙ length-map ys term_of)

term_at : (xs ys : List Term) (i : ℕ) (x y : Term) → map term_of xs ≡ map term_of ys → i < length xs → i < length ys → x ≡ get_or xs i x → y ≡ get_or ys i y → term_of x ≡ term_of y
term_at [] ys i x y h l m e f = absurd (omega (arith, l))
term_at (a ∷ xs) [] i x y h l m e f = absurd (omega (arith, m))
term_at (a ∷ xs) (b ∷ ys) zero x y h l m e f = let q : term_of a ≡ term_of b = cc in ap term_of e ∙ (q ∙ sym (ap term_of f))
term_at (a ∷ xs) (b ∷ ys) (suc i) x y h l m e f = let q : map term_of xs ≡ map term_of ys = cc in term_at xs ys i x y q (omega (arith, l)) (omega (arith, m)) e f

pub terms_at : (xs ys : List Term) (i : ℕ) (x y : Term) → terms_of xs ≡ terms_of ys → i < length xs → i < length ys → x ≡ get_or xs i x → y ≡ get_or ys i y → term_of x ≡ term_of y
terms_at xs ys i x y h = term_at xs ys i x y (terms_same xs ys h)

pub terms_join : (xs ys : List Term) → map term_of xs ≡ map term_of ys → terms_of xs ≡ terms_of ys
terms_join xs ys h = ap exps_of h
