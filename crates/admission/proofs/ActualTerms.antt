-- What actuals are, by the list that the program keeps.
use Rattle.std.proofs.Common.{◌≡◌, ◌∙◌, ap, sym, refl, ℕ, ◌+◌, ◌<◌, ◌≤◌, List, [], ◌∷◌, Bool, true, false, eqb, Option, Some, None, length, get_or, drop, arith, slice_get, pos, negsuc}
use Rattle.std.proofs.lemmas.Option.{slice_get_within, slice_get-get_or}
use Rattle.std.proofs.lemmas.List.{drop_more, drop_all}
use Rattle.gl_logic.specs.Object.{Int, Character, Symbol, Text, Cons}
use Rattle.gl_logic.specs.Exp.{Exp, Exps, Var, Const, If, Prim, Call, Let, Last, More}
use Rattle.gl_logic.specs.TermOf.{term_of, terms_of}
use Rattle.gl_logic.specs.Steps.{is_part, is_part_first, minus_first, less_args, more_args, divides_args, actual_of}
use Rattle.gl_logic.specs.declared.prim.Primitive.{Primitive}
use Rattle.gl_logic.specs.declared.term.Term.{Term}

pub one_part : (cars : Bool) (v : ℕ) (ts : List Term) (t : Term) → length ts ≡ 1 → t ≡ get_or ts 0 t → is_part cars v (term_of t) ≡ is_part_first cars v (terms_of ts)
one_part cars v [] t h e = absurd (omega (arith, h))
one_part cars v (s ∷ []) t h e = ap (λ (z : Term). is_part cars v (term_of z)) e
one_part cars v (s ∷ r ∷ ts) t h e = absurd (omega (arith, h))

pub no_part : (cars : Bool) (v : ℕ) (ts : List Term) → (length ts ≡ 1 → ⊥) → false ≡ is_part_first cars v (terms_of ts)
no_part cars v [] h = refl
no_part cars v (s ∷ []) h = absurd (h refl)
no_part cars v (s ∷ r ∷ ts) h = refl

not_alone : (a b : Exp) (us : Exps) → 0 ≡ minus_first (More a (More b us))
not_alone (Const (Int (pos k))) b us = refl
not_alone (Const (Int (negsuc k))) b us = refl
not_alone (Const (Character x)) b us = refl
not_alone (Const (Symbol x)) b us = refl
not_alone (Const (Text x)) b us = refl
not_alone (Const (Cons x y)) b us = refl
not_alone (Var v) b us = refl
not_alone (If t p q) b us = refl
not_alone (Prim p ts) b us = refl
not_alone (Call f ts) b us = refl
not_alone (Let vs ts t) b us = refl

pub no_literal : (ts : List Term) → (length ts ≡ 1 → ⊥) → 0 ≡ minus_first (terms_of ts)
no_literal [] h = refl
no_literal (s ∷ []) h = absurd (h refl)
no_literal (s ∷ r ∷ ts) h = not_alone (term_of s) (term_of r) (terms_of ts)

pub no_less : (v : ℕ) (ts : List Term) → (length ts ≡ 2 → ⊥) → 0 ≡ less_args v (terms_of ts)
no_less v [] h = refl
no_less v (s ∷ []) h = refl
no_less v (s ∷ r ∷ []) h = absurd (h refl)
no_less v (s ∷ r ∷ q ∷ ts) h = refl

pub no_more : (v : ℕ) (ts : List Term) → (length ts ≡ 2 → ⊥) → 0 ≡ more_args v (terms_of ts)
no_more v [] h = refl
no_more v (s ∷ []) h = refl
no_more v (s ∷ r ∷ []) h = absurd (h refl)
no_more v (s ∷ r ∷ q ∷ ts) h = refl

pub no_divisor : (v : ℕ) (p : Primitive) (ts : List Term) → (length ts ≡ 2 → ⊥) → false ≡ divides_args v p (terms_of ts)
no_divisor v p [] h = refl
no_divisor v p (s ∷ []) h = refl
no_divisor v p (s ∷ r ∷ []) h = absurd (h refl)
no_divisor v p (s ∷ r ∷ q ∷ ts) h = refl

-- ---- the actual of a formal
some_same : {A : Type 0} (x y : A) → Some x ≡ Some y → x ≡ y
some_same x y e = cc

pub drop_get : {A : Type 0} (xs : List A) (i : ℕ) (x : A) → slice_get xs i ≡ Some x → drop i xs ≡ x ∷ drop (i + 1) xs
drop_get xs i x e =
    let h = slice_get_within xs i x e in
    drop_more xs i x h ∙ ap (λ y. y ∷ drop (i + 1) xs) (some_same (get_or xs i x) x (sym (slice_get-get_or xs i x h) ∙ e))

actual_here : (formals : List ℕ) (ts : List Term) (i w u : ℕ) (t : Term) → slice_get formals i ≡ Some u → i < length ts
    → actual_of (drop i formals) (terms_of (drop i ts)) w ≡ elim (eqb u w) as (λ _. Option Exp) [ true ↦ Some (term_of (get_or ts i t)) | false ↦ actual_of (drop (i + 1) formals) (terms_of (drop (i + 1) ts)) w ]
actual_here formals ts i w u t e h = λ k. actual_of (drop_get formals i u e k) (terms_of (drop_more ts i t h k)) w

picked : (b c : Bool) (p q : Option Exp) → b ≡ c → elim b as (λ _. Option Exp) [ true ↦ p | false ↦ q ] ≡ elim c as (λ _. Option Exp) [ true ↦ p | false ↦ q ]
picked b c p q e = ap (λ (x : Bool). elim x as (λ _. Option Exp) [ true ↦ p | false ↦ q ]) e

eqb_yes : (u w : ℕ) → u ≡ w → eqb u w ≡ true
eqb_yes u w h = grind arith

eqb_no : (u w : ℕ) → (u ≡ w → ⊥) → eqb u w ≡ false
eqb_no u w h = grind arith

pub actual_hit : (formals : List ℕ) (ts : List Term) (i w u : ℕ) (t : Term) (whole : Option Exp) → slice_get formals i ≡ Some u → i < length ts → u ≡ w → t ≡ get_or ts i t
    → actual_of (drop i formals) (terms_of (drop i ts)) w ≡ whole → Some (term_of t) ≡ whole
actual_hit formals ts i w u t whole e h q g k =
    ap (λ (z : Term). Some (term_of z)) g ∙ (sym (actual_here formals ts i w u t e h ∙ picked (eqb u w) true _ _ (eqb_yes u w q)) ∙ k)

some_term : (ts : List Term) (i : ℕ) → i < length ts → Term
some_term [] i h = absurd (omega (arith, h))
some_term (t ∷ ts) i h = t

pub actual_miss : (formals : List ℕ) (ts : List Term) (i w u : ℕ) (whole : Option Exp) → slice_get formals i ≡ Some u → i < length ts → (u ≡ w → ⊥)
    → actual_of (drop i formals) (terms_of (drop i ts)) w ≡ whole → actual_of (drop (i + 1) formals) (terms_of (drop (i + 1) ts)) w ≡ whole
actual_miss formals ts i w u whole e h q k = sym (actual_here formals ts i w u (some_term ts i h) e h ∙ picked (eqb u w) false _ _ (eqb_no u w q)) ∙ k

no_actual : (formals : List ℕ) (w : ℕ) → actual_of formals Last w ≡ None
no_actual [] w = refl
no_actual (u ∷ us) w = refl

pub actual_past : (formals : List ℕ) (ts : List Term) (i w : ℕ) (whole : Option Exp) → length ts ≤ i → actual_of (drop i formals) (terms_of (drop i ts)) w ≡ whole → None ≡ whole
actual_past formals ts i w whole h k = sym (ap (λ (us : List Term). actual_of (drop i formals) (terms_of us) w) (drop_all i ts h) ∙ no_actual (drop i formals) w) ∙ k
