-- The rest of a list from a place on.
use Rattle.std.proofs.Common.{◌≡◌, ◌∙◌, ap, sym, ℕ, ◌+◌, ◌<◌, List, ◌∷◌, length, get_or, drop, Some, Option, Bool, true, false, not, ◌&&◌, ◌||◌, refl, eqb, eq-eqb, arith, if◌then◌else◌}
use Rattle.std.specs.List.{list_any}
use Rattle.std.specs.Prelude.{slice_get}
use Rattle.std.specs.Option.{option_map}
use Rattle.std.proofs.lemmas.Option.{slice_get-map, slice_get_within, slice_get-get_or}
use Rattle.std.proofs.lemmas.List.{drop_more, length-map}
use Rattle.gl_logic.specs.Exp.{Exp}
use Rattle.gl_logic.specs.Object.{nil}
use Rattle.shape_spec.specs.ShapeSeen.{ShapeSeen, Constant}
use Rattle.shape_spec.specs.Indices.{variables_of, shapes_of}
use Rattle.coverage.specs.Covered.{is_covered, lacks_cover, first_uncovered}

some_same : {A : Type 0} (x y : A) → Some x ≡ Some y → x ≡ y
some_same x y e = cc

pub drop_get : {A : Type 0} (xs : List A) (i : ℕ) (x : A) → slice_get xs i ≡ Some x → drop i xs ≡ x ∷ drop (i + 1) xs
drop_get xs i x e =
    let h = slice_get_within xs i x e in
    drop_more xs i x h ∙ ap (λ y. y ∷ drop (i + 1) xs) (some_same (get_or xs i x) x (sym (slice_get-get_or xs i x h) ∙ e))

pub uncovered_more : (hyp concl : Exp) (b : List (ℕ × ShapeSeen)) (i v : ℕ) (s : ShapeSeen) → slice_get (variables_of b) i ≡ Some v → slice_get (shapes_of b) i ≡ Some s
    → first_uncovered hyp concl (drop i b) ≡ (if lacks_cover hyp concl v s then Some v else first_uncovered hyp concl (drop (i + 1) b))
uncovered_more hyp concl b i v s e f =
    let h : i < length b = omega (arith, slice_get_within (variables_of b) i v e, length-map b (λ p. p.0)) in
    let p : ℕ × ShapeSeen = get_or b i (0, Constant nil) in
    let g : slice_get b i ≡ Some p = slice_get-get_or b i (0, Constant nil) h in
    let first : p.0 ≡ v = some_same p.0 v (sym (slice_get-map (λ q. q.0) b i ∙ ap (option_map (λ q. q.0)) g) ∙ e) in
    let second : p.1 ≡ s = some_same p.1 s (sym (slice_get-map (λ q. q.1) b i ∙ ap (option_map (λ q. q.1)) g) ∙ f) in
    ap (first_uncovered hyp concl) (drop_get b i p g)
    ∙ (λ k. if lacks_cover hyp concl (first k) (second k) then Some (first k) else first_uncovered hyp concl (drop (i + 1) b))

pub uncovered_hit : (hyp concl : Exp) (b : List (ℕ × ShapeSeen)) (i v : ℕ) (s : ShapeSeen) (whole : Option ℕ) → slice_get (variables_of b) i ≡ Some v → slice_get (shapes_of b) i ≡ Some s
    → true ≡ lacks_cover hyp concl v s → first_uncovered hyp concl (drop i b) ≡ whole → Some v ≡ whole
uncovered_hit hyp concl b i v s whole e f t w =
    (λ k. if t k then Some v else first_uncovered hyp concl (drop (i + 1) b)) ∙ (sym (uncovered_more hyp concl b i v s e f) ∙ w)

pub uncovered_miss : (hyp concl : Exp) (b : List (ℕ × ShapeSeen)) (i v : ℕ) (s : ShapeSeen) (whole : Option ℕ) → slice_get (variables_of b) i ≡ Some v → slice_get (shapes_of b) i ≡ Some s
    → false ≡ lacks_cover hyp concl v s → first_uncovered hyp concl (drop i b) ≡ whole → first_uncovered hyp concl (drop (i + 1) b) ≡ whole
uncovered_miss hyp concl b i v s whole e f t w =
    (λ k. if t k then Some v else first_uncovered hyp concl (drop (i + 1) b)) ∙ (sym (uncovered_more hyp concl b i v s e f) ∙ w)

eqb_apart : (a b : ℕ) → (a ≡ b → ⊥) → eqb a b ≡ false
eqb_apart a b h = grind arith

pub name_hit : (v : ℕ) (xs : List ℕ) (i x : ℕ) (whole : Bool) → slice_get xs i ≡ Some x → list_any (λ u. eqb u v) (drop i xs) ≡ whole → x ≡ v → true ≡ whole
name_hit v xs i x whole e w h =
    let d : list_any (λ u. eqb u v) (x ∷ drop (i + 1) xs) ≡ whole = sym (ap (list_any (λ u. eqb u v)) (drop_get xs i x e)) ∙ w in
    let t = eq-eqb x v h in
    grind (arith, d, t)

pub name_miss : (v : ℕ) (xs : List ℕ) (i x : ℕ) (whole : Bool) → slice_get xs i ≡ Some x → list_any (λ u. eqb u v) (drop i xs) ≡ whole → (x ≡ v → ⊥) → list_any (λ u. eqb u v) (drop (i + 1) xs) ≡ whole
name_miss v xs i x whole e w h =
    let d : list_any (λ u. eqb u v) (x ∷ drop (i + 1) xs) ≡ whole = sym (ap (list_any (λ u. eqb u v)) (drop_get xs i x e)) ∙ w in
    let t = eqb_apart x v h in
    grind (arith, d, t)

-- ---- a variable that is covered, and that is not
and_not : (f : Bool) → false ≡ (f && not true)
and_not true = refl
and_not false = refl

and_true : (b : Bool) → b ≡ ((false || b) && not false)
and_true true = refl
and_true false = refl

pub lacks_none : (f c o : Bool) → o ≡ c → o ≡ true → false ≡ (f && not c)
lacks_none f c o e t = and_not f ∙ ap (λ b. f && not b) (sym t ∙ e)

pub lacks_first : (a b c o r : Bool) → o ≡ c → o ≡ false → r ≡ a → r ≡ true → r ≡ ((a || b) && not c)
lacks_first a b c o r e t f h = h ∙ (λ i. ((sym h ∙ f) i || b) && not ((sym t ∙ e) i))

pub lacks_second : (a b c o q r : Bool) → o ≡ c → o ≡ false → q ≡ a → q ≡ false → r ≡ b → r ≡ ((a || b) && not c)
lacks_second a b c o q r e t f h k = k ∙ (and_true b ∙ (λ i. ((sym h ∙ f) i || b) && not ((sym t ∙ e) i)))

pub covered_by : (said conj : List Exp) (S : Exp → Bool) (s : ShapeSeen) (o : Bool) → said ≡ conj → o ≡ is_covered said S s → o ≡ is_covered conj S s
covered_by said conj S s o e h = h ∙ ap (λ us. is_covered us S s) e
