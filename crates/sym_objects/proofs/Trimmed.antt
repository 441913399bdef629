-- Bits with no sign twice.
use Rattle.std.proofs.Common.{◌≡◌, ◌≢◌, ℕ, ◌+◌, ◌<◌, ◌≤◌, Bool, true, false, true≢false, ◌&&◌, if◌then◌else◌, eqb, List, [], ◌∷◌, length, map, refl, ap, sym, ◌∙◌, arith, inl, inr, drop, slice_get, Some, suc, ◌-◌}
use Rattle.std.specs.Prelude.{◌+ℤ◌}
use Rattle.std.specs.List.{All, list_all}
use Rattle.std.proofs.Math.Seq.{drop-cons}
use Rattle.std.proofs.Math.ListN.{drop_of_length-le}
use Rattle.std.proofs.lemmas.List.{length-drop}
use Rattle.std.proofs.lemmas.Option.{get_or_from_slice_get}
use Rattle.std.proofs.lemmas.Bool.Decides.{eqb_tells}
use Rattle.bfr_store.specs.declared.edge.Edge.{Edge}
use Rattle.gl_logic.specs.TwosComplement.{digit, integer_of}
use Rattle.sym_objects.specs.Bits.{put_bit, trimmed, IsTrimmed}

-- a bit in front doubles the others
pub integer_cons : (b : Bool) (bs : List Bool) → 1 ≤ length bs → integer_of (b ∷ bs) ≡ digit b +ℤ (integer_of bs +ℤ integer_of bs)
integer_cons b [] h = absurd (omega (arith, h))
integer_cons b (c ∷ cs) h = refl

-- a sign that is there twice
sign_twice : (b : Bool) → integer_of (b ∷ []) ≡ digit b +ℤ (integer_of (b ∷ []) +ℤ integer_of (b ∷ []))
sign_twice true = refl
sign_twice false = refl

and_twice : (b : Bool) → (b && true) ≡ (b && (b && true))
and_twice true = refl
and_twice false = refl

-- what a bit in front comes to: the sign alone where it repeats it, or one bit more
pub record PutsBit (e : Edge) (fs es : List Edge) : Type 0 where
  pub value : (t : Edge → Bool) → integer_of (map t es) ≡ digit (t e) +ℤ (integer_of (map t fs) +ℤ integer_of (map t fs))
  pub all : (p : Edge → Bool) → list_all p es ≡ (p e && list_all p fs)
  pub some : 1 ≤ length es
  pub most : length es ≤ length fs + 1

edge_is : (e f : Edge) → e.number ≡ f.number → e ≡ f
edge_is e f h = λ i. record { number = h i }

by_test : (e f : Edge) (t : Bool) → eqb e.number f.number ≡ t → PutsBit e (f ∷ []) (if t then f ∷ [] else (e ∷ f ∷ []))
by_test e f true h =
    let same : e.number ≡ f.number = elim (eqb_tells e.number f.number) [ inl is ↦ is.1 | inr other ↦ absurd (true≢false (sym h ∙ other.0)) ] in
    let is : e ≡ f = edge_is e f same in
    record {
      value = λ t. sign_twice (t f) ∙ ap (λ (x : Edge). digit (t x) +ℤ (integer_of (t f ∷ []) +ℤ integer_of (t f ∷ []))) (sym is);
      all = λ p. and_twice (p f) ∙ ap (λ (x : Edge). p x && (p f && true)) (sym is);
      some = omega arith;
      most = omega arith;
    }
by_test e f false h = record { value = λ t. refl; all = λ p. refl; some = omega arith; most = omega arith }

pub puts_bit : (e : Edge) (fs : List Edge) → 1 ≤ length fs → PutsBit e fs (put_bit e fs)
puts_bit e [] h = absurd (omega (arith, h))
puts_bit e (f ∷ []) h = by_test e f (eqb e.number f.number) refl
puts_bit e (f ∷ f' ∷ fs) h = record { value = λ t. refl; all = λ p. refl; some = omega arith; most = omega arith }

-- trimmed bits say the same
pub record Trims (es fs : List Edge) : Type 0 where
  pub value : (t : Edge → Bool) → integer_of (map t fs) ≡ integer_of (map t es)
  pub all : (p : Edge → Bool) → list_all p fs ≡ list_all p es
  pub some : 1 ≤ length fs
  pub most : length fs ≤ length es

pub trims : (es : List Edge) → 1 ≤ length es → Trims es (trimmed es)
trims [] h = absurd (omega (arith, h))
trims (e ∷ []) h = record { value = λ t. refl; all = λ p. refl; some = omega arith; most = omega arith }
trims (e ∷ f ∷ es) h =
    let rest = trims (f ∷ es) (omega arith) in
    let put = puts_bit e (trimmed (f ∷ es)) rest.some in
    record {
      value = λ t. put.value t ∙ (λ i. digit (t e) +ℤ (rest.value t i +ℤ rest.value t i));
      all = λ p. put.all p ∙ ap (λ b. p e && b) (rest.all p);
      some = put.some;
      most = omega (arith, put.most, rest.most);
    }

-- a bit in front that is no sign twice
pub put_other : (e : Edge) (fs : List Edge) → fs ≢ e ∷ [] → put_bit e fs ≡ e ∷ fs
put_other e [] h = refl
put_other e (f ∷ []) h = elim (eqb_tells e.number f.number) [
  | inl is ↦ absurd (h (ap (λ (x : Edge). x ∷ []) (edge_is f e (sym is.1))))
  | inr other ↦ ap (λ b. if b then f ∷ [] else (e ∷ f ∷ [])) other.0
]
put_other e (f ∷ f' ∷ fs) h = refl

pub put_same : (e : Edge) → put_bit e (e ∷ []) ≡ e ∷ []
put_same e = elim (eqb_tells e.number e.number) [
  | inl is ↦ ap (λ b. if b then e ∷ [] else (e ∷ e ∷ [])) is.0
  | inr other ↦ absurd (other.1 refl)
]

pub trimmed_cons : (e : Edge) (fs : List Edge) → IsTrimmed fs → fs ≢ e ∷ [] → IsTrimmed (e ∷ fs)
trimmed_cons e [] t h = tt
trimmed_cons e (f ∷ []) t h = λ is. h (λ i. sym is i ∷ [])
trimmed_cons e (f ∷ f' ∷ fs) t h = t

-- the bits from a place on
pub drop_at : (es : List Edge) (k : ℕ) (e : Edge) → 0 < k → k ≤ length es → slice_get es (k - 1) ≡ Some e → drop (k - 1) es ≡ e ∷ drop k es
drop_at es k e h l is =
    let next : suc (k - 1) ≡ k = omega (arith, h) in
    drop-cons es (k - 1) e (omega (arith, h, l)) ∙ (λ i. get_or_from_slice_get es (k - 1) e e is i ∷ drop (next i) es)

-- live edges' truths alone count
pub map_same : (t u : Edge → Bool) (live : Edge → Type 0) → ((c : Edge) → live c → t c ≡ u c) → (es : List Edge) → All live es → map t es ≡ map u es
map_same t u live s [] h = refl
map_same t u live s (e ∷ es) h = λ i. s e (h 0 e (omega arith)) i ∷ map_same t u live s es (λ k d l. h (suc k) d (omega (arith, l))) i

pub drop_last : (es : List Edge) (k : ℕ) (e : Edge) → k ≡ length es → 0 < k → slice_get es (k - 1) ≡ Some e → drop (k - 1) es ≡ e ∷ []
drop_last es k e l h is = drop_at es k e h (omega (arith, l)) is ∙ ap (λ xs. e ∷ xs) (drop_of_length-le es (omega (arith, l)))

-- one bit more in front of trimmed ones
pub trimmed_next : (es : List Edge) (k : ℕ) (e : Edge) (bits bs : List Edge) → 0 < k → k < length es → slice_get es (k - 1) ≡ Some e → bs ≡ trimmed (drop k es) → bits ≡ put_bit e bs → bits ≡ trimmed (drop (k - 1) es)
trimmed_next es k e bits bs h l is t p = p ∙ (ap (put_bit e) t ∙ ap trimmed (sym (drop_at es k e h (omega (arith, l)) is)))

pub trimmed_few : (es : List Edge) (k : ℕ) (bs : List Edge) → 0 < k → k < length es → length es ≤ 128 → bs ≡ trimmed (drop k es) → length bs < 128
trimmed_few es k bs h l m t =
    let many : length (drop k es) ≡ length es - k = length-drop k es in
    omega (arith, ap length t, (trims (drop k es) (omega (arith, many, l))).most, many, m, h, l)
