-- Numbers that are tried one after the other.
use Rattle.std.proofs.Common.{◌≡◌, ◌∙◌, ap, sym, refl, subst, ℕ, suc, get_or, length, ◌+◌, ◌*◌, ◌/◌, ◌<◌, ◌≤◌, arith, Bool, true, false, List, [], ◌∷◌, ◌++◌, inl, inr}
use Rattle.std.specs.Prelude.{◌↔◌, ◌||◌}
use Rattle.std.proofs.Math.Nat.{add-div_right, mul-div_cancel_left, div-mul-le_self}
use Rattle.std.proofs.lemmas.Nat.{le-div}
use Rattle.std.proofs.lemmas.Bool.{cases_lt}
use Rattle.gl_logic.specs.Object.{Object, nil}
use Rattle.gl_logic.specs.Evaluate.{HasValue}
use Rattle.gl_logic.specs.WorldSeen.{WorldSeen}
use Rattle.gl_logic.proofs.Walks.{value_unique}
use Rattle.shape_spec.specs.Theorems.{IsMet}
use Rattle.shape_spec.specs.TheoremSeen.{TheoremSeen}
use Rattle.gl_decide.specs.TheoremAt.{input_at}
use Rattle.gl_decide.specs.Verdicts.{Refutes}
use Rattle.gl_decide.specs.Scans.{NoneRefutes, SomeMeets, IsProperAmong}
use Rattle.gl_decide.specs.Pieces.{Follow, IsProperOf, AreProper, joined_with}
use Rattle.gl_decide.specs.declared.piece.Piece.{Piece}
use Rattle.gl_decide.specs.declared.scanned.Scan.{Scan}
use Rattle.gl_decide.specs.declared.scanned.Scan.TheVariants as scan

module _ (w : WorldSeen) (thm : TheoremSeen) where
  -- ---- what one input tells
  pub unmet : (env : List (ℕ × Object)) → HasValue w.definitions env thm.hyp nil → IsMet w.definitions thm.hyp env → ⊥
  unmet env h m = m.2 (value_unique w.definitions env thm.hyp m.0 nil m.1 h)

  pub unmet_passes : (env : List (ℕ × Object)) → HasValue w.definitions env thm.hyp nil → Refutes w thm env → ⊥
  unmet_passes env h r = unmet env h r.0

  pub met_passes : (env : List (ℕ × Object)) → IsMet w.definitions thm.concl env → Refutes w thm env → ⊥
  met_passes env m r = m.2 (value_unique w.definitions env thm.concl m.0 nil m.1 r.1)

  -- ---- one number more
  pub none_yet : (first : ℕ) → NoneRefutes w thm first first
  none_yet first n l m r = absurd (omega (arith, l, m))

  pub none_more : (first n : ℕ) → NoneRefutes w thm first n → (Refutes w thm (input_at thm n) → ⊥) → NoneRefutes w thm first (n + 1)
  none_more first n h last k l m r = elim (cases_lt k n) [
    | inl b ↦ h k l b r
    | inr e ↦ let same : k ≡ n = omega (arith, e, m) in last (subst (λ (j : ℕ). Refutes w thm (input_at thm j)) same r)
  ]

  pub some_yet : (first : ℕ) → (false ≡ true) ↔ SomeMeets w thm first first
  some_yet first = ((λ e. absurd cc), (λ s. absurd (omega (arith, s.1, s.2))))

  -- the next number meets the hypothesis, or does not
  pub some_more : (first n : ℕ) → first ≤ n → IsMet w.definitions thm.hyp (input_at thm n) → (true ≡ true) ↔ SomeMeets w thm first (n + 1)
  some_more first n l m = ((λ e. (n, l, omega arith, m)), (λ s. refl))

  pub some_stays : (met : Bool) (first n : ℕ) → (IsMet w.definitions thm.hyp (input_at thm n) → ⊥) → ((met ≡ true) ↔ SomeMeets w thm first n) → (met ≡ true) ↔ SomeMeets w thm first (n + 1)
  some_stays met first n h s = (
    (λ e. let x = s.0 e in (x.0, x.1, omega (arith, x.2), x.3)),
    (λ x. elim (cases_lt x.0 n) [
      | inl b ↦ s.1 (x.0, x.1, b, x.3)
      | inr e ↦ let same : x.0 ≡ n = omega (arith, e, x.2) in absurd (h (subst (λ (j : ℕ). IsMet w.definitions thm.hyp (input_at thm j)) same x.3))
    ]),
  )

  -- ---- ranges that follow one another
  pub none_then : (a b c : ℕ) → NoneRefutes w thm a b → NoneRefutes w thm b c → NoneRefutes w thm a c
  none_then a b c h k n l m r = elim (cases_lt n b) [
    | inl e ↦ h n l e r
    | inr e ↦ k n e m r
  ]

  some_then : (met m : Bool) (a c : ℕ) → a ≤ c → ((met ≡ true) ↔ SomeMeets w thm 0 a) → ((m ≡ true) ↔ SomeMeets w thm a c) → ((met || m) ≡ true) ↔ SomeMeets w thm 0 c
  some_then true m a c l s t = ((λ _. let x = s.0 refl in (x.0, x.1, omega (arith, x.2, l), x.3)), (λ _. refl))
  some_then false m a c l s t = (
    (λ e. let x = t.0 e in (x.0, omega arith, x.2, x.3)),
    (λ x. elim (cases_lt x.0 a) [
      | inl b ↦ let e : false ≡ true = s.1 (x.0, x.1, b, x.3) in absurd cc
      | inr b ↦ t.1 (x.0, b, x.2, x.3)
    ]),
  )

  pub follow_le : (a b : ℕ) (ps : List Piece) → Follow a ps b → a ≤ b
  follow_le a b [] f = omega (arith, f)
  follow_le a b (q ∷ ps) f = omega (arith, f.0, q.has_numbers, follow_le q.end b ps f.1)

  module _ (steps cells : ℕ) where
    abbrev IsProperIn : ℕ → ℕ → Scan → Type 0
    IsProperIn a b s = IsProperAmong w steps cells thm a b s

    pub joined_proper : (a b : ℕ) (ps : List Piece) (ss : List Scan) → Follow a ps b → AreProper w steps cells thm ps ss → (met : Bool) → NoneRefutes w thm 0 a → ((met ≡ true) ↔ SomeMeets w thm 0 a) → IsProperIn 0 b (joined_with met ss)
    joined_proper a b [] [] f p met h s = (subst (NoneRefutes w thm 0) f h, subst (λ (c : ℕ). (met ≡ true) ↔ SomeMeets w thm 0 c) f s)
    joined_proper a b [] (t ∷ ss) f p met h s = absurd p
    joined_proper a b (q ∷ ps) [] f p met h s = absurd p
    joined_proper a b (q ∷ ps) (scan.Clean m ∷ ss) f p met h s =
        let here : IsProperIn a q.end (scan.Clean m) = subst (λ (c : ℕ). IsProperIn c q.end (scan.Clean m)) f.0 p.0 in
        let l : a ≤ q.end = omega (arith, f.0, q.has_numbers) in
        joined_proper q.end b ps ss f.1 p.1 (met || m) (none_then 0 a q.end h here.0) (some_then met m a q.end l s here.1)
    joined_proper a b (q ∷ ps) (scan.Refutes k ∷ ss) f p met h s =
        let here : IsProperIn a q.end (scan.Refutes k) = subst (λ (c : ℕ). IsProperIn c q.end (scan.Refutes k)) f.0 p.0 in
        (omega arith, omega (arith, here.1, follow_le q.end b ps f.1), here.2, none_then 0 a k h here.3)
    joined_proper a b (q ∷ ps) (scan.Stopped k part f0 ∷ ss) f p met h s =
        let here : IsProperIn a q.end (scan.Stopped k part f0) = subst (λ (c : ℕ). IsProperIn c q.end (scan.Stopped k part f0)) f.0 p.0 in
        (omega arith, omega (arith, here.1, follow_le q.end b ps f.1), here.2, here.3, none_then 0 a k h here.4)
    joined_proper a b (q ∷ ps) (scan.Memory ∷ ss) f p met h s = tt

    pub all_proper : (ps : List Piece) (ss : List Scan) → length ss ≡ length ps → ((i : ℕ) (p : Piece) (s : Scan) → i < length ps → IsProperOf w steps cells thm (get_or ps i p) (get_or ss i s)) → AreProper w steps cells thm ps ss
    all_proper [] [] e h = tt
    all_proper [] (s ∷ ss) e h = absurd (omega (arith, e))
    all_proper (p ∷ ps) [] e h = absurd (omega (arith, e))
    all_proper (p ∷ ps) (s ∷ ss) e h = (h 0 p s (omega arith), all_proper ps ss (omega (arith, e)) (λ i q t l. h (suc i) q t (omega (arith, l))))

-- ---- pieces
pub follow_push : (a b : ℕ) (ps : List Piece) (q : Piece) → Follow a ps b → q.first ≡ b → Follow a (ps ++ q ∷ []) q.end
follow_push a b [] q f e = (e ∙ sym f, refl)
follow_push a b (p ∷ ps) q f e = (f.0, follow_push p.end b ps q f.1 e)

pub part_grows : (k count parts : ℕ) → 0 < parts → parts ≤ count → k * count / parts < (k + 1) * count / parts
part_grows k count parts some few =
    let next : k * count / parts + 1 ≡ (k * count + parts) / parts = sym (add-div_right (k * count) some) in
    let more : (k * count + parts) / parts ≤ (k * count + count) / parts = div-mono parts (k * count + parts) (k * count + count) some (omega (arith, few)) in
    let same : (k + 1) * count ≡ k * count + count = omega arith in
    let e : (k + 1) * count / parts ≡ (k * count + count) / parts = ap (λ n. n / parts) same in
    omega (arith, next, more, e)
  where
    div-mono : (p m n : ℕ) → 0 < p → m ≤ n → m / p ≤ n / p
    div-mono p m n some l = le-div (m / p) n p some (omega (arith, div-mul-le_self m p, l))

pub all_parts : (count parts : ℕ) → 0 < parts → parts * count / parts ≡ count
all_parts count parts some = mul-div_cancel_left count some
