-- The bits of a list of edges.
use Rattle.std.proofs.Common.{◌≡◌, ℕ, zero, suc, ◌+◌, ◌-◌, ◌<◌, ◌≤◌, Bool, List, [], ◌∷◌, length, map, Some, None, slice_get, get_or, refl, sym, ◌∙◌, ap, arith}
use Rattle.gl_logic.specs.TwosComplement.{bit_of}

module _ {E : Type 0} (truth : E → Bool) where
  pub bit_below : (es : List E) (k : ℕ) (e : E) → k < length es → slice_get es k ≡ Some e → truth e ≡ bit_of (map truth es) k
  bit_below [] k e h is = absurd (omega (arith, h))
  bit_below (x ∷ []) zero e h is = ap truth (cc)
  bit_below (x ∷ []) (suc k) e h is = absurd (omega (arith, h))
  bit_below (x ∷ y ∷ es) zero e h is = ap truth (cc)
  bit_below (x ∷ y ∷ es) (suc k) e h is = bit_below (y ∷ es) k e (omega (arith, h)) is

  pub bit_above : (es : List E) (k n : ℕ) (e : E) → length es ≡ suc n → n ≤ k → slice_get es n ≡ Some e → truth e ≡ bit_of (map truth es) k
  bit_above [] k n e l h is = absurd (omega (arith, l))
  bit_above (x ∷ []) k zero e l h is = ap truth (cc)
  bit_above (x ∷ []) k (suc n) e l h is = absurd (omega (arith, l))
  bit_above (x ∷ y ∷ es) k zero e l h is = absurd (omega (arith, l))
  bit_above (x ∷ y ∷ es) zero (suc n) e l h is = absurd (omega (arith, h))
  bit_above (x ∷ y ∷ es) (suc k) (suc n) e l h is = bit_above (y ∷ es) k n e (omega (arith, l)) (omega (arith, h)) is

none_some : {E : Type 0} (e : E) → None ≡ Some e → ⊥
none_some e is = cc

pub read_at : {E : Type 0} (es : List E) (k : ℕ) (e d : E) → slice_get es k ≡ Some e → get_or es k d ≡ e
read_at [] k e d is = absurd (none_some e is)
read_at (x ∷ es) zero e d is = cc
read_at (x ∷ es) (suc k) e d is = read_at es k e d is
