-- Truth values.
use Rattle.std.proofs.Common.{◌≡◌, ◌∙◌, ap, sym, refl, Bool, true, false, ◌&&◌, ◌||◌, ◌⊎◌, inl, inr}
use Rattle.gl_logic.specs.Object.{boolean_object}
use Rattle.gl_logic.specs.ObjectEq.{is_nil}

pub bool_cases : (b : Bool) → (b ≡ true) ⊎ (b ≡ false)
bool_cases true = inl refl
bool_cases false = inr refl

pub never : {P : Type 0} → false ≡ true → P
never e = absurd cc

pub and_first : (a b : Bool) → (a && b) ≡ true → a ≡ true
and_first true b h = refl
and_first false b h = h

pub and_second : (a b : Bool) → (a && b) ≡ true → b ≡ true
and_second true b h = h
and_second false b h = never h

pub and_both : {a b : Bool} → a ≡ true → b ≡ true → (a && b) ≡ true
and_both {a} {b} h k = ap (λ p. p && b) h ∙ k

pub or_either : (a b : Bool) → (a || b) ≡ true → (a ≡ true) ⊎ (b ≡ true)
or_either true b h = inl refl
or_either false b h = inr h

pub or_first : (p q : Bool) → p ≡ true → (p || q) ≡ true
or_first p q h = ap (λ b. b || q) h

pub or_second : (p q : Bool) → q ≡ true → (p || q) ≡ true
or_second true q h = refl
or_second false q h = h

-- what the code answers where it looks at the second only if the first is false
pub or_shown : (r p q : Bool) → r ≡ p → r ≡ true → r ≡ (p || q)
or_shown r p q e t = t ∙ ap (λ b. b || q) (sym t ∙ e)

pub or_left_out : (r s p q : Bool) → r ≡ p → r ≡ false → s ≡ q → s ≡ (p || q)
or_left_out r s p q e f g = g ∙ ap (λ b. b || q) (sym f ∙ e)

-- ---- as objects
pub yes : (b : Bool) → is_nil (boolean_object b) ≡ false → b ≡ true
yes true h = refl
yes false h = absurd cc

pub no : (b : Bool) → is_nil (boolean_object b) ≡ true → b ≡ false
no true h = absurd cc
no false h = refl
