-- Owned texts by their number.
use Rattle.std.proofs.Common.{◌≡◌, ◌<◌, ◌≤◌, ℕ, zero, suc, true, false, List, [], ◌∷◌, length, drop, get_or, Some, String, Vec, string_bytes, refl, arith}
use Rattle.std.specs.Prelude.{bytes_eq}
use Rattle.gl_base.specs.NamedTexts.{named, text_named, text_at}

module _ {Y Z : Type 0} where
  pub text_here : (texts : List (String Y × Vec ℕ Z)) (n : ℕ) (t : String Y × Vec ℕ Z) → n < length texts → (get_or texts n t).1.items ≡ text_at (named texts) n
  text_here [] n t h = absurd (omega (arith, h))
  text_here (u ∷ texts) zero t h = refl
  text_here (u ∷ texts) (suc n) t h = text_here texts n t (omega (arith, h))

  pub no_text_here : (texts : List (String Y × Vec ℕ Z)) (n : ℕ) → length texts ≤ n → [] ≡ text_at (named texts) n
  no_text_here [] n h = refl
  no_text_here (u ∷ texts) zero h = absurd (omega (arith, h))
  no_text_here (u ∷ texts) (suc n) h = no_text_here texts n (omega (arith, h))

  pub named_here : (texts : List (String Y × Vec ℕ Z)) (name : List ℕ) (n : ℕ) (t : String Y × Vec ℕ Z) → n < length texts → t ≡ get_or texts n t → bytes_eq (string_bytes t.0) name ≡ true → text_named (named (drop n texts)) name ≡ Some (text_at (named texts) n)
  named_here [] name n t h e b = absurd (omega (arith, h))
  named_here (u ∷ texts) name zero t h e b = let k : bytes_eq (string_bytes u.0) name ≡ true = rw e at b in rw k refl
  named_here (u ∷ texts) name (suc n) t h e b = named_here texts name n t (omega (arith, h)) e b

  pub not_named_here : (texts : List (String Y × Vec ℕ Z)) (name : List ℕ) (n : ℕ) (t : String Y × Vec ℕ Z) → n < length texts → t ≡ get_or texts n t → bytes_eq (string_bytes t.0) name ≡ false → text_named (named (drop n texts)) name ≡ text_named (named (drop (suc n) texts)) name
  not_named_here [] name n t h e b = absurd (omega (arith, h))
  not_named_here (u ∷ texts) name zero t h e b = let k : bytes_eq (string_bytes u.0) name ≡ false = rw e at b in rw k refl
  not_named_here (u ∷ texts) name (suc n) t h e b = not_named_here texts name n t (omega (arith, h)) e b
