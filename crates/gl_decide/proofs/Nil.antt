-- What a test for NIL tells.
use Rattle.std.proofs.Common.{◌≡◌, ◌≢◌, ap, subst, Bool, true, false, inl, inr, ◌⊎◌}
use Rattle.std.proofs.lemmas.Bool.{eqb-true}
use Rattle.gl_logic.specs.Object.{Object, Int, Character, Symbol, Text, Cons, nil}
use Rattle.gl_logic.specs.ObjectEq.{is_nil}

pub nil_told : (x : Object) → is_nil x ≡ true → x ≡ nil
nil_told (Int z) e = absurd cc
nil_told (Character n) e = absurd cc
nil_told (Symbol n) e = ap Symbol (eqb-true n 0 e)
nil_told (Text n) e = absurd cc
nil_told (Cons a d) e = absurd cc

pub nil_denied : (x : Object) → is_nil x ≡ false → x ≢ nil
nil_denied x e h = let z : is_nil nil ≡ false = subst (λ (y : Object). is_nil y ≡ false) h e in absurd cc

pub nil_or_not : (x : Object) (b : Bool) → is_nil x ≡ b → (x ≡ nil) ⊎ (x ≢ nil)
nil_or_not x true e = inl (nil_told x e)
nil_or_not x false e = inr (nil_denied x e)
