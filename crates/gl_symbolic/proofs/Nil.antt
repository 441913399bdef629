-- What a test for NIL tells.
use Rattle.std.proofs.Common.{◌≡◌, ◌≢◌, ap, subst, Bool, true, false, not}
use Rattle.std.proofs.lemmas.Bool.{eqb-true}
use Rattle.gl_logic.specs.Object.{Object, Int, Character, Symbol, Text, Cons, nil}
use Rattle.gl_logic.specs.ObjectEq.{is_nil}

pub nil_told : (x : Object) → is_nil x ≡ true → x ≡ nil
nil_told (Int z) e = absurd cc
nil_told (Character n) e = absurd cc
nil_told (Symbol n) e = ap Symbol (eqb-true n 0 e)
nil_told (Text n) e = absurd cc
nil_told (Cons a d) e = absurd cc

pub nil_denied : (x : Object) → is_nil x ≡ false → x ≢ nil
nil_denied x e h = let z : is_nil nil ≡ false = subst (λ (y : Object). is_nil y ≡ false) h e in absurd cc

-- by the truth of a symbolic object
from_not : (b : Bool) (c : Bool) → b ≡ not c → b ≡ true → c ≡ false
from_not b true e h = absurd cc
from_not b false e h = cc

from_not_false : (b : Bool) (c : Bool) → b ≡ not c → b ≡ false → c ≡ true
from_not_false b true e h = cc
from_not_false b false e h = absurd cc

pub is_not_nil : (x : Object) (b : Bool) → b ≡ not (is_nil x) → b ≡ true → x ≢ nil
is_not_nil x b e h = nil_denied x (from_not b (is_nil x) e h)

pub is_nil_then : (x : Object) (b : Bool) → b ≡ not (is_nil x) → b ≡ false → x ≡ nil
is_nil_then x b e h = nil_told x (from_not_false b (is_nil x) e h)
