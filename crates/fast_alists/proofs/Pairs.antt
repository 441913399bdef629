-- First pairs of lists.
use Rattle.std.proofs.Common.{◌≡◌, ap, refl, Bool, true, false, cond, Some, None}
use Rattle.gl_logic.specs.Lists.{IsAtom}
use Rattle.gl_logic.specs.Object.{Object, Int, Character, Symbol, Text, Cons}
use Rattle.gl_logic.specs.ObjectEq.{object_eq}
use Rattle.gl_logic.proofs.Equality.{equal_itself}
use Rattle.fast_alists.specs.Alists.{has_key, first_pair}

pub none_some : {A P : Type 0} (a : A) → None ≡ Some a → P
none_some a e = absurd cc

pub some_same : {A : Type 0} (a b : A) → Some a ≡ Some b → a ≡ b
some_same a b e = cc

pub cond_true : {A : Type 0} (b : Bool) (x y : A) → b ≡ true → cond b x y ≡ x
cond_true b x y e = ap (λ c. cond c x y) e

pub cond_false : {A : Type 0} (b : Bool) (x y : A) → b ≡ false → cond b x y ≡ y
cond_false b x y e = ap (λ c. cond c x y) e

-- ---- a list without elements
pub atom_first : (key x : Object) → IsAtom x → first_pair key x ≡ None
atom_first key (Int z) h = refl
atom_first key (Character n) h = refl
atom_first key (Symbol n) h = refl
atom_first key (Text n) h = refl
atom_first key (Cons a d) h = absurd h

pub atom_key : (key x : Object) → IsAtom x → has_key key x ≡ false
atom_key key (Int z) h = refl
atom_key key (Character n) h = refl
atom_key key (Symbol n) h = refl
atom_key key (Text n) h = refl
atom_key key (Cons a d) h = absurd h

-- ---- a pair in front
pub first_here : (k v rest : Object) → first_pair k (Cons (Cons k v) rest) ≡ Some (Cons k v)
first_here k v rest = cond_true (object_eq k k) (Some (Cons k v)) (first_pair k rest) (equal_itself k)

pub first_later : (key k v rest : Object) → object_eq key k ≡ false → first_pair key (Cons (Cons k v) rest) ≡ first_pair key rest
first_later key k v rest e = cond_false (object_eq key k) (Some (Cons k v)) (first_pair key rest) e

pub first_passed : (key x rest : Object) → IsAtom x → first_pair key (Cons x rest) ≡ first_pair key rest
first_passed key x rest h = cond_false (has_key key x) (Some x) (first_pair key rest) (atom_key key x h)
