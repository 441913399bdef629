-- What an outcome that is given tells of its checks.
use Rattle.std.proofs.Common.{◌≡◌, ◌∙◌, ap, sym, refl, subst, ℕ, zero, suc, Bool, true, false, not, cond, ◌&&◌, ◌||◌, eqb, List, [], ◌∷◌, Option, Some, None, arith}
use Rattle.std.specs.Prelude.{Result, Ok, Err, slice_get}
use Rattle.std.specs.List.{list_any}
use Rattle.std.specs.Option.{option_map, is_some}
use Rattle.gl_translate.specs.declared.fault.TermFault.{TermFault}
use Rattle.gl_logic.specs.Exp.{Exp}
use Rattle.gl_logic.specs.Named.{AreDifferentNames}
use Rattle.gl_logic.specs.NameSets.{are_different}
use Rattle.event_world.specs.declared.fault.EventFault.{EventFault}
use Rattle.event_world.specs.declared.fault.EventFault.TheVariants as code
use Rattle.event_world.specs.Outcomes.{Outcome, and_then, found_or, holds_or, of_term}

abbrev pub given : {A : Type 0} → A → Outcome A
given a = Ok a

pub no_code : {A : Type 0} {X : Type 0} (c : EventFault) (a : A) → Err c ≡ Ok a → X
no_code c a h = absurd cc

pub same_given : {A : Type 0} (a b : A) → given a ≡ given b → a ≡ b
same_given a b h = cc

pub then_ok : {A B : Type 0} {X : Type 0} (o : Outcome A) (f : A → Outcome B) (b : B) → and_then o f ≡ Ok b → ((a : A) → o ≡ Ok a → f a ≡ Ok b → X) → X
then_ok (Ok a) f b e g = g a refl e
then_ok (Err c) f b e g = no_code c b e

pub found_ok : {A B : Type 0} {X : Type 0} (c : EventFault) (o : Option A) (f : A → Outcome B) (b : B) → found_or c o f ≡ Ok b → ((a : A) → o ≡ Some a → f a ≡ Ok b → X) → X
found_ok c (Some a) f b e g = g a refl e
found_ok c None f b e g = no_code c b e

pub holds_ok : {B : Type 0} {X : Type 0} (c : EventFault) (t : Bool) (o : Outcome B) (b : B) → holds_or c t o ≡ Ok b → (t ≡ true → o ≡ Ok b → X) → X
holds_ok c true o b e g = g refl e
holds_ok c false o b e g = no_code c b e

pub term_ok : (r : Result Exp TermFault) (t : Exp) → of_term r ≡ Ok t → r ≡ Ok t
term_ok (Ok u) t e = let q : u ≡ t = same_given u t e in ap (λ (x : Exp). Ok x) q
term_ok (Err f) t e = no_code (code.Term f) t e

-- ---- tests
pub true_not_false : {X : Type 0} → false ≡ true → X
true_not_false h = absurd cc

pub and_true : {X : Type 0} (a b : Bool) → (a && b) ≡ true → (a ≡ true → b ≡ true → X) → X
and_true true b h g = g refl h
and_true false b h g = true_not_false h

pub or_true : {X : Type 0} (a b : Bool) → (a || b) ≡ true → (a ≡ true → X) → (b ≡ true → X) → X
or_true true b h f g = f refl
or_true false b h f g = g h

pub not_turns : (a : Bool) → not a ≡ true → a ≡ false
not_turns true h = true_not_false h
not_turns false h = refl

pub unless_true : (b : Bool) → (b ≡ true → ⊥) → b ≡ false
unless_true true h = absurd (h refl)
unless_true false h = refl

pub not_some : {A : Type 0} (o : Option A) → is_some o ≡ false → o ≡ None
not_some (Some a) h = absurd cc
not_some None h = refl

pub none_of : (a b c d : Bool) → not (a || (b || (c || d))) ≡ true → (b ≡ false) × ((c ≡ false) × (d ≡ false))
none_of true b c d h = true_not_false h
none_of false true c d h = true_not_false h
none_of false false true d h = true_not_false h
none_of false false false true h = true_not_false h
none_of false false false false h = (refl, (refl, refl))

-- ---- options
pub some_same : {A : Type 0} (x y : A) → Some x ≡ Some y → x ≡ y
some_same x y e = cc

pub none_some : {A X : Type 0} (x : A) → None ≡ Some x → X
none_some x e = absurd cc

pub map_some : {A B : Type 0} {X : Type 0} (f : A → B) (o : Option A) (b : B) → option_map f o ≡ Some b → ((a : A) → o ≡ Some a → f a ≡ b → X) → X
map_some f (Some a) b e g = g a refl (some_same (f a) b e)
map_some f None b e g = none_some b e

pub if_some : {A : Type 0} {X : Type 0} (t : Bool) (a b : A) → cond t (Some a) None ≡ Some b → (t ≡ true → a ≡ b → X) → X
if_some true a b e g = g refl (some_same a b e)
if_some false a b e g = none_some b e

-- ---- names
any_at : (xs : List ℕ) (j : ℕ) (name : ℕ) → slice_get xs j ≡ Some name → list_any (eqb name) xs ≡ true
any_at [] zero name e = none_some name e
any_at [] (suc j) name e = none_some name e
any_at (x ∷ xs) zero name e = let q : x ≡ name = some_same x name e in subst (λ (z : ℕ). (eqb name z || list_any (eqb name) xs) ≡ true) (sym q) (grind arith)
any_at (x ∷ xs) (suc j) name e = elim (eqb name x) as (λ b. (b || list_any (eqb name) xs) ≡ true) [ true ↦ refl | false ↦ any_at xs j name e ]

twice : {X : Type 0} (x : ℕ) (xs : List ℕ) (j : ℕ) → (not (list_any (eqb x) xs) && are_different xs) ≡ true → slice_get xs j ≡ Some x → X
twice x xs j h e = and_true (not (list_any (eqb x) xs)) (are_different xs) h (λ p q. true_not_false (sym (ap not (any_at xs j x e)) ∙ p))

pub different_names : (xs : List ℕ) → are_different xs ≡ true → AreDifferentNames xs
different_names [] h zero j name p q = none_some name p
different_names [] h (suc i) j name p q = none_some name p
different_names (x ∷ xs) h zero zero name p q = refl
different_names (x ∷ xs) h zero (suc j) name p q = twice x xs j h (q ∙ sym p)
different_names (x ∷ xs) h (suc i) zero name p q = twice x xs i h (p ∙ sym q)
different_names (x ∷ xs) h (suc i) (suc j) name p q = and_true (not (list_any (eqb x) xs)) (are_different xs) h (λ a b. ap suc (different_names xs b i j name p q))
