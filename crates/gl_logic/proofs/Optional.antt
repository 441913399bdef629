-- What holds of one optional step after another.
use Rattle.std.proofs.Common.{◌≡◌, ◌∙◌, ap, refl, Bool, true, false, Option, Some, None}
use Rattle.gl_logic.specs.Walk.{then}

pub none_some : {A P : Type 0} (a : A) → None ≡ Some a → P
none_some a e = absurd cc

pub some_same : {A : Type 0} (x y : A) → Some x ≡ Some y → x ≡ y
some_same x y e = cc

pub then_inverted : {A B : Type 0} (o : Option A) (f : A → Option B) (r : B) → then o f ≡ Some r → (a : A) × ((o ≡ Some a) × (f a ≡ Some r))
then_inverted None f r e = none_some r e
then_inverted (Some a) f r e = (a, (refl, e))

-- ---- what holds of the answer, where there is one
abbrev pub Holds : {A : Type 0} → (A → Type 0) → Option A → Type 0
Holds {A} P o = (r : A) → o ≡ Some r → P r

pub then_holds : {A B : Type 0} (P : A → Type 0) (Q : B → Type 0) (o : Option A) (f : A → Option B) → Holds P o → ((a : A) → P a → Holds Q (f a)) → Holds Q (then o f)
then_holds P Q o f h g r e = let i = then_inverted o f r e in g i.0 (h i.0 i.1.0) r i.1.1

pub pick_holds : {A : Type 0} (Q : A → Type 0) (b : Bool) (p q : Option A) → Holds Q p → Holds Q q → Holds Q (elim b as (λ _. Option A) [ true ↦ p | false ↦ q ])
pick_holds Q true p q g h = g
pick_holds Q false p q g h = h

-- ---- where there is an answer, there is one beside it with the same value
abbrev pub Follows : {A V : Type 0} → (A → V) → Option A → Option A → Type 0
Follows {A} v o o' = (r : A) → o ≡ Some r → (s : A) × ((o' ≡ Some s) × (v s ≡ v r))

pub then_follows : {A B V W : Type 0} (v : A → V) (w : B → W) (o o' : Option A) (f f' : A → Option B) → Follows v o o' → ((a a' : A) → v a' ≡ v a → Follows w (f a) (f' a')) → Follows w (then o f) (then o' f')
then_follows v w o o' f f' h g r e =
    let i = then_inverted o f r e in
    let s = h i.0 i.1.0 in
    let b = g i.0 s.0 s.1.1 r i.1.1 in
    (b.0, (ap (λ o. then o f') s.1.0 ∙ b.1.0, b.1.1))

pub pick_follows : {A V : Type 0} (v : A → V) (b b' : Bool) (p p' q q' : Option A) → b' ≡ b → Follows v p p' → Follows v q q' → Follows v (elim b as (λ _. Option A) [ true ↦ p | false ↦ q ]) (elim b' as (λ _. Option A) [ true ↦ p' | false ↦ q' ])
pick_follows v true true p p' q q' e g h = g
pick_follows v true false p p' q q' e g h = absurd cc
pick_follows v false true p p' q q' e g h = absurd cc
pick_follows v false false p p' q q' e g h = h
