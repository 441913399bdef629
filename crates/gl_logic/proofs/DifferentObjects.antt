-- A list's different objects are its objects, each once.
use Rattle.std.proofs.Common.{◌≡◌, ◌≢◌, ◌∙◌, ap, sym, refl, Bool, true, false, cond, ◌||◌, List, [], ◌∷◌, subst, zero, suc, get_or, arith}
use Rattle.std.specs.List.{list_any, Contains, AllPairs}
use Rattle.std.proofs.lemmas.Bool.{true≢false}
use Rattle.std.proofs.lemmas.List.Folds.{Any-from_list_any, list_any-from_Any}
use Rattle.std.proofs.lemmas.List.Elements.{All-contains_itself}
use Rattle.gl_logic.specs.Object.{Object}
use Rattle.gl_logic.specs.ObjectEq.{object_eq}
use Rattle.gl_logic.specs.Different.{different}
use Rattle.gl_logic.proofs.Equality.{equal_from, equal_itself}

abbrev pub has : List Object → Object → Bool
has xs x = list_any (object_eq x) xs

has_added_at : (x y : Object) (ys : List Object) (e h : Bool) → object_eq x y ≡ e → has ys y ≡ h → has (cond h ys (y ∷ ys)) x ≡ (object_eq x y || has ys x)
has_added_at x y ys true true e h = ap (has ys) (equal_from x y e) ∙ (h ∙ ap (λ (b : Bool). b || has ys x) (sym e))
has_added_at x y ys false true e h = ap (λ (b : Bool). b || has ys x) (sym e)
has_added_at x y ys e false k h = refl

pub has_different : (xs : List Object) (x : Object) → has (different object_eq xs) x ≡ has xs x
has_different [] x = refl
has_different (y ∷ xs) x =
    has_added_at x y (different object_eq xs) (object_eq x y) (has (different object_eq xs) y) refl refl ∙ ap (λ (b : Bool). object_eq x y || b) (has_different xs x)

pub contains_from : (xs : List Object) (x : Object) → has xs x ≡ true → Contains xs x
contains_from xs x h =
    let a = Any-from_list_any (object_eq x) xs h in
    let e : a.1 ≡ x = sym (equal_from x a.1 a.4) in
    subst (λ (y : Object). Contains xs y) e (a.0, a.2, a.3)

pub has_from : (xs : List Object) (x : Object) → Contains xs x → has xs x ≡ true
has_from xs x c = list_any-from_Any (object_eq x) xs (c.0, x, c.1, c.2, equal_itself x)

pub different_contains : (xs : List Object) (x : Object) → Contains xs x → Contains (different object_eq xs) x
different_contains xs x c = contains_from (different object_eq xs) x (has_different xs x ∙ has_from xs x c)

pub contains_different : (xs : List Object) (x : Object) → Contains (different object_eq xs) x → Contains xs x
contains_different xs x c = contains_from xs x (sym (has_different xs x) ∙ has_from (different object_eq xs) x c)

differs : (x : Object) (ys : List Object) → has ys x ≡ false → (y : Object) → Contains ys y → x ≢ y
differs x ys h y c e = true≢false (sym (has_from ys x (subst (λ (z : Object). Contains ys z) (sym e) c)) ∙ h)

pairs_more : (x : Object) (ys : List Object) → ((y : Object) → Contains ys y → x ≢ y) → AllPairs (λ x y. x ≢ y) ys → AllPairs (λ x y. x ≢ y) (x ∷ ys)
pairs_more x ys h p i zero d l m = absurd (omega (arith, l))
pairs_more x ys h p zero (suc j) d l m = h (get_or ys j d) (All-contains_itself ys j d (omega (arith, m)))
pairs_more x ys h p (suc i) (suc j) d l m = p i j d (omega (arith, l)) (omega (arith, m))

once_added : (b : Bool) (x : Object) (ys : List Object) → has ys x ≡ b → AllPairs (λ x y. x ≢ y) ys → AllPairs (λ x y. x ≢ y) (cond b ys (x ∷ ys))
once_added true x ys h p = p
once_added false x ys h p = pairs_more x ys (differs x ys h) p

pub different_once : (xs : List Object) → AllPairs (λ x y. x ≢ y) (different object_eq xs)
different_once [] = λ i j d l m. absurd (omega (arith, m))
different_once (x ∷ xs) = once_added (has (different object_eq xs) x) x (different object_eq xs) refl (different_once xs)
