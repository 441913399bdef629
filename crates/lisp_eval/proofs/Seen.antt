-- P and Fine as `eval` takes them: being seen by the plain walk, and having no integer part that leaves 128 bits.
use Rattle.std.proofs.Common.{◌≡◌, refl, ℕ, zero, suc, List, [], ◌∷◌, Some, subst, slice_get}
use Rattle.gl_logic.specs.Object.{Object, Int, Character, Symbol, Text, Cons, car, cdr}
use Rattle.gl_logic.specs.Width.{Fits}
use Rattle.gl_logic.specs.Wide.{IsWideObject, SomeWide}
use Rattle.gl_logic.specs.Every.{Every}
use Rattle.lisp_eval.specs.Within.{IsIn}

in_more : (x : Object) (xs ys : List Object) → Every (IsIn xs) ys → Every (IsIn (x ∷ xs)) ys
in_more x xs [] h = tt
in_more x xs (y ∷ ys) h = ((suc h.0.0, h.0.1), in_more x xs ys h.1)

-- what the plain walk sees is in what it sees: the premise of `begins`
pub every_in : (xs : List Object) → Every (IsIn xs) xs
every_in [] = tt
every_in (x ∷ xs) = ((0, refl), in_more x xs xs (every_in xs))

-- Width is licensed: a step saw a value that is wide
pub wide_seen : (xs : List Object) (x : Object) (rest : List Object) → Every (IsIn xs) (x ∷ rest) → IsWideObject x → SomeWide xs
wide_seen xs x rest h w = (h.0.0, (x, (h.0.1, w)))

-- ---- no integer part is wide
abbrev pub AllFit : Object → Type 0
AllFit (Int z) = Fits z
AllFit (Cons a d) = AllFit a × AllFit d
AllFit _ = Unit {0}

fit_not_wide : (x : Object) → AllFit x → IsWideObject x → ⊥
fit_not_wide (Int z) h w = w h
fit_not_wide (Character n) h w = w
fit_not_wide (Symbol n) h w = w
fit_not_wide (Text n) h w = w
fit_not_wide (Cons a d) h w = w

every_get : (P : Object → Type 0) (xs : List Object) (k : ℕ) (x : Object) → Every P xs → slice_get xs k ≡ Some x → P x
every_get P [] k x h e = absurd cc
every_get P (y ∷ xs) zero x h e = subst P (some_is y x e) h.0 where
  some_is : (y x : Object) → Some y ≡ Some x → y ≡ x
  some_is y x e = cc
every_get P (y ∷ xs) (suc k) x h e = every_get P xs k x h.1 e

-- Ok: nothing that the plain walk saw is wide
pub none_wide : (xs : List Object) → Every AllFit xs → SomeWide xs → ⊥
none_wide xs h w = fit_not_wide w.1.0 (every_get AllFit xs w.0 w.1.0 h w.1.1.0) w.1.1.1

-- parts are fine where the whole is: what `car` and `cdr` need in `Structural`
pub car_fits : (x : Object) → AllFit x → AllFit (car x)
car_fits (Int z) h = tt
car_fits (Character n) h = tt
car_fits (Symbol n) h = tt
car_fits (Text n) h = tt
car_fits (Cons a d) h = h.0

pub cdr_fits : (x : Object) → AllFit x → AllFit (cdr x)
cdr_fits (Int z) h = tt
cdr_fits (Character n) h = tt
cdr_fits (Symbol n) h = tt
cdr_fits (Text n) h = tt
cdr_fits (Cons a d) h = h.1
