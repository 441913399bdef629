-- Lists of calls, and that none is made inside itself.
use Rattle.std.proofs.Common.{◌≡◌, ◌∙◌, ap, sym, refl, ℕ, List, [], ◌∷◌, ◌++◌, Bool, true, false, Some, slice_get}
use Rattle.std.proofs.lemmas.Bool.{or_parts}
use Rattle.std.proofs.lemmas.List.Folds.{list_any-append}
use Rattle.gl_logic.specs.Object.{Object}
use Rattle.gl_logic.specs.Environment.{extended}
use Rattle.gl_logic.specs.Definition.{Definition}
use Rattle.gl_logic.specs.Walk.{Walk, CallMade, then, walk}
use Rattle.gl_logic.specs.Counts.{call_eq}
use Rattle.gl_logic.specs.Every.{Every}
use Rattle.gl_logic.proofs.Calls as calls
use Rattle.lisp_eval.specs.Threads.{is_kept}

pub absent_parts : (xs ys : List CallMade) (c : CallMade) → is_kept (xs ++ ys) c ≡ false → (is_kept xs c ≡ false) × (is_kept ys c ≡ false)
absent_parts xs ys c h = or_parts (is_kept xs c) (is_kept ys c) (sym (list_any-append (call_eq c) xs ys) ∙ h)

pub every_parts : {A : Type 0} (P : A → Type 0) (xs ys : List A) → Every P (xs ++ ys) → Every P xs × Every P ys
every_parts P [] ys h = (tt, h)
every_parts P (x ∷ xs) ys h = let k = every_parts P xs ys h.1 in ((h.0, k.0), k.1)

pub never_inside : (ds : List Definition) (n : ℕ) (f : ℕ) (xs : List Object) (d : Definition) (r : Walk) → slice_get ds f ≡ Some d → walk ds n (extended d.formals xs []) d.body ≡ Some r → is_kept r.made (f, xs) ≡ true → ⊥
never_inside ds n f xs d r e w k = calls.never_inside ds n f xs r (ap (λ p. then p (λ k. walk ds n (extended k.formals xs []) k.body)) e ∙ w) k

pub not_inside : (b : Bool) → (b ≡ true → ⊥) → b ≡ false
not_inside true h = absurd (h refl)
not_inside false h = refl
