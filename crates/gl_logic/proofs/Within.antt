-- One list within another.
use Rattle.std.proofs.Common.{◌≡◌, ℕ, zero, suc, ◌≤◌, List, [], ◌∷◌, ◌++◌, Some, length, arith, slice_get, subst}
use Rattle.std.proofs.lemmas.List.{append-nil}
use Rattle.gl_logic.specs.IsWithin.{IsWithin, Nothing, Both, Skipped}
use Rattle.gl_logic.proofs.Optional.{none_some}

module _ {A : Type 0} where
  pub within_nothing : (ys : List A) → IsWithin [] ys
  within_nothing [] = Nothing
  within_nothing (y ∷ ys) = Skipped y [] ys (within_nothing ys)

  pub within_itself : (xs : List A) → IsWithin xs xs
  within_itself [] = Nothing
  within_itself (x ∷ xs) = Both x xs xs (within_itself xs)

  pub within_append : (xs ys xs' ys' : List A) → IsWithin xs ys → IsWithin xs' ys' → IsWithin (xs ++ xs') (ys ++ ys')
  within_append _ _ xs' ys' Nothing g = g
  within_append _ _ xs' ys' (Both x xs ys h) g = Both x (xs ++ xs') (ys ++ ys') (within_append xs ys xs' ys' h g)
  within_append _ _ xs' ys' (Skipped y xs ys h) g = Skipped y (xs ++ xs') (ys ++ ys') (within_append xs ys xs' ys' h g)

  pub within_length : (xs ys : List A) → IsWithin xs ys → length xs ≤ length ys
  within_length _ _ Nothing = omega arith
  within_length _ _ (Both x xs ys h) = omega (arith, within_length xs ys h)
  within_length _ _ (Skipped y xs ys h) = omega (arith, within_length xs ys h)

  pub within_at : (xs ys : List A) (k : ℕ) (x : A) → IsWithin xs ys → slice_get xs k ≡ Some x → (j : ℕ) × (slice_get ys j ≡ Some x)
  within_at _ _ k x Nothing e = none_some x e
  within_at _ _ zero z (Both x xs ys h) e = (0, e)
  within_at _ _ (suc k) z (Both x xs ys h) e = let i = within_at xs ys k z h e in (suc i.0, i.1)
  within_at _ _ k x (Skipped y xs ys h) e = let i = within_at xs ys k x h e in (suc i.0, i.1)

  pub within_behind : (zs xs ys : List A) → IsWithin zs ys → IsWithin zs (xs ++ ys)
  within_behind zs xs ys h = within_append [] xs zs ys (within_nothing xs) h

  pub within_before : (zs xs ys : List A) → IsWithin zs xs → IsWithin zs (xs ++ ys)
  within_before zs xs ys h = subst (λ (ws : List A). IsWithin ws (xs ++ ys)) (append-nil zs) (within_append zs xs [] ys h (within_nothing ys))
