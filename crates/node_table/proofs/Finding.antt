-- What a search of a table says, in the words of a store whose list of nodes is read with a default.
use Rattle.std.proofs.Common.{◌≡◌, ◌≢◌, ℕ, ◌<◌, List, length, get_or, Option, None, Some, IfNone, IfSome, ap, sym, subst, ◌∙◌, inl, inr, arith}
use Rattle.std.proofs.lemmas.Bool.{cases_eq}

pub absent-then : {N : Type 0} (found : Option ℕ) (nodes seen : List N) (n d : N) → nodes ≡ seen → IfNone found ((i : ℕ) (e : N) → i < length nodes → get_or nodes i e ≢ n) → IfNone found ((i : ℕ) → i < length seen → get_or seen i d ≢ n)
absent-then None nodes seen n d are h = subst (λ ns. (i : ℕ) → i < length ns → get_or ns i d ≢ n) are (λ i l. h i d l)
absent-then (Some k) nodes seen n d are h = tt

pub found-then : {N : Type 0} (found : Option ℕ) (nodes seen : List N) (n d : N) → nodes ≡ seen → IfSome found (λ k. (k < length nodes) × ((e : N) → get_or nodes k e ≡ n)) → IfSome found (λ k. (k < length seen) × (get_or seen k d ≡ n))
found-then None nodes seen n d are h = tt
found-then (Some k) nodes seen n d are h = (omega (arith, h.0, ap length are), ap (λ ns. get_or ns k d) (sym are) ∙ h.1 d)

-- where the first node is another
pub found-later : {N : Type 0} (found : Option ℕ) (nodes seen : List N) (n d : N) → nodes ≡ seen → get_or nodes 0 d ≢ n → IfSome found (λ k. (k < length nodes) × ((e : N) → get_or nodes k e ≡ n)) → IfSome found (λ k. (0 < k) × (k < length seen) × (get_or seen k d ≡ n))
found-later None nodes seen n d are other h = tt
found-later (Some k) nodes seen n d are other h =
    let at : get_or nodes k d ≡ n = h.1 d in
    let positive : 0 < k = elim (cases_eq k 0) [
      | inl is ↦ absurd (other (ap (λ i. get_or nodes i d) (sym is) ∙ at))
      | inr more ↦ omega (arith, more)
    ] in (positive, omega (arith, h.0, ap length are), ap (λ ns. get_or ns k d) (sym are) ∙ at)
