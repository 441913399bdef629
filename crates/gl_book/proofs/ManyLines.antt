-- A line for each of some things, one more at a time, and words behind one another.
use Rattle.std.proofs.Common.{◌≡◌, ◌∙◌, ap, sym, refl, ℕ, ◌+◌, ◌≤◌, List, [], ◌∷◌, ◌++◌, map, take, length, Some, append_assoc}
use Rattle.std.specs.Prelude.{slice_get}
use Rattle.std.proofs.lemmas.List.{take_all, take_more}
use Rattle.std.proofs.lemmas.Option.{get_or_from_slice_get, slice_get_within}

module _ {A : Type 0} (f : A → List ℕ) where
  map_last : (xs : List A) (x : A) → map f (xs ++ x ∷ []) ≡ map f xs ++ f x ∷ []
  map_last [] x = refl
  map_last (y ∷ xs) x = ap (λ ls. f y ∷ ls) (map_last xs x)

  pub mapped_more : (old mid new : List (List ℕ)) (xs : List A) (i : ℕ) (x : A) → slice_get xs i ≡ Some x → mid ≡ old ++ map f (take i xs) → new ≡ mid ++ f x ∷ [] → new ≡ old ++ map f (take (i + 1) xs)
  mapped_more old mid new xs i x at before one =
      let more : take (i + 1) xs ≡ take i xs ++ x ∷ [] = take_more xs i x (slice_get_within xs i x at) ∙ ap (λ q. take i xs ++ q ∷ []) (get_or_from_slice_get xs i x x at) in
      one ∙ (ap (λ ls. ls ++ f x ∷ []) before ∙ (append_assoc old (map f (take i xs)) (f x ∷ []) ∙ ap (λ ls. old ++ ls) (sym (map_last (take i xs) x) ∙ ap (map f) (sym more))))

  pub mapped_done : (old new : List (List ℕ)) (xs : List A) (i : ℕ) → length xs ≤ i → new ≡ old ++ map f (take i xs) → new ≡ old ++ map f xs
  mapped_done old new xs i h e = e ∙ ap (λ ys. old ++ map f ys) (take_all i xs h)

pub five_parts : (a p m q k r x1 x2 x3 x4 x5 : List ℕ) → x1 ≡ a ++ p → x2 ≡ x1 ++ m → x3 ≡ x2 ++ q → x4 ≡ x3 ++ k → x5 ≡ x4 ++ r → x5 ≡ a ++ (p ++ (m ++ (q ++ (k ++ r))))
five_parts a p m q k r x1 x2 x3 x4 x5 e1 e2 e3 e4 e5 =
    e5 ∙ (ap (λ x. x ++ r) (e4 ∙ ap (λ x. x ++ k) (e3 ∙ ap (λ x. x ++ q) (e2 ∙ ap (λ x. x ++ m) e1)))
    ∙ (append_assoc (((a ++ p) ++ m) ++ q) k r
    ∙ (append_assoc ((a ++ p) ++ m) q (k ++ r)
    ∙ (append_assoc (a ++ p) m (q ++ (k ++ r))
    ∙ append_assoc a p (m ++ (q ++ (k ++ r)))))))
