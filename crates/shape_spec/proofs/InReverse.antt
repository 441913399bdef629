-- What stands from the last to the first, read from the first on.
use Rattle.std.proofs.Common.{◌≡◌, ◌∙◌, ap, sym, refl, ℕ, ◌+◌, ◌<◌, List, [], ◌∷◌, ◌++◌, reverse, take, length, get_or, Option, Some, None, arith, append_assoc, append-nil}
use Rattle.std.specs.Option.{option_map}
use Rattle.std.proofs.lemmas.List.{reverse-append, take_all, take_more}
use Rattle.gl_logic.specs.Wording.{both, all_meant}

pub map_same : {A B : Type 0} (f g : A → B) (o : Option A) → ((x : A) → f x ≡ g x) → option_map f o ≡ option_map g o
map_same f g None h = refl
map_same f g (Some x) h = ap Some (h x)

module _ {A B : Type 0} (f : A → Option B) (xs : List A) where
  -- what is read of all is what has been read, and what the first ones mean, as many as `place`
  abbrev pub left_of : List B → ℕ → Option (List B)
  left_of done place = option_map (λ r. done ++ r) (all_meant f (reverse (take place xs)))

  id_map : (o : Option (List B)) → o ≡ option_map (λ r. [] ++ r) o
  id_map None = refl
  id_map (Some r) = refl

  pub started : (place : ℕ) → place ≡ length xs → all_meant f (reverse xs) ≡ left_of [] place
  started place e = ap (λ (ys : List A). all_meant f (reverse ys)) (sym (take_all place xs (omega (arith, e)))) ∙ id_map (all_meant f (reverse (take place xs)))

  next : (place more : ℕ) (x : A) → place < length xs → more ≡ place + 1 → x ≡ get_or xs place x → all_meant f (reverse (take more xs)) ≡ both (λ y ys. y ∷ ys) (f x) (all_meant f (reverse (take place xs)))
  next place more x h e at =
      ap (λ (ys : List A). all_meant f (reverse ys)) (ap (λ (k : ℕ). take k xs) e ∙ (take_more xs place x h ∙ ap (λ (y : A). take place xs ++ y ∷ []) (sym at)))
      ∙ ap (all_meant f) (reverse-append (take place xs) (x ∷ []))

  push_rest : (done : List B) (y : B) (o : Option (List B)) → option_map (λ r. done ++ r) (both (λ z zs. z ∷ zs) (Some y) o) ≡ option_map (λ r. (done ++ y ∷ []) ++ r) o
  push_rest done y None = refl
  push_rest done y (Some r) = ap Some (sym (append_assoc done (y ∷ []) r))

  pub read_more : (done : List B) (place more : ℕ) (x : A) (y : B) → place < length xs → more ≡ place + 1 → x ≡ get_or xs place x → f x ≡ Some y → left_of done more ≡ left_of (done ++ y ∷ []) place
  read_more done place more x y h e at is =
      ap (option_map (λ r. done ++ r)) (next place more x h e at ∙ ap (λ (o : Option B). both (λ z zs. z ∷ zs) o (all_meant f (reverse (take place xs)))) is)
      ∙ push_rest done y (all_meant f (reverse (take place xs)))

  pub read_none : (done : List B) (place more : ℕ) (x : A) → place < length xs → more ≡ place + 1 → x ≡ get_or xs place x → f x ≡ None → left_of done more ≡ None
  read_none done place more x h e at is =
      ap (option_map (λ r. done ++ r)) (next place more x h e at ∙ ap (λ (o : Option B). both (λ z zs. z ∷ zs) o (all_meant f (reverse (take place xs)))) is)

  pub read_all : (done : List B) (place : ℕ) → place ≡ 0 → left_of done place ≡ Some done
  read_all done place e = ap (left_of done) e ∙ ap Some (append-nil done)
