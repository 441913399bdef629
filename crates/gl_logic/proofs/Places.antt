-- Places in a list, seen through a map.
use Rattle.std.proofs.Common.{◌≡◌, ◌∙◌, ap, sym, refl, ℕ, List, [], ◌∷◌, ◌++◌, map, Bool, true, false, cond, Some, None, length, arith, ltb, not, subst, Vec, Global}
use Rattle.std.proofs.lemmas.List.Folds.{position_or_len_push}
use Rattle.std.proofs.lemmas.List.Sums.{prefix_len-le-length}
use Rattle.std.proofs.lemmas.List.{length-append, length-map, map-append}
use Rattle.gl_logic.specs.Names.{number_of, with_name}
use Rattle.std.specs.List.{position_or_len, list_any}
use Rattle.std.specs.Prelude.{bytes_eq, position}

pub place-map : {A B : Type 0} (p : B → Bool) (f : A → B) (xs : List A) → position_or_len p (map f xs) ≡ position_or_len (λ x. p (f x)) xs
place-map p f [] = refl
place-map p f (x ∷ xs) = grind (arith, place-map p f xs)

pub length-of-map : {A B : Type 0} (f : A → B) (xs : List A) → length (map f xs) ≡ length xs
length-of-map f [] = refl
length-of-map f (x ∷ xs) = grind (arith, length-of-map f xs)

pub position-map : {A B : Type 0} (p : B → Bool) (f : A → B) (xs : List A) → position p (map f xs) ≡ position (λ x. p (f x)) xs
position-map p f xs = λ i. cond (ltb (place-map p f xs i) (length-of-map f xs i)) (Some (place-map p f xs i)) None

pub any-map : {A B : Type 0} (p : B → Bool) (f : A → B) (xs : List A) → list_any p (map f xs) ≡ list_any (λ x. p (f x)) xs
any-map p f [] = refl
any-map p f (x ∷ xs) = grind (arith, any-map p f xs)

pub bytes_same : (xs : List ℕ) → bytes_eq xs xs ≡ true
bytes_same [] = refl
bytes_same (x ∷ xs) = grind (arith, bytes_same xs)

pub found-any : {A : Type 0} (p : A → Bool) (xs : List A) → ltb (position_or_len p xs) (length xs) ≡ list_any p xs
found-any p [] = refl
found-any p (x ∷ xs) = grind (arith, found-any p xs)

-- no place before, and then the new one
pub place-last : {A : Type 0} (p : A → Bool) (xs : List A) (y : A) → list_any p xs ≡ false → p y ≡ true → position_or_len p (xs ++ y ∷ []) ≡ length xs
place-last p xs y h e = grind (arith, position_or_len_push p xs y, found-any p xs, prefix_len-le-length (λ x. not (p x)) xs, h, e)

pub place-new : {A : Type 0} (p : A → Bool) (xs : List A) (y : A) → list_any p xs ≡ false → p y ≡ true → position p (xs ++ y ∷ []) ≡ Some (length xs)
place-new p xs y h e = let q = place-last p xs y h e in grind (arith, q, length-append xs (y ∷ []))

-- what asking for a name leaves and answers
module _ (name : List ℕ) (keys : List (Vec ℕ Global)) where
  abbrev texts : List (List ℕ)
  texts = map (λ v. v.items) keys

  pub known : (n : ℕ) → position (λ v. bytes_eq name v.items) keys ≡ Some n → (position (bytes_eq name) texts ≡ Some n) × (list_any (bytes_eq name) texts ≡ true)
  known n h = let e = position-map (bytes_eq name) (λ v. v.items) keys ∙ h in (e, sym (found-any (bytes_eq name) texts) ∙ grind (arith, e))

  pub unknown : position (λ v. bytes_eq name v.items) keys ≡ None → list_any (bytes_eq name) texts ≡ false
  unknown h = let e = position-map (bytes_eq name) (λ v. v.items) keys ∙ h in sym (found-any (bytes_eq name) texts) ∙ grind (arith, e)

  pub any-keys : list_any (λ v. bytes_eq name v.items) keys ≡ list_any (bytes_eq name) texts
  any-keys = sym (any-map (bytes_eq name) (λ v. v.items) keys)

  -- the name goes last
  pub added : (v : Vec ℕ Global) (new : List (Vec ℕ Global)) (place : ℕ) → v.items ≡ name → position (λ w. bytes_eq name w.items) keys ≡ None
      → new ≡ cond (list_any (λ w. bytes_eq v.items w.items) keys) keys (keys ++ v ∷ []) → place ≡ position_or_len (λ w. bytes_eq v.items w.items) keys
      → (map (λ w. w.items) new ≡ texts ++ name ∷ []) × (place ≡ length texts)
  added v new place e none is at =
      let u = unknown none in
      let q : list_any (λ w. bytes_eq v.items w.items) keys ≡ false = subst (λ (n : List ℕ). list_any (λ w. bytes_eq n w.items) keys ≡ false) (sym e) (any-keys ∙ u) in
      let new_is : new ≡ keys ++ v ∷ [] = is ∙ ap (λ b. cond b keys (keys ++ v ∷ [])) q in (
        ap (map (λ w. w.items)) new_is ∙ (map-append (λ w. w.items) keys (v ∷ []) ∙ ap (λ n. texts ++ n ∷ []) e),
        at ∙ (grind (arith, found-any (λ w. bytes_eq v.items w.items) keys, prefix_len-le-length (λ w. not (bytes_eq v.items w.items)) keys, q) ∙ sym (length-map keys (λ w. w.items))),
      )

  pub with_it : position (λ w. bytes_eq name w.items) keys ≡ None → texts ++ name ∷ [] ≡ with_name texts name
  with_it none = let u = unknown none in grind (arith, u)

  pub its_number : position (λ w. bytes_eq name w.items) keys ≡ None → number_of name (texts ++ name ∷ []) ≡ Some (length texts)
  its_number none = place-new (bytes_eq name) texts name (unknown none) (bytes_same name)
