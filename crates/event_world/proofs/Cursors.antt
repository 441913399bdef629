-- Lists that are read from the front, element by element.
use Rattle.std.proofs.Common.{◌≡◌, ◌∙◌, ap, sym, refl, ℕ, ◌<◌, ◌≤◌, List, [], ◌∷◌, ◌++◌, length, reverse, take, drop, get_or, ◌-◌, length-drop, Option, Some, None, arith, append_assoc, append-nil}
use Rattle.std.specs.Option.{option_map}
use Rattle.std.proofs.lemmas.List.{reverse-append, take_all}
use Rattle.gl_logic.specs.Object.{Object}
use Rattle.gl_logic.specs.Wording.{both, all_meant}
use Rattle.event_world.specs.PartsOf.{split_last}
use Rattle.event_world.specs.Keywords.{keyword_of, pairs_of}

-- ---- the last
pub split_push : (xs : List Object) (x : Object) → split_last (xs ++ x ∷ []) ≡ Some (xs, x)
split_push [] x = refl
split_push (y ∷ []) x = refl
split_push (y ∷ z ∷ zs) x = ap (option_map (λ p. (y ∷ p.0, p.1))) (split_push (z ∷ zs) x)

pub first_rest : {A : Type 0} (xs : List A) (x : A) → 1 ≤ length xs → x ≡ get_or xs 0 x → xs ≡ x ∷ drop 1 xs
first_rest [] x h = absurd (omega (arith, h))
first_rest (y ∷ ys) x h = λ e. ap (λ z. z ∷ ys) (sym e)

pub reverse_cons : {A : Type 0} (xs : List A) (x : A) → reverse (x ∷ xs) ≡ reverse xs ++ x ∷ []
reverse_cons xs x = reverse-append (x ∷ []) xs

pub last_of : (xs : List Object) (x : Object) → 1 ≤ length xs → x ≡ get_or xs 0 x → Some (reverse (take (length xs - 1) (drop 1 xs)), x) ≡ split_last (reverse xs)
last_of xs x h is = ap (λ (ys : List Object). Some (reverse ys, x)) (take_all (length xs - 1) (drop 1 xs) (omega (arith, length-drop 1 xs))) ∙ sym (ap (λ (ys : List Object). split_last (reverse ys)) (first_rest xs x h is) ∙ (ap split_last (reverse_cons (drop 1 xs) x) ∙ split_push (reverse (drop 1 xs)) x))

-- ---- what elements mean: done before what is left
module _ {A : Type 0} where
  abbrev pub behind : List A → Option (List A) → Option (List A)
  behind done o = option_map (λ ms. done ++ ms) o

  pub behind_none : (o : Option (List A)) → o ≡ behind [] o
  behind_none None = refl
  behind_none (Some ms) = refl

  pub behind_end : (done : List A) → behind done (Some []) ≡ Some done
  behind_end done = ap Some (append-nil done)

  pub behind_more : (done : List A) (y : A) (o : Option (List A)) → behind done (both (λ z zs. z ∷ zs) (Some y) o) ≡ behind (done ++ y ∷ []) o
  behind_more done y None = refl
  behind_more done y (Some ms) = ap Some (sym (append_assoc done (y ∷ []) ms))

  pub behind_others : (done more : List A) (o : Option (List A)) → behind done (both (λ ps qs. ps ++ qs) (Some more) o) ≡ behind (done ++ more) o
  behind_others done more None = refl
  behind_others done more (Some ms) = ap Some (sym (append_assoc done more ms))

module _ {A B : Type 0} (f : A → Option B) (done : List B) (left rest : List A) (x : A) (is : left ≡ x ∷ rest) where
  pub meant_more : (y : B) → f x ≡ Some y → behind done (all_meant f left) ≡ behind (done ++ y ∷ []) (all_meant f rest)
  meant_more y e = ap (λ (l : List A). behind done (all_meant f l)) is ∙ (ap (λ (o : Option B). behind done (both (λ z zs. z ∷ zs) o (all_meant f rest))) e ∙ behind_more done y (all_meant f rest))

  pub meant_none : f x ≡ None → behind done (all_meant f left) ≡ None
  meant_none e = ap (λ (l : List A). behind done (all_meant f l)) is ∙ ap (λ (o : Option B). behind done (both (λ z zs. z ∷ zs) o (all_meant f rest))) e

pub meant_end : {A B : Type 0} (f : A → Option B) (done : List B) (left : List A) → left ≡ [] → behind done (all_meant f left) ≡ Some done
meant_end f done left is = ap (λ l. behind done (all_meant f l)) is ∙ behind_end done

-- ---- the measure of such a walk
pub shorter : {A : Type 0} (left rest : List A) (x : A) → left ≡ x ∷ rest → length rest < length left
shorter left rest x is = omega (arith, ap length is)

-- ---- keywords with their values
module _ (names : List (List ℕ)) (done : List (ℕ × Object)) (left after rest : List Object) (k v : Object) (is : left ≡ k ∷ after) (next : after ≡ v ∷ rest) where
  two_more : left ≡ k ∷ v ∷ rest
  two_more = is ∙ ap (λ (l : List Object). k ∷ l) next

  pub pair_more : (t : ℕ) → keyword_of names k ≡ Some t → behind done (pairs_of names left) ≡ behind (done ++ (t, v) ∷ []) (pairs_of names rest)
  pair_more t e =
      ap (λ (l : List Object). behind done (pairs_of names l)) two_more
      ∙ (ap (λ (o : Option ℕ). behind done (both (λ u ps. (u, v) ∷ ps) o (pairs_of names rest))) e ∙ behind_more done (t, v) (pairs_of names rest))

  pub pair_none : keyword_of names k ≡ None → behind done (pairs_of names left) ≡ None
  pair_none e =
      ap (λ (l : List Object). behind done (pairs_of names l)) two_more
      ∙ ap (λ (o : Option ℕ). behind done (both (λ u ps. (u, v) ∷ ps) o (pairs_of names rest))) e
