-- Parts of lists.
use Rattle.std.proofs.Common.{◌≡◌, List, [], ◌∷◌, ◌++◌, subst, ◌∙◌, arith}
use Rattle.std.specs.List.{All}
use Rattle.std.proofs.lemmas.List.{get_or_append_left, length-append, append_assoc}

pub all-front : {X : Type 0} (P : X → Type 0) (xs ys : List X) → All P (xs ++ ys) → All P xs
all-front P xs ys h k d under = subst P (get_or_append_left xs ys d k under) (h k d (omega (arith, under, length-append xs ys)))

-- three put last, one behind another
pub three_pushed : {X : Type 0} (e0 e1 e2 e3 : List X) (a b c : X) → e1 ≡ e0 ++ a ∷ [] → e2 ≡ e1 ++ b ∷ [] → e3 ≡ e2 ++ c ∷ [] → e3 ≡ e0 ++ (a ∷ b ∷ c ∷ [])
three_pushed e0 e1 e2 e3 a b c p q r = rw (r, q, p) (append_assoc (e0 ++ a ∷ []) (b ∷ []) (c ∷ []) ∙ append_assoc e0 (a ∷ []) (b ∷ c ∷ []))
