-- Bytes that come behind others, one piece after another.
use Rattle.std.proofs.Common.{◌≡◌, ◌-◌, ◌+◌, ℕ, List, ◌++◌, length, take, drop, Option, Some, None, sym, ◌∙◌, ap, subst, append_assoc, arith, length-drop, take_all, take-add, min, ◌≤◌}
use Rattle.std.proofs.lemmas.List.{take_min}
use Rattle.std.proofs.Math.Seq.{take-append-add}
use Rattle.gl_base.specs.Outside.{Grows}

pub grows-then : (a b c : Option (List ℕ)) (xs ys : List ℕ) → Grows a b xs → Grows b c ys → Grows a c (xs ++ ys)
grows-then None b c xs ys g h = tt
grows-then (Some old) b c xs ys g h = subst (λ o. Grows o c ys) g h ∙ ap (λ bs. Some bs) (append_assoc old xs ys)

-- the slice from m on is what is left behind m
pub rest_whole : (bs : List ℕ) (m : ℕ) → take (length bs - m) (drop m bs) ≡ drop m bs
rest_whole bs m = take_all (length bs - m) (drop m bs) (omega (arith, length-drop m bs))

pub grows-more : (a b c : Option (List ℕ)) (bs : List ℕ) (m n : ℕ) → Grows a b (take m bs) → Grows b c (take n (take (length bs - m) (drop m bs))) → Grows a c (take (m + n) bs)
grows-more a b c bs m n g h = subst (λ xs. Grows a c xs) (sym (take-add m n bs)) (grows-then a b c (take m bs) (take n (drop m bs)) g (subst (λ xs. Grows b c (take n xs)) (rest_whole bs m) h))

-- what fits behind the bytes that were kept
pub kept_front : (kept piece : List ℕ) (room n : ℕ) → length kept ≡ n → n ≤ room → kept ++ take (min (room - n) (length piece)) piece ≡ take room (kept ++ piece)
kept_front kept piece room n e h =
    let k : length kept + (room - n) ≡ room = omega (arith, e, h) in
    ap (λ ys. kept ++ ys) (take_min (room - n) piece) ∙ (sym (take-append-add kept piece (room - n)) ∙ ap (λ m. take m (kept ++ piece)) k)
