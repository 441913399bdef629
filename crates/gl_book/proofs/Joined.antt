-- Lines that are joined, one after another, and what a sink has taken of them.
use Rattle.std.proofs.Common.{◌≡◌, ◌+◌, ◌≤◌, ℕ, zero, suc, List, [], ◌∷◌, ◌++◌, length, take, drop, Option, Some, refl, sym, ◌∙◌, ap, subst, append_assoc, append-nil, arith}
use Rattle.std.specs.Prelude.{slice_get, Result, Ok, Err, OnErr, OnOk}
use Rattle.std.specs.List.{concat}
use Rattle.std.proofs.Math.Seq.{take-append-add}
use Rattle.std.proofs.lemmas.List.{take-append-le}
use Rattle.gl_base.specs.Outside.{Grows, GrowsByFront}
use Rattle.gl_base.proofs.Growth.{grows-then}

pub on_err : {T E P : Type 0} (r : Result T E) → P → OnErr r P
on_err (Ok x) p = tt
on_err (Err e) p = p

pub on_ok : {T E P : Type 0} (r : Result T E) → P → OnOk r P
on_ok (Ok x) p = p
on_ok (Err e) p = tt

-- one line more
pub concat_more : (lines : List (List ℕ)) (i : ℕ) (line : List ℕ) → slice_get lines i ≡ Some line → concat (take (suc i) lines) ≡ concat (take i lines) ++ line
concat_more [] i line e = absurd cc
concat_more (l ∷ lines) zero line e = let k : l ≡ line = cc in append-nil l ∙ k
concat_more (l ∷ lines) (suc i) line e = ap (λ bs. l ++ bs) (concat_more lines i line e) ∙ sym (append_assoc l (concat (take i lines)) line)

-- the lines before a place and those from it on
pub concat_split : (lines : List (List ℕ)) (i : ℕ) → concat lines ≡ concat (take i lines) ++ concat (drop i lines)
concat_split [] zero = refl
concat_split [] (suc i) = refl
concat_split (l ∷ lines) zero = refl
concat_split (l ∷ lines) (suc i) = ap (λ bs. l ++ bs) (concat_split lines i) ∙ sym (append_assoc l (concat (take i lines)) (concat (drop i lines)))

module _ (a b c : Option (List ℕ)) (lines : List (List ℕ)) (i : ℕ) where
  -- a line more was taken
  pub line_taken : (line : List ℕ) → slice_get lines i ≡ Some line → Grows a b (concat (take i lines)) → Grows b c line → Grows a c (concat (take (suc i) lines))
  line_taken line e g h = subst (λ bs. Grows a c bs) (sym (concat_more lines i line e)) (grows-then a b c (concat (take i lines)) line g h)

  -- a front of a line was taken
  pub front_taken : (line : List ℕ) → slice_get lines i ≡ Some line → Grows a b (concat (take i lines)) → GrowsByFront b c line → (n : ℕ) × Grows a c (take n (concat lines))
  front_taken line e g h =
      let before : List ℕ = concat (take i lines) in
      let after : List ℕ = concat (drop (suc i) lines) in
      let all : concat lines ≡ before ++ (line ++ after) = concat_split lines (suc i) ∙ (ap (λ bs. bs ++ after) (concat_more lines i line e) ∙ append_assoc before line after) in
      let within : h.0 ≤ length line = omega (arith, h.1) in
      let front : take (length before + h.0) (concat lines) ≡ before ++ take h.0 line =
      ap (λ bs. take (length before + h.0) bs) all ∙ (take-append-add before (line ++ after) h.0 ∙ ap (λ bs. before ++ bs) (take-append-le h.0 line after within)) in
      (length before + h.0, subst (λ bs. Grows a c bs) (sym front) (grows-then a b c before (take h.0 line) g h.2))
