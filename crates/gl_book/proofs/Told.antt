-- What is told of lines that stand behind one another.
use Rattle.std.proofs.Common.{◌≡◌, ◌∙◌, ap, sym, subst, refl, ℕ, ◌<◌, ◌+◌, ◌-◌, List, [], ◌∷◌, ◌++◌, length, take, drop, get_or, true, false, Bool, Option, Some, None, append_assoc, append-nil, length-append, arith}
use Rattle.std.specs.List.{flat_map}
use Rattle.std.proofs.lemmas.List.{take_all, take-append-drop}
use Rattle.std.proofs.lemmas.List.Folds.{concat-append}
use Rattle.std.proofs.lemmas.List.Concat.{flat_map-append}
use Rattle.std.proofs.Math.Seq.{take-append_seam, get_or-append-add}
use Rattle.gl_base.specs.Outside.{Grows, Stays}
use Rattle.gl_base.proofs.Growth.{grows-then}
use Rattle.gl_book.specs.Transcript.{told}
use Rattle.gl_book.specs.Stops.{told_before}
use Rattle.gl_book.specs.Entry.{Entry}
use Rattle.gl_book.specs.Lines.{entry_lines, transcript_lines, counts_of, done_line}

-- ---- fronts
pub grows_nothing : (a : Option (List ℕ)) → Grows a a []
grows_nothing None = tt
grows_nothing (Some old) = ap Some (sym (append-nil old))

pub grows_same : (a b c : Option (List ℕ)) (bytes : List ℕ) → Grows a b bytes → c ≡ b → Grows a c bytes
grows_same a b c bytes g e = subst (λ (o : Option (List ℕ)). Grows a o bytes) (sym e) g

-- what was taken stays
pub grows_stays : (a b c : Option (List ℕ)) (bytes : List ℕ) → Grows a b bytes → Stays b c → Grows a c bytes
grows_stays None b c bytes g s = tt
grows_stays (Some old) b c bytes g s = subst (λ (o : Option (List ℕ)). Stays o c) g s

pub grows_is : (a b : Option (List ℕ)) (xs ys : List ℕ) → Grows a b xs → xs ≡ ys → Grows a b ys
grows_is a b xs ys g e = subst (Grows a b) e g

pub front_of : (a b : Option (List ℕ)) (whole front tail : List ℕ) → whole ≡ front ++ tail → Grows a b front → (n : ℕ) × Grows a b (take n whole)
front_of a b whole front tail is g = (length front, grows_is a b front (take (length front) whole) g (sym (ap (take (length front)) is ∙ take-append_seam front tail)))

-- all of a line is a front of it
pub whole_front : (old mid new : Option (List ℕ)) (line : List ℕ) → Grows old mid line → new ≡ mid → (n : ℕ) × Grows old new (take n line)
whole_front old mid new line h e = (length line, subst (λ (o : Option (List ℕ)). Grows old o (take (length line) line)) (sym e) (subst (Grows old mid) (sym (take_all (length line) line (omega arith))) h))

-- what was written, and then a front of what comes next
pub front_then : (a b c : Option (List ℕ)) (whole xs ys tail : List ℕ) → whole ≡ xs ++ (ys ++ tail) → Grows a b xs → (n : ℕ) × Grows b c (take n ys) → (n : ℕ) × Grows a c (take n whole)
front_then a b c whole xs ys tail is g h =
    front_of a c whole (xs ++ take h.0 ys) (drop h.0 ys ++ tail)
    (is ∙ (ap (λ bs. xs ++ (bs ++ tail)) (sym (take-append-drop h.0 ys)) ∙ (ap (λ bs. xs ++ bs) (append_assoc (take h.0 ys) (drop h.0 ys) tail) ∙ sym (append_assoc xs (take h.0 ys) (drop h.0 ys ++ tail)))))
    (grows-then a b c xs (take h.0 ys) g h.1)

-- ---- lines
last_of : (xs ys : List (List ℕ)) → 0 < length ys → get_or (xs ++ ys) (length (xs ++ ys) - 1) [] ≡ get_or ys (length ys - 1) []
last_of xs ys some =
    let at : length (xs ++ ys) - 1 ≡ length xs + (length ys - 1) = omega (arith, some, length-append xs ys) in
    ap (λ n. get_or (xs ++ ys) n []) at ∙ get_or-append-add xs ys (length ys - 1) []

pub told_split : (last : Bool) (xs ys : List (List ℕ)) → 0 < length ys → told last (xs ++ ys) ≡ told_before last xs ++ told last ys
told_split true xs ys some = last_of xs ys some
told_split false xs ys some = concat-append xs ys

pub told_before_split : (last : Bool) (xs ys : List (List ℕ)) → told_before last (xs ++ ys) ≡ told_before last xs ++ told_before last ys
told_before_split true xs ys = refl
told_before_split false xs ys = concat-append xs ys

-- ---- entries
abbrev pub so_far : Bool → List (List ℕ) → List Entry → List ℕ
so_far last names done = told_before last (flat_map (entry_lines names) done)

module _ (last : Bool) (names : List (List ℕ)) (done : List Entry) where
  -- the whole of these entries and more is what is told so far, and something behind it
  pub told_whole : (more : List Entry) → told last (transcript_lines names (done ++ more)) ≡ so_far last names done ++ told last (flat_map (entry_lines names) more ++ done_line (counts_of (done ++ more)) ∷ [])
  told_whole more =
      let end = done_line (counts_of (done ++ more)) ∷ [] in
      let front = flat_map (entry_lines names) done in
      let behind = flat_map (entry_lines names) more in
      ap (λ ls. told last (ls ++ end)) (flat_map-append (entry_lines names) done more)
      ∙ (ap (told last) (append_assoc front behind end) ∙ told_split last front (behind ++ end) (omega (arith, length-append behind end)))
