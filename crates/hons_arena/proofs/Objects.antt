-- The objects of cells, one by one.
use Rattle.std.proofs.Common.{◌≡◌, ℕ, zero, suc, ◌+◌, ◌<◌, arith, length, List, [], ◌∷◌, ◌++◌, sym, ◌∙◌, ap, ap₂, subst, refl, get_or, take, length-append}
use Rattle.std.proofs.lemmas.List.{get_or_append_left, get_or_at, length_push, take-take, take_at, get_or_default}
use Rattle.gl_logic.specs.Object.{Object, Cons, nil}
use Rattle.hons_arena.specs.declared.cell.Cell.{Cell}
use Rattle.hons_arena.specs.declared.cell.Cell.TheVariants as cell
use Rattle.hons_arena.specs.declared.id.IdKind.{IdKind}
use Rattle.hons_arena.specs.declared.id.IdKind.TheVariants as kind
use Rattle.hons_arena.specs.Cells.{cell_object, objects_from, objects_of, cell_at, FitsBelow}
use Rattle.hons_arena.specs.Ids.{object_numbered, IsNumberBelow}

pub objects-length : (before : List Object) (cs : List Cell) → length (objects_from before cs) ≡ length before + length cs
objects-length before [] = omega arith
objects-length before (c ∷ cs) = objects-length (before ++ cell_object before c ∷ []) cs ∙ omega (arith, length-append before (cell_object before c ∷ []))

pub objects-push : (before : List Object) (cs : List Cell) (c : Cell) → objects_from before (cs ++ c ∷ []) ≡ objects_from before cs ++ cell_object (objects_from before cs) c ∷ []
objects-push before [] c = refl
objects-push before (e ∷ cs) c = objects-push (before ++ cell_object before e ∷ []) cs c

-- what stood before stays
pub objects-front : (before : List Object) (cs : List Cell) (k : ℕ) (d : Object) → k < length before → get_or (objects_from before cs) k d ≡ get_or before k d
objects-front before [] k d h = refl
objects-front before (c ∷ cs) k d h =
    objects-front (before ++ cell_object before c ∷ []) cs k d (omega (arith, h, length-append before (cell_object before c ∷ [])))
    ∙ get_or_append_left before (cell_object before c ∷ []) d k h

objects-whole : (before : List Object) (cs : List Cell) → take (length before) (objects_from before cs) ≡ before
objects-whole before [] = Rattle.std.proofs.lemmas.List.take_all (length before) before (omega arith)
objects-whole before (c ∷ cs) =
    let more : List Object = before ++ cell_object before c ∷ [] in
    sym (take-take (length before) (length more) (objects_from more cs) (omega (arith, length-append before (cell_object before c ∷ []))))
    ∙ (ap (take (length before)) (objects-whole more cs) ∙ take_at before (cell_object before c ∷ []) (length before) refl)

objects-take_from : (before : List Object) (cs : List Cell) (n : ℕ) → objects_from before (take n cs) ≡ take (length before + n) (objects_from before cs)
objects-take_from before cs zero = sym (ap (λ m. take m (objects_from before cs)) (omega arith) ∙ objects-whole before cs)
objects-take_from before [] (suc n) = sym (Rattle.std.proofs.lemmas.List.take_all (length before + suc n) before (omega arith))
objects-take_from before (c ∷ cs) (suc n) =
    objects-take_from (before ++ cell_object before c ∷ []) cs n
    ∙ ap (λ m. take m (objects_from (before ++ cell_object before c ∷ []) cs)) (omega (arith, length-append before (cell_object before c ∷ [])))

pub objects-take : (cells : List Cell) (n : ℕ) → objects_of (take n cells) ≡ take n (objects_of cells)
objects-take cells n = objects-take_from [] cells n ∙ ap (λ m. take m (objects_of cells)) (omega arith)

-- the same parts give the same object
object_kept : (xs ys : List Object) (k : ℕ) → ((i : ℕ) → i < k → get_or ys i nil ≡ get_or xs i nil) → (t : IdKind) (n : ℕ) → IsNumberBelow k t n → object_numbered ys t n ≡ object_numbered xs t n
object_kept xs ys k same kind.Symbol n h = refl
object_kept xs ys k same kind.Text n h = refl
object_kept xs ys k same kind.Cell n h = same n h

pub cell_object_kept : (xs ys : List Object) (k : ℕ) → ((i : ℕ) → i < k → get_or ys i nil ≡ get_or xs i nil) → (c : Cell) → FitsBelow k c → cell_object ys c ≡ cell_object xs c
cell_object_kept xs ys k same (cell.Int z) h = refl
cell_object_kept xs ys k same (cell.Character n) h = refl
cell_object_kept xs ys k same (cell.Cons s t m n) h = ap₂ Cons (object_kept xs ys k same s m h.0) (object_kept xs ys k same t n h.1)

objects-at_from : (before : List Object) (cs : List Cell) (k : ℕ) → k < length cs → FitsBelow (length before + k) (cell_at cs k)
    → get_or (objects_from before cs) (length before + k) nil ≡ cell_object (objects_from before cs) (cell_at cs k)
objects-at_from before [] k h p = absurd (omega (arith, h))
objects-at_from before (c ∷ cs) zero h p =
    let more : List Object = before ++ cell_object before c ∷ [] in
    let end : List Object = objects_from more cs in
    let grown : length more ≡ length before + 1 = length_push before (cell_object before c) in
    let same : (i : ℕ) → i < length before → get_or end i nil ≡ get_or before i nil = λ i l. objects-front more cs i nil (omega (arith, l, grown)) ∙ get_or_append_left before (cell_object before c ∷ []) nil i l in
    ap (λ m. get_or end m nil) (omega arith)
    ∙ (objects-front more cs (length before) nil (omega (arith, grown))
    ∙ (get_or_at before (cell_object before c) [] nil (length before) refl
    ∙ sym (cell_object_kept before end (length before) same c (subst (λ (m : ℕ). FitsBelow m c) (omega arith) p))))
objects-at_from before (c ∷ cs) (suc k) h p =
    let more : List Object = before ++ cell_object before c ∷ [] in
    let on : length more + k ≡ length before + suc k = omega (arith, length_push before (cell_object before c)) in
    ap (λ m. get_or (objects_from more cs) m nil) (sym on)
    ∙ objects-at_from more cs k (omega (arith, h)) (subst (λ (m : ℕ). FitsBelow m (cell_at cs k)) (sym on) p)

-- the object of cell k
pub objects-at : (cells : List Cell) (k : ℕ) → k < length cells → FitsBelow k (cell_at cells k) → get_or (objects_of cells) k nil ≡ cell_object (objects_of cells) (cell_at cells k)
objects-at cells k h p = ap (λ m. get_or (objects_of cells) m nil) (omega arith) ∙ objects-at_from [] cells k h (subst (λ (m : ℕ). FitsBelow m (cell_at cells k)) (omega arith) p)
