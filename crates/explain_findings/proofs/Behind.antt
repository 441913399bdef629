-- Items taken in one after another.
use Rattle.std.proofs.Common.{◌≡◌, ◌∙◌, ap, sym, refl, subst, ℕ, zero, suc, ◌+◌, ◌-◌, ◌≤◌, ◌<◌, List, [], ◌∷◌, ◌++◌, take, drop, Option, Some, None, slice_get, arith}
use Rattle.gl_logic.proofs.CellCounts.{take_next}
use Rattle.book_shelf.specs.declared.item.Item.{Item}
use Rattle.book_shelf.specs.declared.item.Item.TheVariants as item
use Rattle.event_world.specs.NextState.{BookState}
use Rattle.gl_decide.specs.Bounds.{Bounds}
use Rattle.explain_findings.specs.declared.replay.FormFault.{FormFault}
use Rattle.explain_findings.specs.Replayed.{Reached, IsBehind, TakesItem, IsRefusedItem, GoesOn}

-- one more item
pub behind_then : (names : List (List ℕ)) (xs ys : List Item) (s t u : BookState) → IsBehind names xs s t → IsBehind names ys t u → IsBehind names (xs ++ ys) s u
behind_then names [] ys s t u h k = rw (sym h) k
behind_then names (item.Mark m ∷ xs) ys s t u h k = behind_then names xs ys s t u h k
behind_then names (item.Form form ∷ xs) ys s t u (v, taken, h) k = (v, taken, behind_then names xs ys v t u h k)

part_at : {A : Type 0} (xs : List A) (n k : ℕ) → slice_get (drop n xs) k ≡ slice_get xs (n + k)
part_at xs zero k = let e : k ≡ 0 + k = omega arith in ap (slice_get xs) e
part_at [] (suc n) k = refl
part_at (x ∷ xs) (suc n) k = let e : suc (n + k) ≡ suc n + k = omega arith in part_at xs n k ∙ ap (slice_get (x ∷ xs)) e

-- the items from one number to another
pub part_next : {A : Type 0} (xs : List A) (n i : ℕ) (x : A) → n ≤ i → slice_get xs i ≡ Some x → take (i + 1 - n) (drop n xs) ≡ take (i - n) (drop n xs) ++ x ∷ []
part_next xs n i x within at =
    let e : n + (i - n) ≡ i = omega (arith, within) in
    let f : i + 1 - n ≡ (i - n) + 1 = omega (arith, within) in
    ap (λ k. take k (drop n xs)) f ∙ take_next (drop n xs) (i - n) x (part_at xs n (i - n) ∙ ap (λ k. slice_get xs k) e ∙ at)

pub behind_next : (names : List (List ℕ)) (items : List Item) (n i : ℕ) (x : Item) (s t u : BookState) → n ≤ i → slice_get items i ≡ Some x
    → IsBehind names (take (i - n) (drop n items)) s t → IsBehind names (x ∷ []) t u → IsBehind names (take (i + 1 - n) (drop n items)) s u
behind_next names items n i x s t u within at h k = rw (part_next items n i x within at) (behind_then names (take (i - n) (drop n items)) (x ∷ []) s t u h k)

-- no items
pub behind_none : (names : List (List ℕ)) (items : List Item) (n : ℕ) (s : BookState) → IsBehind names (take (n - n) (drop n items)) s s
behind_none names items n s = let e : n - n ≡ 0 = omega arith in rw e refl

-- an item more
taken_alone : (names : List (List ℕ)) (bounds : Bounds) (x : Item) (t u : BookState) → TakesItem names bounds t x u None → IsBehind names (x ∷ []) t u
taken_alone names bounds (item.Form form) t u h = (u, h, refl)
taken_alone names bounds (item.Mark m) t u h = h

pub behind_item : (names : List (List ℕ)) (bounds : Bounds) (items : List Item) (n i : ℕ) (x : Item) (s t u : BookState) → n ≤ i → slice_get items i ≡ Some x
    → IsBehind names (take (i - n) (drop n items)) s t → TakesItem names bounds t x u None → IsBehind names (take (i + 1 - n) (drop n items)) s u
behind_item names bounds items n i x s t u within at h k = behind_next names items n i x s t u within at h (taken_alone names bounds x t u k)

-- an item that is refused: it is so in the state behind those before it
refused_here : (names : List (List ℕ)) (bounds : Bounds) (x : Item) (t u : BookState) (f : FormFault) → TakesItem names bounds t x u (Some f) → (u ≡ t) × IsRefusedItem names bounds t (Some x) f
refused_here names bounds (item.Form form) t u f h = h
refused_here names bounds (item.Mark m) t u f h = absurd h

pub refused_item : (names : List (List ℕ)) (bounds : Bounds) (items : List Item) (end : ℕ) (old new : Reached) (i : ℕ) (x : Item) (t : BookState) (f : FormFault) → old.next ≤ i → i < end → new.next ≡ i
    → slice_get items i ≡ Some x → IsBehind names (take (i - old.next) (drop old.next items)) old.state t → TakesItem names bounds t x new.state (Some f)
    → GoesOn names bounds items end old new (Some (record { item = i; fault = f }))
refused_item names bounds items end old new i x t f within before next at h k =
    let r = refused_here names bounds x t new.state f k in
    record {
      forward = rw next within;
      within = λ _. rw next (let e : i ≤ end = omega (arith, before) in e);
      behind = rw (next, r.0) h;
      stops = (sym next, subst (λ o. IsRefusedItem names bounds new.state o f) (sym (ap (slice_get items) next ∙ at)) (subst (λ s. IsRefusedItem names bounds s (Some x) f) (sym r.0) r.1));
    }
