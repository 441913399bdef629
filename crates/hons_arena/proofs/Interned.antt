-- Different cells have different objects.
use Rattle.std.proofs.Common.{◌≡◌, ℕ, ◌+◌, ◌<◌, ◌≤◌, arith, length, List, [], ◌∷◌, ◌++◌, sym, ◌∙◌, ap, subst, refl, get_or, take, inl, inr}
use Rattle.std.proofs.lemmas.Bool.{cases_lt}
use Rattle.std.proofs.lemmas.List.{get_or_append_left, get_or_push, get_or-take, get_or_default, length_push, length-take-le}
use Rattle.std.specs.List.{Contains}
use Rattle.gl_logic.specs.Object.{Object, Int, Character, Symbol, Text, Cons, nil, car, cdr}
use Rattle.gl_logic.specs.Wide.{IsWideObject}
use Rattle.hons_arena.specs.declared.cell.Cell.{Cell}
use Rattle.hons_arena.specs.declared.cell.Cell.TheVariants as cell
use Rattle.hons_arena.specs.declared.id.Id.{Id}
use Rattle.hons_arena.specs.declared.id.IdKind.{IdKind}
use Rattle.hons_arena.specs.declared.id.IdKind.TheVariants as kind
use Rattle.hons_arena.specs.Cells.{cell_object, objects_of, cell_at, FitsBelow, IsInterned}
use Rattle.hons_arena.specs.Held.{IsEachOnce}
use Rattle.hons_arena.specs.Ids.{kind_in, number_in, object_at, object_numbered, IsNumberBelow, IsBelow, IsLive}
use Rattle.hons_arena.specs.Probe.{IsAbsent}
use Rattle.hons_arena.proofs.Ids.{same_id_from}
use Rattle.hons_arena.proofs.Objects.{objects-length, objects-at}

number_more : (j k : ℕ) → j ≤ k → (t : IdKind) (n : ℕ) → IsNumberBelow j t n → IsNumberBelow k t n
number_more j k l kind.Symbol n h = tt
number_more j k l kind.Text n h = tt
number_more j k l kind.Cell n h = omega (arith, l, h)

pub parts_more : (j k : ℕ) → j ≤ k → (c : Cell) → FitsBelow j c → FitsBelow k c
parts_more j k l (cell.Int z) h = h
parts_more j k l (cell.Character n) h = tt
parts_more j k l (cell.Cons s t m n) h = (number_more j k l s m h.0, number_more j k l t n h.1)

-- a cell keeps no symbol and no string
no_symbol : (xs : List Object) (c : Cell) (n : ℕ) → cell_object xs c ≡ Symbol n → ⊥
no_symbol xs (cell.Int z) n e = cc
no_symbol xs (cell.Character m) n e = cc
no_symbol xs (cell.Cons s t i j) n e = cc

no_text : (xs : List Object) (c : Cell) (n : ℕ) → cell_object xs c ≡ Text n → ⊥
no_text xs (cell.Int z) n e = cc
no_text xs (cell.Character m) n e = cc
no_text xs (cell.Cons s t i j) n e = cc

-- nor an integer outside 128 bits
cell_narrow : (xs : List Object) (k : ℕ) (c : Cell) → FitsBelow k c → IsWideObject (cell_object xs c) → ⊥
cell_narrow xs k (cell.Int z) h wide = wide h
cell_narrow xs k (cell.Character n) h wide = wide
cell_narrow xs k (cell.Cons s t m n) h wide = wide

module _ (cells : List Cell) (interned : IsInterned cells) where
  abbrev objects : List Object
  objects = objects_of cells

  abbrev n : ℕ
  n = length cells

  pub objects_count : length objects ≡ n
  objects_count = objects-length [] cells ∙ omega arith

  pub object_is : (k : ℕ) → k < n → get_or objects k nil ≡ cell_object objects (cell_at cells k)
  object_is k h = objects-at cells k h (interned.behind k h)

  pub parts_live : (k : ℕ) → k < n → FitsBelow n (cell_at cells k)
  parts_live k h = parts_more k n (omega arith) (cell_at cells k) (interned.behind k h)

  -- where equal objects have equal cells, they have equal ids
  ids_from_cells : (x : Object) → ((c e : Cell) → FitsBelow n c → FitsBelow n e → cell_object objects c ≡ x → cell_object objects e ≡ x → c ≡ e)
      → (s t : IdKind) (i j : ℕ) → IsNumberBelow n s i → IsNumberBelow n t j → object_numbered objects s i ≡ x → object_numbered objects t j ≡ x → (s ≡ t) × (i ≡ j)
  ids_from_cells x same kind.Symbol kind.Symbol i j h k e f = let g : Symbol i ≡ Symbol j = e ∙ sym f in (refl, cc)
  ids_from_cells x same kind.Text kind.Text i j h k e f = let g : Text i ≡ Text j = e ∙ sym f in (refl, cc)
  ids_from_cells x same kind.Symbol kind.Text i j h k e f = let g : Symbol i ≡ Text j = e ∙ sym f in absurd cc
  ids_from_cells x same kind.Text kind.Symbol i j h k e f = let g : Text i ≡ Symbol j = e ∙ sym f in absurd cc
  ids_from_cells x same kind.Cell kind.Symbol i j h k e f = absurd (no_symbol objects (cell_at cells i) j (sym (object_is i h) ∙ (e ∙ sym f)))
  ids_from_cells x same kind.Cell kind.Text i j h k e f = absurd (no_text objects (cell_at cells i) j (sym (object_is i h) ∙ (e ∙ sym f)))
  ids_from_cells x same kind.Symbol kind.Cell i j h k e f = absurd (no_symbol objects (cell_at cells j) i (sym (object_is j k) ∙ (f ∙ sym e)))
  ids_from_cells x same kind.Text kind.Cell i j h k e f = absurd (no_text objects (cell_at cells j) i (sym (object_is j k) ∙ (f ∙ sym e)))
  ids_from_cells x same kind.Cell kind.Cell i j h k e f =
      (refl, interned.different i j h k (same (cell_at cells i) (cell_at cells j) (parts_live i h) (parts_live j k) (sym (object_is i h) ∙ e) (sym (object_is j k) ∙ f)))

  same_parts : (x : Object) → ((c e : Cell) → FitsBelow n c → FitsBelow n e → cell_object objects c ≡ x → cell_object objects e ≡ x → c ≡ e)
      → (a b : Id) → IsBelow n a → IsBelow n b → object_at objects a ≡ x → object_at objects b ≡ x → a ≡ b
  same_parts x same a b h k e f = let g = ids_from_cells x same (kind_in a) (kind_in b) (number_in a) (number_in b) h k e f in same_id_from a b g.0 g.1

  pub same_cells : (x : Object) (c e : Cell) → FitsBelow n c → FitsBelow n e → cell_object objects c ≡ x → cell_object objects e ≡ x → c ≡ e
  same_cells (Cons xa xd) (cell.Cons s t a d) (cell.Cons u v b f) h k p q =
      let first : (s ≡ u) × (a ≡ b) = ids_from_cells xa (same_cells xa) s u a b h.0 k.0 (ap car p) (ap car q) in
      let rest : (t ≡ v) × (d ≡ f) = ids_from_cells xd (same_cells xd) t v d f h.1 k.1 (ap cdr p) (ap cdr q) in λ i. cell.Cons (first.0 i) (rest.0 i) (first.1 i) (rest.1 i)
  same_cells x (cell.Int z) (cell.Int y) h k p q = let g : Int z ≡ Int y = p ∙ sym q in cc
  same_cells x (cell.Character i) (cell.Character j) h k p q = let g : Character i ≡ Character j = p ∙ sym q in cc
  same_cells x (cell.Int z) (cell.Character j) h k p q = let g : Int z ≡ Character j = p ∙ sym q in absurd cc
  same_cells x (cell.Character i) (cell.Int z) h k p q = let g : Character i ≡ Int z = p ∙ sym q in absurd cc
  same_cells x (cell.Int z) (cell.Cons u v b f) h k p q = let g : Int z ≡ Cons (object_numbered objects u b) (object_numbered objects v f) = p ∙ sym q in absurd cc
  same_cells x (cell.Character i) (cell.Cons u v b f) h k p q = let g : Character i ≡ Cons (object_numbered objects u b) (object_numbered objects v f) = p ∙ sym q in absurd cc
  same_cells x (cell.Cons s t a d) (cell.Int z) h k p q = let g : Int z ≡ Cons (object_numbered objects s a) (object_numbered objects t d) = q ∙ sym p in absurd cc
  same_cells x (cell.Cons s t a d) (cell.Character i) h k p q = let g : Character i ≡ Cons (object_numbered objects s a) (object_numbered objects t d) = q ∙ sym p in absurd cc
  same_cells (Int z) (cell.Cons s t a d) (cell.Cons u v b f) h k p q = absurd cc
  same_cells (Character i) (cell.Cons s t a d) (cell.Cons u v b f) h k p q = absurd cc
  same_cells (Symbol i) (cell.Cons s t a d) (cell.Cons u v b f) h k p q = absurd cc
  same_cells (Text i) (cell.Cons s t a d) (cell.Cons u v b f) h k p q = absurd cc

  -- live ids of equal objects are equal
  pub same_ids : (a b : Id) → IsLive objects a → IsLive objects b → object_at objects a ≡ object_at objects b → a ≡ b
  same_ids a b h k e =
      same_parts (object_at objects b) (same_cells (object_at objects b)) a b (subst (λ (m : ℕ). IsBelow m a) objects_count h) (subst (λ (m : ℕ). IsBelow m b) objects_count k) e refl

  narrow_numbered : (t : IdKind) (i : ℕ) → IsNumberBelow n t i → IsWideObject (object_numbered objects t i) → ⊥
  narrow_numbered kind.Symbol i h wide = wide
  narrow_numbered kind.Text i h wide = wide
  narrow_numbered kind.Cell i h wide = cell_narrow objects n (cell_at cells i) (parts_live i h) (subst IsWideObject (object_is i h) wide)

  -- no live id stands for an integer outside 128 bits
  pub narrow_ids : (j : Id) → IsLive objects j → IsWideObject (object_at objects j) → ⊥
  narrow_ids j h = narrow_numbered (kind_in j) (number_in j) (subst (λ (m : ℕ). IsBelow m j) objects_count h)

  pub each_once : IsEachOnce objects
  each_once i j d l h e =
      let k : j < n = omega (arith, h, objects_count) in
      let f : get_or objects i nil ≡ get_or objects j nil = get_or_default objects i nil d (omega (arith, l, h)) ∙ (e ∙ get_or_default objects j d nil h) in
      let g : i ≡ j = interned.different i j (omega (arith, l, k)) k (same_cells (cell_object objects (cell_at cells j)) (cell_at cells i) (cell_at cells j) (parts_live i (omega (arith, l, k))) (parts_live j k) (sym (object_is i (omega (arith, l, k))) ∙ (f ∙ object_is j k)) refl) in
      omega (arith, g, l)

  module _ (c : Cell) (parts : FitsBelow n c) where
    pub absent_held : IsAbsent cells c → Contains objects (cell_object objects c) → ⊥
    absent_held absent (k, h, e) =
        let l : k < n = omega (arith, h, objects_count) in
        absent k l (same_cells (cell_object objects c) (cell_at cells k) c (parts_live k l) parts (sym (object_is k l) ∙ (get_or_default objects k nil (cell_object objects c) h ∙ e)) refl)

    pub found_held : (k : ℕ) → k < n → cell_at cells k ≡ c → get_or objects k nil ≡ cell_object objects c
    found_held k h e = object_is k h ∙ ap (cell_object objects) e

    pub found_contains : (k : ℕ) → k < n → cell_at cells k ≡ c → Contains objects (cell_object objects c)
    found_contains k h e = (k, omega (arith, h, objects_count), get_or_default objects k (cell_object objects c) nil (omega (arith, h, objects_count)) ∙ found_held k h e)

    pub interned_push : IsAbsent cells c → IsInterned (cells ++ c ∷ [])
    interned_push absent =
        let more : length (cells ++ c ∷ []) ≡ n + 1 = length_push cells c in
        let old : (k : ℕ) → k < n → cell_at (cells ++ c ∷ []) k ≡ cell_at cells k = λ k h. get_or_append_left cells (c ∷ []) (cell.Int _) k h in
        let new : (k : ℕ) → n ≡ k → cell_at (cells ++ c ∷ []) k ≡ c = λ k e. get_or_push cells c (cell.Int _) k e in record {
          behind = λ k h. elim (cases_lt k n) [
            | inl l ↦ subst (λ (e : Cell). FitsBelow k e) (sym (old k l)) (interned.behind k l)
            | inr l ↦ let last : n ≡ k = omega (arith, h, l, more) in subst (λ (e : Cell). FitsBelow k e) (sym (new k last)) (subst (λ (m : ℕ). FitsBelow m c) last parts)
          ];
          different = λ i j h k e. elim (cases_lt i n) [
            | inl l ↦ elim (cases_lt j n) [
              | inl m ↦ interned.different i j l m (sym (old i l) ∙ (e ∙ old j m))
              | inr m ↦ absurd (absent i l (sym (old i l) ∙ (e ∙ new j (omega (arith, k, m, more)))))
            ]
            | inr l ↦ elim (cases_lt j n) [
              | inl m ↦ absurd (absent j m (sym (old j m) ∙ (sym e ∙ new i (omega (arith, h, l, more)))))
              | inr m ↦ omega (arith, h, k, l, m, more)
            ]
          ];
        }

  pub interned_take : (k : ℕ) → k ≤ n → IsInterned (take k cells)
  interned_take k l =
      let few : length (take k cells) ≡ k = length-take-le k cells l in
      let old : (i : ℕ) → i < k → cell_at (take k cells) i ≡ cell_at cells i = λ i h. get_or-take k cells i (cell.Int _) h in record {
        behind = λ i h. subst (λ (e : Cell). FitsBelow i e) (sym (old i (omega (arith, h, few)))) (interned.behind i (omega (arith, h, few, l)));
        different = λ i j h m e. interned.different i j (omega (arith, h, few, l)) (omega (arith, m, few, l)) (sym (old i (omega (arith, h, few))) ∙ (e ∙ old j (omega (arith, m, few))));
      }
