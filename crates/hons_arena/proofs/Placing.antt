-- What is added where objects are placed, part by part.
use Rattle.std.proofs.Common.{◌≡◌, true, ℕ, ◌+◌, ◌-◌, ◌<◌, ◌≤◌, arith, length, List, [], ◌∷◌, ◌++◌, refl, sym, ◌∙◌, ap, subst, get_or, inl, inr, append_assoc, append-nil, length-append, take, drop, take-append-drop}
use Rattle.std.proofs.lemmas.Bool.{cases_lt}
use Rattle.std.proofs.lemmas.List.{get_or_append_left, get_or-append_right, get_or-append-add, get_or_default, length_push}
use Rattle.std.proofs.lemmas.List.Elements.{All-append, All-nil, All-cons, All-push, Contains-append_left}
use Rattle.std.specs.List.{Contains}
use Rattle.gl_logic.specs.Lists.{conses}
use Rattle.gl_logic.specs.Parts.{is_cell}
use Rattle.gl_logic.specs.Object.{Object, Int, Character, Symbol, Text, Cons, nil}
use Rattle.hons_arena.specs.declared.id.Id.{Id}
use Rattle.hons_arena.specs.declared.id.IdKind.{IdKind}
use Rattle.hons_arena.specs.declared.id.IdKind.TheVariants as kind
use Rattle.hons_arena.specs.Held.{Held, IsEachOnce, Enters, AddsCellsOf, LacksCell, HasNoRoomFor}
use Rattle.hons_arena.specs.Ids.{kind_in, number_in, object_numbered, IsNumberBelow, IsIdOf}
use Rattle.hons_arena.specs.Parts.{IsCellOf, AreHeld}
use Rattle.hons_arena.proofs.CellsIn.{IsPart, cell_of, cell_weaker}
use Rattle.hons_arena.proofs.Pigeonhole.{pigeonhole}

-- ---- parts
pub part_self : (x : Object) → IsPart x x
part_self (Int z) = refl
part_self (Character n) = refl
part_self (Symbol n) = refl
part_self (Text n) = refl
part_self (Cons a d) = inl refl

pub part_conses : (xs : List Object) (t y : Object) → IsPart y t → IsPart y (conses xs t)
part_conses [] t y h = h
part_conses (x ∷ xs) t y h = part_conses xs (Cons x t) y (inr (inr h))

conses-append : (xs ys : List Object) (t : Object) → conses (xs ++ ys) t ≡ conses ys (conses xs t)
conses-append [] ys t = refl
conses-append (x ∷ xs) ys t = conses-append xs ys (Cons x t)

-- the parts of a list's end are parts of the list
pub part_front : (i : ℕ) (xs : List Object) (t y : Object) → IsPart y (conses (take i xs) t) → IsPart y (conses xs t)
part_front i xs t y h =
    subst (λ (w : Object). IsPart y w) (sym (conses-append (take i xs) (drop i xs) t) ∙ ap (λ zs. conses zs t) (take-append-drop i xs)) (part_conses (drop i xs) (conses (take i xs) t) y h)

-- ---- what is added
pub adds_none : (x : Object) (xs : List Object) → AddsCellsOf x xs xs
adds_none x xs = record { made = []; is = sym (append-nil xs); cells = All-nil (λ y. IsCellOf y x) }

pub adds_more : (x : Object) (xs ys zs : List Object) → AddsCellsOf x xs ys → AddsCellsOf x ys zs → AddsCellsOf x xs zs
adds_more x xs ys zs f g = record {
  made = f.made ++ g.made;
  is = g.is ∙ (ap (λ us. us ++ g.made) f.is ∙ append_assoc xs f.made g.made);
  cells = All-append (λ y. IsCellOf y x) f.made g.made f.cells g.cells;
}

pub adds_weaker : (x w : Object) (xs ys : List Object) → ((y : Object) → IsPart y x → IsPart y w) → AddsCellsOf x xs ys → AddsCellsOf w xs ys
adds_weaker x w xs ys h f = record {
  made = f.made;
  is = f.is;
  cells = λ k d l. cell_weaker x w (get_or f.made k d) (h (get_or f.made k d)) (f.cells k d l);
}

pub adds_entered : (x y : Object) (xs ys : List Object) → is_cell y ≡ true → IsPart y x → Enters xs ys y → AddsCellsOf x xs ys
adds_entered x y xs ys cell part (inl h) = subst (λ (zs : List Object). AddsCellsOf x xs zs) (sym h.1) (adds_none x xs)
adds_entered x y xs ys cell part (inr h) = record { made = y ∷ []; is = h.1; cells = All-cons (λ z. IsCellOf z x) y [] (cell_of x y cell part) (All-nil (λ z. IsCellOf z x)) }

pub lacks_weaker : (held : Held) (x w : Object) → ((y : Object) → IsPart y x → IsPart y w) → LacksCell held x → LacksCell held w
lacks_weaker held x w h f = record { lacking = f.lacking; cell = cell_weaker x w f.lacking (h f.lacking) f.cell; none = f.none }

-- ---- ids stay
numbered_kept : (xs made : List Object) (x : Object) (t : IdKind) (n : ℕ) → IsNumberBelow (length xs) t n → object_numbered xs t n ≡ x → IsNumberBelow (length (xs ++ made)) t n × (object_numbered (xs ++ made) t n ≡ x)
numbered_kept xs made x kind.Symbol n h e = (tt, e)
numbered_kept xs made x kind.Text n h e = (tt, e)
numbered_kept xs made x kind.Cell n h e = (omega (arith, h, length-append xs made), get_or_append_left xs made nil n h ∙ e)

pub id_kept : (w : Object) (xs ys : List Object) (x : Object) (id : Id) → AddsCellsOf w xs ys → IsIdOf xs x id → IsIdOf ys x id
id_kept w xs ys x id adds h = subst (λ (zs : List Object). IsIdOf zs x id) (sym adds.is) (numbered_kept xs adds.made x (kind_in id) (number_in id) h.0 h.1)

-- ---- room
module _ (old new : Held) (x : Object) (adds : AddsCellsOf x old.objects new.objects) (limit : new.limit ≡ old.limit) where
  abbrev made : List Object
  made = adds.made

  count : length new.objects ≡ length old.objects + length made
  count = ap length adds.is ∙ length-append old.objects made

  new_at : (k : ℕ) (d : Object) → get_or new.objects (length old.objects + k) d ≡ get_or made k d
  new_at k d = ap (λ xs. get_or xs (length old.objects + k) d) adds.is ∙ get_or-append-add old.objects made k d

  old_at : (k : ℕ) (d : Object) → k < length old.objects → get_or new.objects k d ≡ get_or old.objects k d
  old_at k d h = ap (λ xs. get_or xs k d) adds.is ∙ get_or_append_left old.objects made d k h

  -- where a cell is lacking, the cells made and that one are too many
  pub too_many : IsEachOnce new.objects → LacksCell new x → HasNoRoomFor old x
  too_many once lack =
      let cells : List Object = made ++ lack.lacking ∷ [] in
      let front : (k : ℕ) (d : Object) → k < length made → get_or cells k d ≡ get_or made k d = λ k d h. get_or_append_left made (lack.lacking ∷ []) d k h in
      let more : length cells ≡ length made + 1 = length_push made lack.lacking in record {
        cells = cells;
        different = λ i j d h l e. elim (cases_lt j (length made)) [
          | inl inside ↦ once (length old.objects + i) (length old.objects + j) d (omega (arith, h)) (omega (arith, inside, count)) (new_at i d ∙ (sym (front i d (omega (arith, h, inside))) ∙ (e ∙ (front j d inside ∙ sym (new_at j d)))))
          | inr last ↦
              let inside : i < length made = omega (arith, h, l, more) in
              let at : get_or cells j d ≡ lack.lacking = let none : j - length made ≡ 0 = omega (arith, l, last, more) in get_or-append_right made (lack.lacking ∷ []) (length made) j d refl last ∙ ap (λ k. get_or (lack.lacking ∷ []) k d) none in
              lack.none.absent (length old.objects + i, omega (arith, inside, count), new_at i lack.lacking ∙ (get_or_default made i lack.lacking d inside ∙ (sym (front i d inside) ∙ (e ∙ at))))
        ];
        needed = All-push (λ y. IsCellOf y x) made lack.lacking adds.cells lack.cell;
        absent = All-push (λ y. Contains old.objects y → ⊥) made lack.lacking
            (λ k d h c. once c.0 (length old.objects + k) d (omega (arith, c.1)) (omega (arith, h, count)) (old_at c.0 d c.1 ∙ (get_or_default old.objects c.0 d (get_or made k d) c.1 ∙ (c.2 ∙ sym (new_at k d)))))
            (λ c. lack.none.absent (subst (λ (xs : List Object). Contains xs lack.lacking) (sym adds.is) (Contains-append_left old.objects made lack.lacking c)));
        more = omega (arith, more, count, limit, lack.none.full);
      }

  -- where each cell is held, there was room
  pub has_room : AreHeld new.objects x → length new.objects ≤ new.limit → HasNoRoomFor old x → ⊥
  has_room held within none =
      let at : (i : ℕ) → i < length none.cells → Contains new.objects (get_or none.cells i nil) = λ i h. held (get_or none.cells i nil) (none.needed i nil h) in
      let behind : (i : ℕ) (h : i < length none.cells) → length old.objects ≤ (at i h).0 = λ i h. elim (cases_lt (at i h).0 (length old.objects)) [
        | inl before ↦ absurd (none.absent i nil h ((at i h).0, before, sym (old_at (at i h).0 (get_or none.cells i nil) before) ∙ (at i h).2))
        | inr l ↦ l
      ] in
      let few : length none.cells ≤ length made = pigeonhole (length none.cells) (length made) (λ i h. (at i h).0 - length old.objects)
      (λ i h. omega (arith, (at i h).1, behind i h, count))
      (λ i j h k l e. none.different i j nil l k
      (let same : (at i h).0 ≡ (at j k).0 = omega (arith, e, behind i h, behind j k) in
      sym (at i h).2 ∙ (ap (λ m. get_or new.objects m (get_or none.cells i nil)) same ∙ (get_or_default new.objects (at j k).0 (get_or none.cells i nil) (get_or none.cells j nil) (at j k).1 ∙ (at j k).2)))) in
      omega (arith, few, count, within, limit, none.more)
