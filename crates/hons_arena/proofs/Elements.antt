-- One element more is placed in front of those placed so far.
use Rattle.std.proofs.Common.{◌≡◌, refl, ℕ, ◌+◌, ◌<◌, length, List, sym, ◌∙◌, ap, ap₂, subst, take, get_or, inl, inr}
use Rattle.gl_logic.specs.Lists.{conses}
use Rattle.gl_logic.specs.Object.{Object, Cons}
use Rattle.hons_arena.specs.declared.id.Id.{Id}
use Rattle.hons_arena.specs.Held.{Held, Enters, HasNoCell, AddsCellsOf, LacksCell}
use Rattle.hons_arena.specs.Ids.{object_at, IsIdOf}
use Rattle.hons_arena.proofs.CellsIn.{IsPart, cell_of}
use Rattle.hons_arena.proofs.Placing.{adds_more, adds_weaker, adds_entered, lacks_weaker, id_kept}
use Rattle.hons_arena.proofs.Trees.{next_whole, next_part}

module _ (es : List Object) (i : ℕ) (e t : Object) (h : i < length es) (is : e ≡ get_or es i e) where
  abbrev whole : Object
  whole = conses es t

  abbrev front : Object
  front = conses (take i es) t

  pub next_front : conses (take (i + 1) es) t ≡ Cons e front
  next_front = next_whole es i e t h ∙ ap (λ x. Cons x front) (sym is)

  next_up : (y : Object) → IsPart y (Cons e front) → IsPart y whole
  next_up y p = next_part es i e t y h (subst (λ (x : Object). IsPart y (Cons x front)) is p)

  first_up : (y : Object) → IsPart y e → IsPart y whole
  first_up y p = next_up y (inr (inl p))

  pub first_adds : (old mid new : Held) → AddsCellsOf whole old.objects mid.objects → AddsCellsOf e mid.objects new.objects → AddsCellsOf whole old.objects new.objects
  first_adds old mid new f g = adds_more whole old.objects mid.objects new.objects f (adds_weaker e whole mid.objects new.objects first_up g)

  pub first_lacks : (new : Held) → LacksCell new e → LacksCell new whole
  first_lacks new l = lacks_weaker new e whole first_up l

  module _ (old before mid : Held) (first rest : Id) (adds : AddsCellsOf whole old.objects before.objects) (more : AddsCellsOf e before.objects mid.objects) (at : IsIdOf before.objects front rest) (is_first : IsIdOf mid.objects e first) where
    pub rest_is : IsIdOf mid.objects front rest
    rest_is = id_kept e before.objects mid.objects front rest more at

    abbrev pair : Object
    pair = Cons (object_at mid.objects first) (object_at mid.objects rest)

    pair_is : pair ≡ Cons e front
    pair_is = ap₂ Cons is_first.1 rest_is.1

    pub rest_adds_none : (new : Held) → new ≡ mid → AddsCellsOf whole old.objects new.objects
    rest_adds_none new same = subst (λ (s : Held). AddsCellsOf whole old.objects s.objects) (sym same) (first_adds old before mid adds more)

    pub rest_lacks : (new : Held) → new ≡ mid → HasNoCell mid pair → LacksCell new whole
    rest_lacks new same none = subst (λ (s : Held). LacksCell s whole) (sym same) (record {
      lacking = pair;
      cell = cell_of whole pair refl (next_up pair (inl pair_is));
      none = none;
    })

    pub rest_adds : (new : Held) → Enters mid.objects new.objects pair → AddsCellsOf whole old.objects new.objects
    rest_adds new enters = adds_more whole old.objects mid.objects new.objects (first_adds old before mid adds more) (adds_entered whole pair mid.objects new.objects refl (next_up pair (inl pair_is)) enters)

    pub next_id : (new : Held) (next : Id) → IsIdOf new.objects pair next → IsIdOf new.objects (conses (take (i + 1) es) t) next
    next_id new next h = subst (λ (x : Object). IsIdOf new.objects x next) (pair_is ∙ sym next_front) h
