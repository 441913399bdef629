-- The object of a tree, by its kind, its elements and its tail.
use Rattle.std.proofs.Common.{◌≡◌, true, ℕ, ◌+◌, ◌<◌, length, List, refl, sym, ◌∙◌, ap, ap₂, subst, take, get_or, Result, Ok, Err, IsErr, ◌↔◌}
use Rattle.std.proofs.lemmas.List.{take_more}
use Rattle.gl_logic.proofs.Elements.{conses-push}
use Rattle.gl_logic.specs.Kind.{kind_of}
use Rattle.gl_logic.specs.Lists.{elements_of, tail_of, conses, IsAtom}
use Rattle.gl_logic.specs.Parts.{is_cell}
use Rattle.gl_logic.specs.Object.{Object, Int, Character, Symbol, Text, Cons}
use Rattle.gl_logic.specs.declared.tree.TreeKind.TheVariants as tree_kind
use Rattle.gl_logic.proofs.Parts.{conses-whole}
use Rattle.hons_arena.specs.declared.id.Full.{Full}
use Rattle.hons_arena.specs.declared.id.Id.{Id}
use Rattle.hons_arena.specs.Held.{Held, IsWhole, HasNoCell, Interns, AddsCellsOf, LacksCell, Places, HasNoRoomFor}
use Rattle.hons_arena.specs.Ids.{object_at}
use Rattle.hons_arena.specs.Parts.{AreHeld}
use Rattle.hons_arena.proofs.CellsIn.{IsPart, cell_of}
use Rattle.hons_arena.proofs.Placing.{part_conses, part_front, adds_entered, adds_none, adds_more, adds_weaker, has_room, too_many}

pub int_from_kind : (x : Object) (z : _) → kind_of x ≡ tree_kind.Int z → x ≡ Int z
int_from_kind (Int y) z e = cc
int_from_kind (Character n) z e = cc
int_from_kind (Symbol n) z e = cc
int_from_kind (Text n) z e = cc
int_from_kind (Cons a d) z e = cc

pub character_from_kind : (x : Object) (c : ℕ) → kind_of x ≡ tree_kind.Character c → x ≡ Character c
character_from_kind (Int y) c e = cc
character_from_kind (Character n) c e = cc
character_from_kind (Symbol n) c e = cc
character_from_kind (Text n) c e = cc
character_from_kind (Cons a d) c e = cc

pub no_list : (x : Object) → IsAtom x → kind_of x ≡ tree_kind.List → ⊥
no_list (Int z) h e = cc
no_list (Character n) h e = cc
no_list (Symbol n) h e = cc
no_list (Text n) h e = cc
no_list (Cons a d) h e = h

-- ---- answers
pub places_err : (x : Object) (old new : Held) (r : Result Id Full) → IsErr r → AddsCellsOf x old.objects new.objects → new.limit ≡ old.limit → LacksCell new x → Places old new x r
places_err x old new (Ok i) err adds limit lacks = absurd cc
places_err x old new (Err e) err adds limit lacks = record { id = tt; objects = adds; limit = limit; lacks = lacks }

cell_placed : (x : Object) (old new : Held) (r : Result Id Full) → is_cell x ≡ true → IsPart x x → Interns old new x r → Places old new x r
cell_placed x old new (Ok i) cell part h = record { id = h.id; objects = adds_entered x x old.objects new.objects cell part h.objects; limit = h.limit; lacks = tt }
cell_placed x old new (Err e) cell part h = record {
  id = tt;
  objects = subst (λ (s : Held). AddsCellsOf x old.objects s.objects) (sym h.unchanged) (adds_none x old.objects);
  limit = h.limit;
  lacks = record { lacking = x; cell = cell_of x x cell part; none = subst (λ (s : Held). HasNoCell s x) (sym h.unchanged) (h.full.0 refl) };
}

pub places_cell : (x y : Object) (old new : Held) (r : Result Id Full) → x ≡ y → is_cell y ≡ true → IsPart y y → Interns old new y r → Places old new x r
places_cell x y old new r is cell part h = subst (λ (z : Object). Places old new z r) (sym is) (cell_placed y old new r cell part h)

-- ---- a list is its elements in front of its tail
pub whole_list : (x : Object) (es : List Object) (tail t : Object) → es ≡ elements_of x → tail ≡ tail_of x → t ≡ tail → conses es t ≡ x
whole_list x es tail t e f g = ap₂ conses e (g ∙ f) ∙ conses-whole x

pub part_tail : (x tail y : Object) → tail ≡ tail_of x → IsPart y tail → IsPart y x
part_tail x tail y e h = subst (λ (z : Object). IsPart y z) (conses-whole x) (part_conses (elements_of x) (tail_of x) y (subst (λ (z : Object). IsPart y z) e h))

-- the tail, and then the elements
pub put_list : (x : Object) (es : List Object) (tail : Object) (old mid new : Held) (r : Result Id Full) (id : Id) → es ≡ elements_of x → tail ≡ tail_of x → Places old mid tail (Ok id) → Places mid new (conses es (object_at mid.objects id)) r → Places old new x r
put_list x es tail old mid new r id e f first more =
    let p : Places mid new x r = subst (λ (w : Object). Places mid new w r) (whole_list x es tail (object_at mid.objects id) e f first.id.1) more in record {
      id = p.id;
      objects = adds_more x old.objects mid.objects new.objects (adds_weaker tail x old.objects mid.objects (λ y. part_tail x tail y f) first.objects) p.objects;
      limit = p.limit ∙ first.limit;
      lacks = p.lacks;
    }

-- the next element and what it makes are parts of the whole
pub next_whole : (xs : List Object) (i : ℕ) (d t : Object) → i < length xs → conses (take (i + 1) xs) t ≡ Cons (get_or xs i d) (conses (take i xs) t)
next_whole xs i d t h = ap (λ zs. conses zs t) (take_more xs i d h) ∙ conses-push (take i xs) (get_or xs i d) t

pub next_part : (xs : List Object) (i : ℕ) (d t y : Object) → i < length xs → IsPart y (Cons (get_or xs i d) (conses (take i xs) t)) → IsPart y (conses xs t)
next_part xs i d t y h p = part_front (i + 1) xs t y (subst (λ (w : Object). IsPart y w) (sym (next_whole xs i d t h)) p)

-- placing fails exactly where there is no room
pub full_exactly : (old new : Held) (x : Object) (r : Result Id Full) → Places old new x r → IsWhole new → IsErr r ↔ HasNoRoomFor old x
full_exactly old new x (Ok id) p w = (λ e. cc, λ none. absurd (has_room old new x p.objects p.limit (subst (AreHeld new.objects) p.id.1 (w.parts id p.id.0)) w.within none))
full_exactly old new x (Err e) p w = (λ _. too_many old new x p.objects p.limit w.different p.lacks, λ _. refl)
