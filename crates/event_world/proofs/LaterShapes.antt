-- What bindings mean in a later table of texts.
use Rattle.std.proofs.Common.{◌≡◌, ◌∙◌, ap, refl, ℕ, zero, suc, ◌+◌, Bool, true, false, cond, ◌&&◌, leb, List, [], ◌∷◌, map, take, length, Option, Some, None, pos, negsuc}
use Rattle.std.specs.Prelude.{codes, bytes_eq, ◌==◌}
use Rattle.std.specs.List.{list_all}
use Rattle.std.specs.Option.{option_map, option_and_then, IfSome}
use Rattle.gl_logic.specs.Every.{Every}
use Rattle.gl_logic.specs.Object.{Object, Int, Character, Symbol, Text, Cons}
use Rattle.shape_spec.specs.ShapeSeen.{ShapeSeen, Boolean, Pair}
use Rattle.gl_logic.specs.Wording.{text_of, spells, is_legal, elements, both, all_meant}
use Rattle.shape_spec.specs.Heads.{word_head, head_of, item_word, item_of, is_plain, is_boolean}
use Rattle.shape_spec.specs.ShapeMeant.{index_meant, progression, call_of, comma_of, test_meant, choice_of, headed, shape_meant, choice_meant, branches_meant}
use Rattle.shape_spec.specs.ItemsMeant.{Slotted, own, own_slots, number_item, boolean_item, all_variables, in_sequence, interleaved, have_count, first_count, itemized, item_meant, items_meant, placed, shape_at, places_of}
use Rattle.shape_spec.specs.Indices.{variables_of, shapes_of, indices_of, width_of}
use Rattle.shape_spec.specs.BindingsMeant.{entry_of, entry_meant, quoted, bound, is_backquote, listed, is_shape, are_below, checked, bindings_meant}
use Rattle.gl_logic.specs.NameSets.{are_different}
use Rattle.event_world.proofs.LaterTexts.{map_has, then_has, then_same, both_has, cond_has, all_meant_same, all_meant_has, every_append, Known, IsKnown, later, text_same, spells_same, legal_same, elements_known}

cond_both : {A : Type 0} (P : A → Type 0) (b : Bool) (x y : A) → P x → P y → P (cond b x y)
cond_both P true x y h k = h
cond_both P false x y h k = k

cond_right : {A : Type 0} (b : Bool) (x y z : A) → y ≡ z → cond b x y ≡ cond b x z
cond_right b x y z e = ap (cond b x) e

any_some : {A : Type 0} (o : Option A) → IfSome o (λ a. Unit {0})
any_some None = tt
any_some (Some a) = tt

module _ (names more : List (List ℕ)) where
  abbrev Here : Object → Type 0
  Here = Known names more

  abbrev new : List (List ℕ)
  new = later names more

  -- ---- shapes
  head_same : (x : Object) → Here x → head_of new x ≡ head_of names x
  head_same (Int z) h = refl
  head_same (Character n) h = refl
  head_same (Symbol t) h = cond_right (t == 2) _ _ _ (cond_right (t == 3) _ _ _ (ap word_head (text_same names more t h)))
  head_same (Text t) h = refl
  head_same (Cons a d) h = refl

  test_same : (x : Object) → Here x → test_meant new x ≡ test_meant names x
  test_same (Int z) h = refl
  test_same (Character n) h = refl
  test_same (Symbol t) h = refl
  test_same (Text t) h = refl
  test_same (Cons k i) h = ap (λ b. cond (is_boolean b) (index_meant i) None) (head_same k h.0)

  call_same : (xs : List Object) → Every Here xs → call_of new xs ≡ call_of names xs
  call_same [] h = refl
  call_same (f ∷ []) h = refl
  call_same (f ∷ i ∷ []) h = ap (λ b. cond b (option_map Boolean (index_meant i)) None) (spells_same names more (codes "G-BOOLEAN") f h.0)
  call_same (f ∷ i ∷ j ∷ []) h = refl
  call_same (f ∷ i ∷ j ∷ k ∷ []) h = ap (λ b. cond b (progression (index_meant i) (index_meant j) (index_meant k)) None) (spells_same names more (codes "G-INT") f h.0)
  call_same (f ∷ i ∷ j ∷ k ∷ l ∷ ms) h = refl

  comma_same : (o : Option (List Object)) → IfSome o (Every Here) → comma_of new o ≡ comma_of names o
  comma_same None h = refl
  comma_same (Some []) h = refl
  comma_same (Some (c ∷ [])) h = then_same (Every Here) (call_of new) (call_of names) (elements c) (elements_known names more c h.0) call_same
  comma_same (Some (c ∷ d ∷ es)) h = refl

  abbrev comma_by : Bool → Option ShapeSeen → Option ShapeSeen
  comma_by quasi o = cond quasi o None

  headed_word : (quasi : Bool) (w : List ℕ) (d : Object) (o p : Option ShapeSeen) → Here d → o ≡ p → headed new quasi (word_head w) d o ≡ headed names quasi (word_head w) d p
  unfolding word_head
  headed_word quasi w d o p h e =
      cond_both (λ k. headed new quasi k d o ≡ headed names quasi k d p) (bytes_eq w (codes ":G-BOOLEAN")) _ _ refl
      (cond_both (λ k. headed new quasi k d o ≡ headed names quasi k d p) (bytes_eq w (codes ":G-INTEGER")) _ _ refl
      (cond_both (λ k. headed new quasi k d o ≡ headed names quasi k d p) (bytes_eq w (codes ":G-ITE")) _ _ e
      (cond_both (λ k. headed new quasi k d o ≡ headed names quasi k d p) (bytes_eq w (codes ":G-CONCRETE")) _ _ refl
      (cond_both (λ k. headed new quasi k d o ≡ headed names quasi k d p) (bytes_eq (take 3 w) (codes ":G-")) _ _ refl refl))))

  headed_same : (quasi : Bool) (x d : Object) (o p : Option ShapeSeen) → Here d → o ≡ p → headed new quasi (head_of names x) d o ≡ headed names quasi (head_of names x) d p
  headed_same quasi (Int z) d o p h e = refl
  headed_same quasi (Character z) d o p h e = refl
  headed_same quasi (Text z) d o p h e = refl
  headed_same quasi (Cons a b) d o p h e = refl
  headed_same quasi (Symbol t) d o p h e =
      cond_both (λ k. headed new quasi k d o ≡ headed names quasi k d p) (t == 2) _ _ refl
      (cond_both (λ k. headed new quasi k d o ≡ headed names quasi k d p) (t == 3) _ _ (ap (comma_by quasi) (comma_same (elements d) (elements_known names more d h))) (headed_word quasi (text_of names t) d o p h e))

  mutual
    shape_same : (quasi : Bool) (x : Object) → Here x → shape_meant new quasi x ≡ shape_meant names quasi x
    shape_same quasi (Int z) h = refl
    shape_same quasi (Character n) h = refl
    shape_same quasi (Symbol t) h = refl
    shape_same quasi (Text t) h = refl
    shape_same quasi (Cons a d) h =
        ap (λ k. cond (is_plain k) (both Pair (shape_meant new quasi a) (shape_meant new quasi d)) (headed new quasi k d (choice_meant new quasi d))) (head_same a h.0)
        ∙ (λ i. cond (is_plain (head_of names a)) (both Pair (shape_same quasi a h.0 i) (shape_same quasi d h.1 i)) (headed_same quasi a d (choice_meant new quasi d) (choice_meant names quasi d) h.1 (choice_same quasi d h.1) i))

    choice_same : (quasi : Bool) (x : Object) → Here x → choice_meant new quasi x ≡ choice_meant names quasi x
    choice_same quasi (Int z) h = refl
    choice_same quasi (Character n) h = refl
    choice_same quasi (Symbol t) h = refl
    choice_same quasi (Text t) h = refl
    choice_same quasi (Cons t xy) h = ap (λ o. branches_meant new quasi o xy) (test_same t h.0) ∙ branches_same quasi (test_meant names t) xy h.1

    branches_same : (quasi : Bool) (o : Option ℕ) (x : Object) → Here x → branches_meant new quasi o x ≡ branches_meant names quasi o x
    branches_same quasi o (Int z) h = refl
    branches_same quasi o (Character n) h = refl
    branches_same quasi o (Symbol t) h = refl
    branches_same quasi o (Text t) h = refl
    branches_same quasi o (Cons x y) h = λ i. choice_of o (shape_same quasi x h.0 i) (shape_same quasi y h.1 i)

  -- ---- entries
  abbrev EntryKnown : ℕ × ShapeSeen → Type 0
  EntryKnown p = IsKnown names more p.0

  entry_same : (quasi : Bool) (o : Option (List Object)) → IfSome o (Every Here) → entry_of new quasi o ≡ entry_of names quasi o
  entry_same quasi None h = refl
  entry_same quasi (Some []) h = refl
  entry_same quasi (Some (Int z ∷ xs)) h = refl
  entry_same quasi (Some (Character z ∷ xs)) h = refl
  entry_same quasi (Some (Text z ∷ xs)) h = refl
  entry_same quasi (Some (Cons a d ∷ xs)) h = refl
  entry_same quasi (Some (Symbol v ∷ [])) h = refl
  entry_same quasi (Some (Symbol v ∷ x ∷ [])) h = ap (option_map (λ s. (v, s))) (shape_same quasi x h.1.0)
  entry_same quasi (Some (Symbol v ∷ x ∷ y ∷ zs)) h = refl

  entry_known : (quasi : Bool) (o : Option (List Object)) → IfSome o (Every Here) → IfSome (entry_of names quasi o) EntryKnown
  entry_known quasi None h = tt
  entry_known quasi (Some []) h = tt
  entry_known quasi (Some (Int z ∷ xs)) h = tt
  entry_known quasi (Some (Character z ∷ xs)) h = tt
  entry_known quasi (Some (Text z ∷ xs)) h = tt
  entry_known quasi (Some (Cons a d ∷ xs)) h = tt
  entry_known quasi (Some (Symbol v ∷ [])) h = tt
  entry_known quasi (Some (Symbol v ∷ x ∷ [])) h = map_has (λ (s : ShapeSeen). Unit {0}) EntryKnown (λ s. (v, s)) (shape_meant names quasi x) (any_some (shape_meant names quasi x)) (λ s k. h.0)
  entry_known quasi (Some (Symbol v ∷ x ∷ y ∷ zs)) h = tt

  entries_same : (quasi : Bool) (xs : List Object) → Every Here xs → all_meant (entry_meant new quasi) xs ≡ all_meant (entry_meant names quasi) xs
  entries_same quasi xs h = all_meant_same Here (entry_meant new quasi) (entry_meant names quasi) xs h (λ x k. entry_same quasi (elements x) (elements_known names more x k))

  entries_known : (quasi : Bool) (xs : List Object) → Every Here xs → IfSome (all_meant (entry_meant names quasi) xs) (Every EntryKnown)
  entries_known quasi xs h = all_meant_has Here EntryKnown (entry_meant names quasi) xs h (λ x k. entry_known quasi (elements x) (elements_known names more x k))

  quoted_same : (quasi : Bool) (o : Option (List Object)) → IfSome o (Every Here) → quoted new quasi o ≡ quoted names quasi o
  quoted_same quasi None h = refl
  quoted_same quasi (Some []) h = refl
  quoted_same quasi (Some (x ∷ [])) h = then_same (Every Here) (all_meant (entry_meant new quasi)) (all_meant (entry_meant names quasi)) (elements x) (elements_known names more x h.0) (entries_same quasi)
  quoted_same quasi (Some (x ∷ y ∷ zs)) h = refl

  quoted_known : (quasi : Bool) (o : Option (List Object)) → IfSome o (Every Here) → IfSome (quoted names quasi o) (Every EntryKnown)
  quoted_known quasi None h = tt
  quoted_known quasi (Some []) h = tt
  quoted_known quasi (Some (x ∷ [])) h = then_has (Every Here) (Every EntryKnown) (all_meant (entry_meant names quasi)) (elements x) (elements_known names more x h.0) (entries_known quasi)
  quoted_known quasi (Some (x ∷ y ∷ zs)) h = tt

  -- ---- items
  word_same : (x : Object) → Here x → item_of new x ≡ item_of names x
  word_same (Int z) h = refl
  word_same (Character n) h = refl
  word_same (Symbol t) h = ap item_word (text_same names more t h)
  word_same (Text t) h = refl
  word_same (Cons a d) h = refl

  mutual
    item_same : (x : Object) → Here x → item_meant new x ≡ item_meant names x
    item_same (Int z) h = refl
    item_same (Character n) h = refl
    item_same (Symbol t) h = refl
    item_same (Text t) h = refl
    item_same (Cons k d) h = λ i. itemized (word_same k h.0 i) d (items_same d h.1 i)

    items_same : (x : Object) → Here x → items_meant new x ≡ items_meant names x
    items_same (Int z) h = refl
    items_same (Character n) h = refl
    items_same (Symbol zero) h = refl
    items_same (Symbol (suc t)) h = refl
    items_same (Text t) h = refl
    items_same (Cons x d) h = λ i. both (λ y ys. y ∷ ys) (item_same x h.0 i) (items_same d h.1 i)

  abbrev SlottedKnown : Slotted → Type 0
  SlottedKnown s = Every (λ (v : ℕ × Bool). IsKnown names more v.0) s.variables

  own_known : (v : ℕ) (b : Bool) (n : ℕ) → IsKnown names more v → IfSome (own_slots v b n) SlottedKnown
  own_known v b n h = cond_has SlottedKnown (leb 1 n && leb n 128) (Some (own v b n)) None (h, tt) tt

  number_known : (more_slots : ℕ) (o : Option (List Object)) → IfSome o (Every Here) → IfSome (number_item more_slots o) SlottedKnown
  number_known m None h = tt
  number_known m (Some []) h = tt
  number_known m (Some (Int z ∷ xs)) h = tt
  number_known m (Some (Character z ∷ xs)) h = tt
  number_known m (Some (Text z ∷ xs)) h = tt
  number_known m (Some (Cons a d ∷ xs)) h = tt
  number_known m (Some (Symbol v ∷ [])) h = tt
  number_known m (Some (Symbol v ∷ Int (pos n) ∷ [])) h = own_known v false (n + m) h.0
  number_known m (Some (Symbol v ∷ Int (negsuc n) ∷ [])) h = tt
  number_known m (Some (Symbol v ∷ Int (pos n) ∷ x ∷ ys)) h = tt
  number_known m (Some (Symbol v ∷ Int (negsuc n) ∷ x ∷ ys)) h = tt
  number_known m (Some (Symbol v ∷ Character z ∷ xs)) h = tt
  number_known m (Some (Symbol v ∷ Symbol z ∷ xs)) h = tt
  number_known m (Some (Symbol v ∷ Text z ∷ xs)) h = tt
  number_known m (Some (Symbol v ∷ Cons a d ∷ xs)) h = tt

  boolean_known : (o : Option (List Object)) → IfSome o (Every Here) → IfSome (boolean_item o) SlottedKnown
  boolean_known None h = tt
  boolean_known (Some []) h = tt
  boolean_known (Some (Int z ∷ xs)) h = tt
  boolean_known (Some (Character z ∷ xs)) h = tt
  boolean_known (Some (Text z ∷ xs)) h = tt
  boolean_known (Some (Cons a d ∷ xs)) h = tt
  boolean_known (Some (Symbol v ∷ [])) h = own_known v true 1 h.0
  boolean_known (Some (Symbol v ∷ x ∷ ys)) h = tt

  all_known : (items : List Slotted) → Every SlottedKnown items → Every (λ (v : ℕ × Bool). IsKnown names more v.0) (all_variables items)
  all_known [] h = tt
  all_known (i ∷ is) h = every_append (λ (v : ℕ × Bool). IsKnown names more v.0) i.variables (all_variables is) h.0 (all_known is h.1)

  itemized_none : (w : List ℕ) (d : Object) → Here d → IfSome (itemized (item_word w) d None) SlottedKnown
  unfolding item_word
  itemized_none w d h =
      let es = elements_known names more d h in
      cond_both (λ o. IfSome (itemized o d None) SlottedKnown) (bytes_eq w (codes ":NAT")) _ _ (number_known 1 (elements d) es)
      (cond_both (λ o. IfSome (itemized o d None) SlottedKnown) (bytes_eq w (codes ":INT")) _ _ (number_known 0 (elements d) es)
      (cond_both (λ o. IfSome (itemized o d None) SlottedKnown) (bytes_eq w (codes ":BOOLEAN")) _ _ (boolean_known (elements d) es)
      (cond_both (λ o. IfSome (itemized o d None) SlottedKnown) (bytes_eq w (codes ":SEQ")) _ _ tt
      (cond_both (λ o. IfSome (itemized o d None) SlottedKnown) (bytes_eq w (codes ":MIX")) _ _ tt tt))))

  itemized_some : (w : List ℕ) (d : Object) (items : List Slotted) → Here d → Every SlottedKnown items → IfSome (itemized (item_word w) d (Some items)) SlottedKnown
  unfolding item_word
  itemized_some w d items h g =
      let es = elements_known names more d h in
      cond_both (λ o. IfSome (itemized o d (Some items)) SlottedKnown) (bytes_eq w (codes ":NAT")) _ _ (number_known 1 (elements d) es)
      (cond_both (λ o. IfSome (itemized o d (Some items)) SlottedKnown) (bytes_eq w (codes ":INT")) _ _ (number_known 0 (elements d) es)
      (cond_both (λ o. IfSome (itemized o d (Some items)) SlottedKnown) (bytes_eq w (codes ":BOOLEAN")) _ _ (boolean_known (elements d) es)
      (cond_both (λ o. IfSome (itemized o d (Some items)) SlottedKnown) (bytes_eq w (codes ":SEQ")) _ _ (all_known items g)
      (cond_both (λ o. IfSome (itemized o d (Some items)) SlottedKnown) (bytes_eq w (codes ":MIX")) _ _ (cond_has SlottedKnown (have_count (first_count items) items) (Some (interleaved items)) None (all_known items g) tt) tt))))

  itemized_word : (w : List ℕ) (d : Object) (items : Option (List Slotted)) → Here d → IfSome items (Every SlottedKnown) → IfSome (itemized (item_word w) d items) SlottedKnown
  itemized_word w d None h g = itemized_none w d h
  itemized_word w d (Some items) h g = itemized_some w d items h g

  itemized_known : (k d : Object) (items : Option (List Slotted)) → Here d → IfSome items (Every SlottedKnown) → IfSome (itemized (item_of names k) d items) SlottedKnown
  itemized_known (Int z) d items h g = tt
  itemized_known (Character z) d items h g = tt
  itemized_known (Symbol t) d items h g = itemized_word (text_of names t) d items h g
  itemized_known (Text z) d items h g = tt
  itemized_known (Cons a b) d items h g = tt

  mutual
    item_known : (x : Object) → Here x → IfSome (item_meant names x) SlottedKnown
    item_known (Int z) h = tt
    item_known (Character n) h = tt
    item_known (Symbol t) h = tt
    item_known (Text t) h = tt
    item_known (Cons k d) h = itemized_known k d (items_meant names d) h.1 (items_known d h.1)

    items_known : (x : Object) → Here x → IfSome (items_meant names x) (Every SlottedKnown)
    items_known (Int z) h = tt
    items_known (Character n) h = tt
    items_known (Symbol zero) h = tt
    items_known (Symbol (suc t)) h = tt
    items_known (Text t) h = tt
    items_known (Cons x d) h = both_has SlottedKnown (Every SlottedKnown) (Every SlottedKnown) (λ y ys. y ∷ ys) (item_meant names x) (items_meant names d) (item_known x h.0) (items_known d h.1) (λ y ys a b. (a, b))

  placed_known : (vs : List (ℕ × Bool)) (slots : List ℕ) → Every (λ (v : ℕ × Bool). IsKnown names more v.0) vs → Every EntryKnown (map (λ (v : ℕ × Bool). (v.0, shape_at v.1 (places_of v.0 slots))) vs)
  placed_known [] slots h = tt
  placed_known (v ∷ vs) slots h = (h.0, placed_known vs slots h.1)

  bound_known : (items : List Slotted) → Every SlottedKnown items → IfSome (bound (in_sequence items)) (Every EntryKnown)
  bound_known items h =
      let s = in_sequence items in
      cond_has (Every EntryKnown) (leb (length s.slots) 1024) (Some (placed s)) None (placed_known s.variables s.slots (all_known items h)) tt

  -- ---- the whole
  abbrev listed_by : Bool → Bool → Bool → Option (List (ℕ × ShapeSeen)) → Option (List (ℕ × ShapeSeen)) → Option (List (ℕ × ShapeSeen)) → Option (List (ℕ × ShapeSeen))
  listed_by a b c x y z = cond a x (cond b y (cond c z None))

  listed_same : (x : Object) → Here x → listed new x ≡ listed names x
  listed_same (Int z) h = refl
  listed_same (Character n) h = refl
  listed_same (Symbol t) h = refl
  listed_same (Text t) h = refl
  listed_same (Cons k d) h =
      λ i. listed_by (is_backquote k) (spells_same names more (codes "QUOTE") k h.0 i) (spells_same names more (codes "AUTO-BINDINGS") k h.0 i)
      (quoted_same true (elements d) (elements_known names more d h.1) i) (quoted_same false (elements d) (elements_known names more d h.1) i) (option_and_then (λ is. bound (in_sequence is)) (items_same d h.1 i))

  listed_known : (x : Object) → Here x → IfSome (listed names x) (Every EntryKnown)
  listed_known (Int z) h = tt
  listed_known (Character n) h = tt
  listed_known (Symbol t) h = tt
  listed_known (Text t) h = tt
  listed_known (Cons k d) h =
      let es = elements_known names more d h.1 in
      cond_has (Every EntryKnown) (is_backquote k) (quoted names true (elements d)) (listed_by false (spells names (codes "QUOTE") k) (spells names (codes "AUTO-BINDINGS") k) None (quoted names false (elements d)) (option_and_then (λ is. bound (in_sequence is)) (items_meant names d)))
      (quoted_known true (elements d) es)
      (cond_has (Every EntryKnown) (spells names (codes "QUOTE") k) (quoted names false (elements d)) (cond (spells names (codes "AUTO-BINDINGS") k) (option_and_then (λ is. bound (in_sequence is)) (items_meant names d)) None)
      (quoted_known false (elements d) es)
      (cond_has (Every EntryKnown) (spells names (codes "AUTO-BINDINGS") k) (option_and_then (λ is. bound (in_sequence is)) (items_meant names d)) None
      (then_has (Every SlottedKnown) (Every EntryKnown) (λ is. bound (in_sequence is)) (items_meant names d) (items_known d h.1) bound_known) tt))

  legal_all : (b : List (ℕ × ShapeSeen)) → Every EntryKnown b → list_all (is_legal new) (variables_of b) ≡ list_all (is_legal names) (variables_of b)
  legal_all [] h = refl
  legal_all (p ∷ ps) h = λ i. legal_same names more p.0 h.0 i && legal_all ps h.1 i

  checked_same : (o : Option (List (ℕ × ShapeSeen))) → IfSome o (Every EntryKnown) → checked new o ≡ checked names o
  checked_same None h = refl
  checked_same (Some b) h = ap (λ l. cond ((l && are_different (variables_of b)) && (list_all is_shape (shapes_of b) && (are_below (indices_of b) && (are_different (indices_of b) && leb (width_of b) 1024)))) (Some b) None) (legal_all b h)

  pub bindings_same : (x : Object) → Here x → bindings_meant new x ≡ bindings_meant names x
  bindings_same x h = ap (checked new) (listed_same x h) ∙ checked_same (listed names x) (listed_known x h)
