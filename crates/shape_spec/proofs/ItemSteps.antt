-- The meaning of items, a part at a time.
use Rattle.std.proofs.Common.{◌≡◌, ◌∙◌, ap, sym, refl, subst, ℕ, zero, suc, ◌+◌, ◌-◌, ◌*◌, ◌<◌, ◌≤◌, Bool, true, false, cond, leb, List, [], ◌∷◌, ◌++◌, reverse, take, length, get_or, Option, Some, None, arith, append-nil}
use Rattle.std.specs.Prelude.{◌==◌}
use Rattle.std.specs.List.{flat_map, filter, range_with_len}
use Rattle.std.specs.Option.{option_map, option_and_then}
use Rattle.std.proofs.lemmas.List.{length-append, length-map}
use Rattle.std.proofs.lemmas.List.Elements.{filter-append}
use Rattle.std.proofs.lemmas.Grind.{flat_map-append}
use Rattle.gl_logic.specs.Object.{Object, Int, Character, Symbol, Text, Cons, nil}
use Rattle.gl_logic.specs.Lists.{conses, size_of, size-conses}
use Rattle.gl_logic.specs.Wording.{elements, both, all_meant}
use Rattle.shape_spec.specs.Heads.{item_of}
use Rattle.shape_spec.specs.ItemsMeant.{Slotted, number_item, boolean_item, in_sequence, first_count, have_count, slots_at, interleaved, mixed, itemized, item_meant, items_meant}
use Rattle.shape_spec.specs.Gives.{within, all_within, slots_in}
use Rattle.shape_spec.specs.declared.words.ItemWord.{ItemWord}
use Rattle.shape_spec.specs.declared.words.ItemWord.TheVariants as item
use Rattle.shape_spec.proofs.Fits.{and_first, and_second, leb_le, le_leb, not_true, some_same}
use Rattle.shape_spec.proofs.InReverse.{left_of}
use denote.Param.Weighed.{most}
use Rattle.gl_logic.proofs.ProperLists.{elements_conses, conses-last, front_size}

-- ---- lists of items
no_rest : {A B C : Type 0} (f : A → B → C) (o : Option A) → both f o None ≡ None
no_rest f None = refl
no_rest f (Some a) = refl

joined_both : {A B : Type 0} (f : A → Option B) (a : A) (o : Option (List A)) → both (λ y ys. y ∷ ys) (f a) (option_and_then (all_meant f) o) ≡ option_and_then (all_meant f) (option_map (λ xs. a ∷ xs) o)
joined_both f a (Some xs) = refl
joined_both f a None = no_rest (λ y ys. y ∷ ys) (f a)

pub items_listed : (names : List (List ℕ)) (x : Object) → items_meant names x ≡ option_and_then (all_meant (item_meant names)) (elements x)
items_listed names (Int z) = refl
items_listed names (Character n) = refl
items_listed names (Symbol zero) = refl
items_listed names (Symbol (suc n)) = refl
items_listed names (Text n) = refl
items_listed names (Cons a d) = ap (both (λ i is. i ∷ is) (item_meant names a)) (items_listed names d) ∙ joined_both (item_meant names) a (elements d)

pub items_conses : (names : List (List ℕ)) (es : List Object) (t : Object) → t ≡ nil → items_meant names (conses es t) ≡ all_meant (item_meant names) (reverse es)
items_conses names es t e = items_listed names (conses es t) ∙ ap (option_and_then (all_meant (item_meant names))) (elements_conses es t e)

-- an item, by its word and what stands behind
pub item_at : (names : List (List ℕ)) (es : List Object) (w : Object) → 1 ≤ length es → w ≡ get_or es (length es - 1) w
    → item_meant names (conses es nil) ≡ itemized (item_of names w) (conses (take (length es - 1) es) nil) (all_meant (item_meant names) (reverse (take (length es - 1) es)))
item_at names es w some at =
    ap (item_meant names) (conses-last es nil w (omega (arith, some)) at)
    ∙ ap (itemized (item_of names w) (conses (take (length es - 1) es) nil)) (items_conses names (take (length es - 1) es) nil refl)

no_elements : (a : Object) (o : Option (List Object)) → option_map (λ xs. a ∷ xs) o ≡ None → o ≡ None
no_elements a None h = refl
no_elements a (Some xs) h = absurd cc

no_item : (w : Option ItemWord) (d : Object) (o : Option (List Slotted)) → elements d ≡ None → o ≡ None → itemized w d o ≡ None
no_item None d o h e = ap (itemized None d) e
no_item (Some item.Nat) d o h e = ap (number_item 1) h
no_item (Some item.Int) d o h e = ap (number_item 0) h
no_item (Some item.Boolean) d o h e = ap boolean_item h
no_item (Some item.Seq) d o h e = ap (option_map in_sequence) e
no_item (Some item.Mix) d o h e = ap (itemized (Some item.Mix) d) e

no_word : (d : Object) (o : Option (List Slotted)) → itemized None d o ≡ None
no_word d None = refl
no_word d (Some is) = refl

pub item_none : (names : List (List ℕ)) (x : Object) → elements x ≡ None → item_meant names x ≡ None
item_none names (Int z) h = refl
item_none names (Character n) h = refl
item_none names (Symbol n) h = refl
item_none names (Text n) h = refl
item_none names (Cons a d) h =
    let rest : elements d ≡ None = no_elements a (elements d) h in
    let items : items_meant names d ≡ None = items_listed names d ∙ ap (option_and_then (all_meant (item_meant names))) rest in
    no_item (item_of names a) d (items_meant names d) rest items

-- the empty list is no item
pub item_nil : (names : List (List ℕ)) (x : Object) (es : List Object) → x ≡ conses es nil → length es ≡ 0 → item_meant names x ≡ None
item_nil names x [] e h = ap (item_meant names) e
item_nil names x (y ∷ es) e h = absurd (omega (arith, h))

-- ---- counts of slots
pub within_at : (left : ℕ) (o : Option Slotted) (s : Slotted) → o ≡ Some s → length s.slots ≤ left → within left o ≡ Some s
within_at left o s e h = ap (within left) e ∙ ap (λ b. cond b (Some s) None) (le_leb (length s.slots) left h)

pub record IsWithin (left : ℕ) (o : Option Slotted) (s : Slotted) : Type 0 where
  pub is : o ≡ Some s
  pub few : length s.slots ≤ left

abbrev one_slotted : Slotted → Option Slotted
one_slotted s = Some s

within_from : (left : ℕ) (t s : Slotted) (b : Bool) → leb (length t.slots) left ≡ b → cond b (one_slotted t) None ≡ Some s → IsWithin left (Some t) s
within_from left t s true h e =
    let same : t ≡ s = some_same _ _ e in
    record { is = e; few = subst (λ (u : Slotted). length u.slots ≤ left) same (leb_le (length t.slots) left h) }
within_from left t s false h e = absurd cc

pub within_some : (left : ℕ) (o : Option Slotted) (s : Slotted) → within left o ≡ Some s → IsWithin left o s
within_some left None s h = absurd cc
within_some left (Some t) s h = within_from left t s (leb (length t.slots) left) refl h

pub within_not : (left : ℕ) (o : Option Slotted) → ((s : Slotted) → o ≡ Some s → length s.slots ≤ left → ⊥) → within left o ≡ None
within_not left None h = refl
within_not left (Some s) h = ap (λ b. cond b (one_slotted s) None) (not_true (leb (length s.slots) left) (λ t. h s refl (leb_le (length s.slots) left t)))

pub within_none : (left : ℕ) (o : Option Slotted) → within left o ≡ None → (s : Slotted) → o ≡ Some s → length s.slots ≤ left → ⊥
within_none left o h s e l = let c = sym h ∙ within_at left o s e l in absurd cc

abbrev some_items : List Slotted → Option (List Slotted)
some_items is = Some is

pub all_within_not : (left : ℕ) (o : Option (List Slotted)) → ((is : List Slotted) → o ≡ Some is → length (slots_in is) ≤ left → ⊥) → all_within left o ≡ None
all_within_not left None h = refl
all_within_not left (Some is) h = ap (λ b. cond b (some_items is) None) (not_true (leb (length (slots_in is)) left) (λ t. h is refl (leb_le (length (slots_in is)) left t)))

pub all_within_at : (left : ℕ) (is : List Slotted) → length (slots_in is) ≤ left → all_within left (Some is) ≡ Some is
all_within_at left is h = ap (λ b. cond b (some_items is) None) (le_leb (length (slots_in is)) left h)

pub record AreWithin (left : ℕ) (o : Option (List Slotted)) (all : List Slotted) : Type 0 where
  pub are : o ≡ Some all
  pub few : length (slots_in all) ≤ left

all_within_from : (left : ℕ) (js is : List Slotted) (b : Bool) → leb (length (slots_in js)) left ≡ b → cond b (some_items js) None ≡ Some is → AreWithin left (Some js) is
all_within_from left js is true h e =
    let same : js ≡ is = some_same _ _ e in
    record { are = e; few = subst (λ (u : List Slotted). length (slots_in u) ≤ left) same (leb_le (length (slots_in js)) left h) }
all_within_from left js is false h e = absurd cc

pub all_within_some : (left : ℕ) (o : Option (List Slotted)) (is : List Slotted) → all_within left o ≡ Some is → AreWithin left o is
all_within_some left None is h = absurd cc
all_within_some left (Some js) is h = all_within_from left js is (leb (length (slots_in js)) left) refl h

pub all_within_none : (left : ℕ) (o : Option (List Slotted)) → all_within left o ≡ None → (is : List Slotted) → o ≡ Some is → length (slots_in is) ≤ left → ⊥
all_within_none left o h is e l = let c = sym h ∙ (ap (all_within left) e ∙ all_within_at left is l) in absurd cc

-- what has been read stands in front
front_of : (done is : List Slotted) (o : Option (List Slotted)) → option_map (λ r. done ++ r) o ≡ Some is → length (slots_in done) ≤ length (slots_in is)
front_of done is None h = absurd cc
front_of done is (Some r) h =
    let same : done ++ r ≡ is = some_same _ _ h in
    omega (arith, ap (λ (u : List Slotted). length (slots_in u)) same, ap length (flat_map-append (λ (i : Slotted). i.slots) done r), length-append (slots_in done) (slots_in r))

-- an item that doesn't fit behind those that have been read
pub too_many : (names : List (List ℕ)) (forms : List Object) (done : List Slotted) (left whole place : ℕ) (m : Slotted) → left + length (slots_in done) ≡ whole → left < length m.slots
    → all_within whole (left_of (item_meant names) forms (done ++ m ∷ []) place) ≡ None
too_many names forms done left whole place m e h =
    all_within_not whole _ (λ is q l.
    let more = front_of (done ++ m ∷ []) is (all_meant (item_meant names) (reverse (take place forms))) q in
    let one = ap length (flat_map-append (λ (i : Slotted). i.slots) done (m ∷ [])) ∙ length-append (slots_in done) (m.slots ++ []) in
    omega (arith, e, h, l, more, one, ap length (append-nil m.slots)))

pub slots_push : (done : List Slotted) (m : Slotted) → length (slots_in (done ++ m ∷ [])) ≡ length (slots_in done) + length m.slots
slots_push done m = ap length (flat_map-append (λ (i : Slotted). i.slots) done (m ∷ [])) ∙ (length-append (slots_in done) (m.slots ++ []) ∙ omega (arith, ap length (append-nil m.slots)))

-- ---- slots in turn
range_suc : (a n : ℕ) → range_with_len a (suc n) ≡ range_with_len a n ++ (a + n) ∷ []
range_suc a zero = ap (λ (k : ℕ). k ∷ []) (omega arith)
range_suc a (suc n) = let e : a + 1 + n ≡ a + suc n = omega arith in ap (λ (ks : List ℕ). a ∷ ks) (range_suc (a + 1) n ∙ ap (λ (k : ℕ). range_with_len (a + 1) n ++ k ∷ []) e)

pub range_more : (a n : ℕ) → range_with_len a (n + 1) ≡ range_with_len a n ++ (a + n) ∷ []
range_more a n = let s : n + 1 ≡ suc n = omega arith in ap (range_with_len a) s ∙ range_suc a n

pub filter_more : (p : ℕ → Bool) (n : ℕ) → filter p (range_with_len 0 (n + 1)) ≡ filter p (range_with_len 0 n) ++ filter p (n ∷ [])
filter_more p n = ap (filter p) (range_more 0 n ∙ ap (λ (k : ℕ). range_with_len 0 n ++ k ∷ []) (omega arith)) ∙ filter-append p (range_with_len 0 n) (n ∷ [])

pub turn_more : (f : ℕ → List ℕ) (n : ℕ) → flat_map f (range_with_len 0 (n + 1)) ≡ flat_map f (range_with_len 0 n) ++ f n
turn_more f n =
    let z : 0 + n ≡ n = omega arith in
    ap (flat_map f) (range_more 0 n ∙ ap (λ (k : ℕ). range_with_len 0 n ++ k ∷ []) z) ∙ (flat_map-append f (range_with_len 0 n) (n ∷ []) ∙ ap (λ is. flat_map f (range_with_len 0 n) ++ is) (append-nil (f n)))

-- ---- counts of compound items
pub sequence_count : (is : List Slotted) → (in_sequence is).slots ≡ slots_in is
sequence_count is = refl

slots_at_length : (is : List Slotted) (k : ℕ) → length (slots_at is k) ≡ length is
slots_at_length is k = length-map is (λ i. get_or i.slots k 0)

turns_length : (is : List Slotted) (a n : ℕ) → length (flat_map (slots_at is) (range_with_len a n)) ≡ n * length is
turns_length is a zero = omega arith
turns_length is a (suc n) = let r = turns_length is (a + 1) n in let l = slots_at_length is a in let s = length-append (slots_at is a) (flat_map (slots_at is) (range_with_len (a + 1) n)) in omega (arith, r, l, s)

eqb_is : (a b : ℕ) → (a == b) ≡ true → a ≡ b
eqb_is a b h = grind (arith, h)

equal_counts : (n : ℕ) (is : List Slotted) → have_count n is ≡ true → length (slots_in is) ≡ n * length is
equal_counts n [] h = omega arith
equal_counts n (i ∷ is) h =
    let first : length i.slots ≡ n = eqb_is (length i.slots) n (and_first (length i.slots == n) (have_count n is) h) in
    let rest = equal_counts n is (and_second (length i.slots == n) (have_count n is) h) in
    omega (arith, first, rest, length-append i.slots (slots_in is))

mixed_from : (is : List Slotted) (s : Slotted) (b : Bool) → have_count (first_count is) is ≡ b → cond b (one_slotted (interleaved is)) None ≡ Some s → length s.slots ≡ length (slots_in is)
mixed_from is s true h e =
    let same : interleaved is ≡ s = some_same _ _ e in
    sym (ap (λ (u : Slotted). length u.slots) same) ∙ (turns_length is 0 (first_count is) ∙ sym (equal_counts (first_count is) is h))
mixed_from is s false h e = absurd cc

-- as many slots as the items have
pub mixed_count : (is : List Slotted) (s : Slotted) → mixed is ≡ Some s → length s.slots ≡ length (slots_in is)
mixed_count is s h = mixed_from is s (have_count (first_count is) is) refl h

-- ---- items of items within what is left
module _ (left : ℕ) (names : List (List ℕ)) (es : List Object) (w : Object) (some : 1 ≤ length es) (at : w ≡ get_or es (length es - 1) w) where
  abbrev rest : Option (List Slotted)
  rest = all_meant (item_meant names) (reverse (take (length es - 1) es))

  abbrev behind : Object
  behind = conses (take (length es - 1) es) nil

  worded : (i : ItemWord) → item_of names w ≡ Some i → within left (item_meant names (conses es nil)) ≡ within left (itemized (Some i) behind rest)
  worded i e = ap (within left) (item_at names es w some at ∙ ap (λ (o : Option ItemWord). itemized o behind rest) e)

  no_sequence : (o : Option (List Slotted)) → all_within left o ≡ None → within left (option_map in_sequence o) ≡ None
  no_sequence None h = refl
  no_sequence (Some is) h = within_not left (Some (in_sequence is)) (λ s e l. all_within_none left (Some is) h is refl (subst (λ (u : Slotted). length u.slots ≤ left) (sym (some_same _ _ e)) l))

  pub sequence_none : item_of names w ≡ Some item.Seq → all_within left rest ≡ None → within left (item_meant names (conses es nil)) ≡ None
  sequence_none e h = worded item.Seq e ∙ no_sequence rest h

  pub sequence_some : item_of names w ≡ Some item.Seq → (is : List Slotted) → all_within left rest ≡ Some is → within left (item_meant names (conses es nil)) ≡ Some (in_sequence is)
  sequence_some e is h =
      let all = all_within_some left rest is h in
      worded item.Seq e ∙ within_at left (option_map in_sequence rest) (in_sequence is) (ap (option_map in_sequence) all.are) all.few

  no_mixed : (o : Option (List Slotted)) → all_within left o ≡ None → within left (itemized (Some item.Mix) behind o) ≡ None
  no_mixed None h = refl
  no_mixed (Some is) h = within_not left (mixed is) (λ s e l. all_within_none left (Some is) h is refl (subst (λ (n : ℕ). n ≤ left) (mixed_count is s e) l))

  pub mixed_none : item_of names w ≡ Some item.Mix → all_within left rest ≡ None → within left (item_meant names (conses es nil)) ≡ None
  mixed_none e h = worded item.Mix e ∙ no_mixed rest h

  mixed_within : (is : List Slotted) (o : Option Slotted) → length (slots_in is) ≤ left → mixed is ≡ o → within left o ≡ o
  mixed_within is None l e = refl
  mixed_within is (Some s) l e = within_at left (Some s) s refl (subst (λ (n : ℕ). n ≤ left) (sym (mixed_count is s e)) l)

  pub mixed_some : item_of names w ≡ Some item.Mix → (is : List Slotted) → all_within left rest ≡ Some is → within left (item_meant names (conses es nil)) ≡ mixed is
  mixed_some e is h =
      let all = all_within_some left rest is h in
      worded item.Mix e ∙ (ap (λ (o : Option (List Slotted)). within left (itemized (Some item.Mix) behind o)) all.are ∙ mixed_within is (mixed is) all.few refl)

  one_listed : elements behind ≡ Some (reverse (take (length es - 1) es))
  one_listed = elements_conses (take (length es - 1) es) nil refl

  pub nat_at : item_of names w ≡ Some item.Nat → within left (number_item 1 (Some (reverse (take (length es - 1) es)))) ≡ within left (item_meant names (conses es nil))
  nat_at e = sym (worded item.Nat e ∙ ap (λ (o : Option (List Object)). within left (number_item 1 o)) one_listed)

  pub int_at : item_of names w ≡ Some item.Int → within left (number_item 0 (Some (reverse (take (length es - 1) es)))) ≡ within left (item_meant names (conses es nil))
  int_at e = sym (worded item.Int e ∙ ap (λ (o : Option (List Object)). within left (number_item 0 o)) one_listed)

  pub boolean_at : item_of names w ≡ Some item.Boolean → within left (boolean_item (Some (reverse (take (length es - 1) es)))) ≡ within left (item_meant names (conses es nil))
  boolean_at e = sym (worded item.Boolean e ∙ ap (λ (o : Option (List Object)). within left (boolean_item o)) one_listed)

  pub no_word_at : item_of names w ≡ None → within left (item_meant names (conses es nil)) ≡ None
  no_word_at e = ap (within left) (item_at names es w some at ∙ (ap (λ (o : Option ItemWord). itemized o behind rest) e ∙ no_word behind rest))

pub most_front : (es : List Object) (k : ℕ) → most (λ y. size_of y + 1) (take k es) ≤ size_of (conses es nil)
most_front es k = let s = size-conses (take k es) nil in omega (arith, s.1, front_size es nil k)
