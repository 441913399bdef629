-- The meaning of bindings, a variable at a time.
use Rattle.std.proofs.Common.{◌≡◌, ◌∙◌, ap, sym, refl, subst, ℕ, ◌+◌, ◌-◌, ◌<◌, ◌≤◌, Bool, true, false, cond, ◌&&◌, leb, ltb, eqb, List, [], ◌∷◌, ◌++◌, map, reverse, take, drop, length, get_or, Option, Some, None, arith}
use Rattle.std.specs.Prelude.{codes, Err}
use Rattle.std.specs.List.{list_any, list_all}
use Rattle.std.specs.Option.{option_map, option_and_then}
use Rattle.std.proofs.lemmas.List.{map-append, length-append, take_more, take-append-drop, length-reverse}
use Rattle.std.proofs.lemmas.List.Folds.{list_all-append}
use Rattle.gl_logic.specs.Object.{Object, Int, Character, Symbol, Text, Cons, nil}
use Rattle.gl_logic.specs.Lists.{conses}
use Rattle.gl_logic.specs.Kind.{kind_of}
use Rattle.gl_logic.specs.declared.ids.TextId.{TextId}
use Rattle.gl_logic.specs.declared.tree.TreeKind.{TreeKind}
use Rattle.gl_logic.specs.declared.tree.TreeKind.TheVariants as kind
use Rattle.shape_spec.specs.ShapeSeen.{ShapeSeen}
use Rattle.shape_spec.specs.Indices.{variables_of, shapes_of, indices_in, indices_of, width_of, AreApart, AreShapes, IsBindings}
use Rattle.gl_logic.specs.Wording.{is_legal, spells, elements, all_meant}
use Rattle.shape_spec.specs.ItemsMeant.{Slotted, in_sequence, item_meant, items_meant, placed}
use Rattle.shape_spec.specs.BindingsMeant.{is_shape, are_below, are_bindings, checked, entry_of, entry_meant, quoted, bound, is_backquote, bindings_meant}
use Rattle.gl_logic.specs.NameSets.{are_different}
use Rattle.shape_spec.specs.declared.fault.BindFault.{BindFault}
use Rattle.shape_spec.specs.declared.fault.BindFault.TheVariants as fault
use Rattle.shape_spec.specs.declared.item_form.ItemVariable.{ItemVariable}
use Rattle.shape_spec.specs.Gives.{Adds, Refuses, variable_of, fits, taken, entry_within, all_within, slots_in}
use Rattle.gl_logic.proofs.ProperLists.{elements_conses, conses-last}
use Rattle.shape_spec.proofs.InReverse.{left_of, read_more, read_none}
use Rattle.shape_spec.proofs.Fits.{not_true, true_false, and_first, and_second, and_both, leb_le, le_leb, some_same, IsFit, fit_from, fit_to, taken_some, taken_none}
use Rattle.shape_spec.proofs.Apart.{apart_left, last_not_in, different_apart, apart_different, below_to, shape_to, any_not}
use Rattle.shape_spec.proofs.Bound.{indices_append, indices_push}
use Rattle.shape_spec.proofs.ItemSteps.{items_listed, items_conses, all_within_some}

-- ---- the conditions, as facts
pub record AreGood (names : List (List ℕ)) (b : List (ℕ × ShapeSeen)) : Type 0 where
  pub legal : list_all (is_legal names) (variables_of b) ≡ true
  pub variables : AreApart (variables_of b)
  pub shapes : list_all is_shape (shapes_of b) ≡ true
  pub below : are_below (indices_of b) ≡ true
  pub apart : AreApart (indices_of b)
  pub few : width_of b ≤ 1024

pub good_from : (names : List (List ℕ)) (b : List (ℕ × ShapeSeen)) → are_bindings names b ≡ true → AreGood names b
good_from names b h =
    let l = list_all (is_legal names) (variables_of b) in
    let v = are_different (variables_of b) in
    let s = list_all is_shape (shapes_of b) in
    let w = are_below (indices_of b) in
    let d = are_different (indices_of b) in
    let n = leb (width_of b) 1024 in
    let first = and_first (l && v) (s && (w && (d && n))) h in
    let second = and_second (l && v) (s && (w && (d && n))) h in
    let third = and_second s (w && (d && n)) second in
    let fourth = and_second w (d && n) third in
    record {
      legal = and_first l v first;
      variables = different_apart (variables_of b) (and_second l v first);
      shapes = and_first s (w && (d && n)) second;
      below = and_first w (d && n) third;
      apart = different_apart (indices_of b) (and_first d n fourth);
      few = leb_le (width_of b) 1024 (and_second d n fourth);
    }

pub good_to : (names : List (List ℕ)) (b : List (ℕ × ShapeSeen)) → AreGood names b → are_bindings names b ≡ true
good_to names b g =
    let l = list_all (is_legal names) (variables_of b) in
    let v = are_different (variables_of b) in
    let s = list_all is_shape (shapes_of b) in
    let w = are_below (indices_of b) in
    let d = are_different (indices_of b) in
    let n = leb (width_of b) 1024 in
    and_both (l && v) (s && (w && (d && n))) (and_both l v g.legal (apart_different (variables_of b) g.variables))
    (and_both s (w && (d && n)) g.shapes (and_both w (d && n) g.below (and_both d n (apart_different (indices_of b) g.apart) (le_leb (width_of b) 1024 g.few))))

shapes_to : (b : List (ℕ × ShapeSeen)) → AreShapes b → list_all is_shape (shapes_of b) ≡ true
shapes_to [] h = refl
shapes_to (p ∷ b) h = and_both (is_shape p.1) (list_all is_shape (shapes_of b)) (shape_to p.1 h.0) (shapes_to b h.1)

-- what the program's bindings keep, with legal variables
pub bindings_good : (names : List (List ℕ)) (b : List (ℕ × ShapeSeen)) → IsBindings b → list_all (is_legal names) (variables_of b) ≡ true → AreGood names b
bindings_good names b h legal = record { legal = legal; variables = h.variables; shapes = shapes_to b h.shapes; below = below_to (indices_of b) h.below; apart = h.indices; few = h.few }

-- the first ones of good bindings are good
front_good : (names : List (List ℕ)) (b c : List (ℕ × ShapeSeen)) → AreGood names (b ++ c) → AreGood names b
front_good names b c g =
    let variables : variables_of (b ++ c) ≡ variables_of b ++ variables_of c = map-append (λ p. p.0) b c in
    let shapes : shapes_of (b ++ c) ≡ shapes_of b ++ shapes_of c = map-append (λ p. p.1) b c in
    let indices = indices_append b c in
    record {
      legal = and_first (list_all (is_legal names) (variables_of b)) (list_all (is_legal names) (variables_of c)) (sym (list_all-append (is_legal names) (variables_of b) (variables_of c)) ∙ (ap (list_all (is_legal names)) (sym variables) ∙ g.legal));
      variables = apart_left (variables_of b) (variables_of c) (subst AreApart variables g.variables);
      shapes = and_first (list_all is_shape (shapes_of b)) (list_all is_shape (shapes_of c)) (sym (list_all-append is_shape (shapes_of b) (shapes_of c)) ∙ (ap (list_all is_shape) (sym shapes) ∙ g.shapes));
      below = and_first (are_below (indices_of b)) (are_below (indices_of c)) (sym (list_all-append (λ i. ltb i 1000000) (indices_of b) (indices_of c)) ∙ (ap are_below (sym indices) ∙ g.below));
      apart = apart_left (indices_of b) (indices_of c) (subst AreApart indices g.apart);
      few = omega (arith, g.few, ap length indices, length-append (indices_of b) (indices_of c));
    }

pub spoiled : (names : List (List ℕ)) (b c : List (ℕ × ShapeSeen)) → are_bindings names b ≡ false → are_bindings names (b ++ c) ≡ false
spoiled names b c h = not_true (are_bindings names (b ++ c)) (λ t. true_false (are_bindings names b) (good_to names b (front_good names b c (good_from names (b ++ c) t))) h)

-- ---- one more variable
module _ (names : List (List ℕ)) (b : List (ℕ × ShapeSeen)) (p : ℕ × ShapeSeen) where
  pushed_variables : variables_of (b ++ p ∷ []) ≡ variables_of b ++ p.0 ∷ []
  pushed_variables = map-append (λ (q : ℕ × ShapeSeen). q.0) b (p ∷ [])

  pushed_shapes : shapes_of (b ++ p ∷ []) ≡ shapes_of b ++ p.1 ∷ []
  pushed_shapes = map-append (λ (q : ℕ × ShapeSeen). q.1) b (p ∷ [])

  pub bad_unless : (AreGood names (b ++ p ∷ []) → ⊥) → are_bindings names (b ++ p ∷ []) ≡ false
  bad_unless h = not_true (are_bindings names (b ++ p ∷ [])) (λ t. h (good_from names (b ++ p ∷ []) t))

  pub illegal : is_legal names p.0 ≡ false → are_bindings names (b ++ p ∷ []) ≡ false
  illegal h = bad_unless (λ g.
      let last = and_second (list_all (is_legal names) (variables_of b)) (list_all (is_legal names) (p.0 ∷ [])) (sym (list_all-append (is_legal names) (variables_of b) (p.0 ∷ [])) ∙ (ap (list_all (is_legal names)) (sym pushed_variables) ∙ g.legal)) in
      true_false (is_legal names p.0) (and_first (is_legal names p.0) true last) h)

  pub legal_push : list_all (is_legal names) (variables_of b) ≡ true → is_legal names p.0 ≡ true → list_all (is_legal names) (variables_of (b ++ p ∷ [])) ≡ true
  legal_push h l =
      ap (list_all (is_legal names)) pushed_variables
      ∙ (list_all-append (is_legal names) (variables_of b) (p.0 ∷ []) ∙ and_both (list_all (is_legal names) (variables_of b)) (list_all (is_legal names) (p.0 ∷ [])) h (and_both (is_legal names p.0) true l refl))

  pub bound_twice : list_any (eqb p.0) (variables_of b) ≡ true → are_bindings names (b ++ p ∷ []) ≡ false
  bound_twice h = bad_unless (λ g. true_false (list_any (eqb p.0) (variables_of b)) h (any_not p.0 (variables_of b) (last_not_in (variables_of b) p.0 (subst AreApart pushed_variables g.variables))))

  pub index_twice : (AreApart (indices_of b ++ indices_in p.1) → ⊥) → are_bindings names (b ++ p ∷ []) ≡ false
  index_twice h = bad_unless (λ g. h (subst AreApart (indices_push b p) g.apart))

  pub unfit : (left : ℕ) → left + width_of b ≡ 1024 → (IsFit left p.1 → ⊥) → are_bindings names (b ++ p ∷ []) ≡ false
  unfit left e h = bad_unless (λ g.
      let last = and_second (list_all is_shape (shapes_of b)) (list_all is_shape (p.1 ∷ [])) (sym (list_all-append is_shape (shapes_of b) (p.1 ∷ [])) ∙ (ap (list_all is_shape) (sym pushed_shapes) ∙ g.shapes)) in
      h (record {
        shape = and_first (is_shape p.1) true last;
        below = and_second (are_below (indices_of b)) (are_below (indices_in p.1)) (sym (list_all-append (λ i. ltb i 1000000) (indices_of b) (indices_in p.1)) ∙ (ap are_below (sym (indices_push b p)) ∙ g.below));
        few = omega (arith, e, g.few, ap length (indices_push b p), length-append (indices_of b) (indices_in p.1));
      }))

-- ---- lists of entries
abbrev some_bindings : List (ℕ × ShapeSeen) → Option (List (ℕ × ShapeSeen))
some_bindings b = Some b

pub checked_at : (names : List (List ℕ)) (b : List (ℕ × ShapeSeen)) → are_bindings names b ≡ true → checked names (Some b) ≡ Some b
checked_at names b h = ap (λ t. cond t (some_bindings b) None) h

pub checked_not : (names : List (List ℕ)) (b : List (ℕ × ShapeSeen)) → are_bindings names b ≡ false → checked names (Some b) ≡ None
checked_not names b h = ap (λ t. cond t (some_bindings b) None) h

spoiled_front : (names : List (List ℕ)) (d : List (ℕ × ShapeSeen)) (o : Option (List (ℕ × ShapeSeen))) → are_bindings names d ≡ false → checked names (option_map (λ r. d ++ r) o) ≡ None
spoiled_front names d None h = refl
spoiled_front names d (Some r) h = checked_not names (d ++ r) (spoiled names d r h)

module _ (names : List (List ℕ)) (f : Object → Option (ℕ × ShapeSeen)) (xs : List Object) (done : List (ℕ × ShapeSeen)) (place more : ℕ) (x : Object) (inside : place < length xs) (next : more ≡ place + 1) (at : x ≡ get_or xs place x) where
  pub entry_bad : (p : ℕ × ShapeSeen) → f x ≡ Some p → are_bindings names (done ++ p ∷ []) ≡ false → checked names (left_of f xs done more) ≡ None
  entry_bad p is h = ap (checked names) (read_more f xs done place more x p inside next at is) ∙ spoiled_front names (done ++ p ∷ []) (all_meant f (reverse (take place xs))) h

  unread : (left : ℕ) → left + width_of done ≡ 1024 → (o : Option (ℕ × ShapeSeen)) → f x ≡ o → entry_within left o ≡ None → checked names (left_of f xs done more) ≡ None
  unread left e None is h = ap (checked names) (read_none f xs done place more x inside next at is)
  unread left e (Some p) is h = entry_bad p is (unfit names done p left e (λ g. let c = sym h ∙ ap (λ b. cond b (Some p) None) (fit_to left p.1 g) in absurd cc))

  pub entry_none : (left : ℕ) → left + width_of done ≡ 1024 → entry_within left (f x) ≡ None → checked names (left_of f xs done more) ≡ None
  entry_none left e h = unread left e (f x) refl h

-- an entry that fits
pub record IsEntry (left : ℕ) (o : Option (ℕ × ShapeSeen)) (p : ℕ × ShapeSeen) : Type 0 where
  pub is : o ≡ Some p
  pub fit : fits left p.1 ≡ true

abbrev some_entry : ℕ × ShapeSeen → Option (ℕ × ShapeSeen)
some_entry p = Some p

entry_from : (left : ℕ) (q p : ℕ × ShapeSeen) (b : Bool) → fits left q.1 ≡ b → cond b (some_entry q) None ≡ Some p → IsEntry left (Some q) p
entry_from left q p true h e = record { is = e; fit = subst (λ (r : ℕ × ShapeSeen). fits left r.1 ≡ true) (some_same _ _ e) h }
entry_from left q p false h e = absurd cc

pub entry_some : (left : ℕ) (o : Option (ℕ × ShapeSeen)) (p : ℕ × ShapeSeen) → entry_within left o ≡ Some p → IsEntry left o p
entry_some left None p h = absurd cc
entry_some left (Some q) p h = entry_from left q p (fits left q.1) refl h

-- ---- one entry
not_two : (names : List (List ℕ)) (quasi : Bool) (ys : List Object) → (length ys ≡ 2 → ⊥) → entry_of names quasi (Some ys) ≡ None
not_two names quasi [] h = refl
not_two names quasi (Int z ∷ []) h = refl
not_two names quasi (Character z ∷ []) h = refl
not_two names quasi (Symbol z ∷ []) h = refl
not_two names quasi (Text z ∷ []) h = refl
not_two names quasi (Cons a d ∷ []) h = refl
not_two names quasi (x ∷ y ∷ []) h = absurd (h refl)
not_two names quasi (Int v ∷ y ∷ z ∷ ys) h = refl
not_two names quasi (Character v ∷ y ∷ z ∷ ys) h = refl
not_two names quasi (Symbol v ∷ y ∷ z ∷ ys) h = refl
not_two names quasi (Text v ∷ y ∷ z ∷ ys) h = refl
not_two names quasi (Cons a d ∷ y ∷ z ∷ ys) h = refl

pub no_entry : (names : List (List ℕ)) (quasi : Bool) (es : List Object) → (length es ≡ 2 → ⊥) → entry_of names quasi (Some (reverse es)) ≡ None
no_entry names quasi es h = not_two names quasi (reverse es) (λ e. h (sym (length-reverse es) ∙ e))

pub two_entry : (names : List (List ℕ)) (quasi : Bool) (es : List Object) (v x : Object) → length es ≡ 2 → v ≡ get_or es 1 v → x ≡ get_or es 0 x → entry_of names quasi (Some (reverse es)) ≡ entry_of names quasi (Some (v ∷ x ∷ []))
two_entry names quasi [] v x h a b = absurd (omega (arith, h))
two_entry names quasi (w ∷ []) v x h a b = absurd (omega (arith, h))
two_entry names quasi (w ∷ y ∷ []) v x h a b = λ k. entry_of names quasi (Some (sym a k ∷ sym b k ∷ []))
two_entry names quasi (w ∷ y ∷ z ∷ es) v x h a b = absurd (omega (arith, h))

pub shape_entry : (left v : ℕ) (o : Option ShapeSeen) (s : ShapeSeen) (less : ℕ) → taken left o ≡ Some (s, less) → entry_within left (option_map (λ u. (v, u)) o) ≡ Some (v, s)
shape_entry left v o s less h =
    let t = taken_some left o s less h in
    ap (λ (p : Option ShapeSeen). entry_within left (option_map (λ u. (v, u)) p)) t.is ∙ ap (λ b. cond b (some_entry (v, s)) None) (fit_to left s t.fit)

pub no_shape_entry : (left v : ℕ) (o : Option ShapeSeen) → taken left o ≡ None → entry_within left (option_map (λ u. (v, u)) o) ≡ None
no_shape_entry left v None h = refl
no_shape_entry left v (Some s) h = ap (λ b. cond b (some_entry (v, s)) None) (not_true (fits left s) (λ t. taken_none left (Some s) h s refl (fit_from left s t)))

-- ---- the whole form
other : (names : List (List ℕ)) (quasi : Bool) (ys : List Object) → (length ys ≡ 1 → ⊥) → quoted names quasi (Some ys) ≡ None
other names quasi [] h = refl
other names quasi (x ∷ []) h = absurd (h refl)
other names quasi (x ∷ y ∷ ys) h = refl

pub not_one : (names : List (List ℕ)) (quasi : Bool) (es : List Object) → (length es ≡ 1 → ⊥) → quoted names quasi (Some (reverse es)) ≡ None
not_one names quasi es h = other names quasi (reverse es) (λ e. h (sym (length-reverse es) ∙ e))

pub one_list : (names : List (List ℕ)) (quasi : Bool) (es : List Object) (x : Object) → length es ≡ 1 → x ≡ get_or es 0 x → quoted names quasi (Some (reverse es)) ≡ option_and_then (all_meant (entry_meant names quasi)) (elements x)
one_list names quasi [] x h a = absurd (omega (arith, h))
one_list names quasi (y ∷ []) x h a = ap (λ (z : Object). option_and_then (all_meant (entry_meant names quasi)) (elements z)) (sym a)
one_list names quasi (y ∷ z ∷ es) x h a = absurd (omega (arith, h))

module _ (names : List (List ℕ)) (es : List Object) (w : Object) (some : 1 ≤ length es) (at : w ≡ get_or es (length es - 1) w) where
  abbrev rest : List Object
  rest = take (length es - 1) es

  split : bindings_meant names (conses es nil) ≡ bindings_meant names (Cons w (conses rest nil))
  split = ap (bindings_meant names) (conses-last es nil w (omega (arith, some)) at)

  abbrev automatic : Option (List (ℕ × ShapeSeen))
  automatic = option_and_then (λ is. bound (in_sequence is)) (items_meant names (conses rest nil))

  abbrev chosen : Bool → Bool → Bool → Option (List (ℕ × ShapeSeen))
  chosen p q r = cond p (quoted names true (elements (conses rest nil))) (cond q (quoted names false (elements (conses rest nil))) (cond r automatic None))

  whole : (p q r : Bool) → is_backquote w ≡ p → spells names (codes "QUOTE") w ≡ q → spells names (codes "AUTO-BINDINGS") w ≡ r → bindings_meant names (conses es nil) ≡ checked names (chosen p q r)
  whole p q r a b c = split ∙ (λ k. checked names (chosen (a k) (b k) (c k)))

  pub backquoted : is_backquote w ≡ true → checked names (quoted names true (Some (reverse rest))) ≡ bindings_meant names (conses es nil)
  backquoted h = sym (whole true (spells names (codes "QUOTE") w) (spells names (codes "AUTO-BINDINGS") w) h refl refl ∙ ap (λ (o : Option (List Object)). checked names (quoted names true o)) (elements_conses rest nil refl))

  pub plainly_quoted : is_backquote w ≡ false → spells names (codes "QUOTE") w ≡ true → checked names (quoted names false (Some (reverse rest))) ≡ bindings_meant names (conses es nil)
  plainly_quoted h k = sym (whole false true (spells names (codes "AUTO-BINDINGS") w) h k refl ∙ ap (λ (o : Option (List Object)). checked names (quoted names false o)) (elements_conses rest nil refl))

  pub automatically : is_backquote w ≡ false → spells names (codes "QUOTE") w ≡ false → spells names (codes "AUTO-BINDINGS") w ≡ true
      → checked names (option_and_then (λ is. bound (in_sequence is)) (all_meant (item_meant names) (reverse rest))) ≡ bindings_meant names (conses es nil)
  automatically h k l = sym (whole false false true h k l ∙ ap (λ (o : Option (List Slotted)). checked names (option_and_then (λ is. bound (in_sequence is)) o)) (items_conses names rest nil refl))

  pub otherwise : is_backquote w ≡ false → spells names (codes "QUOTE") w ≡ false → spells names (codes "AUTO-BINDINGS") w ≡ false → bindings_meant names (conses es nil) ≡ None
  otherwise h k l = whole false false false h k l

no_rest : (a : Object) (o : Option (List Object)) → option_map (λ xs. a ∷ xs) o ≡ None → o ≡ None
no_rest a None h = refl
no_rest a (Some xs) h = absurd cc

none_of : (names : List (List ℕ)) (p q r : Bool) → checked names (cond p None (cond q None (cond r None None))) ≡ None
none_of names true q r = refl
none_of names false true r = refl
none_of names false false true = refl
none_of names false false false = refl

pub form_none : (names : List (List ℕ)) (x : Object) → elements x ≡ None → bindings_meant names x ≡ None
form_none names (Int z) h = refl
form_none names (Character n) h = refl
form_none names (Symbol n) h = refl
form_none names (Text n) h = refl
form_none names (Cons a d) h =
    let rest = no_rest a (elements d) h in
    let items = items_listed names d ∙ ap (option_and_then (all_meant (item_meant names))) rest in
    ap (checked names) (λ k. cond (is_backquote a) (quoted names true (rest k)) (cond (spells names (codes "QUOTE") a) (quoted names false (rest k)) (cond (spells names (codes "AUTO-BINDINGS") a) (option_and_then (λ is. bound (in_sequence is)) (items k)) None)))
    ∙ none_of names (is_backquote a) (spells names (codes "QUOTE") a) (spells names (codes "AUTO-BINDINGS") a)

pub form_nil : (names : List (List ℕ)) (es : List Object) → length es ≡ 0 → bindings_meant names (conses es nil) ≡ None
form_nil names [] h = refl
form_nil names (x ∷ es) h = absurd (omega (arith, h))

-- ---- slots
pub few_slots : (names : List (List ℕ)) (o : Option (List Slotted)) (is : List Slotted) → all_within 1024 o ≡ Some is → checked names (option_and_then (λ js. bound (in_sequence js)) o) ≡ checked names (Some (placed (in_sequence is)))
few_slots names o is h =
    let all = all_within_some 1024 o is h in
    ap (λ (p : Option (List Slotted)). checked names (option_and_then (λ js. bound (in_sequence js)) p)) all.are
    ∙ ap (λ b. checked names (cond b (some_bindings (placed (in_sequence is))) None)) (le_leb (length (slots_in is)) 1024 all.few)

pub many_slots : (names : List (List ℕ)) (o : Option (List Slotted)) → all_within 1024 o ≡ None → checked names (option_and_then (λ js. bound (in_sequence js)) o) ≡ None
many_slots names None h = refl
many_slots names (Some is) h = ap (λ b. checked names (cond b (some_bindings (placed (in_sequence is))) None)) (not_true (leb (length (slots_in is)) 1024) (λ t. let c = sym h ∙ ap (λ b. cond b (Some is) None) t in absurd cc))

-- ---- variables of entries
abbrev named : TreeKind → Object
named (kind.Symbol t) = Symbol t.number
named _ = nil

pub kind_symbol : (x : Object) (t : TextId) → kind_of x ≡ kind.Symbol t → x ≡ Symbol t.number
kind_symbol (Int z) t h = absurd cc
kind_symbol (Character n) t h = absurd cc
kind_symbol (Symbol n) t h = ap named h
kind_symbol (Text n) t h = absurd cc
kind_symbol (Cons a d) t h = absurd cc

pub other_variable : (names : List (List ℕ)) (quasi : Bool) (v x : Object) → ((t : TextId) → kind_of v ≡ kind.Symbol t → ⊥) → entry_of names quasi (Some (v ∷ x ∷ [])) ≡ None
other_variable names quasi (Int z) x h = refl
other_variable names quasi (Character n) x h = refl
other_variable names quasi (Symbol n) x h = absurd (h (record { number = n }) refl)
other_variable names quasi (Text n) x h = refl
other_variable names quasi (Cons a d) x h = refl

-- a variable that was not added
pub added_bad : {A : Type 0} (names : List (List ℕ)) (old : List (ℕ × ShapeSeen)) (p : ℕ × ShapeSeen) (new : List (ℕ × ShapeSeen)) (e : BindFault) (o : Option A)
    → (are_bindings names (old ++ p ∷ []) ≡ false → o ≡ None) → Adds names old p new (Err e) → Refuses e o
added_bad names old p new fault.Bad o f h = f h
added_bad names old p new fault.Memory o f h = tt

-- ---- slots of variables
-- one more variable with its shape
pub slots_more : (g : ℕ × Bool → ℕ × ShapeSeen) (vs : List ItemVariable) (k : ℕ) (d : ItemVariable) → k < length vs → map g (map variable_of (take (k + 1) vs)) ≡ map g (map variable_of (take k vs)) ++ g (variable_of (get_or vs k d)) ∷ []
slots_more g vs k d h =
    ap (λ (ws : List ItemVariable). map g (map variable_of ws)) (take_more vs k d h)
    ∙ (ap (map g) (map-append variable_of (take k vs) (get_or vs k d ∷ [])) ∙ map-append g (map variable_of (take k vs)) (variable_of (get_or vs k d) ∷ []))

-- where the first ones break a rule, all do
pub slots_bad : (names : List (List ℕ)) (g : ℕ × Bool → ℕ × ShapeSeen) (vs : List ItemVariable) (k : ℕ) (d : ItemVariable) → k < length vs
    → are_bindings names (map g (map variable_of (take k vs)) ++ g (variable_of (get_or vs k d)) ∷ []) ≡ false → checked names (Some (map g (map variable_of vs))) ≡ None
slots_bad names g vs k d h bad =
    let whole : map g (map variable_of vs) ≡ map g (map variable_of (take (k + 1) vs)) ++ map g (map variable_of (drop (k + 1) vs)) =
    ap (λ (ws : List ItemVariable). map g (map variable_of ws)) (sym (take-append-drop (k + 1) vs)) ∙ (ap (map g) (map-append variable_of (take (k + 1) vs) (drop (k + 1) vs)) ∙ map-append g (map variable_of (take (k + 1) vs)) (map variable_of (drop (k + 1) vs))) in
    checked_not names (map g (map variable_of vs)) (ap (are_bindings names) whole ∙ spoiled names (map g (map variable_of (take (k + 1) vs))) (map g (map variable_of (drop (k + 1) vs))) (ap (are_bindings names) (slots_more g vs k d h) ∙ bad))
