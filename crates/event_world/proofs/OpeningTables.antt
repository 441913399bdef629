-- Tables that gain the words of the ground definitions.
use Rattle.std.proofs.Common.{◌≡◌, ◌∙◌, ap, sym, refl, subst, ℕ, suc, ◌≤◌, ◌||◌, Bool, true, false, cond, List, [], ◌∷◌, ◌++◌, length, length-append, take, drop, inl, inr, Option, Some, None, slice_get, drop-cons, arith}
use Rattle.std.specs.Prelude.{bytes_eq, codes, fold, ◌==◌}
use Rattle.std.specs.List.{list_any}
use Rattle.std.proofs.lemmas.Bool.{cases_Bool}
use Rattle.std.proofs.lemmas.List.{append_assoc, take-append-drop}
use Rattle.std.proofs.lemmas.List.Folds.{list_any-append}
use Rattle.std.proofs.lemmas.List.Sums.{fold-append}
use Rattle.std.proofs.lemmas.Option.{slice_get_within, get_or_from_slice_get}
use Rattle.gl_logic.specs.Names.{with_name, first_names, IsTable, Extends}
use Rattle.gl_logic.proofs.Places.{bytes_same}
use Rattle.gl_logic.proofs.Tables.{table_with}
use Rattle.gl_logic.proofs.GrownTables.{extends_same, extends_then, extends_name}
use Rattle.event_world.specs.PreludeTexts.{ground_texts, ground_words}
use Rattle.event_world.specs.PreludeForms.{Source, Reading, no_more, digit_in, leaf, leaf_by, with_word, opened_into, before_break, forms_in, words_read}
use Rattle.event_world.specs.OpeningNames.{with_ground_words, opening_names}
use Rattle.event_world.proofs.PreludeTables.{same_text}

-- ---- a table that has a text stays the same where it is asked for it
with_same : (names : List (List ℕ)) (w : List ℕ) → list_any (bytes_eq w) names ≡ true → with_name names w ≡ names
with_same names w h = rw h refl

there : (names : List (List ℕ)) (w : List ℕ) (b : Bool) → list_any (bytes_eq w) names ≡ b → with_name names w ≡ names → list_any (bytes_eq w) names ≡ true
there names w true e h = e
there names w false e h =
    let z : names ++ w ∷ [] ≡ names = sym (ap (λ (b : Bool). cond b names (names ++ w ∷ [])) e) ∙ h in
    absurd (omega (arith, ap length z, length-append names (w ∷ [])))

pub still_same : (names new : List (List ℕ)) (w : List ℕ) → Extends names new → with_name names w ≡ names → with_name new w ≡ new
still_same names new w grown h =
    with_same new w (ap (list_any (bytes_eq w)) grown.1 ∙ (list_any-append (bytes_eq w) names grown.0 ∙ ap (λ (b : Bool). b || list_any (bytes_eq w) grown.0) (there names w (list_any (bytes_eq w) names) refl h)))

pub asked_again : (names : List (List ℕ)) (w : List ℕ) → with_name (with_name names w) w ≡ with_name names w
asked_again names w = elim (cases_Bool (list_any (bytes_eq w) names)) [
  | inl e ↦ let z = with_same names w e in ap (λ (ns : List (List ℕ)). with_name ns w) z
  | inr e ↦
      let z : with_name names w ≡ names ++ w ∷ [] = ap (λ (b : Bool). cond b names (names ++ w ∷ [])) e in
      let h : list_any (bytes_eq w) (names ++ w ∷ []) ≡ true = list_any-append (bytes_eq w) names (w ∷ []) ∙ (λ i. e i || (bytes_same w i || false)) in
      ap (λ (ns : List (List ℕ)). with_name ns w) z ∙ (with_same (names ++ w ∷ []) w h ∙ sym z)
]

pub first_there : (names : List (List ℕ)) (w : List ℕ) → IsTable names → list_any (bytes_eq w) first_names ≡ true → with_name names w ≡ names
first_there names w table h =
    with_same names w (ap (list_any (bytes_eq w)) (sym (take-append-drop 4 names))
    ∙ (list_any-append (bytes_eq w) (take 4 names) (drop 4 names)
    ∙ ap (λ (b : Bool). b || list_any (bytes_eq w) (drop 4 names)) (ap (list_any (bytes_eq w)) table.first ∙ h)))

nil_there : (names : List (List ℕ)) → IsTable names → with_name names (codes "NIL") ≡ names
nil_there names table = first_there names (codes "NIL") table refl

-- ---- tables that gain texts
pub table_gaining : (names ws : List (List ℕ)) → IsTable names → IsTable (fold with_name names ws)
table_gaining names [] table = table
table_gaining names (w ∷ ws) table = table_gaining (with_name names w) ws (table_with names w table)

pub extends_gaining : (names ws : List (List ℕ)) → Extends names (fold with_name names ws)
extends_gaining names [] = extends_same names
extends_gaining names (w ∷ ws) = extends_then names (with_name names w) (fold with_name (with_name names w) ws) (extends_name names (with_name names w) w refl) (extends_gaining (with_name names w) ws)

-- ---- texts once each
-- those that are not among some
abbrev new_among : List (List ℕ) → List (List ℕ) → List (List ℕ)
new_among seen [] = []
new_among seen (w ∷ ws) = cond (list_any (bytes_eq w) seen) (new_among seen ws) (w ∷ new_among (w ∷ seen) ws)

-- a table has all of these
abbrev HasAll : List (List ℕ) → List (List ℕ) → Type 0
HasAll names seen = (w : List ℕ) → list_any (bytes_eq w) seen ≡ true → with_name names w ≡ names

has_more : (names seen : List (List ℕ)) (w : List ℕ) → HasAll names seen → HasAll (with_name names w) (w ∷ seen)
has_more names seen w h v k = elim (cases_Bool (bytes_eq v w)) [
  | inl e ↦ subst (λ (u : List ℕ). with_name (with_name names w) u ≡ with_name names w) (sym (same_text v w e)) (asked_again names w)
  | inr e ↦ still_same names (with_name names w) v (extends_name names (with_name names w) w refl) (h v (sym (ap (λ (b : Bool). b || list_any (bytes_eq v) seen) e) ∙ k))
]

once : (names seen ws : List (List ℕ)) → HasAll names seen → fold with_name names ws ≡ fold with_name names (new_among seen ws)
once names seen [] h = refl
once names seen (w ∷ ws) h =
    let chosen : Bool → List (List ℕ) = λ b. fold with_name names (cond b (new_among seen ws) (w ∷ new_among (w ∷ seen) ws)) in
    elim (cases_Bool (list_any (bytes_eq w) seen)) [
      | inl e ↦ ap (λ (ns : List (List ℕ)). fold with_name ns ws) (h w e) ∙ (once names seen ws h ∙ sym (ap chosen e))
      | inr e ↦ once (with_name names w) (w ∷ seen) ws (has_more names seen w h) ∙ sym (ap chosen e)
    ]

-- ---- the words of the ground definitions
-- the words of texts, one text after the other
abbrev pub words_of_texts : List (List ℕ) → List (List ℕ)
words_of_texts [] = []
words_of_texts (text ∷ texts) = words_read (forms_in text) ++ words_of_texts texts

as_words : new_among first_names ([] ∷ words_of_texts ground_texts) ≡ [] ∷ ground_words
unfolding ground_texts ground_words
as_words = refl

pub ground_words_read : (names : List (List ℕ)) → IsTable names → fold with_name names ([] ∷ words_of_texts ground_texts) ≡ with_ground_words names
ground_words_read names table = once names first_names ([] ∷ words_of_texts ground_texts) (λ w h. first_there names w table h) ∙ ap (fold with_name names) as_words

pub has_empty : (names : List (List ℕ)) → with_name (with_ground_words names) [] ≡ with_ground_words names
has_empty names = still_same (with_name names []) (with_ground_words names) [] (extends_gaining (with_name names []) ground_words) (asked_again names [])

-- a row: the fifth text is the empty one, and the ground definitions' words come next
opening_is : opening_names ≡ first_names ++ [] ∷ ground_words
unfolding ground_words
opening_is = refl

-- ---- the words of one text
-- those of the lists around a place, the innermost first, and of the list that it stands in
abbrev pub words_around : List Source → List (List ℕ)
words_around [] = []
words_around (r ∷ rs) = words_around rs ++ words_read r

abbrev pub words_behind : Reading → List (List ℕ)
words_behind r = words_around r.around ++ words_read r.here

pub none_behind : (names : List (List ℕ)) → IsTable names → names ≡ fold with_name names (words_read no_more)
none_behind names table = sym (nil_there names table)

opened_behind : (names : List (List ℕ)) → IsTable names → (here : Source) (around : List Source) → fold with_name names (words_behind (opened_into here around)) ≡ fold with_name names (words_around around ++ words_read here)
opened_behind names table here [] = ap (λ (ns : List (List ℕ)). fold with_name ns (words_read here)) (nil_there names table)
opened_behind names table here (n ∷ around) = ap (fold with_name names) (sym (append_assoc (words_around around) (words_read n) (words_read here)))

closed_behind : (names : List (List ℕ)) → IsTable names → (here : Source) (around : List Source) → fold with_name names (words_around (here ∷ around) ++ words_read no_more) ≡ fold with_name names (words_around around ++ words_read here)
closed_behind names table here around =
    let ws = words_around around ++ words_read here in
    fold-append with_name names ws (words_read no_more) ∙ nil_there (fold with_name names ws) (table_gaining names ws table)

pub break_behind : (names : List (List ℕ)) → IsTable names → (b : ℕ) (here : Source) (around : List Source) → fold with_name names (words_behind (before_break b here around)) ≡ fold with_name names (words_around around ++ words_read here)
break_behind names table b here around =
    elim (b == 40) as (λ z. fold with_name names (words_behind (cond z (opened_into here around) (cond (b == 41) (record { word = []; here = no_more; around = here ∷ around }) (record { word = []; here = here; around = around })))) ≡ fold with_name names (words_around around ++ words_read here)) [
      | true ↦ opened_behind names table here around
      | false ↦ elim (b == 41) as (λ z. (let x : Reading = cond z (record { word = []; here = no_more; around = here ∷ around }) (record { word = []; here = here; around = around }) in fold with_name names (words_behind x)) ≡ fold with_name names (words_around around ++ words_read here)) [
        | true ↦ closed_behind names table here around
        | false ↦ refl
      ]
    ]

-- a word alone
pub number_read : (names : List (List ℕ)) (w : List ℕ) (n : ℕ) → digit_in w ≡ Some n → names ≡ fold with_name names (words_read (leaf w))
number_read names w n d = sym (ap (λ (o : Option ℕ). fold with_name names (words_read (leaf_by w o))) d)

pub symbol_read : (names new : List (List ℕ)) (w : List ℕ) → digit_in w ≡ None → new ≡ with_name names w → new ≡ fold with_name names (words_read (leaf w))
symbol_read names new w d h = h ∙ sym (ap (λ (o : Option ℕ). fold with_name names (words_read (leaf_by w o))) d)

-- a word in front of a list
pub no_word_more : (names old : List (List ℕ)) (w : List ℕ) (r : Source) → length w ≡ 0 → old ≡ fold with_name names (words_read r) → old ≡ fold with_name names (words_read (with_word w r))
no_word_more names old [] r n h = h
no_word_more names old (b ∷ bs) r n h = absurd (omega (arith, n))

pub word_more : (names old new : List (List ℕ)) (w : List ℕ) (r : Source) → 1 ≤ length w → old ≡ fold with_name names (words_read r) → new ≡ fold with_name old (words_read (leaf w)) → new ≡ fold with_name names (words_read (with_word w r))
word_more names old new [] r n h g = absurd (omega (arith, n))
word_more names old new (b ∷ bs) r n h g = g ∙ (ap (λ (ns : List (List ℕ)). fold with_name ns (words_read (leaf (b ∷ bs)))) h ∙ sym (fold-append with_name names (words_read r) (words_read (leaf (b ∷ bs)))))

-- behind the lists around it
pub list_behind : (names new : List (List ℕ)) (around : List Source) (r : Source) → new ≡ fold with_name (fold with_name names (words_around around)) (words_read r) → new ≡ fold with_name names (words_around around ++ words_read r)
list_behind names new around r h = h ∙ sym (fold-append with_name names (words_around around) (words_read r))

pub list_apart : (names new : List (List ℕ)) (around : List Source) (r : Source) → new ≡ fold with_name names (words_around around ++ words_read r) → new ≡ fold with_name (fold with_name names (words_around around)) (words_read r)
list_apart names new around r h = h ∙ fold-append with_name names (words_around around) (words_read r)

-- ---- one text more
none_left : drop 43 ground_texts ≡ []
unfolding ground_texts
none_left = refl

text_next : (i : ℕ) (text : List ℕ) → slice_get ground_texts i ≡ Some text → drop i ground_texts ≡ text ∷ drop (suc i) ground_texts
text_next i text a = drop-cons ground_texts i [] (slice_get_within ground_texts i text a) ∙ ap (λ (t : List ℕ). t ∷ drop (suc i) ground_texts) (get_or_from_slice_get ground_texts i text [] a)

-- the table that all lead to stays
pub one_text_more : (names whole : List (List ℕ)) (i : ℕ) (text : List ℕ) → slice_get ground_texts i ≡ Some text
    → fold with_name names (words_of_texts (drop i ground_texts)) ≡ whole → fold with_name (fold with_name names (words_read (forms_in text))) (words_of_texts (drop (suc i) ground_texts)) ≡ whole
one_text_more names whole i text a h =
    sym (fold-append with_name names (words_read (forms_in text)) (words_of_texts (drop (suc i) ground_texts)))
    ∙ (sym (ap (λ (ts : List (List ℕ)). fold with_name names (words_of_texts ts)) (text_next i text a)) ∙ h)

pub no_text_left : (names whole : List (List ℕ)) → fold with_name names (words_of_texts (drop 43 ground_texts)) ≡ whole → names ≡ whole
no_text_left names whole h = sym (ap (λ (ts : List (List ℕ)). fold with_name names (words_of_texts ts)) none_left) ∙ h

-- the empty text is no new one
pub empty_no_more : (names new ws : List (List ℕ)) → with_name names [] ≡ names → new ≡ with_name (fold with_name names ws) [] → new ≡ fold with_name names ws
empty_no_more names new ws empty grown = grown ∙ still_same names (fold with_name names ws) [] (extends_gaining names ws) empty
