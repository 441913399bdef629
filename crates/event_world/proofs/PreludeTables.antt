-- What is spelled in a table stays so as the table grows.
use Rattle.std.proofs.Common.{◌≡◌, ◌∙◌, ap, sym, refl, subst, ℕ, zero, suc, ◌≤◌, true, List, [], ◌∷◌, ◌++◌, length, get_or, arith, inl, inr, Option, Some, None, slice_get, take}
use Rattle.std.specs.Prelude.{bytes_eq, codes, Result, Ok, Err, IfOk}
use Rattle.std.proofs.lemmas.Option.{slice_get-get_or}
use Rattle.std.proofs.lemmas.List.{append-nil, reverse-append}
use Rattle.std.proofs.lemmas.List.Quantifiers.{position-Some}
use Rattle.std.proofs.lemmas.Bool.{and_parts, eqb-true}
use Rattle.gl_logic.specs.Object.{Object, Int, Symbol, Cons, nil}
use Rattle.gl_logic.specs.Names.{number_of, Extends, IsTable, first_names}
use Rattle.gl_logic.proofs.GrownTables.{extends_name}
use Rattle.gl_translate.specs.Answers.{GainsAtMost}
use Rattle.event_world.specs.PreludeForms.{Source, Word, Number, Pair, no_more, Spells, AllSpell, AreAround, AreSpelled, leaf, leaf_by, digit_in, with_word, opened_into}

pub same_text : (xs ys : List ℕ) → bytes_eq xs ys ≡ true → xs ≡ ys
same_text [] [] h = refl
same_text [] (y ∷ ys) h = absurd cc
same_text (x ∷ xs) [] h = absurd cc
same_text (x ∷ xs) (y ∷ ys) h = let p = and_parts _ (bytes_eq xs ys) h in λ i. eqb-true x y p.0 i ∷ same_text xs ys p.1 i

pub at_number : (name : List ℕ) (names : List (List ℕ)) (id : ℕ) → number_of name names ≡ Some id → slice_get names id ≡ Some name
at_number name names id h =
    let p = position-Some (bytes_eq name) names id [] h in
    slice_get-get_or names id [] p.0 ∙ ap Some (sym (same_text name (get_or names id []) p.1))

-- ---- tables that grow
pub extends_gains : (old new : List (List ℕ)) → GainsAtMost [] old new → Extends old new
extends_gains old new (inl h) = extends_name old new [] h
extends_gains old new (inr h) = ([], h ∙ sym (append-nil old))

pub kept : (old more : List (List ℕ)) (t : ℕ) (w : List ℕ) → slice_get old t ≡ Some w → slice_get (old ++ more) t ≡ Some w
kept [] more t w h = absurd cc
kept (x ∷ old) more zero w h = h
kept (x ∷ old) more (suc t) w h = kept old more t w h

pub stays : (old new : List (List ℕ)) (t : ℕ) (w : List ℕ) → Extends old new → slice_get old t ≡ Some w → slice_get new t ≡ Some w
stays old new t w e h = ap (λ (z : List (List ℕ)). slice_get z t) e.1 ∙ kept old e.0 t w h

pub spells_more : (old new : List (List ℕ)) (x : Object) (r : Source) → Extends old new → Spells old x r → Spells new x r
spells_more old new (Symbol t) (Word w) e h = stays old new t w e h
spells_more old new (Int z) (Number n) e h = h
spells_more old new (Cons a d) (Pair s r) e h = (spells_more old new a s e h.0, spells_more old new d r e h.1)
spells_more old new x r e h = absurd h

pub all_spell_more : (old new : List (List ℕ)) (xs : List Object) (rs : List Source) → Extends old new → AllSpell old xs rs → AllSpell new xs rs
all_spell_more old new [] [] e h = tt
all_spell_more old new [] (r ∷ rs) e h = h
all_spell_more old new (x ∷ xs) [] e h = h
all_spell_more old new (x ∷ xs) (r ∷ rs) e h = (spells_more old new x r e h.0, all_spell_more old new xs rs e h.1)

pub are_spelled_more : (old new : List (List ℕ)) (ts : List ℕ) (ws : List (List ℕ)) → Extends old new → AreSpelled old ts ws → AreSpelled new ts ws
are_spelled_more old new [] [] e h = tt
are_spelled_more old new [] (w ∷ ws) e h = h
are_spelled_more old new (t ∷ ts) [] e h = h
are_spelled_more old new (t ∷ ts) (w ∷ ws) e h = (stays old new t w e h.0, are_spelled_more old new ts ws e h.1)

first_of_four : (xs : List (List ℕ)) → take 4 xs ≡ first_names → slice_get xs 0 ≡ Some (codes "NIL")
first_of_four [] h = absurd cc
first_of_four (a ∷ xs) h = cc

pub nil_spelled : (names : List (List ℕ)) → IsTable names → Spells names nil no_more
nil_spelled names h = first_of_four names h.first

-- ---- what the functions answer
pub if_made : {E : Type 0} (o : Result Object E) (x : Object) (P : Object → Type 0) → IfOk o (λ t. t ≡ x) → P x → IfOk o P
if_made (Ok t) x P h p = subst P (sym h) p
if_made (Err e) x P h p = tt

pub leaf_symbol : (names : List (List ℕ)) (w : List ℕ) (t : ℕ) → digit_in w ≡ None → number_of w names ≡ Some t → Spells names (Symbol t) (leaf w)
leaf_symbol names w t d h = subst (λ (o : Option ℕ). Spells names (Symbol t) (leaf_by w o)) (sym d) (at_number w names t h)

pub word_there : (names : List (List ℕ)) (w : List ℕ) (x l : Object) (r : Source) → 1 ≤ length w → Spells names x (leaf w) → Spells names l r → Spells names (Cons x l) (with_word w r)
word_there names [] x l r n h g = absurd (omega (arith, n))
word_there names (b ∷ bs) x l r n h g = (h, g)

pub no_word : (names : List (List ℕ)) (w : List ℕ) (l : Object) (r : Source) → length w ≡ 0 → Spells names l r → Spells names l (with_word w r)
no_word names [] l r n g = g
no_word names (b ∷ bs) l r n g = absurd (omega (arith, n))

-- ---- the lists around a place
pub pushed : (names : List (List ℕ)) (xs : List Object) (rs : List Source) (x : Object) (r : Source) → Spells names x r → AreAround names xs rs → AreAround names (xs ++ x ∷ []) (r ∷ rs)
pushed names xs rs x r h g = subst (λ (ys : List Object). AllSpell names ys (r ∷ rs)) (sym (reverse-append xs (x ∷ []))) (h, g)

pub popped_here : (names : List (List ℕ)) (xs : List Object) (x l : Object) (r : Source) (rs : List Source) → Spells names l r → AreAround names (xs ++ x ∷ []) rs → Spells names (Cons l x) (opened_into r rs).here
popped_here names xs x l r [] h g = absurd (let z = subst (λ (ys : List Object). AllSpell names ys []) (reverse-append xs (x ∷ [])) g in z)
popped_here names xs x l r (n ∷ rs) h g = (h, (let z = subst (λ (ys : List Object). AllSpell names ys (n ∷ rs)) (reverse-append xs (x ∷ [])) g in z.0))

pub popped_around : (names : List (List ℕ)) (xs : List Object) (x : Object) (r : Source) (rs : List Source) → AreAround names (xs ++ x ∷ []) rs → AreAround names xs (opened_into r rs).around
popped_around names xs x r [] g = absurd (let z = subst (λ (ys : List Object). AllSpell names ys []) (reverse-append xs (x ∷ [])) g in z)
popped_around names xs x r (n ∷ rs) g = let z = subst (λ (ys : List Object). AllSpell names ys (n ∷ rs)) (reverse-append xs (x ∷ [])) g in z.1

pub none_here : (names : List (List ℕ)) (l : Object) (r : Source) (rs : List Source) → IsTable names → Spells names l r → AreAround names [] rs → Spells names (Cons l nil) (opened_into r rs).here
none_here names l r [] t h g = (h, nil_spelled names t)
none_here names l r (n ∷ rs) t h g = absurd g

pub none_around : (names : List (List ℕ)) (r : Source) (rs : List Source) → AreAround names [] rs → AreAround names [] (opened_into r rs).around
none_around names r [] g = g
none_around names r (n ∷ rs) g = absurd g
