-- The parts of a ground definition's form.
use Rattle.std.proofs.Common.{◌≡◌, ◌∙◌, ap, sym, refl, subst, ℕ, suc, ◌-◌, ◌≤◌, List, [], ◌∷◌, ◌++◌, length, get_or, drop, reverse, arith, Some, slice_get, drop-cons}
use Rattle.std.specs.Prelude.{codes}
use Rattle.std.proofs.lemmas.List.{reverse-append}
use Rattle.gl_logic.specs.Object.{Object, Int, Character, Symbol, Text, Cons}
use Rattle.gl_logic.specs.Lists.{elements_of}
use Rattle.gl_logic.specs.Kind.{kind_of}
use Rattle.gl_logic.specs.declared.ids.TextId.{TextId}
use Rattle.gl_logic.specs.declared.tree.TreeKind.TheVariants as kind
use Rattle.event_world.specs.PreludeForms.{Source, Word, Pair, no_more, Spells, AreSpelled}
use Rattle.event_world.specs.PreludeRows.{name_in, formals_in, body_in, symbols_among, symbols_of}
use Rattle.event_world.proofs.PreludeRows.{shaped, list_of}

module _ (names : List (List ℕ)) where
  a_pair : (x : Object) (r s : Source) → Spells names x (Pair r s) → (a : Object) × (d : Object) × (x ≡ Cons a d) × Spells names a r × Spells names d s
  a_pair (Cons a d) r s h = (a, d, refl, h.0, h.1)
  a_pair (Int z) r s h = absurd h
  a_pair (Character n) r s h = absurd h
  a_pair (Symbol n) r s h = absurd h
  a_pair (Text n) r s h = absurd h

  a_word : (x : Object) (w : List ℕ) → Spells names x (Word w) → (t : ℕ) × (x ≡ Symbol t) × (slice_get names t ≡ Some w)
  a_word (Symbol t) w h = (t, refl, h)
  a_word (Int z) w h = absurd h
  a_word (Character n) w h = absurd h
  a_word (Text n) w h = absurd h
  a_word (Cons a d) w h = absurd h

  pub record Parts (x : Object) (text : List ℕ) : Type 0 where
    pub name : ℕ
    pub formals : Object
    pub body : Object
    pub elements : elements_of x ≡ body ∷ formals ∷ Symbol name ∷ []
    pub spelled : slice_get names name ≡ Some (name_in text)
    pub variables : Spells names formals (list_of (formals_in text))
    pub meant : Spells names body (body_in text)

  pub parts_of : (x : Object) (text : List ℕ) → Spells names x (shaped text) → Parts x text
  parts_of x text h =
      let p = a_pair x (Word (name_in text)) (Pair (list_of (formals_in text)) (Pair (body_in text) no_more)) h in
      let n = a_word p.0 (name_in text) p.3 in
      let q = a_pair p.1 (list_of (formals_in text)) (Pair (body_in text) no_more) p.4 in
      let r = a_pair q.1 (body_in text) no_more q.4 in
      let e = a_word r.1 (codes "NIL") r.4 in
      record {
        name = n.0;
        formals = q.0;
        body = r.0;
        elements = ap elements_of p.2 ∙ (λ i. elements_of ((q.2 ∙ ap (Cons q.0) (r.2 ∙ ap (Cons r.0) e.1)) i) ++ n.1 i ∷ []);
        spelled = n.2;
        variables = q.3;
        meant = r.3;
      }

  -- the symbols of a list of words
  pub symbols_spelled : (x : Object) (ws : List (List ℕ)) → Spells names x (list_of ws) → AreSpelled names (symbols_of x) ws
  symbols_spelled (Symbol t) [] h = tt
  symbols_spelled (Cons a d) (w ∷ ws) h =
      let n = a_word a w h.0 in
      let e : reverse (elements_of d ++ a ∷ []) ≡ a ∷ reverse (elements_of d) = reverse-append (elements_of d) (a ∷ []) in
      subst (λ (ts : List ℕ). AreSpelled names ts (w ∷ ws)) (sym (ap symbols_among e ∙ ap (λ (y : Object). symbols_among (y ∷ reverse (elements_of d))) n.1)) (n.2, symbols_spelled d ws h.1)
  symbols_spelled (Int z) [] h = absurd h
  symbols_spelled (Character n) [] h = absurd h
  symbols_spelled (Text n) [] h = absurd h
  symbols_spelled (Cons a d) [] h = absurd h
  symbols_spelled (Int z) (w ∷ ws) h = absurd h
  symbols_spelled (Character n) (w ∷ ws) h = absurd h
  symbols_spelled (Symbol n) (w ∷ ws) h = absurd h
  symbols_spelled (Text n) (w ∷ ws) h = absurd h

-- ---- the symbols of a list, one element further to its front
among_append : (xs ys : List Object) → symbols_among (xs ++ ys) ≡ symbols_among xs ++ symbols_among ys
among_append [] ys = refl
among_append (Int z ∷ xs) ys = among_append xs ys
among_append (Character n ∷ xs) ys = among_append xs ys
among_append (Symbol t ∷ xs) ys = ap (λ (ts : List ℕ). t ∷ ts) (among_append xs ys)
among_append (Text n ∷ xs) ys = among_append xs ys
among_append (Cons a d ∷ xs) ys = among_append xs ys

pub one_further : (xs : List Object) (q : ℕ) (e d : Object) → 1 ≤ q → q ≤ length xs → e ≡ get_or xs (q - 1) d → (vs ts : List ℕ) → vs ≡ symbols_among (reverse (drop q xs)) → symbols_among (e ∷ []) ≡ ts → vs ++ ts ≡ symbols_among (reverse (drop (q - 1) xs))
one_further xs q e d some within is vs ts h g =
    let n : suc (q - 1) ≡ q = omega (arith, some) in
    let f : drop (q - 1) xs ≡ e ∷ drop q xs = drop-cons xs (q - 1) d (omega (arith, some, within)) ∙ (λ i. sym is i ∷ drop (n i) xs) in
    let r : reverse (e ∷ drop q xs) ≡ reverse (drop q xs) ++ e ∷ [] = reverse-append (e ∷ []) (drop q xs) in
    (λ i. h i ++ sym g i) ∙ (sym (among_append (reverse (drop q xs)) (e ∷ [])) ∙ ap symbols_among (sym r ∙ ap reverse (sym f)))

pub symbol_kind : (x : Object) (t : TextId) → kind_of x ≡ kind.Symbol t → symbols_among (x ∷ []) ≡ t.number ∷ []
symbol_kind (Symbol n) t h = let z : record { number = n } ≡ t = cc in ap (λ (u : TextId). u.number ∷ []) z
symbol_kind (Int z) t h = absurd cc
symbol_kind (Character n) t h = absurd cc
symbol_kind (Text n) t h = absurd cc
symbol_kind (Cons a d) t h = absurd cc

pub other_kind : (x : Object) → ((t : TextId) → kind_of x ≡ kind.Symbol t → ⊥) → symbols_among (x ∷ []) ≡ []
other_kind (Symbol n) h = absurd (h (record { number = n }) refl)
other_kind (Int z) h = refl
other_kind (Character n) h = refl
other_kind (Text n) h = refl
other_kind (Cons a d) h = refl
