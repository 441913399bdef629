-- The rows of the ground definitions, by computation.
use Rattle.std.proofs.Common.{◌≡◌, ◌∙◌, ap, sym, refl, ℕ, zero, suc, ◌+◌, ◌<◌, ◌≤◌, Bool, true, false, not, ◌&&◌, eqb, List, [], ◌∷◌, map, length, get_or, take, arith, Option, Some, None, slice_get, leb}
use Rattle.std.specs.Prelude.{bytes_eq}
use Rattle.std.specs.List.{list_any, position_or_len}
use Rattle.std.specs.Option.{option_map}
use Rattle.std.proofs.lemmas.Option.{slice_get-map, slice_get_within}
use Rattle.std.proofs.lemmas.Bool.{leb-true, and_parts}
use Rattle.gl_logic.specs.Exp.{Exp, Exps, Var, Const, If, Prim, Call, Let, Last, More}
use Rattle.gl_logic.specs.Ground.{Ground, ground}
use Rattle.gl_logic.specs.IsGround.{placed, all_placed}
use Rattle.gl_logic.specs.NameSets.{are_different}
use Rattle.event_world.specs.PreludeTexts.{ground_texts, ground_names, ground_formals}
use Rattle.event_world.specs.PreludeForms.{Source, Word, Pair, no_more, reading, forms_in}
use Rattle.event_world.proofs.PreludeMeant.{form_meant, Function, word_place, size}
use Rattle.event_world.specs.PreludeRows.{name_in, formals_in, body_in}
use Rattle.event_world.specs.PreludeTerms.{named, all_named}

abbrev pub list_of : List (List ℕ) → Source
list_of [] = no_more
list_of (w ∷ ws) = Pair (Word w) (list_of ws)

abbrev pub shaped : List ℕ → Source
shaped text = Pair (Word (name_in text)) (Pair (list_of (formals_in text)) (Pair (body_in text) no_more))

abbrev pub different_words : List (List ℕ) → Bool
different_words [] = true
different_words (w ∷ ws) = not (list_any (bytes_eq w) ws) && different_words ws

abbrev mutual
  pub is_below : ℕ → Exp → Bool
  is_below n (Var i) = leb (suc i) n
  is_below n (Const x) = true
  is_below n (If a b c) = is_below n a && (is_below n b && is_below n c)
  is_below n (Prim p ts) = are_below n ts
  is_below n (Call f ts) = are_below n ts
  is_below n (Let vs ts b) = false

  pub are_below : ℕ → Exps → Bool
  are_below n Last = true
  are_below n (More t ts) = is_below n t && are_below n ts

-- ---- the functions by name and count of formals
abbrev functions_of : List (List ℕ) → List Ground → List Function
functions_of (n ∷ ns) (g ∷ gs) = (n, g.arity) ∷ functions_of ns gs
functions_of _ _ = []

unfoldable pub all_functions : List Function
all_functions = functions_of ground_names ground

-- ---- what computes
abbrev meanings_from : ℕ → List (List ℕ) → List (Option Exp)
meanings_from k [] = []
meanings_from k (t ∷ ts) = form_meant (formals_in t) (take (suc k) all_functions) (body_in t) ∷ meanings_from (suc k) ts

abbrev frees_from : ℕ → List (List ℕ) → List (Option ℕ)
frees_from k [] = []
frees_from k (n ∷ ns) = word_place n (take k all_functions) ∷ frees_from (suc k) ns

abbrev places_from : ℕ → List (List ℕ) → List (Option ℕ)
places_from k [] = []
places_from k (n ∷ ns) = Some k ∷ places_from (suc k) ns

as_shaped : map forms_in ground_texts ≡ map shaped ground_texts
unfolding ground_texts
as_shaped = refl

as_named : map name_in ground_texts ≡ map (λ n. n) ground_names
unfolding ground_texts ground_names
as_named = refl

as_variables : map formals_in ground_texts ≡ map (λ ws. ws) ground_formals
unfolding ground_texts ground_formals
as_variables = refl

as_many_formals : length ground_texts ≡ length ground_formals
unfolding ground_texts ground_formals
as_many_formals = refl

as_closed : map (λ t. (reading t).around) ground_texts ≡ map (λ t. []) ground_texts
unfolding ground_texts
as_closed = refl

as_counted : map (λ t. length (formals_in t)) ground_texts ≡ map (λ g. g.arity) ground
unfolding ground_texts ground
as_counted = refl

as_different : map (λ t. different_words (formals_in t)) ground_texts ≡ map (λ g. true) ground
unfolding ground_texts ground
as_different = refl

as_small : map (λ t. leb (size (body_in t)) 2000) ground_texts ≡ map (λ g. true) ground
unfolding ground_texts ground
as_small = refl

as_meant : meanings_from 0 ground_texts ≡ map (λ g. Some g.body) ground
unfolding ground_texts ground_names ground all_functions
as_meant = refl

as_below : map (λ g. is_below g.arity g.body) ground ≡ map (λ g. true) ground
unfolding ground
as_below = refl

as_few : map (λ g. leb g.arity 3) ground ≡ map (λ g. true) ground
unfolding ground
as_few = refl

as_free : frees_from 0 ground_names ≡ map (λ g. None) ground
unfolding ground_names ground all_functions
as_free = refl

as_found : map (λ n. word_place n all_functions) ground_names ≡ places_from 0 ground_names
unfolding ground_names ground all_functions
as_found = refl

as_functions : map (λ (f : Function). f.1) all_functions ≡ map (λ g. g.arity) ground
unfolding ground_names ground all_functions
as_functions = refl

as_function_names : map (λ (f : Function). f.0) all_functions ≡ map (λ n. n) ground_names
unfolding ground_names ground all_functions
as_function_names = refl

pub whole : take 43 all_functions ≡ all_functions
unfolding ground_names ground all_functions
whole = refl

as_many : length ground_texts ≡ length ground
unfolding ground_texts ground
as_many = refl

as_many_names : length ground_texts ≡ length ground_names
unfolding ground_texts ground_names
as_many_names = refl

as_many_functions : length ground_texts ≡ length all_functions
unfolding ground_texts ground_names ground all_functions
as_many_functions = refl

pub how_many : length ground ≡ 43
unfolding ground
how_many = refl

pub how_many_texts : length ground_texts ≡ 43
unfolding ground_texts
how_many_texts = refl

-- ---- a row by its number
some_same : {A : Type 0} (x y : A) → Some x ≡ Some y → x ≡ y
some_same x y q = cc

partner : {A B : Type 0} (xs : List A) (ys : List B) (k : ℕ) (x : A) → length xs ≡ length ys → slice_get xs k ≡ Some x → (y : B) × (slice_get ys k ≡ Some y)
partner [] ys k x l a = absurd cc
partner (z ∷ xs) [] k x l a = absurd (omega (arith, l))
partner (z ∷ xs) (y ∷ ys) zero x l a = (y, refl)
partner (z ∷ xs) (y ∷ ys) (suc k) x l a = partner xs ys k x (omega (arith, l)) a

at_both : {A B C : Type 0} (f : A → C) (g : B → C) (xs : List A) (ys : List B) (k : ℕ) (x : A) (y : B) → map f xs ≡ map g ys → slice_get xs k ≡ Some x → slice_get ys k ≡ Some y → f x ≡ g y
at_both f g xs ys k x y e a b =
    some_same (f x) (g y) (sym (slice_get-map f xs k ∙ ap (option_map f) a) ∙ (ap (λ zs. slice_get zs k) e ∙ (slice_get-map g ys k ∙ ap (option_map g) b)))

meaning_at : (ts : List (List ℕ)) (k j : ℕ) (t : List ℕ) → slice_get ts j ≡ Some t → (i : ℕ) → i ≡ k + j → slice_get (meanings_from k ts) j ≡ Some (form_meant (formals_in t) (take (suc i) all_functions) (body_in t))
meaning_at [] k j t a i e = absurd cc
meaning_at (u ∷ ts) k zero t a i e = let z : u ≡ t = some_same u t a in let n : i ≡ k = omega (arith, e) in λ x. Some (form_meant (formals_in (z x)) (take (suc (sym n x)) all_functions) (body_in (z x)))
meaning_at (u ∷ ts) k (suc j) t a i e = meaning_at ts (suc k) j t a i (omega (arith, e))

free_at : (ns : List (List ℕ)) (k j : ℕ) (n : List ℕ) → slice_get ns j ≡ Some n → (i : ℕ) → i ≡ k + j → slice_get (frees_from k ns) j ≡ Some (word_place n (take i all_functions))
free_at [] k j n a i e = absurd cc
free_at (u ∷ ns) k zero n a i e = let z : u ≡ n = some_same u n a in let m : i ≡ k = omega (arith, e) in λ x. Some (word_place (z x) (take (sym m x) all_functions))
free_at (u ∷ ns) k (suc j) n a i e = free_at ns (suc k) j n a i (omega (arith, e))

place_at : (ns : List (List ℕ)) (k j : ℕ) (n : List ℕ) → slice_get ns j ≡ Some n → (i : ℕ) → i ≡ k + j → slice_get (places_from k ns) j ≡ Some (Some i)
place_at [] k j n a i e = absurd cc
place_at (u ∷ ns) k zero n a i e = let m : i ≡ k = omega (arith, e) in λ x. Some (Some (sym m x))
place_at (u ∷ ns) k (suc j) n a i e = place_at ns (suc k) j n a i (omega (arith, e))

pub record Row (k : ℕ) (text : List ℕ) (g : Ground) : Type 0 where
  pub there : slice_get ground k ≡ Some g
  pub shape : forms_in text ≡ shaped text
  pub name : slice_get ground_names k ≡ Some (name_in text)
  pub count : length (formals_in text) ≡ g.arity
  pub variables : slice_get ground_formals k ≡ Some (formals_in text)
  pub few : g.arity ≤ 3
  pub different : different_words (formals_in text) ≡ true
  pub small : size (body_in text) ≤ 2000
  pub meant : form_meant (formals_in text) (take (suc k) all_functions) (body_in text) ≡ Some g.body
  pub below : is_below g.arity g.body ≡ true
  pub free : word_place (name_in text) (take k all_functions) ≡ None
  pub function : slice_get all_functions k ≡ Some (name_in text, g.arity)

pub row : (k : ℕ) (text : List ℕ) → slice_get ground_texts k ≡ Some text → (g : Ground) × Row k text g
row k text a =
    let g = partner ground_texts ground k text as_many a in
    let n = partner ground_texts ground_names k text as_many_names a in
    let f = partner ground_texts all_functions k text as_many_functions a in
    let v = partner ground_texts ground_formals k text as_many_formals a in
    let name : name_in text ≡ n.0 = at_both name_in (λ m. m) ground_texts ground_names k text n.0 as_named a n.1 in
    let arity : f.0.1 ≡ g.0.arity = at_both (λ (h : Function). h.1) (λ h. h.arity) all_functions ground k f.0 g.0 as_functions f.1 g.1 in
    let title : f.0.0 ≡ n.0 = at_both (λ (h : Function). h.0) (λ m. m) all_functions ground_names k f.0 n.0 as_function_names f.1 n.1 in (
      g.0,
      record {
        there = g.1;
        shape = at_both forms_in shaped ground_texts ground_texts k text text as_shaped a a;
        name = n.1 ∙ ap Some (sym name);
        count = at_both (λ t. length (formals_in t)) (λ h. h.arity) ground_texts ground k text g.0 as_counted a g.1;
        variables = v.1 ∙ ap Some (sym (at_both formals_in (λ ws. ws) ground_texts ground_formals k text v.0 as_variables a v.1));
        few = leb-true g.0.arity 3 (at_both (λ h. leb h.arity 3) (λ h. true) ground ground k g.0 g.0 as_few g.1 g.1);
        different = at_both (λ t. different_words (formals_in t)) (λ h. true) ground_texts ground k text g.0 as_different a g.1;
        small = leb-true (size (body_in text)) 2000 (at_both (λ t. leb (size (body_in t)) 2000) (λ h. true) ground_texts ground k text g.0 as_small a g.1);
        meant = some_same _ _ (sym (meaning_at ground_texts 0 k text a k (omega arith)) ∙ (ap (λ zs. slice_get zs k) as_meant ∙ (slice_get-map (λ h. Some h.body) ground k ∙ ap (option_map (λ h. Some h.body)) g.1)));
        below = at_both (λ h. is_below h.arity h.body) (λ h. true) ground ground k g.0 g.0 as_below g.1 g.1;
        free = ap (λ m. word_place m (take k all_functions)) name ∙ some_same _ _ (sym (free_at ground_names 0 k n.0 n.1 k (omega arith)) ∙ (ap (λ zs. slice_get zs k) as_free ∙ (slice_get-map (λ h. None) ground k ∙ ap (option_map (λ h. None)) g.1)));
        function = f.1 ∙ (λ x. Some ((title ∙ sym name) x, arity x));
      },
    )

-- each list of it is closed
pub closed_at : (k : ℕ) (text : List ℕ) → slice_get ground_texts k ≡ Some text → (reading text).around ≡ []
closed_at k text a = at_both (λ t. (reading t).around) (λ t. []) ground_texts ground_texts k text text as_closed a a

pub found_at : (i : ℕ) (text : List ℕ) → slice_get ground_names i ≡ Some text → word_place text all_functions ≡ Some i
found_at i text a = some_same _ _ (sym (slice_get-map (λ n. word_place n all_functions) ground_names i ∙ ap (option_map (λ n. word_place n all_functions)) a) ∙ (ap (λ zs. slice_get zs i) as_found ∙ place_at ground_names 0 i text a i (omega arith)))

-- ---- the formals' places
not_true : (b : Bool) → not b ≡ true → b ≡ false
not_true true h = absurd cc
not_true false h = refl

other : (u : ℕ) (vs : List ℕ) (i : ℕ) → list_any (eqb u) vs ≡ false → suc i ≤ length vs → eqb (get_or vs i 0) u ≡ false
other u [] i h l = absurd (omega (arith, l))
other u (v ∷ vs) zero h l = grind (arith, h)
other u (v ∷ vs) (suc i) h l = other u vs i (grind (arith, h)) (omega (arith, l))

pub seat : (vs : List ℕ) (i : ℕ) → are_different vs ≡ true → suc i ≤ length vs → position_or_len (eqb (get_or vs i 0)) vs ≡ i
seat [] i d l = absurd (omega (arith, l))
seat (v ∷ vs) zero d l = grind arith
seat (v ∷ vs) (suc i) d l =
    let p = and_parts (not (list_any (eqb v) vs)) (are_different vs) d in
    let o = other v vs i (not_true (list_any (eqb v) vs) p.0) (omega (arith, l)) in
    let h = seat vs i p.1 (omega (arith, l)) in
    grind (arith, o, h)

module _ (vars : List ℕ) (d : are_different vars ≡ true) where
  mutual
    pub placed_named : (e : Exp) → is_below (length vars) e ≡ true → placed vars (named vars e) ≡ e
    placed_named (Var i) h = ap Var (seat vars i d (leb-true (suc i) (length vars) h))
    placed_named (Const x) h = refl
    placed_named (If a b c) h =
        let p = and_parts (is_below (length vars) a) (is_below (length vars) b && is_below (length vars) c) h in
        let q = and_parts (is_below (length vars) b) (is_below (length vars) c) p.1 in
        λ i. If (placed_named a p.0 i) (placed_named b q.0 i) (placed_named c q.1 i)
    placed_named (Prim p ts) h = ap (Prim p) (all_placed_named ts h)
    placed_named (Call f ts) h = ap (Call f) (all_placed_named ts h)
    placed_named (Let vs ts b) h = absurd cc

    pub all_placed_named : (ts : Exps) → are_below (length vars) ts ≡ true → all_placed vars (all_named vars ts) ≡ ts
    all_placed_named Last h = refl
    all_placed_named (More t ts) h =
        let p = and_parts (is_below (length vars) t) (are_below (length vars) ts) h in
        λ i. More (placed_named t p.0 i) (all_placed_named ts p.1 i)

pub below_texts : (k : ℕ) (text : List ℕ) → slice_get ground_texts k ≡ Some text → k < 43
below_texts k text a = let n = slice_get_within ground_texts k text a in omega (arith, n, how_many_texts)
