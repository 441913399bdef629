-- The members of a clique, each noted with its own form.
use Rattle.std.proofs.Common.{◌≡◌, ◌∙◌, ap, sym, refl, subst, ℕ, zero, suc, ◌+◌, ◌-◌, ◌<◌, ◌≤◌, List, [], ◌∷◌, ◌++◌, length, length-append, take, drop, get_or, Some, slice_get, Bool, false, cond, eqb, inl, inr, arith}
use Rattle.std.specs.Option.{option_map}
use Rattle.std.proofs.Math.Seq.{drop-cons, take-append_seam}
use Rattle.std.proofs.lemmas.Bool.{cases_Bool, eqb-true}
use Rattle.std.proofs.lemmas.List.{map-append}
use Rattle.std.proofs.lemmas.Option.{get_or_from_slice_get, slice_get_within, slice_get-map}
use Rattle.gl_logic.specs.Object.{Object, Int, Character, Symbol, Text, Cons}
use Rattle.gl_logic.specs.Lists.{elements_of, tail_of, conses, IsAtom}
use Rattle.gl_logic.specs.Every.{Every}
use Rattle.gl_logic.specs.Definition.{Definition}
use Rattle.gl_logic.specs.Named.{AreDifferentNames, AreFreeNames, IsFree, names_of, place_of}
use Rattle.gl_logic.specs.WorldSeen.{WorldSeen, definition_names, with_clique, with_event}
use Rattle.gl_logic.proofs.Parts.{conses-whole}
use Rattle.gl_logic.proofs.Indexes.{place-push}
use Rattle.sexp_print.proofs.Steps.{element_out}
use Rattle.event_world.specs.EventWords.{behind_head}
use Rattle.event_world.specs.NextState.{with_members}
use Rattle.event_world.specs.Suits.{IsNewName}

-- ---- lists
pub every_at : {A : Type 0} (P : A → Type 0) (xs : List A) (i : ℕ) (x : A) → Every P xs → slice_get xs i ≡ Some x → P x
every_at P [] i x h e = absurd cc
every_at P (y ∷ ys) zero x h e = let z : y ≡ x = cc in subst P z h.0
every_at P (y ∷ ys) (suc i) x h e = every_at P ys i x h.1 e

-- ---- forms
pub none_left : (w : WorldSeen) (ds : List Definition) (t : Object) → IsAtom t → with_members w ds t ≡ w
none_left w [] t a = refl
none_left w (d ∷ ds) (Int z) a = refl
none_left w (d ∷ ds) (Character n) a = refl
none_left w (d ∷ ds) (Symbol n) a = refl
none_left w (d ∷ ds) (Text n) a = refl
none_left w (d ∷ ds) (Cons x y) a = absurd a

pub tail_atom : (x : Object) → IsAtom (tail_of x)
tail_atom (Int z) = tt
tail_atom (Character n) = tt
tail_atom (Symbol n) = tt
tail_atom (Text n) = tt
tail_atom (Cons a d) = tail_atom d

pub behind : (x : Object) → conses (take (length (elements_of x) - 1) (elements_of x)) (tail_of x) ≡ behind_head x
behind (Int z) = refl
behind (Character n) = refl
behind (Symbol n) = refl
behind (Text n) = refl
behind (Cons a d) =
    let n : length (elements_of d ++ a ∷ []) - 1 ≡ length (elements_of d) = omega (arith, length-append (elements_of d) (a ∷ [])) in
    ap (λ (k : ℕ). conses (take k (elements_of d ++ a ∷ [])) (tail_of d)) n ∙ (ap (λ (xs : List Object). conses xs (tail_of d)) (take-append_seam (elements_of d) (a ∷ [])) ∙ conses-whole d)

-- ---- definitions
drop_next : {A : Type 0} (xs : List A) (i : ℕ) (x : A) → slice_get xs i ≡ Some x → drop i xs ≡ x ∷ drop (i + 1) xs
drop_next xs i x at =
    let e : suc i ≡ i + 1 = omega arith in
    drop-cons xs i x (slice_get_within xs i x at) ∙ (ap (λ y. y ∷ drop (suc i) xs) (get_or_from_slice_get xs i x x at) ∙ ap (λ n. x ∷ drop n xs) e)

get_drop : {A : Type 0} (xs : List A) (n k : ℕ) → n ≤ k → slice_get (drop n xs) (k - n) ≡ slice_get xs k
get_drop xs zero k h = let e : k - 0 ≡ k = omega arith in ap (slice_get xs) e
get_drop [] (suc n) k h = refl
get_drop (x ∷ xs) (suc n) zero h = absurd (omega (arith, h))
get_drop (x ∷ xs) (suc n) (suc k) h = let e : suc k - suc n ≡ k - n = omega arith in ap (slice_get (drop n xs)) e ∙ get_drop xs n k (omega (arith, h))

pub past_all : {A : Type 0} (xs : List A) (n : ℕ) → length xs ≤ n → drop n xs ≡ []
past_all [] zero h = refl
past_all [] (suc n) h = refl
past_all (x ∷ xs) zero h = absurd (omega (arith, h))
past_all (x ∷ xs) (suc n) h = past_all xs n (omega (arith, h))

named_at : (ds : List Definition) (n k : ℕ) (d : Definition) → n ≤ k → slice_get ds k ≡ Some d → slice_get (definition_names (drop n ds)) (k - n) ≡ Some d.name
named_at ds n k d h e = slice_get-map (λ (c : Definition). c.name) (drop n ds) (k - n) ∙ ap (option_map (λ (c : Definition). c.name)) (get_drop ds n k h ∙ e)

-- ---- on the way
pub record Going (ds : List Definition) (es : List Object) (t : Object) (whole w : WorldSeen) (i left : ℕ) : Type 0 where
  pub same : w.definitions ≡ ds
  pub todo : with_members w (drop i ds) (conses (take left es) t) ≡ whole
  pub free : (k : ℕ) (d : Definition) → slice_get ds k ≡ Some d → i ≤ k → IsFree (names_of w.events) d.name
  pub within : left ≤ length es

module _ (ds : List Definition) (n : ℕ) (different : AreDifferentNames (definition_names (drop n ds))) where
  apart : (i k : ℕ) (d e : Definition) → n ≤ i → i < k → slice_get ds i ≡ Some d → slice_get ds k ≡ Some e → eqb d.name e.name ≡ false
  apart i k d e l h p q = elim (cases_Bool (eqb d.name e.name)) [
    | inl same ↦
        let z : i - n ≡ k - n = different (i - n) (k - n) e.name (named_at ds n i d l p ∙ ap Some (eqb-true d.name e.name same)) (named_at ds n k e (omega (arith, l, h)) q) in
        absurd (omega (arith, z, l, h))
    | inr other ↦ other
  ]

  module _ (es : List Object) (t : Object) (whole w : WorldSeen) (i left : ℕ) (g : Going ds es t whole w i left) where
    pub one_noted : (d : Definition) (x : Object) → n ≤ i → slice_get ds i ≡ Some d → 1 ≤ left → x ≡ get_or es (left - 1) x → Going ds es t whole (with_event w d.name x) (i + 1) (left - 1)
    one_noted d x l at some is =
        let e : left - 1 + 1 ≡ left = omega (arith, some) in
        let forms : conses (take left es) t ≡ Cons x (conses (take (left - 1) es) t) = ap (λ (m : ℕ). conses (take m es) t) (sym e) ∙ element_out es (left - 1) x t (omega (arith, some, g.within)) is in
        record {
          same = g.same;
          todo = sym (λ j. with_members w (drop_next ds i d at j) (forms j)) ∙ g.todo;
          free = λ k c q h.
              ap (λ (ns : List ℕ). place_of ns c.name) (map-append (λ (e : ℕ × Object). e.0) w.events ((d.name, x) ∷ []))
              ∙ (place-push (names_of w.events) d.name c.name (g.free i d at (omega arith))
              ∙ (ap (λ (b : Bool). cond b (Some (length (names_of w.events))) (place_of (names_of w.events) c.name)) (apart i k d c l (omega (arith, h)) at q) ∙ g.free k c q (omega (arith, h))));
          within = let v = g.within in omega (arith, v);
        }

pub begin_noting : (w : WorldSeen) (n : ℕ) (x : Object) → Every (IsFree (names_of w.events)) (definition_names (drop n w.definitions)) → Going w.definitions (elements_of x) (tail_of x) (with_members w (drop n w.definitions) (behind_head x)) w n (length (elements_of x) - 1)
begin_noting w n x free = record {
  same = refl;
  todo = ap (with_members w (drop n w.definitions)) (behind x);
  free = λ k d e h. every_at (IsFree (names_of w.events)) (definition_names (drop n w.definitions)) (k - n) d.name free (named_at w.definitions n k d h e);
  within = omega arith;
}

pub nothing_left : (ds : List Definition) (es : List Object) (t : Object) (whole w : WorldSeen) (i left : ℕ) → Going ds es t whole w i left → left ≡ 0 → IsAtom t → w ≡ whole
nothing_left ds es t whole w i left g z a = sym (none_left w (drop i ds) t a) ∙ (ap (λ (k : ℕ). with_members w (drop i ds) (conses (take k es) t)) (sym z) ∙ g.todo)

-- ---- behind a clique that is pushed
pub every_also : (P Q : ℕ → Type 0) → ((x : ℕ) → P x → Q x) → (xs : List ℕ) → Every P xs → Every Q xs
every_also P Q f [] h = tt
every_also P Q f (x ∷ xs) h = (f x h.0, every_also P Q f xs h.1)

behind_all : {A : Type 0} (xs ys : List A) → drop (length xs) (xs ++ ys) ≡ ys
behind_all [] ys = refl
behind_all (x ∷ xs) ys = behind_all xs ys

pub pushed_members : (w new : WorldSeen) (ds : List Definition) (first : ℕ) → new ≡ with_clique w ds → first ≡ length w.definitions → drop first new.definitions ≡ ds
pushed_members w new ds first e f = (λ i. drop (f i) ((ap (λ (v : WorldSeen). v.definitions) e) i)) ∙ behind_all w.definitions ds

pub members_free : (w new : WorldSeen) (ds : List Definition) (first : ℕ) → new ≡ with_clique w ds → first ≡ length w.definitions → Every (IsNewName w) (definition_names ds) → Every (IsFree (names_of new.events)) (definition_names (drop first new.definitions))
members_free w new ds first e f h =
    subst (λ (es : List Definition). Every (IsFree (names_of new.events)) (definition_names es)) (sym (pushed_members w new ds first e f))
    (subst (λ (v : WorldSeen). Every (IsFree (names_of v.events)) (definition_names ds)) (sym e) (every_also (IsNewName w) (IsFree (names_of w.events)) (λ x n. n.event) (definition_names ds) h))

pub names_free : (w : WorldSeen) (names : List ℕ) → Every (IsNewName w) names → AreFreeNames (definition_names w.definitions) names
names_free w names h = every_also (IsNewName w) (IsFree (definition_names w.definitions)) (λ x n. n.definition) names h

pub more_definitions : (w new last : WorldSeen) (ds : List Definition) → new ≡ with_clique w ds → last.definitions ≡ new.definitions → length w.definitions ≤ length last.definitions
more_definitions w new last ds e f = let l = ap length (f ∙ ap (λ (v : WorldSeen). v.definitions) e) ∙ length-append w.definitions ds in omega (arith, l)
