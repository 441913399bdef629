-- A shelf that has the texts that were read.
use Rattle.std.proofs.Common.{◌≡◌, ◌∙◌, ap, sym, refl, subst, ℕ, Bool, true, false, ◌||◌, cond, List, [], ◌∷◌, ◌++◌, Option, Some, None}
use Rattle.std.specs.Prelude.{IfSome, bytes_eq, unwrap_or}
use Rattle.std.proofs.lemmas.Slice.Eq.{bytes_eq-Decides}
use Rattle.gl_logic.proofs.Places.{bytes_same}
use Rattle.gl_logic.specs.Every.{Every}
use Rattle.book_shelf.specs.declared.item.Item.{Item}
use Rattle.book_shelf.specs.declared.finish.Finish.{Finish}
use Rattle.book_shelf.specs.Flat.{Book, IsFlat, Lists, is_among}
use Rattle.book_shelf.specs.Loads.{AreIn, AreTold, AreFresh, Loads, LoadsBook}

-- the text that was read under a name, and another where none was
abbrev text_or : List (List ℕ × List ℕ) → List ℕ → List ℕ → List ℕ
text_or [] name other = other
text_or (p ∷ read) name other = cond (bytes_eq p.0 name) p.1 (text_or read name other)

same_bytes : (xs ys : List ℕ) → bytes_eq xs ys ≡ true → xs ≡ ys
same_bytes xs ys e = (bytes_eq-Decides xs ys).0 e

turned : (xs ys : List ℕ) → bytes_eq xs ys ≡ false → bytes_eq ys xs ≡ false
turned xs ys e = elim (bytes_eq ys xs) as (λ b. bytes_eq ys xs ≡ b → bytes_eq ys xs ≡ false) [
  | true ↦ λ t. let z : bytes_eq xs ys ≡ true = ap (λ n. bytes_eq xs n) (same_bytes ys xs t) ∙ bytes_same xs in absurd (let q : true ≡ false = sym z ∙ e in cc)
  | false ↦ λ f. f
] refl

or_none : (a b : Bool) → (a || b) ≡ false → (a ≡ false) × (b ≡ false)
or_none false b h = (refl, h)
or_none true b h = absurd cc

either_more : (a b c : Bool) → (a || b) ≡ true → (b ≡ true → c ≡ true) → (a || c) ≡ true
either_more true b c h k = refl
either_more false b c h k = k h

or_right : (a b : Bool) → b ≡ true → (a || b) ≡ true
or_right true b h = refl
or_right false b h = h

-- a name that is not among names is none of them
not_last : (name other : List ℕ) (front : List (List ℕ)) → is_among name (front ++ other ∷ []) ≡ false → bytes_eq name other ≡ false
not_last name other [] h = (or_none (bytes_eq name other) false h).0
not_last name other (x ∷ front) h = not_last name other front (or_none (bytes_eq name x) (is_among name (front ++ other ∷ [])) h).1

not_in_front : (name : List ℕ) (front back : List (List ℕ)) → is_among name (front ++ back) ≡ false → is_among name front ≡ false
not_in_front name [] back h = refl
not_in_front name (x ∷ front) back h =
    let p = or_none (bytes_eq name x) (is_among name (front ++ back)) h in
    λ i. (p.0 i) || (not_in_front name front back p.1 i)

among_more : (name : List ℕ) (front back : List (List ℕ)) → is_among name front ≡ true → is_among name (front ++ back) ≡ true
among_more name [] back h = absurd cc
among_more name (x ∷ front) back h = either_more (bytes_eq name x) (is_among name front) (is_among name (front ++ back)) h (among_more name front back)

among_last : (name : List ℕ) (front : List (List ℕ)) → is_among name (front ++ name ∷ []) ≡ true
among_last name [] = λ i. bytes_same name i || false
among_last name (x ∷ front) = or_right (bytes_eq name x) (is_among name (front ++ name ∷ [])) (among_last name front)

-- names behind others differ from them
apart : (front : List (List ℕ)) (name : List ℕ) (read : List (List ℕ × List ℕ)) → is_among name front ≡ true → AreFresh front read → Every (λ p. bytes_eq name p.0 ≡ false) read
apart front name [] k h = tt
apart front name (p ∷ read) k h = (differs, apart (front ++ p.0 ∷ []) name read (among_more name front (p.0 ∷ []) k) h.1) where
  differs : bytes_eq name p.0 ≡ false
  differs = elim (bytes_eq name p.0) as (λ b. bytes_eq name p.0 ≡ b → bytes_eq name p.0 ≡ false) [
    | true ↦ λ t. let q : true ≡ false = sym k ∙ (ap (λ n. is_among n front) (same_bytes name p.0 t) ∙ h.0) in absurd cc
    | false ↦ λ f. f
  ] refl

behind_one : (p : List ℕ × List ℕ) (read : List (List ℕ × List ℕ)) (other : List ℕ → List ℕ) (some : List (List ℕ × List ℕ)) → Every (λ q. bytes_eq p.0 q.0 ≡ false) some
    → AreIn some (λ n. text_or read n (other n)) → AreIn some (λ n. text_or (p ∷ read) n (other n))
behind_one p read other [] h k = tt
behind_one p read other (q ∷ some) h k = (ap (λ b. cond b p.1 (text_or read q.0 (other q.0))) h.0 ∙ k.0, behind_one p read other some h.1 k.1)

all_in : (front : List (List ℕ)) (read : List (List ℕ × List ℕ)) (other : List ℕ → List ℕ) → AreFresh front read → AreIn read (λ n. text_or read n (other n))
all_in front [] other h = tt
all_in front (p ∷ read) other h = (
  ap (λ b. cond b p.1 (text_or read p.0 (other p.0))) (bytes_same p.0),
  behind_one p read other read (apart (front ++ p.0 ∷ []) p.0 read (among_last p.0 front) h.1) (all_in (front ++ p.0 ∷ []) read other h.1),
)

told : (holds : List ℕ → Option (List ℕ)) (read : List (List ℕ × List ℕ)) (n : List ℕ) → AreTold read holds → IfSome (holds n) (λ bytes. text_or read n (unwrap_or (holds n) []) ≡ bytes)
told holds [] n h = elim (holds n) as (λ o. IfSome o (λ bytes. unwrap_or o [] ≡ bytes)) [
  | None ↦ tt
  | Some bytes ↦ refl
]
told holds (p ∷ read) n h = elim (bytes_eq p.0 n) as (λ b. bytes_eq p.0 n ≡ b → IfSome (holds n) (λ bytes. cond b p.1 (text_or read n (unwrap_or (holds n) [])) ≡ bytes)) [
  | true ↦ λ t. subst (λ (m : List ℕ). IfSome (holds m) (λ bytes. p.1 ≡ bytes)) (same_bytes p.0 n t) h.0
  | false ↦ λ f. told holds read n h.1
] refl

pub flat_from : (first table : List (List ℕ)) (holds : List ℕ → Option (List ℕ)) (name : List ℕ) (now : List (List ℕ)) (items : List Item) (end : Finish) → LoadsBook first table holds [] [] [] name now items end → IsFlat first table holds name items end
flat_from first table holds name now items end b =
    let l : Loads table holds [] [] [] (Book name) now items end = b.loads in
    let other = λ (n : List ℕ). unwrap_or (holds n) [] in
    let shelf = λ (n : List ℕ). text_or l.took.read n (other n) in
    let there : AreIn l.took.read shelf = all_in [] l.took.read other l.took.fresh in
    record {
      shelf = shelf;
      told = λ n. told holds l.took.read n l.took.told;
      taken = now;
      lists = λ names g. subst (λ (xs : List Item). Lists names shelf [] [] (Book name) (record { items = xs; taken = now; finish = end })) (sym l.took.added) (l.lists names g shelf there);
      begins = b.begins shelf there;
    }
