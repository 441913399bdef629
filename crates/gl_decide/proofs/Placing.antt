-- Inputs that are placed in an arena.
use Rattle.std.proofs.Common.{◌≡◌, ◌≢◌, ◌∙◌, ap, sym, refl, subst, ℕ, zero, suc, ◌+◌, ◌<◌, arith, List, [], ◌∷◌, ◌++◌, length, take, get_or, append_assoc, append-nil, length-append, Some, inl, inr}
use Rattle.std.specs.Prelude.{slice_get}
use Rattle.std.specs.List.{All, AllPairs, Contains}
use Rattle.std.proofs.lemmas.List.{map-append, take_more}
use Rattle.std.proofs.lemmas.List.Elements.{All-append, All-contains, All-contains_itself, Contains-append_left, Contains-append_right, Contains-append_cases}
use Rattle.std.proofs.lemmas.Option.{get_or_from_slice_get, slice_get_within}
use Rattle.gl_logic.specs.Object.{Object}
use Rattle.gl_logic.specs.ObjectEq.{object_eq}
use Rattle.gl_logic.specs.Different.{different}
use Rattle.gl_logic.specs.Parts.{cells_in}
use Rattle.hons_arena.specs.Held.{Held, AddsCellsOf, HasNoRoomFor, IsEachOnce}
use Rattle.hons_arena.specs.Ids.{object_at, IsLive}
use Rattle.hons_arena.specs.Parts.{IsCellOf}
use Rattle.hons_arena.proofs.Placing.{id_kept}
use Rattle.hons_arena.proofs.Counting.{each_once_few}
use Rattle.lisp_eval.specs.Answers.{IsLiveBinding}
use Rattle.lisp_eval.specs.States.{env_of}
use Rattle.lisp_eval.specs.declared.frame.Binding.{Binding}
use Rattle.lisp_eval.proofs.Grown.{env_stable}
use Rattle.gl_decide.specs.Placed.{input_cells, AddsCellsOfInput}

-- ---- cells of an input
pub in_input : (input : List (ℕ × Object)) (k : ℕ) (p : ℕ × Object) (y : Object) → slice_get input k ≡ Some p → Contains (cells_in p.1) y → Contains (input_cells input) y
in_input [] k p y e c = absurd cc
in_input (q ∷ qs) zero p y e c =
    let same : q ≡ p = cc in Contains-append_left (cells_in q.1) (input_cells qs) y (subst (λ (r : ℕ × Object). Contains (cells_in r.1) y) (sym same) c)
in_input (q ∷ qs) (suc k) p y e c = Contains-append_right (cells_in q.1) (input_cells qs) y (in_input qs k p y e c)

pub adds_none : (input : List (ℕ × Object)) (old : List Object) → AddsCellsOfInput input old old
adds_none input old = record { made = []; is = sym (append-nil old); cells = λ y c. absurd (omega (arith, c.1)) }

pub adds_more : (input : List (ℕ × Object)) (old mid new : List Object) (k : ℕ) (p : ℕ × Object) → slice_get input k ≡ Some p → AddsCellsOfInput input old mid → AddsCellsOf p.1 mid new → AddsCellsOfInput input old new
adds_more input old mid new k p e a b = record {
  made = a.made ++ b.made;
  is = b.is ∙ (ap (λ zs. zs ++ b.made) a.is ∙ append_assoc old a.made b.made);
  cells = λ y c. elim (Contains-append_cases a.made b.made y c) [
    | inl d ↦ a.cells y d
    | inr d ↦ in_input input k p y e (All-contains (λ z. IsCellOf z p.1) b.made y b.cells d)
  ];
}

-- ---- bindings
pub live_more : (x : Object) (mid new : List Object) (env : List Binding) → AddsCellsOf x mid new → All (IsLiveBinding mid) env → All (IsLiveBinding new) env
live_more x mid new env a h k d l = (id_kept x mid new (object_at mid (get_or env k d).value) (get_or env k d).value a (h k d l, refl)).0

pub one_live : (new : List Object) (b : Binding) → IsLive new b.value → All (IsLiveBinding new) (b ∷ [])
one_live new b h zero d l = h
one_live new b h (suc k) d l = absurd (omega (arith, l))

pub stands_more : (input : List (ℕ × Object)) (mid new : List Object) (env : List Binding) (k : ℕ) (p : ℕ × Object) (b : Binding)
    → slice_get input k ≡ Some p → AddsCellsOf p.1 mid new → All (IsLiveBinding mid) env → env_of mid env ≡ take k input → b.name.number ≡ p.0 → object_at new b.value ≡ p.1 → env_of new (env ++ b ∷ []) ≡ take (k + 1) input
stands_more input mid new env k p b e a live is n o =
    let before : env_of new env ≡ take k input = ap (λ zs. env_of zs env) a.is ∙ (env_stable mid env live a.made ∙ is) in
    let last : (b.name.number, object_at new b.value) ≡ get_or input k p = (λ i. (n i, o i)) ∙ sym (get_or_from_slice_get input k p p e) in
    map-append (λ c. (c.name.number, object_at new c.value)) env (b ∷ [])
    ∙ ((λ i. before i ++ last i ∷ []) ∙ sym (take_more input k p (slice_get_within input k p e)))

-- ---- want of room
pairs_cons : (x : Object) (ys : List Object) → ((y : Object) → Contains ys y → x ≢ y) → AllPairs (λ x y. x ≢ y) ys → AllPairs (λ x y. x ≢ y) (x ∷ ys)
pairs_cons x ys h p i zero d l m = absurd (omega (arith, l))
pairs_cons x ys h p zero (suc j) d l m = h (get_or ys j d) (All-contains_itself ys j d (omega (arith, m)))
pairs_cons x ys h p (suc i) (suc j) d l m = p i j d (omega (arith, l)) (omega (arith, m))

pairs_rest : (x : Object) (xs : List Object) → IsEachOnce (x ∷ xs) → IsEachOnce xs
pairs_rest x xs h i j d l m = h (suc i) (suc j) d (omega (arith, l)) (omega (arith, m))

pairs_first : (x : Object) (xs : List Object) → IsEachOnce (x ∷ xs) → (y : Object) → Contains xs y → x ≢ y
pairs_first x xs h y c e = h 0 (suc c.0) y (omega arith) (omega (arith, c.1)) (e ∙ sym c.2)

pairs_append : (xs ys : List Object) → IsEachOnce xs → IsEachOnce ys → ((y : Object) → Contains ys y → Contains xs y → ⊥) → IsEachOnce (xs ++ ys)
pairs_append [] ys p q h = q
pairs_append (x ∷ xs) ys p q h =
    pairs_cons x (xs ++ ys)
    (λ y c e. elim (Contains-append_cases xs ys y c) [
      | inl d ↦ pairs_first x xs p y d e
      | inr d ↦ h y d (0, omega arith, e)
    ])
    (pairs_append xs ys (pairs_rest x xs p) q (λ y c d. h y c (suc d.0, omega (arith, d.1), d.2)))

all_within : (P : Object → Type 0) (xs : List Object) → ((y : Object) → Contains xs y → P y) → All P xs
all_within P xs h k d l = h (get_or xs k d) (All-contains_itself xs k d l)

pub crowded : (input : List (ℕ × Object)) (old : List Object) (mid : Held) (k : ℕ) (p : ℕ × Object) → slice_get input k ≡ Some p → IsEachOnce mid.objects → AddsCellsOfInput input old mid.objects → HasNoRoomFor mid p.1
    → mid.limit < length (different object_eq (old ++ input_cells input))
crowded input old mid k p e once a h =
    let all = old ++ input_cells input in
    let absent : (y : Object) → Contains h.cells y → Contains mid.objects y → ⊥ = λ y c. All-contains (λ z. ¬ Contains mid.objects z) h.cells y h.absent c in
    let held : (y : Object) → Contains mid.objects y → Contains all y = λ y c. elim (Contains-append_cases old a.made y (subst (λ (zs : List Object). Contains zs y) a.is c)) [
      | inl d ↦ Contains-append_left old (input_cells input) y d
      | inr d ↦ Contains-append_right old (input_cells input) y (a.cells y d)
    ] in
    let needed : (y : Object) → Contains h.cells y → Contains all y = λ y c. Contains-append_right old (input_cells input) y (in_input input k p y e (All-contains (λ z. IsCellOf z p.1) h.cells y h.needed c)) in
    let both : All (Contains all) (mid.objects ++ h.cells) = All-append (Contains all) mid.objects h.cells (all_within (Contains all) mid.objects held) (all_within (Contains all) h.cells needed) in
    omega (arith, each_once_few (mid.objects ++ h.cells) all (pairs_append mid.objects h.cells once h.different absent) both, length-append mid.objects h.cells, h.more)
