-- Jobs that are dealt out in runs, one behind the other.
use Rattle.std.proofs.Common.{◌≡◌, ◌∙◌, ap, sym, refl, subst, ℕ, zero, suc, ◌+◌, ◌*◌, ◌/◌, ◌<◌, ◌≤◌, List, [], ◌∷◌, ◌++◌, length, length-append, Some, slice_get, inl, inr, ◌⊎◌, arith}
use Rattle.std.proofs.Math.Nat.{add-div_right, mul-div_cancel_left, div-mul-le_self}
use Rattle.std.proofs.lemmas.Nat.{le-div}
use Rattle.gl_book.specs.Pieces.{IsShare, AreDealt, Follow}
use Rattle.gl_book.specs.declared.piece.Piece.{Piece}

-- ---- shares
div-mono : (p m n : ℕ) → 0 < p → m ≤ n → m / p ≤ n / p
div-mono p m n some l = le-div (m / p) n p some (omega (arith, div-mul-le_self m p, l))

pub share_grows : (k count parts : ℕ) → 0 < parts → parts ≤ count → k * count / parts < (k + 1) * count / parts
share_grows k count parts some few =
    let next : k * count / parts + 1 ≡ (k * count + parts) / parts = sym (add-div_right (k * count) some) in
    let more : (k * count + parts) / parts ≤ (k * count + count) / parts = div-mono parts (k * count + parts) (k * count + count) some (omega (arith, few)) in
    let same : (k + 1) * count ≡ k * count + count = omega arith in
    let e : (k + 1) * count / parts ≡ (k * count + count) / parts = ap (λ n. n / parts) same in
    omega (arith, next, more, e)

pub all_shares : (count parts : ℕ) → 0 < parts → parts * count / parts ≡ count
all_shares count parts some = mul-div_cancel_left count some

-- ---- one run more

pub follow_push : (a b : ℕ) (ps : List Piece) (q : Piece) → Follow a ps b → q.first ≡ b → Follow a (ps ++ q ∷ []) q.end
follow_push a b [] q f e = (e ∙ sym f, refl)
follow_push a b (p ∷ ps) q f e = (f.0, follow_push p.end b ps q f.1 e)

-- the first so many runs are dealt
pub record Dealing (count parts k : ℕ) (pieces : List Piece) : Type 0 where
  pub many : length pieces ≡ k
  pub each : (j : ℕ) (p : Piece) → slice_get pieces j ≡ Some p → IsShare count parts j p
  pub follow : Follow 0 pieces (k * count / parts)

get_push : {A : Type 0} (xs : List A) (x : A) (j : ℕ) (y : A) → slice_get (xs ++ x ∷ []) j ≡ Some y → (slice_get xs j ≡ Some y) ⊎ ((j ≡ length xs) × (x ≡ y))
get_push [] x zero y at = inr (refl, cc)
get_push [] x (suc j) y at = absurd cc
get_push (z ∷ xs) x zero y at = inl at
get_push (z ∷ xs) x (suc j) y at = elim (get_push xs x j y at) [
  | inl h ↦ inl h
  | inr h ↦ inr (ap suc h.0, h.1)
]

pub one_dealt : (count parts k : ℕ) (pieces : List Piece) (q : Piece) → Dealing count parts k pieces → IsShare count parts k q → Dealing count parts (k + 1) (pieces ++ q ∷ [])
one_dealt count parts k pieces q d s = record {
  many = omega (arith, length-append pieces (q ∷ []), d.many);
  each = λ j p at. elim (get_push pieces q j p at) [
    | inl h ↦ d.each j p h
    | inr h ↦ subst (IsShare count parts j) h.1 (subst (λ (n : ℕ). IsShare count parts n q) (sym (h.0 ∙ d.many)) s)
  ];
  follow = subst (λ (n : ℕ). Follow 0 (pieces ++ q ∷ []) n) s.end (follow_push 0 (k * count / parts) pieces q d.follow s.first);
}

pub all_dealt : (count parts k : ℕ) (pieces : List Piece) → k ≡ parts → Dealing count parts k pieces → AreDealt count parts pieces
all_dealt count parts k pieces e d = record { many = d.many ∙ e; each = d.each }

pub all_follow : (count parts k : ℕ) (pieces : List Piece) → 0 < parts → k ≡ parts → Dealing count parts k pieces → Follow 0 pieces count
all_follow count parts k pieces some e d = subst (Follow 0 pieces) (ap (λ n. n * count / parts) e ∙ all_shares count parts some) d.follow
