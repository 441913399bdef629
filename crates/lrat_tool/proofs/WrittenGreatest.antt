-- The greatest variable of clauses.
use Rattle.std.proofs.Common.{◌≡◌, ℕ, ℤ, ◌≤◌, List, [], ◌∷◌, ◌++◌, arith}
use Rattle.std.specs.Prelude.{max}
use Rattle.std.specs.Int.RustNames.{unsigned_abs}
use Rattle.std.specs.List.{All, flat_map}
use Rattle.std.proofs.lemmas.List.Elements.{All-nil, All-cons, All-head, All-tail, All-weaker}
use Rattle.cnf_rup.specs.Literals.{IsUpTo}
use Rattle.lrat_tool.specs.Written.{greatest_of, greatest_variable}

pub greatest_append : (xs ys : List ℤ) → greatest_of (xs ++ ys) ≡ max (greatest_of xs) (greatest_of ys)
greatest_append [] ys = omega arith
greatest_append (x ∷ xs) ys = omega (arith, greatest_append xs ys)

up_to_greatest : (c : List ℤ) → IsUpTo (greatest_of c) c
up_to_greatest [] = All-nil (λ (l : ℤ). unsigned_abs l ≤ 0)
up_to_greatest (l ∷ c) =
    All-cons (λ (x : ℤ). unsigned_abs x ≤ greatest_of (l ∷ c)) l c (omega arith)
    (All-weaker (λ (x : ℤ). unsigned_abs x ≤ greatest_of c) (λ (x : ℤ). unsigned_abs x ≤ greatest_of (l ∷ c)) (λ x h. omega (arith, h)) c (up_to_greatest c))

up_to_more : (few most : ℕ) → few ≤ most → (c : List ℤ) → IsUpTo few c → IsUpTo most c
up_to_more few most le c are = All-weaker (λ (x : ℤ). unsigned_abs x ≤ few) (λ (x : ℤ). unsigned_abs x ≤ most) (λ x h. omega (arith, h, le)) c are

pub up_to_variable : (clauses : List (List ℤ)) → All (IsUpTo (greatest_variable clauses)) clauses
up_to_variable [] = All-nil (IsUpTo 0)
up_to_variable (c ∷ clauses) =
    let all : greatest_variable (c ∷ clauses) ≡ max (greatest_of c) (greatest_variable clauses) = greatest_append c (flat_map (λ x. x) clauses) in
    All-cons (IsUpTo (greatest_variable (c ∷ clauses))) c clauses
    (up_to_more (greatest_of c) (greatest_variable (c ∷ clauses)) (omega (arith, all)) c (up_to_greatest c))
    (All-weaker (IsUpTo (greatest_variable clauses)) (IsUpTo (greatest_variable (c ∷ clauses))) (up_to_more (greatest_variable clauses) (greatest_variable (c ∷ clauses)) (omega (arith, all))) clauses (up_to_variable clauses))

greatest_within : (most : ℕ) (c : List ℤ) → IsUpTo most c → greatest_of c ≤ most
greatest_within most [] are = omega arith
greatest_within most (l ∷ c) are =
    omega (arith, All-head (λ (x : ℤ). unsigned_abs x ≤ most) l c are, greatest_within most c (All-tail (λ (x : ℤ). unsigned_abs x ≤ most) l c are))

pub variable_within : (most : ℕ) (clauses : List (List ℤ)) → All (IsUpTo most) clauses → greatest_variable clauses ≤ most
variable_within most [] are = omega arith
variable_within most (c ∷ clauses) are =
    omega (arith, greatest_append c (flat_map (λ x. x) clauses), greatest_within most c (All-head (IsUpTo most) c clauses are), variable_within most clauses (All-tail (IsUpTo most) c clauses are))
