-- Rows that were worked by hand: hints over the clauses of x and not y, whose nodes are the variables 2, 3 and 4; and the
-- clauses of that graph.
use Rattle.std.proofs.Common.{◌≡◌, ℤ, pos, negsuc, true, false, ◌||◌, eqb, List, [], ◌∷◌, Some, None, refl}
use Rattle.std.specs.List.{list_any}
use Rattle.aig_store.specs.declared.node.AigNode.{AigNode}
use Rattle.aig_store.specs.declared.node.AigNode.TheVariants.{Constant, Var, And}
use Rattle.cnf_rup.specs.Literals.{holds}
use Rattle.cnf_rup.specs.Shown.{first_unshown}
use Rattle.cnf_rup.specs.Cnfs.{clauses_of_cone, literal_of}

-- (-4 2), (-4 -3), (4 -2 3) and (4)
clauses : List (List ℤ)
clauses = (negsuc 3 ∷ pos 2 ∷ []) ∷ (negsuc 3 ∷ negsuc 2 ∷ []) ∷ (pos 4 ∷ negsuc 1 ∷ pos 3 ∷ []) ∷ (pos 4 ∷ []) ∷ []

-- (2) by the hints 4 and 1
taken : first_unshown clauses (pos 2 ∷ []) (4 ∷ 1 ∷ []) ≡ None
unfolding clauses
taken = refl

-- what comes after a conflict is not looked at
more_hints : first_unshown clauses (pos 2 ∷ []) (4 ∷ 1 ∷ 99 ∷ []) ≡ None
unfolding clauses
more_hints = refl

-- one too few: each is unit, and the place is their count
too_few : first_unshown clauses (pos 2 ∷ []) (4 ∷ []) ≡ Some 1
unfolding clauses
too_few = refl

-- one too many on the way: under -2 the hint 1 gives -4, under which the hint 2 is true
too_many : first_unshown clauses (pos 2 ∷ []) (1 ∷ 2 ∷ 4 ∷ []) ≡ Some 1
unfolding clauses
too_many = refl

-- in the wrong order: under -2 the hint 3 is true
wrong_order : first_unshown clauses (pos 2 ∷ []) (3 ∷ 4 ∷ 1 ∷ []) ≡ Some 0
unfolding clauses
wrong_order = refl

-- two literals are left
two_left : first_unshown clauses (pos 3 ∷ []) (3 ∷ []) ≡ Some 0
unfolding clauses
two_left = refl

-- no clause has the number 99, nor 0
no_clause : first_unshown clauses [] (99 ∷ []) ≡ Some 0
unfolding clauses
no_clause = refl

number_zero : first_unshown clauses [] (0 ∷ []) ≡ Some 0
unfolding clauses
number_zero = refl

no_hints : first_unshown clauses [] [] ≡ Some 0
unfolding clauses
no_hints = refl

-- a literal twice, in the clause and in a clause that a hint names
twice : first_unshown clauses (pos 2 ∷ pos 2 ∷ []) (4 ∷ 1 ∷ []) ≡ None
unfolding clauses
twice = refl

twice_named : first_unshown ((pos 5 ∷ pos 5 ∷ []) ∷ (negsuc 4 ∷ negsuc 4 ∷ []) ∷ []) [] (1 ∷ 2 ∷ []) ≡ None
twice_named = refl

-- a tautology needs no hint, and any will do; as a hint it is not unit
tautology : first_unshown clauses (pos 5 ∷ pos 7 ∷ negsuc 4 ∷ []) (99 ∷ []) ≡ None
unfolding clauses
tautology = refl

tautology_named : first_unshown ((pos 5 ∷ negsuc 4 ∷ []) ∷ []) [] (1 ∷ []) ≡ Some 0
tautology_named = refl

-- the constant, x, y, and x and not y: node 3, whose edge is 6
graph : List AigNode
graph = Constant ∷ Var 0 ∷ Var 1 ∷ And (record { number = 2 }) (record { number = 5 }) ∷ []

graph_clauses : clauses_of_cone graph (3 ∷ 1 ∷ 2 ∷ []) ≡ (negsuc 3 ∷ pos 2 ∷ []) ∷ (negsuc 3 ∷ negsuc 2 ∷ []) ∷ (pos 4 ∷ negsuc 1 ∷ pos 3 ∷ []) ∷ []
unfolding graph
graph_clauses = refl

constant_clauses : clauses_of_cone graph (0 ∷ []) ≡ (pos 1 ∷ []) ∷ []
unfolding graph
constant_clauses = refl

plain_literal : literal_of (record { number = 6 }) ≡ pos 4
plain_literal = refl

complemented_literal : literal_of (record { number = 7 }) ≡ negsuc 3
complemented_literal = refl

-- (4 -2 3) where 2 alone is true, and where 2 and 3 are
unsatisfied : list_any (holds (λ v. eqb v 2)) (pos 4 ∷ negsuc 1 ∷ pos 3 ∷ []) ≡ false
unsatisfied = refl

satisfied : list_any (holds (λ v. eqb v 2 || eqb v 3)) (pos 4 ∷ negsuc 1 ∷ pos 3 ∷ []) ≡ true
satisfied = refl
