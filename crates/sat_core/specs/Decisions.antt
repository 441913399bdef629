-- What a decision by search answers, and what stands behind the answer: the book of its clauses.
use Rattle.std.specs.Prelude.{ℕ, ◌+◌, ◌-◌, ◌*◌, min, Bool, true, false, ◌||◌, ◌≡◌, ◌≢◌, ◌≤◌, ◌<◌, leb, ◌⊎◌, ◌↔◌, ◌++◌, ◌∷◌, [], List, length, count_by, All, Option, None, Some}
use Rattle.bfr_store.specs.declared.edge.Edge.{Edge}
use Rattle.bfr_store.specs.declared.edge.Decision.{Decision}
use Rattle.bfr_store.specs.declared.edge.Decision.TheVariants.{Never, Sometimes, Spent}
use Rattle.aig_store.specs.declared.node.AigNode.{AigNode}
use Rattle.aig_store.specs.Nodes.{Graph}
use Rattle.cnf_rup.specs.declared.clause.Entry.{Entry}
use Rattle.cnf_rup.specs.Books.{BookSeen, IsBook, first_clauses, holds_empty, log_of}
use Rattle.cnf_rup.specs.Literals.{IsUpTo}
use Rattle.cnf_rup.specs.Cnfs.{IsCnfOf, IsTrueWhereSatisfied}

-- the graph; how many clauses that count all decisions together may learn, and how many those that answered have learned; the
-- book of the last decision, until it is taken; whether that decision was given up
pub record SatSeen : Type 0 where
  pub graph : Graph
  pub clauses : ℕ
  pub learned : ℕ
  pub book : Option BookSeen
  pub spent : Bool

-- how many clauses were learned
abbrev pub learned_in : BookSeen → ℕ
learned_in b = length (log_of b)

-- a clause of one literal, or one that two others give, as they give their resolvent
abbrev pub is_slight : Entry → Bool
is_slight e = leb (length e.clause) 1 || leb (length e.hints) 2

-- how many of the learned clauses count: all but the slight ones, of which a million at most are free in a book
abbrev pub counted_in : BookSeen → ℕ
counted_in b = learned_in b - min 1000000 (count_by is_slight (log_of b))

-- a node gives at most three clauses, and its variable
pub record IsSmall (nodes : List AigNode) (b : BookSeen) : Type 0 where
  pub few : b.first ≤ 3 * length nodes + 2
  pub variables : All (IsUpTo (length nodes)) (first_clauses b)

-- the first clauses of the book are those of the edge's cone, and it has learned so many
pub record IsBookOf (nodes : List AigNode) (e : Edge) (b : BookSeen) (learned : ℕ) : Type 0 where
  pub book : IsBook b
  pub cnf : IsCnfOf nodes e (first_clauses b)
  pub extends : IsTrueWhereSatisfied nodes e (first_clauses b)
  pub count : length b.entries ≡ b.first + learned
  pub few : b.first ≤ 3000000002
  pub small : IsSmall nodes b

-- one clause more was learned
abbrev pub LearnsOne : BookSeen → BookSeen → Type 0
LearnsOne old new = (e : Entry) × (new ≡ record old { entries = old.entries ++ e ∷ [] })

-- the answer of a decision that may learn so many clauses that count, by its book: that no assignment makes the edge true
-- exactly where the empty clause is in the book; an assignment before all clauses are learned, or where none was; given up
-- exactly where all were learned without an answer
pub record IsDecidedBy (nodes : List AigNode) (e : Edge) (clauses : ℕ) (b : BookSeen) (d : Decision) : Type 0 where
  pub book : IsBook b
  pub cnf : IsCnfOf nodes e (first_clauses b)
  pub extends : IsTrueWhereSatisfied nodes e (first_clauses b)
  pub small : IsSmall nodes b
  pub within : counted_in b ≤ clauses
  pub never : (d ≡ Never) ↔ (holds_empty b.entries ≡ true)
  pub sometimes : d ≡ Sometimes → (counted_in b < clauses) ⊎ (learned_in b ≡ 0)
  pub spent : (d ≡ Spent) ↔ ((counted_in b ≡ clauses) × (d ≢ Never) × (d ≢ Sometimes))

-- the book of the last decision is there, it is that of this edge, and the decision is by it, with the clauses that the ones
-- before it have left; what it learned that counts is added to what they learned
abbrev pub IsDecided : ℕ → SatSeen → Edge → Decision → Type 0
IsDecided before s e d = (b : BookSeen) × (s.book ≡ Some b) × (s.learned ≡ before + counted_in b) × IsDecidedBy s.graph.nodes e (s.clauses - before) b d

-- where the last decision was given up, the decisions have learned all clauses that may count, and the empty one is not in the
-- last book
abbrev pub IsSpentWell : Bool → ℕ → ℕ → Option BookSeen → Type 0
IsSpentWell spent clauses learned book = spent ≡ true → (b : BookSeen) × (book ≡ Some b) × (learned ≡ clauses) × (holds_empty b.entries ≡ false)
