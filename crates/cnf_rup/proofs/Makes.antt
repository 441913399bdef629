-- The entries of a cone, and the unit clause of its edge.
use Rattle.std.proofs.Common.{◌≡◌, ◌↔◌, ℕ, ℤ, ◌+◌, ◌-◌, ◌*◌, ◌<◌, ◌≤◌, max, Bool, true, List, [], ◌∷◌, ◌++◌, map, length, get_or, refl, ap, ◌∙◌, sym, subst, arith}
use Rattle.std.specs.List.{All, Contains}
use Rattle.std.proofs.lemmas.List.{map-append, length_push}
use Rattle.std.proofs.lemmas.List.Elements.{All-push, All-weaker, All-map, Contains-get_or}
use Rattle.bfr_store.specs.declared.edge.Edge.{Edge}
use Rattle.bfr_store.specs.Edges.{node_of}
use Rattle.aig_store.specs.declared.node.AigNode.{AigNode}
use Rattle.aig_store.specs.Nodes.{truth_of}
use Rattle.aig_store.specs.Inside.{IsOrdered}
use Rattle.cnf_rup.specs.declared.clause.Entry.{Entry}
use Rattle.cnf_rup.specs.Literals.{IsLiteral, IsClause, IsUpTo}
use Rattle.cnf_rup.specs.Books.{clauses_of}
use Rattle.cnf_rup.specs.Cones.{IsCone}
use Rattle.cnf_rup.specs.Cnfs.{literal_of, entries_of_cone, IsCnfOf, Extends}
use Rattle.cnf_rup.proofs.Counts.{IsInside, inside, IsSized, IsFrom, entries-from, edge-sized, one, few, three-each, clauses-of-cone}
use Rattle.cnf_rup.proofs.Gates.{extends-clauses}

-- in the words of the code
pub made-by : (nodes : List AigNode) (e : Edge) (e0 e1 e2 : List Entry) (cone now : List ℕ) (l : ℤ) → e0 ≡ [] → e1 ≡ e0 ++ entries_of_cone nodes now → now ≡ cone → l ≡ literal_of e → e2 ≡ e1 ++ record { clause = l ∷ []; hints = [] } ∷ [] → e2 ≡ entries_of_cone nodes cone ++ record { clause = literal_of e ∷ []; hints = [] } ∷ []
made-by nodes e e0 e1 e2 cone now l e0_is e1_is now_is l_is e2_is = rw (e2_is, e1_is, e0_is, now_is, l_is) refl

-- the same, for a slice of the cone
pub all-inside-at : (nodes : List AigNode) (width : ℕ) (o : IsOrdered nodes width) (root : ℕ) (live : root < length nodes) (cone : List ℕ) → IsCone nodes root cone → (now : List ℕ) → now ≡ cone → (k d : ℕ) → k < length now → IsInside nodes width o root live (get_or now k d)
all-inside-at nodes width o root live cone is now now_is k d h =
    inside nodes width o root live (get_or now k d) (is.sound (get_or now k d) (subst (λ (xs : List ℕ). Contains xs (get_or now k d)) now_is (Contains-get_or now k d h)))

module _ (nodes : List AigNode) (width : ℕ) (o : IsOrdered nodes width) (root : ℕ) (live : root < length nodes) (small : root ≤ 1000000000) (cone : List ℕ) (is : IsCone nodes root cone) (e : Edge) (at : root ≡ node_of e) (entries : List Entry) (made : entries ≡ entries_of_cone nodes cone ++ record { clause = literal_of e ∷ []; hints = [] } ∷ []) where
  pub all-inside : All (IsInside nodes width o root live) cone
  all-inside k d h = inside nodes width o root live (get_or cone k d) (is.sound (get_or cone k d) (Contains-get_or cone k d h))

  all-from : All (IsFrom nodes width o root live small) entries
  all-from = subst (All (IsFrom nodes width o root live small)) (sym made)
      (All-push (IsFrom nodes width o root live small) (entries_of_cone nodes cone) (record { clause = literal_of e ∷ []; hints = [] }) (entries-from nodes width o root live small cone all-inside)
      (record { sized = one nodes width o root live small (literal_of e) (edge-sized nodes width o root live small e (omega (arith, at))); bare = refl }))

  pub are-clauses : All (λ x. IsClause x.clause) entries
  are-clauses = All-weaker (IsFrom nodes width o root live small) (λ x. IsClause x.clause) (λ x f. All-weaker (IsSized nodes width o root live) IsLiteral (λ l s. s.literal) x.clause f.sized) entries all-from

  pub are-within : All (λ x. IsUpTo (root + 1) x.clause) entries
  are-within = All-weaker (IsFrom nodes width o root live small) (λ x. IsUpTo (root + 1) x.clause) (λ x f. All-weaker (IsSized nodes width o root live) (λ l. Rattle.std.proofs.Common.unsigned_abs l ≤ root + 1) (λ l s. s.within) x.clause f.sized) entries all-from

  pub are-bare : All (λ x. x.hints ≡ []) entries
  are-bare = All-weaker (IsFrom nodes width o root live small) (λ x. x.hints ≡ []) (λ x f. f.bare) entries all-from

  pub are-few : length cone ≤ max 1 root → length entries ≤ 3 * (length nodes - 1) + 2
  are-few count = omega (arith, ap length made, length_push (entries_of_cone nodes cone) (record { clause = literal_of e ∷ []; hints = [] }), few nodes width o root live cone all-inside count)

  pub are-small : length cone ≤ max 1 root → length entries ≤ 3 * root + 4
  are-small count = omega (arith, ap length made, length_push (entries_of_cone nodes cone) (record { clause = literal_of e ∷ []; hints = [] }), three-each nodes width o root live cone, count)

  pub are-up-to : (most : ℕ) → root + 1 ≤ most → All (IsUpTo most) (clauses_of entries)
  are-up-to most h = All-map (IsUpTo most) (λ (x : Entry). x.clause) entries (λ k d under j l within. omega (arith, are-within k d under j l within, h))

  pub made-cnf : IsCnfOf nodes e (clauses_of entries)
  made-cnf = record {
    cone = cone;
    is_cone = subst (λ r. IsCone nodes r cone) at is;
    exact = ap clauses_of made ∙ map-append (λ (x : Entry). x.clause) (entries_of_cone nodes cone) (record { clause = literal_of e ∷ []; hints = [] } ∷ []) ∙ ap (λ (cs : List (List ℤ)). cs ++ (literal_of e ∷ []) ∷ []) (clauses-of-cone nodes cone);
  }

  pub made-extends : (a : ℕ → Bool) → (truth_of nodes e a ≡ true) ↔ Extends nodes (clauses_of entries) a
  unfolding made-cnf
  made-extends a = extends-clauses nodes width o e (omega (arith, at, live)) (clauses_of entries) made-cnf (λ k d h. (all-inside k d h).live) a
