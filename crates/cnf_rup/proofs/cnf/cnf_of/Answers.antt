use Rattle.std.proofs.Common.{◌≡◌, ℕ, Bool, ◌<◌, ◌≤◌, ◌+◌, ◌*◌, ◌++◌, ◌∷◌, [], ◌↔◌, true, All, sym, subst, length, arith, rules, FitsSigned, w32, to_z-of_z}
use Rattle.std.proofs.lemmas.Result.{IfOk-weaker}
use Rattle.bfr_store.specs.Edges.{node_of}
use Rattle.aig_store.specs.Nodes.{count_of, truth_of}
use Rattle.cnf_rup.specs.Literals.{IsUpTo}
use Rattle.cnf_rup.specs.Books.{BookSeen, clauses_of}
use Rattle.cnf_rup.specs.Cnfs.{IsCnfOf, Extends}
use Rattle.cnf_rup.proofs.Makes.{made-by, all-inside-at, are-clauses, are-within, are-bare, are-few, are-small, are-up-to, made-cnf, made-extends}
use Rattle.cnf_rup.proofs.cnf.cnf_of.Goals as goal

pub push_cone-requires-clause-live : goal.push_cone-requires-clause-live
push_cone-requires-clause-live c k d h =
    let order = c.width-width.ensures.ordered in
    let at : c.number_of-root.result ≡ node_of c.args.e = c.number_of-root.ensures.number in
    let live : c.number_of-root.result < length c.args.aig.now.nodes = omega (arith, at, c.requires) in
    let small : c.number_of-root.result ≤ 1000000000 = omega (arith, c.number_of-root.ensures.within, c.limit-limit.ensures.limit, c.limit-limit.ensures.small) in
    let cone : c.deref.result.now ≡ c.in_ok-cone.cone.items = c.deref.ensures.value in
    let inside = all-inside-at c.args.aig.now.nodes c.args.aig.now.width order c.number_of-root.result live c.in_ok-cone.cone.items c.in_ok-cone.ensures.cone c.deref.result.now cone k d h in
    inside.live

pub push_cone-requires-clause-small : goal.push_cone-requires-clause-small
push_cone-requires-clause-small c k d h =
    let order = c.width-width.ensures.ordered in
    let at : c.number_of-root.result ≡ node_of c.args.e = c.number_of-root.ensures.number in
    let live : c.number_of-root.result < length c.args.aig.now.nodes = omega (arith, at, c.requires) in
    let small : c.number_of-root.result ≤ 1000000000 = omega (arith, c.number_of-root.ensures.within, c.limit-limit.ensures.limit, c.limit-limit.ensures.small) in
    let cone : c.deref.result.now ≡ c.in_ok-cone.cone.items = c.deref.ensures.value in
    let inside = all-inside-at c.args.aig.now.nodes c.args.aig.now.width order c.number_of-root.result live c.in_ok-cone.cone.items c.in_ok-cone.ensures.cone c.deref.result.now cone k d h in
    omega (arith, inside.small, small)

pub of-requires-clause-small : goal.of-requires-clause-small
of-requires-clause-small c =
    let order = c.width-width.ensures.ordered in
    let at : c.number_of-root.result ≡ node_of c.args.e = c.number_of-root.ensures.number in
    let live : c.number_of-root.result < length c.args.aig.now.nodes = omega (arith, at, c.requires) in
    let small : c.number_of-root.result ≤ 1000000000 = omega (arith, c.number_of-root.ensures.within, c.limit-limit.ensures.limit, c.limit-limit.ensures.small) in
    let fits : FitsSigned w32 c.literal_of.result = search rules in
    let pushed : c.push_clause.new.entries.items ≡ c.push_cone.new.entries.items ++ record { clause = c.literal_of.result ∷ []; hints = [] } ∷ [] = simp to_z-of_z at c.in_ok-push_clause.ensures in
    let made = made-by c.args.aig.now.nodes c.args.e c.new-entries.result.items c.push_cone.new.entries.items c.push_clause.new.entries.items c.in_ok-cone.cone.items c.deref.result.now c.literal_of.result c.new-entries.ensures.items c.in_ok-push_cone.ensures c.deref.ensures.value c.literal_of.ensures.literal pushed in
    omega (arith, are-small c.args.aig.now.nodes c.args.aig.now.width order c.number_of-root.result live small c.in_ok-cone.cone.items c.in_ok-cone.ensures.cone c.args.e at c.push_clause.new.entries.items made c.in_ok-cone.ensures.count, small)

pub of-requires-clause-clauses : goal.of-requires-clause-clauses
of-requires-clause-clauses c =
    let order = c.width-width.ensures.ordered in
    let at : c.number_of-root.result ≡ node_of c.args.e = c.number_of-root.ensures.number in
    let live : c.number_of-root.result < length c.args.aig.now.nodes = omega (arith, at, c.requires) in
    let small : c.number_of-root.result ≤ 1000000000 = omega (arith, c.number_of-root.ensures.within, c.limit-limit.ensures.limit, c.limit-limit.ensures.small) in
    let fits : FitsSigned w32 c.literal_of.result = search rules in
    let pushed : c.push_clause.new.entries.items ≡ c.push_cone.new.entries.items ++ record { clause = c.literal_of.result ∷ []; hints = [] } ∷ [] = simp to_z-of_z at c.in_ok-push_clause.ensures in
    let made = made-by c.args.aig.now.nodes c.args.e c.new-entries.result.items c.push_cone.new.entries.items c.push_clause.new.entries.items c.in_ok-cone.cone.items c.deref.result.now c.literal_of.result c.new-entries.ensures.items c.in_ok-push_cone.ensures c.deref.ensures.value c.literal_of.ensures.literal pushed in
    are-clauses c.args.aig.now.nodes c.args.aig.now.width order c.number_of-root.result live small c.in_ok-cone.cone.items c.in_ok-cone.ensures.cone c.args.e at c.push_clause.new.entries.items made

pub of-requires-clause-within : goal.of-requires-clause-within
of-requires-clause-within c =
    let order = c.width-width.ensures.ordered in
    let at : c.number_of-root.result ≡ node_of c.args.e = c.number_of-root.ensures.number in
    let live : c.number_of-root.result < length c.args.aig.now.nodes = omega (arith, at, c.requires) in
    let small : c.number_of-root.result ≤ 1000000000 = omega (arith, c.number_of-root.ensures.within, c.limit-limit.ensures.limit, c.limit-limit.ensures.small) in
    let fits : FitsSigned w32 c.literal_of.result = search rules in
    let pushed : c.push_clause.new.entries.items ≡ c.push_cone.new.entries.items ++ record { clause = c.literal_of.result ∷ []; hints = [] } ∷ [] = simp to_z-of_z at c.in_ok-push_clause.ensures in
    let made = made-by c.args.aig.now.nodes c.args.e c.new-entries.result.items c.push_cone.new.entries.items c.push_clause.new.entries.items c.in_ok-cone.cone.items c.deref.result.now c.literal_of.result c.new-entries.ensures.items c.in_ok-push_cone.ensures c.deref.ensures.value c.literal_of.ensures.literal pushed in
    are-within c.args.aig.now.nodes c.args.aig.now.width order c.number_of-root.result live small c.in_ok-cone.cone.items c.in_ok-cone.ensures.cone c.args.e at c.push_clause.new.entries.items made

pub of-requires-clause-bare : goal.of-requires-clause-bare
of-requires-clause-bare c =
    let order = c.width-width.ensures.ordered in
    let at : c.number_of-root.result ≡ node_of c.args.e = c.number_of-root.ensures.number in
    let live : c.number_of-root.result < length c.args.aig.now.nodes = omega (arith, at, c.requires) in
    let small : c.number_of-root.result ≤ 1000000000 = omega (arith, c.number_of-root.ensures.within, c.limit-limit.ensures.limit, c.limit-limit.ensures.small) in
    let fits : FitsSigned w32 c.literal_of.result = search rules in
    let pushed : c.push_clause.new.entries.items ≡ c.push_cone.new.entries.items ++ record { clause = c.literal_of.result ∷ []; hints = [] } ∷ [] = simp to_z-of_z at c.in_ok-push_clause.ensures in
    let made = made-by c.args.aig.now.nodes c.args.e c.new-entries.result.items c.push_cone.new.entries.items c.push_clause.new.entries.items c.in_ok-cone.cone.items c.deref.result.now c.literal_of.result c.new-entries.ensures.items c.in_ok-push_cone.ensures c.deref.ensures.value c.literal_of.ensures.literal pushed in
    are-bare c.args.aig.now.nodes c.args.aig.now.width order c.number_of-root.result live small c.in_ok-cone.cone.items c.in_ok-cone.ensures.cone c.args.e at c.push_clause.new.entries.items made

pub returns-clause-clauses : goal.returns-clause-clauses
returns-clause-clauses c =
    let order = c.width-width.ensures.ordered in
    let at : c.number_of-root.result ≡ node_of c.args.e = c.number_of-root.ensures.number in
    let live : c.number_of-root.result < length c.args.aig.now.nodes = omega (arith, at, c.requires) in
    let small : c.number_of-root.result ≤ 1000000000 = omega (arith, c.number_of-root.ensures.within, c.limit-limit.ensures.limit, c.limit-limit.ensures.small) in
    let fits : FitsSigned w32 c.literal_of.result = search rules in
    let pushed : c.push_clause.new.entries.items ≡ c.push_cone.new.entries.items ++ record { clause = c.literal_of.result ∷ []; hints = [] } ∷ [] = simp to_z-of_z at c.in_ok-push_clause.ensures in
    let made = made-by c.args.aig.now.nodes c.args.e c.new-entries.result.items c.push_cone.new.entries.items c.push_clause.new.entries.items c.in_ok-cone.cone.items c.deref.result.now c.literal_of.result c.new-entries.ensures.items c.in_ok-push_cone.ensures c.deref.ensures.value c.literal_of.ensures.literal pushed in
    IfOk-weaker c.of.result (λ (b : BookSeen). b ≡ record { entries = c.push_clause.new.entries.items; first = length c.push_clause.new.entries.items }) (λ (b : BookSeen). IsCnfOf c.args.aig.now.nodes c.args.e (clauses_of b.entries))
    (λ (b : BookSeen) is. subst (λ (x : BookSeen). IsCnfOf c.args.aig.now.nodes c.args.e (clauses_of x.entries)) (sym is) (made-cnf c.args.aig.now.nodes c.args.aig.now.width order c.number_of-root.result live small c.in_ok-cone.cone.items c.in_ok-cone.ensures.cone c.args.e at c.push_clause.new.entries.items made)) c.of.ensures

pub returns-clause-few : goal.returns-clause-few
returns-clause-few c =
    let order = c.width-width.ensures.ordered in
    let at : c.number_of-root.result ≡ node_of c.args.e = c.number_of-root.ensures.number in
    let live : c.number_of-root.result < length c.args.aig.now.nodes = omega (arith, at, c.requires) in
    let small : c.number_of-root.result ≤ 1000000000 = omega (arith, c.number_of-root.ensures.within, c.limit-limit.ensures.limit, c.limit-limit.ensures.small) in
    let fits : FitsSigned w32 c.literal_of.result = search rules in
    let pushed : c.push_clause.new.entries.items ≡ c.push_cone.new.entries.items ++ record { clause = c.literal_of.result ∷ []; hints = [] } ∷ [] = simp to_z-of_z at c.in_ok-push_clause.ensures in
    let made = made-by c.args.aig.now.nodes c.args.e c.new-entries.result.items c.push_cone.new.entries.items c.push_clause.new.entries.items c.in_ok-cone.cone.items c.deref.result.now c.literal_of.result c.new-entries.ensures.items c.in_ok-push_cone.ensures c.deref.ensures.value c.literal_of.ensures.literal pushed in
    IfOk-weaker c.of.result (λ (b : BookSeen). b ≡ record { entries = c.push_clause.new.entries.items; first = length c.push_clause.new.entries.items }) (λ (b : BookSeen). b.first ≤ 3 * count_of c.args.aig.now + 2)
    (λ (b : BookSeen) is. subst (λ (x : BookSeen). x.first ≤ 3 * count_of c.args.aig.now + 2) (sym is) (are-few c.args.aig.now.nodes c.args.aig.now.width order c.number_of-root.result live small c.in_ok-cone.cone.items c.in_ok-cone.ensures.cone c.args.e at c.push_clause.new.entries.items made c.in_ok-cone.ensures.count)) c.of.ensures

pub returns-clause-variables : goal.returns-clause-variables
returns-clause-variables c =
    let order = c.width-width.ensures.ordered in
    let at : c.number_of-root.result ≡ node_of c.args.e = c.number_of-root.ensures.number in
    let live : c.number_of-root.result < length c.args.aig.now.nodes = omega (arith, at, c.requires) in
    let small : c.number_of-root.result ≤ 1000000000 = omega (arith, c.number_of-root.ensures.within, c.limit-limit.ensures.limit, c.limit-limit.ensures.small) in
    let fits : FitsSigned w32 c.literal_of.result = search rules in
    let pushed : c.push_clause.new.entries.items ≡ c.push_cone.new.entries.items ++ record { clause = c.literal_of.result ∷ []; hints = [] } ∷ [] = simp to_z-of_z at c.in_ok-push_clause.ensures in
    let made = made-by c.args.aig.now.nodes c.args.e c.new-entries.result.items c.push_cone.new.entries.items c.push_clause.new.entries.items c.in_ok-cone.cone.items c.deref.result.now c.literal_of.result c.new-entries.ensures.items c.in_ok-push_cone.ensures c.deref.ensures.value c.literal_of.ensures.literal pushed in
    IfOk-weaker c.of.result (λ (b : BookSeen). b ≡ record { entries = c.push_clause.new.entries.items; first = length c.push_clause.new.entries.items }) (λ (b : BookSeen). All (IsUpTo (length c.args.aig.now.nodes)) (clauses_of b.entries))
    (λ (b : BookSeen) is. subst (λ (x : BookSeen). All (IsUpTo (length c.args.aig.now.nodes)) (clauses_of x.entries)) (sym is) (are-up-to c.args.aig.now.nodes c.args.aig.now.width order c.number_of-root.result live small c.in_ok-cone.cone.items c.in_ok-cone.ensures.cone c.args.e at c.push_clause.new.entries.items made (length c.args.aig.now.nodes) (omega (arith, live)))) c.of.ensures

pub returns-clause-extends : goal.returns-clause-extends
returns-clause-extends c =
    let order = c.width-width.ensures.ordered in
    let at : c.number_of-root.result ≡ node_of c.args.e = c.number_of-root.ensures.number in
    let live : c.number_of-root.result < length c.args.aig.now.nodes = omega (arith, at, c.requires) in
    let small : c.number_of-root.result ≤ 1000000000 = omega (arith, c.number_of-root.ensures.within, c.limit-limit.ensures.limit, c.limit-limit.ensures.small) in
    let fits : FitsSigned w32 c.literal_of.result = search rules in
    let pushed : c.push_clause.new.entries.items ≡ c.push_cone.new.entries.items ++ record { clause = c.literal_of.result ∷ []; hints = [] } ∷ [] = simp to_z-of_z at c.in_ok-push_clause.ensures in
    let made = made-by c.args.aig.now.nodes c.args.e c.new-entries.result.items c.push_cone.new.entries.items c.push_clause.new.entries.items c.in_ok-cone.cone.items c.deref.result.now c.literal_of.result c.new-entries.ensures.items c.in_ok-push_cone.ensures c.deref.ensures.value c.literal_of.ensures.literal pushed in
    IfOk-weaker c.of.result (λ (b : BookSeen). b ≡ record { entries = c.push_clause.new.entries.items; first = length c.push_clause.new.entries.items }) (λ (b : BookSeen). (a : ℕ → Bool) → (truth_of c.args.aig.now.nodes c.args.e a ≡ true) ↔ Extends c.args.aig.now.nodes (clauses_of b.entries) a)
    (λ (b : BookSeen) is. subst (λ (x : BookSeen). (a : ℕ → Bool) → (truth_of c.args.aig.now.nodes c.args.e a ≡ true) ↔ Extends c.args.aig.now.nodes (clauses_of x.entries) a) (sym is) (made-extends c.args.aig.now.nodes c.args.aig.now.width order c.number_of-root.result live small c.in_ok-cone.cone.items c.in_ok-cone.ensures.cone c.args.e at c.push_clause.new.entries.items made)) c.of.ensures
