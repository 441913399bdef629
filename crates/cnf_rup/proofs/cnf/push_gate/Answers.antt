use Rattle.std.proofs.Common.{◌≡◌, ◌++◌, ◌∷◌, [], ◌∙◌, rules, FitsSigned, w32, to_z-of_z, neg_ℤ}
use Rattle.cnf_rup.proofs.Parts.{three_pushed}
use Rattle.cnf_rup.proofs.cnf.push_gate.Goals as goal

pub returns : goal.returns
returns c =
    let fits_g : FitsSigned w32 c.args.g = c.ranges.g in
    let fits_x : FitsSigned w32 c.args.x = c.ranges.x in
    let fits_y : FitsSigned w32 c.args.y = c.ranges.y in
    let fits_not_g : FitsSigned w32 c.complement-not_g.result = search rules in
    let fits_not_x : FitsSigned w32 c.complement-not_x.result = search rules in
    let fits_not_y : FitsSigned w32 c.complement-not_y.result = search rules in
    let not_g : c.complement-not_g.result ≡ neg_ℤ c.args.g = simp to_z-of_z at c.complement-not_g.ensures in
    let not_x : c.complement-not_x.result ≡ neg_ℤ c.args.x = simp to_z-of_z at c.complement-not_x.ensures in
    let not_y : c.complement-not_y.result ≡ neg_ℤ c.args.y = simp to_z-of_z at c.complement-not_y.ensures in
    let one : c.push_clause.new.entries.items ≡ c.args.entries.now.items ++ record { clause = c.complement-not_g.result ∷ c.args.x ∷ []; hints = [] } ∷ [] = simp to_z-of_z at c.in_ok-push_clause.ensures in
    let two : c.push_clause-2.new.entries.items ≡ c.push_clause.new.entries.items ++ record { clause = c.complement-not_g.result ∷ c.args.y ∷ []; hints = [] } ∷ [] = simp to_z-of_z at c.in_ok-push_clause-2.ensures in
    let three : c.push_clause-3.new.entries.items ≡ c.push_clause-2.new.entries.items ++ record { clause = c.args.g ∷ c.complement-not_x.result ∷ c.complement-not_y.result ∷ []; hints = [] } ∷ [] = simp to_z-of_z at c.in_ok-push_clause-3.ensures in
    three_pushed c.args.entries.now.items c.push_clause.new.entries.items c.push_clause-2.new.entries.items c.push_clause-3.new.entries.items
    (record { clause = neg_ℤ c.args.g ∷ c.args.x ∷ []; hints = [] }) (record { clause = neg_ℤ c.args.g ∷ c.args.y ∷ []; hints = [] }) (record { clause = c.args.g ∷ neg_ℤ c.args.x ∷ neg_ℤ c.args.y ∷ []; hints = [] })
    (one ∙ (λ j. c.args.entries.now.items ++ record { clause = not_g j ∷ c.args.x ∷ []; hints = [] } ∷ []))
    (two ∙ (λ j. c.push_clause.new.entries.items ++ record { clause = not_g j ∷ c.args.y ∷ []; hints = [] } ∷ []))
    (three ∙ (λ j. c.push_clause-2.new.entries.items ++ record { clause = c.args.g ∷ not_x j ∷ not_y j ∷ []; hints = [] } ∷ []))
