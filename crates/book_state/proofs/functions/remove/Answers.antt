use Rattle.std.proofs.Common.{◌<◌, ℕ, List, All, not, eqb, sym, subst}
use Rattle.std.proofs.lemmas.List.Elements.{All-filter}
use Rattle.book_state.proofs.functions.remove.Goals as goal

pub returns-clause-among : goal.returns-clause-among
returns-clause-among c n h =
    subst (λ (fs : List ℕ). All (λ (g : ℕ). g < n) fs) (sym c.in_ok-functions.ensures) (All-filter (λ (g : ℕ). not (eqb c.args.f.number g)) (λ (g : ℕ). g < n) c.args.functions.now h)
