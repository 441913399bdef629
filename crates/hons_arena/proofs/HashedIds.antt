-- The test of equality of ids decides it.
use Rattle.std.proofs.Common.{◌≡◌, Bool, true, false, true≢false, ◌&&◌, nat_eq, refl, sym, subst, ◌∙◌}
use Rattle.std.specs.Bool.{Decides}
use Rattle.std.specs.Cmp.{unsigned_Decides}
use Rattle.hons_arena.specs.declared.id.Id.{Id}
use Rattle.hons_arena.specs.Ids.{kind_in, number_in, id_numbered}
use Rattle.hons_arena.specs.HashedIds.{kind_number, kind_from, id_eq, id_equiv, id_back}

pub both : (a b : Bool) → a && b ≡ true → (a ≡ true) × (b ≡ true)
both true b h = (refl, h)
both false b h = absurd (true≢false (sym h))

pub id_same : (a b : Id) → id_eq a b ≡ true → a ≡ b
id_same a b h =
    let p = both (nat_eq (kind_number (kind_in a)) (kind_number (kind_in b))) (nat_eq (number_in a) (number_in b)) h in
    let k : kind_number (kind_in a) ≡ kind_number (kind_in b) = (unsigned_Decides (kind_number (kind_in a)) (kind_number (kind_in b))).0 p.0 in
    let n : number_in a ≡ number_in b = (unsigned_Decides (number_in a) (number_in b)).0 p.1 in sym (id_back a) ∙ ((λ i. id_numbered (kind_from (k i)) (n i)) ∙ id_back b)

pub id_itself : (a : Id) → id_eq a a ≡ true
id_itself a = id_equiv.refl a

pub id_eq_decides : (a b : Id) → Decides (id_eq a b) (a ≡ b)
id_eq_decides a b = (id_same a b, λ e. subst (λ (x : Id). id_eq a x ≡ true) e (id_itself a))
