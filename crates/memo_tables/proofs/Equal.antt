-- The test of equality of calls decides it.
use Rattle.std.proofs.Common.{◌≡◌, Bool, true, false, true≢false, ◌&&◌, nat_eq, refl, sym, subst}
use Rattle.std.specs.Bool.{Decides}
use Rattle.std.specs.Cmp.{unsigned_Decides}
use Rattle.std.specs.Cmp.Lexicographic.{pointwise, pointwise_decides}
use Rattle.hons_arena.specs.HashedIds.{id_eq}
use Rattle.hons_arena.proofs.HashedIds.{both, id_eq_decides}
use Rattle.memo_tables.specs.Calls.{Call}
use Rattle.memo_tables.specs.Keys.{call_eq, call_equiv}

pub call_eq_decides : (a b : Call) → Decides (call_eq a b) (a ≡ b)
call_eq_decides a b = (
  λ h. let p = both (nat_eq a.function b.function) (pointwise id_eq a.arguments b.arguments) h in
      let f : a.function ≡ b.function = (unsigned_Decides a.function b.function).0 p.0 in
      let g : a.arguments ≡ b.arguments = (pointwise_decides id_eq_decides a.arguments b.arguments).0 p.1 in λ i. record { function = f i; arguments = g i },
  λ e. subst (λ (x : Call). call_eq a x ≡ true) e (call_equiv.refl a),
)
