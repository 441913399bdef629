-- Values that are kept by their keys.
use Rattle.std.proofs.Common.{◌≡◌, ◌∙◌, refl, sym, ap, subst, ℕ, zero, suc, ◌<◌, Bool, true, false, true≢false, ◌&&◌, nat_eq, if◌then◌else◌, ◌⊎◌, inl, inr, List, [], ◌∷◌, length, get_or, Option, None, Some, IfSome, arith}
use Rattle.std.specs.Bool.{Decides}
use Rattle.std.specs.Cmp.{unsigned_Decides}
use Rattle.std.specs.List.{Contains}
use Rattle.std.specs.Map.{lookup}
use Rattle.std.proofs.lemmas.Map.Views.{Contains-from_lookup}
use Rattle.indexmap.specs.IndexMap.{insert_entry}
use Rattle.sym_objects.specs.declared.sob.Sob.{Sob}
use Rattle.sym_prims.specs.declared.memo.Key.{Key}
use Rattle.sym_prims.specs.Keys.{key_eq, key_equiv}
use Rattle.sym_prims.specs.Puts.{IsPut}

both : (a b : Bool) → a && b ≡ true → (a ≡ true) × (b ≡ true)
both true b h = (refl, h)
both false b h = absurd (true≢false (sym h))

pub key_eq_decides : (a b : Key) → Decides (key_eq a b) (a ≡ b)
key_eq_decides a b = (
  λ h. let q = both (nat_eq a.first b.first && nat_eq a.second b.second) (nat_eq a.path b.path) h in
      let p = both (nat_eq a.first b.first) (nat_eq a.second b.second) q.0 in
      let f : a.first ≡ b.first = (unsigned_Decides a.first b.first).0 p.0 in
      let s : a.second ≡ b.second = (unsigned_Decides a.second b.second).0 p.1 in
      let w : a.path ≡ b.path = (unsigned_Decides a.path b.path).0 q.1 in λ i. record { first = f i; second = s i; path = w i },
  λ e. subst (λ (x : Key). key_eq a x ≡ true) e (key_equiv.refl a),
)

found_by : (kept : List (Key × Sob)) (key : Key) (r q : Option Sob) → r ≡ lookup (key_eq key) kept → r ≡ q → IfSome r (λ v. Contains kept (key, v))
found_by kept key r None e n = subst (λ (s : Option Sob). IfSome s (λ v. Contains kept (key, v))) (sym n) tt
found_by kept key r (Some v) e n = subst (λ (s : Option Sob). IfSome s (λ v. Contains kept (key, v))) (sym n) (Contains-from_lookup (λ x y h. (key_eq_decides x y).0 h) key v kept (sym e ∙ n))

pub found : (kept : List (Key × Sob)) (key : Key) (r : Option Sob) → r ≡ lookup (key_eq key) kept → IfSome r (λ v. Contains kept (key, v))
found kept key r e = found_by kept key r r e refl

put_at : (key k : Key) (v w : Sob) (e : Key × Sob) (es more : List (Key × Sob)) (t : Bool) → key_eq key e.0 ≡ t → (Contains more (k, w) → Contains es (k, w) ⊎ ((k ≡ key) × (w ≡ v)))
    → Contains (if t then (e.0, v) ∷ es else (e ∷ more)) (k, w) → Contains (e ∷ es) (k, w) ⊎ ((k ≡ key) × (w ≡ v))
put_at key k v w e es more true h ih (zero, l, p) =
    let same : key ≡ e.0 = (key_eq_decides key e.0).0 h in
    inr (sym (ap (λ (q : Key × Sob). q.0) p) ∙ sym same, sym (ap (λ (q : Key × Sob). q.1) p))
put_at key k v w e es more true h ih (suc i, l, p) = inl (suc i, omega (arith, l), p)
put_at key k v w e es more false h ih (zero, l, p) = inl (zero, omega arith, p)
put_at key k v w e es more false h ih (suc i, l, p) = elim (ih (i, omega (arith, l), p)) [ inl c ↦ inl (suc c.0, omega (arith, c.1), c.2) | inr c ↦ inr c ]

pub put : (old : List (Key × Sob)) (key : Key) (v : Sob) → IsPut old (insert_entry key_eq old key v) key v
put [] key v k w (zero, l, p) = inr (sym (ap (λ (q : Key × Sob). q.0) p), sym (ap (λ (q : Key × Sob). q.1) p))
put [] key v k w (suc i, l, p) = absurd (omega (arith, l))
put (e ∷ es) key v k w c = put_at key k v w e es (insert_entry key_eq es key v) (key_eq key e.0) refl (put es key v k w) c
