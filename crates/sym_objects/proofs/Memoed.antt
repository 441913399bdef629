-- Values that are kept by their keys.
use Rattle.std.proofs.Common.{◌≡◌, ◌∙◌, refl, sym, ap, subst, zero, suc, Bool, true, false, true≢false, ◌&&◌, nat_eq, if◌then◌else◌, ◌⊎◌, inl, inr, List, [], ◌∷◌, Option, None, Some, IfSome, arith}
use Rattle.std.specs.Bool.{Decides}
use Rattle.std.specs.Cmp.{unsigned_Decides}
use Rattle.std.specs.List.{Contains}
use Rattle.std.specs.Map.{lookup}
use Rattle.std.proofs.lemmas.Map.Views.{Contains-from_lookup}
use Rattle.indexmap.specs.IndexMap.{insert_entry}
use Rattle.sym_objects.specs.declared.memo.Key.{Key}
use Rattle.sym_objects.specs.Keys.{key_eq, key_equiv}
use Rattle.sym_objects.specs.Memos.{IsPut, AreRight}

both : (a b : Bool) → a && b ≡ true → (a ≡ true) × (b ≡ true)
both true b h = (refl, h)
both false b h = absurd (true≢false (sym h))

pub key_eq_decides : (a b : Key) → Decides (key_eq a b) (a ≡ b)
key_eq_decides a b = (
  λ h. let p = both (nat_eq a.first b.first) (nat_eq a.second b.second) h in
      let f : a.first ≡ b.first = (unsigned_Decides a.first b.first).0 p.0 in
      let s : a.second ≡ b.second = (unsigned_Decides a.second b.second).0 p.1 in λ i. record { first = f i; second = s i },
  λ e. subst (λ (x : Key). key_eq a x ≡ true) e (key_equiv.refl a),
)

module _ {V : Type 0} where
  found_by : (kept : List (Key × V)) (key : Key) (r q : Option V) → r ≡ lookup (key_eq key) kept → r ≡ q → IfSome r (λ v. Contains kept (key, v))
  found_by kept key r None e n = subst (λ (s : Option V). IfSome s (λ v. Contains kept (key, v))) (sym n) tt
  found_by kept key r (Some v) e n = subst (λ (s : Option V). IfSome s (λ v. Contains kept (key, v))) (sym n) (Contains-from_lookup (λ x y h. (key_eq_decides x y).0 h) key v kept (sym e ∙ n))

  pub found : (kept : List (Key × V)) (key : Key) (r : Option V) → r ≡ lookup (key_eq key) kept → IfSome r (λ v. Contains kept (key, v))
  found kept key r e = found_by kept key r r e refl

  put_at : (key k : Key) (v w : V) (e : Key × V) (es more : List (Key × V)) (t : Bool) → key_eq key e.0 ≡ t → (Contains more (k, w) → Contains es (k, w) ⊎ ((k ≡ key) × (w ≡ v)))
      → Contains (if t then (e.0, v) ∷ es else (e ∷ more)) (k, w) → Contains (e ∷ es) (k, w) ⊎ ((k ≡ key) × (w ≡ v))
  put_at key k v w e es more true h ih (zero, l, p) =
      let same : key ≡ e.0 = (key_eq_decides key e.0).0 h in
      inr (sym (ap (λ (q : Key × V). q.0) p) ∙ sym same, sym (ap (λ (q : Key × V). q.1) p))
  put_at key k v w e es more true h ih (suc i, l, p) = inl (suc i, omega (arith, l), p)
  put_at key k v w e es more false h ih (zero, l, p) = inl (zero, omega arith, p)
  put_at key k v w e es more false h ih (suc i, l, p) = elim (ih (i, omega (arith, l), p)) [ inl c ↦ inl (suc c.0, omega (arith, c.1), c.2) | inr c ↦ inr c ]

  pub put : (old : List (Key × V)) (key : Key) (v : V) → IsPut old (insert_entry key_eq old key v) key v
  put [] key v k w (zero, l, p) = inr (sym (ap (λ (q : Key × V). q.0) p), sym (ap (λ (q : Key × V). q.1) p))
  put [] key v k w (suc i, l, p) = absurd (omega (arith, l))
  put (e ∷ es) key v k w c = put_at key k v w e es (insert_entry key_eq es key v) (key_eq key e.0) refl (put es key v k w) c

module _ {K V : Type 0} (of : Key → K) where
  pub none_right : (right : K → V → Type 0) → AreRight of right []
  none_right right k v (i, l, p) = absurd (omega (arith, l))

  pub right_kept : (right right' : K → V → Type 0) → ((k : K) (v : V) → right k v → right' k v) → (kept : List (Key × V)) → AreRight of right kept → AreRight of right' kept
  right_kept right right' s kept r k v c = s (of k) v (r k v c)

  pub right_put : (right : K → V → Type 0) (old new : List (Key × V)) (key : Key) (v : V) → IsPut old new key v → AreRight of right old → right (of key) v → AreRight of right new
  right_put right old new key v p r x k w c = elim (p k w c) [ inl before ↦ r k w before | inr now ↦ subst (λ (y : V). right (of k) y) (sym now.1) (subst (λ (q : Key). right (of q) v) (sym now.0) x) ]
