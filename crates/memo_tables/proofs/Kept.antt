-- What a look-up says of the kept calls.
use Rattle.std.proofs.Common.{◌≡◌, ◌≢◌, ◌∙◌, refl, sym, ap, subst, zero, suc, Bool, true, false, true≢false, cond, List, [], ◌∷◌, ◌++◌, Option, None, Some, is_some, arith, get_or, IsNone, IfSome}
use Rattle.std.proofs.lemmas.List.{get_or_default}
use Rattle.std.proofs.lemmas.List.Quantifiers.{all_pairs_push}
use Rattle.indexmap.specs.IndexMap.{insert_entry}
use Rattle.indexmap.proofs.MapLemmas.{absent_from_lookup, insert_entry-absent}
use Rattle.std.specs.Map.{lookup}
use Rattle.std.proofs.lemmas.Map.Views.{Contains-from_lookup}
use Rattle.hons_arena.specs.declared.id.Id.{Id}
use Rattle.memo_tables.specs.Calls.{Call, IsKept, IsKeptAs, IsEachOnce}
use Rattle.memo_tables.specs.Keys.{call_eq}
use Rattle.memo_tables.proofs.Equal.{call_eq_decides}

pub found : (kept : List (Call × Id)) (call : Call) (v : Id) → lookup (call_eq call) kept ≡ Some v → IsKeptAs kept call v
found kept call v h = Contains-from_lookup (λ x y e. (call_eq_decides x y).0 e) call v kept h

-- what a look-up answers where the first key is the call, and where it is not
first_found : (x : Call × Id) (xs : List (Call × Id)) (call : Call) → call_eq call x.0 ≡ true → lookup (call_eq call) (x ∷ xs) ≡ None → ⊥
first_found x xs call t h = true≢false (ap is_some (sym (ap (λ b. cond b (Some x.1) (lookup (call_eq call) xs)) t) ∙ h))

later : (x : Call × Id) (xs : List (Call × Id)) (call : Call) (b : Bool) → call_eq call x.0 ≡ b → lookup (call_eq call) (x ∷ xs) ≡ None → lookup (call_eq call) xs ≡ None
later x xs call true t h = absurd (first_found x xs call t h)
later x xs call false t h = sym (ap (λ b. cond b (Some x.1) (lookup (call_eq call) xs)) t) ∙ h

-- what is kept is found
pub kept_found : (kept : List (Call × Id)) (call : Call) → IsKept kept call → lookup (call_eq call) kept ≡ None → ⊥
kept_found [] call (v, (k, l, e)) h = omega (arith, l)
kept_found (x ∷ xs) call (v, (zero, l, e)) h = first_found x xs call ((call_eq_decides call x.0).1 (ap (λ (p : Call × Id). p.0) (sym e))) h
kept_found (x ∷ xs) call (v, (suc k, l, e)) h = kept_found xs call (v, (k, omega (arith, l), e)) (later x xs call (call_eq call x.0) refl h)

none_of : (kept : List (Call × Id)) (call : Call) (r q : Option Id) → r ≡ lookup (call_eq call) kept → r ≡ q → (IsNone r → IsKept kept call → ⊥) × ((IsKept kept call → ⊥) → IsNone r)
none_of kept call r None e n = (λ _ k. kept_found kept call k (sym e ∙ n), λ _. ap is_some n)
none_of kept call r (Some v) e n = (λ i _. true≢false (sym (ap is_some n) ∙ i), λ f. absurd (f (v, found kept call v (sym e ∙ n))))

pub none_exactly : (kept : List (Call × Id)) (call : Call) (r : Option Id) → r ≡ lookup (call_eq call) kept → (IsNone r → IsKept kept call → ⊥) × ((IsKept kept call → ⊥) → IsNone r)
none_exactly kept call r e = none_of kept call r r e refl

kept_of : (kept : List (Call × Id)) (call : Call) (r q : Option Id) → r ≡ lookup (call_eq call) kept → r ≡ q → IfSome r (λ v. IsKeptAs kept call v)
kept_of kept call r None e n = subst (λ (s : Option Id). IfSome s (λ v. IsKeptAs kept call v)) (sym n) tt
kept_of kept call r (Some v) e n = subst (λ (s : Option Id). IfSome s (λ v. IsKeptAs kept call v)) (sym n) (found kept call v (sym e ∙ n))

pub kept_exactly : (kept : List (Call × Id)) (call : Call) (r : Option Id) → r ≡ lookup (call_eq call) kept → IfSome r (λ v. IsKeptAs kept call v)
kept_exactly kept call r e = kept_of kept call r r e refl

-- a call that was not kept stands once when it is put last
pub once_more : (kept : List (Call × Id)) (call : Call) (v : Id) → IsEachOnce kept → (IsKept kept call → ⊥) → IsEachOnce (kept ++ (call, v) ∷ [])
once_more kept call v h f =
    all_pairs_push (λ x y. x.0 ≢ y.0) kept (call, v) h (λ k d l e.
    let w : Id = (get_or kept k d).1 in
    f (w, (k, l, get_or_default kept k (call, w) d l ∙ (λ i. (e i, w)))))

-- a call that was not kept goes last
pub put_last : (kept : List (Call × Id)) (call : Call) (v : Id) → (IsKept kept call → ⊥) → insert_entry call_eq kept call v ≡ kept ++ (call, v) ∷ []
put_last kept call v f = by (lookup (call_eq call) kept) refl where
  by : (r : Option Id) → lookup (call_eq call) kept ≡ r → insert_entry call_eq kept call v ≡ kept ++ (call, v) ∷ []
  by None e = insert_entry-absent call_eq call v kept (absent_from_lookup (call_eq call) kept e)
  by (Some w) e = absurd (f (w, found kept call w e))
