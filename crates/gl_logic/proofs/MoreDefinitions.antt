-- More definitions change no walk of a term that calls none of them.
use Rattle.std.proofs.Common.{◌≡◌, ◌∙◌, ap, sym, refl, ℕ, zero, suc, ◌+◌, ◌<◌, List, [], ◌∷◌, ◌++◌, true, false, Option, Some, None, length, arith, slice_get}
use Rattle.std.specs.Prelude.{sum_by}
use Rattle.std.specs.List.{filter}
use Rattle.std.specs.Option.{option_map}
use Rattle.std.proofs.lemmas.Option.{slice_get_within}
use Rattle.gl_logic.specs.Object.{Object}
use Rattle.gl_logic.specs.ObjectEq.{is_nil}
use Rattle.gl_logic.specs.PrimValue.{prim_value}
use Rattle.gl_logic.specs.Environment.{extended}
use Rattle.gl_logic.specs.Definition.{Definition}
use Rattle.gl_logic.specs.Different.{different}
use Rattle.gl_logic.specs.Exp.{Exp, Exps, Var, Const, If, Prim, Call, Let, Last, More}
use Rattle.gl_logic.specs.IsTermOf.{IsTermOf, AreTermsOf, arity_in}
use Rattle.gl_logic.specs.IsClosed.{IsClosed}
use Rattle.gl_logic.specs.Walk.{Walk, Walks, CallMade, then, ended, gathered, joined, walk_by, walks_by, body_by, opened, body_walk, walk}
use Rattle.gl_logic.specs.Counts.{seen_in, made_in, calls, is_among, own_opened, own_cost, own_cost_of_call, call_eq, memoized_cost}
use Rattle.gl_logic.proofs.Optional.{none_some, then_inverted}
use Rattle.gl_logic.proofs.Walks.{grow, then_both}
use Rattle.gl_logic.specs.Every.{Every}
use Rattle.gl_logic.proofs.MadeCalls.{every_map, every_filter, every_different, OpensAt, calls_open}
use Rattle.gl_logic.proofs.DepthOfCounts.{sums_same}

-- ---- a place of the shorter list
pub get_more : (ds more : List Definition) (f : ℕ) (d : Definition) → slice_get ds f ≡ Some d → slice_get (ds ++ more) f ≡ Some d
get_more [] more f d e = none_some d e
get_more (c ∷ ds) more zero d e = e
get_more (c ∷ ds) more (suc f) d e = get_more ds more f d e

get_same : (ds more : List Definition) (f : ℕ) → f < length ds → slice_get (ds ++ more) f ≡ slice_get ds f
get_same [] more f h = absurd (omega (arith, h))
get_same (c ∷ ds) more zero h = refl
get_same (c ∷ ds) more (suc f) h = get_same ds more f (omega (arith, h))

pub defined : (o : Option Definition) (n : ℕ) → option_map (λ d. length d.formals) o ≡ Some n → (d : Definition) × (o ≡ Some d)
defined None n e = none_some n e
defined (Some d) n e = (d, refl)

arity_more : (ds more : List Definition) (f n : ℕ) → arity_in ds f ≡ Some n → arity_in (ds ++ more) f ≡ Some n
arity_more ds more f n e =
    let d = defined (slice_get ds f) n e in
    ap (option_map (λ (d : Definition). length d.formals)) (get_more ds more f d.0 d.1 ∙ sym d.1) ∙ e

-- ---- a term of some definitions is one of more
mutual
  pub term_more : (ds more : List Definition) (t : Exp) → IsTermOf ds t → IsTermOf (ds ++ more) t
  term_more ds more (Var v) h = tt
  term_more ds more (Const x) h = tt
  term_more ds more (If t a b) h = (term_more ds more t h.0, term_more ds more a h.1, term_more ds more b h.2)
  term_more ds more (Prim p ts) h = (h.0, terms_more ds more ts h.1)
  term_more ds more (Call f ts) h = (arity_more ds more f _ h.0, terms_more ds more ts h.1)
  term_more ds more (Let vs ts b) h = (h.0, terms_more ds more ts h.1, term_more ds more b h.2)

  pub terms_more : (ds more : List Definition) (ts : Exps) → AreTermsOf ds ts → AreTermsOf (ds ++ more) ts
  terms_more ds more Last h = tt
  terms_more ds more (More t ts) h = (term_more ds more t h.0, terms_more ds more ts h.1)

-- ---- what is there stays
pub opened_kept : (ds more : List Definition) (n : ℕ) (f : ℕ) (xs : Walks) (r : Walk) → opened ds n f xs ≡ Some r → opened (ds ++ more) n f xs ≡ Some r
opened_kept ds more zero f xs r = none_some r
opened_kept ds more (suc n) f xs r =
    then_both (body_walk ds n f xs.values) (body_walk (ds ++ more) n f xs.values) _ _ r
    (λ w. then_both (slice_get ds f) (slice_get (ds ++ more) f) _ _ w (get_more ds more f) (λ d. grow (opened ds n) (opened (ds ++ more) n) (opened_kept ds more n) d.body (extended d.formals xs.values []) w)) (λ y k. k)

pub walk_kept : (ds more : List Definition) (n : ℕ) (env : List (ℕ × Object)) (t : Exp) (r : Walk) → walk ds n env t ≡ Some r → walk (ds ++ more) n env t ≡ Some r
walk_kept ds more n env t r = grow (opened ds n) (opened (ds ++ more) n) (opened_kept ds more n) t env r

-- ---- where the calls of a term's definitions are the same, its walks are
module _ (c d : ℕ → Walks → Option Walk) (ds : List Definition) (alike : (g : ℕ) (rs : Walks) → g < length ds → c g rs ≡ d g rs) where
  mutual
    pub same_walk : (t : Exp) (env : List (ℕ × Object)) → IsTermOf ds t → walk_by c t env ≡ walk_by d t env
    same_walk (Var v) env h = refl
    same_walk (Const x) env h = refl
    same_walk (If t a b) env h =
        let pt = same_walk t env h.0 in
        let pa = same_walk a env h.1 in
        let pb = same_walk b env h.2 in
        λ i. then (pt i) (λ r. elim (is_nil r.value) [ true ↦ then (pb i) (ended r.seen r.made) | false ↦ then (pa i) (ended r.seen r.made) ])
    same_walk (Prim p ts) env h = ap (λ o. then o (λ rs. gathered (prim_value p rs.values) rs)) (same_walks ts env h.1)
    same_walk (Call f ts) env h =
        let ps = same_walks ts env h.1 in
        let k = defined (slice_get ds f) _ h.0 in
        let l = slice_get_within ds f k.0 k.1 in
        λ i. then (ps i) (λ rs. alike f rs l i)
    same_walk (Let vs ts b) env h =
        let ps = same_walks ts env h.1 in
        λ i. then (ps i) (λ rs. then (same_walk b (extended vs rs.values env) h.2 i) (ended rs.seen rs.made))

    pub same_walks : (ts : Exps) (env : List (ℕ × Object)) → AreTermsOf ds ts → walks_by c ts env ≡ walks_by d ts env
    same_walks Last env h = refl
    same_walks (More t ts) env h =
        let pt = same_walk t env h.0 in
        let ps = same_walks ts env h.1 in
        λ i. then (pt i) (λ r. then (ps i) (joined r))

  same_body_at : (o : Option Definition) (xs : List Object) → ((k : Definition) → o ≡ Some k → IsTermOf ds k.body) → then o (λ k. walk_by c k.body (extended k.formals xs [])) ≡ then o (λ k. walk_by d k.body (extended k.formals xs []))
  same_body_at None xs h = refl
  same_body_at (Some k) xs h = same_walk k.body (extended k.formals xs []) (h k refl)

  pub same_body : (more : List Definition) → IsClosed ds → (f : ℕ) (xs : List Object) → f < length ds → body_by c (ds ++ more) f xs ≡ body_by d ds f xs
  same_body more closed f xs l = ap (λ o. then o (λ k. walk_by c k.body (extended k.formals xs []))) (get_same ds more f l) ∙ same_body_at (slice_get ds f) xs (closed f)

-- ---- the laws
module _ (ds more : List Definition) (closed : IsClosed ds) where
  opened_same : (n f : ℕ) (rs : Walks) → f < length ds → opened (ds ++ more) n f rs ≡ opened ds n f rs
  opened_same zero f rs l = refl
  opened_same (suc n) f rs l = ap (λ o. then o (ended rs.seen (rs.made ++ (f, rs.values) ∷ []))) (same_body (opened (ds ++ more) n) (opened ds n) ds (opened_same n) more closed f rs.values l)

  pub walk_same : (n : ℕ) (env : List (ℕ × Object)) (t : Exp) → IsTermOf ds t → walk (ds ++ more) n env t ≡ walk ds n env t
  walk_same n env t h = same_walk (opened (ds ++ more) n) (opened ds n) ds (opened_same n) t env h

  pub body_same : (n f : ℕ) (args : List Object) → f < length ds → body_walk (ds ++ more) n f args ≡ body_walk ds n f args
  body_same n f args l = same_body (opened (ds ++ more) n) (opened ds n) ds (opened_same n) more closed f args l

  module _ (functions : List ℕ) where
    own_opened_same : (n f : ℕ) (rs : Walks) → f < length ds → own_opened (ds ++ more) functions n f rs ≡ own_opened ds functions n f rs
    own_opened_same zero f rs l = refl
    own_opened_same (suc n) f rs l =
        let p = opened_same (suc n) f rs l in
        let q = same_body (own_opened (ds ++ more) functions n) (own_opened ds functions n) ds (own_opened_same n) more closed f rs.values l in
        λ i. elim (is_among functions f) [ true ↦ then (p i) (λ r. gathered r.value rs) | false ↦ then (q i) (ended rs.seen (rs.made ++ (f, rs.values) ∷ [])) ]

    pub own_cost_same : (n : ℕ) (env : List (ℕ × Object)) (t : Exp) → IsTermOf ds t → own_cost (ds ++ more) functions n env t ≡ own_cost ds functions n env t
    own_cost_same n env t h = ap (λ o. length (seen_in o)) (same_walk (own_opened (ds ++ more) functions n) (own_opened ds functions n) ds (own_opened_same n) t env h)

    call_cost_same : (n : ℕ) (c : CallMade) → OpensAt ds n c → own_cost_of_call (ds ++ more) functions n c ≡ own_cost_of_call ds functions n c
    call_cost_same n c o =
        let i = then_inverted (slice_get ds c.0) _ o.run o.walks in
        ap (λ o. length (seen_in o)) (same_body (own_opened (ds ++ more) functions n) (own_opened ds functions n) ds (own_opened_same n) more closed c.0 c.1 (slice_get_within ds c.0 i.0 i.1.0))

    all_open : (n : ℕ) (o : Option Walk) → ((r : Walk) → o ≡ Some r → Every (OpensAt ds n) r.made) → Every (OpensAt ds n) (made_in o)
    all_open n None h = tt
    all_open n (Some r) h = h r refl

    pub memoized_cost_same : (n : ℕ) (env : List (ℕ × Object)) (t : Exp) → IsTermOf ds t → memoized_cost (ds ++ more) functions n env t ≡ memoized_cost ds functions n env t
    memoized_cost_same n env t h =
        let own = own_cost_same n env t h in
        let made = ap (λ o. sum_by (own_cost_of_call (ds ++ more) functions n) (different call_eq (filter (λ c. is_among functions c.0) (made_in o)))) (walk_same n env t h) in
        let open_all = every_different (OpensAt ds n) call_eq (calls ds functions n env t) (every_filter (OpensAt ds n) (λ c. is_among functions c.0) (made_in (walk ds n env t)) (all_open n (walk ds n env t) (calls_open ds n env t))) in
        let bodies = sums_same (own_cost_of_call (ds ++ more) functions n) (own_cost_of_call ds functions n) (different call_eq (calls ds functions n env t))
        (every_map (OpensAt ds n) (λ c. own_cost_of_call (ds ++ more) functions n c ≡ own_cost_of_call ds functions n c) (different call_eq (calls ds functions n env t)) (call_cost_same n) open_all) in
        λ i. own i + (made ∙ bodies) i
