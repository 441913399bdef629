-- A term's walk depends on its free variables alone.
use Rattle.std.proofs.Common.{◌≡◌, ◌∙◌, ap, refl, ℕ, List, [], ◌∷◌, Bool, true, false, not, ◌||◌, ◌&&◌, eqb, Option, arith}
use Rattle.std.specs.List.{list_any}
use Rattle.std.proofs.lemmas.Bool.{or_left, or_right, eq-eqb}
use Rattle.gl_logic.specs.Object.{Object}
use Rattle.gl_logic.specs.ObjectEq.{is_nil}
use Rattle.gl_logic.specs.PrimValue.{prim_value}
use Rattle.gl_logic.specs.Environment.{look, extended}
use Rattle.gl_logic.specs.Exp.{Exp, Exps, Var, Const, If, Prim, Call, Let, Last, More}
use Rattle.gl_logic.specs.Walk.{Walk, Walks, then, visited, ended, gathered, joined, walk_by, walks_by}
use Rattle.gl_logic.specs.FreeVariables.{is_free_in, is_free_in_some, AgreeOn}

-- below the names that are bound, the environments agree where they agreed
look_bound : (vs : List ℕ) (xs : List Object) (e e' : List (ℕ × Object)) (v : ℕ) → (list_any (λ u. eqb u v) vs ≡ false → look e v ≡ look e' v) → look (extended vs xs e) v ≡ look (extended vs xs e') v
look_bound [] xs e e' v h = h refl
look_bound (u ∷ vs) [] e e' v h = grind (arith, look_bound vs [] e e' v)
look_bound (u ∷ vs) (x ∷ xs) e e' v h = grind (arith, look_bound vs xs e e' v)

within_let : (vs : List ℕ) (xs : List Object) (b : ℕ → Bool) (some : ℕ → Bool) (e e' : List (ℕ × Object)) → AgreeOn (λ v. some v || (not (list_any (λ u. eqb u v) vs) && b v)) e e' → AgreeOn b (extended vs xs e) (extended vs xs e')
within_let vs xs b some e e' h v k = look_bound vs xs e e' v (λ n. h v (or_right (some v) _ (ap (λ (c : Bool). not c && b v) n ∙ k)))

module _ (c : ℕ → Walks → Option Walk) where
  mutual
    pub agree : (t : Exp) (e e' : List (ℕ × Object)) → AgreeOn (is_free_in t) e e' → walk_by c t e ≡ walk_by c t e'
    agree (Var v) e e' h = ap visited (h v (eq-eqb v v refl))
    agree (Const x) e e' h = refl
    agree (If t a b) e e' h =
        let ht = agree t e e' (λ v k. h v (or_left _ _ (or_left _ _ k))) in
        let ha = agree a e e' (λ v k. h v (or_left _ _ (or_right _ _ k))) in
        let hb = agree b e e' (λ v k. h v (or_right _ _ k)) in
        λ i. then (ht i) (λ r. elim (is_nil r.value) [ true ↦ then (hb i) (ended r.seen r.made) | false ↦ then (ha i) (ended r.seen r.made) ])
    agree (Prim p ts) e e' h = ap (λ o. then o (λ rs. gathered (prim_value p rs.values) rs)) (agree_all ts e e' h)
    agree (Call f ts) e e' h = ap (λ o. then o (c f)) (agree_all ts e e' h)
    agree (Let vs ts b) e e' h =
        let hs = agree_all ts e e' (λ v k. h v (or_left _ _ k)) in
        λ i. then (hs i) (λ rs. then (agree b (extended vs rs.values e) (extended vs rs.values e') (within_let vs rs.values (is_free_in b) (is_free_in_some ts) e e' h) i) (ended rs.seen rs.made))

    pub agree_all : (ts : Exps) (e e' : List (ℕ × Object)) → AgreeOn (is_free_in_some ts) e e' → walks_by c ts e ≡ walks_by c ts e'
    agree_all Last e e' h = refl
    agree_all (More t ts) e e' h =
        let ht = agree t e e' (λ v k. h v (or_left _ _ k)) in
        let hs = agree_all ts e e' (λ v k. h v (or_right _ _ k)) in
        λ i. then (ht i) (λ r. then (hs i) (joined r))
