-- Terms that run to a value.
use Rattle.std.proofs.Common.{◌≡◌, refl, ℕ, suc, ◌+◌, ◌≤◌, arith, List, [], ◌∷◌, ◌++◌, Bool, true, false, ◌&&◌, Some, slice_get}
use Rattle.std.proofs.lemmas.Bool.{and_parts}
use Rattle.gl_logic.specs.Object.{Object}
use Rattle.gl_logic.specs.ObjectEq.{is_nil}
use Rattle.gl_logic.specs.PrimValue.{prim_value}
use Rattle.gl_logic.specs.Environment.{look, extended}
use Rattle.gl_logic.specs.Definition.{Definition}
use Rattle.gl_logic.specs.ConstantCall.{constant_terms}
use Rattle.gl_logic.specs.Exp.{Exp, Exps, Var, Const, If, Prim, Call, Let, Last, More}
use Rattle.gl_logic.specs.Walk.{CallMade, walk, walks_by, opened, body_walk}
use Rattle.gl_logic.proofs.Walks.{walk_deeper}
use Rattle.gl_logic.proofs.Runs.{then_is, pick_first, pick_second, walks_deeper}
use Rattle.gl_logic.proofs.SimpleTerms.{is_simple, are_simple, simple_value, simple_values}

module _ (ds : List Definition) where
  -- with some depth
  pub record To (env : List (ℕ × Object)) (t : Exp) (x : Object) : Type 0 where
    pub depth : ℕ
    pub seen : List Object
    pub made : List CallMade
    pub walks : walk ds depth env t ≡ Some (record { value = x; seen = seen; made = made })

  pub record AllTo (env : List (ℕ × Object)) (ts : Exps) (xs : List Object) : Type 0 where
    pub depth : ℕ
    pub seen : List Object
    pub made : List CallMade
    pub walks : walks_by (opened ds depth) ts env ≡ Some (record { values = xs; seen = seen; made = made })

  module _ (env : List (ℕ × Object)) where
    deeper : (t : Exp) (x : Object) (n : ℕ) (r : To env t x) → r.depth ≤ n → walk ds n env t ≡ Some (record { value = x; seen = r.seen; made = r.made })
    deeper t x n r l = walk_deeper ds r.depth n env t _ l r.walks

    all_deeper : (ts : Exps) (xs : List Object) (n : ℕ) (r : AllTo env ts xs) → r.depth ≤ n → walks_by (opened ds n) ts env ≡ Some (record { values = xs; seen = r.seen; made = r.made })
    all_deeper ts xs n r l = walks_deeper ds r.depth n env ts _ l r.walks

    pub to_last : AllTo env Last []
    to_last = record { depth = 0; seen = []; made = []; walks = refl }

    pub to_more : (t : Exp) (ts : Exps) (x : Object) (xs : List Object) → To env t x → AllTo env ts xs → AllTo env (More t ts) (x ∷ xs)
    to_more t ts x xs r rs =
        let n = r.depth + rs.depth in record {
          depth = n;
          seen = r.seen ++ rs.seen;
          made = r.made ++ rs.made;
          walks = then_is (walk ds n env t) _ _ _ (deeper t x n r (omega arith)) (then_is (walks_by (opened ds n) ts env) _ _ _ (all_deeper ts xs n rs (omega arith)) refl);
        }

    pub to_prim : (p : _) (ts : Exps) (xs : List Object) → AllTo env ts xs → To env (Prim p ts) (prim_value p xs)
    to_prim p ts xs rs = record { depth = rs.depth; seen = rs.seen ++ prim_value p xs ∷ []; made = rs.made; walks = then_is (walks_by (opened ds rs.depth) ts env) _ _ _ rs.walks refl }

    pub to_then : (t a b : Exp) (x y : Object) → To env t x → is_nil x ≡ false → To env a y → To env (If t a b) y
    to_then t a b x y r h s =
        let n = r.depth + s.depth in record {
          depth = n;
          seen = r.seen ++ s.seen ++ y ∷ [];
          made = r.made ++ s.made;
          walks = then_is (walk ds n env t) _ _ _ (deeper t x n r (omega arith)) (pick_second (is_nil x) _ _ _ h (then_is (walk ds n env a) _ _ _ (deeper a y n s (omega arith)) refl));
        }

    pub to_else : (t a b : Exp) (x y : Object) → To env t x → is_nil x ≡ true → To env b y → To env (If t a b) y
    to_else t a b x y r h s =
        let n = r.depth + s.depth in record {
          depth = n;
          seen = r.seen ++ s.seen ++ y ∷ [];
          made = r.made ++ s.made;
          walks = then_is (walk ds n env t) _ _ _ (deeper t x n r (omega arith)) (pick_first (is_nil x) _ _ _ h (then_is (walk ds n env b) _ _ _ (deeper b y n s (omega arith)) refl));
        }

  pub to_call : (env : List (ℕ × Object)) (f : ℕ) (ts : Exps) (d : Definition) (xs : List Object) (y : Object) → slice_get ds f ≡ Some d → AllTo env ts xs → To (extended d.formals xs []) d.body y → To env (Call f ts) y
  to_call env f ts d xs y e rs s =
      let n = rs.depth + s.depth in record {
        depth = suc n;
        seen = rs.seen ++ s.seen ++ y ∷ [];
        made = (rs.made ++ (f, xs) ∷ []) ++ s.made;
        walks = then_is (walks_by (opened ds (suc n)) ts env) _ _ _ (all_deeper env ts xs (suc n) rs (omega arith))
            (then_is (body_walk ds n f xs) _ _ _ (then_is (slice_get ds f) _ d _ e (deeper (extended d.formals xs []) d.body y n s (omega arith))) refl);
      }

  module _ (env : List (ℕ × Object)) where
    pub to_var : (v : ℕ) → To env (Var v) (look env v)
    to_var v = record { depth = 0; seen = look env v ∷ []; made = []; walks = refl }

    pub to_const : (x : Object) → To env (Const x) x
    to_const x = record { depth = 0; seen = x ∷ []; made = []; walks = refl }

    -- a term without calls and lets
    to_pick : (t a b : Exp) (c : Bool) → is_nil (simple_value t env) ≡ c → To env t (simple_value t env) → To env a (simple_value a env) → To env b (simple_value b env) → To env (If t a b) (elim c [ true ↦ simple_value b env | false ↦ simple_value a env ])
    to_pick t a b true h r s u = to_else env t a b (simple_value t env) (simple_value b env) r h u
    to_pick t a b false h r s u = to_then env t a b (simple_value t env) (simple_value a env) r h s

    mutual
      pub to_simple : (t : Exp) → is_simple t ≡ true → To env t (simple_value t env)
      to_simple (Var v) h = to_var v
      to_simple (Const x) h = to_const x
      to_simple (If t a b) h =
          let k = and_parts (is_simple t) (is_simple a && is_simple b) h in
          let m = and_parts (is_simple a) (is_simple b) k.1 in
          to_pick t a b (is_nil (simple_value t env)) refl (to_simple t k.0) (to_simple a m.0) (to_simple b m.1)
      to_simple (Prim p ts) h = to_prim env p ts (simple_values ts env) (all_to_simple ts h)
      to_simple (Call f ts) h = absurd cc
      to_simple (Let vs ts b) h = absurd cc

      pub all_to_simple : (ts : Exps) → are_simple ts ≡ true → AllTo env ts (simple_values ts env)
      all_to_simple Last h = to_last env
      all_to_simple (More t ts) h =
          let k = and_parts (is_simple t) (are_simple ts) h in
          to_more env t ts (simple_value t env) (simple_values ts env) (to_simple t k.0) (all_to_simple ts k.1)

    pub to_constants : (xs : List Object) → AllTo env (constant_terms xs) xs
    to_constants [] = to_last env
    to_constants (x ∷ xs) = to_more env (Const x) (constant_terms xs) x xs (to_const x) (to_constants xs)
