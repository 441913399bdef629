-- What frames make of walks.
use Rattle.std.proofs.Common.{◌≡◌, ℕ, zero, suc, ◌+◌, ◌<◌, ◌≤◌, Bool, true, false, not, ◌&&◌, List, [], ◌∷◌, ◌++◌, length, get_or, map, refl, ap, sym, ◌∙◌, arith, cond, subst, Option, Some, None}
use Rattle.std.proofs.lemmas.List.{map-append}
use Rattle.std.specs.Prelude.{slice_get}
use Rattle.bfr_store.specs.declared.edge.Edge.{Edge}
use Rattle.gl_logic.specs.Object.{Object}
use Rattle.gl_logic.specs.ObjectEq.{is_nil}
use Rattle.gl_logic.specs.Environment.{bound, extended}
use Rattle.gl_logic.specs.Definition.{Definition}
use Rattle.gl_logic.specs.Exp.{Exp, Exps, Last, More}
use Rattle.gl_logic.specs.Exp as exp
use Rattle.gl_logic.specs.TermOf.{term_of, terms_of}
use Rattle.gl_logic.specs.Walk.{CallMade, Walk, Walks, then, ended, joined, walk, opened}
use Rattle.gl_logic.specs.declared.term.Term.{Term}
use Rattle.sym_objects.specs.declared.sob.Sob.{Sob}
use Rattle.gl_interp.specs.declared.frame.Frame.{Frame}
use Rattle.gl_interp.specs.declared.frame.Frame.TheVariants as frame
use Rattle.gl_interp.specs.declared.frame.Focus.TheVariants as focus
use Rattle.gl_interp.specs.Envs.{AllBelow, sobs_bound}
use Rattle.gl_interp.specs.Environments.{objects_of}
use Rattle.gl_interp.specs.Walking.{Before, wrap, chained, values_of, At, worked, branched, walks, from, Makes, FocusMakes, reached}
use Rattle.gl_interp.specs.Running.{FramesLive}

-- ---- wraps and chains
pub wrap_none : (ws : List Before) → wrap ws None ≡ None
wrap_none [] = refl
wrap_none (w ∷ ws) = wrap_none ws

pub wrap_some : (ws : List Before) (r : Walk) → (s : Walk) × ((wrap ws (Some r) ≡ Some s) × (s.value ≡ r.value))
wrap_some [] r = (r, (refl, refl))
wrap_some (w ∷ ws) r = wrap_some ws (record { value = r.value; seen = w.0 ++ r.seen ++ r.value ∷ []; made = w.1 ++ r.made })

pub chained_none : (rs : List Walk) → chained rs None ≡ None
chained_none [] = refl
chained_none (r ∷ rs) = ap (λ o. then o (joined r)) (chained_none rs)

pub chained_push : (rs : List Walk) (r : Walk) (o : Option Walks) → chained (rs ++ r ∷ []) o ≡ chained rs (then o (joined r))
chained_push [] r o = refl
chained_push (q ∷ rs) r o = ap (λ p. then p (joined q)) (chained_push rs r o)

abbrev no_walks : Walks
no_walks = record { values = []; seen = []; made = [] }

pub chained_done : (rs : List Walk) → (out : Walks) × ((chained rs (Some no_walks) ≡ Some out) × (out.values ≡ values_of rs))
chained_done [] = (no_walks, (refl, refl))
chained_done (r ∷ rs) =
    let q = chained_done rs in
    (record { values = r.value ∷ q.0.values; seen = r.seen ++ q.0.seen; made = r.made ++ q.0.made }, (ap (λ o. then o (joined r)) q.1.0, ap (λ xs. r.value ∷ xs) q.1.1))

-- ---- Bool
and_left : (a b : Bool) → (a && b) ≡ true → a ≡ true
and_left true b h = refl
and_left false b h = h

and_right : (a b : Bool) → (a && b) ≡ true → b ≡ true
and_right true b h = h
and_right false b h = absurd cc

not_true : (b : Bool) → not b ≡ true → b ≡ false
not_true true h = sym h
not_true false h = refl

pub either : {P : Type 0} (b : Bool) → (b ≡ true → P) → (b ≡ false → P) → P
either true f h = f refl
either false f h = h refl

-- ---- the same frames over what was kept
pub map_same : (f h : Sob → Object) (n : ℕ) → ((x : Sob) → x.number < n → h x ≡ f x) → (xs : List Sob) → AllBelow n xs → map f xs ≡ map h xs
map_same f h n e [] l = refl
map_same f h n e (x ∷ xs) l = λ i. sym (e x l.0) i ∷ map_same f h n e xs l.1 i

module _ (d : List Definition) (k : ℕ) (t u : Edge → Bool) (f h : Sob → Object) (en em : ℕ → List (ℕ × Object)) (live : Edge → Type 0) (n m : ℕ) (te : (c : Edge) → live c → u c ≡ t c) (fe : (x : Sob) → x.number < n → h x ≡ f x) (ee : (i : ℕ) → i < m → em i ≡ en i) where
  abbrev before : At
  before = record { definitions = d; more = k; truth = t; of = f; env = en }

  abbrev after : At
  after = record { definitions = d; more = k; truth = u; of = h; env = em }

  pub makes_same : (fs : List Frame) (whole o : Option Walk) → FramesLive live n m fs → Makes before fs whole o → Makes after fs whole o
  makes_same [] whole o l p = p
  makes_same (frame.Test a b env j ∷ fs) whole o l p =
      (p.0, makes_same fs whole _ l.1 (subst (λ z. Makes before fs whole z) (λ i. wrap p.0 (then o (branched d (j + k) (sym (ee env.number l.0) i) (term_of a.now) (term_of b.now)))) p.1))
  makes_same (frame.Other c b env j saved rest ∷ fs) whole o l p =
      (p.0, makes_same fs whole _ l.1 (subst (λ z. Makes before fs whole z) (λ i. cond (sym (te c l.0.0) i) o (wrap p.0 (walk d (j + k) (sym (ee env.number l.0.1) i) (term_of b.now)))) p.1))
  makes_same (frame.Join c x saved ∷ fs) whole o l p =
      (p.0, (p.1.0 ∙ sym (fe x l.0.1), makes_same fs whole _ l.1 (subst (λ z. Makes before fs whole z) (λ i. cond (sym (te c l.0.0) i) (Some p.0) o) p.1.1)))
  makes_same (frame.Arguments w done ts env j ∷ fs) whole o l p = (
    p.0,
    (
      p.1.0,
      (
        p.1.1.0 ∙ map_same f h n fe done.items l.0.0,
        makes_same fs whole _ l.1
            (subst (λ z. Makes before fs whole z) (λ i. wrap p.0 (then (chained p.1.0 (then o (λ r. then (walks d (j + k) (sym (ee env.number l.0.1) i) (from (suc (length done.items)) ts.now)) (joined r)))) (worked d (j + k) (sym (ee env.number l.0.1) i) w))) p.1.1.1),
      ),
    ),
  )

-- ---- where the path is false the answer does not count
pick_same : (P : Option Walk → Type 0) (r b : Bool) (x o p : Option Walk) → (r && b) ≡ false → (r ≡ false → P o → P p) → P (cond b o x) → P (cond b p x)
pick_same P true true x o p h g q = absurd cc
pick_same P false true x o p h g q = g refl q
pick_same P true false x o p h g q = q
pick_same P false false x o p h g q = q

pick_other : (P : Option Walk → Type 0) (r b : Bool) (x o p : Option Walk) → (r && not b) ≡ false → (r ≡ false → P o → P p) → P (cond b x o) → P (cond b x p)
pick_other P true true x o p h g q = q
pick_other P false true x o p h g q = q
pick_other P true false x o p h g q = absurd cc
pick_other P false false x o p h g q = g refl q

pub unreached : (v : At) (fs : List Frame) (whole o p : Option Walk) → reached v.truth fs ≡ false → Makes v fs whole o → Makes v fs whole p
unreached v [] whole o p h q = absurd cc
unreached v (frame.Test a b env n ∷ fs) whole o p h q = (q.0, unreached v fs whole _ _ h q.1)
unreached v (frame.Other c b env n saved rest ∷ fs) whole o p h q =
    (q.0, pick_same (λ z. Makes v fs whole z) (reached v.truth fs) (v.truth c) _ o p h (λ z y. unreached v fs whole o p z y) q.1)
unreached v (frame.Join c x saved ∷ fs) whole o p h q =
    (q.0, (q.1.0, pick_other (λ z. Makes v fs whole z) (reached v.truth fs) (v.truth c) _ o p h (λ z y. unreached v fs whole o p z y) q.1.1))
unreached v (frame.Arguments w done ts env n ∷ fs) whole o p h q = (q.0, (q.1.0, (q.1.1.0, unreached v fs whole _ _ h q.1.1.1)))

-- ---- where the path is true and there is no walk, the whole has none
pub strict : (v : At) (fs : List Frame) (whole : Option Walk) → reached v.truth fs ≡ true → Makes v fs whole None → whole ≡ None
strict v [] whole h q = sym q
strict v (frame.Test a b env n ∷ fs) whole h q = strict v fs whole h (subst (λ z. Makes v fs whole z) (wrap_none q.0) q.1)
strict v (frame.Other c b env n saved rest ∷ fs) whole h q =
    strict v fs whole (and_left _ _ h) (subst (λ z. Makes v fs whole z) (ap (λ y. cond y None (wrap q.0 (walk v.definitions (n + v.more) (v.env env.number) (term_of b.now)))) (and_right _ _ h)) q.1)
strict v (frame.Join c x saved ∷ fs) whole h q =
    strict v fs whole (and_left _ _ h) (subst (λ z. Makes v fs whole z) (ap (λ y. cond y (Some q.0) None) (not_true _ (and_right _ _ h))) q.1.1)
strict v (frame.Arguments w done ts env n ∷ fs) whole h q =
    strict v fs whole h (subst (λ z. Makes v fs whole z) (ap (λ o. wrap q.0 (then o (worked v.definitions (n + v.more) (v.env env.number) w))) (chained_none q.1.0) ∙ wrap_none q.0) q.1.1.1)

-- ---- the turns
module _ (v : At) (fs : List Frame) (whole : Option Walk) where
  abbrev M : Option Walk → Type 0
  M = Makes v fs whole

  -- what was given counts where the path is true alone
  pub give_on_path : (r : Walk) (x : Sob) → M (Some r) → (reached v.truth fs ≡ true → v.of x ≡ r.value) → FocusMakes v fs whole (focus.Give x)
  give_on_path r x p h =
      let other : Walk = record { value = v.of x; seen = []; made = [] } in
      either (reached v.truth fs) (λ e. (r, (sym (h e), p))) (λ e. (other, (refl, unreached v fs whole (Some r) (Some other) e p)))

  pub into_test : (t a b : Term) (env n : ℕ) (ws : List Before) → M (wrap ws (walk v.definitions (n + v.more) (v.env env) (exp.If (term_of t) (term_of a) (term_of b)))) → M (wrap ws (then (walk v.definitions (n + v.more) (v.env env) (term_of t)) (branched v.definitions (n + v.more) (v.env env) (term_of a) (term_of b))))
  into_test t a b env n ws p = p

  -- a test is done
  wrapped_branches : (b : Bool) (ws : List Before) (x y : Option Walk) (s : List Object) (m : List CallMade) → wrap ws (elim b as (λ _. Option Walk) [ true ↦ then y (ended s m) | false ↦ then x (ended s m) ]) ≡ cond (not b) (wrap ((s, m) ∷ ws) x) (wrap ((s, m) ∷ ws) y)
  wrapped_branches true ws x y s m = refl
  wrapped_branches false ws x y s m = refl

  pub test_done : (r : Walk) (b : Bool) (a z : Exp) (env : List (ℕ × Object)) (n : ℕ) (ws : List Before) → b ≡ not (is_nil r.value) → M (wrap ws (branched v.definitions n env a z r))
      → M (cond b (wrap ((r.seen, r.made) ∷ ws) (walk v.definitions n env a)) (wrap ((r.seen, r.made) ∷ ws) (walk v.definitions n env z)))
  test_done r b a z env n ws e p =
      subst (λ o. M o) (wrapped_branches (is_nil r.value) ws (walk v.definitions n env a) (walk v.definitions n env z) r.seen r.made ∙ ap (λ c. cond c (wrap ((r.seen, r.made) ∷ ws) (walk v.definitions n env a)) (wrap ((r.seen, r.made) ∷ ws) (walk v.definitions n env z))) (sym e)) p

  -- both branches are done
  pub join_done : (c : Bool) (q r : Walk) → M (cond c (Some q) (Some r)) → M (Some (cond c q r))
  join_done true q r p = p
  join_done false q r p = p

  pub join_value : (c : Bool) (q r : Walk) (x y : Object) → q.value ≡ x → r.value ≡ y → (cond c q r).value ≡ cond c x y
  join_value true q r x y e h = e
  join_value false q r x y e h = h

-- ---- terms in order
pub from_more : (i : ℕ) (ts : List Term) (t : Term) → i < length ts → get_or ts i t ≡ t → from i ts ≡ More (term_of t) (from (suc i) ts)
from_more i [] t h e = absurd (omega (arith, h))
from_more zero (x ∷ ts) t h e = ap (λ y. More (term_of y) (terms_of ts)) e
from_more (suc i) (x ∷ ts) t h e = from_more i ts t (omega (arith, h)) e

pub from_none : (i : ℕ) (ts : List Term) → length ts ≤ i → from i ts ≡ Last
from_none zero [] h = refl
from_none (suc i) [] h = refl
from_none zero (t ∷ ts) h = absurd (omega (arith, h))
from_none (suc i) (t ∷ ts) h = from_none i ts (omega (arith, h))

-- ---- environments
pub objects_bound : (of : Sob → Object) (vs : List ℕ) (xs : List Sob) → length vs ≡ length xs → objects_of of (sobs_bound vs xs) ≡ bound vs (map of xs)
objects_bound of [] xs e = refl
objects_bound of (w ∷ vs) [] e = absurd (omega (arith, e))
objects_bound of (w ∷ vs) (x ∷ xs) e = ap (λ ps. (w, of x) ∷ ps) (objects_bound of vs xs (omega (arith, e)))

pub objects_extended : (of : Sob → Object) (vs : List ℕ) (xs : List Sob) (ps : List (ℕ × Sob)) → length vs ≡ length xs → objects_of of (sobs_bound vs xs ++ ps) ≡ extended vs (map of xs) (objects_of of ps)
objects_extended of vs xs ps e = map-append _ (sobs_bound vs xs) ps ∙ ap (λ qs. qs ++ objects_of of ps) (objects_bound of vs xs e)

-- ---- a definition is opened
pub opens : (ds : List Definition) (f m : ℕ) (b : Definition) (rs : Walks) → slice_get ds f ≡ Some b → opened ds (suc m) f rs ≡ then (walk ds m (extended b.formals rs.values []) b.body) (ended rs.seen (rs.made ++ (f, rs.values) ∷ []))
opens ds f m b rs e = ap (λ o. then (then o (λ d. walk ds m (extended d.formals rs.values []) d.body)) (ended rs.seen (rs.made ++ (f, rs.values) ∷ []))) e
