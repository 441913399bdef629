-- Every term of a world has a value on every environment.
use Rattle.std.proofs.Common.{◌≡◌, ◌∙◌, ap, sym, refl, ℕ, zero, suc, ◌+◌, ◌-◌, ◌≤◌, List, [], ◌∷◌, ◌++◌, Bool, true, false, Option, Some, None, inl, inr, subst, arith, map, slice_get, length}
use Rattle.std.specs.Option.{is_some}
use Rattle.std.proofs.lemmas.Bool.{true≢false}
use Rattle.std.proofs.lemmas.List.{append_assoc, append-nil}
use Rattle.gl_logic.specs.Object.{Object}
use Rattle.gl_logic.specs.Environment.{extended}
use Rattle.gl_logic.specs.Every.{Every}
use Rattle.gl_logic.specs.Definition.{Definition}
use Rattle.gl_logic.specs.IsTermOf.{IsTermOf}
use Rattle.gl_logic.specs.IsGround.{IsGround, AreGround}
use Rattle.gl_logic.specs.IsTotal.{IsTotal}
use Rattle.gl_logic.specs.Measures.{measure_size}
use Rattle.gl_logic.specs.RecursiveCalls.{Governed, calls_in}
use Rattle.gl_logic.specs.IsAdmissible.{member_at, is_member, Recursive, calls_of, calls_of_all, steps_to, is_step}
use Rattle.gl_logic.specs.WorldSeen.{IsWorld, IsClique, AreCliques, all_members}
use Rattle.gl_logic.proofs.Optional.{none_some, some_same}
use Rattle.gl_logic.proofs.Runs.{Runs}
use Rattle.gl_logic.proofs.Facts.{AreFacts, AgreeBut}
use Rattle.gl_logic.proofs.Lexicographic.{Below}
use Rattle.gl_logic.proofs.MeasuresFall.{measure_falls}
use Rattle.gl_logic.proofs.TotalSteps.{every_parts, total_kept, nothing_is_total}
use Rattle.gl_logic.proofs.Worlds.{split_place, member_by, member_there, member_or}

-- ---- what holds of all recursive calls holds of one member's
every_mapped : {A B : Type 0} (P : B → Type 0) (f : A → B) (xs : List A) → Every P (map f xs) → Every (λ x. P (f x)) xs
every_mapped P f [] h = tt
every_mapped P f (x ∷ xs) h = (h.0, every_mapped P f xs h.1)

calls_of_one : (P : Recursive → Type 0) (is_one : ℕ → Bool) (members : List Definition) (k : ℕ) (d : Definition) → slice_get members k ≡ Some d → Every P (calls_of_all is_one members) → Every (λ c. P (d.measure, c)) (calls_in is_one [] [] d.body)
calls_of_one P is_one [] k d e h = none_some d e
calls_of_one P is_one (c ∷ members) zero d e h =
    let own = (every_parts P (calls_of is_one c) (calls_of_all is_one members) h).0 in
    every_mapped P (λ g. (d.measure, g)) (calls_in is_one [] [] d.body) (subst (λ (b : Definition). Every P (calls_of is_one b)) (some_same c d e) own)
calls_of_one P is_one (c ∷ members) (suc k) d e h = calls_of_one P is_one members k d e (every_parts P (calls_of is_one c) (calls_of_all is_one members) h).1

some_is : (o : Option Definition) → is_some o ≡ true → (d : Definition) × (o ≡ Some d)
some_is None h = absurd cc
some_is (Some d) h = (d, refl)

-- the size of definition f's measure on these values
abbrev pub size_at : Option Definition → List Object → ℕ × ℕ
size_at None xs = (0, 0)
size_at (Some d) xs = measure_size (λ n. 0) d.measure (extended d.formals xs [])

-- ---- one clique more
module _ (ds members : List Definition) (known : AreGround (ds ++ members)) (clique : IsClique ds members) where
  abbrev pub is_one : ℕ → Bool
  is_one f = is_member (length ds) members f

  member_is : (f : ℕ) (d : Definition) → is_one f ≡ true → slice_get (ds ++ members) f ≡ Some d → (length ds ≤ f) × (slice_get members (f - length ds) ≡ Some d)
  member_is f d h e =
      let o = some_is (member_at (length ds) members f) h in
      let q : o.0 ≡ d = some_same o.0 d (sym (member_there ds members f o.0 o.1) ∙ e) in
      member_by _ ds members f d refl (o.1 ∙ ap Some q)

  before : (f : ℕ) (d : Definition) → is_one f ≡ false → slice_get (ds ++ members) f ≡ Some d → slice_get ds f ≡ Some d
  before f d h e = elim (member_or ds members f d e) [ inl p ↦ p | inr p ↦ absurd (true≢false (sym (ap is_some p) ∙ h)) ]

  terms : (f : ℕ) (d : Definition) → slice_get (ds ++ members) f ≡ Some d → is_one f ≡ true → IsTermOf (ds ++ members) d.body
  terms f d e h = let p = member_is f d h e in (clique.each (f - length ds) d p.1).body

  steps : (f : ℕ) (d : Definition) → slice_get (ds ++ members) f ≡ Some d → is_one f ≡ true → Every (λ c. is_step (length ds) members (d.measure, c) ≡ true) (calls_in is_one [] [] d.body)
  steps f d e h = let p = member_is f d h e in calls_of_one (λ r. is_step (length ds) members r ≡ true) is_one members (f - length ds) d p.1 clique.admissible

  abbrev pub size : ℕ → List Object → ℕ × ℕ
  size f xs = size_at (slice_get (ds ++ members) f) xs

  fall_to : (o : Option Definition) (f : ℕ) (d : Definition) (c : Governed) (xs : List Object) (env : List (ℕ × Object)) → slice_get (ds ++ members) f ≡ Some d → member_at (length ds) members c.callee ≡ o → steps_to o (d.measure, c) ≡ true
      → AgreeBut c.bound (extended d.formals xs []) env → AreFacts (ds ++ members) env c.facts → (r : Runs (ds ++ members) env c.actuals) → Below (size c.callee r.run.values) (size f xs)
  fall_to None f d c xs env e o h a g r = absurd cc
  fall_to (Some k) f d c xs env e o h a g r =
      let callee = member_there ds members c.callee k o in
      let below = measure_falls (λ n. 0) (ds ++ members) known d.measure k.measure c k.formals (extended d.formals xs []) env r h a g in
      subst (λ (p : ℕ × ℕ). Below p (size f xs)) (ap (λ (q : Option Definition). size_at q r.run.values) (sym callee))
      (subst (λ (p : ℕ × ℕ). Below (measure_size (λ n. 0) k.measure (extended k.formals r.run.values [])) p) (ap (λ (q : Option Definition). size_at q xs) (sym e)) below)

  pub clique_is_total : IsTotal ds → IsTotal (ds ++ members)
  clique_is_total total = total_kept ds members is_one size (λ d c. is_step (length ds) members (d.measure, c) ≡ true) total before terms steps
      (λ f d c xs env e h l a g r. fall_to (member_at (length ds) members c.callee) f d c xs env e refl h a g r)

ground_push : (ds members : List Definition) → AreGround ds → IsClique ds members → AreGround (ds ++ members)
ground_push ds members known clique i d e = elim (split_place ds members i d e) [
  | inl p ↦ known i d p.1
  | inr p ↦ let z : length ds + (i - length ds) ≡ i = omega (arith, p.0) in subst (λ (k : ℕ). IsGround k d) z (clique.each (i - length ds) d p.1).same_ground
]

-- where every term of a list of definitions has a value, the same is true behind one clique more
pub clique_keeps_total : (ds members : List Definition) → AreGround ds → IsTotal ds → IsClique ds members → IsTotal (ds ++ members)
clique_keeps_total ds members known total clique = clique_is_total ds members (ground_push ds members known clique) clique total

-- ---- all cliques
cliques_are_total : (earlier : List Definition) (groups : List (List Definition)) → AreGround earlier → IsTotal earlier → AreCliques earlier groups → IsTotal (earlier ++ all_members groups)
cliques_are_total earlier [] known total h = subst IsTotal (sym (append-nil earlier)) total
cliques_are_total earlier (members ∷ groups) known total h =
    subst IsTotal (append_assoc earlier members (all_members groups))
    (cliques_are_total (earlier ++ members) groups (ground_push earlier members known h.0) (clique_keeps_total earlier members known total h.0) h.1)

pub world_is_total : (ds : List Definition) (counts : List ℕ) → IsWorld ds counts → IsTotal ds
world_is_total ds counts w = subst IsTotal w.all (cliques_are_total [] w.groups (λ i d e. none_some d e) nothing_is_total w.cliques)
