-- Cliques and worlds.
use Rattle.std.proofs.Common.{◌≡◌, ◌∙◌, ap, sym, refl, ℕ, zero, suc, ◌+◌, ◌-◌, ◌<◌, ◌≤◌, List, [], ◌∷◌, ◌++◌, Bool, true, false, ltb, Some, inl, inr, ◌⊎◌, subst, arith, slice_get, length}
use Rattle.std.proofs.lemmas.Bool.{cases_Bool, ltb-true, ltb-false, le-ltb}
use Rattle.std.proofs.lemmas.List.{append_assoc, append-nil, length-append, map-append}
use Rattle.gl_logic.specs.Definition.{Definition}
use Rattle.gl_logic.specs.Exp.{Prim}
use Rattle.gl_logic.specs.IsTermOf.{IsTermOf}
use Rattle.gl_logic.specs.IsGround.{IsGround, AreGround}
use Rattle.gl_logic.specs.IsClosed.{IsClosed}
use Rattle.gl_logic.specs.Named.{AreDifferentNames}
use Rattle.gl_logic.specs.IsAdmissible.{IsAdmissible, member_at}
use Rattle.gl_logic.specs.WorldSeen.{IsWorld, IsClique, IsDefinitionOf, AreCliques, all_members}
use Rattle.gl_logic.proofs.Optional.{none_some, some_same}
use Rattle.gl_logic.proofs.MoreDefinitions.{term_more}

-- ---- places in two lists
pub place_before : {A : Type 0} (xs ys : List A) (i : ℕ) → i < length xs → slice_get (xs ++ ys) i ≡ slice_get xs i
place_before [] ys i h = absurd (omega (arith, h))
place_before (x ∷ xs) ys zero h = refl
place_before (x ∷ xs) ys (suc i) h = place_before xs ys i (omega (arith, h))

pub place_behind : {A : Type 0} (xs ys : List A) (i : ℕ) → length xs ≤ i → slice_get (xs ++ ys) i ≡ slice_get ys (i - length xs)
place_behind [] ys i h = let z : i ≡ i - 0 = omega arith in ap (slice_get ys) z
place_behind (x ∷ xs) ys zero h = absurd (omega (arith, h))
place_behind (x ∷ xs) ys (suc i) h = let z : i - length xs ≡ suc i - suc (length xs) = omega arith in place_behind xs ys i (omega (arith, h)) ∙ ap (slice_get ys) z

pub split_place : {A : Type 0} (xs ys : List A) (i : ℕ) (x : A) → slice_get (xs ++ ys) i ≡ Some x → ((i < length xs) × (slice_get xs i ≡ Some x)) ⊎ ((length xs ≤ i) × (slice_get ys (i - length xs) ≡ Some x))
split_place xs ys i x e = elim (cases_Bool (ltb i (length xs))) [
  | inl h ↦ let l = ltb-true i (length xs) h in inl (l, sym (place_before xs ys i l) ∙ e)
  | inr h ↦ let l = ltb-false i (length xs) h in inr (l, sym (place_behind xs ys i l) ∙ e)
]

-- ---- the members of a clique behind other definitions
pub member_by : (b : Bool) (ds members : List Definition) (f : ℕ) (d : Definition) → ltb f (length ds) ≡ b → member_at (length ds) members f ≡ Some d → (length ds ≤ f) × (slice_get members (f - length ds) ≡ Some d)
member_by true ds members f d h e = none_some d (sym (rw h refl) ∙ e)
member_by false ds members f d h e = (ltb-false f (length ds) h, sym (rw h refl) ∙ e)

pub member_there : (ds members : List Definition) (f : ℕ) (d : Definition) → member_at (length ds) members f ≡ Some d → slice_get (ds ++ members) f ≡ Some d
member_there ds members f d e = let k = member_by (ltb f (length ds)) ds members f d refl e in place_behind ds members f k.0 ∙ k.1

-- a definition is one of before, or a member
pub member_or : (ds members : List Definition) (f : ℕ) (d : Definition) → slice_get (ds ++ members) f ≡ Some d → (slice_get ds f ≡ Some d) ⊎ (member_at (length ds) members f ≡ Some d)
member_or ds members f d e = elim (split_place ds members f d e) [
  | inl h ↦ inl h.1
  | inr h ↦ inr (let z = le-ltb f (length ds) h.0 in rw z h.1)
]

-- ---- each definition of a world
get_more_behind : (earlier members more : List Definition) (i : ℕ) (d : Definition) → IsDefinitionOf (earlier ++ members) i d → IsDefinitionOf (earlier ++ (members ++ more)) i d
get_more_behind earlier members more i d h = record {
  formals = h.formals;
  body = subst (λ (ds : List Definition). IsTermOf ds d.body) (append_assoc earlier members more) (term_more (earlier ++ members) more d.body h.body);
  same_ground = h.same_ground;
}

each_of : (earlier : List Definition) (groups : List (List Definition)) → AreCliques earlier groups → (k : ℕ) (d : Definition) → slice_get (all_members groups) k ≡ Some d → IsDefinitionOf (earlier ++ all_members groups) (length earlier + k) d
each_of earlier [] h k d e = none_some d e
each_of earlier (members ∷ groups) h k d e = elim (split_place members (all_members groups) k d e) [
  | inl p ↦ get_more_behind earlier members (all_members groups) (length earlier + k) d (h.0.each k d p.1)
  | inr p ↦
      let z : length (earlier ++ members) + (k - length members) ≡ length earlier + k = omega (arith, length-append earlier members, p.0) in
      subst (λ (i : ℕ). IsDefinitionOf (earlier ++ (members ++ all_members groups)) i d) z
      (subst (λ (ds : List Definition). IsDefinitionOf ds (length (earlier ++ members) + (k - length members)) d) (append_assoc earlier members (all_members groups)) (each_of (earlier ++ members) groups h.1 (k - length members) d p.1))
]

pub definition_of_world : (ds : List Definition) (counts : List ℕ) → IsWorld ds counts → (i : ℕ) (d : Definition) → slice_get ds i ≡ Some d → IsDefinitionOf ds i d
definition_of_world ds counts w i d e =
    let z : 0 + i ≡ i = omega arith in
    subst (λ (es : List Definition). IsDefinitionOf es i d) w.all (subst (λ (k : ℕ). IsDefinitionOf (all_members w.groups) k d) z (each_of [] w.groups w.cliques i d (ap (λ (es : List Definition). slice_get es i) w.all ∙ e)))

pub world_closed : (ds : List Definition) (counts : List ℕ) → IsWorld ds counts → IsClosed ds
world_closed ds counts w i d e = (definition_of_world ds counts w i d e).body

pub world_ground : (ds : List Definition) (counts : List ℕ) → IsWorld ds counts → AreGround ds
world_ground ds counts w i d e = (definition_of_world ds counts w i d e).same_ground

-- ---- a world with one clique more
cliques_push : (earlier : List Definition) (groups : List (List Definition)) (members : List Definition) → AreCliques earlier groups → IsClique (earlier ++ all_members groups) members → AreCliques earlier (groups ++ members ∷ [])
cliques_push earlier [] members h c = (subst (λ (ds : List Definition). IsClique ds members) (append-nil earlier) c, tt)
cliques_push earlier (g ∷ groups) members h c = (h.0, cliques_push (earlier ++ g) groups members h.1 (subst (λ (ds : List Definition). IsClique ds members) (sym (append_assoc earlier g (all_members groups))) c))

all_push : (groups : List (List Definition)) (members : List Definition) → all_members (groups ++ members ∷ []) ≡ all_members groups ++ members
all_push [] members = append-nil members
all_push (g ∷ groups) members = ap (λ (ds : List Definition). g ++ ds) (all_push groups members) ∙ sym (append_assoc g (all_members groups) members)

pub world_push : (ds : List Definition) (counts : List ℕ) (members : List Definition) → IsWorld ds counts → IsClique ds members → IsWorld (ds ++ members) (counts ++ length members ∷ [])
world_push ds counts members w c = record {
  groups = w.groups ++ members ∷ [];
  all = all_push w.groups members ∙ ap (λ (es : List Definition). es ++ members) w.all;
  counted = map-append length w.groups (members ∷ []) ∙ ap (λ (ns : List ℕ). ns ++ length members ∷ []) w.counted;
  cliques = cliques_push [] w.groups members w.cliques (subst (λ (es : List Definition). IsClique es members) (sym w.all) c);
}

pub no_world : IsWorld [] []
no_world = record { groups = []; all = refl; counted = refl; cliques = tt }

-- a definition alone is a clique
one_of : (ds : List Definition) (d : Definition) → IsDefinitionOf (ds ++ d ∷ []) (length ds) d → (k : ℕ) (e : Definition) → slice_get (d ∷ []) k ≡ Some e → IsDefinitionOf (ds ++ d ∷ []) (length ds + k) e
one_of ds d h zero e q = let z : length ds ≡ length ds + 0 = omega arith in subst (λ (i : ℕ). IsDefinitionOf (ds ++ d ∷ []) i e) z (subst (λ (c : Definition). IsDefinitionOf (ds ++ d ∷ []) (length ds) c) (some_same d e q) h)
one_of ds d h (suc k) e q = none_some e q

pub clique_of_one : (ds : List Definition) (d : Definition) → AreDifferentNames d.formals → IsTermOf (ds ++ d ∷ []) d.body → IsGround (length ds) d → IsAdmissible (length ds) (d ∷ []) → IsClique ds (d ∷ [])
clique_of_one ds d formals body ground steps = record { each = one_of ds d (record { formals = formals; body = body; same_ground = ground }); admissible = steps }
