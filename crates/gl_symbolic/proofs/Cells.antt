-- From what a machine holds to the cells that an evaluation speaks of.
use Rattle.std.proofs.Common.{◌≡◌, ◌∙◌, ap, sym, subst, ℕ, ◌<◌, ◌≤◌, arith, List, ◌++◌, length, map, inl, inr, ◌⊎◌}
use Rattle.std.specs.List.{All, Contains, flat_map}
use Rattle.std.proofs.lemmas.List.Concat.{flat_map-append}
use Rattle.std.proofs.lemmas.List.Elements.{All-contains_itself, Contains-append_left, Contains-append_right, Contains-append_cases}
use Rattle.gl_logic.specs.Object.{Object}
use Rattle.gl_logic.specs.ObjectEq.{object_eq}
use Rattle.gl_logic.specs.Different.{different}
use Rattle.gl_logic.specs.Exp.{Exp}
use Rattle.gl_logic.specs.IsTermOf.{IsTermOf}
use Rattle.gl_logic.specs.IsTotal.{IsTotal}
use Rattle.gl_logic.specs.Parts.{cells_in}
use Rattle.gl_logic.specs.Counts.{seen}
use Rattle.gl_logic.specs.CellCounts.{cells, constant_cells, constants_of, world_constants}
use Rattle.gl_logic.specs.WorldSeen.{WorldSeen}
use Rattle.gl_logic.proofs.DifferentObjects.{different_once, contains_different}
use Rattle.hons_arena.proofs.Counting.{each_once_few}
use Rattle.lisp_eval.specs.Answers.{IsCrowded}
use Rattle.gl_symbolic.specs.Causes.{IsOutOfCells}

abbrev pub input_cells : List (ℕ × Object) → List Object
input_cells env = flat_map cells_in (map (λ p. p.1) env)

-- cells of an input and of the world's constants are among those of an evaluation
in_cells : (w : WorldSeen) (d : ℕ) (env : List (ℕ × Object)) (t : Exp) (y : Object) → Contains (input_cells env) y ⊎ Contains (constant_cells w) y → Contains (cells w d env t) y
in_cells w d env t y c =
    let later = constants_of t ++ seen w.definitions d env t in
    let apart : cells w d env t ≡ input_cells env ++ (constant_cells w ++ flat_map cells_in later) =
    flat_map-append cells_in (map (λ p. p.1) env) (world_constants w ++ later) ∙ ap (λ zs. input_cells env ++ zs) (flat_map-append cells_in (world_constants w) later) in
    subst (λ (zs : List Object). Contains zs y) (sym apart) (elim c [
      | inl a ↦ Contains-append_left (input_cells env) (constant_cells w ++ flat_map cells_in later) y a
      | inr b ↦ Contains-append_right (input_cells env) (constant_cells w ++ flat_map cells_in later) y (Contains-append_left (constant_cells w) (flat_map cells_in later) y b)
    ])

-- as many different objects
no_more : (xs all : List Object) → ((y : Object) → Contains xs y → Contains all y) → length (different object_eq xs) ≤ length (different object_eq all)
no_more xs all h = each_once_few (different object_eq xs) all (different_once xs) (λ k d l. h _ (contains_different xs _ (All-contains_itself (different object_eq xs) k d l)))

all_at : (P : Object → Type 0) (xs : List Object) (y : Object) → All P xs → Contains xs y → P y
all_at P xs y h c = subst P c.2 (h c.0 y c.1)

module _ (w : WorldSeen) (env : List (ℕ × Object)) (t : Exp) (start : List Object) (limit : ℕ) (held : All (λ y. Contains (constant_cells w) y) start) where
  -- what is held and the cells of the evaluation are too much
  pub from_crowd : IsCrowded w env t start limit → IsOutOfCells w limit env t
  from_crowd c =
      let all = cells w c.depth env t in
      let few : length (different object_eq (start ++ all)) ≤ length (different object_eq all) = no_more (start ++ all) all (λ y k. elim (Contains-append_cases start all y k) [
        | inl a ↦ in_cells w c.depth env t y (inr (all_at (λ z. Contains (constant_cells w) z) start y held a))
        | inr b ↦ b
      ]) in
      record { depth = c.depth; value = c.value; has = c.has; more = omega (arith, few, c.more) }

  -- what is held and the cells of the input are too much
  pub from_input : IsTotal w.definitions → IsTermOf w.definitions t → limit < length (different object_eq (start ++ input_cells env)) → IsOutOfCells w limit env t
  from_input total of more =
      let v = total env t of in
      let d = v.1.0 in
      let few : length (different object_eq (start ++ input_cells env)) ≤ length (different object_eq (cells w d env t)) = no_more (start ++ input_cells env) (cells w d env t) (λ y k. in_cells w d env t y (elim (Contains-append_cases start (input_cells env) y k) [
        | inl a ↦ inr (all_at (λ z. Contains (constant_cells w) z) start y held a)
        | inr b ↦ inl b
      ])) in
      record { depth = d; value = v.0; has = v.1.1; more = omega (arith, few, more) }

-- the cells of the world's constants alone are too much
pub from_constants : (w : WorldSeen) (env : List (ℕ × Object)) (t : Exp) (limit : ℕ) → IsTotal w.definitions → IsTermOf w.definitions t → limit < length (different object_eq (constant_cells w)) → IsOutOfCells w limit env t
from_constants w env t limit total of more =
    let v = total env t of in
    let d = v.1.0 in
    let few : length (different object_eq (constant_cells w)) ≤ length (different object_eq (cells w d env t)) = no_more (constant_cells w) (cells w d env t) (λ y k. in_cells w d env t y (inr k)) in
    record { depth = d; value = v.0; has = v.1.1; more = omega (arith, few, more) }
