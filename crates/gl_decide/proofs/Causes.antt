-- From what a machine refuses to the causes of a theorem's part.
use Rattle.std.proofs.Common.{◌≡◌, ◌≢◌, ◌∙◌, ap, sym, refl, subst, ℕ, ◌<◌, ◌≤◌, arith, List, ◌++◌, length, map, Result, Err, inl, inr, ◌⊎◌}
use Rattle.std.specs.List.{Contains, flat_map}
use Rattle.std.proofs.lemmas.List.Concat.{flat_map-append}
use Rattle.std.proofs.lemmas.List.Elements.{All-contains_itself, Contains-append_left, Contains-append_right, Contains-append_cases}
use Rattle.gl_logic.specs.Object.{Object}
use Rattle.gl_logic.specs.ObjectEq.{object_eq}
use Rattle.gl_logic.specs.Different.{different}
use Rattle.gl_logic.specs.Exp.{Exp}
use Rattle.gl_logic.specs.IsTermOf.{IsTermOf}
use Rattle.gl_logic.specs.IsTotal.{IsTotal}
use Rattle.gl_logic.specs.Parts.{cells_in}
use Rattle.gl_logic.specs.Counts.{seen}
use Rattle.gl_logic.specs.CellCounts.{cells, constant_cells, constants_of, world_constants}
use Rattle.gl_logic.specs.WorldSeen.{WorldSeen}
use Rattle.gl_logic.proofs.DifferentObjects.{different_once, contains_different}
use Rattle.hons_arena.specs.declared.id.Id.{Id}
use Rattle.hons_arena.specs.Held.{Held}
use Rattle.hons_arena.proofs.Counting.{each_once_few}
use Rattle.lisp_eval.specs.Answers.{IsDear, IsCrowded, IsLicensed}
use Rattle.lisp_eval.specs.MachineCalls.{HasTooManyConstants}
use Rattle.lisp_eval.specs.declared.fault.EvalFault.{EvalFault}
use Rattle.lisp_eval.specs.declared.fault.EvalFault.TheVariants as fault
use Rattle.shape_spec.specs.declared.theorem.Part.{Part}
use Rattle.gl_decide.specs.Causes.{IsOutOfSteps, IsOutOfCells}
use Rattle.shape_spec.specs.TheoremSeen.{TheoremSeen}
use Rattle.gl_decide.specs.TheoremAt.{term_at}
use Rattle.gl_decide.specs.Scans.{HasCause}
use Rattle.gl_decide.specs.Placed.{input_cells, HasLicense}

-- ---- cells of an input and of the world's constants are among those of an evaluation
pub in_cells : (w : WorldSeen) (d : ℕ) (env : List (ℕ × Object)) (t : Exp) (y : Object) → Contains (input_cells env) y ⊎ Contains (constant_cells w) y → Contains (cells w d env t) y
in_cells w d env t y c =
    let later = constants_of t ++ seen w.definitions d env t in
    let apart : cells w d env t ≡ input_cells env ++ (constant_cells w ++ flat_map cells_in later) =
    flat_map-append cells_in (map (λ p. p.1) env) (world_constants w ++ later) ∙ ap (λ zs. input_cells env ++ zs) (flat_map-append cells_in (world_constants w) later) in
    subst (λ (zs : List Object). Contains zs y) (sym apart) (elim c [
      | inl a ↦ Contains-append_left (input_cells env) (constant_cells w ++ flat_map cells_in later) y a
      | inr b ↦ Contains-append_right (input_cells env) (constant_cells w ++ flat_map cells_in later) y (Contains-append_left (constant_cells w) (flat_map cells_in later) y b)
    ])

-- ---- as many different objects
pub no_more : (xs all : List Object) → ((y : Object) → Contains xs y → Contains all y) → length (different object_eq xs) ≤ length (different object_eq all)
no_more xs all h = each_once_few (different object_eq xs) all (different_once xs) (λ k d l. h _ (contains_different xs _ (All-contains_itself (different object_eq xs) k d l)))

module _ (w : WorldSeen) (env : List (ℕ × Object)) (t : Exp) where
  pub from_crowd : (start : List Object) (limit : ℕ) → ((y : Object) → Contains start y → Contains (input_cells env) y ⊎ Contains (constant_cells w) y) → IsCrowded w env t start limit → IsOutOfCells w limit env t
  from_crowd start limit h c =
      let all = cells w c.depth env t in
      let few : length (different object_eq (start ++ all)) ≤ length (different object_eq all) = no_more (start ++ all) all (λ y k. elim (Contains-append_cases start all y k) [
        | inl a ↦ in_cells w c.depth env t y (h y a)
        | inr b ↦ b
      ]) in
      record { depth = c.depth; value = c.value; has = c.has; more = omega (arith, few, c.more) }

  -- what is held before the evaluation begins is too much
  pub from_start : (xs : List Object) (limit : ℕ) → IsTotal w.definitions → IsTermOf w.definitions t → ((y : Object) → Contains xs y → Contains (input_cells env) y ⊎ Contains (constant_cells w) y) → limit < length (different object_eq xs) → IsOutOfCells w limit env t
  from_start xs limit total of h more =
      let v = total env t of in
      let d = v.1.0 in
      let few : length (different object_eq xs) ≤ length (different object_eq (cells w d env t)) = no_more xs (cells w d env t) (λ y k. in_cells w d env t y (h y k)) in
      record { depth = d; value = v.0; has = v.1.1; more = omega (arith, few, more) }

  pub from_constants : (limit : ℕ) → IsTotal w.definitions → IsTermOf w.definitions t → HasTooManyConstants w limit → IsOutOfCells w limit env t
  from_constants limit total of more = from_start (constant_cells w) limit total of (λ y k. inr k) more

  pub from_dear : (functions memoized : List ℕ) (steps : ℕ) → functions ≡ memoized → IsDear w functions env t steps → IsOutOfSteps w memoized steps env t
  from_dear functions memoized steps e c = subst (λ (fs : List ℕ). IsOutOfSteps w fs steps env t) e (record { depth = c.depth; value = c.value; has = c.has; more = c.more })

-- ---- a refusal of an evaluation
pub license_of : (w : WorldSeen) (functions : List ℕ) (env : List (ℕ × Object)) (t : Exp) (steps : ℕ) (arena : Held) (r : Result Id EvalFault) (f : EvalFault) → r ≡ Err f → IsLicensed w functions env t steps arena r → HasLicense w functions env t steps arena f
license_of w functions env t steps arena r fault.Width e l = l.width (rw e refl)
license_of w functions env t steps arena r fault.Steps e l = l.steps_more (rw e refl)
license_of w functions env t steps arena r fault.Cells e l = l.cells_more (rw e refl)
license_of w functions env t steps arena r fault.Memory e l = tt

pub cause_of : (w : WorldSeen) (functions : List ℕ) (thm : TheoremSeen) (part : Part) (env : List (ℕ × Object)) (steps : ℕ) (arena : Held) (f : EvalFault) → functions ≡ thm.memoized → ((y : Object) → Contains arena.objects y → Contains (input_cells env) y ⊎ Contains (constant_cells w) y)
    → HasLicense w functions env (term_at thm part) steps arena f → f ≢ fault.Memory → HasCause w steps arena.limit thm part env f
cause_of w functions thm part env steps arena fault.Width m h l n = l
cause_of w functions thm part env steps arena fault.Steps m h l n = from_dear w env (term_at thm part) functions thm.memoized steps m l
cause_of w functions thm part env steps arena fault.Cells m h l n = from_crowd w env (term_at thm part) arena.objects arena.limit h l
cause_of w functions thm part env steps arena fault.Memory m h l n = absurd (n refl)
