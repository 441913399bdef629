-- An application that is taken apart.
use Rattle.std.proofs.Common.{◌≡◌, ℕ, ◌+◌, ◌<◌, Bool, true, false, not, ◌&&◌, cond, List, [], ◌∷◌, length, refl, ap, sym, ◌∙◌, arith, subst}
use Rattle.bfr_store.specs.declared.edge.Edge.{Edge}
use Rattle.bfr_store.specs.declared.meaning.Meaning.{Ghosts}
use Rattle.gl_logic.specs.Object.{Object, Cons}
use Rattle.gl_logic.specs.ObjectEq.{object_eq}
use Rattle.gl_logic.specs.PrimValue.{prim_of}
use Rattle.gl_logic.specs.declared.prim.Primitive.{Primitive}
use Rattle.gl_logic.specs.declared.prim.Primitive.TheVariants as prim
use Rattle.int_prims.specs.Integers.{IsTooWide}
use Rattle.sym_objects.specs.declared.sob.Sob.{Sob}
use Rattle.sym_objects.specs.declared.sob.SobNode.{SobNode}
use Rattle.sym_objects.specs.declared.sob.SobNode.TheVariants as kind
use Rattle.sym_objects.specs.Nodes.{IsObjectOf, PartsBelow, SeenEdgesLive}
use Rattle.sym_objects.specs.Seen.{SobsSeen, IsLive, IsWhole, stands_for}
use Rattle.sym_prims.specs.Applying.{Leaves}
use Rattle.sym_prims.specs.Frames.{AreBranches, AreFrames, IsTask, IsValueOf, IsWithin, Steps, both, cars_of, cdrs_of, joined, value_of}
use Rattle.sym_prims.specs.declared.frames.Task.{Task}
use Rattle.sym_prims.specs.declared.frames.Joining.TheVariants as joining
use Rattle.sym_prims.specs.declared.frames.Frame.{Frame}
use Rattle.sym_prims.specs.declared.frames.Frame.TheVariants as frame
use Rattle.sym_prims.specs.declared.frames.Focus.TheVariants as focus
use Rattle.sym_prims.specs.declared.nodes.Conses.{Conses}
use Rattle.sym_prims.proofs.Leaving.{leaves_none}
use Rattle.sym_prims.proofs.Pairing.{first_choice, second_choice, both_truths, never_wide}
use Rattle.sym_prims.proofs.Stepping.{steps_apply, steps_two, task_kept, value_kept, path_kept}

equal_parts : (a d b e x y z w : Object) → z ≡ Cons a d → w ≡ Cons b e → x ≡ prim_of prim.Equal a b → y ≡ prim_of prim.Equal d e → both x y ≡ prim_of prim.Equal z w
equal_parts a d b e x y z w ez ew ex ey = (λ i. both (ex i) (ey i)) ∙ (both_truths (object_eq a b) (object_eq d e) ∙ (λ i. prim_of prim.Equal (sym ez i) (sym ew i)))

and_first : (b c : Bool) → (b && c) ≡ true → b ≡ true
and_first true c h = refl
and_first false c h = h

and_second : (b c : Bool) → (b && c) ≡ true → c ≡ true
and_second true c h = h
and_second false c h = absurd (off h) where
  off : false ≡ true → ⊥
  off h = cc

and_true : (b c : Bool) → b ≡ true → c ≡ true → (b && c) ≡ true
and_true b c h k = λ i. h i && k i

-- where the conjunction never holds and the first does, the second does not
and_never : (b c : Bool) → (b && c) ≡ false → b ≡ true → c ≡ false
and_never true c h k = h
and_never false c h k = absurd (off k) where
  off : false ≡ true → ⊥
  off h = cc

choose_true : {A : Type 0} (b : Bool) (x y : A) → b ≡ true → cond b x y ≡ x
choose_true true x y h = refl
choose_true false x y h = absurd (off h) where
  off : false ≡ true → ⊥
  off h = cc

choose_false : {A : Type 0} (b : Bool) (x y : A) → b ≡ false → cond b x y ≡ y
choose_false false x y h = refl
choose_false true x y h = absurd (off h) where
  off : true ≡ false → ⊥
  off h = cc

not_false : (b : Bool) → not b ≡ false → b ≡ true
not_false true h = refl
not_false false h = absurd (off h) where
  off : true ≡ false → ⊥
  off h = cc

module _ {B : Type 0} (g : Ghosts B) (p : Primitive) where
  means_at : (s : SobsSeen B) (x : Sob) (n m : SobNode) → n ≡ m → ((a : ℕ → Bool) → IsObjectOf (λ e. g.truth_of s.store e a) (λ y. stands_for g s y a) n (stands_for g s x a))
      → (a : ℕ → Bool) → IsObjectOf (λ e. g.truth_of s.store e a) (λ y. stands_for g s y a) m (stands_for g s x a)
  means_at s x n m e h a = subst (λ (k : SobNode). IsObjectOf (λ c. g.truth_of s.store c a) (λ y. stands_for g s y a) k (stands_for g s x a)) e (h a)

  pub first_branches : (s : SobsSeen B) (t : Task) (n : SobNode) (e : Edge) (u v : Sob) (then other : Task) → n ≡ kind.Choice e u v → then ≡ record t { first = u } → other ≡ record t { first = v } → IsTask g s t → PartsBelow t.first.number n
      → ((a : ℕ → Bool) → IsObjectOf (λ e. g.truth_of s.store e a) (λ y. stands_for g s y a) n (stands_for g s t.first a)) → AreBranches g s p e t then other
  first_branches s t n e u v then other is it io l below means =
      let parts : PartsBelow t.first.number (kind.Choice e u v) = subst (λ (k : SobNode). PartsBelow t.first.number k) is below in
      let lu : u.number < length s.nodes = omega (arith, parts.0, l.0) in
      let lv : v.number < length s.nodes = omega (arith, parts.1, l.0) in
      let made : AreBranches g s p e t (record t { first = u }) (record t { first = v }) = record {
        then_live = (lu, l.1, l.2);
        other_live = (lv, l.1, l.2);
        then_path = refl;
        other_path = refl;
        then_less = omega (arith, parts.0);
        other_less = omega (arith, parts.1);
        value = λ a. ap (λ z. prim_of p z (stands_for g s t.second a)) (means_at s t.first n (kind.Choice e u v) is means a)
            ∙ first_choice p (g.truth_of s.store e a) (stands_for g s u a) (stands_for g s v a) (stands_for g s t.second a);
      } in
      subst (λ (q : Task). AreBranches g s p e t q other) (sym it) (subst (λ (q : Task). AreBranches g s p e t (record t { first = u }) q) (sym io) made)

  pub second_branches : (s : SobsSeen B) (t : Task) (n : SobNode) (e : Edge) (u v : Sob) (then other : Task) → n ≡ kind.Choice e u v → then ≡ record t { second = u } → other ≡ record t { second = v } → IsTask g s t → PartsBelow t.second.number n
      → ((a : ℕ → Bool) → IsObjectOf (λ e. g.truth_of s.store e a) (λ y. stands_for g s y a) n (stands_for g s t.second a)) → AreBranches g s p e t then other
  second_branches s t n e u v then other is it io l below means =
      let parts : PartsBelow t.second.number (kind.Choice e u v) = subst (λ (k : SobNode). PartsBelow t.second.number k) is below in
      let lu : u.number < length s.nodes = omega (arith, parts.0, l.1) in
      let lv : v.number < length s.nodes = omega (arith, parts.1, l.1) in
      let made : AreBranches g s p e t (record t { second = u }) (record t { second = v }) = record {
        then_live = (l.0, lu, l.2);
        other_live = (l.0, lv, l.2);
        then_path = refl;
        other_path = refl;
        then_less = omega (arith, parts.0);
        other_less = omega (arith, parts.1);
        value = λ a. ap (λ z. prim_of p (stands_for g s t.first a) z) (means_at s t.second n (kind.Choice e u v) is means a)
            ∙ second_choice p (g.truth_of s.store e a) (stands_for g s t.first a) (stands_for g s u a) (stands_for g s v a);
      } in
      subst (λ (q : Task). AreBranches g s p e t q other) (sym it) (subst (λ (q : Task). AreBranches g s p e t (record t { second = u }) q) (sym io) made)

  pub test_live : (s : SobsSeen B) (n : SobNode) (e : Edge) (u v : Sob) → n ≡ kind.Choice e u v → SeenEdgesLive (g.live s.store) n → g.live s.store e
  test_live s n e u v is l = subst (λ (k : SobNode). SeenEdgesLive (g.live s.store) k) is l

  -- one branch is not reached
  module _ (old new : SobsSeen B) (kept : Leaves g old new) (fs : List Frame) (t then other : Task) (e : Edge) (l : AreFrames g old fs) (it : IsTask g old t) (br : AreBranches g old p e t then other) where
    pub only_other : ((a : ℕ → Bool) → (g.truth_of old.store t.path a && g.truth_of old.store e a) ≡ false) → Steps g p old new fs fs (focus.Apply t) (focus.Apply other)
    only_other never = steps_apply g p old new kept fs t other l it br.other_live br.other_path br.other_less
        (λ a h. br.value a ∙ choose_false (g.truth_of old.store e a) (value_of g old p then a) (value_of g old p other a) (and_never (g.truth_of old.store t.path a) (g.truth_of old.store e a) (never a) h))

    pub only_then : ((a : ℕ → Bool) → (g.truth_of old.store t.path a && not (g.truth_of old.store e a)) ≡ false) → Steps g p old new fs fs (focus.Apply t) (focus.Apply then)
    only_then never = steps_apply g p old new kept fs t then l it br.then_live br.then_path br.then_less
        (λ a h. br.value a ∙ choose_true (g.truth_of old.store e a) (value_of g old p then a) (value_of g old p other a) (not_false (g.truth_of old.store e a) (and_never (g.truth_of old.store t.path a) (not (g.truth_of old.store e a)) (never a) h)))

    -- both are, each under its part of the path
    pub both_branches : (taken off : Edge) → g.live old.store e → g.live new.store taken → g.live new.store off
        → ((a : ℕ → Bool) → g.truth_of new.store taken a ≡ (g.truth_of old.store t.path a && g.truth_of old.store e a))
        → ((a : ℕ → Bool) → g.truth_of new.store off a ≡ (g.truth_of old.store t.path a && not (g.truth_of old.store e a)))
        → Steps g p old new fs (frame.Second (joining.Choice e) (record other { path = off }) ∷ frame.Keep t ∷ fs) (focus.Apply t) (focus.Apply (record then { path = taken }))
    both_branches taken off le ly ln ty tn =
        let u : Task = record then { path = taken } in
        let v : Task = record other { path = off } in
        let ku = task_kept g p old new kept then br.then_live in
        let kv = task_kept g p old new kept other br.other_live in
        let test = λ (a : ℕ → Bool). kept.grows.store.same e a le in
        steps_two g p old new kept fs t u v (joining.Choice e) l it (ku.0, ku.1, ly) (kv.0, kv.1, ln) (kept.grows.store.stays e le) br.then_less br.other_less
        (λ a x y vx vy h. by_test a x y vx vy h (g.truth_of old.store e a) refl)
        (λ path object lp w. (
          (λ a h. let q = w a (and_first (g.truth_of old.store t.path a) (g.truth_of old.store e a) (sym (ty a) ∙ h)) in
              (kept.grows.store.same path a lp ∙ q.0, λ wide. q.1 (subst IsTooWide (value_kept g p old new kept then a br.then_live ∙ sym (is_then a (and_second (g.truth_of old.store t.path a) (g.truth_of old.store e a) (sym (ty a) ∙ h)))) wide))),
          (λ a h. let q = w a (and_first (g.truth_of old.store t.path a) (not (g.truth_of old.store e a)) (sym (tn a) ∙ h)) in
              (kept.grows.store.same path a lp ∙ q.0, λ wide. q.1 (subst IsTooWide (value_kept g p old new kept other a br.other_live ∙ sym (is_other a (not_true (g.truth_of old.store e a) (and_second (g.truth_of old.store t.path a) (not (g.truth_of old.store e a)) (sym (tn a) ∙ h))))) wide))),
        ))
      where
        not_true : (b : Bool) → not b ≡ true → b ≡ false
        not_true true h = sym h
        not_true false h = refl

        is_then : (a : ℕ → Bool) → g.truth_of old.store e a ≡ true → value_of g old p t a ≡ value_of g old p then a
        is_then a h = br.value a ∙ choose_true (g.truth_of old.store e a) (value_of g old p then a) (value_of g old p other a) h

        is_other : (a : ℕ → Bool) → g.truth_of old.store e a ≡ false → value_of g old p t a ≡ value_of g old p other a
        is_other a h = br.value a ∙ choose_false (g.truth_of old.store e a) (value_of g old p then a) (value_of g old p other a) h

        by_test : (a : ℕ → Bool) (x y : Object) → (g.truth_of new.store taken a ≡ true → x ≡ value_of g new p then a) → (g.truth_of new.store off a ≡ true → y ≡ value_of g new p other a)
            → g.truth_of old.store t.path a ≡ true → (b : Bool) → g.truth_of old.store e a ≡ b → cond (g.truth_of new.store e a) x y ≡ value_of g old p t a
        by_test a x y vx vy h true is =
            choose_true (g.truth_of new.store e a) x y (kept.grows.store.same e a le ∙ is)
            ∙ (vx (ty a ∙ and_true (g.truth_of old.store t.path a) (g.truth_of old.store e a) h is) ∙ (value_kept g p old new kept then a br.then_live ∙ sym (is_then a is)))
        by_test a x y vx vy h false is =
            choose_false (g.truth_of new.store e a) x y (kept.grows.store.same e a le ∙ is)
            ∙ (vy (tn a ∙ and_true (g.truth_of old.store t.path a) (not (g.truth_of old.store e a)) h (ap not is)) ∙ (value_kept g p old new kept other a br.other_live ∙ sym (is_other a is)))

-- two conses whose equality is asked
pub steps_conses : {B : Type 0} (g : Ghosts B) (p : Primitive) (s : SobsSeen B) (fs : List Frame) (t : Task) (c : Conses) (n m : SobNode) → p ≡ prim.Equal → n ≡ kind.Pair c.first_car c.first_cdr → m ≡ kind.Pair c.second_car c.second_cdr
    → IsWhole g s → AreFrames g s fs → IsTask g s t → PartsBelow t.first.number n → PartsBelow t.second.number m
    → ((a : ℕ → Bool) → IsObjectOf (λ e. g.truth_of s.store e a) (λ y. stands_for g s y a) n (stands_for g s t.first a))
    → ((a : ℕ → Bool) → IsObjectOf (λ e. g.truth_of s.store e a) (λ y. stands_for g s y a) m (stands_for g s t.second a))
    → Steps g p s s fs (frame.Second joining.Both (cdrs_of t c) ∷ frame.Keep t ∷ fs) (focus.Apply t) (focus.Apply (cars_of t c))
steps_conses g p s fs t c n m e in_ im w l it bn bm mn mm = subst (λ (q : Primitive). Steps g q s s fs (frame.Second joining.Both (cdrs_of t c) ∷ frame.Keep t ∷ fs) (focus.Apply t) (focus.Apply (cars_of t c))) (sym e) of_equal where
  of_equal : Steps g prim.Equal s s fs (frame.Second joining.Both (cdrs_of t c) ∷ frame.Keep t ∷ fs) (focus.Apply t) (focus.Apply (cars_of t c))
  of_equal =
      let first : PartsBelow t.first.number (kind.Pair c.first_car c.first_cdr) = subst (λ (k : SobNode). PartsBelow t.first.number k) in_ bn in
      let second : PartsBelow t.second.number (kind.Pair c.second_car c.second_cdr) = subst (λ (k : SobNode). PartsBelow t.second.number k) im bm in
      let la : c.first_car.number < length s.nodes = omega (arith, first.0, it.0) in
      let ld : c.first_cdr.number < length s.nodes = omega (arith, first.1, it.0) in
      let lb : c.second_car.number < length s.nodes = omega (arith, second.0, it.1) in
      let le : c.second_cdr.number < length s.nodes = omega (arith, second.1, it.1) in
      steps_two g prim.Equal s s (leaves_none g s w) fs t (cars_of t c) (cdrs_of t c) joining.Both l it (la, lb, it.2) (ld, le, it.2) tt (omega (arith, first.0, second.0)) (omega (arith, first.1, second.1))
      (λ a x y vx vy h. equal_parts (stands_for g s c.first_car a) (stands_for g s c.first_cdr a) (stands_for g s c.second_car a) (stands_for g s c.second_cdr a) x y (stands_for g s t.first a) (stands_for g s t.second a)
      (means_at g prim.Equal s t.first n (kind.Pair c.first_car c.first_cdr) in_ mn a) (means_at g prim.Equal s t.second m (kind.Pair c.second_car c.second_cdr) im mm a) (vx h) (vy h))
      (λ path object lp q. (
        (λ a h. ((q a h).0, λ wide. absurd (never_wide (object_eq (stands_for g s c.first_car a) (stands_for g s c.second_car a)) wide))),
        (λ a h. ((q a h).0, λ wide. absurd (never_wide (object_eq (stands_for g s c.first_cdr a) (stands_for g s c.second_cdr a)) wide))),
      ))
