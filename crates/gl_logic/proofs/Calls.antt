-- Calls: when two are the same, and that none is made inside itself.
use Rattle.std.proofs.Common.{◌≡◌, ◌∙◌, sym, refl, ℕ, zero, suc, List, [], ◌∷◌, ◌++◌, Bool, true, false, ◌||◌, eqb, Some, subst}
use Rattle.std.specs.List.{list_any, Contains}
use Rattle.std.proofs.lemmas.Bool.{and_parts, and_from, eqb-true, eq-eqb}
use Rattle.std.proofs.lemmas.List.Folds.{Any-from_list_any, list_any-from_Any}
use Rattle.gl_logic.specs.Object.{Object}
use Rattle.gl_logic.specs.ObjectEq.{object_eq}
use Rattle.gl_logic.specs.Definition.{Definition}
use Rattle.gl_logic.specs.Walk.{Walk, Walks, CallMade, opened, body_walk}
use Rattle.gl_logic.specs.Counts.{objects_eq, call_eq}
use Rattle.gl_logic.proofs.Equality.{equal_from, equal_itself}
use Rattle.gl_logic.proofs.Optional.{none_some, some_same, Holds, then_inverted}
use Rattle.gl_logic.proofs.Walks.{body_more}
use Rattle.gl_logic.specs.Every.{Every}
use Rattle.gl_logic.proofs.MadeCalls.{every_append, every_map, body_good, OpensAt}

-- ---- the test of equality decides it
objects_equal_from : (xs ys : List Object) → objects_eq xs ys ≡ true → xs ≡ ys
objects_equal_from [] [] h = refl
objects_equal_from (x ∷ xs) (y ∷ ys) h = let p = and_parts (object_eq x y) (objects_eq xs ys) h in λ i. equal_from x y p.0 i ∷ objects_equal_from xs ys p.1 i
objects_equal_from _ _ h = absurd cc

objects_equal_itself : (xs : List Object) → objects_eq xs xs ≡ true
objects_equal_itself [] = refl
objects_equal_itself (x ∷ xs) = and_from (object_eq x x) (objects_eq xs xs) (equal_itself x) (objects_equal_itself xs)

pub call_equal_from : (c d : CallMade) → call_eq c d ≡ true → c ≡ d
call_equal_from c d h = let p = and_parts (eqb c.0 d.0) (objects_eq c.1 d.1) h in λ i. (eqb-true c.0 d.0 p.0 i, objects_equal_from c.1 d.1 p.1 i)

pub call_equal_itself : (c : CallMade) → call_eq c c ≡ true
call_equal_itself c = and_from (eqb c.0 c.0) (objects_eq c.1 c.1) (eq-eqb c.0 c.0 refl) (objects_equal_itself c.1)

-- ---- being in a list of calls
abbrev pub is_made : List CallMade → CallMade → Bool
is_made cs c = list_any (call_eq c) cs

pub made_from : (cs : List CallMade) (c : CallMade) → Contains cs c → is_made cs c ≡ true
made_from cs c h = list_any-from_Any (call_eq c) cs (h.0, c, h.1, h.2, call_equal_itself c)

pub made_contains : (cs : List CallMade) (c : CallMade) → is_made cs c ≡ true → Contains cs c
made_contains cs c h =
    let a = Any-from_list_any (call_eq c) cs h in
    let e : a.1 ≡ c = sym (call_equal_from c a.1 a.4) in
    subst (λ (d : CallMade). Contains cs d) e (a.0, a.2, a.3)

every_here : (P : CallMade → Type 0) (b : Bool) (c d : CallMade) (cs : List CallMade) → call_eq c d ≡ b → (b || is_made cs c) ≡ true → P d → (is_made cs c ≡ true → P c) → P c
every_here P true c d cs e h p g = subst P (sym (call_equal_from c d e)) p
every_here P false c d cs e h p g = g h

pub every_at : (P : CallMade → Type 0) (cs : List CallMade) (c : CallMade) → Every P cs → is_made cs c ≡ true → P c
every_at P [] c h k = absurd cc
every_at P (d ∷ cs) c h k = every_here P (call_eq c d) c d cs refl k h.0 (every_at P cs c h.1)

-- ---- the calls that a walk makes open with less depth than it has
abbrev pub OpensBelow : List Definition → ℕ → CallMade → Type 0
OpensBelow ds zero c = ⊥
OpensBelow ds (suc n) c = OpensAt ds n c

below_at : (ds : List Definition) (n : ℕ) (c : CallMade) → OpensBelow ds n c → OpensAt ds n c
below_at ds zero c h = absurd h
below_at ds (suc n) c h = record { run = h.run; walks = body_more ds n c.0 c.1 h.run h.walks }

opened_below : (ds : List Definition) (n : ℕ) (f : ℕ) (xs : Walks) → Every (OpensBelow ds n) xs.made → Holds (λ (r : Walk). Every (OpensBelow ds n) r.made) (opened ds n f xs)
opened_below ds zero f xs h = λ r e. none_some r e
opened_below ds (suc n) f xs h = λ r e.
    let j = then_inverted (body_walk ds n f xs.values) _ r e in
    let inner : Every (OpensBelow ds n) j.0.made = body_good ds (opened ds n) (OpensBelow ds n) (opened_below ds n) f xs.values j.0 j.1.0 in
    let this : OpensAt ds n (f, xs.values) = record { run = j.0; walks = j.1.0 } in
    subst (λ (w : Walk). Every (OpensAt ds n) w.made) (some_same _ _ j.1.1)
    (every_append (OpensAt ds n) (xs.made ++ (f, xs.values) ∷ []) j.0.made (every_append (OpensAt ds n) xs.made ((f, xs.values) ∷ []) h (this, tt)) (every_map (OpensBelow ds n) (OpensAt ds n) j.0.made (below_at ds n) inner))

-- ---- no call is made inside itself: the inner one would open with less depth, and make itself again
pub never_inside : (ds : List Definition) (n : ℕ) (f : ℕ) (xs : List Object) (r : Walk) → body_walk ds n f xs ≡ Some r → is_made r.made (f, xs) ≡ true → ⊥
never_inside ds zero f xs r e k = every_at (OpensBelow ds zero) r.made (f, xs) (body_good ds (opened ds zero) (OpensBelow ds zero) (opened_below ds zero) f xs r e) k
never_inside ds (suc n) f xs r e k =
    let o : OpensAt ds n (f, xs) = every_at (OpensBelow ds (suc n)) r.made (f, xs) (body_good ds (opened ds (suc n)) (OpensBelow ds (suc n)) (opened_below ds (suc n)) f xs r e) k in
    let s : r ≡ o.run = some_same r o.run (sym e ∙ body_more ds n f xs o.run o.walks) in
    never_inside ds n f xs o.run o.walks (subst (λ (w : Walk). is_made w.made (f, xs) ≡ true) s k)
