-- Ids and states that stand for one thing in whatever arena more cells are added to.
use Rattle.std.proofs.Common.{◌≡◌, ◌∙◌, ap, sym, refl, ℕ, zero, suc, ◌+◌, ◌-◌, List, [], ◌∷◌, ◌++◌, length, get_or, arith, pos, inl, inr, append_assoc}
use Rattle.std.proofs.lemmas.Bool.{cases_lt}
use Rattle.std.proofs.lemmas.List.{get_or-append-add}
use Rattle.gl_logic.specs.Object.{Object, Int, nil}
use Rattle.gl_logic.specs.Exp.{Exp}
use Rattle.hons_arena.specs.declared.id.Id.{Id}
use Rattle.hons_arena.specs.declared.id.IdKind.{IdKind}
use Rattle.hons_arena.specs.declared.id.IdKind.TheVariants as kind
use Rattle.hons_arena.specs.Held.{AddsCellsOf}
use Rattle.hons_arena.specs.Ids.{kind_in, number_in, object_at, object_numbered, IsLive, IsNumberBelow}
use Rattle.lisp_eval.specs.Bindings.{id_or_nil}
use Rattle.lisp_eval.specs.Frames.{Work, Focus, Visit, Apply, Give}
use Rattle.lisp_eval.specs.States.{values_of}
use Rattle.lisp_eval.proofs.Environments.{append_none}

-- ---- so many other objects, and then this one
abbrev pad : ℕ → Object → List Object
pad zero y = y ∷ []
pad (suc k) y = nil ∷ pad k y

pad_at : (k : ℕ) (y : Object) → get_or (pad k y) k nil ≡ y
pad_at zero y = refl
pad_at (suc k) y = pad_at k y

no_two : {P : Type 0} (x : Object) → Int (pos 0) ≡ x → Int (pos 1) ≡ x → P
no_two x e f = two (e ∙ sym f) where
  two : {P : Type 0} → Int (pos 0) ≡ Int (pos 1) → P
  two q = absurd cc

live_by : (objects : List Object) (k : IdKind) (n : ℕ) (x : Object) → ((more : List Object) → object_numbered (objects ++ more) k n ≡ x) → IsNumberBelow (length objects) k n
live_by objects kind.Symbol n x h = tt
live_by objects kind.Text n x h = tt
live_by objects kind.Cell n x h = elim (cases_lt n (length objects)) [
  | inl l ↦ l
  | inr l ↦
      let k = n - length objects in
      let z : length objects + k ≡ n = omega (arith, l) in
      let at : (y : Object) → y ≡ x = λ y. sym (get_or-append-add objects (pad k y) k nil ∙ pad_at k y) ∙ (ap (λ m. get_or (objects ++ pad k y) m nil) z ∙ h (pad k y)) in
      no_two x (at (Int (pos 0))) (at (Int (pos 1)))
]

-- what stands for one object is live
pub stable_live : (objects : List Object) (id : Id) (x : Object) → ((more : List Object) → object_at (objects ++ more) id ≡ x) → IsLive objects id
stable_live objects id x h = live_by objects (kind_in id) (number_in id) x h

-- ---- an arena and what it becomes
-- every arena that the later one grows to is one that the earlier one grows to
abbrev pub Grows : List Object → List Object → Type 0
Grows old new = (more : List Object) → (rest : List Object) × (new ++ more ≡ old ++ rest)

pub grows_same : (objects : List Object) → Grows objects objects
grows_same objects more = (more, refl)

pub grows_added : (x : Object) (old new : List Object) → AddsCellsOf x old new → Grows old new
grows_added x old new a more = (a.made ++ more, ap (λ z. z ++ more) a.is ∙ append_assoc old a.made more)

pub still : {A : Type 0} (f : List Object → A) (x : A) (old new : List Object) → Grows old new → ((more : List Object) → f (old ++ more) ≡ x) → (more : List Object) → f (new ++ more) ≡ x
still f x old new g h more = let k = g more in ap f k.1 ∙ h k.0

-- ---- parts of what stands
abbrev pub env_in : Focus → List (ℕ × Object)
env_in (Visit t env) = env
env_in _ = []

abbrev pub term_in : Focus → Exp → Exp
term_in (Visit t env) u = t
term_in _ u = u

abbrev pub values_in : Focus → List Object
values_in (Apply w xs) = xs
values_in _ = []

abbrev pub work_in : Focus → Work → Work
work_in (Apply w xs) v = w
work_in _ v = v

abbrev pub value_in : Focus → Object
value_in (Give x) = x
value_in _ = nil

value_at : (objects : List Object) (ids : List Id) (i : ℕ) → object_at objects (id_or_nil ids i) ≡ get_or (values_of objects ids) i nil
value_at objects [] i = refl
value_at objects (x ∷ ids) zero = refl
value_at objects (x ∷ ids) (suc i) = value_at objects ids i

pub id_stands : (objects : List Object) (ids : List Id) (xs : List Object) (i : ℕ) → ((more : List Object) → values_of (objects ++ more) ids ≡ xs) → (more : List Object) → object_at (objects ++ more) (id_or_nil ids i) ≡ get_or xs i nil
id_stands objects ids xs i h more = value_at (objects ++ more) ids i ∙ ap (λ ys. get_or ys i nil) (h more)

pub at_once : {A : Type 0} (f : List Object → A) (x : A) (objects : List Object) → ((more : List Object) → f (objects ++ more) ≡ x) → f objects ≡ x
at_once f x objects h = ap f (sym (append_none objects)) ∙ h []

-- ---- the last frame
pub last_same : {A : Type 0} (xs ys : List A) (x y : A) → xs ++ x ∷ [] ≡ ys ++ y ∷ [] → (xs ≡ ys) × (x ≡ y)
last_same [] [] x y e = (refl, head_same x y e) where
  head_same : {A : Type 0} (x y : A) → x ∷ [] ≡ y ∷ [] → x ≡ y
  head_same x y e = cc
last_same [] (b ∷ []) x y e = absurd cc
last_same [] (b ∷ c ∷ ys) x y e = absurd cc
last_same (a ∷ []) [] x y e = absurd cc
last_same (a ∷ b ∷ xs) [] x y e = absurd cc
last_same (a ∷ xs) (b ∷ ys) x y e =
    let k = last_same xs ys x y (tails a b (xs ++ x ∷ []) (ys ++ y ∷ []) e) in
    let h : a ≡ b = heads a b (xs ++ x ∷ []) (ys ++ y ∷ []) e in ((λ i. h i ∷ k.0 i), k.1) where
      tails : {A : Type 0} (a b : A) (us vs : List A) → a ∷ us ≡ b ∷ vs → us ≡ vs
      tails a b us vs e = cc

      heads : {A : Type 0} (a b : A) (us vs : List A) → a ∷ us ≡ b ∷ vs → a ≡ b
      heads a b us vs e = cc
