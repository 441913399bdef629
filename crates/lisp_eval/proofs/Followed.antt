-- Each step of an evaluation keeps what is left of it.
use Rattle.std.proofs.Common.{◌≡◌, ◌∙◌, ap, sym, refl, ℕ, ◌+◌, List, [], ◌∷◌, ◌++◌, Option, Some, None, arith, append_assoc}
use Rattle.gl_logic.specs.Object.{Object}
use Rattle.gl_logic.specs.Definition.{Definition}
use Rattle.gl_logic.specs.Exp.{Prim}
use Rattle.gl_logic.specs.Walk.{CallMade, then}
use Rattle.lisp_eval.specs.Frames.{Frame, Focus, Give, Rest, before, followed, given, resumed, resume, focused, rest_of}

-- ---- following is associative, and giving is its unit
add_assoc : (a b c : ℕ) → a + (b + c) ≡ (a + b) + c
add_assoc a b c = omega arith

append_none : {A : Type 0} (xs : List A) → xs ++ [] ≡ xs
append_none [] = refl
append_none (x ∷ xs) = ap (λ ys. x ∷ ys) (append_none xs)

before_before : (r s : Rest) (o : Option Rest) → then (then o (before s)) (before r) ≡ then o (before (record { value = s.value; count = r.count + s.count; seen = r.seen ++ s.seen; kept = s.kept }))
before_before r s None = refl
before_before r s (Some t) = λ i. Some (record { value = t.value; count = add_assoc r.count s.count t.count i; seen = sym (append_assoc r.seen s.seen t.seen) i; kept = t.kept })

followed_some : (r : Rest) (o : Option Rest) (h : Object → List CallMade → Option Rest) → followed (then o (before r)) h ≡ then (followed o h) (before r)
followed_some r None h = refl
followed_some r (Some s) h = sym (before_before r s (h s.value s.kept))

pub followed_assoc : (o : Option Rest) (g h : Object → List CallMade → Option Rest) → followed (followed o g) h ≡ followed o (λ v k. followed (g v k) h)
followed_assoc None g h = refl
followed_assoc (Some r) g h = followed_some r (g r.value r.kept) h

zero_add : (a : ℕ) → 0 + a ≡ a
zero_add a = omega arith

add_zero : (a : ℕ) → a + 0 ≡ a
add_zero a = omega arith

none_before : (v : Object) (k : List CallMade) (o : Option Rest) → then o (before (record { value = v; count = 0; seen = []; kept = k })) ≡ o
none_before v k None = refl
none_before v k (Some r) = λ i. Some (record { value = r.value; count = zero_add r.count i; seen = r.seen; kept = r.kept })

pub followed_by_none : (o : Option Rest) → followed o given ≡ o
followed_by_none None = refl
followed_by_none (Some r) = λ i. Some (record { value = r.value; count = add_zero r.count i; seen = append_none r.seen i; kept = r.kept })

module _ (ds : List Definition) (answered functions : List ℕ) (depth : ℕ) where
  abbrev Resumed : Frame → Object → List CallMade → Option Rest
  Resumed = resumed ds answered functions depth

  abbrev Resume : List Frame → Object → List CallMade → Option Rest
  Resume = resume ds answered functions depth

  pub resume_push : (fs : List Frame) (f : Frame) (v : Object) (k : List CallMade) → Resume (fs ++ f ∷ []) v k ≡ followed (Resumed f v k) (Resume fs)
  resume_push [] f v k = none_before v k (Resumed f v k) ∙ sym (followed_by_none (Resumed f v k))
  resume_push (g ∷ fs) f v k = ap (λ o. followed o (Resumed g)) (resume_push fs f v k) ∙ followed_assoc (Resumed f v k) (Resume fs) (Resumed g)

  pub rest_push : (focus : Focus) (fs : List Frame) (f : Frame) (k : List CallMade) → rest_of ds answered functions depth focus (fs ++ f ∷ []) k ≡ followed (followed (focused ds answered functions depth focus k) (Resumed f)) (Resume fs)
  rest_push focus fs f k = ap (followed (focused ds answered functions depth focus k)) (λ i v c. resume_push fs f v c i) ∙ sym (followed_assoc (focused ds answered functions depth focus k) (Resumed f) (Resume fs))

  pub give_push : (v : Object) (fs : List Frame) (f : Frame) (k : List CallMade) → rest_of ds answered functions depth (Give v) (fs ++ f ∷ []) k ≡ followed (Resumed f v k) (Resume fs)
  give_push v fs f k = none_before v k (Resume (fs ++ f ∷ []) v k) ∙ resume_push fs f v k
