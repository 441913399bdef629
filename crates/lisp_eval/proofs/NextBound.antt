-- Names bound one after the other, in a loop.
use Rattle.std.proofs.Common.{◌≡◌, ap, sym, subst, refl, arith, ℕ, ◌+◌, ◌≤◌, List, [], ◌∷◌, ◌++◌, drop, length, slice_get, Some, Ok, Err, Result}
use Rattle.gl_logic.specs.Definition.{Definition}
use Rattle.gl_logic.specs.Object.{Object}
use Rattle.gl_logic.specs.TermOf.{term_of, terms_of}
use Rattle.gl_logic.specs.declared.term.Term.{Term}
use Rattle.hons_arena.specs.Held.{Held, IsWhole}
use Rattle.lisp_eval.specs.Frameless.{BindsFound, BindsUpTo}
use Rattle.lisp_eval.specs.Answers.{HasGrown}
use Rattle.lisp_eval.specs.Directs.{scope_env, in_scope, IsLiveScope}
use Rattle.lisp_eval.specs.declared.attempt.Found.{Found}
use Rattle.lisp_eval.specs.declared.attempt.Scope.{Scope}
use Rattle.lisp_eval.specs.declared.attempt.Stop.{Stop}
use Rattle.lisp_eval.specs.declared.attempt.Stop.TheVariants as stop
use Rattle.lisp_eval.specs.declared.value.Local.{Local}
use Rattle.lisp_eval.proofs.Entering.{scope_grown}
use Rattle.lisp_eval.proofs.Advancing.{Told, nothing_left, first_left, none_bound, none_held, first_stops, first_unheld, later_bound}

-- what binds the names behind a place has bound all
abbrev pub BindsBehind : List Definition → List ℕ → List (ℕ × Object) → List ℕ → List Term → ℕ → Held → List Local → Held → ℕ → List Local → ℕ → Type 0
BindsBehind ds fs env names ts left old before mid rest middle from = (new : Held) (after : List Local) (answer : Result ℕ Stop)
    → BindsFound ds fs env (drop from names) (terms_of (drop from ts)) rest mid new middle after answer → BindsFound ds fs env names (terms_of ts) left old new before after answer

all_left : {A : Type 0} (xs : List A) → drop 0 xs ≡ xs
all_left [] = refl
all_left (x ∷ xs) = refl

pub none_behind : (ds : List Definition) (fs : List ℕ) (env : List (ℕ × Object)) (names : List ℕ) (ts : List Term) (left : ℕ) (old : Held) (before : List Local) → BindsBehind ds fs env names ts left old before old left before 0
none_behind ds fs env names ts left old before new after answer h =
    subst (λ (ns : List ℕ). BindsFound ds fs env ns (terms_of ts) left old new before after answer) (all_left names)
    (subst (λ (us : List Term). BindsFound ds fs env (drop 0 names) (terms_of us) left old new before after answer) (all_left ts) h)

-- the names from a place on have been bound as far as another place, in an arena that the old one has grown to
module _ (ds : List Definition) (fs : List ℕ) (scope : Scope) (names : List ℕ) (ts : List Term) (left : ℕ) (old : Held) (before : List Local) (mid : Held) (whole : IsWhole mid) (grown : HasGrown old.objects mid.objects) (live : IsLiveScope old.objects scope) where
  abbrev env : List (ℕ × Object)
  env = scope_env old.objects scope

  abbrev All : Held → List Local → Result ℕ Stop → Type 0
  All = λ new after answer. BindsFound ds fs env names (terms_of ts) left old new before after answer

  abbrev Behind : Held → ℕ → List Local → ℕ → Type 0
  Behind = BindsBehind ds fs env names ts left old before

  same : scope_env mid.objects scope ≡ env
  same = (scope_grown old.objects mid.objects grown scope live).1

  pub refused : (start from : ℕ) (first middle : List Local) → Behind mid start first from → (answer : Result ℕ Stop) → answer ≡ Err stop.Memory → All mid middle answer
  refused start from first middle behind answer is = behind mid middle answer (none_held ds fs env mid (drop from names) (terms_of (drop from ts)) start first middle answer whole is)

  module _ (start from : ℕ) (first : List Local) (behind : Behind mid start first from) (rest to : ℕ) (middle : List Local) (upto : BindsUpTo (in_scope scope) names ts from start rest first middle to) where
    further : Behind mid rest middle to
    further new after answer h =
        behind new after answer (subst (λ e. BindsFound ds fs e (drop from names) (terms_of (drop from ts)) start mid new first after answer) same
        (upto ds fs mid new after answer whole (subst (λ e. BindsFound ds fs e (drop to names) (terms_of (drop to ts)) rest mid new middle after answer) (sym same) h)))

    pub all_bound : length ts ≡ length names → length ts ≤ to → All mid middle (Ok rest)
    all_bound count end =
        further mid middle (Ok rest) (none_bound ds fs env mid (drop to names) (terms_of (drop to ts)) rest middle whole (nothing_left names to (omega (arith, count, end))) (ap terms_of (nothing_left ts to end)))

    module _ (t : Term) (there : slice_get ts to ≡ Some t) (late : Held) where
      told_here : (r : Result Found Stop) → Told ds fs (scope_env mid.objects scope) (term_of t) rest mid late r → Told ds fs env (term_of t) rest mid late r
      told_here r h = subst (λ e. Told ds fs e (term_of t) rest mid late r) same h

      pub one_stops : (e : Stop) (answer : Result ℕ Stop) → answer ≡ Err e → Told ds fs (scope_env mid.objects scope) (term_of t) rest mid late (Err e) → All late middle answer
      one_stops e answer is h =
          further late middle answer
          (first_stops ds fs env (terms_of (drop to ts)) (term_of t) (terms_of (drop (to + 1) ts)) (ap terms_of (first_left ts to t there)) rest (drop to names) mid late middle e middle answer is (told_here (Err e) h))

      pub one_unheld : (r : Result Found Stop) (after : List Local) (answer : Result ℕ Stop) → answer ≡ Err stop.Memory → Told ds fs (scope_env mid.objects scope) (term_of t) rest mid late r → All late after answer
      one_unheld r after answer is h =
          further late after answer
          (first_unheld ds fs env (terms_of (drop to ts)) (term_of t) (terms_of (drop (to + 1) ts)) (ap terms_of (first_left ts to t there)) rest (drop to names) mid late middle r after answer is (told_here r h))

      pub one_bound : (f : Found) → Told ds fs (scope_env mid.objects scope) (term_of t) rest mid late (Ok f) → (l : Local) → l.value ≡ f.value → slice_get names to ≡ Some l.name.number → (all : List Local) → all ≡ middle ++ l ∷ []
          → Behind late f.left all (to + 1)
      one_bound f h l value name all is new after answer behind_it =
          let next = subst (λ (ls : List Local). BindsFound ds fs env (drop (to + 1) names) (terms_of (drop (to + 1) ts)) f.left late new ls after answer) is behind_it in
          further new after answer
          (later_bound ds fs env (terms_of (drop to ts)) (term_of t) (terms_of (drop (to + 1) ts)) (ap terms_of (first_left ts to t there)) rest (drop to names) mid late middle f (told_here (Ok f) h) l value to names (first_left names to l.name.number name) new after answer next)
