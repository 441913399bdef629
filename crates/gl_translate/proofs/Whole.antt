-- What is said of the term of a whole form.
use Rattle.std.proofs.Common.{arith, ◌≡◌, ◌∙◌, ap, sym, refl, subst, ℕ, zero, suc, Bool, true, false, ◌||◌, eqb, List, [], ◌∷◌, ◌++◌, map, length, Option, Some, None, cond}
use Rattle.std.specs.Prelude.{Result, Ok, Err, IfOk, slice_get}
use Rattle.std.specs.List.{list_any, find}
use Rattle.std.specs.Option.{option_map}
use Rattle.std.proofs.lemmas.List.{map-append}
use Rattle.std.proofs.lemmas.Int.{ints}
use Rattle.gl_logic.specs.Every.{Every}
use Rattle.gl_logic.specs.Object.{Object}
use Rattle.gl_logic.specs.Named.{object_named}
use Rattle.gl_logic.specs.Exp.{Exp}
use Rattle.gl_logic.specs.Definition.{Definition}
use Rattle.gl_logic.specs.IsTermOf.{arity_in}
use Rattle.gl_logic.specs.WorldSeen.{WorldSeen}
use Rattle.gl_translate.specs.declared.fault.TermFault.{TermFault}
use Rattle.gl_translate.specs.declared.scope.Scope.{Scope}
use Rattle.gl_translate.specs.Setting.{Setting}
use Rattle.gl_translate.specs.Meaning.{Outcome, count_at}
use Rattle.gl_translate.specs.Translation.{meaning, translation, setting_of, are_in, function_of}
use Rattle.gl_translate.specs.Answers.{Gives, IsTermWith, HasVariablesOf, IsNarrow, AreNarrow, HasNarrowConstants}
use Rattle.gl_translate.proofs.SoundTerms.{IsSound, meaning_sound, sound_is_term, sound_is_visible, sound_is_narrow}

or_false : (a : Bool) → (a || false) ≡ a
or_false true = refl
or_false false = refl

-- the variables of the scope are those that are bound at first
pub whole : (s s' : Setting) (x : Object) (v vars init : List ℕ) → s ≡ s' → init ≡ [] → ((u : ℕ) → list_any (eqb u) v ≡ (list_any (eqb u) vars || list_any (eqb u) init)) → meaning s x (are_in v) 0 ≡ meaning s' x (are_in vars) 0
whole s s' x v vars init e n h =
    ap (λ (z : Setting). meaning z x (are_in v) 0) e
    ∙ ap (λ (g : ℕ → Bool). meaning s' x g 0) (λ i u. (h u ∙ (ap (λ (l : List ℕ). list_any (eqb u) vars || list_any (eqb u) l) n ∙ or_false (list_any (eqb u) vars))) i)

pub if_ok_has : {A B : Type 0} (value_of : A → B) (o : Outcome B) (r : Result A TermFault) (P : B → Type 0) → ((b : B) → o ≡ Ok b → P b) → Gives value_of o r → IfOk r (λ a. P (value_of a))
if_ok_has value_of o (Ok a) P g h = g (value_of a) h
if_ok_has value_of o (Err e) P g h = tt

-- ---- the definitions being made behind the world's
count_arity : (ds : List Definition) (f : ℕ) → count_at (map function_of ds) f ≡ arity_in ds f
count_arity [] zero = refl
count_arity [] (suc f) = refl
count_arity (d ∷ ds) zero = refl
count_arity (d ∷ ds) (suc f) = count_arity ds f

has_arity : (ds members : List Definition) (own : List (ℕ × ℕ)) (f n : ℕ) → map function_of members ≡ own → count_at (map function_of ds ++ own) f ≡ Some n → arity_in (ds ++ members) f ≡ Some n
has_arity ds members own f n e h =
    sym (count_arity (ds ++ members) f)
    ∙ (ap (λ (fs : List (ℕ × ℕ)). count_at fs f) (map-append function_of ds members ∙ ap (λ (fs : List (ℕ × ℕ)). map function_of ds ++ fs) e) ∙ h)

-- ---- constants
some_same : (x y : Object) → Some x ≡ Some y → x ≡ y
some_same x y e = cc

named_narrow : (constants : List (ℕ × Object)) (t : ℕ) (x : Object) → AreNarrow constants → object_named constants t ≡ Some x → IsNarrow x
named_narrow [] t x h = λ e. absurd cc
named_narrow (c ∷ cs) t x h = elim (eqb t c.0) as (λ b. option_map (λ z. z.1) (cond b (Some c) (find (λ z. eqb t z.0) cs)) ≡ Some x → IsNarrow x) [
  | true ↦ λ e. subst IsNarrow (some_same c.1 x e) h.0
  | false ↦ λ e. named_narrow cs t x h.1 e
]

module _ (names : List (List ℕ)) (world : WorldSeen) (scope : Scope) (form : Object) where
  abbrev place : Setting
  place = setting_of names world scope.every scope.own

  pub meant_proper : (t : Exp) → translation names world scope form ≡ Ok t → IsTermWith world.definitions scope.own t
  meant_proper t e members m =
      sound_is_term place (λ x. Unit {0}) (world.definitions ++ members) (λ f n. has_arity world.definitions members scope.own f n m) t (are_in scope.vars)
      (meaning_sound place (λ x. Unit {0}) (λ u. tt) (λ u x h. tt) (λ a d h. (tt, tt)) tt tt tt form tt (are_in scope.vars) 0 t e)

  pub meant_visible : (t : Exp) → translation names world scope form ≡ Ok t → HasVariablesOf names world scope t
  meant_visible t e =
      sound_is_visible place (λ x. Unit {0}) t (are_in scope.vars)
      (meaning_sound place (λ x. Unit {0}) (λ u. tt) (λ u x h. tt) (λ a d h. (tt, tt)) tt tt tt form tt (are_in scope.vars) 0 t e)

  pub meant_narrow : IsNarrow form → AreNarrow world.constants → (t : Exp) → translation names world scope form ≡ Ok t → HasNarrowConstants t
  meant_narrow h k t e =
      sound_is_narrow place t (are_in scope.vars)
      (meaning_sound place IsNarrow (λ u. tt) (λ u x. named_narrow world.constants u x k) (λ a d g. g) (omega (arith, ints), omega (arith, ints)) (omega (arith, ints), omega (arith, ints)) (omega (arith, ints), omega (arith, ints)) form h (are_in scope.vars) 0 t e)
