-- The answers that a translation gives.
use Rattle.std.specs.Prelude.{◌≡◌, ◌≢◌, ◌⊎◌, ◌+◌, ◌++◌, ◌||◌, ◌&&◌, ℕ, List, [], ◌∷◌, map, Bool, true, All, Result, MatchResult, Ok, Err}
use Rattle.gl_logic.specs.Object.{Object, Int, Cons}
use Rattle.gl_logic.specs.Width.{Fits}
use Rattle.gl_logic.specs.Exp.{Exp, Exps, Var, Const, If, Prim, Call, Let, Last, More}
use Rattle.gl_logic.specs.Definition.{Definition}
use Rattle.gl_logic.specs.IsTermOf.{IsTermOf}
use Rattle.gl_logic.specs.FreeVariables.{is_free_in}
use Rattle.gl_translate.specs.declared.fault.TermFault.{TermFault}
use Rattle.gl_translate.specs.declared.fault.TermFault.TheVariants as term_fault
use Rattle.gl_logic.specs.Wording.{is_legal}
use Rattle.gl_translate.specs.Setting.{Setting}
use Rattle.gl_translate.specs.Meaning.{Outcome}
use Rattle.gl_translate.specs.Translation.{function_of, setting_of, are_in}
use Rattle.gl_translate.specs.declared.scope.Scope.{Scope}
use Rattle.gl_logic.specs.WorldSeen.{WorldSeen}
use Rattle.gl_logic.specs.Names.{with_name}
use Rattle.gl_logic.specs.Every.{Every}

-- what stands for the outcome's value, or the code of its fault; want of memory is free
abbrev pub Gives : {A B : Type 0} → (A → B) → Outcome B → Result A TermFault → Type 0
Gives value_of o r = MatchResult r (λ a. o ≡ Ok (value_of a)) (λ e. e ≢ term_fault.Memory → o ≡ Err e)

-- a term of these definitions and of those being made, whatever their bodies
abbrev pub IsTermWith : List Definition → List (ℕ × ℕ) → Exp → Type 0
IsTermWith definitions own t = (members : List Definition) → map function_of members ≡ own → IsTermOf (definitions ++ members) t

-- a variable that is bound, or any legal one where every such is in scope
abbrev pub is_visible : Setting → (ℕ → Bool) → ℕ → Bool
is_visible s bound v = bound v || (s.every && is_legal s.names v)

abbrev pub HasVisibleVariables : Setting → (ℕ → Bool) → Exp → Type 0
HasVisibleVariables s bound t = (v : ℕ) → is_free_in t v ≡ true → is_visible s bound v ≡ true

-- each free variable is in scope
abbrev pub HasVariablesOf : List (List ℕ) → WorldSeen → Scope → Exp → Type 0
HasVariablesOf names world scope t = HasVisibleVariables (setting_of names world scope.every scope.own) (are_in scope.vars) t

-- each integer of the object is within 128 bits
abbrev pub IsNarrow : Object → Type 0
IsNarrow (Int z) = Fits z
IsNarrow (Cons a d) = IsNarrow a × IsNarrow d
IsNarrow _ = Unit {0}

abbrev pub AreNarrow : List (ℕ × Object) → Type 0
AreNarrow constants = Every (λ e. IsNarrow e.1) constants

-- each integer of the term's constants is
abbrev mutual
  pub HasNarrowConstants : Exp → Type 0
  HasNarrowConstants (Var v) = Unit {0}
  HasNarrowConstants (Const x) = IsNarrow x
  HasNarrowConstants (If a b c) = HasNarrowConstants a × HasNarrowConstants b × HasNarrowConstants c
  HasNarrowConstants (Prim p ts) = HaveNarrowConstants ts
  HasNarrowConstants (Call f ts) = HaveNarrowConstants ts
  HasNarrowConstants (Let vs ts b) = HaveNarrowConstants ts × HasNarrowConstants b

  pub HaveNarrowConstants : Exps → Type 0
  HaveNarrowConstants Last = Unit {0}
  HaveNarrowConstants (More t ts) = HasNarrowConstants t × HaveNarrowConstants ts

-- a table gains this text, where it is new, or nothing
abbrev pub GainsAtMost : List ℕ → List (List ℕ) → List (List ℕ) → Type 0
GainsAtMost name old new = (new ≡ with_name old name) ⊎ (new ≡ old)
