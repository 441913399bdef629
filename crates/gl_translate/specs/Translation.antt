-- The term that a form means, or the code of its first fault.
use Rattle.std.specs.Prelude.{ℕ, zero, Bool, eqb, if◌then◌else◌, List, [], ◌∷◌, length, map, Option, Some, None}
use Rattle.std.specs.List.{list_any}
use Rattle.std.specs.Option.{option_map}
use Rattle.gl_logic.specs.Object.{Object, Int, Character, Symbol, Text, Cons}
use Rattle.gl_logic.specs.Exp.{Exp}
use Rattle.gl_logic.specs.Definition.{Definition}
use Rattle.gl_logic.specs.WorldSeen.{WorldSeen}
use Rattle.gl_logic.specs.declared.prim.Primitive.{Primitive}
use Rattle.gl_translate.specs.declared.fault.TermFault.TheVariants as term_fault
use Rattle.gl_translate.specs.declared.scope.Scope.{Scope}
use Rattle.gl_translate.specs.Setting.{Setting}
use Rattle.gl_logic.specs.Wording.{is_mark, text_of}
use Rattle.gl_translate.specs.Meaning.{Meaning, Outcome, fault, literal, symbol, prim_call, named_call}
use Rattle.gl_translate.specs.Parts.{Part, Binding, all_means}
use Rattle.gl_translate.specs.Words.{prim_named, is_path, letters_of}
use Rattle.gl_translate.specs.Macros.{of_one, path_form, SpecialForm, special_named}

-- ---- a head with its arguments: a word of the table, a chain of `car` and `cdr`, a primitive, a definition
abbrev pub of_prim : Setting → ℕ → List Part → Option Primitive → Meaning
of_prim s head ps (Some p) = prim_call p (all_means ps)
of_prim s head ps None = named_call s head (all_means ps)

abbrev pub of_function : Setting → ℕ → List Part → Meaning
of_function s head ps =
    if is_path (text_of s.names head) then of_one (path_form (letters_of (text_of s.names head))) (all_means ps)
    else of_prim s head ps (prim_named (text_of s.names head))

abbrev pub of_special : Setting → ℕ → List Part → Option SpecialForm → Meaning
of_special s head ps (Some form) = form s ps
of_special s head ps None = of_function s head ps

abbrev pub headed : Setting → ℕ → List Part → Meaning
headed s head ps = of_special s head ps (special_named (text_of s.names head))

-- the name of a head, where it is a symbol and no mark
abbrev pub head_name : Object → Option ℕ
head_name (Symbol t) = if is_mark t then None else Some t
head_name _ = None

-- a list with another head, or one that is not proper, is malformed
abbrev pub list_meaning : Setting → Option ℕ → Option (List Part) → Meaning
list_meaning s (Some t) (Some ps) = headed s t ps
list_meaning s name ps = fault term_fault.BadUse

-- ---- a form, and the elements of a proper list: their meanings, as bindings, as arguments
abbrev mutual
  pub meaning : Setting → Object → Meaning
  meaning s (Symbol t) = symbol s t
  meaning s (Cons head rest) = list_meaning s (head_name head) (parts s rest)
  meaning s (Int z) = literal (Int z)
  meaning s (Character c) = literal (Character c)
  meaning s (Text t) = literal (Text t)

  pub meanings : Setting → Object → Option (List Meaning)
  meanings s (Symbol zero) = Some []
  meanings s (Cons x rest) = option_map (λ ms. meaning s x ∷ ms) (meanings s rest)
  meanings s _ = None

  pub bindings : Setting → Object → Option (List Binding)
  bindings s (Symbol zero) = Some []
  bindings s (Cons x rest) = option_map (λ bs. record { object = x; inside = meanings s x } ∷ bs) (bindings s rest)
  bindings s _ = None

  pub parts : Setting → Object → Option (List Part)
  parts s (Symbol zero) = Some []
  parts s (Cons x rest) = option_map (λ ps. record { object = x; means = meaning s x; inside = meanings s x; bindings = bindings s x } ∷ ps) (parts s rest)
  parts s _ = None

-- ---- the whole: where the definitions being made stand behind the world's
abbrev pub function_of : Definition → ℕ × ℕ
function_of d = (d.name, length d.formals)

abbrev pub setting_of : List (List ℕ) → WorldSeen → Bool → List (ℕ × ℕ) → Setting
setting_of names world every own = record { names = names; constants = world.constants; functions = map function_of world.definitions; own = own; every = every }

abbrev pub are_in : List ℕ → ℕ → Bool
are_in vars v = list_any (eqb v) vars

abbrev pub translation : List (List ℕ) → WorldSeen → Scope → Object → Outcome Exp
translation names world scope form = meaning (setting_of names world scope.every scope.own) form (are_in scope.vars) 0
