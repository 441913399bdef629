-- What a form means where it stands: its term, or the fault that comes first.
use Rattle.std.specs.Prelude.{ℕ, suc, ◌+◌, ◌++◌, Bool, ◌||◌, ◌&&◌, ◌==◌, nat_lt, eqb, if◌then◌else◌, List, [], ◌∷◌, length, map, Option, Some, None, slice_get, position}
use Rattle.std.specs.List.{list_any}
use Rattle.std.specs.Option.{option_map}
use Rattle.std.specs.Prelude.{Result, Ok, Err}
use Rattle.gl_logic.specs.Object.{Object, Symbol}
use Rattle.gl_logic.specs.Exp.{Exp, Exps, Var, Const, If, Prim, Call, Let}
use Rattle.gl_logic.specs.TermOf.{exps_of}
use Rattle.gl_logic.specs.Named.{place_of, object_named}
use Rattle.gl_logic.specs.PrimValue.{prim_arity}
use Rattle.gl_logic.specs.declared.prim.Primitive as primitive
use Rattle.gl_translate.specs.declared.fault.TermFault.{TermFault}
use Rattle.gl_translate.specs.declared.fault.TermFault.TheVariants as term_fault
use Rattle.gl_logic.specs.Wording.{is_legal}
use Rattle.gl_translate.specs.Setting.{Setting, stands_for_itself}

abbrev pub Outcome : Type 0 → Type 0
Outcome A = Result A TermFault

-- where these variables are bound, and inside so many other forms
abbrev pub Meaning : Type 0
Meaning = (ℕ → Bool) → ℕ → Outcome Exp

abbrev pub and_then : {A B : Type 0} → Outcome A → (A → Outcome B) → Outcome B
and_then (Ok x) next = next x
and_then (Err fault) next = Err fault

-- a form inside 2,000 others is too deep, whatever it is
abbrev pub within : Meaning → Meaning
within m bound around = if nat_lt around 2000 then m bound around else Err term_fault.TooDeep

abbrev pub fault : TermFault → Meaning
fault code = within (λ bound around. Err code)

abbrev pub literal : Object → Meaning
literal x = within (λ bound around. Ok (Const x))

-- ---- symbols
abbrev pub variable : Setting → ℕ → (ℕ → Bool) → Outcome Exp
variable s t bound = if bound t || (s.every && is_legal s.names t) then Ok (Var t) else Err term_fault.UnboundVariable

abbrev pub constant_or : Option Object → Outcome Exp → Outcome Exp
constant_or (Some x) other = Ok (Const x)
constant_or None other = other

abbrev pub symbol_inside : Setting → ℕ → (ℕ → Bool) → Outcome Exp
symbol_inside s t bound = if stands_for_itself s t then Ok (Const (Symbol t)) else constant_or (object_named s.constants t) (variable s t bound)

abbrev pub symbol : Setting → ℕ → Meaning
symbol s t = within (λ bound around. symbol_inside s t bound)

-- ---- forms with parts, which are taken from left to right, one deeper
abbrev pub every_part : List Meaning → (ℕ → Bool) → ℕ → Outcome (List Exp)
every_part [] bound around = Ok []
every_part (m ∷ ms) bound around = and_then (m bound around) (λ t. and_then (every_part ms bound around) (λ ts. Ok (t ∷ ts)))

abbrev pub if_parts : Meaning → Meaning → Meaning → Meaning
if_parts a b c bound around = and_then (a bound around) (λ x. and_then (b bound around) (λ y. and_then (c bound around) (λ z. Ok (If x y z))))

abbrev pub if_form : Meaning → Meaning → Meaning → Meaning
if_form a b c = within (λ bound around. if_parts a b c bound (suc around))

abbrev pub prim_form : primitive.Primitive → List Meaning → Meaning
prim_form p ms = within (λ bound around. and_then (every_part ms bound (suc around)) (λ ts. Ok (Prim p (exps_of ts))))

abbrev pub call_form : ℕ → List Meaning → Meaning
call_form f ms = within (λ bound around. and_then (every_part ms bound (suc around)) (λ ts. Ok (Call f (exps_of ts))))

abbrev pub also_bound : List ℕ → (ℕ → Bool) → ℕ → Bool
also_bound names bound v = list_any (eqb v) names || bound v

-- all the values first, then the body with the names bound
abbrev pub let_inside : List ℕ → List Meaning → Meaning → Meaning
let_inside names values body bound around = and_then (every_part values bound around) (λ ts. and_then (body (also_bound names bound) around) (λ b. Ok (Let names (exps_of ts) b)))

abbrev pub let_form : List ℕ → List Meaning → Meaning → Meaning
let_form names values body = within (λ bound around. let_inside names values body bound (suc around))

-- ---- calls, which take their count of arguments
abbrev pub prim_call : primitive.Primitive → List Meaning → Meaning
prim_call p ms = if length ms == prim_arity p then prim_form p ms else fault term_fault.WrongCount

abbrev pub call_with : ℕ → List Meaning → Option ℕ → Meaning
call_with f ms (Some count) = if length ms == count then call_form f ms else fault term_fault.WrongCount
call_with f ms None = fault term_fault.UnknownFunction

abbrev pub count_at : List (ℕ × ℕ) → ℕ → Option ℕ
count_at functions f = option_map (λ e. e.1) (slice_get functions f)

-- of definition number f; those being made stand behind the world's
abbrev pub numbered_call : Setting → ℕ → List Meaning → Meaning
numbered_call s f ms = call_with f ms (count_at (s.functions ++ s.own) f)

abbrev pub function_names : List (ℕ × ℕ) → List ℕ
function_names functions = map (λ e. e.0) functions

-- the number of a name: the world's, or else that of one being made
abbrev pub number_named : Setting → ℕ → Option ℕ
number_named s name = place_of (function_names (s.functions ++ s.own)) name

abbrev pub place_call : Setting → List Meaning → Option ℕ → Meaning
place_call s ms (Some f) = numbered_call s f ms
place_call s ms None = fault term_fault.UnknownFunction

abbrev pub named_call : Setting → ℕ → List Meaning → Meaning
named_call s name ms = place_call s ms (number_named s name)
