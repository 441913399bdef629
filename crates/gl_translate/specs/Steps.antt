-- What the forms mean that are still to be translated, and the steps that they take.
use Rattle.std.specs.Prelude.{◌≡◌, ◌≢◌, ℕ, ◌+◌, ◌<◌, List, [], ◌∷◌, map, reverse, Result, MatchResult, Ok, Err, Option, Some, None, if◌then◌else◌}
use Rattle.std.specs.Option.{option_map}
use Rattle.gl_logic.specs.Object.{Object, Int, nil}
use Rattle.gl_logic.specs.Lists.{size_of}
use Rattle.gl_logic.specs.Exp.{Const, Prim, Call}
use Rattle.gl_logic.specs.TermOf.{exps_of}
use denote.Param.Weighed.{most}
use Rattle.gl_logic.specs.declared.prim.Primitive.TheVariants as prim
use Rattle.gl_translate.specs.declared.fault.TermFault.{TermFault}
use Rattle.gl_translate.specs.declared.fault.TermFault.TheVariants as term_fault
use Rattle.gl_translate.specs.declared.form.Form.{Form}
use Rattle.gl_translate.specs.declared.form.Form.TheVariants as form
use Rattle.gl_translate.specs.declared.form.Step.{Step}
use Rattle.gl_translate.specs.declared.form.Step.TheVariants as step
use Rattle.gl_translate.specs.Setting.{Setting}
use Rattle.gl_logic.specs.Wording.{has_mark}
use Rattle.gl_translate.specs.Meaning.{Meaning, and_then, fault, literal, symbol, symbol_inside, every_part, if_form, if_parts, prim_form, call_form, let_form, let_inside}
use Rattle.gl_translate.specs.Parts.{Part, Binding, all_means}
use Rattle.gl_translate.specs.Macros.{Choice, is_keyword_object, and_form, or_form, cond_form, list_form, nested_or, path_form, prim1, prim2, number, append_call, choice_of, matches_all, key_test, one_after_another}
use Rattle.gl_translate.specs.Translation.{meaning, meanings, bindings}

-- ---- what stands from the last to the first
abbrev pub part_of : Setting → Object → Part
part_of s x = record { object = x; means = meaning s x; inside = meanings s x; bindings = bindings s x }

abbrev pub binding_of : Setting → Object → Binding
binding_of s x = record { object = x; inside = meanings s x }

abbrev pub parts_of : Setting → List Object → List Part
parts_of s xs = map (part_of s) (reverse xs)

abbrev pub means_of : Setting → List Object → List Meaning
means_of s xs = all_means (parts_of s xs)

abbrev pub bindings_of : Setting → List Object → List Binding
bindings_of s xs = map (binding_of s) (reverse xs)

-- the fault of a `member` with these arguments more
abbrev pub option_fault : Setting → List Part → TermFault
option_fault s (option ∷ more) = if is_keyword_object s option.object then term_fault.BadUse else term_fault.WrongCount
option_fault s [] = term_fault.WrongCount

-- ---- forms
-- what is left of a `case`, whose clauses have their shape
abbrev pub choice_form : Setting → Option Choice → Meaning → Meaning
choice_form s None rest = fault term_fault.BadUse
choice_form s (Some c) rest = if matches_all s c.0 then c.1 else if_form (key_test s c.0) c.1 rest

abbrev pub choice_forms : Setting → List Part → Meaning
choice_forms s [] = literal nil
choice_forms s (p ∷ ps) = choice_form s (choice_of p.object p.inside) (choice_forms s ps)

abbrev pub form_means : Setting → Form → Meaning
form_means s (form.Book x) = meaning s x.now
form_means s (form.Quoted x) = literal x.now
form_means s (form.Number z) = literal (Int z)
form_means s form.Nil = literal nil
form_means s (form.Symbol t) = symbol s t.number
form_means s (form.And xs) = and_form (means_of s xs.now)
form_means s (form.Or xs) = or_form (means_of s xs.now)
form_means s (form.Cond xs) = cond_form (parts_of s xs.now)
form_means s (form.List xs) = list_form (means_of s xs.now)
form_means s (form.Nested p xs) = nested_or (literal nil) (prim2 p) (means_of s xs.now)
form_means s (form.Append xs) = nested_or (literal nil) (append_call s) (means_of s xs.now)
form_means s (form.Choices xs) = choice_forms s (parts_of s xs.now)
form_means s (form.Test x) = key_test s x.now
form_means s (form.Bindings xs x) = one_after_another s (bindings_of s xs.now) (meaning s x.now)
form_means s (form.Path ls x) = path_form ls.now (meaning s x.now)
form_means s (form.Unary p x) = prim1 p (meaning s x.now)
form_means s (form.Binary p x y) = prim2 p (meaning s x.now) (meaning s y.now)
form_means s form.LessOne = prim1 prim.UnaryMinus (number 1)

abbrev pub step_means : Setting → Step → Meaning
step_means s (step.Constant x) = literal x
step_means s (step.Symbol t) = symbol s t.number
step_means s (step.If a b c) = if_form (form_means s a) (form_means s b) (form_means s c)
step_means s (step.Or a b) = if_form (form_means s a) (form_means s a) (form_means s b)
step_means s (step.Prim p fs) = prim_form p (map (form_means s) fs.items)
step_means s (step.Call f fs) = call_form f.number (map (form_means s) fs.items)
step_means s (step.Let vs fs b) = let_form vs (map (form_means s) fs.items) (form_means s b)
step_means s (step.Same x) = meaning s x.now

-- ---- inside a form, one deeper
abbrev pub step_inside : Setting → Step → Meaning
step_inside s (step.Constant x) bound around = Ok (Const x)
step_inside s (step.Symbol t) bound around = symbol_inside s t.number bound
step_inside s (step.If a b c) bound around = if_parts (form_means s a) (form_means s b) (form_means s c) bound around
step_inside s (step.Or a b) bound around = if_parts (form_means s a) (form_means s a) (form_means s b) bound around
step_inside s (step.Prim p fs) bound around = and_then (every_part (map (form_means s) fs.items) bound around) (λ ts. Ok (Prim p (exps_of ts)))
step_inside s (step.Call f fs) bound around = and_then (every_part (map (form_means s) fs.items) bound around) (λ ts. Ok (Call f.number (exps_of ts)))
step_inside s (step.Let vs fs b) bound around = let_inside vs (map (form_means s) fs.items) (form_means s b) bound around
step_inside s (step.Same x) bound around = meaning s x.now bound around

-- ---- results
-- the step means this, and so does the fault
abbrev pub Takes : Setting → Meaning → Result Step TermFault → Type 0
Takes s m r = MatchResult r (λ st. m ≡ step_means s st) (λ e. e ≢ term_fault.Memory → m ≡ fault e)

-- more than the size of each of these
abbrev pub weight : List Object → ℕ
weight xs = most (λ x. size_of x + 1) xs

-- where the step is the form's own part, this part is smaller
abbrev pub IsBelow : ℕ → Step → Type 0
IsBelow n (step.Same x) = size_of x.now < n
IsBelow n _ = Unit {0}
