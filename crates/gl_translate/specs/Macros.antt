-- What `if`, `quote` and each macro mean, from their arguments.
use Rattle.std.specs.Prelude.{ℕ, zero, Bool, true, false, ◌&&◌, ◌||◌, ◌==◌, eqb, nat_lt, if◌then◌else◌, List, [], ◌∷◌, length, map, codes, Option, Some, None, ℤ, pos, negsuc, not}
use Rattle.std.specs.List.{list_any, list_all}
use Rattle.std.specs.Option.{option_map, is_some}
use Rattle.gl_logic.specs.Object.{Object, Int, Symbol, Cons, nil, true_object}
use Rattle.gl_logic.specs.ObjectEq.{is_nil}
use Rattle.gl_logic.specs.declared.prim.Primitive.{Primitive}
use Rattle.gl_logic.specs.declared.prim.Primitive.TheVariants as prim
use Rattle.gl_logic.specs.PrimValue.{is_cons}
use Rattle.gl_logic.specs.Wording.{has_mark, elements, is_keyword, is_legal, spells}
use Rattle.gl_logic.specs.NameSets.{are_different}
use Rattle.gl_translate.specs.declared.fault.TermFault.{TermFault}
use Rattle.gl_translate.specs.declared.fault.TermFault.TheVariants as term_fault
use Rattle.gl_translate.specs.Setting.{Setting, unnamed}
use Rattle.gl_translate.specs.Meaning.{Meaning, fault, literal, symbol, if_form, prim_form, let_form, numbered_call}
use Rattle.gl_translate.specs.Parts.{Part, Binding, all_means}
use Rattle.gl_translate.specs.Words.{beside}

abbrev pub number : ℕ → Meaning
number n = literal (Int (pos n))

abbrev pub prim1 : Primitive → Meaning → Meaning
prim1 p a = prim_form p (a ∷ [])

abbrev pub prim2 : Primitive → Meaning → Meaning → Meaning
prim2 p a b = prim_form p (a ∷ b ∷ [])

-- ---- a fixed count of arguments
abbrev pub of_one : (Meaning → Meaning) → List Meaning → Meaning
of_one f (a ∷ []) = f a
of_one f _ = fault term_fault.WrongCount

abbrev pub of_two : (Meaning → Meaning → Meaning) → List Meaning → Meaning
of_two f (a ∷ b ∷ []) = f a b
of_two f _ = fault term_fault.WrongCount

-- ---- logic
abbrev pub and_form : List Meaning → Meaning
and_form [] = literal true_object
and_form (a ∷ []) = a
and_form (a ∷ b ∷ bs) = if_form a (and_form (b ∷ bs)) (literal nil)

abbrev pub or_form : List Meaning → Meaning
or_form [] = literal nil
or_form (a ∷ []) = a
or_form (a ∷ b ∷ bs) = if_form a a (or_form (b ∷ bs))

-- a clause in front of the rest
abbrev pub clause_form : Option (List Meaning) → Meaning → Meaning
clause_form (Some (a ∷ [])) rest = if_form a a rest
clause_form (Some (a ∷ b ∷ [])) rest = if_form a b rest
clause_form _ rest = fault term_fault.BadUse

abbrev pub cond_form : List Part → Meaning
cond_form [] = literal nil
cond_form (clause ∷ clauses) = clause_form clause.inside (cond_form clauses)

-- ---- lists and arithmetic
-- a call inside the next, to the right
abbrev pub nested : (Meaning → Meaning → Meaning) → Meaning → List Meaning → Meaning
nested f a [] = a
nested f a (b ∷ bs) = f a (nested f b bs)

abbrev pub nested_or : Meaning → (Meaning → Meaning → Meaning) → List Meaning → Meaning
nested_or none f [] = none
nested_or none f (a ∷ rest) = nested f a rest

-- one argument alone stands behind the unit
abbrev pub sum_form : Primitive → ℤ → List Meaning → Meaning
sum_form p unit (a ∷ []) = prim2 p (literal (Int unit)) a
sum_form p unit terms = nested_or (literal (Int unit)) (prim2 p) terms

abbrev pub list_form : List Meaning → Meaning
list_form [] = literal nil
list_form (a ∷ rest) = prim2 prim.Cons a (list_form rest)

abbrev pub minus_form : List Meaning → Meaning
minus_form (a ∷ []) = prim1 prim.UnaryMinus a
minus_form (a ∷ b ∷ []) = prim2 prim.BinaryPlus a (prim1 prim.UnaryMinus b)
minus_form _ = fault term_fault.WrongCount

-- of the ground definitions, `binary-append` is number 27 and `member-equal` number 31
abbrev pub append_call : Setting → Meaning → Meaning → Meaning
append_call s a b = numbered_call s 27 (a ∷ b ∷ [])

abbrev pub member_call : Setting → Meaning → Meaning → Meaning
member_call s a b = numbered_call s 31 (a ∷ b ∷ [])

-- a chain of `car` (65, A) and `cdr` (68, D), the first letter outermost
abbrev pub path_form : List ℕ → Meaning → Meaning
path_form [] a = a
path_form (letter ∷ letters) a = prim1 (if letter == 65 then prim.Car else prim.Cdr) (path_form letters a)

-- ---- `member`, `mbe`
abbrev pub is_keyword_object : Setting → Object → Bool
is_keyword_object s (Symbol t) = is_keyword s.names t
is_keyword_object s _ = false

abbrev pub member_form : Setting → List Part → Meaning
member_form s (a ∷ b ∷ []) = member_call s a.means b.means
member_form s (a ∷ b ∷ option ∷ more) = fault (if is_keyword_object s option.object then term_fault.BadUse else term_fault.WrongCount)
member_form s _ = fault term_fault.WrongCount

-- ---- `the`
abbrev pub mbe_form : Setting → List Part → Meaning
mbe_form s (logic ∷ a ∷ exec ∷ b ∷ []) =
    if spells s.names (codes ":LOGIC") logic.object && spells s.names (codes ":EXEC") exec.object then a.means
    else fault term_fault.BadUse
mbe_form s _ = fault term_fault.WrongCount

-- ---- `case`
-- an atom other than NIL, or a proper list; no mark stands in it
abbrev pub is_key : Object → Bool
is_key key = (not (is_cons key) || is_some (elements key)) && not (is_nil key || has_mark key)

-- a key and what it gives
abbrev pub Choice : Type 0
Choice = Object × Meaning

abbrev pub choice_of : Object → Option (List Meaning) → Option Choice
choice_of (Cons key rest) (Some (k ∷ v ∷ [])) = if is_key key then Some (key, v) else None
choice_of _ _ = None

-- T or OTHERWISE
abbrev pub matches_all : Setting → Object → Bool
matches_all s key = spells s.names (codes "T") key || spells s.names (codes "OTHERWISE") key

-- one in front of the others, and only the last one may match all
abbrev pub choice_before : Setting → Bool → Choice → List Choice → Option (List Choice)
choice_before s last c cs = if matches_all s c.0 && not last then None else Some (c ∷ cs)

abbrev pub joined : {A B C : Type 0} → (A → B → Option C) → Option A → Option B → Option C
joined f (Some a) (Some b) = f a b
joined f _ _ = None

abbrev pub choices_of : Setting → List Part → Option (List Choice)
choices_of s [] = Some []
choices_of s (p ∷ ps) = joined (choice_before s (length ps == 0)) (choice_of p.object p.inside) (choices_of s ps)

-- a list tests membership, an atom equality
abbrev pub key_test : Setting → Object → Meaning
key_test s key = if is_cons key then member_call s (symbol s (unnamed s)) (literal key) else prim2 prim.Equal (symbol s (unnamed s)) (literal key)

abbrev pub choices_form : Setting → List Choice → Meaning
choices_form s [] = literal nil
choices_form s (c ∷ cs) = if matches_all s c.0 then c.1 else if_form (key_test s c.0) c.1 (choices_form s cs)

abbrev pub chosen : Setting → Meaning → Option (List Choice) → Meaning
chosen s x None = fault term_fault.BadUse
chosen s x (Some cs) = let_form (unnamed s ∷ []) (x ∷ []) (choices_form s cs)

abbrev pub case_form : Setting → List Part → Meaning
case_form s [] = fault term_fault.WrongCount
case_form s (x ∷ clauses) = chosen s x.means (choices_of s clauses)

-- ---- `let` and `let*`
-- a legal variable and its value
abbrev pub bound_by : Setting → Object → Option (List Meaning) → Option (ℕ × Meaning)
bound_by s (Cons (Symbol v) rest) (Some (name ∷ e ∷ [])) = if is_legal s.names v then Some (v, e) else None
bound_by s _ _ = None

abbrev pub all_bound : Setting → List Binding → Option (List (ℕ × Meaning))
all_bound s [] = Some []
all_bound s (b ∷ bs) = joined (λ p ps. Some (p ∷ ps)) (bound_by s b.object b.inside) (all_bound s bs)

-- `(ignore ..)`, `(ignorable ..)` or `(type ..)`
abbrev pub declared_in : Setting → Option (List Object) → Bool
declared_in s (Some (head ∷ rest)) =
    spells s.names (codes "IGNORE") head || (spells s.names (codes "IGNORABLE") head || spells s.names (codes "TYPE") head)
declared_in s _ = false

abbrev pub is_declared : Setting → Object → Bool
is_declared s x = declared_in s (elements x)

abbrev pub declare_in : Setting → Option (List Object) → Bool
declare_in s (Some (head ∷ rest)) = spells s.names (codes "DECLARE") head && list_all (is_declared s) rest
declare_in s _ = false

abbrev pub is_declare : Setting → Object → Bool
is_declare s x = declare_in s (elements x)

-- what stands behind the bindings: the last form is the body, those before it are declares
abbrev pub body_of : Setting → List Part → Option Meaning
body_of s [] = None
body_of s (b ∷ []) = Some b.means
body_of s (d ∷ b ∷ bs) = if is_declare s d.object then body_of s (b ∷ bs) else None

abbrev pub let_bound : Option (List (ℕ × Meaning)) → Meaning → Meaning
let_bound (Some bs) b = if are_different (map (λ e. e.0) bs) then let_form (map (λ e. e.0) bs) (map (λ e. e.1) bs) b else fault term_fault.BadUse
let_bound None b = fault term_fault.BadUse

abbrev pub let_parts : Setting → Option (List Binding) → Option Meaning → Meaning
let_parts s (Some bs) (Some b) = let_bound (all_bound s bs) b
let_parts s _ _ = fault term_fault.BadUse

abbrev pub let_call : Setting → List Part → Meaning
let_call s [] = fault term_fault.BadUse
let_call s (bindings ∷ rest) = let_parts s bindings.bindings (body_of s rest)

abbrev pub let_one : Option (ℕ × Meaning) → Meaning → Meaning
let_one (Some b) rest = let_form (b.0 ∷ []) (b.1 ∷ []) rest
let_one None rest = fault term_fault.BadUse

abbrev pub one_after_another : Setting → List Binding → Meaning → Meaning
one_after_another s [] body = body
one_after_another s (b ∷ bs) body = let_one (bound_by s b.object b.inside) (one_after_another s bs body)

abbrev pub let_star_parts : Setting → Option (List Binding) → Option Meaning → Meaning
let_star_parts s (Some bs) (Some b) = one_after_another s bs b
let_star_parts s _ _ = fault term_fault.BadUse

abbrev pub let_star_call : Setting → List Part → Meaning
let_star_call s [] = fault term_fault.BadUse
let_star_call s (bindings ∷ rest) = let_star_parts s bindings.bindings (body_of s rest)

-- ---- `if` and `quote`
abbrev pub if_call : List Meaning → Meaning
if_call (a ∷ b ∷ c ∷ []) = if_form a b c
if_call _ = fault term_fault.WrongCount

abbrev pub quote_call : List Part → Meaning
quote_call (x ∷ []) = if has_mark x.object then fault term_fault.BadUse else literal x.object
quote_call _ = fault term_fault.WrongCount

-- ---- the table
-- what a form means with this head, by its arguments
abbrev pub SpecialForm : Type 0
SpecialForm = Setting → List Part → Meaning

-- `if`, `quote` and each macro by its word
abbrev pub special_forms : List (List ℕ × SpecialForm)
special_forms =
    (codes "IF", λ s ps. if_call (all_means ps))
    ∷ (codes "QUOTE", λ s ps. quote_call ps)
    ∷ (codes "AND", λ s ps. and_form (all_means ps))
    ∷ (codes "OR", λ s ps. or_form (all_means ps))
    ∷ (codes "COND", λ s ps. cond_form ps)
    ∷ (codes "CASE", λ s ps. case_form s ps)
    ∷ (codes "LET", λ s ps. let_call s ps)
    ∷ (codes "LET*", λ s ps. let_star_call s ps)
    ∷ (codes "LIST", λ s ps. list_form (all_means ps))
    ∷ (codes "LIST*", λ s ps. nested_or (fault term_fault.WrongCount) (prim2 prim.Cons) (all_means ps))
    ∷ (codes "+", λ s ps. sum_form prim.BinaryPlus (pos 0) (all_means ps))
    ∷ (codes "*", λ s ps. sum_form prim.BinaryTimes (pos 1) (all_means ps))
    ∷ (codes "-", λ s ps. minus_form (all_means ps))
    ∷ (codes "1+", λ s ps. of_one (λ a. prim2 prim.BinaryPlus (number 1) a) (all_means ps))
    ∷ (codes "1-", λ s ps. of_one (λ a. prim2 prim.BinaryPlus a (prim1 prim.UnaryMinus (number 1))) (all_means ps))
    ∷ (codes "<=", λ s ps. of_two (λ a b. prim1 prim.Not (prim2 prim.Less b a)) (all_means ps))
    ∷ (codes ">", λ s ps. of_two (λ a b. prim2 prim.Less b a) (all_means ps))
    ∷ (codes ">=", λ s ps. of_two (λ a b. prim1 prim.Not (prim2 prim.Less a b)) (all_means ps))
    ∷ (codes "/=", λ s ps. of_two (λ a b. prim1 prim.Not (prim2 prim.Equal a b)) (all_means ps))
    ∷ (codes "APPEND", λ s ps. nested_or (literal nil) (append_call s) (all_means ps))
    ∷ (codes "LOGAND", λ s ps. nested_or (literal (Int (negsuc 0))) (prim2 prim.BinaryLogand) (all_means ps))
    ∷ (codes "LOGIOR", λ s ps. nested_or (number 0) (prim2 prim.BinaryLogior) (all_means ps))
    ∷ (codes "LOGXOR", λ s ps. nested_or (number 0) (prim2 prim.BinaryLogxor) (all_means ps))
    ∷ (codes "MEMBER", λ s ps. member_form s ps)
    ∷ (codes "FIRST", λ s ps. of_one (path_form (codes "A")) (all_means ps))
    ∷ (codes "SECOND", λ s ps. of_one (path_form (codes "AD")) (all_means ps))
    ∷ (codes "THIRD", λ s ps. of_one (path_form (codes "ADD")) (all_means ps))
    ∷ (codes "FOURTH", λ s ps. of_one (path_form (codes "ADDD")) (all_means ps))
    ∷ (codes "FIFTH", λ s ps. of_one (path_form (codes "ADDDD")) (all_means ps))
    ∷ (codes "REST", λ s ps. of_one (path_form (codes "D")) (all_means ps))
    ∷ (codes "THE", λ s ps. of_two (λ type a. a) (all_means ps))
    ∷ (codes "MBE", λ s ps. mbe_form s ps)
    ∷ []

abbrev pub special_named : List ℕ → Option SpecialForm
special_named word = beside special_forms word
