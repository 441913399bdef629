-- Forms that compute, with the objects of their variables.
use Rattle.std.proofs.Common.{◌≡◌, refl, ℕ, true, false, pos, negsuc, List, [], ◌∷◌}
use Rattle.std.specs.Prelude.{codes, Option, Some, None}
use Rattle.std.specs.Option.{option_map}
use Rattle.gl_logic.specs.Object.{Object, Int, Symbol, Cons, nil, true_object}
use Rattle.shape_spec.specs.ShapeSeen.{ShapeSeen, Boolean, Integer, Choice, Constant, Pair}
use Rattle.shape_spec.specs.Heads.{word_head, item_word}
use Rattle.shape_spec.specs.ShapeMeant.{shape_meant}
use Rattle.shape_spec.specs.BindingsMeant.{bindings_meant}
use Rattle.shape_spec.specs.InputMeant.{input_meant, assignment_numbered}

abbrev names : List (List ℕ)
names =
    codes "NIL" ∷ codes "T" ∷ codes "`" ∷ codes "," ∷ codes "X" ∷ codes "Y" ∷ codes "QUOTE" ∷ codes "*C*" ∷ codes ":K" ∷ []
    ∷ codes ":G-BOOLEAN" ∷ codes ":G-INTEGER" ∷ codes ":G-ITE" ∷ codes ":G-CONCRETE" ∷ codes ":G-NUMBER" ∷ codes "G-INT" ∷ codes "G-BOOLEAN"
    ∷ codes "AUTO-BINDINGS" ∷ codes ":NAT" ∷ codes ":INT" ∷ codes ":BOOLEAN" ∷ codes ":SEQ" ∷ codes ":MIX" ∷ codes "Z" ∷ codes ":REV" ∷ []

abbrev list : List Object → Object
list [] = nil
list (x ∷ xs) = Cons x (list xs)

abbrev number : ℕ → Object
number n = Int (pos n)

-- one variable's shape
abbrev shape : Object → Option ShapeSeen
shape x = shape_meant names true x

-- the bindings of '((x shape))
abbrev quoted : Object → Option (List (ℕ × ShapeSeen))
quoted x = bindings_meant names (list (Symbol 6 ∷ list (list (Symbol 4 ∷ x ∷ []) ∷ []) ∷ []))

abbrev automatic : List Object → Option (List (ℕ × ShapeSeen))
automatic items = bindings_meant names (Cons (Symbol 17) (list items))

-- the input of the assignment with a number
abbrev input : ℕ → Option (List (ℕ × ShapeSeen)) → Option (List (ℕ × Object))
input n b = option_map (λ b. input_meant b (assignment_numbered n)) b

-- ---- shapes
itself : shape (number 5) ≡ Some (Constant (number 5))
itself = refl

plain_keyword : shape (Symbol 8) ≡ Some (Constant (Symbol 8))
plain_keyword = refl

-- a shape word that heads no cons stands for itself
bare_word : shape (Symbol 11) ≡ Some (Constant (Symbol 11))
bare_word = refl

mark : shape (Symbol 2) ≡ None
mark = refl

boolean : shape (Cons (Symbol 10) (number 3)) ≡ Some (Boolean 3)
unfolding word_head
boolean = refl

boolean_of_a_list : shape (list (Symbol 10 ∷ number 3 ∷ [])) ≡ None
unfolding word_head
boolean_of_a_list = refl

integer : shape (list (Symbol 11 ∷ number 5 ∷ number 3 ∷ [])) ≡ Some (Integer (5 ∷ 3 ∷ []))
unfolding word_head
integer = refl

negative_index : shape (list (Symbol 11 ∷ Int (negsuc 0) ∷ [])) ≡ None
unfolding word_head
negative_index = refl

choice : shape (Cons (Symbol 12) (Cons (Cons (Symbol 10) (number 3)) (Cons (number 1) (number 2)))) ≡ Some (Choice 3 (Constant (number 1)) (Constant (number 2)))
unfolding word_head
choice = refl

choice_by_an_integer : shape (Cons (Symbol 12) (Cons (list (Symbol 11 ∷ number 3 ∷ [])) (Cons (number 1) (number 2)))) ≡ None
unfolding word_head
choice_by_an_integer = refl

concrete : shape (Cons (Symbol 13) (Cons (Symbol 10) (number 3))) ≡ Some (Constant (Cons (Symbol 10) (number 3)))
unfolding word_head
concrete = refl

reserved : shape (Cons (Symbol 14) (number 3)) ≡ None
unfolding word_head
reserved = refl

-- the rest of a list is a shape too
list_of_shapes : shape (Cons (number 1) (Cons (Symbol 10) (number 3))) ≡ Some (Pair (Constant (number 1)) (Boolean 3))
unfolding word_head
list_of_shapes = refl

steps : shape (list (Symbol 3 ∷ list (Symbol 15 ∷ number 1 ∷ number 2 ∷ number 3 ∷ []) ∷ [])) ≡ Some (Integer (1 ∷ 3 ∷ 5 ∷ []))
unfolding word_head
steps = refl

no_step : shape (list (Symbol 3 ∷ list (Symbol 15 ∷ number 1 ∷ number 0 ∷ number 3 ∷ []) ∷ [])) ≡ None
unfolding word_head
no_step = refl

comma_in_a_quote : shape_meant names false (list (Symbol 3 ∷ list (Symbol 16 ∷ number 1 ∷ []) ∷ [])) ≡ None
unfolding word_head
comma_in_a_quote = refl

-- ---- bindings
one : quoted (Cons (Symbol 10) (number 7)) ≡ Some ((4, Boolean 7) ∷ [])
unfolding word_head
one = refl

index_twice : quoted (list (Symbol 11 ∷ number 1 ∷ number 2 ∷ number 1 ∷ [])) ≡ None
unfolding word_head
index_twice = refl

no_index : quoted (list (Symbol 11 ∷ [])) ≡ None
unfolding word_head
no_index = refl

illegal : bindings_meant names (list (Symbol 6 ∷ list (list (Symbol 7 ∷ number 1 ∷ []) ∷ []) ∷ [])) ≡ None
unfolding word_head
illegal = refl

bound_twice : bindings_meant names (list (Symbol 6 ∷ list (list (Symbol 4 ∷ number 1 ∷ []) ∷ list (Symbol 4 ∷ number 2 ∷ []) ∷ []) ∷ [])) ≡ None
unfolding word_head
bound_twice = refl

-- ---- automatic bindings
natural : automatic (list (Symbol 18 ∷ Symbol 4 ∷ number 2 ∷ []) ∷ []) ≡ Some ((4, Integer (0 ∷ 1 ∷ 2 ∷ [])) ∷ [])
unfolding item_word
natural = refl

in_a_row : automatic (list (Symbol 19 ∷ Symbol 4 ∷ number 2 ∷ []) ∷ list (Symbol 20 ∷ Symbol 5 ∷ []) ∷ []) ≡ Some ((4, Integer (0 ∷ 1 ∷ [])) ∷ (5, Boolean 2) ∷ [])
unfolding item_word
in_a_row = refl

-- (:mix (:int x 3) (:seq (:boolean y) (:int z 2)))
mixed : automatic (list (Symbol 22 ∷ list (Symbol 19 ∷ Symbol 4 ∷ number 3 ∷ []) ∷ list (Symbol 21 ∷ list (Symbol 20 ∷ Symbol 5 ∷ []) ∷ list (Symbol 19 ∷ Symbol 23 ∷ number 2 ∷ []) ∷ []) ∷ []) ∷ [])
    ≡ Some ((4, Integer (0 ∷ 2 ∷ 4 ∷ [])) ∷ (5, Boolean 1) ∷ (23, Integer (3 ∷ 5 ∷ [])) ∷ [])
unfolding item_word
mixed = refl

unequal : automatic (list (Symbol 22 ∷ list (Symbol 19 ∷ Symbol 4 ∷ number 3 ∷ []) ∷ list (Symbol 20 ∷ Symbol 5 ∷ []) ∷ []) ∷ []) ≡ None
unfolding item_word
unequal = refl

reversed : automatic (list (Symbol 24 ∷ list (Symbol 19 ∷ Symbol 4 ∷ number 3 ∷ []) ∷ []) ∷ []) ≡ None
unfolding item_word
reversed = refl

widest : automatic (list (Symbol 18 ∷ Symbol 4 ∷ number 128 ∷ []) ∷ []) ≡ None
unfolding item_word
widest = refl

-- ---- inputs
-- the sign is the highest index written, whichever numbers the indices have
one_below_the_sign : input 2 (quoted (list (Symbol 11 ∷ number 9 ∷ number 4 ∷ []))) ≡ Some ((4, number 1) ∷ [])
unfolding word_head
one_below_the_sign = refl

sign : input 1 (quoted (list (Symbol 11 ∷ number 9 ∷ number 4 ∷ []))) ≡ Some ((4, Int (negsuc 1)) ∷ [])
unfolding word_head
sign = refl

truth : input 1 (quoted (Cons (Symbol 10) (number 999999))) ≡ Some ((4, true_object) ∷ [])
unfolding word_head
truth = refl

past_the_most : quoted (Cons (Symbol 10) (number 1000000)) ≡ None
unfolding word_head
past_the_most = refl

first_chosen : input 1 (quoted (Cons (Symbol 12) (Cons (Cons (Symbol 10) (number 3)) (Cons (Symbol 4) (Symbol 5))))) ≡ Some ((4, Symbol 4) ∷ [])
unfolding word_head
first_chosen = refl
