-- A large book made from a number.
use Rattle.std.specs.Prelude.{ℕ, zero, suc, ◌+◌, ◌-◌, ◌%◌, ◌^◌, ◌==◌, if◌then◌else◌, List, [], ◌∷◌, ◌++◌, codes}
use Rattle.std.specs.Fmt.{decimal}

-- theorem i is on two numbers of w bits: a sum in two orders, or a bound that the greatest two numbers alone pass
abbrev pub generated_conclusion : ℕ → ℕ → List ℕ
generated_conclusion i w = if (i % 2) == 0
    then codes "(equal (+ x y " ++ (decimal i ++ (codes ") (+ y " ++ (decimal i ++ codes " x))")))
    else codes "(< (+ x y) " ++ (decimal (2 ^ (w + 1) - 2) ++ codes ")")

abbrev pub line_front : ℕ → ℕ → List ℕ
line_front i w = codes "(def-gl-thm t" ++ (decimal i ++ (codes " :hyp (and (unsigned-byte-p " ++ (decimal w ++ (codes " x) (unsigned-byte-p " ++ (decimal w ++ codes " y)) :concl ")))))

abbrev pub line_back : ℕ → List ℕ
line_back w = codes " :g-bindings (auto-bindings (:mix (:nat x " ++ (decimal w ++ (codes ") (:nat y " ++ (decimal w ++ (codes "))))" ++ 10 ∷ []))))

-- the numbers of theorem i have 4 to 8 bits
abbrev pub generated_line : ℕ → List ℕ
generated_line i = line_front i (4 + i % 5) ++ (generated_conclusion i (4 + i % 5) ++ line_back (4 + i % 5))

-- a line for each theorem
abbrev pub generated : ℕ → List ℕ
generated zero = []
generated (suc n) = generated n ++ generated_line n
