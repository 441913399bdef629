-- A text is read back from the bytes that show it.
use Rattle.std.proofs.Common.{◌≡◌, ◌∙◌, ap, refl, List, ℕ, [], ◌∷◌, ◌++◌, ◌+◌, ◌*◌, ◌/◌, ◌%◌, Bool, true, false, cond, ◌||◌, div-add-mod', arith}
use Rattle.std.specs.Prelude.{◌==◌, nat_lt}
use Rattle.explain_report.specs.declared.shown.Style.{Style}
use Rattle.explain_report.specs.declared.shown.Style.TheVariants.{Plain, Json, Html}
use Rattle.explain_report.specs.Shown.{shown, read_back, json_read, html_read, digit, number, in_json, in_html}

pub number_of_digit : (n : ℕ) → number (digit n) ≡ n
number_of_digit n = grind (arith)

two_digits : (b : ℕ) → number (digit (b / 16)) * 16 + number (digit (b % 16)) ≡ b
two_digits b = rw (number_of_digit (b / 16)) (rw (number_of_digit (b % 16)) (div-add-mod' b 16))

json_high : (high : Bool) (b : ℕ) (rest : List ℕ)
    → json_read 0 0 (cond high (92 ∷ 117 ∷ 100 ∷ 99 ∷ digit (b / 16) ∷ digit (b % 16) ∷ []) (92 ∷ 117 ∷ 48 ∷ 48 ∷ digit (b / 16) ∷ digit (b % 16) ∷ []) ++ rest) ≡ b ∷ json_read 0 0 rest
json_high true b rest = ap (λ x. x ∷ json_read 0 0 rest) (two_digits b)
json_high false b rest = ap (λ x. x ∷ json_read 0 0 rest) (two_digits b)

json_special : (b : ℕ) (rest : List ℕ)
    → json_read 0 0 (in_json b ++ rest) ≡ b ∷ json_read 0 0 rest
json_special b rest = json_high (nat_lt 127 b) b rest

html_special : (b : ℕ) (rest : List ℕ) → html_read 0 0 (in_html b ++ rest) ≡ b ∷ html_read 0 0 rest
html_special b rest = ap (λ x. x ∷ html_read 0 0 rest) (two_digits b)

json_chosen : (mark other : Bool) (b : ℕ) (rest : List ℕ) → (b == 92) ≡ mark
    → json_read 0 0 (cond (mark || other) (in_json b) (b ∷ []) ++ rest) ≡ b ∷ json_read 0 0 rest
json_chosen true other b rest e = json_special b rest
json_chosen false true b rest e = json_special b rest
json_chosen false false b rest e = ap (λ m. cond m (json_read 5 0 rest) (b ∷ json_read 0 0 rest)) e

html_chosen : (mark other : Bool) (b : ℕ) (rest : List ℕ) → (b == 38) ≡ mark
    → html_read 0 0 (cond (mark || other) (in_html b) (b ∷ []) ++ rest) ≡ b ∷ html_read 0 0 rest
html_chosen true other b rest e = html_special b rest
html_chosen false true b rest e = html_special b rest
html_chosen false false b rest e = ap (λ m. cond m (html_read 5 0 rest) (b ∷ html_read 0 0 rest)) e

pub json_back : (w : Bool) (bs : List ℕ) → json_read 0 0 (shown (Json w) bs) ≡ bs
json_back w [] = refl
json_back w (b ∷ bs) = json_chosen (b == 92) _ b (shown (Json w) bs) refl ∙ ap (λ xs. b ∷ xs) (json_back w bs)

pub html_back : (w : Bool) (bs : List ℕ) → html_read 0 0 (shown (Html w) bs) ≡ bs
html_back w [] = refl
html_back w (b ∷ bs) = html_chosen (b == 38) _ b (shown (Html w) bs) refl ∙ ap (λ xs. b ∷ xs) (html_back w bs)

plain_back : (bs : List ℕ) → shown Plain bs ≡ bs
plain_back [] = refl
plain_back (b ∷ bs) = ap (λ xs. b ∷ xs) (plain_back bs)

pub back : (s : Style) (bs : List ℕ) → read_back s (shown s bs) ≡ bs
back Plain bs = plain_back bs
back (Json w) bs = json_back w bs
back (Html w) bs = html_back w bs
