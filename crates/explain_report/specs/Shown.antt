-- The bytes that show a text: as it is, in a string of JSON, or in a page of HTML; and the text that they show.
use Rattle.std.specs.Prelude.{ℕ, zero, suc, ◌+◌, ◌-◌, ◌*◌, ◌/◌, ◌%◌, ◌==◌, Bool, not, ◌&&◌, ◌||◌, if◌then◌else◌, nat_lt, List, [], ◌∷◌, ◌++◌}
use Rattle.explain_report.specs.declared.shown.Style.{Style}
use Rattle.explain_report.specs.declared.shown.Style.TheVariants.{Plain, Json, Html}

-- a hexadecimal digit, and its number
abbrev pub digit : ℕ → ℕ
digit n = if nat_lt n 10 then 48 + n else 87 + n

abbrev pub number : ℕ → ℕ
number c = if nat_lt c 58 then c - 48 else c - 87

-- bytes below 32, and where the text is no UTF-8 those above 127, stand by their numbers
abbrev pub is_numbered : Bool → ℕ → Bool
is_numbered is_text b = nat_lt b 32 || ((b == 127) || (not is_text && nat_lt 127 b))

-- \u00hh for a byte below 128 and \udchh for one above, as Python tells bytes that are no text
abbrev pub in_json : ℕ → List ℕ
in_json b = if nat_lt 127 b
    then 92 ∷ 117 ∷ 100 ∷ 99 ∷ digit (b / 16) ∷ digit (b % 16) ∷ []
    else 92 ∷ 117 ∷ 48 ∷ 48 ∷ digit (b / 16) ∷ digit (b % 16) ∷ []

-- &#xhh;
abbrev pub in_html : ℕ → List ℕ
in_html b = 38 ∷ 35 ∷ 120 ∷ digit (b / 16) ∷ digit (b % 16) ∷ 59 ∷ []

-- a backslash or a double quote, or numbered; &, <, >, a double or a single quote, or numbered
abbrev pub is_json : Bool → ℕ → Bool
is_json is_text b = (b == 92) || ((b == 34) || is_numbered is_text b)

abbrev pub is_html : Bool → ℕ → Bool
is_html is_text b = (b == 38) || ((b == 60) || ((b == 62) || ((b == 34) || ((b == 39) || is_numbered is_text b))))

abbrev pub shown_byte : Style → ℕ → List ℕ
shown_byte Plain b = b ∷ []
shown_byte (Json is_text) b = if is_json is_text b then in_json b else b ∷ []
shown_byte (Html is_text) b = if is_html is_text b then in_html b else b ∷ []

abbrev pub shown : Style → List ℕ → List ℕ
shown style [] = []
shown style (b ∷ bs) = shown_byte style b ++ shown style bs

-- what a reader makes of \u and four hexadecimal digits: the last two, so many bytes being left of the six and so much read
abbrev pub json_read : ℕ → ℕ → List ℕ → List ℕ
json_read left value [] = []
json_read zero value (b ∷ bs) = if b == 92 then json_read 5 0 bs else b ∷ json_read 0 0 bs
json_read (suc zero) value (b ∷ bs) = (value * 16 + number b) ∷ json_read 0 0 bs
json_read (suc (suc zero)) value (b ∷ bs) = json_read 1 (number b) bs
json_read (suc (suc (suc left))) value (b ∷ bs) = json_read (suc (suc left)) 0 bs

-- and of &#x, two hexadecimal digits and a semicolon
abbrev pub html_read : ℕ → ℕ → List ℕ → List ℕ
html_read left value [] = []
html_read zero value (b ∷ bs) = if b == 38 then html_read 5 0 bs else b ∷ html_read 0 0 bs
html_read (suc zero) value (b ∷ bs) = value ∷ html_read 0 0 bs
html_read (suc (suc zero)) value (b ∷ bs) = html_read 1 (value * 16 + number b) bs
html_read (suc (suc (suc zero))) value (b ∷ bs) = html_read 2 (number b) bs
html_read (suc (suc (suc (suc left)))) value (b ∷ bs) = html_read (suc (suc (suc left))) 0 bs

-- the text that bytes show
abbrev pub read_back : Style → List ℕ → List ℕ
read_back Plain bs = bs
read_back (Json is_text) bs = json_read 0 0 bs
read_back (Html is_text) bs = html_read 0 0 bs
