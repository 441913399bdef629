-- The text of an integer is text.
use Rattle.std.proofs.Common.{◌≡◌, ◌<◌, ℕ, zero, suc, Bool, true, false, List, [], ◌∷◌, drop, cond, ◌==◌, rules}
use Rattle.std.proofs.lemmas.Fmt.{IsAscii-from_digits}
use Rattle.std.proofs.lemmas.Str.{IsUtf8-from_ascii}
use Rattle.std.specs.Str.{IsAscii, IsUtf8}
use Rattle.std.specs.Str.Parse.{AllDigits}
use Rattle.explain_report.specs.Bases.{IsInteger}

-- a sign in front
behind : (c : ℕ) (cs : List ℕ) → c < 128 → IsAscii cs → IsAscii (c ∷ cs)
behind c cs small h zero = small
behind c cs small h (suc i) = h i

by_sign : (c : ℕ) (cs : List ℕ) (minus plus : Bool) → (c == 45) ≡ minus → (c == 43) ≡ plus → AllDigits 10 (cond minus cs (drop (cond plus 1 0) (c ∷ cs))) → IsAscii (c ∷ cs)
by_sign c cs true plus m p h = behind c cs (search rules) (IsAscii-from_digits cs h)
by_sign c cs false true m p h = behind c cs (search rules) (IsAscii-from_digits cs h)
by_sign c cs false false m p h = IsAscii-from_digits (c ∷ cs) h

ascii : (text : List ℕ) → IsInteger text → IsAscii text
ascii [] h = search rules
ascii (c ∷ cs) h = by_sign c cs (c == 45) (c == 43) (λ i. c == 45) (λ i. c == 43) h.0.1

pub is_utf8 : (text : List ℕ) → IsInteger text → IsUtf8 text
is_utf8 text h = IsUtf8-from_ascii text (ascii text h)
