-- Tables of texts that grow.
use Rattle.std.proofs.Common.{◌≡◌, ◌∙◌, sym, ap, ℕ, List, ◌++◌, length, ◌<◌, arith, Bool, not, Some, Result, Ok, Err, IfOk}
use Rattle.std.specs.List.{position_or_len}
use Rattle.std.specs.Prelude.{bytes_eq}
use Rattle.std.proofs.lemmas.List.Folds.{prefix_len-append}
use Rattle.gl_logic.specs.Names.{number_of, Extends}
use Rattle.gl_logic.specs.declared.ids.TextId.{TextId}
use Rattle.gl_logic.specs.declared.ids.NoMemory.{NoMemory}
use Rattle.sexp_reader.specs.declared.lexeme.Mark.{Mark}
use Rattle.sexp_reader.specs.Grammar.{place_in, mark_text}

-- a first place stays the first where more is put behind
pub place-append : {A : Type 0} (p : A → Bool) (xs ys : List A) → position_or_len p xs < length xs → position_or_len p (xs ++ ys) ≡ position_or_len p xs
place-append p xs ys h = grind (arith, prefix_len-append (λ x. not (p x)) xs ys, h)

-- where a text has a number
pub found : (text : List ℕ) (names : List (List ℕ)) (n : ℕ) → number_of text names ≡ Some n → (place_in names text ≡ n) × (n < length names)
found text names n h = (grind (arith, h), grind (arith, h))

-- a number stays in each later table
pub place_later : (text : List ℕ) (names later : List (List ℕ)) (n : ℕ) → number_of text names ≡ Some n → Extends names later → n ≡ place_in later text
place_later text names later n h x =
    let f = found text names n h in
    sym (ap (λ (l : List (List ℕ)). place_in l text) x.1 ∙ (place-append (bytes_eq text) names x.0 (omega (arith, f.0, f.1)) ∙ f.0))

-- the symbol of a prefix
pub marked_place : (mark : Mark) (text : List ℕ) (r : Result TextId NoMemory) (names : List (List ℕ)) → mark_text mark ≡ text → IfOk r (λ id. number_of text names ≡ Some id.number)
    → IfOk r (λ id. (later : List (List ℕ)) → Extends names later → id.number ≡ place_in later (mark_text mark))
marked_place mark text (Ok id) names e h = λ later x. place_later text names later id.number h x ∙ ap (place_in later) (sym e)
marked_place mark text (Err e) names m h = tt
