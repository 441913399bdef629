-- The integers and the characters that pieces spell.
use Rattle.std.proofs.Common.{◌≡◌, ◌∙◌, sym, ap, subst, refl, not, take, ℕ, suc, ◌+◌, ◌^◌, ◌<◌, ◌≤◌, arith, Bool, true, false, cond, List, [], ◌∷◌, map, length, drop, Option, Some, None, ℤ, pos, neg_ℤ}
use Rattle.std.specs.Prelude.{◌==◌, ◌&&◌, nat_lt, nat_le, codes, bytes_eq, slice_index}
use Rattle.std.specs.List.{list_all, prefix_len}
use Rattle.std.proofs.lemmas.Bool.{cond_both, ltb-true, leb-true, and_parts}
use Rattle.std.proofs.lemmas.Int.{ints}
use Rattle.std.proofs.lemmas.Option.{cond_some}
use Rattle.gl_logic.specs.Width.{Fits}
use Rattle.sexp_reader.specs.declared.lexeme.Atom.{Atom}
use Rattle.sexp_reader.specs.declared.lexeme.Atom.TheVariants as atoms
use Rattle.sexp_reader.specs.declared.lexeme.Piece.{Piece}
use Rattle.sexp_reader.specs.declared.lexeme.Piece.TheVariants.{Ended, Torn, Gap, Part, Faulty}
use Rattle.sexp_reader.specs.declared.lexeme.Lexeme.TheVariants as lexeme
use Rattle.sexp_reader.specs.Bytes.{upper, is_white, is_constituent, is_printable, is_string_byte, front}
use Rattle.sexp_reader.specs.Numbers.{is_integer, signed, integer_of, has_minus, value, behind_sign, is_number_form}
use Rattle.sexp_reader.specs.Symbols.{named, colon_at, plain_piece, keyword_piece, dropped_piece, begins_as, own_piece, symbol_piece}
use Rattle.sexp_reader.specs.Tokens.{integer_piece, dots_piece, token_piece}
use Rattle.sexp_reader.specs.Strings.{behind_text, string_rest}
use Rattle.sexp_reader.specs.Comments.{comment_rest, comment_piece}
use Rattle.sexp_reader.specs.Hashes.{character_code, coded_piece, character_piece, base_of, based_piece, sharp_piece}
use Rattle.sexp_reader.specs.Pieces.{comma_piece, first_piece}

-- an integer within 128 bits, a character of a code that is at most 127
abbrev pub IsFine : Atom → Type 0
IsFine (atoms.Integer z) = Fits z
IsFine (atoms.Character code) = code ≤ 127
IsFine leaf = Unit {0}

abbrev Fine : Piece → Type 0
Fine (Part count (lexeme.Atom leaf)) = IsFine leaf
Fine piece = Unit {0}

both : (b : Bool) (p q : Piece) → (b ≡ true → Fine p) → (b ≡ false → Fine q) → Fine (cond b p q)
both b p q = cond_both b p q Fine

-- ---- symbols and dots
named_fine : (count : ℕ) (name : List ℕ) → Fine (named count name)
named_fine count name = both (nat_lt 255 (length name)) _ _ (λ _. tt) (λ _. tt)

plain_fine : (dropped : ℕ) (name : List ℕ) → Fine (plain_piece dropped name)
plain_fine dropped name = both (nat_lt (colon_at name) (length name)) _ _ (λ _. tt) (λ _. named_fine (dropped + length name) name)

keyword_fine : (token bytes : List ℕ) → Fine (keyword_piece token bytes)
keyword_fine token [] = tt
keyword_fine token (b ∷ bs) = both (nat_lt (colon_at (b ∷ bs)) (length (b ∷ bs))) _ _ (λ _. tt) (λ _. named_fine (length token) token)

dropped_fine : (colon : ℕ) (bytes : List ℕ) → Fine (dropped_piece colon bytes)
dropped_fine colon [] = tt
dropped_fine colon (b ∷ bs) = plain_fine (1 + colon) (b ∷ bs)

own_fine : (token : List ℕ) → Fine (own_piece token)
own_fine [] = plain_fine 0 []
own_fine (b ∷ bs) = both (b == 58) _ _ (λ _. keyword_fine (b ∷ bs) bs) (λ _. plain_fine 0 (b ∷ bs))

symbol_fine : (token : List ℕ) → Fine (symbol_piece token)
symbol_fine token =
    both (begins_as (codes "ACL2::") token) _ _ (λ _. dropped_fine 5 (drop 6 token))
    (λ _. both (begins_as (codes "GL::") token) _ _ (λ _. dropped_fine 3 (drop 4 token)) (λ _. own_fine token))

dots_fine : (token : List ℕ) → Fine (dots_piece token)
dots_fine token = both (length token == 1) _ _ (λ _. tt) (λ _. tt)

-- ---- integers
signed_fits : (minus : Bool) (n : ℕ) (z : ℤ) → signed minus n ≡ Some z → Fits z
signed_fits true n z e =
    let h = cond_some (nat_le n (2 ^ 127)) (neg_ℤ (pos n)) z e in
    let within : n ≤ 2 ^ 127 = leb-true n (2 ^ 127) h.0 in
    subst Fits h.1 (omega (arith, ints, within), omega (arith, ints))
signed_fits false n z e =
    let h = cond_some (nat_lt n (2 ^ 127)) (pos n) z e in
    let below : n < 2 ^ 127 = ltb-true n (2 ^ 127) h.0 in
    subst Fits h.1 (omega (arith, ints), omega (arith, ints, below))

integer_fine : (count : ℕ) (o : Option ℤ) → ((z : ℤ) → o ≡ Some z → Fits z) → Fine (integer_piece count o)
integer_fine count (Some z) h = h z refl
integer_fine count None h = tt

based_integer : (count base : ℕ) (token : List ℕ) → Fine (integer_piece count (integer_of base token))
based_integer count base token = integer_fine count (integer_of base token) (signed_fits (has_minus token) (value base 0 (behind_sign token)))

token_fine : (token : List ℕ) → Fine (token_piece token)
token_fine token =
    both (is_integer 10 token) _ _ (λ _. based_integer (length token) 10 token)
    (λ _. both (is_number_form token) _ _ (λ _. tt) (λ _. both (list_all (λ byte. byte == 46) token) _ _ (λ _. dots_fine token) (λ _. symbol_fine token)))

-- ---- strings
behind_fine : (more : ℕ) (text : List ℕ) (p : Piece) → Fine p → Fine (behind_text more text p)
behind_fine more text Ended h = tt
behind_fine more text Torn h = tt
behind_fine more text (Gap k) h = tt
behind_fine more text (Faulty k c) h = tt
behind_fine more text (Part k lexeme.Open) h = tt
behind_fine more text (Part k lexeme.Close) h = tt
behind_fine more text (Part k lexeme.Dot) h = tt
behind_fine more text (Part k (lexeme.Prefix m)) h = tt
behind_fine more text (Part k lexeme.Splice) h = tt
behind_fine more text (Part k (lexeme.Atom (atoms.Integer z))) h = h
behind_fine more text (Part k (lexeme.Atom (atoms.Character c))) h = h
behind_fine more text (Part k (lexeme.Atom (atoms.Symbol t))) h = tt
behind_fine more text (Part k (lexeme.Atom (atoms.String t))) h = tt

string_fine : (taken : Bool) (bytes : List ℕ) → Fine (string_rest taken bytes)
string_fine taken [] = tt
string_fine taken (b ∷ bs) =
    both (not taken && (b == 34)) _ _ (λ _. tt)
    (λ _. both (not taken && (b == 92)) _ _ (λ _. behind_fine 1 [] _ (string_fine true bs))
    (λ _. both (is_string_byte b) _ _ (λ _. behind_fine 1 (b ∷ []) _ (string_fine false bs)) (λ _. tt)))

-- ---- characters
printable_most : (byte : ℕ) → is_printable byte ≡ true → byte ≤ 127
printable_most byte e = let h = leb-true byte 126 ((and_parts (nat_le 32 byte) (nat_le byte 126) e).1) in omega arith

abbrev Most : Option ℕ → Type 0
Most (Some code) = code ≤ 127
Most None = Unit {0}

codes_most : (name : List ℕ) → Most (character_code name)
codes_most name =
    cond_both (bytes_eq name (codes "SPACE")) _ _ Most (λ _. omega arith)
    (λ _. cond_both (bytes_eq name (codes "TAB")) _ _ Most (λ _. omega arith)
    (λ _. cond_both (bytes_eq name (codes "NEWLINE")) _ _ Most (λ _. omega arith)
    (λ _. cond_both (bytes_eq name (codes "PAGE")) _ _ Most (λ _. omega arith)
    (λ _. cond_both (bytes_eq name (codes "RETURN")) _ _ Most (λ _. omega arith)
    (λ _. cond_both (bytes_eq name (codes "RUBOUT")) _ _ Most (λ _. omega arith) (λ _. tt))))))

coded_fine : (count : ℕ) (o : Option ℕ) → Most o → Fine (coded_piece count o)
coded_fine count (Some code) h = h
coded_fine count None h = tt

constituent_most : (byte : ℕ) → is_constituent byte ≡ true → byte ≤ 127
constituent_most byte e =
    let seen = (and_parts (nat_le 33 byte && nat_le byte 126) _ e).0 in
    let h = leb-true byte 126 ((and_parts (nat_le 33 byte) (nat_le byte 126) seen).1) in omega arith

front_first : (p : ℕ → Bool) (b : ℕ) (bs : List ℕ) → p b ≡ true → slice_index (front p (b ∷ bs)) 0 ≡ b
front_first p b bs e =
    let h : prefix_len p (b ∷ bs) ≡ suc (prefix_len p bs) = ap (λ t. cond t (1 + prefix_len p bs) 0) e ∙ one_more (prefix_len p bs) in
    ap (λ n. slice_index (take n (b ∷ bs)) 0) h where
      one_more : (n : ℕ) → 1 + n ≡ suc n
      one_more n = omega arith

character_fine : (bytes : List ℕ) → Fine (character_piece bytes)
character_fine [] = tt
character_fine (b ∷ bs) =
    both (is_constituent b) _ _
    (λ e. both (length (front is_constituent (b ∷ bs)) == 1) _ _ (λ _. subst (λ code. code ≤ 127) (sym (front_first is_constituent b bs e)) (constituent_most b e))
    (λ _. coded_fine (2 + length (front is_constituent (b ∷ bs))) _ (codes_most (map upper (front is_constituent (b ∷ bs))))))
    (λ _. both (is_printable b) _ _ (λ e. printable_most b e) (λ _. tt))

-- ---- all of them
comment_fine : (o : Option ℕ) → Fine (comment_piece o)
comment_fine (Some k) = tt
comment_fine None = tt

based_fine : (base : Option ℕ) (token : List ℕ) → Fine (based_piece base token)
based_fine None token = tt
based_fine (Some base) token = both (is_integer base token) _ _ (λ _. based_integer (2 + length token) base token) (λ _. tt)

hash_fine : (bytes : List ℕ) → Fine (sharp_piece bytes)
hash_fine [] = tt
hash_fine (b ∷ bs) = both (b == 124) _ _ (λ _. comment_fine (comment_rest bs 1)) (λ _. both (b == 92) _ _ (λ _. character_fine bs) (λ _. based_fine (base_of b) (front is_constituent bs)))

comma_fine : (bytes : List ℕ) → Fine (comma_piece bytes)
comma_fine [] = tt
comma_fine (b ∷ bs) = both (b == 64) _ _ (λ _. tt) (λ _. tt)

piece_fine : (bytes : List ℕ) → Fine (first_piece bytes)
piece_fine [] = tt
piece_fine (b ∷ bs) =
    both (is_white b) _ _ (λ _. tt)
    (λ _. both (b == 59) _ _ (λ _. tt)
    (λ _. both (b == 40) _ _ (λ _. tt)
    (λ _. both (b == 41) _ _ (λ _. tt)
    (λ _. both (b == 39) _ _ (λ _. tt)
    (λ _. both (b == 96) _ _ (λ _. tt)
    (λ _. both (b == 44) _ _ (λ _. comma_fine bs)
    (λ _. both (b == 34) _ _ (λ _. behind_fine 1 [] _ (string_fine false bs))
    (λ _. both (b == 35) _ _ (λ _. hash_fine bs)
    (λ _. both (is_constituent b) _ _ (λ _. token_fine (front is_constituent (b ∷ bs))) (λ _. tt))))))))))

-- the atom that a text begins with
pub atom_fine : (bytes : List ℕ) (count : ℕ) (leaf : Atom) → first_piece bytes ≡ Part count (lexeme.Atom leaf) → IsFine leaf
atom_fine bytes count leaf e = subst Fine e (piece_fine bytes)
