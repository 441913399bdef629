-- How many bytes pieces have.
use Rattle.std.proofs.Common.{◌≡◌, ap, subst, refl, IfSome, ℕ, zero, suc, ◌+◌, ◌<◌, ◌≤◌, arith, Bool, true, false, cond, not, List, [], ◌∷◌, length, drop, Option, Some, None, ℤ}
use Rattle.std.specs.Prelude.{◌==◌, ◌&&◌, nat_lt, codes, option_map}
use Rattle.std.specs.List.{prefix_len, list_all}
use Rattle.std.proofs.lemmas.Bool.{cond_both, ltb-true, and_parts, false≢true}
use Rattle.std.proofs.lemmas.List.{length-drop}
use Rattle.std.proofs.lemmas.List.Sums.{prefix_len-le-length}
use Rattle.std.proofs.lemmas.List.Folds.{length-prefix_len}
use Rattle.sexp_reader.specs.declared.lexeme.Piece.{Piece}
use Rattle.sexp_reader.specs.declared.lexeme.Piece.TheVariants.{Ended, Torn, Gap, Part, Faulty}
use Rattle.sexp_reader.specs.declared.lexeme.Lexeme.TheVariants as lexeme
use Rattle.sexp_reader.specs.declared.lexeme.Atom.TheVariants as atoms
use Rattle.sexp_reader.specs.Bytes.{upper, is_white, is_constituent, is_printable, is_string_byte, front}
use Rattle.sexp_reader.specs.Numbers.{is_integer, integer_of, is_number_form}
use Rattle.sexp_reader.specs.Symbols.{named, colon_at, plain_piece, keyword_piece, dropped_piece, begins_as, own_piece, symbol_piece}
use Rattle.sexp_reader.specs.Tokens.{integer_piece, dots_piece, token_piece}
use Rattle.sexp_reader.specs.Strings.{behind_text, string_rest}
use Rattle.sexp_reader.specs.Comments.{comment_rest, comment_piece, line_piece}
use Rattle.sexp_reader.specs.Hashes.{coded_piece, spelled_piece, character_piece, base_of, based_piece, sharp_piece}
use Rattle.sexp_reader.specs.Pieces.{Spans, comma_piece, first_piece}

either : (n : ℕ) (b : Bool) (p q : Piece) → (b ≡ true → Spans n p) → (b ≡ false → Spans n q) → Spans n (cond b p q)
either n b p q = cond_both b p q (Spans n)

-- ---- tokens
front_length : (p : ℕ → Bool) (bytes : List ℕ) → length (front p bytes) ≤ length bytes
front_length p bytes = omega (arith, length-prefix_len p bytes, prefix_len-le-length p bytes)

front_some : (p : ℕ → Bool) (b : ℕ) (bs : List ℕ) → p b ≡ true → 0 < length (front p (b ∷ bs))
front_some p b bs e =
    let h : prefix_len p (b ∷ bs) ≡ 1 + prefix_len p bs = ap (λ t. cond t (1 + prefix_len p bs) 0) e in
    omega (arith, length-prefix_len p (b ∷ bs), h)

named_spans : (n count : ℕ) (name : List ℕ) → 0 < count → count ≤ n → Spans n (named count name)
named_spans n count name h k = either n (nat_lt 255 (length name)) _ _ (λ _. omega arith) (λ _. (h, k))

plain_spans : (n dropped : ℕ) (name : List ℕ) → 0 < dropped + length name → dropped + length name ≤ n → Spans n (plain_piece dropped name)
plain_spans n dropped name h k =
    either n (nat_lt (colon_at name) (length name)) _ _
    (λ e. let l = ltb-true (colon_at name) (length name) e in omega arith)
    (λ _. named_spans n (dropped + length name) name h k)

keyword_spans : (n : ℕ) (token bytes : List ℕ) → 0 < length token → length token ≤ n → Spans n (keyword_piece token bytes)
keyword_spans n token [] h k = omega arith
keyword_spans n token (b ∷ bs) h k =
    either n (nat_lt (colon_at (b ∷ bs)) (length (b ∷ bs))) _ _ (λ _. omega arith) (λ _. named_spans n (length token) token h k)

dropped_spans : (n colon : ℕ) (bytes : List ℕ) → 1 + colon + length bytes ≤ n → Spans n (dropped_piece colon bytes)
dropped_spans n colon [] k = omega arith
dropped_spans n colon (b ∷ bs) k = plain_spans n (1 + colon) (b ∷ bs) (omega arith) k

own_spans : (n : ℕ) (token : List ℕ) → 0 < length token → length token ≤ n → Spans n (own_piece token)
own_spans n [] h k = plain_spans n 0 [] h k
own_spans n (b ∷ bs) h k = either n (b == 58) _ _ (λ _. keyword_spans n (b ∷ bs) bs h k) (λ _. plain_spans n 0 (b ∷ bs) (omega arith) (omega arith))

pub begins_long : (text token : List ℕ) → begins_as text token ≡ true → length text ≤ length token
begins_long [] token e = omega arith
begins_long (t ∷ text) [] e = absurd (false≢true e)
begins_long (t ∷ text) (b ∷ token) e = omega (arith, begins_long text token ((and_parts (upper b == t) (begins_as text token) e).1))

symbol_spans : (n : ℕ) (token : List ℕ) → 0 < length token → length token ≤ n → Spans n (symbol_piece token)
symbol_spans n token h k =
    either n (begins_as (codes "ACL2::") token) _ _
    (λ e. dropped_spans n 5 (drop 6 token) (omega (arith, begins_long (codes "ACL2::") token e, length-drop 6 token)))
    (λ _. either n (begins_as (codes "GL::") token) _ _
    (λ e. dropped_spans n 3 (drop 4 token) (omega (arith, begins_long (codes "GL::") token e, length-drop 4 token)))
    (λ _. own_spans n token h k))

integer_spans : (n count : ℕ) (z : Option ℤ) → 0 < count → count ≤ n → Spans n (integer_piece count z)
integer_spans n count (Some z) h k = (h, k)
integer_spans n count None h k = omega arith

dots_spans : (n : ℕ) (token : List ℕ) → 0 < length token → length token ≤ n → Spans n (dots_piece token)
dots_spans n token h k = either n (length token == 1) _ _ (λ _. (omega arith, omega arith)) (λ _. omega arith)

token_spans : (n : ℕ) (token : List ℕ) → 0 < length token → length token ≤ n → Spans n (token_piece token)
token_spans n token h k =
    either n (is_integer 10 token) _ _ (λ _. integer_spans n (length token) (integer_of 10 token) h k)
    (λ _. either n (is_number_form token) _ _ (λ _. omega arith)
    (λ _. either n (list_all (λ byte. byte == 46) token) _ _ (λ _. dots_spans n token h k) (λ _. symbol_spans n token h k)))

-- ---- strings
behind_spans : (n more : ℕ) (text : List ℕ) (p : Piece) → Spans n p → Spans (more + n) (behind_text more text p)
behind_spans n more text Ended h = h
behind_spans n more text Torn h = h
behind_spans n more text (Gap k) h = (h.0, omega (arith, h.1))
behind_spans n more text (Faulty k c) h = omega arith
behind_spans n more text (Part k lexeme.Open) h = (h.0, omega (arith, h.1))
behind_spans n more text (Part k lexeme.Close) h = (h.0, omega (arith, h.1))
behind_spans n more text (Part k lexeme.Dot) h = (h.0, omega (arith, h.1))
behind_spans n more text (Part k (lexeme.Prefix m)) h = (h.0, omega (arith, h.1))
behind_spans n more text (Part k lexeme.Splice) h = (h.0, omega (arith, h.1))
behind_spans n more text (Part k (lexeme.Atom (atoms.Integer z))) h = (h.0, omega (arith, h.1))
behind_spans n more text (Part k (lexeme.Atom (atoms.Character c))) h = (h.0, omega (arith, h.1))
behind_spans n more text (Part k (lexeme.Atom (atoms.Symbol t))) h = (h.0, omega (arith, h.1))
behind_spans n more text (Part k (lexeme.Atom (atoms.String t))) h = (omega (arith, h.0), omega (arith, h.1))

string_spans : (taken : Bool) (bytes : List ℕ) → Spans (length bytes) (string_rest taken bytes)
string_spans taken [] = omega arith
string_spans taken (b ∷ bs) =
    let add : length (b ∷ bs) ≡ 1 + length bs = omega arith in
    rw add (either (1 + length bs) (not taken && (b == 34)) _ _ (λ _. (omega arith, omega arith))
    (λ _. either (1 + length bs) (not taken && (b == 92)) _ _ (λ _. behind_spans (length bs) 1 [] _ (string_spans true bs))
    (λ _. either (1 + length bs) (is_string_byte b) _ _ (λ _. behind_spans (length bs) 1 (b ∷ []) _ (string_spans false bs)) (λ _. omega arith))))

-- ---- number signs
mapped_within : (o : Option ℕ) (more m n : ℕ) → more + m ≤ n → IfSome o (λ k. k ≤ m) → IfSome (option_map (λ k. more + k) o) (λ k. k ≤ n)
mapped_within (Some k) more m n l h = omega arith
mapped_within None more m n l h = tt

some_within : (b : Bool) (o p : Option ℕ) (n : ℕ) → IfSome o (λ k. k ≤ n) → IfSome p (λ k. k ≤ n) → IfSome (cond b o p) (λ k. k ≤ n)
some_within true o p n g h = g
some_within false o p n g h = h

comment_bound : (bytes : List ℕ) (n : ℕ) → IfSome (comment_rest bytes n) (λ k. k ≤ length bytes)
comment_bound [] zero = omega arith
comment_bound [] (suc n) = tt
comment_bound (b ∷ []) zero = omega arith
comment_bound (b ∷ []) (suc n) = tt
comment_bound (b ∷ c ∷ bs) zero = omega arith
comment_bound (b ∷ c ∷ bs) (suc n) =
    let m = length (b ∷ c ∷ bs) in
    some_within ((b == 124) && (c == 35)) _ _ m (mapped_within _ 2 (length bs) m (omega arith) (comment_bound bs n))
    (some_within ((b == 35) && (c == 124)) _ _ m (mapped_within _ 2 (length bs) m (omega arith) (comment_bound bs (suc (suc n)))) (mapped_within _ 1 (length (c ∷ bs)) m (omega arith) (comment_bound (c ∷ bs) (suc n))))

comment_within : (bytes : List ℕ) (n k : ℕ) → comment_rest bytes n ≡ Some k → k ≤ length bytes
comment_within bytes n k e = subst (λ (o : Option ℕ). IfSome o (λ k. k ≤ length bytes)) e (comment_bound bytes n)

coded_spans : (n count : ℕ) (code : Option ℕ) → 0 < count → count ≤ n → Spans n (coded_piece count code)
coded_spans n count (Some c) h k = (h, k)
coded_spans n count None h k = omega arith

spelled_spans : (n : ℕ) (name : List ℕ) → 0 < length name → 2 + length name ≤ n → Spans n (spelled_piece name)
spelled_spans n name h k = either n (length name == 1) _ _ (λ _. (omega arith, omega arith)) (λ _. coded_spans n (2 + length name) _ (omega arith) k)

character_spans : (n : ℕ) (bytes : List ℕ) → 2 + length bytes ≤ n → Spans n (character_piece bytes)
character_spans n [] k = omega arith
character_spans n (b ∷ bs) k =
    either n (is_constituent b) _ _ (λ e. spelled_spans n (front is_constituent (b ∷ bs)) (front_some is_constituent b bs e) (omega (arith, front_length is_constituent (b ∷ bs))))
    (λ _. either n (is_printable b) _ _ (λ _. (omega arith, omega arith)) (λ _. omega arith))

based_spans : (n : ℕ) (base : Option ℕ) (token : List ℕ) → 2 + length token ≤ n → Spans n (based_piece base token)
based_spans n None token k = omega arith
based_spans n (Some base) token k = either n (is_integer base token) _ _ (λ _. integer_spans n (2 + length token) _ (omega arith) k) (λ _. omega arith)

comment_spans : (n : ℕ) (bytes : List ℕ) (o : Option ℕ) → comment_rest bytes 1 ≡ o → 2 + length bytes ≤ n → Spans n (comment_piece o)
comment_spans n bytes (Some k) e l = (omega arith, omega (arith, comment_within bytes 1 k e))
comment_spans n bytes None e l = tt

hash_spans : (n : ℕ) (bytes : List ℕ) → 1 + length bytes ≤ n → Spans n (sharp_piece bytes)
hash_spans n [] k = tt
hash_spans n (b ∷ bs) k =
    either n (b == 124) _ _ (λ _. comment_spans n bs (comment_rest bs 1) refl (omega arith))
    (λ _. either n (b == 92) _ _ (λ _. character_spans n bs (omega arith))
    (λ _. based_spans n (base_of b) (front is_constituent bs) (omega (arith, front_length is_constituent bs))))

-- ---- all of them
comma_spans : (n : ℕ) (bytes : List ℕ) → 1 ≤ n → Spans n (comma_piece bytes)
comma_spans n [] k = (omega arith, k)
comma_spans n (b ∷ bs) k = either n (b == 64) _ _ (λ _. (omega arith, k)) (λ _. (omega arith, k))

line_spans : (n : ℕ) (bytes : List ℕ) → 1 + length bytes ≤ n → Spans n (line_piece bytes)
line_spans n bytes k = (omega arith, omega (arith, prefix_len-le-length (λ byte. not (byte == 10)) bytes))

pub piece_spans : (bytes : List ℕ) → Spans (length bytes) (first_piece bytes)
piece_spans [] = tt
piece_spans (b ∷ bs) =
    let n = length (b ∷ bs) in
    let one : 1 ≤ n = omega arith in
    let point : (0 < 1) × (1 ≤ n) = (omega arith, one) in
    either n (is_white b) _ _ (λ _. point)
    (λ _. either n (b == 59) _ _ (λ _. line_spans n bs (omega arith))
    (λ _. either n (b == 40) _ _ (λ _. point)
    (λ _. either n (b == 41) _ _ (λ _. point)
    (λ _. either n (b == 39) _ _ (λ _. point)
    (λ _. either n (b == 96) _ _ (λ _. point)
    (λ _. either n (b == 44) _ _ (λ _. comma_spans n bs one)
    (λ _. either n (b == 34) _ _ (λ _. let add : n ≡ 1 + length bs = omega arith in rw add (behind_spans (length bs) 1 [] _ (string_spans false bs)))
    (λ _. either n (b == 35) _ _ (λ _. hash_spans n bs (omega arith))
    (λ _. either n (is_constituent b) _ _ (λ e. token_spans n _ (front_some is_constituent b bs e) (front_length is_constituent (b ∷ bs))) (λ _. omega arith))))))))))
