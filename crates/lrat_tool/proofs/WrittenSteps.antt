-- Texts that are written line by line, and number by number.
use Rattle.std.proofs.Common.{◌≡◌, ◌∙◌, ap, sym, refl, subst, ℕ, zero, suc, ℤ, ◌+◌, ◌-◌, ◌<◌, ◌≤◌, true, false, List, [], ◌∷◌, ◌++◌, length, get_or, map, take, Some, Ok, Err, Result, OnOk, OnErr, arith}
use Rattle.std.specs.Prelude.{max, slice_get, codes}
use Rattle.std.specs.Fmt.{decimal, signed_decimal}
use Rattle.std.specs.Int.RustNames.{unsigned_abs}
use Rattle.std.specs.List.{flat_map, join_with_byte, list_any}
use Rattle.std.specs.Ordering.{nat_cmp, ord_max}
use Rattle.std.proofs.lemmas.Bool.Decides.{nat_tests}
use Rattle.std.proofs.lemmas.List.{append-nil, append_assoc, get_or-drop, get_or-take, length-drop, length-map, length-take, take-map, take_all, take_more}
use Rattle.std.proofs.lemmas.List.Concat.{flat_map-append}
use Rattle.std.proofs.lemmas.List.Folds.{flat_map-map}
use Rattle.std.proofs.lemmas.Option.{get_or_from_slice_get, slice_get-get_or, slice_get_within}
use Rattle.cnf_rup.specs.declared.clause.Entry.{Entry}
use Rattle.cnf_rup.specs.Books.{BookSeen, clauses_of, first_clauses, is_empty, log_of}
use Rattle.lrat_tool.specs.Written.{clause_words, empty_number, entries_words, entry_words, greatest_of, greatest_variable, hint_words, line_of, text_of}
use Rattle.lrat_tool.proofs.WrittenGreatest.{greatest_append}

-- ---- one more
pub take_one : {X : Type 0} (xs : List X) (i : ℕ) (x : X) → slice_get xs i ≡ Some x → take (i + 1) xs ≡ take i xs ++ x ∷ []
take_one xs i x h = take_more xs i x (slice_get_within xs i x h) ∙ ap (λ y. take i xs ++ y ∷ []) (get_or_from_slice_get xs i x x h)

pub put_more : {X : Type 0} (f : X → List ℕ) (xs : List X) (i : ℕ) (x : X) (start old new : List ℕ) → slice_get xs i ≡ Some x → old ≡ start ++ flat_map f (take i xs) → new ≡ old ++ f x → new ≡ start ++ flat_map f (take (i + 1) xs)
put_more f xs i x start old new h o n =
    n ∙ ap (λ ys. ys ++ f x) o ∙ append_assoc start (flat_map f (take i xs)) (f x)
    ∙ ap (λ ys. start ++ (flat_map f (take i xs) ++ ys)) (sym (append-nil (f x)))
    ∙ ap (λ ys. start ++ ys) (sym (ap (flat_map f) (take_one xs i x h) ∙ flat_map-append f (take i xs) (x ∷ [])))

-- ---- the places of a book
pub first_at : (b : BookSeen) (i : ℕ) (c : List ℤ) → i < b.first → slice_get (clauses_of b.entries) (i + 1 - 1) ≡ Some c → slice_get (first_clauses b) i ≡ Some c
first_at b i c lt h =
    let at : slice_get (clauses_of b.entries) i ≡ Some c = subst (λ n. slice_get (clauses_of b.entries) n ≡ Some c) (omega arith) h in
    let within : i < length (clauses_of b.entries) = slice_get_within (clauses_of b.entries) i c at in
    ap (λ cs. slice_get cs i) (sym (take-map (λ (e : Entry). e.clause) b.first b.entries))
    ∙ slice_get-get_or (take b.first (clauses_of b.entries)) i c (omega (arith, length-take b.first (clauses_of b.entries), lt, within))
    ∙ ap Some (get_or-take b.first (clauses_of b.entries) i c lt ∙ get_or_from_slice_get (clauses_of b.entries) i c c at)

pub log_at : (b : BookSeen) (i : ℕ) (e : Entry) → b.first ≤ i → slice_get b.entries (i + 1 - 1) ≡ Some e → slice_get (log_of b) (i - b.first) ≡ Some e
log_at b i e le h =
    let at : slice_get b.entries i ≡ Some e = subst (λ n. slice_get b.entries n ≡ Some e) (omega arith) h in
    let within : i < length b.entries = slice_get_within b.entries i e at in
    slice_get-get_or (log_of b) (i - b.first) e (omega (arith, length-drop b.first b.entries, le, within))
    ∙ ap Some (get_or-drop b.first b.entries (i - b.first) e ∙ ap (λ n. get_or b.entries n e) (omega (arith, le)) ∙ get_or_from_slice_get b.entries i e e at)

pub all_first : (b : BookSeen) → b.first ≤ length b.entries → take b.first (first_clauses b) ≡ first_clauses b
all_first b le = take_all b.first (first_clauses b) (omega (arith, length-map (take b.first b.entries) (λ (e : Entry). e.clause), length-take b.first b.entries))

-- ---- the greatest variable
pub greatest_more : (c : List ℤ) (i : ℕ) (l : ℤ) → slice_get c i ≡ Some l → greatest_of (take (i + 1) c) ≡ max (greatest_of (take i c)) (unsigned_abs l)
greatest_more c i l h = ap greatest_of (take_one c i l h) ∙ greatest_append (take i c) (l ∷ []) ∙ omega arith

pub variable_more : (clauses : List (List ℤ)) (i : ℕ) (c : List ℤ) → slice_get clauses i ≡ Some c → greatest_variable (take (i + 1) clauses) ≡ max (greatest_variable (take i clauses)) (greatest_of c)
variable_more clauses i c h =
    ap greatest_variable (take_one clauses i c h)
    ∙ ap greatest_of (flat_map-append (λ x. x) (take i clauses) (c ∷ []))
    ∙ greatest_append (flat_map (λ x. x) (take i clauses)) (c ++ [])
    ∙ ap (λ xs. max (greatest_variable (take i clauses)) (greatest_of xs)) (append-nil c)

-- ---- the first empty clause
pub empty_at : (clauses : List (List ℤ)) (i : ℕ) (c : List ℤ) → slice_get clauses i ≡ Some c → list_any is_empty (take i clauses) ≡ false → length c ≡ 0 → (list_any is_empty clauses ≡ true) × (i + 1 ≡ empty_number clauses)
empty_at [] i c h none short = absurd cc
empty_at ([] ∷ clauses) zero c h none short = (refl, omega arith)
empty_at ([] ∷ clauses) (suc i) c h none short = absurd cc
empty_at ((l ∷ ls) ∷ clauses) zero c h none short = let same : l ∷ ls ≡ c = cc in absurd (omega (arith, ap length same, short))
empty_at ((l ∷ ls) ∷ clauses) (suc i) c h none short =
    let rest = empty_at clauses i c h none short in (rest.0, omega (arith, rest.1))

pub none_more : (clauses : List (List ℤ)) (i : ℕ) (c : List ℤ) → slice_get clauses i ≡ Some c → list_any is_empty (take i clauses) ≡ false → (length c ≡ 0 → ⊥) → list_any is_empty (take (i + 1) clauses) ≡ false
none_more clauses i c h none long = ap (list_any is_empty) (take_one clauses i c h) ∙ put c (take i clauses) none long
  where
    put : (c : List ℤ) (cs : List (List ℤ)) → list_any is_empty cs ≡ false → (length c ≡ 0 → ⊥) → list_any is_empty (cs ++ c ∷ []) ≡ false
    put [] cs none long = absurd (long refl)
    put (l ∷ ls) [] none long = refl
    put (l ∷ ls) ([] ∷ cs) none long = absurd cc
    put (l ∷ ls) ((k ∷ ks) ∷ cs) none long = put (l ∷ ls) cs none long

-- ---- numbers with blanks
pub joined_zero : {X : Type 0} (f : X → List ℕ) (xs : List X) → flat_map (λ x. f x ++ 32 ∷ []) xs ++ codes "0" ≡ join_with_byte 32 (map f xs ++ codes "0" ∷ [])
joined_zero f [] = refl
joined_zero f (x ∷ []) = append_assoc (f x ++ 32 ∷ []) [] (codes "0") ∙ append_assoc (f x) (32 ∷ []) (codes "0")
joined_zero f (x ∷ y ∷ xs) =
    append_assoc (f x ++ 32 ∷ []) (flat_map (λ z. f z ++ 32 ∷ []) (y ∷ xs)) (codes "0")
    ∙ append_assoc (f x) (32 ∷ []) (flat_map (λ z. f z ++ 32 ∷ []) (y ∷ xs) ++ codes "0")
    ∙ ap (λ ys. f x ++ 32 ∷ ys) (joined_zero f (y ∷ xs))

joined_words : (v w : List ℕ) (xs ys : List (List ℕ)) → join_with_byte 32 ((v ∷ xs) ++ w ∷ ys) ≡ join_with_byte 32 (v ∷ xs) ++ 32 ∷ join_with_byte 32 (w ∷ ys)
joined_words v w [] ys = refl
joined_words v w (x ∷ xs) ys =
    ap (λ zs. v ++ 32 ∷ zs) (joined_words x w xs ys) ∙ sym (append_assoc v (32 ∷ join_with_byte 32 (x ∷ xs)) (32 ∷ join_with_byte 32 (w ∷ ys)))

joined_clause : (c : List ℤ) (hints : List ℕ) → join_with_byte 32 (clause_words c ++ hint_words hints) ≡ join_with_byte 32 (clause_words c) ++ 32 ∷ join_with_byte 32 (hint_words hints)
joined_clause [] [] = refl
joined_clause [] (h ∷ hs) = refl
joined_clause (l ∷ c) [] = joined_words (signed_decimal l) (codes "0") (clause_words c) []
joined_clause (l ∷ c) (h ∷ hs) = joined_words (signed_decimal l) (decimal h) (clause_words c) (hint_words hs)

joined_id : (id : List ℕ) (c : List ℤ) (hints : List ℕ) → join_with_byte 32 (id ∷ (clause_words c ++ hint_words hints)) ≡ id ++ 32 ∷ join_with_byte 32 (clause_words c ++ hint_words hints)
joined_id id [] hints = refl
joined_id id (l ∷ c) hints = refl

-- the parts of an entry's line, one behind another
pub entry_put : (id : ℕ) (e : Entry) (a b c d f g : List ℕ) → b ≡ a ++ (decimal id ++ 32 ∷ []) → c ≡ b ++ join_with_byte 32 (clause_words e.clause) → d ≡ c ++ 32 ∷ [] → f ≡ d ++ join_with_byte 32 (hint_words e.hints) → g ≡ f ++ 10 ∷ [] → g ≡ a ++ line_of (entry_words id e)
entry_put id e a b c d f g p q r s t =
    let line : line_of (entry_words id e) ≡ (decimal id ++ 32 ∷ (join_with_byte 32 (clause_words e.clause) ++ 32 ∷ join_with_byte 32 (hint_words e.hints))) ++ 10 ∷ [] =
    ap (λ ys. ys ++ 10 ∷ []) (joined_id (decimal id) e.clause e.hints ∙ ap (λ ys. decimal id ++ 32 ∷ ys) (joined_clause e.clause e.hints)) in
    rw (t, s, r, q, p, line) (simp append_assoc)

-- ---- entries, one after another
words_push : (id : ℕ) (es : List Entry) (e : Entry) → entries_words id (es ++ e ∷ []) ≡ entries_words id es ++ entry_words (id + length es) e ∷ []
words_push id [] e = ap (λ n. entry_words n e ∷ []) (omega arith)
words_push id (x ∷ es) e =
    ap (λ ls. entry_words id x ∷ ls) (words_push (id + 1) es e ∙ ap (λ n. entries_words (id + 1) es ++ entry_words n e ∷ []) (omega arith))

pub entries_put : (b : BookSeen) (i : ℕ) (e : Entry) (start old new : List ℕ) → b.first ≤ i → slice_get b.entries (i + 1 - 1) ≡ Some e
    → old ≡ start ++ text_of (entries_words (b.first + 1) (take (i - b.first) (log_of b))) → new ≡ old ++ line_of (entry_words (i + 1) e)
    → new ≡ start ++ text_of (entries_words (b.first + 1) (take (i + 1 - b.first) (log_of b)))
entries_put b i e start old new le h o n =
    let at : slice_get (log_of b) (i - b.first) ≡ Some e = log_at b i e le h in
    let within : i - b.first < length (log_of b) = slice_get_within (log_of b) (i - b.first) e at in
    let count : length (take (i - b.first) (log_of b)) ≡ i - b.first = omega (arith, length-take (i - b.first) (log_of b), within) in
    let one : take (i + 1 - b.first) (log_of b) ≡ take (i - b.first) (log_of b) ++ e ∷ [] = ap (λ n. take n (log_of b)) (omega (arith, le)) ∙ take_one (log_of b) (i - b.first) e at in
    let lines : entries_words (b.first + 1) (take (i + 1 - b.first) (log_of b)) ≡ entries_words (b.first + 1) (take (i - b.first) (log_of b)) ++ entry_words (i + 1) e ∷ [] =
    ap (entries_words (b.first + 1)) one ∙ words_push (b.first + 1) (take (i - b.first) (log_of b)) e
    ∙ ap (λ n. entries_words (b.first + 1) (take (i - b.first) (log_of b)) ++ entry_words n e ∷ []) (omega (arith, count, le)) in
    n ∙ ap (λ ys. ys ++ line_of (entry_words (i + 1) e)) o
    ∙ append_assoc start (text_of (entries_words (b.first + 1) (take (i - b.first) (log_of b)))) (line_of (entry_words (i + 1) e))
    ∙ ap (λ ys. start ++ (text_of (entries_words (b.first + 1) (take (i - b.first) (log_of b))) ++ ys)) (sym (append-nil (line_of (entry_words (i + 1) e))))
    ∙ ap (λ ys. start ++ ys) (sym (ap text_of lines ∙ flat_map-append line_of (entries_words (b.first + 1) (take (i - b.first) (log_of b))) (entry_words (i + 1) e ∷ [])))

pub all_log : (b : BookSeen) (n : ℕ) → n ≡ length b.entries → take (n - b.first) (log_of b) ≡ log_of b
all_log b n e = take_all (n - b.first) (log_of b) (omega (arith, length-drop b.first b.entries, e))

-- ---- what is left when a loop ends
pub numbers_end : {X : Type 0} (f : X → List ℕ) (xs cs : List X) (i : ℕ) (start old new : List ℕ) → length xs ≤ i → xs ≡ cs → old ≡ start ++ flat_map (λ x. f x ++ 32 ∷ []) (take i xs) → new ≡ old ++ codes "0"
    → new ≡ start ++ join_with_byte 32 (map f cs ++ codes "0" ∷ [])
numbers_end f xs cs i start old new le same o n =
    n ∙ ap (λ ys. ys ++ codes "0") (o ∙ ap (λ zs. start ++ flat_map (λ x. f x ++ 32 ∷ []) zs) (take_all i xs le ∙ same))
    ∙ append_assoc start (flat_map (λ x. f x ++ 32 ∷ []) cs) (codes "0") ∙ ap (λ ys. start ++ ys) (joined_zero f cs)

pub clauses_end : (clauses : List (List ℤ)) (i : ℕ) (start out : List ℕ) → length clauses ≤ i → out ≡ start ++ flat_map (λ c. line_of (clause_words c)) (take i clauses) → out ≡ start ++ text_of (map clause_words clauses)
clauses_end clauses i start out le o =
    o ∙ ap (λ cs. start ++ flat_map (λ c. line_of (clause_words c)) cs) (take_all i clauses le) ∙ ap (λ ys. start ++ ys) (sym (flat_map-map line_of clause_words clauses))

pub first_short : (b : BookSeen) → length (first_clauses b) ≤ b.first
first_short b = omega (arith, length-map (take b.first b.entries) (λ (e : Entry). e.clause), length-take b.first b.entries)

pub max_is : (a b : ℕ) → ord_max nat_cmp a b ≡ max a b
max_is a b = grind (arith, nat_tests)

pub err_told : {T E P : Type 0} (r : Result T E) → P → OnErr r P
err_told (Ok x) p = tt
err_told (Err e) p = p

pub ok_told : {T E P : Type 0} (r : Result T E) → P → OnOk r P
ok_told (Ok x) p = p
ok_told (Err e) p = tt
