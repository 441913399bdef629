-- What a table gathers, piece by piece.
use Rattle.std.proofs.Common.{◌≡◌, ◌∙◌, inl, inr, sym, ap, refl, subst, ℕ, List, drop, ◌⊎◌, Option, Some, None, Result, Ok, Err, OnOk, OnErr}
use Rattle.std.proofs.lemmas.Option.{same_Some}
use Rattle.gl_logic.specs.Names.{with_name, IsTable, Extends}
use Rattle.gl_logic.proofs.Tables.{table_with}
use Rattle.gl_logic.proofs.GrownTables.{extends_same, extends_then, extends_name}
use Rattle.sexp_reader.specs.declared.lexeme.Piece.{Piece}
use Rattle.sexp_reader.specs.declared.lexeme.Piece.TheVariants.{Ended, Torn, Gap, Part, Faulty}
use Rattle.sexp_reader.specs.Pieces.{first_piece, count_of}
use Rattle.sexp_reader.specs.Gathers.{text_of, with_text, with_piece, Gathers, stopped, further, Adds, AddsPiece}

pub adds_either : {A E : Type 0} (r : Result A E) (text : List ℕ) (old new : List (List ℕ)) → OnOk r (new ≡ with_name old text) → OnErr r (new ≡ old) → Adds (Some text) old new
adds_either (Ok x) text old new h k = inr h
adds_either (Err e) text old new h k = inl k

-- what comes after a piece comes of the text from the piece on
pub one_more : (bytes back : List ℕ) (p : Piece) (count : ℕ) (names new later : List (List ℕ)) → p ≡ first_piece bytes → count_of p ≡ Some count → back ≡ drop count bytes
    → new ≡ with_piece names p → Gathers back new later → Gathers bytes names later
one_more bytes back p count names new later e n b t h =
    further bytes count names later (ap count_of (sym e) ∙ n) (subst (λ l. Gathers l (with_piece names (first_piece bytes)) later) b (subst (λ l. Gathers back l later) (t ∙ ap (with_piece names) e) h))

-- a piece alone, whose text may have come
by_text : (bytes : List ℕ) (count : ℕ) (names new : List (List ℕ)) (o : Option (List ℕ)) → with_piece names (first_piece bytes) ≡ with_text names o → count_of (first_piece bytes) ≡ Some count → Adds o names new
    → Gathers bytes names new
by_text bytes count names new None t n a = subst (Gathers bytes names) (sym a) (stopped bytes names)
by_text bytes count names new (Some text) t n (inl a) = subst (Gathers bytes names) (sym a) (stopped bytes names)
by_text bytes count names new (Some text) t n (inr a) = subst (Gathers bytes names) (sym (a ∙ sym t)) (further bytes count names (with_piece names (first_piece bytes)) n (stopped (drop count bytes) (with_piece names (first_piece bytes))))

pub one_piece : (bytes : List ℕ) (p : Piece) (names new : List (List ℕ)) → p ≡ first_piece bytes → AddsPiece p names new → Gathers bytes names new
one_piece bytes (Part count what) names new e a = by_text bytes count names new (text_of what) (ap (with_piece names) (sym e)) (ap count_of (sym e)) a
one_piece bytes (Gap count) names new e a = subst (Gathers bytes names) (sym a) (stopped bytes names)
one_piece bytes Ended names new e a = subst (Gathers bytes names) (sym a) (stopped bytes names)
one_piece bytes Torn names new e a = subst (Gathers bytes names) (sym a) (stopped bytes names)
one_piece bytes (Faulty count code) names new e a = subst (Gathers bytes names) (sym a) (stopped bytes names)

-- ---- the table behind a piece
text_table : (names : List (List ℕ)) (o : Option (List ℕ)) → IsTable names → IsTable (with_text names o)
text_table names None h = h
text_table names (Some text) h = table_with names text h

pub piece_table : (names : List (List ℕ)) (p : Piece) → IsTable names → IsTable (with_piece names p)
piece_table names Ended h = h
piece_table names Torn h = h
piece_table names (Gap count) h = h
piece_table names (Part count what) h = text_table names (text_of what) h
piece_table names (Faulty count code) h = h

text_extends : (names : List (List ℕ)) (o : Option (List ℕ)) → Extends names (with_text names o)
text_extends names None = extends_same names
text_extends names (Some text) = extends_name names (with_name names text) text refl

pub piece_extends : (names : List (List ℕ)) (p : Piece) → Extends names (with_piece names p)
piece_extends names Ended = extends_same names
piece_extends names Torn = extends_same names
piece_extends names (Gap count) = extends_same names
piece_extends names (Part count what) = text_extends names (text_of what)
piece_extends names (Faulty count code) = extends_same names

-- ---- what is gathered
pub gathers_table : (bytes : List ℕ) (names later : List (List ℕ)) → IsTable names → Gathers bytes names later → IsTable later
gathers_table _ _ _ h (stopped bytes names) = h
gathers_table _ _ _ h (further bytes count names later e g) = gathers_table (drop count bytes) (with_piece names (first_piece bytes)) later (piece_table names (first_piece bytes) h) g

pub gathers_extends : (bytes : List ℕ) (names later : List (List ℕ)) → Gathers bytes names later → Extends names later
gathers_extends _ _ _ (stopped bytes names) = extends_same names
gathers_extends _ _ _ (further bytes count names later e g) =
    let next = with_piece names (first_piece bytes) in
    extends_then names next later (piece_extends names (first_piece bytes)) (gathers_extends (drop count bytes) next later g)

-- how it went on
record GoesOn (bytes : List ℕ) (names later : List (List ℕ)) : Type 0 where
  count : ℕ
  is : count_of (first_piece bytes) ≡ Some count
  rest : Gathers (drop count bytes) (with_piece names (first_piece bytes)) later

which : (bytes : List ℕ) (names later : List (List ℕ)) → Gathers bytes names later → (later ≡ names) ⊎ GoesOn bytes names later
which _ _ _ (stopped bytes names) = inl refl
which _ _ _ (further bytes count names later e g) = inr (record { count = count; is = e; rest = g })

-- of two tables that one text gathers, one begins with the other
pub one_extends : (bytes : List ℕ) (names xs ys : List (List ℕ)) → Gathers bytes names xs → Gathers bytes names ys → Extends xs ys ⊎ Extends ys xs
one_extends _ _ _ ys (stopped bytes names) h = inl (gathers_extends bytes names ys h)
one_extends _ _ _ ys (further bytes count names xs e g) h = elim (which bytes names ys h) [
  | inl same ↦ inr (subst (λ t. Extends t xs) (sym same) (gathers_extends bytes names xs (further bytes count names xs e g)))
  | inr on ↦
      let same : on.count ≡ count = same_Some on.count count (sym on.is ∙ e) in
      one_extends (drop count bytes) (with_piece names (first_piece bytes)) xs ys g (subst (λ n. Gathers (drop n bytes) (with_piece names (first_piece bytes)) ys) same on.rest)
]
