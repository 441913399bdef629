-- Logs of learned clauses.
use Rattle.std.proofs.Common.{◌≡◌, ℕ, ℤ, Bool, true, false, ◌||◌, ◌<◌, ◌≤◌, ◌^◌, List, [], ◌∷◌, ◌++◌, take, drop, length, refl, ap, ◌∙◌, sym, subst, arith}
use Rattle.std.specs.List.{All}
use Rattle.std.proofs.lemmas.List.{append-nil, append_assoc, map-append, take-append-drop, take-append-le, drop-append-le, length_push}
use Rattle.std.proofs.lemmas.List.Folds.{list_any-append}
use Rattle.std.proofs.lemmas.List.Elements.{All-head, All-tail, All-push, All-map, All-drop, All-take, All-weaker}
use Rattle.cnf_rup.specs.declared.clause.Entry.{Entry}
use Rattle.cnf_rup.specs.Literals.{Satisfies, SatisfiesAll, IsClause}
use Rattle.cnf_rup.specs.Shown.{IsShown}
use Rattle.cnf_rup.specs.Books.{BookSeen, clauses_of, first_clauses, log_of, IsLogOk, IsBook, AllFollow, holds_empty, is_empty}
use Rattle.cnf_rup.specs.Marked.{AreWithin}
use Rattle.cnf_rup.proofs.Sound.{shown_follows}

-- one entry more
pub log-push : (clauses : List (List ℤ)) (es : List Entry) (e : Entry) → IsLogOk clauses es → IsShown (clauses ++ clauses_of es) e.clause e.hints → IsLogOk clauses (es ++ e ∷ [])
log-push clauses [] e ok shown = (subst (λ (cs : List (List ℤ)). IsShown cs e.clause e.hints) (append-nil clauses) shown, tt)
log-push clauses (x ∷ xs) e ok shown = (ok.0, log-push (clauses ++ x.clause ∷ []) xs e ok.1 (subst (λ (cs : List (List ℤ)). IsShown cs e.clause e.hints) (sym (append_assoc clauses (x.clause ∷ []) (clauses_of xs))) shown))

-- what satisfies the clauses satisfies those of the log
log-satisfied : (clauses : List (List ℤ)) (es : List Entry) → All IsClause clauses → All (λ e. IsClause e.clause) es → IsLogOk clauses es → (a : ℕ → Bool) → SatisfiesAll a clauses → SatisfiesAll a (clauses ++ clauses_of es)
log-satisfied clauses [] proper are ok a sat = subst (SatisfiesAll a) (sym (append-nil clauses)) sat
log-satisfied clauses (x ∷ xs) proper are ok a sat =
    let one : IsClause x.clause = All-head (λ (e : Entry). IsClause e.clause) x xs are in
    let here : Satisfies a x.clause = shown_follows clauses x.clause x.hints proper one ok.0 a sat in
    subst (SatisfiesAll a) (append_assoc clauses (x.clause ∷ []) (clauses_of xs))
    (log-satisfied (clauses ++ x.clause ∷ []) xs (All-push IsClause clauses x.clause proper one) (All-tail (λ (e : Entry). IsClause e.clause) x xs are) ok.1 a (All-push (Satisfies a) clauses x.clause sat here))

-- the clauses of a book, and what stands before them
pub clauses-parts : (b : BookSeen) → first_clauses b ++ clauses_of (log_of b) ≡ clauses_of b.entries
clauses-parts b = sym (map-append (λ (e : Entry). e.clause) (take b.first b.entries) (drop b.first b.entries)) ∙ ap clauses_of (take-append-drop b.first b.entries)

pub book_follows : (b : BookSeen) → IsBook b → AllFollow b
book_follows b book k d within a sat =
    subst (SatisfiesAll a) (clauses-parts b)
    (log-satisfied (first_clauses b) (log_of b)
    (All-map IsClause (λ (e : Entry). e.clause) (take b.first b.entries) (All-take (λ (e : Entry). IsClause e.clause) b.first b.entries book.clauses))
    (All-drop (λ (e : Entry). IsClause e.clause) b.first b.entries book.clauses) book.log a sat)
    k d within

-- ---- a clause is learned
abbrev pub book_of : List Entry → ℕ → BookSeen
book_of entries first = record { entries = entries; first = first }

module _ (old new : List Entry) (first : ℕ) (e : Entry) (is : new ≡ old ++ e ∷ []) where
  pub book-push : IsBook (book_of old first) → length old < 4294967295 → IsClause e.clause → All (λ h. 0 < h) e.hints → All (λ h. h < 2 ^ 32) e.hints → IsShown (clauses_of old) e.clause e.hints → IsBook (book_of new first)
  book-push b room clause some small shown = rw is (record {
    within = omega (arith, b.within, length_push old e);
    small = omega (arith, room, length_push old e);
    clauses = All-push (λ (x : Entry). IsClause x.clause) old e b.clauses clause;
    bare = subst (All (λ (x : Entry). x.hints ≡ [])) (sym front) b.bare;
    hints = All-push (λ (x : Entry). All (λ h. (0 < h) × (h < 2 ^ 32)) x.hints) old e b.hints (λ k d within. (some k d within, small k d within));
    log = rw (front, back) (log-push (clauses_of (take first old)) (drop first old) e b.log (subst (λ (cs : List (List ℤ)). IsShown cs e.clause e.hints) (sym (clauses-parts (book_of old first))) shown));
  })
    where
      front : take first (old ++ e ∷ []) ≡ take first old
      front = take-append-le first old (e ∷ []) b.within

      back : drop first (old ++ e ∷ []) ≡ drop first old ++ e ∷ []
      back = drop-append-le first old (e ∷ []) b.within

  pub empty-push : (flag : Bool) → flag ≡ (holds_empty old || is_empty e.clause) → flag ≡ holds_empty new
  empty-push flag h = h ∙ sym (ap holds_empty is ∙ list_any-append (λ (x : Entry). is_empty x.clause) old (e ∷ []) ∙ ap (λ b. holds_empty old || b) (or-none (is_empty e.clause)))
    where
      or-none : (b : Bool) → (b || false) ≡ b
      or-none true = refl
      or-none false = refl

  pub within-push : (room room' : ℕ) → room ≤ room' → All (λ (x : Entry). AreWithin room x.clause) old → AreWithin room' e.clause → All (λ (x : Entry). AreWithin room' x.clause) new
  within-push room room' wider h last = subst (All (λ (x : Entry). AreWithin room' x.clause)) (sym is)
      (All-push (λ (x : Entry). AreWithin room' x.clause) old e
      (All-weaker (λ (x : Entry). AreWithin room x.clause) (λ (x : Entry). AreWithin room' x.clause) (λ x p k d under. omega (arith, p k d under, wider)) old h) last)

pub empty_true : (c : List ℤ) → length c ≡ 0 → is_empty c ≡ true
empty_true [] h = refl
empty_true (l ∷ ls) h = absurd (omega (arith, h))

pub empty_false : (c : List ℤ) → (length c ≡ 0 → ⊥) → is_empty c ≡ false
empty_false [] h = absurd (h refl)
empty_false (l ∷ ls) h = refl
