-- The texts of a refutation, judged.
use Rattle.std.proofs.Common.{◌≡◌, ◌∙◌, ap, sym, refl, ℕ, suc, ℤ, ◌+◌, ◌^◌, ◌<◌, ◌≤◌, Bool, true, false, cond, List, [], ◌∷◌, ◌++◌, length, length-take, length-drop, take, Some, add-one, arith}
use Rattle.std.specs.Prelude.{◌||◌, slice_get}
use Rattle.std.specs.List.{All, list_any, position_or_len}
use Rattle.std.proofs.lemmas.List.{length-map, take-append-drop}
use Rattle.std.proofs.lemmas.List.Elements.{All-nil, All-cons, All-map, All-take, All-drop}
use Rattle.std.proofs.lemmas.Option.{slice_get_within}
use Rattle.std.proofs.lemmas.List.Folds.{list_any-append}
use Rattle.cnf_rup.specs.declared.clause.Entry.{Entry}
use Rattle.cnf_rup.specs.Books.{BookSeen, IsLogOk, clauses_of, first_clauses, holds_empty, is_empty, log_of}
use Rattle.cnf_rup.specs.Literals.{IsClause, IsLiteral}
use Rattle.cnf_rup.specs.Shown.{IsShown, by_turn, stop, turn_of_named}
use Rattle.lrat_tool.specs.Judgements.{judged_formula, judged_log, judgement}
use Rattle.lrat_tool.specs.Logs.{log_meant}
use Rattle.cnf_rup.specs.Refutations.{IsRefutation}
use Rattle.lrat_tool.specs.Written.{cnf_lines, empty_entry, empty_number, entries_words, log_lines, text_of, written_entries}
use Rattle.lrat_tool.specs.declared.judgement.Judgement.TheVariants.{Verified}
use Rattle.lrat_tool.proofs.WrittenFormula.{formula_read}
use Rattle.lrat_tool.proofs.WrittenLog.{IsWritable, log_read}
use Rattle.lrat_tool.proofs.WrittenJudged.{judged_verified}

-- what makes entries a refutation of a formula that can be written
pub record IsLog (formula : List (List ℤ)) (es : List Entry) : Type 0 where
  pub shown : IsLogOk formula es
  pub empty : holds_empty es ≡ true
  pub writable : All IsWritable es
  pub few : length formula + 1 + length es ≤ 2 ^ 32

-- ---- a first clause that is empty
empty_place : (formula : List (List ℤ)) → list_any is_empty formula ≡ true → slice_get formula (position_or_len is_empty formula) ≡ Some []
empty_place [] h = absurd cc
empty_place ([] ∷ formula) h = refl
empty_place ((l ∷ c) ∷ formula) h =
    let next : position_or_len is_empty ((l ∷ c) ∷ formula) ≡ suc (position_or_len is_empty formula) = omega arith in
    ap (slice_get ((l ∷ c) ∷ formula)) next ∙ empty_place formula h

empty_shown : (formula : List (List ℤ)) → list_any is_empty formula ≡ true → IsShown formula [] (empty_number formula ∷ [])
empty_shown formula h =
    ap (λ n. stop formula [] 0 (n ∷ [])) (add-one (position_or_len is_empty formula))
    ∙ ap (λ o. by_turn (turn_of_named [] o) (Some 0) (λ l. stop formula ([] ++ l ∷ []) 1 [])) (empty_place formula h)

empty_log : (formula : List (List ℤ)) → list_any is_empty formula ≡ true → length formula ≤ 100000000 → IsLog formula (empty_entry (empty_number formula) ∷ [])
empty_log formula h few = record {
  shown = (empty_shown formula h, tt);
  empty = refl;
  writable = All-cons IsWritable (empty_entry (empty_number formula)) [] (record {
    clause = All-nil IsLiteral;
    named = All-cons (λ (n : ℕ). 0 < n) (empty_number formula) [] (omega arith) (All-nil (λ (n : ℕ). 0 < n));
    small = All-cons (λ (n : ℕ). n < 2 ^ 32) (empty_number formula) [] (omega (arith, few, slice_get_within formula (position_or_len is_empty formula) [] (empty_place formula h))) (All-nil (λ (n : ℕ). n < 2 ^ 32));
  }) (All-nil IsWritable);
  few = omega (arith, few);
}

any_first : (es : List Entry) → list_any is_empty (clauses_of es) ≡ holds_empty es
any_first [] = refl
any_first (e ∷ es) = ap (λ b. is_empty e.clause || b) (any_first es)

module _ (b : BookSeen) (r : IsRefutation b) where
  abbrev formula : List (List ℤ)
  formula = first_clauses b

  as_many : length formula ≡ b.first
  as_many = omega (arith, length-map (take b.first b.entries) (λ (e : Entry). e.clause), length-take b.first b.entries, r.book.within)

  proper : All IsClause formula
  proper = All-map IsClause (λ (e : Entry). e.clause) (take b.first b.entries) (All-take (λ (e : Entry). IsClause e.clause) b.first b.entries r.book.clauses)

  own_log : list_any is_empty formula ≡ false → IsLog formula (log_of b)
  own_log none = record {
    shown = r.book.log;
    empty = sym (ap (λ t. t || holds_empty (log_of b)) (sym (any_first (take b.first b.entries)) ∙ none))
        ∙ sym (list_any-append (λ (e : Entry). is_empty e.clause) (take b.first b.entries) (log_of b))
        ∙ ap holds_empty (take-append-drop b.first b.entries) ∙ r.empty;
    writable = λ k d within. record {
      clause = All-drop (λ (e : Entry). IsClause e.clause) b.first b.entries r.book.clauses k d within;
      named = λ i n inside. (hints k d within i n inside).0;
      small = λ i n inside. (hints k d within i n inside).1;
    };
    few = omega (arith, as_many, length-drop b.first b.entries, r.book.within, r.book.small);
  }
    where
      hints : All (λ e. All (λ h. (0 < h) × (h < 2 ^ 32)) e.hints) (log_of b)
      hints = All-drop (λ (e : Entry). All (λ h. (0 < h) × (h < 2 ^ 32)) e.hints) b.first b.entries r.book.hints

  by_first : (t : Bool) → list_any is_empty formula ≡ t → IsLog formula (cond t (empty_entry (empty_number formula) ∷ []) (log_of b))
  by_first true h = empty_log formula h (omega (arith, as_many, r.few))
  by_first false h = own_log h

  pub texts_verified : judgement (cnf_lines b) (log_lines b) ≡ Verified
  texts_verified =
      let is : IsLog formula (written_entries b) = by_first (list_any is_empty formula) refl in
      ap (judged_formula (log_lines b)) (formula_read formula proper r.variables (omega (arith, as_many, r.few)))
      ∙ ap (λ n. judged_log formula (log_meant (length formula) (text_of (entries_words (n + 1) (written_entries b))))) (sym as_many)
      ∙ ap (judged_log formula) (log_read (length formula) (written_entries b) is.writable is.few)
      ∙ judged_verified formula (written_entries b) is.shown is.empty
