-- Books from which learned clauses are left out.
use Rattle.std.proofs.Common.{◌≡◌, ◌≤◌, ◌+◌, ℕ, ℤ, List, [], ◌∷◌, ◌++◌, take, length, slice_get, Some, refl, ap, ◌∙◌, sym, subst, arith}
use Rattle.std.specs.List.{All}
use Rattle.std.proofs.lemmas.List.{map-append, take-append-le, take_all, length-take-le, length_push}
use Rattle.gl_logic.proofs.CellCounts.{take_next}
use Rattle.cnf_rup.specs.declared.clause.Entry.{Entry}
use Rattle.cnf_rup.specs.Literals.{IsUpTo}
use Rattle.cnf_rup.specs.Books.{BookSeen, IsBook, clauses_of}
use Rattle.cnf_rup.specs.Refutations.{IsRefutation}
use Rattle.cnf_rup.specs.Trimmed.{IsPartOf, at_end, stays, left_out, IsShorter, IsTrimmed, IsAlong, LearnsClause}

-- ---- parts of a list
pub part_whole : (cs : List (List ℤ)) → IsPartOf cs cs
part_whole [] = at_end
part_whole (c ∷ cs) = stays c cs cs (part_whole cs)

part-push : (c : List ℤ) (some all : List (List ℤ)) → IsPartOf some all → IsPartOf (some ++ c ∷ []) (all ++ c ∷ [])
part-push c _ _ at_end = stays c [] [] at_end
part-push c _ _ (stays d some all p) = stays d (some ++ c ∷ []) (all ++ c ∷ []) (part-push c some all p)
part-push c _ _ (left_out d some all p) = left_out d (some ++ c ∷ []) (all ++ c ∷ []) (part-push c some all p)

part-skip : (c : List ℤ) (some all : List (List ℤ)) → IsPartOf some all → IsPartOf some (all ++ c ∷ [])
part-skip c _ _ at_end = left_out c [] [] at_end
part-skip c _ _ (stays d some all p) = stays d some (all ++ c ∷ []) (part-skip c some all p)
part-skip c _ _ (left_out d some all p) = left_out d some (all ++ c ∷ []) (part-skip c some all p)

-- ---- one entry after the other
clauses-push : (es : List Entry) (e : Entry) → clauses_of (es ++ e ∷ []) ≡ clauses_of es ++ e.clause ∷ []
clauses-push es e = map-append (λ (x : Entry). x.clause) es (e ∷ [])

clauses-next : (es : List Entry) (i : ℕ) (e : Entry) → slice_get es i ≡ Some e → clauses_of (take (i + 1) es) ≡ clauses_of (take i es) ++ e.clause ∷ []
clauses-next es i e at = ap clauses_of (take_next es i e at) ∙ clauses-push (take i es) e

module _ (old new : BookSeen) where
  pub along_begin : old.first ≤ length old.entries → new ≡ record { entries = take old.first old.entries; first = old.first } → IsAlong old new old.first
  along_begin within is = rw is (record {
    first = refl;
    begins = take_all old.first (take old.first old.entries) (omega (arith, count));
    part = part_whole (clauses_of (take old.first old.entries));
    within = omega (arith, count);
    few = omega (arith, count);
  })
    where
      count : length (take old.first old.entries) ≡ old.first
      count = length-take-le old.first old.entries within

  pub along_skip : (place : ℕ) (e : Entry) → IsAlong old new place → slice_get old.entries place ≡ Some e → IsAlong old new (place + 1)
  along_skip place e a at = record {
    first = a.first;
    begins = a.begins;
    part = subst (IsPartOf (clauses_of new.entries)) (sym (clauses-next old.entries place e at)) (part-skip e.clause (clauses_of new.entries) (clauses_of (take place old.entries)) a.part);
    within = a.within;
    few = omega (arith, a.few);
  }

  pub along_push : (newer : BookSeen) (place : ℕ) (e : Entry) → IsAlong old new place → slice_get old.entries place ≡ Some e → LearnsClause new newer e.clause → IsAlong old newer (place + 1)
  along_push newer place e a at learns = rw learns.1 (record {
    first = a.first;
    begins = take-append-le new.first new.entries (last ∷ []) (omega (arith, a.first, a.within)) ∙ a.begins;
    part = subst (λ cs. IsPartOf cs (clauses_of (take (place + 1) old.entries))) (sym (clauses-push new.entries last))
        (subst (IsPartOf (clauses_of new.entries ++ e.clause ∷ [])) (sym (clauses-next old.entries place e at)) (part-push e.clause (clauses_of new.entries) (clauses_of (take place old.entries)) a.part));
    within = omega (arith, a.within, length_push new.entries last);
    few = omega (arith, a.few, length_push new.entries last);
  })
    where
      last : Entry
      last = record { clause = e.clause; hints = learns.0 }

  pub along_end : (place : ℕ) → length old.entries ≤ place → place ≤ length old.entries → IsAlong old new place → IsShorter old new
  along_end place least most a = record {
    first = a.first;
    begins = a.begins;
    part = subst (λ es. IsPartOf (clauses_of new.entries) (clauses_of es)) (take_all place old.entries least) a.part;
    few = omega (arith, a.few, most);
  }

  pub trimmed_refutes : IsTrimmed old new → IsBook new → IsRefutation old → IsRefutation new
  trimmed_refutes t book r = record {
    book = book;
    empty = t.empty ∙ r.empty;
    few = omega (arith, t.shorter.first, r.few);
    variables = subst (All (IsUpTo 10000000)) (sym (ap clauses_of t.shorter.begins)) r.variables;
  }

-- a book is what comes of leaving out none of its clauses
pub trimmed_same : (b : BookSeen) → IsTrimmed b b
trimmed_same b = record {
  shorter = record { first = refl; begins = refl; part = part_whole (clauses_of b.entries); few = omega arith };
  empty = refl;
}
