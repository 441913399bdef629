-- Books of decisions: what stays when a clause is learned, and what an answer stands on.
use Rattle.std.proofs.Common.{◌≡◌, ◌≢◌, ◌↔◌, ◌⊎◌, ℕ, ℤ, Bool, true, false, cond, ltb, min, ◌||◌, ◌&&◌, ◌+◌, ◌*◌, ◌-◌, ◌<◌, ◌≤◌, List, [], ◌∷◌, ◌++◌, length, slice_get, Some, take, drop, refl, ap, ◌∙◌, sym, subst, inl, inr, arith, length-append, length-drop}
use Rattle.std.specs.List.{All}
use Rattle.std.specs.List.{count_by}
use Rattle.std.proofs.lemmas.List.{take-append-le, take_all, drop-append-le, drop_all, get_or_push, length_push}
use Rattle.std.proofs.lemmas.Bool.{ltb-true, ltb-false}
use Rattle.std.proofs.lemmas.Option.{slice_get_read}
use Rattle.std.proofs.lemmas.List.Sums.{count_by-le-length, sum_by-append}
use Rattle.std.proofs.lemmas.List.Elements.{All-head, All-tail}
use Rattle.bfr_store.specs.declared.edge.Edge.{Edge}
use Rattle.bfr_store.specs.declared.edge.Decision.{Decision}
use Rattle.bfr_store.specs.declared.edge.Decision.TheVariants.{Never, Sometimes, Spent}
use Rattle.aig_store.specs.declared.node.AigNode.{AigNode}
use Rattle.aig_store.specs.Nodes.{truth_of}
use Rattle.cnf_rup.specs.declared.clause.Entry.{Entry}
use Rattle.cnf_rup.specs.Literals.{IsUpTo, Satisfies, SatisfiesAll, Follows}
use Rattle.cnf_rup.specs.Books.{BookSeen, IsBook, AllFollow, clauses_of, first_clauses, holds_empty, is_empty, log_of}
use Rattle.cnf_rup.specs.Cnfs.{IsCnfOf, IsTrueWhereSatisfied}
use Rattle.sat_core.specs.Decisions.{IsBookOf, IsDecidedBy, LearnsOne, counted_in, is_slight, learned_in}

-- a clause that is satisfied is not empty
later_empty : (a : ℕ → Bool) (c : List ℤ) (rest : Bool) → Satisfies a c → (is_empty c || rest) ≡ true → rest ≡ true
later_empty a [] rest sat h = cc
later_empty a (l ∷ ls) rest sat h = h

-- nothing satisfies clauses from which the empty one follows
pub none_satisfies : (first : List (List ℤ)) (a : ℕ → Bool) → SatisfiesAll a first → (es : List Entry) → All (Follows first) (clauses_of es) → holds_empty es ≡ true → ⊥
none_satisfies first a sat [] follow h = cc
none_satisfies first a sat (x ∷ xs) follow h =
    let here : Satisfies a x.clause = All-head (Follows first) x.clause (clauses_of xs) follow a sat in
    none_satisfies first a sat xs (All-tail (Follows first) x.clause (clauses_of xs) follow) (later_empty a x.clause (holds_empty xs) here h)

false_unless : (v : Bool) → (v ≡ true → ⊥) → v ≡ false
false_unless true h = absurd (h refl)
false_unless false h = refl

-- where the empty clause is in the book, no assignment makes the edge true
pub refuted : (nodes : List AigNode) (e : Edge) (b : BookSeen) → IsTrueWhereSatisfied nodes e (first_clauses b) → AllFollow b → holds_empty b.entries ≡ true → (a : ℕ → Bool) → truth_of nodes e a ≡ false
refuted nodes e b extends follow h a =
    false_unless (truth_of nodes e a) (λ t. let x = (extends a).0 t in none_satisfies (first_clauses b) x.0 x.2 b.entries follow h)

-- a book of first clauses alone
pub begins : (nodes : List AigNode) (e : Edge) (b : BookSeen) → IsBook b → b.first ≡ length b.entries → IsCnfOf nodes e (clauses_of b.entries) → IsTrueWhereSatisfied nodes e (clauses_of b.entries) → b.first ≤ 3000000002 → b.first ≤ 3 * length nodes + 2 → All (IsUpTo (length nodes)) (clauses_of b.entries) → IsBookOf nodes e b 0
begins nodes e b book all cnf extends few three variables = record {
  book = book;
  cnf = subst (IsCnfOf nodes e) (sym same) cnf;
  extends = subst (IsTrueWhereSatisfied nodes e) (sym same) extends;
  count = omega (arith, all);
  few = few;
  small = record { few = three; variables = subst (All (IsUpTo (length nodes))) (sym same) variables };
}
  where
    same : first_clauses b ≡ clauses_of b.entries
    same = ap clauses_of (take_all b.first b.entries (omega (arith, all)))

-- one clause more
pub one_more : (nodes : List AigNode) (e : Edge) (old new : BookSeen) (n : ℕ) → IsBookOf nodes e old n → LearnsOne old new → IsBook new → IsBookOf nodes e new (n + 1)
one_more nodes e old new n b learns book = record {
  book = book;
  cnf = subst (IsCnfOf nodes e) (sym same) b.cnf;
  extends = subst (IsTrueWhereSatisfied nodes e) (sym same) b.extends;
  count = rw learns.1 (omega (arith, length_push old.entries learns.0, b.count));
  few = rw learns.1 b.few;
  small = record { few = rw learns.1 b.small.few; variables = subst (All (IsUpTo (length nodes))) (sym same) b.small.variables };
}
  where
    same : first_clauses new ≡ first_clauses old
    same = rw learns.1 (ap clauses_of (take-append-le old.first old.entries (learns.0 ∷ []) b.book.within))

-- how many clauses were learned
pub learned-count : (nodes : List AigNode) (e : Edge) (b : BookSeen) (n : ℕ) → IsBookOf nodes e b n → learned_in b ≡ n
learned-count nodes e b n is = omega (arith, length-drop b.first b.entries, is.count)

-- ---- what counts
-- the slight clauses that a book has learned
abbrev pub slight_in : BookSeen → ℕ
slight_in b = count_by is_slight (log_of b)

-- what is left of a budget of so many clauses that count, and of a million slight ones, once a book has learned
pub record IsLeft (all : ℕ) (b : BookSeen) (left free : ℕ) : Type 0 where
  pub counted : left + counted_in b ≡ all
  pub slight : free + min 1000000 (slight_in b) ≡ 1000000

log_more : (old new : BookSeen) (l : LearnsOne old new) → IsBook old → log_of new ≡ log_of old ++ l.0 ∷ []
log_more old new l is = rw l.1 (drop-append-le old.first old.entries (l.0 ∷ []) is.within)

learned_more : (old new : BookSeen) → LearnsOne old new → IsBook old → learned_in new ≡ learned_in old + 1
learned_more old new l is = ap (λ es. length es) (log_more old new l is) ∙ length_push (log_of old) l.0

slight_more : (old new : BookSeen) (l : LearnsOne old new) → IsBook old → slight_in new ≡ slight_in old + cond (is_slight l.0) 1 0
slight_more old new l is = ap (count_by is_slight) (log_more old new l is) ∙ sum_by-append (λ e. cond (is_slight e) 1 0) (log_of old) (l.0 ∷ []) ∙ omega arith

last_learned : (old new : BookSeen) (l : LearnsOne old new) → slice_get new.entries (length new.entries - 1) ≡ Some l.0
last_learned old new l = rw l.1 (slice_get_read (old.entries ++ l.0 ∷ []) (length (old.entries ++ l.0 ∷ [])) (length (old.entries ++ l.0 ∷ []) - 1) l.0 refl (omega (arith, length_push old.entries l.0)) (sym (get_or_push old.entries l.0 l.0 (length (old.entries ++ l.0 ∷ []) - 1) (omega (arith, length_push old.entries l.0)))))

either_one : (n left free left' free' all : ℕ) (b : Bool) → n + (left + free) ≡ all → left' + cond b 0 1 ≡ left → free' + cond b 1 0 ≡ free → n + 1 + (left' + free') ≡ all
either_one n left free left' free' all true h u v = omega (arith, h, u, v)
either_one n left free left' free' all false h u v = omega (arith, h, u, v)

charged : (all left free left' free' n m n' m' : ℕ) (some b : Bool) → (some ≡ true → 0 < free) → (some ≡ false → free ≤ 0) → left + (n - min 1000000 m) ≡ all → free + min 1000000 m ≡ 1000000 → m ≤ n → n' ≡ n + 1 → m' ≡ m + cond b 1 0
    → left' + cond (some && b) 0 1 ≡ left → free' + cond (some && b) 1 0 ≡ free → (left' + (n' - min 1000000 m') ≡ all) × (free' + min 1000000 m' ≡ 1000000)
charged all left free left' free' n m n' m' false true above none h k le p q u v = let z = none refl in (omega (arith, z, h, k, le, p, q, u, v), omega (arith, z, h, k, le, p, q, u, v))
charged all left free left' free' n m n' m' false false above none h k le p q u v = let z = none refl in (omega (arith, z, h, k, le, p, q, u, v), omega (arith, z, h, k, le, p, q, u, v))
charged all left free left' free' n m n' m' true true above none h k le p q u v = let z = above refl in (omega (arith, z, h, k, le, p, q, u, v), omega (arith, z, h, k, le, p, q, u, v))
charged all left free left' free' n m n' m' true false above none h k le p q u v = let z = above refl in (omega (arith, z, h, k, le, p, q, u, v), omega (arith, z, h, k, le, p, q, u, v))

-- one clause more is taken from the budget
pub one_charged : (all left free left' free' : ℕ) (old new : BookSeen) → LearnsOne old new → IsBook old → IsLeft all old left free
    → ((e : Entry) → slice_get new.entries (length new.entries - 1) ≡ Some e → left' + cond (ltb 0 free && is_slight e) 0 1 ≡ left)
    → ((e : Entry) → slice_get new.entries (length new.entries - 1) ≡ Some e → free' + cond (ltb 0 free && is_slight e) 1 0 ≡ free) → IsLeft all new left' free'
one_charged all left free left' free' old new l is h u v =
    let last = last_learned old new l in
    let both = charged all left free left' free' (learned_in old) (slight_in old) (learned_in new) (slight_in new) (ltb 0 free) (is_slight l.0) (ltb-true 0 free) (ltb-false 0 free) h.counted h.slight (count_by-le-length is_slight (log_of old)) (learned_more old new l is) (slight_more old new l is) (u l.0 last) (v l.0 last) in
    record { counted = both.0; slight = both.1 }

pub one_taken : (all n left free left' free' : ℕ) (old new : BookSeen) → LearnsOne old new → n + (left + free) ≡ all
    → ((e : Entry) → slice_get new.entries (length new.entries - 1) ≡ Some e → left' + cond (ltb 0 free && is_slight e) 0 1 ≡ left)
    → ((e : Entry) → slice_get new.entries (length new.entries - 1) ≡ Some e → free' + cond (ltb 0 free && is_slight e) 1 0 ≡ free) → n + 1 + (left' + free') ≡ all
one_taken all n left free left' free' old new l h u v =
    let last = last_learned old new l in
    either_one n left free left' free' all (ltb 0 free && is_slight l.0) h (u l.0 last) (v l.0 last)

-- nothing was learned
pub none_charged : (nodes : List AigNode) (e : Edge) (all : ℕ) (b : BookSeen) → IsBookOf nodes e b 0 → IsLeft all b all 1000000
none_charged nodes e all b is = record { counted = omega (arith, ap (λ es. length es) none, ap (count_by is_slight) none); slight = omega (arith, ap (count_by is_slight) none) }
  where
    none : log_of b ≡ []
    none = drop_all b.first b.entries (omega (arith, is.count))

-- ---- the three answers
pub decided-never : (nodes : List AigNode) (e : Edge) (clauses : ℕ) (b : BookSeen) (n left : ℕ) → IsBookOf nodes e b n → left + counted_in b ≡ clauses → holds_empty b.entries ≡ true → IsDecidedBy nodes e clauses b Never
decided-never nodes e clauses b n left is within h = record {
  book = is.book;
  cnf = is.cnf;
  extends = is.extends;
  small = is.small;
  within = omega (arith, within);
  never = (λ _. h, λ _. refl);
  sometimes = λ d. cc;
  spent = (λ d. cc, λ d. absurd (d.1 refl));
}

pub decided-sometimes : (nodes : List AigNode) (e : Edge) (clauses : ℕ) (b : BookSeen) (n left : ℕ) → IsBookOf nodes e b n → left + counted_in b ≡ clauses → (0 < left) ⊎ (n ≡ 0) → holds_empty b.entries ≡ false → IsDecidedBy nodes e clauses b Sometimes
decided-sometimes nodes e clauses b n left is within early h = record {
  book = is.book;
  cnf = is.cnf;
  extends = is.extends;
  small = is.small;
  within = omega (arith, within);
  never = (λ d. cc, λ d. cc);
  sometimes = λ _. before early;
  spent = (λ d. cc, λ d. absurd (d.2 refl));
}
  where
    before : (0 < left) ⊎ (n ≡ 0) → (counted_in b < clauses) ⊎ (learned_in b ≡ 0)
    before (inl some) = inl (omega (arith, within, some))
    before (inr none) = inr (learned-count nodes e b n is ∙ none)

pub decided-spent : (nodes : List AigNode) (e : Edge) (clauses : ℕ) (b : BookSeen) (n : ℕ) → IsBookOf nodes e b n → counted_in b ≡ clauses → holds_empty b.entries ≡ false → IsDecidedBy nodes e clauses b Spent
decided-spent nodes e clauses b n is count h = record {
  book = is.book;
  cnf = is.cnf;
  extends = is.extends;
  small = is.small;
  within = omega (arith, count);
  never = (λ d. cc, λ d. cc);
  sometimes = λ d. cc;
  spent = (λ _. (count, (λ d. cc), (λ d. cc)), λ _. refl);
}
