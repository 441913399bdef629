-- Jobs of a phase and their answers, one behind the other.
use Rattle.std.proofs.Common.{◌≡◌, ◌∙◌, ap, sym, refl, subst, ℕ, zero, suc, ◌+◌, ◌-◌, ◌<◌, ◌≤◌, List, [], ◌∷◌, ◌++◌, length, length-append, get_or, take, drop, append_assoc, append-nil, Some, slice_get, Result, Ok, Err, Vec, Global, arith}
use Rattle.std.specs.List.{All}
use Rattle.std.proofs.lemmas.List.Elements.{All-get_or, All-cons, All-nil}
use Rattle.std.proofs.lemmas.Option.{get_or_from_slice_get, slice_get_within}
use Rattle.gl_logic.specs.WorldSeen.{WorldSeen}
use Rattle.gl_logic.specs.declared.ids.NoMemory.{NoMemory}
use Rattle.gl_decide.specs.Bounds.{Bounds}
use Rattle.gl_book.specs.Phases.{JobSeen, IsFollowed, IsAnsweredBy, AreAnswered, IsWithin, IsPieceAnswered, Joins}
use Rattle.gl_book.specs.Pieces.{Follow, run_of}
use Rattle.gl_book.specs.declared.answer.Answer.{Answer}
use Rattle.gl_book.specs.declared.piece.Piece.{Piece}

-- ---- lists
pub all_at : {A : Type 0} (P : A → Type 0) (xs : List A) (i : ℕ) (x : A) → All P xs → slice_get xs i ≡ Some x → P x
all_at P xs i x h at = subst P (get_or_from_slice_get xs i x x at) (All-get_or P xs i x (slice_get_within xs i x at) h)

-- the last element of a list is one
last_unique : {A : Type 0} (xs ys : List A) (x y : A) → xs ++ x ∷ [] ≡ ys ++ y ∷ [] → (xs ≡ ys) × (x ≡ y)
last_unique [] [] x y e = (refl, cc)
last_unique [] (z ∷ ys) x y e = let k : length (x ∷ []) ≡ length (z ∷ (ys ++ y ∷ [])) = ap length e in absurd (omega (arith, k, length-append ys (y ∷ [])))
last_unique (z ∷ xs) [] x y e = let k : length (z ∷ (xs ++ x ∷ [])) ≡ length (y ∷ []) = ap length e in absurd (omega (arith, k, length-append xs (x ∷ [])))
last_unique (z ∷ xs) (u ∷ ys) x y e =
    let head : z ≡ u = cc in
    let tail : xs ++ x ∷ [] ≡ ys ++ y ∷ [] = cc in
    let r = last_unique xs ys x y tail in
    ((λ i. head i ∷ r.0 i), r.1)

pub followed : (before : List JobSeen) (last : JobSeen) (lines : List (List ℕ)) → IsFollowed (before ++ last ∷ []) lines (before ++ record last { behind = last.behind ++ lines } ∷ [])
followed before last lines = record {
  says = λ ys y e. let r = last_unique before ys last y e in λ i. r.0 i ++ record (r.1 i) { behind = (r.1 i).behind ++ lines } ∷ [];
  none = λ e. let k : length (before ++ last ∷ []) ≡ 0 = ap length e in absurd (omega (arith, k, length-append before (last ∷ [])));
}

pub followed_none : (old : List JobSeen) (lines : List (List ℕ)) → old ≡ [] → IsFollowed old lines old
followed_none old lines e = record {
  says = λ ys y f. let k : 0 ≡ length (ys ++ y ∷ []) = ap length (sym e ∙ f) in absurd (omega (arith, k, length-append ys (y ∷ [])));
  none = λ f. f;
}

-- ---- runs
pub take_next : {A : Type 0} (xs : List A) (n : ℕ) (x : A) → slice_get xs n ≡ Some x → take (n + 1) xs ≡ take n xs ++ x ∷ []
take_next [] n x at = absurd cc
take_next (y ∷ ys) zero x at = let e : y ≡ x = cc in λ i. e i ∷ []
take_next (y ∷ ys) (suc n) x at = let e : suc n + 1 ≡ suc (n + 1) = omega arith in ap (λ m. take m (y ∷ ys)) e ∙ ap (λ zs. y ∷ zs) (take_next ys n x at)

pub get_drop : {A : Type 0} (xs : List A) (n k : ℕ) (x : A) → n ≤ k → slice_get xs k ≡ Some x → slice_get (drop n xs) (k - n) ≡ Some x
get_drop xs zero k x h at = let e : k - 0 ≡ k = omega arith in ap (slice_get xs) e ∙ at
get_drop [] (suc n) k x h at = absurd cc
get_drop (y ∷ ys) (suc n) zero x h at = absurd (omega (arith, h))
get_drop (y ∷ ys) (suc n) (suc k) x h at = let e : suc k - suc n ≡ k - n = omega arith in ap (slice_get (drop n ys)) e ∙ get_drop ys n k x (omega (arith, h)) at

take_whole : {A : Type 0} (xs : List A) (n : ℕ) → take n xs ++ drop n xs ≡ xs
take_whole [] zero = refl
take_whole [] (suc n) = refl
take_whole (x ∷ xs) zero = refl
take_whole (x ∷ xs) (suc n) = ap (λ ys. x ∷ ys) (take_whole xs n)

take_none : {A : Type 0} (n : ℕ) (xs : List A) → xs ≡ [] → take n xs ++ [] ≡ xs
take_none n xs e = ap (λ ys. take n xs ++ ys) (sym (drop_none n xs e)) ∙ take_whole xs n
  where
    drop_none : {A : Type 0} (n : ℕ) (xs : List A) → xs ≡ [] → drop n xs ≡ []
    drop_none zero xs e = e
    drop_none (suc n) [] e = refl
    drop_none (suc n) (x ∷ xs) e = absurd cc

take_drop : {A : Type 0} (xs : List A) (a b : ℕ) → a ≤ b → take (b - a) (drop a xs) ++ drop b xs ≡ drop a xs
take_drop xs zero b h = let e : b - 0 ≡ b = omega arith in ap (λ n. take n xs ++ drop b xs) e ∙ take_whole xs b
take_drop [] (suc a) zero h = absurd (omega (arith, h))
take_drop [] (suc a) (suc b) h = take_none (suc b - suc a) [] refl
take_drop (x ∷ xs) (suc a) zero h = absurd (omega (arith, h))
take_drop (x ∷ xs) (suc a) (suc b) h = let e : suc b - suc a ≡ b - a = omega arith in ap (λ n. take n (drop a xs) ++ drop b xs) e ∙ take_drop xs a b (omega (arith, h))

pub drop_all : {A : Type 0} (xs : List A) (n : ℕ) → length xs ≤ n → drop n xs ≡ []
drop_all [] zero h = refl
drop_all [] (suc n) h = refl
drop_all (x ∷ xs) zero h = absurd (omega (arith, h))
drop_all (x ∷ xs) (suc n) h = drop_all xs n (omega (arith, h))

-- ---- answers
module _ (bounds : Bounds) (w : WorldSeen) where
  pub answered_then : (js ks : List JobSeen) (given bs : List Answer) → AreAnswered bounds w js given → AreAnswered bounds w ks bs → AreAnswered bounds w (js ++ ks) (given ++ bs)
  answered_then [] ks [] bs h k = k
  answered_then (j ∷ js) ks (a ∷ given) bs h k = (h.0, answered_then js ks given bs h.1 k)
  answered_then [] ks (a ∷ given) bs h k = absurd h
  answered_then (j ∷ js) ks [] bs h k = absurd h

  pub answered_none : (jobs : List JobSeen) (n : ℕ) → AreAnswered bounds w (take (n - n) jobs) []
  answered_none jobs n = let e : 0 ≡ n - n = omega arith in subst (λ (m : ℕ). AreAnswered bounds w (take m jobs) []) e (none jobs)
    where
      none : (jobs : List JobSeen) → AreAnswered bounds w (take 0 jobs) []
      none [] = tt
      none (j ∷ js) = tt

  pub answered_one : (jobs : List JobSeen) (j : JobSeen) (a : Answer) → length jobs ≡ 1 → slice_get jobs 0 ≡ Some j → IsAnsweredBy bounds w j a → AreAnswered bounds w jobs (a ∷ [])
  answered_one [] j a e at h = absurd cc
  answered_one (k ∷ []) j a e at h = let s : k ≡ j = cc in (subst (λ (i : JobSeen). IsAnsweredBy bounds w i a) (sym s) h, tt)
  answered_one (k ∷ l ∷ js) j a e at h = absurd (omega (arith, e))

  -- one job more of a run
  pub answered_next : (jobs : List JobSeen) (first n : ℕ) (j : JobSeen) (given : List Answer) (a : Answer) → first ≤ n → slice_get jobs n ≡ Some j → AreAnswered bounds w (take (n - first) (drop first jobs)) given → IsAnsweredBy bounds w j a
      → AreAnswered bounds w (take (n + 1 - first) (drop first jobs)) (given ++ a ∷ [])
  answered_next jobs first n j given a l at h k =
      let e : n + 1 - first ≡ n - first + 1 = omega (arith, l) in
      let more : take (n + 1 - first) (drop first jobs) ≡ take (n - first) (drop first jobs) ++ j ∷ [] = ap (λ m. take m (drop first jobs)) e ∙ take_next (drop first jobs) (n - first) j (get_drop jobs first n j l at) in
      subst (λ (js : List JobSeen). AreAnswered bounds w js (given ++ a ∷ [])) (sym more) (answered_then (take (n - first) (drop first jobs)) (j ∷ []) given (a ∷ []) h (k, tt))

  -- ---- pieces
  pub follow_le : (a b : ℕ) (ps : List Piece) → Follow a ps b → a ≤ b
  follow_le a b [] f = omega (arith, f)
  follow_le a b (q ∷ ps) f = omega (arith, f.0, q.has_jobs, follow_le q.end b ps f.1)

  module _ (jobs : List JobSeen) where
    from_pieces : (a : ℕ) (ps : List Piece) (rs : List (Result (Vec Answer Global) NoMemory)) (given : List Answer) → Follow a ps (length jobs) → length rs ≡ length ps
        → ((i : ℕ) (p : Piece) (r : Result (Vec Answer Global) NoMemory) → i < length ps → IsPieceAnswered bounds w jobs (get_or ps i p) (get_or rs i r)) → Joins rs given → AreAnswered bounds w (drop a jobs) given
    from_pieces a [] [] given f l h k = subst (AreAnswered bounds w (drop a jobs)) (sym k) (subst (λ (js : List JobSeen). AreAnswered bounds w js []) (sym (drop_all jobs a (omega (arith, f)))) tt)
    from_pieces a [] (r ∷ rs) given f l h k = absurd (omega (arith, l))
    from_pieces a (p ∷ ps) [] given f l h k = absurd (omega (arith, l))
    from_pieces a (p ∷ ps) (Err e ∷ rs) given f l h k = absurd k
    from_pieces a (p ∷ ps) (Ok v ∷ rs) given f l h k =
        let here : AreAnswered bounds w (run_of jobs p) v.items = h 0 p (Ok v) (omega arith) in
        let rest : AreAnswered bounds w (drop p.end jobs) k.0 = from_pieces p.end ps rs k.0 f.1 (omega (arith, l)) (λ i q r n. h (suc i) q r (omega (arith, n))) k.2 in
        let both : AreAnswered bounds w (drop p.first jobs) given = subst (AreAnswered bounds w (drop p.first jobs)) (sym k.1) (subst (λ (js : List JobSeen). AreAnswered bounds w js (v.items ++ k.0)) (take_drop jobs p.first p.end (omega (arith, p.has_jobs))) (answered_then (run_of jobs p) (drop p.end jobs) v.items k.0 here rest)) in
        subst (λ (n : ℕ). AreAnswered bounds w (drop n jobs) given) f.0 both

    pub all_answered : (ps : List Piece) (rs : List (Result (Vec Answer Global) NoMemory)) (given : List Answer) → Follow 0 ps (length jobs) → length rs ≡ length ps
        → ((i : ℕ) (p : Piece) (r : Result (Vec Answer Global) NoMemory) → i < length ps → IsPieceAnswered bounds w jobs (get_or ps i p) (get_or rs i r)) → Joins rs given → AreAnswered bounds w jobs given
    all_answered ps rs given f l h k = from_pieces 0 ps rs given f l h k

pub all_within : (a b : ℕ) (ps : List Piece) → Follow a ps b → All (IsWithin b) ps
all_within a b [] f = All-nil (IsWithin b)
all_within a b (p ∷ ps) f = All-cons (IsWithin b) p ps (ends p.end b ps f.1) (all_within p.end b ps f.1)
  where
    ends : (a b : ℕ) (ps : List Piece) → Follow a ps b → a ≤ b
    ends a b [] f = omega (arith, f)
    ends a b (q ∷ ps) f = omega (arith, f.0, q.has_jobs, ends q.end b ps f.1)

-- ---- joining
pub none_of : {A : Type 0} (xs : List A) → length xs ≡ 0 → xs ≡ []
none_of [] e = refl
none_of (x ∷ xs) e = absurd (omega (arith, e))

pub one_joined : (parts rs : List (Result (Vec Answer Global) NoMemory)) (v : Vec Answer Global) (front : List Answer) → ((rest : List Answer) → Joins (Ok v ∷ rs) rest → Joins parts (front ++ rest)) → (rest : List Answer) → Joins rs rest → Joins parts ((front ++ v.items) ++ rest)
one_joined parts rs v front h rest k = subst (Joins parts) (sym (append_assoc front v.items rest)) (h (v.items ++ rest) (rest, refl, k))

pub all_joined : (parts rs : List (Result (Vec Answer Global) NoMemory)) (front : List Answer) → ((rest : List Answer) → Joins rs rest → Joins parts (front ++ rest)) → rs ≡ [] → Joins parts front
all_joined parts rs front h e = subst (Joins parts) (append-nil front) (h [] (subst (λ (ps : List (Result (Vec Answer Global) NoMemory)). Joins ps []) (sym e) refl))
