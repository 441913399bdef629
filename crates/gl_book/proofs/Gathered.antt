-- The tasks of a phase, and the answers to its jobs from those to its tasks.
use Rattle.std.proofs.Common.{◌≡◌, ◌∙◌, ap, sym, refl, subst, ℕ, zero, suc, ◌+◌, ◌<◌, ◌≤◌, List, [], ◌∷◌, ◌++◌, length, take, drop, map, append_assoc, append-nil, Some, slice_get, true, arith}
use Rattle.std.specs.List.{All, flat_map}
use Rattle.std.proofs.lemmas.List.{length-map, map_push, take_all}
use Rattle.std.proofs.lemmas.List.Concat.{flat_map-append}
use Rattle.std.proofs.lemmas.List.Elements.{All-nil, All-cons, All-append, All-weaker, All-head, All-tail}
use Rattle.coverage.proofs.Rest.{drop_get}
use Rattle.gl_logic.specs.Definition.{Definition}
use Rattle.gl_logic.specs.Every.{Every}
use Rattle.gl_logic.specs.WorldSeen.{WorldSeen}
use Rattle.event_world.specs.EventSeen.{EventSeen, Nothing, Redundant, Defun, Defconst, Value, Assert, Memoize, Unmemoize, SetMode, Theorem, Cases, Clique, RedundantClique}
use Rattle.shape_spec.specs.TheoremSeen.{TheoremSeen}
use Rattle.gl_cases.specs.Parts.{ParamSeen}
use Rattle.gl_decide.specs.Bounds.{Bounds}
use Rattle.gl_decide.specs.declared.verdict.Verdict.{Verdict}
use Rattle.book_state.specs.Answerable.{IsAnswerable, IsReadyTheorem}
use Rattle.gl_book.specs.Cases.{AreProperVerdicts, IsDecidedByCases, settled_of, verdict_from}
use Rattle.gl_book.specs.Phases.{JobSeen, new_job, CanBeAnswered, AreAnswered}
use Rattle.book_state.specs.States.{is_job}
use Rattle.gl_book.specs.Tasks.{parts_of, tasks_of, theorem_tasks, HasFewParts, TakesAnswer, TakesVerdict, TakesVerdicts}
use Rattle.gl_book.specs.declared.answer.Answer.{Answer}
use Rattle.gl_book.specs.declared.answer.Answer.TheVariants as answer
use Rattle.gl_book.specs.declared.cases.CasesVerdict.{CasesVerdict}
use Rattle.gl_book.proofs.PartsDecided.{parts_decide, verdicts_next}
use Rattle.gl_book.proofs.Phases.{all_at, answered_then, drop_all, take_next}

-- ---- tasks
pub flat_next : {A B : Type 0} (f : A → List B) (xs : List A) (i : ℕ) (x : A) → slice_get xs i ≡ Some x → flat_map f (take (i + 1) xs) ≡ flat_map f (take i xs) ++ f x
flat_next f xs i x at = ap (flat_map f) (take_next xs i x at) ∙ (flat_map-append f (take i xs) (x ∷ []) ∙ ap (λ ys. flat_map f (take i xs) ++ ys) (append-nil (f x)))

pub jobs_next : (js : List JobSeen) (i : ℕ) (j : JobSeen) (now later : List JobSeen) → slice_get js i ≡ Some j → now ≡ flat_map tasks_of (take i js) → later ≡ now ++ tasks_of j → later ≡ flat_map tasks_of (take (i + 1) js)
jobs_next js i j now later at so_far more = more ∙ (ap (λ ts. ts ++ tasks_of j) so_far ∙ sym (flat_next tasks_of js i j at))

-- the cover and so many cases
module _ (memoized : List ℕ) (old : List JobSeen) (thm : ParamSeen) where
  abbrev first_tasks : ℕ → List JobSeen
  first_tasks i = new_job (Theorem thm.cover) memoized ∷ theorem_tasks memoized (take i thm.cases)

  theorems_next : (i : ℕ) (c : TheoremSeen) → slice_get thm.cases i ≡ Some c → theorem_tasks memoized (take (i + 1) thm.cases) ≡ theorem_tasks memoized (take i thm.cases) ++ new_job (Theorem c) memoized ∷ []
  theorems_next i c at =
      ap (theorem_tasks memoized) (take_next thm.cases i c at)
      ∙ (ap (map (λ e. new_job e memoized)) (map_push Theorem (take i thm.cases) c) ∙ map_push (λ e. new_job e memoized) (map Theorem (take i thm.cases)) (Theorem c))

  pub cases_next : (i : ℕ) (c : TheoremSeen) (now later : List JobSeen) → slice_get thm.cases i ≡ Some c → now ≡ old ++ first_tasks i → later ≡ now ++ new_job (Theorem c) memoized ∷ [] → later ≡ old ++ first_tasks (i + 1)
  cases_next i c now later at so_far more =
      more
      ∙ (ap (λ ts. ts ++ new_job (Theorem c) memoized ∷ []) so_far
      ∙ (append_assoc old (first_tasks i) (new_job (Theorem c) memoized ∷ []) ∙ ap (λ ts. old ++ new_job (Theorem thm.cover) memoized ∷ ts) (sym (theorems_next i c at))))

  pub cases_all : (i : ℕ) (e : EventSeen) (now : List JobSeen) → length thm.cases ≤ i → e ≡ Cases thm → now ≡ old ++ first_tasks i → now ≡ old ++ tasks_of (new_job e memoized)
  cases_all i e now past is so_far = so_far ∙ (ap (λ cs. old ++ new_job (Theorem thm.cover) memoized ∷ theorem_tasks memoized cs) (take_all i thm.cases past) ∙ ap (λ k. old ++ tasks_of (new_job k memoized)) (sym is))

module _ (ds : List Definition) (memoized : List ℕ) (fs : All (λ f. f < length ds) memoized) where
  theorem_can : (thm : TheoremSeen) → IsReadyTheorem ds thm → CanBeAnswered ds (new_job (Theorem thm) memoized)
  theorem_can thm h = record { job = refl; can = record { functions = fs; event = h } }

  theorems_can : (thms : List TheoremSeen) → Every (IsReadyTheorem ds) thms → All (CanBeAnswered ds) (theorem_tasks memoized thms)
  theorems_can [] h = All-nil (CanBeAnswered ds)
  theorems_can (thm ∷ thms) h = All-cons (CanBeAnswered ds) (new_job (Theorem thm) memoized) (theorem_tasks memoized thms) (theorem_can thm h.0) (theorems_can thms h.1)

  one_can : (e : EventSeen) → is_job e ≡ true → IsAnswerable ds memoized e → All (CanBeAnswered ds) (new_job e memoized ∷ [])
  one_can e job can = All-cons (CanBeAnswered ds) (new_job e memoized) [] (record { job = job; can = can }) (All-nil (CanBeAnswered ds))

  event_can : (e : EventSeen) → is_job e ≡ true → IsAnswerable ds memoized e → All (CanBeAnswered ds) (map (λ p. new_job p memoized) (parts_of e))
  event_can (Cases thm) job can = All-cons (CanBeAnswered ds) (new_job (Theorem thm.cover) memoized) (theorem_tasks memoized thm.cases) (theorem_can thm.cover can.event.cover) (theorems_can thm.cases can.event.cases)
  event_can (Value t) job can = one_can (Value t) job can
  event_can (Assert t) job can = one_can (Assert t) job can
  event_can (Theorem thm) job can = one_can (Theorem thm) job can
  event_can Nothing job can = absurd cc
  event_can (Redundant n) job can = absurd cc
  event_can (Defun d) job can = absurd cc
  event_can (Defconst n t) job can = absurd cc
  event_can (Memoize f) job can = absurd cc
  event_can (Unmemoize f) job can = absurd cc
  event_can (SetMode m) job can = absurd cc
  event_can (Clique cs) job can = absurd cc
  event_can (RedundantClique ns) job can = absurd cc

module _ (ds : List Definition) where
  -- the tasks of jobs that can be answered can be
  pub tasks_can : (js : List JobSeen) → All (CanBeAnswered ds) js → All (CanBeAnswered ds) (flat_map tasks_of js)
  tasks_can [] h = All-nil (CanBeAnswered ds)
  tasks_can (j ∷ js) h =
      let first = All-head (CanBeAnswered ds) j js h in
      All-append (CanBeAnswered ds) (tasks_of j) (flat_map tasks_of js) (event_can ds j.memoized first.can.functions j.event first.job first.can) (tasks_can js (All-tail (CanBeAnswered ds) j js h))

  event_few : (memoized : List ℕ) (e : EventSeen) → is_job e ≡ true → IsAnswerable ds memoized e → length (parts_of e) ≤ 65
  event_few memoized (Cases thm) job can = let few = can.event.few in omega (arith, few, length-map thm.cases Theorem)
  event_few memoized (Value t) job can = omega arith
  event_few memoized (Assert t) job can = omega arith
  event_few memoized (Theorem thm) job can = omega arith
  event_few memoized Nothing job can = absurd cc
  event_few memoized (Redundant n) job can = absurd cc
  event_few memoized (Defun d) job can = absurd cc
  event_few memoized (Defconst n t) job can = absurd cc
  event_few memoized (Memoize f) job can = absurd cc
  event_few memoized (Unmemoize f) job can = absurd cc
  event_few memoized (SetMode m) job can = absurd cc
  event_few memoized (Clique cs) job can = absurd cc
  event_few memoized (RedundantClique ns) job can = absurd cc

  pub all_few : (js : List JobSeen) → All (CanBeAnswered ds) js → All HasFewParts js
  all_few js h = All-weaker (CanBeAnswered ds) HasFewParts (λ j k. event_few j.memoized j.event k.job k.can) js h

-- ---- verdicts
pub verdict_taken : (given : List Answer) (v : Verdict) (left : List Answer) → given ≡ answer.Decided v ∷ left → TakesVerdict given v left
verdict_taken given v left is = λ bounds w thm memoized tasks h. subst (AreAnswered bounds w (new_job (Theorem thm) memoized ∷ tasks)) is h

some_at : {A : Type 0} (xs : List A) (i : ℕ) → i < length xs → (x : A) × (slice_get xs i ≡ Some x)
some_at [] i h = absurd (omega (arith, h))
some_at (x ∷ xs) zero h = (x, refl)
some_at (x ∷ xs) (suc i) h = some_at xs i (omega (arith, h))

-- so many verdicts have been taken
abbrev pub Taking : ℕ → List Answer → ℕ → List Verdict → List Answer → Type 0
Taking n given i vs left =
    (bounds : Bounds) (w : WorldSeen) (thms : List TheoremSeen) (memoized : List ℕ) (tasks : List JobSeen) → length thms ≡ n → AreAnswered bounds w (theorem_tasks memoized thms ++ tasks) given
    → AreProperVerdicts bounds w (take i thms) vs × AreAnswered bounds w (theorem_tasks memoized (drop i thms) ++ tasks) left

pub taking_none : (n : ℕ) (given : List Answer) → Taking n given 0 [] given
taking_none n given = λ bounds w thms memoized tasks e h. (none bounds w thms, h)
  where
    none : (bounds : Bounds) (w : WorldSeen) (thms : List TheoremSeen) → AreProperVerdicts bounds w (take 0 thms) []
    none bounds w [] = tt
    none bounds w (thm ∷ thms) = tt

pub taking_next : (n : ℕ) (given : List Answer) (i : ℕ) (vs : List Verdict) (left : List Answer) (v : Verdict) (last : List Answer) → i < n → Taking n given i vs left → TakesVerdict left v last → Taking n given (i + 1) (vs ++ v ∷ []) last
taking_next n given i vs left v last within t k = λ bounds w thms memoized tasks e h.
    let so_far = t bounds w thms memoized tasks e h in
    let at = some_at thms i (omega (arith, e, within)) in
    let here = k bounds w at.0 memoized (theorem_tasks memoized (drop (i + 1) thms) ++ tasks) (subst (λ (ts : List TheoremSeen). AreAnswered bounds w (theorem_tasks memoized ts ++ tasks) left) (drop_get thms i at.0 at.1) so_far.1) in
    (verdicts_next bounds w thms i vs at.0 v at.1 so_far.0 here.0, here.1)

pub taken_all : (n : ℕ) (given : List Answer) (i : ℕ) (vs : List Verdict) (left : List Answer) → i ≡ n → Taking n given i vs left → TakesVerdicts n given vs left
taken_all n given i vs left all t = λ bounds w thms memoized tasks e h.
    let so_far = t bounds w thms memoized tasks e h in
    let past : length thms ≤ i = omega (arith, all, e) in (
      subst (λ (ts : List TheoremSeen). AreProperVerdicts bounds w ts vs) (take_all i thms past) so_far.0,
      subst (λ (ts : List TheoremSeen). AreAnswered bounds w (theorem_tasks memoized ts ++ tasks) left) (drop_all thms i past) so_far.1,
    )

-- ---- one job
pub cases_taken : (j : JobSeen) (thm : ParamSeen) (given mid left : List Answer) (cover : Verdict) (cases : List Verdict) (v : CasesVerdict) → j.event ≡ Cases thm → TakesVerdict given cover mid → TakesVerdicts (length thm.cases) mid cases left
    → v ≡ verdict_from (settled_of cover cases) cover cases → TakesAnswer j given (answer.ByCases v) left
cases_taken j thm given mid left cover cases v is first others comes =
    subst (λ (e : EventSeen). TakesAnswer (record j { event = e }) given (answer.ByCases v) left) (sym is) (λ bounds w tasks can h.
    let one = first bounds w thm.cover j.memoized (theorem_tasks j.memoized thm.cases ++ tasks) h in
    let rest = others bounds w thm.cases j.memoized tasks refl one.1 in
    (subst (IsDecidedByCases bounds w thm) (sym comes) (parts_decide bounds w thm cover cases can.can.event.parts one.0 rest.0), rest.1))

pub whole_taken : (j : JobSeen) (given : List Answer) (a : Answer) (left : List Answer) → parts_of j.event ≡ j.event ∷ [] → given ≡ a ∷ left → TakesAnswer j given a left
whole_taken j given a left one is = λ bounds w tasks can h.
    let k : AreAnswered bounds w (map (λ e. new_job e j.memoized) (j.event ∷ []) ++ tasks) (a ∷ left) = subst (AreAnswered bounds w (map (λ e. new_job e j.memoized) (j.event ∷ []) ++ tasks)) is (subst (λ (es : List EventSeen). AreAnswered bounds w (map (λ e. new_job e j.memoized) es ++ tasks) given) one h) in
    (k.0, k.1)

-- ---- all jobs
abbrev pub Gathering : List JobSeen → List Answer → ℕ → List Answer → List Answer → Type 0
Gathering js given i gathered left =
    (bounds : Bounds) (w : WorldSeen) → All (CanBeAnswered w.definitions) js → AreAnswered bounds w (flat_map tasks_of js) given → AreAnswered bounds w (take i js) gathered × AreAnswered bounds w (flat_map tasks_of (drop i js)) left

pub gathering_none : (js : List JobSeen) (given : List Answer) → Gathering js given 0 [] given
gathering_none js given = λ bounds w can h. (none bounds w js, h)
  where
    none : (bounds : Bounds) (w : WorldSeen) (js : List JobSeen) → AreAnswered bounds w (take 0 js) []
    none bounds w [] = tt
    none bounds w (j ∷ js) = tt

pub gathering_next : (js : List JobSeen) (given : List Answer) (i : ℕ) (gathered left : List Answer) (j : JobSeen) (a : Answer) (last : List Answer) → slice_get js i ≡ Some j → Gathering js given i gathered left → TakesAnswer j left a last
    → Gathering js given (i + 1) (gathered ++ a ∷ []) last
gathering_next js given i gathered left j a last at g k = λ bounds w can h.
    let so_far = g bounds w can h in
    let here = k bounds w (flat_map tasks_of (drop (i + 1) js)) (all_at (CanBeAnswered w.definitions) js i j can at) (subst (λ (ks : List JobSeen). AreAnswered bounds w (flat_map tasks_of ks) left) (drop_get js i j at) so_far.1) in
    (subst (λ (ks : List JobSeen). AreAnswered bounds w ks (gathered ++ a ∷ [])) (sym (take_next js i j at)) (answered_then bounds w (take i js) (j ∷ []) gathered (a ∷ []) so_far.0 (here.0, tt)), here.1)

pub gathered_all : (js : List JobSeen) (given : List Answer) (i : ℕ) (gathered left : List Answer) → length js ≤ i → Gathering js given i gathered left → (bounds : Bounds) (w : WorldSeen) → All (CanBeAnswered w.definitions) js → AreAnswered bounds w (flat_map tasks_of js) given → AreAnswered bounds w js gathered
gathered_all js given i gathered left past g bounds w can h = subst (λ (ks : List JobSeen). AreAnswered bounds w ks gathered) (take_all i js past) (g bounds w can h).0
