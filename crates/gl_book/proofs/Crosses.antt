-- A walk on its way, where jobs wait for their answers: one form more, the end of a phase, and the end.
use Rattle.std.proofs.Common.{◌≡◌, ◌≢◌, ◌∙◌, ap, sym, refl, subst, ℕ, zero, suc, ◌+◌, ◌<◌, ◌≤◌, ◌^◌, List, [], ◌∷◌, ◌++◌, length, length-append, take, drop, append_assoc, append-nil, Bool, true, false, Option, Some, None, slice_get, Ok, Err, arith}
use Rattle.std.specs.List.{All, flat_map, list_any}
use Rattle.std.proofs.Math.Seq.{drop-cons, take-append_seam}
use Rattle.std.proofs.lemmas.List.Concat.{flat_map-append}
use Rattle.std.proofs.lemmas.List.Elements.{All-nil, All-push}
use Rattle.std.proofs.lemmas.List.Sums.{count_by-le-length}
use Rattle.std.proofs.lemmas.List.{take-append-drop}
use Rattle.std.proofs.lemmas.Option.{get_or_from_slice_get, slice_get_within}
use Rattle.gl_logic.specs.Object.{nil}
use Rattle.gl_logic.specs.Definition.{Definition}
use Rattle.gl_base.specs.Outside.{Grows}
use Rattle.gl_base.proofs.Growth.{grows-then}
use Rattle.gl_base.specs.declared.status.Status.{Status}
use Rattle.sexp_reader.specs.declared.list.Form.{Form}
use Rattle.book_shelf.specs.declared.item.Item.{Item}
use Rattle.book_shelf.specs.declared.item.Item.TheVariants as item
use Rattle.book_shelf.specs.declared.item.Mark.{Mark}
use Rattle.event_world.specs.declared.fault.EventFault.{EventFault}
use Rattle.event_world.specs.EventSeen.{EventSeen}
use Rattle.event_world.specs.NextState.{BookState, next_state}
use Rattle.gl_decide.specs.Bounds.{Bounds}
use Rattle.gl_decide.specs.Stalls.{StallSeen}
use Rattle.gl_book.specs.Answers.{IsProperAnswer}
use Rattle.book_state.specs.Answerable.{IsAnswerable}
use Rattle.gl_book.specs.Courses.{AreBehind, Course, HasRoomFor, IsQuiet, KeepsPhase, KeepsPhaseFront, Place, Stands, WritesPhase, WritesPhaseFront, counts_after, count_waited, phase_lines, waited}
use Rattle.gl_book.specs.Entry.{Entry, Answered, Marked, Refused, entry_stalls, stalls_of, stalls_in}
use Rattle.gl_book.specs.Lines.{entry_lines, event_lines, mark_line, done_line, counts_of, is_answer, is_proved, is_vacuous, is_refuted, is_undecided, is_failed, is_refusal, transcript_lines}
use Rattle.gl_book.specs.Phases.{JobSeen, AreAnswered, CanBeAnswered, IsFollowed, ends_phase, new_job}
use Rattle.book_state.specs.States.{is_job}
use Rattle.gl_book.specs.Stops.{closing, counts_with, refusal_of, closing_lines, closing_status, told_before, WritesLines, WritesLinesFront, WritesWalk, WritesWalkFront}
use Rattle.gl_book.specs.Transcript.{told}
use Rattle.gl_book.specs.Walk.{Walk, marked, refused, without_value, event, refusal_at, refused_cause, state_after}
use Rattle.book_state.specs.States.{CanGoOn, event_in}
use Rattle.gl_book.specs.declared.answer.Answer.{Answer}
use Rattle.gl_book.specs.declared.answer.Answer.TheVariants as answer
use Rattle.gl_book.specs.declared.answer.Cause.{Cause}
use Rattle.gl_book.specs.declared.answer.Cause.TheVariants as cause
use Rattle.gl_book.specs.declared.refusal.Refusal.{Refusal}
use Rattle.gl_book.specs.declared.refusal.RefusalCode.TheVariants as code
use Rattle.gl_book.proofs.Closing.{counts_more, counts_marked, lines_that_close, status_that_closes, still_answered, still_unrefused}
use Rattle.gl_book.proofs.GoOn.{after_event}
use Rattle.gl_book.proofs.Onward.{last_walk, some_walk}
use Rattle.gl_book.proofs.Told.{front_then, grows_is, grows_nothing, so_far, told_before_split, told_whole}
use Rattle.gl_book.proofs.Waited.{HasLast, with_lines, waited_lines, waited_stalls, waited_counts, waited_stand, waited_count, none_behind, few_jobs, behind_push, count_push, last_answered, waited_push, has_last, behind_more, count_more, answered_without, waited_more}
use Rattle.gl_book.proofs.Staying.{answer_quiet, answers_before, job_state, job_valued, longer_ready, same_definitions, some_answers}

-- no count is more than the entries
counted_few : (done : List Entry)
    → ((counts_of done).proved ≤ length done) × ((counts_of done).vacuous ≤ length done) × ((counts_of done).refuted ≤ length done) × ((counts_of done).undecided ≤ length done) × ((counts_of done).failed ≤ length done)
counted_few done = (
  count_by-le-length (is_answer is_proved) done,
  count_by-le-length (is_answer is_vacuous) done,
  count_by-le-length (is_answer is_refuted) done,
  count_by-le-length (is_answer is_undecided) done,
  count_by-le-length (is_answer is_failed) done,
)

-- the front of the last stalls, behind those before, is a front of all
kept_front : (xs ys zs whole : List StallSeen) (m : ℕ) → whole ≡ (xs ++ ys) ++ zs → (k : ℕ) × (xs ++ take m ys ≡ take k whole)
kept_front xs ys zs whole m is =
    let front = xs ++ take m ys in
    let apart : whole ≡ front ++ (drop m ys ++ zs) =
    is ∙ (append_assoc xs ys zs ∙ (ap (λ ss. xs ++ (ss ++ zs)) (sym (take-append-drop m ys)) ∙ (ap (λ ss. xs ++ ss) (append_assoc (take m ys) (drop m ys) zs) ∙ sym (append_assoc xs (take m ys) (drop m ys ++ zs))))) in
    (length front, sym (ap (take (length front)) apart ∙ take-append_seam front (drop m ys ++ zs)))

-- ---- the way
pub next_item : (items : List Item) (i : ℕ) (x : Item) → slice_get items i ≡ Some x → drop i items ≡ x ∷ drop (i + 1) items
next_item items i x at =
    let e : suc i ≡ i + 1 = omega arith in
    drop-cons items i x (slice_get_within items i x at) ∙ (ap (λ y. y ∷ drop (suc i) items) (get_or_from_slice_get items i x x at) ∙ ap (λ n. x ∷ drop n items) e)

none_left : (items : List Item) (i : ℕ) → length items ≤ i → drop i items ≡ []
none_left [] zero h = refl
none_left [] (suc i) h = refl
none_left (x ∷ xs) zero h = absurd (omega (arith, h))
none_left (x ∷ xs) (suc i) h = none_left xs i (omega (arith, h))

module _ (names : List (List ℕ)) (bounds : Bounds) (last : Bool) (c : Course) where
  abbrev IsWhole : List Entry → Type 0
  IsWhole entries = Walk names bounds c.first c.book.items c.book.finish entries

  abbrev StandsAt : ℕ → Place → Type 0
  StandsAt i p = Stands names bounds last c i p

  abbrev Front : Option (List ℕ) → List StallSeen → Type 0
  Front new after = WritesWalkFront names bounds c.first c.book last c.written new c.stalls after

  pub begins : CanGoOn c.first → StandsAt 0 (record { state = c.first; counts = counts_of []; waiting = []; written = c.written; stalls = c.stalls })
  begins h = record {
    done = [];
    behind = [];
    can = h;
    ready = All-nil (CanBeAnswered c.first.world.definitions);
    follow = tt;
    onward = λ given k entries w. w;
    counted = refl;
    many = refl;
    answered = refl;
    written = begun last;
    stalls = sym (append-nil c.stalls);
  }
    where
      begun : (b : Bool) → Grows c.written c.written (so_far b names [])
      begun true = grows_nothing c.written
      begun false = grows_nothing c.written

  module _ (i : ℕ) (p : Place) (s : StandsAt i p) where
    -- ---- room for counts
    pub has_room_for : (n : ℕ) → i + n < 2 ^ 64 → HasRoomFor (length p.waiting + n) p.counts
    has_room_for n h =
        let few = few_jobs names bounds p.state.world p.waiting s.behind s.follow in
        let many = s.many in
        let r = counted_few s.done in
        subst (HasRoomFor (length p.waiting + n)) (sym s.counted) (record {
          proved = let k = r.0 in omega (arith, few, many, h, k);
          vacuous = let k = r.1 in omega (arith, few, many, h, k);
          refuted = let k = r.2 in omega (arith, few, many, h, k);
          undecided = let k = r.3 in omega (arith, few, many, h, k);
          failed = let k = r.4 in omega (arith, few, many, h, k);
        })

    -- ---- entries more, with these lines and these stalls, after which the walk stands before form j in another state
    module _ (more : List Entry) (lines : List (List ℕ)) (kept : List StallSeen) (lines_are : flat_map (entry_lines names) more ≡ lines) (stalls_are : stalls_in more ≡ kept)
        (state : BookState) (j : ℕ) (can : CanGoOn state) (onward : (entries : List Entry) → Walk names bounds state (drop j c.book.items) c.book.finish entries → IsWhole ((s.done ++ more) ++ entries)) where
      more_told : so_far last names (s.done ++ more) ≡ so_far last names s.done ++ told_before last lines
      more_told =
          ap (told_before last) (flat_map-append (entry_lines names) s.done more ∙ ap (λ ls. flat_map (entry_lines names) s.done ++ ls) lines_are)
          ∙ told_before_split last (flat_map (entry_lines names) s.done) lines

      more_stalls : stalls_in (s.done ++ more) ≡ stalls_in s.done ++ kept
      more_stalls = flat_map-append entry_stalls s.done more ∙ ap (λ ss. stalls_in s.done ++ ss) stalls_are

      -- a front of their lines was written, and a front of their stalls was kept
      more_front : (now : Option (List ℕ)) (after : List StallSeen) → (n : ℕ) × Grows p.written now (take n (told_before last lines)) → (m : ℕ) × (after ≡ p.stalls ++ take m kept) → Front now after
      more_front now after g k =
          let rest = some_walk names bounds c.book.finish state (drop j c.book.items) can in
          let done = s.done ++ more in
          let entries = done ++ rest.0 in
          let ys = told_before last lines in
          let tail = told last (flat_map (entry_lines names) rest.0 ++ done_line (counts_of entries) ∷ []) in
          let whole = told_whole last names done rest.0 ∙ (ap (λ bs. bs ++ tail) more_told ∙ append_assoc (so_far last names s.done) ys tail) in
          let split : stalls_in entries ≡ (stalls_in s.done ++ kept) ++ stalls_in rest.0 = flat_map-append entry_stalls done rest.0 ∙ ap (λ ss. ss ++ stalls_in rest.0) more_stalls in
          let f = kept_front (stalls_in s.done) kept (stalls_in rest.0) (stalls_in entries) k.0 split in
          let is : after ≡ c.stalls ++ (stalls_in s.done ++ take k.0 kept) = k.1 ∙ (ap (λ zs. zs ++ take k.0 kept) s.stalls ∙ append_assoc c.stalls (stalls_in s.done) (take k.0 kept)) in
          (entries, onward rest.0 rest.1, front_then c.written p.written now _ (so_far last names s.done) ys tail whole s.written g, (f.0, is ∙ ap (λ zs. c.stalls ++ zs) f.1))

      -- all of them
      more_stands : (q : Place) → q.state ≡ state → q.waiting ≡ [] → q.counts ≡ counts_of (s.done ++ more) → length (s.done ++ more) ≡ j → list_any is_refusal (s.done ++ more) ≡ false
          → Grows p.written q.written (told_before last lines) → q.stalls ≡ p.stalls ++ kept → StandsAt j q
      more_stands q same none n m r g k = record {
        done = s.done ++ more;
        behind = [];
        can = subst CanGoOn (sym same) can;
        ready = subst (λ (js : List JobSeen). All (CanBeAnswered q.state.world.definitions) js) (sym none) (All-nil (CanBeAnswered q.state.world.definitions));
        follow = subst (λ (js : List JobSeen). AreBehind names js []) (sym none) tt;
        onward = λ bs h entries w.
            subst (λ (js : List JobSeen). IsWhole ((s.done ++ more) ++ (waited js [] bs ++ entries))) (sym none) (onward entries (subst (λ (st : BookState). Walk names bounds st (drop j c.book.items) c.book.finish entries) same w));
        counted = n;
        many = omega (arith, m);
        answered = r;
        written = grows_is c.written q.written _ _ (grows-then c.written p.written q.written _ _ s.written g) (sym more_told);
        stalls = k ∙ (ap (λ ss. ss ++ kept) s.stalls ∙ (append_assoc c.stalls (stalls_in s.done) kept ∙ ap (λ ss. c.stalls ++ ss) (sym more_stalls)));
      }

    -- ---- the jobs that wait are answered
    module _ (given : List Answer) (proper : AreAnswered bounds p.state.world p.waiting given) where
      abbrev entries_of_phase : List Entry
      entries_of_phase = waited p.waiting s.behind given

      phase_onward : (entries : List Entry) → Walk names bounds p.state (drop i c.book.items) c.book.finish entries → IsWhole ((s.done ++ entries_of_phase) ++ entries)
      phase_onward entries w = subst IsWhole (sym (append_assoc s.done entries_of_phase entries)) (s.onward given proper entries w)

      pub phase_front : (now : Option (List ℕ)) (after : List StallSeen) → WritesPhaseFront names last p.waiting given p.written now → KeepsPhaseFront given p.stalls after → Front now after
      phase_front now after g k =
          more_front entries_of_phase (phase_lines names p.waiting given) (flat_map stalls_of given) (waited_lines names bounds p.state.world p.waiting s.behind given s.follow proper) (waited_stalls names bounds p.state.world p.waiting s.behind given s.follow proper) p.state i s.can phase_onward now after g k

      pub phase_stands : (q : Place) → q.state ≡ p.state → q.waiting ≡ [] → WritesPhase names last p.waiting given p.written q.written → KeepsPhase given p.stalls q.stalls → q.counts ≡ counts_after p.counts given → StandsAt i q
      phase_stands q same none g k n =
          let m = waited_count names bounds p.state.world p.waiting s.behind given s.follow proper in
          let t = s.many in
          more_stands entries_of_phase (phase_lines names p.waiting given) (flat_map stalls_of given) (waited_lines names bounds p.state.world p.waiting s.behind given s.follow proper) (waited_stalls names bounds p.state.world p.waiting s.behind given s.follow proper) p.state i s.can phase_onward q same none
          (n ∙ (ap (λ k. counts_after k given) s.counted ∙ waited_counts names bounds p.state.world p.waiting s.behind given s.done s.follow proper))
          (omega (arith, m, t, length-append s.done entries_of_phase))
          (waited_stand names bounds p.state.world p.waiting s.behind given s.done s.follow proper s.answered) g k

    -- nothing more was written
    pub front_here : (now : Option (List ℕ)) (after : List StallSeen) → now ≡ p.written → after ≡ p.stalls → Front now after
    front_here now after e f =
        let a = some_answers bounds p.state.world p.state.world.definitions p.waiting s.ready in
        phase_front a.0 a.1 now after (0, subst (λ (o : Option (List ℕ)). Grows p.written o []) (sym e) (grows_nothing p.written)) (0, f ∙ sym (append-nil p.stalls))

    -- ---- an entry behind a job, after which the walk stands before the next item in a state with the same definitions
    module _ (x : Entry) (quiet : IsQuiet x) (state : BookState) (can : CanGoOn state) (same : state.world.definitions ≡ p.state.world.definitions) (before : (js : List JobSeen) (given : List Answer) → AreAnswered bounds state.world js given → AreAnswered bounds p.state.world js given)
        (walk_on : (entries : List Entry) → Walk names bounds state (drop (i + 1) c.book.items) c.book.finish entries → Walk names bounds p.state (drop i c.book.items) c.book.finish (x ∷ entries)) where
      module _ (l : HasLast names bounds p.state.world p.waiting s.behind) where
        abbrev longer : List JobSeen
        longer = l.before ++ with_lines names bounds p.state.world l.last (entry_lines names x) ∷ []

        abbrev further : List (List Entry)
        further = l.entries ++ (l.behind ++ x ∷ []) ∷ []

        split : AreBehind names (l.before ++ l.last ∷ []) (l.entries ++ l.behind ∷ [])
        split = subst (λ (ess : List (List Entry)). AreBehind names (l.before ++ l.last ∷ []) ess) l.entries_are (subst (λ (js : List JobSeen). AreBehind names js s.behind) l.jobs_are s.follow)

        joins_onward : (given : List Answer) → AreAnswered bounds state.world longer given → (entries : List Entry) → Walk names bounds state (drop (i + 1) c.book.items) c.book.finish entries → IsWhole (s.done ++ (waited longer further given ++ entries))
        joins_onward given h entries w =
            let without = answered_without names bounds p.state.world l.before l.last (entry_lines names x) given (before longer given h) in
            let onto : AreAnswered bounds p.state.world p.waiting given = subst (λ (js : List JobSeen). AreAnswered bounds p.state.world js given) (sym l.jobs_are) without in
            let whole = s.onward given onto (x ∷ entries) (walk_on entries w) in
            let apart : IsWhole (s.done ++ (waited (l.before ++ l.last ∷ []) (l.entries ++ l.behind ∷ []) given ++ (x ∷ entries))) = subst (λ (ess : List (List Entry)). IsWhole (s.done ++ (waited (l.before ++ l.last ∷ []) ess given ++ (x ∷ entries)))) l.entries_are (subst (λ (js : List JobSeen). IsWhole (s.done ++ (waited js s.behind given ++ (x ∷ entries)))) l.jobs_are whole) in
            subst (λ (zs : List Entry). IsWhole (s.done ++ zs)) (waited_more names bounds p.state.world l.before l.last (entry_lines names x) l.entries l.behind given x entries split without) apart

        joins_stands : (later : List JobSeen) → later ≡ longer → StandsAt (i + 1) (record { state = state; counts = p.counts; waiting = later; written = p.written; stalls = p.stalls })
        joins_stands later is = subst (λ (js : List JobSeen). StandsAt (i + 1) (record { state = state; counts = p.counts; waiting = js; written = p.written; stalls = p.stalls })) (sym is) (record {
          done = s.done;
          behind = further;
          can = can;
          ready = subst (λ (ds : List Definition). All (CanBeAnswered ds) longer) (sym same) (longer_ready l.before l.last (entry_lines names x) (subst (λ (js : List JobSeen). All (CanBeAnswered p.state.world.definitions) js) l.jobs_are s.ready));
          follow = behind_more names bounds p.state.world l.before l.last l.entries l.behind x quiet split;
          onward = joins_onward;
          counted = s.counted;
          many = let m = s.many in let n : count_waited s.behind ≡ count_waited (l.entries ++ l.behind ∷ []) = ap count_waited l.entries_are in omega (arith, m, n, count_more names bounds p.state.world l.entries l.behind x);
          answered = s.answered;
          written = s.written;
          stalls = s.stalls;
        })

      joins : 0 < length p.waiting → (later : List JobSeen) → IsFollowed p.waiting (entry_lines names x) later → StandsAt (i + 1) (record { state = state; counts = p.counts; waiting = later; written = p.written; stalls = p.stalls })
      joins some later f =
          let l = has_last names bounds p.state.world p.waiting s.behind some s.follow in
          joins_stands l later (f.says l.before l.last l.jobs_are)

    walk_mark : (m : Mark) → slice_get c.book.items i ≡ Some (item.Mark m) → (entries : List Entry) → Walk names bounds p.state (drop (i + 1) c.book.items) c.book.finish entries → Walk names bounds p.state (drop i c.book.items) c.book.finish (Marked m ∷ entries)
    walk_mark m at entries w =
        subst (λ (xs : List Item). Walk names bounds p.state xs c.book.finish (Marked m ∷ entries)) (sym (next_item c.book.items i (item.Mark m) at)) (marked p.state m (drop (i + 1) c.book.items) c.book.finish entries w)

    -- ---- an event that waits
    module _ (form : Form) (at : slice_get c.book.items i ≡ Some (item.Form form)) (e : EventSeen) (means : event_in names p.state form.tree ≡ Ok e) (stays : ends_phase e ≡ false) where
      abbrev next : BookState
      next = next_state p.state form.tree e nil

      can_next : CanGoOn next
      can_next = subst CanGoOn (job_state p.state form.tree e answer.Done stays) (after_event names p.state form.tree e answer.Done s.can means)

      walk_next : (a : Answer) → IsProperAnswer bounds p.state.world p.state.memoized e a → (entries : List Entry) → Walk names bounds next (drop (i + 1) c.book.items) c.book.finish entries
          → Walk names bounds p.state (drop i c.book.items) c.book.finish (Answered e a ∷ entries)
      walk_next a proper entries w =
          subst (λ (xs : List Item). Walk names bounds p.state xs c.book.finish (Answered e a ∷ entries)) (sym (next_item c.book.items i (item.Form form) at))
          (event p.state form (drop (i + 1) c.book.items) c.book.finish entries e a means proper (job_valued e a stays)
          (subst (λ (st : BookState). Walk names bounds st (drop (i + 1) c.book.items) c.book.finish entries) (sym (job_state p.state form.tree e a stays)) w))

      ready_next : (js : List JobSeen) → All (CanBeAnswered p.state.world.definitions) js → All (CanBeAnswered next.world.definitions) js
      ready_next js h = subst (λ (ds : List Definition). All (CanBeAnswered ds) js) (sym (same_definitions p.state form.tree e stays)) h

      -- a job
      pub waits : is_job e ≡ true → IsAnswerable p.state.world.definitions p.state.memoized e → StandsAt (i + 1) (record { state = next; counts = p.counts; waiting = p.waiting ++ new_job e p.state.memoized ∷ []; written = p.written; stalls = p.stalls })
      waits job can = record {
        done = s.done;
        behind = s.behind ++ [] ∷ [];
        can = can_next;
        ready = ready_next (p.waiting ++ new_job e p.state.memoized ∷ []) (All-push (CanBeAnswered p.state.world.definitions) p.waiting (new_job e p.state.memoized) s.ready (record { job = job; can = can }));
        follow = behind_push names bounds p.state.world p.waiting s.behind (new_job e p.state.memoized) s.follow refl;
        onward = λ given h entries w.
            let before = answers_before bounds p.state form.tree e (p.waiting ++ new_job e p.state.memoized ∷ []) given stays h in
            let l = last_answered names bounds p.state.world p.waiting (new_job e p.state.memoized) given before in
            let whole = s.onward l.before l.proper (Answered e l.last ∷ entries) (walk_next l.last l.proper_last entries w) in
            subst (λ (bs : List Answer). IsWhole (s.done ++ (waited (p.waiting ++ new_job e p.state.memoized ∷ []) (s.behind ++ [] ∷ []) bs ++ entries))) (sym l.is)
            (subst (λ (zs : List Entry). IsWhole (s.done ++ zs)) (waited_push names bounds p.state.world p.waiting s.behind (new_job e p.state.memoized) l.before l.last entries s.follow l.proper) whole);
        counted = s.counted;
        many = let m = s.many in omega (arith, m, count_push names bounds p.state.world s.behind);
        answered = s.answered;
        written = s.written;
        stalls = s.stalls;
      }

      -- an event behind a job
      pub follows : is_job e ≡ false → 0 < length p.waiting → (a : Answer) → IsProperAnswer bounds p.state.world p.state.memoized e a → (later : List JobSeen) → IsFollowed p.waiting (event_lines names e a) later → StandsAt (i + 1) (record { state = next; counts = p.counts; waiting = later; written = p.written; stalls = p.stalls })
      follows other some a proper later f =
          joins (Answered e a) (answer_quiet bounds p.state.world p.state.memoized e a other stays proper) next can_next (same_definitions p.state form.tree e stays) (λ js given h. answers_before bounds p.state form.tree e js given stays h) (walk_next a proper) some later f

    -- ---- a mark behind a job
    pub mark_follows : (m : Mark) → slice_get c.book.items i ≡ Some (item.Mark m) → 0 < length p.waiting → (later : List JobSeen) → IsFollowed p.waiting (mark_line names m ∷ []) later → StandsAt (i + 1) (record { state = p.state; counts = p.counts; waiting = later; written = p.written; stalls = p.stalls })
    mark_follows m at some later f =
        joins (Marked m) tt p.state s.can refl (λ js given h. h) (walk_mark m at) some later f

    -- ---- no job waits
    module _ (none : p.waiting ≡ []) where
      plain_onward : (entries : List Entry) → Walk names bounds p.state (drop i c.book.items) c.book.finish entries → IsWhole (s.done ++ entries)
      plain_onward entries w =
          subst (λ (js : List JobSeen). IsWhole (s.done ++ (waited js s.behind [] ++ entries))) none (s.onward [] (subst (λ (js : List JobSeen). AreAnswered bounds p.state.world js []) (sym none) tt) entries w)

      plain_many : length s.done ≡ i
      plain_many =
          let e : s.behind ≡ [] = none_behind names bounds p.state.world s.behind (subst (λ (js : List JobSeen). AreBehind names js s.behind) none s.follow) in
          let n : count_waited s.behind ≡ 0 = ap count_waited e in
          let m = s.many in omega (arith, n, m)

      -- the next event is answered at once
      module _ (form : Form) (at : slice_get c.book.items i ≡ Some (item.Form form)) (e : EventSeen) (a : Answer) (means : event_in names p.state form.tree ≡ Ok e) (proper : IsProperAnswer bounds p.state.world p.state.memoized e a) where
        module _ (valued : refused_cause e a ≡ None) where
          abbrev one : List Entry
          one = Answered e a ∷ []

          one_onward : (entries : List Entry) → Walk names bounds (state_after p.state form.tree e a) (drop (i + 1) c.book.items) c.book.finish entries → IsWhole ((s.done ++ one) ++ entries)
          one_onward entries w =
              subst IsWhole (sym (append_assoc s.done one entries))
              (plain_onward (Answered e a ∷ entries) (subst (λ (xs : List Item). Walk names bounds p.state xs c.book.finish (Answered e a ∷ entries)) (sym (next_item c.book.items i (item.Form form) at)) (event p.state form (drop (i + 1) c.book.items) c.book.finish entries e a means proper valued w)))

          one_can : CanGoOn (state_after p.state form.tree e a)
          one_can = after_event names p.state form.tree e a s.can means

          pub goes_on : (q : Place) → q.state ≡ state_after p.state form.tree e a → q.waiting ≡ [] → q.counts ≡ counts_with p.counts a → Grows p.written q.written (told_before last (event_lines names e a)) → q.stalls ≡ p.stalls ++ stalls_of a → StandsAt (i + 1) q
          goes_on q same gone n g k =
              more_stands one (event_lines names e a) (stalls_of a) (append-nil (event_lines names e a)) (append-nil (stalls_of a)) (state_after p.state form.tree e a) (i + 1) one_can one_onward q same gone
              (n ∙ (ap (λ k. counts_with k a) s.counted ∙ counts_more s.done e a))
              (let m = plain_many in omega (arith, m, length-append s.done one))
              (still_answered s.done e a s.answered) g k

          pub front_next : (now : Option (List ℕ)) (after : List StallSeen) → (n : ℕ) × Grows p.written now (take n (told_before last (event_lines names e a))) → (m : ℕ) × (after ≡ p.stalls ++ take m (stalls_of a)) → Front now after
          front_next now after g k =
              more_front one (event_lines names e a) (stalls_of a) (append-nil (event_lines names e a)) (append-nil (stalls_of a)) (state_after p.state form.tree e a) (i + 1) one_can one_onward now after g k

        -- it has no value
        pub ends_without : (why : Cause) → refused_cause e a ≡ Some why → why ≢ cause.Memory → Walk names bounds p.state (drop i c.book.items) c.book.finish (Refused (refusal_at form (code.Constant why)) ∷ [])
        ends_without why has other =
            subst (λ (xs : List Item). Walk names bounds p.state xs c.book.finish (Refused (refusal_at form (code.Constant why)) ∷ [])) (sym (next_item c.book.items i (item.Form form) at)) (without_value p.state form (drop (i + 1) c.book.items) c.book.finish e a why means proper has other)

      -- a mark is written at once
      module _ (m : Mark) (at : slice_get c.book.items i ≡ Some (item.Mark m)) where
        abbrev mark : List Entry
        mark = Marked m ∷ []

        mark_onward : (entries : List Entry) → Walk names bounds p.state (drop (i + 1) c.book.items) c.book.finish entries → IsWhole ((s.done ++ mark) ++ entries)
        mark_onward entries w = subst IsWhole (sym (append_assoc s.done mark entries)) (plain_onward (Marked m ∷ entries) (walk_mark m at entries w))

        pub mark_passes : (q : Place) → q.state ≡ p.state → q.waiting ≡ [] → q.counts ≡ p.counts → Grows p.written q.written (told_before last (mark_line names m ∷ [])) → q.stalls ≡ p.stalls → StandsAt (i + 1) q
        mark_passes q same gone n g k =
            more_stands mark (mark_line names m ∷ []) [] refl refl p.state (i + 1) s.can mark_onward q same gone
            (n ∙ (s.counted ∙ sym (counts_marked s.done m)))
            (let m = plain_many in omega (arith, m, length-append s.done mark))
            (still_unrefused s.done m s.answered) g (k ∙ sym (append-nil p.stalls))

        pub mark_front : (now : Option (List ℕ)) (after : List StallSeen) → (n : ℕ) × Grows p.written now (take n (told_before last (mark_line names m ∷ []))) → after ≡ p.stalls → Front now after
        mark_front now after g k = more_front mark (mark_line names m ∷ []) [] refl refl p.state (i + 1) s.can mark_onward now after g (0, k ∙ sym (append-nil p.stalls))

      -- the end, by these last entries
      module _ (r : Option Refusal) (ends : Walk names bounds p.state (drop i c.book.items) c.book.finish (closing r)) where
        whole_told : told last (transcript_lines names (s.done ++ closing r)) ≡ so_far last names s.done ++ told last (closing_lines p.counts r)
        whole_told = told_whole last names s.done (closing r) ∙ ap (λ ls. so_far last names s.done ++ told last ls) (lines_that_close names s.done r ∙ ap (λ k. closing_lines k r) (sym s.counted))

        no_stalls : stalls_in (s.done ++ closing r) ≡ stalls_in s.done
        no_stalls = flat_map-append entry_stalls s.done (closing r) ∙ (ap (λ ss. stalls_in s.done ++ ss) (none_closing r) ∙ append-nil (stalls_in s.done))
          where
            none_closing : (r : Option Refusal) → stalls_in (closing r) ≡ []
            none_closing None = refl
            none_closing (Some r) = refl

        pub closes : (now : Option (List ℕ)) (status : Status) → WritesLines last (closing_lines p.counts r) p.written now → status ≡ closing_status p.counts r → WritesWalk names bounds c.first c.book last c.written now c.stalls p.stalls status
        closes now status g is = (
          s.done ++ closing r,
          plain_onward (closing r) ends,
          grows_is c.written now _ _ (grows-then c.written p.written now _ _ s.written g) (sym whole_told),
          s.stalls ∙ ap (λ ss. c.stalls ++ ss) (sym no_stalls),
          is ∙ (ap (λ k. closing_status k r) s.counted ∙ status_that_closes names s.done s.answered r),
        )

        pub front_closing : (now : Option (List ℕ)) → WritesLinesFront last (closing_lines p.counts r) p.written now → Front now p.stalls
        front_closing now g =
            let bytes = told last (closing_lines p.counts r) in
            let f = kept_front (stalls_in s.done) [] [] (stalls_in (s.done ++ closing r)) 0 (no_stalls ∙ (sym (append-nil (stalls_in s.done)) ∙ sym (append-nil (stalls_in s.done ++ [])))) in (
              s.done ++ closing r,
              plain_onward (closing r) ends,
              front_then c.written p.written now _ (so_far last names s.done) bytes [] (whole_told ∙ ap (λ bs. so_far last names s.done ++ bs) (sym (append-nil bytes))) s.written g,
              (f.0, s.stalls ∙ ap (λ ss. c.stalls ++ ss) (sym (append-nil (stalls_in s.done)) ∙ f.1)),
            )

    -- ---- what comes of the items left
    pub ends_refused : (form : Form) → slice_get c.book.items i ≡ Some (item.Form form) → (fault : EventFault) → event_in names p.state form.tree ≡ Err fault → Walk names bounds p.state (drop i c.book.items) c.book.finish (Refused (refusal_at form (code.Event fault)) ∷ [])
    ends_refused form at fault means =
        subst (λ (xs : List Item). Walk names bounds p.state xs c.book.finish (Refused (refusal_at form (code.Event fault)) ∷ [])) (sym (next_item c.book.items i (item.Form form) at)) (refused p.state form (drop (i + 1) c.book.items) c.book.finish fault means)

    pub ends_whole : length c.book.items ≤ i → Walk names bounds p.state (drop i c.book.items) c.book.finish (closing (refusal_of c.book.finish))
    ends_whole h = subst (λ (xs : List Item). Walk names bounds p.state xs c.book.finish (closing (refusal_of c.book.finish))) (sym (none_left c.book.items i h)) (last_walk names bounds c.book.finish p.state)
