-- From one place of a walk to the next, by what the walk's functions did.
use Rattle.std.proofs.Common.{◌≡◌, ◌≢◌, sym, refl, subst, ℕ, zero, suc, ◌+◌, ◌<◌, ◌≤◌, List, [], ◌∷◌, ◌++◌, length, take, Bool, true, false, Option, Some, None, Ok, Err, arith}
use Rattle.gl_logic.specs.Object.{nil}
use Rattle.gl_base.specs.Outside.{Grows}
use Rattle.sexp_reader.specs.declared.list.Form.{Form}
use Rattle.book_shelf.specs.declared.item.Item.{Item}
use Rattle.book_shelf.specs.declared.item.Item.TheVariants as item
use Rattle.book_shelf.specs.declared.item.Mark.{Mark}
use Rattle.book_shelf.specs.declared.library.Library.{Library}
use Rattle.event_world.specs.declared.fault.EventFault.{EventFault}
use Rattle.event_world.specs.EventSeen.{EventSeen}
use Rattle.event_world.specs.NextState.{BookState, next_state}
use Rattle.gl_decide.specs.Bounds.{Bounds}
use Rattle.gl_decide.specs.Stalls.{StallSeen}
use Rattle.gl_book.specs.Answers.{IsProperAnswer}
use Rattle.book_state.specs.Answerable.{IsAnswerable}
use Rattle.gl_book.specs.Courses.{EndsPhase, EndsPhaseByFront, Follows, HasRoomFor, Leads, LeadsPast, LeadsPastToFront, LeadsToFront, Place, Stands, Waits, course_from, place_at, counts_after}
use Rattle.gl_book.specs.Lines.{counts_of, event_lines, mark_line}
use Rattle.gl_book.specs.Entry.{stalls_of}
use Rattle.gl_book.specs.Phases.{JobSeen, IsFollowed, ends_phase, jobs_of, new_job}
use Rattle.book_state.specs.States.{is_job, state_noted}
use Rattle.gl_book.specs.Stops.{counts_with, told_before}
use Rattle.gl_book.specs.Walk.{refusal_at, refused_cause, state_after}
use Rattle.book_state.specs.States.{CanGoOn, event_in}
use Rattle.gl_book.specs.declared.answer.Answer.{Answer}
use Rattle.gl_book.specs.declared.answer.Cause.{Cause}
use Rattle.gl_book.specs.declared.answer.Cause.TheVariants as cause
use Rattle.gl_book.specs.declared.counts.Counts.{Counts}
use Rattle.gl_book.specs.declared.progress.Progress.{Progress}
use Rattle.gl_book.specs.declared.refusal.Refusal.{Refusal}
use Rattle.gl_book.specs.declared.refusal.RefusalCode.TheVariants as code
use Rattle.gl_book.proofs.Crosses.{begins, ends_refused, ends_without, follows, front_here, front_next, goes_on, mark_follows, mark_front, mark_passes, phase_front, phase_stands, waits}
use Rattle.gl_book.proofs.Puts.{room_for_next}
use Rattle.gl_book.proofs.Waited.{as_many}
use Rattle.gl_book.proofs.Staying.{job_ends_none}

-- ---- room
pub room_after_all : (n k : ℕ) (counts : Counts) (given : List Answer) → length given ≡ n → HasRoomFor (n + k) counts → HasRoomFor k (counts_after counts given)
room_after_all n k counts [] e h = let z : n + k ≡ k = omega (arith, e) in subst (λ (m : ℕ). HasRoomFor m counts) z h
room_after_all zero k counts (a ∷ given) e h = absurd (omega (arith, e))
room_after_all (suc n) k counts (a ∷ given) e h = room_after_all n k (counts_with counts a) given (omega (arith, e)) (room_for_next (n + k) counts a (let z : suc n + k ≡ suc (n + k) = omega arith in subst (λ (m : ℕ). HasRoomFor m counts) z h))

pub room_fewer : (n m : ℕ) (counts : Counts) → m ≤ n → HasRoomFor n counts → HasRoomFor m counts
room_fewer n m counts l h = record {
  proved = let k = h.proved in omega (arith, k, l);
  vacuous = let k = h.vacuous in omega (arith, k, l);
  refuted = let k = h.refuted in omega (arith, k, l);
  undecided = let k = h.undecided in omega (arith, k, l);
  failed = let k = h.failed in omega (arith, k, l);
}

pub none_waits : (js : List JobSeen) → length js ≡ 0 → js ≡ []
none_waits [] e = refl
none_waits (j ∷ js) e = absurd (omega (arith, e))

module _ (names : List (List ℕ)) (bounds : Bounds) (last : Bool) where
  -- ---- the first place
  pub begins_at : (book : Library) (p : Place) → CanGoOn p.state → p.counts ≡ counts_of [] → p.waiting ≡ [] → Stands names bounds last (course_from book p) 0 p
  begins_at book p can uncounted none =
      let course = course_from book p in
      subst (λ (n : Counts). Stands names bounds last course 0 (record { state = p.state; counts = n; waiting = p.waiting; written = p.written; stalls = p.stalls })) (sym uncounted)
      (subst (λ (js : List JobSeen). Stands names bounds last course 0 (record { state = p.state; counts = counts_of []; waiting = js; written = p.written; stalls = p.stalls })) (sym none) (begins names bounds last course can))

  -- ---- one after the other
  pub then_past : (x : Item) (p q : Place) (r : Option Refusal) (t : Place) → Leads names bounds last p q → LeadsPast names bounds last x q r t → LeadsPast names bounds last x p r t
  then_past x p q None t h k = λ c i at s. k c i at (h c i s)
  then_past x p q (Some r) t h k = λ c i at s. k c i at (h c i s)

  pub then_front : (x : Item) (p q : Place) (now : Option (List ℕ)) (after : List StallSeen) → Leads names bounds last p q → LeadsPastToFront names bounds last x q now after → LeadsPastToFront names bounds last x p now after
  then_front x p q now after h k = λ c i at s. k c i at (h c i s)

  pub front_past : (x : Item) (p : Place) (now : Option (List ℕ)) (after : List StallSeen) → LeadsToFront names bounds last p now after → LeadsPastToFront names bounds last x p now after
  front_past x p now after h = λ c i at s. h c i s

  -- nothing is written and no stall is kept
  pub nothing_past : (x : Item) (p : Place) → LeadsPastToFront names bounds last x p p.written p.stalls
  nothing_past x p = λ c i at s. front_here names bounds last c i p s p.written p.stalls refl refl

  -- ---- the end of a phase
  module _ (old : Progress) (written now : Option (List ℕ)) (stalls after : List StallSeen) where
    pub phase_leads : (new : Progress) → EndsPhase names bounds last old written stalls new now after → Leads names bounds last (place_at old written stalls) (place_at new now after)
    phase_leads new e = λ c i s. phase_stands names bounds last c i (place_at old written stalls) s e.answers e.proper (place_at new now after) e.state e.none e.writes e.keeps e.counts

    pub phase_leads_front : EndsPhaseByFront names bounds last old written stalls now after → LeadsToFront names bounds last (place_at old written stalls) now after
    phase_leads_front e = λ c i s. phase_front names bounds last c i (place_at old written stalls) s e.answers e.proper now after e.writes e.keeps

    pub phase_room : (new : Progress) (k : ℕ) → EndsPhase names bounds last old written stalls new now after → HasRoomFor (length (jobs_of old.waiting) + k) old.counts → HasRoomFor k new.counts
    phase_room new k e h = subst (HasRoomFor k) (sym e.counts) (room_after_all (length (jobs_of old.waiting)) k old.counts e.answers (as_many names bounds old.state.world (jobs_of old.waiting) e.answers e.proper) h)

  -- ---- a form that means an event
  module _ (form : Form) (e : EventSeen) (old : Progress) (means : event_in names old.state form.tree ≡ Ok e) (written : Option (List ℕ)) (stalls : List StallSeen) where
    abbrev here : Place
    here = place_at old written stalls

    abbrev state : BookState
    state = old.state

    pub waits_past : (new : Progress) → is_job e ≡ true → IsAnswerable state.world.definitions state.memoized e → Waits form.tree e old new → LeadsPast names bounds last (item.Form form) here None (place_at new written stalls)
    waits_past new job can w = λ c i at s.
        let k = waits names bounds last c i here s form at e means (job_ends_none e job) job can in
        subst (λ (st : BookState). Stands names bounds last c (i + 1) (record { state = st; counts = new.counts; waiting = jobs_of new.waiting; written = written; stalls = stalls })) (sym w.state)
        (subst (λ (js : List JobSeen). Stands names bounds last c (i + 1) (record { state = state_noted state form.tree e; counts = new.counts; waiting = js; written = written; stalls = stalls })) (sym w.waiting)
        (subst (λ (n : Counts). Stands names bounds last c (i + 1) (record { state = state_noted state form.tree e; counts = n; waiting = jobs_of old.waiting ++ new_job e state.memoized ∷ []; written = written; stalls = stalls })) (sym w.counts) k))

    pub follows_past : (new : Progress) → ends_phase e ≡ false → is_job e ≡ false → 0 < length (jobs_of old.waiting) → Follows names bounds form.tree e old new → LeadsPast names bounds last (item.Form form) here None (place_at new written stalls)
    follows_past new stays other some f = λ c i at s.
        let k = follows names bounds last c i here s form at e means stays other some f.put.answer f.put.proper (jobs_of new.waiting) f.put.behind in
        subst (λ (st : BookState). Stands names bounds last c (i + 1) (record { state = st; counts = new.counts; waiting = jobs_of new.waiting; written = written; stalls = stalls })) (sym f.state)
        (subst (λ (n : Counts). Stands names bounds last c (i + 1) (record { state = next_state state form.tree e nil; counts = n; waiting = jobs_of new.waiting; written = written; stalls = stalls })) (sym f.counts) k)

    -- ---- answered at once
    module _ (none : jobs_of old.waiting ≡ []) (a : Answer) (proper : IsProperAnswer bounds state.world state.memoized e a) where
      pub goes_past : (new : Progress) (now : Option (List ℕ)) (after : List StallSeen) → refused_cause e a ≡ None → new.state ≡ state_after state form.tree e a → jobs_of new.waiting ≡ [] → new.counts ≡ counts_with old.counts a
          → Grows written now (told_before last (event_lines names e a)) → after ≡ stalls ++ stalls_of a → LeadsPast names bounds last (item.Form form) here None (place_at new now after)
      goes_past new now after valued is gone counted g k = λ c i at s. goes_on names bounds last c i here s none form at e a means proper valued (place_at new now after) is gone counted g k

      pub goes_past_front : (now : Option (List ℕ)) (after : List StallSeen) → refused_cause e a ≡ None → (n : ℕ) × Grows written now (take n (told_before last (event_lines names e a))) → (m : ℕ) × (after ≡ stalls ++ take m (stalls_of a)) → LeadsPastToFront names bounds last (item.Form form) here now after
      goes_past_front now after valued g k = λ c i at s. front_next names bounds last c i here s none form at e a means proper valued now after g k

      pub refused_past : (why : Cause) → refused_cause e a ≡ Some why → why ≢ cause.Memory → LeadsPast names bounds last (item.Form form) here (Some (refusal_at form (code.Constant why))) here
      refused_past why has other = λ c i at s. record { stands = s; none = none; ends = ends_without names bounds last c i here s none form at e a means proper why has other }

  -- ---- a mark
  module _ (m : Mark) (old : Progress) (written : Option (List ℕ)) (stalls : List StallSeen) where
    -- written at once
    pub marks_past : jobs_of old.waiting ≡ [] → (now : Option (List ℕ)) → Grows written now (told_before last (mark_line names m ∷ [])) → LeadsPast names bounds last (item.Mark m) (place_at old written stalls) None (place_at old now stalls)
    marks_past none now g = λ c i at s. mark_passes names bounds last c i (place_at old written stalls) s none m at (place_at old now stalls) refl none refl g refl

    pub marks_past_front : jobs_of old.waiting ≡ [] → (now : Option (List ℕ)) → (n : ℕ) × Grows written now (take n (told_before last (mark_line names m ∷ []))) → LeadsPastToFront names bounds last (item.Mark m) (place_at old written stalls) now stalls
    marks_past_front none now g = λ c i at s. mark_front names bounds last c i (place_at old written stalls) s none m at now stalls g refl

    -- or behind the last job
    pub marks_behind : 0 < length (jobs_of old.waiting) → (new : Progress) → IsFollowed (jobs_of old.waiting) (mark_line names m ∷ []) (jobs_of new.waiting) → new.state ≡ old.state → new.counts ≡ old.counts → LeadsPast names bounds last (item.Mark m) (place_at old written stalls) None (place_at new written stalls)
    marks_behind some new f still same = λ c i at s.
        let k = mark_follows names bounds last c i (place_at old written stalls) s m at some (jobs_of new.waiting) f in
        subst (λ (st : BookState). Stands names bounds last c (i + 1) (record { state = st; counts = new.counts; waiting = jobs_of new.waiting; written = written; stalls = stalls })) (sym still)
        (subst (λ (n : Counts). Stands names bounds last c (i + 1) (record { state = old.state; counts = n; waiting = jobs_of new.waiting; written = written; stalls = stalls })) (sym same) k)

  -- ---- a form that means none
  pub fault_past : (form : Form) (fault : EventFault) (old : BookState) → event_in names old form.tree ≡ Err fault → (p q : Place) → q.state ≡ old → q.waiting ≡ [] → Leads names bounds last p q → LeadsPast names bounds last (item.Form form) p (Some (refusal_at form (code.Event fault))) q
  fault_past form fault old means p q is none h = λ c i at s.
      let t = h c i s in
      record { stands = t; none = none; ends = ends_refused names bounds last c i q t form at fault (subst (λ (st : BookState). event_in names st form.tree ≡ Err fault) (sym is) means) }
