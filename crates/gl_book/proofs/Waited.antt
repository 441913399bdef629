-- The entries of jobs that have waited: their lines, counts and stalls.
use Rattle.std.proofs.Common.{◌≡◌, ◌∙◌, ap, sym, refl, ℕ, suc, ◌+◌, ◌<◌, ◌≤◌, List, [], ◌∷◌, ◌++◌, length, length-append, take, drop, append_assoc, append-nil, false, arith}
use Rattle.std.specs.List.{flat_map, list_any}
use Rattle.std.proofs.Math.Seq.{take-append_seam}
use Rattle.std.proofs.lemmas.List.{take-append-drop}
use Rattle.std.proofs.lemmas.List.Concat.{flat_map-append}
use Rattle.gl_logic.specs.Every.{Every}
use Rattle.gl_logic.specs.WorldSeen.{WorldSeen}
use Rattle.gl_decide.specs.Bounds.{Bounds}
use Rattle.gl_decide.specs.Stalls.{StallSeen}
use Rattle.gl_book.specs.Courses.{IsQuiet, AreBehind, waited, count_waited, phase_lines, counts_after}
use Rattle.gl_book.specs.Entry.{Entry, Answered, Marked, Refused, entry_stalls, stalls_of, stalls_in}
use Rattle.gl_book.specs.Lines.{entry_lines, event_lines, counts_of, is_refusal}
use Rattle.gl_book.specs.Phases.{JobSeen, IsAnsweredBy, AreAnswered}
use Rattle.gl_book.specs.Stops.{counts_with}
use Rattle.gl_book.specs.declared.answer.Answer.{Answer}
use Rattle.gl_book.specs.declared.answer.Answer.TheVariants as answer
use Rattle.gl_book.proofs.Closing.{counts_more, counts_marked, still_answered, still_unrefused}

-- ---- quiet entries
quiet_stall : (x : Entry) → IsQuiet x → entry_stalls x ≡ []
quiet_stall (Answered e answer.Done) q = refl
quiet_stall (Answered e (answer.Function t)) q = refl
quiet_stall (Answered e (answer.Value x)) q = absurd q
quiet_stall (Answered e (answer.Truth b)) q = absurd q
quiet_stall (Answered e (answer.Undecided c)) q = absurd q
quiet_stall (Answered e (answer.Decided v)) q = absurd q
quiet_stall (Answered e (answer.ByCases v)) q = absurd q
quiet_stall (Marked m) q = refl
quiet_stall (Refused r) q = absurd q

quiet_count : (done : List Entry) (x : Entry) → IsQuiet x → counts_of (done ++ x ∷ []) ≡ counts_of done
quiet_count done (Answered e answer.Done) q = sym (counts_more done e answer.Done)
quiet_count done (Answered e (answer.Function t)) q = sym (counts_more done e (answer.Function t))
quiet_count done (Answered e (answer.Value x)) q = absurd q
quiet_count done (Answered e (answer.Truth b)) q = absurd q
quiet_count done (Answered e (answer.Undecided c)) q = absurd q
quiet_count done (Answered e (answer.Decided v)) q = absurd q
quiet_count done (Answered e (answer.ByCases v)) q = absurd q
quiet_count done (Marked m) q = counts_marked done m
quiet_count done (Refused r) q = absurd q

quiet_stands : (done : List Entry) (x : Entry) → IsQuiet x → list_any is_refusal done ≡ false → list_any is_refusal (done ++ x ∷ []) ≡ false
quiet_stands done (Answered e a) q h = still_answered done e a h
quiet_stands done (Marked m) q h = still_unrefused done m h
quiet_stands done (Refused r) q h = absurd q

pub quiet_counts : (es done : List Entry) → Every IsQuiet es → counts_of (done ++ es) ≡ counts_of done
quiet_counts [] done q = ap counts_of (append-nil done)
quiet_counts (x ∷ es) done q = ap counts_of (sym (append_assoc done (x ∷ []) es)) ∙ (quiet_counts es (done ++ x ∷ []) q.1 ∙ quiet_count done x q.0)

pub quiet_all_stand : (es done : List Entry) → Every IsQuiet es → list_any is_refusal done ≡ false → list_any is_refusal (done ++ es) ≡ false
quiet_all_stand [] done q h = ap (list_any is_refusal) (append-nil done) ∙ h
quiet_all_stand (x ∷ es) done q h = ap (list_any is_refusal) (sym (append_assoc done (x ∷ []) es)) ∙ quiet_all_stand es (done ++ x ∷ []) q.1 (quiet_stands done x q.0 h)

pub quiet_stalls : (es : List Entry) → Every IsQuiet es → stalls_in es ≡ []
quiet_stalls [] q = refl
quiet_stalls (x ∷ es) q = ap (λ ss. ss ++ stalls_in es) (quiet_stall x q.0) ∙ quiet_stalls es q.1

pub quiet_push : (es : List Entry) (x : Entry) → Every IsQuiet es → IsQuiet x → Every IsQuiet (es ++ x ∷ [])
quiet_push [] x q h = (h, tt)
quiet_push (y ∷ es) x q h = (q.0, quiet_push es x q.1 h)

-- ---- jobs with their answers
module _ (names : List (List ℕ)) (bounds : Bounds) (w : WorldSeen) where
  pub waited_lines : (js : List JobSeen) (ess : List (List Entry)) (given : List Answer) → AreBehind names js ess → AreAnswered bounds w js given → flat_map (entry_lines names) (waited js ess given) ≡ phase_lines names js given
  waited_lines [] [] [] b h = refl
  waited_lines (j ∷ js) (es ∷ ess) (a ∷ given) b h =
      let head = event_lines names j.event a in
      let rest = flat_map (entry_lines names) (waited js ess given) in
      ap (λ ls. head ++ ls) (flat_map-append (entry_lines names) es (waited js ess given))
      ∙ (ap (λ ls. head ++ (ls ++ rest)) (sym b.0) ∙ (sym (append_assoc head j.behind rest) ∙ ap (λ ls. (head ++ j.behind) ++ ls) (waited_lines js ess given b.2 h.1)))
  waited_lines [] [] (a ∷ given) b h = absurd h
  waited_lines (j ∷ js) (es ∷ ess) [] b h = absurd h
  waited_lines [] (es ∷ ess) given b h = absurd b
  waited_lines (j ∷ js) [] given b h = absurd b

  pub waited_stalls : (js : List JobSeen) (ess : List (List Entry)) (given : List Answer) → AreBehind names js ess → AreAnswered bounds w js given → stalls_in (waited js ess given) ≡ flat_map stalls_of given
  waited_stalls [] [] [] b h = refl
  waited_stalls (j ∷ js) (es ∷ ess) (a ∷ given) b h =
      let rest = stalls_in (waited js ess given) in
      ap (λ ss. stalls_of a ++ ss) (flat_map-append entry_stalls es (waited js ess given))
      ∙ (ap (λ ss. stalls_of a ++ (ss ++ rest)) (quiet_stalls es b.1) ∙ ap (λ ss. stalls_of a ++ ss) (waited_stalls js ess given b.2 h.1))
  waited_stalls [] [] (a ∷ given) b h = absurd h
  waited_stalls (j ∷ js) (es ∷ ess) [] b h = absurd h
  waited_stalls [] (es ∷ ess) given b h = absurd b
  waited_stalls (j ∷ js) [] given b h = absurd b

  -- one job and those behind it, and then the others
  regroup : (done : List Entry) (x : Entry) (es rest : List Entry) → done ++ (x ∷ (es ++ rest)) ≡ ((done ++ x ∷ []) ++ es) ++ rest
  regroup done x es rest = sym (append_assoc done (x ∷ []) (es ++ rest)) ∙ sym (append_assoc (done ++ x ∷ []) es rest)

  pub waited_counts : (js : List JobSeen) (ess : List (List Entry)) (given : List Answer) (done : List Entry) → AreBehind names js ess → AreAnswered bounds w js given → counts_after (counts_of done) given ≡ counts_of (done ++ waited js ess given)
  waited_counts [] [] [] done b h = ap counts_of (sym (append-nil done))
  waited_counts (j ∷ js) (es ∷ ess) (a ∷ given) done b h =
      let x = Answered j.event a in
      let next = (done ++ x ∷ []) ++ es in
      let e : counts_with (counts_of done) a ≡ counts_of next = counts_more done j.event a ∙ sym (quiet_counts es (done ++ x ∷ []) b.1) in
      ap (λ c. counts_after c given) e ∙ (waited_counts js ess given next b.2 h.1 ∙ ap counts_of (sym (regroup done x es (waited js ess given))))
  waited_counts [] [] (a ∷ given) done b h = absurd h
  waited_counts (j ∷ js) (es ∷ ess) [] done b h = absurd h
  waited_counts [] (es ∷ ess) given done b h = absurd b
  waited_counts (j ∷ js) [] given done b h = absurd b

  pub waited_stand : (js : List JobSeen) (ess : List (List Entry)) (given : List Answer) (done : List Entry) → AreBehind names js ess → AreAnswered bounds w js given → list_any is_refusal done ≡ false → list_any is_refusal (done ++ waited js ess given) ≡ false
  waited_stand [] [] [] done b h n = ap (list_any is_refusal) (append-nil done) ∙ n
  waited_stand (j ∷ js) (es ∷ ess) (a ∷ given) done b h n =
      let x = Answered j.event a in
      let next = (done ++ x ∷ []) ++ es in
      ap (list_any is_refusal) (regroup done x es (waited js ess given)) ∙ waited_stand js ess given next b.2 h.1 (quiet_all_stand es (done ++ x ∷ []) b.1 (still_answered done j.event a n))
  waited_stand [] [] (a ∷ given) done b h n = absurd h
  waited_stand (j ∷ js) (es ∷ ess) [] done b h n = absurd h
  waited_stand [] (es ∷ ess) given done b h n = absurd b
  waited_stand (j ∷ js) [] given done b h n = absurd b

  pub waited_count : (js : List JobSeen) (ess : List (List Entry)) (given : List Answer) → AreBehind names js ess → AreAnswered bounds w js given → length (waited js ess given) ≡ count_waited ess
  waited_count [] [] [] b h = refl
  waited_count (j ∷ js) (es ∷ ess) (a ∷ given) b h = let r = waited_count js ess given b.2 h.1 in omega (arith, r, length-append es (waited js ess given))
  waited_count [] [] (a ∷ given) b h = absurd h
  waited_count (j ∷ js) (es ∷ ess) [] b h = absurd h
  waited_count [] (es ∷ ess) given b h = absurd b
  waited_count (j ∷ js) [] given b h = absurd b

  pub as_many : (js : List JobSeen) (given : List Answer) → AreAnswered bounds w js given → length given ≡ length js
  as_many [] [] h = refl
  as_many (j ∷ js) (a ∷ given) h = ap suc (as_many js given h.1)
  as_many [] (a ∷ given) h = absurd h
  as_many (j ∷ js) [] h = absurd h

  pub none_behind : (ess : List (List Entry)) → AreBehind names [] ess → ess ≡ []
  none_behind [] b = refl
  none_behind (es ∷ ess) b = absurd b

  pub few_jobs : (js : List JobSeen) (ess : List (List Entry)) → AreBehind names js ess → length js ≤ count_waited ess
  few_jobs [] [] b = omega arith
  few_jobs (j ∷ js) (es ∷ ess) b = let r = few_jobs js ess b.2 in omega (arith, r)
  few_jobs [] (es ∷ ess) b = absurd b
  few_jobs (j ∷ js) [] b = absurd b

  -- ---- one job more
  pub behind_push : (js : List JobSeen) (ess : List (List Entry)) (j : JobSeen) → AreBehind names js ess → j.behind ≡ [] → AreBehind names (js ++ j ∷ []) (ess ++ [] ∷ [])
  behind_push [] [] j b e = (e, tt, tt)
  behind_push (k ∷ js) (es ∷ ess) j b e = (b.0, b.1, behind_push js ess j b.2 e)
  behind_push [] (es ∷ ess) j b e = absurd b
  behind_push (k ∷ js) [] j b e = absurd b

  pub count_push : (ess : List (List Entry)) → count_waited (ess ++ [] ∷ []) ≡ count_waited ess + 1
  count_push [] = refl
  count_push (es ∷ ess) = let r = count_push ess in omega (arith, r)

  -- the answers of the jobs so far, and that of the last
  pub record LastAnswered (js : List JobSeen) (j : JobSeen) (given : List Answer) : Type 0 where
    pub before : List Answer
    pub last : Answer
    pub is : given ≡ before ++ last ∷ []
    pub proper : AreAnswered bounds w js before
    pub proper_last : IsAnsweredBy bounds w j last

  pub last_answered : (js : List JobSeen) (j : JobSeen) (given : List Answer) → AreAnswered bounds w (js ++ j ∷ []) given → LastAnswered js j given
  last_answered [] j (a ∷ []) h = record { before = []; last = a; is = refl; proper = tt; proper_last = h.0 }
  last_answered [] j [] h = absurd h
  last_answered [] j (a ∷ b ∷ given) h = absurd h.1
  last_answered (k ∷ js) j (a ∷ given) h =
      let r = last_answered js j given h.1 in
      record { before = a ∷ r.before; last = r.last; is = ap (λ bs. a ∷ bs) r.is; proper = (h.0, r.proper); proper_last = r.proper_last }
  last_answered (k ∷ js) j [] h = absurd h

  pub waited_push : (js : List JobSeen) (ess : List (List Entry)) (j : JobSeen) (given : List Answer) (a : Answer) (entries : List Entry) → AreBehind names js ess → AreAnswered bounds w js given
      → waited js ess given ++ (Answered j.event a ∷ entries) ≡ waited (js ++ j ∷ []) (ess ++ [] ∷ []) (given ++ a ∷ []) ++ entries
  waited_push [] [] j [] a entries b h = refl
  waited_push (k ∷ js) (es ∷ ess) j (c ∷ given) a entries b h =
      ap (λ zs. Answered k.event c ∷ zs)
      (append_assoc es (waited js ess given) (Answered j.event a ∷ entries)
      ∙ (ap (λ zs. es ++ zs) (waited_push js ess j given a entries b.2 h.1) ∙ sym (append_assoc es (waited (js ++ j ∷ []) (ess ++ [] ∷ []) (given ++ a ∷ [])) entries)))
  waited_push [] [] j (c ∷ given) a entries b h = absurd h
  waited_push (k ∷ js) (es ∷ ess) j [] a entries b h = absurd h
  waited_push [] (es ∷ ess) j given a entries b h = absurd b
  waited_push (k ∷ js) [] j given a entries b h = absurd b

  -- ---- one entry more behind the last job
  pub record HasLast (js : List JobSeen) (ess : List (List Entry)) : Type 0 where
    pub before : List JobSeen
    pub last : JobSeen
    pub entries : List (List Entry)
    pub behind : List Entry
    pub jobs_are : js ≡ before ++ last ∷ []
    pub entries_are : ess ≡ entries ++ behind ∷ []

  pub has_last : (js : List JobSeen) (ess : List (List Entry)) → 0 < length js → AreBehind names js ess → HasLast js ess
  has_last [] ess n b = absurd (omega (arith, n))
  has_last (j ∷ []) (es ∷ []) n b = record { before = []; last = j; entries = []; behind = es; jobs_are = refl; entries_are = refl }
  has_last (j ∷ []) (es ∷ fs ∷ ess) n b = absurd b.2
  has_last (j ∷ []) [] n b = absurd b
  has_last (j ∷ k ∷ js) (es ∷ ess) n b =
      let r = has_last (k ∷ js) ess (omega arith) b.2 in
      record { before = j ∷ r.before; last = r.last; entries = es ∷ r.entries; behind = r.behind; jobs_are = ap (λ is. j ∷ is) r.jobs_are; entries_are = ap (λ fs. es ∷ fs) r.entries_are }
  has_last (j ∷ k ∷ js) [] n b = absurd b

  abbrev pub with_lines : JobSeen → List (List ℕ) → JobSeen
  with_lines j lines = record j { behind = j.behind ++ lines }

  pub behind_more : (js : List JobSeen) (j : JobSeen) (ess : List (List Entry)) (es : List Entry) (x : Entry) → IsQuiet x → AreBehind names (js ++ j ∷ []) (ess ++ es ∷ [])
      → AreBehind names (js ++ with_lines j (entry_lines names x) ∷ []) (ess ++ (es ++ x ∷ []) ∷ [])
  behind_more [] j [] es x q b =
      ((λ i. b.0 i ++ entry_lines names x) ∙ (ap (λ ls. flat_map (entry_lines names) es ++ ls) (sym (append-nil (entry_lines names x))) ∙ sym (flat_map-append (entry_lines names) es (x ∷ []))), quiet_push es x b.1 q, tt)
  behind_more (k ∷ js) j (fs ∷ ess) es x q b = (b.0, b.1, behind_more js j ess es x q b.2)
  behind_more [] j (fs ∷ ess) es x q b = absurd (no_more ess b.2)
    where
      no_more : (ess : List (List Entry)) → AreBehind names [] (ess ++ es ∷ []) → ⊥
      no_more [] b = b
      no_more (gs ∷ ess) b = b
  behind_more (k ∷ js) j [] es x q b = absurd (no_less js b.2)
    where
      no_less : (js : List JobSeen) → AreBehind names (js ++ j ∷ []) [] → ⊥
      no_less [] b = b
      no_less (i ∷ js) b = b

  pub count_more : (ess : List (List Entry)) (es : List Entry) (x : Entry) → count_waited (ess ++ (es ++ x ∷ []) ∷ []) ≡ count_waited (ess ++ es ∷ []) + 1
  count_more [] es x = omega (arith, length-append es (x ∷ []))
  count_more (fs ∷ ess) es x = let r = count_more ess es x in omega (arith, r)

  pub answered_without : (js : List JobSeen) (j : JobSeen) (lines : List (List ℕ)) (given : List Answer) → AreAnswered bounds w (js ++ with_lines j lines ∷ []) given → AreAnswered bounds w (js ++ j ∷ []) given
  answered_without [] j lines (a ∷ []) h = h
  answered_without [] j lines [] h = absurd h
  answered_without [] j lines (a ∷ b ∷ given) h = absurd h.1
  answered_without (k ∷ js) j lines (a ∷ given) h = (h.0, answered_without js j lines given h.1)
  answered_without (k ∷ js) j lines [] h = absurd h

  pub waited_more : (js : List JobSeen) (j : JobSeen) (lines : List (List ℕ)) (ess : List (List Entry)) (es : List Entry) (given : List Answer) (x : Entry) (entries : List Entry) → AreBehind names (js ++ j ∷ []) (ess ++ es ∷ []) → AreAnswered bounds w (js ++ j ∷ []) given
      → waited (js ++ j ∷ []) (ess ++ es ∷ []) given ++ (x ∷ entries) ≡ waited (js ++ with_lines j lines ∷ []) (ess ++ (es ++ x ∷ []) ∷ []) given ++ entries
  waited_more [] j lines [] es (a ∷ []) x entries b h =
      ap (λ zs. Answered j.event a ∷ zs)
      (append_assoc es [] (x ∷ entries) ∙ sym (ap (λ zs. zs ++ entries) (append-nil (es ++ x ∷ [])) ∙ append_assoc es (x ∷ []) entries))
  waited_more [] j lines [] es [] x entries b h = absurd h
  waited_more [] j lines [] es (a ∷ c ∷ given) x entries b h = absurd h.1
  waited_more (k ∷ js) j lines (fs ∷ ess) es (a ∷ given) x entries b h =
      let front = waited (js ++ j ∷ []) (ess ++ es ∷ []) given in
      let later = waited (js ++ with_lines j lines ∷ []) (ess ++ (es ++ x ∷ []) ∷ []) given in
      ap (λ zs. Answered k.event a ∷ zs) (append_assoc fs front (x ∷ entries) ∙ (ap (λ zs. fs ++ zs) (waited_more js j lines ess es given x entries b.2 h.1) ∙ sym (append_assoc fs later entries)))
  waited_more (k ∷ js) j lines (fs ∷ ess) es [] x entries b h = absurd h
  waited_more [] j lines (fs ∷ []) es given x entries b h = absurd b.2
  waited_more [] j lines (fs ∷ gs ∷ ess) es given x entries b h = absurd b.2
  waited_more (k ∷ []) j lines [] es given x entries b h = absurd b.2
  waited_more (k ∷ l ∷ js) j lines [] es given x entries b h = absurd b.2

-- ---- fronts of stalls
pub stall_front : (before whole front tail : List StallSeen) (m : ℕ) → whole ≡ front ++ tail → (k : ℕ) × (before ++ take m front ≡ before ++ take k whole)
stall_front before whole front tail m is =
    let xs = take m front in
    let apart : whole ≡ xs ++ (drop m front ++ tail) = is ∙ (ap (λ zs. zs ++ tail) (sym (take-append-drop m front)) ∙ append_assoc xs (drop m front) tail) in
    (length xs, ap (λ zs. before ++ zs) (sym (ap (take (length xs)) apart ∙ take-append_seam xs (drop m front ++ tail))))
