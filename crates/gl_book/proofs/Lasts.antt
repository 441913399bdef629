-- The walk to the last theorem of a book, one form after another.
use Rattle.std.proofs.Common.{◌≡◌, ◌∙◌, ap, sym, refl, subst, ℕ, ◌+◌, ◌≤◌, inl, inr, List, [], ◌∷◌, ◌++◌, length, length-append, map, take, drop, append_assoc, append-nil, Bool, true, false, Option, Some, None, slice_get, option_map, arith}
use Rattle.std.specs.Prelude.{◌||◌}
use Rattle.std.specs.List.{list_any}
use Rattle.std.proofs.lemmas.List.{drop_all, length-map}
use Rattle.std.proofs.lemmas.List.Folds.{list_any-append}
use Rattle.std.proofs.lemmas.Option.{slice_get-map}
use Rattle.gl_logic.specs.Extents.{world_cut}
use Rattle.gl_logic.specs.WorldSeen.{WorldSeen, IsWorld}
use Rattle.gl_logic.specs.declared.world.Extent.{Extent}
use Rattle.sexp_reader.specs.declared.list.Form.{Form}
use Rattle.sexp_reader.specs.declared.ends.End.{End}
use Rattle.sexp_reader.specs.declared.ends.End.TheVariants as ends
use Rattle.sexp_reader.specs.declared.ends.ReadCode.{ReadCode}
use Rattle.sexp_reader.specs.Book.{IsBeyond}
use Rattle.book_shelf.specs.declared.finish.Finish.{Finish}
use Rattle.book_shelf.specs.declared.finish.Finish.TheVariants as finish
use Rattle.book_shelf.specs.declared.finish.ShelfCode.{ShelfCode}
use Rattle.book_shelf.specs.declared.item.Item.{Item}
use Rattle.book_shelf.specs.declared.item.Item.TheVariants as item
use Rattle.book_shelf.specs.Listed.{finish_of}
use Rattle.book_shelf.specs.Flat.{most_bytes}
use Rattle.event_world.specs.EventSeen.{EventSeen, Theorem}
use Rattle.event_world.specs.NextState.{BookState}
use Rattle.event_world.specs.Seen.{theorem_seen}
use Rattle.event_world.proofs.Fronts.{IsFront, IsFrontList, whole, front_next}
use Rattle.gl_decide.specs.Bounds.{Bounds}
use Rattle.book_state.specs.Answerable.{IsReadyTheorem}
use Rattle.gl_book.specs.Entry.{Entry, Answered, Refused}
use Rattle.gl_book.specs.Lines.{is_refusal}
use Rattle.gl_book.specs.Lasts.{HasNone, IsLastOf, is_refused, is_theorem, is_theorem_event, state_behind, state_by}
use Rattle.gl_book.specs.LastSteps.{IsExtentOf, IsKeptAt, IsRefusedForm, IsTaken, IsWalkedTo, Takes}
use Rattle.gl_book.specs.Transcript.{long, long_refusal, short}
use Rattle.book_state.specs.Reading.{IsReadBy}
use Rattle.gl_book.specs.Walk.{Walk, ended, bad, marked, refused, without_value, event, state_after, value_in}
use Rattle.book_state.specs.States.{CanGoOn, IsFirstState}
use Rattle.gl_book.specs.declared.answer.Answer.{Answer}
use Rattle.gl_book.specs.declared.last_step.Kept.{Kept}
use Rattle.gl_book.specs.declared.last_step.Step.TheVariants as step
use Rattle.gl_book.proofs.Crosses.{next_item}
use Rattle.gl_book.proofs.GoOn.{after_event}
use Rattle.gl_book.proofs.Onward.{some_walk}

-- ---- lists
next_form : (forms : List Form) (i : ℕ) (form : Form) → slice_get forms i ≡ Some form → drop i (map item.Form forms) ≡ item.Form form ∷ drop (i + 1) (map item.Form forms)
next_form forms i form at = next_item (map item.Form forms) i (item.Form form) (slice_get-map item.Form forms i ∙ ap (option_map item.Form) at)

-- a list that ends with an element, behind a split of those before it
split_more : {A : Type 0} (before behind : List A) (x y : A) → (before ++ x ∷ behind) ++ y ∷ [] ≡ before ++ x ∷ (behind ++ y ∷ [])
split_more before behind x y = append_assoc before (x ∷ behind) (y ∷ [])

any_more : (p : Entry → Bool) (done : List Entry) (x : Entry) → list_any p done ≡ false → p x ≡ false → list_any p (done ++ x ∷ []) ≡ false
any_more p done x h k = list_any-append p done (x ∷ []) ∙ (ap (λ b. b || (p x || false)) h ∙ ap (λ b. b || false) k)

-- ---- states
-- one entry more
state_more : (s : BookState) (forms : List Form) (done : List Entry) (form : Form) (x : Entry) → slice_get forms (length done) ≡ Some form → state_behind s forms (done ++ x ∷ []) ≡ state_by (state_behind s forms done) form x
state_more s [] done form x at = absurd cc
state_more s (f ∷ forms) [] form x at = let same : f ≡ form = cc in last_state forms same
  where
    last_state : (forms : List Form) → f ≡ form → state_behind (state_by s f x) forms [] ≡ state_by s form x
    last_state [] e = ap (λ g. state_by s g x) e
    last_state (g ∷ gs) e = ap (λ g. state_by s g x) e
state_more s (f ∷ forms) (d ∷ done) form x at = state_more (state_by s f d) forms done form x at

-- ---- worlds
cut_list : {A : Type 0} (xs ys : List A) (n : ℕ) → n ≡ length xs → IsFrontList xs ys → take n ys ≡ xs
cut_list xs ys n e f = ap (λ m. take m ys) e ∙ f.same

cut_back : (w v : WorldSeen) (x : Extent) → IsExtentOf w x → IsFront w v → world_cut x v ≡ w
cut_back w v x e f =
    let d = cut_list w.definitions v.definitions x.definitions e.definitions f.definitions in
    let c = cut_list w.cliques v.cliques x.cliques e.cliques f.cliques in
    let k = cut_list w.constants v.constants x.constants e.constants f.constants in
    let n = cut_list w.events v.events x.events e.events f.events in
    λ i. record { definitions = d i; cliques = c i; constants = k i; events = n i }

-- ---- the way
-- the last theorem among the entries so far, at whose place the world was a front of what it is now
pub record IsOnWay (first : BookState) (forms : List Form) (done : List Entry) (now : WorldSeen) (k : Kept) : Type 0 where
  pub before : List Entry
  pub answer : Answer
  pub behind : List Entry
  pub world : WorldSeen
  pub are : done ≡ before ++ Answered (Theorem (theorem_seen k.thm)) answer ∷ behind
  pub last : list_any is_theorem behind ≡ false
  pub at : (state_behind first forms before).world ≡ world
  pub front : IsFront world now
  pub total : IsWorld world.definitions world.cliques
  pub kept : IsKeptAt world k

abbrev pub IsLastKept : BookState → List Form → List Entry → WorldSeen → Option Kept → Type 0
IsLastKept first forms done now None = list_any is_theorem done ≡ false
IsLastKept first forms done now (Some k) = IsOnWay first forms done now k

-- so many forms are taken in, none of them refused: each walk of what is left makes a walk of the whole
pub record HasCome (names : List (List ℕ)) (bounds : Bounds) (first : BookState) (forms : List Form) (end : Finish) (i : ℕ) (s : BookState) (kept : Option Kept) : Type 0 where
  pub done : List Entry
  pub can : CanGoOn s
  pub onward : (entries : List Entry) → Walk names bounds s (drop i (map item.Form forms)) end entries → Walk names bounds first (map item.Form forms) end (done ++ entries)
  pub many : length done ≡ i
  pub answered : is_refused done ≡ false
  pub state : state_behind first forms done ≡ s
  pub last : IsLastKept first forms done s.world kept

module _ (names : List (List ℕ)) (bounds : Bounds) (first : BookState) (forms : List Form) (end : Finish) where
  pub begins : CanGoOn first → HasCome names bounds first forms end 0 first None
  begins h = record { done = []; can = h; onward = λ entries w. w; many = refl; answered = refl; state = begun forms; last = refl }
    where
      begun : (forms : List Form) → state_behind first forms [] ≡ first
      begun [] = refl
      begun (f ∷ fs) = refl

  module _ (i : ℕ) (s t : BookState) (last : Option Kept) (h : HasCome names bounds first forms end i s last) (form : Form) (at : slice_get forms i ≡ Some form) where
    -- a form more, which means an event
    module _ (e : EventSeen) (a : Answer) (k : Takes names bounds form.tree s e a t) where
      abbrev longer : List Entry
      longer = h.done ++ Answered e a ∷ []

      onward_more : (entries : List Entry) → Walk names bounds t (drop (i + 1) (map item.Form forms)) end entries → Walk names bounds first (map item.Form forms) end (longer ++ entries)
      onward_more entries w =
          let rest = drop (i + 1) (map item.Form forms) in
          let there = subst (λ (st : BookState). Walk names bounds st rest end entries) k.state w in
          let next = event s form rest end entries e a k.meant k.proper k.valued there in
          let whole = h.onward (Answered e a ∷ entries) (subst (λ (xs : List Item). Walk names bounds s xs end (Answered e a ∷ entries)) (sym (next_form forms i form at)) next) in
          subst (Walk names bounds first (map item.Form forms) end) (sym (append_assoc h.done (Answered e a ∷ []) entries)) whole

      state_now : state_behind first forms longer ≡ t
      state_now =
          let place : slice_get forms (length h.done) ≡ Some form = ap (slice_get forms) h.many ∙ at in
          state_more first forms h.done form (Answered e a) place ∙ (ap (λ (st : BookState). state_by st form (Answered e a)) h.state ∙ sym k.state)

      stands : (o : Option Kept) → IsLastKept first forms longer t.world o → HasCome names bounds first forms end (i + 1) t o
      stands o l = record {
        done = longer;
        can = subst CanGoOn (sym k.state) (after_event names s form.tree e a h.can k.meant);
        onward = onward_more;
        many = omega (arith, length-append h.done (Answered e a ∷ []), h.many);
        answered = any_more is_refusal h.done (Answered e a) h.answered refl;
        state = state_now;
        last = l;
      }

      -- no theorem
      still : (o : Option Kept) → IsLastKept first forms h.done s.world o → is_theorem_event e ≡ false → IsLastKept first forms longer t.world o
      still None l n = any_more is_theorem h.done (Answered e a) l n
      still (Some kept) l n = record {
        before = l.before;
        answer = l.answer;
        behind = l.behind ++ Answered e a ∷ [];
        world = l.world;
        are = ap (λ (es : List Entry). es ++ Answered e a ∷ []) l.are ∙ split_more l.before l.behind (Answered (Theorem (theorem_seen kept.thm)) l.answer) (Answered e a);
        last = any_more is_theorem l.behind (Answered e a) l.last n;
        at = l.at;
        front = subst (λ (st : BookState). IsFront l.world st.world) (sym k.state) (front_next l.world s.world form.tree e (value_in a) l.front);
        total = l.total;
        kept = l.kept;
      }

      -- a theorem
      newest : (kept : Kept) → e ≡ Theorem (theorem_seen kept.thm) → IsKeptAt s.world kept → IsLastKept first forms longer t.world (Some kept)
      newest kept is there = record {
        before = h.done;
        answer = a;
        behind = [];
        world = s.world;
        are = ap (λ (ev : EventSeen). h.done ++ Answered ev a ∷ []) is;
        last = refl;
        at = ap (λ (st : BookState). st.world) h.state;
        front = subst (λ (st : BookState). IsFront s.world st.world) (sym k.state) (front_next s.world s.world form.tree e (value_in a) (whole s.world));
        total = h.can.total;
        kept = there;
      }

    pub takes_other : IsTaken names bounds form s t step.Other → HasCome names bounds first forms end (i + 1) t last
    takes_other k = stands k.0 k.1 k.2 last (still k.0 k.1 k.2 last h.last k.3)

    pub takes_theorem : (kept : Kept) → IsTaken names bounds form s t (step.Theorem kept) → HasCome names bounds first forms end (i + 1) t (Some kept)
    takes_theorem kept k = stands k.0 k.1 k.2 (Some kept) (newest k.0 k.1 k.2 kept k.3.0 k.3.1)

    -- a form that is refused
    pub refuses : IsRefusedForm names bounds form s → (now : WorldSeen) → IsWalkedTo names bounds first forms end now None
    refuses r now =
        let rest = drop (i + 1) (map item.Form forms) in
        let next = subst (λ (xs : List Item). Walk names bounds s xs end (Refused r.0 ∷ [])) (sym (next_form forms i form at)) (r.1 rest end) in
        (h.done ++ Refused r.0 ∷ [], h.onward (Refused r.0 ∷ []) next, inl (list_any-append is_refusal h.done (Refused r.0 ∷ []) ∙ ap (λ b. b || true) h.answered))

-- all forms are taken in
module _ (names : List (List ℕ)) (bounds : Bounds) (first : BookState) (forms : List Form) where
  module _ (i : ℕ) (s : BookState) (all : length forms ≤ i) where
    walked : (last : Option Kept) (h : HasCome names bounds first forms finish.Clean i s last) → Walk names bounds first (map item.Form forms) finish.Clean (h.done ++ [])
    walked last h = h.onward [] (subst (λ (xs : List Item). Walk names bounds s xs finish.Clean []) (sym (drop_all i (map item.Form forms) (omega (arith, all, length-map forms (λ (f : Form). item.Form f))))) (ended s))

    pub comes_to : (last : Option Kept) → HasCome names bounds first forms finish.Clean i s last → IsWalkedTo names bounds first forms finish.Clean s.world last
    comes_to None h = (h.done, subst (Walk names bounds first (map item.Form forms) finish.Clean) (append-nil h.done) (walked None h), inr h.last)
    comes_to (Some kept) h =
        let l = h.last in (
          h.done,
          subst (Walk names bounds first (map item.Form forms) finish.Clean) (append-nil h.done) (walked (Some kept) h),
          h.answered,
          record {
            before = l.before;
            answer = l.answer;
            behind = l.behind;
            world = l.world;
            are = l.are;
            last = l.last;
            at = l.at;
            cut = cut_back l.world s.world kept.extent l.kept.extent l.front;
            total = l.total;
            ready = l.kept.ready;
          },
        )

-- ---- texts
-- a list that ends with a refusal has one
ends_refused : (names : List (List ℕ)) (bounds : Bounds) (s : BookState) (items : List Item) (line column : ℕ) (fault : ShelfCode) (entries : List Entry) → Walk names bounds s items (finish.Refused line column fault) entries → is_refused entries ≡ true
ends_refused _ _ _ _ _ _ _ _ (bad s line column fault) = refl
ends_refused names bounds _ _ line column fault _ (marked s m items _ entries w) = ends_refused names bounds s items line column fault entries w
ends_refused _ _ _ _ _ _ _ _ (refused s form items _ code is) = refl
ends_refused _ _ _ _ _ _ _ _ (without_value s form items _ e a why is proper cause other) = refl
ends_refused names bounds _ _ line column fault _ (event s form items _ entries e a is proper valued w) = ends_refused names bounds (state_after s form.tree e a) items line column fault entries w

pub bad_there : (names : List (List ℕ)) (bounds : Bounds) (first : BookState) (forms : List Form) (end : End) (line column : ℕ) (fault : ReadCode) → end ≡ ends.Bad line column fault → (now : WorldSeen) → CanGoOn first → IsWalkedTo names bounds first forms (finish_of end) now None
bad_there names bounds first forms end line column fault is now can =
    let items = map item.Form forms in
    let walk = some_walk names bounds (finish_of end) first items can in
    (walk.0, walk.1, inl (ends_refused names bounds first items line column _ walk.0 (subst (λ (x : End). Walk names bounds first items (finish_of x) walk.0) is walk.1)))

module _ (names : List (List ℕ)) (bounds : Bounds) (bytes : List ℕ) where
  pub none_long : (line column : ℕ) → IsBeyond most_bytes bytes line column → HasNone names bounds bytes
  none_long line column beyond = record { entries = Refused (long_refusal line column) ∷ []; comes = long line column beyond; none = inl refl }

  module _ (forms : List Form) (end : End) (first : BookState) (few : length bytes ≤ most_bytes) (read : IsReadBy names bytes forms end) (begins : IsFirstState names first) (now : WorldSeen) where
    pub none_there : IsWalkedTo names bounds first forms (finish_of end) now None → HasNone names bounds bytes
    none_there w = record { entries = w.0; comes = short forms end first w.0 few read begins w.1; none = w.2 }

    pub last_there : (o : Option Kept) (k : Kept) → o ≡ Some k → IsWalkedTo names bounds first forms (finish_of end) now o → (v : WorldSeen) → v ≡ world_cut k.extent now → IsLastOf names bounds bytes v (theorem_seen k.thm)
    last_there o k some walked v is =
        let w = subst (λ (p : Option Kept). IsWalkedTo names bounds first forms (finish_of end) now p) some walked in
        let l = w.3 in
        record {
          forms = forms;
          end = end;
          first = first;
          before = l.before;
          answer = l.answer;
          behind = l.behind;
          few = few;
          read = read;
          begins = begins;
          walk = subst (Walk names bounds first (map item.Form forms) (finish_of end)) l.are w.1;
          whole = ap is_refused (sym l.are) ∙ w.2;
          last = l.last;
          world = l.at ∙ (sym l.cut ∙ sym is);
        }

-- what is kept can be decided in the world that is cut back, which is one
module _ (names : List (List ℕ)) (bounds : Bounds) (first : BookState) (forms : List Form) (end : Finish) (now : WorldSeen) (o : Option Kept) (k : Kept) (some : o ≡ Some k) (walked : IsWalkedTo names bounds first forms end now o) where
  kept_in : IsWalkedTo names bounds first forms end now (Some k)
  kept_in = subst (λ (p : Option Kept). IsWalkedTo names bounds first forms end now p) some walked

  pub ready_there : (v : WorldSeen) → v ≡ world_cut k.extent now → IsReadyTheorem v.definitions (theorem_seen k.thm)
  ready_there v is = subst (λ (x : WorldSeen). IsReadyTheorem x.definitions (theorem_seen k.thm)) (sym (is ∙ kept_in.3.cut)) kept_in.3.ready

  pub total_there : IsWorld (take k.extent.definitions now.definitions) (take k.extent.cliques now.cliques)
  total_there = subst (λ (x : WorldSeen). IsWorld x.definitions x.cliques) (sym kept_in.3.cut) kept_in.3.total
