-- The reader's stack, step by step.
use Rattle.std.proofs.Common.{◌≡◌, ◌∙◌, sym, ap, subst, refl, ℕ, suc, List, [], ◌∷◌, ◌++◌, length, ◌<◌, arith, Bool, true, false, cond, Some, None}
use Rattle.std.specs.Prelude.{nat_lt, reverse}
use Rattle.std.proofs.lemmas.Bool.{ltb-true, true_from_ne_false, lt-ltb}
use Rattle.std.proofs.lemmas.List.{append-nil, length-append, reverse-append}
use Rattle.gl_logic.specs.Object.{Object, Cons}
use Rattle.gl_logic.specs.declared.ids.TextId.{TextId}
use Rattle.sexp_reader.specs.declared.place.Place.{Place}
use Rattle.sexp_reader.specs.declared.flaw.Flaw.{Flaw}
use Rattle.sexp_reader.specs.declared.list.Form.{Form}
use Rattle.sexp_reader.specs.declared.ends.ReadCode.{ReadCode}
use Rattle.sexp_reader.specs.declared.ends.End.{End}
use Rattle.sexp_reader.specs.declared.ends.End.TheVariants.{Clean}
use Rattle.sexp_reader.specs.declared.ends.ReadCode.TheVariants.{TooDeep}
use Rattle.sexp_reader.specs.declared.lexeme.Mark.{Mark}
use Rattle.sexp_reader.specs.declared.lexeme.Atom.{Atom}
use Rattle.sexp_reader.specs.declared.lexeme.Piece.{Piece}
use Rattle.sexp_reader.specs.declared.lexeme.Piece.TheVariants.{Ended, Torn, Gap, Part, Faulty}
use Rattle.sexp_reader.specs.declared.lexeme.Lexeme.{Lexeme}
use Rattle.sexp_reader.specs.declared.lexeme.Lexeme.TheVariants as lexeme
use Rattle.sexp_reader.specs.declared.stack.ListEnd.{ListEnd}
use Rattle.sexp_reader.specs.declared.stack.ListEnd.TheVariants.{Plain, Dotted, Tail}
use Rattle.sexp_reader.specs.declared.stack.OpenList.{OpenList}
use Rattle.sexp_reader.specs.declared.stack.Frame.{Frame}
use Rattle.sexp_reader.specs.declared.stack.Frame.TheVariants as frame
use Rattle.sexp_reader.specs.Pieces.{first_piece}
use Rattle.sexp_reader.specs.Grammar as grammar
use Rattle.sexp_reader.specs.Grammar.{Spot, past, place_in, object_of, mark_text, Outcome, Got, Fault, prefixed, marked, consed, Goal, Rest, Last, Closing, wants, unless_deep, form_flaw, closing_flaw, last_flaw, flaw_at, Gives, gap, list, prefix, empty, element, dot, last, close, flaw, inner}
use Rattle.sexp_reader.specs.Reads.{form_at, bad_at, is_shown, ReadsFrom, ended, form, fault}
use Rattle.sexp_reader.specs.Reads as reads
use Rattle.sexp_reader.specs.Stack.{listed, completed, tail_of, taken, taken_end, goal_of, frame_goal, frame_wraps, goal_flaw, flaw_in, Leads, GoesIn, begun, CanStandIn}

-- ---- lists
pub listed_push : (xs : List Object) (x t : Object) → listed (xs ++ x ∷ []) t ≡ listed xs (Cons x t)
listed_push [] x t = refl
listed_push (y ∷ xs) x t = ap (Cons y) (listed_push xs x t)

completed_push : (xs : List Object) (x : Object) (o : Outcome) → completed (xs ++ x ∷ []) o ≡ completed xs (consed x o)
completed_push xs x (Got t next) = ap (λ l. Got l next) (listed_push xs x t)
completed_push xs x (Fault place code) = refl

completed_none : (o : Outcome) → completed [] o ≡ o
completed_none (Got t next) = refl
completed_none (Fault place code) = refl

some_pushed : (xs : List Object) (x : Object) → nat_lt 0 (length (xs ++ x ∷ [])) ≡ true
some_pushed xs x = lt-ltb 0 (length (xs ++ x ∷ [])) (omega (arith, length-append xs (x ∷ [])))

-- ---- the last frame goes first
pub inner_last : (all rest : List Frame) (f : Frame) → all ≡ rest ++ f ∷ [] → reverse all ≡ f ∷ reverse rest
inner_last all rest f e = ap reverse e ∙ reverse-append rest (f ∷ [])

-- ---- what has no flaw
deep_none : (around : ℕ) (spot : Spot) → unless_deep around spot.place None ≡ None → around < 1000
deep_none around spot e = ltb-true around 1000 (true_from_ne_false (nat_lt around 1000) (λ f. let h : Some (record { place = spot.place; code = TooDeep }) ≡ None = ap (λ t. cond t None (Some (record { place = spot.place; code = TooDeep }))) (sym f) ∙ e in absurd (cc)))

deep_some : {P : Type 0} (around : ℕ) (spot : Spot) (f : Flaw) → unless_deep around spot.place (Some f) ≡ None → P
deep_some {P = P} around spot f e = (elim (nat_lt around 1000) as (λ t. cond t (Some f) (Some (record { place = spot.place; code = TooDeep })) ≡ None → P) [ true ↦ λ h. absurd (cc) | false ↦ λ h. absurd (cc) ]) e

deep_same : (around : ℕ) (spot other : Spot) → unless_deep around spot.place None ≡ None → unless_deep around other.place None ≡ None
deep_same around spot other e = ap (λ t. cond t None (Some (record { place = other.place; code = TooDeep }))) (lt-ltb around 1000 (deep_none around spot e))

form_same : (around : ℕ) (spot other : Spot) (count more : ℕ) (what : Lexeme) → form_flaw around spot (Part count what) ≡ None → form_flaw around other (Part more what) ≡ None
form_same around spot other count more lexeme.Open e = deep_same around spot other e
form_same around spot other count more (lexeme.Prefix mark) e = deep_same around spot other e
form_same around spot other count more lexeme.Splice e = deep_some around spot _ e
form_same around spot other count more (lexeme.Atom leaf) e = refl
form_same around spot other count more lexeme.Close e = absurd (cc)
form_same around spot other count more lexeme.Dot e = absurd (cc)

closing_same : (around : ℕ) (spot other : Spot) (count more : ℕ) (what : Lexeme) → closing_flaw around spot (Part count what) ≡ None → closing_flaw around other (Part more what) ≡ None
closing_same around spot other count more lexeme.Close e = refl
closing_same around spot other count more lexeme.Open e = deep_some around spot _ e
closing_same around spot other count more (lexeme.Prefix mark) e = deep_some around spot _ e
closing_same around spot other count more lexeme.Splice e = deep_some around spot _ e
closing_same around spot other count more (lexeme.Atom leaf) e = absurd (cc)
closing_same around spot other count more lexeme.Dot e = absurd (cc)

goal_same : (goal : Goal) (around : ℕ) (spot other : Spot) (count more : ℕ) (what : Lexeme) → goal_flaw goal around spot (Part count what) ≡ None → goal_flaw goal around other (Part more what) ≡ None
goal_same grammar.Form around spot other count more what e = form_same around spot other count more what e
goal_same (Closing x) around spot other count more what e = closing_same around spot other count more what e
goal_same (Rest true) around spot other count more lexeme.Close e = refl
goal_same (Rest false) around spot other count more lexeme.Close e = refl
goal_same (Rest true) around spot other count more lexeme.Dot e = refl
goal_same (Rest true) around spot other count more what e = form_same around spot other count more what e
goal_same (Rest false) around spot other count more what e = form_same around spot other count more what e
goal_same Last around spot other count more lexeme.Close e = absurd (cc)
goal_same Last around spot other count more what e = form_same around spot other count more what e

pub can_stand : (frames : List Frame) (spot : Spot) (count : ℕ) (what : Lexeme) → flaw_in frames spot (Part count what) ≡ None → CanStandIn frames what
can_stand [] spot count what e = λ other more. form_same 0 spot other count more what e
can_stand (f ∷ frames) spot count what e = λ other more. goal_same (frame_goal f) (suc (length frames)) spot other count more what e

abbrev nowhere : Spot
nowhere = record { place = record { line = 1; column = 1 }; bytes = [] }

-- a closing parenthesis and a dot stand in a list alone
pub no_close : CanStandIn [] lexeme.Close → ⊥
no_close h = let e = h nowhere 1 in absurd (cc)

pub no_dot : CanStandIn [] lexeme.Dot → ⊥
no_dot h = let e = h nowhere 1 in absurd (cc)

pub prefix_no_close : (symbol : TextId) (frames : List Frame) → CanStandIn (frame.Prefix symbol ∷ frames) lexeme.Close → ⊥
prefix_no_close symbol frames h = let e = h nowhere 1 in absurd (cc)

pub prefix_no_dot : (symbol : TextId) (frames : List Frame) → CanStandIn (frame.Prefix symbol ∷ frames) lexeme.Dot → ⊥
prefix_no_dot symbol frames h = let e = h nowhere 1 in absurd (cc)

pub no_splice : (frames : List Frame) → CanStandIn frames lexeme.Splice → ⊥
no_splice [] h = deep_some 0 nowhere _ (h nowhere 1)
no_splice (f ∷ frames) h = goal_no_splice (frame_goal f) (h nowhere 1) where
  goal_no_splice : (goal : Goal) → goal_flaw goal (suc (length frames)) nowhere (Part 1 lexeme.Splice) ≡ None → ⊥
  goal_no_splice grammar.Form e = deep_some _ nowhere _ e
  goal_no_splice (Rest true) e = deep_some _ nowhere _ e
  goal_no_splice (Rest false) e = deep_some _ nowhere _ e
  goal_no_splice Last e = deep_some _ nowhere _ e
  goal_no_splice (Closing x) e = deep_some _ nowhere _ e

-- what no gap is and no lexeme stands at the text's end alone
abbrev pub IsStop : Piece → Type 0
IsStop (Gap count) = ⊥
IsStop (Part count what) = ⊥
IsStop piece = Unit {0}

goal_stops : (goal : Goal) (around : ℕ) (spot : Spot) (p : Piece) → IsStop p → goal_flaw goal around spot p ≡ None → ⊥
goal_stops goal around spot (Gap count) s e = s
goal_stops goal around spot (Part count what) s e = s
goal_stops grammar.Form around spot Ended s e = absurd (cc)
goal_stops grammar.Form around spot Torn s e = absurd (cc)
goal_stops grammar.Form around spot (Faulty count code) s e = absurd (cc)
goal_stops (Rest true) around spot Ended s e = absurd (cc)
goal_stops (Rest true) around spot Torn s e = absurd (cc)
goal_stops (Rest true) around spot (Faulty count code) s e = absurd (cc)
goal_stops (Rest false) around spot Ended s e = absurd (cc)
goal_stops (Rest false) around spot Torn s e = absurd (cc)
goal_stops (Rest false) around spot (Faulty count code) s e = absurd (cc)
goal_stops Last around spot Ended s e = absurd (cc)
goal_stops Last around spot Torn s e = absurd (cc)
goal_stops Last around spot (Faulty count code) s e = absurd (cc)
goal_stops (Closing x) around spot Ended s e = absurd (cc)
goal_stops (Closing x) around spot Torn s e = absurd (cc)
goal_stops (Closing x) around spot (Faulty count code) s e = absurd (cc)

-- ---- what begins a form
abbrev StartsForm : Lexeme → Type 0
StartsForm lexeme.Close = ⊥
StartsForm lexeme.Dot = ⊥
StartsForm lexeme.Splice = ⊥
StartsForm what = Unit {0}

rest_wants : (some : Bool) (count : ℕ) (what : Lexeme) → StartsForm what → wants (Rest some) (Part count what) ≡ true
rest_wants true count lexeme.Open s = refl
rest_wants true count (lexeme.Prefix mark) s = refl
rest_wants true count (lexeme.Atom leaf) s = refl
rest_wants false count lexeme.Open s = refl
rest_wants false count (lexeme.Prefix mark) s = refl
rest_wants false count (lexeme.Atom leaf) s = refl
rest_wants some count what s = absurd s

list_wants : (xs : List Object) (e : ListEnd) (around : ℕ) (spot : Spot) (count : ℕ) (what : Lexeme) → StartsForm what → goal_flaw (goal_of xs e) around spot (Part count what) ≡ None → wants (goal_of xs e) (Part count what) ≡ true
list_wants xs Plain around spot count what s n = rest_wants (nat_lt 0 (length xs)) count what s
list_wants xs Dotted around spot count lexeme.Open s n = refl
list_wants xs Dotted around spot count (lexeme.Prefix mark) s n = refl
list_wants xs Dotted around spot count (lexeme.Atom leaf) s n = refl
list_wants xs (Tail x) around spot count lexeme.Open s n = deep_some around spot _ n
list_wants xs (Tail x) around spot count (lexeme.Prefix mark) s n = deep_some around spot _ n
list_wants xs (Tail x) around spot count (lexeme.Atom leaf) s n = absurd (cc)
list_wants xs e around spot count what s n = absurd s

module _ (names : List (List ℕ)) (done : List Form) (forms : List Form) (end : End) where
  -- ---- where a form is looked for, and what stands there
  abbrev pub Looks : List Frame → Piece → Type 0
  Looks [] piece = is_shown piece ≡ true
  Looks (frame.Prefix symbol ∷ frames) piece = Unit {0}
  Looks (frame.List l ∷ frames) piece = wants (goal_of l.elements.items l.end) piece ≡ true

  -- an element, or the object behind a dot
  list_takes : (around : ℕ) (spot next : Spot) (x : Object) (xs : List Object) (e : ListEnd) (o : Outcome) → wants (goal_of xs e) (first_piece spot.bytes) ≡ true
      → Gives names grammar.Form around spot (Got x next) → Gives names (goal_of (taken xs e x) (taken_end e x)) around next o
      → (p : Outcome) × Gives names (goal_of xs e) around spot p × (completed (taken xs e x) o ≡ completed xs p)
  list_takes around spot next x xs Plain o w d f =
      (consed x o, element (nat_lt 0 (length xs)) around spot next x o w d (subst (λ b. Gives names (Rest b) around next o) (some_pushed xs x) f), completed_push xs x o)
  list_takes around spot next x xs Dotted o w d f = (o, last around spot next x o w d f, refl)
  list_takes around spot next x xs (Tail y) o w d f = absurd (cc)

  -- a form that is given where one is looked for
  pub delivers : (begin : Place) (frames : List Frame) (spot : Spot) (o : Outcome) → Looks frames (first_piece spot.bytes) → Gives names grammar.Form (length frames) spot o
      → Leads names (begun spot.place begin frames) done o frames forms end → GoesIn names begin done frames spot forms end
  delivers begin [] spot (Got x next) w d h = (form_at spot.place x ∷ h.0, h.1, form spot next x h.0 end w d h.2)
  delivers begin [] spot (Fault place code) w d h = ([], h.0 ∙ sym (append-nil done), subst (ReadsFrom names spot []) (sym h.1) (fault spot place code w d))
  delivers begin (frame.Prefix symbol ∷ frames) spot (Got x next) w d h = (Got x next, d, h)
  delivers begin (frame.Prefix symbol ∷ frames) spot (Fault place code) w d h = (Fault place code, d, h)
  delivers begin (frame.List l ∷ frames) spot (Fault place code) w d h = (Fault place code, inner _ _ spot place code w d, h)
  delivers begin (frame.List l ∷ frames) spot (Got x next) w d h =
      let t = list_takes (suc (length frames)) spot next x l.elements.items l.end h.0 w d h.1 in
      (t.0, t.1, subst (λ p. Leads names begin done p frames forms end) t.2 h.2)

  -- ---- a flaw where something stands
  by_goal : (goal : Goal) (around : ℕ) (spot : Spot) (f : Flaw) → goal_flaw goal around spot (first_piece spot.bytes) ≡ Some f → Gives names goal around spot (Fault f.place f.code)
  by_goal goal around spot f e =
      let p = first_piece spot.bytes in
      (elim (wants goal p) as (λ b. wants goal p ≡ b → cond b (form_flaw around spot p) (flaw_at goal around spot p) ≡ Some f → Gives names goal around spot (Fault f.place f.code)) [
        | true ↦ λ w h. inner goal around spot f.place f.code w (flaw grammar.Form around spot f h)
        | false ↦ λ w h. flaw goal around spot f h
      ]) refl e

  wrapped_fault : (f : Frame) (place : Place) (code : ReadCode) → frame_wraps f (Fault place code) ≡ Fault place code
  wrapped_fault (frame.List l) place code = refl
  wrapped_fault (frame.Prefix symbol) place code = refl

  top_shown : (spot : Spot) (p : Piece) (f : Flaw) → flaw_in [] spot p ≡ Some f → (is_shown p ≡ true) × (form_flaw 0 spot p ≡ Some f)
  top_shown spot Ended f e = absurd (cc)
  top_shown spot (Gap count) f e = absurd (cc)
  top_shown spot Torn f e = (refl, e)
  top_shown spot (Part count l) f e = (refl, e)
  top_shown spot (Faulty count c) f e = (refl, e)

  pub flawed : (begin : Place) (frames : List Frame) (spot : Spot) (f : Flaw) → flaw_in frames spot (first_piece spot.bytes) ≡ Some f → forms ≡ done → end ≡ bad_at f.place f.code → GoesIn names begin done frames spot forms end
  flawed begin [] spot f e h k =
      let s = top_shown spot (first_piece spot.bytes) f e in
      ([], h ∙ sym (append-nil done), subst (ReadsFrom names spot []) (sym k) (fault spot f.place f.code s.0 (flaw grammar.Form 0 spot f s.1)))
  flawed begin (g ∷ frames) spot f e h k =
      (Fault f.place f.code, by_goal (frame_goal g) (suc (length frames)) spot f e, subst (λ o. Leads names begin done o frames forms end) (sym (wrapped_fault g f.place f.code)) (h, k))

  -- ---- no flaw
  pub stops : (begin : Place) (frames : List Frame) (spot : Spot) (p : Piece) → IsStop p → first_piece spot.bytes ≡ p → flaw_in frames spot p ≡ None → forms ≡ done → end ≡ Clean → GoesIn names begin done frames spot forms end
  stops begin [] spot Ended s e n h k = ([], h ∙ sym (append-nil done), subst (ReadsFrom names spot []) (sym k) (ended spot e))
  stops begin [] spot (Gap count) s e n h k = absurd s
  stops begin [] spot (Part count what) s e n h k = absurd s
  stops begin [] spot Torn s e n h k = absurd (cc)
  stops begin [] spot (Faulty count code) s e n h k = absurd (cc)
  stops begin (f ∷ frames) spot p s e n h k = absurd (goal_stops (frame_goal f) (suc (length frames)) spot p s n)

  pub passes : (begin : Place) (frames : List Frame) (spot : Spot) (count : ℕ) → first_piece spot.bytes ≡ Gap count → GoesIn names begin done frames (past spot count) forms end → GoesIn names begin done frames spot forms end
  passes begin [] spot count e h = (h.0, h.1, reads.gap spot count h.0 end e h.2)
  passes begin (f ∷ frames) spot count e h = (h.0, gap (frame_goal f) (suc (length frames)) spot count h.0 e h.1, h.2)

  -- ---- a lexeme that begins a form
  looks : (frames : List Frame) (spot : Spot) (count : ℕ) (what : Lexeme) → StartsForm what → flaw_in frames spot (Part count what) ≡ None
      → Looks frames (Part count what) × (form_flaw (length frames) spot (Part count what) ≡ None)
  looks [] spot count what s n = (refl, n)
  looks (frame.Prefix symbol ∷ frames) spot count what s n = (tt, n)
  looks (frame.List l ∷ frames) spot count what s n =
      let xs = l.elements.items in
      let around = suc (length frames) in
      let p = Part count what in
      let w = list_wants xs l.end around spot count what s n in
      (w, sym (ap (λ b. cond b (form_flaw around spot p) (flaw_at (goal_of xs l.end) around spot p)) w) ∙ n)

  module _ (begin : Place) (frames : List Frame) (spot : Spot) (count : ℕ) where
    abbrev start : Place
    start = begun spot.place begin frames

    -- what stands there, by a form that it begins
    given : (what : Lexeme) (o : Outcome) → StartsForm what → first_piece spot.bytes ≡ Part count what → flaw_in frames spot (Part count what) ≡ None
        → Gives names grammar.Form (length frames) spot o → Leads names start done o frames forms end → GoesIn names begin done frames spot forms end
    given what o s e n d h = delivers begin frames spot o (subst (Looks frames) (sym e) (looks frames spot count what s n).0) d h

    pub reads_atom : (leaf : Atom) → first_piece spot.bytes ≡ Part count (lexeme.Atom leaf) → flaw_in frames spot (Part count (lexeme.Atom leaf)) ≡ None
        → Leads names start done (Got (object_of names leaf) (past spot count)) frames forms end → GoesIn names begin done frames spot forms end
    reads_atom leaf e n h = given (lexeme.Atom leaf) _ tt e n (grammar.atom (length frames) spot count leaf e) h

    pub opens_list : (l : OpenList) → l.elements.items ≡ [] → l.end ≡ Plain → first_piece spot.bytes ≡ Part count lexeme.Open → flaw_in frames spot (Part count lexeme.Open) ≡ None
        → GoesIn names start done (frame.List l ∷ frames) (past spot count) forms end → GoesIn names begin done frames spot forms end
    opens_list l x p e n h =
        let around = suc (length frames) in
        let d = subst (λ xs. Gives names (goal_of xs Plain) around (past spot count) h.0) x (subst (λ q. Gives names (goal_of l.elements.items q) around (past spot count) h.0) p h.1) in
        let o : completed l.elements.items h.0 ≡ h.0 = ap (λ xs. completed xs h.0) x ∙ completed_none h.0 in
        given lexeme.Open h.0 tt e n (list (length frames) spot count h.0 e (deep_none (length frames) spot (looks frames spot count lexeme.Open tt n).1) d)
        (subst (λ q. Leads names start done q frames forms end) o h.2)

    pub opens_prefix : (mark : Mark) (symbol : TextId) → symbol.number ≡ place_in names (mark_text mark) → first_piece spot.bytes ≡ Part count (lexeme.Prefix mark) → flaw_in frames spot (Part count (lexeme.Prefix mark)) ≡ None
        → GoesIn names start done (frame.Prefix symbol ∷ frames) (past spot count) forms end → GoesIn names begin done frames spot forms end
    opens_prefix mark symbol m e n h =
        given (lexeme.Prefix mark) (marked (place_in names (mark_text mark)) h.0) tt e n
        (prefix (length frames) spot count mark h.0 e (deep_none (length frames) spot (looks frames spot count (lexeme.Prefix mark) tt n).1) h.1)
        (subst (λ k. Leads names start done (marked k h.0) frames forms end) m h.2)

    -- ---- the end of a list, and a dot
    close_gives : (xs : List Object) (e : ListEnd) → first_piece spot.bytes ≡ Part count lexeme.Close → goal_flaw (goal_of xs e) (suc (length frames)) spot (Part count lexeme.Close) ≡ None
        → Gives names (goal_of xs e) (suc (length frames)) spot (Got (tail_of e) (past spot count))
    close_gives xs Plain p n = empty (nat_lt 0 (length xs)) (suc (length frames)) spot count p
    close_gives xs Dotted p n = absurd (cc)
    close_gives xs (Tail x) p n = close (suc (length frames)) spot count x p

    pub closes_list : (l : OpenList) → first_piece spot.bytes ≡ Part count lexeme.Close → flaw_in (frame.List l ∷ frames) spot (Part count lexeme.Close) ≡ None
        → Leads names begin done (Got (listed l.elements.items (tail_of l.end)) (past spot count)) frames forms end → GoesIn names begin done (frame.List l ∷ frames) spot forms end
    closes_list l p n h = (Got (tail_of l.end) (past spot count), close_gives l.elements.items l.end p n, h)

    rest_dots : (some : Bool) (o : Outcome) → first_piece spot.bytes ≡ Part count lexeme.Dot → goal_flaw (Rest some) (suc (length frames)) spot (Part count lexeme.Dot) ≡ None
        → Gives names Last (suc (length frames)) (past spot count) o → Gives names (Rest some) (suc (length frames)) spot o
    rest_dots true o p n d = dot (suc (length frames)) spot count o p d
    rest_dots false o p n d = absurd (cc)

    dot_gives : (xs : List Object) (e : ListEnd) (o : Outcome) → first_piece spot.bytes ≡ Part count lexeme.Dot → goal_flaw (goal_of xs e) (suc (length frames)) spot (Part count lexeme.Dot) ≡ None
        → Gives names Last (suc (length frames)) (past spot count) o → Gives names (goal_of xs e) (suc (length frames)) spot o
    dot_gives xs Plain o p n d = rest_dots (nat_lt 0 (length xs)) o p n d
    dot_gives xs Dotted o p n d = absurd (cc)
    dot_gives xs (Tail x) o p n d = absurd (cc)

    pub dots_list : (l m : OpenList) → m.elements.items ≡ l.elements.items → m.end ≡ Dotted → first_piece spot.bytes ≡ Part count lexeme.Dot → flaw_in (frame.List l ∷ frames) spot (Part count lexeme.Dot) ≡ None
        → GoesIn names begin done (frame.List m ∷ frames) (past spot count) forms end → GoesIn names begin done (frame.List l ∷ frames) spot forms end
    dots_list l m x q p n h =
        let d = subst (λ r. Gives names (goal_of m.elements.items r) (suc (length frames)) (past spot count) h.0) q h.1 in
        (h.0, dot_gives l.elements.items l.end h.0 p n d, subst (λ xs. Leads names begin done (completed xs h.0) frames forms end) x h.2)
