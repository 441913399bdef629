-- Each text has one reading: the rules give what a function gives that goes as deep as the text is long.
use Rattle.std.proofs.Common.{◌≡◌, ◌∙◌, sym, ap, subst, refl, ℕ, zero, suc, ◌+◌, ◌*◌, ◌<◌, ◌≤◌, arith, Bool, true, false, cond, List, [], ◌∷◌, length, drop, Option, Some, None}
use Rattle.std.specs.Prelude.{nat_lt}
use Rattle.std.proofs.lemmas.Bool.{ltb-true, lt-ltb, cond_both, true_from_ne_false}
use Rattle.std.proofs.lemmas.List.{length-drop}
use Rattle.gl_logic.specs.Object.{Object, nil}
use Rattle.sexp_reader.specs.declared.place.Place.{Place}
use Rattle.sexp_reader.specs.declared.list.Form.{Form}
use Rattle.sexp_reader.specs.declared.ends.End.{End}
use Rattle.sexp_reader.specs.declared.ends.End.TheVariants.{Clean}
use Rattle.sexp_reader.specs.declared.ends.ReadCode.TheVariants.{EndInside, TooDeep}
use Rattle.sexp_reader.specs.declared.flaw.Flaw.{Flaw}
use Rattle.sexp_reader.specs.declared.lexeme.Piece.{Piece}
use Rattle.sexp_reader.specs.declared.lexeme.Piece.TheVariants.{Ended, Torn, Gap, Part, Faulty}
use Rattle.sexp_reader.specs.declared.lexeme.Lexeme.{Lexeme}
use Rattle.sexp_reader.specs.declared.lexeme.Lexeme.TheVariants as lexeme
use Rattle.sexp_reader.specs.Pieces.{first_piece, Spans}
use Rattle.sexp_reader.specs.Grammar as grammar
use Rattle.sexp_reader.specs.Grammar.{Spot, past, place_in, object_of, mark_text, Outcome, Got, Fault, marked, consed, Goal, Rest, Last, Closing, wants, unless_deep, form_flaw, closing_flaw, last_flaw, flaw_at, Gives, gap, list, prefix, empty, element, dot, last, close, flaw, inner}
use Rattle.sexp_reader.specs.Reads.{form_at, bad_at, is_shown, ReadsFrom, ended, form, fault}
use Rattle.sexp_reader.specs.Reads as reads
use Rattle.sexp_reader.proofs.Spans.{piece_spans}

-- ---- what is left gets shorter
pub shorter : (bytes : List ℕ) (n count : ℕ) (p : Piece) → first_piece bytes ≡ p → (Spans (length bytes) p → (0 < count) × (count ≤ length bytes)) → length bytes < suc n → length (drop count bytes) < n
shorter bytes n count p e k h =
    let s = k (subst (Spans (length bytes)) e (piece_spans bytes)) in
    omega (arith, s, length-drop count bytes)

-- ---- the function
module _ (names : List (List ℕ)) where
  -- what a flaw gives, or what there is without one
  abbrev pub unless_flaw : Option Flaw → Outcome → Outcome
  unless_flaw (Some f) outcome = Fault f.place f.code
  unless_flaw None outcome = outcome

  -- an outcome, and what comes of its object
  abbrev pub then : Outcome → (Object → Spot → Outcome) → Outcome
  then (Got object spot) next = next object spot
  then (Fault place code) next = Fault place code

  module _ (go : Goal → ℕ → Spot → Outcome) where
    abbrev pub form_by : ℕ → Spot → Piece → Outcome
    form_by around spot (Part count lexeme.Open) = go (Rest false) (suc around) (past spot count)
    form_by around spot (Part count (lexeme.Prefix mark)) = marked (place_in names (mark_text mark)) (go grammar.Form (suc around) (past spot count))
    form_by around spot (Part count (lexeme.Atom leaf)) = Got (object_of names leaf) (past spot count)
    form_by around spot piece = Fault spot.place EndInside

    abbrev pub own_by : Goal → ℕ → Spot → Piece → Outcome
    own_by goal around spot (Gap count) = go goal around (past spot count)
    own_by (Rest some) around spot (Part count lexeme.Close) = Got nil (past spot count)
    own_by (Rest some) around spot (Part count lexeme.Dot) = go Last around (past spot count)
    own_by (Closing object) around spot (Part count lexeme.Close) = Got object (past spot count)
    own_by grammar.Form around spot piece = form_by around spot piece
    own_by goal around spot piece = Fault spot.place EndInside

    abbrev pub behind_form : Goal → ℕ → Object → Spot → Outcome
    behind_form (Rest some) around object next = consed object (go (Rest true) around next)
    behind_form goal around object next = go (Closing object) around next

    abbrev pub step : Goal → ℕ → Spot → Piece → Outcome
    step goal around spot piece =
        cond (wants goal piece) (then (go grammar.Form around spot) (behind_form goal around)) (unless_flaw (flaw_at goal around spot piece) (own_by goal around spot piece))

  abbrev pub read : ℕ → Goal → ℕ → Spot → Outcome
  read zero goal around spot = Fault spot.place EndInside
  read (suc n) goal around spot = step (read n) goal around spot (first_piece spot.bytes)

  -- ---- an object's end is behind its beginning
  abbrev pub Ahead : Outcome → Spot → Type 0
  Ahead (Got object next) spot = length next.bytes < length spot.bytes
  Ahead (Fault place code) spot = Unit {0}

  ahead_marked : (symbol : ℕ) (o : Outcome) (spot : Spot) → Ahead o spot → Ahead (marked symbol o) spot
  ahead_marked symbol (Got x next) spot h = h
  ahead_marked symbol (Fault place code) spot h = h

  ahead_consed : (x : Object) (o : Outcome) (spot : Spot) → Ahead o spot → Ahead (consed x o) spot
  ahead_consed x (Got y next) spot h = h
  ahead_consed x (Fault place code) spot h = h

  ahead_from : (o : Outcome) (next spot : Spot) → length next.bytes < length spot.bytes → Ahead o next → Ahead o spot
  ahead_from (Got x behind) next spot l h = omega arith
  ahead_from (Fault place code) next spot l h = tt

  part_ahead : (spot : Spot) (count : ℕ) (l : Lexeme) → first_piece spot.bytes ≡ Part count l → length (past spot count).bytes < length spot.bytes
  part_ahead spot count l e = let s : (0 < count) × (count ≤ length spot.bytes) = subst (Spans (length spot.bytes)) e (piece_spans spot.bytes) in omega (arith, s, length-drop count spot.bytes)

  gap_ahead : (spot : Spot) (count : ℕ) → first_piece spot.bytes ≡ Gap count → length (past spot count).bytes < length spot.bytes
  gap_ahead spot count e = let s : (0 < count) × (count ≤ length spot.bytes) = subst (Spans (length spot.bytes)) e (piece_spans spot.bytes) in omega (arith, s, length-drop count spot.bytes)

  pub progress : (goal : Goal) (around : ℕ) (spot : Spot) (o : Outcome) → Gives names goal around spot o → Ahead o spot
  progress _ _ _ _ (gap goal around spot count o e d) = ahead_from o (past spot count) spot (gap_ahead spot count e) (progress goal around (past spot count) o d)
  progress _ _ _ _ (grammar.atom around spot count leaf e) = part_ahead spot count _ e
  progress _ _ _ _ (list around spot count o e h d) = ahead_from o (past spot count) spot (part_ahead spot count _ e) (progress _ _ _ o d)
  progress _ _ _ _ (prefix around spot count mark o e h d) = ahead_marked _ o spot (ahead_from o (past spot count) spot (part_ahead spot count _ e) (progress _ _ _ o d))
  progress _ _ _ _ (empty some around spot count e) = part_ahead spot count _ e
  progress _ _ _ _ (element some around spot next x o w d f) = ahead_consed x o spot (ahead_from o next spot (progress _ _ _ (Got x next) d) (progress _ _ _ o f))
  progress _ _ _ _ (dot around spot count o e d) = ahead_from o (past spot count) spot (part_ahead spot count _ e) (progress _ _ _ o d)
  progress _ _ _ _ (last around spot next x o w d f) = ahead_from o next spot (progress _ _ _ (Got x next) d) (progress _ _ _ o f)
  progress _ _ _ _ (close around spot count x e) = part_ahead spot count _ e
  progress _ _ _ _ (flaw goal around spot f e) = tt
  progress _ _ _ _ (inner goal around spot place code w d) = tt

  -- ---- what the rules give is what the function gives
  abbrev pub own : Goal → ℕ
  own grammar.Form = 1
  own goal = 2

  abbrev Covers : ℕ → Goal → Spot → Type 0
  Covers n goal spot = 2 * length spot.bytes + own goal ≤ n

  own_most : (goal : Goal) → (0 < own goal) × (own goal ≤ 2)
  own_most grammar.Form = (omega arith, omega arith)
  own_most (Rest some) = (omega arith, omega arith)
  own_most Last = (omega arith, omega arith)
  own_most (Closing x) = (omega arith, omega arith)

  covers_next : (n : ℕ) (goal other : Goal) (spot next : Spot) → Covers (suc n) goal spot → length next.bytes < length spot.bytes → Covers n other next
  covers_next n goal other spot next h l = omega (arith, own_most goal, own_most other)

  abbrev At : ℕ → Goal → ℕ → Spot → Piece → Outcome
  At n goal around spot piece = step (read n) goal around spot piece

  not_deep : (around : ℕ) (spot : Spot) (f : Option Flaw) → around < 1000 → unless_deep around spot.place f ≡ f
  not_deep around spot f h = ap (λ t. cond t f (Some (record { place = spot.place; code = TooDeep }))) (lt-ltb around 1000 h)

  gap_step : (n : ℕ) (goal : Goal) (around : ℕ) (spot : Spot) (count : ℕ) → At n goal around spot (Gap count) ≡ read n goal around (past spot count)
  gap_step n grammar.Form around spot count = refl
  gap_step n (Rest true) around spot count = refl
  gap_step n (Rest false) around spot count = refl
  gap_step n Last around spot count = refl
  gap_step n (Closing x) around spot count = refl

  wanted_step : (n : ℕ) (goal : Goal) (around : ℕ) (spot : Spot) (p : Piece) → wants goal p ≡ true → At n goal around spot p ≡ then (read n grammar.Form around spot) (behind_form (read n) goal around)
  wanted_step n goal around spot p w = ap (λ t. cond t (then (read n grammar.Form around spot) (behind_form (read n) goal around)) (unless_flaw (flaw_at goal around spot p) (own_by (read n) goal around spot p))) w

  end_step : (n : ℕ) (some : Bool) (around : ℕ) (spot : Spot) (count : ℕ) → At n (Rest some) around spot (Part count lexeme.Close) ≡ Got nil (past spot count)
  end_step n true around spot count = refl
  end_step n false around spot count = refl

  flaw_step : (n : ℕ) (goal : Goal) (around : ℕ) (spot : Spot) (p : Piece) (f : Flaw) → flaw_at goal around spot p ≡ Some f → At n goal around spot p ≡ Fault f.place f.code
  flaw_step n grammar.Form around spot p f e = ap (λ o. unless_flaw o (own_by (read n) grammar.Form around spot p)) e
  flaw_step n (Rest some) around spot p f e = absurd (cc)
  flaw_step n (Closing x) around spot p f e = ap (λ o. unless_flaw o (own_by (read n) (Closing x) around spot p)) e
  flaw_step n Last around spot (Part count lexeme.Close) f e = ap (λ o. unless_flaw o (own_by (read n) Last around spot (Part count lexeme.Close))) e
  flaw_step n Last around spot p f e = absurd (cc)

  wants_own : (goal : Goal) (p : Piece) → wants goal p ≡ true → own goal ≡ 2
  wants_own grammar.Form p w = absurd (cc)
  wants_own (Rest some) p w = refl
  wants_own Last p w = refl
  wants_own (Closing x) p w = refl

  pub complete : (goal : Goal) (around : ℕ) (spot : Spot) (o : Outcome) → Gives names goal around spot o → (n : ℕ) → Covers n goal spot → read n goal around spot ≡ o
  complete goal around spot o d zero k = absurd (omega (arith, own_most goal))
  complete _ _ _ _ (gap goal around spot count o e d) (suc n) k =
      ap (At n goal around spot) e ∙ (gap_step n goal around spot count ∙ complete goal around (past spot count) o d n (covers_next n goal goal spot (past spot count) k (gap_ahead spot count e)))
  complete _ _ _ _ (grammar.atom around spot count leaf e) (suc n) k = ap (At n grammar.Form around spot) e
  complete _ _ _ _ (list around spot count o e h d) (suc n) k =
      ap (At n grammar.Form around spot) e
      ∙ (ap (λ f. unless_flaw f (read n (Rest false) (suc around) (past spot count))) (not_deep around spot None h)
      ∙ complete (Rest false) (suc around) (past spot count) o d n (covers_next n grammar.Form (Rest false) spot (past spot count) k (part_ahead spot count _ e)))
  complete _ _ _ _ (prefix around spot count mark o e h d) (suc n) k =
      ap (At n grammar.Form around spot) e
      ∙ (ap (λ f. unless_flaw f (marked (place_in names (mark_text mark)) (read n grammar.Form (suc around) (past spot count)))) (not_deep around spot None h)
      ∙ ap (marked (place_in names (mark_text mark))) (complete grammar.Form (suc around) (past spot count) o d n (covers_next n grammar.Form grammar.Form spot (past spot count) k (part_ahead spot count _ e))))
  complete _ _ _ _ (empty some around spot count e) (suc n) k = ap (At n (Rest some) around spot) e ∙ end_step n some around spot count
  complete _ _ _ _ (element some around spot next x o w d f) (suc n) k =
      wanted_step n (Rest some) around spot (first_piece spot.bytes) w
      ∙ (ap (λ r. then r (behind_form (read n) (Rest some) around)) (complete grammar.Form around spot (Got x next) d n (omega arith))
      ∙ ap (consed x) (complete (Rest true) around next o f n (covers_next n (Rest some) (Rest true) spot next k (progress _ _ _ (Got x next) d))))
  complete _ _ _ _ (dot around spot count o e d) (suc n) k =
      ap (At n (Rest true) around spot) e ∙ complete Last around (past spot count) o d n (covers_next n (Rest true) Last spot (past spot count) k (part_ahead spot count _ e))
  complete _ _ _ _ (last around spot next x o w d f) (suc n) k =
      wanted_step n Last around spot (first_piece spot.bytes) w
      ∙ (ap (λ r. then r (behind_form (read n) Last around)) (complete grammar.Form around spot (Got x next) d n (omega arith))
      ∙ complete (Closing x) around next o f n (covers_next n Last (Closing x) spot next k (progress _ _ _ (Got x next) d)))
  complete _ _ _ _ (close around spot count x e) (suc n) k = ap (At n (Closing x) around spot) e
  complete _ _ _ _ (flaw goal around spot f e) (suc n) k = flaw_step n goal around spot (first_piece spot.bytes) f e
  complete _ _ _ _ (inner goal around spot place code w d) (suc n) k =
      wanted_step n goal around spot (first_piece spot.bytes) w
      ∙ ap (λ r. then r (behind_form (read n) goal around)) (complete grammar.Form around spot (Fault place code) d n (omega (arith, wants_own goal (first_piece spot.bytes) w)))

  -- ---- and what the function gives, the rules give
  by_flaw : (goal : Goal) (around : ℕ) (spot : Spot) (o : Outcome) (f : Option Flaw) → flaw_at goal around spot (first_piece spot.bytes) ≡ f
      → (f ≡ None → Gives names goal around spot o) → Gives names goal around spot (unless_flaw f o)
  by_flaw goal around spot o (Some f) e h = flaw goal around spot f e
  by_flaw goal around spot o None e h = h refl

  shallow : (around : ℕ) (spot : Spot) → unless_deep around spot.place None ≡ None → around < 1000
  shallow around spot e = ltb-true around 1000 (true_from_ne_false (nat_lt around 1000) (λ f. let h : Some (record { place = spot.place; code = TooDeep }) ≡ None = ap (λ t. cond t None (Some (record { place = spot.place; code = TooDeep }))) (sym f) ∙ e in absurd (cc)))

  unless_some : {P : Type 0} (around : ℕ) (spot : Spot) (f : Flaw) → unless_deep around spot.place (Some f) ≡ None → P
  unless_some {P = P} around spot f e = (elim (nat_lt around 1000) as (λ t. cond t (Some f) (Some (record { place = spot.place; code = TooDeep })) ≡ None → P) [ true ↦ λ h. absurd (cc) | false ↦ λ h. absurd (cc) ]) e

  abbrev Sound : ℕ → Type 0
  Sound n = (goal : Goal) (around : ℕ) (spot : Spot) → Covers n goal spot → Gives names goal around spot (read n goal around spot)

  gap_sound : (n : ℕ) (goal : Goal) (around : ℕ) (spot : Spot) (count : ℕ) → Sound n → Covers (suc n) goal spot → first_piece spot.bytes ≡ Gap count → Gives names goal around spot (read n goal around (past spot count))
  gap_sound n goal around spot count s k e = gap goal around spot count _ e (s goal around (past spot count) (covers_next n goal goal spot (past spot count) k (gap_ahead spot count e)))

  own_sound : (n : ℕ) (goal : Goal) (around : ℕ) (spot : Spot) (p : Piece) → Sound n → Covers (suc n) goal spot → first_piece spot.bytes ≡ p → wants goal p ≡ false → flaw_at goal around spot p ≡ None
      → Gives names goal around spot (own_by (read n) goal around spot p)
  own_sound n grammar.Form around spot (Gap count) s k e w h = gap_sound n grammar.Form around spot count s k e
  own_sound n (Rest true) around spot (Gap count) s k e w h = gap_sound n (Rest true) around spot count s k e
  own_sound n (Rest false) around spot (Gap count) s k e w h = gap_sound n (Rest false) around spot count s k e
  own_sound n Last around spot (Gap count) s k e w h = gap_sound n Last around spot count s k e
  own_sound n (Closing x) around spot (Gap count) s k e w h = gap_sound n (Closing x) around spot count s k e
  own_sound n grammar.Form around spot (Part count lexeme.Open) s k e w h =
      list around spot count _ e (shallow around spot h) (s (Rest false) (suc around) (past spot count) (covers_next n grammar.Form (Rest false) spot (past spot count) k (part_ahead spot count _ e)))
  own_sound n grammar.Form around spot (Part count (lexeme.Prefix mark)) s k e w h =
      prefix around spot count mark _ e (shallow around spot h) (s grammar.Form (suc around) (past spot count) (covers_next n grammar.Form grammar.Form spot (past spot count) k (part_ahead spot count _ e)))
  own_sound n grammar.Form around spot (Part count (lexeme.Atom leaf)) s k e w h = grammar.atom around spot count leaf e
  own_sound n grammar.Form around spot (Part count lexeme.Splice) s k e w h = unless_some around spot _ h
  own_sound n grammar.Form around spot p s k e w h = absurd (cc)
  own_sound n (Rest true) around spot (Part count lexeme.Close) s k e w h = empty true around spot count e
  own_sound n (Rest false) around spot (Part count lexeme.Close) s k e w h = empty false around spot count e
  own_sound n (Rest true) around spot (Part count lexeme.Dot) s k e w h =
      dot around spot count _ e (s Last around (past spot count) (covers_next n (Rest true) Last spot (past spot count) k (part_ahead spot count _ e)))
  own_sound n (Rest true) around spot p s k e w h = absurd (cc)
  own_sound n (Rest false) around spot p s k e w h = absurd (cc)
  own_sound n (Closing x) around spot (Part count lexeme.Close) s k e w h = close around spot count x e
  own_sound n (Closing x) around spot (Part count lexeme.Open) s k e w h = unless_some around spot _ h
  own_sound n (Closing x) around spot (Part count (lexeme.Prefix mark)) s k e w h = unless_some around spot _ h
  own_sound n (Closing x) around spot (Part count lexeme.Splice) s k e w h = unless_some around spot _ h
  own_sound n (Closing x) around spot p s k e w h = absurd (cc)
  own_sound n Last around spot (Part count lexeme.Close) s k e w h = absurd (cc)
  own_sound n Last around spot p s k e w h = absurd (cc)

  wanted_sound : (n : ℕ) (goal : Goal) (around : ℕ) (spot : Spot) (o : Outcome) → Sound n → Covers (suc n) goal spot → wants goal (first_piece spot.bytes) ≡ true → Gives names grammar.Form around spot o
      → Gives names goal around spot (then o (behind_form (read n) goal around))
  wanted_sound n grammar.Form around spot o s k w d = absurd (cc)
  wanted_sound n (Closing x) around spot o s k w d = absurd (cc)
  wanted_sound n (Rest some) around spot (Got x next) s k w d =
      element some around spot next x _ w d (s (Rest true) around next (covers_next n (Rest some) (Rest true) spot next k (progress _ _ _ (Got x next) d)))
  wanted_sound n Last around spot (Got x next) s k w d =
      last around spot next x _ w d (s (Closing x) around next (covers_next n Last (Closing x) spot next k (progress _ _ _ (Got x next) d)))
  wanted_sound n (Rest some) around spot (Fault place code) s k w d = inner (Rest some) around spot place code w d
  wanted_sound n Last around spot (Fault place code) s k w d = inner Last around spot place code w d

  pub sound : (n : ℕ) → Sound n
  sound zero goal around spot k = absurd (omega (arith, own_most goal))
  sound (suc n) goal around spot k =
      let p = first_piece spot.bytes in
      cond_both (wants goal p) (then (read n grammar.Form around spot) (behind_form (read n) goal around)) (unless_flaw (flaw_at goal around spot p) (own_by (read n) goal around spot p)) (Gives names goal around spot)
      (λ w. wanted_sound n goal around spot (read n grammar.Form around spot) (sound n) k w (sound n grammar.Form around spot (omega (arith, wants_own goal p w))))
      (λ w. by_flaw goal around spot (own_by (read n) goal around spot p) (flaw_at goal around spot p) refl (λ h. own_sound n goal around spot p (sound n) k refl w h))

  -- ---- whole texts
  pub record Reading : Type 0 where
    pub forms : List Form
    pub end : End

  abbrev pub with_form : Place → Outcome → (Spot → Reading) → Reading
  with_form place (Got x next) rest = record { forms = form_at place x ∷ (rest next).forms; end = (rest next).end }
  with_form place (Fault at code) rest = record { forms = []; end = bad_at at code }

  abbrev pub by_piece : (Spot → Reading) → Spot → Piece → Reading
  by_piece go spot Ended = record { forms = []; end = Clean }
  by_piece go spot (Gap count) = go (past spot count)
  by_piece go spot piece = with_form spot.place (read (2 * length spot.bytes + 1) grammar.Form 0 spot) go

  abbrev pub reading : ℕ → Spot → Reading
  reading zero spot = record { forms = []; end = Clean }
  reading (suc n) spot = by_piece (reading n) spot (first_piece spot.bytes)

  shown_piece : (go : Spot → Reading) (spot : Spot) (p : Piece) → is_shown p ≡ true → by_piece go spot p ≡ with_form spot.place (read (2 * length spot.bytes + 1) grammar.Form 0 spot) go
  shown_piece go spot Ended w = absurd (cc)
  shown_piece go spot (Gap count) w = absurd (cc)
  shown_piece go spot Torn w = refl
  shown_piece go spot (Part count l) w = refl
  shown_piece go spot (Faulty count c) w = refl

  complete_form : (spot : Spot) (o : Outcome) → Gives names grammar.Form 0 spot o → read (2 * length spot.bytes + 1) grammar.Form 0 spot ≡ o
  complete_form spot o d = complete grammar.Form 0 spot o d (2 * length spot.bytes + 1) (omega arith)

  abbrev pub both : List Form → End → Reading
  both forms end = record { forms = forms; end = end }

  complete_all : (spot : Spot) (forms : List Form) (end : End) → ReadsFrom names spot forms end → (n : ℕ) → length spot.bytes < n → reading n spot ≡ both forms end
  complete_all spot forms end d zero k = absurd (omega arith)
  complete_all _ _ _ (ended spot e) (suc n) k = ap (by_piece (reading n) spot) e
  complete_all _ _ _ (reads.gap spot count forms end e d) (suc n) k =
      ap (by_piece (reading n) spot) e ∙ complete_all (past spot count) forms end d n (omega (arith, gap_ahead spot count e))
  complete_all _ _ _ (form spot next x forms end w d f) (suc n) k =
      shown_piece (reading n) spot (first_piece spot.bytes) w
      ∙ (ap (λ o. with_form spot.place o (reading n)) (complete_form spot (Got x next) d)
      ∙ ap (λ (r : Reading). both (form_at spot.place x ∷ r.forms) r.end) (complete_all next forms end f n (omega (arith, progress _ _ _ (Got x next) d))))
  complete_all _ _ _ (fault spot place code w d) (suc n) k =
      shown_piece (reading n) spot (first_piece spot.bytes) w ∙ ap (λ o. with_form spot.place o (reading n)) (complete_form spot (Fault place code) d)

  abbrev SoundAll : ℕ → Type 0
  SoundAll n = (spot : Spot) → length spot.bytes < n → ReadsFrom names spot (reading n spot).forms (reading n spot).end

  form_sound : (n : ℕ) (spot : Spot) (o : Outcome) → SoundAll n → length spot.bytes < suc n → is_shown (first_piece spot.bytes) ≡ true → Gives names grammar.Form 0 spot o
      → ReadsFrom names spot (with_form spot.place o (reading n)).forms (with_form spot.place o (reading n)).end
  form_sound n spot (Got x next) s k w d = form spot next x _ _ w d (s next (omega (arith, progress _ _ _ (Got x next) d)))
  form_sound n spot (Fault place code) s k w d = fault spot place code w d

  piece_sound : (n : ℕ) (spot : Spot) (p : Piece) → SoundAll n → length spot.bytes < suc n → first_piece spot.bytes ≡ p → ReadsFrom names spot (by_piece (reading n) spot p).forms (by_piece (reading n) spot p).end
  piece_sound n spot Ended s k e = ended spot e
  piece_sound n spot (Gap count) s k e = reads.gap spot count _ _ e (s (past spot count) (omega (arith, gap_ahead spot count e)))
  piece_sound n spot Torn s k e = form_sound n spot _ s k (ap is_shown e) (sound (2 * length spot.bytes + 1) grammar.Form 0 spot (omega arith))
  piece_sound n spot (Part count l) s k e = form_sound n spot _ s k (ap is_shown e) (sound (2 * length spot.bytes + 1) grammar.Form 0 spot (omega arith))
  piece_sound n spot (Faulty count c) s k e = form_sound n spot _ s k (ap is_shown e) (sound (2 * length spot.bytes + 1) grammar.Form 0 spot (omega arith))

  pub sound_all : (n : ℕ) → SoundAll n
  sound_all zero spot k = absurd (omega arith)
  sound_all (suc n) spot k = piece_sound n spot (first_piece spot.bytes) (sound_all n) k refl

  -- two readings of one text are one
  pub one_reading : (spot : Spot) (forms others : List Form) (end other : End) → ReadsFrom names spot forms end → ReadsFrom names spot others other → (forms ≡ others) × (end ≡ other)
  one_reading spot forms others end other d f =
      let e = sym (complete_all spot forms end d (suc (length spot.bytes)) (omega arith)) ∙ complete_all spot others other f (suc (length spot.bytes)) (omega arith) in
      (ap (λ (r : Reading). r.forms) e, ap (λ (r : Reading). r.end) e)

  pub some_reading : (spot : Spot) → (forms : List Form) × (end : End) × ReadsFrom names spot forms end
  some_reading spot = (_, _, sound_all (suc (length spot.bytes)) spot (omega arith))
