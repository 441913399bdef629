-- The reading of a text, piece by piece.
use Rattle.std.proofs.Common.{◌≡◌, ◌∙◌, sym, ap, subst, refl, ℕ, List, take, drop, ◌<◌, ◌≤◌, arith, Some, None}
use Rattle.std.proofs.lemmas.Option.{same_Some}
use Rattle.sexp_reader.specs.declared.place.Place.{Place}
use Rattle.sexp_reader.specs.declared.flaw.Flaw.{Flaw}
use Rattle.sexp_reader.specs.declared.list.Form.{Form}
use Rattle.sexp_reader.specs.declared.ends.End.{End}
use Rattle.sexp_reader.specs.declared.ends.End.TheVariants.{Clean}
use Rattle.sexp_reader.specs.declared.lexeme.Piece.{Piece}
use Rattle.sexp_reader.specs.declared.lexeme.Piece.TheVariants.{Ended, Torn, Gap, Part, Faulty}
use Rattle.sexp_reader.specs.declared.stack.Frame.{Frame}
use Rattle.sexp_reader.specs.declared.stack.Stack.{Stack}
use Rattle.sexp_reader.specs.Places.{behind}
use Rattle.sexp_reader.specs.Pieces.{first_piece, count_of, Spans}
use Rattle.sexp_reader.specs.Grammar.{Spot}
use Rattle.sexp_reader.specs.Reads.{bad_at}
use Rattle.sexp_reader.specs.Stack.{inner_first, flaw_in, MayStand, Goes, FollowsPiece}
use Rattle.sexp_reader.proofs.Frames.{can_stand, flawed, stops, IsStop}

-- what has no flaw may stand
pub may_stand : (frames : List Frame) (spot : Spot) (p : Piece) → flaw_in frames spot p ≡ None → MayStand frames p
may_stand frames spot (Part count what) e = can_stand frames spot count what e
may_stand frames spot (Gap count) e = tt
may_stand frames spot Ended e = tt
may_stand frames spot Torn e = tt
may_stand frames spot (Faulty count code) e = tt

-- a piece that goes on has one byte at least, and no more than are left
pub count_spans : (most : ℕ) (p : Piece) (n : ℕ) → Spans most p → count_of p ≡ Some n → (0 < n) × (n ≤ most)
count_spans most (Gap count) n s e = let same = same_Some count n e in (omega (arith, s.0), omega (arith, s.1))
count_spans most (Part count what) n s e = let same = same_Some count n e in (omega (arith, s.0), omega (arith, s.1))
count_spans most Ended n s e = absurd (cc)
count_spans most Torn n s e = absurd (cc)
count_spans most (Faulty count code) n s e = absurd (cc)

stop_of : (p : Piece) → count_of p ≡ None → IsStop p
stop_of (Gap count) e = absurd (cc)
stop_of (Part count what) e = absurd (cc)
stop_of Ended e = tt
stop_of Torn e = tt
stop_of (Faulty count code) e = tt

module _ (names : List (List ℕ)) (stack : Stack) (place : Place) (rest : List ℕ) (p : Piece) (is : p ≡ first_piece rest) where
  abbrev here : Spot
  here = record { place = place; bytes = rest }

  -- the forms before a flaw
  pub ends_bad : (f : Flaw) (forms : List Form) (end : End) → Some f ≡ flaw_in (inner_first stack) here p → forms ≡ stack.forms → end ≡ bad_at f.place f.code → Goes names stack here forms end
  ends_bad f forms end e = flawed names stack.forms forms end stack.begin (inner_first stack) here f (ap (flaw_in (inner_first stack) here) (sym is) ∙ sym e)

  -- the forms of the whole
  pub ends_clean : (forms : List Form) (end : End) → None ≡ flaw_in (inner_first stack) here p → count_of p ≡ None → forms ≡ stack.forms → end ≡ Clean → Goes names stack here forms end
  ends_clean forms end e n = stops names stack.forms forms end stack.begin (inner_first stack) here p (stop_of p n) (sym is) (sym e)

  -- a piece that goes on
  pub goes_on : (new : Stack) (count : ℕ) (next : Place) (back : List ℕ) (forms : List Form) (end : End) → FollowsPiece names stack place p new → count_of p ≡ Some count
      → next ≡ behind place (take count rest) → back ≡ drop count rest → Goes names new (record { place = next; bytes = back }) forms end → Goes names stack here forms end
  goes_on new count next back forms end follows n en eb h =
      follows here count forms end refl (sym is) n (subst (λ (t : Type 0). t) (λ i. Goes names new (record { place = en i; bytes = eb i }) forms end) h)
