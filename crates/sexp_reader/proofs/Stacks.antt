-- The steps of a whole stack.
use Rattle.std.proofs.Common.{◌≡◌, ◌∙◌, sym, ap, subst, ℕ, List, [], ◌∷◌, ◌++◌, Result, Ok, Err, OnOk}
use Rattle.std.specs.Prelude.{reverse}
use Rattle.std.proofs.lemmas.Option.{same_Some}
use Rattle.gl_logic.specs.Object.{Object}
use Rattle.gl_logic.specs.declared.ids.TextId.{TextId}
use Rattle.sexp_reader.specs.declared.place.Place.{Place}
use Rattle.sexp_reader.specs.declared.list.Form.{Form}
use Rattle.sexp_reader.specs.declared.ends.End.{End}
use Rattle.sexp_reader.specs.declared.lexeme.Mark.{Mark}
use Rattle.sexp_reader.specs.declared.lexeme.Atom.{Atom}
use Rattle.sexp_reader.specs.declared.lexeme.Piece.{Piece}
use Rattle.sexp_reader.specs.declared.lexeme.Piece.TheVariants.{Gap, Part}
use Rattle.sexp_reader.specs.declared.lexeme.Lexeme.TheVariants as lexeme
use Rattle.sexp_reader.specs.declared.stack.ListEnd.TheVariants.{Plain, Dotted}
use Rattle.sexp_reader.specs.declared.stack.OpenList.{OpenList}
use Rattle.sexp_reader.specs.declared.stack.Frame.{Frame}
use Rattle.sexp_reader.specs.declared.stack.Frame.TheVariants as frame
use Rattle.sexp_reader.specs.declared.stack.Stack.{Stack}
use Rattle.sexp_reader.specs.Pieces.{count_of}
use Rattle.sexp_reader.specs.Grammar.{Spot, past, Got, place_in, object_of, mark_text}
use Rattle.sexp_reader.specs.Stack.{listed, tail_of, inner_first, begun, flaw_in, Leads, GoesIn, Goes, Follows, CanStandIn, CanStand, FollowsPiece}
use Rattle.sexp_reader.proofs.Frames.{inner_last, reads_atom, passes, opens_list, opens_prefix, closes_list, dots_list, no_close, no_dot, prefix_no_close, prefix_no_dot}

pub on_ok : {A E P Q : Type 0} (r : Result A E) → (P → Q) → OnOk r P → OnOk r Q
on_ok (Ok x) f h = f h
on_ok (Err e) f h = tt

-- equal parts go on alike
goes_by : (names : List (List ℕ)) (b b' : Place) (d d' : List Form) (f f' : List Frame) (spot : Spot) (forms : List Form) (end : End) → b ≡ b' → d ≡ d' → f ≡ f'
    → GoesIn names b d f spot forms end → GoesIn names b' d' f' spot forms end
goes_by names b b' d d' f f' spot forms end eb ed ef = subst (λ (t : Type 0). t) (λ i. GoesIn names (eb i) (ed i) (ef i) spot forms end)

module _ (names : List (List ℕ)) (old : Stack) (place : Place) where
  abbrev begins : Place
  begins = begun place old.begin (inner_first old)

  begun_here : (spot : Spot) → spot.place ≡ place → begins ≡ begun spot.place old.begin (inner_first old)
  begun_here spot p = ap (λ q. begun q old.begin (inner_first old)) (sym p)

  pub opened : (new : Stack) (l : OpenList) → new.forms ≡ old.forms → new.begin ≡ begins → new.frames.items ≡ old.frames.items ++ frame.List l ∷ [] → l.elements.items ≡ [] → l.end ≡ Plain
      → CanStand old lexeme.Open → Follows names old place lexeme.Open new
  opened new l ef eb ei x q can spot count forms end p e h =
      opens_list names old.forms forms end old.begin (inner_first old) spot count l x q e (can spot count)
      (goes_by names _ _ _ _ _ _ (past spot count) forms end (eb ∙ begun_here spot p) ef (inner_last new.frames.items old.frames.items (frame.List l) ei) h)

  pub prefixed : (new : Stack) (mark : Mark) (symbol : TextId) → new.forms ≡ old.forms → new.begin ≡ begins → new.frames.items ≡ old.frames.items ++ frame.Prefix symbol ∷ [] → symbol.number ≡ place_in names (mark_text mark)
      → CanStand old (lexeme.Prefix mark) → Follows names old place (lexeme.Prefix mark) new
  prefixed new mark symbol ef eb ei m can spot count forms end p e h =
      opens_prefix names old.forms forms end old.begin (inner_first old) spot count mark symbol m e (can spot count)
      (goes_by names _ _ _ _ _ _ (past spot count) forms end (eb ∙ begun_here spot p) ef (inner_last new.frames.items old.frames.items (frame.Prefix symbol) ei) h)

  pub atomic : (middle new : Stack) (leaf : Atom) (tree : Object) → middle.forms ≡ old.forms → middle.frames ≡ old.frames → middle.begin ≡ begins → tree ≡ object_of names leaf
      → ((next : Spot) (forms : List Form) (end : End) → Goes names new next forms end → Leads names middle.begin middle.forms (Got tree next) (inner_first middle) forms end)
      → CanStand old (lexeme.Atom leaf) → Follows names old place (lexeme.Atom leaf) new
  atomic middle new leaf tree ef ei eb t give can spot count forms end p e h =
      reads_atom names old.forms forms end old.begin (inner_first old) spot count leaf e (can spot count)
      (subst (λ (k : Type 0). k) (λ i. Leads names ((eb ∙ begun_here spot p) i) (ef i) (Got (t i) (past spot count)) (reverse (ei i).items) forms end) (give (past spot count) forms end h))

  pub closed : (new : Stack) (rest : List Frame) (l : OpenList) (tree : Object) → old.frames.items ≡ rest ++ frame.List l ∷ [] → tree ≡ listed l.elements.items (tail_of l.end)
      → ((next : Spot) (forms : List Form) (end : End) → Goes names new next forms end → Leads names old.begin old.forms (Got tree next) (reverse rest) forms end)
      → CanStand old lexeme.Close → Follows names old place lexeme.Close new
  closed new rest l tree ei t give can spot count forms end p e h =
      let inner = inner_last old.frames.items rest (frame.List l) ei in
      subst (λ fs. GoesIn names old.begin old.forms fs spot forms end) (sym inner)
      (closes_list names old.forms forms end old.begin (reverse rest) spot count l e (ap (λ fs. flaw_in fs spot (Part count lexeme.Close)) (sym inner) ∙ can spot count)
      (subst (λ x. Leads names old.begin old.forms (Got x (past spot count)) (reverse rest) forms end) t (give (past spot count) forms end h)))

  pub dotted : (new : Stack) (rest : List Frame) (l m : OpenList) → new.forms ≡ old.forms → new.begin ≡ old.begin → old.frames.items ≡ rest ++ frame.List l ∷ [] → new.frames.items ≡ rest ++ frame.List m ∷ []
      → m.elements.items ≡ l.elements.items → m.end ≡ Dotted → CanStand old lexeme.Dot → Follows names old place lexeme.Dot new
  dotted new rest l m ef eb ei en x q can spot count forms end p e h =
      let inner = inner_last old.frames.items rest (frame.List l) ei in
      subst (λ fs. GoesIn names old.begin old.forms fs spot forms end) (sym inner)
      (dots_list names old.forms forms end old.begin (reverse rest) spot count l m x q e (ap (λ fs. flaw_in fs spot (Part count lexeme.Dot)) (sym inner) ∙ can spot count)
      (goes_by names _ _ _ _ _ _ (past spot count) forms end eb ef (inner_last new.frames.items rest (frame.List m) en) h))

-- a gap
pub gap_follows : (names : List (List ℕ)) (stack : Stack) (place : Place) (piece : Piece) (n : ℕ) → piece ≡ Gap n → FollowsPiece names stack place piece stack
gap_follows names stack place piece n g spot count forms end p e k h =
    let same : n ≡ count = same_Some n count (sym (ap count_of g) ∙ k) in
    passes names stack.forms forms end stack.begin (inner_first stack) spot count (e ∙ (g ∙ ap Gap same)) h

-- ---- what can't be
module _ (old : Stack) (rest : List Frame) (f : Frame) (symbol : TextId) (ei : old.frames.items ≡ rest ++ f ∷ []) (ef : f ≡ frame.Prefix symbol) where
  inside_prefix : inner_first old ≡ frame.Prefix symbol ∷ reverse rest
  inside_prefix = inner_last old.frames.items rest f ei ∙ ap (λ g. g ∷ reverse rest) ef

  pub closes_prefix : CanStand old lexeme.Close → ⊥
  closes_prefix can = prefix_no_close symbol (reverse rest) (subst (λ fs. CanStandIn fs lexeme.Close) inside_prefix can)

  pub dots_prefix : CanStand old lexeme.Dot → ⊥
  dots_prefix can = prefix_no_dot symbol (reverse rest) (subst (λ fs. CanStandIn fs lexeme.Dot) inside_prefix can)

pub closes_nothing : (old : Stack) → old.frames.items ≡ [] → CanStand old lexeme.Close → ⊥
closes_nothing old e can = no_close (subst (λ fs. CanStandIn fs lexeme.Close) (ap reverse e) can)

pub dots_nothing : (old : Stack) → old.frames.items ≡ [] → CanStand old lexeme.Dot → ⊥
dots_nothing old e can = no_dot (subst (λ fs. CanStandIn fs lexeme.Dot) (ap reverse e) can)
