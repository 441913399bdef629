-- Entries, held one after another.
use Rattle.std.proofs.Common.{◌≡◌, ◌∙◌, ap, sym, subst, refl, ℕ, ℤ, ◌<◌, Bool, true, false, cond, List, [], ◌∷◌, ◌++◌, map, length, Option, Some, None}
use Rattle.std.specs.Prelude.{◌||◌, option_map}
use Rattle.std.specs.List.{All, list_any}
use Rattle.std.proofs.lemmas.List.Elements.{All-append, All-cons, All-nil}
use Rattle.std.proofs.lemmas.List.{append_assoc, length-map, map-append}
use Rattle.std.proofs.lemmas.List.Folds.{list_any-append}
use Rattle.gl_logic.proofs.Optional.{none_some}
use Rattle.lrat_tool.specs.Flat.{FlatSeen}
use Rattle.lrat_tool.specs.Held.{HasEntry, IsHeld, LineRead, Rises, last_id}
use Rattle.lrat_tool.specs.HintWords.{held_of, hint_of, is_below}
use Rattle.lrat_tool.specs.Judgements.{is_below_zero}
use Rattle.lrat_tool.specs.Logs.{LineMeant, Nothing, Clause, Bad, LogEntry}
use Rattle.lrat_tool.specs.declared.log.Log.{Log}
use Rattle.lrat_tool.specs.declared.number.Hint.{Hint}
use Rattle.lrat_tool.proofs.Ids.{below_is, rises_push}

-- a hint's word, and what it says
abbrev hint_or : Hint → Option Hint → Hint
hint_or h None = h
hint_or h (Some k) = k

pub hint_said : (o : Option ℤ) (h : Hint) → option_map hint_of o ≡ Some h → (z : ℤ) × (o ≡ Some z) × (hint_of z ≡ h)
hint_said None h e = none_some _ e
hint_said (Some z) h e = (z, refl, ap (hint_or h) e)

-- literals with one more
pub rest_more : {X : Type 0} (lists : List (List X)) (rest zs : List X) (z : X) (s t : FlatSeen X) → s ≡ record { lists = lists; rest = rest ++ zs } → t ≡ record { lists = s.lists; rest = s.rest ++ z ∷ [] }
    → t ≡ record { lists = lists; rest = rest ++ (zs ++ z ∷ []) }
rest_more {X} lists rest zs z s t was is =
    is ∙ ap (λ (f : FlatSeen X). record { lists = f.lists; rest = f.rest ++ z ∷ [] }) was ∙ ap (λ (l : List X). record { lists = lists; rest = l }) (append_assoc rest zs (z ∷ []))

-- hints with one more
pub hints_more : (lists : List (List ℕ)) (rest : List ℕ) (zs : List ℤ) (z : ℤ) (s t : FlatSeen ℕ) → s ≡ record { lists = lists; rest = rest ++ map held_of zs }
    → t ≡ record { lists = s.lists; rest = s.rest ++ held_of z ∷ [] } → t ≡ record { lists = lists; rest = rest ++ map held_of (zs ++ z ∷ []) }
hints_more lists rest zs z s t was is =
    rest_more lists rest (map held_of zs) (held_of z) s t was is
    ∙ ap (λ (l : List ℕ). record { lists = lists; rest = rest ++ l }) (sym (map-append held_of zs (z ∷ [])))

either : (a b : Bool) → (a || b) ≡ (a || (b || false))
either true b = refl
either false true = refl
either false false = refl

pub below_more : (zs : List ℤ) (z : ℤ) (h : Hint) (old new : Bool) → hint_of z ≡ h → old ≡ list_any is_below_zero zs → new ≡ (old || is_below h) → new ≡ list_any is_below_zero (zs ++ z ∷ [])
below_more zs z h old new is was now =
    now ∙ (λ i. was i || (ap is_below (sym is) ∙ below_is z) i) ∙ either (list_any is_below_zero zs) (is_below_zero z) ∙ sym (list_any-append is_below_zero zs (z ∷ []))

-- an entry more
module _ (first : ℕ) (es : List LogEntry) (old mid new : Log) (e : LogEntry) (below : Bool) (held : IsHeld first es old) (later : last_id first old.ids.items < e.id) (small : e.id < 4294967296)
    (clauses : mid.clauses ≡ record { lists = old.clauses.lists; rest = old.clauses.rest ++ e.clause })
    (hints : mid.hints ≡ record { lists = old.hints.lists; rest = old.hints.rest ++ map held_of e.hints })
    (ids : mid.ids.items ≡ old.ids.items) (lines : mid.lines.items ≡ old.lines.items) (rats : mid.rats.items ≡ old.rats.items)
    (is_below : below ≡ list_any is_below_zero e.hints) (ended : HasEntry mid e.id e.line below new) where
  numbers : new.ids.items ≡ old.ids.items ++ e.id ∷ []
  numbers = ended.ids ∙ ap (λ (l : List ℕ). l ++ e.id ∷ []) ids

  pub held_more : IsHeld first (es ++ e ∷ []) new
  held_more = record {
    clauses = ended.clauses
        ∙ ap (λ (s : FlatSeen ℤ). record { lists = s.lists ++ s.rest ∷ []; rest = [] }) (clauses ∙ ap (λ (s : FlatSeen ℤ). record { lists = s.lists; rest = s.rest ++ e.clause }) held.clauses)
        ∙ ap (λ (l : List (List ℤ)). record { lists = l; rest = [] }) (sym (map-append (λ d. d.clause) es (e ∷ [])));
    hints = ended.hints
        ∙ ap (λ (s : FlatSeen ℕ). record { lists = s.lists ++ s.rest ∷ []; rest = [] }) (hints ∙ ap (λ (s : FlatSeen ℕ). record { lists = s.lists; rest = s.rest ++ map held_of e.hints }) held.hints)
        ∙ ap (λ (l : List (List ℕ)). record { lists = l; rest = [] }) (sym (map-append (λ d. map held_of d.hints) es (e ∷ [])));
    ids = numbers ∙ ap (λ (l : List ℕ). l ++ e.id ∷ []) held.ids ∙ sym (map-append (λ d. d.id) es (e ∷ []));
    lines = ended.lines ∙ ap (λ (l : List ℕ). l ++ e.line ∷ []) (lines ∙ held.lines) ∙ sym (map-append (λ d. d.line) es (e ∷ []));
    rats = ended.rats ∙ (λ i. (rats ∙ held.rats) i ++ is_below i ∷ []) ∙ sym (map-append (λ d. list_any is_below_zero d.hints) es (e ∷ []));
    rises = subst (Rises first) (sym numbers) (rises_push first old.ids.items e.id held.rises later);
    small = subst (All (λ id. id < 4294967296)) (sym numbers) (All-append (λ (id : ℕ). id < 4294967296) old.ids.items (e.id ∷ []) held.small (All-cons (λ (id : ℕ). id < 4294967296) e.id [] small (All-nil (λ (id : ℕ). id < 4294967296))));
  }

-- ---- what a line leaves
module _ (first : ℕ) (es : List LogEntry) (new : Log) where
  pub bad_line : (m : LineMeant) → m ≡ Bad → LineRead first es new m false
  bad_line m e = subst (λ (l : LineMeant). LineRead first es new l false) (sym e) refl

  pub empty_line : (m : LineMeant) → m ≡ Nothing → IsHeld first es new → LineRead first es new m true
  empty_line m e h = subst (λ (l : LineMeant). LineRead first es new l true) (sym e) (refl, h)

  pub entry_line : (m : LineMeant) (e : LogEntry) → m ≡ Clause e → IsHeld first (es ++ e ∷ []) new → LineRead first es new m true
  entry_line m e is h = subst (λ (l : LineMeant). LineRead first es new l true) (sym is) (refl, h)

  deletion_by : (b : Bool) → IsHeld first es new → LineRead first es new (cond b Nothing Bad) b
  deletion_by true h = (refl, h)
  deletion_by false h = refl

  pub deletion_line : (m : LineMeant) (b : Bool) → m ≡ cond b Nothing Bad → IsHeld first es new → LineRead first es new m b
  deletion_line m b e h = subst (λ (l : LineMeant). LineRead first es new l b) (sym e) (deletion_by b h)

-- ---- as many as the entries
module _ (first : ℕ) (es : List LogEntry) (log : Log) (held : IsHeld first es log) where
  many_clauses : length log.clauses.lists ≡ length es
  many_clauses = ap (λ (s : FlatSeen ℤ). length s.lists) held.clauses ∙ length-map es (λ (e : LogEntry). e.clause)

  pub many_hints : length log.hints.lists ≡ length log.clauses.lists
  many_hints = ap (λ (s : FlatSeen ℕ). length s.lists) held.hints ∙ length-map es (λ (e : LogEntry). map held_of e.hints) ∙ sym many_clauses

  pub many_ids : length log.ids.items ≡ length log.clauses.lists
  many_ids = ap (λ (l : List ℕ). length l) held.ids ∙ length-map es (λ (e : LogEntry). e.id) ∙ sym many_clauses

  pub many_rats : length log.rats.items ≡ length log.clauses.lists
  many_rats = ap (λ (l : List Bool). length l) held.rats ∙ length-map es (λ (e : LogEntry). list_any is_below_zero e.hints) ∙ sym many_clauses

  pub many_lines : length log.lines.items ≡ length log.clauses.lists
  many_lines = ap (λ (l : List ℕ). length l) held.lines ∙ length-map es (λ (e : LogEntry). e.line) ∙ sym many_clauses
