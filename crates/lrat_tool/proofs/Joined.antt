-- Logs of parts, put together.
use Rattle.std.proofs.Common.{◌≡◌, ◌∙◌, ap, sym, subst, refl, ℕ, zero, suc, ℤ, ◌+◌, ◌<◌, Bool, false, List, [], ◌∷◌, ◌++◌, map, length, get_or, drop, arith, Result, Ok}
use Rattle.std.specs.List.{list_any}
use Rattle.std.proofs.lemmas.List.{drop_all, drop_more, get_or-map, length-append, length-map}
use Rattle.lrat_tool.specs.Flat.{FlatSeen}
use Rattle.lrat_tool.specs.Held.{HasEntry, IsHeld, Rises, last_id}
use Rattle.lrat_tool.specs.HintWords.{held_of}
use Rattle.lrat_tool.specs.Judgements.{is_below_zero}
use Rattle.lrat_tool.specs.Logs.{LogEntry}
use Rattle.lrat_tool.specs.Parts.{AreEven, AreJoined, EachRead, IsLogIn, IsLogOf, IsReadOf, entry_at, later, lines_joined}
use Rattle.lrat_tool.specs.declared.bad_text.BadText.{BadText}
use Rattle.lrat_tool.specs.declared.log.Log.{Log}
use Rattle.lrat_tool.specs.declared.part_log.PartLog.{PartLog}
use Rattle.lrat_tool.proofs.Held.{held_more, many_hints, many_ids, many_lines, many_rats}
use Rattle.lrat_tool.proofs.Behind.{entries_joined}

pub are_even : (first : ℕ) (es : List LogEntry) (log : Log) → IsHeld first es log → AreEven log
are_even first es log h =
    let ids = many_ids first es log h in (
      sym ids,
      omega (arith, ids, many_hints first es log h),
      omega (arith, ids, many_lines first es log h),
      omega (arith, ids, many_rats first es log h),
    )

-- ---- an entry of another log
module _ (first : ℕ) (ds : List LogEntry) (other : Log) (others : IsHeld first ds other) (k : ℕ) (l : k < length ds) where
  abbrev none : LogEntry
  none = record { line = 0; id = 0; clause = []; hints = [] }

  clause_is : get_or other.clauses.lists k [] ≡ (entry_at ds k).clause
  clause_is = ap (λ (s : FlatSeen ℤ). get_or s.lists k []) others.clauses ∙ get_or-map (λ (e : LogEntry). e.clause) ds k none [] l

  hints_are : get_or other.hints.lists k [] ≡ map held_of (entry_at ds k).hints
  hints_are = ap (λ (s : FlatSeen ℕ). get_or s.lists k []) others.hints ∙ get_or-map (λ (e : LogEntry). map held_of e.hints) ds k none [] l

  id_is : get_or other.ids.items k 0 ≡ (entry_at ds k).id
  id_is = ap (λ (is : List ℕ). get_or is k 0) others.ids ∙ get_or-map (λ (e : LogEntry). e.id) ds k none 0 l

  line_is : get_or other.lines.items k 0 ≡ (entry_at ds k).line
  line_is = ap (λ (ls : List ℕ). get_or ls k 0) others.lines ∙ get_or-map (λ (e : LogEntry). e.line) ds k none 0 l

  rat_is : get_or other.rats.items k false ≡ list_any is_below_zero (entry_at ds k).hints
  rat_is = ap (λ (rs : List Bool). get_or rs k false) others.rats ∙ get_or-map (λ (e : LogEntry). list_any is_below_zero e.hints) ds k none false l

  small_is : get_or other.ids.items k 0 < 4294967296
  small_is = others.small k 0 (omega (arith, l, ap length others.ids, length-map ds (λ (e : LogEntry). e.id)))

  module _ (es : List LogEntry) (old mid new : Log) (id line lines : ℕ) (below : Bool) (held : IsHeld first es old) (rises : last_id first old.ids.items < id)
      (same_id : id ≡ get_or other.ids.items k 0) (same_line : line ≡ get_or other.lines.items k 0 + lines) (same_rat : below ≡ get_or other.rats.items k false)
      (clauses : mid.clauses ≡ record { lists = old.clauses.lists; rest = old.clauses.rest ++ get_or other.clauses.lists k [] })
      (hints : mid.hints ≡ record { lists = old.hints.lists; rest = old.hints.rest ++ get_or other.hints.lists k [] })
      (ids : mid.ids.items ≡ old.ids.items) (numbers : mid.lines.items ≡ old.lines.items) (rats : mid.rats.items ≡ old.rats.items) (ended : HasEntry mid id line below new) where
    there : line ≡ lines + (entry_at ds k).line
    there = omega (arith, same_line, line_is)

    pub put_behind : IsHeld first (es ++ later lines (entry_at ds k) ∷ []) new
    put_behind =
        let named : id ≡ (entry_at ds k).id = same_id ∙ id_is in
        held_more first es old mid new (later lines (entry_at ds k)) below held
        (subst (λ (n : ℕ). last_id first old.ids.items < n) named rises)
        (subst (λ (n : ℕ). n < 4294967296) id_is small_is)
        (clauses ∙ ap (λ (c : List ℤ). record { lists = old.clauses.lists; rest = old.clauses.rest ++ c }) clause_is)
        (hints ∙ ap (λ (hs : List ℕ). record { lists = old.hints.lists; rest = old.hints.rest ++ hs }) hints_are)
        ids numbers rats (same_rat ∙ rat_is)
        (subst (λ (n : ℕ). HasEntry mid (entry_at ds k).id n below new) there (subst (λ (n : ℕ). HasEntry mid n line below new) named ended))

-- ---- the log of a part behind that of those before
pub log_behind : (first : ℕ) (old next new : PartLog)
    → ((es ds : List LogEntry) → IsHeld first es old.log → IsHeld first ds next.log → IsHeld first (es ++ map (later old.lines) ds) new.log)
    → new.lines ≡ old.lines + next.lines → (ls ms : List (List ℕ)) → IsLogOf first ls old → IsLogOf first ms next → IsLogOf first (ls ++ ms) new
log_behind first old next new put many ls ms h g =
    let es = h.0.0 in
    let ds = g.0.0 in
    let held = put es ds h.0.2 g.0.2 in (
      (es ++ map (later old.lines) ds, entries_joined ls ms first old.lines es ds h.1 h.0.1 g.0.1 (subst (Rises first) held.ids held.rises), held),
      omega (arith, many, h.1, g.1, length-append ls ms),
    )

-- ---- parts that were read, from the list's end on
at_end : {X : Type 0} (xs : List X) (x d : X) → get_or (xs ++ x ∷ []) (length xs) d ≡ x
at_end [] x d = refl
at_end {X} (y ∷ xs) x d = at_end xs x d

before_end : {X : Type 0} (xs ys : List X) (i : ℕ) (d : X) → i < length xs → get_or (xs ++ ys) i d ≡ get_or xs i d
before_end [] ys i d l = absurd (omega (arith, l))
before_end (x ∷ xs) ys zero d l = refl
before_end {X} (x ∷ xs) ys (suc i) d l = before_end xs ys i d (omega (arith, l))

pub joined_none : (first : ℕ) (parts : List (List (List ℕ))) (reads : List (Result PartLog BadText)) (whole : PartLog) → length parts ≡ length reads → EachRead first parts reads → IsLogOf first [] whole → AreJoined first parts reads whole
joined_none first parts reads whole many each log =
    (omega (arith, many), each, subst (λ (ls : List (List ℕ)). IsLogOf first ls whole) (sym (ap lines_joined (drop_all (length reads) parts (omega (arith, many))))) log)

pub joined_all : (first : ℕ) (parts : List (List (List ℕ))) (reads : List (Result PartLog BadText)) (whole : PartLog) → length reads ≡ 0 → AreJoined first parts reads whole → IsLogIn first (lines_joined parts) whole.log
joined_all first parts reads whole none h = subst (λ (n : ℕ). IsLogIn first (lines_joined (drop n parts)) whole.log) none h.2.0

module _ (first : ℕ) (parts : List (List (List ℕ))) (rest : List (Result PartLog BadText)) (part old new : PartLog) where
  many : length (rest ++ Ok part ∷ []) ≡ length rest + 1
  many = length-append rest (Ok part ∷ [])

  pub last_more : AreJoined first parts (rest ++ Ok part ∷ []) old → IsLogOf first (get_or parts (length rest) []) part
  last_more h = subst (IsReadOf first (get_or parts (length rest) [])) (at_end rest (Ok part) (Ok part)) (h.1 (length rest) [] (Ok part) (omega (arith, many)))

  joined_more : AreJoined first parts (rest ++ Ok part ∷ []) old → ((ls ms : List (List ℕ)) → IsLogOf first ls old → IsLogOf first ms part → IsLogOf first (ls ++ ms) new) → AreJoined first parts rest new
  joined_more h step =
      let n = length rest in
      let inside : n < length parts = omega (arith, h.0, many) in
      let before = subst (λ (k : ℕ). IsLogOf first (lines_joined (drop k parts)) old) many h.2 in (
        omega (arith, inside),
        (λ i ls r l. subst (IsReadOf first (get_or parts i ls)) (before_end rest (Ok part ∷ []) i r l) (h.1 i ls r (omega (arith, l, many)))),
        subst (λ (ls : List (List ℕ)). IsLogOf first ls new) (sym (ap lines_joined (drop_more parts n [] inside))) (step (lines_joined (drop (n + 1) parts)) (get_or parts n []) before (last_more h)),
      )

pub joined_next : (first : ℕ) (parts : List (List (List ℕ))) (reads rest : List (Result PartLog BadText)) (part old new : PartLog) → reads ≡ rest ++ Ok part ∷ [] → AreJoined first parts reads old
    → ((ls ms : List (List ℕ)) → IsLogOf first ls old → IsLogOf first ms part → IsLogOf first (ls ++ ms) new) → AreJoined first parts rest new
joined_next first parts reads rest part old new is h step = joined_more first parts rest part old new (subst (λ (rs : List (Result PartLog BadText)). AreJoined first parts rs old) is h) step

pub last_read : (first : ℕ) (parts : List (List (List ℕ))) (reads rest : List (Result PartLog BadText)) (part old : PartLog) → reads ≡ rest ++ Ok part ∷ [] → AreJoined first parts reads old → (ls : List (List ℕ)) × IsLogOf first ls part
last_read first parts reads rest part old is h = (get_or parts (length rest) [], last_more first parts rest part old old (subst (λ (rs : List (Result PartLog BadText)). AreJoined first parts rs old) is h))
