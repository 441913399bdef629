-- States of a book's first form.
use Rattle.std.proofs.Common.{◌≡◌, ◌∙◌, ap, sym, refl, subst, ℕ, zero, suc, ◌+◌, ◌≤◌, ◌<◌, ◌||◌, true, false, List, [], ◌∷◌, length, get_or, drop, Option, Some, None, slice_get, inl, inr, arith}
use Rattle.std.specs.Prelude.{Result, Ok, Err, bytes_eq, fold, pos}
use Rattle.std.specs.List.{list_any}
use Rattle.std.proofs.lemmas.Bool.{cases_Bool}
use Rattle.std.proofs.lemmas.List.Sums.{fold-append}
use Rattle.std.proofs.lemmas.Option.{slice_get-get_or}
use Rattle.gl_logic.specs.Object.{Object, Int, Symbol, Cons}
use Rattle.gl_logic.specs.Exp.{Exp}
use Rattle.gl_logic.specs.Definition.{Definition}
use Rattle.gl_logic.specs.IsGround.{IsGround}
use Rattle.gl_logic.specs.IsAdmissible.{IsAdmissible}
use Rattle.gl_logic.specs.Names.{IsTable, Extends, with_name, first_names}
use Rattle.gl_logic.specs.WorldSeen.{WorldSeen, IsWorld, with_definition}
use Rattle.gl_logic.specs.declared.def.Measure.{Measure}
use Rattle.gl_logic.proofs.Tables.{table_with}
use Rattle.gl_logic.proofs.Worlds.{world_push, clique_of_one, no_world}
use Rattle.gl_logic.specs.NameSets.{are_different}
use Rattle.gl_translate.specs.Translation.{translation}
use Rattle.gl_translate.specs.declared.scope.Scope.{Scope}
use Rattle.gl_translate.proofs.Whole.{meant_proper}
use Rattle.admission.specs.Admitted.{verdict, definition, refused_alone}
use Rattle.admission.proofs.LoneDefinitions.{none_refused, verdict_none, verdict_measured, measured_found}
use Rattle.shape_spec.specs.declared.theorem.Mode.TheVariants as mode
use Rattle.sexp_reader.specs.declared.list.Form.{Form}
use Rattle.sexp_reader.specs.declared.ends.End.{End}
use Rattle.sexp_reader.specs.Reads.{start}
use Rattle.sexp_reader.proofs.Exact.{some_reading}
use Rattle.sexp_reader.proofs.FirstTable.{first_table}
use Rattle.event_world.specs.NextState.{BookState}
use Rattle.event_world.specs.Prelude.{IsPrelude}
use Rattle.event_world.specs.PreludeTexts.{ground_texts}
use Rattle.event_world.specs.OpeningNames.{opening_names}
use Rattle.event_world.specs.PreludeForms.{Source, Word, Number, Pair, Spells, forms_in, words_read}
use Rattle.event_world.specs.PreludeTerms.{named}
use Rattle.event_world.specs.PreludeRows.{HoldsFirst, IsNext, body_at, formals_in, symbols_of}
use Rattle.event_world.proofs.PreludeTables.{same_text, spells_more}
use Rattle.event_world.proofs.OpeningTables.{still_same, table_gaining, extends_gaining, words_of_texts, ground_words_read, has_empty, one_text_more, no_text_left}
use Rattle.gl_logic.proofs.GrownTables.{extends_same}
use Rattle.event_world.proofs.PreludeRows.{row, how_many_texts}
use Rattle.event_world.proofs.PreludeParts.{Parts, parts_of, symbols_spelled}
use Rattle.event_world.proofs.PreludeWorlds.{later_holds, is_prelude, none_held, apart_formals, all_apart, next_means, is_the_ground_one, is_admitted, its_title, its_variables, holds_more}
use Rattle.book_state.specs.States.{IsFirstState, CanGoOn}
use Rattle.book_state.specs.Reading.{IsReadBy}
use Rattle.sexp_reader.specs.Gathers.{Gathers, Numbers}
use Rattle.sexp_reader.proofs.Gathering.{gathers_table, gathers_extends}
use Rattle.sexp_reader.proofs.Tabled.{has_it}

-- ---- later tables
holds_all : (names : List (List ℕ)) (w : WorldSeen) → IsPrelude names w → HoldsFirst 43 names w
holds_all names w p = record {
  count = p.count;
  same_ground = p.same_ground;
  named = p.named;
  variables = p.variables;
  measured = p.measured;
  cliques = p.cliques;
  constants = p.constants;
  events = p.events;
}

pub later_prelude : (names new : List (List ℕ)) (w : WorldSeen) → IsTable new → Extends names new → IsPrelude names w → IsPrelude new w
later_prelude names new w table grown p = is_prelude new w table (later_holds names new 43 w (omega arith) grown (holds_all names w p))

pub later_first : (names new : List (List ℕ)) (s : BookState) → IsTable new → Extends names new → IsFirstState names s → IsFirstState new s
later_first names new s table grown f = record { world = later_prelude names new s.world table grown f.world; mode = f.mode; memoized = f.memoized }

-- ---- a table with the words of a form
place_there : (w : List ℕ) (names : List (List ℕ)) → list_any (bytes_eq w) names ≡ true → (n : ℕ) × (slice_get names n ≡ Some w)
place_there w [] h = absurd cc
place_there w (x ∷ xs) h = elim (cases_Bool (bytes_eq w x)) [
  | inl e ↦ (0, ap Some (sym (same_text w x e)))
  | inr e ↦ let k = place_there w xs (sym (ap (λ b. b || list_any (bytes_eq w) xs) e) ∙ h) in (suc k.0, k.1)
]

abbrev HasForm : List (List ℕ) → Source → Type 0
HasForm names s = (x : Object) × Spells names x s

spelled : (names : List (List ℕ)) (s : Source) → HasForm (fold with_name names (words_read s)) s
spelled names (Word w) = let n = place_there w (with_name names w) (has_it names w) in (Symbol n.0, n.1)
spelled names (Number n) = (Int (pos n), refl)
spelled names (Pair s r) =
    let behind = fold with_name names (words_read r) in
    let d = spelled names r in
    let a = spelled behind s in
    subst (λ (ns : List (List ℕ)). HasForm ns (Pair s r)) (sym (fold-append with_name names (words_read r) (words_read s)))
    (Cons a.0 d.0, (a.1, spells_more behind (fold with_name behind (words_read s)) d.0 r (extends_gaining behind (words_read s)) d.1))

-- ---- the world of the first ground definitions
record Held (k : ℕ) : Type 0 where
  names : List (List ℕ)
  world : WorldSeen
  table : IsTable names
  holds : HoldsFirst k names world
  total : IsWorld world.definitions world.cliques
  leads : fold with_name names (words_of_texts (drop k ground_texts)) ≡ opening_names

none_yet : Held 0
none_yet = record {
  names = with_name first_names [];
  world = record { definitions = []; cliques = []; constants = []; events = [] };
  table = table_with first_names [] first_table;
  holds = none_held (with_name first_names []) (record { definitions = []; cliques = []; constants = []; events = [] }) refl refl refl refl;
  total = no_world;
  leads = ground_words_read first_names first_table;
}

abbrev measured_as : Option Measure → Result (Option Measure) ℕ
measured_as m = Ok m

admits_by : (f : ℕ) (vs : List ℕ) (t : Exp) (m : Option Measure) (o : Option ℕ) → refused_alone f vs t None ≡ o → verdict f vs t None ≡ measured_as m → (name : ℕ) → IsAdmissible f (definition name vs t m ∷ [])
admits_by f vs t m None h e name = let same : None ≡ m = let z = sym (verdict_none f vs t None h) ∙ e in cc in subst (λ (k : Option Measure). IsAdmissible f (definition name vs t k ∷ [])) same (none_refused f name vs t None h)
admits_by f vs t m (Some n) h e name = none_refused f name vs t m (measured_found (refused_alone f vs t) vs None m (sym (verdict_measured f vs t None n h) ∙ e)).0

module _ (k : ℕ) (small : k < 43) (so_far : Held k) where
  abbrev text : List ℕ
  text = get_or ground_texts k []

  at : slice_get ground_texts k ≡ Some text
  at = slice_get-get_or ground_texts k [] (omega (arith, small, how_many_texts))

  abbrev new : List (List ℕ)
  new = fold with_name so_far.names (words_read (forms_in text))

  new_table : IsTable new
  new_table = table_gaining so_far.names (words_read (forms_in text)) so_far.table

  grown : Extends so_far.names new
  grown = extends_gaining so_far.names (words_read (forms_in text))

  form : HasForm new (forms_in text)
  form = spelled so_far.names (forms_in text)

  its_parts : Parts new form.0 text
  its_parts = parts_of new form.0 text (subst (λ (s : Source). Spells new form.0 s) (row k text at).1.shape form.1)

  abbrev vars : List ℕ
  vars = symbols_of its_parts.formals

  next : IsNext new k its_parts.name vars its_parts.body
  next = record { text = text; at = at; spelled = its_parts.spelled; variables = symbols_spelled new its_parts.formals (formals_in text) its_parts.variables; body = its_parts.meant }

  held : HoldsFirst k new so_far.world
  held = later_holds so_far.names new k so_far.world (omega (arith, small)) grown so_far.holds

  apart : are_different vars ≡ true
  apart = apart_formals new k its_parts.name vars its_parts.body next new_table

  abbrev body : Exp
  body = named vars (body_at k)

  abbrev scope : Scope
  scope = record { vars = vars; every = false; own = (its_parts.name, length vars) ∷ [] }

  means : translation new so_far.world scope its_parts.body ≡ Ok body
  means = next_means new k its_parts.name vars its_parts.body next new new_table (extends_same new) so_far.world held ((its_parts.name, length vars) ∷ []) refl

  one_more : (v : Result (Option Measure) ℕ) → verdict k vars body None ≡ v → Held (suc k)
  one_more (Ok m) e =
      let d : Definition = record { name = its_parts.name; formals = vars; body = body; measure = m } in
      let ground = is_the_ground_one new k its_parts.name vars its_parts.body next apart body d refl refl in
      let c = sym so_far.holds.count in
      let clique = clique_of_one so_far.world.definitions d (all_apart vars apart) (meant_proper new so_far.world scope its_parts.body body means (d ∷ []) refl)
      (subst (λ (n : ℕ). IsGround n d) c ground)
      (subst (λ (n : ℕ). IsAdmissible n (d ∷ [])) c (admits_by k vars body m (refused_alone k vars body None) refl e its_parts.name)) in
      let further : k + 1 ≡ suc k = omega arith in
      record {
        names = new;
        world = with_definition so_far.world d;
        table = new_table;
        holds = subst (λ (n : ℕ). HoldsFirst n new (with_definition so_far.world d)) further
            (holds_more new new k so_far.world d (omega (arith, small)) (extends_same new) held ground (its_title new k its_parts.name vars its_parts.body next new (extends_same new)) (its_variables new k its_parts.name vars its_parts.body next new (extends_same new) vars refl) e);
        total = world_push so_far.world.definitions so_far.world.cliques (d ∷ []) so_far.total clique;
        leads = one_text_more so_far.names opening_names k text at so_far.leads;
      }
  one_more (Err i) e = absurd (is_admitted new k its_parts.name vars its_parts.body next apart body refl i e)

held_up_to : (k : ℕ) → k ≤ 43 → Held k
held_up_to zero h = none_yet
held_up_to (suc k) h = let so_far = held_up_to k (omega (arith, h)) in one_more k (omega (arith, h)) so_far (verdict k (vars k (omega (arith, h)) so_far) (body k (omega (arith, h)) so_far) None) refl

-- ---- the table that every book begins with, and a first state in it
pub record Opening : Type 0 where
  pub state : BookState
  pub table : IsTable opening_names
  pub begins : IsFirstState opening_names state
  pub can : CanGoOn state

pub opening : Opening
opening =
    let all = held_up_to 43 (omega arith) in
    let same : all.names ≡ opening_names = no_text_left all.names opening_names all.leads in
    let prelude = is_prelude all.names all.world all.table all.holds in
    record {
      state = record { world = all.world; mode = mode.Bdd; memoized = [] };
      table = subst IsTable same all.table;
      begins = record { world = subst (λ (ns : List (List ℕ)). IsPrelude ns all.world) same prelude; mode = refl; memoized = refl };
      can = record { ground = prelude.all; total = all.total };
    }

-- a table that has the empty text, and what is put behind it
pub still_empty : (names new : List (List ℕ)) → Extends names new → with_name names [] ≡ names → with_name new [] ≡ new
still_empty names new grown h = still_same names new [] grown h

-- ---- a book's text, by a table that it gathers on from that one
pub record FirstReading (names : List (List ℕ)) (bytes : List ℕ) : Type 0 where
  pub forms : List Form
  pub end : End
  pub state : BookState
  pub read : IsReadBy names bytes forms end
  pub begins : IsFirstState names state
  pub can : CanGoOn state

pub first_reading : (names : List (List ℕ)) (bytes : List ℕ) → Gathers bytes opening_names names → Numbers names bytes → FirstReading names bytes
first_reading names bytes gathers numbers =
    let o = opening in
    let its_table = gathers_table bytes opening_names names o.table gathers in
    let grown = gathers_extends bytes opening_names names gathers in
    let reading = some_reading names (start bytes) in
    record {
      forms = reading.0;
      end = reading.1;
      state = o.state;
      read = record {
        table = its_table;
        opens = record { front = names; gathers = gathers; numbers = numbers; extends = extends_same names };
        empty = still_empty opening_names names grown (has_empty first_names);
        reads = reading.2;
        numbered = numbers reading.0 reading.1 reading.2;
      };
      begins = later_first opening_names names o.state its_table grown o.begins;
      can = o.can;
    }
