-- States from which each walk can be gone on with, and an answer to each of their events.
use Rattle.std.proofs.Common.{◌≡◌, ◌≢◌, ◌∙◌, ap, sym, refl, subst, ℕ, zero, suc, ◌≤◌, ◌⊎◌, inl, inr, List, [], ◌∷◌, ◌++◌, length, get_or, ◌<◌, length-append, Some, None, slice_get, Ok, arith}
use Rattle.std.specs.Prelude.{IfSome}
use Rattle.std.proofs.lemmas.Option.{slice_get-get_or}
use Rattle.std.proofs.lemmas.List.{length-map}
use Rattle.gl_logic.specs.Object.{Object, Int, Character, Symbol, Text, Cons}
use Rattle.gl_logic.specs.Exp.{Exp}
use Rattle.gl_logic.specs.Definition.{Definition}
use Rattle.gl_logic.specs.Ground.{Ground, ground}
use Rattle.gl_logic.specs.WorldSeen.{WorldSeen, IsWorld, IsClique, definition_names}
use Rattle.gl_logic.proofs.Worlds.{world_push, clique_of_one}
use Rattle.gl_logic.proofs.TotalWorlds.{world_is_total}
use Rattle.gl_logic.proofs.Walks.{walk_of_value}
use Rattle.gl_decide.specs.Bounds.{Bounds}
use Rattle.gl_decide.specs.declared.verdict.Verdict.TheVariants as verdict
use Rattle.event_world.specs.EventSeen.{EventSeen, Nothing, Redundant, Defun, Defconst, Value, Assert, Memoize, Unmemoize, SetMode, Theorem, Cases, Clique, RedundantClique}
use Rattle.event_world.specs.EventWords.{behind_head}
use Rattle.event_world.specs.NextState.{BookState, with_members}
use Rattle.event_world.specs.Suits.{Suits, HasAllGround, IsClosedTerm, IsNewDefinition}
use Rattle.event_world.proofs.SuitedEvents.{event_suits}
use Rattle.gl_book.specs.Answers.{IsProperAnswer}
use Rattle.gl_book.specs.Walk.{refused_cause, state_after}
use Rattle.book_state.specs.States.{CanGoOn, event_in}
use Rattle.gl_book.specs.declared.answer.Answer.{Answer}
use Rattle.gl_book.specs.declared.answer.Answer.TheVariants as answer
use Rattle.gl_book.specs.declared.answer.Cause.{Cause}
use Rattle.gl_book.specs.declared.answer.Cause.TheVariants as cause
use Rattle.gl_book.specs.declared.cases.CasesVerdict.TheVariants as whole
use Rattle.gl_book.proofs.PartsDecided.{memory_decides}
use Rattle.gl_book.proofs.Wideness.{wide_or_narrow, large_or_not}

-- ---- worlds
-- behind all ground definitions none is a ground one
past_ground : (gs : List Ground) (n : ℕ) (P : Ground → Type 0) → length gs ≤ n → IfSome (slice_get gs n) P
past_ground [] n P h = tt
past_ground (g ∷ gs) zero P h = absurd (omega (arith, h))
past_ground (g ∷ gs) (suc n) P h = past_ground gs n P (omega (arith, h))

members_noted : (w : WorldSeen) (ds : List Definition) (forms : Object) → ((with_members w ds forms).definitions ≡ w.definitions) × ((with_members w ds forms).cliques ≡ w.cliques)
members_noted w [] forms = (refl, refl)
members_noted w (d ∷ ds) (Cons form rest) = members_noted _ ds rest
members_noted w (d ∷ ds) (Int z) = (refl, refl)
members_noted w (d ∷ ds) (Character n) = (refl, refl)
members_noted w (d ∷ ds) (Symbol n) = (refl, refl)
members_noted w (d ∷ ds) (Text n) = (refl, refl)

pub definition_fits : (w : WorldSeen) (d : Definition) → HasAllGround w → IsNewDefinition w d → IsClique w.definitions (d ∷ [])
definition_fits w d g s = clique_of_one w.definitions d s.formals s.body (past_ground ground (length w.definitions) _ g) s.admissible

with_more : (s t : BookState) (members : List Definition) → CanGoOn s → IsClique s.world.definitions members → t.world.definitions ≡ s.world.definitions ++ members → t.world.cliques ≡ s.world.cliques ++ length members ∷ [] → CanGoOn t
with_more s t members h c d n = record {
  ground = let l = ap length d ∙ length-append s.world.definitions members in let g = h.ground in omega (arith, l, g);
  total = subst (λ (ds : List Definition). IsWorld ds t.world.cliques) (sym d) (subst (IsWorld (s.world.definitions ++ members)) (sym n) (world_push s.world.definitions s.world.cliques members h.total c));
}

same_world : (s t : BookState) → CanGoOn s → t.world.definitions ≡ s.world.definitions → t.world.cliques ≡ s.world.cliques → CanGoOn t
same_world s t h d n = record {
  ground = subst (λ (ds : List Definition). length ground ≤ length ds) (sym d) h.ground;
  total = subst (λ (ds : List Definition). IsWorld ds t.world.cliques) (sym d) (subst (IsWorld s.world.definitions) (sym n) h.total);
}

after_suited : (s : BookState) (form : Object) (e : EventSeen) (a : Answer) → CanGoOn s → Suits s.world e → CanGoOn (state_after s form e a)
after_suited s form Nothing a h k = same_world s _ h refl refl
after_suited s form (Redundant n) a h k = same_world s _ h refl refl
after_suited s form (Defun d) a h k = with_more s _ (d ∷ []) h (definition_fits s.world d h.ground k) refl refl
after_suited s form (Defconst n t) a h k = same_world s _ h refl refl
after_suited s form (Value t) a h k = same_world s _ h refl refl
after_suited s form (Assert t) a h k = same_world s _ h refl refl
after_suited s form (Memoize f) a h k = same_world s _ h refl refl
after_suited s form (Unmemoize f) a h k = same_world s _ h refl refl
after_suited s form (SetMode m) a h k = same_world s _ h refl refl
after_suited s form (Theorem thm) a h k = same_world s _ h refl refl
after_suited s form (Cases thm) a h k = same_world s _ h refl refl
after_suited s form (Clique ds) a h k = let m = members_noted (record s.world { definitions = s.world.definitions ++ ds; cliques = s.world.cliques ++ length ds ∷ [] }) ds (behind_head form) in with_more s _ ds h (k.clique h.ground) m.0 m.1
after_suited s form (RedundantClique ns) a h k = same_world s _ h refl refl

pub after_event : (names : List (List ℕ)) (s : BookState) (form : Object) (e : EventSeen) (a : Answer) → CanGoOn s → event_in names s form ≡ Ok e → CanGoOn (state_after s form e a)
after_event names s form e a h k = after_suited s form e a h (event_suits names s.world s.mode s.memoized form e k)

-- ---- an answer that memory alone does not hinder
width_is_other : cause.Width ≡ cause.Memory → ⊥
width_is_other e = cc

size_is_other : cause.Size ≡ cause.Memory → ⊥
size_is_other e = cc

memory_is_other : cause.Memory ≡ cause.Size → ⊥
memory_is_other e = cc

pub record SomeAnswer (bounds : Bounds) (s : BookState) (e : EventSeen) : Type 0 where
  pub answer : Answer
  pub proper : IsProperAnswer bounds s.world s.memoized e answer
  pub comes : (refused_cause e answer ≡ None) ⊎ ((why : Cause) × (refused_cause e answer ≡ Some why) × (why ≢ cause.Memory))

some_constant : (bounds : Bounds) (s : BookState) (name : ℕ) (t : Exp) → CanGoOn s → IsClosedTerm s.world t → SomeAnswer bounds s (Defconst name t)
some_constant bounds s name t h k =
    let ds = s.world.definitions in
    let v = world_is_total ds s.world.cliques h.total [] t k.term in
    let r = walk_of_value ds v.1.0 [] t v.0 v.1.1 in
    elim (wide_or_narrow ds [] t v.1.0 r.0 r.1.0) [
      | inl wide ↦ record { answer = answer.Undecided cause.Width; proper = wide; comes = inr (cause.Width, refl, width_is_other) }
      | inr narrow ↦
          elim (large_or_not v.0) [
            | inl large ↦ record { answer = answer.Undecided cause.Size; proper = (v.0, record { has = v.1; narrow = narrow }, large); comes = inr (cause.Size, refl, size_is_other) }
            | inr small ↦ record { answer = answer.Value v.0; proper = record { is = record { has = v.1; narrow = narrow }; small = small }; comes = inl refl }
          ]
    ]

abbrev function_answer : WorldSeen → ℕ → Answer
function_answer w f = answer.Function (record { number = get_or (definition_names w.definitions) f 0 })

function_is : (w : WorldSeen) (f : ℕ) → f < length w.definitions → slice_get (definition_names w.definitions) f ≡ Some (get_or (definition_names w.definitions) f 0)
function_is w f h = slice_get-get_or (definition_names w.definitions) f 0 (omega (arith, h, length-map w.definitions (λ (d : Definition). d.name)))

pub some_answer : (bounds : Bounds) (s : BookState) (e : EventSeen) → CanGoOn s → Suits s.world e → SomeAnswer bounds s e
some_answer bounds s Nothing h k = record { answer = answer.Done; proper = tt; comes = inl refl }
some_answer bounds s (Redundant n) h k = record { answer = answer.Done; proper = tt; comes = inl refl }
some_answer bounds s (Defun d) h k = record { answer = answer.Done; proper = tt; comes = inl refl }
some_answer bounds s (Defconst n t) h k = some_constant bounds s n t h k.1
some_answer bounds s (Value t) h k = record { answer = answer.Undecided cause.Memory; proper = tt; comes = inl refl }
some_answer bounds s (Assert t) h k = record { answer = answer.Undecided cause.Memory; proper = record { has = tt; no_size = memory_is_other }; comes = inl refl }
some_answer bounds s (Memoize f) h k = record { answer = function_answer s.world f; proper = function_is s.world f k; comes = inl refl }
some_answer bounds s (Unmemoize f) h k = record { answer = function_answer s.world f; proper = function_is s.world f k; comes = inl refl }
some_answer bounds s (SetMode m) h k = record { answer = answer.Done; proper = tt; comes = inl refl }
some_answer bounds s (Theorem thm) h k = record { answer = answer.Decided verdict.Memory; proper = tt; comes = inl refl }
some_answer bounds s (Cases thm) h k = record { answer = answer.ByCases (whole.Cover verdict.Memory); proper = memory_decides bounds s.world thm k.parts; comes = inl refl }
some_answer bounds s (Clique ds) h k = record { answer = answer.Done; proper = tt; comes = inl refl }
some_answer bounds s (RedundantClique ns) h k = record { answer = answer.Done; proper = tt; comes = inl refl }
