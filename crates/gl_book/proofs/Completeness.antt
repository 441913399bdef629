-- Two walks over the same list are refused at one place, and terms that stay within the limits have their values.
use Rattle.std.proofs.Common.{◌≡◌, ◌∙◌, ap, sym, subst, refl, ◌⊎◌, inl, inr, ℕ, suc, ◌<◌, List, [], ◌∷◌, None, arith}
use Rattle.std.specs.Prelude.{Ok, Err}
use Rattle.gl_logic.proofs.Walks.{value_unique}
use Rattle.gl_logic.specs.Exp.{Exp}
use Rattle.gl_logic.specs.Object.{Object}
use Rattle.gl_logic.specs.WorldSeen.{WorldSeen}
use Rattle.sexp_reader.specs.declared.list.Form.{Form}
use Rattle.book_shelf.specs.declared.finish.Finish.{Finish}
use Rattle.book_shelf.specs.declared.finish.Finish.TheVariants as finish
use Rattle.book_shelf.specs.declared.item.Item.{Item}
use Rattle.book_shelf.specs.declared.item.Item.TheVariants as item
use Rattle.book_shelf.specs.declared.item.Mark.{Mark}
use Rattle.event_world.specs.declared.fault.EventFault.{EventFault}
use Rattle.event_world.specs.EventSeen.{EventSeen, Nothing, Redundant, Defun, Defconst, Value, Assert, Memoize, Unmemoize, SetMode, Theorem, Cases, Clique, RedundantClique}
use Rattle.event_world.specs.NextState.{BookState}
use Rattle.gl_decide.specs.Bounds.{Bounds}
use Rattle.gl_book.specs.Answers.{IsTooLarge, IsProperValue, IsProperTruth, IsProperAnswer}
use Rattle.gl_book.specs.Completeness.{refusal_in, accepted, AreRefusedAlike, StaysWithin, IsFound, IsOfConstant}
use Rattle.gl_book.specs.Entry.{Entry, Answered, Marked, Refused}
use Rattle.gl_book.specs.Walk.{value_in, state_after, constant_cause, refused_cause, refusal_at, end_refusal, Walk, ended, bad, marked, refused, without_value, event}
use Rattle.book_state.specs.States.{event_in}
use Rattle.gl_book.specs.declared.answer.Answer.{Answer}
use Rattle.gl_book.specs.declared.answer.Answer.TheVariants as answer
use Rattle.gl_book.specs.declared.answer.Cause.{Cause}
use Rattle.gl_book.specs.declared.answer.Cause.TheVariants as cause
use Rattle.gl_book.specs.declared.refusal.RefusalCode.TheVariants as code

-- ---- one state after an event, whatever the limits
module _ (bounds limits : Bounds) (w : WorldSeen) (memoized : List ℕ) (t : Exp) where
  same_value : (a b : Answer) → IsProperValue bounds w memoized t a → IsProperValue limits w memoized t b → constant_cause a ≡ None → constant_cause b ≡ None → value_in a ≡ value_in b
  same_value (answer.Value x) (answer.Value y) p q i j = value_unique w.definitions [] t x y p.is.has q.is.has
  same_value (answer.Undecided c) b p q i j = absurd cc
  same_value a (answer.Undecided c) p q i j = absurd cc
  same_value answer.Done b p q i j = absurd p
  same_value (answer.Function f) b p q i j = absurd p
  same_value (answer.Truth x) b p q i j = absurd p
  same_value (answer.Decided v) b p q i j = absurd p
  same_value (answer.ByCases v) b p q i j = absurd p
  same_value a answer.Done p q i j = absurd q
  same_value a (answer.Function f) p q i j = absurd q
  same_value a (answer.Truth x) p q i j = absurd q
  same_value a (answer.Decided v) p q i j = absurd q
  same_value a (answer.ByCases v) p q i j = absurd q

module _ (bounds limits : Bounds) (s : BookState) (form : Object) where
  same_state : (e : EventSeen) (a b : Answer) → IsProperAnswer bounds s.world s.memoized e a → IsProperAnswer limits s.world s.memoized e b → refused_cause e a ≡ None → refused_cause e b ≡ None → state_after s form e a ≡ state_after s form e b
  same_state (Defconst name t) a b p q i j = ap (λ (x : Object). state_after s form (Defconst name t) (answer.Value x)) (same_value bounds limits s.world s.memoized t a b p q i j)
  same_state Nothing a b p q i j = refl
  same_state (Redundant name) a b p q i j = refl
  same_state (Defun d) a b p q i j = refl
  same_state (Value t) a b p q i j = refl
  same_state (Assert t) a b p q i j = refl
  same_state (Memoize f) a b p q i j = refl
  same_state (Unmemoize f) a b p q i j = refl
  same_state (SetMode m) a b p q i j = refl
  same_state (Theorem thm) a b p q i j = refl
  same_state (Cases thm) a b p q i j = refl
  same_state (Clique ds) a b p q i j = refl
  same_state (RedundantClique names) a b p q i j = refl

-- ---- how a walk goes on
abbrev end_entries : Finish → List Entry
end_entries finish.Clean = []
end_entries (finish.Refused line column fault) = Refused (end_refusal line column fault) ∷ []

-- where nothing is left the list's own refusal ends it
at_end : (names : List (List ℕ)) (bounds : Bounds) (end : Finish) (s : BookState) (xs : List Entry) → Walk names bounds s [] end xs → xs ≡ end_entries end
at_end _ _ _ _ _ (ended s) = refl
at_end _ _ _ _ _ (bad s line column fault) = refl

-- the form is refused, or its constant has no value, or it is answered and the walk goes on
record Refuses (names : List (List ℕ)) (s : BookState) (form : Form) (xs : List Entry) : Type 0 where
  fault : EventFault
  is : event_in names s form.tree ≡ Err fault
  entries : xs ≡ Refused (refusal_at form (code.Event fault)) ∷ []

record Lacks (names : List (List ℕ)) (s : BookState) (form : Form) (xs : List Entry) : Type 0 where
  e : EventSeen
  why : Cause
  is : event_in names s form.tree ≡ Ok e
  entries : xs ≡ Refused (refusal_at form (code.Constant why)) ∷ []

record Answers (names : List (List ℕ)) (bounds : Bounds) (end : Finish) (s : BookState) (form : Form) (items : List Item) (xs : List Entry) : Type 0 where
  e : EventSeen
  a : Answer
  rest : List Entry
  is : event_in names s form.tree ≡ Ok e
  proper : IsProperAnswer bounds s.world s.memoized e a
  valued : refused_cause e a ≡ None
  onward : Walk names bounds (state_after s form.tree e a) items end rest
  entries : xs ≡ Answered e a ∷ rest

-- a mark is passed
record Passes (names : List (List ℕ)) (bounds : Bounds) (end : Finish) (s : BookState) (m : Mark) (items : List Item) (xs : List Entry) : Type 0 where
  rest : List Entry
  onward : Walk names bounds s items end rest
  entries : xs ≡ Marked m ∷ rest

module _ (names : List (List ℕ)) (bounds : Bounds) (end : Finish) where
  next : (s : BookState) (form : Form) (items : List Item) (xs : List Entry) → Walk names bounds s (item.Form form ∷ items) end xs
      → Refuses names s form xs ⊎ (Lacks names s form xs ⊎ Answers names bounds end s form items xs)
  next _ _ _ _ (refused s form items _ fault is) = inl (record { fault = fault; is = is; entries = refl })
  next _ _ _ _ (without_value s form items _ e a why is proper none k) = inr (inl (record { e = e; why = why; is = is; entries = refl }))
  next _ _ _ _ (event s form items _ entries e a is proper none w) = inr (inr (record { e = e; a = a; rest = entries; is = is; proper = proper; valued = none; onward = w; entries = refl }))

  past : (s : BookState) (m : Mark) (items : List Item) (xs : List Entry) → Walk names bounds s (item.Mark m ∷ items) end xs → Passes names bounds end s m items xs
  past _ _ _ _ (marked s m items _ entries w) = record { rest = entries; onward = w; entries = refl }

-- ---- refused alike
pub alike_same : (xs ys : List Entry) → xs ≡ ys → AreRefusedAlike xs ys
alike_same xs ys e = record {
  same = λ a b. ap refusal_in e;
  left = λ c n. absurd (n (subst (λ (zs : List Entry). IsOfConstant (refusal_in zs)) e c));
  right = λ c n. absurd (n (subst (λ (zs : List Entry). IsOfConstant (refusal_in zs)) (sym e) c));
}

alike_back : (xs ys : List Entry) → AreRefusedAlike xs ys → AreRefusedAlike ys xs
alike_back xs ys h = record { same = λ a b. sym (h.same b a); left = h.right; right = h.left }

-- both end with a constant without a value
both_lack : (xs ys : List Entry) → IsOfConstant (refusal_in xs) → IsOfConstant (refusal_in ys) → AreRefusedAlike xs ys
both_lack xs ys c d = record { same = λ a b. absurd (a c); left = λ k n. absurd (n d); right = λ k n. absurd (n c) }

-- one does at its first form, which the other accepts
one_lacks : (xs ys : List Entry) → IsOfConstant (refusal_in xs) → accepted xs ≡ 0 → 0 < accepted ys → AreRefusedAlike xs ys
one_lacks xs ys c z m = record { same = λ a b. absurd (a c); left = λ k n. omega (arith, z, m); right = λ k n. absurd (n c) }

-- both accept their first form or mark
both_accept : (x y : Entry) (xs ys us vs : List Entry) → xs ≡ x ∷ us → ys ≡ y ∷ vs → refusal_in (x ∷ us) ≡ refusal_in us → refusal_in (y ∷ vs) ≡ refusal_in vs
    → accepted (x ∷ us) ≡ suc (accepted us) → accepted (y ∷ vs) ≡ suc (accepted vs) → AreRefusedAlike us vs → AreRefusedAlike xs ys
both_accept x y xs ys us vs i j r s m n h =
    let left : refusal_in xs ≡ refusal_in us = ap refusal_in i ∙ r in
    let right : refusal_in ys ≡ refusal_in vs = ap refusal_in j ∙ s in
    let more : accepted xs ≡ suc (accepted us) = ap accepted i ∙ m in
    let others : accepted ys ≡ suc (accepted vs) = ap accepted j ∙ n in
    record {
      same = λ a b. left ∙ (h.same (λ c. a (subst IsOfConstant (sym left) c)) (λ c. b (subst IsOfConstant (sym right) c)) ∙ sym right);
      left = λ c k. let z = h.left (subst IsOfConstant left c) (λ d. k (subst IsOfConstant (sym right) d)) in omega (arith, more, others, z);
      right = λ c k. let z = h.right (subst IsOfConstant right c) (λ d. k (subst IsOfConstant (sym left) d)) in omega (arith, more, others, z);
    }

-- ---- two walks
module _ (names : List (List ℕ)) (s : BookState) (form : Form) where
  lacks_value : (xs : List Entry) → Lacks names s form xs → IsOfConstant (refusal_in xs)
  lacks_value xs l = subst IsOfConstant (sym (ap refusal_in l.entries)) tt

  lacks_first : (xs ys : List Entry) (bounds : Bounds) (end : Finish) (items : List Item) → Lacks names s form xs → Answers names bounds end s form items ys → AreRefusedAlike xs ys
  lacks_first xs ys bounds end items l a = let m : accepted ys ≡ suc (accepted a.rest) = ap accepted a.entries in one_lacks xs ys (lacks_value xs l) (ap accepted l.entries) (omega (arith, m))

  both_refuse : (xs ys : List Entry) → Refuses names s form xs → Refuses names s form ys → AreRefusedAlike xs ys
  both_refuse xs ys p q =
      let same : Err p.fault ≡ Err q.fault = sym p.is ∙ q.is in
      let fault : p.fault ≡ q.fault = cc in
      alike_same xs ys (p.entries ∙ (ap (λ (f : EventFault). Refused (refusal_at form (code.Event f)) ∷ []) fault ∙ sym q.entries))

  not_both : {P : Type 0} (xs : List Entry) (e : EventSeen) → Refuses names s form xs → event_in names s form.tree ≡ Ok e → P
  not_both xs e p is = let z : Err p.fault ≡ Ok e = sym p.is ∙ is in absurd cc

module _ (names : List (List ℕ)) (bounds limits : Bounds) (end : Finish) where
  -- the rests of two walks that answer one form begin in one state
  module _ (s : BookState) (form : Form) (items : List Item) (xs ys : List Entry) (p : Answers names bounds end s form items xs) (q : Answers names limits end s form items ys) where
    same_event : q.e ≡ p.e
    same_event = let e : Ok q.e ≡ Ok p.e = sym q.is ∙ p.is in cc

    moved : Walk names limits (state_after s form.tree p.e p.a) items end q.rest
    moved =
        let proper : IsProperAnswer limits s.world s.memoized p.e q.a = subst (λ (e : EventSeen). IsProperAnswer limits s.world s.memoized e q.a) same_event q.proper in
        let valued : refused_cause p.e q.a ≡ None = subst (λ (e : EventSeen). refused_cause e q.a ≡ None) same_event q.valued in
        let onward : Walk names limits (state_after s form.tree p.e q.a) items end q.rest = subst (λ (e : EventSeen). Walk names limits (state_after s form.tree e q.a) items end q.rest) same_event q.onward in
        subst (λ (t : BookState). Walk names limits t items end q.rest) (same_state limits bounds s form.tree p.e q.a p.a proper p.proper valued p.valued) onward

    both_answer : AreRefusedAlike p.rest q.rest → AreRefusedAlike xs ys
    both_answer h = both_accept (Answered p.e p.a) (Answered q.e q.a) xs ys p.rest q.rest p.entries q.entries refl refl refl refl h

  pub walks_alike : (s : BookState) (items : List Item) (xs ys : List Entry) → Walk names bounds s items end xs → Walk names limits s items end ys → AreRefusedAlike xs ys
  walks_alike s [] xs ys p q = alike_same xs ys (at_end names bounds end s xs p ∙ sym (at_end names limits end s ys q))
  walks_alike s (item.Mark m ∷ items) xs ys p q =
      let a = past names bounds end s m items xs p in
      let b = past names limits end s m items ys q in
      both_accept (Marked m) (Marked m) xs ys a.rest b.rest a.entries b.entries refl refl refl refl (walks_alike s items a.rest b.rest a.onward b.onward)
  walks_alike s (item.Form form ∷ items) xs ys p q = elim (next names bounds end s form items xs p) [
    | inl a ↦ elim (next names limits end s form items ys q) [
      | inl b ↦ both_refuse names s form xs ys a b
      | inr d ↦ elim d [
        | inl b ↦ not_both names s form xs b.e a b.is
        | inr b ↦ not_both names s form xs b.e a b.is
      ]
    ]
    | inr c ↦ elim c [
      | inl a ↦ elim (next names limits end s form items ys q) [
        | inl b ↦ not_both names s form ys a.e b a.is
        | inr d ↦ elim d [
          | inl b ↦ both_lack xs ys (lacks_value names s form xs a) (lacks_value names s form ys b)
          | inr b ↦ lacks_first names s form xs ys limits end items a b
        ]
      ]
      | inr a ↦ elim (next names limits end s form items ys q) [
        | inl b ↦ not_both names s form ys a.e b a.is
        | inr d ↦ elim d [
          | inl b ↦ alike_back ys xs (lacks_first names s form ys xs bounds end items b a)
          | inr b ↦ both_answer s form items xs ys a b (walks_alike (state_after s form.tree a.e a.a) items a.rest b.rest a.onward (moved s form items xs ys a b))
        ]
      ]
    ]
  ]

-- ---- values
module _ (bounds : Bounds) (w : WorldSeen) (memoized : List ℕ) (t : Exp) (within : StaysWithin w bounds memoized t) where
  pub value_found : (a : Answer) → ¬ IsTooLarge w t → IsProperValue bounds w memoized t a → IsFound a
  value_found (answer.Value x) small p = tt
  value_found (answer.Undecided cause.Width) small p = absurd (within.width p)
  value_found (answer.Undecided cause.Steps) small p = absurd (within.steps p)
  value_found (answer.Undecided cause.Cells) small p = absurd (within.cells p)
  value_found (answer.Undecided cause.Size) small p = absurd (small p)
  value_found (answer.Undecided cause.Memory) small p = tt
  value_found answer.Done small p = absurd p
  value_found (answer.Function f) small p = absurd p
  value_found (answer.Truth x) small p = absurd p
  value_found (answer.Decided v) small p = absurd p
  value_found (answer.ByCases v) small p = absurd p

  pub truth_found : (a : Answer) → IsProperTruth bounds w memoized t a → IsFound a
  truth_found (answer.Truth x) p = tt
  truth_found (answer.Undecided cause.Width) p = absurd (within.width p.has)
  truth_found (answer.Undecided cause.Steps) p = absurd (within.steps p.has)
  truth_found (answer.Undecided cause.Cells) p = absurd (within.cells p.has)
  truth_found (answer.Undecided cause.Size) p = absurd (p.no_size refl)
  truth_found (answer.Undecided cause.Memory) p = tt
  truth_found (answer.Value x) p = absurd p
  truth_found answer.Done p = absurd p
  truth_found (answer.Function f) p = absurd p
  truth_found (answer.Decided v) p = absurd p
  truth_found (answer.ByCases v) p = absurd p
