-- What an accepted clique is in its world.
use Rattle.std.proofs.Common.{◌≡◌, ◌∙◌, ap, sym, refl, subst, ℕ, zero, suc, ◌+◌, ◌-◌, ◌<◌, ◌≤◌, Bool, true, false, cond, ◌&&◌, leb, ltb, List, [], ◌∷◌, ◌++◌, map, length, Option, Some, None, arith}
use Rattle.std.specs.Prelude.{Ok, slice_get, IfSome}
use Rattle.std.specs.List.{list_all}
use Rattle.std.specs.Option.{option_map, is_some}
use Rattle.std.proofs.lemmas.Option.{slice_get-map, slice_get_past}
use Rattle.std.proofs.lemmas.List.{length-map}
use Rattle.shape_spec.proofs.Fits.{leb_le}
use Rattle.gl_logic.specs.Object.{Object}
use Rattle.gl_logic.specs.Every.{Every}
use Rattle.gl_logic.specs.Definition.{Definition}
use Rattle.gl_logic.specs.Ground.{ground}
use Rattle.gl_logic.specs.IsGround.{IsGround, placed}
use Rattle.gl_logic.specs.IsTermOf.{IsTermOf}
use Rattle.gl_logic.specs.IsAdmissible.{IsAdmissible, Recursive, is_member, is_step, calls_of, calls_of_all, recursive_calls}
use Rattle.gl_logic.specs.RecursiveCalls.{Governed, calls_in}
use Rattle.gl_logic.specs.Named.{AreDifferentNames}
use Rattle.gl_logic.specs.WorldSeen.{WorldSeen, IsClique, definition_names}
use Rattle.gl_translate.specs.Translation.{translation, function_of}
use Rattle.gl_translate.specs.declared.fault.TermFault.TheVariants as term_fault
use Rattle.gl_translate.specs.declared.scope.Scope.{Scope}
use Rattle.gl_translate.proofs.Whole.{meant_proper}
use Rattle.admission.specs.Refused.{first_refused}
use Rattle.admission.specs.Admitted.{settled}
use Rattle.admission.proofs.Numbered.{every_step}
use Rattle.gl_logic.specs.Wording.{both, all_meant}
use Rattle.gl_logic.specs.NameSets.{are_different}
use Rattle.event_world.specs.declared.fault.EventFault.TheVariants as code
use Rattle.event_world.specs.EventSeen.{EventSeen, Clique}
use Rattle.event_world.specs.PartsOf.{is_empty}
use Rattle.event_world.specs.NamesMeant.{plain_name}
use Rattle.event_world.specs.Declares.{stated_measure}
use Rattle.event_world.specs.DefunMeant.{DefunParts, formals_meant, body_meant}
use Rattle.event_world.specs.CliqueMeant.{are_members, member_parts, StatedMember, stated_member, MadeMember, made_member, owns_of, member_meant, members_meant, unmeasured, with_settled, clique_admitted, clique_judged}
use Rattle.event_world.specs.CliqueForms.{checked_members, clique_parts, all_stated, is_new, are_new, all_made, clique_made, clique_by}
use Rattle.event_world.specs.Suits.{HasAllGround, IsNewName, IsNewClique, Suits}
use Rattle.event_world.proofs.Inversions.{same_given, no_code, then_ok, found_ok, holds_ok, term_ok, true_not_false, and_true, some_same, none_some, map_some, if_some, different_names}
use Rattle.event_world.proofs.Suited.{new_name, formals_differ}

-- ---- what all elements mean, one by one
abbrev pub Pairwise : {A B : Type 0} → (A → B → Type 0) → List A → List B → Type 0
Pairwise P [] [] = Unit {0}
Pairwise P (x ∷ xs) (y ∷ ys) = P x y × Pairwise P xs ys
Pairwise P _ _ = ⊥

both_some : {A B C : Type 0} {X : Type 0} (f : A → B → C) (o : Option A) (p : Option B) (r : C) → both f o p ≡ Some r → ((a : A) (b : B) → o ≡ Some a → p ≡ Some b → f a b ≡ r → X) → X
both_some f (Some a) (Some b) r e g = g a b refl refl (some_same (f a b) r e)
both_some f (Some a) None r e g = none_some r e
both_some f None (Some b) r e g = none_some r e
both_some f None None r e g = none_some r e

pub all_pairwise : {A B : Type 0} (f : A → Option B) (xs : List A) (ys : List B) → all_meant f xs ≡ Some ys → Pairwise (λ x y. f x ≡ Some y) xs ys
all_pairwise {B = B} f [] ys e = subst (Pairwise (λ x y. f x ≡ Some y) []) (some_same [] ys e) tt
all_pairwise f (x ∷ xs) ys e =
    both_some (λ z zs. z ∷ zs) (f x) (all_meant f xs) ys e (λ y zs hy hzs q.
    subst (Pairwise (λ a b. f a ≡ Some b) (x ∷ xs)) q (hy, all_pairwise f xs zs hzs))

-- ---- the members through the checks
stated_names : (names : List (List ℕ)) (ds : List DefunParts) (ss : List StatedMember) → Pairwise (λ d s. stated_member names d ≡ Some s) ds ss → map (λ s. s.parts.name) ss ≡ map (λ d. d.name) ds
stated_names names [] [] h = refl
stated_names names [] (s ∷ ss) h = absurd h
stated_names names (d ∷ ds) [] h = absurd h
stated_names names (d ∷ ds) (s ∷ ss) h =
    map_some (λ m. record { parts = d; stated = m }) (stated_measure names d.formals d.before) s h.0 (λ m hm q.
    let n : d.name ≡ s.parts.name = ap (λ (z : StatedMember). z.parts.name) q in
    λ i. sym n i ∷ stated_names names ds ss h.1 i)

record MadeOf (names : List (List ℕ)) (s : StatedMember) (m : MadeMember) : Type 0 where
  name : s.parts.name ≡ m.name
  formals : AreDifferentNames m.formals

made_of : (names : List (List ℕ)) (s : StatedMember) (m : MadeMember) → made_member names s ≡ Some m → MadeOf names s m
made_of names s m h =
    map_some (λ vs. record { name = s.parts.name; formals = vs; body = s.parts.body; stated = s.stated }) (formals_meant names s.parts.formals) m h (λ vs hv q.
    record {
      name = ap (λ (z : MadeMember). z.name) q;
      formals = subst AreDifferentNames (ap (λ (z : MadeMember). z.formals) q) (formals_differ (all_meant (plain_name names) s.parts.formals) vs hv);
    })

made_names : (names : List (List ℕ)) (ss : List StatedMember) (ms : List MadeMember) → Pairwise (λ s m. made_member names s ≡ Some m) ss ms → map (λ m. m.name) ms ≡ map (λ s. s.parts.name) ss
made_names names [] [] h = refl
made_names names [] (m ∷ ms) h = absurd h
made_names names (s ∷ ss) [] h = absurd h
made_names names (s ∷ ss) (m ∷ ms) h = λ i. sym (made_of names s m h.0).name i ∷ made_names names ss ms h.1 i

made_formals : (names : List (List ℕ)) (ss : List StatedMember) (ms : List MadeMember) → Pairwise (λ s m. made_member names s ≡ Some m) ss ms → Every (λ m. AreDifferentNames m.formals) ms
made_formals names [] [] h = tt
made_formals names [] (m ∷ ms) h = absurd h
made_formals names (s ∷ ss) [] h = absurd h
made_formals names (s ∷ ss) (m ∷ ms) h = ((made_of names s m h.0).formals, made_formals names ss ms h.1)

new_names : (names : List (List ℕ)) (w : WorldSeen) (ss : List StatedMember) → list_all (is_new names w) ss ≡ true → Every (IsNewName w) (map (λ s. s.parts.name) ss)
new_names names w [] h = tt
new_names names w (s ∷ ss) h = and_true (is_new names w s) (list_all (is_new names w) ss) h (λ a b. (new_name names w s.parts.name a, new_names names w ss b))

-- ---- their definitions
module _ (names : List (List ℕ)) (w : WorldSeen) (own : List (ℕ × ℕ)) where
  abbrev scope_of : List ℕ → Scope
  scope_of vs = record { vars = vs; every = false; own = own }

  pub record IsMade (m : MadeMember) (d : Definition) : Type 0 where
    pub name : m.name ≡ d.name
    pub formals : m.formals ≡ d.formals
    pub body : translation names w (scope_of m.formals) m.body ≡ Ok d.body

  made_one : (m : MadeMember) (d : Definition) → member_meant names w own m ≡ Ok d → IsMade m d
  made_one m d h =
      then_ok (body_meant names w own m.formals m.body) _ d h (λ t ht r.
      let q = same_given (record { name = m.name; formals = m.formals; body = t; measure = m.stated }) d r in
      record {
        name = ap (λ (z : Definition). z.name) q;
        formals = ap (λ (z : Definition). z.formals) q;
        body = term_ok (translation names w (scope_of m.formals) m.body) t ht ∙ ap (λ (z : Definition). Ok z.body) q;
      })

  pub made_all : (ms : List MadeMember) (ds : List Definition) → members_meant names w own ms ≡ Ok ds → Pairwise IsMade ms ds
  made_all [] ds h = subst (Pairwise IsMade []) (same_given [] ds h) tt
  made_all (m ∷ ms) ds h =
      then_ok (member_meant names w own m) _ ds h (λ d hd q.
      then_ok (members_meant names w own ms) _ ds q (λ es hes r.
      subst (Pairwise IsMade (m ∷ ms)) (same_given (d ∷ es) ds r) (made_one m d hd, made_all ms es hes)))

  made_owns : (ms : List MadeMember) (ds : List Definition) → Pairwise IsMade ms ds → map function_of ds ≡ owns_of ms
  made_owns [] [] h = refl
  made_owns [] (d ∷ ds) h = absurd h
  made_owns (m ∷ ms) [] h = absurd h
  made_owns (m ∷ ms) (d ∷ ds) h = λ i. (sym h.0.name i, length (sym h.0.formals i)) ∷ made_owns ms ds h.1 i

  definition_names_made : (ms : List MadeMember) (ds : List Definition) → Pairwise IsMade ms ds → definition_names ds ≡ map (λ m. m.name) ms
  definition_names_made [] [] h = refl
  definition_names_made [] (d ∷ ds) h = absurd h
  definition_names_made (m ∷ ms) [] h = absurd h
  definition_names_made (m ∷ ms) (d ∷ ds) h = λ i. sym h.0.name i ∷ definition_names_made ms ds h.1 i

  -- each body is a term of the world with these members, whatever their measures
  pub record IsFineMember (all : List Definition) (d : Definition) : Type 0 where
    pub formals : AreDifferentNames d.formals
    pub body : IsTermOf (w.definitions ++ all) d.body

  fine_members : (all : List Definition) → map function_of all ≡ own → (ms : List MadeMember) (ds : List Definition) → Pairwise IsMade ms ds → Every (λ m. AreDifferentNames m.formals) ms → Every (IsFineMember all) ds
  fine_members all o [] [] h g = tt
  fine_members all o [] (d ∷ ds) h g = absurd h
  fine_members all o (m ∷ ms) [] h g = absurd h
  fine_members all o (m ∷ ms) (d ∷ ds) h g = (
    record {
      formals = subst AreDifferentNames h.0.formals g.0;
      body = meant_proper names w (scope_of m.formals) m.body d.body h.0.body all o;
    },
    fine_members all o ms ds h.1 g.1,
  )

  -- ---- measures play no part in this
  every_at : {A : Type 0} (P : A → Type 0) (xs : List A) (k : ℕ) (x : A) → Every P xs → slice_get xs k ≡ Some x → P x
  every_at P [] zero x h e = none_some x e
  every_at P [] (suc k) x h e = none_some x e
  every_at P (y ∷ ys) zero x h e = subst P (some_same y x e) h.0
  every_at P (y ∷ ys) (suc k) x h e = every_at P ys k x h.1 e

  ground_past : (i : ℕ) (d : Definition) → length ground ≤ i → IsGround i d
  ground_past i d h = subst (λ o. IfSome o (λ g. (length d.formals ≡ g.arity) × (placed d.formals d.body ≡ g.body))) (sym (slice_get_past ground i h)) tt

  pub clique_of : (ds : List Definition) (g : Definition → Definition) → ((d : Definition) → (g d).formals ≡ d.formals) → ((d : Definition) → (g d).body ≡ d.body)
      → Every (IsFineMember (map g ds)) ds → IsAdmissible (length w.definitions) (map g ds) → HasAllGround w → IsClique w.definitions (map g ds)
  clique_of ds g gf gb fine ok all = record {
    each = λ k d e.
        map_some g (slice_get ds k) d (sym (slice_get-map g ds k) ∙ e) (λ c hc q.
        let f = every_at (IsFineMember (map g ds)) ds k c fine hc in
        record {
          formals = subst AreDifferentNames (sym (gf c) ∙ ap (λ (z : Definition). z.formals) q) f.formals;
          body = subst (IsTermOf (w.definitions ++ map g ds)) (sym (gb c) ∙ ap (λ (z : Definition). z.body) q) f.body;
          same_ground = ground_past (length w.definitions + k) d (omega (arith, all));
        });
    admissible = ok;
  }

-- ---- a clique without a recursive call
empty_is : {A : Type 0} (xs : List A) → is_empty xs ≡ true → xs ≡ []
empty_is [] h = refl
empty_is (x ∷ xs) h = true_not_false h

map_empty : {A B C : Type 0} (f : A → B) (g : A → C) (xs : List A) → map f xs ≡ [] → map g xs ≡ []
map_empty f g [] h = refl
map_empty f g (x ∷ xs) h = absurd cc

append_empty : {A X : Type 0} (xs ys : List A) → xs ++ ys ≡ [] → (xs ≡ [] → ys ≡ [] → X) → X
append_empty [] ys h g = g refl h
append_empty (x ∷ xs) ys h g = absurd cc

unmeasured_empty : (p : ℕ → Bool) (ds : List Definition) → calls_of_all p ds ≡ [] → calls_of_all p (map unmeasured ds) ≡ []
unmeasured_empty p [] h = refl
unmeasured_empty p (d ∷ ds) h =
    append_empty (calls_of p d) (calls_of_all p ds) h (λ a b.
    let x : calls_of p (unmeasured d) ≡ [] = map_empty (λ (c : Governed). (d.measure, c)) (λ (c : Governed). (None, c)) (calls_in p [] [] d.body) a in
    λ i. x i ++ unmeasured_empty p ds b i)

some_map : {A B : Type 0} (f : A → B) (o : Option A) → is_some (option_map f o) ≡ is_some o
some_map f None = refl
some_map f (Some a) = refl

member_unmeasured : (first : ℕ) (ds : List Definition) (f : ℕ) → is_member first (map unmeasured ds) f ≡ is_member first ds f
member_unmeasured first ds f = elim (ltb f first) as (λ b. is_some (cond b None (slice_get (map unmeasured ds) (f - first))) ≡ is_some (cond b None (slice_get ds (f - first)))) [
  | true ↦ refl
  | false ↦ ap is_some (slice_get-map unmeasured ds (f - first)) ∙ some_map unmeasured (slice_get ds (f - first))
]

no_calls_admissible : (first : ℕ) (ds : List Definition) → is_empty (recursive_calls first ds) ≡ true → IsAdmissible first (map unmeasured ds)
no_calls_admissible first ds h =
    let none : recursive_calls first (map unmeasured ds) ≡ [] =
    ap (λ (p : ℕ → Bool). calls_of_all p (map unmeasured ds)) (λ i f. member_unmeasured first ds f i)
    ∙ unmeasured_empty (is_member first ds) ds (empty_is (recursive_calls first ds) h) in
    subst (λ (rs : List Recursive). Every (λ r. is_step first (map unmeasured ds) r ≡ true) rs) (sym none) tt

-- ---- the whole
names_kept : (g : Definition → Definition) → ((d : Definition) → (g d).name ≡ d.name) → (ds : List Definition) → definition_names (map g ds) ≡ definition_names ds
names_kept g h [] = refl
names_kept g h (d ∷ ds) = λ i. h d i ∷ names_kept g h ds i

functions_kept : (g : Definition → Definition) → ((d : Definition) → function_of (g d) ≡ function_of d) → (ds : List Definition) → map function_of (map g ds) ≡ map function_of ds
functions_kept g h [] = refl
functions_kept g h (d ∷ ds) = λ i. h d i ∷ functions_kept g h ds i

record AreFine (names : List (List ℕ)) (w : WorldSeen) (ds : List Definition) : Type 0 where
  some : 0 < length ds
  new : Every (IsNewName w) (definition_names ds)
  different : AreDifferentNames (definition_names ds)
  fine : (all : List Definition) → map function_of all ≡ map function_of ds → Every (IsFineMember names w (map function_of ds) all) ds

suits_with : (names : List (List ℕ)) (w : WorldSeen) (ds : List Definition) (g : Definition → Definition)
    → ((d : Definition) → (g d).name ≡ d.name) → ((d : Definition) → (g d).formals ≡ d.formals) → ((d : Definition) → (g d).body ≡ d.body)
    → AreFine names w ds → IsAdmissible (length w.definitions) (map g ds) → IsNewClique w (map g ds)
suits_with names w ds g gn gf gb fine ok =
    let own = map function_of ds in
    let same = functions_kept g (λ d. λ i. (gn d i, length (gf d i))) ds in
    let n = sym (names_kept g gn ds) in
    record {
      some = let s = fine.some in omega (arith, s, length-map ds g);
      names = subst (Every (IsNewName w)) n fine.new;
      different = subst AreDifferentNames n fine.different;
      clique = clique_of names w own ds g gf gb (fine.fine (map g ds) same) ok;
    }

settled_suits : (names : List (List ℕ)) (w : WorldSeen) (ds : List Definition) → AreFine names w ds → first_refused (length w.definitions) (map settled ds) ≡ None → (b : Bool) → is_empty (recursive_calls (length w.definitions) ds) ≡ b
    → IsNewClique w (cond b (map unmeasured ds) (map settled ds))
settled_suits names w ds fine h true e = suits_with names w ds unmeasured (λ d. refl) (λ d. refl) (λ d. refl) fine (no_calls_admissible (length w.definitions) ds e)
settled_suits names w ds fine h false e =
    suits_with names w ds settled (λ d. refl) (λ d. refl) (λ d. refl) fine
    (every_step (is_step (length w.definitions) (map settled ds)) 1 (recursive_calls (length w.definitions) (map settled ds)) h)

admitted_clique : {X : Type 0} (first : ℕ) (ds : List Definition) (o : Option ℕ) (e : EventSeen) → clique_admitted first ds o ≡ Ok e → (o ≡ None → Clique (with_settled first ds) ≡ e → X) → X
admitted_clique first ds None e h g = g refl (same_given (Clique (with_settled first ds)) e h)
admitted_clique first ds (Some i) e h g = no_code (code.NotAdmitted i) e h

members_some : (o : Option (List DefunParts)) (ds : List DefunParts) → checked_members o ≡ Some ds → are_members ds ≡ true
members_some (Some es) ds h = if_some (are_members es) es ds h (λ a q. subst (λ (z : List DefunParts). are_members z ≡ true) q a)
members_some None ds h = none_some ds h

pairwise_length : {A B : Type 0} (P : A → B → Type 0) (xs : List A) (ys : List B) → Pairwise P xs ys → length ys ≡ length xs
pairwise_length P [] [] h = refl
pairwise_length P [] (y ∷ ys) h = absurd h
pairwise_length P (x ∷ xs) [] h = absurd h
pairwise_length P (x ∷ xs) (y ∷ ys) h = let e = pairwise_length P xs ys h.1 in omega (arith, e)

pub clique_suits : (names : List (List ℕ)) (w : WorldSeen) (parts : List Object) (e : EventSeen) → clique_by names w parts ≡ Ok e → Suits w e
clique_suits names w parts e h =
    found_ok code.BadEvent (clique_parts names parts) (clique_made names w) e h (λ ps hps h1.
    found_ok code.BadOption (all_stated names ps) _ e h1 (λ ss hss h2.
    holds_ok code.Redefined (are_new names w ss) _ e h2 (λ new h3.
    found_ok (code.Term term_fault.BadUse) (all_made names ss) _ e h3 (λ ms hms h4.
    then_ok (members_meant names w (owns_of ms) ms) (clique_judged w) e h4 (λ ds hds h5.
    admitted_clique (length w.definitions) ds (first_refused (length w.definitions) (map settled ds)) e h5 (λ ok r.
    let members = members_some (all_meant (member_parts names) parts) ps hps in
    let stated = all_pairwise (stated_member names) ps ss hss in
    let made = all_pairwise (made_member names) ss ms hms in
    let defined = made_all names w (owns_of ms) ms ds hds in
    let own = made_owns names w (owns_of ms) ms ds defined in
    let named : definition_names ds ≡ map (λ p. p.name) ps = definition_names_made names w (owns_of ms) ms ds defined ∙ (made_names names ss ms made ∙ stated_names names ps ss stated) in
    let named_stated : definition_names ds ≡ map (λ s. s.parts.name) ss = definition_names_made names w (owns_of ms) ms ds defined ∙ made_names names ss ms made in
    let count = pairwise_length (IsMade names w (owns_of ms)) ms ds defined ∙ (pairwise_length (λ s m. made_member names s ≡ Some m) ss ms made ∙ pairwise_length (λ d s. stated_member names d ≡ Some s) ps ss stated) in
    let fine : AreFine names w ds = record {
      some = and_true (leb 1 (length ps) && leb (length ps) 16) (are_different (map (λ p. p.name) ps)) members (λ a b. and_true (leb 1 (length ps)) (leb (length ps) 16) a (λ c d. let l = leb_le 1 (length ps) c in omega (arith, l, count)));
      new = subst (Every (IsNewName w)) (sym named_stated) (new_names names w ss new);
      different = subst AreDifferentNames (sym named) (different_names (map (λ p. p.name) ps) (and_true (leb 1 (length ps) && leb (length ps) 16) (are_different (map (λ p. p.name) ps)) members (λ a b. b)));
      fine = λ all same. subst (λ (o : List (ℕ × ℕ)). Every (IsFineMember names w o all) ds) (sym own) (fine_members names w (owns_of ms) all (same ∙ own) ms ds defined (made_formals names ss ms made));
    } in
    subst (Suits w) r (settled_suits names w ds fine ok (is_empty (recursive_calls (length w.definitions) ds)) refl)))))))
