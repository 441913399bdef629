-- One ground definition more.
use Rattle.std.proofs.Common.{◌≡◌, ◌∙◌, ap, sym, refl, subst, ℕ, zero, suc, ◌+◌, ◌<◌, ◌≤◌, ◌⊎◌, inl, inr, Bool, true, false, not, ◌&&◌, ◌||◌, eqb, List, [], ◌∷◌, ◌++◌, map, length, get_or, take, arith, Option, Some, None, slice_get}
use Rattle.std.specs.Prelude.{bytes_eq, Result, Ok, Err, IfSome, replicate}
use Rattle.std.specs.List.{list_any}
use Rattle.std.proofs.lemmas.Option.{slice_get_within, slice_get-get_or, get_or_from_slice_get}
use Rattle.std.proofs.lemmas.List.{length-append, length-map}
use Rattle.std.proofs.lemmas.Bool.{and_parts}
use Rattle.gl_logic.specs.Object.{Object}
use Rattle.gl_logic.specs.Exp.{Exp, Var}
use Rattle.gl_logic.specs.Names.{IsTable, Extends}
use Rattle.gl_logic.specs.Named.{IsFree, place_of, AreDifferentNames}
use Rattle.gl_logic.specs.Definition.{Definition}
use Rattle.gl_logic.specs.Ground.{Ground, ground}
use Rattle.gl_logic.specs.IsGround.{IsGround, placed}
use Rattle.gl_logic.specs.WorldSeen.{WorldSeen, definition_names, with_definition}
use Rattle.gl_translate.specs.Meaning.{function_names}
use Rattle.gl_logic.specs.NameSets.{are_different}
use Rattle.gl_translate.specs.Translation.{function_of, setting_of, are_in, meaning}
use Rattle.gl_logic.specs.declared.def.Measure.{Measure}
use Rattle.admission.specs.declared.fault.AdmitFault.{AdmitFault}
use Rattle.admission.specs.declared.fault.AdmitFault.TheVariants as fault
use Rattle.admission.specs.Admitted.{verdict, Tells}
use Rattle.event_world.specs.PreludeTexts.{ground_texts, ground_names, ground_formals}
use Rattle.event_world.specs.PreludeForms.{AreSpelled}
use Rattle.event_world.specs.PreludeTerms.{named}
use Rattle.event_world.specs.PreludeRows.{name_in, formals_in, body_in, body_at, IsNext, HoldsFirst}
use Rattle.event_world.specs.Prelude.{IsPrelude}
use Rattle.event_world.proofs.PreludeMeant.{Function, word_place}
use Rattle.event_world.proofs.PreludeTables.{stays, spells_more, are_spelled_more}
use Rattle.event_world.proofs.PreludeRows.{Row, row, all_functions, different_words, is_below, placed_named, whole, found_at, how_many, how_many_texts}
use Rattle.event_world.proofs.PreludeMeanings.{AreFunctions, same_test, placed_at, form_means}
use Rattle.event_world.proofs.PreludeSteps.{admitted}

some_same : {A : Type 0} (x y : A) → Some x ≡ Some y → x ≡ y
some_same x y q = cc

-- ---- functions of a world
-- this definition is this function
abbrev IsFunction : List (List ℕ) → List Function → ℕ → Definition → Type 0
IsFunction names gs i d = (g : Function) × (slice_get gs i ≡ Some g) × (slice_get names d.name ≡ Some g.0) × (length d.formals ≡ g.1)

functions_are : (names : List (List ℕ)) (ds : List Definition) (gs : List Function) → ((i : ℕ) (d : Definition) → slice_get ds i ≡ Some d → IsFunction names gs i d) → AreFunctions names (map function_of ds) (take (length ds) gs)
functions_are names [] gs h = tt
functions_are names (d ∷ ds) [] h = let k = h 0 d refl in absurd (let z : None ≡ Some k.0 = k.1 in cc)
functions_are names (d ∷ ds) (g ∷ gs) h =
    let k = h 0 d refl in
    let z : g ≡ k.0 = some_same g k.0 k.1 in
    (k.2 ∙ ap (λ (f : Function). Some f.0) (sym z), k.3 ∙ ap (λ (f : Function). f.1) (sym z), functions_are names ds gs (λ i e q. h (suc i) e q))

with_own : (names : List (List ℕ)) (fs : List (ℕ × ℕ)) (gs : List Function) (n : ℕ) (f : ℕ × ℕ) (g : Function) → AreFunctions names fs (take n gs) → length fs ≡ n → slice_get gs n ≡ Some g → slice_get names f.0 ≡ Some g.0 → f.1 ≡ g.1
    → AreFunctions names (fs ++ f ∷ []) (take (suc n) gs)
with_own names [] [] n f g h l a p q = absurd cc
with_own names [] (x ∷ gs) n f g h l a p q =
    let z : n ≡ 0 = sym l in
    let y : x ≡ g = some_same x g (sym (ap (slice_get (x ∷ gs)) z) ∙ a) in
    subst (λ (m : ℕ). AreFunctions names (f ∷ []) (take (suc m) (x ∷ gs))) (sym z) (p ∙ ap (λ (u : Function). Some u.0) (sym y), q ∙ ap (λ (u : Function). u.1) (sym y), tt)
with_own names (e ∷ fs) gs zero f g h l a p q = absurd (omega (arith, l))
with_own names (e ∷ fs) [] (suc n) f g h l a p q = absurd h
with_own names (e ∷ fs) (x ∷ gs) (suc n) f g h l a p q = (h.0, h.1, with_own names fs gs n f g h.2 (omega (arith, l)) a p q)

text_at : (i : ℕ) → i < 43 → (t : List ℕ) × (slice_get ground_texts i ≡ Some t)
text_at i l = (get_or ground_texts i [], slice_get-get_or ground_texts i [] (omega (arith, l, how_many_texts)))

if_some_at : {A : Type 0} (P : A → Type 0) (o : Option A) (a : A) → o ≡ Some a → IfSome o P → P a
if_some_at P None a e h = absurd cc
if_some_at P (Some b) a e h = subst P (some_same b a e) h

some_at : {A : Type 0} (P : A → Type 0) (o : Option A) (a : A) → o ≡ Some a → P a → IfSome o P
some_at P None a e h = tt
some_at P (Some b) a e h = subst P (sym (some_same b a e)) h

some_also : {A : Type 0} (P Q : A → Type 0) (o : Option A) → ((a : A) → P a → Q a) → IfSome o P → IfSome o Q
some_also P Q None f h = tt
some_also P Q (Some a) f h = f a h

is_function : (names : List (List ℕ)) (k : ℕ) (w : WorldSeen) → HoldsFirst k names w → k ≤ 43 → (i : ℕ) (d : Definition) → slice_get w.definitions i ≡ Some d → IsFunction names all_functions i d
is_function names k w h l i d a =
    let n = slice_get_within w.definitions i d a in
    let c = h.count in
    let t = text_at i (omega (arith, n, c, l)) in
    let r = row i t.0 t.1 in
    let f = r.1 in
    ((name_in t.0, r.0.arity), f.function, h.named i d a ∙ f.name, (if_some_at (λ (g : Ground). (length d.formals ≡ g.arity) × (placed d.formals d.body ≡ g.body)) (slice_get ground i) r.0 f.there (h.same_ground i d a)).0)

pub later_holds : (names new : List (List ℕ)) (k : ℕ) (w : WorldSeen) → k ≤ 43 → Extends names new → HoldsFirst k names w → HoldsFirst k new w
later_holds names new k w l grown h = record {
  count = h.count;
  same_ground = h.same_ground;
  named = λ i d a.
      let n = slice_get_within w.definitions i d a in
      let c = h.count in
      let s = text_at i (omega (arith, n, c, l)) in
      let r = row i s.0 s.1 in
      stays names new d.name (name_in s.0) grown (h.named i d a ∙ r.1.name) ∙ sym r.1.name;
  variables = λ i d a. some_also (AreSpelled names d.formals) (AreSpelled new d.formals) (slice_get ground_formals i) (λ ws g. are_spelled_more names new d.formals ws grown g) (h.variables i d a);
  measured = h.measured;
  cliques = h.cliques;
  constants = h.constants;
  events = h.events;
}

functions_known : (names : List (List ℕ)) (k : ℕ) (w : WorldSeen) → HoldsFirst k names w → k ≤ 43 → AreFunctions names (map function_of w.definitions) (take k all_functions)
functions_known names k w h l =
    subst (λ (n : ℕ). AreFunctions names (map function_of w.definitions) (take n all_functions)) h.count (functions_are names w.definitions all_functions (is_function names k w h l))

names_same : (ds : List Definition) → function_names (map function_of ds) ≡ definition_names ds
names_same [] = refl
names_same (d ∷ ds) = ap (λ (ns : List ℕ). d.name ∷ ns) (names_same ds)

-- ---- formals
none_among : (names : List (List ℕ)) (table : IsTable names) (v : ℕ) (w : List ℕ) (vs : List ℕ) (ws : List (List ℕ)) → slice_get names v ≡ Some w → AreSpelled names vs ws → list_any (eqb v) vs ≡ list_any (bytes_eq w) ws
none_among names table v w [] [] a h = refl
none_among names table v w [] (u ∷ ws) a h = absurd h
none_among names table v w (x ∷ vs) [] a h = absurd h
none_among names table v w (x ∷ vs) (u ∷ ws) a h = λ i. same_test names table [] [] [] v x w u a h.0 i || none_among names table v w vs ws a h.1 i

different_formals : (names : List (List ℕ)) (table : IsTable names) (vs : List ℕ) (ws : List (List ℕ)) → AreSpelled names vs ws → are_different vs ≡ different_words ws
different_formals names table [] [] h = refl
different_formals names table [] (u ∷ ws) h = absurd h
different_formals names table (v ∷ vs) [] h = absurd h
different_formals names table (v ∷ vs) (w ∷ ws) h = λ i. not (none_among names table v w vs ws h.0 h.1 i) && different_formals names table vs ws h.1 i

spelled_count : (names : List (List ℕ)) (vs : List ℕ) (ws : List (List ℕ)) → AreSpelled names vs ws → length vs ≡ length ws
spelled_count names [] [] h = refl
spelled_count names [] (u ∷ ws) h = absurd h
spelled_count names (v ∷ vs) [] h = absurd h
spelled_count names (v ∷ vs) (w ∷ ws) h = let q = spelled_count names vs ws h.1 in omega (arith, q)

not_true : (b : Bool) → not b ≡ true → b ≡ false
not_true true h = absurd cc
not_true false h = refl

not_there : (v : ℕ) (vs : List ℕ) (j : ℕ) → list_any (eqb v) vs ≡ false → slice_get vs j ≡ Some v → ⊥
not_there v [] j h a = cc
not_there v (x ∷ vs) zero h a = let z : x ≡ v = some_same x v a in let y : eqb v v ≡ true = grind arith in let n : (eqb v v || list_any (eqb v) vs) ≡ false = subst (λ (m : ℕ). (eqb v m || list_any (eqb v) vs) ≡ false) z h in grind (arith, n, y)
not_there v (x ∷ vs) (suc j) h a = not_there v vs j (grind (arith, h)) a

pub all_apart : (vs : List ℕ) → are_different vs ≡ true → AreDifferentNames vs
all_apart [] d i j n a b = absurd cc
all_apart (v ∷ vs) d zero zero n a b = refl
all_apart (v ∷ vs) d zero (suc j) n a b = absurd (let p = and_parts (not (list_any (eqb v) vs)) (are_different vs) d in let z : v ≡ n = some_same v n a in not_there v vs j (not_true (list_any (eqb v) vs) p.0) (b ∙ ap Some (sym z)))
all_apart (v ∷ vs) d (suc i) zero n a b = absurd (let p = and_parts (not (list_any (eqb v) vs)) (are_different vs) d in let z : v ≡ n = some_same v n b in not_there v vs i (not_true (list_any (eqb v) vs) p.0) (a ∙ ap Some (sym z)))
all_apart (v ∷ vs) d (suc i) (suc j) n a b = let p = and_parts (not (list_any (eqb v) vs)) (are_different vs) d in let q = all_apart vs p.1 i j n a b in ap suc q

-- ---- the next definition
module _ (names : List (List ℕ)) (k name : ℕ) (formals : List ℕ) (form : Object) (next : IsNext names k name formals form) where
  abbrev text : List ℕ
  text = next.text

  abbrev its_row : (g : Ground) × Row k text g
  its_row = row k text next.at

  pub below_all : k < 43
  below_all = let n = slice_get_within ground_texts k text next.at in omega (arith, n, how_many_texts)

  counted : length formals ≡ its_row.0.arity
  counted = spelled_count names formals (formals_in text) next.variables ∙ its_row.1.count

  pub few_formals : length formals ≤ 3
  few_formals = omega (arith, counted, its_row.1.few)

  body_is : body_at k ≡ its_row.0.body
  body_is = ap (λ (g : Ground). g.body) (get_or_from_slice_get ground k its_row.0 (record { arity = 0; body = Var 0 }) its_row.1.there)

  pub apart_formals : IsTable names → are_different formals ≡ true
  apart_formals table = different_formals names table formals (formals_in text) next.variables ∙ its_row.1.different

  -- the form's term, in a later table
  pub next_means : (new : List (List ℕ)) → IsTable new → Extends names new → (w : WorldSeen) → HoldsFirst k names w → (own : List (ℕ × ℕ)) → own ≡ (name, length formals) ∷ [] → meaning (setting_of new w false own) form (are_in formals) 0 ≡ Ok (named formals (body_at k))
  next_means new table grown w h own o =
      let h' = later_holds names new k w (omega (arith, below_all)) grown h in
      let f = functions_known new k w h' (omega (arith, below_all)) in
      let r = its_row.1 in
      let l : length (map function_of w.definitions) ≡ k = length-map w.definitions function_of ∙ h.count in
      let known : AreFunctions new (map function_of w.definitions ++ own) (take (suc k) all_functions) =
      subst (λ (z : List (ℕ × ℕ)). AreFunctions new (map function_of w.definitions ++ z) (take (suc k) all_functions)) (sym o)
      (with_own new (map function_of w.definitions) all_functions k (name, length formals) (name_in text, its_row.0.arity) f l r.function (stays names new name (name_in text) grown next.spelled) counted)
      in
      ap (λ (c : List (ℕ × Object)). meaning (record { names = new; constants = c; functions = map function_of w.definitions; own = own; every = false }) form (are_in formals) 0) h.constants
      ∙ (form_means new table (map function_of w.definitions) own formals (formals_in text) (take (suc k) all_functions) known (are_spelled_more names new formals (formals_in text) grown next.variables) form (body_in text) its_row.0.body (spells_more names new form (body_in text) grown next.body) r.meant r.small
      ∙ ap (λ (e : Exp). Ok (named formals e)) (sym body_is))

  pub its_name_is_free : IsTable names → (w : WorldSeen) → HoldsFirst k names w → IsFree (definition_names w.definitions) name
  its_name_is_free table w h =
      ap (λ (ns : List ℕ). place_of ns name) (sym (names_same w.definitions))
      ∙ (placed_at names table [] [] [] (map function_of w.definitions) (take k all_functions) name (name_in text) (functions_known names k w h (omega (arith, below_all))) next.spelled
      ∙ its_row.1.free)

  pub is_the_ground_one : are_different formals ≡ true → (body : Exp) (d : Definition) → d.formals ≡ formals → d.body ≡ named formals (body_at k) → IsGround k d
  is_the_ground_one a body d f b =
      let r = its_row.1 in
      let below = subst (λ (n : ℕ). is_below n its_row.0.body ≡ true) (sym counted) r.below in
      some_at (λ (g : Ground). (length d.formals ≡ g.arity) × (placed d.formals d.body ≡ g.body)) (slice_get ground k) its_row.0 r.there
      (ap length f ∙ counted, (λ i. placed (f i) ((b ∙ ap (named formals) body_is) i)) ∙ placed_named formals a its_row.0.body below)

  pub is_admitted : are_different formals ≡ true → (body : Exp) → body ≡ named formals (body_at k) → (i : ℕ) → verdict k formals body None ≡ Err i → ⊥
  is_admitted a body b i q = admitted k its_row.0 its_row.1.there formals counted a i (ap (λ (e : Exp). verdict k formals e None) (sym (b ∙ ap (named formals) body_is)) ∙ q)

  -- ---- the world with it
  pub its_title : (new : List (List ℕ)) → Extends names new → slice_get new name ≡ slice_get ground_names k
  its_title new grown = stays names new name (name_in text) grown next.spelled ∙ sym its_row.1.name

  pub its_variables : (new : List (List ℕ)) → Extends names new → (vs : List ℕ) → vs ≡ formals → IfSome (slice_get ground_formals k) (AreSpelled new vs)
  its_variables new grown vs e = some_at (AreSpelled new vs) (slice_get ground_formals k) (formals_in text) its_row.1.variables (subst (λ (us : List ℕ). AreSpelled new us (formals_in text)) (sym e) (are_spelled_more names new formals (formals_in text) grown next.variables))

-- a place in a list with one more is one of before, or the last
seat : {A : Type 0} (xs : List A) (y : A) (i : ℕ) (x : A) → slice_get (xs ++ y ∷ []) i ≡ Some x → (slice_get xs i ≡ Some x) ⊎ ((i ≡ length xs) × (x ≡ y))
seat [] y zero x e = inr (refl, cc)
seat [] y (suc i) x e = absurd cc
seat (z ∷ zs) y zero x e = inl e
seat (z ∷ zs) y (suc i) x e = elim (seat zs y i x e) [ inl h ↦ inl h | inr h ↦ inr (omega (arith, h.0), h.1) ]

at_last : {A : Type 0} (P : ℕ → A → Type 0) (xs : List A) (y : A) → ((i : ℕ) (x : A) → slice_get xs i ≡ Some x → P i x) → P (length xs) y → (i : ℕ) (x : A) → slice_get (xs ++ y ∷ []) i ≡ Some x → P i x
at_last P xs y h last i x a = elim (seat xs y i x a) [
  | inl q ↦ h i x q
  | inr q ↦ subst (λ (n : ℕ). P n x) (sym q.0) (subst (λ (z : _). P (length xs) z) (sym q.1) last)
]

abbrev ones : ℕ → List ℕ
ones k = replicate k 1

once_more : (k : ℕ) → ones k ++ 1 ∷ [] ≡ ones (k + 1)
once_more zero = refl
once_more (suc k) = let n : suc k + 1 ≡ suc (k + 1) = omega arith in ap (λ (xs : List ℕ). 1 ∷ xs) (once_more k) ∙ ap ones (sym n)

pub holds_more : (names new : List (List ℕ)) (k : ℕ) (w : WorldSeen) (d : Definition) → k ≤ 43 → Extends names new → HoldsFirst k names w → IsGround k d → slice_get new d.name ≡ slice_get ground_names k → IfSome (slice_get ground_formals k) (AreSpelled new d.formals) → verdict k d.formals d.body None ≡ Ok d.measure → HoldsFirst (k + 1) new (with_definition w d)
holds_more names new k w d l grown h g n u v =
    let later = later_holds names new k w l grown h in
    let c = h.count in
    record {
      count = omega (arith, length-append w.definitions (d ∷ []), c);
      same_ground = at_last IsGround w.definitions d h.same_ground (subst (λ (m : ℕ). IsGround m d) (sym c) g);
      named = at_last (λ i e. slice_get new e.name ≡ slice_get ground_names i) w.definitions d later.named (n ∙ ap (slice_get ground_names) (sym c));
      variables = at_last (λ i e. IfSome (slice_get ground_formals i) (AreSpelled new e.formals)) w.definitions d later.variables (subst (λ (m : ℕ). IfSome (slice_get ground_formals m) (AreSpelled new d.formals)) (sym c) u);
      measured = at_last (λ i e. verdict i e.formals e.body None ≡ Ok e.measure) w.definitions d h.measured (ap (λ (m : ℕ). verdict m d.formals d.body None) c ∙ v);
      cliques = ap (λ (cs : List ℕ). cs ++ 1 ∷ []) h.cliques ∙ once_more k;
      constants = h.constants;
      events = h.events;
    }

pub none_held : (names : List (List ℕ)) (w : WorldSeen) → w.definitions ≡ [] → w.cliques ≡ [] → w.constants ≡ [] → w.events ≡ [] → HoldsFirst 0 names w
none_held names w a b c e = record {
  count = ap length a;
  same_ground = λ i d q. absurd (let z : slice_get [] i ≡ Some d = sym (ap (λ (ds : List Definition). slice_get ds i) a) ∙ q in cc);
  named = λ i d q. absurd (let z : slice_get [] i ≡ Some d = sym (ap (λ (ds : List Definition). slice_get ds i) a) ∙ q in cc);
  variables = λ i d q. absurd (let z : slice_get [] i ≡ Some d = sym (ap (λ (ds : List Definition). slice_get ds i) a) ∙ q in cc);
  measured = λ i d q. absurd (let z : slice_get [] i ≡ Some d = sym (ap (λ (ds : List Definition). slice_get ds i) a) ∙ q in cc);
  cliques = b;
  constants = c;
  events = e;
}

pub is_prelude : (names : List (List ℕ)) (w : WorldSeen) → IsTable names → HoldsFirst 43 names w → IsPrelude names w
is_prelude names w table h = record {
  same_ground = h.same_ground;
  all = omega (arith, how_many, h.count);
  count = h.count;
  named = h.named;
  found = λ i name text a b.
      ap (λ (ns : List ℕ). place_of ns name) (sym (names_same w.definitions))
      ∙ (placed_at names table [] [] [] (map function_of w.definitions) (take 43 all_functions) name text (functions_known names 43 w h (omega arith)) b
      ∙ (ap (word_place text) whole ∙ found_at i text a));
  variables = h.variables;
  measured = h.measured;
  cliques = h.cliques;
  constants = h.constants;
  events = h.events;
}

pub no_fault : (Beyond : Type 0) (v : Result (Option Measure) ℕ) (e : AdmitFault) (i : ℕ) → e ≡ fault.NotAdmitted i → (v ≡ Err i → ⊥) → Tells Beyond v (Err e) → ⊥
no_fault Beyond v e i is h q = h (subst (λ (f : AdmitFault). Tells Beyond v (Err f)) is q)
