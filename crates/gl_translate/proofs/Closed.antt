-- What holds of each meaning that the table gives.
use Rattle.std.proofs.Common.{◌≡◌, ◌∙◌, ap, sym, refl, subst, ℕ, zero, suc, Bool, true, false, cond, not, ◌&&◌, ◌||◌, ◌++◌, eqb, ℤ, pos, negsuc, List, [], ◌∷◌, map, length, Option, Some, None}
use Rattle.std.specs.Prelude.{codes, bytes_eq, ◌==◌}
use Rattle.std.specs.Option.{option_map, IfSome}
use Rattle.std.proofs.lemmas.List.{length-map}
use Rattle.std.proofs.lemmas.Bool.{eqb-true}
use Rattle.gl_logic.specs.Every.{Every}
use Rattle.gl_logic.specs.Object.{Object, Int, Character, Symbol, Text, Cons, nil, true_object}
use Rattle.gl_logic.specs.ObjectEq.{is_nil}
use Rattle.gl_logic.specs.PrimValue.{prim_arity, is_cons}
use Rattle.gl_logic.specs.declared.prim.Primitive.{Primitive}
use Rattle.gl_logic.specs.declared.prim.Primitive.TheVariants as prim
use Rattle.gl_translate.specs.declared.fault.TermFault.{TermFault}
use Rattle.gl_translate.specs.declared.fault.TermFault.TheVariants as term_fault
use Rattle.gl_translate.specs.declared.macros.Macro.{Macro}
use Rattle.gl_translate.specs.declared.macros.Macro.TheVariants as macro
use Rattle.gl_translate.specs.Setting.{Setting, unnamed}
use Rattle.gl_logic.specs.Wording.{has_mark, is_legal, spells, text_of}
use Rattle.gl_translate.specs.Meaning.{Meaning, fault, literal, symbol, if_form, prim_form, call_form, let_form, prim_call, call_with, count_at, numbered_call, place_call, number_named, named_call}
use Rattle.gl_translate.specs.Parts.{Part, Binding, all_means}
use Rattle.gl_translate.specs.Macros.{is_keyword_object, if_call, quote_call, number, prim1, prim2, of_one, of_two, and_form, or_form, clause_form, cond_form, nested, nested_or, sum_form, list_form, minus_form, append_call, member_call, path_form, member_form, mbe_form, Choice, is_key, choice_of, choice_before, joined, choices_of, key_test, choices_form, chosen, case_form, matches_all, bound_by, all_bound, is_declare, body_of, let_bound, let_parts, let_call, let_one, one_after_another, let_star_parts, let_star_call}
use Rattle.gl_logic.specs.NameSets.{are_different}
use Rattle.gl_translate.specs.Steps.{part_of, binding_of, choice_form, choice_forms}
use Rattle.gl_translate.specs.Words.{prim_named, is_path, letters_of}
use Rattle.gl_translate.specs.Heads.{macro_named, macro_form, of_macro, head_means}
use Rattle.gl_translate.proofs.Tables.{headed_is}
use Rattle.gl_translate.specs.Translation.{meaning, meanings, bindings, parts, of_prim, of_function, headed, head_name, list_meaning}

-- what is kept by each form that the table makes, where the objects that stand for themselves are fine
pub record IsKept (s : Setting) (IsFine : Object → Type 0) (P : Meaning → Type 0) : Type 0 where
  pub of_fault : (e : TermFault) → P (fault e)
  pub of_literal : (x : Object) → IsFine x → P (literal x)
  pub of_symbol : (t : ℕ) → P (symbol s t)
  pub of_if : (a b c : Meaning) → P a → P b → P c → P (if_form a b c)
  pub of_prim : (p : Primitive) (ms : List Meaning) → prim_arity p ≡ length ms → Every P ms → P (prim_form p ms)
  pub of_call : (f : ℕ) (ms : List Meaning) → count_at (s.functions ++ s.own) f ≡ Some (length ms) → Every P ms → P (call_form f ms)
  pub of_let : (names : List ℕ) (ms : List Meaning) (b : Meaning) → length names ≡ length ms → Every P ms → P b → P (let_form names ms b)
  pub fine_parts : (a d : Object) → IsFine (Cons a d) → IsFine a × IsFine d
  pub fine_nil : IsFine nil
  pub fine_true : IsFine true_object
  pub fine_zero : IsFine (Int (pos 0))
  pub fine_one : IsFine (Int (pos 1))
  pub fine_minus_one : IsFine (Int (negsuc 0))

module _ (s : Setting) (IsFine : Object → Type 0) (P : Meaning → Type 0) (k : IsKept s IsFine P) where
  abbrev InsideHas : Option (List Meaning) → Type 0
  InsideHas o = IfSome o (Every P)

  abbrev BindingHas : Binding → Type 0
  BindingHas b = InsideHas b.inside

  abbrev pub PartHas : Part → Type 0
  PartHas p = P p.means × (InsideHas p.inside × (IfSome p.bindings (Every BindingHas) × IsFine p.object))

  bad : P (fault term_fault.BadUse)
  bad = k.of_fault term_fault.BadUse

  wrong : P (fault term_fault.WrongCount)
  wrong = k.of_fault term_fault.WrongCount

  nil_has : P (literal nil)
  nil_has = k.of_literal nil k.fine_nil

  means_have : (ps : List Part) → Every PartHas ps → Every P (all_means ps)
  means_have [] h = tt
  means_have (p ∷ ps) h = (h.0.0, means_have ps h.1)

  -- ---- a fixed count of arguments
  pub prim1_has : (p : Primitive) (a : Meaning) → prim_arity p ≡ 1 → P a → P (prim1 p a)
  prim1_has p a n h = k.of_prim p (a ∷ []) n (h, tt)

  pub prim2_has : (p : Primitive) (a b : Meaning) → prim_arity p ≡ 2 → P a → P b → P (prim2 p a b)
  prim2_has p a b n h g = k.of_prim p (a ∷ b ∷ []) n (h, (g, tt))

  one_has : (f : Meaning → Meaning) (ms : List Meaning) → ((a : Meaning) → P a → P (f a)) → Every P ms → P (of_one f ms)
  one_has f [] g h = wrong
  one_has f (a ∷ []) g h = g a h.0
  one_has f (a ∷ b ∷ ms) g h = wrong

  two_has : (f : Meaning → Meaning → Meaning) (ms : List Meaning) → ((a b : Meaning) → P a → P b → P (f a b)) → Every P ms → P (of_two f ms)
  two_has f [] g h = wrong
  two_has f (a ∷ []) g h = wrong
  two_has f (a ∷ b ∷ []) g h = g a b h.0 h.1.0
  two_has f (a ∷ b ∷ c ∷ ms) g h = wrong

  -- ---- logic
  pub and_has : (ms : List Meaning) → Every P ms → P (and_form ms)
  and_has [] h = k.of_literal true_object k.fine_true
  and_has (a ∷ []) h = h.0
  and_has (a ∷ b ∷ bs) h = k.of_if a (and_form (b ∷ bs)) (literal nil) h.0 (and_has (b ∷ bs) h.1) nil_has

  pub or_has : (ms : List Meaning) → Every P ms → P (or_form ms)
  or_has [] h = nil_has
  or_has (a ∷ []) h = h.0
  or_has (a ∷ b ∷ bs) h = k.of_if a a (or_form (b ∷ bs)) h.0 h.0 (or_has (b ∷ bs) h.1)

  clause_has : (o : Option (List Meaning)) (rest : Meaning) → InsideHas o → P rest → P (clause_form o rest)
  clause_has None rest h g = bad
  clause_has (Some []) rest h g = bad
  clause_has (Some (a ∷ [])) rest h g = k.of_if a a rest h.0 h.0 g
  clause_has (Some (a ∷ b ∷ [])) rest h g = k.of_if a b rest h.0 h.1.0 g
  clause_has (Some (a ∷ b ∷ c ∷ ms)) rest h g = bad

  pub cond_has : (ps : List Part) → Every PartHas ps → P (cond_form ps)
  cond_has [] h = nil_has
  cond_has (p ∷ ps) h = clause_has p.inside (cond_form ps) h.0.1.0 (cond_has ps h.1)

  -- ---- lists and arithmetic
  nested_has : (f : Meaning → Meaning → Meaning) (a : Meaning) (ms : List Meaning) → ((x y : Meaning) → P x → P y → P (f x y)) → P a → Every P ms → P (nested f a ms)
  nested_has f a [] g h i = h
  nested_has f a (b ∷ bs) g h i = g a (nested f b bs) h (nested_has f b bs g i.0 i.1)

  pub nested_or_has : (none : Meaning) (f : Meaning → Meaning → Meaning) (ms : List Meaning) → P none → ((x y : Meaning) → P x → P y → P (f x y)) → Every P ms → P (nested_or none f ms)
  nested_or_has none f [] n g h = n
  nested_or_has none f (a ∷ rest) n g h = nested_has f a rest g h.0 h.1

  pub of_prim2 : (none : Meaning) (p : Primitive) (ms : List Meaning) → prim_arity p ≡ 2 → P none → Every P ms → P (nested_or none (prim2 p) ms)
  of_prim2 none p ms n z h = nested_or_has none (prim2 p) ms z (λ x y. prim2_has p x y n) h

  sum_has : (p : Primitive) (unit : ℤ) (ms : List Meaning) → prim_arity p ≡ 2 → IsFine (Int unit) → Every P ms → P (sum_form p unit ms)
  sum_has p unit [] n z h = k.of_literal (Int unit) z
  sum_has p unit (a ∷ []) n z h = prim2_has p (literal (Int unit)) a n (k.of_literal (Int unit) z) h.0
  sum_has p unit (a ∷ b ∷ ms) n z h = of_prim2 (literal (Int unit)) p (a ∷ b ∷ ms) n (k.of_literal (Int unit) z) h

  pub list_has : (ms : List Meaning) → Every P ms → P (list_form ms)
  list_has [] h = nil_has
  list_has (a ∷ rest) h = prim2_has prim.Cons a (list_form rest) refl h.0 (list_has rest h.1)

  minus_has : (ms : List Meaning) → Every P ms → P (minus_form ms)
  minus_has [] h = wrong
  minus_has (a ∷ []) h = prim1_has prim.UnaryMinus a refl h.0
  minus_has (a ∷ b ∷ []) h = prim2_has prim.BinaryPlus a (prim1 prim.UnaryMinus b) refl h.0 (prim1_has prim.UnaryMinus b refl h.1.0)
  minus_has (a ∷ b ∷ c ∷ ms) h = wrong

  pub path_has : (letters : List ℕ) (a : Meaning) → P a → P (path_form letters a)
  path_has [] a h = h
  path_has (letter ∷ letters) a h = elim (letter == 65) as (λ b. P (prim1 (cond b prim.Car prim.Cdr) (path_form letters a))) [
    | true ↦ prim1_has prim.Car (path_form letters a) refl (path_has letters a h)
    | false ↦ prim1_has prim.Cdr (path_form letters a) refl (path_has letters a h)
  ]

  -- ---- calls
  prim_call_has : (p : Primitive) (ms : List Meaning) → Every P ms → P (prim_call p ms)
  prim_call_has p ms h = elim (length ms == prim_arity p) as (λ b. (length ms == prim_arity p) ≡ b → P (cond b (prim_form p ms) (fault term_fault.WrongCount))) [
    | true ↦ λ q. k.of_prim p ms (sym (eqb-true (length ms) (prim_arity p) q)) h
    | false ↦ λ q. wrong
  ] refl

  with_has : (f : ℕ) (ms : List Meaning) (o : Option ℕ) → count_at (s.functions ++ s.own) f ≡ o → Every P ms → P (call_with f ms o)
  with_has f ms None e h = k.of_fault term_fault.UnknownFunction
  with_has f ms (Some n) e h = elim (length ms == n) as (λ b. (length ms == n) ≡ b → P (cond b (call_form f ms) (fault term_fault.WrongCount))) [
    | true ↦ λ q. k.of_call f ms (e ∙ ap Some (sym (eqb-true (length ms) n q))) h
    | false ↦ λ q. wrong
  ] refl

  numbered_has : (f : ℕ) (ms : List Meaning) → Every P ms → P (numbered_call s f ms)
  numbered_has f ms h = with_has f ms (count_at (s.functions ++ s.own) f) refl h

  placed_has : (ms : List Meaning) (o : Option ℕ) → Every P ms → P (place_call s ms o)
  placed_has ms (Some f) h = numbered_has f ms h
  placed_has ms None h = k.of_fault term_fault.UnknownFunction

  pub append_has : (a b : Meaning) → P a → P b → P (append_call s a b)
  append_has a b h g = numbered_has 27 (a ∷ b ∷ []) (h, (g, tt))

  member_has : (a b : Meaning) → P a → P b → P (member_call s a b)
  member_has a b h g = numbered_has 31 (a ∷ b ∷ []) (h, (g, tt))

  -- ---- `member`, `mbe`
  member_form_has : (ps : List Part) → Every PartHas ps → P (member_form s ps)
  member_form_has [] h = wrong
  member_form_has (a ∷ []) h = wrong
  member_form_has (a ∷ b ∷ []) h = member_has a.means b.means h.0.0 h.1.0.0
  member_form_has (a ∷ b ∷ c ∷ ps) h = k.of_fault (cond (is_keyword_object s c.object) term_fault.BadUse term_fault.WrongCount)

  mbe_has : (ps : List Part) → Every PartHas ps → P (mbe_form s ps)
  mbe_has [] h = wrong
  mbe_has (l ∷ []) h = wrong
  mbe_has (l ∷ a ∷ []) h = wrong
  mbe_has (l ∷ a ∷ e ∷ []) h = wrong
  mbe_has (l ∷ a ∷ e ∷ b ∷ []) h = elim (spells s.names (codes ":LOGIC") l.object && spells s.names (codes ":EXEC") e.object) as (λ z. P (cond z a.means (fault term_fault.BadUse))) [ true ↦ h.1.0.0 | false ↦ bad ]
  mbe_has (l ∷ a ∷ e ∷ b ∷ c ∷ ps) h = wrong

  -- ---- `case`
  abbrev ChoiceHas : Choice → Type 0
  ChoiceHas c = IsFine c.0 × P c.1

  pub choice_gives : (x : Object) (o : Option (List Meaning)) → IsFine x → InsideHas o → IfSome (choice_of x o) ChoiceHas
  choice_gives (Int z) o g h = tt
  choice_gives (Character n) o g h = tt
  choice_gives (Symbol t) o g h = tt
  choice_gives (Text t) o g h = tt
  choice_gives (Cons key rest) None g h = tt
  choice_gives (Cons key rest) (Some []) g h = tt
  choice_gives (Cons key rest) (Some (a ∷ [])) g h = tt
  choice_gives (Cons key rest) (Some (a ∷ v ∷ [])) g h = elim (is_key key) as (λ b. IfSome (cond b (Some (key, v)) None) ChoiceHas) [ true ↦ ((k.fine_parts key rest g).0, h.1.0) | false ↦ tt ]
  choice_gives (Cons key rest) (Some (a ∷ v ∷ w ∷ ms)) g h = tt

  joined_choices : (last : Bool) (o : Option Choice) (os : Option (List Choice)) → IfSome o ChoiceHas → IfSome os (Every ChoiceHas) → IfSome (joined (choice_before s last) o os) (Every ChoiceHas)
  joined_choices last None os h g = tt
  joined_choices last (Some c) None h g = tt
  joined_choices last (Some c) (Some cs) h g = elim (matches_all s c.0 && not last) as (λ b. IfSome (cond b None (Some (c ∷ cs))) (Every ChoiceHas)) [ true ↦ tt | false ↦ (h, g) ]

  choices_give : (ps : List Part) → Every PartHas ps → IfSome (choices_of s ps) (Every ChoiceHas)
  choices_give [] h = tt
  choices_give (p ∷ ps) h = joined_choices (length ps == 0) (choice_of p.object p.inside) (choices_of s ps) (choice_gives p.object p.inside h.0.1.1.1 h.0.1.0) (choices_give ps h.1)

  pub key_test_has : (key : Object) → IsFine key → P (key_test s key)
  key_test_has key h = elim (is_cons key) as (λ b. P (cond b (member_call s (symbol s (unnamed s)) (literal key)) (prim2 prim.Equal (symbol s (unnamed s)) (literal key)))) [
    | true ↦ member_has (symbol s (unnamed s)) (literal key) (k.of_symbol (unnamed s)) (k.of_literal key h)
    | false ↦ prim2_has prim.Equal (symbol s (unnamed s)) (literal key) refl (k.of_symbol (unnamed s)) (k.of_literal key h)
  ]

  pub chosen_one : (c : Choice) (rest : Meaning) → ChoiceHas c → P rest → P (cond (matches_all s c.0) c.1 (if_form (key_test s c.0) c.1 rest))
  chosen_one c rest h g = elim (matches_all s c.0) as (λ b. P (cond b c.1 (if_form (key_test s c.0) c.1 rest))) [ true ↦ h.1 | false ↦ k.of_if (key_test s c.0) c.1 rest (key_test_has c.0 h.0) h.1 g ]

  one_choice_has : (o : Option Choice) (rest : Meaning) → IfSome o ChoiceHas → P rest → P (choice_form s o rest)
  one_choice_has None rest h g = bad
  one_choice_has (Some c) rest h g = chosen_one c rest h g

  choices_has : (cs : List Choice) → Every ChoiceHas cs → P (choices_form s cs)
  choices_has [] h = nil_has
  choices_has (c ∷ cs) h = chosen_one c (choices_form s cs) h.0 (choices_has cs h.1)

  chosen_has : (x : Meaning) (o : Option (List Choice)) → P x → IfSome o (Every ChoiceHas) → P (chosen s x o)
  chosen_has x None h g = bad
  chosen_has x (Some cs) h g = k.of_let (unnamed s ∷ []) (x ∷ []) (choices_form s cs) refl (h, tt) (choices_has cs g)

  case_has : (ps : List Part) → Every PartHas ps → P (case_form s ps)
  case_has [] h = wrong
  case_has (x ∷ ps) h = chosen_has x.means (choices_of s ps) h.0.0 (choices_give ps h.1)

  -- ---- `let` and `let*`
  bound_gives : (x : Object) (o : Option (List Meaning)) → InsideHas o → IfSome (bound_by s x o) (λ e. P e.1)
  bound_gives (Int z) o h = tt
  bound_gives (Character n) o h = tt
  bound_gives (Symbol t) o h = tt
  bound_gives (Text t) o h = tt
  bound_gives (Cons (Int z) rest) o h = tt
  bound_gives (Cons (Character n) rest) o h = tt
  bound_gives (Cons (Text t) rest) o h = tt
  bound_gives (Cons (Cons a d) rest) o h = tt
  bound_gives (Cons (Symbol v) rest) None h = tt
  bound_gives (Cons (Symbol v) rest) (Some []) h = tt
  bound_gives (Cons (Symbol v) rest) (Some (a ∷ [])) h = tt
  bound_gives (Cons (Symbol v) rest) (Some (a ∷ e ∷ [])) h = elim (is_legal s.names v) as (λ b. IfSome {T = ℕ × Meaning} (cond b (Some (v, e)) None) (λ z. P z.1)) [ true ↦ h.1.0 | false ↦ tt ]
  bound_gives (Cons (Symbol v) rest) (Some (a ∷ e ∷ f ∷ ms)) h = tt

  joined_bindings : (o : Option (ℕ × Meaning)) (os : Option (List (ℕ × Meaning))) → IfSome o (λ e. P e.1) → IfSome os (Every (λ e. P e.1)) → IfSome (joined (λ p ps. Some (p ∷ ps)) o os) (Every (λ e. P e.1))
  joined_bindings None os h g = tt
  joined_bindings (Some e) None h g = tt
  joined_bindings (Some e) (Some es) h g = (h, g)

  all_bound_gives : (bs : List Binding) → Every BindingHas bs → IfSome (all_bound s bs) (Every (λ e. P e.1))
  all_bound_gives [] h = tt
  all_bound_gives (b ∷ bs) h = joined_bindings (bound_by s b.object b.inside) (all_bound s bs) (bound_gives b.object b.inside h.0) (all_bound_gives bs h.1)

  values_have : (es : List (ℕ × Meaning)) → Every (λ e. P e.1) es → Every P (map (λ e. e.1) es)
  values_have [] h = tt
  values_have (e ∷ es) h = (h.0, values_have es h.1)

  let_bound_has : (o : Option (List (ℕ × Meaning))) (b : Meaning) → IfSome o (Every (λ e. P e.1)) → P b → P (let_bound o b)
  let_bound_has None b h g = bad
  let_bound_has (Some es) b h g = elim (are_different (map (λ e. e.0) es)) as (λ z. P (cond z (let_form (map (λ e. e.0) es) (map (λ e. e.1) es) b) (fault term_fault.BadUse))) [
    | true ↦ k.of_let (map (λ e. e.0) es) (map (λ e. e.1) es) b (length-map es (λ e. e.0) ∙ sym (length-map es (λ e. e.1))) (values_have es h) g
    | false ↦ bad
  ]

  body_gives : (ps : List Part) → Every PartHas ps → IfSome (body_of s ps) P
  body_gives [] h = tt
  body_gives (b ∷ []) h = h.0.0
  body_gives (d ∷ b ∷ bs) h = elim (is_declare s d.object) as (λ z. IfSome (cond z (body_of s (b ∷ bs)) None) P) [ true ↦ body_gives (b ∷ bs) h.1 | false ↦ tt ]

  let_parts_has : (o : Option (List Binding)) (b : Option Meaning) → IfSome o (Every BindingHas) → IfSome b P → P (let_parts s o b)
  let_parts_has None b h g = bad
  let_parts_has (Some bs) None h g = bad
  let_parts_has (Some bs) (Some b) h g = let_bound_has (all_bound s bs) b (all_bound_gives bs h) g

  let_has : (ps : List Part) → Every PartHas ps → P (let_call s ps)
  let_has [] h = bad
  let_has (p ∷ ps) h = let_parts_has p.bindings (body_of s ps) h.0.1.1.0 (body_gives ps h.1)

  let_one_has : (o : Option (ℕ × Meaning)) (rest : Meaning) → IfSome o (λ e. P e.1) → P rest → P (let_one o rest)
  let_one_has None rest h g = bad
  let_one_has (Some e) rest h g = k.of_let (e.0 ∷ []) (e.1 ∷ []) rest refl (h, tt) g

  pub one_after_has : (bs : List Binding) (body : Meaning) → Every BindingHas bs → P body → P (one_after_another s bs body)
  one_after_has [] body h g = g
  one_after_has (b ∷ bs) body h g = let_one_has (bound_by s b.object b.inside) (one_after_another s bs body) (bound_gives b.object b.inside h.0) (one_after_has bs body h.1 g)

  star_parts_has : (o : Option (List Binding)) (b : Option Meaning) → IfSome o (Every BindingHas) → IfSome b P → P (let_star_parts s o b)
  star_parts_has None b h g = bad
  star_parts_has (Some bs) None h g = bad
  star_parts_has (Some bs) (Some b) h g = one_after_has bs b h g

  star_has : (ps : List Part) → Every PartHas ps → P (let_star_call s ps)
  star_has [] h = bad
  star_has (p ∷ ps) h = star_parts_has p.bindings (body_of s ps) h.0.1.1.0 (body_gives ps h.1)

  -- ---- the table
  macro_has : (m : Macro) (ps : List Part) → Every PartHas ps → P (macro_form s m ps)
  macro_has macro.And ps h = and_has (all_means ps) (means_have ps h)
  macro_has macro.Or ps h = or_has (all_means ps) (means_have ps h)
  macro_has macro.Cond ps h = cond_has ps h
  macro_has macro.Case ps h = case_has ps h
  macro_has macro.Let ps h = let_has ps h
  macro_has macro.LetStar ps h = star_has ps h
  macro_has macro.List ps h = list_has (all_means ps) (means_have ps h)
  macro_has macro.ListStar ps h = of_prim2 (fault term_fault.WrongCount) prim.Cons (all_means ps) refl wrong (means_have ps h)
  macro_has macro.Plus ps h = sum_has prim.BinaryPlus (pos 0) (all_means ps) refl k.fine_zero (means_have ps h)
  macro_has macro.Times ps h = sum_has prim.BinaryTimes (pos 1) (all_means ps) refl k.fine_one (means_have ps h)
  macro_has macro.Minus ps h = minus_has (all_means ps) (means_have ps h)
  macro_has macro.OneMore ps h = one_has (λ a. prim2 prim.BinaryPlus (number 1) a) (all_means ps) (λ a g. prim2_has prim.BinaryPlus (number 1) a refl (k.of_literal (Int (pos 1)) k.fine_one) g) (means_have ps h)
  macro_has macro.OneLess ps h = one_has (λ a. prim2 prim.BinaryPlus a (prim1 prim.UnaryMinus (number 1))) (all_means ps) (λ a g. prim2_has prim.BinaryPlus a (prim1 prim.UnaryMinus (number 1)) refl g (prim1_has prim.UnaryMinus (number 1) refl (k.of_literal (Int (pos 1)) k.fine_one))) (means_have ps h)
  macro_has macro.AtMost ps h = two_has (λ a b. prim1 prim.Not (prim2 prim.Less b a)) (all_means ps) (λ a b g i. prim1_has prim.Not (prim2 prim.Less b a) refl (prim2_has prim.Less b a refl i g)) (means_have ps h)
  macro_has macro.Above ps h = two_has (λ a b. prim2 prim.Less b a) (all_means ps) (λ a b g i. prim2_has prim.Less b a refl i g) (means_have ps h)
  macro_has macro.AtLeast ps h = two_has (λ a b. prim1 prim.Not (prim2 prim.Less a b)) (all_means ps) (λ a b g i. prim1_has prim.Not (prim2 prim.Less a b) refl (prim2_has prim.Less a b refl g i)) (means_have ps h)
  macro_has macro.Unequal ps h = two_has (λ a b. prim1 prim.Not (prim2 prim.Equal a b)) (all_means ps) (λ a b g i. prim1_has prim.Not (prim2 prim.Equal a b) refl (prim2_has prim.Equal a b refl g i)) (means_have ps h)
  macro_has macro.Append ps h = nested_or_has (literal nil) (append_call s) (all_means ps) nil_has append_has (means_have ps h)
  macro_has macro.Logand ps h = of_prim2 (literal (Int (negsuc 0))) prim.BinaryLogand (all_means ps) refl (k.of_literal (Int (negsuc 0)) k.fine_minus_one) (means_have ps h)
  macro_has macro.Logior ps h = of_prim2 (number 0) prim.BinaryLogior (all_means ps) refl (k.of_literal (Int (pos 0)) k.fine_zero) (means_have ps h)
  macro_has macro.Logxor ps h = of_prim2 (number 0) prim.BinaryLogxor (all_means ps) refl (k.of_literal (Int (pos 0)) k.fine_zero) (means_have ps h)
  macro_has macro.Member ps h = member_form_has ps h
  macro_has macro.First ps h = one_has (path_form (codes "A")) (all_means ps) (path_has (codes "A")) (means_have ps h)
  macro_has macro.Second ps h = one_has (path_form (codes "AD")) (all_means ps) (path_has (codes "AD")) (means_have ps h)
  macro_has macro.Third ps h = one_has (path_form (codes "ADD")) (all_means ps) (path_has (codes "ADD")) (means_have ps h)
  macro_has macro.Fourth ps h = one_has (path_form (codes "ADDD")) (all_means ps) (path_has (codes "ADDD")) (means_have ps h)
  macro_has macro.Fifth ps h = one_has (path_form (codes "ADDDD")) (all_means ps) (path_has (codes "ADDDD")) (means_have ps h)
  macro_has macro.Rest ps h = one_has (path_form (codes "D")) (all_means ps) (path_has (codes "D")) (means_have ps h)
  macro_has macro.The ps h = two_has (λ type a. a) (all_means ps) (λ a b g i. i) (means_have ps h)
  macro_has macro.Mbe ps h = mbe_has ps h

  -- ---- heads
  if_has : (ms : List Meaning) → Every P ms → P (if_call ms)
  if_has [] h = wrong
  if_has (a ∷ []) h = wrong
  if_has (a ∷ b ∷ []) h = wrong
  if_has (a ∷ b ∷ c ∷ []) h = k.of_if a b c h.0 h.1.0 h.1.1.0
  if_has (a ∷ b ∷ c ∷ d ∷ ms) h = wrong

  quote_has : (ps : List Part) → Every PartHas ps → P (quote_call ps)
  quote_has [] h = wrong
  quote_has (x ∷ []) h = elim (has_mark x.object) as (λ b. P (cond b (fault term_fault.BadUse) (literal x.object))) [ true ↦ bad | false ↦ k.of_literal x.object h.0.1.1.1 ]
  quote_has (x ∷ y ∷ ps) h = wrong

  of_prim_has : (head : ℕ) (ps : List Part) (o : Option Primitive) → Every PartHas ps → P (of_prim s head ps o)
  of_prim_has head ps (Some p) h = prim_call_has p (all_means ps) (means_have ps h)
  of_prim_has head ps None h = placed_has (all_means ps) (number_named s head) (means_have ps h)

  function_has : (head : ℕ) (ps : List Part) → Every PartHas ps → P (of_function s head ps)
  function_has head ps h = elim (is_path (text_of s.names head)) as (λ b. P (cond b (of_one (path_form (letters_of (text_of s.names head))) (all_means ps)) (of_prim s head ps (prim_named (text_of s.names head))))) [
    | true ↦ one_has (path_form (letters_of (text_of s.names head))) (all_means ps) (path_has (letters_of (text_of s.names head))) (means_have ps h)
    | false ↦ of_prim_has head ps (prim_named (text_of s.names head)) h
  ]

  of_macro_has : (head : ℕ) (ps : List Part) (o : Option Macro) → Every PartHas ps → P (of_macro s head ps o)
  of_macro_has head ps (Some m) h = macro_has m ps h
  of_macro_has head ps None h = function_has head ps h

  head_has : (head : ℕ) (ps : List Part) → Every PartHas ps → P (head_means s head ps)
  head_has head ps h = elim (bytes_eq (text_of s.names head) (codes "IF")) as (λ b. P (cond b (if_call (all_means ps)) (cond (bytes_eq (text_of s.names head) (codes "QUOTE")) (quote_call ps) (of_macro s head ps (macro_named (text_of s.names head)))))) [
    | true ↦ if_has (all_means ps) (means_have ps h)
    | false ↦ elim (bytes_eq (text_of s.names head) (codes "QUOTE")) as (λ b. P (cond b (quote_call ps) (of_macro s head ps (macro_named (text_of s.names head))))) [
      | true ↦ quote_has ps h
      | false ↦ of_macro_has head ps (macro_named (text_of s.names head)) h
    ]
  ]

  headed_has : (head : ℕ) (ps : List Part) → Every PartHas ps → P (headed s head ps)
  headed_has head ps h = subst P (sym (headed_is s head ps)) (head_has head ps h)

  listed_has : (name : Option ℕ) (o : Option (List Part)) → IfSome o (Every PartHas) → P (list_meaning s name o)
  listed_has None o h = bad
  listed_has (Some t) None h = bad
  listed_has (Some t) (Some ps) h = headed_has t ps h

  -- ---- forms, and the elements of proper lists
  more_means : (m : Meaning) (o : Option (List Meaning)) → P m → InsideHas o → InsideHas (option_map (λ ms. m ∷ ms) o)
  more_means m None h g = tt
  more_means m (Some ms) h g = (h, g)

  more_bindings : (b : Binding) (o : Option (List Binding)) → BindingHas b → IfSome o (Every BindingHas) → IfSome (option_map (λ bs. b ∷ bs) o) (Every BindingHas)
  more_bindings b None h g = tt
  more_bindings b (Some bs) h g = (h, g)

  more_parts : (p : Part) (o : Option (List Part)) → PartHas p → IfSome o (Every PartHas) → IfSome (option_map (λ ps. p ∷ ps) o) (Every PartHas)
  more_parts p None h g = tt
  more_parts p (Some ps) h g = (h, g)

  mutual
    pub meaning_has : (x : Object) → IsFine x → P (meaning s x)
    meaning_has (Int z) h = k.of_literal (Int z) h
    meaning_has (Character n) h = k.of_literal (Character n) h
    meaning_has (Symbol t) h = k.of_symbol t
    meaning_has (Text t) h = k.of_literal (Text t) h
    meaning_has (Cons a d) h = listed_has (head_name a) (parts s d) (parts_have d (k.fine_parts a d h).1)

    pub meanings_have : (x : Object) → IsFine x → InsideHas (meanings s x)
    meanings_have (Int z) h = tt
    meanings_have (Character n) h = tt
    meanings_have (Symbol zero) h = tt
    meanings_have (Symbol (suc t)) h = tt
    meanings_have (Text t) h = tt
    meanings_have (Cons a d) h = let f = k.fine_parts a d h in more_means (meaning s a) (meanings s d) (meaning_has a f.0) (meanings_have d f.1)

    pub bindings_have : (x : Object) → IsFine x → IfSome (bindings s x) (Every BindingHas)
    bindings_have (Int z) h = tt
    bindings_have (Character n) h = tt
    bindings_have (Symbol zero) h = tt
    bindings_have (Symbol (suc t)) h = tt
    bindings_have (Text t) h = tt
    bindings_have (Cons a d) h = let f = k.fine_parts a d h in more_bindings (binding_of s a) (bindings s d) (meanings_have a f.0) (bindings_have d f.1)

    parts_have : (x : Object) → IsFine x → IfSome (parts s x) (Every PartHas)
    parts_have (Int z) h = tt
    parts_have (Character n) h = tt
    parts_have (Symbol zero) h = tt
    parts_have (Symbol (suc t)) h = tt
    parts_have (Text t) h = tt
    parts_have (Cons a d) h = let f = k.fine_parts a d h in more_parts (part_of s a) (parts s d) (meaning_has a f.0, (meanings_have a f.0, (bindings_have a f.0, f.0))) (parts_have d f.1)

  pub parts_in_have : (xs : List Object) → Every IsFine xs → Every PartHas (map (part_of s) xs)
  parts_in_have [] h = tt
  parts_in_have (x ∷ xs) h = ((meaning_has x h.0, (meanings_have x h.0, (bindings_have x h.0, h.0))), parts_in_have xs h.1)

  pub means_in_have : (xs : List Object) → Every IsFine xs → Every P (all_means (map (part_of s) xs))
  means_in_have xs h = means_have (map (part_of s) xs) (parts_in_have xs h)

  pub bindings_in_have : (xs : List Object) → Every IsFine xs → Every BindingHas (map (binding_of s) xs)
  bindings_in_have [] h = tt
  bindings_in_have (x ∷ xs) h = (meanings_have x h.0, bindings_in_have xs h.1)

  pub choice_forms_have : (ps : List Part) → Every PartHas ps → P (choice_forms s ps)
  choice_forms_have [] h = nil_has
  choice_forms_have (p ∷ ps) h = one_choice_has (choice_of p.object p.inside) (choice_forms s ps) (choice_gives p.object p.inside h.0.1.1.1 h.0.1.0) (choice_forms_have ps h.1)
