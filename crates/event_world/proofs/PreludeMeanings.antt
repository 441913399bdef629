-- What the forms of ground definitions mean in a table of texts.
use Rattle.std.proofs.Common.{◌≡◌, ◌∙◌, ap, sym, refl, subst, ℕ, zero, suc, ◌+◌, ◌<◌, ◌≤◌, Bool, true, false, cond, ◌||◌, eqb, List, [], ◌∷◌, ◌++◌, map, length, get_or, arith, Option, Some, None, slice_get, take, pos}
use Rattle.std.specs.Prelude.{◌==◌, nat_lt, codes, bytes_eq, Ok, Err}
use Rattle.std.specs.List.{list_any}
use Rattle.std.specs.Option.{option_map}
use Rattle.std.proofs.lemmas.Option.{get_or_from_slice_get}
use Rattle.std.proofs.lemmas.Bool.Decides.{nat_tests}
use Rattle.std.proofs.lemmas.Bool.{and_parts, or_parts, or_left, or_right, eqb-true, eq-eqb}
use Rattle.gl_logic.specs.Object.{Object, Int, Character, Symbol, Text, Cons, nil, true_object}
use Rattle.gl_logic.specs.Names.{IsTable, first_names}
use Rattle.gl_logic.specs.Named.{place_of}
use Rattle.gl_logic.specs.Exp.{Exp, Exps, Var, Const, If, Prim, Call, More}
use Rattle.gl_logic.specs.TermOf.{exps_of}
use Rattle.gl_logic.specs.PrimValue.{prim_arity}
use Rattle.gl_logic.specs.declared.prim.Primitive.{Primitive}
use Rattle.gl_logic.specs.declared.prim.Primitive.TheVariants as prim
use Rattle.gl_translate.specs.declared.fault.TermFault.TheVariants as term_fault
use Rattle.gl_translate.specs.declared.macros.Macro.{Macro}
use Rattle.gl_translate.specs.declared.macros.Macro.TheVariants as macro
use Rattle.gl_translate.specs.Setting.{Setting}
use Rattle.gl_logic.specs.Wording.{first_byte, is_mark, text_of}
use Rattle.gl_translate.specs.Meaning.{Meaning, Outcome, and_then, within, fault, literal, symbol, symbol_inside, variable, every_part, if_form, prim_form, call_form, call_with, count_at, numbered_call, function_names, number_named, place_call, named_call}
use Rattle.gl_translate.specs.Parts.{Part, all_means}
use Rattle.gl_translate.specs.Macros.{if_call, quote_call, and_form, sum_form, minus_form, of_one, of_two, prim1, prim2, path_form}
use Rattle.gl_translate.specs.Words.{prim_named, is_path, letters_of}
use Rattle.gl_translate.specs.Heads.{macro_named, macro_form, of_macro}
use Rattle.gl_translate.proofs.Tables.{headed_is}
use Rattle.gl_translate.proofs.FunctionPlaces.{place_cons}
use Rattle.gl_translate.specs.Translation.{of_prim, of_function, headed, list_meaning, meaning, meanings, bindings, parts, are_in}
use Rattle.event_world.specs.PreludeForms.{Source, Word, Number, Pair, Spells, AreSpelled}
use Rattle.event_world.proofs.PreludeMeant.{one, two, place, word_meant, if_meant, macro_meant, Function, word_place, count_of, counted_meant, placed_meant, prim_meant, function_meant, headed_meant, is_mark_word, and_meant, form_meant, forms_meant, size}
use Rattle.event_world.specs.PreludeTerms.{named, all_named}

-- functions, by name and count of formals
abbrev pub AreFunctions : List (List ℕ) → List (ℕ × ℕ) → List Function → Type 0
AreFunctions names [] [] = Unit {0}
AreFunctions names (f ∷ fs) (g ∷ gs) = (slice_get names f.0 ≡ Some g.0) × (f.1 ≡ g.1) × AreFunctions names fs gs
AreFunctions names _ _ = ⊥

module _ (names : List (List ℕ)) (table : IsTable names) (functions own : List (ℕ × ℕ)) (vars : List ℕ) where
  abbrev s : Setting
  s = record { names = names; constants = []; functions = functions; own = own; every = false }

  abbrev bound : ℕ → Bool
  bound = are_in vars

  -- inside so many others that k more are not too deep, it means this term
  abbrev Means : ℕ → Meaning → Exp → Type 0
  Means k m e = (around : ℕ) → around + k ≤ 2000 → m bound around ≡ Ok (named vars e)

  abbrev AllMean : ℕ → List Meaning → List Exp → Type 0
  AllMean k [] [] = Unit {0}
  AllMean k (m ∷ ms) (e ∷ es) = Means k m e × AllMean k ms es
  AllMean k _ _ = ⊥

  within_is : (m : Meaning) (around : ℕ) → around < 2000 → within m bound around ≡ m bound around
  within_is m around l = grind (arith, nat_tests, l)

  more : (k j : ℕ) (m : Meaning) (e : Exp) → k ≤ j → Means k m e → Means j m e
  more k j m e l h around g = h around (omega (arith, l, g))

  all_more : (k j : ℕ) (ms : List Meaning) (es : List Exp) → k ≤ j → AllMean k ms es → AllMean j ms es
  all_more k j [] [] l h = tt
  all_more k j [] (e ∷ es) l h = h
  all_more k j (m ∷ ms) [] l h = h
  all_more k j (m ∷ ms) (e ∷ es) l h = (more k j m e l h.0, all_more k j ms es l h.1)

  same_count : (k : ℕ) (ms : List Meaning) (es : List Exp) → AllMean k ms es → length ms ≡ length es
  same_count k [] [] h = refl
  same_count k [] (e ∷ es) h = absurd h
  same_count k (m ∷ ms) [] h = absurd h
  same_count k (m ∷ ms) (e ∷ es) h = let q = same_count k ms es h.1 in omega (arith, q)

  same_means : (k : ℕ) (m m' : Meaning) (e : Exp) → m ≡ m' → Means k m' e → Means k m e
  same_means k m m' e q h around l = ap (λ (z : Meaning). z bound around) q ∙ h around l

  -- ---- forms of parts
  parts_mean : (k : ℕ) (ms : List Meaning) (es : List Exp) → AllMean k ms es → (around : ℕ) → around + k ≤ 2000 → every_part ms bound around ≡ Ok (map (named vars) es)
  parts_mean k [] [] h around l = refl
  parts_mean k [] (e ∷ es) h around l = absurd h
  parts_mean k (m ∷ ms) [] h around l = absurd h
  parts_mean k (m ∷ ms) (e ∷ es) h around l =
      ap (λ (o : Outcome Exp). and_then o (λ t. and_then (every_part ms bound around) (λ ts. Ok (t ∷ ts)))) (h.0 around l)
      ∙ ap (λ (o : Outcome (List Exp)). and_then o (λ ts. Ok (named vars e ∷ ts))) (parts_mean k ms es h.1 around l)

  exps_named : (es : List Exp) → exps_of (map (named vars) es) ≡ all_named vars (exps_of es)
  exps_named [] = refl
  exps_named (e ∷ es) = ap (More (named vars e)) (exps_named es)

  literal_means : (k : ℕ) (x : Object) → 1 ≤ k → Means k (literal x) (Const x)
  literal_means k x g around l = within_is (λ b a. Ok (Const x)) around (omega (arith, g, l))

  prim_means : (k : ℕ) (p : Primitive) (ms : List Meaning) (es : List Exp) → AllMean k ms es → Means (k + 1) (prim_form p ms) (Prim p (exps_of es))
  prim_means k p ms es h around l =
      within_is (λ b a. and_then (every_part ms b (suc a)) (λ ts. Ok (Prim p (exps_of ts)))) around (omega (arith, l))
      ∙ (ap (λ (o : Outcome (List Exp)). and_then o (λ ts. Ok (Prim p (exps_of ts)))) (parts_mean k ms es h (suc around) (omega (arith, l)))
      ∙ ap (λ (z : Exps). Ok (Prim p z)) (exps_named es))

  call_means : (k f : ℕ) (ms : List Meaning) (es : List Exp) → AllMean k ms es → Means (k + 1) (call_form f ms) (Call f (exps_of es))
  call_means k f ms es h around l =
      within_is (λ b a. and_then (every_part ms b (suc a)) (λ ts. Ok (Call f (exps_of ts)))) around (omega (arith, l))
      ∙ (ap (λ (o : Outcome (List Exp)). and_then o (λ ts. Ok (Call f (exps_of ts)))) (parts_mean k ms es h (suc around) (omega (arith, l)))
      ∙ ap (λ (z : Exps). Ok (Call f z)) (exps_named es))

  if_means : (k : ℕ) (a b c : Meaning) (x y z : Exp) → Means k a x → Means k b y → Means k c z → Means (k + 1) (if_form a b c) (If x y z)
  if_means k a b c x y z ha hb hc around l =
      let d : suc around + k ≤ 2000 = omega (arith, l) in
      within_is (λ bd n. and_then (a bd (suc n)) (λ t. and_then (b bd (suc n)) (λ u. and_then (c bd (suc n)) (λ v. Ok (If t u v))))) around (omega (arith, l))
      ∙ (ap (λ (o : Outcome Exp). and_then o (λ t. and_then (b bound (suc around)) (λ u. and_then (c bound (suc around)) (λ v. Ok (If t u v))))) (ha (suc around) d)
      ∙ (ap (λ (o : Outcome Exp). and_then o (λ u. and_then (c bound (suc around)) (λ v. Ok (If (named vars x) u v)))) (hb (suc around) d)
      ∙ ap (λ (o : Outcome Exp). and_then o (λ v. Ok (If (named vars x) (named vars y) v))) (hc (suc around) d)))

  -- ---- macros
  is_same : (a b : Exp) → Some a ≡ Some b → a ≡ b
  is_same a b q = cc

  given : (k : ℕ) (m : Meaning) (a e : Exp) → Some a ≡ Some e → Means k m a → Means k m e
  given k m a e q h = subst (λ (z : Exp). Means k m z) (is_same a e q) h

  if_meant_means : (k : ℕ) (ms : List Meaning) (es : List Exp) (e : Exp) → AllMean k ms es → if_meant es ≡ Some e → Means (k + 3) (if_call ms) e
  if_meant_means k (a ∷ b ∷ c ∷ []) (x ∷ y ∷ z ∷ []) e h q = given (k + 3) (if_form a b c) (If x y z) e q (more (k + 1) (k + 3) (if_form a b c) (If x y z) (omega arith) (if_means k a b c x y z h.0 h.1.0 h.1.1.0))
  if_meant_means k ms [] e h q = absurd cc
  if_meant_means k ms (x ∷ []) e h q = absurd cc
  if_meant_means k ms (x ∷ y ∷ []) e h q = absurd cc
  if_meant_means k ms (x ∷ y ∷ z ∷ u ∷ es) e h q = absurd cc
  if_meant_means k [] (x ∷ y ∷ z ∷ []) e h q = absurd h
  if_meant_means k (a ∷ []) (x ∷ y ∷ z ∷ []) e h q = absurd h.1
  if_meant_means k (a ∷ b ∷ []) (x ∷ y ∷ z ∷ []) e h q = absurd h.1.1
  if_meant_means k (a ∷ b ∷ c ∷ d ∷ ms) (x ∷ y ∷ z ∷ []) e h q = absurd h.1.1.1

  and_means : (k : ℕ) (ms : List Meaning) (x y : Exp) → 1 ≤ k → AllMean k ms (x ∷ y ∷ []) → Means (k + 3) (and_form ms) (If x y (Const nil))
  and_means k [] x y g h = absurd h
  and_means k (a ∷ []) x y g h = absurd h.1
  and_means k (a ∷ b ∷ []) x y g h = more (k + 1) (k + 3) (if_form a b (literal nil)) (If x y (Const nil)) (omega arith) (if_means k a b (literal nil) x y (Const nil) h.0 h.1.0 (literal_means k nil g))
  and_means k (a ∷ b ∷ c ∷ ms) x y g h = absurd h.1.1

  plus_means : (k : ℕ) (ms : List Meaning) (x y : Exp) → AllMean k ms (x ∷ y ∷ []) → Means (k + 3) (sum_form prim.BinaryPlus (pos 0) ms) (Prim prim.BinaryPlus (two x y))
  plus_means k [] x y h = absurd h
  plus_means k (a ∷ []) x y h = absurd h.1
  plus_means k (a ∷ b ∷ []) x y h = more (k + 1) (k + 3) (prim_form prim.BinaryPlus (a ∷ b ∷ [])) (Prim prim.BinaryPlus (two x y)) (omega arith) (prim_means k prim.BinaryPlus (a ∷ b ∷ []) (x ∷ y ∷ []) h)
  plus_means k (a ∷ b ∷ c ∷ ms) x y h = absurd h.1.1

  minus_one : (k : ℕ) (ms : List Meaning) (x : Exp) → AllMean k ms (x ∷ []) → Means (k + 3) (minus_form ms) (Prim prim.UnaryMinus (one x))
  minus_one k [] x h = absurd h
  minus_one k (a ∷ []) x h = more (k + 1) (k + 3) (prim_form prim.UnaryMinus (a ∷ [])) (Prim prim.UnaryMinus (one x)) (omega arith) (prim_means k prim.UnaryMinus (a ∷ []) (x ∷ []) h)
  minus_one k (a ∷ b ∷ ms) x h = absurd h.1

  minus_two : (k : ℕ) (ms : List Meaning) (x y : Exp) → AllMean k ms (x ∷ y ∷ []) → Means (k + 3) (minus_form ms) (Prim prim.BinaryPlus (two x (Prim prim.UnaryMinus (one y))))
  minus_two k [] x y h = absurd h
  minus_two k (a ∷ []) x y h = absurd h.1
  minus_two k (a ∷ b ∷ []) x y h =
      more (k + 1 + 1) (k + 3) (prim_form prim.BinaryPlus (a ∷ prim1 prim.UnaryMinus b ∷ [])) (Prim prim.BinaryPlus (two x (Prim prim.UnaryMinus (one y)))) (omega arith)
      (prim_means (k + 1) prim.BinaryPlus (a ∷ prim1 prim.UnaryMinus b ∷ []) (x ∷ Prim prim.UnaryMinus (one y) ∷ [])
      (more k (k + 1) a x (omega arith) h.0, (prim_means k prim.UnaryMinus (b ∷ []) (y ∷ []) (h.1.0, tt), tt)))
  minus_two k (a ∷ b ∷ c ∷ ms) x y h = absurd h.1.1

  at_most_means : (k : ℕ) (ms : List Meaning) (x y : Exp) → AllMean k ms (x ∷ y ∷ []) → Means (k + 3) (of_two (λ a b. prim1 prim.Not (prim2 prim.Less b a)) ms) (Prim prim.Not (one (Prim prim.Less (two y x))))
  at_most_means k [] x y h = absurd h
  at_most_means k (a ∷ []) x y h = absurd h.1
  at_most_means k (a ∷ b ∷ []) x y h =
      more (k + 1 + 1) (k + 3) (prim_form prim.Not (prim2 prim.Less b a ∷ [])) (Prim prim.Not (one (Prim prim.Less (two y x)))) (omega arith)
      (prim_means (k + 1) prim.Not (prim2 prim.Less b a ∷ []) (Prim prim.Less (two y x) ∷ [])
      (prim_means k prim.Less (b ∷ a ∷ []) (y ∷ x ∷ []) (h.1.0, (h.0, tt)), tt))
  at_most_means k (a ∷ b ∷ c ∷ ms) x y h = absurd h.1.1

  macro_means : (k : ℕ) (m : Macro) (ps : List Part) (es : List Exp) (e : Exp) → 1 ≤ k → AllMean k (all_means ps) es → macro_meant m es ≡ Some e → Means (k + 3) (macro_form s m ps) e
  macro_means k macro.And ps (x ∷ y ∷ []) e g h q = given (k + 3) (and_form (all_means ps)) (If x y (Const nil)) e q (and_means k (all_means ps) x y g h)
  macro_means k macro.Plus ps (x ∷ y ∷ []) e g h q = given (k + 3) (sum_form prim.BinaryPlus (pos 0) (all_means ps)) (Prim prim.BinaryPlus (two x y)) e q (plus_means k (all_means ps) x y h)
  macro_means k macro.Minus ps (x ∷ []) e g h q = given (k + 3) (minus_form (all_means ps)) (Prim prim.UnaryMinus (one x)) e q (minus_one k (all_means ps) x h)
  macro_means k macro.Minus ps (x ∷ y ∷ []) e g h q = given (k + 3) (minus_form (all_means ps)) (Prim prim.BinaryPlus (two x (Prim prim.UnaryMinus (one y)))) e q (minus_two k (all_means ps) x y h)
  macro_means k macro.AtMost ps (x ∷ y ∷ []) e g h q = given (k + 3) (of_two (λ a b. prim1 prim.Not (prim2 prim.Less b a)) (all_means ps)) (Prim prim.Not (one (Prim prim.Less (two y x)))) e q (at_most_means k (all_means ps) x y h)
  macro_means k m ps es e g h q = absurd cc

  -- ---- texts and their numbers
  first_four : (xs : List (List ℕ)) → take 4 xs ≡ first_names → (slice_get xs 0 ≡ Some (codes "NIL")) × (slice_get xs 1 ≡ Some (codes "T")) × (slice_get xs 2 ≡ Some (96 ∷ [])) × (slice_get xs 3 ≡ Some (44 ∷ []))
  first_four [] h = absurd cc
  first_four (a ∷ []) h = absurd cc
  first_four (a ∷ b ∷ []) h = absurd cc
  first_four (a ∷ b ∷ c ∷ []) h = absurd cc
  first_four (a ∷ b ∷ c ∷ d ∷ xs) h = (cc, cc, cc, cc)

  same_text : (xs ys : List ℕ) → bytes_eq xs ys ≡ true → xs ≡ ys
  same_text [] [] h = refl
  same_text [] (y ∷ ys) h = absurd cc
  same_text (x ∷ xs) [] h = absurd cc
  same_text (x ∷ xs) (y ∷ ys) h = let p = and_parts (eqb x y) (bytes_eq xs ys) h in λ i. eqb-true x y p.0 i ∷ same_text xs ys p.1 i

  text_same : (xs : List ℕ) → bytes_eq xs xs ≡ true
  text_same [] = refl
  text_same (x ∷ xs) = grind (arith, text_same xs)

  same_number : (t v : ℕ) (w : List ℕ) → slice_get names t ≡ Some w → slice_get names v ≡ Some w → t ≡ v
  same_number t v w a b = table.different t v w a b

  same_some : (w u : List ℕ) → Some w ≡ Some u → w ≡ u
  same_some w u q = cc

  pub same_test : (t v : ℕ) (w u : List ℕ) → slice_get names t ≡ Some w → slice_get names v ≡ Some u → eqb t v ≡ bytes_eq w u
  same_test t v w u a b = elim (bytes_eq w u) as (λ z. bytes_eq w u ≡ z → eqb t v ≡ z) [
    | true ↦ λ q. eq-eqb t v (same_number t v u (a ∙ ap Some (same_text w u q)) b)
    | false ↦ λ q. elim (eqb t v) as (λ z. eqb t v ≡ z → z ≡ false) [
      | true ↦ λ r. absurd (let n : w ≡ u = same_some w u (sym a ∙ (ap (slice_get names) (eqb-true t v r) ∙ b)) in let y : bytes_eq w u ≡ true = subst (λ (z : List ℕ). bytes_eq w z ≡ true) n (text_same w) in cc (q, y))
      | false ↦ λ r. refl
    ] refl
  ] refl

  unmarked_at : (h : ℕ) (w : List ℕ) (n : ℕ) (u : List ℕ) → slice_get names h ≡ Some w → slice_get names n ≡ Some u → bytes_eq w u ≡ false → (h == n) ≡ false
  unmarked_at h w n u a b q = same_test h n w u a b ∙ q

  unmarked : (h : ℕ) (w : List ℕ) → slice_get names h ≡ Some w → is_mark_word w ≡ false → is_mark h ≡ false
  unmarked h w a q =
      let f = first_four names table.first in
      let p = or_parts (bytes_eq w (96 ∷ [])) (bytes_eq w (44 ∷ [])) q in
      λ i. unmarked_at h w 2 (96 ∷ []) a f.2 p.0 i || unmarked_at h w 3 (44 ∷ []) a f.3 p.1 i

  spelled : (h : ℕ) (w : List ℕ) → slice_get names h ≡ Some w → text_of names h ≡ w
  spelled h w a = get_or_from_slice_get names h w [] a

  -- ---- symbols
  formal_by : (v : ℕ) (vs : List ℕ) (t i : ℕ) (b : Bool) (o : Option ℕ) → eqb t v ≡ b → ((j : ℕ) → o ≡ Some j → (get_or vs j 0 ≡ t) × (list_any (eqb t) vs ≡ true)) → cond b (Some 0) (option_map suc o) ≡ Some i → (get_or (v ∷ vs) i 0 ≡ t) × (list_any (eqb t) (v ∷ vs) ≡ true)
  formal_by v vs t i true o e h q = let z : 0 ≡ i = cc in (subst (λ (n : ℕ). get_or (v ∷ vs) n 0 ≡ t) z (sym (eqb-true t v e)), or_left (eqb t v) (list_any (eqb t) vs) e)
  formal_by v vs t i false None e h q = absurd cc
  formal_by v vs t i false (Some j) e h q = let z : suc j ≡ i = cc in let k = h j refl in (subst (λ (n : ℕ). get_or (v ∷ vs) n 0 ≡ t) z k.0, or_right (eqb t v) (list_any (eqb t) vs) k.1)

  formal_at : (vs : List ℕ) (formals : List (List ℕ)) (t : ℕ) (w : List ℕ) (i : ℕ) → slice_get names t ≡ Some w → AreSpelled names vs formals → place w formals ≡ Some i → (get_or vs i 0 ≡ t) × (list_any (eqb t) vs ≡ true)
  formal_at [] [] t w i a h q = absurd cc
  formal_at [] (u ∷ us) t w i a h q = absurd h
  formal_at (v ∷ vs) [] t w i a h q = absurd h
  formal_at (v ∷ vs) (u ∷ us) t w i a h q = formal_by v vs t i (bytes_eq w u) (place w us) (same_test t v w u a h.0) (λ j r. formal_at vs us t w j a h.1 r) q

  not_at : (t : ℕ) (w : List ℕ) (n : ℕ) (u : List ℕ) → slice_get names t ≡ Some w → slice_get names n ≡ Some u → bytes_eq w u ≡ false → eqb t n ≡ false
  not_at t w n u a b q = same_test t n w u a b ∙ q

  from_two : (t : ℕ) → eqb t 0 ≡ false → eqb t 1 ≡ false → nat_lt t 2 ≡ false
  from_two t a b = grind (arith, nat_tests, a, b)

  variable_inside : (formals : List (List ℕ)) (t : ℕ) (w : List ℕ) (o : Option ℕ) (e : Exp) → slice_get names t ≡ Some w → nat_lt t 2 ≡ false → (first_byte w == 58) ≡ false → ((i : ℕ) → o ≡ Some i → (get_or vars i 0 ≡ t) × (list_any (eqb t) vars ≡ true)) → option_map Var o ≡ Some e → symbol_inside s t bound ≡ Ok (named vars e)
  variable_inside formals t w None e a l c h q = absurd cc
  variable_inside formals t w (Some i) e a l c h q =
      let k = h i refl in
      let v : Var i ≡ e = cc in
      ap (λ b. cond b (Ok (Const (Symbol t))) (variable s t bound)) ((λ j. l j || (first_byte (spelled t w a j) == 58)) ∙ c)
      ∙ (ap (λ b. cond (b || false) (Ok (Var t)) (Err term_fault.UnboundVariable)) k.1
      ∙ (ap (λ n. Ok (Var n)) (sym k.0) ∙ ap (λ z. Ok (named vars z)) v))

  symbol_inside_means : (formals : List (List ℕ)) (t : ℕ) (w : List ℕ) (e : Exp) → AreSpelled names vars formals → slice_get names t ≡ Some w → word_meant formals w ≡ Some e → symbol_inside s t bound ≡ Ok (named vars e)
  symbol_inside_means formals t w e f a =
      let four = first_four names table.first in
      elim (bytes_eq w (codes "NIL")) as (λ b. bytes_eq w (codes "NIL") ≡ b → cond b (Some (Const nil)) (cond (bytes_eq w (codes "T")) (Some (Const true_object)) (cond (first_byte w == 58) None (option_map Var (place w formals)))) ≡ Some e → symbol_inside s t bound ≡ Ok (named vars e)) [
        | true ↦ λ r q. let z : t ≡ 0 = same_number t 0 (codes "NIL") (a ∙ ap Some (same_text w (codes "NIL") r)) four.0 in let v : Const nil ≡ e = cc in ap (λ n. symbol_inside s n bound) z ∙ ap (λ x. Ok (named vars x)) v
        | false ↦ λ r. elim (bytes_eq w (codes "T")) as (λ b. bytes_eq w (codes "T") ≡ b → cond b (Some (Const true_object)) (cond (first_byte w == 58) None (option_map Var (place w formals))) ≡ Some e → symbol_inside s t bound ≡ Ok (named vars e)) [
          | true ↦ λ r' q. let z : t ≡ 1 = same_number t 1 (codes "T") (a ∙ ap Some (same_text w (codes "T") r')) four.1 in let v : Const true_object ≡ e = cc in ap (λ n. symbol_inside s n bound) z ∙ ap (λ x. Ok (named vars x)) v
          | false ↦ λ r'. elim (first_byte w == 58) as (λ b. (first_byte w == 58) ≡ b → cond b None (option_map Var (place w formals)) ≡ Some e → symbol_inside s t bound ≡ Ok (named vars e)) [
            | true ↦ λ c q. absurd cc
            | false ↦ λ c q. variable_inside formals t w (place w formals) e a (from_two t (not_at t w 0 (codes "NIL") a four.0 r) (not_at t w 1 (codes "T") a four.1 r')) c (λ i p. formal_at vars formals t w i a f p) q
          ] refl
        ] refl
      ] refl

  word_means : (formals : List (List ℕ)) (t : ℕ) (w : List ℕ) (e : Exp) → AreSpelled names vars formals → slice_get names t ≡ Some w → word_meant formals w ≡ Some e → Means 1 (symbol s t) e
  word_means formals t w e f a q around l = within_is (λ b n. symbol_inside s t b) around (omega (arith, l)) ∙ symbol_inside_means formals t w e f a q

  -- ---- functions
  pub placed_at : (fs : List (ℕ × ℕ)) (gs : List Function) (t : ℕ) (w : List ℕ) → AreFunctions names fs gs → slice_get names t ≡ Some w → place_of (function_names fs) t ≡ word_place w gs
  placed_at [] [] t w h a = refl
  placed_at [] (g ∷ gs) t w h a = absurd h
  placed_at (f ∷ fs) [] t w h a = absurd h
  placed_at (f ∷ fs) (g ∷ gs) t w h a =
      place_cons f.0 (function_names fs) t
      ∙ (ap (λ b. cond b (Some 0) (option_map suc (place_of (function_names fs) t))) (same_test t f.0 w g.0 a h.0)
      ∙ ap (λ o. cond (bytes_eq w g.0) (Some 0) (option_map suc o)) (placed_at fs gs t w h.2 a))

  counts : (fs : List (ℕ × ℕ)) (gs : List Function) (f : ℕ) → AreFunctions names fs gs → count_at fs f ≡ count_of gs f
  counts [] [] f h = refl
  counts [] (g ∷ gs) f h = absurd h
  counts (e ∷ fs) [] f h = absurd h
  counts (e ∷ fs) (g ∷ gs) zero h = ap Some h.1
  counts (e ∷ fs) (g ∷ gs) (suc f) h = counts fs gs f h.2

  -- ---- heads
  module _ (gs : List Function) (known : AreFunctions names (functions ++ own) gs) (k : ℕ) (some : 1 ≤ k) where
    counted_means : (f : ℕ) (ms : List Meaning) (es : List Exp) (c : Option ℕ) (e : Exp) → AllMean k ms es → counted_meant f es c ≡ Some e → Means (k + 3) (call_with f ms c) e
    counted_means f ms es None e h q = absurd cc
    counted_means f ms es (Some n) e h q0 =
        let l = same_count k ms es h in
        subst (λ (j : ℕ). cond (length es == n) (Some (Call f (exps_of es))) None ≡ Some e → Means (k + 3) (cond (j == n) (call_form f ms) (fault term_fault.WrongCount)) e) (sym l)
        (elim (length es == n) as (λ b. cond b (Some (Call f (exps_of es))) None ≡ Some e → Means (k + 3) (cond b (call_form f ms) (fault term_fault.WrongCount)) e) [
          | true ↦ λ q. given (k + 3) (call_form f ms) (Call f (exps_of es)) e q (more (k + 1) (k + 3) (call_form f ms) (Call f (exps_of es)) (omega arith) (call_means k f ms es h))
          | false ↦ λ q. absurd cc
        ]) q0

    placed_means : (ms : List Meaning) (es : List Exp) (o : Option ℕ) (e : Exp) → AllMean k ms es → placed_meant gs es o ≡ Some e → Means (k + 3) (place_call s ms o) e
    placed_means ms es None e h q = absurd cc
    placed_means ms es (Some f) e h q = same_means (k + 3) (numbered_call s f ms) (call_with f ms (count_of gs f)) e (ap (call_with f ms) (counts (functions ++ own) gs f known)) (counted_means f ms es (count_of gs f) e h q)

    prim_call_means : (t : ℕ) (w : List ℕ) (ps : List Part) (es : List Exp) (o : Option Primitive) (e : Exp) → slice_get names t ≡ Some w → AllMean k (all_means ps) es → prim_meant gs w es o ≡ Some e → Means (k + 3) (of_prim s t ps o) e
    prim_call_means t w ps es None e a h q =
        let n : number_named s t ≡ word_place w gs = placed_at (functions ++ own) gs t w known a in
        same_means (k + 3) (named_call s t (all_means ps)) (place_call s (all_means ps) (word_place w gs)) e (ap (place_call s (all_means ps)) n) (placed_means (all_means ps) es (word_place w gs) e h q)
    prim_call_means t w ps es (Some p) e a h q0 =
        let l = same_count k (all_means ps) es h in
        subst (λ (j : ℕ). cond (length es == prim_arity p) (Some (Prim p (exps_of es))) None ≡ Some e → Means (k + 3) (cond (j == prim_arity p) (prim_form p (all_means ps)) (fault term_fault.WrongCount)) e) (sym l)
        (elim (length es == prim_arity p) as (λ b. cond b (Some (Prim p (exps_of es))) None ≡ Some e → Means (k + 3) (cond b (prim_form p (all_means ps)) (fault term_fault.WrongCount)) e) [
          | true ↦ λ q. given (k + 3) (prim_form p (all_means ps)) (Prim p (exps_of es)) e q (more (k + 1) (k + 3) (prim_form p (all_means ps)) (Prim p (exps_of es)) (omega arith) (prim_means k p (all_means ps) es h))
          | false ↦ λ q. absurd cc
        ]) q0

    function_means : (t : ℕ) (w : List ℕ) (ps : List Part) (es : List Exp) (o : Option Macro) (e : Exp) → slice_get names t ≡ Some w → AllMean k (all_means ps) es → function_meant gs w es o ≡ Some e → Means (k + 3) (of_macro s t ps o) e
    function_means t w ps es (Some m) e a h q = macro_means k m ps es e some h q
    function_means t w ps es None e a h q =
        same_means (k + 3) (of_function s t ps) (cond (is_path w) (of_one (path_form (letters_of w)) (all_means ps)) (of_prim s t ps (prim_named w))) e
        (ap (λ (u : List ℕ). cond (is_path u) (of_one (path_form (letters_of u)) (all_means ps)) (of_prim s t ps (prim_named u))) (spelled t w a))
        (elim (is_path w) as (λ b. cond b None (prim_meant gs w es (prim_named w)) ≡ Some e → Means (k + 3) (cond b (of_one (path_form (letters_of w)) (all_means ps)) (of_prim s t ps (prim_named w))) e) [
          | true ↦ λ r. absurd cc
          | false ↦ λ r. prim_call_means t w ps es (prim_named w) e a h r
        ] q)

    headed_means : (t : ℕ) (w : List ℕ) (ps : List Part) (es : List Exp) (e : Exp) → slice_get names t ≡ Some w → AllMean k (all_means ps) es → headed_meant gs w es ≡ Some e → Means (k + 3) (headed s t ps) e
    headed_means t w ps es e a h q =
        same_means (k + 3) (headed s t ps) (cond (bytes_eq w (codes "IF")) (if_call (all_means ps)) (cond (bytes_eq w (codes "QUOTE")) (quote_call ps) (of_macro s t ps (macro_named w)))) e
        (headed_is s t ps ∙ ap (λ (u : List ℕ). cond (bytes_eq u (codes "IF")) (if_call (all_means ps)) (cond (bytes_eq u (codes "QUOTE")) (quote_call ps) (of_macro s t ps (macro_named u)))) (spelled t w a))
        (elim (bytes_eq w (codes "IF")) as (λ b. cond b (if_meant es) (cond (bytes_eq w (codes "QUOTE")) None (function_meant gs w es (macro_named w))) ≡ Some e → Means (k + 3) (cond b (if_call (all_means ps)) (cond (bytes_eq w (codes "QUOTE")) (quote_call ps) (of_macro s t ps (macro_named w)))) e) [
          | true ↦ λ r. if_meant_means k (all_means ps) es e h r
          | false ↦ elim (bytes_eq w (codes "QUOTE")) as (λ b. cond b None (function_meant gs w es (macro_named w)) ≡ Some e → Means (k + 3) (cond b (quote_call ps) (of_macro s t ps (macro_named w))) e) [
            | true ↦ λ r. absurd cc
            | false ↦ λ r. function_means t w ps es (macro_named w) e a h r
          ]
        ] q)

  -- ---- the whole
  size_positive : (r : Source) → 1 ≤ size r
  size_positive (Word w) = omega arith
  size_positive (Number n) = omega arith
  size_positive (Pair a d) = omega arith

  then_inverted : {A B : Type 0} (o : Option A) (f : A → Option B) (b : B) → and_meant o f ≡ Some b → (a : A) × (o ≡ Some a) × (f a ≡ Some b)
  then_inverted None f b q = absurd cc
  then_inverted (Some a) f b q = (a, refl, q)

  guarded : {A : Type 0} (b : Bool) (o : Option A) (a : A) → cond b None o ≡ Some a → (b ≡ false) × (o ≡ Some a)
  guarded true o a q = absurd cc
  guarded false o a q = (refl, q)

  module _ (formals : List (List ℕ)) (gs : List Function) (known : AreFunctions names (functions ++ own) gs) (fits : AreSpelled names vars formals) where
    ended : (z : ℕ) (w : List ℕ) (b : Bool) (es : List Exp) → slice_get names z ≡ Some w → bytes_eq w (codes "NIL") ≡ b → cond b (Some []) None ≡ Some es → (ps : List Part) × (parts s (Symbol z) ≡ Some ps) × AllMean 1 (all_means ps) es
    ended z w false es a r q = absurd cc
    ended z w true es a r q =
        let n : z ≡ 0 = same_number z 0 (codes "NIL") (a ∙ ap Some (same_text w (codes "NIL") r)) (first_four names table.first).0 in
        let e : [] ≡ es = cc in
        ([], ap (λ m. parts s (Symbol m)) n, subst (λ (xs : List Exp). AllMean 1 [] xs) e tt)

    mutual
      means : (x : Object) (r : Source) (e : Exp) → Spells names x r → form_meant formals gs r ≡ Some e → Means (size r) (meaning s x) e
      means (Symbol t) (Word w) e h q = word_means formals t w e fits h q
      means (Int z) (Number n) e h q = given 1 (literal (Int z)) (Const (Int z)) e (ap (λ y. Some (Const (Int y))) h ∙ q) (literal_means 1 (Int z) (omega arith))
      means (Cons (Symbol t) rest) (Pair (Word w) r) e h q =
          let g = guarded (is_mark_word w) (and_meant (forms_meant formals gs r) (headed_meant gs w)) e q in
          let i = then_inverted (forms_meant formals gs r) (headed_meant gs w) e g.1 in
          let p = parts_are rest r i.0 h.1 i.1 in
          let n : meaning s (Cons (Symbol t) rest) ≡ headed s t p.0 = ap (λ b. list_meaning s (cond b None (Some t)) (parts s rest)) (unmarked t w h.0 g.0) ∙ ap (list_meaning s (Some t)) p.1 in
          more (size r + 3) (size (Pair (Word w) r)) (meaning s (Cons (Symbol t) rest)) e (omega arith)
          (same_means (size r + 3) (meaning s (Cons (Symbol t) rest)) (headed s t p.0) e n (headed_means gs known (size r) (size_positive r) t w p.0 i.0 e h.0 p.2 i.2))
      means (Cons x rest) (Pair (Number n) r) e h q = absurd cc
      means (Cons x rest) (Pair (Pair a d) r) e h q = absurd cc
      means (Cons (Int z) rest) (Pair (Word w) r) e h q = absurd h.0
      means (Cons (Character n) rest) (Pair (Word w) r) e h q = absurd h.0
      means (Cons (Text n) rest) (Pair (Word w) r) e h q = absurd h.0
      means (Cons (Cons a d) rest) (Pair (Word w) r) e h q = absurd h.0
      means x r e h q = absurd h

      parts_are : (x : Object) (r : Source) (es : List Exp) → Spells names x r → forms_meant formals gs r ≡ Some es → (ps : List Part) × (parts s x ≡ Some ps) × AllMean (size r) (all_means ps) es
      parts_are (Symbol z) (Word w) es h q = ended z w (bytes_eq w (codes "NIL")) es h refl q
      parts_are (Cons x rest) (Pair a d) es h q =
          let i = then_inverted (form_meant formals gs a) (λ e. and_meant (forms_meant formals gs d) (λ es. Some (e ∷ es))) es q in
          let j = then_inverted (forms_meant formals gs d) (λ es. Some (i.0 ∷ es)) es i.2 in
          let p = parts_are rest d j.0 h.1 j.1 in
          let part : Part = record { object = x; means = meaning s x; inside = meanings s x; bindings = bindings s x } in
          let e : i.0 ∷ j.0 ≡ es = cc in (
            part ∷ p.0,
            ap (option_map (λ ps. part ∷ ps)) p.1,
            subst (λ (ys : List Exp). AllMean (size (Pair a d)) (all_means (part ∷ p.0)) ys) e
                (more (size a) (size (Pair a d)) (meaning s x) i.0 (omega arith) (means x a i.0 h.0 i.1), all_more (size d) (size (Pair a d)) (all_means p.0) j.0 (omega arith) p.2),
          )
      parts_are (Int z) (Number n) es h q = absurd cc
      parts_are x r es h q = absurd h

    -- the form's term
    pub form_means : (x : Object) (r : Source) (e : Exp) → Spells names x r → form_meant formals gs r ≡ Some e → size r ≤ 2000 → meaning s x bound 0 ≡ Ok (named vars e)
    form_means x r e h q l = means x r e h q 0 (omega (arith, l))
