-- What the tables of events say, and what the program makes of their forms.
use Rattle.std.proofs.Common.{◌≡◌, ◌∙◌, ap, sym, refl, ℕ, Bool, true, false, cond, not, ◌&&◌, List, [], ◌∷◌, ◌++◌, map, Option, Some, None}
use Rattle.std.specs.Prelude.{codes, bytes_eq, Ok, Err, option_to_list}
use Rattle.std.specs.List.{find, list_all}
use Rattle.std.specs.Option.{option_map, option_and_then}
use Rattle.gl_logic.specs.Every.{Every}
use Rattle.gl_logic.specs.Exp.{Exp}
use Rattle.gl_logic.specs.Object.{Object, Int, Character, Symbol, Text, Cons}
use Rattle.gl_logic.specs.WorldSeen.{WorldSeen}
use Rattle.gl_logic.specs.Wording.{text_of, spells, elements, all_meant}
use Rattle.gl_translate.specs.declared.fault.TermFault.TheVariants as term_fault
use Rattle.gl_translate.specs.Words.{beside}
use Rattle.shape_spec.specs.BindingsMeant.{bindings_meant}
use Rattle.shape_spec.specs.declared.theorem.Mode.{Mode}
use Rattle.shape_spec.specs.declared.theorem.Mode.TheVariants as mode
use Rattle.gl_cases.specs.Parts.{ParamSeen}
use Rattle.gl_cases.specs.ParamMade.{param_set}
use Rattle.event_world.specs.declared.fault.EventFault.{EventFault}
use Rattle.event_world.specs.declared.fault.EventFault.TheVariants as code
use Rattle.event_world.specs.declared.word.EventWord.{EventWord}
use Rattle.event_world.specs.declared.word.EventWord.TheVariants as word
use Rattle.event_world.specs.EventSeen.{EventSeen, Value, Assert, Memoize, Unmemoize, Defconst, Theorem, Cases}
use Rattle.event_world.specs.Outcomes.{Outcome, and_then, found_or, holds_or}
use Rattle.event_world.specs.NamesMeant.{plain_name, constant_name, is_taken}
use Rattle.event_world.specs.PartsOf.{two_in}
use Rattle.event_world.specs.KeywordTexts.{option_texts, case_texts}
use Rattle.event_world.specs.Keywords.{pairs_of, value_of}
use Rattle.event_world.specs.PlainMeant.{package_meant, book_meant, mode_meant, function_named, memo_meant, closed_meant, evaluation_meant, defconst_meant}
use Rattle.event_world.specs.PlainForms.{package_by, book_by, quoted_in, memo_by, evaluation_by, constant_with, defconst_by}
use Rattle.event_world.specs.DefunMeant.{defun_meant}
use Rattle.event_world.specs.DefunMeant.{DefunParts}
use Rattle.event_world.specs.CliqueMeant.{member_parts, are_members, clique_meant}
use Rattle.event_world.specs.CliqueForms.{checked_members, clique_made, clique_by}
use Rattle.event_world.specs.TheoremMeant.{clocks_meant, claim_meant, hyp_meant, bound_meant, theorem_made, theorem_meant}
use Rattle.event_world.specs.TheoremForms.{TheoremParts, with_required, with_options, theorem_claimed, theorem_by}
use Rattle.event_world.specs.CasesMeant.{CaseParts, QuotedCases, parameters, cases_of, has_any, are_kept, case_bound, claim_of, param_meant}
use Rattle.event_world.specs.CasesForms.{CasesParts, with_forms, named_forms, has_any_in, is_without, are_without, is_kept, if_kept, parts_claimed, cases_claimed, param_by}
use Rattle.event_world.specs.RedundantMeant.{redundant_meant}
use Rattle.event_world.specs.EventWords.{behind_head}
use Rattle.event_world.specs.EventMeant.{events, unless_redundant, event_meant}
use Rattle.event_world.specs.EventForms.{event_word, redundant_by, checked, meant_behind, event_by}
use Rattle.event_world.proofs.PreludeTables.{same_text}

-- ---- events that make no name, and constants
package_is : (names : List (List ℕ)) (xs : List Object) → package_meant names xs ≡ package_by names xs
package_is names [] = refl
package_is names (p ∷ []) = refl
package_is names (p ∷ q ∷ xs) = refl

book_is : (names : List (List ℕ)) (xs : List Object) → book_meant names xs ≡ book_by names xs
book_is names [] = refl
book_is names (b ∷ []) = refl
book_is names (b ∷ k ∷ []) = refl
book_is names (b ∷ k ∷ d ∷ []) = refl
book_is names (b ∷ k ∷ d ∷ x ∷ xs) = refl

module _ (names : List (List ℕ)) (w : WorldSeen) where
  function_then : (event : ℕ → EventSeen) (o : Option ℕ) → found_or (code.Term term_fault.UnknownFunction) o (λ f. Ok (event f)) ≡ and_then (found_or (code.Term term_fault.UnknownFunction) o (λ f. Ok f)) (λ f. Ok (event f))
  function_then event None = refl
  function_then event (Some f) = refl

  memo_at : (event : ℕ → EventSeen) (o : Option (Object × Object))
      → found_or code.BadEvent o (λ q. holds_or code.BadEvent (spells names (codes "QUOTE") q.0) (found_or (code.Term term_fault.UnknownFunction) (function_named w q.1) (λ f. Ok (event f))))
      ≡ and_then (found_or code.BadEvent (option_and_then (quoted_in names) o) (λ x. found_or (code.Term term_fault.UnknownFunction) (function_named w x) (λ f. Ok f))) (λ f. Ok (event f))
  memo_at event None = refl
  memo_at event (Some q) = elim (spells names (codes "QUOTE") q.0) as (λ b. holds_or code.BadEvent b (found_or (code.Term term_fault.UnknownFunction) (function_named w q.1) (λ f. Ok (event f)))
      ≡ and_then (found_or code.BadEvent (cond b (Some q.1) None) (λ x. found_or (code.Term term_fault.UnknownFunction) (function_named w x) (λ f. Ok f))) (λ f. Ok (event f))) [
        | true ↦ function_then event (function_named w q.1)
        | false ↦ refl
      ]

  memo_is : (event : ℕ → EventSeen) (xs : List Object) → memo_meant names w event xs ≡ memo_by names w event xs
  memo_is event [] = refl
  memo_is event (x ∷ []) = memo_at event (two_in x)
  memo_is event (x ∷ y ∷ xs) = refl

  evaluation_is : (event : Exp → EventSeen) (xs : List Object) → evaluation_meant names w event xs ≡ evaluation_by names w event xs
  evaluation_is event [] = refl
  evaluation_is event (x ∷ []) = refl
  evaluation_is event (x ∷ y ∷ xs) = refl

  constant_at : (form : Object) (o : Option ℕ)
      → found_or code.BadEvent o (λ name. holds_or code.Redefined (not (is_taken names w name)) (and_then (closed_meant names w form) (λ t. Ok (Defconst name t))))
      ≡ found_or code.BadEvent (constant_with o form) (λ p. holds_or code.Redefined (not (is_taken names w p.name)) (and_then (closed_meant names w p.form) (λ t. Ok (Defconst p.name t))))
  constant_at form None = refl
  constant_at form (Some name) = refl

  defconst_is : (xs : List Object) → defconst_meant names w xs ≡ defconst_by names w xs
  defconst_is [] = refl
  defconst_is (n ∷ []) = refl
  defconst_is (n ∷ form ∷ []) = constant_at form (constant_name names n)
  defconst_is (n ∷ form ∷ x ∷ xs) = refl

-- ---- cliques
members_or : (o : Option (List DefunParts)) (f : List DefunParts → Outcome EventSeen) → found_or code.BadEvent o (λ ds. holds_or code.BadEvent (are_members ds) (f ds)) ≡ found_or code.BadEvent (checked_members o) f
members_or None f = refl
members_or (Some ds) f = elim (are_members ds) as (λ b. holds_or code.BadEvent b (f ds) ≡ found_or code.BadEvent (cond b (Some ds) None) f) [ true ↦ refl | false ↦ refl ]

clique_is : (names : List (List ℕ)) (w : WorldSeen) (xs : List Object) → clique_meant names w xs ≡ clique_by names w xs
clique_is names w xs = members_or (all_meant (member_parts names) xs) (clique_made names w)

-- ---- theorems
module _ (names : List (List ℕ)) (w : WorldSeen) (now : Mode) (memoized : List ℕ) where
  abbrev theorem_of : TheoremParts → Outcome EventSeen
  theorem_of p = found_or code.BadOption (clocks_meant names option_texts p.options) (λ clocks. holds_or code.Redefined (not (is_taken names w p.name)) (theorem_claimed names w now memoized p clocks))

  abbrev theorem_with : ℕ → List (ℕ × Object) → Object → Object → Outcome EventSeen
  theorem_with name options concl bindings = theorem_of (record { name = name; hyp = value_of names (codes ":HYP") options; concl = concl; bindings = bindings; options = options })

  theorem_required : (name : ℕ) (options : List (ℕ × Object)) (c b : Option Object) → found_or code.BadEvent c (λ concl. found_or code.BadEvent b (λ bindings. theorem_with name options concl bindings)) ≡ found_or code.BadEvent (with_required names name options c b) theorem_of
  theorem_required name options (Some c) (Some b) = refl
  theorem_required name options (Some c) None = refl
  theorem_required name options None b = refl

  theorem_at : (n : Option ℕ) (o : Option (List (ℕ × Object)))
      → found_or code.BadEvent n (λ name. found_or code.BadEvent o (λ options. found_or code.BadEvent (value_of names (codes ":CONCL") options) (λ concl. found_or code.BadEvent (value_of names (codes ":G-BINDINGS") options) (λ bindings. theorem_with name options concl bindings))))
      ≡ found_or code.BadEvent (with_options names n o) theorem_of
  theorem_at None o = refl
  theorem_at (Some n) None = refl
  theorem_at (Some n) (Some options) = theorem_required n options (value_of names (codes ":CONCL") options) (value_of names (codes ":G-BINDINGS") options)

  pub theorem_is : (xs : List Object) → theorem_meant names w now memoized xs ≡ theorem_by names w now memoized xs
  theorem_is [] = refl
  theorem_is (n ∷ behind) = theorem_at (plain_name names n) (pairs_of names behind)

-- ---- theorems by cases
all_joined : {A : Type 0} (p : A → Bool) (xs ys : List A) → list_all p (xs ++ ys) ≡ (list_all p xs && list_all p ys)
all_joined p [] ys = refl
all_joined p (x ∷ xs) ys = elim (p x) as (λ b. (b && list_all p (xs ++ ys)) ≡ ((b && list_all p xs) && list_all p ys)) [ true ↦ all_joined p xs ys | false ↦ refl ]

all_mapped : {A B : Type 0} (p : B → Bool) (f : A → B) (xs : List A) → list_all p (map f xs) ≡ list_all (λ x. p (f x)) xs
all_mapped p f [] = refl
all_mapped p f (x ∷ xs) = ap (λ b. p (f x) && b) (all_mapped p f xs)

three_tests : (a b c : Bool) → (b && (c && (a && true))) ≡ (a && (b && c))
three_tests true true true = refl
three_tests true true false = refl
three_tests true false c = refl
three_tests false true true = refl
three_tests false true false = refl
three_tests false false c = refl

two_tests : (b c : Bool) → (b && (c && true)) ≡ (true && (b && c))
two_tests true true = refl
two_tests true false = refl
two_tests false c = refl

without_is : (vs : List ℕ) (h : Option Object) (c q : Object) → list_all (λ x. not (has_any vs x)) (c ∷ q ∷ option_to_list h) ≡ (not (has_any_in vs h) && (not (has_any vs c) && not (has_any vs q)))
without_is vs (Some h) c q = three_tests (not (has_any vs h)) (not (has_any vs c)) (not (has_any vs q))
without_is vs None c q = two_tests (not (has_any vs c)) (not (has_any vs q))

kept_is : (p : CasesParts) (cs : List CaseParts) → are_kept (p.concl ∷ p.cover ∷ option_to_list p.hyp) cs ≡ is_kept p cs
kept_is p cs =
    let free : Object → Bool = λ x. not (has_any (parameters cs) x) in
    all_joined free (p.concl ∷ p.cover ∷ option_to_list p.hyp) (map (λ c. c.bindings) cs)
    ∙ (ap (λ b. b && list_all free (map (λ c. c.bindings) cs)) (without_is (parameters cs) p.hyp p.concl p.cover)
    ∙ ap (λ b. is_without (parameters cs) p && b) (all_mapped free (λ c. c.bindings) cs))

kept_or : (p : CasesParts) (o : Option QuotedCases) (f : QuotedCases → Outcome EventSeen) → found_or code.BadCases o (λ q. holds_or code.BadCases (is_kept p q.cases) (f q)) ≡ found_or code.BadCases (option_and_then (if_kept p) o) f
kept_or p None f = refl
kept_or p (Some q) f = elim (is_kept p q.cases) as (λ b. holds_or code.BadCases b (f q) ≡ found_or code.BadCases (cond b (Some q) None) f) [ true ↦ refl | false ↦ refl ]

then_then : {A B C : Type 0} (o : Outcome A) (f : A → Outcome B) (g : B → Outcome C) → and_then o (λ a. and_then (f a) g) ≡ and_then (and_then o f) g
then_then (Ok a) f g = refl
then_then (Err c) f g = refl

found_then : {A B C : Type 0} (c : EventFault) (o : Option A) (f : A → Outcome B) (g : B → Outcome C) → found_or c o (λ a. and_then (f a) g) ≡ and_then (found_or c o f) g
found_then c (Some a) f g = refl
found_then c None f g = refl

module _ (names : List (List ℕ)) (w : WorldSeen) (now : Mode) (memoized : List ℕ) where
  claimed_is : (p : CasesParts) (q : QuotedCases) (g : ParamSeen → Outcome EventSeen)
      → and_then (hyp_meant names w p.hyp) (λ h. and_then (claim_meant names w p.concl) (λ c. and_then (claim_meant names w p.term) (λ t.
      found_or code.BadBindings (bindings_meant names p.cover) (λ b. found_or code.BadBindings (all_meant (case_bound names q.mark) q.cases) (λ cs. and_then (claim_of p.name h c t b cs) g)))))
      ≡ and_then (cases_claimed names w p q) g
  claimed_is p q g =
      (λ i. and_then (hyp_meant names w p.hyp) (λ h. and_then (claim_meant names w p.concl) (λ c. and_then (claim_meant names w p.term) (λ t. parts_is h c t i))))
      ∙ ((λ i. and_then (hyp_meant names w p.hyp) (λ h. and_then (claim_meant names w p.concl) (λ c. then_then (claim_meant names w p.term) (λ t. parts_claimed names p q h c t) g i)))
      ∙ ((λ i. and_then (hyp_meant names w p.hyp) (λ h. then_then (claim_meant names w p.concl) (λ c. and_then (claim_meant names w p.term) (λ t. parts_claimed names p q h c t)) g i))
      ∙ then_then (hyp_meant names w p.hyp) (λ h. and_then (claim_meant names w p.concl) (λ c. and_then (claim_meant names w p.term) (λ t. parts_claimed names p q h c t))) g))
    where
      parts_is : (h c t : Exp) → found_or code.BadBindings (bindings_meant names p.cover) (λ b. found_or code.BadBindings (all_meant (case_bound names q.mark) q.cases) (λ cs. and_then (claim_of p.name h c t b cs) g)) ≡ and_then (parts_claimed names p q h c t) g
      parts_is h c t =
          (λ i. found_or code.BadBindings (bindings_meant names p.cover) (λ b. found_then code.BadBindings (all_meant (case_bound names q.mark) q.cases) (λ cs. claim_of p.name h c t b cs) g i))
          ∙ found_then code.BadBindings (bindings_meant names p.cover) (λ b. found_or code.BadBindings (all_meant (case_bound names q.mark) q.cases) (λ cs. claim_of p.name h c t b cs)) g

  abbrev made : ℕ × ℕ → ParamSeen → Outcome EventSeen
  made clocks thm = Ok (Cases (param_set clocks.0 clocks.1 now memoized thm))

  abbrev cases_from : CasesParts → Outcome EventSeen
  cases_from p =
      found_or code.BadOption (clocks_meant names case_texts p.options) (λ clocks. found_or code.BadCases (option_and_then (cases_of names) (two_in p.cases)) (λ q.
      holds_or code.BadCases (are_kept (p.concl ∷ p.cover ∷ option_to_list p.hyp) q.cases) (holds_or code.Redefined (not (is_taken names w p.name)) (
      and_then (hyp_meant names w p.hyp) (λ h. and_then (claim_meant names w p.concl) (λ c. and_then (claim_meant names w p.term) (λ t.
      found_or code.BadBindings (bindings_meant names p.cover) (λ b. found_or code.BadBindings (all_meant (case_bound names q.mark) q.cases) (λ cs. and_then (claim_of p.name h c t b cs) (made clocks))))))))))

  abbrev cases_then : CasesParts → Outcome EventSeen
  cases_then p =
      found_or code.BadOption (clocks_meant names case_texts p.options) (λ clocks. found_or code.BadCases (option_and_then (if_kept p) (option_and_then (cases_of names) (two_in p.cases))) (λ q.
      holds_or code.Redefined (not (is_taken names w p.name)) (and_then (cases_claimed names w p q) (made clocks))))

  from_is : (p : CasesParts) → cases_from p ≡ cases_then p
  from_is p =
      (λ i. found_or code.BadOption (clocks_meant names case_texts p.options) (λ clocks. found_or code.BadCases (option_and_then (cases_of names) (two_in p.cases)) (λ q.
      holds_or code.BadCases (kept_is p q.cases i) (holds_or code.Redefined (not (is_taken names w p.name)) (claimed_is p q (made clocks) i)))))
      ∙ (λ i. found_or code.BadOption (clocks_meant names case_texts p.options) (λ clocks.
      kept_or p (option_and_then (cases_of names) (two_in p.cases)) (λ q. holds_or code.Redefined (not (is_taken names w p.name)) (and_then (cases_claimed names w p q) (made clocks))) i))

  abbrev parts_of : ℕ → List (ℕ × Object) → Object → Object → Object → Object → CasesParts
  parts_of name options concl term cases cover = record { name = name; hyp = value_of names (codes ":HYP") options; concl = concl; term = term; cases = cases; cover = cover; options = options }

  cases_required : (name : ℕ) (options : List (ℕ × Object)) (c p q b : Option Object)
      → found_or code.BadEvent c (λ concl. found_or code.BadEvent p (λ term. found_or code.BadEvent q (λ cases. found_or code.BadEvent b (λ cover. cases_from (parts_of name options concl term cases cover)))))
      ≡ found_or code.BadEvent (with_forms name (value_of names (codes ":HYP") options) options c p q b) cases_then
  cases_required name options (Some c) (Some p) (Some q) (Some b) = from_is (parts_of name options c p q b)
  cases_required name options (Some c) (Some p) (Some q) None = refl
  cases_required name options (Some c) (Some p) None b = refl
  cases_required name options (Some c) None q b = refl
  cases_required name options None p q b = refl

  cases_at : (n : Option ℕ) (o : Option (List (ℕ × Object)))
      → found_or code.BadEvent n (λ name. found_or code.BadEvent o (λ options. found_or code.BadEvent (value_of names (codes ":CONCL") options) (λ concl. found_or code.BadEvent (value_of names (codes ":PARAM-HYP") options) (λ term.
      found_or code.BadEvent (value_of names (codes ":PARAM-BINDINGS") options) (λ cases. found_or code.BadEvent (value_of names (codes ":COV-BINDINGS") options) (λ cover. cases_from (parts_of name options concl term cases cover)))))))
      ≡ found_or code.BadEvent (named_forms names n o) cases_then
  cases_at None o = refl
  cases_at (Some n) None = refl
  cases_at (Some n) (Some options) =
      cases_required n options (value_of names (codes ":CONCL") options) (value_of names (codes ":PARAM-HYP") options) (value_of names (codes ":PARAM-BINDINGS") options) (value_of names (codes ":COV-BINDINGS") options)

  pub param_is : (xs : List Object) → param_meant names w now memoized xs ≡ param_by names w now memoized xs
  param_is [] = refl
  param_is (n ∷ behind) = cases_at (plain_name names n) (pairs_of names behind)

-- ---- the table of events
-- a word, what a form with it means, and the word's code
abbrev Row : Type 0
Row = List ℕ × (List Object → Outcome EventSeen) × EventWord

abbrev code_in : List (List ℕ × EventWord) → List ℕ → Option EventWord
code_in [] text = None
code_in (r ∷ rs) text = cond (bytes_eq text r.0) (Some r.1) (code_in rs text)

abbrev codes_of_words : List (List ℕ × EventWord)
codes_of_words =
    (codes "IN-PACKAGE", word.InPackage) ∷ (codes "INCLUDE-BOOK", word.IncludeBook) ∷ (codes "DEFUN", word.Defun) ∷ (codes "MUTUAL-RECURSION", word.MutualRecursion)
    ∷ (codes "DEFCONST", word.Defconst) ∷ (codes "VALUE-TRIPLE", word.ValueTriple) ∷ (codes "ASSERT-EVENT", word.AssertEvent) ∷ (codes "MEMOIZE", word.Memoize)
    ∷ (codes "UNMEMOIZE", word.Unmemoize) ∷ (codes "GL-BDD-MODE", word.BddMode) ∷ (codes "GL-SATLINK-MODE", word.SatMode) ∷ (codes "GL-PARAM-MODE", word.ParamMode)
    ∷ (codes "DEF-GL-THM", word.Theorem) ∷ (codes "DEF-GL-PARAM-THM", word.ParamTheorem) ∷ []

word_is : (text : List ℕ) → code_in codes_of_words text ≡ event_word text
unfolding event_word
word_is text = refl

each_found : {A B : Type 0} (c : EventFault) (o : Option A) (f g : A → Outcome B) → ((a : A) → f a ≡ g a) → found_or c o f ≡ found_or c o g
each_found c None f g h = refl
each_found c (Some a) f g h = h a

module _ (names : List (List ℕ)) (w : WorldSeen) (now : Mode) (memoized : List ℕ) (form : Object) (text : List ℕ) where
  abbrev parts : Option (List Object)
  parts = elements (behind_head form)

  abbrev RowIs : Row → Type 0
  RowIs r = ((xs : List Object) → r.1 xs ≡ checked names w now memoized r.2 xs) × (bytes_eq text r.0 ≡ true → redundant_meant names w text form ≡ redundant_by names w r.2 form parts)

  abbrev by_row : (List Object → Outcome EventSeen) → Outcome EventSeen
  by_row event = unless_redundant (redundant_meant names w text form) (found_or code.BadEvent parts event)

  abbrev by_code : EventWord → Outcome EventSeen
  by_code k = meant_behind names w now memoized k form parts

  row_is : (r : Row) → RowIs r → bytes_eq text r.0 ≡ true → by_row r.1 ≡ by_code r.2
  row_is r h e = λ i. unless_redundant (h.1 e i) (each_found code.BadEvent parts r.1 (checked names w now memoized r.2) h.0 i)

  rows_are : (rs : List Row) → Every RowIs rs → found_or code.UnknownEvent (beside (map (λ r. (r.0, r.1)) rs) text) by_row ≡ found_or code.UnknownEvent (code_in (map (λ r. (r.0, r.2)) rs) text) by_code
  rows_are [] h = refl
  rows_are (r ∷ rs) h = elim (bytes_eq text r.0) as (λ b. bytes_eq text r.0 ≡ b → found_or code.UnknownEvent (option_map (λ (e : List ℕ × (List Object → Outcome EventSeen)). e.1) (cond b (Some (r.0, r.1)) (find (λ e. bytes_eq text e.0) (map (λ x. (x.0, x.1)) rs)))) by_row ≡ found_or code.UnknownEvent (cond b (Some r.2) (code_in (map (λ x. (x.0, x.2)) rs) text)) by_code) [
    | true ↦ λ e. row_is r h.0 e
    | false ↦ λ e. rows_are rs h.1
  ] refl

  at : (other : List ℕ) (k : EventWord) → redundant_meant names w other form ≡ redundant_by names w k form parts → bytes_eq text other ≡ true → redundant_meant names w text form ≡ redundant_by names w k form parts
  at other k h e = ap (λ x. redundant_meant names w x form) (same_text text other e) ∙ h

  abbrev rows : List Row
  rows =
      (codes "IN-PACKAGE", package_meant names, word.InPackage)
      ∷ (codes "INCLUDE-BOOK", book_meant names, word.IncludeBook)
      ∷ (codes "DEFUN", defun_meant names w, word.Defun)
      ∷ (codes "MUTUAL-RECURSION", clique_meant names w, word.MutualRecursion)
      ∷ (codes "DEFCONST", defconst_meant names w, word.Defconst)
      ∷ (codes "VALUE-TRIPLE", evaluation_meant names w Value, word.ValueTriple)
      ∷ (codes "ASSERT-EVENT", evaluation_meant names w Assert, word.AssertEvent)
      ∷ (codes "MEMOIZE", memo_meant names w Memoize, word.Memoize)
      ∷ (codes "UNMEMOIZE", memo_meant names w Unmemoize, word.Unmemoize)
      ∷ (codes "GL-BDD-MODE", mode_meant mode.Bdd, word.BddMode)
      ∷ (codes "GL-SATLINK-MODE", mode_meant mode.Sat, word.SatMode)
      ∷ (codes "GL-PARAM-MODE", mode_meant mode.Param, word.ParamMode)
      ∷ (codes "DEF-GL-THM", theorem_meant names w now memoized, word.Theorem)
      ∷ (codes "DEF-GL-PARAM-THM", param_meant names w now memoized, word.ParamTheorem)
      ∷ []

  each_row : Every RowIs rows
  each_row = (
    (package_is names, at (codes "IN-PACKAGE") word.InPackage refl),
    (
      (book_is names, at (codes "INCLUDE-BOOK") word.IncludeBook refl),
      (
        (λ xs. refl, at (codes "DEFUN") word.Defun refl),
        (
          (clique_is names w, at (codes "MUTUAL-RECURSION") word.MutualRecursion refl),
          (
            (defconst_is names w, at (codes "DEFCONST") word.Defconst refl),
            (
              (evaluation_is names w Value, at (codes "VALUE-TRIPLE") word.ValueTriple refl),
              (
                (evaluation_is names w Assert, at (codes "ASSERT-EVENT") word.AssertEvent refl),
                (
                  (memo_is names w Memoize, at (codes "MEMOIZE") word.Memoize refl),
                  (
                    (memo_is names w Unmemoize, at (codes "UNMEMOIZE") word.Unmemoize refl),
                    (
                      (λ xs. refl, at (codes "GL-BDD-MODE") word.BddMode refl),
                      (
                        (λ xs. refl, at (codes "GL-SATLINK-MODE") word.SatMode refl),
                        (
                          (λ xs. refl, at (codes "GL-PARAM-MODE") word.ParamMode refl),
                          (
                            (theorem_is names w now memoized, at (codes "DEF-GL-THM") word.Theorem refl),
                            (
                              (param_is names w now memoized, at (codes "DEF-GL-PARAM-THM") word.ParamTheorem refl),
                              tt,
                            ),
                          ),
                        ),
                      ),
                    ),
                  ),
                ),
              ),
            ),
          ),
        ),
      ),
    ),
  )

  table_is : found_or code.UnknownEvent (beside (events names w now memoized) text) by_row ≡ found_or code.UnknownEvent (event_word text) by_code
  table_is = rows_are rows each_row ∙ ap (λ o. found_or code.UnknownEvent o by_code) (word_is text)

-- the program looks at an event's form as the table does
pub event_is : (names : List (List ℕ)) (w : WorldSeen) (now : Mode) (memoized : List ℕ) (form : Object) → event_meant names w now memoized form ≡ event_by names w now memoized form
event_is names w now memoized (Int z) = refl
event_is names w now memoized (Character z) = refl
event_is names w now memoized (Symbol z) = refl
event_is names w now memoized (Text z) = refl
event_is names w now memoized (Cons (Symbol t) rest) = table_is names w now memoized (Cons (Symbol t) rest) (text_of names t)
event_is names w now memoized (Cons (Int z) rest) = refl
event_is names w now memoized (Cons (Character z) rest) = refl
event_is names w now memoized (Cons (Text z) rest) = refl
event_is names w now memoized (Cons (Cons a d) rest) = refl
